use Rattle.vc_base.proofs.Common.{◌≡◌, ℕ, suc, ◌+◌, ◌≤◌, false, leb, ◌≢◌, List, [], ◌∷◌, map, length, All, AllPairs, sym, refl, ap, ◌∙◌, ⊎_elim, arith, eq-eqb, ne_eqb, le-leb, or-false, cases_eq, lt-leb, All-head, All-tail, Run, Block, footprint, is_usable, sized_block}
use Rattle.vc_seg.specs.Segment.{Bytes, pair_of}
use Rattle.vc_seg.proofs.Backs.{Apart, Apart-tail}
use Rattle.vc_seg.specs.Memory.{bytes_of_number}
use Rattle.vc_seg.proofs.FirstByNumber.{bytes_of_number-first}
use Rattle.vc_last.specs.Head.{block_of}
use Rattle.vc_last.proofs.place.can_end.Goals as goal

-- a run of no segment of these isn't usable
usable-none : (f : Run) (segs : List Bytes) → All (λ (s : Bytes). s.number ≢ f.seg) segs → is_usable (map pair_of segs) f ≡ false
usable-none f [] h = refl
usable-none f (s ∷ ss) h =
    let other : f.seg ≢ s.number = λ e. All-head (λ (t : Bytes). t.number ≢ f.seg) s ss h (sym e) in
    rw (ne_eqb f.seg s.number other) (usable-none f ss (All-tail (λ (t : Bytes). t.number ≢ f.seg) s ss h))

-- one of the segment of its number is usable where it ends in it
usable-is : (f : Run) (segs : List Bytes) → AllPairs Apart segs → 16 ≤ f.from → is_usable (map pair_of segs) f ≡ leb (f.to + 16) (length (bytes_of_number f.seg segs))
usable-is f [] distinct first = sym (lt-leb (f.to + 16) 0 (omega arith))
usable-is f (s ∷ ss) distinct first =
    ⊎_elim
    (λ (e : s.number ≡ f.seg).
    let none : is_usable (map pair_of ss) f ≡ false = usable-none f ss (λ k d lt q. distinct 0 (suc k) d (omega arith) (omega (arith, lt)) (e ∙ sym q)) in
    rw (eq-eqb s.number f.seg e) (rw (eq-eqb f.seg s.number (sym e)) (rw (le-leb 16 f.from first) (rw none (or-false (leb (f.to + 16) (length s.bytes)))))))
    (λ (e : s.number ≡ f.seg → ⊥). rw (ne_eqb s.number f.seg e) (rw (ne_eqb f.seg s.number (λ q. e (sym q))) (usable-is f ss (Apart-tail s ss distinct) first)))
    (cases_eq s.number f.seg)

pub returns : goal.returns
returns c =
    let b : Block ℕ = block_of c.args.segs.now c.args.a.0 in
    let f : Run = footprint (sized_block c.args.size b) in
    let first = c.requires.block.head.first in
    let p = c.place_of_number-place.ensures in
    let own : bytes_of_number c.seg.result c.args.segs.now ≡ c.index-segs-place.result.bytes =
    bytes_of_number-first c.seg.result c.args.segs.now c.place_of_number-place.result c.index-segs-place.result p.within p.first (p.number c.index-segs-place.result) ∙ ap (λ (s : Bytes). s.bytes) (sym c.index-segs-place.is) in
    let there : length (bytes_of_number f.seg c.args.segs.now) ≡ c.size.result = ap (λ n. length (bytes_of_number n c.args.segs.now)) (sym c.seg.ensures) ∙ (ap length own ∙ sym c.size.ensures.value) in
    let end : f.to + 16 ≡ c.off.result + c.span_of.result = omega (arith, first, c.off.ensures, c.span_of.ensures) in
    sym (usable-is f c.args.segs.now c.requires.block.segments.distinct (omega (arith, first)) ∙ (ap (λ k. leb k (length (bytes_of_number f.seg c.args.segs.now))) end ∙ ap (leb (c.off.result + c.span_of.result)) there))
