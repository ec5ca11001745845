-- Blocks stay where a segment is added, and where those without blocks go.
use Rattle.vc_base.proofs.Common.{◌≡◌, ℕ, ◌+◌, ◌*◌, ◌/◌, ◌<◌, Bool, true, false, cond, eqb, ◌≢◌, List, [], ◌∷◌, ◌++◌, length, get_or, All, filter, sym, refl, ap, ◌∙◌, subst, ⊎_elim, arith, eq-eqb, ne_eqb, cases_Bool, cases_eq, All-head, All-tail, list_any_at, is_occupied, Block, address_of}
use Rattle.vc_seg.specs.Segment.{AreSegments, Bytes}
use Rattle.vc_seg.proofs.Backs.{AreSegments-filter}
use Rattle.vc_seg.specs.Memory.{bytes_of_number}
use Rattle.vc_seg.proofs.BytesByNumber.{bytes_of_number-append}
use Rattle.vc_extent.specs.Tiling.{index_from}
use Rattle.vc_last.specs.Head.{HasHead}
use Rattle.vc_last.specs.Chain.{IsChain, IsLastOf, rank}
use Rattle.vc_last.proofs.Chains.{chain-heads, head-exact}
use Rattle.vc_last.proofs.Writes.{head-same}

-- the segment of a block has the same bytes in others
abbrev SameBytes : List Bytes → List Bytes → Block ℕ → Type 0
SameBytes o s b = bytes_of_number b.seg s ≡ bytes_of_number b.seg o

chain-same : (o s : List Bytes) (p q : ℕ) (bs : List (Block ℕ)) → IsChain o p bs q → All (SameBytes o s) bs → IsChain s p bs q
chain-same o s p q [] c same = c
chain-same o s p q (b ∷ bs) c same =
    let here = head-same o s b c.0 (All-head (SameBytes o s) b bs same) in
    (here.0, here.1 ∙ c.1, chain-same o s (address_of b) q bs c.2 (All-tail (SameBytes o s) b bs same))

index-append : (k n : ℕ) (segs more : List Bytes) → 0 < length (bytes_of_number n segs) → index_from k n (segs ++ more) ≡ index_from k n segs
index-append k n [] more some = absurd (omega (arith, some))
index-append k n (s ∷ ss) more some =
    ⊎_elim
    (λ (e : s.number ≡ n). rw (eq-eqb s.number n e) refl)
    (λ (e : s.number ≡ n → ⊥). rw (ne_eqb s.number n e) (index-append (k + 1) n ss more (rw (ne_eqb s.number n e) at some)))
    (cases_eq s.number n)

index-more : (k n : ℕ) (segs : List Bytes) → 0 < length (bytes_of_number n segs) → k < index_from k n segs
index-more k n [] some = absurd (omega (arith, some))
index-more k n (s ∷ ss) some =
    ⊎_elim
    (λ (e : s.number ≡ n). rw (eq-eqb s.number n e) (omega arith))
    (λ (e : s.number ≡ n → ⊥). rw (ne_eqb s.number n e) (let rest = index-more (k + 1) n ss (rw (ne_eqb s.number n e) at some) in omega (arith, rest)))
    (cases_eq s.number n)

head-bytes : (segs : List Bytes) (b : Block ℕ) → HasHead segs b → 0 < length (bytes_of_number b.seg segs)
head-bytes segs b l = let within = l.within in let first = l.first in omega (arith, within, first)

-- one more segment
pub last-append : (segs : List Bytes) (q : ℕ) (bs : List (Block ℕ)) (z : Bytes) → AreSegments (segs ++ z ∷ []) → IsLastOf segs q bs → IsLastOf (segs ++ z ∷ []) q bs
last-append segs q bs z legal h =
    let heads = chain-heads segs 0 q bs h.chain in
    let all : List Bytes = segs ++ z ∷ [] in
    let same : (k : ℕ) (d : Block ℕ) → k < length bs → rank all (get_or bs k d) ≡ rank segs (get_or bs k d) =
    λ k d lt. ap (λ i. i * 1048576 + (get_or bs k d).off / 32) (index-append 0 (get_or bs k d).seg segs (z ∷ []) (head-bytes segs (get_or bs k d) (heads k d lt))) in
    record {
      segments = legal;
      chain = chain-same segs all 0 q bs h.chain (λ k d lt. bytes_of_number-append (get_or bs k d).seg segs (z ∷ []) (head-bytes segs (get_or bs k d) (heads k d lt)));
      ordered = h.ordered;
      rising = λ i j d lt within.
          let low : rank segs (get_or bs i d) < rank segs (get_or bs j d) = h.rising i j d lt within in
          omega (arith, low, same i d (omega (arith, lt, within)), same j d within);
    }

index-apart : (k m n : ℕ) (segs : List Bytes) → 0 < length (bytes_of_number m segs) → 0 < length (bytes_of_number n segs) → (m ≡ n → ⊥) → index_from k m segs ≢ index_from k n segs
index-apart k m n [] sm sn other = absurd (omega (arith, sm))
index-apart k m n (s ∷ ss) sm sn other =
    ⊎_elim
    (λ (e : s.number ≡ m).
    let f : s.number ≢ n = λ q. other (sym e ∙ q) in
    rw (eq-eqb s.number m e) (rw (ne_eqb s.number n f) (λ q. omega (arith, q, index-more (k + 1) n ss (rw (ne_eqb s.number n f) at sn)))))
    (λ (e : s.number ≡ m → ⊥).
    ⊎_elim
    (λ (f : s.number ≡ n). rw (ne_eqb s.number m e) (rw (eq-eqb s.number n f) (λ q. omega (arith, q, index-more (k + 1) m ss (rw (ne_eqb s.number m e) at sm)))))
    (λ (f : s.number ≡ n → ⊥). rw (ne_eqb s.number m e) (rw (ne_eqb s.number n f) (index-apart (k + 1) m n ss (rw (ne_eqb s.number m e) at sm) (rw (ne_eqb s.number n f) at sn) other)))
    (cases_eq s.number n))
    (cases_eq s.number m)

module _ (keeps : ℕ → Bool) where
  -- the segments whose numbers pass
  abbrev pub kept : List Bytes → List Bytes
  kept segs = filter (λ b. keeps b.number) segs

  kept-bytes : (n : ℕ) (segs : List Bytes) → keeps n ≡ true → bytes_of_number n (kept segs) ≡ bytes_of_number n segs
  kept-bytes n [] h = refl
  kept-bytes n (s ∷ ss) h =
      let rest = kept-bytes n ss h in
      ⊎_elim
      (λ (t : keeps s.number ≡ true). rw t (ap (cond (eqb s.number n) s.bytes) rest))
      (λ (t : keeps s.number ≡ false).
      let other : s.number ≢ n = λ e. let both : true ≡ false = sym h ∙ (ap keeps (sym e) ∙ t) in cc in
      let out : kept (s ∷ ss) ≡ kept ss = rw t refl in
      rw (ne_eqb s.number n other) (ap (bytes_of_number n) out ∙ rest))
      (cases_Bool (keeps s.number))

  -- the order of two stays
  index-kept : (k l m n : ℕ) (segs : List Bytes) → keeps m ≡ true → keeps n ≡ true → 0 < length (bytes_of_number m segs) → 0 < length (bytes_of_number n segs) → index_from k m segs < index_from k n segs → index_from l m (kept segs) < index_from l n (kept segs)
  index-kept k l m n [] hm hn sm sn lt = absurd (omega (arith, sm))
  index-kept k l m n (s ∷ ss) hm hn sm sn lt =
      ⊎_elim
      (λ (t : keeps s.number ≡ true).
      rw t
      (⊎_elim
      (λ (e : s.number ≡ m).
      ⊎_elim
      (λ (f : s.number ≡ n). let q : m ≡ n = sym e ∙ f in absurd (omega (arith, lt, ap (λ i. index_from k i (s ∷ ss)) q)))
      (λ (f : s.number ≡ n → ⊥).
      let there : l + 1 < index_from (l + 1) n (kept ss) = index-more (l + 1) n (kept ss) (subst (λ (xs : List ℕ). 0 < length xs) (sym (kept-bytes n ss hn)) (rw (ne_eqb s.number n f) at sn)) in
      rw (eq-eqb s.number m e) (rw (ne_eqb s.number n f) there))
      (cases_eq s.number n))
      (λ (e : s.number ≡ m → ⊥).
      ⊎_elim
      (λ (f : s.number ≡ n).
      let own : index_from (k + 1) m ss < k + 1 = rw (eq-eqb s.number n f) at (rw (ne_eqb s.number m e) at lt) in
      absurd (omega (arith, own, index-more (k + 1) m ss (rw (ne_eqb s.number m e) at sm))))
      (λ (f : s.number ≡ n → ⊥).
      rw (ne_eqb s.number m e) (rw (ne_eqb s.number n f)
      (index-kept (k + 1) (l + 1) m n ss hm hn (rw (ne_eqb s.number m e) at sm) (rw (ne_eqb s.number n f) at sn) (rw (ne_eqb s.number n f) at (rw (ne_eqb s.number m e) at lt)))))
      (cases_eq s.number n))
      (cases_eq s.number m)))
      (λ (t : keeps s.number ≡ false).
      let em : s.number ≢ m = λ e. let both : true ≡ false = sym hm ∙ (ap keeps (sym e) ∙ t) in cc in
      let en : s.number ≢ n = λ e. let both : true ≡ false = sym hn ∙ (ap keeps (sym e) ∙ t) in cc in
      let out : kept (s ∷ ss) ≡ kept ss = rw t refl in
      let rest = index-kept (k + 1) l m n ss hm hn (rw (ne_eqb s.number m em) at sm) (rw (ne_eqb s.number n en) at sn) (rw (ne_eqb s.number n en) at (rw (ne_eqb s.number m em) at lt)) in
      subst (λ (xs : List Bytes). index_from l m xs < index_from l n xs) (sym out) rest)
      (cases_Bool (keeps s.number))

-- the segments without blocks go
module _ (o : List Bytes) (q : ℕ) (bs : List (Block ℕ)) (h : IsLastOf o q bs) where
  abbrev keeps : ℕ → Bool
  keeps n = is_occupied bs n

  own-kept : (k : ℕ) (d : Block ℕ) → k < length bs → keeps (get_or bs k d).seg ≡ true
  own-kept k d lt = list_any_at (λ (c : Block ℕ). eqb c.seg (get_or bs k d).seg) bs k d lt (eq-eqb (get_or bs k d).seg (get_or bs k d).seg refl)

  pub last-kept : IsLastOf (kept keeps o) q bs
  last-kept =
      let heads = chain-heads o 0 q bs h.chain in
      record {
        segments = AreSegments-filter (λ (b : Bytes). keeps b.number) o h.segments;
        chain = chain-same o (kept keeps o) 0 q bs h.chain (λ k d lt. kept-bytes keeps (get_or bs k d).seg o (own-kept k d lt));
        ordered = h.ordered;
        rising = λ i j d lt within.
            let x : Block ℕ = get_or bs i d in
            let y : Block ℕ = get_or bs j d in
            let early : i < length bs = omega (arith, lt, within) in
            let low : rank o x < rank o y = h.rising i j d lt within in
            let far : y.off < 33554432 = let e = ap (λ (p : ℕ × ℕ). p.1) (head-exact o y (heads j d within)) in omega (arith, e) in
            ⊎_elim
            (λ (e : x.seg ≡ y.seg).
            let one = ap (λ n. index_from 0 n o) e in
            let two = ap (λ n. index_from 0 n (kept keeps o)) e in
            omega (arith, low, one, two))
            (λ (e : x.seg ≡ y.seg → ⊥).
            let less : index_from 0 x.seg o < index_from 0 y.seg o = index-less x y (heads i d early) (heads j d within) low e far in
            let after = index-kept keeps 0 0 x.seg y.seg o (own-kept i d early) (own-kept j d within) (head-bytes o x (heads i d early)) (head-bytes o y (heads j d within)) less in
            let near : x.off < 33554432 = let e = ap (λ (p : ℕ × ℕ). p.1) (head-exact o x (heads i d early)) in omega (arith, e) in
            omega (arith, after, near))
            (cases_eq x.seg y.seg);
      }
    where
      index-less : (x y : Block ℕ) → HasHead o x → HasHead o y → rank o x < rank o y → (x.seg ≡ y.seg → ⊥) → y.off < 33554432 → index_from 0 x.seg o < index_from 0 y.seg o
      index-less x y hx hy low other far =
          omega (arith, low, index-apart 0 x.seg y.seg o (head-bytes o x hx) (head-bytes o y hy) other, far)
