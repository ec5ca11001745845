-- A segment with a free extent more behind the others.
use Rattle.vc_base.proofs.Common.{◌≡◌, ℕ, zero, suc, ◌+◌, ◌-◌, ◌<◌, ◌≤◌, true, false, eqb, ◌≢◌, List, [], ◌∷◌, ◌++◌, map, length, get_or, take, set, Option, unwrap_or, Result, Ok, Err, OnOk, OnErr, All, HoldsAt, sym, refl, ap, ◌∙◌, subst, ⊎_elim, arith, cases_Bool, eq-eqb, ne_eqb, All-head, All-tail, get_or_default, ∥∥₁_map, Discipline, IsSegmentSize, place_of}
use Rattle.std.proofs.lemmas.List.{set-get_or}
use Rattle.vc_model.specs.Discipline.{CanExtend, Extended}
use Rattle.vc_seg.specs.Field.{field_at}
use Rattle.vc_seg.specs.Segment.{Bytes, pair_of}
use Rattle.vc_extent.specs.Change.{IsWidened, behind, extent_in, last_span, widen}
use Rattle.vc_extent.specs.Extent.{Extent, extents, free_extent, no_links}
use Rattle.vc_extent.specs.Tiles.{IsTiled, Tiles}
use Rattle.vc_extent.specs.Tiling.{AreExtents, IsNamed, IsPlace, change_in, extents_of, longer, size_in, tiling}
use Rattle.vc_extent.proofs.Places.{size-place}
use Rattle.vc_extent.proofs.Sets.{AreExtents-set, extents-set, tiling-set}
use Rattle.vc_extent.proofs.Tiled.{extents-are, head-front, span-at, tiles-lt}
use Rattle.vc_extent.proofs.WalkStarts.{IsIn, in-append, in-last, in-named, named-set}

-- one step of a walk to the last extent
pub record IsOn (b : List ℕ) (stop p at : ℕ) (es : List Extent) : Type 0 where
  pub rest : List Extent
  pub tiles : Tiles b stop (field_at at b) (at + field_at at b) rest
  pub last : last_span (field_at at b) rest ≡ last_span p es
  pub least : 32 ≤ field_at at b
  pub end : at + field_at at b ≤ stop

pub walk-on : (b : List ℕ) (stop p at : ℕ) (es : List Extent) → Tiles b stop p at es → at < stop → IsOn b stop p at es
walk-on b stop p at [] h lt = absurd (omega (arith, h, lt))
walk-on b stop p at (e ∷ es) h lt =
    let s : e.span ≡ field_at at b = ap (λ (x : Extent). x.span) h.0.extent ∙ span-at at b in
    record {
      rest = es;
      tiles = subst (λ (k : ℕ). Tiles b stop k (at + k) es) s h.1;
      last = ap (λ (k : ℕ). last_span k es) (sym s);
      least = subst (λ (k : ℕ). 32 ≤ k) s h.0.legal.least;
      end = subst (λ (k : ℕ). at + k ≤ stop) s (tiles-lt b stop p at e es h);
    }

pub walk-ends : (b : List ℕ) (stop p at : ℕ) (es : List Extent) → Tiles b stop p at es → stop ≤ at → p ≡ last_span p es
walk-ends b stop p at [] h le = refl
walk-ends b stop p at (e ∷ es) h le = let l = h.0.legal.least in let r = tiles-lt b stop p at e es h in absurd (omega arith)

-- the last span from an extent on
pub last-from : (off p : ℕ) (es : List Extent) → 0 < (extent_in off es).span → last_span (extent_in off es).span (behind off es) ≡ last_span p es
last-from off p [] named = absurd (omega arith)
last-from off p (e ∷ es) named =
    ⊎_elim
    (λ (t : eqb e.off off ≡ true). rw t refl)
    (λ (t : eqb e.off off ≡ false). rw t (last-from off e.span es (rw t at named)))
    (cases_Bool (eqb e.off off))

-- more extents from where these end
tiles-behind : (o n : List ℕ) (stop end p at : ℕ) (es more : List Extent) → take stop n ≡ take stop o → Tiles o stop p at es → Tiles n end (last_span p es) stop more → Tiles n end p at (es ++ more)
tiles-behind o n stop end p at [] more same h rest = subst (λ (k : ℕ). Tiles n end p k more) (sym h) rest
tiles-behind o n stop end p at (e ∷ es) more same h rest = (head-front o n stop same p at e h.0 (tiles-lt o stop p at e es h), tiles-behind o n stop end e.span (at + e.span) es more same h.1 rest)

pub widened : (more : ℕ) (o n : Bytes) → IsTiled o.bytes → IsSegmentSize (length n.bytes) → n.number ≡ o.number → length n.bytes ≡ length o.bytes + more → take (length o.bytes - 16) n.bytes ≡ take (length o.bytes - 16) o.bytes →
    Tiles n.bytes (length n.bytes - 16) (last_span 0 (extents o.bytes)) (length o.bytes - 16) (free_extent (length o.bytes) more no_links ∷ []) → IsWidened more o n
widened more o n tiled size number len front laid =
    let es : List Extent = widen (length o.bytes) more (extents o.bytes) in
    let tiles : Tiles n.bytes (length n.bytes - 16) 0 16 es = tiles-behind o.bytes n.bytes (length o.bytes - 16) (length n.bytes - 16) 0 16 (extents o.bytes) (free_extent (length o.bytes) more no_links ∷ []) front tiled.tiles laid in
    let are : extents n.bytes ≡ es = extents-are n.bytes es tiles in
    record {
      number = number;
      len = len;
      tiled = record { size = size; tiles = subst (Tiles n.bytes (length n.bytes - 16) 0 16) (sym are) tiles };
      extents = are;
    }

-- the numbers and sizes of segments of which one has more bytes
pub longer-set : (n more i : ℕ) (segs : List Bytes) (new : Bytes) → i < length segs → All (λ (b : Bytes). b.number ≢ n) (take i segs) → HoldsAt (λ (b : Bytes). b.number ≡ n) segs i → HoldsAt (λ (b : Bytes). new.number ≡ b.number) segs i →
    HoldsAt (λ (b : Bytes). length new.bytes ≡ length b.bytes + more) segs i → map pair_of (set segs i new) ≡ longer n more (map pair_of segs)
longer-set n more i [] new within first at number len = absurd (omega arith)
longer-set n more zero (s ∷ ss) new within first at number len = rw (eq-eqb s.number n (at s)) (λ j. (number s j, len s j) ∷ map pair_of ss)
longer-set n more (suc i) (s ∷ ss) new within first at number len =
    rw (ne_eqb s.number n (All-head (λ (b : Bytes). b.number ≢ n) s (take i ss) first))
    (ap (λ (t : List (ℕ × ℕ)). pair_of s ∷ t) (longer-set n more i ss new (omega arith) (All-tail (λ (b : Bytes). b.number ≢ n) s (take i ss) first) (λ d. at d) (λ d. number d) (λ d. len d)))

-- the size by a number and its place
pub size-in : (n i : ℕ) (segs : List Bytes) (d : Bytes) → IsPlace n segs i → size_in n (map pair_of segs) ≡ length (get_or segs i d).bytes
size-in n i segs d p = sym (ap (λ (o : Option ℕ). unwrap_or o 0) (size-place n i segs d p.within p.numbered p.first))

pub size-read : {n i size : ℕ} {segs : List Bytes} {s : Bytes} → IsPlace n segs i → s ≡ get_or segs i s → size ≡ length s.bytes → size ≡ size_in n (map pair_of segs)
size-read {n = n} {i = i} {segs = segs} {s = s} p is e = e ∙ (ap (λ (b : Bytes). length b.bytes) is ∙ sym (size-in n i segs s p))

-- the segment at a place, by its number and its size
module _ {n i : ℕ} {segs : List Bytes} {s : Bytes} (p : IsPlace n segs i) (is : s ≡ get_or segs i s) where
  same : (d : Bytes) → s ≡ get_or segs i d
  same d = is ∙ get_or_default segs i s d p.within

  pub pair-at : pair_of s ≡ (n, size_in n (map pair_of segs))
  pair-at = λ j. ((ap (λ (b : Bytes). b.number) is ∙ p.numbered s) j, (ap (λ (b : Bytes). length b.bytes) is ∙ sym (size-in n i segs s p)) j)

  size-at_place : length s.bytes ≡ size_in n (map pair_of segs)
  size-at_place = ap (λ (q : ℕ × ℕ). q.1) pair-at

  -- and the segments where it got more bytes
  module _ {more : ℕ} {new : Bytes} where
    pub tiling-widened : IsWidened more s new → tiling (set segs i new) ≡ change_in n (widen (size_in n (map pair_of segs)) more) (tiling segs)
    tiling-widened w =
        tiling-set n i segs new (widen (size_in n (map pair_of segs)) more) p.within p.first p.numbered (w.number ∙ ap (λ (q : ℕ × ℕ). q.0) pair-at)
        (λ d. w.extents ∙ (ap (λ (k : ℕ). widen k more (extents s.bytes)) size-at_place ∙ ap (λ (b : Bytes). widen (size_in n (map pair_of segs)) more (extents b.bytes)) (same d)))

    pub pairs-widened : IsWidened more s new → map pair_of (set segs i new) ≡ longer n more (map pair_of segs)
    pairs-widened w = longer-set n more i segs new p.within p.first p.numbered (λ d. w.number ∙ ap (λ (b : Bytes). b.number) (same d)) (λ d. w.len ∙ ap (λ (b : Bytes). length b.bytes + more) (same d))

    -- where walks began, and the new extent
    pub near-widened : (near : ℕ) → IsWidened more s new → (0 < near → IsNamed (tiling segs) near) → 0 < near → IsNamed (tiling (set segs i new)) near
    near-widened near w named some =
        let off : ℕ = (place_of near).1 in
        named-set n i near segs new p (w.number ∙ ap (λ (q : ℕ × ℕ). q.0) pair-at) w.tiled
        (λ q d h. subst (IsIn off) (sym w.extents) (in-append off (extents s.bytes) (free_extent (length s.bytes) more no_links ∷ []) (subst (λ (b : Bytes). IsIn off (extents b.bytes)) (sym (same d)) h)))
        (named some)

    pub last-named : (to size : ℕ) → IsWidened more s new → size ≡ size_in n (map pair_of segs) → place_of to ≡ (n, size) → IsNamed (tiling (set segs i new)) to
    last-named to size w sized place =
        let here : IsIn size (extents new.bytes) = subst (IsIn size) (sym w.extents) (in-last size (extents s.bytes) (free_extent (length s.bytes) more no_links) (size-at_place ∙ sym sized)) in
        let span : 0 < (extent_in size (extents new.bytes)).span = in-named new.bytes (length new.bytes - 16) 0 16 size (extents new.bytes) w.tiled.tiles here in
        let set' : extents_of n (tiling (set segs i new)) ≡ extents new.bytes = extents-set n i segs new p.within p.first (w.number ∙ ap (λ (q : ℕ × ℕ). q.0) pair-at) in
        subst (λ (q : ℕ × ℕ). 0 < (extent_in q.1 (extents_of q.0 (tiling (set segs i new)))).span) (sym place) (subst (λ (es : List Extent). 0 < (extent_in size es).span) (sym set') span)

  -- with a refusal they are as they were
  back : (new : Bytes) → new ≡ s → set segs i new ≡ segs
  back new e = ap (set segs i) (e ∙ is) ∙ set-get_or segs i s

  pub kept-widened : {A E : Type 0} (more : ℕ) (new : Bytes) (index : List ℕ) (result : Result A E) → OnOk result (IsWidened more s new) → OnErr result (new ≡ s) → ∥ AreExtents segs index ∥₁ → ∥ AreExtents (set segs i new) index ∥₁
  kept-widened more new index (Ok x) w e kept = ∥∥₁_map kept (AreExtents-set segs index i new p.within (λ d. w.number ∙ ap (λ (b : Bytes). b.number) (same d)) w.tiled)
  kept-widened more new index (Err x) w e kept = subst (λ (xs : List Bytes). ∥ AreExtents xs index ∥₁) (sym (back new e)) kept

  pub near-kept : {A E : Type 0} (more : ℕ) (new : Bytes) (near : ℕ) (result : Result A E) → OnOk result (IsWidened more s new) → OnErr result (new ≡ s) → (0 < near → IsNamed (tiling segs) near) → 0 < near → IsNamed (tiling (set segs i new)) near
  near-kept more new near (Ok x) w e named = near-widened near w named
  near-kept more new near (Err x) w e named = subst (λ (xs : List Bytes). 0 < near → IsNamed (tiling xs) near) (sym (back new e)) named

-- what is asked of a discipline and what it leaves, by an equal pair
pub can-at : {d : Discipline} {p q : ℕ × ℕ} {more : ℕ} → p ≡ q → CanExtend d q more → CanExtend d p more
can-at {d = d} {more = more} e h = subst (λ (r : ℕ × ℕ). CanExtend d r more) (sym e) h

pub extended-at : {old new : Discipline} {p q : ℕ × ℕ} {more : ℕ} → p ≡ q → Extended old new p more → Extended old new q more
extended-at {old = old} {new = new} {more = more} e h = subst (λ (r : ℕ × ℕ). Extended old new r more) e h
