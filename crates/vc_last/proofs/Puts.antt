-- A block of zeros that is put behind those of the newest segment.
use Rattle.vc_base.proofs.Common.{◌≡◌, ℕ, ◌+◌, ◌-◌, ◌<◌, ◌≤◌, Bool, true, false, List, [], ◌∷◌, ◌++◌, map, length, get_or, Some, None, Err, option_map, Any, sym, ap, ◌∙◌, subst, arith, get_or-map, length-map, address, place_of, zeros, Discipline, Served, Terms, Unserved, last_alloc, last_need, last_place, newest, put_behind_latest, put_in_newest, put_or_lend, Block, Layout, with_grant, Asked, Grant, Granted, NotLent, TooMany, ask, span}
use Rattle.vc_base.proofs.Places.{span-least}
use Rattle.vc_seg.specs.Segment.{AreSegments, Bytes, pair_of}
use Rattle.vc_seg.specs.Answer.{Asks, IsPut, IsRefusal}
use Rattle.vc_seg.specs.declared.fault.RegionFault.{RegionFault}
use Rattle.vc_seg.specs.declared.fault.RegionFault.TheVariants as code
use Rattle.vc_seg.specs.Lend.{IsAsked, IsNoGrant}
use Rattle.vc_seg.specs.Memory.{bytes_of_number}
use Rattle.vc_seg.proofs.BytesByNumber.{bytes_of_number-most}
use Rattle.vc_seg.proofs.Segments.{Asks-fault, Served-same}
use Rattle.vc_last.specs.Head.{LiesThere, StaysBut}
use Rattle.vc_last.specs.Chain.{IsLast, IsLastOf, blocks_from}
use Rattle.vc_last.specs.Place.{IsBlockPlace, with_latest}
use Rattle.vc_last.specs.Read.{layout_by}
use Rattle.vc_last.proofs.Allocations.{row}
use Rattle.vc_last.proofs.Chains.{last-from}
use Rattle.vc_last.proofs.Kept.{bytes-any, layout-from, layout-is, lower-newest, put-last}
use Rattle.vc_last.proofs.Newest.{newest-is}

-- a place is in a segment
pub record IsInside (segs : List Bytes) (size : ℕ) (at : ℕ × ℕ) : Type 0 where
  pub first : 1 ≤ at.0
  pub last : at.0 ≤ 1023
  pub below : at.1 < 33554432
  pub within : at.1 + span size ≤ length (bytes_of_number at.0 segs)

pub place-inside : (segs : List Bytes) (size : ℕ) (at : ℕ × ℕ) (r : Layout ℕ) → AreSegments segs → r.segments ≡ map pair_of segs → IsBlockPlace r size at → IsInside segs size at
place-inside segs size at r h is p =
    let P : ℕ × ℕ → Type 0 = λ s. (at.0 ≡ s.0) × (at.1 + span size ≤ s.1) in
    let u : Any P (map pair_of segs) = subst (Any P) is p.inside in
    let within = bytes-any at.0 (at.1 + span size) segs h.distinct u in
    let d : Bytes = record { number = 0; bytes = [] } in
    let lt : u.0 < length segs = omega (arith, u.2, length-map segs pair_of) in
    let s : Bytes = get_or segs u.0 d in
    let same : u.1 ≡ pair_of s = sym u.3 ∙ get_or-map pair_of segs u.0 d u.1 lt in
    let number : at.0 ≡ s.number = u.4.0 ∙ ap (λ (q : ℕ × ℕ). q.0) same in
    let legal = h.legal u.0 d lt in
    let first = legal.first in
    let last = legal.last in
    record {
      first = omega (arith, first, number);
      last = omega (arith, last, number);
      below = omega (arith, within, bytes_of_number-most at.0 segs h.legal, span-least size);
      within = within;
    }

module _ (o s : List Bytes) (q size tag seg off : ℕ) (h : IsLast o q) (new : option_map (λ (s : ℕ × ℕ). s.0) (newest (layout_by o q)) ≡ Some seg) (p : IsBlockPlace (layout_by o q) size (seg, off)) (some : 1 ≤ size) (stays : StaysBut seg (off - 16) (off + size) o s) (laid : LiesThere s q (zeros tag size (seg, off))) where
  b : Block ℕ
  b = zeros tag size (seg, off)

  made : IsLastOf s (address (seg, off)) (blocks_from o q ++ zeros tag size (seg, off) ∷ [])
  made =
      let bs : List (Block ℕ) = blocks_from o q in
      let place : IsBlockPlace (row (map pair_of o) (blocks_from o q)) size (seg, off) = subst (λ (r : Layout ℕ). IsBlockPlace r size (seg, off)) (layout-from o q) p in
      let found = newest-is (row (map pair_of o) (blocks_from o q)) seg (subst (λ (r : Layout ℕ). option_map (λ (s : ℕ × ℕ). s.0) (newest r) ≡ Some seg) (layout-from o q) new) in
      let lower = lower-newest o q size (blocks_from o q) (zeros tag size (seg, off)) found.0 h found.1 found.2 place in
      put-last o s q (blocks_from o q) (zeros tag size (seg, off)) h some place stays laid lower

  pub put-kept : IsLast s (address (seg, off))
  put-kept = last-from s (address (seg, off)) (blocks_from o q ++ zeros tag size (seg, off) ∷ []) made

  pub put-layout : layout_by s (address (seg, off)) ≡ with_latest (layout_by o q) tag size (seg, off)
  put-layout =
      layout-is s (address (seg, off)) (blocks_from o q ++ zeros tag size (seg, off) ∷ []) made
      ∙ (ap (λ ss. row ss (blocks_from o q ++ zeros tag size (seg, off) ∷ [])) stays.pairs ∙ ap (λ (r : Layout ℕ). with_latest r tag size (seg, off)) (sym (layout-from o q)))

-- what a block at a place behind the others answers
pub put-there : (terms : Terms) (r new : Layout ℕ) (tag size a : ℕ) (at : ℕ × ℕ) → last_place r size ≡ Some at → a ≡ address at → place_of a ≡ at → new ≡ with_latest r tag size at → IsPut (last_alloc terms r tag size false) a new
put-there terms r new tag size a at is own place e = subst (λ o. IsPut o a new) (sym (ap (put_or_lend terms r tag size false) is)) (own, sym place, e)

-- what a block answers that bytes were asked for
module _ (terms : Terms) (r : Layout ℕ) (tag size bytes : ℕ) (need : bytes ≡ last_need terms size) (none : last_place r size ≡ None) where
  asked : (refused : Bool) (k : Asked) → ask terms bytes r.segments refused ≡ k → last_alloc terms r tag size refused ≡ put_in_newest r tag size k
  asked refused k e = ap (put_or_lend terms r tag size refused) none ∙ ap (put_in_newest r tag size) (sym (ap (λ b. ask terms b r.segments refused) need) ∙ e)

  pub put-in-new : (new : Layout ℕ) (g : Grant) (at : ℕ × ℕ) (a : ℕ) → ask terms bytes r.segments false ≡ Granted g → last_place (with_grant r g) size ≡ Some at → a ≡ address at → place_of a ≡ at → new ≡ with_latest (with_grant r g) tag size at → IsPut (last_alloc terms r tag size false) a new
  put-in-new new g at a granted there own place is = subst (λ o. IsPut o a new) (sym (asked false (Granted g) granted ∙ ap (put_behind_latest (with_grant r g) tag size (Some g)) there)) (own, sym place, is)

  pub refused-new : (e : RegionFault) → IsNoGrant terms bytes r.segments e → IsRefusal (last_alloc terms r tag size) e
  refused-new code.TooManySegments h = asked false TooMany h
  refused-new code.NoSegment h = asked true NotLent h
  refused-new code.OutOfMemory h = tt
  refused-new code.Fixed h = absurd h
  refused-new code.PoolSize h = absurd h
  refused-new code.NotLast h = absurd h
  refused-new code.WrongMethod h = absurd h

-- a call that asked for nothing
pub unasked : (d : Discipline) (segments segments' : List (ℕ × ℕ)) (need : ℕ) → segments' ≡ segments → Served d d segments segments' need
unasked d segments segments' need e = subst (λ ss. Served d d segments ss need) (sym e) (Served-same d segments need)

-- a call that was granted nothing
pub refused-disc : (why : RegionFault) (old new : Discipline) (segments segments' : List (ℕ × ℕ)) (bytes need : ℕ) → bytes ≡ need → segments' ≡ segments → IsAsked (Err why) old new bytes → Asks (Err why) old new segments segments' need
refused-disc why old new segments segments' bytes need e same h = Asks-fault why old new segments segments' need same (subst (IsAsked (Err why) old new) e h)

-- lists and bytes may be told by equal ones
pub served-need : (old new : Discipline) (segments mid mid' segments' : List (ℕ × ℕ)) (bytes need : ℕ) → segments ≡ mid → segments' ≡ mid' → bytes ≡ need → Served old new mid mid' bytes → Served old new segments segments' need
served-need old new segments mid mid' segments' bytes need e e' same h =
    subst (λ (ss : List (ℕ × ℕ)). Served old new ss segments' need) (sym e) (subst (λ (ss : List (ℕ × ℕ)). Served old new mid ss need) (sym e') (subst (Served old new mid mid') same h))
