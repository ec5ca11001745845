-- What asking for bytes makes of the segments and the blocks of a region.
use Rattle.vc_base.proofs.Common.{◌≡◌, ℕ, ◌+◌, ◌%◌, ◌≤◌, true, false, leb, ltb, ◌≢◌, ◌⊎◌, List, [], ◌∷◌, ◌++◌, map, length, get_or, set, Some, None, All, Option, Result, Ok, Err, IfErr, IsErrOf, OnErr, OnOk, sym, refl, ap, ◌∙◌, subst, inl, inr, ⊎_elim, arith, cases_Bool, All-map, length_push, map_push, none-some, length-replicate, Discipline, HasOut, IsSegmentSize, Lent, Terms, Unserved, Granted, TooMany, ask, lowest_unused, new_segment, numbers, last_place, Layout, with_grant, span}
use Rattle.std.proofs.Math.Seq.{set-append_seam}
use Rattle.vc_model.specs.Discipline.{LentNothing, CanExtend, Extended}
use Rattle.vc_model.specs.Last.{next_offset}
use Rattle.vc_model.specs.Segments.{Grant, ask_by, growing, segment_limit, segments_with, size_limit}
use Rattle.vc_seg.specs.Segment.{AreSegments, Bytes, IsRegionSegment, grown_segment, pair_of, zero_segment}
use Rattle.vc_seg.specs.Lend.{IsAsked, IsGrantOf, IsNoGrant}
use Rattle.vc_seg.specs.declared.fault.RegionFault.{RegionFault}
use Rattle.vc_seg.specs.declared.fault.RegionFault.TheVariants as code
use Rattle.vc_seg.proofs.Backs.{Apart, Contains-ends, Contains-own}
use Rattle.vc_seg.proofs.Grants.{AreSegments-granted}
use Rattle.vc_seg.proofs.Growing.{more-asked, more-may, more_of}
use Rattle.vc_seg.proofs.Segments.{Served-extended, Served-lent}
use Rattle.vc_last.specs.Chain.{IsLast, IsLastOf, blocks_from}
use Rattle.vc_last.specs.Granted.{IsGranted, IsObtained, with_granted, with_zeros}
use Rattle.vc_last.specs.Read.{layout_by}
use Rattle.vc_last.proofs.Lists.{All-last, AllPairs-last, get_or-last}
use Rattle.vc_last.proofs.Allocations.{row}
use Rattle.vc_last.proofs.Chains.{last-from}
use Rattle.vc_last.proofs.Kept.{layout-from, layout-is, newest-cut, row-by}
use Rattle.vc_last.proofs.Lends.{last-append}
use Rattle.vc_last.proofs.Longer.{AreSegments-zeros, grown-length, last-zeros, pairs-zeros, with_zeros-push}
use Rattle.vc_last.proofs.Places.{place-granted, place-longer}

-- the segment that may be made longer, behind the others
pub record IsGrowing (terms : Terms) (segs : List Bytes) (s : ℕ × ℕ) : Type 0 where
  pub grows : terms.grows ≡ true
  pub front : List Bytes
  pub newest : Bytes
  pub split : segs ≡ front ++ newest ∷ []
  pub is : pair_of newest ≡ s

pub growing-newest : (terms : Terms) (segs : List Bytes) (s : ℕ × ℕ) → growing terms (map pair_of segs) ≡ Some s → IsGrowing terms segs s
growing-newest terms segs s e =
    ⊎_elim
    (λ (t : terms.grows ≡ true). let cut = newest-cut segs s (rw t at e) in record { grows = t; front = cut.0; newest = cut.1; split = cut.2; is = cut.3 })
    (λ (t : terms.grows ≡ false). let none : None ≡ Some s = rw t at e in absurd (none-some s none))
    (cases_Bool terms.grows)

pub some-newest : {terms : Terms} {segs : List Bytes} {s : ℕ × ℕ} → IsGrowing terms segs s → 1 ≤ length segs
some-newest w = omega (arith, ap length w.split, length_push w.front w.newest)

-- what asking for more of it answers, and makes of the segments
module _ {terms : Terms} {o : List Bytes} {s : ℕ × ℕ} (w : IsGrowing terms o s) (legal : AreSegments o) where
  pub newest-size : IsSegmentSize s.1
  newest-size = subst IsSegmentSize (ap (λ (p : ℕ × ℕ). p.1) w.is) (All-last IsRegionSegment w.front w.newest (subst (All IsRegionSegment) w.split legal.legal)).size

  pairs-split : map pair_of o ≡ map pair_of w.front ++ (s.0, s.1) ∷ []
  pairs-split = ap (map pair_of) w.split ∙ (map_push pair_of w.front w.newest ∙ ap (λ (p : ℕ × ℕ). map pair_of w.front ++ p ∷ []) w.is)

  module _ (i : ℕ) (last : i + 1 ≡ length o) where
    at-front : i ≡ length w.front
    at-front = omega (arith, ap length w.split, length_push w.front w.newest)

    pub newest-at : (d : Bytes) → get_or o i d ≡ w.newest
    newest-at d = ap (λ (xs : List Bytes). get_or xs i d) w.split ∙ (ap (λ k. get_or (w.front ++ w.newest ∷ []) k d) at-front ∙ get_or-last w.front w.newest d)

    set-at : (t : Bytes) → set o i t ≡ w.front ++ t ∷ []
    set-at t = ap (λ (xs : List Bytes). set xs i t) w.split ∙ (ap (λ k. set (w.front ++ w.newest ∷ []) k t) at-front ∙ set-append_seam w.front w.newest [] t)

    module _ (d : Discipline) (b : Bytes) (at : b ≡ get_or o i b) (more : ℕ) (size : IsSegmentSize more) (within : s.1 + more ≤ 33554432) where
      own : b ≡ w.newest
      own = at ∙ newest-at b

      own-pair : pair_of b ≡ s
      own-pair = ap pair_of own ∙ w.is

      grown-size : IsSegmentSize (s.1 + more)
      grown-size = let had = newest-size in record { least = omega (arith, had.least); most = within; multiple = omega (arith, had.multiple, size.multiple) }

      pub can-longer : d.terms ≡ terms → HasOut d (map pair_of o) → more % d.terms.round ≡ 0 → CanExtend d (pair_of b) more
      can-longer e out multiple =
          record {
            grows = ap (λ (t : Terms). t.grows) e ∙ w.grows;
            out = Contains-ends d.out (map pair_of o) (pair_of b) out (Contains-own pair_of o i b (omega (arith, last)) at);
            some = omega (arith, size.least);
            multiple = multiple;
            size = subst (λ (p : ℕ × ℕ). IsSegmentSize (p.1 + more)) (sym own-pair) grown-size;
          }

-- what is granted is a new segment, or more of the one that may be made longer
abbrev IsMore : Terms → ℕ → List (ℕ × ℕ) → Grant → Type 0
IsMore terms bytes ss g = (s : ℕ × ℕ) × (growing terms ss ≡ Some s) × (g ≡ record { number = s.0; bytes = bytes; fresh = false })

new-or-more : (terms : Terms) (bytes : ℕ) (ss : List (ℕ × ℕ)) (g : Grant) → ask terms bytes ss false ≡ Granted g → (g ≡ new_segment g.number bytes) ⊎ IsMore terms bytes ss g
new-or-more terms bytes ss g h = by (growing terms ss) refl h
  where
    by : (o : Option (ℕ × ℕ)) → growing terms ss ≡ o → ask_by o bytes ss false ≡ Granted g → (g ≡ new_segment g.number bytes) ⊎ IsMore terms bytes ss g
    by None e k =
        ⊎_elim
        (λ (t : ltb (length ss) segment_limit ≡ true).
        let same : Granted (new_segment (lowest_unused (numbers ss)) bytes) ≡ Granted g = rw t at k in
        let is : new_segment (lowest_unused (numbers ss)) bytes ≡ g = cc in
        inl (sym is ∙ ap (λ n. new_segment n bytes) (ap (λ (x : Grant). x.number) is)))
        (λ (t : ltb (length ss) segment_limit ≡ false). let none : TooMany ≡ Granted g = rw t at k in absurd (cc))
        (cases_Bool (ltb (length ss) segment_limit))
    by (Some s) e k =
        let more : Grant = record { number = s.0; bytes = bytes; fresh = false } in
        ⊎_elim
        (λ (t : leb (s.1 + bytes) size_limit ≡ true).
        let same : Granted more ≡ Granted g = rw t at k in
        let is : more ≡ g = cc in
        inr (s, e, sym is))
        (λ (t : leb (s.1 + bytes) size_limit ≡ false). let none : TooMany ≡ Granted g = rw t at k in absurd (cc))
        (cases_Bool (leb (s.1 + bytes) size_limit))

pairs-granted : (g : Grant) (segs : List Bytes) → map pair_of (with_granted g segs) ≡ segments_with g (map pair_of segs)
pairs-granted g segs =
    ⊎_elim
    (λ (t : g.fresh ≡ true). rw t (map_push pair_of segs (zero_segment g.number g.bytes) ∙ ap (λ k. map pair_of segs ++ (g.number, k) ∷ []) (length-replicate {A = ℕ} g.bytes 0)))
    (λ (t : g.fresh ≡ false). rw t (pairs-zeros g.bytes segs))
    (cases_Bool g.fresh)

-- the blocks stay
module _ (terms : Terms) (bytes q : ℕ) (o n : List Bytes) (h : IsLast o q) (legal : AreSegments n) (g : IsGranted terms bytes o n) where
  last : IsLastOf n q (blocks_from o q)
  last =
      ⊎_elim
      (λ (e : g.grant ≡ new_segment g.grant.number bytes).
      let is : n ≡ o ++ zero_segment g.grant.number bytes ∷ [] = g.segments ∙ ap (λ (k : Grant). with_granted k o) e in
      subst (λ (xs : List Bytes). IsLastOf xs q (blocks_from o q)) (sym is) (last-append o q (blocks_from o q) (zero_segment g.grant.number bytes) (subst AreSegments is legal) h))
      (λ (m : IsMore terms bytes (map pair_of o) g.grant).
      let is : n ≡ with_zeros bytes o = g.segments ∙ ap (λ (k : Grant). with_granted k o) m.2 in
      subst (λ (xs : List Bytes). IsLastOf xs q (blocks_from o q)) (sym is) (last-zeros bytes o q (blocks_from o q) (subst AreSegments is legal) h))
      (new-or-more terms bytes (map pair_of o) g.grant g.granted)

  pub granted-kept : IsLast n q
  granted-kept = last-from n q (blocks_from o q) last

  pub granted-layout : layout_by n q ≡ with_grant (layout_by o q) g.grant
  granted-layout =
      layout-is n q (blocks_from o q) last
      ∙ (ap (λ ss. row ss (blocks_from o q)) (ap (map pair_of) g.segments ∙ pairs-granted g.grant o) ∙ ap (λ (r : Layout ℕ). with_grant r g.grant) (sym (layout-from o q)))

  -- and a block of those bytes has a place
  pub granted-place : (size : ℕ) → 32 + span size ≤ bytes → last_place (layout_by n q) size ≢ None
  granted-place size room none =
      let r : Layout ℕ = layout_by o q in
      let at : last_place (with_grant r g.grant) size ≡ None = ap (λ (l : Layout ℕ). last_place l size) (sym granted-layout) ∙ none in
      let segments : r.segments ≡ map pair_of o = ap (λ (l : Layout ℕ). l.segments) (layout-from o q) in
      ⊎_elim
      (λ (e : g.grant ≡ new_segment g.grant.number bytes).
      let m : ℕ = g.grant.number in
      let is : n ≡ o ++ zero_segment m bytes ∷ [] = g.segments ∙ ap (λ (k : Grant). with_granted k o) e in
      let distinct = AllPairs-last Apart o (zero_segment m bytes) (subst AreSegments is legal).distinct in
      let fresh : All (λ (s : ℕ × ℕ). s.0 ≢ m) r.segments = subst (All (λ (s : ℕ × ℕ). s.0 ≢ m)) (sym segments) (All-map (λ (s : ℕ × ℕ). s.0 ≢ m) pair_of o (λ k d lt. distinct k d lt)) in
      none-some (m, 32) (sym at ∙ (ap (λ (k : Grant). last_place (with_grant r k) size) e ∙ place-granted r m bytes size (row-by o q h) fresh room)))
      (λ (m : IsMore terms bytes (map pair_of o) g.grant).
      let s : ℕ × ℕ = m.0 in
      let new = growing-newest terms o s m.1 in
      let cut : r.segments ≡ map pair_of new.front ++ s ∷ [] = segments ∙ (ap (map pair_of) new.split ∙ (map_push pair_of new.front new.newest ∙ ap (λ (p : ℕ × ℕ). map pair_of new.front ++ p ∷ []) new.is)) in
      let least = (All-last IsRegionSegment new.front new.newest (subst (All IsRegionSegment) new.split h.segments.legal)).size.least in
      let had : 32 ≤ s.1 = omega (arith, least, ap (λ (p : ℕ × ℕ). p.1) new.is) in
      none-some (s.0, next_offset s.0 r.blocks) (sym at ∙ (ap (λ (k : Grant). last_place (with_grant r k) size) m.2 ∙ place-longer r (map pair_of new.front) s.0 s.1 bytes size (row-by o q h) cut had (omega (arith, room)))))
      (new-or-more terms bytes (map pair_of o) g.grant g.granted)

-- what extending the segment lent latest answers, and leaves
module _ (d e : Discipline) (o : List Bytes) (s : ℕ × ℕ) (more i : ℕ) (b t : Bytes) (grows : growing d.terms (map pair_of o) ≡ Some s) (legal : AreSegments o) (last : i + 1 ≡ length o) (at : b ≡ get_or o i b) (size : IsSegmentSize more) (within : s.1 + more ≤ 33554432) where
  w : IsGrowing d.terms o s
  w = growing-newest d.terms o s grows

  stays : t ≡ b → set o i t ≡ o
  stays same = set-at w legal i last t ∙ (ap (λ (x : Bytes). (w).front ++ x ∷ []) (same ∙ own w legal i last d b at more size within) ∙ sym (w).split)

  pub obtained-longer : (result : Result Unit RegionFault) → OnOk result (t ≡ grown_segment more b) → OnOk result (Extended d e (pair_of b) more) → IfErr result (λ why. (why ≡ code.NoSegment) ⊎ (why ≡ code.OutOfMemory)) → (IsErrOf result code.NoSegment → Unserved d e more) → (IsErrOf result code.OutOfMemory → LentNothing d e) → OnErr result (t ≡ b) → IsObtained more result o (set o i t) d e
  obtained-longer (Ok x) segment extended only refused none same =
      let v : IsGrowing d.terms o s = w in
      let new : set o i t ≡ v.front ++ grown_segment more v.newest ∷ [] = set-at v legal i last t ∙ ap (λ (x : Bytes). v.front ++ x ∷ []) (segment ∙ ap (grown_segment more) (own v legal i last d b at more size within)) in
      let had : length v.newest.bytes ≡ s.1 = ap (λ (p : ℕ × ℕ). p.1) v.is in
      let long : pair_of (grown_segment more v.newest) ≡ (s.0, s.1 + more) = λ j. (ap (λ (p : ℕ × ℕ). p.0) v.is j, (grown-length more v.newest ∙ ap (λ k. k + more) had) j) in
      record {
        granted = record { grant = more_of s more; granted = more-asked d.terms more (map pair_of o) s grows within false; segments = new ∙ sym (ap (with_zeros more) v.split ∙ with_zeros-push more v.front v.newest) };
        served = Served-extended d e (map pair_of v.front) (map pair_of o) (map pair_of (set o i t)) s.0 s.1 more (pairs-split v legal)
            (ap (map pair_of) new ∙ (map_push pair_of v.front (grown_segment more v.newest) ∙ ap (λ (p : ℕ × ℕ). map pair_of v.front ++ p ∷ []) long))
            (omega (arith, size.least)) (subst (λ (p : ℕ × ℕ). Extended d e p more) (own-pair v legal i last d b at more size within) extended);
        legal = subst AreSegments (sym new) (AreSegments-zeros more v.front v.newest (subst AreSegments v.split legal) (subst (λ k. IsSegmentSize (k + more)) (sym had) (grown-size v legal i last d b at more size within)));
        fault = tt;
        may = λ wants. absurd (cc);
        same = tt;
        refused = tt;
      }
  obtained-longer (Err code.NoSegment) segment extended only refused none same =
      record {
        granted = tt;
        served = tt;
        legal = subst AreSegments (sym (stays same)) legal;
        fault = more-asked d.terms more (map pair_of o) s grows within true;
        may = λ wants. more-may d.terms more (map pair_of o) s grows within;
        same = stays same;
        refused = refused refl;
      }
  obtained-longer (Err code.OutOfMemory) segment extended only refused none same =
      record {
        granted = tt;
        served = tt;
        legal = subst AreSegments (sym (stays same)) legal;
        fault = tt;
        may = λ wants. more-may d.terms more (map pair_of o) s grows within;
        same = stays same;
        refused = none refl;
      }
  obtained-longer (Err code.TooManySegments) segment extended only refused none same = ⊎_elim (λ q. absurd (cc)) (λ q. absurd (cc)) only
  obtained-longer (Err code.Fixed) segment extended only refused none same = ⊎_elim (λ q. absurd (cc)) (λ q. absurd (cc)) only
  obtained-longer (Err code.PoolSize) segment extended only refused none same = ⊎_elim (λ q. absurd (cc)) (λ q. absurd (cc)) only
  obtained-longer (Err code.NotLast) segment extended only refused none same = ⊎_elim (λ q. absurd (cc)) (λ q. absurd (cc)) only
  obtained-longer (Err code.WrongMethod) segment extended only refused none same = ⊎_elim (λ q. absurd (cc)) (λ q. absurd (cc)) only

-- what asking for a new segment answers, and leaves
pub obtained-new : (d e : Discipline) (o n : List Bytes) (bytes : ℕ) (s : Bytes) → n ≡ o ++ s ∷ [] → AreSegments o → IsSegmentSize bytes → IsGrantOf d.terms bytes (map pair_of o) s → Lent d e s.number bytes → IsObtained bytes (Ok tt) o n d e
obtained-new d e o n bytes s is legal size g lent =
    let pairs : map pair_of n ≡ map pair_of o ++ (s.number, bytes) ∷ [] =
    ap (map pair_of) is ∙ (map_push pair_of o s ∙ ap (λ k. map pair_of o ++ (s.number, k) ∷ []) (ap (λ (x : Bytes). length x.bytes) g.zeros ∙ length-replicate {A = ℕ} bytes 0)) in
    record {
      granted = record { grant = new_segment s.number bytes; granted = g.granted; segments = is ∙ ap (λ (x : Bytes). o ++ x ∷ []) g.zeros };
      served = Served-lent d e (map pair_of o) (map pair_of n) s.number bytes pairs lent;
      legal = subst AreSegments (sym is) (AreSegments-granted d.terms bytes o s legal size g);
      fault = tt;
      may = λ wants. absurd (cc);
      same = tt;
      refused = tt;
    }

-- and what a refusal leaves
pub obtained-none : (d e : Discipline) (o : List Bytes) (bytes : ℕ) (why : RegionFault) (result : Result Unit RegionFault) → result ≡ Err why → AreSegments o → IsNoGrant d.terms bytes (map pair_of o) why → (why ≡ code.OutOfMemory → ask d.terms bytes (map pair_of o) false ≢ TooMany) → IsAsked (Err why) d e bytes → IsObtained bytes result o o d e
obtained-none d e o bytes why result is legal none may asked =
    subst (λ (r : Result Unit RegionFault). IsObtained bytes r o o d e) (sym is)
    (record { granted = tt; served = tt; legal = legal; fault = none; may = λ wants. let same : why ≡ code.OutOfMemory = cc in may same; same = refl; refused = asked })
