-- An image's segments, lent one by one.
use Rattle.vc_base.proofs.Common.{◌≡◌, ◌≢◌, ℕ, zero, suc, ◌+◌, ◌-◌, ◌*◌, ◌%◌, ◌<◌, ◌≤◌, true, false, eqb, List, [], ◌∷◌, ◌++◌, All, length, map, get_or, take, drop, find, None, Some, option_map, slice_get, sym, refl, ap, ap₂, ◌∙◌, subst, ⊎_elim, true≢false, arith, append_assoc, eqb-true, ne_eqb, cases_Bool, map-append, take_all, same_Some, Lent, TookBack, Unserved, IsSegmentSize}
use Rattle.std.proofs.lemmas.Option.{slice_get-get_or}
use Rattle.vc_base.proofs.Options.{option_map-None}
use Rattle.vc_model.specs.Discipline.{Discipline}
use Rattle.vc_model.proofs.Keeping.{Kept-trans, rose-within, told-within, twice-within}
use Rattle.vc_seg.specs.Budget.{bytes_of}
use Rattle.vc_seg.specs.Field.{field_at}
use Rattle.vc_seg.specs.Segment.{Bytes, pair_of}
use Rattle.vc_extent.specs.Tiles.{IsTiled}
use Rattle.vc_extent.specs.Tiling.{IsThere}
use Rattle.vc_image_check.specs.Bytes.Contents.{body_in, contents_of_image, image_segment_count, pairs_in, segment_pair_at}
use Rattle.vc_image_check.specs.Bytes.Header.{IsHeader}
use Rattle.vc_image_check.specs.Laws.Pairs.{items-get}
use Rattle.vc_image_check.specs.Laws.Segs.{legal, long, new-number, next-place, segment, segment-is, segs-are, segs-count, segs-each, segs-more, segs_in, size-is, there, within}
use Rattle.vc_image.specs.Lends.Lends.{AreLent, IsRefused}
use Rattle.vc_image.specs.Lends.Terms.{first_uneven, is_uneven}
use Rattle.vc_image_check.proofs.Each.{many}
use Rattle.vc_image.proofs.Uneven.{pairs-of}

-- a round that divides all sizes
all-even : (round : ℕ) (ps : List (ℕ × ℕ)) → find (is_uneven round) ps ≡ None → (k : ℕ) (d : ℕ × ℕ) → k < length ps → (get_or ps k d).1 % round ≡ 0
all-even round [] none k d lt = absurd (omega (arith, lt))
all-even round (p ∷ ps) none k d lt =
    ⊎_elim
    (λ (t : eqb (p.1 % round) 0 ≡ true). at k (eqb-true (p.1 % round) 0 t) (all-even round ps (rw t at none)) lt)
    (λ (t : eqb (p.1 % round) 0 ≡ false). absurd (let some : Some p ≡ None = rw t at none in cc))
    (cases_Bool (eqb (p.1 % round) 0))
  where
    at : (k : ℕ) → p.1 % round ≡ 0 → ((j : ℕ) (e : ℕ × ℕ) → j < length ps → (get_or ps j e).1 % round ≡ 0) → k < length (p ∷ ps) → (get_or (p ∷ ps) k d).1 % round ≡ 0
    at zero first rest lt = first
    at (suc k) first rest lt = rest k d (omega (arith, lt))

-- a number that no segment has
not-there : (n : ℕ) (ss : List Bytes) → ((j : ℕ) (d : Bytes) → j < length ss → (get_or ss j d).number ≢ n) → IsThere n ss → ⊥
not-there n [] apart h = absurd (true≢false (sym h))
not-there n (s ∷ ss) apart h =
    not-there n ss (λ j d lt. apart (suc j) d (omega (arith, lt))) (rw (ne_eqb s.number n (apart 0 s (omega arith))) at h)

-- the pairs of some of the segments
pub take-pairs : (i : ℕ) (ss : List Bytes) → take i (map pair_of ss) ≡ map pair_of (take i ss)
take-pairs zero ss = refl
take-pairs (suc i) [] = refl
take-pairs (suc i) (s ∷ ss) = ap (λ (ps : List (ℕ × ℕ)). pair_of s ∷ ps) (take-pairs i ss)

-- so many are lent, with their bytes, and the next one's lie from a place on
pub record Lending (b : List ℕ) (i at : ℕ) (segs : List Bytes) (old new : Discipline) : Type 0 where
  pub place : at ≡ body_in b + bytes_of (take i (pairs_in b))
  pub filled : segs ≡ take i (segs_in b)
  pub lent : AreLent old new (map pair_of (take i (segs_in b)))
  pub none : i ≡ 0 → new ≡ old

module _ (b : List ℕ) (h : IsHeader b) (i at : ℕ) (segs : List Bytes) (old asked : Discipline) (l : Lending b i at segs old asked) (lt : i < image_segment_count b) where
  abbrev pair : ℕ × ℕ
  pair = segment_pair_at (20 + 8 * i) b

  -- the bytes at hand
  module _ (size : ℕ) (is : size ≡ field_at (24 + 8 * i) b) where
    abbrev pub bytes : List ℕ
    bytes = take (at + size - at) (drop at b)

    bytes-are : bytes ≡ take pair.1 (drop at b)
    bytes-are = let e = size-is size i b is in ap (λ k. take k (drop at b)) (omega (arith, e))

    pub bytes-within : at + size ≤ length b
    bytes-within = let w = within b h i at l.place lt in let e = size-is size i b is in omega (arith, w, e)

    pub bytes-long : length bytes ≡ pair.1
    bytes-long = ap length bytes-are ∙ long b h i at l.place lt

    pub bytes-legal : IsSegmentSize (length bytes)
    bytes-legal = subst IsSegmentSize (sym bytes-long) (legal b h i at l.place lt).size

    pub bytes-even : first_uneven old.terms.round (map pair_of (contents_of_image b).segs) ≡ None → length bytes % asked.terms.round ≡ 0
    bytes-even even =
        let none = option_map-None (λ (p : ℕ × ℕ). p.0) (find (is_uneven old.terms.round) (pairs_in b)) (sym (ap (first_uneven old.terms.round) (pairs-of b h)) ∙ even) in
        let m = many b in
        let zeros = all-even old.terms.round (pairs_in b) none i pair (omega (arith, lt, m)) in
        let same : (get_or (pairs_in b) i pair).1 ≡ length bytes = ap (λ (p : ℕ × ℕ). p.1) (items-get segment_pair_at 8 b (image_segment_count b) 20 i pair lt) ∙ sym bytes-long in
        ap₂ (λ n r. n % r) (sym same) (ap (λ t. t.round) l.lent.kept.terms) ∙ zeros

    -- the segment at hand
    module _ (number : ℕ) (n : number ≡ field_at (20 + 8 * i) b) where
      abbrev pub filled-segment : Bytes
      filled-segment = record { number = number; bytes = bytes }

      same-segment : filled-segment ≡ segment b h i at l.place lt
      same-segment = λ j. record { number = n j; bytes = bytes-are j }

      module _ (s : Bytes) (e : s ≡ filled-segment) where
        pub first : 1 ≤ s.number
        first = let f = (legal b h i at l.place lt).first in let m = ap (λ (x : Bytes). x.number) e in omega (arith, f, m, n)

        pub last : s.number ≤ 1023
        last = let f = (legal b h i at l.place lt).last in let m = ap (λ (x : Bytes). x.number) e in omega (arith, f, m, n)

        pub unused : IsThere s.number segs → ⊥
        unused used =
            not-there (segment b h i at l.place lt).number (take i (segs_in b)) (new-number b h i at l.place lt)
            (subst (λ k. IsThere k (take i (segs_in b))) (ap (λ (x : Bytes). x.number) (e ∙ same-segment)) (subst (IsThere s.number) l.filled used))

        pub tiled : All (λ x. IsTiled x.bytes) (contents_of_image b).segs → IsTiled s.bytes
        tiled all =
            subst (λ (x : Bytes). IsTiled x.bytes) (segment-is b h i at l.place lt ∙ sym (e ∙ same-segment))
            (segs-each (λ x. IsTiled x.bytes) b all i (segment b h i at l.place lt) (there b h i at l.place lt))

        pub lending-next : (new : Discipline) (segs' : List Bytes) → segs' ≡ segs ++ s ∷ [] → Lent asked new number (length bytes) → Lending b (i + 1) (at + size) segs' old new
        lending-next new segs' more got =
            let p = next-place b h i at l.place lt in
            let w = size-is size i b is in
            let last : s ≡ segment b h i at l.place lt = e ∙ same-segment in
            let all : take (i + 1) (segs_in b) ≡ take i (segs_in b) ++ s ∷ [] = segs-more b h i at l.place lt ∙ ap (λ x. take i (segs_in b) ++ x ∷ []) (sym last) in
            let one : (number, length bytes) ≡ pair_of s = ap pair_of (sym e) in
            record {
              place = omega (arith, p, w);
              filled = more ∙ ap (λ xs. xs ++ s ∷ []) l.filled ∙ sym all;
              lent = record {
                kept = Kept-trans old asked new l.lent.kept got.kept;
                out =
                    got.out
                    ∙ ap₂ (λ (xs : List (ℕ × ℕ)) (q : ℕ × ℕ). xs ++ q ∷ []) l.lent.out one
                    ∙ append_assoc old.out (map pair_of (take i (segs_in b))) (pair_of s ∷ [])
                    ∙ ap (λ xs. old.out ++ xs) (sym (ap (map pair_of) all ∙ map-append pair_of (take i (segs_in b)) (s ∷ [])));
              };
              none = λ z. absurd (omega (arith, z));
            }

      -- it was refused
      pub refused-here : (refused new : Discipline) → Unserved asked refused (length bytes) → TookBack refused new (map pair_of segs) [] → (segs ≡ [] → new ≡ refused) → IsRefused old new (map pair_of (contents_of_image b).segs) number
      refused-here refused new refusal back same =
          let ps = map pair_of (contents_of_image b).segs in
          let m = many b in
          let own : get_or (pairs_in b) i pair ≡ pair = items-get segment_pair_at 8 b (image_segment_count b) 20 i pair lt in
          let few = ap (λ x. take i (map pair_of x)) (segs-are b) ∙ take-pairs i (segs_in b) in
          record {
            place = i;
            size = pair.1;
            there = ap (λ x. slice_get x i) (pairs-of b h) ∙ slice_get-get_or (pairs_in b) i pair (omega (arith, lt, m)) ∙ ap (λ p. Some p) (own ∙ (λ j. (sym n j, pair.1)));
            asked = asked;
            refused = refused;
            lent = subst (AreLent old asked) (sym few) l.lent;
            unserved = subst (Unserved asked refused) bytes-long refusal;
            back = subst (λ x. TookBack refused new x []) (ap (map pair_of) l.filled ∙ sym few) back;
            rose = rose-within old asked refused new (length bytes) l.lent.kept refusal back.kept;
            told = told-within old asked refused new (length bytes) l.lent.kept refusal back.kept;
            twice = twice-within old asked refused new (length bytes) l.lent.kept refusal back.kept;
            first = λ only. by i refl only;
          }
        where
          by : (k : ℕ) → k ≡ i → option_map (λ (p : ℕ × ℕ). p.0) (slice_get (map pair_of (contents_of_image b).segs) 0) ≡ Some number → Unserved old new pair.1
          by zero e only =
              let none : segs ≡ [] = l.filled ∙ ap (λ k. take k (segs_in b)) (sym e) in
              subst (λ d. Unserved old d pair.1) (sym (same none)) (subst (λ d. Unserved d refused pair.1) (l.none (sym e)) (subst (Unserved asked refused) bytes-long refusal))
          by (suc k) e only =
              let m = many b in
              let top : slice_get (map pair_of (contents_of_image b).segs) 0 ≡ Some (get_or (pairs_in b) 0 pair) = ap (λ x. slice_get x 0) (pairs-of b h) ∙ slice_get-get_or (pairs_in b) 0 pair (omega (arith, lt, m)) in
              let named : (get_or (pairs_in b) 0 pair).0 ≡ number = same_Some (get_or (pairs_in b) 0 pair).0 number (sym (ap (option_map (λ (p : ℕ × ℕ). p.0)) top) ∙ only) in
              let own : (get_or (pairs_in b) i pair).0 ≡ number = ap (λ (p : ℕ × ℕ). p.0) (items-get segment_pair_at 8 b (image_segment_count b) 20 i pair lt) ∙ sym n in
              absurd (h.segments.distinct 0 i pair (omega (arith, e)) (omega (arith, lt, m)) (named ∙ sym own))

-- all are lent
pub lent-all : (b : List ℕ) (i at : ℕ) (segs : List Bytes) (old new : Discipline) → IsHeader b → Lending b i at segs old new → image_segment_count b ≤ i → take i (segs_in b) ≡ (contents_of_image b).segs
lent-all b i at segs old new h l le = let m = segs-count b h in take_all i (segs_in b) (omega (arith, le, m)) ∙ sym (segs-are b)

pub lent-whole : (b : List ℕ) (i at : ℕ) (segs : List Bytes) (old new : Discipline) → IsHeader b → Lending b i at segs old new → image_segment_count b ≤ i → AreLent old new (map pair_of (contents_of_image b).segs)
lent-whole b i at segs old new h l le = subst (λ x. AreLent old new (map pair_of x)) (lent-all b i at segs old new h l le) l.lent
