-- A segment that is taken back.
use Rattle.vc_base.proofs.Common.{◌≡◌, ℕ, zero, suc, ◌+◌, ◌<◌, ◌≤◌, Bool, true, false, not, ◌&&◌, eqb, leb, ◌≢◌, List, [], ◌∷◌, ◌++◌, map, length, get_or, replicate, ◌==◌, All, Contains, filter, remove, AllPairs, sym, refl, ap, ◌∙◌, subst, ⊎_elim, arith, eq-eqb, ne_eqb, eqb-true, le-leb, nat_tests, and_from, and_left, cases_Bool, lt-leb, or_from, or_left, or_right, All-filter, All-head, All-map, All-tail, filter_agree, list_any-append, AllPairs-filter, count_by-le-length, length-filter, get_or-map, length-map, list_any, Discipline, HasOut, TookBack, same_pair, without_last}
use Rattle.std.proofs.lemmas.List.Elements.{Contains-append_right}
use Rattle.vc_model.specs.Discipline.{extend_last}
use Rattle.vc_model.proofs.Keeping.{Kept-same, Kept-trans}
use Rattle.vc_seg.specs.Segment.{AreSegments, Bytes, IsRegionSegment, pair_of}
use Rattle.vc_seg.specs.Back.{is_kept, is_marked, stays_from}
use Rattle.vc_seg.specs.Numbered.{AreNumbered, IsRegionPair}
use Rattle.vc_seg.proofs.Filters.{filter-filter, filter-all, filter-agree_on}

same_pair-self : (p : ℕ × ℕ) → same_pair p p ≡ true
same_pair-self p = and_from (eqb p.0 p.0) (eqb p.1 p.1) (eq-eqb p.0 p.0 refl) (eq-eqb p.1 p.1 refl)

-- one more pair gets the bytes, whatever stands before it
pub extend_last-push : (p : ℕ × ℕ) (more : ℕ) (xs : List (ℕ × ℕ)) → extend_last p more (xs ++ p ∷ []) ≡ xs ++ (p.0, p.1 + more) ∷ []
extend_last-push p more [] = rw (same_pair-self p) refl
extend_last-push p more (x ∷ xs) =
    let found : list_any (same_pair p) (xs ++ p ∷ []) ≡ true =
    list_any-append (same_pair p) xs (p ∷ []) ∙ or_right (list_any (same_pair p) xs) (list_any (same_pair p) (p ∷ [])) (or_left (same_pair p p) false (same_pair-self p)) in
    rw found (ap (λ (zs : List (ℕ × ℕ)). x ∷ zs) (extend_last-push p more xs))

-- what stands before the last such pair stays
without_last-append : (p : ℕ × ℕ) (xs ys : List (ℕ × ℕ)) → list_any (same_pair p) ys ≡ true → without_last p (xs ++ ys) ≡ xs ++ without_last p ys
without_last-append p [] ys h = refl
without_last-append p (x ∷ xs) ys h =
    let later : list_any (same_pair p) (xs ++ ys) ≡ true = list_any-append (same_pair p) xs ys ∙ or_right (list_any (same_pair p) xs) (list_any (same_pair p) ys) h in
    rw later (ap (λ (zs : List (ℕ × ℕ)). x ∷ zs) (without_last-append p xs ys h))

module _ {A : Type 0} (pair : A → ℕ × ℕ) where
  -- segments of different numbers
  abbrev pub Differ : A → A → Type 0
  Differ a b = (pair a).0 ≢ (pair b).0

  pub Differ-pairs : (ss : List A) → AllPairs (λ s t. s.0 ≢ t.0) (map pair ss) → AllPairs Differ ss
  Differ-pairs ss h =
      λ i j d lt within e.
      h i j (pair d) lt (omega (arith, within, length-map ss pair))
      (ap (λ (p : ℕ × ℕ). p.0) (get_or-map pair ss i d (pair d) (omega (arith, lt, within))) ∙ (e ∙ sym (ap (λ (p : ℕ × ℕ). p.0) (get_or-map pair ss j d (pair d) within))))

  pub pairs-Differ : (ss : List A) → AllPairs Differ ss → AllPairs (λ s t. s.0 ≢ t.0) (map pair ss)
  pairs-Differ [] h = λ i j d lt within. absurd (omega (arith, within))
  pairs-Differ (s ∷ ss) h =
      λ i j d lt within e.
      let all = s ∷ ss in
      let low : j < length all = omega (arith, within, length-map ss pair) in
      h i j s lt low
      (sym (ap (λ (p : ℕ × ℕ). p.0) (get_or-map pair all i s d (omega (arith, lt, low)))) ∙ (e ∙ ap (λ (p : ℕ × ℕ). p.0) (get_or-map pair all j s d low)))

  pub Differ-tail : (s : A) (ss : List A) → AllPairs Differ (s ∷ ss) → AllPairs Differ ss
  Differ-tail s ss h = λ i j d lt within. h (suc i) (suc j) d (omega arith) (omega arith)

  pub Differ-head : (s : A) (ss : List A) → AllPairs Differ (s ∷ ss) → All (Differ s) ss
  Differ-head s ss h = λ k d lt. h 0 (suc k) d (omega arith) (omega arith)

  -- the pair of a segment is no other's
  alone : (s : A) (ss : List A) → All (Differ s) ss → list_any (same_pair (pair s)) (map pair ss) ≡ false
  alone s [] h = refl
  alone s (t ∷ ts) h =
      let other : same_pair (pair s) (pair t) ≡ false = and_left (eqb (pair s).0 (pair t).0) _ (ne_eqb (pair s).0 (pair t).0 (All-head (Differ s) t ts h)) in
      or_from (same_pair (pair s) (pair t)) (list_any (same_pair (pair s)) (map pair ts)) other (alone s ts (All-tail (Differ s) t ts h))

  found : (ss : List A) (i : ℕ) (d : A) → i < length ss → list_any (same_pair (pair (get_or ss i d))) (map pair ss) ≡ true
  found [] i d lt = absurd (omega arith)
  found (s ∷ ss) zero d lt = or_left (same_pair (pair s) (pair s)) (list_any (same_pair (pair s)) (map pair ss)) (same_pair-self (pair s))
  found (s ∷ ss) (suc i) d lt =
      or_right (same_pair (pair (get_or ss i d)) (pair s)) (list_any (same_pair (pair (get_or ss i d))) (map pair ss)) (found ss i d (omega arith))

  without_last-at : (ss : List A) (i : ℕ) (d : A) → AllPairs Differ ss → i < length ss → without_last (pair (get_or ss i d)) (map pair ss) ≡ map pair (remove ss i)
  without_last-at [] i d h lt = absurd (omega arith)
  without_last-at (s ∷ ss) zero d h lt = rw (alone s ss (Differ-head s ss h), same_pair-self (pair s)) refl
  without_last-at (s ∷ ss) (suc i) d h lt =
      rw (found ss i d (omega arith)) (ap (λ (zs : List (ℕ × ℕ)). pair s ∷ zs) (without_last-at ss i d (Differ-tail s ss h) (omega arith)))

  module _ (ss : List A) (i : ℕ) (s : A) (lt : i < length ss) (at : s ≡ get_or ss i s) where
    pub Contains-own : Contains (map pair ss) (pair s)
    Contains-own = (i, omega (arith, length-map ss pair), get_or-map pair ss i s (pair s) lt ∙ ap pair (sym at))

    -- what is out without the segment
    pub without_last-own : AllPairs Differ ss → (rest : List (ℕ × ℕ)) → without_last (pair s) (rest ++ map pair ss) ≡ rest ++ map pair (remove ss i)
    without_last-own h rest =
        let among : list_any (same_pair (pair s)) (map pair ss) ≡ true = subst (λ (t : A). list_any (same_pair (pair t)) (map pair ss) ≡ true) (sym at) (found ss i s lt) in
        let last : without_last (pair s) (map pair ss) ≡ map pair (remove ss i) = subst (λ (t : A). without_last (pair t) (map pair ss) ≡ map pair (remove ss i)) (sym at) (without_last-at ss i s h lt) in
        without_last-append (pair s) rest (map pair ss) among ∙ ap (λ (zs : List (ℕ × ℕ)). rest ++ zs) last

  -- the segment of a number taken out, where there is one
  pub remove-own : (n : ℕ) (ss : List A) (i : ℕ) (d : A) → AllPairs Differ ss → i < length ss → (pair (get_or ss i d)).0 ≡ n → remove ss i ≡ filter (λ s. not ((pair s).0 == n)) ss
  remove-own n [] i d h lt at = absurd (omega arith)
  remove-own n (s ∷ ss) zero d h lt at =
      rw (eq-eqb (pair s).0 n at)
      (sym (filter-all (λ t. not ((pair t).0 == n)) ss (λ k e within. let other : (pair s).0 ≢ (pair (get_or ss k e)).0 = Differ-head s ss h k e within in ap not (ne_eqb (pair (get_or ss k e)).0 n (λ q. other (at ∙ sym q))))))
  remove-own n (s ∷ ss) (suc i) d h lt at =
      let apart : (pair s).0 ≢ (pair (get_or ss i d)).0 = Differ-head s ss h i d (omega arith) in
      rw (ne_eqb (pair s).0 n (λ q. apart (q ∙ sym at))) (ap (λ bs. s ∷ bs) (remove-own n ss i d (Differ-tail s ss h) (omega arith) at))

  pub none-own : (n : ℕ) (ss : List A) → All (λ s. (pair s).0 ≢ n) ss → filter (λ s. not ((pair s).0 == n)) ss ≡ ss
  none-own n ss h = filter-all (λ s. not ((pair s).0 == n)) ss (λ k d lt. ap not (ne_eqb (pair (get_or ss k d)).0 n (h k d lt)))

  pub is_kept-marked : (keeps : ℕ → Bool) (n : ℕ) (ss : List A) → keeps n ≡ true → filter (λ s. is_kept keeps n (pair s).0) ss ≡ ss
  is_kept-marked keeps n ss here =
      filter-all (λ s. is_kept keeps n (pair s).0) ss
      (λ k d lt.
      let m = (pair (get_or ss k d)).0 in
      ⊎_elim
      (λ e. or_left (keeps m) (not (m == n)) (ap keeps (eqb-true m n e) ∙ here))
      (λ e. or_right (keeps m) (not (m == n)) (ap not e))
      (cases_Bool (eqb m n)))

  pub is_kept-unmarked : (keeps : ℕ → Bool) (n : ℕ) (ss : List A) → keeps n ≡ false → filter (λ s. not ((pair s).0 == n)) ss ≡ filter (λ s. is_kept keeps n (pair s).0) ss
  is_kept-unmarked keeps n ss none =
      filter_agree (λ s. not ((pair s).0 == n)) (λ s. is_kept keeps n (pair s).0)
      (λ b.
      ⊎_elim
      (λ e. rw (e, ap keeps (eqb-true (pair b).0 n e) ∙ none) refl)
      (λ e. rw e (sym (or_right (keeps (pair b).0) true refl)))
      (cases_Bool (eqb (pair b).0 n)))
      ss

  pub stays_from-first : (keeps : ℕ → Bool) (ss : List A) → All (λ s. 1 ≤ (pair s).0) ss → filter (λ s. stays_from keeps 1 (pair s).0) ss ≡ ss
  stays_from-first keeps ss h =
      filter-all (λ s. stays_from keeps 1 (pair s).0) ss (λ k d lt. or_left (leb 1 (pair (get_or ss k d)).0) (keeps (pair (get_or ss k d)).0) (le-leb 1 (pair (get_or ss k d)).0 (h k d lt)))

  pub stays_from-more : (keeps : ℕ → Bool) (n : ℕ) (ss : List A) → filter (λ s. is_kept keeps n (pair s).0) (filter (λ s. stays_from keeps n (pair s).0) ss) ≡ filter (λ s. stays_from keeps (n + 1) (pair s).0) ss
  stays_from-more keeps n ss =
      filter-filter (λ s. stays_from keeps n (pair s).0) (λ s. is_kept keeps n (pair s).0) ss
      ∙ filter_agree (λ s. stays_from keeps n (pair s).0 && is_kept keeps n (pair s).0) (λ s. stays_from keeps (n + 1) (pair s).0) (λ b. grind (arith, nat_tests)) ss

  pub stays_from-last : (keeps : ℕ → Bool) (n : ℕ) (ss : List A) → All (λ s. (pair s).0 ≤ 1023) ss → 1024 ≤ n → filter (λ s. stays_from keeps n (pair s).0) ss ≡ filter (λ s. keeps (pair s).0) ss
  stays_from-last keeps n ss h le =
      filter-agree_on (λ s. stays_from keeps n (pair s).0) (λ s. keeps (pair s).0) ss
      (λ k d lt. let last = h k d lt in rw (lt-leb n (pair (get_or ss k d)).0 (omega (arith, last))) refl)

  -- where none is marked none stays
  pub none-marked : (k : ℕ) (ss : List A) → filter (λ s. is_marked (replicate k false) (pair s).0) ss ≡ []
  none-marked k [] = refl
  none-marked k (s ∷ ss) = rw (get-none k (pair s).0) (none-marked k ss)
    where
      get-none : (k n : ℕ) → get_or (replicate k false) n false ≡ false
      get-none zero n = refl
      get-none (suc k) zero = refl
      get-none (suc k) (suc n) = get-none k n

  -- what is true of the numbers of segments is true of those of some of them
  pub ones-filter : (P : ℕ → Type 0) (p : A → Bool) (ss : List A) → All (λ s. P s.0) (map pair ss) → All (λ s. P s.0) (map pair (filter p ss))
  ones-filter P p ss h =
      All-map (λ (s : ℕ × ℕ). P s.0) pair (filter p ss)
      (All-filter p (λ s. P (pair s).0) ss
      (λ k d lt. subst (λ (s : ℕ × ℕ). P s.0) (get_or-map pair ss k d (pair d) lt) (h k (pair d) (omega (arith, lt, length-map ss pair)))))

  pub first-own : (ss : List A) → AreNumbered (map pair ss) → All (λ s. 1 ≤ (pair s).0) ss
  first-own ss h = λ k d lt. subst (λ (s : ℕ × ℕ). 1 ≤ s.0) (get_or-map pair ss k d (pair d) lt) (h.legal k (pair d) (omega (arith, lt, length-map ss pair))).first

  pub last-own : (ss : List A) → AreNumbered (map pair ss) → All (λ s. (pair s).0 ≤ 1023) ss
  last-own ss h = λ k d lt. subst (λ (s : ℕ × ℕ). s.0 ≤ 1023) (get_or-map pair ss k d (pair d) lt) (h.legal k (pair d) (omega (arith, lt, length-map ss pair))).last

pub Contains-ends : (out ys : List (ℕ × ℕ)) (p : ℕ × ℕ) → (rest : List (ℕ × ℕ)) × (out ≡ rest ++ ys) → Contains ys p → Contains out p
Contains-ends out ys p h among = subst (λ (o : List (ℕ × ℕ)). Contains o p) (sym h.1) (Contains-append_right h.0 ys p among)

pub TookBack-none : (d : Discipline) (held : List (ℕ × ℕ)) → TookBack d d held held
TookBack-none d held = record { kept = Kept-same d; faults = refl; exceptions = refl; out = λ rest e. e }

pub TookBack-more : (a b c : Discipline) (held some left : List (ℕ × ℕ)) → TookBack a b held some → TookBack b c some left → TookBack a c held left
TookBack-more a b c held some left h k = record { kept = Kept-trans a b c h.kept k.kept; faults = k.faults ∙ h.faults; exceptions = k.exceptions ∙ h.exceptions; out = λ rest e. k.out rest (h.out rest e) }

-- what is left is still the end of what is out
pub HasOut-left : (a b : Discipline) (held left : List (ℕ × ℕ)) → TookBack a b held left → HasOut a held → HasOut b left
HasOut-left a b held left h e = (e.0, h.out e.0 e.1)

-- segments with their bytes of different numbers
abbrev pub Apart : Bytes → Bytes → Type 0
Apart a b = a.number ≢ b.number

pub Apart-tail : (s : Bytes) (ss : List Bytes) → AllPairs Apart (s ∷ ss) → AllPairs Apart ss
Apart-tail s ss h = Differ-tail pair_of s ss h

-- some of a region's segments are as legal
pub AreSegments-filter : (p : Bytes → Bool) (ss : List Bytes) → AreSegments ss → AreSegments (filter p ss)
AreSegments-filter p ss h =
    record {
      few = let few = h.few in omega (arith, length-filter p ss, count_by-le-length p ss, few);
      legal = All-filter p IsRegionSegment ss h.legal;
      distinct = AllPairs-filter Apart p ss h.distinct;
    }

-- a region's segments as number and size
pub AreNumbered-segments : (ss : List Bytes) → AreSegments ss → AreNumbered (map pair_of ss)
AreNumbered-segments ss h =
    record {
      few = let few = h.few in omega (arith, length-map ss pair_of, few);
      legal = All-map IsRegionPair pair_of ss h.legal;
      distinct = pairs-Differ pair_of ss h.distinct;
    }
