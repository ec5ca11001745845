-- The marks of so many segments of an image.
use Rattle.vc_base.proofs.Common.{◌≡◌, ◌≢◌, ℕ, zero, suc, ◌+◌, ◌*◌, ◌/◌, ◌%◌, ◌<◌, ◌≤◌, List, [], ◌∷◌, ◌++◌, ◌==◌, if◌then◌else◌, length, get_or, set, replicate, take, drop, Vec, Global, sym, refl, ap, ap₂, ◌∙◌, subst, arith, inl, inr, eq-eqb, ne_eqb, cases_eq, cases_lt, get_or-set_other, get_or-set_same, length-set, length-replicate, length-map, map-append, map-set, get_or-map, add-one, take_all, true≢false}
use Rattle.vc_seg.specs.Budget.{bytes_of}
use Rattle.vc_seg.specs.Memory.{bytes_of_number}
use Rattle.vc_seg.specs.Segment.{Bytes}
use Rattle.vc_extent.specs.Change.{extent_in}
use Rattle.vc_extent.specs.Extent.{extents}
use Rattle.vc_extent.specs.Tiling.{IsThere, extents_of, tiling}
use Rattle.vc_image_check.specs.Bytes.Contents.{body_in, contents_of_image, image_segment_count, pairs_in, segment_pair_at}
use Rattle.vc_image_check.specs.Bytes.Header.{IsHeader}
use Rattle.vc_image_check.specs.Laws.Segs.{legal, long, new-number, next-place, segment_by, segs-are, segs-more, segs_in}
use Rattle.vc_image_check.specs.Marks.Mark.{AreMarks, HasMark, HasMarkIn, IsMarked, lists, mark_at, mark_of}

-- one more segment under another number, or under that number, which none before it has
extents-other : (n : ℕ) (ss : List Bytes) (s : Bytes) → s.number ≢ n → extents_of n (tiling (ss ++ s ∷ [])) ≡ extents_of n (tiling ss)
extents-other n [] s ne = rw (ne_eqb s.number n ne) refl
extents-other n (t ∷ ts) s ne = ap (λ z. if t.number == n then extents t.bytes else z) (extents-other n ts s ne)

bytes-other : (n : ℕ) (ss : List Bytes) (s : Bytes) → s.number ≢ n → bytes_of_number n (ss ++ s ∷ []) ≡ bytes_of_number n ss
bytes-other n [] s ne = rw (ne_eqb s.number n ne) refl
bytes-other n (t ∷ ts) s ne = ap (λ z. if t.number == n then t.bytes else z) (bytes-other n ts s ne)

there-other : (n : ℕ) (ss : List Bytes) (s : Bytes) → s.number ≢ n → IsThere n (ss ++ s ∷ []) → IsThere n ss
there-other n [] s ne h = absurd (true≢false (sym (rw (ne_eqb s.number n ne) at h)))
there-other n (t ∷ ts) s ne h = elim (cases_eq t.number n) as (λ _. IsThere n (t ∷ ts)) [
  | inl same ↦ rw (eq-eqb t.number n same) refl
  | inr other ↦ rw (ne_eqb t.number n other) (there-other n ts s ne (rw (ne_eqb t.number n other) at h))
]

abbrev Apart : ℕ → List Bytes → Type 0
Apart n ss = (j : ℕ) (d : Bytes) → j < length ss → (get_or ss j d).number ≢ n

apart-tail : (n : ℕ) (t : Bytes) (ts : List Bytes) → Apart n (t ∷ ts) → Apart n ts
apart-tail n t ts a j d lt = a (suc j) d (omega (arith, lt))

extents-same : (n : ℕ) (ss : List Bytes) (s : Bytes) → s.number ≡ n → Apart n ss → extents_of n (tiling (ss ++ s ∷ [])) ≡ extents s.bytes
extents-same n [] s e a = rw (eq-eqb s.number n e) refl
extents-same n (t ∷ ts) s e a = rw (ne_eqb t.number n (a 0 t (omega arith))) (extents-same n ts s e (apart-tail n t ts a))

bytes-same : (n : ℕ) (ss : List Bytes) (s : Bytes) → s.number ≡ n → Apart n ss → bytes_of_number n (ss ++ s ∷ []) ≡ s.bytes
bytes-same n [] s e a = rw (eq-eqb s.number n e) refl
bytes-same n (t ∷ ts) s e a = rw (ne_eqb t.number n (a 0 t (omega arith))) (bytes-same n ts s e (apart-tail n t ts a))

-- where the bytes of a segment begin
abbrev Begins : List ℕ → List ℕ → List Bytes → ℕ → Type 0
Begins b places ss n = take (length (bytes_of_number n ss)) (drop (get_or places n 0) b) ≡ bytes_of_number n ss

pub record Filled (b : List ℕ) (rows : List (List ℕ)) (places : List ℕ) (i at : ℕ) : Type 0 where
  pub place : at ≡ body_in b + bytes_of (take i (pairs_in b))
  pub many : length rows ≡ 1024
  pub all : length places ≡ 1024
  pub marks : (n k : ℕ) → get_or (get_or rows n []) k 0 ≡ mark_of (extent_in (k * 32) (extents_of n (tiling (take i (segs_in b)))))
  pub bytes : (n : ℕ) → IsThere n (take i (segs_in b)) → Begins b places (take i (segs_in b)) n

none-there : (m n k : ℕ) → get_or (get_or (replicate m []) n []) k 0 ≡ zero
none-there zero n k = refl
none-there (suc m) zero k = refl
none-there (suc m) (suc n) k = none-there m n k

pub filled-start : (b : List ℕ) (rows : List (List ℕ)) (places : List ℕ) (at : ℕ) → rows ≡ replicate 1024 [] → length places ≡ 1024 → at ≡ body_in b → Filled b rows places 0 at
filled-start b rows places at e all p = record {
  place = omega (arith, p);
  many = ap length e ∙ length-replicate {A = List ℕ} 1024 [];
  all = all;
  marks = λ n k. ap (λ z. get_or (get_or z n []) k 0) e ∙ none-there 1024 n k;
  bytes = λ n h. absurd (true≢false (sym h));
}

pub filled-next : (b : List ℕ) (h : IsHeader b) (rows rows' : List (List ℕ)) (places places' : List ℕ) (i at number size : ℕ) (row : List ℕ)
    → Filled b rows places i at → i < image_segment_count b → number ≡ (segment_pair_at (20 + 8 * i) b).0 → size ≡ (segment_pair_at (20 + 8 * i) b).1
    → AreMarks (take size (drop at b)) row → rows' ≡ set rows number row → places' ≡ set places number at → Filled b rows' places' (i + 1) (at + size)
filled-next b h rows rows' places places' i at number size row f lt en es marks er ep =
    let ss = take i (segs_in b) in
    let p : ℕ × ℕ = segment_pair_at (20 + 8 * i) b in
    let s : Bytes = segment_by p at b in
    let more : take (i + 1) (segs_in b) ≡ ss ++ s ∷ [] = segs-more b h i at f.place lt in
    let new : Apart number ss = λ j d low same. new-number b h i at f.place lt j d low (same ∙ en) in
    let last = (legal b h i at f.place lt).last in
    let bytes-are : s.bytes ≡ take size (drop at b) = ap (λ z. take z (drop at b)) (sym es) in
    let many = f.many in
    let all = f.all in
    let row-here : get_or rows' number [] ≡ row = ap (λ z. get_or z number []) er ∙ get_or-set_same rows number row [] (omega (arith, many, last, en)) in
    let place-here : get_or places' number 0 ≡ at = ap (λ z. get_or z number 0) ep ∙ get_or-set_same places number at 0 (omega (arith, all, last, en)) in
    let next = next-place b h i at f.place lt in
    record {
      place = omega (arith, next, es);
      many = ap length er ∙ length-set rows number row ∙ f.many;
      all = ap length ep ∙ length-set places number at ∙ f.all;
      marks = λ n k. elim (cases_eq n number) as (λ _. get_or (get_or rows' n []) k 0 ≡ mark_of (extent_in (k * 32) (extents_of n (tiling (take (i + 1) (segs_in b)))))) [
        | inl same ↦
            subst (λ z. get_or (get_or rows' z []) k 0 ≡ mark_of (extent_in (k * 32) (extents_of z (tiling (take (i + 1) (segs_in b)))))) (sym same)
            (ap (λ z. get_or z k 0) row-here ∙ marks.each k
            ∙ ap (λ z. mark_of (extent_in (k * 32) z)) (sym (ap (λ z. extents_of number (tiling z)) more ∙ extents-same number ss s (sym en) new ∙ ap extents bytes-are)))
        | inr other ↦
            ap (λ z. get_or (get_or z n []) k 0) er ∙ ap (λ z. get_or z k 0) (get_or-set_other rows number n row [] other) ∙ f.marks n k
            ∙ ap (λ z. mark_of (extent_in (k * 32) z)) (sym (ap (λ z. extents_of n (tiling z)) more ∙ extents-other n ss s (λ q. other (sym (en ∙ q)))))
      ];
      bytes = λ n there. elim (cases_eq n number) as (λ _. Begins b places' (take (i + 1) (segs_in b)) n) [
        | inl same ↦
            let is : bytes_of_number number (take (i + 1) (segs_in b)) ≡ s.bytes = ap (bytes_of_number number) more ∙ bytes-same number ss s (sym en) new in
            subst (Begins b places' (take (i + 1) (segs_in b))) (sym same)
            (ap₂ (λ x y. take (length x) (drop y b)) is place-here ∙ ap (λ z. take z (drop at b)) (long b h i at f.place lt) ∙ sym is)
        | inr other ↦
            let ne : s.number ≢ n = λ q. other (sym (en ∙ q)) in
            let is : bytes_of_number n (take (i + 1) (segs_in b)) ≡ bytes_of_number n ss = ap (bytes_of_number n) more ∙ bytes-other n ss s ne in
            let kept : get_or places' n 0 ≡ get_or places n 0 = ap (λ z. get_or z n 0) ep ∙ get_or-set_other places number n at 0 other in
            ap₂ (λ x y. take (length x) (drop y b)) is kept ∙ f.bytes n (there-other n ss s ne (subst (IsThere n) more there)) ∙ sym is
      ];
    }

pub filled-end : (b : List ℕ) (h : IsHeader b) (rows : List (List ℕ)) (places : List ℕ) (i at : ℕ) → Filled b rows places i at → length (segs_in b) ≤ i → IsMarked b rows places
filled-end b h rows places i at f le =
    let whole : take i (segs_in b) ≡ (contents_of_image b).segs = take_all i (segs_in b) le ∙ sym (segs-are b) in
    record {
      marks = λ a. f.marks (a / 1048576) (a % 1048576) ∙ ap (λ z. mark_of (extent_in (a % 1048576 * 32) (extents_of (a / 1048576) (tiling z)))) whole;
      bytes = λ n there. subst (λ z. Begins b places z n) whole (f.bytes n (subst (IsThere n) (sym whole) there));
    }

replicate-push : {X : Type 0} (n : ℕ) (x : X) → replicate (suc n) x ≡ replicate n x ++ x ∷ []
replicate-push zero x = refl
replicate-push (suc n) x = ap (λ z. x ∷ z) (replicate-push n x)

-- one row more with no marks
pub rows-push : (rows rows' : List (Vec ℕ Global)) (n : ℕ) (row : Vec ℕ Global) → lists rows ≡ replicate n [] → rows' ≡ rows ++ row ∷ [] → row.items ≡ [] → lists rows' ≡ replicate (n + 1) []
rows-push rows rows' n row h e none =
    ap lists e ∙ map-append (λ (r : Vec ℕ Global). r.items) rows (row ∷ []) ∙ ap₂ (λ x y. x ++ y ∷ []) h none ∙ sym (replicate-push n []) ∙ ap (λ k. replicate k []) (sym (add-one n))

-- a row of vectors, and another one in its place
pub row-of : (rows : List (Vec ℕ Global)) (n : ℕ) (row : Vec ℕ Global) → row ≡ get_or rows n row → n < length (lists rows) → row.items ≡ get_or (lists rows) n []
row-of rows n row e lt =
    let l = length-map rows (λ (r : Vec ℕ Global). r.items) in
    ap (λ (r : Vec ℕ Global). r.items) e ∙ sym (get_or-map (λ (r : Vec ℕ Global). r.items) rows n row [] (omega (arith, l, lt)))

pub lists-set : (rows : List (Vec ℕ Global)) (n : ℕ) (row : Vec ℕ Global) → lists (set rows n row) ≡ set (lists rows) n row.items
lists-set rows n row = map-set (λ (r : Vec ℕ Global). r.items) rows n row

past : {X : Type 0} (xs : List X) (k : ℕ) (d : X) → length xs ≤ k → get_or xs k d ≡ d
past [] k d le = refl
past (x ∷ xs) zero d le = absurd (omega (arith, le))
past (x ∷ xs) (suc k) d le = past xs k d (omega (arith, le))

pub inside : {X : Type 0} (xs : List X) (k : ℕ) (d : X) → (get_or xs k d ≡ d → ⊥) → k < length xs
inside xs k d some = elim (cases_lt k (length xs)) as (λ _. k < length xs) [
  | inl lt ↦ lt
  | inr le ↦ absurd (some (past xs k d le))
]

-- another mark of an address that has one
module _ (rows : List (List ℕ)) (a mark : ℕ) (some : mark_at rows a ≡ 0 → ⊥) where
  abbrev number : ℕ
  number = a / 1048576

  abbrev place : ℕ
  place = a % 1048576

  abbrev row : List ℕ
  row = get_or rows number []

  pub row-there : number < length rows
  row-there = inside rows number [] (λ e. some (ap (λ z. get_or z place 0) e))

  pub mark-there : place < length row
  mark-there = inside row place 0 some

  abbrev rows' : List (List ℕ)
  rows' = set rows number (set row place mark)

  pub marked-set : (b : ℕ) → mark_at rows' b ≡ (if b == a then mark else mark_at rows b)
  marked-set b = elim (cases_eq b a) as (λ _. mark_at rows' b ≡ (if b == a then mark else mark_at rows b)) [
    | inl same ↦
        rw (eq-eqb b a same)
        (subst (λ z. mark_at rows' z ≡ mark) (sym same)
        (ap (λ z. get_or z place 0) (get_or-set_same rows number (set row place mark) [] row-there) ∙ get_or-set_same row place mark 0 mark-there))
    | inr other ↦
        rw (ne_eqb b a other)
        (elim (cases_eq (b / 1048576) number) as (λ _. mark_at rows' b ≡ mark_at rows b) [
          | inl same ↦
              let ne : b % 1048576 ≡ place → ⊥ = λ e. other (omega (arith, same, e)) in
              ap (λ z. get_or z (b % 1048576) 0) (ap (λ z. get_or rows' z []) same ∙ get_or-set_same rows number (set row place mark) [] row-there)
              ∙ get_or-set_other row place (b % 1048576) mark 0 ne
              ∙ ap (λ z. get_or (get_or rows z []) (b % 1048576) 0) (sym same)
          | inr far ↦ ap (λ z. get_or z (b % 1048576) 0) (get_or-set_other rows number (b / 1048576) (set row place mark) [] far)
        ])
  ]

pub row-items : (rows : List (Vec ℕ Global)) → length (lists rows) ≡ length rows
row-items rows = length-map rows (λ (r : Vec ℕ Global). r.items)

-- a mark in a row is that of an address
pub has-mark : (rows : List (List ℕ)) (n mark : ℕ) → HasMarkIn (get_or rows n []) mark → HasMark rows mark
has-mark rows n mark h =
    let low = h.low in
    let a = n * 1048576 + h.place in
    let number : a / 1048576 ≡ n = omega (arith, low) in
    let place : a % 1048576 ≡ h.place = omega (arith, low) in
    record { address = a; is = ap₂ (λ x y. get_or (get_or rows x []) y 0) number place ∙ h.is }

pub no-mark : (rows : List (List ℕ)) (mark : ℕ) → 1 ≤ mark → ((n : ℕ) → n < length rows → HasMarkIn (get_or rows n []) mark → ⊥) → (a : ℕ) → mark_at rows a ≡ mark → ⊥
no-mark rows mark some none a e =
    let there : a / 1048576 < length rows = inside rows (a / 1048576) [] (λ q. let z : mark_at rows a ≡ 0 = ap (λ z. get_or z (a % 1048576) 0) q in omega (arith, z, e, some)) in
    none (a / 1048576) there (record { place = a % 1048576; low = omega arith; is = e })
