-- Blocks that are taken one by one, and what their marks tell then.
use Rattle.vc_base.proofs.Common.{◌≡◌, ℕ, suc, ◌+◌, ◌<◌, ◌≤◌, Bool, true, false, ◌||◌, ◌==◌, if◌then◌else◌, List, [], ◌∷◌, ◌++◌, length, get_or, take, drop, AreDistinct, contains, sym, refl, ap, ◌∙◌, subst, arith, inl, inr, ⊎_elim, true≢false, eq-eqb, ne_eqb, cases_eq, cases_lt, drop-cons, list_any-append}
use Rattle.std.proofs.lemmas.Grind.{take_at_read}
use Rattle.std.proofs.lemmas.List.{take-append-drop}
use Rattle.vc_base.specs.Cells.{Blocks}
use Rattle.vc_base.proofs.Members.{first-apart, within-cases, within-either, within-head, within-rest}
use Rattle.vc_dtdisc.specs.Rules.{Rules}
use Rattle.vc_image_check.specs.Bytes.Image.{DictRow}
use Rattle.vc_image_check.specs.Marks.Mark.{mark_at}
use Rattle.vc_image_check.specs.Blocks.Blocks.{HasBlockMarks, image_blocks}
use Rattle.vc_image_check.specs.Laws.BlockLaws.{marked-none}
use Rattle.vc_image_check.specs.Dicts.Sound.{IsSoundDict, IsSoundRow, heads_of, own_in, own_of}
use Rattle.vc_image_check.specs.Dicts.Taken.{AreMarkedTaken}
use Rattle.vc_image_check.proofs.Owning.{AreThere, own-there}

-- one more at the end is in a list or not
contains-other : (ys : List ℕ) (x a : ℕ) → (a ≡ x → ⊥) → contains (ys ++ x ∷ []) a ≡ contains ys a
contains-other [] x a ne = rw (ne_eqb x a (λ e. ne (sym e))) refl
contains-other (y ∷ ys) x a ne = ap (λ z. (y == a) || z) (contains-other ys x a ne)

module _ (old : List (List ℕ)) (xs : List ℕ) where
  take-more : (i : ℕ) → i < length xs → take (i + 1) xs ≡ take i xs ++ get_or xs i 0 ∷ []
  take-more i lt = (take_at_read xs i 0 lt).1

  -- the first so many were free, and are taken
  pub record Taking (mid : List (List ℕ)) (i : ℕ) : Type 0 where
    pub free : (a : ℕ) → contains (take i xs) a ≡ true → mark_at old a ≡ 3
    pub marks : (a : ℕ) → mark_at mid a ≡ (if contains (take i xs) a then 4 else mark_at old a)

  -- the next one is none of them
  fresh : AreDistinct xs → (i : ℕ) → i < length xs → contains (take i xs) (get_or xs i 0) ≡ false
  fresh d i lt = first-apart (take i xs) (get_or xs i 0) (drop (suc i) xs) (subst AreDistinct (sym (take-append-drop i xs) ∙ ap (λ z. take i xs ++ z) (drop-cons xs i 0 lt)) d)

  was : AreDistinct xs → (mid : List (List ℕ)) (i : ℕ) → i < length xs → Taking mid i → mark_at mid (get_or xs i 0) ≡ mark_at old (get_or xs i 0)
  was d mid i lt t = t.marks (get_or xs i 0) ∙ rw (fresh d i lt) refl

  pub taking-next : AreDistinct xs → (mid new : List (List ℕ)) (i x : ℕ) → i < length xs → x ≡ get_or xs i 0 → mark_at mid x ≡ 3
      → ((b : ℕ) → mark_at new b ≡ (if b == x then 4 else mark_at mid b)) → Taking mid i → Taking new (i + 1)
  taking-next d mid new i x lt is here set t =
      let more : take (i + 1) xs ≡ take i xs ++ x ∷ [] = take-more i lt ∙ ap (λ z. take i xs ++ z ∷ []) (sym is) in
      record {
        free = λ a w.
            ⊎_elim
            (λ (k : contains (take i xs) a ≡ true). t.free a k)
            (λ (k : contains (x ∷ []) a ≡ true).
            ⊎_elim
            (λ (e : x ≡ a). subst (λ z. mark_at old z ≡ 3) e (subst (λ z. mark_at old z ≡ 3) (sym is) (sym (was d mid i lt t) ∙ ap (mark_at mid) (sym is) ∙ here)))
            (λ (e : false ≡ true). absurd (true≢false (sym e)))
            (within-cases x [] a k))
            (within-either (take i xs) (x ∷ []) a (subst (λ z. contains z a ≡ true) more w));
        marks = λ a. elim (cases_eq a x) as (λ _. mark_at new a ≡ (if contains (take (i + 1) xs) a then 4 else mark_at old a)) [
          | inl same ↦
              let there : contains (take (i + 1) xs) a ≡ true =
              ap (λ z. contains z a) more ∙ subst (λ z. contains (take i xs ++ x ∷ []) z ≡ true) (sym same) (within-rest (take i xs) (x ∷ []) x (within-head x [])) in
              set a ∙ rw (eq-eqb a x same, there) refl
          | inr other ↦
              let less : contains (take (i + 1) xs) a ≡ contains (take i xs) a = ap (λ z. contains z a) more ∙ contains-other (take i xs) x a other in
              set a ∙ rw (ne_eqb a x other, less) (t.marks a)
        ];
      }

  pub taking-not : AreDistinct xs → (mid : List (List ℕ)) (i x : ℕ) → i < length xs → x ≡ get_or xs i 0 → (mark_at mid x ≡ 3 → ⊥) → Taking mid i
      → ((a : ℕ) → contains xs a ≡ true → mark_at old a ≡ 3) → ⊥
  taking-not d mid i x lt is never t all =
      let within : contains xs (get_or xs i 0) ≡ true =
      subst (λ z. contains z (get_or xs i 0) ≡ true) (take-append-drop i xs)
      (within-rest (take i xs) (drop i xs) (get_or xs i 0) (subst (λ z. contains z (get_or xs i 0) ≡ true) (sym (drop-cons xs i 0 lt)) (within-head (get_or xs i 0) (drop (suc i) xs)))) in
      never (ap (mark_at mid) is ∙ was d mid i lt t ∙ all (get_or xs i 0) within)

-- a sound dictionary's blocks
module _ (kinds : List Rules) (b : Blocks) (r : DictRow) where
  own-is : (s : IsSoundRow kinds b r) → own_of b r ≡ own_in s.method b r.count (heads_of r)
  own-is s = rw s.numbered refl

  pub row-there : IsSoundRow kinds b r → AreThere b (own_of b r)
  row-there s = subst (AreThere b) (sym (own-is s)) (own-there s.method s.rules b r.count (heads_of r) s.by.holders)

or-false : (t : Bool) → (t || false) ≡ t
or-false true = refl
or-false false = refl

-- it has none that was taken exactly where the marks of all are 3
module _ (kinds : List Rules) (image : List ℕ) (rows : List (List ℕ)) (places : List ℕ) (r : DictRow) (known : HasBlockMarks image rows places) (s : IsSoundRow kinds (image_blocks image) r) where
  abbrev own : List ℕ
  own = own_of (image_blocks image) r

  marked : (a : ℕ) → contains own a ≡ true → 3 ≤ mark_at rows a
  marked a w = elim (cases_lt (mark_at rows a) 3) as (λ _. 3 ≤ mark_at rows a) [
    | inl low ↦
        let none = ap length (marked-none image rows places a ∣ known ∣₁ low) in
        let some = (row-there kinds (image_blocks image) r s).bytes a w in
        absurd (omega (arith, none, some))
    | inr high ↦ high
  ]

  module _ (taken : List ℕ) (are : AreMarkedTaken rows taken) where
    pub free-sound : ((a : ℕ) → contains own a ≡ true → mark_at rows a ≡ 3) → IsSoundDict kinds (image_blocks image) taken r
    free-sound all = record { row = s; apart = λ a w. by a w (contains taken a) refl }
      where
        by : (a : ℕ) → contains own a ≡ true → (t : Bool) → contains taken a ≡ t → contains taken a ≡ false
        by a w true e =
            let free = all a w in
            let is : mark_at rows a ≡ 4 = are a (marked a w) ∙ rw e refl in
            absurd (omega (arith, free, is))
        by a w false e = e

    pub sound-free : IsSoundDict kinds (image_blocks image) taken r → (a : ℕ) → contains own a ≡ true → mark_at rows a ≡ 3
    sound-free d a w = are a (marked a w) ∙ rw (d.apart a w) refl

    pub more-taken : (new : List (List ℕ)) → ((a : ℕ) → mark_at new a ≡ (if contains own a then 4 else mark_at rows a)) → AreMarkedTaken new (taken ++ own)
    more-taken new set a high = by (contains own a) refl
      where
        by : (t : Bool) → contains own a ≡ t → mark_at new a ≡ (if contains (taken ++ own) a then 4 else 3)
        by true e = set a ∙ rw (e, within-rest taken own a e) refl
        by false e =
            let same : mark_at new a ≡ mark_at rows a = set a ∙ rw e refl in
            let less : contains (taken ++ own) a ≡ contains taken a = list_any-append (λ z. z == a) taken own ∙ rw e (or-false (contains taken a)) in
            same ∙ are a (subst (λ z. 3 ≤ z) same high) ∙ sym (rw less refl)
