-- The copies of dictionaries from a number on, and of one more.
use Rattle.vc_base.proofs.Common.{◌≡◌, ◌≢◌, ℕ, suc, ◌+◌, ◌<◌, ◌≤◌, ◌^◌, true, false, List, [], ◌∷◌, ◌++◌, length, drop, get_or, Option, Some, None, is_some, refl, sym, ap, ◌∙◌, subst, arith, add-one, append_assoc, append-nil, drop-cons, drop_all, AllByRecursion}
use Rattle.vc_dict.specs.declared.dict.Dict.{Dict}
use Rattle.vc_store.specs.Stores.Copies.{AreFew, copies_from, copy_at, of_kind}

-- their kinds are below 2 ^ 32
abbrev pub Fit : List Dict → Type 0
Fit ds = AllByRecursion (λ d. d.kind < 2 ^ 32) ds

-- those of the dictionaries from a place on
abbrev pub behind : List (Option Dict) → ℕ → List Dict
behind xs n = copies_from n (drop n xs)

pub behind-here : (xs : List (Option Dict)) (n : ℕ) (o : Option Dict) → n < length xs → o ≡ get_or xs n o → behind xs n ≡ copy_at n o ++ behind xs (n + 1)
behind-here xs n o below is =
    ap (copies_from n) (drop-cons xs n o below)
    ∙ (ap (λ z. copies_from n (z ∷ drop (suc n) xs)) (sym is) ∙ ap (λ m. copy_at n o ++ copies_from (n + 1) (drop m xs)) (sym (add-one n)))

pub behind-last : (xs : List (Option Dict)) (n : ℕ) → length xs ≤ n → behind xs n ≡ []
behind-last xs n past = ap (copies_from n) (drop_all n xs past)

pub fit-front : (n : ℕ) (o : Option Dict) (ds : List Dict) → Fit (copy_at n o ++ ds) → Fit (copy_at n o)
fit-front n None ds fit = tt
fit-front n (Some d) ds fit = (fit.0, tt)

pub fit-rest : (n : ℕ) (o : Option Dict) (ds : List Dict) → Fit (copy_at n o ++ ds) → Fit ds
fit-rest n None ds fit = fit
fit-rest n (Some d) ds fit = fit.1

-- so many were copied before a place
pub record Copied (xs : List (Option Dict)) (n : ℕ) (copies : List Dict) : Type 0 where
  pub told : copies ++ behind xs n ≡ copies_from 0 xs
  pub fit : Fit (behind xs n)

pub copied-none : (xs : List (Option Dict)) → AreFew (copies_from 0 xs) → Copied xs 0 []
copied-none xs few = record { told = refl; fit = few.kinds }

module _ (xs : List (Option Dict)) (n : ℕ) (copies : List Dict) (o : Option Dict) (was : Copied xs n copies) (below : n < length xs) (is : o ≡ get_or xs n o) where
  here : behind xs n ≡ copy_at n o ++ behind xs (n + 1)
  here = behind-here xs n o below is

  fits : Fit (copy_at n o ++ behind xs (n + 1))
  fits = subst Fit here was.fit

  pub copied-fits : Fit (copy_at n o)
  copied-fits = fit-front n o (behind xs (n + 1)) fits

  pub copied-more : (new : List Dict) → new ≡ copies ++ copy_at n o → Copied xs (n + 1) new
  copied-more new more = record {
    told = ap (λ ds. ds ++ behind xs (n + 1)) more
        ∙ (append_assoc copies (copy_at n o) (behind xs (n + 1)) ∙ (ap (λ ds. copies ++ ds) (sym here) ∙ was.told));
    fit = fit-rest n o (behind xs (n + 1)) fits;
  }

pub copied-all : (xs : List (Option Dict)) (n : ℕ) (copies : List Dict) → Copied xs n copies → length xs ≤ n → copies ≡ copies_from 0 xs
copied-all xs n copies was past =
    sym (append-nil copies) ∙ (ap (λ ds. copies ++ ds) (sym (behind-last xs n past)) ∙ was.told)

-- so many are there before a place, and an image can tell them
pub record Counted (xs : List (Option Dict)) (n count : ℕ) : Type 0 where
  pub told : count + length (behind xs n) ≡ length (copies_from 0 xs)
  pub most : count ≤ 256
  pub there : Fit (behind xs n) → Fit (copies_from 0 xs)
  pub back : Fit (copies_from 0 xs) → Fit (behind xs n)

pub counted-none : (xs : List (Option Dict)) → Counted xs 0 0
counted-none xs = record {
  told = omega arith;
  most = omega arith;
  there = λ f. f;
  back = λ f. f;
}

module _ (xs : List (Option Dict)) (n count : ℕ) (was : Counted xs n count) (below : n < length xs) where
  -- one more is there
  module _ (d : Dict) (is : Some d ≡ get_or xs n (Some d)) where
    one : behind xs n ≡ of_kind (n + 1) d ∷ behind xs (n + 1)
    one = behind-here xs n (Some d) below is

    counted-some : count ≢ 256 → n + 1 < 2 ^ 32 → Counted xs (n + 1) (count + 1)
    counted-some ne small =
        let long = ap length one in
        let told = was.told in
        let most = was.most in
        record {
          told = omega (arith, long, told);
          most = omega (arith, most, ne);
          there = λ f. was.there (subst Fit (sym one) (small, f));
          back = λ f. (subst Fit one (was.back f)).1;
        }

    many-some : count ≡ 256 → AreFew (copies_from 0 xs) → ⊥
    many-some full few =
        let long = ap length one in
        let told = was.told in
        let most = few.count in
        absurd (omega (arith, long, told, most, full))

    late-some : 2 ^ 32 ≤ n + 1 → AreFew (copies_from 0 xs) → ⊥
    late-some late few =
        let fits = (subst Fit one (was.back few.kinds)).0 in
        absurd (omega (arith, late, fits))

  some-there : (o : Option Dict) → o ≡ get_or xs n o → is_some o ≡ true → (d : Dict) × (Some d ≡ get_or xs n (Some d))
  some-there None is there = absurd (cc)
  some-there (Some d) is there = (d, is)

  module _ (o : Option Dict) (is : o ≡ get_or xs n o) where
    pub counted-there : is_some o ≡ true → count ≢ 256 → n + 1 < 2 ^ 32 → Counted xs (n + 1) (count + 1)
    counted-there there ne small = let it = some-there o is there in counted-some it.0 it.1 ne small

    pub many-there : is_some o ≡ true → count ≡ 256 → AreFew (copies_from 0 xs) → ⊥
    many-there there full few = let it = some-there o is there in many-some it.0 it.1 full few

    pub late-there : is_some o ≡ true → 2 ^ 32 ≤ n + 1 → AreFew (copies_from 0 xs) → ⊥
    late-there there late few = let it = some-there o is there in late-some it.0 it.1 late few

    pub counted-shut : is_some o ≡ false → Counted xs (n + 1) count
    counted-shut shut =
        let here = behind-here xs n o below is in
        let none = ap (λ z. z ++ behind xs (n + 1)) (nothing o shut) in
        let same : behind xs n ≡ behind xs (n + 1) = here ∙ none in
        record {
          told = ap (λ ds. count + length ds) (sym same) ∙ was.told;
          most = was.most;
          there = λ f. was.there (subst Fit (sym same) f);
          back = λ f. subst Fit same (was.back f);
        }
      where
        nothing : (z : Option Dict) → is_some z ≡ false → copy_at n z ≡ []
        nothing None e = refl
        nothing (Some d) e = absurd (cc)

pub counted-all : (xs : List (Option Dict)) (n count : ℕ) → Counted xs n count → length xs ≤ n → AreFew (copies_from 0 xs)
counted-all xs n count was past =
    let none = behind-last xs n past in
    let long = ap length none in
    let told = was.told in
    let most = was.most in
    record { count = omega (arith, long, told, most); kinds = was.there (subst Fit (sym none) tt) }
