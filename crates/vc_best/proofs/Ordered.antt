-- Blocks by address leave gaps that need no sorting.
use Rattle.vc_base.proofs.Common.{◌≡◌, ℕ, ◌-◌, ◌<◌, ◌≤◌, Bool, eqb, ltb, List, [], ◌∷◌, ◌++◌, length, get_or, Some, fold, All, filter, AllPairs, find, refl, ap, ◌∙◌, ⊎_elim, arith, le-ltb, lt-ltb, eqb-true, cases_Bool, All-filter, All-head, All-map, All-tail, filter_passes, AllPairs-filter, Run, gaps, gaps_between, Block, footprint, footprints, least_above, lesser_by, put_by, EndsBefore}
use Rattle.vc_model.specs.Gap.{runs_in}
use Rattle.vc_model.specs.Order.{sorted_by}
use Rattle.vc_model.proofs.Pairs.{AllPairs-head, AllPairs-tail}
use Rattle.vc_base.proofs.Places.{span-least}
use Rattle.vc_seg.proofs.Lists.{AllPairs-map}
use Rattle.vc_best.proofs.LeftGaps.{gaps_left, gaps_left_in}
use Rattle.vc_best.proofs.Apart.{Before}

module _ {A : Type 0} (key : A → ℕ) where
  -- one key is below another
  abbrev pub Less : A → A → Type 0
  Less x y = key x < key y

  put_by-first : (x : A) (xs : List A) → All (Less x) xs → put_by key x xs ≡ x ∷ xs
  put_by-first x [] h = refl
  put_by-first x (y ∷ ys) h = rw (lt-ltb (key x) (key y) (All-head (Less x) y ys h)) refl

  -- such a list is sorted already
  sorted_by-ascending : (xs : List A) → AllPairs Less xs → sorted_by key xs ≡ xs
  sorted_by-ascending [] h = refl
  sorted_by-ascending (x ∷ xs) h =
      ap (put_by key x) (sorted_by-ascending xs (AllPairs-tail Less x xs h)) ∙ put_by-first x xs (AllPairs-head Less x xs h)

  lesser_by-keeps : (x : A) (xs : List A) → All (Less x) xs → fold (lesser_by key) (Some x) xs ≡ Some x
  lesser_by-keeps x [] h = refl
  lesser_by-keeps x (y ∷ ys) h =
      let low : key x < key y = All-head (Less x) y ys h in
      rw (le-ltb (key y) (key x) (omega (arith, low))) (lesser_by-keeps x ys (All-tail (Less x) y ys h))

  -- the item with the least key above one is the first that has a key above it
  pub least_above-first : (after : ℕ) (xs : List A) → AllPairs Less xs → least_above key after xs ≡ find (λ x. ltb after (key x)) xs
  least_above-first after [] h = refl
  least_above-first after (x ∷ xs) h =
      let test : A → Bool = λ y. ltb after (key y) in
      ⊎_elim
      (λ e. rw e (lesser_by-keeps x (filter test xs) (All-filter test (Less x) xs (AllPairs-head Less x xs h))))
      (λ e. rw e (least_above-first after xs (AllPairs-tail Less x xs h)))
      (cases_Bool (ltb after (key x)))

-- the footprints of blocks by address are sorted already
runs_in-left : (n : ℕ) (bs : List (Block ℕ)) → AllPairs Before bs → runs_in n (footprints bs) ≡ filter (λ f. eqb f.seg n) (footprints bs)
runs_in-left n bs h =
    let test : Run → Bool = λ f. eqb f.seg n in
    let own : List Run = filter test (footprints bs) in
    let P : Run → Type 0 = λ f. f.from < f.to in
    let some : All P own = All-filter test P (footprints bs) (All-map P footprint bs (λ k d lt. let low = span-least (get_or bs k d).size in omega (arith, low))) in
    let pairs = AllPairs-filter EndsBefore test (footprints bs) (AllPairs-map EndsBefore footprint bs h) in
    sorted_by-ascending (λ (f : Run). f.from) own
    (λ i j d lt within.
    let first : i < length own = omega (arith, lt, within) in
    let x : Run = get_or own i d in
    let y : Run = get_or own j d in
    let one : x.seg ≡ n = eqb-true x.seg n (filter_passes test (footprints bs) i d first) in
    let two : y.seg ≡ n = eqb-true y.seg n (filter_passes test (footprints bs) j d within) in
    let order : x.from < x.to = some i d first in
    ⊎_elim
    (λ u. absurd (omega (arith, u, one, two)))
    (λ u. let le : x.to ≤ y.from = u.1 in omega (arith, order, le))
    (pairs i j d lt within))

-- so their gaps are those that they leave
pub gaps-left : (segments : List (ℕ × ℕ)) (bs : List (Block ℕ)) → AllPairs Before bs → gaps segments (footprints bs) ≡ gaps_left segments (footprints bs)
gaps-left [] bs h = refl
gaps-left (s ∷ ss) bs h =
    ap (λ fs. gaps_between s.0 16 (s.1 - 16) fs ++ gaps ss (footprints bs)) (runs_in-left s.0 bs h)
    ∙ ap (λ gs. gaps_left_in (footprints bs) s ++ gs) (gaps-left ss bs h)
