-- Lists of blocks with any labels, and the one at a place.
use Rattle.vc_base.proofs.Common.{◌≡◌, ℕ, true, false, cond, ◌≢◌, List, [], ◌∷◌, Some, AllPairs, sym, ap, ◌∙◌, subst, ⊎_elim, cases_Bool, none-some, same_Some, AllByRecursion, Block, address_of, is_at, lies_before, with_block, without_block, HaveOwnPlaces, change_block, find_block}
use Rattle.vc_model.proofs.Pairs.{AllPairs-head, AllPairs-tail, all-recursion}
use Rattle.vc_base.proofs.Quantifiers.{all-weaken}

module _ {L : Type 0} where
  -- what holds of blocks holds where one more is among them, or one is changed
  pub all-with : (P : Block L → Type 0) (b : Block L) (bs : List (Block L)) → P b → AllByRecursion P bs → AllByRecursion P (with_block b bs)
  all-with P b [] own all = (own, tt)
  all-with P b (c ∷ cs) own all =
      elim (lies_before b c) as (λ v. AllByRecursion P (cond v (b ∷ c ∷ cs) (c ∷ with_block b cs)))
      [ true ↦ (own, all) | false ↦ (all.0, all-with P b cs own all.1) ]

  pub all-change : (P : Block L → Type 0) (f : Block L → Block L) → ((b : Block L) → P b → P (f b)) → (at : ℕ × ℕ) (bs : List (Block L)) → AllByRecursion P bs → AllByRecursion P (change_block f at bs)
  all-change P f keeps at [] all = tt
  all-change P f keeps at (c ∷ cs) all =
      elim (is_at at c) as (λ v. AllByRecursion P (cond v (f c ∷ cs) (c ∷ change_block f at cs)))
      [ true ↦ (keeps c all.0, all.1) | false ↦ (all.0, all-change P f keeps at cs all.1) ]

  pub all-without : (P : Block L → Type 0) (at : ℕ × ℕ) (bs : List (Block L)) → AllByRecursion P bs → AllByRecursion P (without_block at bs)
  all-without P at [] all = tt
  all-without P at (c ∷ cs) all =
      elim (is_at at c) as (λ v. AllByRecursion P (cond v cs (c ∷ without_block at cs)))
      [ true ↦ all.1 | false ↦ (all.0, all-without P at cs all.1) ]

module _ {L : Type 0} (p : ℕ × ℕ) (b : Block L) where
  pub first_at : (c : Block L) (cs : List (Block L)) → find_block p (c ∷ cs) ≡ Some b → is_at p c ≡ true → c ≡ b
  first_at c cs e here = same_Some c b (sym (ap (λ v. cond v (Some c) (find_block p cs)) here) ∙ e)

  pub later_at : (c : Block L) (cs : List (Block L)) → find_block p (c ∷ cs) ≡ Some b → is_at p c ≡ false → find_block p cs ≡ Some b
  later_at c cs e not_here = sym (ap (λ v. cond v (Some c) (find_block p cs)) not_here) ∙ e

  pub without-here : (c : Block L) (cs : List (Block L)) → is_at p c ≡ true → without_block p (c ∷ cs) ≡ cs
  without-here c cs here = ap (λ v. cond v cs (c ∷ without_block p cs)) here

  pub without-later : (c : Block L) (cs : List (Block L)) → is_at p c ≡ false → without_block p (c ∷ cs) ≡ c ∷ without_block p cs
  without-later c cs not_here = ap (λ v. cond v cs (c ∷ without_block p cs)) not_here

  -- what holds of the one at the place and of the others holds of all
  pub all-join : (P : Block L → Type 0) (bs : List (Block L)) → find_block p bs ≡ Some b → P b → AllByRecursion P (without_block p bs) → AllByRecursion P bs
  all-join P [] e here rest = tt
  all-join P (c ∷ cs) e here rest =
      ⊎_elim
      (λ t. (subst P (sym (first_at c cs e t)) here, subst (AllByRecursion P) (without-here c cs t) rest))
      (λ t.
      let both : AllByRecursion P (c ∷ without_block p cs) = subst (AllByRecursion P) (without-later c cs t) rest in
      (both.0, all-join P cs (later_at c cs e t) here both.1))
      (cases_Bool (is_at p c))

  pub all-found : (P : Block L → Type 0) (bs : List (Block L)) → find_block p bs ≡ Some b → AllByRecursion P bs → P b
  all-found P [] e all = absurd (none-some b e)
  all-found P (c ∷ cs) e all =
      ⊎_elim
      (λ t. subst P (first_at c cs e t) all.0)
      (λ t. all-found P cs (later_at c cs e t) all.1)
      (cases_Bool (is_at p c))

  -- the others stand at other addresses
  others-away : (bs : List (Block L)) → find_block p bs ≡ Some b → AllPairs (λ c d. address_of c ≢ address_of d) bs → AllByRecursion (λ c. address_of c ≢ address_of b) (without_block p bs)
  others-away [] e pairs = tt
  others-away (c ∷ cs) e pairs =
      let R : Block L → Block L → Type 0 = λ x y. address_of x ≢ address_of y in
      let head : AllByRecursion (R c) cs = all-recursion (R c) cs (AllPairs-head R c cs pairs) in
      let Q : Block L → Type 0 = λ d. address_of d ≢ address_of b in
      ⊎_elim
      (λ t.
      subst (AllByRecursion Q) (sym (without-here c cs t))
      (all-weaken (R c) Q cs (λ d differs same. differs (ap address_of (first_at c cs e t) ∙ sym same)) head))
      (λ t.
      let later = later_at c cs e t in
      subst (AllByRecursion Q) (sym (without-later c cs t))
      (all-found (R c) cs later head, others-away cs later (AllPairs-tail R c cs pairs)))
      (cases_Bool (is_at p c))

  pub others-apart : (bs : List (Block L)) → find_block p bs ≡ Some b → HaveOwnPlaces bs → AllByRecursion (λ c. address_of c ≢ address_of b) (without_block p bs)
  others-apart bs e places = others-away bs e places.distinct
