-- Blocks with places of their own.
use Rattle.vc_base.proofs.Common.{◌≡◌, ℕ, zero, suc, ◌<◌, List, [], ◌∷◌, true, false, cond, Some, None, Option, length, option_map, refl, ap, ◌∙◌, ⊎_elim, cases_Bool, arith, le_prop, ∥∥₁_elim, ℕ_set, All-head, All-tail, All, HaveOwnPlaces, IsSound, Layout, Block, address_of, place_of, is_at, HasBlock, find_block, without_block}
use Rattle.vc_seg.specs.OneBlock.{IsBlockKept}
use Rattle.vc_model.proofs.Owned.{free-one_less, found-has, is-there}
use Rattle.vc_model.proofs.Places.{own-places}

pub own : (r : Layout ℕ) → ∥ IsSound r ∥₁ → HaveOwnPlaces r.blocks
own r sound =
    record {
      distinct = λ i j d lt within e. ∥∥₁_elim sound (hlevel) (λ s. (own-places r s).distinct i j d lt within e);
      first = λ i d within. ∥∥₁_elim sound (le_prop) (λ s. (own-places r s).first i d within);
      exact = λ i d within. ∥∥₁_elim sound (hlevel (ℕ_set)) (λ s. s.exact i d within);
    }

abbrev Exact : Block ℕ → Type 0
Exact b = place_of (address_of b) ≡ (b.seg, b.off)

-- the block at an address is found
pub record Found (bs : List (Block ℕ)) (a : ℕ) : Type 0 where
  pub block : Block ℕ
  pub is : find_block (place_of a) bs ≡ Some block

pub has-found : (bs : List (Block ℕ)) (a : ℕ) → All Exact bs → HasBlock bs a → Found bs a
has-found [] a exact has = let within : has.0 < 0 = has.1 in absurd (omega (arith, within))
has-found (b ∷ bs) a exact (zero, within, e) =
    record { block = b; is = ap (λ v. cond v (Some b) (find_block (place_of a) bs)) (is-there a b (All-head Exact b bs exact) e) }
has-found (b ∷ bs) a exact (suc k, within, e) =
    let rest = has-found bs a (All-tail Exact b bs exact) (k, omega (arith, within), e) in
    ⊎_elim
    (λ (t : is_at (place_of a) b ≡ true). record { block = b; is = ap (λ v. cond v (Some b) (find_block (place_of a) bs)) t })
    (λ (t : is_at (place_of a) b ≡ false). record { block = rest.block; is = ap (λ v. cond v (Some b) (find_block (place_of a) bs)) t ∙ rest.is })
    (cases_Bool (is_at (place_of a) b))

not-none : {A B : Type 0} (f : A → B) (o : Option A) (x : A) → option_map f o ≡ option_map f (Some x) → (y : A) × (o ≡ Some y)
not-none f None x e = absurd (cc)
not-none f (Some y) x e = (y, refl)

-- a block that is kept stands there
pub kept-has : (a to : ℕ) (old new : List (Block ℕ)) → All Exact old → HasBlock old a → IsBlockKept a to old new → HasBlock new to
kept-has a to old new exact has kept =
    let was = has-found old a exact has in
    let label : Block ℕ → ℕ = λ b. b.label in
    let is = not-none label (find_block (place_of to) new) was.block (kept.label ∙ ap (option_map label) was.is) in
    found-has to new is.0 is.1

-- and there are as many blocks
pub kept-length : (a to : ℕ) (old new : List (Block ℕ)) → HaveOwnPlaces old → HaveOwnPlaces new → HasBlock old a → IsBlockKept a to old new → length new ≡ length old
kept-length a to old new places places' has kept =
    let less = free-one_less a old (without_block (place_of a) old) refl places has in
    let less' = free-one_less to new (without_block (place_of to) new) refl places' (kept-has a to old new places.exact has kept) in
    let same = ap length kept.others in
    omega (arith, less, less', same)
