-- The names of a region are those of its labelled blocks alone.
use Rattle.vc_base.proofs.Common.{◌≡◌, ℕ, ◌≤◌, Bool, true, false, cond, ◌||◌, List, [], ◌∷◌, length, nat_lt, filter, sym, refl, ap, ◌∙◌, subst, ⊎_elim, arith, nat_tests, cases_Bool, length-filter, AllByRecursion, list_any, Block, HaveOwnPlaces}
use Rattle.vc_region.specs.Cells.{tagged_blocks}
use Rattle.vc_region.specs.Region.{Region, blocks_of, keeps_freed, region_with_labels}
use Rattle.vc_commands.specs.Held.{IsLive, AreLabelsOf, tag_count}
use Rattle.vc_commands.specs.Blocks.{has_label, is_name_of}
use Rattle.vc_commands.specs.Labels.{name_of_tag}
use Rattle.vc_commands.specs.declared.region.labels.Labels.{Labels}
use Rattle.vc_commands.proofs.Names.{has-label-any, name-none, named_by}

-- a test that fails for what is left out passes for the same items of the rest
module _ {A : Type 0} (keeps test : A → Bool) (fails : (x : A) → keeps x ≡ false → test x ≡ false) where
  any-kept : (xs : List A) → list_any test (filter keeps xs) ≡ list_any test xs
  any-kept [] = refl
  any-kept (x ∷ xs) =
      ⊎_elim
      (λ t. ap (λ v. list_any test (cond v (x ∷ filter keeps xs) (filter keeps xs))) t ∙ ap (λ v. test x || v) (any-kept xs))
      (λ t.
      ap (λ v. list_any test (cond v (x ∷ filter keeps xs) (filter keeps xs))) t
      ∙ (any-kept xs ∙ sym (ap (λ v. v || list_any test xs) (fails x t))))
      (cases_Bool (keeps x))

-- what holds of all holds of those that are kept; and of all, where it holds of what is left out
module _ {A : Type 0} (keeps : A → Bool) (P : A → Type 0) where
  all-kept : (xs : List A) → AllByRecursion P xs → AllByRecursion P (filter keeps xs)
  all-kept [] all = tt
  all-kept (x ∷ xs) all =
      elim (keeps x) as (λ v. AllByRecursion P (cond v (x ∷ filter keeps xs) (filter keeps xs)))
      [ true ↦ (all.0, all-kept xs all.1) | false ↦ all-kept xs all.1 ]

  all-filled : ((x : A) → keeps x ≡ false → P x) → (xs : List A) → AllByRecursion P (filter keeps xs) → AllByRecursion P xs
  all-filled left [] all = tt
  all-filled left (x ∷ xs) all =
      ⊎_elim
      (λ t.
      let both : AllByRecursion P (x ∷ filter keeps xs) = subst (λ v. AllByRecursion P (cond v (x ∷ filter keeps xs) (filter keeps xs))) t all in
      (both.0, all-filled left xs both.1))
      (λ t.
      let rest : AllByRecursion P (filter keeps xs) = subst (λ v. AllByRecursion P (cond v (x ∷ filter keeps xs) (filter keeps xs))) t all in
      (left x t, all-filled left xs rest))
      (cases_Bool (keeps x))

abbrev has_tag : Block ℕ → Bool
has_tag b = nat_lt 0 b.label

no-tag : (b : Block ℕ) → has_tag b ≡ false → b.label ≡ 0
no-tag b e = grind (arith, nat_tests, e)

-- a block without a tag has no name
no-name : (labels : Labels) (x : List ℕ) (b : Block ℕ) → has_tag b ≡ false → named_by (name_of_tag labels) x b ≡ false
no-name labels x b e = ap (is_name_of x) (name-none labels b.label (no-tag b e))

no-live : (labels : Labels) (b : Block ℕ) → has_tag b ≡ false → 1 ≤ b.label → IsLive labels b
no-live labels b e first = absurd (omega (arith, no-tag b e))

tags-labelled : (r : Region ℕ) → tag_count (blocks_of r) ≡ length (tagged_blocks r)
tags-labelled r = sym (length-filter has_tag (blocks_of r))

-- whether a block has a name, and which is the first, by the labelled blocks
pub has-labelled : (labels : Labels) (x : List ℕ) (r : Region ℕ) → has_label x (region_with_labels (name_of_tag labels) r) ≡ list_any (named_by (name_of_tag labels) x) (tagged_blocks r)
has-labelled labels x r = has-label-any (name_of_tag labels) x r ∙ sym (any-kept has_tag (named_by (name_of_tag labels) x) (no-name labels x) (blocks_of r))

-- a region with the same labelled blocks, whatever its other blocks
module _ (labels : Labels) (r r' : Region ℕ) (same : tagged_blocks r' ≡ tagged_blocks r) where
  pub named-labelled : AreLabelsOf r labels → HaveOwnPlaces (blocks_of r') → keeps_freed r' ≡ keeps_freed r → AreLabelsOf r' labels
  named-labelled n places keeps =
      let live : Block ℕ → Type 0 = λ b. 1 ≤ b.label → IsLive labels b in
      record {
        agree = n.agree;
        count = tags-labelled r' ∙ (ap length same ∙ (sym (tags-labelled r) ∙ n.count));
        live = all-filled has_tag live (no-live labels) (blocks_of r') (subst (AllByRecursion live) (sym same) (all-kept has_tag live (blocks_of r) n.live));
        known = λ x. n.known x ∙ (has-labelled labels x r ∙ (ap (list_any (named_by (name_of_tag labels) x)) (sym same) ∙ sym (has-labelled labels x r')));
        places = places;
        none = λ e. n.none (sym keeps ∙ e);
      }
