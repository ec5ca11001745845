-- A dictionary whose own blocks stay is whole still, and what it was; so is one beside another that changes.
use Rattle.vc_base.proofs.Common.{◌≡◌, ◌≢◌, ℕ, true, false, List, [], ◌∷◌, unwrap_or, None, IsSome, is_some, sym, ap, ◌∙◌, subst, inl, inr, arith, eqb_tells, true≢false, false_from_ne_true, AllByRecursion, Blocks, IsAddress, body_of, contains}
use Rattle.vc_base.proofs.Members.{within-tail}
use Rattle.vc_dtdisc.specs.Rules.{IsObject, Rules}
use Rattle.vc_dict.specs.Listed.{holders_of}
use Rattle.vc_dict.specs.Stands.{slots_in, table_in}
use Rattle.vc_dict.specs.declared.dict.Dict.{Dict}
use Rattle.vc_dict.proofs.OwnLemmas.{Stands-own, Stands-table, holder-address, holder-there, none-at_0}
use Rattle.vc_objects.specs.Objects.{own_blocks}
use Rattle.vc_objects.specs.Parts.{IsWhole, dictionary_of}
use Rattle.vc_objects.proofs.Looking.{IsWhole-told, dictionary, dictionary-told}
use Rattle.vc_objects.proofs.Mapped.{objects-kept}
use Rattle.vc_objects.proofs.Owning.{owned-within, owned-zero}

module _ (old new : Blocks) (rules : Rules) (e : Dict) (is : IsWhole rules e old) where
  -- the blocks of its own
  abbrev own : List ℕ
  own = own_blocks (dictionary_of e old)

  abbrev xs : List ℕ
  xs = holders_of e old

  -- a block stands at each of their addresses, and none at 0
  owned-some : (a : ℕ) → contains own a ≡ true → a ≢ 0
  owned-some a h = λ zero.
      let address : IsAddress 0 = holder-address rules e old xs 0 is.stands (sym (owned-zero e old) ∙ subst (λ z. contains own z ≡ true) zero h) in
      absurd (omega (arith, address.some))

  owned-there : (a : ℕ) → contains own a ≡ true → IsSome (old a)
  owned-there a h =
      let some = owned-some a h in
      elim (eqb_tells (table_in e).0 a) as (λ _. IsSome (old a)) [
        | inl same ↦ subst (λ z. IsSome (old z)) same.1 ((Stands-table _ _ _ _ is.stands).some (λ zero. some (sym same.1 ∙ zero))).there
        | inr apart ↦ (holder-there rules e old xs a is.stands (rw apart.0 at (sym (owned-within e old a some) ∙ h))).there
      ]

  pub record Kept : Type 0 where
    pub whole : IsWhole rules e new
    pub same : dictionary_of e new ≡ dictionary_of e old

  own-kept : ((a : ℕ) → a ≢ 0 → contains own a ≡ true → new a ≡ old a) → Kept
  own-kept stay =
      let table = (table_in e).0 in
      let blocks : (a : ℕ) → a ≢ 0 → contains (table ∷ xs) a ≡ true → new a ≡ old a = λ a some w. stay a some (owned-within e old a some ∙ w) in
      let stands = Stands-own rules e old new xs blocks is.stands in
      let some : (a : ℕ) → contains xs a ≡ true → a ≢ 0 = λ a w zero. true≢false (sym w ∙ ap (contains xs) zero ∙ none-at_0 rules e old xs is.stands) in
      let objects = objects-kept old new xs (λ a w. ap (λ x. body_of (unwrap_or x [])) (blocks a (some a w) (within-tail table xs a w))) in
      record {
        whole =
            IsWhole-told rules e new xs stands is.current is.table (subst (λ os. AllByRecursion (λ o. IsObject o.bytes) os) (sym objects) is.objects);
        same =
            dictionary-told rules e new xs stands ∙ ap (λ os. dictionary e.method os e.current.0 table (slots_in e)) objects;
      }

  -- beside a change of these blocks to those, none of which is its own
  module _ (mine mine' : List ℕ) (others : (a : ℕ) → contains mine a ≡ false → contains mine' a ≡ false → new a ≡ old a) (fresh : (a : ℕ) → contains mine' a ≡ true → contains mine a ≡ false → old a ≡ None)
      (clear : (a : ℕ) → contains own a ≡ true → contains mine a ≡ false) where
    pub apart-new : (a : ℕ) → contains own a ≡ true → contains mine' a ≡ false
    apart-new a w =
        false_from_ne_true (contains mine' a)
        (λ t. true≢false (sym (owned-there a w) ∙ ap is_some (fresh a t (clear a w))))

    pub other-kept : Kept
    other-kept = own-kept (λ a some w. others a (clear a w) (apart-new a w))
