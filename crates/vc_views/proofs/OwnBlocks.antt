-- A dictionary whose own blocks stay, whatever becomes of the other cells.
use Rattle.vc_base.proofs.Common.{◌≡◌, ℕ, true, ◌≢◌, List, [], ◌∷◌, map, IsSome, unwrap_or, sym, ap, ◌∙◌, subst, inl, inr, arith, eqb_tells, AllByRecursion, Blocks, IsAddress, body_of, contains}
use Rattle.vc_base.proofs.Members.{within-tail}
use Rattle.vc_dtdisc.specs.Finds.{object_at}
use Rattle.vc_dtdisc.specs.Rules.{IsObject, Rules}
use Rattle.vc_dict.specs.Listed.{holders_of}
use Rattle.vc_dict.specs.Stands.{Stands, table_in}
use Rattle.vc_dict.specs.declared.dict.Dict.{Dict}
use Rattle.vc_dict.proofs.OwnLemmas.{Stands-own, Stands-table, holder-address, holder-there, holders-told}
use Rattle.vc_objects.specs.Objects.{Dictionary, own_blocks}
use Rattle.vc_objects.specs.Parts.{IsWhole, dictionary_of, object_of}
use Rattle.vc_objects.proofs.Mapped.{objects-kept}
use Rattle.vc_objects.proofs.Owning.{owned-within, owned-zero}

module _ (rules : Rules) (d : Dict) (b : Blocks) (whole : IsWhole rules d b) where
  abbrev xs : List ℕ
  xs = holders_of d b

  -- none of its blocks stands at 0
  zero-not : contains (own_blocks (dictionary_of d b)) 0 ≡ true → ⊥
  zero-not h =
      let address : IsAddress 0 = holder-address rules d b xs 0 whole.stands (sym (owned-zero d b) ∙ h) in
      absurd (omega (arith, address.some))

  own-there : (a : ℕ) → a ≢ 0 → contains ((table_in d).0 ∷ xs) a ≡ true → IsSome (b a)
  own-there a ne h = elim (eqb_tells (table_in d).0 a) as (λ _. IsSome (b a)) [
    | inl same ↦ subst (λ z. IsSome (b z)) same.1 ((Stands-table _ _ _ _ whole.stands).some (λ e. ne (sym same.1 ∙ e))).there
    | inr apart ↦ (holder-there rules d b xs a whole.stands (rw apart.0 at h)).there
  ]

  -- a block stands at each of its addresses
  pub owned-there : (a : ℕ) → contains (own_blocks (dictionary_of d b)) a ≡ true → IsSome (b a)
  owned-there a h = elim (eqb_tells a 0) as (λ _. IsSome (b a)) [
    | inl zero ↦ absurd (zero-not (subst (λ z. contains (own_blocks (dictionary_of d b)) z ≡ true) zero.1 h))
    | inr some ↦ own-there a some.1 (sym (owned-within d b a some.1) ∙ h)
  ]

  module _ (new : Blocks) (same : (a : ℕ) → contains (own_blocks (dictionary_of d b)) a ≡ true → new a ≡ b a) where
    own-same : (a : ℕ) → a ≢ 0 → contains ((table_in d).0 ∷ xs) a ≡ true → new a ≡ b a
    own-same a ne h = same a (owned-within d b a ne ∙ h)

    stands-new : Stands rules d new xs
    stands-new = Stands-own rules d b new xs own-same whole.stands

    holders-new : holders_of d new ≡ xs
    holders-new = holders-told rules d new xs stands-new

    object-new : (a : ℕ) → contains xs a ≡ true → object_at new a ≡ object_at b a
    object-new a h =
        let address : IsAddress a = holder-address rules d b xs a whole.stands h in
        let some : a ≢ 0 = λ e. absurd (omega (arith, address.some, e)) in
        ap (λ o. body_of (unwrap_or o [])) (own-same a some (within-tail (table_in d).0 xs a h))

    objects-new : map (object_of new) (holders_of d new) ≡ map (object_of b) xs
    objects-new = ap (map (object_of new)) holders-new ∙ objects-kept b new xs object-new

    -- it is the same
    pub dictionary-kept : dictionary_of d new ≡ dictionary_of d b
    dictionary-kept = ap (λ os. let told : Dictionary = record (dictionary_of d b) { objects = os } in told) objects-new

    -- and is whole
    pub whole-kept : IsWhole rules d new
    whole-kept = record {
      stands = subst (Stands rules d new) (sym holders-new) stands-new;
      current = subst (λ ys. contains (0 ∷ ys) d.current.0 ≡ true) (sym holders-new) whole.current;
      table = whole.table;
      objects = subst (AllByRecursion (λ o. IsObject o.bytes)) (sym objects-new) whole.objects;
    }
