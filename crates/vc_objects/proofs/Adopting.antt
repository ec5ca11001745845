-- A set or bag gets another table: a block that is put, and the one before it goes.
use Rattle.vc_base.proofs.Common.{◌≡◌, ℕ, ◌*◌, true, false, ◌≢◌, List, [], ◌∷◌, map, length, is_some, if◌then◌else◌, IsSome, Some, None, Option, unwrap_or, sym, refl, ap, ◌∙◌, subst, inl, inr, true≢false, arith, ne_eqb, eqb_tells, length-replicate, AllByRecursion, Blocks, body_of, contains, some_address}
use Rattle.vc_base.specs.declared.dict_method.DictMethod.{DictMethod}
use Rattle.vc_base.specs.declared.addr.Addr.{Addr}
use Rattle.vc_base.proofs.Members.{apart-cons}
use Rattle.vc_dtdisc.specs.Finds.{object_at}
use Rattle.vc_dtdisc.specs.Objects.{Object}
use Rattle.vc_dtdisc.specs.Rules.{IsObject, Rules}
use Rattle.vc_dict.specs.Listed.{holders_of}
use Rattle.vc_dict.specs.Stands.{Adopted, CanAdopt, Stands, slots_in, table_in}
use Rattle.vc_dict.specs.declared.dict.Dict.{Dict}
use Rattle.vc_dict.proofs.OwnLemmas.{Stands-own, Stands-table, holders-told, table-apart}
use Rattle.vc_objects.specs.Objects.{Dictionary, Table, own_blocks}
use Rattle.vc_objects.specs.Unlabelled.{MakesCell}
use Rattle.vc_objects.specs.Parts.{CanGrow, IsWhole, dictionary_of, object_of, table_of}
use Rattle.vc_objects.proofs.Mapped.{objects-kept}
use Rattle.vc_objects.proofs.Owning.{all-objects, apart-holders, apart-owned, apart-table, cell-apart, cell-kept, cell-shows, each-object, holder-apart, none-there, other-table, own-apart}

abbrev made : DictMethod → List Object → Option ℕ → Option Table → Dictionary
made m os c t = record { method = m; objects = os; current = c; table = t }

-- dictionaries of the same parts
pub same-dictionary : (m n : DictMethod) (os ps : List Object) (c d : Option ℕ) (t u : Option Table) → m ≡ n → os ≡ ps → c ≡ d → t ≡ u → made m os c t ≡ made n ps d u
same-dictionary m n os ps c d t u e f g h =
    ap (λ z. made z os c t) e ∙ (ap (λ z. made n z c t) f ∙ (ap (λ z. made n ps z t) g ∙ ap (λ z. made n ps d z) h))

pub some-table : (at slots : ℕ) → at ≢ 0 → table_of at slots ≡ Some (record { at = at; slots = slots })
some-table at slots ne = ap (λ t. if t then None else Some (record { at = at; slots = slots })) (ne_eqb at 0 ne)

module _ (rules : Rules) (d0 : Dict) (B0 B1 : Blocks) (t slots : ℕ) (can : CanGrow rules d0 B0 slots) (cell : MakesCell B0 (8 * slots) t B1) where
  abbrev hs : List ℕ
  hs = holders_of d0 B0

  -- the dictionary stands as it did
  pub stands-placed : Stands rules d0 B1 (holders_of d0 B0)
  stands-placed = Stands-own rules d0 B0 B1 hs (λ a some w. cell-kept can.stands cell a (own-apart can.stands cell a w)) can.stands

  pub can-adopt : CanAdopt rules d0 B1 t slots
  can-adopt = record {
    holders = hs;
    stands = stands-placed;
    method = can.method;
    fits = record {
      slots_allowed = can.allowed;
      there = ap is_some (cell-shows can.stands cell);
      size = ap (λ o. length (unwrap_or o [])) (cell-shows can.stands cell) ∙ length-replicate (8 * slots) 0;
      enough = can.enough;
      apart = none-there can.stands cell;
    };
    another = λ e. other-table can.stands cell (sym e);
  }

  -- the table before it stands still
  pub old-there : (d1 : Dict) (B2 : Blocks) → Adopted rules t slots (holders_of d0 B0) d0 B1 d1 B2 → (a : ℕ) → a ≡ (table_in d0).0 → a ≢ 0 → IsSome (B2 a)
  old-there d1 B2 adopted a is some =
      let there : IsSome (B0 a) = subst (λ n. IsSome (B0 n)) (sym is) ((Stands-table _ _ _ _ can.stands).some (λ z. some (is ∙ z))).there in
      adopted.keeps.there a ∙ (ap is_some (cell-kept can.stands cell a (cell-apart can.stands cell a there)) ∙ there)

  module _ (d1 : Dict) (B2 B3 : Blocks) (adopted : Adopted rules t slots (holders_of d0 B0) d0 B1 d1 B2) (after : (a : ℕ) → a ≢ (table_in d0).0 → B3 a ≡ B2 a) where
    outside : (a : ℕ) → contains hs a ≡ true → a ≢ (table_in d0).0
    outside a w e = true≢false (sym (ap (contains hs) (sym e) ∙ w) ∙ table-apart rules d0 B0 hs can.stands)

    stands-then : Stands rules d1 B3 hs
    stands-then =
        Stands-own rules d1 B2 B3 hs
        (λ a some w. after a (elim (eqb_tells (table_in d1).0 a) as (λ _. a ≢ (table_in d0).0) [
          | inl same ↦ λ e. other-table can.stands cell (sym e ∙ (sym same.1 ∙ adopted.table))
          | inr apart ↦ outside a (rw apart.0 at w)
        ]))
        adopted.stands

    told : holders_of d1 B3 ≡ hs
    told = holders-told rules d1 B3 hs stands-then

    object : (a : ℕ) → contains hs a ≡ true → object_at B3 a ≡ object_at B0 a
    object a w =
        let bytes : Option (List ℕ) → List ℕ = λ o. body_of (unwrap_or o []) in
        let apart : contains ((table_in d0).0 ∷ t ∷ []) a ≡ false = apart-cons (table_in d0).0 (t ∷ []) a (λ e. outside a w (sym e)) (apart-cons t [] a (λ e. holder-apart can.stands cell a w (sym e)) refl) in
        ap bytes (after a (outside a w)) ∙ (adopted.keeps.bodies a apart ∙ ap bytes (cell-kept can.stands cell a (holder-apart can.stands cell a w)))

    objects : map (object_of B3) (holders_of d1 B3) ≡ map (object_of B0) hs
    objects = ap (map (object_of B3)) told ∙ objects-kept B0 B3 hs object

    there : (table_in d1).0 ≢ 0
    there e = let some = cell.address.some in let is = adopted.table in omega (arith, some, is, e)

    pub dictionary-grown : dictionary_of d1 B3 ≡ record { method = d0.method; objects = map (object_of B0) (holders_of d0 B0); current = some_address d0.current.0; table = Some (record { at = t; slots = slots }) }
    dictionary-grown =
        same-dictionary d1.method d0.method (map (object_of B3) (holders_of d1 B3)) (map (object_of B0) hs) (some_address d1.current.0) (some_address d0.current.0) (table_of (table_in d1).0 (slots_in d1)) (Some (record { at = t; slots = slots }))
        adopted.method objects (ap (λ (c : Addr). some_address c.0) adopted.current)
        (some-table (table_in d1).0 (slots_in d1) there ∙ (ap (λ n. Some (record { at = n; slots = slots_in d1 })) adopted.table ∙ ap (λ n. Some (record { at = t; slots = n })) adopted.slots))

    pub whole-grown : IsWhole rules d1 B3
    whole-grown = record {
      stands = subst (λ xs. Stands rules d1 B3 xs) (sym told) stands-then;
      current = ap (λ xs. contains (0 ∷ xs) d1.current.0) told ∙ (ap (λ (c : Addr). contains (0 ∷ hs) c.0) adopted.current ∙ can.current);
      table = λ _. there;
      objects =
          subst (λ xs. AllByRecursion (λ o. IsObject o.bytes) (map (object_of B3) xs)) (sym told)
          (all-objects IsObject B3 hs (λ a w. subst IsObject (sym (object a w)) (each-object IsObject B0 hs can.objects a w)));
    }

    pub others-grown : B3 0 ≡ None → B0 0 ≡ None → (a : ℕ) → contains (own_blocks (dictionary_of d0 B0)) a ≡ false → contains (own_blocks (dictionary_of d1 B3)) a ≡ false → B3 a ≡ B0 a
    others-grown none none' a old new = elim (eqb_tells a 0) as (λ _. B3 a ≡ B0 a) [
      | inl same ↦ subst (λ n. B3 n ≡ B0 n) (sym same.1) (none ∙ sym none')
      | inr some ↦
          let table : (table_in d0).0 ≢ a = apart-table d0 B0 a some.1 old in
          let block : t ≢ a = subst (λ n. n ≢ a) adopted.table (apart-table d1 B3 a some.1 new) in
          after a (λ e. table (sym e))
          ∙ (adopted.keeps.others a (apart-cons (table_in d0).0 (t ∷ []) a table (apart-cons t [] a block refl)) (apart-holders d0 B0 a old)
          ∙ cell-kept can.stands cell a (λ e. block (sym e)))
    ]

    pub fresh-grown : (a : ℕ) → contains (own_blocks (dictionary_of d1 B3)) a ≡ true → contains (own_blocks (dictionary_of d0 B0)) a ≡ false → B0 a ≡ None
    fresh-grown a new old = elim (eqb_tells t a) as (λ _. B0 a ≡ None) [
      | inl same ↦ subst (λ n. B0 n ≡ None) same.1 cell.fresh
      | inr apart ↦
          absurd (true≢false (sym new ∙ apart-owned d1 B3 a (λ _ e. apart.1 (sym adopted.table ∙ e)) (ap (λ xs. contains xs a) told ∙ apart-holders d0 B0 a old)))
    ]
