-- A holder is put, and joins a dictionary.
use Rattle.vc_base.proofs.Common.{◌≡◌, ℕ, ◌+◌, Bool, true, false, ◌≢◌, List, [], ◌∷◌, map, length, drop, replicate, is_some, Some, None, unwrap_or, sym, refl, ap, ◌∙◌, subst, inl, inr, ⊎_elim, true≢false, arith, length-drop, take_all, eqb_tells, cases_Bool, length-replicate, AllByRecursion, Blocks, HasBytes, IsHolder, body_of, bytes_at, contains, some_address, has_table, is_list, is_set, with_bytes}
use Rattle.vc_base.specs.declared.addr.Addr.{Addr}
use Rattle.vc_base.specs.Cells.{with_body}
use Rattle.vc_base.proofs.CellsLemmas.{put_other, put_same, window_same}
use Rattle.vc_base.proofs.Overwrites.{length-with_bytes}
use Rattle.vc_dtdisc.specs.Finds.{find_key, object_at}
use Rattle.vc_dtdisc.specs.Objects.{Object, address_of, bytes_of, first_with, linked_among}
use Rattle.vc_dtdisc.specs.Rules.{IsObject, Rules}
use Rattle.vc_dtdisc.proofs.ObjectsLemmas.{first_with-map, linked_among-map}
use Rattle.vc_dict.specs.Changes as changes
use Rattle.vc_dict.specs.Listed.{holders_of}
use Rattle.vc_base.proofs.Members.{apart-cons, within-tail}
use Rattle.vc_dict.specs.Stands.{Became, CanLink, Stands, slots_in, table_in}
use Rattle.vc_dict.specs.declared.dict.Dict.{Dict}
use Rattle.vc_dict.proofs.CurrentLemmas.{apart-linked, within-linked}
use Rattle.vc_dict.proofs.OwnLemmas.{Stands-own, holders-told, table-apart}
use Rattle.vc_objects.specs.Insert.{slots_wanted, with_object}
use Rattle.vc_objects.specs.Objects.{own_blocks}
use Rattle.vc_objects.specs.Unlabelled.{MakesCell}
use Rattle.vc_objects.specs.Parts.{IsWhole, dictionary_of, object_of, table_of}
use Rattle.vc_objects.proofs.Adopting.{same-dictionary}
use Rattle.vc_objects.proofs.Growing.{wanted-told}
use Rattle.vc_objects.proofs.Mapped.{none-mapped, objects-kept}
use Rattle.vc_objects.proofs.Owning.{all-objects, apart-holders, apart-owned, apart-table, cell-kept, cell-shows, each-object, holder-apart, none-there, other-table, own-apart}

-- a body that is written whole is read back
body-written : (body bytes : List ℕ) → length body + 32 ≡ length bytes → drop 32 (with_bytes 32 body bytes) ≡ body
body-written body bytes long =
    let same = length-with_bytes 32 body bytes (omega (arith, long)) in
    let rest : length (drop 32 (with_bytes 32 body bytes)) ≡ length body = length-drop 32 (with_bytes 32 body bytes) ∙ omega (arith, long, same) in
    sym (take_all (length body) (drop 32 (with_bytes 32 body bytes)) (omega (arith, rest))) ∙ window_same 32 body bytes (omega (arith, long))

module _ (rules : Rules) (d0 : Dict) (B0 B1 B2 : Blocks) (at : ℕ) (bytes : List ℕ) (whole : IsWhole rules d0 B0) (cell : MakesCell B0 (32 + length bytes) at B1)
    (object : IsObject bytes) (written : B2 ≡ with_body at bytes B1) where
  abbrev hs : List ℕ
  hs = holders_of d0 B0

  abbrev zeros : List ℕ
  zeros = replicate (32 + length bytes) 0

  long : length bytes + 32 ≡ length (bytes_at B1 at)
  long =
      let zeroes : length zeros ≡ 32 + length bytes = length-replicate (32 + length bytes) 0 in
      let is : length (bytes_at B1 at) ≡ length zeros = ap (λ o. length (unwrap_or o [])) (cell-shows whole.stands cell) in
      omega (arith, zeroes, is)

  -- the block has room for four words, and for the object behind them
  pub body-place : HasBytes B1 at 32
  body-place = let is = long in record { there = ap is_some (cell-shows whole.stands cell); enough = omega (arith, is) }

  pub body-length : length bytes + 32 ≡ length (bytes_at B1 at)
  body-length = long

  shows-body : B2 at ≡ Some (with_bytes 32 bytes (bytes_at B1 at))
  shows-body = ap (λ (f : Blocks). f at) written ∙ put_same at (with_bytes 32 bytes (bytes_at B1 at)) B1

  object-put : object_at B2 at ≡ bytes
  object-put = ap (λ o. body_of (unwrap_or o [])) shows-body ∙ body-written bytes (bytes_at B1 at) long

  kept : (a : ℕ) → a ≢ at → B2 a ≡ B0 a
  kept a ne =
      ap (λ (f : Blocks). f a) written ∙ (put_other a at (with_bytes 32 bytes (bytes_at B1 at)) B1 ne ∙ cell-kept whole.stands cell a ne)

  -- the dictionary stands as it did
  pub stands-put : Stands rules d0 B2 (holders_of d0 B0)
  stands-put = Stands-own rules d0 B0 B2 hs (λ a some w. kept a (own-apart whole.stands cell a w)) whole.stands

  objects-put : map (object_of B2) hs ≡ map (object_of B0) hs
  objects-put = objects-kept B0 B2 hs (λ a w. ap (λ o. body_of (unwrap_or o [])) (kept a (holder-apart whole.stands cell a w)))

  holder : IsHolder B2 at
  holder =
      let least = object.least in
      let is = long in
      let same : length (bytes_at B2 at) ≡ length (bytes_at B1 at) = ap (λ o. length (unwrap_or o [])) shows-body ∙ length-with_bytes 32 bytes (bytes_at B1 at) (omega (arith, is)) in
      record { there = ap is_some shows-body; enough = omega (arith, same, is, least) }

  pub can-link : (append : Bool) → slots_wanted (dictionary_of d0 B0) ≡ None
      → (is_set d0.method ≡ true → first_with bytes_of rules (rules.key bytes) (dictionary_of d0 B0).objects ≡ None)
      → (append ≡ true → is_list d0.method ≡ true) → CanLink rules d0 B2 at append
  can-link append room lone list = record {
    holders = hs;
    stands = stands-put;
    apart = apart-cons (table_in d0).0 hs at (other-table whole.stands cell) (none-there whole.stands cell);
    holder = holder;
    current = whole.current;
    room = sym (wanted-told rules d0 B0 hs whole.stands) ∙ room;
    lone = λ set.
        none-mapped B2 (find_key rules B2 (rules.key (object_at B2 at)) hs)
        (sym (first_with-map (object_of B2) bytes_of rules (rules.key (object_at B2 at)) hs)
        ∙ (ap (λ key. first_with bytes_of rules (rules.key key) (map (object_of B2) hs)) object-put
        ∙ (ap (first_with bytes_of rules (rules.key bytes)) objects-put ∙ lone set)));
    list = list;
  }

  module _ (append : Bool) (d1 : Dict) (B3 : Blocks) (became : Became rules (at ∷ hs) d0 B2 d1 B3 (changes.order_by_link append d0.method rules B2 d0.current.0 at hs) at) where
    abbrev ys : List ℕ
    ys = changes.order_by_link append d0.method rules B2 d0.current.0 at hs

    told : holders_of d1 B3 ≡ ys
    told = holders-told rules d1 B3 ys became.stands

    one-of : (a : ℕ) → at ≢ a → contains ys a ≡ true → contains hs a ≡ true
    one-of a ne w =
        ⊎_elim
        (λ (within : contains hs a ≡ true). within)
        (λ (apart : contains hs a ≡ false). absurd (true≢false (sym w ∙ apart-linked append d0.method rules B2 d0.current.0 at hs a ne apart)))
        (cases_Bool (contains hs a))

    no-table : contains ys (table_in d0).0 ≡ false
    no-table = apart-linked append d0.method rules B2 d0.current.0 at hs (table_in d0).0 (λ e. other-table whole.stands cell (sym e)) (table-apart rules d0 B0 hs whole.stands)

    body-kept : (a : ℕ) → contains ys a ≡ true → object_at B3 a ≡ object_at B2 a
    body-kept a w = became.keeps.bodies a (apart-cons (table_in d0).0 [] a (λ e. true≢false (sym (ap (contains ys) e ∙ w) ∙ no-table)) refl)

    objects-linked : map (object_of B3) (holders_of d1 B3) ≡ linked_among address_of bytes_of append d0.method rules (some_address d0.current.0) (record { at = at; bytes = bytes }) (map (object_of B0) hs)
    objects-linked =
        let put_in : Object → List Object → List Object = linked_among address_of bytes_of append d0.method rules (some_address d0.current.0) in
        ap (map (object_of B3)) told
        ∙ (objects-kept B2 B3 ys body-kept
        ∙ (sym (linked_among-map (object_of B2) address_of bytes_of append d0.method rules (some_address d0.current.0) at hs)
        ∙ (ap (λ o. put_in (record { at = at; bytes = o }) (map (object_of B2) hs)) object-put
        ∙ ap (put_in (record { at = at; bytes = bytes })) objects-put)))

    pub dictionary-held : dictionary_of d1 B3 ≡ with_object rules append bytes (dictionary_of d0 B0) at
    dictionary-held =
        same-dictionary d1.method d0.method (map (object_of B3) (holders_of d1 B3)) (linked_among address_of bytes_of append d0.method rules (some_address d0.current.0) (record { at = at; bytes = bytes }) (map (object_of B0) hs))
        (some_address d1.current.0) (Some at) (table_of (table_in d1).0 (slots_in d1)) (table_of (table_in d0).0 (slots_in d0))
        became.method objects-linked (ap some_address became.current ∙ some)
        (ap (λ (t : Addr). table_of t.0 (slots_in d1)) became.table ∙ ap (table_of (table_in d0).0) became.slots)
      where
        some : some_address at ≡ Some at
        some = elim (eqb_tells at 0) as (λ _. some_address at ≡ Some at) [
          | inl same ↦ let is = cell.address.some in let z = same.1 in absurd (omega (arith, is, z))
          | inr apart ↦ rw apart.0 refl
        ]

    pub whole-held : IsWhole rules d1 B3
    whole-held = record {
      stands = subst (λ xs. Stands rules d1 B3 xs) (sym told) became.stands;
      current =
          ap (λ xs. contains (0 ∷ xs) d1.current.0) told
          ∙ (ap (contains (0 ∷ ys)) became.current ∙ within-tail 0 ys at (within-linked append d0.method rules B2 d0.current.0 at hs));
      table = λ has e. whole.table (sym (ap has_table became.method) ∙ has) (sym (ap (λ (t : Addr). t.0) became.table) ∙ e);
      objects =
          subst (λ xs. AllByRecursion (λ o. IsObject o.bytes) (map (object_of B3) xs)) (sym told)
          (all-objects IsObject B3 ys (λ a w. subst IsObject (sym (body-kept a w)) (elim (eqb_tells at a) as (λ _. IsObject (object_at B2 a)) [
            | inl same ↦ subst (λ n. IsObject (object_at B2 n)) same.1 (subst IsObject (sym object-put) object)
            | inr apart ↦
                let within = one-of a apart.1 w in
                subst IsObject (sym (ap (λ o. body_of (unwrap_or o [])) (kept a (holder-apart whole.stands cell a within)))) (each-object IsObject B0 hs whole.objects a within)
          ])));
    }

    pub others-held : B3 0 ≡ None → B0 0 ≡ None → (a : ℕ) → contains (own_blocks (dictionary_of d0 B0)) a ≡ false → contains (own_blocks (dictionary_of d1 B3)) a ≡ false → B3 a ≡ B0 a
    others-held none none' a old new = elim (eqb_tells a 0) as (λ _. B3 a ≡ B0 a) [
      | inl same ↦ subst (λ n. B3 n ≡ B0 n) (sym same.1) (none ∙ sym none')
      | inr some ↦
          let table : (table_in d0).0 ≢ a = apart-table d0 B0 a some.1 old in
          let holders = apart-holders d0 B0 a old in
          let gone : contains ys a ≡ false = ap (λ xs. contains xs a) (sym told) ∙ apart-holders d1 B3 a new in
          let ne : at ≢ a = λ e. true≢false (sym (within-linked append d0.method rules B2 d0.current.0 at hs) ∙ (ap (contains ys) e ∙ gone)) in
          became.keeps.others a (apart-cons (table_in d0).0 [] a table refl) (apart-cons at hs a ne holders) ∙ kept a (λ e. ne (sym e))
    ]

    pub fresh-held : (a : ℕ) → contains (own_blocks (dictionary_of d1 B3)) a ≡ true → contains (own_blocks (dictionary_of d0 B0)) a ≡ false → B0 a ≡ None
    fresh-held a new old = elim (eqb_tells at a) as (λ _. B0 a ≡ None) [
      | inl same ↦ subst (λ n. B0 n ≡ None) same.1 cell.fresh
      | inr apart ↦
          absurd (true≢false (sym new ∙ apart-owned d1 B3 a (no-longer a old) (ap (λ xs. contains xs a) told ∙ apart-linked append d0.method rules B2 d0.current.0 at hs a apart.1 (apart-holders d0 B0 a old))))
    ]
      where
        no-longer : (a : ℕ) → contains (own_blocks (dictionary_of d0 B0)) a ≡ false → (table_in d1).0 ≢ 0 → (table_in d1).0 ≢ a
        no-longer a old some e =
            let same : (table_in d1).0 ≡ (table_in d0).0 = ap (λ (t : Addr). t.0) became.table in
            apart-table d0 B0 a (λ z. some (e ∙ z)) old (sym same ∙ e)
