-- What a call does to the entry that is found at an address.
use Rattle.vc_base.proofs.Common.{not, ◌&&◌, ◌≡◌, ◌≢◌, ℕ, ◌+◌, Bool, true, false, if◌then◌else◌, List, ◌==◌, Option, Some, None, find, is_some, option_map, unwrap_or, inl, inr, sym, refl, ap, ◌∙◌, subst, arith, eqb_tells, eq-eqb, ne_eqb, eqb-true, contains, without}
use Rattle.vc_base.proofs.Lists.{find-passes}
use Rattle.vc_base.proofs.Members.{differs}
use Rattle.slab.specs.Slab.{Slab}
use Rattle.vc_splay.proofs.StandsLemmas.{Stands-there}
use Rattle.vc_splay.specs.Stands.{IsIn, IsTree, TreeAfter}
use Rattle.vc_splay.specs.Tree.{names}
use Rattle.vc_addrmap.specs.declared.entries.Entry.{Entry}
use Rattle.vc_addrmap.specs.Entries.{EntryTakenOut, EntryWritten, StaysButLinks, address_at, entry_at, entry_store, has_entry, value_at}
use Rattle.vc_addrmap.specs.Map.{IsMap, Numbers, lost_by_move, moved_number, name_of_address, numbers_in, with_number}
use Rattle.vc_addrmap.proofs.Ascending.{ascend-without, at-without, found-in, length-without, without-gone}
use Rattle.vc_addrmap.proofs.Maps.{address-on, ascend-same, map-made, numbers-are, numbers-same, tree-on, value-on}
use Rattle.vc_addrmap.proofs.Written.{part-kept, part-written, store-kept}

-- an address that has no number has none without it
pub with-none : (numbers : Numbers) (a : ℕ) → numbers a ≡ None → numbers ≡ with_number a None numbers
with-none numbers a none = λ i q. point q i
  where
    point : (q : ℕ) → numbers q ≡ (if a == q then None else numbers q)
    point q = elim (eqb_tells a q) as (λ _. numbers q ≡ (if a == q then None else numbers q)) [
      | inl same ↦ rw same.0 (ap numbers (sym same.1) ∙ none)
      | inr apart ↦ rw apart.0 refl
    ]

-- a number that moves to its own address stays
pub moved-same : (numbers : Numbers) (from to : ℕ) → from ≡ to → moved_number from to numbers ≡ numbers
moved-same numbers from to e = ap (λ z. moved_number from z numbers) (sym e) ∙ by (numbers from) refl
  where
    by : (o : Option ℕ) → numbers from ≡ o → (if is_some o then with_number from o (with_number from None numbers) else numbers) ≡ numbers
    by None is = refl
    by (Some v) is = λ i q. point q i
      where
        point : (q : ℕ) → (if from == q then Some v else (if from == q then None else numbers q)) ≡ numbers q
        point q = elim (eqb_tells from q) as (λ _. (if from == q then Some v else (if from == q then None else numbers q)) ≡ numbers q) [
          | inl same ↦ rw same.0 (sym is ∙ ap numbers same.1)
          | inr apart ↦ rw apart.0 refl
        ]

-- and no number is lost
pub same-lost : (numbers : Numbers) (from to m k : ℕ) → from ≡ to → k ≡ m → k + lost_by_move from to numbers ≡ m
same-lost numbers from to m k same e =
    ap (λ b. k + (if is_some (numbers from) && not b && is_some (numbers to) then 1 else 0)) (eq-eqb from to same) ∙ none (is_some (numbers from))
  where
    none : (b : Bool) → k + (if b && false && is_some (numbers to) then 1 else 0) ≡ m
    none true = omega (arith, e)
    none false = omega (arith, e)

-- nor does it move to another
pub moved-none : (numbers : Numbers) (from to : ℕ) → numbers from ≡ None → moved_number from to numbers ≡ numbers
moved-none numbers from to none = ap (λ z. if is_some z then with_number to z (with_number from None numbers) else numbers) none

pub none-lost : (numbers : Numbers) (from to m k : ℕ) → numbers from ≡ None → k ≡ m → k + lost_by_move from to numbers ≡ m
none-lost numbers from to m k none e = ap (λ z. k + (if is_some z && not (from == to) && is_some (numbers to) then 1 else 0)) none ∙ omega (arith, e)

-- how many are lost by a move: the number is taken out, and put at the other address
pub some-lost : (numbers mid : Numbers) (from to v m k j : ℕ) → numbers from ≡ Some v → mid ≡ with_number from None numbers → k + 1 ≡ m → j ≡ (if is_some (mid to) then k else k + 1)
    → j + lost_by_move from to numbers ≡ m
some-lost numbers mid from to v m k j some without less e =
    ap (λ z. j + (if is_some z && not (from == to) && is_some (numbers to) then 1 else 0)) some ∙ counted (from == to) (is_some (numbers to)) (e ∙ ap (λ z. if is_some z then k else k + 1) (ap (λ g. g to) without) ∙ ap (λ z. if z then k else k + 1) (asked (from == to) (numbers to)))
  where
    asked : (b : Bool) (other : Option ℕ) → is_some (if b then None else other) ≡ not b && is_some other
    asked true other = refl
    asked false other = refl

    counted : (same other : Bool) → j ≡ (if not same && other then k else k + 1) → j + (if not same && other then 1 else 0) ≡ m
    counted true other h = omega (arith, h, less)
    counted false true h = omega (arith, h, less)
    counted false false h = omega (arith, h, less)

-- the address of an entry, and its number
pub address-is : (s : Slab Entry) (n : ℕ) (entry : Entry) → entry_at s n ≡ Some entry → address_at s n ≡ entry.at
address-is s n entry is = ap (λ z. unwrap_or (option_map (λ x. x.at) z) 0) is

pub value-is : (s : Slab Entry) (n : ℕ) (entry : Entry) → entry_at s n ≡ Some entry → value_at s n ≡ entry.value
value-is s n entry is = ap (λ z. unwrap_or (option_map (λ x. x.value) z) 0) is

-- what is found where no entry is, and how many there are then
pub number-none : (s : Slab Entry) (ns : List ℕ) (a : ℕ) (numbers : Numbers) → name_of_address s ns a ≡ None → numbers_in s ns ≡ numbers → None ≡ numbers a
number-none s ns a numbers f same = sym (ap (λ g. g a) (sym same) ∙ ap (option_map (value_at s)) f)

pub one_more : (number : Option ℕ) (m k : ℕ) → None ≡ number → k ≡ m + 1 → k ≡ (if is_some number then m else m + 1)
one_more number m k none e = e ∙ ap (λ z. if is_some z then m else m + 1) none

pub as_many : (number : Option ℕ) (v m k : ℕ) → Some v ≡ number → k ≡ m → k ≡ (if is_some number then m else m + 1)
as_many number v m k some e = e ∙ ap (λ z. if is_some z then m else m + 1) some

mapped-none : (f : ℕ → ℕ) (b : Bool) (found : Option ℕ) → option_map f (if b then None else found) ≡ (if b then None else option_map f found)
mapped-none f true found = refl
mapped-none f false found = refl

mapped-same : (f g : ℕ → ℕ) (found : Option ℕ) → ((m : ℕ) → found ≡ Some m → f m ≡ g m) → option_map f found ≡ option_map g found
mapped-same f g None same = refl
mapped-same f g (Some m) same = ap Some (same m refl)

module _ (s : Slab Entry) (root : ℕ) (h : IsMap s root) (a n : ℕ) (f : name_of_address s (names h.tree) a ≡ Some n) where
  pub found-within : contains (names h.tree) n ≡ true
  found-within = found-in (λ m. address_at s m == a) (names h.tree) n f

  pub found-there : has_entry s n ≡ true
  found-there = Stands-there (entry_store s) 0 h.tree n h.is_tree.stands found-within

  pub number-found : (v : ℕ) (numbers : Numbers) → value_at s n ≡ v → numbers_in s (names h.tree) ≡ numbers → Some v ≡ numbers a
  number-found v numbers is same = sym (ap (λ g. g a) (sym same) ∙ ap (option_map (value_at s)) f ∙ ap Some is)

  pub is_in : IsIn (entry_store s) root n
  is_in = record { tree = h.tree; is_tree = h.is_tree; within = found-within }

  -- it is taken out
  module _ (mid new : Slab Entry) (rest : StaysButLinks s mid) (out : EntryTakenOut mid new n) (top : ℕ) (after : TreeAfter (entry_store s) (entry_store mid) (names h.tree) top (without n (names h.tree))) where
    same-out : (m : ℕ) → contains (without n (names h.tree)) m ≡ true → entry_at new m ≡ entry_at mid m
    same-out m w = out.entries m ∙ rw (ne_eqb m n (differs (without n (names h.tree)) m n w (without-gone n (names h.tree) h.is_tree.distinct))) refl

    tree-out : IsTree (entry_store new) top after.tree
    tree-out = tree-on mid new top after.tree (λ m w. same-out m (subst (λ ys. contains ys m ≡ true) after.list w)) after.is_tree

    pub map-out : IsMap new top
    map-out =
        let more = length-without n (names h.tree) found-within in
        map-made new top after.tree (without n (names h.tree)) tree-out after.list
        (ascend-same mid new 0 (without n (names h.tree)) (λ m w. address-on mid new m (same-out m w))
        (ascend-same s mid 0 (without n (names h.tree)) (λ m w. rest.addresses m) (ascend-without (address_at s) 0 n (names h.tree) h.ascending)))
        (omega (arith, out.count, rest.count, h.count))

    pub numbers-out : (k : IsMap new top) → numbers_in new (names k.tree) ≡ with_number a None (numbers_in s (names h.tree))
    numbers-out k = numbers-are new top k after.tree (without n (names h.tree)) tree-out after.list ∙ (λ i q. point q i)
      where
        point : (q : ℕ) → numbers_in new (without n (names h.tree)) q ≡ with_number a None (numbers_in s (names h.tree)) q
        point q =
            numbers-same s new (without n (names h.tree)) q
            (λ m w. address-on mid new m (same-out m w) ∙ rest.addresses m)
            (λ m w. value-on mid new m (same-out m w) ∙ rest.values m)
            ∙ ap (option_map (value_at s)) (at-without (address_at s) 0 n a q (names h.tree) h.ascending f)
            ∙ mapped-none (value_at s) (a == q) (name_of_address s (names h.tree) q)

  -- it gets another number
  module _ (new : Slab Entry) (v : ℕ) (entry other : Entry) (is : entry_at s n ≡ Some entry) (w : EntryWritten s new n other) (e : other ≡ record entry { value = v }) where
    address-valued : (m : ℕ) → address_at new m ≡ address_at s m
    address-valued m = part-kept s new n entry other is w (λ x. x.at) (ap (λ x. x.at) e) m

    tree-valued : IsTree (entry_store new) root h.tree
    tree-valued = subst (λ store. IsTree store root h.tree) (sym (store-kept s new n v entry other is w e)) h.is_tree

    pub map-valued : IsMap new root
    map-valued = map-made new root h.tree (names h.tree) tree-valued refl (ascend-same s new 0 (names h.tree) (λ m c. address-valued m) h.ascending) (w.count ∙ h.count)

    pub numbers-valued : (k : IsMap new root) → numbers_in new (names k.tree) ≡ with_number a (Some v) (numbers_in s (names h.tree))
    numbers-valued k = numbers-are new root k h.tree (names h.tree) tree-valued refl ∙ (λ i q. point q i)
      where
        value : (m : ℕ) → value_at new m ≡ (if m == n then v else value_at s m)
        value m = part-written s new n entry other is w (λ x. x.value) m ∙ ap (λ z. if m == n then z else value_at s m) (ap (λ x. x.value) e)

        other-value : (q m : ℕ) → a ≢ q → name_of_address s (names h.tree) q ≡ Some m → value_at new m ≡ value_at s m
        other-value q m apart g =
            let at : address_at s m ≡ q = eqb-true (address_at s m) q (find-passes (λ x. address_at s x == q) (names h.tree) m g) in
            let here : address_at s n ≡ a = eqb-true (address_at s n) a (find-passes (λ x. address_at s x == a) (names h.tree) n f) in
            value m ∙ rw (ne_eqb m n (λ same. apart (sym here ∙ ap (address_at s) (sym same) ∙ at))) refl

        point : (q : ℕ) → numbers_in new (names h.tree) q ≡ with_number a (Some v) (numbers_in s (names h.tree)) q
        point q =
            ap {A = ℕ → ℕ} (λ g. option_map (value_at new) (find (λ m. g m == q) (names h.tree))) (λ i m. address-valued m i)
            ∙ elim (eqb_tells a q) as (λ _. option_map (value_at new) (name_of_address s (names h.tree) q) ≡ with_number a (Some v) (numbers_in s (names h.tree)) q) [
              | inl same ↦ rw same.0 (ap (λ z. option_map (value_at new) (name_of_address s (names h.tree) z)) (sym same.1) ∙ ap (option_map (value_at new)) f ∙ ap Some (value n ∙ rw (eq-eqb n n refl) refl))
              | inr apart ↦ rw apart.0 (mapped-same (value_at new) (value_at s) (name_of_address s (names h.tree) q) (λ m g. other-value q m apart.1 g))
            ]
