-- Maps before and after a call on the entries.
use Rattle.vc_base.proofs.Common.{◌≡◌, ◌≢◌, ℕ, ◌+◌, ◌≤◌, true, if◌then◌else◌, List, [], ◌∷◌, length, ◌==◌, Option, Some, None, find, is_some, option_map, unwrap_or, inl, inr, sym, refl, ap, ◌∙◌, subst, arith, eqb_tells, ne_eqb, contains, some_address}
use Rattle.vc_base.proofs.Members.{within-front, within-head, within-rest, within-tail}
use Rattle.slab.specs.Slab.{Slab, slab_len}
use Rattle.vc_splay.specs.Guide.{CanFind, first_at}
use Rattle.vc_splay.specs.Stands.{IsTree, Stands, TreeAfter}
use Rattle.vc_splay.specs.Tree.{Tree, Leaf, Node, names}
use Rattle.vc_addrmap.specs.declared.entries.Entry.{Entry}
use Rattle.vc_addrmap.specs.Entries.{StaysButLinks, address_at, entry_at, entry_side, entry_store, value_at}
use Rattle.vc_addrmap.specs.declared.addr_map.AddrMap.{AddrMap}
use Rattle.vc_addrmap.specs.Parts.{count_of, names_of, numbers_of}
use Rattle.vc_addrmap.specs.Map.{AscendFrom, IsMap, name_of_address, numbers_in, with_number}
use Rattle.vc_addrmap.specs.MapUnique.{IsMap-names}
use Rattle.vc_addrmap.proofs.Ascending.{ascend-rises, is_eq-cmp}

-- what is sought by a guide is what has the address
pub first-named : (s : Slab Entry) (ns : List ℕ) (a : ℕ) → first_at (entry_side s a) ns ≡ name_of_address s ns a
first-named s ns a = ap (λ p. find p ns) (λ i n. is_eq-cmp (address_at s n) a i)

-- a name, or none where it is 0
pub named : (n : ℕ) (found : Option ℕ) → n ≢ 0 → some_address n ≡ found → found ≡ Some n
named n found ne e = sym e ∙ rw (ne_eqb n 0 ne) refl

pub unnamed : (n : ℕ) (found : Option ℕ) → n ≡ 0 → some_address n ≡ found → found ≡ None
unnamed n found is e = sym e ∙ rw is refl

-- addresses and numbers that stay on a list
module _ (old new : Slab Entry) where
  pub ascend-same : (low : ℕ) (ns : List ℕ) → ((m : ℕ) → contains ns m ≡ true → address_at new m ≡ address_at old m) → AscendFrom (address_at old) low ns → AscendFrom (address_at new) low ns
  ascend-same low [] same h = tt
  ascend-same low (x ∷ ns) same h =
      let e = same x (within-head x ns) in
      (subst (λ z. low ≤ z) (sym e) h.0, subst (λ z. AscendFrom (address_at new) (z + 1) ns) (sym e) (ascend-same (address_at old x + 1) ns (λ m w. same m (within-tail x ns m w)) h.1))

  pub numbers-same : (ns : List ℕ) (q : ℕ) → ((m : ℕ) → contains ns m ≡ true → address_at new m ≡ address_at old m) → ((m : ℕ) → contains ns m ≡ true → value_at new m ≡ value_at old m) → numbers_in new ns q ≡ numbers_in old ns q
  numbers-same [] q same values = refl
  numbers-same (x ∷ ns) q same values =
      ap (λ z. option_map (value_at new) (if z == q then Some x else name_of_address new ns q)) (same x (within-head x ns))
      ∙ elim (eqb_tells (address_at old x) q) as (λ _. option_map (value_at new) (if address_at old x == q then Some x else name_of_address new ns q) ≡ numbers_in old (x ∷ ns) q) [
        | inl is ↦ rw is.0 (ap Some (values x (within-head x ns)))
        | inr apart ↦ rw apart.0 (numbers-same ns q (λ m w. same m (within-tail x ns m w)) (λ m w. values m (within-tail x ns m w)))
      ]

  pub name-same : (ns : List ℕ) (q : ℕ) → ((m : ℕ) → contains ns m ≡ true → address_at new m ≡ address_at old m) → name_of_address new ns q ≡ name_of_address old ns q
  name-same [] q same = refl
  name-same (x ∷ ns) q same =
      ap (λ z. if z == q then Some x else name_of_address new ns q) (same x (within-head x ns))
      ∙ ap (λ z. if address_at old x == q then Some x else z) (name-same ns q (λ m w. same m (within-tail x ns m w)))

  -- a tree whose names keep their entries
  pub stands-on : (up : ℕ) (t : Tree) → ((m : ℕ) → contains (names t) m ≡ true → entry_at new m ≡ entry_at old m) → Stands (entry_store old) up t → Stands (entry_store new) up t
  stands-on up Leaf same h = tt
  stands-on up (Node l n r) same h =
      let e : entry_at new n ≡ entry_at old n = same n (within-rest (names l) (n ∷ names r) n (within-head n (names r))) in (
        record {
          held = ap is_some e ∙ h.0.held;
          parent = ap (λ z. unwrap_or (option_map (λ x. x.up) z) 0) e ∙ h.0.parent;
          left_kid = ap (λ z. unwrap_or (option_map (λ x. x.left) z) 0) e ∙ h.0.left_kid;
          right_kid = ap (λ z. unwrap_or (option_map (λ x. x.right) z) 0) e ∙ h.0.right_kid;
        },
        stands-on n l (λ m w. same m (within-front (names l) (n ∷ names r) m w)) h.1,
        stands-on n r (λ m w. same m (within-rest (names l) (n ∷ names r) m (within-tail n (names r) m w))) h.2,
      )

  pub tree-on : (root : ℕ) (t : Tree) → ((m : ℕ) → contains (names t) m ≡ true → entry_at new m ≡ entry_at old m) → IsTree (entry_store old) root t → IsTree (entry_store new) root t
  tree-on root t same h = record { top = h.top; stands = stands-on 0 t same h.stands; distinct = h.distinct }

  pub address-on : (m : ℕ) → entry_at new m ≡ entry_at old m → address_at new m ≡ address_at old m
  address-on m e = ap (λ z. unwrap_or (option_map (λ x. x.at) z) 0) e

  pub value-on : (m : ℕ) → entry_at new m ≡ entry_at old m → value_at new m ≡ value_at old m
  value-on m e = ap (λ z. unwrap_or (option_map (λ x. x.value) z) 0) e

-- a tree of entries in ascending order is a map
pub map-made : (s : Slab Entry) (root : ℕ) (t : Tree) (ns : List ℕ) → IsTree (entry_store s) root t → names t ≡ ns → AscendFrom (address_at s) 0 ns → slab_len s ≡ length ns → IsMap s root
map-made s root t ns is list h count = record {
  tree = t;
  is_tree = is;
  ascending = subst (AscendFrom (address_at s) 0) (sym list) h;
  count = count ∙ ap length (sym list);
}

-- its numbers are those that the tree's names give
pub numbers-are : (s : Slab Entry) (root : ℕ) (k : IsMap s root) (t : Tree) (ns : List ℕ) → IsTree (entry_store s) root t → names t ≡ ns → numbers_in s (names k.tree) ≡ numbers_in s ns
numbers-are s root k t ns is list = ap (numbers_in s) (IsMap-names s root k t is ∙ list)

-- calls on the tree alone
module _ (old new : Slab Entry) (rest : StaysButLinks old new) (touched ns : List ℕ) (root : ℕ) (after : TreeAfter (entry_store old) (entry_store new) touched root ns) where
  pub map-after : AscendFrom (address_at old) 0 ns → slab_len old ≡ length ns → IsMap new root
  map-after h count = map-made new root after.tree ns after.is_tree after.list (ascend-same old new 0 ns (λ m w. rest.addresses m) h) (rest.count ∙ count)

  pub names-after : (k : IsMap new root) → names k.tree ≡ ns
  names-after k = IsMap-names new root k after.tree after.is_tree ∙ after.list

  pub numbers-after : (k : IsMap new root) → numbers_in new (names k.tree) ≡ numbers_in old ns
  numbers-after k = numbers-are new root k after.tree ns after.is_tree after.list ∙ (λ i q. numbers-same old new ns q (λ m w. rest.addresses m) (λ m w. rest.values m) i)

module _ (s : Slab Entry) (root : ℕ) (h : IsMap s root) where
  pub can_find : (a : ℕ) → CanFind (entry_store s) (entry_side s a) root
  can_find a = record { tree = h.tree; is_tree = h.is_tree; rises = ascend-rises (address_at s) a 0 0 (names h.tree) (omega arith) h.ascending }

  -- with room of another size it is the same
  module _ (new : Slab Entry) (same : (m : ℕ) → entry_at new m ≡ entry_at s m) where
    pub map-same : slab_len new ≡ slab_len s → IsMap new root
    map-same count = map-made new root h.tree (names h.tree) (tree-on s new root h.tree (λ m w. same m) h.is_tree) refl (ascend-same s new 0 (names h.tree) (λ m w. address-on s new m (same m)) h.ascending) (count ∙ h.count)

    pub numbers-kept : (k : IsMap new root) → numbers_in new (names k.tree) ≡ numbers_in s (names h.tree)
    numbers-kept k = numbers-are new root k h.tree (names h.tree) (tree-on s new root h.tree (λ m w. same m) h.is_tree) refl ∙ (λ i q. numbers-same s new (names h.tree) q (λ m w. address-on s new m (same m)) (λ m w. value-on s new m (same m)) i)

-- what a map means, whatever it keeps of its entries
pub means-same : (m old : AddrMap) → ((k : IsMap m.entries.slab m.root) → numbers_in m.entries.slab (names k.tree) ≡ numbers_in old.entries.slab (names old.kept.tree)) → numbers_of m ≡ numbers_of old
unfolding names_of numbers_of
means-same m old all = all m.kept

pub means-with : (m old : AddrMap) (a : ℕ) (number : Option ℕ) → ((k : IsMap m.entries.slab m.root) → numbers_in m.entries.slab (names k.tree) ≡ with_number a number (numbers_in old.entries.slab (names old.kept.tree))) → numbers_of m ≡ with_number a number (numbers_of old)
unfolding names_of numbers_of
means-with m old a number all = all m.kept

pub names-mean : (m : AddrMap) (ns : List ℕ) → ((k : IsMap m.entries.slab m.root) → names k.tree ≡ ns) → names_of m ≡ ns
unfolding names_of
names-mean m ns all = all m.kept

-- it has as many entries as addresses
pub count-is : (m : AddrMap) → slab_len m.entries.slab ≡ count_of m
unfolding names_of count_of
count-is m = m.kept.count
