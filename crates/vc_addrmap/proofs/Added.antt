-- What a call does that adds the entry of an address which has none.
use Rattle.vc_base.proofs.Common.{◌≡◌, ℕ, Bool, true, false, if◌then◌else◌, ◌∷◌, ◌==◌, Option, Some, None, is_some, option_map, unwrap_or, nat_cmp, sym, refl, ap, ◌∙◌, subst, ⊎_elim, arith, eq-eqb, ne_eqb, cases_Bool, contains, true≢false}
use Rattle.vc_base.proofs.Members.{differs}
use Rattle.slab.specs.Slab.{Slab}
use Rattle.vc_splay.proofs.StandsLemmas.{Stands-there}
use Rattle.vc_splay.specs.Guide.{CanLink, order_with_name}
use Rattle.vc_splay.specs.Stands.{IsTree, TreeAfter}
use Rattle.vc_splay.specs.Tree.{names}
use Rattle.vc_addrmap.specs.declared.entries.Entry.{Entry}
use Rattle.vc_addrmap.specs.Entries.{EntryAdded, StaysButLinks, address_at, entry_at, entry_side, entry_store, value_at}
use Rattle.vc_addrmap.specs.Map.{AscendFrom, IsMap, name_of_address, numbers_in, with_number}
use Rattle.vc_addrmap.proofs.Ascending.{ascend-put, ascend-rises, at-put, length-put}
use Rattle.vc_addrmap.proofs.Maps.{address-on, ascend-same, map-after, name-same, numbers-after, numbers-same, tree-on, value-on}

mapped-some : (f : ℕ → ℕ) (b : Bool) (n : ℕ) (found : Option ℕ) → option_map f (if b then Some n else found) ≡ (if b then Some (f n) else option_map f found)
mapped-some f true n found = refl
mapped-some f false n found = refl

module _ (s : Slab Entry) (root : ℕ) (h : IsMap s root) (a : ℕ) (f : name_of_address s (names h.tree) a ≡ None) (mid : Slab Entry) (name : ℕ) (entry : Entry) (at-is : entry.at ≡ a) (add : EntryAdded s mid name entry) where
  apart-new : contains (names h.tree) name ≡ false
  apart-new =
      ⊎_elim
      (λ (t : contains (names h.tree) name ≡ true). absurd (true≢false (sym (Stands-there (entry_store s) 0 h.tree name h.is_tree.stands t) ∙ add.new_name)))
      (λ (t : contains (names h.tree) name ≡ false). t)
      (cases_Bool (contains (names h.tree) name))

  same-put : (m : ℕ) → contains (names h.tree) m ≡ true → entry_at mid m ≡ entry_at s m
  same-put m w = add.entries m ∙ rw (ne_eqb m name (differs (names h.tree) m name w apart-new)) refl

  there : entry_at mid name ≡ Some entry
  there = add.entries name ∙ rw (eq-eqb name name refl) refl

  address-new : address_at mid name ≡ a
  address-new = ap (λ z. unwrap_or (option_map (λ x. x.at) z) 0) there ∙ at-is

  ascending-mid : AscendFrom (address_at mid) 0 (names h.tree)
  ascending-mid = ascend-same s mid 0 (names h.tree) (λ m w. address-on s mid m (same-put m w)) h.ascending

  pub can_link : CanLink (entry_store mid) (entry_side mid a) root name
  can_link = record {
    tree = h.tree;
    is_tree = tree-on s mid root h.tree same-put h.is_tree;
    rises = ascend-rises (address_at mid) a 0 0 (names h.tree) (omega arith) ascending-mid;
    held = ap is_some there;
    apart = apart-new;
  }

  pub tree-mid : IsTree (entry_store mid) root h.tree
  tree-mid = tree-on s mid root h.tree same-put h.is_tree

  none-mid : name_of_address mid (names h.tree) (address_at mid name) ≡ None
  none-mid = ap (name_of_address mid (names h.tree)) address-new ∙ name-same s mid (names h.tree) a (λ m w. address-on s mid m (same-put m w)) ∙ f

  by-own : order_with_name (λ m. nat_cmp (address_at mid m) (address_at mid name)) name (names h.tree) ≡ order_with_name (entry_side mid a) name (names h.tree)
  by-own = ap (λ z. order_with_name (entry_side mid z) name (names h.tree)) address-new

  module _ (new : Slab Entry) (rest : StaysButLinks mid new) (top : ℕ) (after : TreeAfter (entry_store mid) (entry_store new) (name ∷ names h.tree) top (order_with_name (entry_side mid a) name (names h.tree))) where
    pub map-put : IsMap new top
    map-put =
        let more = length-put (entry_side mid a) name (names h.tree) in
        map-after mid new rest (name ∷ names h.tree) (order_with_name (entry_side mid a) name (names h.tree)) top after
        (subst (AscendFrom (address_at mid) 0) by-own (ascend-put (address_at mid) 0 name (names h.tree) ascending-mid (omega arith) none-mid))
        (omega (arith, add.count, h.count))

    pub numbers-put : (k : IsMap new top) → numbers_in new (names k.tree) ≡ with_number a (Some entry.value) (numbers_in s (names h.tree))
    numbers-put k = numbers-after mid new rest (name ∷ names h.tree) (order_with_name (entry_side mid a) name (names h.tree)) top after k ∙ (λ i q. point q i)
      where
        point : (q : ℕ) → numbers_in mid (order_with_name (entry_side mid a) name (names h.tree)) q ≡ with_number a (Some entry.value) (numbers_in s (names h.tree)) q
        point q =
            ap (λ ys. numbers_in mid ys q) (sym by-own)
            ∙ ap (option_map (value_at mid)) (at-put (address_at mid) name (names h.tree) q none-mid)
            ∙ mapped-some (value_at mid) (address_at mid name == q) name (name_of_address mid (names h.tree) q)
            ∙ ap (λ z. if z == q then Some (value_at mid name) else numbers_in mid (names h.tree) q) address-new
            ∙ ap (λ z. if a == q then Some (unwrap_or (option_map (λ x. x.value) z) 0) else numbers_in mid (names h.tree) q) there
            ∙ ap (λ z. if a == q then Some entry.value else z) (numbers-same s mid (names h.tree) q (λ m w. address-on s mid m (same-put m w)) (λ m w. value-on s mid m (same-put m w)))
