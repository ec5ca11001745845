-- A reading walk down the tree of a map, to the entry of an address.
use Rattle.vc_base.proofs.Common.{◌≡◌, ◌≢◌, ℕ, ◌+◌, ◌^◌, ◌<◌, ◌≤◌, Bool, true, false, if◌then◌else◌, ◌∷◌, ◌++◌, length, Some, None, option_map, unwrap_or, sym, refl, ap, ◌∙◌, subst, arith, length-append, nat_lt, nat_tests}
use Rattle.slab.specs.Slab.{Slab}
use Rattle.vc_splay.specs.Guide.{reads_of_walk}
use Rattle.vc_splay.specs.Stands.{Stands}
use Rattle.vc_splay.specs.Tree.{Tree, Leaf, Node, names, name_of}
use Rattle.vc_splay.specs.Walks.{run}
use Rattle.vc_splay.proofs.SearchLemmas.{asked_few, run-asked, search_leaf}
use Rattle.vc_splay.proofs.WalkLemmas.{names_fit}
use Rattle.vc_addrmap.specs.declared.entries.Entry.{Entry}
use Rattle.vc_addrmap.specs.Entries.{address_at, child_of, entry_at, entry_store, has_entry}
use Rattle.vc_addrmap.specs.EntryLaws.{entry-fits, entry-none}
use Rattle.vc_addrmap.specs.Map.{AscendFrom, IsMap, name_of_address}
use Rattle.vc_addrmap.proofs.Ascending.{ascend-behind, ascend-front, at-before, at-behind, at-here}

module _ (s : Slab Entry) (a : ℕ) where
  -- whether the walk goes left from an entry, and where it comes to
  abbrev pub goes_left : ℕ → Bool
  goes_left n = nat_lt a (address_at s n)

  abbrev pub goes_to : ℕ → ℕ
  goes_to n = (entry_store s).kid (goes_left n) n

  -- the walk is at the top of this part, in which the address stands if it stands anywhere
  pub record Descending (tree : Tree) (at : ℕ) : Type 0 where
    pub up : ℕ
    pub part : Tree
    pub low : ℕ
    pub stands : Stands (entry_store s) up part
    pub at_is : at ≡ name_of part
    pub ascending : AscendFrom (address_at s) low (names part)
    pub same : name_of_address s (names part) a ≡ name_of_address s (names tree) a
    pub few : length (names part) ≤ 2 ^ 32

  -- what is known of the entry there
  pub record DescendingNext (tree : Tree) (at : ℕ) : Type 0 where
    pub held : has_entry s at ≡ true
    pub here : address_at s at ≡ a → name_of_address s (names tree) a ≡ Some at
    pub on : address_at s at ≢ a → Descending tree (goes_to at)
    pub less : run (2 ^ 32) goes_to (goes_to at) < run (2 ^ 32) goes_to at

  pub goes-is : (n : ℕ) (entry : Entry) → entry_at s n ≡ Some entry → goes_to n ≡ child_of (nat_lt a entry.at) entry
  goes-is n entry is = ap (λ z. unwrap_or (option_map (child_of (nat_lt a (unwrap_or (option_map (λ e. e.at) z) 0))) z) 0) is

  pub descending-start : (root : ℕ) (h : IsMap s root) → Descending h.tree root
  descending-start root h = record {
    up = 0;
    part = h.tree;
    low = 0;
    stands = h.is_tree.stands;
    at_is = h.is_tree.top;
    ascending = h.ascending;
    same = refl;
    few = names_fit (entry_store s) 0 h.tree (entry-fits s) h.is_tree.stands h.is_tree.distinct;
  }

  reads : (up : ℕ) (t : Tree) → Stands (entry_store s) up t → length (names t) ≤ 2 ^ 32 → run (2 ^ 32) goes_to (name_of t) ≡ reads_of_walk goes_left t
  reads up t h few = let k = asked_few goes_left t in run-asked (2 ^ 32) (entry_store s) goes_left up t (entry-none s) h (omega arith)

  next-at : (tree : Tree) (at up low : ℕ) (part : Tree) → Stands (entry_store s) up part → at ≡ name_of part → AscendFrom (address_at s) low (names part) → name_of_address s (names part) a ≡ name_of_address s (names tree) a
      → length (names part) ≤ 2 ^ 32 → at ≢ 0 → DescendingNext tree at
  next-at tree at up low Leaf h is rises same few some = absurd (some is)
  next-at tree at up low (Node l n r) h is rises same few some =
      let long = length-append (names l) (n ∷ names r) in
      let whole : run (2 ^ 32) goes_to n ≡ reads_of_walk goes_left (Node l n r) = reads up (Node l n r) h few in
      let left : run (2 ^ 32) goes_to (name_of l) ≡ reads_of_walk goes_left l = reads n l h.1 (omega arith) in
      let right : run (2 ^ 32) goes_to (name_of r) ≡ reads_of_walk goes_left r = reads n r h.2 (omega arith) in
      subst (DescendingNext tree) (sym is)
      (record {
        held = h.0.held;
        here = λ e. sym same ∙ at-here (address_at s) low n a (names l) (names r) rises e;
        on = λ ne. turn (goes_left n) (λ lt. grind (arith, nat_tests, lt)) (λ ge. grind (arith, nat_tests, ge, ne));
        less = fewer (goes_left n) whole left right;
      })
    where
      turn : (b : Bool) → (b ≡ true → a < address_at s n) → (b ≡ false → address_at s n < a) → Descending tree ((entry_store s).kid b n)
      turn true lt gt = record {
        up = n;
        part = l;
        low = low;
        stands = h.1;
        at_is = h.0.left_kid;
        ascending = ascend-front (address_at s) low n (names l) (names r) rises;
        same = sym (at-before (address_at s) low n a (names l) (names r) rises (lt refl)) ∙ same;
        few = let long = length-append (names l) (n ∷ names r) in omega arith;
      }
      turn false lt gt = record {
        up = n;
        part = r;
        low = address_at s n + 1;
        stands = h.2;
        at_is = h.0.right_kid;
        ascending = ascend-behind (address_at s) low n (names l) (names r) rises;
        same = sym (at-behind (address_at s) low n a (names l) (names r) rises (gt refl)) ∙ same;
        few = let long = length-append (names l) (n ∷ names r) in omega arith;
      }

      fewer : (b : Bool) {k : ℕ} → k ≡ (if b then reads_of_walk goes_left l else reads_of_walk goes_left r) + 1 → run (2 ^ 32) goes_to (name_of l) ≡ reads_of_walk goes_left l → run (2 ^ 32) goes_to (name_of r) ≡ reads_of_walk goes_left r
          → run (2 ^ 32) goes_to ((entry_store s).kid b n) < k
      fewer true {k} all left right = let e : run (2 ^ 32) goes_to ((entry_store s).kid true n) ≡ reads_of_walk goes_left l = ap (run (2 ^ 32) goes_to) h.0.left_kid ∙ left in omega (arith, e, all)
      fewer false {k} all left right = let e : run (2 ^ 32) goes_to ((entry_store s).kid false n) ≡ reads_of_walk goes_left r = ap (run (2 ^ 32) goes_to) h.0.right_kid ∙ right in omega (arith, e, all)

  pub descending-next : (tree : Tree) (at : ℕ) → Descending tree at → at ≢ 0 → DescendingNext tree at
  descending-next tree at d some = next-at tree at d.up d.low d.part d.stands d.at_is d.ascending d.same d.few some

  -- below a leaf there is nothing
  pub descending-end : (tree : Tree) (at : ℕ) → Descending tree at → at ≡ 0 → name_of_address s (names tree) a ≡ None
  descending-end tree at d e =
      let leaf = search_leaf (entry_store s) d.up d.part (entry-none s) d.stands (sym e ∙ d.at_is) in
      sym d.same ∙ ap (λ t. name_of_address s (names t) a) leaf
