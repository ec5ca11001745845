-- The node before the first that isn't before what a guide seeks, in the tree that was splayed there.
use Rattle.vc_base.proofs.Common.{◌≡◌, ℕ, false, is_ge, Ordering, sym, ap, ◌∙◌, contains, some_address}
use Rattle.std.specs.Ordering.{is_lt}
use Rattle.vc_splay.specs.Guide.{CanFind, least_at}
use Rattle.vc_splay.specs.Stands.{IsTree, TreeAfter}
use Rattle.vc_splay.specs.Store.{Store}
use Rattle.vc_splay.specs.Tree.{Tree, names}
use Rattle.vc_splay.proofs.SearchLemmas.{rises_each}
use Rattle.vc_dtord.specs.Seeking.{IsInOrNone, last_before, name_before, past}
use Rattle.vc_dtord.proofs.FirstLemmas.{found-within}
use Rattle.vc_dtord.proofs.SeekLemmas.{Rises-past, before-least, last-within, some_address-some}

pub CanFind-past : (s : Store) (side : ℕ → Ordering) (root : ℕ) → CanFind s side root → CanFind s (λ n. past (side n)) root
CanFind-past s side root c = record { tree = c.tree; is_tree = c.is_tree; rises = Rises-past side (names c.tree) c.rises }

module _ (s now : Store) (side : ℕ → Ordering) (root top least : ℕ) (none : s.has 0 ≡ false) (c : CanFind s side root)
    (kept : (t : Tree) → IsTree s root t → TreeAfter s now (names t) top (names t))
    (found : (t : Tree) → IsTree s root t → some_address least ≡ least_at side (names t)) where
  after : TreeAfter s now (names c.tree) top (names c.tree)
  after = kept c.tree c.is_tree

  pub least_in : IsInOrNone now top least
  least_in = record {
    tree = after.tree;
    is_tree = after.is_tree;
    within = λ some.
        ap (λ ys. contains ys least) after.list
        ∙ found-within (λ n. is_ge (side n)) (names c.tree) least (sym (found c.tree c.is_tree) ∙ some_address-some least some);
  }

  module _ (at : ℕ) (back : (u : Tree) → IsTree now top u → some_address at ≡ name_before least (names u)) where
    pub is_before : (t : Tree) → IsTree s root t → some_address at ≡ last_before side (names t)
    is_before t k =
        let a = kept t k in
        back a.tree a.is_tree ∙ ap (name_before least) a.list ∙ before-least side least (names t) (rises_each s side root t none c k) (found t k)

    pub before_in : IsInOrNone now top at
    before_in = record {
      tree = after.tree;
      is_tree = after.is_tree;
      within = λ some.
          ap (λ ys. contains ys at) after.list
          ∙ last-within (λ n. is_lt (side n)) (names c.tree) at (sym (is_before c.tree c.is_tree) ∙ some_address-some at some);
    }
