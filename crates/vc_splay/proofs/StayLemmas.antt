-- A new leaf that stays one.
use Rattle.vc_base.proofs.Common.{◌≡◌, ℕ, Bool, true, false, ◌≢◌, ◌∷◌, Ordering, sym, refl, ap, ◌∙◌, subst, arith, contains}
use Rattle.vc_splay.specs.Tree.{Tree, Leaf, Node, names, name_of}
use Rattle.vc_splay.specs.Store.{Store, SameLinks, with_kid}
use Rattle.vc_splay.specs.Stands.{IsTree, Stands, TreeAfter}
use Rattle.vc_splay.specs.Guide.{order_with_name}
use Rattle.vc_splay.specs.Moves.{plug, tally_round}
use Rattle.vc_splay.specs.Puts.{CanPut, IsPut, WasPut}
use Rattle.vc_splay.specs.Searches.{Gap}
use Rattle.vc_splay.proofs.HangLemmas.{SameLinks-on}
use Rattle.vc_splay.proofs.LeafLemmas.{apart_cons, has_kid, leaf_once, round_of, same_kid}
use Rattle.vc_splay.proofs.PlugLemmas.{IsRound-open}
use Rattle.vc_splay.proofs.PutLemmas.{top_above}
use Rattle.vc_splay.proofs.SplayLemmas.{tally-apart, tally-once}
use Rattle.vc_splay.proofs.StandsLemmas.{IsRound-kept}
use Rattle.vc_splay.proofs.StoreLemmas.{kid-here, kid-opposite}
use Rattle.vc_splay.proofs.TallyLemmas.{one-other, tally-leaf, tally-node}

-- a name with no child
abbrev pub bare : ℕ → Store → Store
bare at s = with_kid false at 0 (with_kid true at 0 s)

pub has_bare : (at : ℕ) (s : Store) → (bare at s).has ≡ s.has
has_bare at s = has_kid false at 0 (with_kid true at 0 s) ∙ has_kid true at 0 s

bare-same : (at : ℕ) (s : Store) (n : ℕ) → n ≢ at → SameLinks s (bare at s) n
bare-same at s n ne = SameLinks-on s (with_kid true at 0 s) (bare at s) n (same_kid true at 0 s n ne) (same_kid false at 0 (with_kid true at 0 s) n ne)

bare-stands : (at : ℕ) (s : Store) → s.has at ≡ true → Stands (bare at s) ((bare at s).parent at) (Node Leaf at Leaf)
bare-stands at s held = (
  record {
    held = ap (λ f. f at) (has_bare at s) ∙ held;
    parent = refl;
    left_kid = kid-opposite false at 0 (with_kid true at 0 s) at ∙ kid-here true at 0 s;
    right_kid = kid-here false at 0 (with_kid true at 0 s);
  },
  tt,
  tt,
)

-- it can stand in its place
pub leaf_put : (s : Store) (side : ℕ → Ordering) (root at : ℕ) (t : Tree) (above : ℕ) (left : Bool) (start now : ℕ) → s.has at ≡ true → contains (names t) at ≡ false → IsTree s root t → (w : Gap side t above left start now)
    → IsPut (bare at s) root left above at w.context (Node Leaf at Leaf)
leaf_put s side root at t above left start now held apart k w =
    let r = round_of t w.context w.whole in
    let zero : tally_round at w.context ≡ 0 = let a = r at in let b = tally-apart at t apart in omega arith in
    let q = IsRound-open s w.context Leaf (subst (λ z. Stands s 0 z) (sym w.whole) k.stands) in
    record {
      below = 0;
      round = IsRound-kept s (bare at s) w.context 0 (has_bare at s) (λ n i. bare-same at s n (λ e. let a = ap (λ z. tally_round z w.context) e in omega arith)) q.0;
      above_is = w.above_is;
      side_is = λ some. w.side_is;
      cut = record { up = (bare at s).parent at; stands = bare-stands at s held; top_is = refl };
      once = leaf_once at w.context (λ m. let a = r m in let b = tally-once m t k.distinct in omega arith) zero;
      root_is = λ some. k.top ∙ ap name_of (sym w.whole) ∙ top_above w.context Leaf (Node Leaf at Leaf) (λ z. some (w.above_is ∙ z));
    }

pub can_put_leaf : (s : Store) (above at : ℕ) → s.has at ≡ true → (above ≢ 0 → s.has above ≡ true) → CanPut (bare at s) above at
can_put_leaf s above at held h = record {
  above_held = λ some. ap (λ f. f above) (has_bare at s) ∙ h some;
  top_held = λ some. ap (λ f. f at) (has_bare at s) ∙ held;
}

-- then it is in the tree
pub leaf_stays : (s new : Store) (side : ℕ → Ordering) (at : ℕ) (t : Tree) (above : ℕ) (left : Bool) (start now result : ℕ) (w : Gap side t above left start now)
    → WasPut (bare at s) new w.context (Node Leaf at Leaf) result → TreeAfter s new (at ∷ names t) result (order_with_name side at (names t))
leaf_stays s new side at t above left start now result w p = record {
  tree = plug w.context (Node Leaf at Leaf);
  is_tree = p.is_tree;
  list = w.list at;
  others = λ n i.
      let q = apart_cons n at (names t) i in
      let a = round_of t w.context w.whole n in
      let b = tally-apart n t q.1 in
      let e = tally-node n at Leaf Leaf in
      let f = tally-leaf n in
      let h = one-other n at q.0 in
      SameLinks-on s (bare at s) new n (bare-same at s n q.0) (p.others n (omega arith));
}
