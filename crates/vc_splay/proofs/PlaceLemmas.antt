-- A node out of a tree, with its subtrees joined in its place.
use Rattle.vc_base.proofs.Common.{◌≡◌, ℕ, ◌+◌, ◌≤◌, Bool, true, false, ◌≢◌, List, ◌∷◌, ◌++◌, ◌==◌, sym, refl, ap, ◌∙◌, subst, append_assoc, arith, AreDistinct, contains, length, length-append, without}
use Rattle.vc_base.proofs.Members.{first-apart, without-split}
use Rattle.vc_splay.specs.Tree.{Tree, Node, names, name_of}
use Rattle.vc_splay.specs.Store.{Store, SameLinks}
use Rattle.vc_splay.specs.Stands.{IsTree, TreeAfter}
use Rattle.vc_splay.specs.Writes.{with_parent_of}
use Rattle.vc_splay.specs.Moves.{Context, Top, Under, IsRound, IsTaken, count, name_at, one, plug, side_in, tally, tally_round}
use Rattle.vc_splay.specs.Puts.{CanPut, IsPut, WasPut}
use Rattle.vc_splay.specs.Rank.{size}
use Rattle.vc_splay.specs.Searches.{IsPair}
use Rattle.vc_splay.proofs.HangLemmas.{IsCut-held, SameLinks-on}
use Rattle.vc_splay.proofs.NeighbourLemmas.{before, behind, names-plug}
use Rattle.vc_splay.proofs.PlugLemmas.{IsRound-open, place}
use Rattle.vc_splay.proofs.PutLemmas.{top_above}
use Rattle.vc_splay.proofs.SplayLemmas.{tally-apart, tally-once, tally-within}
use Rattle.vc_splay.proofs.StandsLemmas.{IsRound-kept, Stands-kept, some_held}
use Rattle.vc_splay.proofs.StepLemmas.{frame-side}
use Rattle.vc_splay.proofs.TallyLemmas.{apart-count, count-distinct, one-same, tally-node, tally-plug, tally-root}
use Rattle.vc_splay.proofs.UnlinkLemmas.{distinct_of, has_parent_of, other_parents, parts_count, raised}

-- how often a name stands in the parts of a tree
parts : (c : Context) (l : Tree) (at : ℕ) (r : Tree) → AreDistinct (names (plug c (Node l at r))) → (n : ℕ) → tally n l + (one n at + tally n r) + tally_round n c ≤ 1
parts c l at r distinct n = let a = tally-once n (plug c (Node l at r)) distinct in let b = tally-plug n c (Node l at r) in let e = tally-node n at l r in omega arith

-- a node's two subtrees are two trees
pub record Halves (old mid : Store) (at left right above : ℕ) (c : Context) (l r : Tree) : Type 0 where
  pub pair : IsPair mid left right l r
  pub round : IsRound old c at
  pub above_is : above ≡ name_at c
  pub others : (n : ℕ) → tally n l ≡ 0 → SameLinks old mid n
  pub left_held : left ≢ 0 → old.has left ≡ true

pub halves : (s : Store) (root at below above left right : ℕ) (c : Context) (l r : Tree) → s.has 0 ≡ false → IsTree s root (plug c (Node l at r)) → IsTaken s at below above left right
    → Halves s (with_parent_of left 0 s) at left right above c l r
halves s root at below above left right c l r none k h =
    let mid = with_parent_of left 0 s in
    let q = IsRound-open s c (Node l at r) k.stands in
    let w = parts c l at r k.distinct in
    let left_is : left ≡ name_of l = h.left_is ∙ q.1.0.left_kid in
    let left_in : left ≢ 0 → 1 ≤ tally left l = λ some. subst (λ z. 1 ≤ tally z l) (sym left_is) (tally-root l (λ z. some (left_is ∙ z))) in
    let other : (n : ℕ) → tally n l ≡ 0 → SameLinks s mid n = λ n zero. other_parents s left 0 n (λ some z. let a = left_in some in let b : 1 ≤ tally n l = subst (λ y. 1 ≤ tally y l) (sym z) a in absurd (omega arith)) in
    let once_l : (n : ℕ) → tally n l ≤ 1 = λ n. let a = w n in omega arith in
    record {
      pair = record {
        up = at;
        front_is = record { top = left_is; stands = raised s at 0 left l none q.1.1 left_is once_l; distinct = distinct_of l once_l };
        back_stands = Stands-kept s mid at r (has_parent_of left 0 s) (λ n i. other n (let a = w n in omega arith)) q.1.2;
        back_top = h.right_is ∙ q.1.0.right_kid;
        distinct = count-distinct (names l ++ names r) (λ n. let a = w n in let b = parts_count n l r in omega arith);
      };
      round = q.0;
      above_is = h.above_is ∙ q.1.0.parent;
      others = other;
      left_held = IsCut-held s left l (record { up = at; stands = q.1.1; top_is = left_is });
    }

pub above_there : (s : Store) (c : Context) (below above : ℕ) → IsRound s c below → above ≡ name_at c → above ≢ 0 → s.has above ≡ true
above_there s Top below above r e some = absurd (some e)
above_there s (Under d n sibling c) below above r e some = ap s.has e ∙ r.0.other_kid.held

-- the side of a part below the node above it
pub side_there : (s : Store) (c : Context) (below above : ℕ) (side : Bool) → IsRound s c below → above ≡ name_at c → below ≢ 0 → tally_round below c ≡ 0 → (above ≢ 0 → side ≡ (s.kid true above == below)) → above ≢ 0 → side ≡ side_in c
side_there s Top below above side r e some apart h f = absurd (f e)
side_there s (Under d n sibling c) below above side r e some apart h f = h f ∙ ap (λ z. s.kid true z == below) e ∙ frame-side s d n below (name_at c) sibling r.0 some (omega arith)

-- the joined tree can stand in the node's place
tally_pair : (n : ℕ) (t l r : Tree) → names t ≡ names l ++ names r → tally n t ≡ tally n l + tally n r
unfolding tally
tally_pair n t l r e = ap (count n) e ∙ parts_count n l r

pair_out : (n : ℕ) (l r : Tree) → tally n l + tally n r ≡ 0 → contains (names l ++ names r) n ≡ false
pair_out n l r h = apart-count n (names l ++ names r) (let e = parts_count n l r in omega arith)

pub in_place : (old mid s : Store) (root at left right above top : ℕ) (side : Bool) (c : Context) (l r : Tree) → old.has 0 ≡ false → s.has ≡ old.has → old.has at ≡ true → IsTree old root (plug c (Node l at r)) → Halves old mid at left right above c l r
    → (above ≢ 0 → side ≡ (old.kid true above == at)) → (a : TreeAfter mid s (names l ++ names r) top (names l ++ names r)) → IsPut s root side above top c a.tree
in_place old mid s root at left right above top side c l r none has held k h e a =
    let w = parts c l at r k.distinct in
    let i = one-same at at refl in
    let t : (n : ℕ) → tally n a.tree ≡ tally n l + tally n r = λ n. tally_pair n a.tree l r a.list in
    record {
      below = at;
      round = IsRound-kept old s c at has (λ n j. let b = w n in SameLinks-on old mid s n (h.others n (omega arith)) (a.others n (pair_out n l r (omega arith)))) h.round;
      above_is = h.above_is;
      side_is = side_there old c at above side h.round h.above_is (some_held old at none held) (let b = w at in omega arith) e;
      cut = record { up = 0; stands = a.is_tree.stands; top_is = a.is_tree.top };
      once = λ n. let b = w n in let f = t n in omega arith;
      root_is = λ some. k.top ∙ top_above c (Node l at r) a.tree (λ z. some (h.above_is ∙ z));
    }

-- then the node is out
list_out : (c : Context) (l : Tree) (at : ℕ) (r part : Tree) → AreDistinct (names (plug c (Node l at r))) → names part ≡ names l ++ names r → names (plug c part) ≡ without at (names (plug c (Node l at r)))
list_out c l at r part distinct e =
    let front = before c ++ names l in
    let back = names r ++ behind c in
    let whole : names (plug c (Node l at r)) ≡ front ++ at ∷ back =
    names-plug c (Node l at r) ∙ ap (λ z. before c ++ z) (append_assoc (names l) (at ∷ names r) (behind c)) ∙ sym (append_assoc (before c) (names l) (at ∷ back)) in
    names-plug c part ∙ ap (λ z. before c ++ (z ++ behind c)) e
    ∙ ap (λ z. before c ++ z) (append_assoc (names l) (names r) (behind c)) ∙ sym (append_assoc (before c) (names l) back)
    ∙ sym (ap (without at) whole ∙ without-split front at back (first-apart front at back (subst AreDistinct whole distinct)))

pub taken_out : (old mid s new : Store) (root at left right above top result : ℕ) (c : Context) (l r : Tree) → IsTree old root (plug c (Node l at r)) → Halves old mid at left right above c l r
    → (a : TreeAfter mid s (names l ++ names r) top (names l ++ names r)) → WasPut s new c a.tree result → TreeAfter old new (names (plug c (Node l at r))) result (without at (names (plug c (Node l at r))))
taken_out old mid s new root at left right above top result c l r k h a p = record {
  tree = plug c a.tree;
  is_tree = p.is_tree;
  list = list_out c l at r a.tree k.distinct a.list;
  others = λ n i.
      let zero = tally-apart n (plug c (Node l at r)) i in
      let b = tally-plug n c (Node l at r) in
      let e = tally-node n at l r in
      let f = tally_pair n a.tree l r a.list in
      SameLinks-on old mid new n (h.others n (omega arith))
      (SameLinks-on mid s new n (a.others n (pair_out n l r (omega arith))) (p.others n (omega arith)));
}

-- where a name of a tree is, and its two subtrees
pub record Parted (s : Store) (root at left right above : ℕ) (t : Tree) : Type 0 where
  pub context : Context
  pub left_tree : Tree
  pub right_tree : Tree
  pub whole : plug context (Node left_tree at right_tree) ≡ t
  pub is_tree : IsTree s root (plug context (Node left_tree at right_tree))
  pub halves : Halves s (with_parent_of left 0 s) at left right above context left_tree right_tree

pub parted : (s : Store) (root at below above left right : ℕ) (t : Tree) → s.has 0 ≡ false → IsTree s root t → contains (names t) at ≡ true → IsTaken s at below above left right → Parted s root at left right above t
parted s root at below above left right t none k within h =
    let p = place t at (tally-within at t within) in
    let is_tree : IsTree s root (plug p.context (Node p.left at p.right)) = subst (λ z. IsTree s root z) (sym p.whole) k in
    record {
      context = p.context;
      left_tree = p.left;
      right_tree = p.right;
      whole = p.whole;
      is_tree = is_tree;
      halves = halves s root at below above left right p.context p.left p.right none is_tree h;
    }

pub can_put : (old s : Store) (above top : ℕ) (c : Context) (at : ℕ) (xs : List ℕ) (mid : Store) → s.has ≡ old.has → IsRound old c at → above ≡ name_at c → TreeAfter mid s xs top xs → CanPut s above top
can_put old s above top c at xs mid has round e a = record {
  above_held = λ some. ap (λ f. f above) has ∙ above_there old c at above round e some;
  top_held = IsCut-held s top a.tree (record { up = 0; stands = a.is_tree.stands; top_is = a.is_tree.top });
}

pub size_pair : (t l r : Tree) → names t ≡ names l ++ names r → size t ≡ size l + size r
unfolding size
size_pair t l r e = ap (λ xs. length xs) e ∙ length-append (names l) (names r)
