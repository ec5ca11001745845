-- A node's place in a tree, and another node at it.
use Rattle.vc_base.proofs.Common.{◌≡◌, ℕ, ◌+◌, ◌≤◌, Bool, true, false, ◌≢◌, ◌==◌, sym, refl, ap, ◌∙◌, subst, ⊎_elim, arith, cases_eq, contains}
use Rattle.vc_splay.specs.Tree.{Tree, Node, names}
use Rattle.vc_splay.specs.Store.{Store}
use Rattle.vc_splay.specs.Stands.{IsTree}
use Rattle.vc_splay.specs.Writes.{CanSettleNode, store_with_root}
use Rattle.vc_splay.specs.Moves.{Context, IsInHand, IsTaken, plug, tally, tally_round}
use Rattle.vc_splay.specs.Puts.{CanPut, IsPut, WasPut}
use Rattle.vc_splay.specs.Rank.{level, rank, size}
use Rattle.vc_splay.specs.Seats.{IsSeat, Seated}
use Rattle.vc_splay.proofs.HangLemmas.{SameLinks-on}
use Rattle.vc_splay.proofs.PlaceLemmas.{above_there, side_there}
use Rattle.vc_splay.proofs.PlugLemmas.{IsRound-open, place}
use Rattle.vc_splay.proofs.PutLemmas.{top_above}
use Rattle.vc_splay.proofs.RankLemmas.{rank-plug, size-node, size-plug}
use Rattle.vc_splay.proofs.SplayLemmas.{Settled, has-settled, settle, tally-once, tally-within}
use Rattle.vc_splay.proofs.StandsLemmas.{IsRound-kept, some_held}
use Rattle.vc_splay.proofs.TallyLemmas.{one-other, one-same, tally-node, tally-plug}

-- how often a name stands in the parts of a tree
parts : (c : Context) (l : Tree) (at : ℕ) (r : Tree) (s : Store) (root : ℕ) → IsTree s root (plug c (Node l at r)) → (n : ℕ) → tally n (Node l at r) + tally_round n c ≤ 1
parts c l at r s root k n = let a = tally-once n (plug c (Node l at r)) k.distinct in let b = tally-plug n c (Node l at r) in omega arith

-- a name of a tree is at its place
seat_at : (s : Store) (root at below above left right : ℕ) (side : Bool) (c : Context) (l r : Tree) → s.has 0 ≡ false → IsTree s root (plug c (Node l at r)) → IsTaken s at below above left right
    → (above ≢ 0 → side ≡ (s.kid true above == at)) → IsSeat s root at above side left right c l r
seat_at s root at below above left right side c l r none k h e =
    let q = IsRound-open s c (Node l at r) k.stands in
    let w = parts c l at r s root k in
    let up = h.above_is ∙ q.1.0.parent in
    record {
      round = q.0;
      above_is = up;
      side_is = side_there s c at above side q.0 up (some_held s at none q.1.0.held) (let b = w at in let i = one-same at at refl in let f = tally-node at at l r in omega arith) e;
      left_cut = record { up = at; stands = q.1.1; top_is = h.left_is ∙ q.1.0.left_kid };
      right_cut = record { up = at; stands = q.1.2; top_is = h.right_is ∙ q.1.0.right_kid };
      root_is = λ some. k.top;
      once = w;
    }

pub seated : (s : Store) (root at below above left right : ℕ) (side : Bool) (t : Tree) → s.has 0 ≡ false → IsTree s root t → contains (names t) at ≡ true → IsTaken s at below above left right
    → (above ≢ 0 → side ≡ (s.kid true above == at)) → Seated s root at above side left right t
seated s root at below above left right side t none k within h e =
    let p = place t at (tally-within at t within) in
    let is_tree : IsTree s root (plug p.context (Node p.left at p.right)) = subst (λ z. IsTree s root z) (sym p.whole) k in
    record {
      context = p.context;
      left_tree = p.left;
      right_tree = p.right;
      whole = p.whole;
      seat = seat_at s root at below above left right side p.context p.left p.right none is_tree h e;
    }

pub seat_above : (s : Store) (root at below above left right : ℕ) (t : Tree) → IsTree s root t → contains (names t) at ≡ true → IsTaken s at below above left right → above ≢ 0 → s.has above ≡ true
seat_above s root at below above left right t k within h some =
    let p = place t at (tally-within at t within) in
    let is_tree : IsTree s root (plug p.context (Node p.left at p.right)) = subst (λ z. IsTree s root z) (sym p.whole) k in
    let q = IsRound-open s p.context (Node p.left at p.right) is_tree.stands in
    above_there s p.context at above q.0 (h.above_is ∙ q.1.0.parent) some

-- another node can stand there
module _ (s : Store) (root at above left right by : ℕ) (side : Bool) (c : Context) (l r : Tree) (none : s.has 0 ≡ false) (can : CanSettleNode s by left right)
    (h : IsSeat s root at above side left right c l r) (apart : tally by (plug c (Node l at r)) ≡ 0) where
  once : (n : ℕ) → tally n (Node l by r) + tally_round n c ≤ 1
  once n =
      let a = h.once n in
      let b = tally-node n at l r in
      let d = tally-node n by l r in
      ⊎_elim
      (λ (e : n ≡ by).
      let p = tally-plug n c (Node l at r) in
      let z : tally n (plug c (Node l at r)) ≡ 0 = ap (λ m. tally m (plug c (Node l at r))) e ∙ apart in
      let i = one-same n by e in omega arith)
      (λ (e : n ≢ by). let i = one-other n by e in omega arith)
      (cases_eq n by)

  hand : IsInHand s by left right (Node l by r)
  hand = record { left_tree = l; right_tree = r; whole = refl; held = can.held; left_cut = h.left_cut; right_cut = h.right_cut }

  abbrev mid : Store
  mid = store_with_root by left right s

  settled : Settled s mid by (Node l by r)
  settled = settle s by left right (Node l by r) none hand (λ n. let a = once n in omega arith)

  pub seat_put : IsPut mid root side above by c (Node l by r)
  seat_put = record {
    below = at;
    round = IsRound-kept s mid c at (has-settled by left right s) (λ n i. settled.others n (let a = once n in omega arith)) h.round;
    above_is = h.above_is;
    side_is = h.side_is;
    cut = record { up = 0; stands = settled.stands; top_is = settled.top };
    once = once;
    root_is = λ some. h.root_is some ∙ top_above c (Node l at r) (Node l by r) (λ z. some (h.above_is ∙ z));
  }

  pub seat_taken : (new : Store) (result : ℕ) → WasPut mid new c (Node l by r) result → WasPut s new c (Node l by r) result
  seat_taken new result p = record {
    is_tree = p.is_tree;
    others = λ n zero. SameLinks-on s mid new n (settled.others n (omega arith)) (p.others n zero);
  }

pub can_put_seat : (s : Store) (left right by above : ℕ) → CanSettleNode s by left right → (above ≢ 0 → s.has above ≡ true) → CanPut (store_with_root by left right s) above by
can_put_seat s left right by above can h = record {
  above_held = λ some. ap (λ f. f above) (has-settled by left right s) ∙ h some;
  top_held = λ some. ap (λ f. f by) (has-settled by left right s) ∙ can.held;
}

-- the tree keeps its form
seat_part : (l : Tree) (at by : ℕ) (r : Tree) → size (Node l at r) ≡ size (Node l by r)
seat_part l at by r = size-node l at r ∙ sym (size-node l by r)

pub seat_size : (c : Context) (l : Tree) (at by : ℕ) (r : Tree) → size (plug c (Node l by r)) ≡ size (plug c (Node l at r))
seat_size c l at by r = size-plug c (Node l by r) (Node l at r) (seat_part l by at r)

pub seat_rank : (c : Context) (l : Tree) (at by : ℕ) (r : Tree) → rank (plug c (Node l by r)) ≡ rank (plug c (Node l at r))
seat_rank c l at by r =
    let e = rank-plug c (Node l at r) (Node l by r) (seat_part l at by r) in
    let i : level (size (Node l at r)) ≡ level (size (Node l by r)) = ap level (seat_part l at by r) in
    omega arith
