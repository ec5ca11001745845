-- A tree taken apart at one of its names, and what is round a part of it.
use Rattle.vc_base.proofs.Common.{◌≡◌, ℕ, ◌≤◌, true, false, ap, inl, inr, arith, eqb_tells, cases_lt}
use Rattle.vc_splay.specs.Tree.{Tree, Leaf, Node, name_of}
use Rattle.vc_splay.specs.Store.{Store}
use Rattle.vc_splay.specs.Stands.{Stands}
use Rattle.vc_splay.specs.Moves.{Context, Top, Under, HasKid, IsRound, name_at, plug, tally}
use Rattle.vc_splay.proofs.TallyLemmas.{one-other, tally-leaf, tally-node}

-- a standing tree is a part that stands and what is round it
pub IsRound-open : (s : Store) (c : Context) (t : Tree) → Stands s 0 (plug c t) → IsRound s c (name_of t) × Stands s (name_at c) t
IsRound-open s Top t h = (tt, h)
IsRound-open s (Under true n sibling c) t h =
    let q = IsRound-open s c (Node t n sibling) h in
    let k : HasKid s false n sibling = record { held = q.1.0.held; kid = q.1.0.right_kid; stands = q.1.2 } in
    ((record { kid = q.1.0.left_kid; parent = q.1.0.parent; other_kid = k }, q.0), q.1.1)
IsRound-open s (Under false n sibling c) t h =
    let q = IsRound-open s c (Node sibling n t) h in
    let k : HasKid s true n sibling = record { held = q.1.0.held; kid = q.1.0.left_kid; stands = q.1.1 } in
    ((record { kid = q.1.0.right_kid; parent = q.1.0.parent; other_kid = k }, q.0), q.1.2)

pub IsRound-close : (s : Store) (c : Context) (t : Tree) → IsRound s c (name_of t) → Stands s (name_at c) t → Stands s 0 (plug c t)
IsRound-close s Top t r h = h
IsRound-close s (Under true n sibling c) t r h =
    IsRound-close s c (Node t n sibling) r.1 (record { held = r.0.other_kid.held; parent = r.0.parent; left_kid = r.0.kid; right_kid = r.0.other_kid.kid }, h, r.0.other_kid.stands)
IsRound-close s (Under false n sibling c) t r h =
    IsRound-close s c (Node sibling n t) r.1 (record { held = r.0.other_kid.held; parent = r.0.parent; left_kid = r.0.other_kid.kid; right_kid = r.0.kid }, r.0.other_kid.stands, h)

-- where a name is in a tree
pub record Place (t : Tree) (at : ℕ) : Type 0 where
  pub context : Context
  pub left : Tree
  pub right : Tree
  pub whole : plug context (Node left at right) ≡ t

place_in : (t : Tree) (c : Context) (at : ℕ) → 1 ≤ tally at t → Place (plug c t) at
place_in Leaf c at h = let e = tally-leaf at in absurd (omega arith)
place_in (Node l m r) c at h = elim (eqb_tells at m) as (λ _. Place (plug c (Node l m r)) at) [
  | inl same ↦ record { context = c; left = l; right = r; whole = ap (λ z. plug c (Node l z r)) same.1 }
  | inr apart ↦ elim (cases_lt 0 (tally at l)) as (λ _. Place (plug c (Node l m r)) at) [
    | inl some ↦ place_in l (Under true m r c) at (omega arith)
    | inr none ↦ place_in r (Under false m l c) at (let w = tally-node at m l r in let e = one-other at m apart.1 in omega arith)
  ]
]

pub place : (t : Tree) (at : ℕ) → 1 ≤ tally at t → Place t at
place t at h = place_in t Top at h
