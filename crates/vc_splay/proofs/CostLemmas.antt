-- What a search of a tree costs, a link, and an unlink.
use Rattle.vc_base.proofs.Common.{◌≡◌, ℕ, ◌+◌, ◌-◌, ◌*◌, ◌≤◌, false, length, refl, ap, ◌∙◌, inl, inr, arith, cases_lt}
use Rattle.vc_splay.specs.Tree.{Tree, Leaf, Node, names}
use Rattle.vc_splay.specs.Moves.{Context, Paid, depth, plug}
use Rattle.vc_splay.specs.Rank.{Costs, binary_digits, level, rank, size}
use Rattle.vc_splay.specs.Searches.{Joined}
use Rattle.vc_splay.specs.Stands.{IsTree}
use Rattle.vc_splay.specs.Store.{Store}
use Rattle.vc_splay.proofs.DigitLemmas.{digits-rise, digits-some, level-digits, level-few, level-rises}
use Rattle.vc_splay.proofs.FewLemmas.{deep}
use Rattle.vc_splay.proofs.RankLemmas.{rank-leaf, rank-less, size-leaf, size-node, size-grown, size-within}
use Rattle.vc_splay.proofs.SearchLemmas.{no_tree}

-- a tree of a node and what is round it has a node
size-some : (c : Context) (l : Tree) (n : ℕ) (r : Tree) → 1 ≤ size (plug c (Node l n r))
unfolding size
size-some c l n r =
    let e = size-node l n r in
    let d = deep c (Node l n r) in
    omega arith

size-deep : (c : Context) (t : Tree) → depth c + size t ≤ size (plug c t)
unfolding size
size-deep c t = deep c t

-- the deepest node was splayed
pub searched : (c : Context) (l : Tree) (n : ℕ) (r tree after : Tree) (before now : ℕ) → plug c (Node l n r) ≡ tree → now ≡ before + (depth c + 1) → Paid c (Node l n r) after → Costs tree after before now (12 * binary_digits (size tree))
searched c l n r tree after before now e deep h = record {
  cost =
      let whole = plug c (Node l n r) in
      let i = h.paid in
      let a = level-digits (size whole) (size-some c l n r) in
      let b = ap rank e in
      let s = ap (λ z. binary_digits (size z)) e in
      omega arith;
}

-- no node was read
pub none_cost : (s : Store) (root : ℕ) (t after : Tree) (now most : ℕ) → s.has 0 ≡ false → IsTree s root t → root ≡ 0 → IsTree s 0 after → Costs t after now now most
none_cost s root t after now most none k e j =
    let a = ap rank (no_tree s root t none k e) in
    let b = ap rank (no_tree s 0 after none j refl) in
    record { cost = omega arith }

-- where a number is 2 or more it has two digits
digits-two : binary_digits 2 ≡ 2
unfolding binary_digits
digits-two = refl

two_digits : (d n : ℕ) → d + 1 ≤ n → d ≤ 8 → d ≤ 6 * binary_digits n
two_digits d n within few = elim (cases_lt 1 n) as (λ _. d ≤ 6 * binary_digits n) [
  | inl many ↦ let a = digits-rise 2 n (omega arith) in let b = digits-two in omega arith
  | inr less ↦ omega arith
]

-- a new leaf rose
pub linked_cost : (c : Context) (at : ℕ) (tree after : Tree) (start now : ℕ) → plug c Leaf ≡ tree → now ≡ start + depth c → Paid c (Node Leaf at Leaf) after → Costs tree after start now (8 * binary_digits (size tree + 1))
linked_cost c at tree after start now e deep h = record {
  cost =
      let whole = plug c (Node Leaf at Leaf) in
      let i = h.paid in
      let k = rank-leaf c at in
      let one = size-node Leaf at Leaf in
      let zero = size-leaf in
      let grown : size whole ≡ size tree + 1 = size-grown c Leaf (Node Leaf at Leaf) (omega arith) ∙ ap (λ z. size z + 1) e in
      let a = level-digits (size whole) (omega arith) in
      let b = ap rank e in
      let s = ap binary_digits grown in
      omega arith;
}

-- a new leaf stayed one, and few nodes were read
pub leaf_cost : (c : Context) (at : ℕ) (tree after : Tree) (start now : ℕ) → plug c Leaf ≡ tree → after ≡ plug c (Node Leaf at Leaf) → now ≡ start + depth c → now ≤ start + 8 → Costs tree after start now (8 * binary_digits (size tree + 1))
leaf_cost c at tree after start now e is deep few = record {
  cost =
      let whole = plug c (Node Leaf at Leaf) in
      let k = rank-leaf c at in
      let one = size-node Leaf at Leaf in
      let zero = size-leaf in
      let grown : size whole ≡ size tree + 1 = size-grown c Leaf (Node Leaf at Leaf) (omega arith) ∙ ap (λ z. size z + 1) e in
      let a = level-digits (size whole) (omega arith) in
      let b = ap rank e in
      let s = ap binary_digits grown in
      let r = ap rank is in
      let within = size-deep c Leaf in
      let same = ap size e in
      let some = digits-some (size tree + 1) (omega arith) in
      let two = two_digits (depth c) (size tree + 1) (omega arith) in
      omega arith;
}

-- two trees were joined, of which one was empty or the first one's last name was splayed
pub joined_front : (a b after : Tree) → after ≡ a → Joined a b after
joined_front a b after e = record { paid = let i = ap rank e in omega arith }

pub joined_back : (a b after : Tree) → after ≡ b → Joined a b after
joined_back a b after e = record { paid = let i = ap rank e in omega arith }

pub joined_both : (c : Context) (l : Tree) (end : ℕ) (r a b mid rest after : Tree) (top : ℕ) → plug c (Node l end r) ≡ a → Paid c (Node l end r) mid → mid ≡ Node rest top Leaf → size mid ≡ size a → after ≡ Node rest top b → Joined a b after
joined_both c l end r a b mid rest after top e h front same is = record {
  paid =
      let i = h.paid in
      let zero = size-leaf in
      let first = size-node rest top Leaf in
      let second = size-node rest top b in
      let sizes = ap size front in
      let x = ap rank front in
      let y = ap rank is in
      let z = ap rank e in
      let w = ap level (ap size e) in
      let long : size (Node rest top b) ≡ size a + size b = omega arith in
      let u = ap level long in
      let v = level-rises (size a) (size a + size b) (omega arith) in
      omega arith;
}

-- a node's subtrees were joined in its place
pub unlinked_cost : (c : Context) (l : Tree) (at : ℕ) (r part tree after : Tree) → plug c (Node l at r) ≡ tree → size part ≡ size l + size r → Joined l r part → after ≡ plug c part → Costs tree after 0 0 (12 * binary_digits (size tree))
unlinked_cost c l at r part tree after e parts k is = record {
  cost =
      let j = k.paid in
      let t = Node l at r in
      let whole = size-node l at r in
      let x = ap rank is in
      let y = ap rank e in
      let z = ap size e in
      let all = ap level z in
      let less = rank-less c t part (omega arith) in
      let within = size-within c t in
      let v = level-rises (size l + size r) (size (plug c t)) (omega arith) in
      let few = level-few (size tree) in
      omega arith;
}

-- few nodes were read, and the tree stayed
digits-eight : binary_digits 8 ≡ 4
unfolding binary_digits
digits-eight = refl

shallow : (read n : ℕ) → read ≤ n → read ≤ 48 → read ≤ 12 * binary_digits n
shallow read n within few = elim (cases_lt 12 read) as (λ _. read ≤ 12 * binary_digits n) [
  | inl many ↦ let a = digits-rise 8 n (omega arith) in let b = digits-eight in omega arith
  | inr less ↦ elim (cases_lt 0 read) as (λ _. read ≤ 12 * binary_digits n) [
    | inl some ↦ let a = digits-some n (omega arith) in omega arith
    | inr none ↦ omega arith
  ]
]

pub looked : (tree after : Tree) (before now : ℕ) → tree ≡ after → now ≤ before + length (names tree) → now ≤ before + 48 → Costs tree after before now (12 * binary_digits (size tree))
unfolding size
looked tree after before now e within few = record {
  cost =
      let a = shallow (now - before) (length (names tree)) (omega arith) (omega arith) in
      let b = ap rank e in
      omega arith;
}
