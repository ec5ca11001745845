-- What a step of a splay, and a new leaf, do to the rank of a tree.
use Rattle.vc_base.proofs.Common.{◌≡◌, ℕ, ◌+◌, ◌≤◌, Bool, true, false, not, ◌∷◌, refl, sym, ap, ◌∙◌, arith, length-append}
use Rattle.vc_splay.specs.Tree.{Tree, Leaf, Node, names}
use Rattle.vc_splay.specs.Moves.{Context, Top, Under, Law, joined_tree, plug}
use Rattle.vc_splay.specs.Rank.{level, rank, size}
use Rattle.vc_splay.proofs.DigitLemmas.{level-rises, single_law, zig_zag_law, zig_zig_law}

pub size-leaf : size Leaf ≡ 0
unfolding size
size-leaf = refl

pub size-node : (l : Tree) (n : ℕ) (r : Tree) → size (Node l n r) ≡ size l + size r + 1
unfolding size
size-node l n r = let e = length-append (names l) (n ∷ names r) in omega arith

pub size-joined : (d : Bool) (t : Tree) (n : ℕ) (u : Tree) → size (joined_tree d t n u) ≡ size t + size u + 1
size-joined true t n u = size-node t n u
size-joined false t n u = let e = size-node u n t in omega arith

-- the size of the joined tree is told as a number, so that its level is that of one written sum
pub rank-joined : (d : Bool) (t : Tree) (n : ℕ) (u : Tree) (k : ℕ) → k ≡ size t + size u + 1 → rank (joined_tree d t n u) ≡ rank t + rank u + level k
rank-joined true t n u k e = let h = ap level (size-node t n u ∙ sym e) in omega arith
rank-joined false t n u k e =
    let turned : size u + size t + 1 ≡ k = omega arith in
    let h = ap level (size-node u n t ∙ turned) in
    omega arith

-- parts of one size in the same place
pub size-plug : (c : Context) (t u : Tree) → size t ≡ size u → size (plug c t) ≡ size (plug c u)
size-plug Top t u e = e
size-plug (Under d n sibling c) t u e =
    let a = size-joined d t n sibling in
    let b = size-joined d u n sibling in
    size-plug c (joined_tree d t n sibling) (joined_tree d u n sibling) (omega arith)

pub size-grown : (c : Context) (t u : Tree) → size u ≡ size t + 1 → size (plug c u) ≡ size (plug c t) + 1
size-grown Top t u e = e
size-grown (Under d n sibling c) t u e =
    let a = size-joined d t n sibling in
    let b = size-joined d u n sibling in
    size-grown c (joined_tree d t n sibling) (joined_tree d u n sibling) (omega arith)

pub rank-plug : (c : Context) (t u : Tree) → size t ≡ size u → rank (plug c u) + rank t ≡ rank (plug c t) + rank u
rank-plug Top t u e = omega arith
rank-plug (Under d n sibling c) t u e =
    let a = size-joined d t n sibling in
    let b = size-joined d u n sibling in
    let h = rank-plug c (joined_tree d t n sibling) (joined_tree d u n sibling) (omega arith) in
    let k = size t + size sibling + 1 in
    let x = rank-joined d t n sibling k refl in
    let y = rank-joined d u n sibling k (ap (λ z. z + size sibling + 1) e) in
    omega arith

-- a smaller part in the same place
pub rank-less : (c : Context) (t u : Tree) → size u ≤ size t → rank (plug c u) + rank t ≤ rank (plug c t) + rank u
rank-less Top t u h = omega arith
rank-less (Under d n sibling c) t u h =
    let a = size-joined d t n sibling in
    let b = size-joined d u n sibling in
    let k = rank-less c (joined_tree d t n sibling) (joined_tree d u n sibling) (omega arith) in
    let x = rank-joined d t n sibling (size t + size sibling + 1) refl in
    let y = rank-joined d u n sibling (size u + size sibling + 1) refl in
    let z = level-rises (size u + size sibling + 1) (size t + size sibling + 1) (omega arith) in
    omega arith

pub size-within : (c : Context) (t : Tree) → size t ≤ size (plug c t)
size-within Top t = omega arith
size-within (Under d n sibling c) t =
    let a = size-joined d t n sibling in
    let k = size-within c (joined_tree d t n sibling) in
    omega arith

-- each step keeps the law
pub zig-law : (d : Bool) (near : Tree) (x : ℕ) (inner : Tree) (p : ℕ) (sibling : Tree)
    → Law (Under d p sibling Top) (joined_tree d near x inner) Top (joined_tree d near x (joined_tree d inner p sibling))
zig-law d near x inner p sibling =
    let a = size near in
    let b = size inner in
    let c = size sibling in
    let t = joined_tree d near x inner in
    let low = joined_tree d inner p sibling in
    let t_size : size t ≡ a + b + 1 = size-joined d near x inner in
    let low_size : size low ≡ b + c + 1 = size-joined d inner p sibling in
    let tree_size : size (joined_tree d near x low) ≡ a + b + c + 2 = let e = size-joined d near x low in omega arith in
    let t_rank = rank-joined d near x inner (a + b + 1) refl in
    let low_rank = rank-joined d inner p sibling (b + c + 1) refl in
    let old_rank = rank-joined d t p sibling (a + b + c + 2) (omega arith) in
    let new_rank = rank-joined d near x low (a + b + c + 2) (omega arith) in
    let t_level = ap level t_size in
    let tree_level = ap level tree_size in
    let law = single_law a b c in
    record { law = omega arith }

pub zig_zig-law : (d : Bool) (near : Tree) (x : ℕ) (inner : Tree) (p : ℕ) (sibling : Tree) (g : ℕ) (uncle : Tree) (context : Context)
    → Law (Under d p sibling (Under d g uncle context)) (joined_tree d near x inner) context (joined_tree d near x (joined_tree d inner p (joined_tree d sibling g uncle)))
zig_zig-law d near x inner p sibling g uncle context =
    let a = size near in
    let b = size inner in
    let c = size sibling in
    let e = size uncle in
    let top = a + b + 1 + c + 1 + e + 1 in
    let t = joined_tree d near x inner in
    let mid = joined_tree d t p sibling in
    let old = joined_tree d mid g uncle in
    let low = joined_tree d sibling g uncle in
    let below = joined_tree d inner p low in
    let new = joined_tree d near x below in
    let t_size : size t ≡ a + b + 1 = size-joined d near x inner in
    let mid_size : size mid ≡ a + b + 1 + c + 1 = let h = size-joined d t p sibling in omega arith in
    let old_size : size old ≡ top = let h = size-joined d mid g uncle in omega arith in
    let low_size : size low ≡ c + e + 1 = size-joined d sibling g uncle in
    let below_size : size below ≡ b + (c + e + 1) + 1 = let h = size-joined d inner p low in omega arith in
    let new_size : size new ≡ top = let h = size-joined d near x below in omega arith in
    let t_rank = rank-joined d near x inner (a + b + 1) refl in
    let mid_rank = rank-joined d t p sibling (a + b + 1 + c + 1) (omega arith) in
    let old_rank = rank-joined d mid g uncle top (omega arith) in
    let low_rank = rank-joined d sibling g uncle (c + e + 1) refl in
    let below_rank = rank-joined d inner p low (b + (c + e + 1) + 1) (omega arith) in
    let new_rank = rank-joined d near x below top (omega arith) in
    let whole = rank-plug context old new (old_size ∙ sym new_size) in
    let t_level = ap level t_size in
    let new_level = ap level new_size in
    let law = zig_zig_law a b c e in
    record { law = omega arith }

pub zig_zag-law : (d : Bool) (near : Tree) (x : ℕ) (inner : Tree) (p : ℕ) (sibling : Tree) (g : ℕ) (uncle : Tree) (context : Context)
    → Law (Under d p sibling (Under (not d) g uncle context)) (joined_tree d near x inner) context (joined_tree d (joined_tree (not d) near g uncle) x (joined_tree d inner p sibling))
zig_zag-law d near x inner p sibling g uncle context =
    let a = size near in
    let b = size inner in
    let c = size sibling in
    let e = size uncle in
    let top = a + b + 1 + c + 1 + e + 1 in
    let t = joined_tree d near x inner in
    let mid = joined_tree d t p sibling in
    let old = joined_tree (not d) mid g uncle in
    let high = joined_tree (not d) near g uncle in
    let low = joined_tree d inner p sibling in
    let new = joined_tree d high x low in
    let t_size : size t ≡ a + b + 1 = size-joined d near x inner in
    let mid_size : size mid ≡ a + b + 1 + c + 1 = let h = size-joined d t p sibling in omega arith in
    let old_size : size old ≡ top = let h = size-joined (not d) mid g uncle in omega arith in
    let high_size : size high ≡ a + e + 1 = size-joined (not d) near g uncle in
    let low_size : size low ≡ b + c + 1 = size-joined d inner p sibling in
    let new_size : size new ≡ top = let h = size-joined d high x low in omega arith in
    let t_rank = rank-joined d near x inner (a + b + 1) refl in
    let mid_rank = rank-joined d t p sibling (a + b + 1 + c + 1) (omega arith) in
    let old_rank = rank-joined (not d) mid g uncle top (omega arith) in
    let high_rank = rank-joined (not d) near g uncle (a + e + 1) refl in
    let low_rank = rank-joined d inner p sibling (b + c + 1) refl in
    let new_rank = rank-joined d high x low top (omega arith) in
    let whole = rank-plug context old new (old_size ∙ sym new_size) in
    let t_level = ap level t_size in
    let new_level = ap level new_size in
    let law = zig_zag_law a b c e in
    record { law = omega arith }

-- in place of a leaf a node raises the rank by a level at most: each level above it rises by one at most, and the rises
-- end below the first level that stays
rank-grown : (c : Context) (t u : Tree) → size u ≡ size t + 1 → rank u ≤ rank t + level (size u) → rank (plug c u) ≤ rank (plug c t) + level (size (plug c u))
rank-grown Top t u e h = h
rank-grown (Under d n sibling c) t u e h =
    let a = size-joined d t n sibling in
    let b = size-joined d u n sibling in
    let x = rank-joined d t n sibling (size (joined_tree d t n sibling)) a in
    let y = rank-joined d u n sibling (size (joined_tree d u n sibling)) b in
    let k = level-rises (size u) (size (joined_tree d t n sibling)) (omega arith) in
    rank-grown c (joined_tree d t n sibling) (joined_tree d u n sibling) (omega arith) (omega arith)

pub rank-leaf : (c : Context) (at : ℕ) → rank (plug c (Node Leaf at Leaf)) ≤ rank (plug c Leaf) + level (size (plug c (Node Leaf at Leaf)))
rank-leaf c at =
    let e = size-node Leaf at Leaf in
    let z = size-leaf in
    rank-grown c Leaf (Node Leaf at Leaf) (omega arith) (omega arith)
