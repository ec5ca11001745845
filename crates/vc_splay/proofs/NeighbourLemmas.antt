-- The ends of a tree's names, and the neighbours of one of them.
use Rattle.vc_base.proofs.Common.{◌≡◌, ℕ, Bool, true, false, cond, not, ◌≢◌, List, [], ◌∷◌, ◌++◌, ◌==◌, Some, None, sym, refl, ap, ◌∙◌, subst, inl, inr, true≢false, append_assoc, arith, eq-eqb, ne_eqb, cases_lt, AreDistinct, contains, first_in, first_of, last_in, next_in, previous_in, some_address}
use Rattle.vc_base.specs.Holders.{last_of}
use Rattle.vc_base.proofs.Members.{apart-head, apart-tail, next_in-split, previous_in-split, first-apart}
use Rattle.vc_splay.specs.Tree.{Tree, Leaf, Node, names, name_of}
use Rattle.vc_splay.specs.Store.{Store}
use Rattle.vc_splay.specs.Stands.{HasTree, IsTree, IsWithin, Stands}
use Rattle.vc_splay.specs.Moves.{Context, Top, Under, count, name_at, plug, tally}
use Rattle.vc_splay.specs.Walks.{IsPart, IsNodePlaced, IsTop, beyond, neighbour, tip}
use Rattle.vc_splay.proofs.PlugLemmas.{IsRound-open, place}
use Rattle.vc_splay.proofs.SplayLemmas.{tally-within}
use Rattle.vc_splay.proofs.StandsLemmas.{some_held}
use Rattle.vc_splay.proofs.StepLemmas.{Stands-held}
use Rattle.vc_splay.proofs.TallyLemmas.{apart-count, count-append, count-apart, one-same, within-count}

-- the names before a part of a tree, and those behind it
unfoldable pub before : Context → List ℕ
before Top = []
before (Under true n sibling c) = before c
before (Under false n sibling c) = before c ++ (names sibling ++ n ∷ [])

unfoldable pub behind : Context → List ℕ
behind Top = []
behind (Under true n sibling c) = n ∷ names sibling ++ behind c
behind (Under false n sibling c) = behind c

append_empty : (xs : List ℕ) → xs ++ [] ≡ xs
append_empty [] = refl
append_empty (x ∷ xs) = ap (λ z. x ∷ z) (append_empty xs)

pub names-plug : (c : Context) (t : Tree) → names (plug c t) ≡ before c ++ (names t ++ behind c)
unfolding before behind
names-plug Top t = sym (append_empty (names t))
names-plug (Under true n sibling c) t = names-plug c (Node t n sibling) ∙ ap (λ z. before c ++ z) (append_assoc (names t) (n ∷ names sibling) (behind c))
names-plug (Under false n sibling c) t =
    names-plug c (Node sibling n t)
    ∙ ap (λ z. before c ++ z) (append_assoc (names sibling) (n ∷ names t) (behind c) ∙ sym (append_assoc (names sibling) (n ∷ []) (names t ++ behind c)))
    ∙ sym (append_assoc (before c) (names sibling ++ n ∷ []) (names t ++ behind c))

-- no name is 0
pub no_zero : (s : Store) (up : ℕ) (t : Tree) → s.has 0 ≡ false → Stands s up t → contains (names t) 0 ≡ false
unfolding tally
no_zero s up t none h = elim (cases_lt 0 (count 0 (names t))) as (λ _. contains (names t) 0 ≡ false) [
  | inl some ↦ absurd (some_held s 0 none (Stands-held s up t 0 h some) refl)
  | inr zero ↦ apart-count 0 (names t) (omega arith)
]

-- the ends of two lists one after another
first-front : (xs ys : List ℕ) (x : ℕ) (other : ℕ) → first_of (xs ++ x ∷ ys) other ≡ first_of xs x
first-front [] ys x other = refl
first-front (y ∷ xs) ys x other = refl

last-rest : (other : ℕ) (xs ys : List ℕ) (x : ℕ) → last_of other (xs ++ x ∷ ys) ≡ last_of x ys
last-rest other [] ys x = refl
last-rest other (y ∷ xs) ys x = last-rest y xs ys x

tip-first : (t : Tree) (other : ℕ) → tip true other t ≡ first_of (names t) other
tip-first Leaf other = refl
tip-first (Node l n r) other = tip-first l n ∙ sym (first-front (names l) (names r) n other)

tip-last : (t : Tree) (other : ℕ) → tip false other t ≡ last_of other (names t)
tip-last Leaf other = refl
tip-last (Node l n r) other = tip-last r n ∙ sym (last-rest other (names l) (names r) n)

some_first : (x : ℕ) (xs : List ℕ) (other : ℕ) → contains (x ∷ xs) 0 ≡ false → some_address (first_of (x ∷ xs) other) ≡ Some x
some_first x xs other h = rw (ne_eqb x 0 (apart-head x xs 0 h)) refl

last_some : (x : ℕ) (xs : List ℕ) → contains (x ∷ xs) 0 ≡ false → last_of x xs ≢ 0
last_some x [] h = apart-head x [] 0 h
last_some x (y ∷ xs) h = last_some y xs (apart-tail x (y ∷ xs) 0 h)

some_last : (x : ℕ) (xs : List ℕ) (other : ℕ) → contains (x ∷ xs) 0 ≡ false → some_address (last_of other (x ∷ xs)) ≡ Some (last_of x xs)
some_last x xs other h = rw (ne_eqb (last_of x xs) 0 (last_some x xs h)) refl

-- the first and the last name of a tree
first_by : (xs : List ℕ) (other : ℕ) → contains xs 0 ≡ false → (xs ≡ [] → other ≡ 0) → some_address (first_of xs other) ≡ first_in xs
first_by [] other h e = rw (e refl) refl
first_by (x ∷ xs) other h e = some_first x xs other h

last_by : (xs : List ℕ) (other : ℕ) → contains xs 0 ≡ false → (xs ≡ [] → other ≡ 0) → some_address (last_of other xs) ≡ last_in xs
last_by [] other h e = rw (e refl) refl
last_by (x ∷ xs) other h e = some_last x xs other h

empty_name : (t : Tree) → names t ≡ [] → name_of t ≡ 0
empty_name Leaf e = refl
empty_name (Node l n r) e = absurd (let k = count-append n (names l) (n ∷ names r) in let j = ap (count n) e in let i = one-same n n refl in omega arith)

pub first_name : (t : Tree) (top : ℕ) → contains (names t) 0 ≡ false → top ≡ name_of t → some_address (tip true top t) ≡ first_in (names t)
first_name t top h e = ap some_address (tip-first t top) ∙ first_by (names t) top h (λ z. e ∙ empty_name t z)

pub last_name : (t : Tree) (top : ℕ) → contains (names t) 0 ≡ false → top ≡ name_of t → some_address (tip false top t) ≡ last_in (names t)
last_name t top h e = ap some_address (tip-last t top) ∙ last_by (names t) top h (λ z. e ∙ empty_name t z)

-- a tree is a part of itself
pub whole_part : (s : Store) (root : ℕ) (t : Tree) → IsTree s root t → IsPart s Top t
whole_part s root t h = record { stands = h.stands; distinct = h.distinct }

pub whole_top : (s : Store) (root : ℕ) → HasTree s root → IsTop s root
whole_top s root h = record { context = Top; tree = h.tree; part = whole_part s root h.tree h.is_tree; top = h.is_tree.top }

-- a name of a tree is at a place in it
pub placed : (s : Store) (at : ℕ) → IsWithin s at → IsNodePlaced s at
placed s at h =
    let p = place h.is_in.tree at (tally-within at h.is_in.tree h.is_in.within) in
    let back : h.is_in.tree ≡ plug p.context (Node p.left at p.right) = sym p.whole in
    record {
      context = p.context;
      left = p.left;
      right = p.right;
      part = record {
        stands = subst (λ z. Stands s 0 z) back h.is_in.is_tree.stands;
        distinct = subst (λ z. AreDistinct (names z)) back h.is_in.is_tree.distinct;
      };
    }

-- the node above on either side is the nearest name there
apart_first : (xs ys : List ℕ) → contains (xs ++ ys) 0 ≡ false → contains xs 0 ≡ false
apart_first xs ys h = apart-count 0 xs (let k = count-append 0 xs ys in let j = count_of (xs ++ ys) h in omega arith)
  where
    count_of : (zs : List ℕ) → contains zs 0 ≡ false → count 0 zs ≡ 0
    count_of zs h = count-apart 0 zs h

apart_rest : (xs ys : List ℕ) → contains (xs ++ ys) 0 ≡ false → contains ys 0 ≡ false
apart_rest xs ys h = apart-count 0 ys (let k = count-append 0 xs ys in let j = count-apart 0 (xs ++ ys) h in omega arith)

last-push : (xs : List ℕ) (x : ℕ) → last_in (xs ++ x ∷ []) ≡ Some x
last-push [] x = refl
last-push (y ∷ xs) x = ap Some (last-rest y xs [] x)

pub beyond-before : (c : Context) → contains (before c) 0 ≡ false → some_address (beyond true c) ≡ last_in (before c)
unfolding before
beyond-before Top h = refl
beyond-before (Under true n sibling c) h = beyond-before c h
beyond-before (Under false n sibling c) h =
    let e = apart_rest (names sibling) (n ∷ []) (apart_rest (before c) (names sibling ++ n ∷ []) h) in
    rw (ne_eqb n 0 (apart-head n [] 0 e)) (sym (ap last_in (sym (append_assoc (before c) (names sibling) (n ∷ []))) ∙ last-push (before c ++ names sibling) n))

pub beyond-behind : (c : Context) → contains (behind c) 0 ≡ false → some_address (beyond false c) ≡ first_in (behind c)
unfolding behind
beyond-behind Top h = refl
beyond-behind (Under true n sibling c) h = rw (ne_eqb n 0 (apart-head n (names sibling ++ behind c) 0 h)) refl
beyond-behind (Under false n sibling c) h = beyond-behind c h

first-some : (xs ys : List ℕ) (x : ℕ) → first_in ((xs ++ x ∷ []) ++ ys) ≡ Some (first_of xs x)
first-some [] ys x = refl
first-some (y ∷ xs) ys x = refl

-- the parts of a list that a tree's names are
names_round : (c : Context) (l : Tree) (at : ℕ) (r : Tree) → names (plug c (Node l at r)) ≡ (before c ++ names l) ++ at ∷ (names r ++ behind c)
names_round c l at r =
    names-plug c (Node l at r) ∙ ap (λ z. before c ++ z) (append_assoc (names l) (at ∷ names r) (behind c)) ∙ sym (append_assoc (before c) (names l) (at ∷ names r ++ behind c))

pub last_both : (xs ys : List ℕ) (y : ℕ) → last_in (xs ++ y ∷ ys) ≡ Some (last_of y ys)
last_both [] ys y = refl
last_both (x ∷ xs) ys y = ap Some (last-rest x xs ys y)

-- the neighbour by the tree is that by the list
behind_by : (c : Context) (r : Tree) → contains (names r ++ behind c) 0 ≡ false → contains (names r) 0 ≡ false → some_address (cond (name_of r == 0) (beyond false c) (tip true (name_of r) r)) ≡ first_in (names r ++ behind c)
behind_by c Leaf h k = beyond-behind c h
behind_by c (Node a n b) h k =
    let m : contains (names (Node a n b)) n ≡ true = within-count n (names (Node a n b)) (let i = count-append n (names a) (n ∷ names b) in let j = one-same n n refl in omega arith) in
    rw (ne_eqb n 0 (λ e. true≢false (sym m ∙ ap (contains (names (Node a n b))) e ∙ k))) (first_name (Node a n b) n k refl ∙ first_both (names a) (names b) (behind c) n)
  where
    first_both : (xs ys zs : List ℕ) (x : ℕ) → first_in (xs ++ x ∷ ys) ≡ first_in ((xs ++ x ∷ ys) ++ zs)
    first_both [] ys zs x = refl
    first_both (w ∷ xs) ys zs x = refl

before_by : (c : Context) (l : Tree) → contains (before c ++ names l) 0 ≡ false → contains (names l) 0 ≡ false → some_address (cond (name_of l == 0) (beyond true c) (tip false (name_of l) l)) ≡ last_in (before c ++ names l)
before_by c Leaf h k = beyond-before c (apart_first (before c) [] h) ∙ ap last_in (sym (append_empty (before c)))
before_by c (Node a n b) h k =
    let m : contains (names (Node a n b)) n ≡ true = within-count n (names (Node a n b)) (let i = count-append n (names a) (n ∷ names b) in let j = one-same n n refl in omega arith) in
    rw (ne_eqb n 0 (λ e. true≢false (sym m ∙ ap (contains (names (Node a n b))) e ∙ k)))
    (last_name (Node a n b) n k refl ∙ last_both (names a) (names b) n ∙ sym (ap last_in (sym (append_assoc (before c) (names a) (n ∷ names b))) ∙ last_both (before c ++ names a) (names b) n))

-- a tree and its list at one of its names
record IsCutAt (s : Store) (at : ℕ) (t : Tree) : Type 0 where
  pub context : Context
  pub left : Tree
  pub right : Tree
  pub part : IsPart s context (Node left at right)
  pub list : names t ≡ (before context ++ names left) ++ at ∷ (names right ++ behind context)
  pub free : contains ((before context ++ names left) ++ at ∷ (names right ++ behind context)) 0 ≡ false
  pub once : contains (before context ++ names left) at ≡ false

cut_at : (s : Store) (root at : ℕ) (t : Tree) → s.has 0 ≡ false → IsTree s root t → contains (names t) at ≡ true → IsCutAt s at t
cut_at s root at t none h within =
    let p = place t at (tally-within at t within) in
    let back : t ≡ plug p.context (Node p.left at p.right) = sym p.whole in
    let xs = before p.context ++ names p.left in
    let ys = names p.right ++ behind p.context in
    let list : names t ≡ xs ++ at ∷ ys = ap names back ∙ names_round p.context p.left at p.right in
    record {
      context = p.context;
      left = p.left;
      right = p.right;
      part = record { stands = subst (λ z. Stands s 0 z) back h.stands; distinct = subst (λ z. AreDistinct (names z)) back h.distinct };
      list = list;
      free = subst (λ z. contains z 0 ≡ false) list (no_zero s 0 t none h.stands);
      once = first-apart xs at ys (subst AreDistinct list h.distinct);
    }

pub next_by : (s : Store) (root at : ℕ) (t : Tree) (result : ℕ) → s.has 0 ≡ false → IsTree s root t → contains (names t) at ≡ true
    → ((c : Context) (l r : Tree) → IsPart s c (Node l at r) → result ≡ neighbour false c l r) → some_address result ≡ next_in at (names t)
next_by s root at t result none h within k =
    let p = cut_at s root at t none h within in
    let ys = names p.right ++ behind p.context in
    let rest : contains ys 0 ≡ false = apart-tail at ys 0 (apart_rest (before p.context ++ names p.left) (at ∷ ys) p.free) in
    ap some_address (k p.context p.left p.right p.part)
    ∙ behind_by p.context p.right rest (apart_first (names p.right) (behind p.context) rest)
    ∙ sym (ap (next_in at) p.list ∙ next_in-split (before p.context ++ names p.left) at ys p.once)

pub previous_by : (s : Store) (root at : ℕ) (t : Tree) (result : ℕ) → s.has 0 ≡ false → IsTree s root t → contains (names t) at ≡ true
    → ((c : Context) (l r : Tree) → IsPart s c (Node l at r) → result ≡ neighbour true c l r) → some_address result ≡ previous_in None at (names t)
previous_by s root at t result none h within k =
    let p = cut_at s root at t none h within in
    let xs = before p.context ++ names p.left in
    let front : contains xs 0 ≡ false = apart_first xs (at ∷ (names p.right ++ behind p.context)) p.free in
    ap some_address (k p.context p.left p.right p.part)
    ∙ before_by p.context p.left front (apart_rest (before p.context) (names p.left) front)
    ∙ sym (ap (previous_in None at) p.list ∙ previous_in-split xs at (names p.right ++ behind p.context) p.once)

-- what a step to a neighbour knows of the place
at_place : (s : Store) (c : Context) (l : Tree) (at : ℕ) (r : Tree) → IsPart s c (Node l at r) → Stands s (name_at c) (Node l at r)
at_place s c l at r p = (IsRound-open s c (Node l at r) p.stands).1

pub placed_held : (s : Store) (at : ℕ) → IsNodePlaced s at → s.has at ≡ true
placed_held s at h = (at_place s h.context h.left at h.right h.part).0.held

pub placed_top : (s : Store) (at : ℕ) → IsNodePlaced s at → IsTop s at
placed_top s at h = record { context = h.context; tree = Node h.left at h.right; part = h.part; top = refl }

pub kid_top : (s : Store) (side : Bool) (at inner : ℕ) → IsNodePlaced s at → inner ≡ s.kid side at → IsTop s inner
kid_top s true at inner h e = record {
  context = Under true at h.right h.context;
  tree = h.left;
  part = record { stands = h.part.stands; distinct = h.part.distinct };
  top = e ∙ (at_place s h.context h.left at h.right h.part).0.left_kid;
}
kid_top s false at inner h e = record {
  context = Under false at h.left h.context;
  tree = h.right;
  part = record { stands = h.part.stands; distinct = h.part.distinct };
  top = e ∙ (at_place s h.context h.left at h.right h.part).0.right_kid;
}

pub neighbour_below : (s : Store) (side : Bool) (c : Context) (l : Tree) (at : ℕ) (r : Tree) (inner result : ℕ) → IsPart s c (Node l at r) → inner ≡ s.kid side at → inner ≢ 0
    → ((d : Context) (t : Tree) → IsPart s d t → inner ≡ name_of t → result ≡ tip (not side) inner t) → result ≡ neighbour side c l r
neighbour_below s true c l at r inner result p e some k =
    let name : inner ≡ name_of l = e ∙ (at_place s c l at r p).0.left_kid in
    rw (ne_eqb (name_of l) 0 (λ z. some (name ∙ z))) (k (Under true at r c) l (record { stands = p.stands; distinct = p.distinct }) name ∙ ap (λ z. tip false z l) name)
neighbour_below s false c l at r inner result p e some k =
    let name : inner ≡ name_of r = e ∙ (at_place s c l at r p).0.right_kid in
    rw (ne_eqb (name_of r) 0 (λ z. some (name ∙ z))) (k (Under false at l c) r (record { stands = p.stands; distinct = p.distinct }) name ∙ ap (λ z. tip true z r) name)

pub neighbour_above : (s : Store) (side : Bool) (c : Context) (l : Tree) (at : ℕ) (r : Tree) (inner result : ℕ) → IsPart s c (Node l at r) → inner ≡ s.kid side at → inner ≡ 0
    → ((d : Context) (t : Tree) → IsPart s d t → at ≡ name_of t → result ≡ beyond side d) → result ≡ neighbour side c l r
neighbour_above s true c l at r inner result p e none k =
    let name : inner ≡ name_of l = e ∙ (at_place s c l at r p).0.left_kid in
    rw (eq-eqb (name_of l) 0 (sym name ∙ none)) (k c (Node l at r) p refl)
neighbour_above s false c l at r inner result p e none k =
    let name : inner ≡ name_of r = e ∙ (at_place s c l at r p).0.right_kid in
    rw (eq-eqb (name_of r) 0 (sym name ∙ none)) (k c (Node l at r) p refl)
