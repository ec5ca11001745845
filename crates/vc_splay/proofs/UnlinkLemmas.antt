-- Two trees joined, and a tree without its root.
use Rattle.vc_base.proofs.Common.{◌≡◌, ℕ, ◌+◌, ◌≤◌, Bool, true, false, cond, ◌≢◌, List, [], ◌∷◌, ◌++◌, ◌==◌, Some, None, sym, refl, ap, ◌∙◌, subst, append_assoc, arith, ne_eqb, AreDistinct, contains, last_in, some_address}
use Rattle.vc_base.specs.Holders.{last_of}
use Rattle.vc_base.proofs.Options.{some_same}
use Rattle.vc_splay.specs.Tree.{Tree, Leaf, Node, names, name_of}
use Rattle.vc_splay.specs.Store.{Store, SameLinks, with_kid, with_parent}
use Rattle.vc_splay.specs.Stands.{IsNode, IsTree, Stands, TreeAfter}
use Rattle.vc_splay.specs.Moves.{count, one, tally}
use Rattle.vc_splay.specs.Searches.{IsPair}
use Rattle.vc_splay.specs.Unique.{one_tree}
use Rattle.vc_splay.specs.Writes.{with_parent_of}
use Rattle.vc_splay.proofs.HangLemmas.{SameLinks-on, SameLinks-same}
use Rattle.vc_splay.proofs.LeafLemmas.{apart_tally, parents_kid}
use Rattle.vc_splay.proofs.NeighbourLemmas.{last_both}
use Rattle.vc_splay.proofs.SearchLemmas.{search_leaf}
use Rattle.vc_splay.proofs.SplayLemmas.{tally-once, tally-within}
use Rattle.vc_splay.proofs.StandsLemmas.{Stands-kept, Stands-moved, some_held}
use Rattle.vc_splay.proofs.StepLemmas.{Stands-held}
use Rattle.vc_splay.proofs.StoreLemmas.{kid-here, kid-opposite, kid-other, parent-here, parent-other, parent_of-here, parent_of-other}
use Rattle.vc_splay.proofs.TallyLemmas.{count-append, count-apart, count-distinct, distinct-count, one-same, tally-leaf, tally-list, tally-node, tally-root, within-count}

pub has_parent_of : (n v : ℕ) (s : Store) → (with_parent_of n v s).has ≡ s.has
unfolding with_parent_of
has_parent_of n v s = refl

kids_parent_of : (n v : ℕ) (s : Store) → (with_parent_of n v s).kid ≡ s.kid
unfolding with_parent_of
kids_parent_of n v s = refl

-- other names where a parent is written
pub other_parents : (s : Store) (n v m : ℕ) → (n ≢ 0 → m ≢ n) → SameLinks s (with_parent_of n v s) m
other_parents s n v m ne = record { kid = λ d. ap (λ f. f d m) (kids_parent_of n v s); parent = parent_of-other n v s m ne }

-- a tree below another node
pub raised : (s : Store) (up to top : ℕ) (t : Tree) → s.has 0 ≡ false → Stands s up t → top ≡ name_of t → ((n : ℕ) → tally n t ≤ 1) → Stands (with_parent_of top to s) to t
raised s up to top t none h e once =
    let new = with_parent_of top to s in
    Stands-moved s new up to t none (has_parent_of top to s)
    (λ some. ap new.parent (sym e) ∙ parent_of-here top to s (λ z. some (sym e ∙ z)))
    (λ some d. ap (λ f. f d (name_of t)) (kids_parent_of top to s))
    (λ n i ne. other_parents s top to n (λ some z. ne (z ∙ e)))
    once h

root_in : (t : Tree) (top n : ℕ) → top ≡ name_of t → top ≢ 0 → tally n t ≡ 0 → n ≢ top
root_in t top n e some zero z =
    let r : 1 ≤ tally (name_of t) t = tally-root t (λ y. some (e ∙ y)) in
    let q : 1 ≤ tally n t = subst (λ y. 1 ≤ tally y t) (sym (z ∙ e)) r in
    absurd (omega arith)

-- the two parts of a list
pub parts_count : (n : ℕ) (a b : Tree) → count n (names a ++ names b) ≡ tally n a + tally n b
unfolding tally
parts_count n a b = count-append n (names a) (names b)

pair_once : (s : Store) (left right : ℕ) (a b : Tree) → IsPair s left right a b → (n : ℕ) → tally n a + tally n b ≤ 1
pair_once s left right a b p n = let k = distinct-count n (names a ++ names b) p.distinct in let e = parts_count n a b in omega arith

pub pair_apart : (a b : Tree) (n : ℕ) → contains (names a ++ names b) n ≡ false → tally n a + tally n b ≡ 0
pair_apart a b n h = let k = count-apart n (names a ++ names b) h in let e = parts_count n a b in omega arith

append_none : (xs : List ℕ) → xs ≡ xs ++ []
append_none [] = refl
append_none (x ∷ xs) = ap (λ z. x ∷ z) (append_none xs)

pub distinct_of : (t : Tree) → ((n : ℕ) → tally n t ≤ 1) → AreDistinct (names t)
unfolding tally
distinct_of t once = count-distinct (names t) once

-- the second tree alone
pub join_back : (s : Store) (left right : ℕ) (a b : Tree) → s.has 0 ≡ false → IsPair s left right a b → left ≡ 0 → TreeAfter s (with_parent_of right 0 s) (names a ++ names b) right (names a ++ names b)
join_back s left right a b none p e =
    let leaf = search_leaf s 0 a none p.front_is.stands (sym e ∙ p.front_is.top) in
    let once : (n : ℕ) → tally n b ≤ 1 = λ n. let k = pair_once s left right a b p n in omega arith in
    record {
      tree = b;
      is_tree = record { top = p.back_top; stands = raised s p.up 0 right b none p.back_stands p.back_top once; distinct = distinct_of b once };
      list = ap (λ z. names z ++ names b) (sym leaf);
      others = λ n h. other_parents s right 0 n (λ some. root_in b right n p.back_top some (let k = pair_apart a b n h in omega arith));
    }

-- the first tree alone
pub join_front : (s : Store) (left right : ℕ) (a b : Tree) → s.has 0 ≡ false → IsPair s left right a b → right ≡ 0 → TreeAfter s s (names a ++ names b) left (names a ++ names b)
join_front s left right a b none p e =
    let leaf = search_leaf s p.up b none p.back_stands (sym e ∙ p.back_top) in
    record {
      tree = a;
      is_tree = p.front_is;
      list = append_none (names a) ∙ ap (λ z. names a ++ names z) (sym leaf);
      others = λ n h. SameLinks-same s n;
    }

some_is : (t : Bool) (r m : ℕ) → cond t None (Some r) ≡ Some m → r ≡ m
some_is true r m k = cc
some_is false r m k = cc

last_is : (xs : List ℕ) (m r : ℕ) → last_in xs ≡ Some m → some_address r ≡ last_in xs → r ≡ m
last_is xs m r e h = some_is (r == 0) r m (h ∙ e)

last_on : (other : ℕ) (xs ys : List ℕ) (y : ℕ) → last_of other (xs ++ y ∷ ys) ≡ last_of y ys
last_on other [] ys y = refl
last_on other (x ∷ xs) ys y = last_on x xs ys y

last_counted : (x : ℕ) (xs : List ℕ) → 1 ≤ count (last_of x xs) (x ∷ xs)
last_counted x [] = let e = one-same x x refl in omega arith
last_counted x (y ∷ ys) = let k = last_counted y ys in omega arith

-- the last name of a tree is in it
pub last_in_tree : (t : Tree) (r : ℕ) → name_of t ≢ 0 → some_address r ≡ last_in (names t) → contains (names t) r ≡ true
last_in_tree Leaf r some h = absurd (some refl)
last_in_tree (Node a n b) r some h =
    let m : r ≡ last_of n (names b) = last_is (names a ++ n ∷ names b) (last_of n (names b)) r (last_both (names a) (names b) n) h in
    let k = last_counted n (names b) in
    ap (contains (names a ++ n ∷ names b)) m ∙ within-count (last_of n (names b)) (names a ++ n ∷ names b) (let e = count-append (last_of n (names b)) (names a) (n ∷ names b) in omega arith)

-- where the last name is the root, there is nothing on the right
tally_right : (n : ℕ) (a : Tree) (m : ℕ) (b : Tree) → tally n (Node a m b) ≡ tally n a + count n (m ∷ names b)
unfolding tally
tally_right n a m b = count-append n (names a) (m ∷ names b)

nothing_right : (l : Tree) (n : ℕ) (r : Tree) → ((m : ℕ) → tally m (Node l n r) ≤ 1) → last_in (names (Node l n r)) ≡ Some n → r ≡ Leaf
nothing_right l n Leaf once h = refl
nothing_right l n (Node a m b) once h =
    let e : last_of n (names (Node a m b)) ≡ n = some_same (sym (last_both (names l) (names (Node a m b)) n) ∙ h) in
    let f : last_of n (names a ++ m ∷ names b) ≡ last_of m (names b) = last_on n (names a) (names b) m in
    let k = last_counted m (names b) in
    let j : 1 ≤ count n (m ∷ names b) = subst (λ z. 1 ≤ count z (m ∷ names b)) (sym f ∙ e) k in
    let w = once n in
    let u = tally-node n n l (Node a m b) in
    let v = tally_right n a m b in
    let i = one-same n n refl in
    absurd (omega arith)

-- the first tree's last name at its root, with the second tree on its right
record Ready (s : Store) (top : ℕ) (t : Tree) : Type 0 where
  pub rest : Tree
  pub whole : t ≡ Node rest top Leaf
  pub node : IsNode s 0 top (name_of rest) 0
  pub stands : Stands s top rest

ready : (s : Store) (top end : ℕ) (a t : Tree) → s.has 0 ≡ false → IsTree s top t → names t ≡ names a → some_address end ≡ last_in (names a) → top ≡ end → top ≢ 0 → Ready s top t
ready s top end a Leaf none k list e same some = absurd (some k.top)
ready s top end a (Node l n r) none k list e same some =
    let here : n ≡ top = sym k.top in
    let at_end : last_in (names (Node l n r)) ≡ Some n =
    ap last_in list ∙ sym e ∙ ap (λ z. cond z None (Some end)) (ne_eqb end 0 (λ z. some (same ∙ z))) ∙ ap Some (sym same ∙ sym here) in
    let leaf : r ≡ Leaf = nothing_right l n r (λ m. tally-once m (Node l n r) k.distinct) at_end in
    record {
      rest = l;
      whole = ap (λ z. Node l z r) here ∙ ap (λ z. Node l top z) leaf;
      node = record {
        held = ap s.has (sym here) ∙ k.stands.0.held;
        parent = ap s.parent (sym here) ∙ k.stands.0.parent;
        left_kid = ap (s.kid true) (sym here) ∙ k.stands.0.left_kid;
        right_kid = ap (s.kid false) (sym here) ∙ k.stands.0.right_kid ∙ ap name_of leaf;
      };
      stands = subst (λ z. Stands s z l) here k.stands.1;
    }

-- the same node as the root, with the second tree on its right
pub has_joined : (s : Store) (top right : ℕ) → (with_parent right top (with_kid false top right s)).has ≡ s.has
unfolding with_parent with_kid
has_joined s top right = refl

kids_joined : (s : Store) (top right : ℕ) → (with_parent right top (with_kid false top right s)).kid ≡ (with_kid false top right s).kid
unfolding with_parent
kids_joined s top right = refl

pub joined_has : (s : Store) (top right : ℕ) → (with_parent right top (with_kid false top right s)).has ≡ s.has
joined_has s top right = has_joined s top right

-- the first tree's last name became its root, and then got the second tree
pub record JoinedBoth (old new : Store) (top : ℕ) (a b mid : Tree) : Type 0 where
  pub after : TreeAfter old new (names a ++ names b) top (names a ++ names b)
  pub rest : Tree
  pub front_is : mid ≡ Node rest top Leaf
  pub is : after.tree ≡ Node rest top b

pub join_both : (old s : Store) (left right top end : ℕ) (a b : Tree) → s.has 0 ≡ false → s.has ≡ old.has → IsPair old left right a b → left ≢ 0 → right ≢ 0 → some_address end ≡ last_in (names a) → top ≡ end → (after : TreeAfter old s (names a) top (names a))
    → JoinedBoth old (with_parent right top (with_kid false top right s)) top a b after.tree
join_both old s left right top end a b none has p left_some right_some e same after =
    let new = with_parent right top (with_kid false top right s) in
    let name_a : name_of a ≢ 0 = λ z. left_some (p.front_is.top ∙ z) in
    let top_in : 1 ≤ tally top a = tally-within top a (ap (contains (names a)) same ∙ last_in_tree a end name_a e) in
    let once = pair_once old left right a b p in
    let top_some : top ≢ 0 = λ z. some_held s top none (ap (λ f. f top) has ∙ Stands-held old 0 a top p.front_is.stands top_in) z in
    let r = ready s top end a after.tree none after.is_tree after.list e same top_some in
    let w : (n : ℕ) → tally n a ≡ tally n r.rest + (one n top + 0) = λ n.
    let q = tally-list n after.tree a after.list in let u = ap (tally n) r.whole in let v = tally-node n top r.rest Leaf in let z = tally-leaf n in omega arith in
    let k : (d : Bool) (n : ℕ) → new.kid d n ≡ (with_kid false top right s).kid d n = λ d n. ap (λ f. f d n) (kids_joined s top right) in
    let right_in : 1 ≤ tally right b = subst (λ z. 1 ≤ tally z b) (sym p.back_top) (tally-root b (λ z. right_some (p.back_top ∙ z))) in
    let top_right : top ≢ right = λ z. let c = once top in let f : 1 ≤ tally top b = subst (λ y. 1 ≤ tally y b) (sym z) right_in in absurd (omega arith) in
    let kept : (n : ℕ) → n ≢ top → n ≢ right → SameLinks s new n = λ n nt nr. record {
      kid = λ d. k d n ∙ kid-other false top right s d n nt;
      parent = parent-other right top (with_kid false top right s) n nr ∙ parents_kid false top right s n;
    } in
    let in_b : (n : ℕ) → 1 ≤ tally n b → SameLinks old s n = λ n i. after.others n (apart_tally n a (let c = once n in omega arith)) in
    let back : Stands s p.up b = Stands-kept old s p.up b has in_b p.back_stands in
    let moved : Stands new top b = Stands-moved s new p.up top b none (has_joined s top right)
    (λ some. ap new.parent (sym p.back_top) ∙ parent-here right top (with_kid false top right s))
    (λ some d. k d (name_of b) ∙ kid-other false top right s d (name_of b) (λ z. top_right (sym z ∙ sym p.back_top)))
    (λ n i ne. kept n (λ z. let c = once n in let f : 1 ≤ tally n a = subst (λ y. 1 ≤ tally y a) (sym z) top_in in absurd (omega arith)) (λ z. ne (z ∙ p.back_top)))
    (λ n. let c = once n in omega arith)
    back in
    let rest : Stands new top r.rest = Stands-kept s new top r.rest (has_joined s top right)
    (λ n i. kept n
    (λ z. let f = one-same n top z in let c = once n in let g = w n in absurd (omega arith))
    (λ z. let f : 1 ≤ tally n b = subst (λ y. 1 ≤ tally y b) (sym z) right_in in let c = once n in let g = w n in absurd (omega arith)))
    r.stands in
    let node : IsNode new 0 top (name_of r.rest) (name_of b) = record {
      held = ap (λ f. f top) (has_joined s top right) ∙ r.node.held;
      parent = parent-other right top (with_kid false top right s) top top_right ∙ parents_kid false top right s top ∙ r.node.parent;
      left_kid = k true top ∙ kid-opposite false top right s top ∙ r.node.left_kid;
      right_kid = k false top ∙ kid-here false top right s ∙ p.back_top;
    } in
    let list : names (Node r.rest top b) ≡ names a ++ names b =
    sym (append_assoc (names r.rest) (top ∷ []) (names b)) ∙ ap (λ z. z ++ names b) (ap names (sym r.whole) ∙ after.list) in
    record {
      after = record {
        tree = Node r.rest top b;
        is_tree = record { top = refl; stands = (node, rest, moved); distinct = subst AreDistinct (sym list) p.distinct };
        list = list;
        others = λ n h.
            let zero = pair_apart a b n h in
            SameLinks-on old s new n (after.others n (apart_tally n a (omega arith)))
            (kept n (λ z. let f : 1 ≤ tally n a = subst (λ y. 1 ≤ tally y a) (sym z) top_in in absurd (omega arith)) (λ z. let f : 1 ≤ tally n b = subst (λ y. 1 ≤ tally y b) (sym z) right_in in absurd (omega arith)));
      };
      rest = r.rest;
      front_is = r.whole;
      is = refl;
    }

pub back_held : (s : Store) (left right : ℕ) (a b : Tree) → IsPair s left right a b → right ≢ 0 → s.has right ≡ true
back_held s left right a b p some = Stands-held s p.up b right p.back_stands (subst (λ z. 1 ≤ tally z b) (sym p.back_top) (tally-root b (λ z. some (p.back_top ∙ z))))

-- where one of two trees is empty, the other one is left
pub back_alone : (s : Store) (left right : ℕ) (a b after : Tree) → s.has 0 ≡ false → IsPair s left right a b → IsTree (with_parent_of right 0 s) right after → after ≡ b
back_alone s left right a b after none p k =
    let once : (n : ℕ) → tally n b ≤ 1 = λ n. let i = pair_once s left right a b p n in omega arith in
    one_tree (with_parent_of right 0 s) 0 0 after b (ap (λ f. f 0) (has_parent_of right 0 s) ∙ none) k.stands (raised s p.up 0 right b none p.back_stands p.back_top once) (sym k.top ∙ p.back_top)
