-- Trees of which no node has one node as both children: no name stands twice in them.
use Rattle.vc_base.proofs.Common.{◌≡◌, ℕ, zero, suc, ◌≤◌, Bool, true, false, not, ◌&&◌, ◌||◌, ◌==◌, ◌⊎◌, List, ◌∷◌, ◌++◌, length, contains, AreDistinct, sym, refl, ap, ◌∙◌, subst, arith, inl, inr, ⊎_elim, true≢false, eq-eqb, eqb_tells, and_parts, cases_Bool, length-append}
use Rattle.vc_base.proofs.Members.{within-cases, within-either, within-front, within-head, within-rest, within-tail}
use Rattle.vc_splay.specs.Moves.{count, tally}
use Rattle.vc_splay.specs.Store.{Store}
use Rattle.vc_splay.specs.Stands.{IsNode, Stands}
use Rattle.vc_splay.specs.Tree.{Tree, Leaf, Node, name_of, names}
use Rattle.vc_splay.specs.Unique.{one_tree}
use Rattle.vc_splay.proofs.TallyLemmas.{count-append, count-apart, count-distinct, distinct-count, one-other, one-same, tally-root}
use Rattle.vc_image_check.specs.Walks.Spelled.{IsChild, IsSpelled}

-- whether two children aren't one node
abbrev are_two : ℕ → ℕ → Bool
are_two l r = (l == 0) || not (l == r)

-- the store with only the nodes whose children aren't one node
abbrev pub parted : Store → Store
parted s = record { has = λ n. s.has n && are_two (s.kid true n) (s.kid false n); kid = s.kid; parent = s.parent }

two-apart : (l r : ℕ) → are_two l r ≡ true → l ≡ r → l ≡ 0
two-apart l r h e = elim (eqb_tells l 0) as (λ _. l ≡ 0) [
  | inl z ↦ z.1
  | inr ne ↦ absurd (true≢false (sym (rw (ne.0, eq-eqb l r e) at h)))
]

apart-two : (l r : ℕ) → (l ≡ r → l ≡ 0) → are_two l r ≡ true
apart-two l r h = elim (eqb_tells l 0) as (λ _. are_two l r ≡ true) [
  | inl z ↦ rw z.0 refl
  | inr ne ↦ elim (eqb_tells l r) as (λ _. are_two l r ≡ true) [
    | inl e ↦ absurd (ne.1 (h e.1))
    | inr d ↦ rw (ne.0, d.0) refl
  ]
]

pub parted-none : (s : Store) → s.has 0 ≡ false → (parted s).has 0 ≡ false
parted-none s none = rw none refl

pub child-node : (s : Store) (up at left right : ℕ) → IsChild s up at left right → IsNode (parted s) up at left right
child-node s up at left right k = record {
  held = rw (k.node.held, k.node.left_kid, k.node.right_kid) (apart-two left right k.apart);
  parent = k.node.parent;
  left_kid = k.node.left_kid;
  right_kid = k.node.right_kid;
}

pub node-child : (s : Store) (up at left right : ℕ) → IsNode (parted s) up at left right → IsChild s up at left right
node-child s up at left right n =
    let p = and_parts (s.has at) (are_two (s.kid true at) (s.kid false at)) n.held in
    record {
      node = record { held = p.0; parent = n.parent; left_kid = n.left_kid; right_kid = n.right_kid };
      apart = two-apart left right (rw (n.left_kid, n.right_kid) at p.1);
    }

stands-of : (s : Store) (up : ℕ) (t : Tree) → Stands (parted s) up t → Stands s up t
stands-of s up Leaf h = tt
stands-of s up (Node l n r) h = ((node-child s up n (name_of l) (name_of r) h.0).node, stands-of s n l h.1, stands-of s n r h.2)

pub spelled-of : (s : Store) (up at : ℕ) (zs : List ℕ) → IsSpelled (parted s) up at zs → IsSpelled s up at zs
spelled-of s up at zs h = record { tree = h.tree; stands = stands-of s up h.tree h.stands; top = h.top; list = h.list }

-- a name that stands at two places isn't another's left and right child
twice : (l r : Tree) (n : ℕ) → AreDistinct (names l ++ n ∷ names r) → name_of l ≡ name_of r → (name_of l ≡ 0 → ⊥) → ⊥
unfolding tally
twice l r n d e some =
    let x = name_of l in
    let once = distinct-count x (names l ++ n ∷ names r) d in
    let sum = count-append x (names l) (n ∷ names r) in
    let left : 1 ≤ count x (names l) = tally-root l some in
    let right : 1 ≤ count x (names r) = subst (λ z. 1 ≤ count z (names r)) (sym e) (tally-root r (λ z. some (e ∙ z))) in
    omega arith

zero-of : (n : ℕ) → ((n ≡ 0 → ⊥) → ⊥) → n ≡ 0
zero-of zero h = refl
zero-of (suc n) h = absurd (h (λ z. omega (arith, z)))

distinct-left : (xs : List ℕ) (n : ℕ) (ys : List ℕ) → AreDistinct (xs ++ n ∷ ys) → AreDistinct xs
distinct-left xs n ys d = count-distinct xs (λ x. let once = distinct-count x (xs ++ n ∷ ys) d in let sum = count-append x xs (n ∷ ys) in omega arith)

distinct-right : (xs : List ℕ) (n : ℕ) (ys : List ℕ) → AreDistinct (xs ++ n ∷ ys) → AreDistinct ys
distinct-right xs n ys d = count-distinct ys (λ x. let once = distinct-count x (xs ++ n ∷ ys) d in let sum = count-append x xs (n ∷ ys) in omega arith)

stands-parted : (s : Store) (up : ℕ) (t : Tree) → Stands s up t → AreDistinct (names t) → Stands (parted s) up t
stands-parted s up Leaf h d = tt
stands-parted s up (Node l n r) h d = (
  child-node s up n (name_of l) (name_of r) (record { node = h.0; apart = λ e. zero-of (name_of l) (twice l r n d e) }),
  stands-parted s n l h.1 (distinct-left (names l) n (names r) d),
  stands-parted s n r h.2 (distinct-right (names l) n (names r) d),
)

pub spelled-parted : (s : Store) (up at : ℕ) (zs : List ℕ) → IsSpelled s up at zs → AreDistinct zs → IsSpelled (parted s) up at zs
spelled-parted s up at zs h d = record { tree = h.tree; stands = stands-parted s up h.tree h.stands (subst AreDistinct (sym h.list) d); top = h.top; list = h.list }

module _ (s : Store) (none : s.has 0 ≡ false) where
  -- the tree at a name of a tree
  record Below (t : Tree) (x : ℕ) : Type 0 where
    part : Tree
    up : ℕ
    stands : Stands s up part
    top : name_of part ≡ x
    few : length (names part) ≤ length (names t)

  below : (up : ℕ) (t : Tree) (x : ℕ) → Stands s up t → contains (names t) x ≡ true → Below t x
  below up Leaf x st h = absurd (true≢false (sym h))
  below up (Node l n r) x st h =
      let long = length-append (names l) (n ∷ names r) in
      ⊎_elim
      (λ a. let b = below n l x st.1 a in let few = b.few in record { part = b.part; up = b.up; stands = b.stands; top = b.top; few = omega arith })
      (λ w. ⊎_elim
      (λ same. record { part = Node l n r; up = up; stands = st; top = same; few = omega arith })
      (λ c. let b = below n r x st.2 c in let few = b.few in record { part = b.part; up = b.up; stands = b.stands; top = b.top; few = omega arith })
      (within-cases n (names r) x w))
      (within-either (names l) (n ∷ names r) x h)

  -- a node stands in neither tree below it
  not-left : (up : ℕ) (l r : Tree) (n : ℕ) → Stands s up (Node l n r) → contains (names l) n ≡ true → ⊥
  not-left up l r n st h =
      let b = below n l n st.1 h in
      let same : b.part ≡ Node l n r = one_tree s b.up up b.part (Node l n r) none b.stands st b.top in
      let few : length (names (Node l n r)) ≤ length (names l) = subst (λ z. length (names z) ≤ length (names l)) same b.few in
      let long = length-append (names l) (n ∷ names r) in
      omega arith

  not-right : (up : ℕ) (l r : Tree) (n : ℕ) → Stands s up (Node l n r) → contains (names r) n ≡ true → ⊥
  not-right up l r n st h =
      let b = below n r n st.2 h in
      let same : b.part ≡ Node l n r = one_tree s b.up up b.part (Node l n r) none b.stands st b.top in
      let few : length (names (Node l n r)) ≤ length (names r) = subst (λ z. length (names z) ≤ length (names r)) same b.few in
      let long = length-append (names l) (n ∷ names r) in
      omega arith

  -- a name of a tree is its top, or its parent is one of them
  above : (up : ℕ) (t : Tree) (x : ℕ) → Stands s up t → contains (names t) x ≡ true → ((x ≡ name_of t) × (s.parent x ≡ up)) ⊎ (contains (names t) (s.parent x) ≡ true)
  above up Leaf x st h = absurd (true≢false (sym h))
  above up (Node l n r) x st h =
      let here : contains (names l ++ n ∷ names r) n ≡ true = within-rest (names l) (n ∷ names r) n (within-head n (names r)) in
      let to : s.parent x ≡ n → contains (names l ++ n ∷ names r) (s.parent x) ≡ true = λ e. subst (λ z. contains (names l ++ n ∷ names r) z ≡ true) (sym e) here in
      ⊎_elim
      (λ a. ⊎_elim
      (λ top. inr (to top.1))
      (λ w. inr (within-front (names l) (n ∷ names r) (s.parent x) w))
      (above n l x st.1 a))
      (λ b. ⊎_elim
      (λ same. inl (sym same, subst (λ z. s.parent z ≡ up) same st.0.parent))
      (λ c. ⊎_elim
      (λ top. inr (to top.1))
      (λ w. inr (within-rest (names l) (n ∷ names r) (s.parent x) (within-tail n (names r) (s.parent x) w)))
      (above n r x st.2 c))
      (within-cases n (names r) x b))
      (within-either (names l) (n ∷ names r) x h)

  some-parent : (up : ℕ) (t : Tree) (x : ℕ) → Stands s up t → contains (names t) x ≡ true → s.parent (name_of t) ≡ up
  some-parent up Leaf x st h = absurd (true≢false (sym h))
  some-parent up (Node l n r) x st h = st.0.parent

  some-name : (up : ℕ) (t : Tree) (x : ℕ) → Stands s up t → contains (names t) x ≡ true → name_of t ≡ 0 → ⊥
  some-name up Leaf x st h e = true≢false (sym h)
  some-name up (Node l n r) x st h e = true≢false (sym st.0.held ∙ ap s.has e ∙ none)

  -- a tree whose top isn't in another tree below a name, and that doesn't have that name, shares no name with it
  never : (n : ℕ) (r : Tree) → Stands s n r → (up : ℕ) (t : Tree) → Stands s up t → (contains (names r) (name_of t) ≡ true → ⊥)
      → (contains (names t) n ≡ true → ⊥) → (x : ℕ) → contains (names t) x ≡ true → contains (names r) x ≡ true → ⊥
  never n r sr up Leaf st top other x h w = true≢false (sym h)
  never n r sr up (Node a y b) st top other x h w =
      let here : contains (names a ++ y ∷ names b) y ≡ true = within-rest (names a) (y ∷ names b) y (within-head y (names b)) in
      let child : (t : Tree) → s.parent (name_of t) ≡ y → contains (names r) (name_of t) ≡ true → ⊥ =
      λ t e v. ⊎_elim
      (λ p. other (subst (λ z. contains (names a ++ y ∷ names b) z ≡ true) (sym e ∙ p.1) here))
      (λ p. top (subst (λ z. contains (names r) z ≡ true) e p))
      (above n r (name_of t) sr v) in
      ⊎_elim
      (λ i. never n r sr y a st.1 (child a (some-parent y a x st.1 i)) (λ v. other (within-front (names a) (y ∷ names b) n v)) x i w)
      (λ i. ⊎_elim
      (λ same. top (subst (λ z. contains (names r) z ≡ true) (sym same) w))
      (λ j. never n r sr y b st.2 (child b (some-parent y b x st.2 j)) (λ v. other (within-rest (names a) (y ∷ names b) n (within-tail y (names b) n v))) x j w)
      (within-cases y (names b) x i))
      (within-either (names a) (y ∷ names b) x h)

  disjoint : (up : ℕ) (l r : Tree) (n : ℕ) → Stands s up (Node l n r) → (name_of l ≡ name_of r → name_of l ≡ 0) → (x : ℕ) → contains (names l) x ≡ true → contains (names r) x ≡ true → ⊥
  disjoint up l r n st apart x h w =
      never n r st.2 n l st.1
      (λ v. ⊎_elim
      (λ p. some-name n l x st.1 h (apart p.0))
      (λ p. not-right up l r n st (subst (λ z. contains (names r) z ≡ true) (some-parent n l x st.1 h) p))
      (above n r (name_of l) st.2 v))
      (not-left up l r n st) x h w

not-there : (xs : List ℕ) (x : ℕ) → (contains xs x ≡ true → ⊥) → contains xs x ≡ false
not-there xs x h = ⊎_elim (λ (t : contains xs x ≡ true). absurd (h t)) (λ (t : contains xs x ≡ false). t) (cases_Bool (contains xs x))

once : (s : Store) → s.has 0 ≡ false → (x up : ℕ) (t : Tree) → Stands (parted s) up t → count x (names t) ≤ 1
once s none x up Leaf st = omega arith
once s none x up (Node l n r) st =
    let whole : Stands s up (Node l n r) = stands-of s up (Node l n r) st in
    let apart = (node-child s up n (name_of l) (name_of r) st.0).apart in
    let sum = count-append x (names l) (n ∷ names r) in
    let first = once s none x n l st.1 in
    let second = once s none x n r st.2 in
    let left : contains (names l) x ≡ true → count x (names l ++ n ∷ names r) ≤ 1 = λ h.
    let other = one-other x n (λ e. not-left s none up l r n whole (subst (λ z. contains (names l) z ≡ true) e h)) in
    let right = count-apart x (names r) (not-there (names r) x (disjoint s none up l r n whole apart x h)) in
    omega arith in
    let rest : contains (names l) x ≡ false → count x (names l ++ n ∷ names r) ≤ 1 = λ h.
    let no = count-apart x (names l) h in
    ⊎_elim
    (λ (e : (x == n) ≡ true × (x ≡ n)).
    let same = one-same x n e.1 in
    let right = count-apart x (names r) (not-there (names r) x (λ v. not-right s none up l r n whole (subst (λ z. contains (names r) z ≡ true) e.1 v))) in
    omega arith)
    (λ (e : (x == n) ≡ false × (x ≡ n → ⊥)). let other = one-other x n e.1 in omega arith)
    (eqb_tells x n) in
    ⊎_elim left rest (cases_Bool (contains (names l) x))

-- no name of such a tree stands twice
pub spelled-distinct : (s : Store) → s.has 0 ≡ false → (up at : ℕ) (zs : List ℕ) → IsSpelled (parted s) up at zs → AreDistinct zs
spelled-distinct s none up at zs h = subst AreDistinct h.list (count-distinct (names h.tree) (λ x. once s none x up h.tree h.stands))
