-- A walk down a tree that is led by a guide.
use Rattle.vc_base.proofs.Common.{◌≡◌, ℕ, zero, suc, ◌+◌, ◌^◌, ◌<◌, ◌≤◌, Bool, true, false, cond, not, ◌&&◌, ◌≢◌, ◌∷◌, ◌++◌, length, ◌==◌, Some, None, Option, is_eq, is_ge, Ordering, sym, refl, ap, ◌∙◌, subst, arith, length-append, ne_eqb, option_or, ordering_index, contains, some_address}
use Rattle.vc_splay.specs.Tree.{Tree, Leaf, Node, names, name_of}
use Rattle.vc_splay.specs.Store.{Store}
use Rattle.vc_splay.specs.Stands.{IsTree, Stands, TreeAfter}
use Rattle.vc_splay.specs.Guide.{CanFind, Rises, RisesFrom, reads_of_walk, first_at, least_at}
use Rattle.vc_splay.specs.Moves.{Context, Top, Under, depth, name_at, one, plug, tally}
use Rattle.vc_splay.specs.Searches.{Search, is_found}
use Rattle.vc_splay.specs.Unique.{IsTree-one}
use Rattle.vc_splay.specs.Walks.{run}
use Rattle.vc_splay.proofs.GuideLemmas.{first_by_least, least-here, least-skip, only_equal, rises-behind, rises-front}
use Rattle.vc_splay.proofs.HangLemmas.{SameLinks-same}
use Rattle.vc_splay.proofs.StandsLemmas.{some_held}
use Rattle.vc_splay.proofs.TallyLemmas.{one-same, tally-leaf, tally-node, tally-root, within-count}

pub asked_few : (left : ℕ → Bool) (t : Tree) → reads_of_walk left t ≤ length (names t)
asked_few left Leaf = omega arith
asked_few left (Node l n r) =
    let a = asked_few left l in
    let b = asked_few left r in
    let e = length-append (names l) (n ∷ names r) in
    by (left n) (omega arith) (omega arith)
  where
    by : (t : Bool) → reads_of_walk left l + 1 ≤ length (names l ++ n ∷ names r) → reads_of_walk left r + 1 ≤ length (names l ++ n ∷ names r) → cond t (reads_of_walk left l) (reads_of_walk left r) + 1 ≤ length (names l ++ n ∷ names r)
    by true a b = a
    by false a b = b

pub asked_some : (left : ℕ → Bool) (t : Tree) → name_of t ≢ 0 → 1 ≤ reads_of_walk left t
asked_some left Leaf some = absurd (some refl)
asked_some left (Node l n r) some = omega arith

-- a walk by the links reads so many nodes
-- a walk meets as many names as it may, at most
run-on : (fuel : ℕ) (next : ℕ → ℕ) (at : ℕ) (t : Bool) → (at == 0) ≡ t → run fuel next (next at) ≤ fuel → run (suc fuel) next at ≤ suc fuel
unfolding run
run-on fuel next at true e k = rw e (omega arith)
run-on fuel next at false e k = rw e (omega arith)

pub run-fuel : (fuel : ℕ) (next : ℕ → ℕ) (at : ℕ) → run fuel next at ≤ fuel
unfolding run
run-fuel zero next at = omega arith
run-fuel (suc fuel) next at = run-on fuel next at (at == 0) refl (run-fuel fuel next (next at))

pub run-asked : (fuel : ℕ) (s : Store) (left : ℕ → Bool) (up : ℕ) (t : Tree) → s.has 0 ≡ false → Stands s up t → reads_of_walk left t ≤ fuel → run fuel (λ n. s.kid (left n) n) (name_of t) ≡ reads_of_walk left t
unfolding run
run-asked zero s left up Leaf none h k = refl
run-asked (suc fuel) s left up Leaf none h k = refl
run-asked zero s left up (Node l n r) none h k = absurd (omega arith)
run-asked (suc fuel) s left up (Node l n r) none h k = rw (ne_eqb n 0 (some_held s n none h.0.held)) (
    turn (left n) (run fuel (λ m. s.kid (left m) m)) (reads_of_walk left l) (reads_of_walk left r) (s.kid (left n) n) (name_of l) (name_of r) fuel
    (λ e. ap (λ z. s.kid z n) e ∙ h.0.left_kid)
    (λ e. ap (λ z. s.kid z n) e ∙ h.0.right_kid)
    (λ m. run-asked fuel s left n l none h.1 m)
    (λ m. run-asked fuel s left n r none h.2 m)
    k)
  where
    turn : (t : Bool) (f : ℕ → ℕ) (a b k x y fuel : ℕ) → (t ≡ true → k ≡ x) → (t ≡ false → k ≡ y) → (a ≤ fuel → f x ≡ a) → (b ≤ fuel → f y ≡ b) → cond t a b + 1 ≤ suc fuel → f k + 1 ≡ cond t a b + 1
    turn true f a b k x y fuel d e p q h = ap (λ z. z + 1) (ap f (d refl) ∙ p (omega arith))
    turn false f a b k x y fuel d e p q h = ap (λ z. z + 1) (ap f (e refl) ∙ q (omega arith))

-- a walk is at the top of this part
pub record Searching (s : Store) (side : ℕ → Ordering) (tree : Tree) (deepest least at before now : ℕ) : Type 0 where
  pub up : ℕ
  pub part : Tree
  pub low : ℕ
  pub stands : Stands s up part
  pub at_is : at ≡ name_of part
  pub rises : RisesFrom low side (names part)
  pub first : least_at side (names tree) ≡ option_or (least_at side (names part)) (some_address least)
  pub deepest_in : 1 ≤ tally deepest tree
  pub least_in : least ≢ 0 → 1 ≤ tally least tree
  pub below : (n : ℕ) → tally n part ≤ tally n tree
  pub long : length (names part) ≤ length (names tree)
  pub steps : now + reads_of_walk (λ n. is_ge (side n)) part ≡ before + reads_of_walk (λ n. is_ge (side n)) tree
  pub context : Context
  pub whole : plug context part ≡ tree
  pub deepest_is : 1 ≤ depth context → deepest ≡ name_at context
  pub deep : now ≡ before + depth context

or_none : (o : Option ℕ) → option_or o None ≡ o
or_none None = refl
or_none (Some n) = refl

or_some : (o p : Option ℕ) (n : ℕ) → option_or (option_or o (Some n)) p ≡ option_or o (Some n)
or_some None p n = refl
or_some (Some m) p n = refl

-- the answers never fall along each tree that the root stands for
pub rises_each : (s : Store) (side : ℕ → Ordering) (root : ℕ) (t : Tree) → s.has 0 ≡ false → CanFind s side root → IsTree s root t → Rises side (names t)
rises_each s side root t none h k = subst (λ z. Rises side (names z)) (IsTree-one s root h.tree t none h.is_tree k) h.rises

pub search_start : (s : Store) (side : ℕ → Ordering) (root : ℕ) (t : Tree) (before : ℕ) → s.has 0 ≡ false → CanFind s side root → root ≢ 0 → IsTree s root t → Searching s side t root 0 root before before
search_start s side root t before none h some k = record {
  up = 0;
  part = t;
  low = 0;
  stands = k.stands;
  at_is = k.top;
  rises = rises_each s side root t none h k;
  first = sym (or_none (least_at side (names t)));
  deepest_in = subst (λ z. 1 ≤ tally z t) (sym k.top) (tally-root t (λ z. some (k.top ∙ z)));
  least_in = λ e. absurd (e refl);
  below = λ n. omega arith;
  long = omega arith;
  steps = refl;
  context = Top;
  whole = refl;
  deepest_is = λ some. absurd (omega (arith, some));
  deep = omega arith;
}

pub record SearchNext (s : Store) (side : ℕ → Ordering) (tree : Tree) (least at before now : ℕ) : Type 0 where
  pub held : s.has at ≡ true
  pub on : Searching s side tree at (cond (is_ge (side at)) at least) (s.kid (is_ge (side at)) at) before (now + 1)
  pub less : length (names tree) ≤ 2 ^ 32 → run (2 ^ 32) (λ n. s.kid (is_ge (side n)) n) (s.kid (is_ge (side at)) at) < run (2 ^ 32) (λ n. s.kid (is_ge (side n)) n) at

search_turn : (s : Store) (side : ℕ → Ordering) (tree : Tree) (least before now up low : ℕ) (c : Context) (l : Tree) (n : ℕ) (r : Tree) (left : Bool) → plug c (Node l n r) ≡ tree → now ≡ before + depth c → left ≡ is_ge (side n) → s.has 0 ≡ false → Stands s up (Node l n r)
    → RisesFrom low side (names (Node l n r)) → least_at side (names tree) ≡ option_or (least_at side (names (Node l n r))) (some_address least) → (least ≢ 0 → 1 ≤ tally least tree)
    → ((m : ℕ) → tally m (Node l n r) ≤ tally m tree) → length (names (Node l n r)) ≤ length (names tree) → now + reads_of_walk (λ m. is_ge (side m)) (Node l n r) ≡ before + reads_of_walk (λ m. is_ge (side m)) tree
    → Searching s side tree n (cond left n least) (s.kid left n) before (now + 1)
search_turn s side tree least before now up low c l n r true whole deep e none h rises first least_in below long steps =
    let w : (m : ℕ) → tally m (Node l n r) ≡ tally m l + (one m n + tally m r) = λ m. tally-node m n l r in
    let here : 1 ≤ tally n tree = let k = below n in let j = w n in let i = one-same n n refl in omega arith in
    let a = length-append (names l) (n ∷ names r) in
    let name : some_address n ≡ Some n = rw (ne_eqb n 0 (some_held s n none h.0.held)) refl in
    let count : reads_of_walk (λ m. is_ge (side m)) (Node l n r) ≡ reads_of_walk (λ m. is_ge (side m)) l + 1 = ap (λ z. cond z (reads_of_walk (λ m. is_ge (side m)) l) (reads_of_walk (λ m. is_ge (side m)) r) + 1) (sym e) in
    record {
      up = n;
      part = l;
      low = low;
      stands = h.1;
      at_is = h.0.left_kid;
      rises = rises-front low side (names l) (n ∷ names r) rises;
      first = first ∙ ap (λ z. option_or z (some_address least)) (least-here side (names l) n (names r) (sym e)) ∙ or_some (least_at side (names l)) (some_address least) n ∙ ap (option_or (least_at side (names l))) (sym name);
      deepest_in = here;
      least_in = λ _. here;
      below = λ m. let k = below m in let j = w m in omega arith;
      long = omega arith;
      steps = omega arith;
      context = Under true n r c;
      whole = whole;
      deepest_is = λ _. refl;
      deep = omega arith;
    }
search_turn s side tree least before now up low c l n r false whole deep e none h rises first least_in below long steps =
    let w : (m : ℕ) → tally m (Node l n r) ≡ tally m l + (one m n + tally m r) = λ m. tally-node m n l r in
    let here : 1 ≤ tally n tree = let k = below n in let j = w n in let i = one-same n n refl in omega arith in
    let a = length-append (names l) (n ∷ names r) in
    let count : reads_of_walk (λ m. is_ge (side m)) (Node l n r) ≡ reads_of_walk (λ m. is_ge (side m)) r + 1 = ap (λ z. cond z (reads_of_walk (λ m. is_ge (side m)) l) (reads_of_walk (λ m. is_ge (side m)) r) + 1) (sym e) in
    record {
      up = n;
      part = r;
      low = ordering_index (side n);
      stands = h.2;
      at_is = h.0.right_kid;
      rises = rises-behind low side (names l) n (names r) rises;
      first = first ∙ ap (λ z. option_or z (some_address least)) (least-skip low side (names l) n (names r) rises (sym e));
      deepest_in = here;
      least_in = least_in;
      below = λ m. let k = below m in let j = w m in omega arith;
      long = omega arith;
      steps = omega arith;
      context = Under false n l c;
      whole = whole;
      deepest_is = λ _. refl;
      deep = omega arith;
    }

search_at : (s : Store) (side : ℕ → Ordering) (tree : Tree) (deepest least at before now : ℕ) (w : Searching s side tree deepest least at before now) (part : Tree) → w.part ≡ part → s.has 0 ≡ false → at ≢ 0 → SearchNext s side tree least at before now
search_at s side tree deepest least at before now w Leaf e none some = absurd (some (w.at_is ∙ ap name_of e))
search_at s side tree deepest least at before now w (Node l n r) e none some =
    let here : at ≡ n = w.at_is ∙ ap name_of e in
    let stands : Stands s w.up (Node l n r) = subst (λ z. Stands s w.up z) e w.stands in
    let steps : now + reads_of_walk (λ m. is_ge (side m)) (Node l n r) ≡ before + reads_of_walk (λ m. is_ge (side m)) tree = subst (λ z. now + reads_of_walk (λ m. is_ge (side m)) z ≡ before + reads_of_walk (λ m. is_ge (side m)) tree) e w.steps in
    let long : length (names (Node l n r)) ≤ length (names tree) = subst (λ z. length (names z) ≤ length (names tree)) e w.long in
    let on : Searching s side tree n (cond (is_ge (side n)) n least) (s.kid (is_ge (side n)) n) before (now + 1) =
    search_turn s side tree least before now w.up w.low w.context l n r (is_ge (side n)) (ap (plug w.context) (sym e) ∙ w.whole) w.deep refl none stands
    (subst (λ z. RisesFrom w.low side (names z)) e w.rises)
    (subst (λ z. least_at side (names tree) ≡ option_or (least_at side (names z)) (some_address least)) e w.first)
    w.least_in
    (subst (λ z. (m : ℕ) → tally m z ≤ tally m tree) e w.below)
    long steps in
    record {
      held = ap s.has here ∙ stands.0.held;
      on = subst (λ z. Searching s side tree z (cond (is_ge (side z)) z least) (s.kid (is_ge (side z)) z) before (now + 1)) (sym here) on;
      less = λ fits.
          let left : ℕ → Bool = λ m. is_ge (side m) in
          let k = asked_few left (Node l n r) in
          let a = ap (run (2 ^ 32) (λ m. s.kid (left m) m)) here ∙ run-asked (2 ^ 32) s left w.up (Node l n r) none stands (omega arith) in
          let j = on.steps in
          let b = ap (λ z. run (2 ^ 32) (λ m. s.kid (left m) m) (s.kid (left z) z)) here ∙ ap (run (2 ^ 32) (λ m. s.kid (left m) m)) on.at_is ∙ run-asked (2 ^ 32) s left on.up on.part none on.stands (omega arith) in
          omega arith;
    }

pub search_next : (s : Store) (side : ℕ → Ordering) (tree : Tree) (deepest least at before now : ℕ) → s.has 0 ≡ false → Searching s side tree deepest least at before now → at ≢ 0 → SearchNext s side tree least at before now
search_next s side tree deepest least at before now none w some = search_at s side tree deepest least at before now w w.part refl none some

pub search_leaf : (s : Store) (up : ℕ) (part : Tree) → s.has 0 ≡ false → Stands s up part → 0 ≡ name_of part → part ≡ Leaf
search_leaf s up Leaf none h e = refl
search_leaf s up (Node l n r) none h e = absurd (some_held s n none h.0.held (sym e))

pub within_tally : (n : ℕ) (t : Tree) → 1 ≤ tally n t → contains (names t) n ≡ true
unfolding tally
within_tally n t h = within-count n (names t) h

-- the deepest node that was read, where a walk ended
record Deepest (tree : Tree) (deepest before now : ℕ) : Type 0 where
  context : Context
  left : Tree
  right : Tree
  whole : plug context (Node left deepest right) ≡ tree
  deep : now ≡ before + (depth context + 1)

deepest_at : (tree : Tree) (deepest before now : ℕ) (c : Context) → plug c Leaf ≡ tree → 1 ≤ tally deepest tree → (1 ≤ depth c → deepest ≡ name_at c) → now ≡ before + depth c → Deepest tree deepest before now
deepest_at tree deepest before now Top e within is deep =
    let a = ap (tally deepest) e in
    let b = tally-leaf deepest in
    absurd (omega arith)
deepest_at tree deepest before now (Under true n sibling c) e within is deep = record {
  context = c;
  left = Leaf;
  right = sibling;
  whole = ap (λ z. plug c (Node Leaf z sibling)) (is (omega arith)) ∙ e;
  deep = deep;
}
deepest_at tree deepest before now (Under false n sibling c) e within is deep = record {
  context = c;
  left = sibling;
  right = Leaf;
  whole = ap (λ z. plug c (Node sibling z Leaf)) (is (omega arith)) ∙ e;
  deep = deep;
}

pub search_end : (s : Store) (side : ℕ → Ordering) (tree : Tree) (deepest least at before now : ℕ) → s.has 0 ≡ false → Searching s side tree deepest least at before now → at ≡ 0 → Search side tree deepest least before now
search_end s side tree deepest least at before now none w e =
    let leaf = search_leaf s w.up w.part none w.stands (sym e ∙ w.at_is) in
    let steps : now + 0 ≡ before + reads_of_walk (λ n. is_ge (side n)) tree = subst (λ z. now + reads_of_walk (λ n. is_ge (side n)) z ≡ before + reads_of_walk (λ n. is_ge (side n)) tree) leaf w.steps in
    let d = deepest_at tree deepest before now w.context (ap (plug w.context) (sym leaf) ∙ w.whole) w.deepest_in w.deepest_is w.deep in
    record {
      first = sym (w.first ∙ ap (λ z. option_or (least_at side (names z)) (some_address least)) leaf);
      deepest_in = within_tally deepest tree w.deepest_in;
      steps = omega arith;
      context = d.context;
      left = d.left;
      right = d.right;
      whole = d.whole;
      deep = d.deep;
    }

-- where the root is none, there is no name
pub no_tree : (s : Store) (root : ℕ) (t : Tree) → s.has 0 ≡ false → IsTree s root t → root ≡ 0 → t ≡ Leaf
no_tree s root t none k e = search_leaf s 0 t none k.stands (sym e ∙ k.top)

pub same_tree : (s : Store) (root : ℕ) (t : Tree) → IsTree s root t → root ≡ 0 → TreeAfter s s (names t) 0 (names t)
same_tree s root t k e = record {
  tree = t;
  is_tree = subst (λ z. IsTree s z t) e k;
  list = refl;
  others = λ n h. SameLinks-same s n;
}

pub stayed_tree : (s : Store) (root : ℕ) (t : Tree) → IsTree s root t → TreeAfter s s (names t) root (names t)
stayed_tree s root t k = record {
  tree = t;
  is_tree = k;
  list = refl;
  others = λ n h. SameLinks-same s n;
}

pub least_none : (s : Store) (side : ℕ → Ordering) (root : ℕ) (t : Tree) → s.has 0 ≡ false → IsTree s root t → root ≡ 0 → some_address 0 ≡ least_at side (names t)
least_none s side root t none k e = ap (λ z. least_at side (names z)) (sym (no_tree s root t none k e))

pub first_none : (s : Store) (side : ℕ → Ordering) (root : ℕ) (t : Tree) → s.has 0 ≡ false → IsTree s root t → root ≡ 0 → some_address 0 ≡ first_at side (names t)
first_none s side root t none k e = ap (λ z. first_at side (names z)) (sym (no_tree s root t none k e))

-- what a search found
pub least_steps : (s : Store) (side : ℕ → Ordering) (root deepest found before now : ℕ) (t : Tree) → IsTree s root t → root ≢ 0 → Search side t deepest found before now → before + 1 ≤ now
least_steps s side root deepest found before now t k some w = let a = asked_some (λ n. is_ge (side n)) t (λ z. some (k.top ∙ z)) in let b = w.steps in omega arith

pub most_steps : (side : ℕ → Ordering) (deepest found before now : ℕ) (t : Tree) → Search side t deepest found before now → now ≤ before + length (names t)
most_steps side deepest found before now t w = let a = asked_few (λ n. is_ge (side n)) t in let b = w.steps in omega arith

-- the test of the first name that isn't before what is sought
test_is : (side : ℕ → Ordering) (least : ℕ) (t : Bool) → cond t None (Some least) ≡ some_address least → some_address (cond (not t && is_eq (side least)) least 0) ≡ only_equal side (some_address least)
unfolding only_equal
test_is side least true e = ap (only_equal side) e
test_is side least false e = turn (is_eq (side least)) ∙ ap (only_equal side) e
  where
    turn : (b : Bool) → some_address (cond b least 0) ≡ cond b (Some least) None
    turn true = sym e
    turn false = refl

pub first_found : (s : Store) (side : ℕ → Ordering) (root deepest least found before now : ℕ) (t : Tree) → s.has 0 ≡ false → CanFind s side root → IsTree s root t → Search side t deepest least before now
    → found ≡ cond (not (least == 0) && is_eq (side least)) least 0 → some_address found ≡ first_at side (names t)
first_found s side root deepest least found before now t none h k w e =
    ap some_address e ∙ test_is side least (least == 0) refl ∙ ap (only_equal side) w.first ∙ sym (first_by_least 0 side (names t) (rises_each s side root t none h k))

-- one more answer on the way down
pub found_next : (side : ℕ → Ordering) (at least : ℕ) (before : Bool) → at ≢ 0 → before ≡ is_found side least → cond (is_ge (side at)) (is_eq (side at)) before ≡ is_found side (cond (is_ge (side at)) at least)
found_next side at least before some e = by (is_ge (side at))
  where
    by : (t : Bool) → cond t (is_eq (side at)) before ≡ is_found side (cond t at least)
    by true = rw (ne_eqb at 0 some) refl
    by false = e
