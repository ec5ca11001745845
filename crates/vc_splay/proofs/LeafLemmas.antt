-- A walk down to the place of a new name, and the tree with that name in it.
use Rattle.vc_base.proofs.Common.{◌≡◌, ℕ, ◌+◌, ◌^◌, ◌<◌, ◌≤◌, Bool, true, false, cond, not, ◌≢◌, List, [], ◌∷◌, ◌++◌, length, is_gt, Ordering, sym, refl, ap, ◌∙◌, subst, inl, inr, true≢false, append_assoc, arith, length-append, eqb_tells, ordering_index, contains}
use Rattle.vc_splay.specs.Tree.{Tree, Leaf, Node, names, name_of}
use Rattle.vc_splay.specs.Store.{Store, SameLinks, with_kid}
use Rattle.vc_splay.specs.Stands.{IsTree, Stands, TreeAfter}
use Rattle.vc_splay.specs.Writes.{with_kid_of}
use Rattle.vc_splay.specs.Guide.{CanFind, CanLink, RisesFrom, reads_of_walk, order_with_name}
use Rattle.vc_splay.specs.Moves.{Context, Top, Under, IsCut, IsInHand, IsRising, depth, name_at, one, plug, side_in, tally, tally_round}
use Rattle.vc_splay.specs.Searches.{Gap}
use Rattle.vc_splay.specs.Unique.{IsTree-one}
use Rattle.vc_splay.specs.Walks.{run}
use Rattle.vc_splay.proofs.GuideLemmas.{linked-before, linked-behind, rises-behind, rises-front}
use Rattle.vc_splay.proofs.HangLemmas.{SameLinks-on, SameLinks-same}
use Rattle.vc_splay.proofs.NeighbourLemmas.{before, behind, names-plug}
use Rattle.vc_splay.proofs.PlugLemmas.{IsRound-open}
use Rattle.vc_splay.proofs.SearchLemmas.{asked_few, asked_some, rises_each, run-asked, search_leaf}
use Rattle.vc_splay.proofs.SplayLemmas.{tally-apart, tally-once}
use Rattle.vc_splay.proofs.StandsLemmas.{HasKid-kept, IsRound-kept, some_held}
use Rattle.vc_splay.proofs.StoreLemmas.{kid-here, kid-opposite, kid-other, kid_of-none, kid_of-some}
use Rattle.vc_splay.proofs.TallyLemmas.{apart-count, one-other, one-same, tally-leaf, tally-node, tally-plug}

-- the walk is at the top of this part
pub record Seeking (s : Store) (side : ℕ → Ordering) (tree : Tree) (above : ℕ) (left : Bool) (at start now : ℕ) : Type 0 where
  pub context : Context
  pub part : Tree
  pub low : ℕ
  pub whole : plug context part ≡ tree
  pub stands : Stands s (name_at context) part
  pub at_is : at ≡ name_of part
  pub above_is : above ≡ name_at context
  pub side_is : left ≡ side_in context
  pub rises : RisesFrom low side (names part)
  pub list : (x : ℕ) → order_with_name side x (names tree) ≡ before context ++ (order_with_name side x (names part) ++ behind context)
  pub long : length (names part) ≤ length (names tree)
  pub steps : now + reads_of_walk (λ n. is_gt (side n)) part ≡ start + reads_of_walk (λ n. is_gt (side n)) tree
  pub deep : now ≡ start + depth context

empty_behind : (xs : List ℕ) → xs ≡ xs ++ []
empty_behind [] = refl
empty_behind (x ∷ xs) = ap (λ z. x ∷ z) (empty_behind xs)

pub seek_start : (s : Store) (side : ℕ → Ordering) (root : ℕ) (t : Tree) (start : ℕ) → s.has 0 ≡ false → CanFind s side root → IsTree s root t → Seeking s side t 0 false root start start
unfolding before behind
seek_start s side root t start none h k = record {
  context = Top;
  part = t;
  low = 0;
  whole = refl;
  stands = k.stands;
  at_is = k.top;
  above_is = refl;
  side_is = refl;
  rises = rises_each s side root t none h k;
  list = λ x. empty_behind (order_with_name side x (names t));
  long = omega arith;
  steps = refl;
  deep = omega arith;
}

pub record SeekNext (s : Store) (side : ℕ → Ordering) (tree : Tree) (at start now : ℕ) : Type 0 where
  pub held : s.has at ≡ true
  pub on : Seeking s side tree at (is_gt (side at)) (s.kid (is_gt (side at)) at) start (now + 1)
  pub less : length (names tree) ≤ 2 ^ 32 → run (2 ^ 32) (λ n. s.kid (is_gt (side n)) n) (s.kid (is_gt (side at)) at) < run (2 ^ 32) (λ n. s.kid (is_gt (side n)) n) at

seek_turn : (s : Store) (side : ℕ → Ordering) (tree : Tree) (start now low : ℕ) (c : Context) (l : Tree) (n : ℕ) (r : Tree) (left : Bool) → now ≡ start + depth c → left ≡ is_gt (side n) → plug c (Node l n r) ≡ tree → Stands s (name_at c) (Node l n r)
    → RisesFrom low side (names (Node l n r)) → ((x : ℕ) → order_with_name side x (names tree) ≡ before c ++ (order_with_name side x (names (Node l n r)) ++ behind c))
    → length (names (Node l n r)) ≤ length (names tree) → now + reads_of_walk (λ m. is_gt (side m)) (Node l n r) ≡ start + reads_of_walk (λ m. is_gt (side m)) tree
    → Seeking s side tree n left (s.kid left n) start (now + 1)
unfolding before behind
seek_turn s side tree start now low c l n r true deep e whole h rises list long steps =
    let a = length-append (names l) (n ∷ names r) in
    let count : reads_of_walk (λ m. is_gt (side m)) (Node l n r) ≡ reads_of_walk (λ m. is_gt (side m)) l + 1 = ap (λ z. cond z (reads_of_walk (λ m. is_gt (side m)) l) (reads_of_walk (λ m. is_gt (side m)) r) + 1) (sym e) in
    record {
      context = Under true n r c;
      part = l;
      low = low;
      whole = whole;
      stands = h.1;
      at_is = h.0.left_kid;
      above_is = refl;
      side_is = refl;
      rises = rises-front low side (names l) (n ∷ names r) rises;
      list = λ x. list x ∙ ap (λ z. before c ++ (z ++ behind c)) (linked-before side x (names l) n (names r) (sym e)) ∙ ap (λ z. before c ++ z) (append_assoc (order_with_name side x (names l)) (n ∷ names r) (behind c));
      long = omega arith;
      steps = omega arith;
      deep = omega arith;
    }
seek_turn s side tree start now low c l n r false deep e whole h rises list long steps =
    let a = length-append (names l) (n ∷ names r) in
    let count : reads_of_walk (λ m. is_gt (side m)) (Node l n r) ≡ reads_of_walk (λ m. is_gt (side m)) r + 1 = ap (λ z. cond z (reads_of_walk (λ m. is_gt (side m)) l) (reads_of_walk (λ m. is_gt (side m)) r) + 1) (sym e) in
    record {
      context = Under false n l c;
      part = r;
      low = ordering_index (side n);
      whole = whole;
      stands = h.2;
      at_is = h.0.right_kid;
      above_is = refl;
      side_is = refl;
      rises = rises-behind low side (names l) n (names r) rises;
      list = λ x. list x ∙ ap (λ z. before c ++ (z ++ behind c)) (linked-behind low side x (names l) n (names r) rises (sym e))
          ∙ ap (λ z. before c ++ z) (append_assoc (names l) (n ∷ order_with_name side x (names r)) (behind c) ∙ sym (append_assoc (names l) (n ∷ []) (order_with_name side x (names r) ++ behind c)))
          ∙ sym (append_assoc (before c) (names l ++ n ∷ []) (order_with_name side x (names r) ++ behind c));
      long = omega arith;
      steps = omega arith;
      deep = omega arith;
    }

seek_at : (s : Store) (side : ℕ → Ordering) (tree : Tree) (above : ℕ) (left : Bool) (at start now : ℕ) (w : Seeking s side tree above left at start now) (part : Tree) → w.part ≡ part → s.has 0 ≡ false → at ≢ 0 → SeekNext s side tree at start now
seek_at s side tree above left at start now w Leaf e none some = absurd (some (w.at_is ∙ ap name_of e))
seek_at s side tree above left at start now w (Node l n r) e none some =
    let here : at ≡ n = w.at_is ∙ ap name_of e in
    let stands : Stands s (name_at w.context) (Node l n r) = subst (λ z. Stands s (name_at w.context) z) e w.stands in
    let steps : now + reads_of_walk (λ m. is_gt (side m)) (Node l n r) ≡ start + reads_of_walk (λ m. is_gt (side m)) tree = subst (λ z. now + reads_of_walk (λ m. is_gt (side m)) z ≡ start + reads_of_walk (λ m. is_gt (side m)) tree) e w.steps in
    let long : length (names (Node l n r)) ≤ length (names tree) = subst (λ z. length (names z) ≤ length (names tree)) e w.long in
    let on : Seeking s side tree n (is_gt (side n)) (s.kid (is_gt (side n)) n) start (now + 1) =
    seek_turn s side tree start now w.low w.context l n r (is_gt (side n)) w.deep refl
    (ap (plug w.context) (sym e) ∙ w.whole) stands
    (subst (λ z. RisesFrom w.low side (names z)) e w.rises)
    (subst (λ z. (x : ℕ) → order_with_name side x (names tree) ≡ before w.context ++ (order_with_name side x (names z) ++ behind w.context)) e w.list)
    long steps in
    record {
      held = ap s.has here ∙ stands.0.held;
      on = subst (λ z. Seeking s side tree z (is_gt (side z)) (s.kid (is_gt (side z)) z) start (now + 1)) (sym here) on;
      less = λ fits.
          let turn : ℕ → Bool = λ m. is_gt (side m) in
          let k = asked_few turn (Node l n r) in
          let a = ap (run (2 ^ 32) (λ m. s.kid (turn m) m)) here ∙ run-asked (2 ^ 32) s turn (name_at w.context) (Node l n r) none stands (omega arith) in
          let j = on.steps in
          let b = ap (λ z. run (2 ^ 32) (λ m. s.kid (turn m) m) (s.kid (turn z) z)) here ∙ ap (run (2 ^ 32) (λ m. s.kid (turn m) m)) on.at_is ∙ run-asked (2 ^ 32) s turn (name_at on.context) on.part none on.stands (omega arith) in
          omega arith;
    }

pub seek_next : (s : Store) (side : ℕ → Ordering) (tree : Tree) (above : ℕ) (left : Bool) (at start now : ℕ) → s.has 0 ≡ false → Seeking s side tree above left at start now → at ≢ 0 → SeekNext s side tree at start now
seek_next s side tree above left at start now none w some = seek_at s side tree above left at start now w w.part refl none some

pub seek_end : (s : Store) (side : ℕ → Ordering) (tree : Tree) (above : ℕ) (left : Bool) (at start now : ℕ) → s.has 0 ≡ false → Seeking s side tree above left at start now → at ≡ 0 → Gap side tree above left start now
seek_end s side tree above left at start now none w e =
    let leaf = search_leaf s (name_at w.context) w.part none w.stands (sym e ∙ w.at_is) in
    let steps : now + 0 ≡ start + reads_of_walk (λ n. is_gt (side n)) tree = subst (λ z. now + reads_of_walk (λ n. is_gt (side n)) z ≡ start + reads_of_walk (λ n. is_gt (side n)) tree) leaf w.steps in
    record {
      context = w.context;
      whole = ap (plug w.context) (sym leaf) ∙ w.whole;
      above_is = w.above_is;
      side_is = w.side_is;
      list = λ x. names-plug w.context (Node Leaf x Leaf) ∙ sym (w.list x ∙ ap (λ z. before w.context ++ (order_with_name side x (names z) ++ behind w.context)) leaf);
      steps = omega arith;
      deep = w.deep;
    }

-- the other links where a child is written
pub has_kid : (d : Bool) (n v : ℕ) (s : Store) → (with_kid d n v s).has ≡ s.has
unfolding with_kid
has_kid d n v s = refl

pub parents_kid : (d : Bool) (n v : ℕ) (s : Store) (m : ℕ) → (with_kid d n v s).parent m ≡ s.parent m
unfolding with_kid
parents_kid d n v s m = refl

pub same_kid : (d : Bool) (n v : ℕ) (s : Store) (m : ℕ) → m ≢ n → SameLinks s (with_kid d n v s) m
same_kid d n v s m ne = record { kid = λ e. kid-other d n v s e m ne; parent = parents_kid d n v s m }

pub has_kid_of : (d : Bool) (n v : ℕ) (s : Store) → (with_kid_of d n v s).has ≡ s.has
has_kid_of d n v s = elim (eqb_tells n 0) as (λ _. (with_kid_of d n v s).has ≡ s.has) [
  | inl same ↦ ap (λ (z : Store). z.has) (sym (kid_of-none d n v s same.1))
  | inr apart ↦ ap (λ (z : Store). z.has) (sym (kid_of-some d n v s apart.1)) ∙ has_kid d n v s
]

pub apart_tally : (n : ℕ) (t : Tree) → tally n t ≡ 0 → contains (names t) n ≡ false
unfolding tally
apart_tally n t h = apart-count n (names t) h

pub apart_cons : (n at : ℕ) (xs : List ℕ) → contains (at ∷ xs) n ≡ false → (n ≢ at) × (contains xs n ≡ false)
apart_cons n at xs h = elim (eqb_tells at n) as (λ _. (n ≢ at) × (contains xs n ≡ false)) [
  | inl same ↦ absurd (true≢false (rw same.0 at h))
  | inr apart ↦ (λ e. apart.1 (sym e), rw apart.0 at h)
]

-- a node with no child in hand, in a place where there was none
pub record Hung (old new : Store) (at above : ℕ) (c : Context) : Type 0 where
  pub rising : IsRising new at at above 0 0 c (Node Leaf at Leaf)
  pub others : (n : ℕ) → tally_round n c ≡ 0 → SameLinks old new n

in_hand : (s : Store) (at : ℕ) → s.has at ≡ true → IsInHand s at 0 0 (Node Leaf at Leaf)
in_hand s at held =
    let none : IsCut s 0 Leaf = record { up = 0; stands = tt; top_is = refl } in
    record { left_tree = Leaf; right_tree = Leaf; whole = refl; held = held; left_cut = none; right_cut = none }

leaf_among : (at : ℕ) → 1 ≤ tally at (Node Leaf at Leaf)
leaf_among at = let a = tally-node at at Leaf Leaf in let b = one-same at at refl in omega arith

pub leaf_once : (at : ℕ) (c : Context) → ((m : ℕ) → tally_round m c ≤ 1) → tally_round at c ≡ 0 → (m : ℕ) → tally m (Node Leaf at Leaf) + tally_round m c ≤ 1
leaf_once at c once apart m =
    let a = tally-node m at Leaf Leaf in
    let b = tally-leaf m in
    let k = once m in
    elim (eqb_tells m at) as (λ _. tally m (Node Leaf at Leaf) + tally_round m c ≤ 1) [
      | inl same ↦ let z : tally_round m c ≡ 0 = ap (λ z. tally_round z c) same.1 ∙ apart in let i = one-same m at same.1 in omega arith
      | inr other ↦ let i = one-other m at other.1 in omega arith
    ]

hung_at : (s : Store) (at : ℕ) (d : Bool) (n : ℕ) (sibling : Tree) (c : Context) → s.has 0 ≡ false → s.has at ≡ true → Stands s 0 (plug (Under d n sibling c) Leaf) → ((m : ℕ) → tally_round m (Under d n sibling c) ≤ 1) → tally_round at (Under d n sibling c) ≡ 0
    → Hung s (with_kid d n at s) at n (Under d n sibling c)
hung_at s at d n sibling c none held stands once apart =
    let new = with_kid d n at s in
    let q = IsRound-open s (Under d n sibling c) Leaf stands in
    let other : (m : ℕ) → one m n ≡ 0 → SameLinks s new m = λ m z. same_kid d n at s m (λ e. let a = one-same m n e in absurd (omega arith)) in
    record {
      rising = record {
        hand = in_hand new at (ap (λ f. f at) (has_kid d n at s) ∙ held);
        round = (
          record {
            kid = kid-here d n at s;
            parent = parents_kid d n at s n ∙ q.0.0.parent;
            other_kid = HasKid-kept s new (not d) n sibling (has_kid d n at s) (kid-opposite d n at s n) (λ m i. other m (let a = once m in omega arith)) q.0.0.other_kid;
          },
          IsRound-kept s new c n (has_kid d n at s) (λ m i. other m (let a = once m in omega arith)) q.0.1,
        );
        parent = refl;
        once = leaf_once at (Under d n sibling c) once apart;
        among = leaf_among at;
      };
      others = λ m zero. other m (omega arith);
    }

hung_by : (s : Store) (at above : ℕ) (left : Bool) (c : Context) → s.has 0 ≡ false → s.has at ≡ true → Stands s 0 (plug c Leaf) → ((m : ℕ) → tally_round m c ≤ 1) → tally_round at c ≡ 0 → above ≡ name_at c → left ≡ side_in c
    → Hung s (with_kid_of left above at s) at above c
hung_by s at above left Top none held stands once apart e f =
    subst (λ z. Hung s z at above Top) (kid_of-none left above at s e)
    (record {
      rising = record { hand = in_hand s at held; round = tt; parent = e; once = leaf_once at Top once apart; among = leaf_among at };
      others = λ n zero. SameLinks-same s n;
    })
hung_by s at above left (Under d n sibling c) none held stands once apart e f =
    let some = some_held s n none (IsRound-open s (Under d n sibling c) Leaf stands).0.0.other_kid.held in
    subst (λ z. Hung s (with_kid_of z above at s) at above (Under d n sibling c)) (sym f)
    (subst (λ z. Hung s (with_kid_of d z at s) at z (Under d n sibling c)) (sym e)
    (subst (λ z. Hung s z at n (Under d n sibling c)) (kid_of-some d n at s some)
    (hung_at s at d n sibling c none held stands once apart)))

-- where a walk found the place
pub round_of : (t : Tree) (c : Context) → plug c Leaf ≡ t → (m : ℕ) → tally m t ≡ tally_round m c
round_of t c whole m = let a = tally-plug m c Leaf in let b = tally-leaf m in let e = ap (tally m) whole in omega arith

pub hung : (s : Store) (side : ℕ → Ordering) (root at : ℕ) (t : Tree) (above : ℕ) (left : Bool) (start now : ℕ) → s.has 0 ≡ false → s.has at ≡ true → contains (names t) at ≡ false → IsTree s root t → (w : Gap side t above left start now)
    → Hung s (with_kid_of left above at s) at above w.context
hung s side root at t above left start now none held apart k w =
    let r = round_of t w.context w.whole in
    hung_by s at above left w.context none held (subst (λ z. Stands s 0 z) (sym w.whole) k.stands) (λ m. let a = r m in let b = tally-once m t k.distinct in omega arith)
    (let a = r at in let b = tally-apart at t apart in omega arith) w.above_is w.side_is

-- the node above is there
above_by : (s : Store) (above : ℕ) (c : Context) → Stands s 0 (plug c Leaf) → above ≡ name_at c → above ≢ 0 → s.has above ≡ true
above_by s above Top h e some = absurd (some e)
above_by s above (Under d n sibling c) h e some = ap s.has e ∙ (IsRound-open s (Under d n sibling c) Leaf h).0.0.other_kid.held

pub above_held : (s : Store) (side : ℕ → Ordering) (root : ℕ) (t : Tree) (above : ℕ) (left : Bool) (start now : ℕ) → IsTree s root t → Gap side t above left start now → above ≢ 0 → s.has above ≡ true
above_held s side root t above left start now k w some = above_by s above w.context (subst (λ z. Stands s 0 z) (sym w.whole) k.stands) w.above_is some

-- then it rises
pub link_end : (s mid new : Store) (side : ℕ → Ordering) (at : ℕ) (t : Tree) (above : ℕ) (left : Bool) (start now : ℕ) (w : Gap side t above left start now) → Hung s mid at above w.context
    → TreeAfter mid new (names (plug w.context (Node Leaf at Leaf))) at (names (plug w.context (Node Leaf at Leaf))) → TreeAfter s new (at ∷ names t) at (order_with_name side at (names t))
link_end s mid new side at t above left start now w h a =
    let r = round_of t w.context w.whole in
    let leaf = plug w.context (Node Leaf at Leaf) in
    record {
      tree = a.tree;
      is_tree = a.is_tree;
      list = a.list ∙ w.list at;
      others = λ n i.
          let p = apart_cons n at (names t) i in
          let zero : tally_round n w.context ≡ 0 = sym (r n) ∙ tally-apart n t p.1 in
          let out : tally n leaf ≡ 0 = let b = tally-plug n w.context (Node Leaf at Leaf) in let c = tally-node n at Leaf Leaf in let d = tally-leaf n in let e = one-other n at p.0 in omega arith in
          SameLinks-on s mid new n (h.others n zero) (a.others n (apart_tally n leaf out));
    }

-- the names of a root's one tree
pub find_of_link : (s : Store) (side : ℕ → Ordering) (root at : ℕ) → CanLink s side root at → CanFind s side root
find_of_link s side root at h = record { tree = h.tree; is_tree = h.is_tree; rises = h.rises }

pub apart_each : (s : Store) (side : ℕ → Ordering) (root at : ℕ) (t : Tree) → s.has 0 ≡ false → CanLink s side root at → IsTree s root t → contains (names t) at ≡ false
apart_each s side root at t none h k = subst (λ z. contains (names z) at ≡ false) (IsTree-one s root h.tree t none h.is_tree k) h.apart

pub gap_least : (s : Store) (side : ℕ → Ordering) (root : ℕ) (t : Tree) (above : ℕ) (left : Bool) (start now : ℕ) → IsTree s root t → root ≢ 0 → Gap side t above left start now → start + 1 ≤ now
gap_least s side root t above left start now k some w = let a = asked_some (λ n. is_gt (side n)) t (λ z. some (k.top ∙ z)) in let b = w.steps in omega arith

pub gap_most : (side : ℕ → Ordering) (t : Tree) (above : ℕ) (left : Bool) (start now : ℕ) → Gap side t above left start now → now ≤ start + length (names t)
gap_most side t above left start now w = let a = asked_few (λ n. is_gt (side n)) t in let b = w.steps in omega arith
