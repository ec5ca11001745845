-- A splay, from its first step to the end.
use Rattle.vc_base.proofs.Common.{◌≡◌, ℕ, ◌+◌, ◌^◌, ◌<◌, ◌≤◌, Bool, true, false, ◌≢◌, List, sym, refl, ap, ◌∙◌, subst, arith, length, AreDistinct, contains}
use Rattle.vc_splay.specs.Tree.{Tree, Leaf, Node, names, name_of}
use Rattle.vc_splay.specs.Store.{Store, SameLinks, with_parent}
use Rattle.vc_splay.specs.Stands.{IsIn, IsTree, Stands, TreeAfter}
use Rattle.vc_splay.specs.Walks.{run}
use Rattle.vc_splay.specs.Writes.{CanSettleNode, store_with_root, with_child}
use Rattle.vc_splay.specs.Moves.{Climbed, Context, Top, Under, HasKid, IsInHand, IsRising, IsRound, IsTaken, Law, Paid, Risen, Step, name_at, one, plug, tally}
use Rattle.vc_splay.specs.Rank.{level, rank, size}
use Rattle.vc_splay.specs.Unique.{IsTree-one}
use Rattle.vc_splay.proofs.FewLemmas.{rising_run}
use Rattle.vc_splay.proofs.HangLemmas.{Hanging, IsCut-held, SameLinks-on, SameLinks-same, hang-cut, hang-far, hang-near, hang-same, has-child}
use Rattle.vc_splay.proofs.PlugLemmas.{IsRound-open, place}
use Rattle.vc_splay.proofs.StandsLemmas.{HasKid-kept, Stands-joined, some_held}
use Rattle.vc_splay.proofs.StepLemmas.{Stands-held}
use Rattle.vc_splay.proofs.StoreLemmas.{parent-here, parent-other}
use Rattle.vc_splay.proofs.TallyLemmas.{count-apart, count-distinct, count-within, distinct-count, one-same, tally-list, tally-node, tally-plug}

-- how often a name stands in the tree of a root
pub tally-apart : (n : ℕ) (t : Tree) → contains (names t) n ≡ false → tally n t ≡ 0
unfolding tally
tally-apart n t h = count-apart n (names t) h

pub tally-within : (n : ℕ) (t : Tree) → contains (names t) n ≡ true → 1 ≤ tally n t
unfolding tally
tally-within n t h = count-within n (names t) h

pub tally-once : (n : ℕ) (t : Tree) → AreDistinct (names t) → tally n t ≤ 1
unfolding tally
tally-once n t d = distinct-count n (names t) d

-- a name of a tree, taken in hand
pub record Start (s : Store) (at below above left right : ℕ) (tree : Tree) : Type 0 where
  pub context : Context
  pub part : Tree
  pub rising : IsRising s at below above left right context part
  pub whole : plug context part ≡ tree

pub start_at : (s : Store) (at : ℕ) (c : Context) (l r : Tree) (above left right : ℕ) → Stands s 0 (plug c (Node l at r)) → AreDistinct (names (plug c (Node l at r)))
    → above ≡ s.parent at → left ≡ s.kid true at → right ≡ s.kid false at → IsRising s at at above left right c (Node l at r)
start_at s at c l r above left right stands distinct up e f =
    let q = IsRound-open s c (Node l at r) stands in
    record {
      hand = record {
        left_tree = l;
        right_tree = r;
        whole = refl;
        held = q.1.0.held;
        left_cut = record { up = at; stands = q.1.1; top_is = e ∙ q.1.0.left_kid };
        right_cut = record { up = at; stands = q.1.2; top_is = f ∙ q.1.0.right_kid };
      };
      round = q.0;
      parent = up ∙ q.1.0.parent;
      once = λ n. let k = tally-once n (plug c (Node l at r)) distinct in let e = tally-plug n c (Node l at r) in omega arith;
      among = let e = one-same at at refl in let k = tally-node at at l r in omega arith;
    }

pub start : (s : Store) (root at below above left right : ℕ) (t : Tree) → IsTree s root t → contains (names t) at ≡ true → IsTaken s at below above left right → Start s at below above left right t
start s root at below above left right t h within k =
    let p = place t at (tally-within at t within) in
    let back : t ≡ plug p.context (Node p.left at p.right) = sym p.whole in
    let r = start_at s at p.context p.left p.right above left right (subst (λ z. Stands s 0 z) back h.stands) (subst (λ z. AreDistinct (names z)) back h.distinct) k.above_is k.left_is k.right_is in
    record {
      context = p.context;
      part = Node p.left at p.right;
      rising = subst (λ z. IsRising s at z above left right p.context (Node p.left at p.right)) (sym k.below_is) r;
      whole = p.whole;
    }

-- the root, which is there already
pub root_stays : (s : Store) (root at : ℕ) (t : Tree) → IsTree s root t → at ≡ root → TreeAfter s s (names t) at (names t)
root_stays s root at t k e = record {
  tree = t;
  is_tree = record { top = e ∙ k.top; stands = k.stands; distinct = k.distinct };
  list = refl;
  others = λ n h. SameLinks-same s n;
}

-- since a node began to rise there its tree became this one with the node on its way up
pub record Climb (old now : Store) (at : ℕ) (c : Context) (t : Tree) (below above left right : ℕ) : Type 0 where
  pub context : Context
  pub part : Tree
  pub rising : IsRising now at below above left right context part
  pub list : names (plug context part) ≡ names (plug c t)
  pub others : (n : ℕ) → tally n (plug c t) ≡ 0 → SameLinks old now n
  pub law : Law c t context part

-- at the start
pub climb_start : (s : Store) (at below above left right : ℕ) (c : Context) (t : Tree) → IsRising s at below above left right c t → Climb s s at c t below above left right
climb_start s at below above left right c t r = record {
  context = c;
  part = t;
  rising = r;
  list = refl;
  others = λ n h. SameLinks-same s n;
  law = record { law = omega arith };
}

law_on : (a b c : Context) (t u v : Tree) → Law a t b u → Law b u c v → Law a t c v
law_on a b c t u v h k = record { law = let i = h.law in let j = k.law in omega arith }

-- after a step
pub climb_on : (old now new : Store) (at : ℕ) (c : Context) (t : Tree) (below above left right under over left2 right2 : ℕ) (k : Climb old now at c t below above left right)
    → Step now new at k.context k.part under over left2 right2 → Climb old new at c t under over left2 right2
climb_on old now new at c t below above left right under over left2 right2 k s = record {
  context = s.context;
  part = s.tree;
  rising = s.rising;
  list = s.list ∙ k.list;
  others = λ n h. SameLinks-on old now new n (k.others n h) (s.others n (sym (tally-plug n k.context k.part) ∙ tally-list n (plug k.context k.part) (plug c t) k.list ∙ h));
  law = law_on c k.context s.context t k.part s.tree k.law s.law;
}

-- at the end
at_top : (s : Store) (at below above left right : ℕ) (c : Context) (t : Tree) → s.has 0 ≡ false → IsRising s at below above left right c t → above ≡ 0 → c ≡ Top
at_top s at below above left right Top t none r e = refl
at_top s at below above left right (Under d n sibling c) t none r e = absurd (some_held s n none r.round.0.other_kid.held (sym r.parent ∙ e))

pub size_same : (t u : Tree) → names t ≡ names u → size t ≡ size u
unfolding size
size_same t u e = ap (λ xs. length xs) e

paid_top : (c : Context) (t part : Tree) → names part ≡ names (plug c t) → Law c t Top part → Paid c t part
paid_top c t part e h = record { paid = let i = h.law in let j = ap level (size_same part (plug c t) e) in omega arith }

pub climb_end : (old now : Store) (at below above left right : ℕ) (c : Context) (t : Tree) → now.has 0 ≡ false → above ≡ 0 → Climb old now at c t below above left right → Climbed old now at c t left right
climb_end old now at below above left right c t none e k =
    let top = at_top now at below above left right k.context k.part none k.rising e in
    let list : names k.part ≡ names (plug c t) = ap (λ z. names (plug z k.part)) (sym top) ∙ k.list in
    record {
      topped = record {
        tree = k.part;
        hand = k.rising.hand;
        once = λ n. let a = k.rising.once n in omega arith;
        list = list;
        others = λ n i. k.others n (tally-apart n (plug c t) i);
      };
      paid = paid_top c t k.part list (subst (λ z. Law c t z k.part) top k.law);
    }

-- each step makes the walk up shorter
pub climb_less : (old now new : Store) (at : ℕ) (c : Context) (t : Tree) (below above left right under over left2 right2 : ℕ) (k : Climb old now at c t below above left right) → now.has 0 ≡ false → ((n : ℕ) → now.has n ≡ true → n < 2 ^ 32)
    → new.has ≡ now.has → Step now new at k.context k.part under over left2 right2 → run (2 ^ 32) new.parent over < run (2 ^ 32) now.parent above
climb_less old now new at c t below above left right under over left2 right2 k none fits has s =
    let a = rising_run now at below above left right k.context k.part none fits k.rising in
    let b = rising_run new at under over left2 right2 s.context s.tree (ap (λ f. f 0) has ∙ none) (λ n h. fits n (sym (ap (λ f. f n) has) ∙ h)) s.rising in
    let shorter = s.shorter in
    omega arith

-- a node at the top, once it is settled
pub can_settle : (s : Store) (at left right : ℕ) (t : Tree) → IsInHand s at left right t → CanSettleNode s at left right
can_settle s at left right t l = record {
  held = l.held;
  left_held = IsCut-held s left l.left_tree l.left_cut;
  right_held = IsCut-held s right l.right_tree l.right_cut;
}

other_parent : (s : Store) (at n : ℕ) → n ≢ at → SameLinks s (with_parent at 0 s) n
unfolding with_parent
other_parent s at n ne = record { kid = λ d. refl; parent = parent-other at 0 s n ne }

kid_kept : (s : Store) (at : ℕ) (d : Bool) (t : Tree) → ((n : ℕ) → 1 ≤ tally n t → n ≢ at) → HasKid s d at t → HasKid (with_parent at 0 s) d at t
unfolding with_parent
kid_kept s at d t apart k = HasKid-kept s (with_parent at 0 s) d at t refl refl (λ n i. other_parent s at n (apart n i)) k

-- a settled node: its tree stands, and other names keep their links
pub record Settled (old new : Store) (at : ℕ) (t : Tree) : Type 0 where
  pub stands : Stands new 0 t
  pub top : at ≡ name_of t
  pub others : (n : ℕ) → tally n t ≡ 0 → SameLinks old new n

pub settle : (s : Store) (at left right : ℕ) (t : Tree) → s.has 0 ≡ false → IsInHand s at left right t → ((n : ℕ) → tally n t ≤ 1) → Settled s (store_with_root at left right s) at t
unfolding store_with_root
settle s at left right t none l once =
    let w : (n : ℕ) → tally n l.left_tree + (one n at + tally n l.right_tree) ≤ 1 = λ n. let k = once n in let e = ap (tally n) l.whole ∙ tally-node n at l.left_tree l.right_tree in omega arith in
    let h : Hanging s at left l.left_tree = record { none = none; held = l.held; cut = l.left_cut; apart = λ n. let k = w n in omega arith } in
    let s1 = with_child true at left s in
    let h1 : Hanging s1 at right l.right_tree = record {
      none = ap (λ f. f 0) (has-child true at left s) ∙ none;
      held = ap (λ f. f at) (has-child true at left s) ∙ l.held;
      cut = hang-cut s true at left l.left_tree right l.right_tree h (λ n i. let k = w n in omega arith) l.right_cut;
      apart = λ n. let k = w n in omega arith;
    } in
    let s2 = with_child false at right s1 in
    let new = with_parent at 0 s2 in
    let left2 : HasKid s2 true at l.left_tree = hang-far s1 false at right l.right_tree l.left_tree h1 (λ n i. let k = w n in omega arith) (hang-near s true at left l.left_tree h) in
    let right2 : HasKid s2 false at l.right_tree = hang-near s1 false at right l.right_tree h1 in
    let left3 : HasKid new true at l.left_tree = kid_kept s2 at true l.left_tree (λ n i e. let a = one-same n at e in let k = w n in absurd (omega arith)) left2 in
    let right3 : HasKid new false at l.right_tree = kid_kept s2 at false l.right_tree (λ n i e. let a = one-same n at e in let k = w n in absurd (omega arith)) right2 in
    record {
      stands = subst (λ z. Stands new 0 z) (sym l.whole) (Stands-joined new 0 true l.left_tree at l.right_tree (parent-here at 0 s2) left3 right3);
      top = ap name_of (sym l.whole);
      others = λ n zero.
          let e = ap (tally n) l.whole ∙ tally-node n at l.left_tree l.right_tree in
          SameLinks-on s s2 new n
          (SameLinks-on s s1 s2 n (hang-same s true at left l.left_tree h n (omega arith)) (hang-same s1 false at right l.right_tree h1 n (omega arith)))
          (other_parent s2 at n (λ f. let a = one-same n at f in absurd (omega arith)));
    }

pub distinct_once : (t : Tree) → ((n : ℕ) → tally n t ≤ 1) → AreDistinct (names t)
unfolding tally
distinct_once t once = count-distinct (names t) once

apart_from : (n : ℕ) (t : Tree) (xs : List ℕ) → names t ≡ xs → contains xs n ≡ false → tally n t ≡ 0
apart_from n t xs e i = tally-apart n t (ap (λ z. contains z n) e ∙ i)

pub settled_tree : (old now : Store) (at left right : ℕ) (c : Context) (t : Tree) → now.has 0 ≡ false → Climbed old now at c t left right → Risen old (store_with_root at left right now) at c t
settled_tree old now at left right c t none climbed =
    let k = climbed.topped in
    let xs = names (plug c t) in
    let q = settle now at left right k.tree none k.hand k.once in
    record {
      after = record {
        tree = k.tree;
        is_tree = record { top = q.top; stands = q.stands; distinct = distinct_once k.tree k.once };
        list = k.list;
        others = λ n i. SameLinks-on old now (store_with_root at left right now) n (k.others n i) (q.others n (apart_from n k.tree xs k.list i));
      };
      paid = climbed.paid;
    }

pub has-settled : (at left right : ℕ) (s : Store) → (store_with_root at left right s).has ≡ s.has
unfolding store_with_root with_parent
has-settled at left right s = has-child false at right (with_child true at left s) ∙ has-child true at left s

-- a name of a root's one tree is in each tree that it stands for
pub IsIn-each : (s : Store) (root at : ℕ) → s.has 0 ≡ false → IsIn s root at → (t : Tree) → IsTree s root t → contains (names t) at ≡ true
IsIn-each s root at none h t k = subst (λ z. contains (names z) at ≡ true) (IsTree-one s root h.tree t none h.is_tree k) h.within

pub IsIn-held : (s : Store) (root at : ℕ) → IsIn s root at → s.has at ≡ true
IsIn-held s root at h = Stands-held s 0 h.tree at h.is_tree.stands (tally-within at h.tree h.within)

-- the root costs nothing
root_parent : (s : Store) (t : Tree) → Stands s 0 t → name_of t ≢ 0 → s.parent (name_of t) ≡ 0
root_parent s Leaf h some = absurd (some refl)
root_parent s (Node l n r) h some = h.0.parent

top_by : (s : Store) (c : Context) (below : ℕ) → s.has 0 ≡ false → IsRound s c below → name_at c ≡ 0 → c ≡ Top
top_by s Top below none r e = refl
top_by s (Under d n sibling c) below none r e = absurd (some_held s n none r.0.other_kid.held e)

paid_here : (t after : Tree) → after ≡ t → Paid Top t after
paid_here t after e = record { paid = let i = ap rank e in omega arith }

pub paid_root : (s : Store) (root at : ℕ) (c : Context) (l r after : Tree) → s.has 0 ≡ false → IsTree s root (plug c (Node l at r)) → IsTree s at after → at ≡ root → Paid c (Node l at r) after
paid_root s root at c l r after none k j e =
    let q = IsRound-open s c (Node l at r) k.stands in
    let here : at ≡ name_of (plug c (Node l at r)) = e ∙ k.top in
    let some : name_of (plug c (Node l at r)) ≢ 0 = λ z. some_held s at none q.1.0.held (here ∙ z) in
    let up : name_at c ≡ 0 = sym q.1.0.parent ∙ ap s.parent here ∙ root_parent s (plug c (Node l at r)) k.stands some in
    let top = top_by s c at none q.0 up in
    let same : after ≡ plug c (Node l at r) = IsTree-one s at after (plug c (Node l at r)) none j (record { top = here; stands = k.stands; distinct = k.distinct }) in
    subst (λ z. Paid z (Node l at r) after) (sym top) (paid_here (Node l at r) after (same ∙ ap (λ z. plug z (Node l at r)) top))
