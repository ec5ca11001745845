-- A way down to a node that is what is sought, or to the place of a new one.
use Rattle.vc_base.proofs.Common.{◌≡◌, ℕ, ◌+◌, ◌^◌, ◌<◌, ◌≤◌, Bool, true, false, cond, ◌≢◌, List, ◌∷◌, ◌++◌, length, Some, None, Option, is_eq, is_ge, is_gt, Ordering, Less, Equal, Greater, sym, refl, ap, ◌∙◌, subst, true≢false, arith, option_or, ordering_index, contains}
use Rattle.vc_splay.specs.Guide.{CanFind, RisesFrom, first_at, least_at}
use Rattle.vc_splay.specs.Moves.{name_at, tally}
use Rattle.vc_splay.specs.Stands.{IsTree, Stands}
use Rattle.vc_splay.specs.Store.{Store}
use Rattle.vc_splay.specs.Tree.{Tree, Leaf, Node, names, name_of}
use Rattle.vc_splay.specs.Unique.{one_tree}
use Rattle.vc_splay.specs.Walks.{run}
use Rattle.vc_splay.proofs.GuideLemmas.{first_by_least, least-here, least-skip, only_equal, rises-behind, rises-front}
use Rattle.vc_splay.proofs.LeafLemmas.{Seeking, seek_end, seek_next, seek_start}
use Rattle.vc_splay.proofs.SearchLemmas.{asked_few, asked_some, within_tally}
use Rattle.vc_splay.proofs.TallyLemmas.{tally-plug, tally-root}
use Rattle.vc_objects.specs.Puts.Places.{IsFree, IsTaken}

-- where a name isn't before what is sought nor it, the first that is what is sought is before it; where it is before, behind it
first-front : (low : ℕ) (side : ℕ → Ordering) (xs : List ℕ) (n : ℕ) (ys : List ℕ) → RisesFrom low side (xs ++ n ∷ ys) → side n ≡ Greater → first_at side (xs ++ n ∷ ys) ≡ first_at side xs
unfolding only_equal
first-front low side xs n ys h e =
    first_by_least low side (xs ++ n ∷ ys) h
    ∙ ap (only_equal side) (least-here side xs n ys (ap is_ge e))
    ∙ only (least_at side xs)
    ∙ sym (first_by_least low side xs (rises-front low side xs (n ∷ ys) h))
  where
    only : (o : Option ℕ) → only_equal side (option_or o (Some n)) ≡ only_equal side o
    only None = ap (λ z. cond (is_eq z) (Some n) None) e
    only (Some m) = refl

first-behind : (low : ℕ) (side : ℕ → Ordering) (xs : List ℕ) (n : ℕ) (ys : List ℕ) → RisesFrom low side (xs ++ n ∷ ys) → side n ≡ Less → first_at side (xs ++ n ∷ ys) ≡ first_at side ys
first-behind low side xs n ys h e =
    first_by_least low side (xs ++ n ∷ ys) h
    ∙ ap (only_equal side) (least-skip low side xs n ys h (ap is_ge e))
    ∙ sym (first_by_least (ordering_index (side n)) side ys (rises-behind low side xs n ys h))

-- a test of an answer is one of what it answers
pub answered : (test : Ordering → Bool) (told is : Ordering) (result : Bool) → result ≡ test told → told ≡ is → result ≡ test is
answered test told is result e f = e ∙ ap test f

-- a way is at the top of a part, and what is sought is in this part, if it is there
pub record Reading (s : Store) (side : ℕ → Ordering) (tree : Tree) (above : ℕ) (left : Bool) (at start now : ℕ) : Type 0 where
  pub seeking : Seeking s side tree above left at start now
  pub first : (up : ℕ) (part : Tree) → Stands s up part → at ≡ name_of part → first_at side (names tree) ≡ first_at side (names part)

pub read_start : (s : Store) (side : ℕ → Ordering) (root : ℕ) (t : Tree) (start : ℕ) → s.has 0 ≡ false → CanFind s side root → IsTree s root t → Reading s side t 0 false root start start
read_start s side root t start none h k = record {
  seeking = seek_start s side root t start none h k;
  first = λ up part stands e. ap (λ z. first_at side (names z)) (one_tree s 0 up t part none k.stands stands (sym k.top ∙ e));
}

-- one node further down
pub read_held : (s : Store) (side : ℕ → Ordering) (tree : Tree) (above : ℕ) (left : Bool) (at start now : ℕ) → s.has 0 ≡ false → Reading s side tree above left at start now → at ≢ 0 → s.has at ≡ true
read_held s side tree above left at start now none r some = (seek_next s side tree above left at start now none r.seeking some).held

first_on : (s : Store) (side : ℕ → Ordering) (tree : Tree) (at up low : ℕ) (part : Tree) → s.has 0 ≡ false → at ≢ 0 → at ≡ name_of part → Stands s up part → RisesFrom low side (names part) → first_at side (names tree) ≡ first_at side (names part) → is_eq (side at) ≡ false
    → (over : ℕ) (below : Tree) → Stands s over below → s.kid (is_gt (side at)) at ≡ name_of below → first_at side (names tree) ≡ first_at side (names below)
first_on s side tree at up low Leaf none some e stands rises first ne over below k kid = absurd (some e)
first_on s side tree at up low (Node l n r) none some e stands rises first ne over below k kid = first ∙ by (side at) refl
  where
    here : (o : Ordering) → side at ≡ o → side n ≡ o
    here o f = ap side (sym e) ∙ f

    by : (o : Ordering) → side at ≡ o → first_at side (names l ++ n ∷ names r) ≡ first_at side (names below)
    by Less f =
        let is : s.kid false n ≡ name_of below = ap (λ z. s.kid z n) (sym (ap is_gt f)) ∙ ap (s.kid (is_gt (side at))) (sym e) ∙ kid in
        first-behind low side (names l) n (names r) rises (here Less f)
        ∙ ap (λ z. first_at side (names z)) (one_tree s n over r below none stands.2 k (sym stands.0.right_kid ∙ is))
    by Equal f = absurd (true≢false (sym (ap is_eq f) ∙ ne))
    by Greater f =
        let is : s.kid true n ≡ name_of below = ap (λ z. s.kid z n) (sym (ap is_gt f)) ∙ ap (s.kid (is_gt (side at))) (sym e) ∙ kid in
        first-front low side (names l) n (names r) rises (here Greater f)
        ∙ ap (λ z. first_at side (names z)) (one_tree s n over l below none stands.1 k (sym stands.0.left_kid ∙ is))

pub read_next : (s : Store) (side : ℕ → Ordering) (tree : Tree) (above : ℕ) (left : Bool) (at start now : ℕ) → s.has 0 ≡ false → Reading s side tree above left at start now → at ≢ 0 → is_eq (side at) ≡ false
    → Reading s side tree at (is_gt (side at)) (s.kid (is_gt (side at)) at) start (now + 1)
read_next s side tree above left at start now none r some ne =
    let w = r.seeking in
    record {
      seeking = (seek_next s side tree above left at start now none w some).on;
      first = λ up part stands e. first_on s side tree at (name_at w.context) w.low w.part none some w.at_is w.stands w.rises (r.first (name_at w.context) w.part w.stands w.at_is) ne up part stands e;
    }

pub read_less : (s : Store) (side : ℕ → Ordering) (tree : Tree) (above : ℕ) (left : Bool) (at start now : ℕ) → s.has 0 ≡ false → Reading s side tree above left at start now → at ≢ 0 → length (names tree) ≤ 2 ^ 32
    → run (2 ^ 32) (λ n. s.kid (is_gt (side n)) n) (s.kid (is_gt (side at)) at) < run (2 ^ 32) (λ n. s.kid (is_gt (side n)) n) at
read_less s side tree above left at start now none r some = (seek_next s side tree above left at start now none r.seeking some).less

-- it ends at a node that is what is sought
pub read_taken : (s : Store) (side : ℕ → Ordering) (tree : Tree) (above : ℕ) (left : Bool) (at start now : ℕ) → Reading s side tree above left at start now → at ≢ 0 → is_eq (side at) ≡ true → IsTaken side tree at start (now + 1)
read_taken s side tree above left at start now r some equal =
    let w = r.seeking in
    let named : name_of w.part ≢ 0 = λ e. some (w.at_is ∙ e) in
    let asked = asked_some (λ n. is_gt (side n)) w.part named in
    let few = asked_few (λ n. is_gt (side n)) tree in
    let sum = w.steps in
    record {
      within = subst (λ z. contains (names tree) z ≡ true) (sym w.at_is) (within_tally (name_of w.part) tree (subst (λ z. 1 ≤ tally (name_of w.part) z) w.whole (let a = tally-plug (name_of w.part) w.context w.part in let b = tally-root w.part named in omega arith)));
      equal = equal;
      steps = omega arith;
    }

-- or where there is no node
pub read_free : (s : Store) (side : ℕ → Ordering) (tree : Tree) (above : ℕ) (left : Bool) (at start now : ℕ) → s.has 0 ≡ false → Reading s side tree above left at start now → at ≡ 0 → IsFree side tree above left start now
read_free s side tree above left at start now none r e = record {
  none = r.first 0 Leaf tt e;
  gap = seek_end s side tree above left at start now none r.seeking e;
}
