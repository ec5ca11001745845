-- Walks down one side of a tree, and up from a part of one.
use Rattle.vc_base.proofs.Common.{◌≡◌, ℕ, zero, suc, ◌+◌, ◌^◌, ◌<◌, ◌≤◌, Bool, true, false, not, ◌≢◌, ◌∷◌, length, sym, refl, ap, ◌∙◌, subst, arith, length-append, ne_eqb, AreDistinct}
use Rattle.vc_splay.specs.Tree.{Tree, Leaf, Node, names, name_of}
use Rattle.vc_splay.specs.Store.{Store}
use Rattle.vc_splay.specs.Stands.{Stands}
use Rattle.vc_splay.specs.Moves.{Context, Top, Under, depth, joined_tree, name_at, plug, tally}
use Rattle.vc_splay.specs.Walks.{IsPart, IsTop, beyond, run, tip}
use Rattle.vc_splay.proofs.FewLemmas.{deep, few, run-depth}
use Rattle.vc_splay.proofs.PlugLemmas.{IsRound-open}
use Rattle.vc_splay.proofs.StandsLemmas.{some_held}
use Rattle.vc_splay.proofs.StepLemmas.{Stands-held}
use Rattle.vc_splay.proofs.TallyLemmas.{distinct-count, tally-joined, tally-plug, tally-root}

-- the names of a standing tree are few
pub names_fit : (s : Store) (up : ℕ) (t : Tree) → ((n : ℕ) → s.has n ≡ true → n < 2 ^ 32) → Stands s up t → AreDistinct (names t) → length (names t) ≤ 2 ^ 32
unfolding tally
names_fit s up t fits stands distinct = few (names t) (λ n. distinct-count n (names t) distinct) (λ n h. fits n (Stands-held s up t n stands h))

-- the nodes at one side of a tree
spine : Bool → Tree → ℕ
spine d Leaf = 0
spine true (Node l n r) = spine true l + 1
spine false (Node l n r) = spine false r + 1

spine_few : (d : Bool) (t : Tree) → spine d t ≤ length (names t)
unfolding spine
spine_few d Leaf = omega arith
spine_few true (Node l n r) = let h = spine_few true l in let e = length-append (names l) (n ∷ names r) in omega arith
spine_few false (Node l n r) = let h = spine_few false r in let e = length-append (names l) (n ∷ names r) in omega arith

run-spine : (fuel : ℕ) (s : Store) (d : Bool) (up : ℕ) (t : Tree) → s.has 0 ≡ false → Stands s up t → spine d t ≤ fuel → run fuel (s.kid d) (name_of t) ≡ spine d t
unfolding run spine
run-spine zero s d up Leaf none h k = refl
run-spine (suc fuel) s d up Leaf none h k = refl
run-spine zero s true up (Node l n r) none h k = absurd (omega arith)
run-spine zero s false up (Node l n r) none h k = absurd (omega arith)
run-spine (suc fuel) s true up (Node l n r) none h k = rw (ne_eqb n 0 (some_held s n none h.0.held)) (
    let i = run-spine fuel s true n l none h.1 (omega arith) in
    let e : run fuel (s.kid true) (s.kid true n) ≡ run fuel (s.kid true) (name_of l) = ap (run fuel (s.kid true)) h.0.left_kid in
    omega arith)
run-spine (suc fuel) s false up (Node l n r) none h k = rw (ne_eqb n 0 (some_held s n none h.0.held)) (
    let i = run-spine fuel s false n r none h.2 (omega arith) in
    let e : run fuel (s.kid false) (s.kid false n) ≡ run fuel (s.kid false) (name_of r) = ap (run fuel (s.kid false)) h.0.right_kid in
    omega arith)

-- a walk down one side is at the top of this part, and goes on to the same end
pub record Descent (s : Store) (side : Bool) (top at next : ℕ) (tree : Tree) : Type 0 where
  pub up : ℕ
  pub part : Tree
  pub stands : Stands s up part
  pub long : length (names part) ≤ length (names tree)
  pub next_is : next ≡ name_of part
  pub end : tip side top tree ≡ tip side at part

pub descent_start : (s : Store) (side : Bool) (c : Context) (t : Tree) (top : ℕ) → IsPart s c t → top ≡ name_of t → Descent s side top top top t
descent_start s side c t top p e = record { up = name_at c; part = t; stands = (IsRound-open s c t p.stands).1; long = omega arith; next_is = e; end = refl }

-- what a walk knows of the node there
pub record DescentNext (s : Store) (side : Bool) (top next : ℕ) (tree : Tree) : Type 0 where
  pub held : s.has next ≡ true
  pub on : Descent s side top next (s.kid side next) tree
  pub less : length (names tree) ≤ 2 ^ 32 → run (2 ^ 32) (s.kid side) (s.kid side next) < run (2 ^ 32) (s.kid side) next

descent_at : (s : Store) (side : Bool) (top at next : ℕ) (tree : Tree) (up : ℕ) (part : Tree) → s.has 0 ≡ false → Stands s up part → length (names part) ≤ length (names tree) → next ≡ name_of part → tip side top tree ≡ tip side at part → next ≢ 0 → DescentNext s side top next tree
unfolding spine
descent_at s side top at next tree up Leaf none h long e end some = absurd (some e)
descent_at s true top at next tree up (Node l n r) none h long e end some =
    let w = length-append (names l) (n ∷ names r) in
    let kid : s.kid true next ≡ name_of l = ap (s.kid true) e ∙ h.0.left_kid in
    record {
      held = ap s.has e ∙ h.0.held;
      on = record { up = n; part = l; stands = h.1; long = omega arith; next_is = kid; end = end ∙ ap (λ z. tip true z l) (sym e) };
      less = λ fits.
          let k = spine_few true (Node l n r) in
          let a = ap (run (2 ^ 32) (s.kid true)) e ∙ run-spine (2 ^ 32) s true up (Node l n r) none h (omega arith) in
          let b = ap (run (2 ^ 32) (s.kid true)) kid ∙ run-spine (2 ^ 32) s true n l none h.1 (omega arith) in
          omega arith;
    }
descent_at s false top at next tree up (Node l n r) none h long e end some =
    let w = length-append (names l) (n ∷ names r) in
    let kid : s.kid false next ≡ name_of r = ap (s.kid false) e ∙ h.0.right_kid in
    record {
      held = ap s.has e ∙ h.0.held;
      on = record { up = n; part = r; stands = h.2; long = omega arith; next_is = kid; end = end ∙ ap (λ z. tip false z r) (sym e) };
      less = λ fits.
          let k = spine_few false (Node l n r) in
          let a = ap (run (2 ^ 32) (s.kid false)) e ∙ run-spine (2 ^ 32) s false up (Node l n r) none h (omega arith) in
          let b = ap (run (2 ^ 32) (s.kid false)) kid ∙ run-spine (2 ^ 32) s false n r none h.2 (omega arith) in
          omega arith;
    }

pub descent_next : (s : Store) (side : Bool) (top at next : ℕ) (tree : Tree) → s.has 0 ≡ false → Descent s side top at next tree → next ≢ 0 → DescentNext s side top next tree
descent_next s side top at next tree none d some = descent_at s side top at next tree d.up d.part none d.stands d.long d.next_is d.end some

descent_done : (s : Store) (side : Bool) (at : ℕ) (up : ℕ) (part : Tree) → s.has 0 ≡ false → Stands s up part → 0 ≡ name_of part → tip side at part ≡ at
descent_done s side at up Leaf none h e = refl
descent_done s side at up (Node l n r) none h e = absurd (some_held s n none h.0.held (sym e))

pub descent_end : (s : Store) (side : Bool) (top at next : ℕ) (tree : Tree) → s.has 0 ≡ false → Descent s side top at next tree → next ≡ 0 → at ≡ tip side top tree
descent_end s side top at next tree none d e = sym (d.end ∙ descent_done s side at d.up d.part none d.stands (sym e ∙ d.next_is))

-- the names of a part fit, as those of its tree do
pub part_fits : (s : Store) (c : Context) (t : Tree) → ((n : ℕ) → s.has n ≡ true → n < 2 ^ 32) → IsPart s c t → length (names t) ≤ 2 ^ 32
part_fits s c t fits p = let a = names_fit s 0 (plug c t) fits p.stands p.distinct in let b = deep c t in omega arith

part_depth : (s : Store) (c : Context) (t : Tree) → ((n : ℕ) → s.has n ≡ true → n < 2 ^ 32) → IsPart s c t → depth c ≤ 2 ^ 32
part_depth s c t fits p = let a = names_fit s 0 (plug c t) fits p.stands p.distinct in let b = deep c t in omega arith

-- a walk up is right above this part, and goes on to the same node
pub record Ascent (s : Store) (side : Bool) (from : Context) (below above : ℕ) : Type 0 where
  pub context : Context
  pub tree : Tree
  pub part : IsPart s context tree
  pub some : below ≢ 0
  pub below_is : below ≡ name_of tree
  pub above_is : above ≡ name_at context
  pub end : beyond side from ≡ beyond side context

pub ascent_start : (s : Store) (side : Bool) (c : Context) (t : Tree) (top above : ℕ) → s.has 0 ≡ false → top ≢ 0 → IsPart s c t → top ≡ name_of t → above ≡ s.parent top → Ascent s side c top above
ascent_start s side c t top above none some p e up = record {
  context = c;
  tree = t;
  part = p;
  some = some;
  below_is = e;
  above_is = up ∙ ap s.parent e ∙ parent_is s (name_at c) t (λ z. some (e ∙ z)) (IsRound-open s c t p.stands).1;
  end = refl;
}
  where
    parent_is : (s : Store) (up : ℕ) (t : Tree) → name_of t ≢ 0 → Stands s up t → s.parent (name_of t) ≡ up
    parent_is s up Leaf some h = absurd (some refl)
    parent_is s up (Node l n r) some h = h.0.parent

-- what it knows of the node above
pub record AscentNext (s : Store) (side : Bool) (from : Context) (below above : ℕ) : Type 0 where
  pub held : s.has above ≡ true
  pub there : s.kid side above ≢ below → above ≡ beyond side from
  pub on : s.kid side above ≡ below → Ascent s side from above (s.parent above)
  pub less : run (2 ^ 32) s.parent (s.parent above) < run (2 ^ 32) s.parent above

apart_name : (s : Store) (c : Context) (d : Bool) (t : Tree) (n : ℕ) (sibling : Tree) (below : ℕ) → IsPart s (Under d n sibling c) t → below ≢ 0 → below ≡ name_of t → name_of sibling ≢ below
unfolding tally
apart_name s c d t n sibling below p some e same =
    let a = distinct-count below (names (plug c (joined_tree d t n sibling))) p.distinct in
    let b = tally-plug below c (joined_tree d t n sibling) in
    let k = tally-joined below n d t sibling in
    let i : 1 ≤ tally below t = subst (λ z. 1 ≤ tally z t) (sym e) (tally-root t (λ z. some (e ∙ z))) in
    let j : 1 ≤ tally below sibling = subst (λ z. 1 ≤ tally z sibling) same (tally-root sibling (λ z. some (sym same ∙ z))) in
    absurd (omega arith)

ascent_less : (s : Store) (c : Context) (d : Bool) (t : Tree) (n : ℕ) (sibling : Tree) (above : ℕ) → s.has 0 ≡ false → ((m : ℕ) → s.has m ≡ true → m < 2 ^ 32) → IsPart s (Under d n sibling c) t → above ≡ n → run (2 ^ 32) s.parent (s.parent above) < run (2 ^ 32) s.parent above
ascent_less s c d t n sibling above none fits p e =
    let q = IsRound-open s (Under d n sibling c) t p.stands in
    let k = part_depth s (Under d n sibling c) t fits p in
    let a = ap (run (2 ^ 32) s.parent) e ∙ run-depth (2 ^ 32) s (Under d n sibling c) (name_of t) none q.0 k in
    let b = ap (run (2 ^ 32) s.parent) (ap s.parent e ∙ q.0.0.parent) ∙ run-depth (2 ^ 32) s c n none q.0.1 (omega arith) in
    omega arith

name_joined : (d : Bool) (t : Tree) (n : ℕ) (u : Tree) → n ≡ name_of (joined_tree d t n u)
name_joined true t n u = refl
name_joined false t n u = refl

ascent_same : (s : Store) (side : Bool) (from : Context) (below above : ℕ) (c : Context) (n : ℕ) (sibling t : Tree) → s.has 0 ≡ false → ((m : ℕ) → s.has m ≡ true → m < 2 ^ 32)
    → IsPart s (Under side n sibling c) t → below ≢ 0 → below ≡ name_of t → above ≡ n → beyond side from ≡ beyond side c → AscentNext s side from below above
ascent_same s side from below above c n sibling t none fits p some e f end =
    let q = IsRound-open s (Under side n sibling c) t p.stands in record {
      held = ap s.has f ∙ q.0.0.other_kid.held;
      there = λ ne. absurd (ne (ap (s.kid side) f ∙ q.0.0.kid ∙ sym e));
      on = λ h. record {
        context = c;
        tree = joined_tree side t n sibling;
        part = record { stands = p.stands; distinct = p.distinct };
        some = λ z. some_held s n none q.0.0.other_kid.held (sym f ∙ z);
        below_is = f ∙ name_joined side t n sibling;
        above_is = ap s.parent f ∙ q.0.0.parent;
        end = end;
      };
      less = ascent_less s c side t n sibling above none fits p f;
    }

ascent_other : (s : Store) (side : Bool) (from : Context) (below above : ℕ) (c : Context) (n : ℕ) (sibling t : Tree) → s.has 0 ≡ false → ((m : ℕ) → s.has m ≡ true → m < 2 ^ 32)
    → IsPart s (Under (not side) n sibling c) t → below ≢ 0 → below ≡ name_of t → above ≡ n → beyond side from ≡ n → s.kid side n ≡ name_of sibling → AscentNext s side from below above
ascent_other s side from below above c n sibling t none fits p some e f end kid =
    let q = IsRound-open s (Under (not side) n sibling c) t p.stands in record {
      held = ap s.has f ∙ q.0.0.other_kid.held;
      there = λ ne. f ∙ sym end;
      on = λ h. absurd (apart_name s c (not side) t n sibling below p some e (sym kid ∙ ap (s.kid side) (sym f) ∙ h));
      less = ascent_less s c (not side) t n sibling above none fits p f;
    }

ascent_at : (s : Store) (side : Bool) (from : Context) (below above : ℕ) (c : Context) (t : Tree) → s.has 0 ≡ false → ((m : ℕ) → s.has m ≡ true → m < 2 ^ 32)
    → IsPart s c t → below ≢ 0 → below ≡ name_of t → above ≡ name_at c → beyond side from ≡ beyond side c → above ≢ 0 → AscentNext s side from below above
ascent_at s side from below above Top t none fits p some e f end up = absurd (up f)
ascent_at s true from below above (Under true n sibling c) t none fits p some e f end up = ascent_same s true from below above c n sibling t none fits p some e f end
ascent_at s false from below above (Under false n sibling c) t none fits p some e f end up = ascent_same s false from below above c n sibling t none fits p some e f end
ascent_at s true from below above (Under false n sibling c) t none fits p some e f end up =
    ascent_other s true from below above c n sibling t none fits p some e f end (IsRound-open s (Under false n sibling c) t p.stands).0.0.other_kid.kid
ascent_at s false from below above (Under true n sibling c) t none fits p some e f end up =
    ascent_other s false from below above c n sibling t none fits p some e f end (IsRound-open s (Under true n sibling c) t p.stands).0.0.other_kid.kid

pub ascent_next : (s : Store) (side : Bool) (from : Context) (below above : ℕ) → s.has 0 ≡ false → ((m : ℕ) → s.has m ≡ true → m < 2 ^ 32) → Ascent s side from below above → above ≢ 0 → AscentNext s side from below above
ascent_next s side from below above none fits a up = ascent_at s side from below above a.context a.tree none fits a.part a.some a.below_is a.above_is a.end up

ascent_done : (s : Store) (side : Bool) (c : Context) (t : Tree) → s.has 0 ≡ false → IsPart s c t → 0 ≡ name_at c → beyond side c ≡ 0
ascent_done s side Top t none p e = refl
ascent_done s side (Under d n sibling c) t none p e = absurd (some_held s n none (IsRound-open s (Under d n sibling c) t p.stands).0.0.other_kid.held (sym e))

pub ascent_end : (s : Store) (side : Bool) (from : Context) (below above : ℕ) → s.has 0 ≡ false → Ascent s side from below above → above ≡ 0 → 0 ≡ beyond side from
ascent_end s side from below above none a e = sym (a.end ∙ ascent_done s side a.context a.tree none a.part (sym e ∙ a.above_is))

held_by : (s : Store) (up : ℕ) (t : Tree) (top : ℕ) → Stands s up t → top ≡ name_of t → top ≢ 0 → s.has top ≡ true
held_by s up Leaf top h e some = absurd (some e)
held_by s up (Node l n r) top h e some = ap s.has e ∙ h.0.held

pub top_held : (s : Store) (top : ℕ) → IsTop s top → top ≢ 0 → s.has top ≡ true
top_held s top h some = held_by s (name_at h.context) h.tree top (IsRound-open s h.context h.tree h.part.stands).1 h.top some
