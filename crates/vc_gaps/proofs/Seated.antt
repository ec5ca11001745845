-- A gap at another one's place in the tree.
use Rattle.vc_base.proofs.Common.{◌≡◌, ℕ, ◌+◌, ◌-◌, ◌*◌, ◌^◌, ◌<◌, ◌≤◌, Bool, true, false, not, ◌&&◌, ◌||◌, eqb, ltb, leb-false, ◌≢◌, List, [], ◌∷◌, ◌++◌, ◌==◌, Some, None, filter, Option, option_map, find, sym, refl, ap, ◌∙◌, subst, ⊎_elim, true≢false, arith, append_assoc, ltb-false, lt-leb, leb, ne_eqb, eq-eqb, cases_Bool, cases_eq, AreDistinct, contains, place_of, Run, holds, least}
use Rattle.vc_base.proofs.Members.{apart-removed, first-apart, within-cases, within-either, within-front, within-head, within-rest, within-tail}
use Rattle.vc_splay.specs.Moves.{Context, Top, Under, HasKid, IsCut, IsFrame, IsRound, count, name_at, one, plug, tally, tally_round}
use Rattle.vc_splay.specs.Puts.{WasPut}
use Rattle.vc_splay.specs.Rank.{rank, size}
use Rattle.vc_splay.specs.Seats.{IsSeat, Seated}
use Rattle.vc_splay.specs.Stands.{IsTree, Stands}
use Rattle.vc_splay.specs.Tree.{Tree, Node, name_of, names}
use Rattle.vc_splay.specs.Unique.{IsTree-one}
use Rattle.vc_splay.specs.Writes.{CanSettleNode}
use Rattle.vc_splay.proofs.HangLemmas.{IsCut-held}
use Rattle.vc_splay.proofs.NeighbourLemmas.{before, behind, names-plug}
use Rattle.vc_splay.proofs.SeatLemmas.{seat_rank, seat_size}
use Rattle.vc_splay.proofs.SplayLemmas.{tally-apart, tally-within}
use Rattle.vc_splay.proofs.TallyLemmas.{one-same, tally-node, tally-plug}
use Rattle.vc_gaps.specs.Cost.{GapsCost}
use Rattle.vc_gaps.proofs.Common.{AreExtents, AscendFrom, Bytes, Extent, HasGapTree, HasGaps, StaysButLinks, Tiling, extent_of, extents_of, free_runs, gap_fits, gap_key, gap_none, gap_store, holds_at, is_free, is_free-stays, key-stays, key_of, plain, run_at, tiling}
use Rattle.vc_gaps.proofs.Ascending.{IsLeast, ascend-least, ascend-more, ascend-same, find-least}
use Rattle.vc_gaps.proofs.Carried.{stands-carried}
use Rattle.vc_gaps.proofs.Found.{best}
use Rattle.vc_gaps.proofs.GapTrees.{tree-free}
use Rattle.vc_gaps.proofs.Holding.{gap_off, holds-by_32}
use Rattle.vc_gaps.proofs.Named.{extent_in-off}

-- a place in a tiling that changes elsewhere
module _ (old new : Tiling) where
  abbrev Same : ℕ → Type 0
  Same n = extent_of new n ≡ extent_of old n

  held-carried : (n : ℕ) → Same n → (gap_store old).has n ≡ true → (gap_store new).has n ≡ true
  held-carried n e h = rw e h

  kid-carried : (d : Bool) (n : ℕ) → Same n → (gap_store new).kid d n ≡ (gap_store old).kid d n
  kid-carried true n e = ap (λ (x : Extent). x.links.first) e
  kid-carried false n e = ap (λ (x : Extent). x.links.second) e

  part-carried : (up : ℕ) (u : Tree) → ((n : ℕ) → 1 ≤ tally n u → Same n) → Stands (gap_store old) up u → Stands (gap_store new) up u
  part-carried up u same h = stands-carried old new up u (λ n w. same n (tally-within n u w)) h

  cut-carried : (top : ℕ) (u : Tree) → ((n : ℕ) → 1 ≤ tally n u → Same n) → IsCut (gap_store old) top u → IsCut (gap_store new) top u
  cut-carried top u same h = record { up = h.up; stands = part-carried h.up u same h.stands; top_is = h.top_is }

  round-carried : (c : Context) (below : ℕ) → ((n : ℕ) → 1 ≤ tally_round n c → Same n) → IsRound (gap_store old) c below → IsRound (gap_store new) c below
  round-carried Top below same h = tt
  round-carried (Under d m sibling c) below same h =
      let here = same m (let e = one-same m m refl in omega arith) in (
        record {
          kid = kid-carried d m here ∙ h.0.kid;
          parent = ap (λ (x : Extent). x.links.third) here ∙ h.0.parent;
          other_kid = record {
            held = held-carried m here h.0.other_kid.held;
            kid = kid-carried (not d) m here ∙ h.0.other_kid.kid;
            stands = part-carried m sibling (λ n i. same n (omega arith)) h.0.other_kid.stands;
          };
        },
        round-carried c m (λ n i. same n (omega arith)) h.1,
      )

  pub seat-carried : (root at above left right : ℕ) (side : Bool) (c : Context) (l r : Tree) → ((n : ℕ) → n ≢ at → tally n (plug c (Node l at r)) ≢ 0 → Same n)
      → IsSeat (gap_store old) root at above side left right c l r → IsSeat (gap_store new) root at above side left right c l r
  seat-carried root at above left right side c l r same h =
      let own : (n : ℕ) → 1 ≤ tally n l + tally n r + tally_round n c → Same n =
      λ n i.
      let a = tally-plug n c (Node l at r) in
      let b = tally-node n at l r in
      let w = h.once n in
      same n (λ e. let o = one-same n at e in absurd (omega arith)) (λ z. absurd (omega arith)) in
      record {
        round = round-carried c at (λ n i. own n (omega arith)) h.round;
        above_is = h.above_is;
        side_is = h.side_is;
        left_cut = cut-carried left l (λ n i. own n (omega arith)) h.left_cut;
        right_cut = cut-carried right r (λ n i. own n (omega arith)) h.right_cut;
        root_is = h.root_is;
        once = h.once;
      }

-- what it names is there
pub seat-above : (t : Tiling) (root at above left right : ℕ) (side : Bool) (c : Context) (l r : Tree) → IsSeat (gap_store t) root at above side left right c l r → above ≢ 0 → is_free t above ≡ true
seat-above t root at above left right side Top l r h some = absurd (some h.above_is)
seat-above t root at above left right side (Under d m sibling c) l r h some = ap (is_free t) h.above_is ∙ h.round.0.other_kid.held

pub seat-node : (t : Tiling) (root at above left right by : ℕ) (side : Bool) (c : Context) (l r : Tree) → is_free t by ≡ true → IsSeat (gap_store t) root at above side left right c l r → CanSettleNode (gap_store t) by left right
seat-node t root at above left right by side c l r free h = record {
  held = free;
  left_held = IsCut-held (gap_store t) left l h.left_cut;
  right_held = IsCut-held (gap_store t) right r h.right_cut;
}

-- a list with another name in the place of one ascends, where its key is between those before and those behind it
pub ascend-seat : (old new : ℕ → ℕ) (low a b : ℕ) (xs ys : List ℕ) → ((n : ℕ) → contains xs n ≡ true → new n ≡ old n) → ((n : ℕ) → contains ys n ≡ true → new n ≡ old n)
    → ((n : ℕ) → contains xs n ≡ true → old n < old a → old n < new b) → low ≤ new b → new b ≤ old a → AscendFrom old low (xs ++ a ∷ ys) → AscendFrom new low (xs ++ b ∷ ys)
ascend-seat old new low a b [] ys front back less l m h = (l, ascend-same old new (new b + 1) ys back (ascend-more old (new b + 1) (old a + 1) ys (omega arith) h.1))
ascend-seat old new low a b (x ∷ xs) ys front back less l m h =
    let e = front x (within-head x xs) in
    let j = ascend-least old (old x + 1) (xs ++ a ∷ ys) a h.1 (within-rest xs (a ∷ ys) a (within-head a ys)) in
    let k = less x (within-head x xs) (omega arith) in (
      subst (λ z. low ≤ z) (sym e) h.0,
      ascend-seat old new (new x + 1) a b xs ys (λ n w. front n (within-tail x xs n w)) back (λ n w. less n (within-tail x xs n w)) (omega arith) m (subst (λ z. AscendFrom old (z + 1) (xs ++ a ∷ ys)) (sym e) h.1),
    )

-- what such a list has
contains-seat : (a b : ℕ) (xs ys : List ℕ) (n : ℕ) → n ≢ a → n ≢ b → contains (xs ++ b ∷ ys) n ≡ contains (xs ++ a ∷ ys) n
contains-seat a b [] ys n na nb = ap (λ z. z || contains ys n) (ne_eqb b n (λ q. nb (sym q)) ∙ sym (ne_eqb a n (λ q. na (sym q))))
contains-seat a b (x ∷ xs) ys n na nb = ap (λ z. (x == n) || z) (contains-seat a b xs ys n na nb)

contains-gone : (a b : ℕ) (xs ys : List ℕ) → AreDistinct (xs ++ a ∷ ys) → b ≢ a → contains (xs ++ b ∷ ys) a ≡ false
contains-gone a b [] ys d ne = ap (λ z. z || contains ys a) (ne_eqb b a ne) ∙ d.0
contains-gone a b (x ∷ xs) ys d ne =
    let other : x ≢ a = λ q. true≢false (sym (within-rest xs (a ∷ ys) a (within-head a ys)) ∙ subst (λ z. contains (xs ++ a ∷ ys) z ≡ false) q d.0) in
    ap (λ z. z || contains (xs ++ b ∷ ys) a) (ne_eqb x a other) ∙ contains-gone a b xs ys d.1 ne

-- gaps before the least that holds a block at an alignment of 32 are shorter
module _ (segs : List Bytes) (index : List ℕ) (kept : ∥ AreExtents segs index ∥₁) (want a root : ℕ) (h : HasGaps (tiling segs) root [])
    (is : Some (run_at (tiling segs) a) ≡ least (filter (holds want 32) (free_runs (tiling segs)))) (free : is_free (tiling segs) a ≡ true) where
  abbrev t : Tiling
  t = tiling segs

  same_run : (m : ℕ) → is_free (tiling segs) m ≡ true → run_at (tiling segs) m ≡ run_at (tiling segs) a → m ≡ a
  same_run m f e =
      let oa : (extent_of t a).off ≡ (place_of a).1 = extent_in-off (place_of a).1 (extents_of (place_of a).0 t) in
      let om : (extent_of t m).off ≡ (place_of m).1 = extent_in-off (place_of m).1 (extents_of (place_of m).0 t) in
      let la = gap_off segs index kept a free in
      let lm = gap_off segs index kept m f in
      let seg : (place_of m).0 ≡ (place_of a).0 = ap (λ (g : Run). g.seg) e in
      let from : (extent_of t m).off - 16 ≡ (extent_of t a).off - 16 = ap (λ (g : Run). g.from) e in
      omega arith

  found_is : (o : Option ℕ) → o ≡ find (holds_at (tiling segs) want 32) h.names → find (holds_at (tiling segs) want 32) h.names ≡ Some a
  found_is None e = let k : None ≡ Some (run_at (tiling segs) a) = best segs index kept want 32 root h None e ∙ sym is in absurd (cc)
  found_is (Some m) e =
      let k : Some (run_at (tiling segs) m) ≡ Some (run_at (tiling segs) a) = best segs index kept want 32 root h (Some m) e ∙ sym is in
      let same : run_at (tiling segs) m ≡ run_at (tiling segs) a = cc in
      let l : IsLeast (key_of t) (holds_at t want 32) h.names m = find-least (key_of t) (holds_at t want 32) 0 h.names m h.tree.ascending (sym e) in
      sym e ∙ ap Some (same_run m (tree-free t root h.names h.tree m l.within) same)

  pub shorter : (n : ℕ) → contains h.names n ≡ true → key_of (tiling segs) n < key_of (tiling segs) a → (extent_of (tiling segs) n).span < want
  shorter n w lt =
      let l : IsLeast (key_of t) (holds_at t want 32) h.names a = find-least (key_of t) (holds_at t want 32) 0 h.names a h.tree.ascending (found_is (find (holds_at t want 32) h.names) refl) in
      let f = tree-free t root h.names h.tree n w in
      ⊎_elim
      (λ (u : leb want (extent_of t n).span ≡ true). let k = l.least n w (holds-by_32 t n want (gap_off segs index kept n f) ∙ u) in absurd (omega arith))
      (λ (u : leb want (extent_of t n).span ≡ false). leb-false want (extent_of t n).span u)
      (cases_Bool (leb want (extent_of t n).span))

  -- another gap is at that one's place: it is the rest of it, which holds such a block too, and the others stay
  module _ (mid : Tiling) (b : ℕ) (others : (n : ℕ) → n ≢ a → n ≢ b → extent_of mid n ≡ extent_of (tiling segs) n)
      (gone : is_free mid a ≡ false) (come : is_free mid b ≡ true) (none : is_free (tiling segs) b ≡ false) (small : b < 2 ^ 32)
      (some : 1 ≤ want) (rest : (extent_of mid b).span + want ≡ (extent_of (tiling segs) a).span) (holds : 2 * want ≤ (extent_of (tiling segs) a).span)
      (above left right : ℕ) (side : Bool) (s : Seated (gap_store (tiling segs)) root a above side left right h.tree.tree) where
    pub apart-b : tally b (plug s.context (Node s.left_tree a s.right_tree)) ≡ 0
    apart-b = ap (tally b) s.whole ∙ tally-apart b h.tree.tree (ap (λ xs. contains xs b) h.tree.list ∙ h.exact b ∙ ap (λ z. z && not (contains [] b)) none)

    pub seat-now : IsSeat (gap_store mid) root a above side left right s.context s.left_tree s.right_tree
    seat-now = seat-carried (tiling segs) mid root a above left right side s.context s.left_tree s.right_tree (λ n ne z. others n ne (λ e. z (ap (λ m. tally m (plug s.context (Node s.left_tree a s.right_tree))) e ∙ apart-b))) s.seat

    pub can-settle : CanSettleNode (gap_store mid) b left right
    can-settle = seat-node mid root a above left right b side s.context s.left_tree s.right_tree come seat-now

    pub above-free : above ≢ 0 → is_free mid above ≡ true
    above-free = seat-above mid root a above left right side s.context s.left_tree s.right_tree seat-now

    abbrev xs : List ℕ
    xs = before s.context ++ names s.left_tree

    abbrev ys : List ℕ
    ys = names s.right_tree ++ behind s.context

    in_order : (n : ℕ) → names (plug s.context (Node s.left_tree n s.right_tree)) ≡ xs ++ n ∷ ys
    in_order n =
        names-plug s.context (Node s.left_tree n s.right_tree) ∙ ap (λ z. before s.context ++ z) (append_assoc (names s.left_tree) (n ∷ names s.right_tree) (behind s.context))
        ∙ sym (append_assoc (before s.context) (names s.left_tree) (n ∷ ys))

    was : h.names ≡ xs ++ a ∷ ys
    was = sym h.tree.list ∙ ap names (sym s.whole) ∙ in_order a

    distinct : AreDistinct (xs ++ a ∷ ys)
    distinct = subst AreDistinct (ap names (sym s.whole) ∙ in_order a) h.tree.is_tree.distinct

    b-other : b ≢ a
    b-other e = true≢false (sym free ∙ ap (is_free (tiling segs)) (sym e) ∙ none)

    module _ (last : List Bytes) (i : List ℕ) (k : ∥ AreExtents last i ∥₁) (result : ℕ) (same : plain (tiling last) ≡ plain mid) (p : WasPut (gap_store mid) (gap_store (tiling last)) s.context (Node s.left_tree b s.right_tree) result) where
      key-kept : (n : ℕ) → n ≢ a → n ≢ b → key_of (tiling last) n ≡ key_of (tiling segs) n
      key-kept n na nb = key-stays mid (tiling last) same n ∙ ap (λ (x : Extent). gap_key x.span n) (others n na nb)

      free-kept : (n : ℕ) → n ≢ a → n ≢ b → is_free (tiling last) n ≡ is_free (tiling segs) n
      free-kept n na nb = is_free-stays mid (tiling last) same n ∙ ap (λ (x : Extent). ltb 0 x.span && eqb x.size 0) (others n na nb)

      not-a : (n : ℕ) → contains (xs ++ ys) n ≡ true → n ≢ a
      not-a n w e = true≢false (sym w ∙ ap (contains (xs ++ ys)) e ∙ apart-removed xs ys a distinct)

      in-old : (n : ℕ) → contains (xs ++ a ∷ ys) n ≡ true → contains h.names n ≡ true
      in-old n w = ap (λ zs. contains zs n) was ∙ w

      not-b : (n : ℕ) → contains (xs ++ a ∷ ys) n ≡ true → n ≢ b
      not-b n w e = true≢false (sym (tree-free (tiling segs) root h.names h.tree n (in-old n w)) ∙ ap (is_free (tiling segs)) e ∙ none)

      b-key : key_of (tiling last) b ≡ key_of mid b
      b-key = key-stays mid (tiling last) same b

      ascending : AscendFrom (key_of (tiling last)) 0 (xs ++ b ∷ ys)
      ascending =
          ascend-seat (key_of (tiling segs)) (key_of (tiling last)) 0 a b xs ys
          (λ n w. key-kept n (not-a n (within-front xs ys n w)) (not-b n (within-front xs (a ∷ ys) n w)))
          (λ n w. key-kept n (not-a n (within-rest xs ys n w)) (not-b n (within-rest xs (a ∷ ys) n (within-tail a ys n w))))
          (λ n w lt.
          let there = in-old n (within-front xs (a ∷ ys) n w) in
          let less = shorter n there lt in
          let low = gap_fits segs index kept n (tree-free (tiling segs) root h.names h.tree n there) in
          omega (arith, b-key, less, low, rest, holds))
          (omega arith) (omega (arith, b-key, small, some, rest)) (subst (AscendFrom (key_of (tiling segs)) 0) was h.tree.ascending)

      exact-now : (n : ℕ) → contains (xs ++ b ∷ ys) n ≡ (is_free (tiling last) n && not (contains [] n))
      exact-now n =
          ⊎_elim
          (λ (e : n ≡ a).
          subst (λ z. contains (xs ++ b ∷ ys) z ≡ (is_free (tiling last) z && not (contains [] z))) (sym e)
          (contains-gone a b xs ys distinct b-other ∙ sym (ap (λ z. z && not (contains [] a)) (is_free-stays mid (tiling last) same a ∙ gone))))
          (λ (na : n ≢ a).
          ⊎_elim
          (λ (e : n ≡ b).
          subst (λ z. contains (xs ++ b ∷ ys) z ≡ (is_free (tiling last) z && not (contains [] z))) (sym e)
          (within-rest xs (b ∷ ys) b (within-head b ys) ∙ sym (ap (λ z. z && not (contains [] b)) (is_free-stays mid (tiling last) same b ∙ come))))
          (λ (nb : n ≢ b).
          contains-seat a b xs ys n na nb ∙ sym (ap (λ zs. contains zs n) was) ∙ h.exact n ∙ ap (λ z. z && not (contains [] n)) (sym (free-kept n na nb)))
          (cases_eq n b))
          (cases_eq n a)

      pub gaps-seated : HasGaps (tiling last) result []
      gaps-seated = record {
        names = xs ++ b ∷ ys;
        tree = record { tree = plug s.context (Node s.left_tree b s.right_tree); is_tree = p.is_tree; list = in_order b; ascending = ascending };
        exact = exact-now;
      }

      -- the tree keeps its form
      old-tree : (u : Tree) → IsTree (gap_store (tiling segs)) root u → u ≡ plug s.context (Node s.left_tree a s.right_tree)
      old-tree u j = IsTree-one (gap_store (tiling segs)) root u h.tree.tree (gap_none segs index kept) j h.tree.is_tree ∙ sym s.whole

      new-tree : (u : Tree) → IsTree (gap_store (tiling last)) result u → u ≡ plug s.context (Node s.left_tree b s.right_tree)
      new-tree u j = IsTree-one (gap_store (tiling last)) result u (plug s.context (Node s.left_tree b s.right_tree)) (gap_none last i k) j p.is_tree

      pub seated-cost : GapsCost (tiling segs) (tiling last) root result 0 0 0 0 0
      seated-cost = record {
        law = λ t u j q. record { cost = let e = ap rank (new-tree u q) ∙ seat_rank s.context s.left_tree a b s.right_tree ∙ sym (ap rank (old-tree t j)) in omega arith };
        few = λ t u j q. let e = ap size (new-tree u q) ∙ seat_size s.context s.left_tree a b s.right_tree ∙ sym (ap size (old-tree t j)) in omega arith;
      }
