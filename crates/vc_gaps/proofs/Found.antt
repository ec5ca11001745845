-- The first gap of a tree that holds a block is the least one.
use Rattle.vc_base.proofs.Common.{◌≡◌, ℕ, ◌≤◌, true, not, ◌&&◌, ◌≢◌, List, [], Some, None, filter, Option, option_map, find, is_ge, sym, ap, ◌∙◌, le-leb, ∥∥₁_elim, ℕ_set, contains, some_address, Run, holds, least}
use Rattle.vc_gaps.proofs.Common.{AreExtents, Bytes, GapFitted, GapTreeAfter, HasGapTree, HasGaps, IsAmongGaps, StaysButLinks, Tiling, extent_of, free_runs, from_on, gap_fits, gap_side, gap_store, holds_at, is_free, is_free-stays, key_of, run_at, tiling}
use Rattle.std.proofs.Props.{props}
use Rattle.vc_splay.specs.Guide.{least_at}
use Rattle.vc_splay.specs.Stands.{IsTree, TreeAfter}
use Rattle.vc_splay.specs.Tree.{Tree, names}
use Rattle.vc_gaps.proofs.Ascending.{IsLeast, find-least, find-none, find-same}
use Rattle.vc_gaps.proofs.GapTrees.{gap-found, tree-free}
use Rattle.vc_gaps.proofs.Holding.{gap_off, holds-by_32, holds-span, holds-stays, side-by}
use Rattle.vc_gaps.proofs.Least.{IsPlaced, least-is, least-none}
use Rattle.vc_gaps.proofs.Runs.{AreGaps, are_gaps, has-gap}
use Rattle.vc_gaps.proofs.Searching.{no-zero}
use Rattle.vc_gaps.proofs.Walking.{find-from, find-some}

run-set : IsSet Run
run-set = hlevel (ℕ_set)

exact-within : (t : Tiling) (root : ℕ) (h : HasGaps t root []) (a : ℕ) → is_free t a ≡ true → contains h.names a ≡ true
exact-within t root h a f = h.exact a ∙ ap (λ z. z && true) f

module _ (segs : List Bytes) (index : List ℕ) (kept : ∥ AreExtents segs index ∥₁) where
  placed : (a : ℕ) → is_free (tiling segs) a ≡ true → IsPlaced a
  placed a h = record { small = gap_fits segs index kept a h; off = gap_off segs index kept a h }

  -- the first that holds a block is the least one, where each free extent is in the tree
  best-found : (span align root : ℕ) (h : HasGaps (tiling segs) root []) (found : Option ℕ) → found ≡ find (holds_at (tiling segs) span align) h.names → AreGaps (tiling segs) (free_runs (tiling segs))
      → option_map (run_at (tiling segs)) found ≡ least (filter (holds span align) (free_runs (tiling segs)))
  best-found span align root h None e g =
      sym (least-none (tiling segs) (holds span align) (free_runs (tiling segs)) g
      (λ m f. find-none (holds_at (tiling segs) span align) h.names (sym e) m (exact-within (tiling segs) root h m f)))
  best-found span align root h (Some n) e g =
      let l : IsLeast (key_of (tiling segs)) (holds_at (tiling segs) span align) h.names n = find-least (key_of (tiling segs)) (holds_at (tiling segs) span align) 0 h.names n h.tree.ascending (sym e) in
      let free = tree-free (tiling segs) root h.names h.tree n l.within in
      sym (least-is (tiling segs) placed (holds span align) n free l.passes
      (λ m f u. l.least m (exact-within (tiling segs) root h m f) u)
      None (free_runs (tiling segs)) g (has-gap (tiling segs) n free) (λ x q. absurd (cc)))

  pub best : (span align root : ℕ) (h : HasGaps (tiling segs) root []) (found : Option ℕ) → found ≡ find (holds_at (tiling segs) span align) h.names
      → option_map (run_at (tiling segs)) found ≡ least (filter (holds span align) (free_runs (tiling segs)))
  best span align root h found e =
      let set : IsSet (Option Run) = search (props, run-set) in
      ∥∥₁_elim kept (set (option_map (run_at (tiling segs)) found) (least (filter (holds span align) (free_runs (tiling segs)))))
      (λ k. best-found span align root h found e (are_gaps segs index k))

  -- at an alignment of 32 it is the first that isn't below the span
  pub first-by_32 : (span root : ℕ) (xs : List ℕ) → HasGapTree (tiling segs) root xs → least_at (gap_side (tiling segs) span 0) xs ≡ find (holds_at (tiling segs) span 32) xs
  first-by_32 span root xs h =
      find-same (λ n. is_ge (gap_side (tiling segs) span 0 n)) (holds_at (tiling segs) span 32) xs
      (λ n w.
      let free = tree-free (tiling segs) root xs h n w in
      side-by (tiling segs) n span (gap_fits segs index kept n free) ∙ sym (holds-by_32 (tiling segs) n span (gap_off segs index kept n free)))

  -- at others it is from there on
  pub first-from : (span align root first : ℕ) (xs : List ℕ) → 1 ≤ align → HasGapTree (tiling segs) root xs → some_address first ≡ least_at (gap_side (tiling segs) span 0) xs
      → find (holds_at (tiling segs) span align) xs ≡ find (holds_at (tiling segs) span align) (from_on first xs)
  first-from span align root first xs some h e =
      find-from (holds_at (tiling segs) span align) (λ n. is_ge (gap_side (tiling segs) span 0 n)) xs first (no-zero segs index kept root xs h)
      (λ n w u.
      let free = tree-free (tiling segs) root xs h n w in
      side-by (tiling segs) n span (gap_fits segs index kept n free)
      ∙ le-leb span (extent_of (tiling segs) n).span (holds-span (tiling segs) n span align (gap_off segs index kept n free) some u))
      e

module _ (old new : List Bytes) (index : List ℕ) (kept : ∥ AreExtents old index ∥₁) (rest : StaysButLinks old new) (root result span align : ℕ) where
  -- a fit, by what was found
  pub fitted : (found : Option ℕ)
      → ((tree : Tree) → IsTree (gap_store (tiling old)) root tree → TreeAfter (gap_store (tiling old)) (gap_store (tiling new)) (names tree) result (names tree))
      → ((xs : List ℕ) → HasGapTree (tiling old) root xs → found ≡ find (holds_at (tiling old) span align) xs)
      → GapFitted (tiling old) (tiling new) root span align result found
  fitted found t e = record {
    tree = λ xs h. gap-found old new index kept rest root result 0 xs h (t h.tree h.is_tree);
    gaps = λ out h. record {
      names = h.names;
      tree = (gap-found old new index kept rest root result 0 h.names h.tree (t h.tree.tree h.tree.is_tree)).tree;
      exact = λ a. h.exact a ∙ ap (λ z. z && not (contains out a)) (sym (is_free-stays (tiling old) (tiling new) rest.extents a));
    };
    first = e;
    best = λ h. best old index kept span align root h found (e h.names h.tree);
  }

  answer-list : (first : ℕ) (xs : List ℕ) (h : HasGapTree (tiling old) root xs)
      → ((tree : Tree) → IsTree (gap_store (tiling old)) root tree → some_address first ≡ least_at (gap_side (tiling old) span 0) (names tree))
      → some_address first ≡ least_at (gap_side (tiling old) span 0) xs
  answer-list first xs h a = a h.tree h.is_tree ∙ ap (least_at (gap_side (tiling old) span 0)) h.list

  -- at an alignment of 32
  pub fitted-by_32 : (first : ℕ) → align ≡ 32
      → ((tree : Tree) → IsTree (gap_store (tiling old)) root tree → TreeAfter (gap_store (tiling old)) (gap_store (tiling new)) (names tree) result (names tree))
      → ((tree : Tree) → IsTree (gap_store (tiling old)) root tree → some_address first ≡ least_at (gap_side (tiling old) span 0) (names tree))
      → GapFitted (tiling old) (tiling new) root span align result (some_address first)
  fitted-by_32 first unit t a =
      fitted (some_address first) t
      (λ xs h. answer-list first xs h a ∙ first-by_32 old index kept span root xs h ∙ ap (λ z. find (holds_at (tiling old) span z) xs) (sym unit))

  -- and at others
  pub first-within : (first : ℕ) (xs : List ℕ) (h : HasGapTree (tiling old) root xs)
      → ((tree : Tree) → IsTree (gap_store (tiling old)) root tree → some_address first ≡ least_at (gap_side (tiling old) span 0) (names tree))
      → first ≢ 0 → contains xs first ≡ true
  first-within first xs h a some = find-some (λ n. is_ge (gap_side (tiling old) span 0 n)) xs first some (answer-list first xs h a)

  pub fitted-on : (first found : ℕ) → 1 ≤ align
      → ((tree : Tree) → IsTree (gap_store (tiling old)) root tree → TreeAfter (gap_store (tiling old)) (gap_store (tiling new)) (names tree) result (names tree))
      → ((tree : Tree) → IsTree (gap_store (tiling old)) root tree → some_address first ≡ least_at (gap_side (tiling old) span 0) (names tree))
      → ((top : ℕ) (xs : List ℕ) → HasGapTree (tiling new) top xs → (first ≢ 0 → contains xs first ≡ true) → some_address found ≡ find (holds_at (tiling new) span align) (from_on first xs))
      → GapFitted (tiling old) (tiling new) root span align result (some_address found)
  fitted-on first found some t a f =
      fitted (some_address found) t
      (λ xs h.
      let after : GapTreeAfter (tiling old) (tiling new) xs result xs = gap-found old new index kept rest root result 0 xs h (t h.tree h.is_tree) in
      f result xs after.tree (first-within first xs h a)
      ∙ find-same (holds_at (tiling new) span align) (holds_at (tiling old) span align) (from_on first xs) (λ n w. holds-stays (tiling old) (tiling new) rest.extents span align n)
      ∙ sym (first-from old index kept span align root first xs some h (answer-list first xs h a)))

  pub among-first : (first : ℕ) (xs : List ℕ) → HasGapTree (tiling old) root xs
      → ((tree : Tree) → IsTree (gap_store (tiling old)) root tree → TreeAfter (gap_store (tiling old)) (gap_store (tiling new)) (names tree) result (names tree))
      → ((tree : Tree) → IsTree (gap_store (tiling old)) root tree → some_address first ≡ least_at (gap_side (tiling old) span 0) (names tree))
      → first ≢ 0 → IsAmongGaps (tiling new) first
  among-first first xs h t a some =
      let after : GapTreeAfter (tiling old) (tiling new) xs result xs = gap-found old new index kept rest root result 0 xs h (t h.tree h.is_tree) in
      record { root = result; is_in = record { names = xs; tree = after.tree; within = first-within first xs h a some } }
