-- A tree has at most as many gaps as there are, and a root where there are any.
use Rattle.vc_base.proofs.Common.{◌≡◌, ℕ, ◌+◌, ◌-◌, ◌≤◌, ◌≢◌, min, true, false, eqb, List, [], ◌∷◌, map, length, sym, refl, ap, ◌∙◌, subst, ⊎_elim, arith, le_prop, ∥∥₁_elim, length-map, eq-eqb, ne_eqb, eqb-true, eqb-false, cases_Bool, cases_eq, ◌&&◌, AllByRecursion, IsDistinct, list_any, AreDistinct, contains, address, place_of, Run}
use Rattle.std.proofs.lemmas.Cmp.{nat_eq_equiv}
use Rattle.std.proofs.lemmas.Map.Made.{length-le_from_is_member}
use Rattle.vc_base.proofs.Members.{within-head, within-tail}
use Rattle.vc_model.proofs.Owned.{address-place_of}
use Rattle.vc_model.specs.Numbers.{gap_count}
use Rattle.vc_splay.proofs.SearchLemmas.{no_tree}
use Rattle.vc_splay.proofs.StandsLemmas.{Stands-there}
use Rattle.vc_splay.specs.Rank.{size}
use Rattle.vc_splay.specs.Stands.{IsTree}
use Rattle.vc_splay.specs.Tree.{Tree, names}
use Rattle.vc_gaps.specs.Fits as gaps
use Rattle.vc_gaps.specs.GapLaws.{gap_none}
use Rattle.vc_gaps.specs.GapStore.{gap_store, is_free}
use Rattle.vc_gaps.proofs.Holding.{gap_off}
use Rattle.vc_gaps.proofs.Named.{extent_in-off}
use Rattle.vc_gaps.proofs.Runs.{AreGaps, HasRun, are_gaps, has-gap}
use Rattle.vc_best.proofs.Common.{AreExtents, Bytes, HasGaps, IsMerged, Tiling, extent_of, extents_of, layout_by, run_at, tiling}
use Rattle.vc_best.proofs.Frees.{gaps-of}
use Rattle.vc_best.proofs.Plain.{runs-by}

-- lists by one test of numbers
apart_all : (x : ℕ) (xs : List ℕ) → contains xs x ≡ false → AllByRecursion (λ y. eqb x y ≡ false) xs
apart_all x [] h = tt
apart_all x (y ∷ ys) h =
    ⊎_elim
    (λ (t : eqb y x ≡ true). absurd (let q : true ≡ false = rw t at h in cc))
    (λ (t : eqb y x ≡ false). (ne_eqb x y (λ e. eqb-false y x t (sym e)), apart_all x ys (rw t at h)))
    (cases_Bool (eqb y x))

distinct_all : (xs : List ℕ) → AreDistinct xs → IsDistinct eqb xs
unfolding IsDistinct
distinct_all [] h = tt
distinct_all (x ∷ xs) h = (apart_all x xs h.0, distinct_all xs h.1)

there : (q : ℕ) (xs : List ℕ) → list_any (eqb q) xs ≡ true → contains xs q ≡ true
there q [] h = absurd (cc)
there q (x ∷ xs) h =
    ⊎_elim
    (λ (t : eqb q x ≡ true). subst (λ z. contains (x ∷ xs) z ≡ true) (sym (eqb-true q x t)) (within-head x xs))
    (λ (t : eqb q x ≡ false). within-tail x xs q (there q xs (rw t at h)))
    (cases_Bool (eqb q x))

-- the address of a run
abbrev name_of_run : Run → ℕ
name_of_run r = address (r.seg, r.from + 16)

run-there : (q : ℕ) (r : Run) (rs : List Run) → name_of_run r ≡ q → HasRun r rs → list_any (eqb q) (map name_of_run rs) ≡ true
run-there q r [] e h = absurd h
run-there q r (x ∷ xs) e h =
    ⊎_elim
    (λ (same : x ≡ r). let t : eqb q (name_of_run x) ≡ true = eq-eqb q (name_of_run x) (sym e ∙ ap name_of_run (sym same)) in rw t refl)
    (λ (k : HasRun r xs).
    ⊎_elim
    (λ (t : eqb q (name_of_run x) ≡ true). rw t refl)
    (λ (t : eqb q (name_of_run x) ≡ false). rw t (run-there q r xs e k))
    (cases_Bool (eqb q (name_of_run x))))
    h

module _ (segs : List Bytes) (index : List ℕ) (k : ∥ AreExtents segs index ∥₁) where
  named : (a : ℕ) → is_free (tiling segs) a ≡ true → name_of_run (run_at (tiling segs) a) ≡ a
  named a free =
      let off : (extent_of (tiling segs) a).off ≡ (place_of a).1 = extent_in-off (place_of a).1 (extents_of (place_of a).0 (tiling segs)) in
      let low : 32 ≤ (place_of a).1 = gap_off segs index k a free in
      let at : (extent_of (tiling segs) a).off - 16 + 16 ≡ (place_of a).1 = omega (arith, off, low) in
      ap (λ n. address ((place_of a).0, n)) at ∙ address-place_of a

  nodes : (root : ℕ) (u : Tree) → IsTree (gap_store (tiling segs)) root u → length (names u) ≤ length (gaps.free_runs (tiling segs))
  nodes root u h =
      let ns : List ℕ = map name_of_run (gaps.free_runs (tiling segs)) in
      let few : length (names u) ≤ length ns =
      length-le_from_is_member nat_eq_equiv (names u) ns (distinct_all (names u) h.distinct)
      (λ q m.
      let free : is_free (tiling segs) q ≡ true = Stands-there (gap_store (tiling segs)) 0 u q h.stands (there q (names u) m) in
      run-there q (run_at (tiling segs) q) (gaps.free_runs (tiling segs)) (named q free) (has-gap (tiling segs) q free)) in
      let long : length ns ≡ length (gaps.free_runs (tiling segs)) = length-map (gaps.free_runs (tiling segs)) name_of_run in
      omega arith

  pub nodes-few : IsMerged (tiling segs) → (root : ℕ) (u : Tree) → IsTree (gap_store (tiling segs)) root u → size u ≤ gap_count (layout_by segs)
  unfolding size
  nodes-few merged root u h =
      let all : gap_count (layout_by segs) ≡ length (gaps.free_runs (tiling segs)) = ap (λ rs. length rs) (gaps-of segs index k merged) ∙ ap (λ rs. length rs) (runs-by (tiling segs)) in
      let few = nodes root u h in
      omega arith

  -- where the tree has no root no extent is free
  none-free : (root : ℕ) → root ≡ 0 → HasGaps (tiling segs) root [] → (a : ℕ) → is_free (tiling segs) a ≡ false
  none-free root e h a =
      let leaf = no_tree (gap_store (tiling segs)) root h.tree.tree (gap_none segs index k) h.tree.is_tree e in
      let none : h.names ≡ [] = sym h.tree.list ∙ ap (λ t. names t) leaf in
      let out : (is_free (tiling segs) a && true) ≡ false = sym (h.exact a) ∙ ap (λ xs. contains xs a) none in
      ⊎_elim
      (λ (t : is_free (tiling segs) a ≡ true). t ∙ sym (ap (λ z. z && true) t) ∙ out)
      (λ (t : is_free (tiling segs) a ≡ false). t)
      (cases_Bool (is_free (tiling segs) a))

  no-runs : (t : Tiling) (rs : List Run) → ((a : ℕ) → is_free t a ≡ false) → AreGaps t rs → length rs ≤ 0
  no-runs t [] none g = omega arith
  no-runs t (r ∷ rs) none g = absurd (let q : true ≡ false = sym g.0.free ∙ none g.0.at in cc)

  pub gaps-none : IsMerged (tiling segs) → (root : ℕ) → root ≡ 0 → HasGaps (tiling segs) root [] → gap_count (layout_by segs) ≤ 0
  gaps-none merged root e h =
      let all : gap_count (layout_by segs) ≡ length (gaps.free_runs (tiling segs)) = ap (λ rs. length rs) (gaps-of segs index k merged) ∙ ap (λ rs. length rs) (runs-by (tiling segs)) in
      let few : length (gaps.free_runs (tiling segs)) ≤ 0 = ∥∥₁_elim k le_prop (λ x. no-runs (tiling segs) (gaps.free_runs (tiling segs)) (none-free root e h) (are_gaps segs index x)) in
      omega arith

  -- so a search of the tree takes a step where there is a gap
  pub searched : IsMerged (tiling segs) → (root : ℕ) → HasGaps (tiling segs) root [] → (start now : ℕ) → start ≤ now → (root ≢ 0 → start + 1 ≤ now) → start + min 1 (gap_count (layout_by segs)) ≤ now
  searched merged root h start now rises least =
      ⊎_elim
      (λ (e : root ≡ 0). let none = gaps-none merged root e h in omega arith)
      (λ (e : root ≡ 0 → ⊥). let one = least e in omega arith)
      (cases_eq root 0)
