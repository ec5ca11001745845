-- What carving a cell of a segment that was put behind the others leaves of them.
use Rattle.vc_base.proofs.Common.{◌≡◌, ℕ, ◌<◌, ◌≤◌, List, [], ◌∷◌, ◌++◌, map, length, get_or, None, All, HoldsAt, sym, refl, ap, ◌∙◌, subst, arith, length-map, map-append, place_of, Layout, carve, cell_for, cell_offset, uncarved, new_segment}
use Rattle.std.proofs.lemmas.List.{get_or_push}
use Rattle.vc_seg.specs.Put.{with_zeros}
use Rattle.vc_pool.specs.Cells.Blocks.{carved_by, layout_by, pair_of}
use Rattle.vc_pool.specs.Cells.Cells.{Cells, cells_of}
use Rattle.vc_pool.specs.Cells.Freed.{freed_cells}
use Rattle.vc_pool.specs.Cells.Kept.{AreCellular, IsPool}
use Rattle.vc_pool.specs.Cells.Place.{IsOther, cells_in}
use Rattle.vc_pool.specs.declared.cells.segment.PoolSegment.{PoolSegment}
use Rattle.vc_pool.specs.Cells.Carve.{IsCarvedAt, IsCarvedIn, IsSetFrom}
use Rattle.vc_pool.specs.Cells.Open.{IsFirstOpen}
use Rattle.vc_pool.proofs.LowestUncarved.{all-full}
use Rattle.vc_pool.proofs.NewSegment.{IsFresh, carved-grown, cellular-grown, freed-grown, layout-grown, open-grown, pool-grown}
use Rattle.vc_pool.proofs.ElementSize.{pool-set_from}

module _ (element : ℕ) (olds news : List PoolSegment) (x : PoolSegment) (is : news ≡ olds ++ x ∷ []) (k : AreCellular element (cells_in olds)) (some : 1 ≤ element) (few : length olds < 1023) (fresh : IsFresh (cell_for element) (cells_of x)) (other : All (IsOther x.seg.number) (cells_in olds)) where
  few-cells : length (cells_in olds) < 1023
  few-cells = omega (arith, few, length-map olds cells_of)

  all : cells_in news ≡ cells_in olds ++ cells_of x ∷ []
  all = ap cells_in is ∙ map-append cells_of olds (x ∷ [])

  pub kept-pushed : AreCellular element (cells_in news)
  kept-pushed = subst (AreCellular element) (sym all) (cellular-grown element (cells_in olds) (cells_of x) k some few-cells fresh other)

  pub first-pushed : uncarved (cell_for element) (carved_by (cells_in olds)) (map pair_of (cells_in olds)) ≡ None → IsFirstOpen (cells_in news) (length olds)
  first-pushed none =
      subst (λ (ss : List Cells). IsFirstOpen ss (length olds)) (sym all)
      (subst (IsFirstOpen (cells_in olds ++ cells_of x ∷ [])) (length-map olds cells_of)
      (open-grown element (cells_in olds) (cells_of x) k some few-cells fresh other (all-full element (cells_in olds) k some none)))

  pub place-pushed : (a : ℕ) → HoldsAt (λ (s : PoolSegment). (let at : ℕ × ℕ = (s.seg.number, cell_offset (cell_for element) s.carved) in place_of a ≡ at)) news (length olds) → (let at : ℕ × ℕ = (x.seg.number, 32) in place_of a ≡ at)
  place-pushed a place =
      let at : PoolSegment → ℕ × ℕ = λ s. (s.seg.number, cell_offset (cell_for element) s.carved) in
      let own : get_or news (length olds) x ≡ x = ap (λ (ss : List PoolSegment). get_or ss (length olds) x) is ∙ get_or_push olds x x (length olds) refl in
      let pair : ℕ → ℕ × ℕ = λ n. (x.seg.number, n) in
      place x ∙ (ap at own ∙ ap pair (ap (cell_offset (cell_for element)) fresh.carved ∙ (omega arith)))

  pub carved-pushed : (tag size before last a : ℕ) (after : List Cells) → IsSetFrom element before → IsPool before (cells_in olds) last →
      (IsPool element (cells_in news) last → IsCarvedAt element tag size (cells_in news) after last a) →
      IsCarvedIn element tag size (cells_in olds) after (new_segment x.seg.number (length x.seg.bytes)) last a
  carved-pushed tag size before last a after first h carved =
      let cell : ℕ = cell_for element in
      let grown : List Cells = cells_in olds ++ cells_of x ∷ [] in
      let own : IsPool element (cells_in olds) last = pool-set_from element before (cells_in olds) k.most first last h in
      let r = carved (subst (λ (ss : List Cells). IsPool element ss last) (sym all) (pool-grown element (cells_in olds) (cells_of x) k some few-cells fresh other last own)) in
      record {
        kept = r.kept;
        layout = r.layout
            ∙ ap (λ (l : Layout ℕ). with_zeros l tag size (place_of a)) (ap (layout_by cell) all ∙ layout-grown element (cells_in olds) (cells_of x) k some few-cells fresh other);
        freed = r.freed ∙ (ap (λ (ss : List Cells). freed_cells ss last) all ∙ freed-grown element (cells_in olds) (cells_of x) k some few-cells fresh other last own);
        carved = r.carved
            ∙ ap (carve (place_of a).0) (ap carved_by all ∙ carved-grown element (cells_in olds) (cells_of x) k some few-cells fresh other);
      }
