-- No cell of a pool's segments is carved.
use Rattle.vc_base.proofs.Common.{◌≡◌, ℕ, ◌≤◌, List, [], ◌∷◌, ◌++◌, map, length, get_or, flat_map, sym, refl, ap, ◌∙◌, subst, arith, All-map, All-nil, length-map, length-replicate, cleared_layout, Block, cell_for}
use Rattle.std.proofs.lemmas.List.Elements.{All-replicate}
use Rattle.vc_seg.specs.Segment.{AreSegments}
use Rattle.vc_seg.specs.InOrder.{in_order}
use Rattle.vc_pool.specs.Cells.Blocks.{segment_blocks, layout_by, pair_of}
use Rattle.vc_pool.specs.Cells.Cells.{Cells, uncarved_all}
use Rattle.vc_pool.specs.Cells.Freed.{IsFreeCell}
use Rattle.vc_pool.specs.Cells.Kept.{AreCellular, IsCellular, IsFront, IsFull, IsPoolOf, segment_of}
use Rattle.vc_pool.proofs.PoolChange.{pool-freed, pool-of}
use Rattle.vc_pool.specs.Cells.Carve.{IsUncarved}
use Rattle.vc_pool.proofs.CarvedCounts.{none-counted}
use Rattle.vc_pool.proofs.NewSegment.{none-in}

-- what is told of each segment stays, where it is told by its number and its bytes
map-cleared : {B : Type 0} (f : Cells → B) → ((s : Cells) → f (uncarved_all s) ≡ f s) → (segs : List Cells) → map f (map uncarved_all segs) ≡ map f segs
map-cleared f same [] = refl
map-cleared f same (s ∷ ss) = λ j. same s j ∷ map-cleared f same ss j

front-cleared : (segs : List Cells) → IsFront (map uncarved_all segs)
front-cleared [] = tt
front-cleared (s ∷ ss) =
    (All-map (λ (t : Cells). 1 ≤ t.carved → IsFull (uncarved_all s)) uncarved_all ss (λ k d lt some. absurd (omega (arith, some))), front-cleared ss)

blocks-cleared : (cell : ℕ) (segs : List Cells) → flat_map (segment_blocks cell) (map uncarved_all segs) ≡ []
blocks-cleared cell [] = refl
blocks-cleared cell (s ∷ ss) =
    ap (λ (bs : List (Block ℕ)). bs ++ flat_map (segment_blocks cell) (map uncarved_all ss)) (none-in cell (length s.pairs) (uncarved_all s) refl) ∙ blocks-cleared cell ss

cellular-cleared : (cell element : ℕ) (s : Cells) → IsCellular cell element s → IsCellular cell element (uncarved_all s)
cellular-cleared cell element s h =
    let n : ℕ = length s.pairs in
    let long : length (uncarved_all s).pairs ≡ n = length-replicate n (0, 0) in
    let some = h.some in
    record {
      count = long ∙ h.count;
      some = omega (arith, some, long);
      few = omega arith;
      fresh = All-replicate (λ (c : ℕ × ℕ). c.0 ≡ 0) n (0, 0) refl;
      fits = All-replicate (λ (c : ℕ × ℕ). c.0 ≤ element) n (0, 0) (omega arith);
      blank = All-replicate (λ (c : ℕ × ℕ). c.0 ≡ 0 → c.1 ≡ 0) n (0, 0) (λ e. refl);
    }

module _ (element : ℕ) (segs : List Cells) (k : AreCellular element segs) where
  abbrev none : List Cells
  none = map uncarved_all segs

  kept : IsPoolOf element none 0 []
  kept =
      record {
        cells = record {
          most = k.most;
          unset = λ e. length-map segs uncarved_all ∙ k.unset e;
          segments = subst AreSegments (sym (map-cleared segment_of (λ s. refl) segs)) k.segments;
          cellular = All-map (IsCellular (cell_for element) element) uncarved_all segs (λ i d lt. cellular-cleared (cell_for element) element (get_or segs i d) (k.cellular i d lt));
        };
        front = front-cleared segs;
        chain = refl;
        free = All-nil (IsFreeCell (cell_for element) none);
        once = λ at. omega arith;
      }

  layout-cleared : layout_by (cell_for element) none ≡ cleared_layout (layout_by (cell_for element) segs)
  unfolding layout_by
  layout-cleared = λ j. record { segments = map-cleared pair_of (λ s. refl) segs j; blocks = in_order (blocks-cleared (cell_for element) segs j) }

  pub clear-of : IsUncarved element segs none
  clear-of =
      record {
        kept = pool-of element none 0 [] kept;
        layout = layout-cleared;
        freed = pool-freed element none 0 [] kept;
        carved = none-counted none (All-map (λ (s : Cells). s.carved ≡ 0) uncarved_all segs (λ i d lt. refl));
      }
