-- What asking for a segment gives, by the segments of a pool.
use Rattle.vc_base.proofs.Common.{◌≡◌, ℕ, ◌≢◌, List, [], ◌∷◌, ◌++◌, map, length, All, sym, refl, ap, ◌∙◌, subst, arith, place_of, Discipline, Lent, Terms, carved_in, cell_for, cell_offset, new_segment}
use Rattle.vc_base.proofs.Quantifiers.{All-unmap}
use Rattle.vc_seg.proofs.Segments.{Served-lent}
use Rattle.vc_seg.specs.Lend.{IsGrantOf}
use Rattle.vc_seg.specs.Segment.{Bytes}
use Rattle.vc_pool.specs.Cells.Blocks.{carved_by, pair_of}
use Rattle.vc_pool.specs.Cells.Carve.{CarvesIn}
use Rattle.vc_pool.specs.Cells.Cells.{Cells}
use Rattle.vc_pool.specs.Cells.Place.{IsOther, cells_in, pair_in}
use Rattle.vc_pool.specs.declared.cells.segment.PoolSegment.{PoolSegment}
use Rattle.vc_pool.proofs.CarvedCounts.{none-carved}
use Rattle.vc_pool.proofs.ElementSize.{zeroed-pair}
use Rattle.vc_pool.proofs.SegmentList.{pairs-in}
use Rattle.vc_pool.specs.Ask.{IsGranted}

-- of a pool's segments, by those that were looked through for a number
module _ {terms : Terms} (bytes : ℕ) (segs now : List PoolSegment) (same : now ≡ segs) where
  pub granted-pairs : {s : Bytes} → IsGrantOf terms bytes (map pair_in now) s → IsGrantOf terms bytes (map pair_of (cells_in segs)) s
  granted-pairs {s} h = subst (λ (ps : List (ℕ × ℕ)). IsGrantOf terms bytes ps s) (pairs-in segs) (subst (λ (ss : List PoolSegment). IsGrantOf terms bytes (map pair_in ss) s) same h)

-- no segment has the number
pub fresh-other : (n : ℕ) (segs : List Cells) → All (λ t. t.0 ≢ n) (map pair_of segs) → All (IsOther n) segs
fresh-other n segs h = All-unmap (λ (t : ℕ × ℕ). t.0 ≢ n) pair_of segs h

-- by equal segments
pub granted-from : (element tag size bytes : ℕ) (segs segs' : List PoolSegment) (new : List Cells) (before after : Discipline) (x : ℕ) → segs ≡ segs' → IsGranted element tag size bytes (cells_in segs) new before after x → IsGranted element tag size bytes (cells_in segs') new before after x
granted-from element tag size bytes segs segs' new before after x e h = subst (λ (ss : List PoolSegment). IsGranted element tag size bytes (cells_in ss) new before after x) e h

-- a block of zeros in the first cell of a segment that was lent
module _ {element tag size bytes : ℕ} (segs : List PoolSegment) {new : List Cells} {before after : Discipline} {s : Bytes} (grant : IsGrantOf before.terms bytes (map pair_of (cells_in segs)) s) (lent : Lent before after s.number bytes) (a : ℕ) where
  pub lent-granted : (let at : ℕ × ℕ = (s.number, 32) in place_of a ≡ at) → CarvesIn element tag size (cells_in segs) new (new_segment s.number (length s.bytes)) a → IsGranted element tag size bytes (cells_in segs) new before after a
  lent-granted place carved =
      let at : ℕ → ℕ × ℕ = λ n. (s.number, n) in
      let none : carved_in s.number (carved_by (cells_in segs)) ≡ 0 = none-carved s.number (cells_in segs) (fresh-other s.number (cells_in segs) grant.fresh) in
      let first : cell_offset (cell_for element) (carved_in s.number (carved_by (cells_in segs))) ≡ 32 = ap (cell_offset (cell_for element)) none ∙ (omega arith) in
      record {
        grant = new_segment s.number bytes;
        granted = grant.granted;
        place = place ∙ ap at (sym first);
        served = Served-lent before after (map pair_of (cells_in segs)) (map pair_of (cells_in segs) ++ (s.number, bytes) ∷ []) s.number bytes refl lent;
        carved = subst (λ (p : ℕ × ℕ). CarvesIn element tag size (cells_in segs) new (new_segment p.0 p.1) a) (zeroed-pair s s.number bytes grant.zeros) carved;
      }
