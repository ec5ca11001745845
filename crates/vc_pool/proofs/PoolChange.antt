-- What is always true of a pool's segments and freed cells, where one cell changes.
use Rattle.vc_base.proofs.Common.{◌≡◌, ℕ, ◌+◌, ◌≤◌, true, false, ◌≢◌, List, ◌∷◌, get_or, set, All, sym, ap, ◌∙◌, subst, ⊎_elim, arith, cases_Bool, All-cons, All-set, place_of, same_pair, cell_for, cell_offset}
use Rattle.vc_pool.specs.Cells.Cells.{Cells}
use Rattle.vc_pool.specs.Cells.Freed.{IsFreedChain, IsFreeCell, freed_cells, freed_link, times}
use Rattle.vc_pool.specs.Cells.Kept.{IsCellular, IsFront, IsPool, IsPoolOf}
use Rattle.vc_pool.specs.Cells.Place.{IsAlone, IsBlockCell}
use Rattle.vc_pool.proofs.OneCell.{ChangesCell}
use Rattle.vc_pool.proofs.Chains.{chain-same, freed-is, keeps-free, keeps-word}
use Rattle.vc_pool.proofs.CellularSegments.{segments-set}
use Rattle.vc_pool.proofs.BlockPlaces.{all-few, live-other}
use Rattle.vc_pool.proofs.PlaceCounts.{few-freed, none-times, same_pair-is, same_pair-self, times-none}

-- the freed cells are those that are read
pub pool-freed : (element : ℕ) (segs : List Cells) (a : ℕ) (ps : List (ℕ × ℕ)) → IsPoolOf element segs a ps → freed_cells segs a ≡ ps
pool-freed element segs a ps h =
    freed-is segs a ps h.chain
    (few-freed (cell_for element) segs ps (λ n. all-few (cell_for element) element n segs h.cells.cellular) h.free h.once)

pub pool-of : (element : ℕ) (segs : List Cells) (a : ℕ) (ps : List (ℕ × ℕ)) → IsPoolOf element segs a ps → IsPool element segs a
pool-of element segs a ps h = subst (IsPoolOf element segs a) (sym (pool-freed element segs a ps h)) h

module _ (element a i n index : ℕ) (c : ℕ × ℕ) (segs : List Cells) (s : Cells) (ps : List (ℕ × ℕ)) (h : IsPoolOf element segs a ps) (al : IsAlone n segs i)
    (ch : ChangesCell (cell_for element) index c (get_or segs i s) s) (some : 1 ≤ element) where
  -- the place of the cell
  abbrev at : ℕ × ℕ
  at = (n, cell_offset (cell_for element) index)

  -- freed cells that aren't the one that changes
  pub pool-set : (a' : ℕ) (qs : List (ℕ × ℕ)) → IsCellular (cell_for element) element s → IsFront (set segs i s) → (get_or segs i s).carved ≤ s.carved → IsFreedChain segs a' qs → All (IsFreeCell (cell_for element) segs) qs → ((p : ℕ × ℕ) → times p qs ≤ 1) →
      All (λ p. at ≢ p) qs → IsPoolOf element (set segs i s) a' qs
  pool-set a' qs cellular front grows chain free once other =
      record {
        cells = record {
          most = h.cells.most;
          unset = λ e. absurd (omega (arith, e, some));
          segments = segments-set i segs s al.within ch.number ch.len h.cells.segments;
          cellular = All-set (IsCellular (cell_for element) element) segs i s cellular h.cells.cellular;
        };
        front = front;
        chain = chain-same segs (set segs i s) a' qs chain (λ k d lt. keeps-word (cell_for element) index i n segs s c al ch (omega (arith, some)) (get_or qs k d) (free k d lt) (other k d lt));
        free = λ k d lt. keeps-free (cell_for element) index i n segs s c al ch (omega (arith, some)) grows (get_or qs k d) (free k d lt) (other k d lt);
        once = once;
      }

-- the cell that was freed last is no other freed one
pub last-other : (element : ℕ) (segs : List Cells) (a : ℕ) (p : ℕ × ℕ) (ps : List (ℕ × ℕ)) → IsPoolOf element segs a (p ∷ ps) → All (λ q. p ≢ q) ps
last-other element segs a p ps h =
    let once = h.once p in
    let own : 1 + times p ps ≤ 1 = rw (same_pair-self p) at once in
    none-times p ps (omega (arith, own))

-- without that cell
pub tail-once : (p : ℕ × ℕ) (ps : List (ℕ × ℕ)) → ((q : ℕ × ℕ) → times q (p ∷ ps) ≤ 1) → (q : ℕ × ℕ) → times q ps ≤ 1
tail-once p ps once q = let all = once q in omega (arith, all)

-- a cell that is freed stands before those that were
pub pool-push : (element a b : ℕ) (segs : List Cells) (at : ℕ × ℕ) (ps : List (ℕ × ℕ)) → IsPoolOf element segs a ps → 1 ≤ b → place_of b ≡ at → freed_link segs b ≡ a → IsFreeCell (cell_for element) segs at → All (λ p. at ≢ p) ps → IsPoolOf element segs b (at ∷ ps)
pool-push element a b segs at ps h some place link free other =
    record {
      cells = h.cells;
      front = h.front;
      chain = (some, place, subst (λ k. IsFreedChain segs k ps) (sym link) h.chain);
      free = All-cons (IsFreeCell (cell_for element) segs) at ps free h.free;
      once = λ p.
          ⊎_elim
          (λ (t : same_pair p at ≡ true).
          let same : p ≡ at = same_pair-is p at t in
          let none : times p ps ≡ 0 = ap (λ q. times q ps) same ∙ times-none at ps other in
          rw t (omega (arith, none)))
          (λ (t : same_pair p at ≡ false). rw t (omega (arith, h.once p)))
          (cases_Bool (same_pair p at));
    }

-- no freed cell is one that has a block
pub live-others : (element : ℕ) (segs : List Cells) (a : ℕ) (at : ℕ × ℕ) (ps : List (ℕ × ℕ)) → 1 ≤ element → IsPoolOf element segs a ps → IsBlockCell (cell_for element) segs at → All (λ p. at ≢ p) ps
live-others element segs a at ps some h l = λ k d lt. live-other (cell_for element) segs at (get_or ps k d) (omega (arith, some)) l (h.free k d lt)
