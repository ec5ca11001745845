-- Chains of freed cells.
use Rattle.vc_base.proofs.Common.{◌≡◌, ℕ, zero, suc, ◌+◌, ◌*◌, ◌/◌, ◌<◌, ◌≤◌, true, false, ltb, ◌≢◌, List, [], ◌∷◌, length, get_or, set, All, sym, refl, ap, ◌∙◌, subst, ⊎_elim, mul-le-mul_right, arith, get_or-set_other, w64, ltb-false, ltb-true, eq-eqb, ne_eqb, cases_Bool, cases_eq, All-head, All-tail, from_le_bytes, cell_offset}
use Rattle.vc_seg.proofs.Frames.{part-back, part-front}
use Rattle.vc_pool.specs.Cells.Cells.{Cells, pair_at}
use Rattle.vc_pool.specs.Cells.Freed.{IsFreedChain, IsFreeCell, cell_total, cells_at, freed_cells, freed_from, index_at, freed_link, link_word}
use Rattle.vc_pool.proofs.OneCell.{ChangesCell}
use Rattle.vc_pool.specs.Cells.Place.{IsAlone}
use Rattle.vc_pool.proofs.OneSegment.{cells-first, cells-other, cells-set}

-- a chain is what is read from its first address on
from-is : (m : ℕ) (segs : List Cells) (a : ℕ) (ps : List (ℕ × ℕ)) → IsFreedChain segs a ps → length ps ≤ m → freed_from m segs a ≡ ps
unfolding freed_from
from-is zero segs a [] c le = refl
from-is (suc m) segs a [] c le = rw (eq-eqb a 0 c) refl
from-is zero segs a (p ∷ ps) c le = absurd (omega (arith, le))
from-is (suc m) segs a (p ∷ ps) c le =
    rw (ne_eqb a 0 (λ e. omega (arith, e)))
    (ap (λ q. q ∷ freed_from m segs (freed_link segs a)) c.1 ∙ ap (λ qs. p ∷ qs) (from-is m segs (freed_link segs a) ps c.2 (omega (arith, le))))

pub freed-is : (segs : List Cells) (a : ℕ) (ps : List (ℕ × ℕ)) → IsFreedChain segs a ps → length ps ≤ cell_total segs → freed_cells segs a ≡ ps
unfolding freed_cells
freed-is segs a ps c le = from-is (cell_total segs) segs a ps c le

-- the links of these places stay
abbrev pub KeepsWord : List Cells → List Cells → ℕ × ℕ → Type 0
KeepsWord o s p = link_word p.1 (cells_at p.0 s).bytes ≡ link_word p.1 (cells_at p.0 o).bytes

pub chain-same : (o s : List Cells) (a : ℕ) (ps : List (ℕ × ℕ)) → IsFreedChain o a ps → All (KeepsWord o s) ps → IsFreedChain s a ps
chain-same o s a [] c keeps = c
chain-same o s a (p ∷ ps) c keeps =
    let word : freed_link s a ≡ freed_link o a = subst (KeepsWord o s) (sym c.1) (All-head (KeepsWord o s) p ps keeps) in
    (c.0, c.1, subst (λ k. IsFreedChain s k ps) (sym word) (chain-same o s (freed_link o a) ps c.2 (All-tail (KeepsWord o s) p ps keeps)))

-- the address of a chain is small
pub chain-small : (segs : List Cells) (a : ℕ) (p : ℕ × ℕ) (ps : List (ℕ × ℕ)) → IsFreedChain segs a (p ∷ ps) → p.0 ≤ 1023 → a < 4294967296
chain-small segs a p ps c le = let n : a / 1048576 ≡ p.0 = ap (λ (q : ℕ × ℕ). q.0) c.1 in omega (arith, n, le)

-- one cell ends where another begins, or before it
pub steps : (i j cell : ℕ) → i < j → cell_offset cell i + cell ≤ cell_offset cell j
steps i j cell h = let more : (i + 1) * cell ≤ j * cell = mul-le-mul_right cell (omega (arith, h)) in omega (arith, more)

-- of a change of one cell the words of all others stay, and the others are as free as before
module _ (cell index i n : ℕ) (segs : List Cells) (s : Cells) (c : ℕ × ℕ) (a : IsAlone n segs i) (h : ChangesCell cell index c (get_or segs i s) s) (least : 8 ≤ cell) where
  abbrev o : Cells
  o = get_or segs i s

  own : s.number ≡ n
  own = h.number ∙ a.number s

  was : cells_at n segs ≡ o
  was = cells-first n segs i s a.within a.before (a.number s)

  is : cells_at n (set segs i s) ≡ s
  is = cells-set n i segs s a.within a.before own

  elsewhere : (m : ℕ) → m ≢ n → cells_at m (set segs i s) ≡ cells_at m segs
  elsewhere m other = cells-other n m i segs s a.number a.within own other

  word-own : (k : ℕ) → k ≢ index → link_word (cell_offset cell k) s.bytes ≡ link_word (cell_offset cell k) o.bytes
  word-own k other =
      ⊎_elim
      (λ (t : ltb k index ≡ true).
      let low = steps k index cell (ltb-true k index t) in
      ap (from_le_bytes w64) (part-front o.bytes s.bytes (cell_offset cell index) h.below (cell_offset cell k) 8 (omega (arith, low, least))))
      (λ (t : ltb k index ≡ false).
      let le = ltb-false k index t in
      let high : cell_offset cell (index + 1) ≤ cell_offset cell k = let more : (index + 1) * cell ≤ k * cell = mul-le-mul_right cell (omega (arith, le, other)) in omega (arith, more) in
      ap (from_le_bytes w64) (part-back o.bytes s.bytes (cell_offset cell (index + 1)) h.above (cell_offset cell k) 8 high))
      (cases_Bool (ltb k index))

  -- the cell at another place
  other-index : (p : ℕ × ℕ) (f : IsFreeCell cell segs p) → p.0 ≡ n → (let at : ℕ × ℕ = (n, cell_offset cell index) in at ≢ p) → (index_at cell p.1) ≢ index
  other-index p f e other q =
      let pair : ℕ → ℕ → ℕ × ℕ = λ x y. (x, y) in
      other (ap (λ m. pair m (cell_offset cell index)) (sym e) ∙ ap (pair p.0) (ap (cell_offset cell) (sym q) ∙ sym f.offset))

  pub keeps-word : (p : ℕ × ℕ) → IsFreeCell cell segs p → (let at : ℕ × ℕ = (n, cell_offset cell index) in at ≢ p) → KeepsWord segs (set segs i s) p
  keeps-word p f other =
      ⊎_elim
      (λ (e : p.0 ≡ n).
      let there = word-own (index_at cell p.1) (other-index p f e other) in
      ap (λ m. link_word p.1 (cells_at m (set segs i s)).bytes) e
      ∙ (ap (λ (x : Cells). link_word p.1 x.bytes) is
      ∙ (ap (λ k. link_word k s.bytes) f.offset
      ∙ (there
      ∙ (ap (λ k. link_word k o.bytes) (sym f.offset)
      ∙ (ap (λ (x : Cells). link_word p.1 x.bytes) (sym was)
      ∙ ap (λ m. link_word p.1 (cells_at m segs).bytes) (sym e)))))))
      (λ (e : p.0 ≡ n → ⊥). ap (λ (x : Cells). link_word p.1 x.bytes) (elsewhere p.0 e))
      (cases_eq p.0 n)

  pub keeps-free : o.carved ≤ s.carved → (p : ℕ × ℕ) → IsFreeCell cell segs p → (let at : ℕ × ℕ = (n, cell_offset cell index) in at ≢ p) → IsFreeCell cell (set segs i s) p
  keeps-free grows p f other =
      ⊎_elim
      (λ (e : p.0 ≡ n).
      let old : cells_at p.0 segs ≡ o = ap (λ m. cells_at m segs) e ∙ was in
      let new : cells_at p.0 (set segs i s) ≡ s = ap (λ m. cells_at m (set segs i s)) e ∙ is in
      let below = f.below in
      let carved : (cells_at p.0 segs).carved ≡ o.carved = ap (λ (x : Cells). x.carved) old in
      let more : (cells_at p.0 (set segs i s)).carved ≡ s.carved = ap (λ (x : Cells). x.carved) new in
      record {
        offset = f.offset;
        below = omega (arith, below, carved, more, grows);
        empty = ap (λ (x : Cells). (pair_at (index_at cell p.1) x).0) new
            ∙ (ap (λ (xs : List (ℕ × ℕ)). (get_or xs (index_at cell p.1) (0, 0)).0) h.pairs
            ∙ (ap (λ (q : ℕ × ℕ). q.0) (get_or-set_other o.pairs index (index_at cell p.1) c (0, 0) (other-index p f e other))
            ∙ (ap (λ (x : Cells). (pair_at (index_at cell p.1) x).0) (sym old) ∙ f.empty)));
      })
      (λ (e : p.0 ≡ n → ⊥).
      let same = elsewhere p.0 e in
      record {
        offset = f.offset;
        below = subst (λ (x : Cells). (index_at cell p.1) < x.carved) (sym same) f.below;
        empty = ap (λ (x : Cells). (pair_at (index_at cell p.1) x).0) same ∙ f.empty;
      })
      (cases_eq p.0 n)
