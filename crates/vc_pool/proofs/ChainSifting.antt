-- The chain of freed cells, of which one leaves or stays.
use Rattle.vc_base.proofs.Common.{◌≡◌, ℕ, ◌^◌, ◌<◌, ◌≤◌, Bool, true, false, ◌≢◌, List, [], ◌∷◌, ◌++◌, length, get_or, set, filter, sym, refl, ap, ◌∙◌, subst, append_assoc, arith, All-head, get_or_default, place_of, cell_for}
use Rattle.vc_pool.specs.Cells.Cells.{Cells, with_free_cell}
use Rattle.vc_pool.specs.Cells.Freed.{IsFreedChain, IsFreeCell, cells_at, freed_cells, freed_link, no_segment, times}
use Rattle.vc_pool.specs.Cells.Kept.{AreCellular, IsPool, IsPoolOf}
use Rattle.vc_pool.specs.Cells.Place.{IsListed}
use Rattle.vc_pool.proofs.CellCalls.{freed-listed, link-small}
use Rattle.vc_pool.proofs.Chains.{chain-same}
use Rattle.vc_pool.proofs.PoolChange.{pool-freed, pool-of}
use Rattle.vc_pool.proofs.BlockPlaces.{element-some, number-legal}
use Rattle.vc_pool.proofs.PlaceCounts.{times-append}
use Rattle.vc_pool.specs.Relink.{HasSplit, IsRelinked, IsChainRun, IsSifted, IsSplit, KeepsAll}
use Rattle.vc_pool.proofs.Relinking.{free-listed, linked-cells, linked-free, linked-front, linked-keeps, linked-link, linked-word}
use Rattle.vc_pool.proofs.ChainRuns.{All-behind, All-front, All-less, front-others, run-chain, run-last, run-push, run-relinked, run-some}

-- places that are there once are so without one of them, and those in front and behind
once-less : (ks : List (ℕ × ℕ)) (p : ℕ × ℕ) (rs : List (ℕ × ℕ)) → ((q : ℕ × ℕ) → times q (ks ++ p ∷ rs) ≤ 1) → (q : ℕ × ℕ) → times q (ks ++ rs) ≤ 1
once-less ks p rs once q = let all = once q in omega (arith, all, times-append q ks (p ∷ rs), times-append q ks rs)

once-front : (ks rs : List (ℕ × ℕ)) → ((q : ℕ × ℕ) → times q (ks ++ rs) ≤ 1) → (q : ℕ × ℕ) → times q ks ≤ 1
once-front ks rs once q = let all = once q in omega (arith, all, times-append q ks rs)

once-behind : (ks rs : List (ℕ × ℕ)) → ((q : ℕ × ℕ) → times q (ks ++ rs) ≤ 1) → (q : ℕ × ℕ) → times q rs ≤ 1
once-behind ks rs once q = let all = once q in omega (arith, all, times-append q ks rs)

-- a pool with a freed cell has an element size
carved-some : (element n : ℕ) (segs : List Cells) → AreCellular element segs → 1 ≤ (cells_at n segs).carved → 1 ≤ element
carved-some element n [] k some = absurd (omega (arith, some))
carved-some element n (s ∷ ss) k some = element-some element (s ∷ ss) k (omega arith)

module _ (element : ℕ) (segs : List Cells) (freed last at : ℕ) where
  -- the cells from the address on are those that it leads to
  behind : (kept rest : List (ℕ × ℕ)) → IsSplit element segs freed last at kept rest → IsPoolOf element segs at rest
  behind kept rest h =
      record {
        cells = h.pool.cells;
        front = h.pool.front;
        chain = h.chain;
        free = All-behind (IsFreeCell (cell_for element) segs) kept rest h.pool.free;
        once = once-behind kept rest h.pool.once;
      }

  pub split-freed : (kept rest : List (ℕ × ℕ)) → IsSplit element segs freed last at kept rest → freed_cells segs at ≡ rest
  split-freed kept rest h = pool-freed element segs at rest (behind kept rest h)

  pool-here : (h : HasSplit element segs freed last at) → IsPool element segs at
  pool-here h = pool-of element segs at h.1 (behind h.0 h.1 h.2)

  pub split-cells : HasSplit element segs freed last at → AreCellular element segs
  split-cells h = h.2.pool.cells

  pub split-listed : HasSplit element segs freed last at → 1 ≤ at → IsListed (cell_for element) segs (place_of at)
  split-listed h one = freed-listed element at segs one (pool-here h)

  pub split-small : HasSplit element segs freed last at → 1 ≤ at → freed_link segs at < 4294967296
  split-small h one = link-small element at segs (pool-here h) one

  some-of : (rest : List (ℕ × ℕ)) → IsPoolOf element segs at rest → 1 ≤ at → 1 ≤ element
  some-of [] h one = let none : at ≡ 0 = h.chain in absurd (omega (arith, none, one))
  some-of (p ∷ ps) h one =
      let f : IsFreeCell (cell_for element) segs p = All-head (IsFreeCell (cell_for element) segs) p ps h.free in
      carved-some element p.0 segs h.cells (omega arith)

  pub split-number : HasSplit element segs freed last at → 1 ≤ at → (place_of at).0 ≤ 1023
  split-number h one =
      let l = split-listed h one in
      (number-legal (place_of at).0 segs (split-cells h).segments (omega arith)).1

  last-of : (kept rest : List (ℕ × ℕ)) → IsSplit element segs freed last at kept rest → 1 ≤ last → IsFreeCell (cell_for element) segs (place_of last)
  last-of [] rest h one = let none : 0 ≡ last = h.run.0 in absurd (omega (arith, none, one))
  last-of (p ∷ ps) rest h one = run-some (IsFreeCell (cell_for element) segs) segs freed 0 p ps last at h.run (All-front (IsFreeCell (cell_for element) segs) (p ∷ ps) rest h.pool.free)

  pub split-last : HasSplit element segs freed last at → 1 ≤ last → IsListed (cell_for element) segs (place_of last)
  split-last h one = free-listed element segs (place_of last) h.2.pool.cells (last-of h.0 h.1 h.2 one)

  -- the first leaves
  pub first-out : (kept rest : List (ℕ × ℕ)) (p : ℕ × ℕ) (next : ℕ) → last ≡ 0 → next ≡ freed_link segs at → IsSplit element segs freed last at kept (p ∷ rest) → IsSplit element segs next last next kept rest
  first-out [] rest p next none is h =
      let chain : IsFreedChain segs next rest = subst (λ m. IsFreedChain segs m rest) (sym is) h.chain.2 in
      record {
        pool = record {
          cells = h.pool.cells;
          front = h.pool.front;
          chain = chain;
          free = All-less (IsFreeCell (cell_for element) segs) [] p rest h.pool.free;
          once = once-less [] p rest h.pool.once;
        };
        run = (sym none, refl);
        chain = chain;
      }
  first-out (k ∷ ks) rest p next none is h = absurd (let some = run-last segs freed 0 k ks last at h.run in omega (arith, some, none))

  -- one stays
  pub one-stays : (kept rest : List (ℕ × ℕ)) (p : ℕ × ℕ) (next : ℕ) → next ≡ freed_link segs at → IsSplit element segs freed last at kept (p ∷ rest) → IsSplit element segs freed at next (kept ++ p ∷ []) rest
  one-stays kept rest p next is h =
      let some : 1 ≤ at = h.chain.0 in
      let place : place_of at ≡ p = h.chain.1 in
      record {
        pool = subst (IsPoolOf element segs freed) (sym (append_assoc kept (p ∷ []) rest)) h.pool;
        run = subst (λ m. IsChainRun segs freed 0 (kept ++ p ∷ []) at m) (sym is) (subst (λ (q : ℕ × ℕ). IsChainRun segs freed 0 (kept ++ q ∷ []) at (freed_link segs at)) place (run-push segs freed 0 kept last at h.run some));
        chain = subst (λ m. IsFreedChain segs m rest) (sym is) h.chain.2;
      }

  module _ (new : List Cells) (next : ℕ) (l : IsRelinked (cell_for element) segs new last next) (small : next < 2 ^ 64) (one : 1 ≤ last) (is : next ≡ freed_link segs at) where
    abbrev s : Cells
    s = with_free_cell (cell_for element) l.index next (get_or segs l.i no_segment)

    made : s ≡ with_free_cell (cell_for element) l.index next (get_or segs l.i s)
    made = ap (with_free_cell (cell_for element) l.index next) (get_or_default segs l.i no_segment s l.there.alone.within)

    abbrev new' : List Cells
    new' = set segs l.i s

    keeps-of : 1 ≤ at → (kept rest : List (ℕ × ℕ)) → IsSplit element segs freed last at kept rest → KeepsAll (cell_for element) segs new'
    keeps-of here kept rest h = linked-keeps element last l.i l.index next segs s h.pool.cells (some-of rest (behind kept rest h) here) (last-of kept rest h one) l.there made

    pub out-keeps : HasSplit element segs freed last at → 1 ≤ at → KeepsAll (cell_for element) segs new
    out-keeps h here = subst (KeepsAll (cell_for element) segs) (sym (l.segs no_segment)) (keeps-of here h.0 h.1 h.2)

    out-of : (kept rest : List (ℕ × ℕ)) (p : ℕ × ℕ) → IsSplit element segs freed last at kept (p ∷ rest) → IsSplit element new' freed last next kept rest
    out-of [] rest p h = let none : 0 ≡ last = h.run.0 in absurd (omega (arith, none, one))
    out-of (k ∷ ks) rest p h =
        let P : ℕ × ℕ → Type 0 = IsFreeCell (cell_for element) segs in
        let kept : List (ℕ × ℕ) = k ∷ ks in
        let some = some-of (p ∷ rest) (behind kept (p ∷ rest) h) h.chain.0 in
        let f = last-of kept (p ∷ rest) h one in
        let less = All-less P kept p rest h.pool.free in
        let once = once-less kept p rest h.pool.once in
        let front = All-front P kept rest less in
        let back = All-behind P kept rest less in
        let word = linked-word element last l.i l.index next segs s h.pool.cells some f l.there made in
        let run : IsChainRun new' freed 0 kept last next =
        run-relinked segs new' freed 0 k ks last at next h.run (once-front kept rest once) (λ j d lt. word (get_or kept j d) (front j d lt))
        (linked-link element last l.i l.index next segs s h.pool.cells some f l.there made small) in
        let chain : IsFreedChain new' next rest =
        chain-same segs new' next rest (subst (λ m. IsFreedChain segs m rest) (sym is) h.chain.2)
        (λ j d lt. word (get_or rest j d) (back j d lt)
        (λ e. run-some (λ x. get_or rest j d ≢ x) segs freed 0 k ks last at h.run (front-others kept rest j d once lt) (sym e))) in
        record {
          pool = record {
            cells = linked-cells element last l.i l.index next segs s h.pool.cells some f l.there made;
            front = linked-front element last l.i l.index next segs s h.pool.cells some f l.there made h.pool.front;
            chain = run-chain new' freed 0 kept rest last next run chain;
            free = λ j d lt. linked-free element last l.i l.index next segs s h.pool.cells some f l.there made (get_or (kept ++ rest) j d) (less j d lt);
            once = once;
          };
          run = run;
          chain = chain;
        }

    -- the one behind the last that stays leaves
    pub next-out : (kept rest : List (ℕ × ℕ)) (p : ℕ × ℕ) → IsSplit element segs freed last at kept (p ∷ rest) → IsSplit element new freed last next kept rest
    next-out kept rest p h = subst (λ (ss : List Cells). IsSplit element ss freed last next kept rest) (sym (l.segs no_segment)) (out-of kept rest p h)

-- of some freed cells the one at an address stays
module _ (element : ℕ) (stays : ℕ → Bool) (all : List (ℕ × ℕ)) (segs : List Cells) (freed last at : ℕ) (one : 1 ≤ at) where
  abbrev test : ℕ × ℕ → Bool
  test p = stays p.0

  keep-of : (kept rest : List (ℕ × ℕ)) (next : ℕ) → test (place_of at) ≡ true → next ≡ freed_link segs at → IsSplit element segs freed last at kept rest → kept ++ filter test rest ≡ filter test all → IsSifted element stays all segs freed at next
  keep-of kept [] next t is h e = let none : at ≡ 0 = h.chain in absurd (omega (arith, none, one))
  keep-of kept (p ∷ rest) next t is h e =
      let own : test p ≡ true = ap test (sym h.chain.1) ∙ t in
      let pass : filter test (p ∷ rest) ≡ p ∷ filter test rest = rw own refl in
      record {
        kept = kept ++ p ∷ [];
        rest = rest;
        split = one-stays element segs freed last at kept rest p next is h;
        sifted = append_assoc kept (p ∷ []) (filter test rest) ∙ (ap (λ qs. kept ++ qs) (sym pass) ∙ e);
      }

  pub sift-keep : (next : ℕ) → test (place_of at) ≡ true → next ≡ freed_link segs at → IsSifted element stays all segs freed last at → IsSifted element stays all segs freed at next
  sift-keep next t is h = keep-of h.kept h.rest next t is h.split h.sifted

  -- or leaves
  module _ (new : List Cells) (freed' next : ℕ) (out : (kept rest : List (ℕ × ℕ)) → (p : ℕ × ℕ) → IsSplit element segs freed last at kept (p ∷ rest) → IsSplit element new freed' last next kept rest) where
    drop-of : (kept rest : List (ℕ × ℕ)) → test (place_of at) ≡ false → IsSplit element segs freed last at kept rest → kept ++ filter test rest ≡ filter test all → IsSifted element stays all new freed' last next
    drop-of kept [] t h e = let none : at ≡ 0 = h.chain in absurd (omega (arith, none, one))
    drop-of kept (p ∷ rest) t h e =
        let own : test p ≡ false = ap test (sym h.chain.1) ∙ t in
        let pass : filter test (p ∷ rest) ≡ filter test rest = rw own refl in
        record {
          kept = kept;
          rest = rest;
          split = out kept rest p h;
          sifted = ap (λ qs. kept ++ qs) (sym pass) ∙ e;
        }

    pub sift-drop : test (place_of at) ≡ false → IsSifted element stays all segs freed last at → IsSifted element stays all new freed' last next
    sift-drop t h = drop-of h.kept h.rest t h.split h.sifted

-- fewer are left then
module _ (element : ℕ) (segs : List Cells) (freed last at : ℕ) (one : 1 ≤ at) where
  less-of : (new : List Cells) (freed' last' next : ℕ) (kept kept' rest : List (ℕ × ℕ)) (p : ℕ × ℕ) → IsSplit element segs freed last at kept (p ∷ rest) → IsSplit element new freed' last' next kept' rest → length (freed_cells new next) < length (freed_cells segs at)
  less-of new freed' last' next kept kept' rest p h k =
      let before = split-freed element segs freed last at kept (p ∷ rest) h in
      let after = split-freed element new freed' last' next kept' rest k in
      omega (arith, ap length before, ap length after)

  keep-less-of : (next : ℕ) (kept rest : List (ℕ × ℕ)) → next ≡ freed_link segs at → IsSplit element segs freed last at kept rest → length (freed_cells segs next) < length (freed_cells segs at)
  keep-less-of next kept [] is h = let none : at ≡ 0 = h.chain in absurd (omega (arith, none, one))
  keep-less-of next kept (p ∷ rest) is h = less-of segs freed at next kept (kept ++ p ∷ []) rest p h (one-stays element segs freed last at kept rest p next is h)

  pub keep-less : (next : ℕ) → next ≡ freed_link segs at → HasSplit element segs freed last at → length (freed_cells segs next) < length (freed_cells segs at)
  keep-less next is h = keep-less-of next h.0 h.1 is h.2

  drop-less-of : (new : List Cells) (freed' next : ℕ) (kept rest : List (ℕ × ℕ)) → ((kept rest : List (ℕ × ℕ)) → (p : ℕ × ℕ) → IsSplit element segs freed last at kept (p ∷ rest) → IsSplit element new freed' last next kept rest) → IsSplit element segs freed last at kept rest → length (freed_cells new next) < length (freed_cells segs at)
  drop-less-of new freed' next kept [] out h = let none : at ≡ 0 = h.chain in absurd (omega (arith, none, one))
  drop-less-of new freed' next kept (p ∷ rest) out h = less-of new freed' last next kept kept rest p h (out kept rest p h)

  pub drop-less : (new : List Cells) (freed' next : ℕ) → ((kept rest : List (ℕ × ℕ)) → (p : ℕ × ℕ) → IsSplit element segs freed last at kept (p ∷ rest) → IsSplit element new freed' last next kept rest) → HasSplit element segs freed last at → length (freed_cells new next) < length (freed_cells segs at)
  drop-less new freed' next out h = drop-less-of new freed' next h.0 h.1 out h.2

-- before the first cell, and behind the last
module _ (element : ℕ) (stays : ℕ → Bool) (segs : List Cells) (freed : ℕ) where
  pub sift-first : IsPool element segs freed → IsSifted element stays (freed_cells segs freed) segs freed 0 freed
  sift-first h = record { kept = []; rest = freed_cells segs freed; split = record { pool = h; run = (refl, refl); chain = h.chain }; sifted = refl }

  last-split : (all kept rest : List (ℕ × ℕ)) (last at : ℕ) → at ≡ 0 → IsSplit element segs freed last at kept rest → kept ++ filter (λ p. stays p.0) rest ≡ filter (λ p. stays p.0) all → IsPoolOf element segs freed (filter (λ p. stays p.0) all)
  last-split all kept [] last at none h e = subst (IsPoolOf element segs freed) e h.pool
  last-split all kept (p ∷ rest) last at none h e = absurd (let some = h.chain.0 in omega (arith, some, none))

  pub sift-last : (all : List (ℕ × ℕ)) (last at : ℕ) → at ≡ 0 → IsSifted element stays all segs freed last at → IsPoolOf element segs freed (filter (λ p. stays p.0) all)
  sift-last all last at none h = last-split all h.kept h.rest last at none h.split h.sifted

pub keeps-same : (cell : ℕ) (segs : List Cells) → KeepsAll cell segs segs
keeps-same cell segs = record { layout = refl; carved = refl }

pub keeps-more : (cell : ℕ) (a b c : List Cells) → KeepsAll cell a b → KeepsAll cell b c → KeepsAll cell a c
keeps-more cell a b c h k = record { layout = k.layout ∙ h.layout; carved = k.carved ∙ h.carved }
