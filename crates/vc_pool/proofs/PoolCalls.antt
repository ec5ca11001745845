-- What the calls that put, resize and free a block make of a pool.
use Rattle.vc_base.proofs.Common.{◌≡◌, ℕ, ◌+◌, ◌<◌, ◌≤◌, Bool, true, false, ◌≢◌, List, [], ◌∷◌, map, length, Some, None, Option, sym, refl, ap, ◌∙◌, subst, ⊎_elim, arith, eq-eqb, ne_eqb, cases_eq, address, place_of, Discipline, Served, Terms, Layout, with_grant, Done, Outcome, Put, Pool, carve, carved_in, cell_for, cell_offset, element_with, pool_alloc, pool_need, uncarved, Grant, Granted, TooMany, ask, round_up}
use Rattle.vc_model.proofs.Owned.{address-place_of}
use Rattle.vc_model.specs.Segments.{segments_with}
use Rattle.vc_seg.proofs.Segments.{Served-same}
use Rattle.vc_seg.specs.Put.{with_zeros}
use Rattle.vc_seg.specs.Answer.{IsPut, IsRefusal}
use Rattle.vc_seg.specs.declared.fault.RegionFault.{RegionFault}
use Rattle.vc_seg.specs.declared.fault.RegionFault.TheVariants as code
use Rattle.vc_seg.specs.Lend.{IsNoGrant}
use Rattle.vc_pool.specs.Cells.Blocks.{carved_by, layout_by, pair_of}
use Rattle.vc_pool.specs.Cells.Call.{IsReused}
use Rattle.vc_pool.specs.Cells.Cells.{Cells}
use Rattle.vc_pool.specs.Cells.Freed.{cells_at, freed_cells}
use Rattle.vc_pool.specs.Cells.Kept.{AreCellular, IsPool}
use Rattle.vc_pool.specs.Cells.Place.{cells_in}
use Rattle.vc_pool.specs.declared.cells.segment.PoolSegment.{PoolSegment}
use Rattle.vc_pool.proofs.CellCalls.{freed-listed}
use Rattle.vc_pool.proofs.Chains.{freed-is}
use Rattle.vc_pool.specs.Cells.Carve.{IsCarvedAt}
use Rattle.vc_pool.proofs.ElementSize.{layout-set_from, pool-set_from}
use Rattle.vc_pool.specs.Sizes.{element_of}
use Rattle.vc_pool.specs.Ask.{IsGranted, LacksCell, cell_need}
use Rattle.vc_pool.specs.Read.{pool_by}
use Rattle.vc_pool.proofs.PutOutcome.{alloc-carved, alloc-granted, alloc-not_lent, alloc-reused, alloc-too_many}
use Rattle.vc_pool.proofs.PoolAfterCalls.{pairs-of}
use Rattle.vc_pool.proofs.PoolParts.{carved-of, element_of-some, freed-of, layout-of, pool-is}

-- the element size with a block, of one that is set, and of none
module _ (segs : List PoolSegment) (element freed size : ℕ) where
  pub with-set : 1 ≤ element → element_with (pool_by segs element freed) size ≡ element
  unfolding pool_by
  with-set some = rw (ne_eqb element 0 (λ e. omega (arith, e, some))) refl

  with-unset : element ≡ 0 → element_with (pool_by segs element freed) size ≡ size
  unfolding pool_by
  with-unset none = rw (eq-eqb element 0 none) refl

  pub with-is : (set : ℕ) → (1 ≤ element → element ≡ set) → (element ≡ 0 → set ≡ size) → element_with (pool_by segs element freed) size ≡ set
  with-is set same new =
      ⊎_elim
      (λ (e : element ≡ 0). with-unset e ∙ sym (new e))
      (λ (e : element ≡ 0 → ⊥). let some : 1 ≤ element = omega (arith, e) in with-set some ∙ same some)
      (cases_eq element 0)

-- the lowest uncarved cell by the parts of a pool
uncarved-spelled : (segs : List PoolSegment) (element freed set : ℕ) → uncarved (cell_for set) (carved_by (cells_in segs)) (map pair_of (cells_in segs)) ≡ uncarved (cell_for set) (pool_by segs element freed).carved (pool_by segs element freed).layout.segments
unfolding pool_by layout_by
uncarved-spelled segs element freed set = refl

-- no cell is freed where none is the last
none-freed : (segs : List Cells) (a : ℕ) → a ≡ 0 → freed_cells segs a ≡ []
none-freed segs a e = freed-is segs a [] e (omega arith)

pub empty-freed : (segs : List PoolSegment) (element freed : ℕ) → freed ≡ 0 → (pool_by segs element freed).freed ≡ []
empty-freed segs element freed none = freed-of segs element freed ∙ none-freed (cells_in segs) freed none

-- every cell is carved, by the parts of the pool
pub full-is : (segs : List PoolSegment) (element freed set size : ℕ) → (1 ≤ element → element ≡ set) → (element ≡ 0 → set ≡ size) → uncarved (cell_for set) (carved_by (cells_in segs)) (map pair_of (cells_in segs)) ≡ None →
    uncarved (cell_for (element_with (pool_by segs element freed) size)) (pool_by segs element freed).carved (pool_by segs element freed).layout.segments ≡ None
full-is segs element freed set size same new h =
    ap (λ e. uncarved (cell_for e) (pool_by segs element freed).carved (pool_by segs element freed).layout.segments) (with-is segs element freed size set same new)
    ∙ (sym (uncarved-spelled segs element freed set) ∙ h)

-- with a freed cell the element size is set
no-zero : (m : ℕ) → m ≢ 0 → 1 ≤ m
no-zero m other = omega (arith, other)

some-of : (element : ℕ) (ss : List Cells) (n index : ℕ) → index < length (cells_at n ss).pairs → (element ≡ 0 → length ss ≡ 0) → 1 ≤ element
some-of element [] n index listed unset = absurd (omega (arith, listed))
some-of element (s ∷ ss) n index listed unset = no-zero element (λ e. let none = unset e in omega (arith, none))

pub freed-some : (element a : ℕ) (segs : List Cells) → IsPool element segs a → a ≢ 0 → 1 ≤ element
freed-some element a segs h other =
    let l = freed-listed element a segs (no-zero a other) h in
    some-of element segs (place_of a).0 l.index l.listed h.cells.unset

-- an outcome at an address
put-at : (o : Outcome (Put (Pool ℕ))) (a : ℕ) (at : ℕ × ℕ) (new region : Pool ℕ) (granted : Option Grant) → o ≡ Done (record { at = at; region = region; granted = granted }) → place_of a ≡ at → new ≡ region → IsPut o a new
put-at o a at new region granted e place same =
    subst (λ (r : Outcome (Put (Pool ℕ))). IsPut r a new) (sym e) (sym (address-place_of a) ∙ ap address place, sym place, same)

module _ (terms : Terms) (segs : List PoolSegment) (element freed set tag size : ℕ) (same : 1 ≤ element → element ≡ set) (new : element ≡ 0 → set ≡ size) where
  abbrev old : Pool ℕ
  old = pool_by segs element freed

  is : element_with old size ≡ set
  is = with-is segs element freed size set same new

  -- into the cell freed last
  reused-at : (a b : ℕ) (segs' : List PoolSegment) → a ≡ freed → 1 ≤ element → size ≤ set → IsReused set tag size (cells_in segs) (cells_in segs') freed b → IsPut (pool_alloc terms old tag size false) a (pool_by segs' element b)
  reused-at a b segs' at some fits r =
      let own : set ≡ element = sym (same some) in
      let layout = subst (λ e. layout_by (cell_for e) (cells_in segs') ≡ with_zeros (layout_by (cell_for e) (cells_in segs)) tag size (place_of freed)) own r.layout in
      put-at (pool_alloc terms old tag size false) a (place_of freed) (pool_by segs' element b) _ None
      (alloc-reused terms old tag size false (place_of freed) (freed_cells (cells_in segs') b) (omega (arith, is, fits)) (freed-of segs element freed ∙ r.freed))
      (ap place_of at)
      (pool-is segs' element b _
      (layout ∙ ap (λ (l : Layout ℕ). with_zeros l tag size (place_of freed)) (sym (layout-of segs element freed)))
      (element_of-some element some ∙ ap Some (sym own ∙ sym is))
      refl
      (r.carved ∙ sym (carved-of segs element freed)))

  pub put-reused : (a b : ℕ) (now segs' : List PoolSegment) → now ≡ segs' → a ≡ freed → 1 ≤ element → size ≤ set → IsReused set tag size (cells_in segs) (cells_in segs') freed b → IsPut (pool_alloc terms old tag size false) a (pool_by now element b)
  put-reused a b now segs' e at some fits r = subst (λ (ss : List PoolSegment). IsPut (pool_alloc terms old tag size false) a (pool_by ss element b)) (sym e) (reused-at a b segs' at some fits r)

  module _ (k : AreCellular element (cells_in segs)) (most : set ≤ 16777216) (none : freed ≡ 0) (fits : size ≤ set) (some : 1 ≤ size) where
    empty : old.freed ≡ []
    empty = empty-freed segs element freed none

    -- the cells of the segments, for the size that is set
    open-is : uncarved (cell_for set) (carved_by (cells_in segs)) (map pair_of (cells_in segs)) ≡ uncarved (cell_for (element_with old size)) old.carved old.layout.segments
    open-is = uncarved-spelled segs element freed set ∙ ap (λ e. uncarved (cell_for e) old.carved old.layout.segments) (sym is)

    layout-old : layout_by (cell_for set) (cells_in segs) ≡ old.layout
    layout-old = sym (layout-set_from set element (cells_in segs) most same k) ∙ sym (layout-of segs element freed)

    element-new : element_of set ≡ Some (element_with old size)
    element-new = element_of-some set (omega (arith, fits, some)) ∙ ap Some (sym is)

    -- into an uncarved cell
    pub put-carved : (a : ℕ) (segs' : List PoolSegment) → uncarved (cell_for set) (carved_by (cells_in segs)) (map pair_of (cells_in segs)) ≡ Some (place_of a) → IsCarvedAt set tag size (cells_in segs) (cells_in segs') freed a →
        IsPut (pool_alloc terms old tag size false) a (pool_by segs' set freed)
    put-carved a segs' found r =
        put-at (pool_alloc terms old tag size false) a (place_of a) (pool_by segs' set freed) _ None
        (alloc-carved terms old tag size false (place_of a) (omega (arith, is, fits)) empty (sym open-is ∙ found))
        refl
        (pool-is segs' set freed _
        (r.layout ∙ ap (λ (l : Layout ℕ). with_zeros l tag size (place_of a)) layout-old)
        element-new
        (r.freed ∙ sym (freed-of segs element freed))
        (r.carved ∙ ap (carve (place_of a).0) (sym (carved-of segs element freed))))

    need-is : cell_need terms set ≡ pool_need terms old size
    need-is = ap (λ e. round_up (32 + cell_for e) terms.round) (sym is)

    ask-is : (refused : Bool) → ask terms (cell_need terms set) (map pair_of (cells_in segs)) refused ≡ ask terms (pool_need terms old size) old.layout.segments refused
    ask-is refused = ap (λ n. ask terms n (map pair_of (cells_in segs)) refused) need-is ∙ ap (λ ps. ask terms (pool_need terms old size) ps refused) (sym (pairs-of segs element freed))

    module _ (full : uncarved (cell_for (element_with old size)) old.carved old.layout.segments ≡ None) where
      -- a segment is asked for where the block fits a cell, none is free and the region may be granted what it needs
      pub lacks-cell : (segs' : List PoolSegment) → segs' ≡ segs → (ask terms (cell_need terms set) (map pair_of (cells_in segs')) false ≢ TooMany) → LacksCell terms old size
      lacks-cell segs' e may =
          record {
            fits = omega (arith, is, fits);
            freed = empty;
            uncarved = full;
            may = λ many. may (ap (λ (ss : List PoolSegment). ask terms (cell_need terms set) (map pair_of (cells_in ss)) false) e ∙ (ask-is false ∙ many));
          }

      -- into a segment that is asked for
      pub put-granted : (a : ℕ) (segs' : List PoolSegment) (before after : Discipline) → before.terms ≡ terms → IsPool element (cells_in segs) freed → IsGranted set tag size (cell_need terms set) (cells_in segs) (cells_in segs') before after a →
          IsPut (pool_alloc terms old tag size false) a (pool_by segs' set freed)
      put-granted a segs' before after own h g =
          let r = g.carved element freed same h in
          let at : ℕ → List (ℕ × ℕ) → ℕ × ℕ = λ e cs. (g.grant.number, cell_offset (cell_for e) (carved_in g.grant.number cs)) in
          put-at (pool_alloc terms old tag size false) a (place_of a) (pool_by segs' set freed) _ (Some g.grant)
          (alloc-granted terms old tag size false g.grant (place_of a) (g.place ∙ (ap (λ e. at e (carved_by (cells_in segs))) (sym is) ∙ ap (at (element_with old size)) (sym (carved-of segs element freed))))
          (omega (arith, is, fits)) empty full
          (sym (ask-is false) ∙ subst (λ (t : Terms). ask t (cell_need terms set) (map pair_of (cells_in segs)) false ≡ Granted g.grant) own g.granted))
          refl
          (pool-is segs' set freed _
          (r.layout ∙ ap (λ (l : Layout ℕ). with_zeros (with_grant l g.grant) tag size (place_of a)) layout-old)
          element-new
          (r.freed ∙ sym (freed-of segs element freed))
          (r.carved ∙ ap (carve (place_of a).0) (sym (carved-of segs element freed))))

      refusal-of : (why : RegionFault) → IsNoGrant terms (cell_need terms set) (map pair_of (cells_in segs)) why → IsRefusal (pool_alloc terms old tag size) why
      refusal-of code.TooManySegments h = alloc-too_many terms old tag size false (omega (arith, is, fits)) empty full (sym (ask-is false) ∙ h)
      refusal-of code.NoSegment h = alloc-not_lent terms old tag size true (omega (arith, is, fits)) empty full (sym (ask-is true) ∙ h)
      refusal-of code.OutOfMemory h = h
      refusal-of code.Fixed h = absurd h
      refusal-of code.PoolSize h = absurd h
      refusal-of code.NotLast h = absurd h
      refusal-of code.WrongMethod h = absurd h

      pub asked-refusal : (why : RegionFault) (segs' : List PoolSegment) → segs' ≡ segs → IsNoGrant terms (cell_need terms set) (map pair_of (cells_in segs')) why → IsRefusal (pool_alloc terms old tag size) why
      asked-refusal why segs' e h = refusal-of why (subst (λ (ss : List PoolSegment). IsNoGrant terms (cell_need terms set) (map pair_of (cells_in ss)) why) e h)

      pub granted-disc : (a : ℕ) (segs' : List PoolSegment) (before after : Discipline) → IsPool element (cells_in segs) freed → IsGranted set tag size (cell_need terms set) (cells_in segs) (cells_in segs') before after a →
          Served before after old.layout.segments (pool_by segs' set freed).layout.segments (pool_need terms old size)
      granted-disc a segs' before after h g =
          let pairs : map pair_of (cells_in segs) ≡ old.layout.segments = sym (pairs-of segs element freed) in
          let more : (pool_by segs' set freed).layout.segments ≡ segments_with g.grant old.layout.segments =
          ap (λ (l : Layout ℕ). l.segments) (layout-of segs' set freed ∙ (g.carved element freed same h).layout) ∙ ap (λ (l : Layout ℕ). segments_with g.grant l.segments) layout-old in
          subst (Served before after old.layout.segments (pool_by segs' set freed).layout.segments) need-is
          (subst (λ (ss : List (ℕ × ℕ)). Served before after old.layout.segments ss (cell_need terms set)) (sym more)
          (subst (λ (ss : List (ℕ × ℕ)). Served before after ss (segments_with g.grant ss) (cell_need terms set)) pairs g.served))

    pub carved-disc : (a : ℕ) (segs' : List PoolSegment) (d : Discipline) → IsCarvedAt set tag size (cells_in segs) (cells_in segs') freed a → Served d d old.layout.segments (pool_by segs' set freed).layout.segments (pool_need terms old size)
    carved-disc a segs' d r =
        subst (λ ss. Served d d old.layout.segments ss (pool_need terms old size))
        (sym (ap (λ (l : Layout ℕ). l.segments) (layout-of segs' set freed ∙ (r.layout ∙ ap (λ (l : Layout ℕ). with_zeros l tag size (place_of a)) layout-old))))
        (Served-same d old.layout.segments (pool_need terms old size))

-- the element size with which the cells stand
pub pool-with : (set element : ℕ) (segs : List Cells) (freed size : ℕ) → (1 ≤ element → element ≡ set) → (element ≡ 0 → set ≡ size) → size ≤ 16777216 → IsPool element segs freed → IsPool set segs freed
pool-with set element segs freed size same new most h =
    let least : set ≤ 16777216 =
    ⊎_elim
    (λ (e : element ≡ 0). let own = new e in omega (arith, own, most))
    (λ (e : element ≡ 0 → ⊥). let own = same (no-zero element e) in let limit = h.cells.most in omega (arith, own, limit))
    (cases_eq element 0) in
    pool-set_from set element segs least same freed h
