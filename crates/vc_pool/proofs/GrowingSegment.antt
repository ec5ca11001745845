-- What asking for more bytes of a pool's last segment gives.
use Rattle.vc_base.proofs.Common.{◌≡◌, ◌≢◌, ℕ, zero, suc, ◌+◌, ◌-◌, ◌/◌, ◌%◌, ◌<◌, ◌≤◌, true, false, IsSome, List, [], ◌∷◌, ◌++◌, map, length, get_or, take, set, Some, None, Option, HoldsAt, ◌⊎◌, sym, refl, ap, ◌∙◌, subst, ⊎_elim, arith, cases_Bool, false≢true, get_or-map, get_or_default, length-map, Discipline, HasOut, IsSegmentSize, Served, Terms, TooMany, ask, carved_in, cell_for, cell_offset, place_of, uncarved}
use Rattle.std.specs.List.{last_or}
use Rattle.vc_model.specs.Discipline.{CanExtend, Extended}
use Rattle.vc_model.specs.Segments.{growing, size_limit, with_more}
use Rattle.vc_seg.proofs.Segments.{Served-extended, with_more-push}
use Rattle.vc_seg.proofs.Backs.{Contains-ends}
use Rattle.vc_seg.proofs.Growing.{more-asked, more-may, more-too_many, more_of}
use Rattle.vc_seg.specs.Lend.{IsNoGrant}
use Rattle.vc_seg.specs.declared.fault.RegionFault.{RegionFault}
use Rattle.vc_seg.specs.declared.fault.RegionFault.TheVariants as code
use Rattle.vc_pool.specs.Cells.Blocks.{carved_by, pair_of}
use Rattle.vc_pool.specs.Cells.Carve.{IsCarvedAt, IsCarvedIn}
use Rattle.vc_pool.specs.Cells.Cells.{Cells, cells_of, with_more_bytes}
use Rattle.vc_pool.specs.Cells.Kept.{AreCellular, IsCellular, IsPool}
use Rattle.vc_pool.specs.Cells.Open.{IsFirstOpen}
use Rattle.vc_pool.specs.Cells.Place.{cells_in, pair_in}
use Rattle.vc_pool.specs.declared.cells.segment.PoolSegment.{PoolSegment}
use Rattle.vc_pool.proofs.BlockPlaces.{all-legal}
use Rattle.vc_pool.proofs.LongerSegment.{more-cells}
use Rattle.vc_pool.proofs.LongerSegmentCell.{carved-longer, first-longer, kept-longer, place-longer}
use Rattle.vc_pool.proofs.SegmentList.{cells-get}
use Rattle.vc_pool.specs.Ask.{IsGranted}

-- the last of some
last-get : {A : Type 0} (o : Option A) (xs : List A) (i : ℕ) (d : A) → suc i ≡ length xs → last_or o xs ≡ Some (get_or xs i d)
last-get o [] i d e = absurd (omega (arith, e))
last-get o (x ∷ []) zero d e = refl
last-get o (x ∷ []) (suc i) d e = absurd (omega (arith, e))
last-get o (x ∷ y ∷ ys) zero d e = absurd (omega (arith, e))
last-get o (x ∷ y ∷ ys) (suc i) d e = last-get (Some x) (y ∷ ys) i d (omega (arith, e))

split-last : {A : Type 0} (xs : List A) (i : ℕ) (d : A) → suc i ≡ length xs → xs ≡ take i xs ++ get_or xs i d ∷ []
split-last [] i d e = absurd (omega (arith, e))
split-last (x ∷ []) zero d e = refl
split-last (x ∷ []) (suc i) d e = absurd (omega (arith, e))
split-last (x ∷ y ∷ ys) zero d e = absurd (omega (arith, e))
split-last (x ∷ y ∷ ys) (suc i) d e = ap (λ zs. x ∷ zs) (split-last (y ∷ ys) i d (omega (arith, e)))

-- where a segment may be made longer, there is one, and the discipline makes it so
pub grows-of : (terms : Terms) (ss : List (ℕ × ℕ)) → IsSome (growing terms ss) → terms.grows ≡ true
grows-of terms ss h =
    ⊎_elim
    (λ (t : terms.grows ≡ true). t)
    (λ (t : terms.grows ≡ false). let no : IsSome {T = ℕ × ℕ} None = rw t at h in absurd (false≢true no))
    (cases_Bool terms.grows)

pub some-of : (terms : Terms) (ss : List (ℕ × ℕ)) → IsSome (growing terms ss) → 1 ≤ length ss
some-of terms [] h = let no : IsSome {T = ℕ × ℕ} None = rw (grows-of terms [] h) at h in absurd (false≢true no)
some-of terms (s ∷ ss) h = omega arith

module _ (disc : Discipline) (element more : ℕ) (segs : List PoolSegment) (d : PoolSegment) (k : AreCellular element (cells_in segs)) (some : 1 ≤ element)
    (grows : IsSome (growing disc.terms (map pair_of (cells_in segs)))) (least : 32 + cell_for element ≤ more) (bytes : IsSegmentSize more) where
  -- the last segment, by its place
  abbrev pub i : ℕ
  i = length segs - 1

  abbrev pub own : PoolSegment
  own = get_or segs i d

  -- the segments as number and size
  abbrev ss : List (ℕ × ℕ)
  ss = map pair_of (cells_in segs)

  long : length ss ≡ length segs
  long = length-map (cells_in segs) pair_of ∙ length-map segs cells_of

  pub last : suc i ≡ length segs
  last = omega (arith, long, some-of disc.terms ss grows)

  row : get_or (cells_in segs) i (cells_of d) ≡ cells_of own
  row = cells-get segs i d (cells_of d) (omega (arith, last))

  pair-row : get_or ss i (pair_in d) ≡ pair_in own
  pair-row = get_or-map pair_of (cells_in segs) i (cells_of d) (pair_in d) (omega (arith, last, length-map segs cells_of)) ∙ ap pair_of row

  grown : growing disc.terms ss ≡ Some (pair_in own)
  grown = rw (grows-of disc.terms ss grows) (last-get None ss i (pair_in d) (omega (arith, last, long)) ∙ ap Some pair-row)

  legal : IsSegmentSize (length own.seg.bytes)
  legal = subst (λ (s : Cells). IsSegmentSize (length s.bytes)) row ((all-legal (cells_in segs) k.segments i (cells_of d) (omega (arith, last, length-map segs cells_of))).size)

  pub fewer : length own.cells.items ≤ (length own.seg.bytes + more - 32) / cell_for element
  fewer =
      let cellular = subst (IsCellular (cell_for element) element) row (k.cellular i (cells_of d) (omega (arith, last, length-map segs cells_of))) in
      let count = cellular.count in
      let low = legal.least in
      let lt = more-cells (cell_for element) (length own.seg.bytes) more (omega (arith, some)) (omega (arith, low)) (omega (arith, least)) in
      omega (arith, lt, count)

  pub too-many : size_limit < length own.seg.bytes + more → ask disc.terms more ss false ≡ TooMany
  too-many above = more-too_many disc.terms more ss (pair_in own) grown above

  module _ (within : length own.seg.bytes + more ≤ size_limit) where
    pub longer-size : IsSegmentSize (length own.seg.bytes + more)
    longer-size = let low = legal.least in record { least = omega (arith, low); most = within; multiple = omega (arith, legal.multiple, bytes.multiple) }

    pub can : HasOut disc ss → more % disc.terms.round ≡ 0 → CanExtend disc (pair_in own) more
    can out multiple =
        record {
          grows = grows-of disc.terms ss grows;
          out = Contains-ends disc.out ss (pair_in own) out
              (i, omega (arith, last, long), get_or_default ss i (pair_in own) (pair_in d) (omega (arith, last, long)) ∙ pair-row);
          some = omega (arith, least);
          multiple = multiple;
          size = longer-size;
        }

    pub no-grant : (why : RegionFault) → (why ≡ code.NoSegment) ⊎ (why ≡ code.OutOfMemory) → IsNoGrant disc.terms more ss why
    no-grant why h =
        ⊎_elim
        (λ (e : why ≡ code.NoSegment). subst (IsNoGrant disc.terms more ss) (sym e) (more-asked disc.terms more ss (pair_in own) grown within true))
        (λ (e : why ≡ code.OutOfMemory). subst (IsNoGrant disc.terms more ss) (sym e) tt)
        h

    pub may : ask disc.terms more ss false ≢ TooMany
    may = more-may disc.terms more ss (pair_in own) grown within

    -- what the segments are served
    served : (after : Discipline) → Extended disc after (pair_in own) more → Served disc after ss (with_more more ss) more
    served after extended =
        let split : ss ≡ take i ss ++ pair_in own ∷ [] = split-last ss i (pair_in d) (omega (arith, last, long)) ∙ ap (λ (p : ℕ × ℕ). take i ss ++ p ∷ []) pair-row in
        Served-extended disc after (take i ss) ss (with_more more ss) own.seg.number (length own.seg.bytes) more split
        (ap (with_more more) split ∙ with_more-push more (take i ss) (pair_in own)) (omega (arith, least)) extended

    module _ (none : uncarved (cell_for element) (carved_by (cells_in segs)) (map pair_of (cells_in segs)) ≡ None) (x : PoolSegment) (is : cells_of x ≡ with_more_bytes (cell_for element) more (cells_of own)) where
      same : own ≡ get_or segs i x
      same = get_or_default segs i d x (omega (arith, last))

      is-own : cells_of x ≡ with_more_bytes (cell_for element) more (cells_of (get_or segs i x))
      is-own = subst (λ (s : PoolSegment). cells_of x ≡ with_more_bytes (cell_for element) more (cells_of s)) same is

      size-own : IsSegmentSize (length (get_or segs i x).seg.bytes + more)
      size-own = subst (λ (s : PoolSegment). IsSegmentSize (length s.seg.bytes + more)) same longer-size

      pub kept : AreCellular element (cells_in (set segs i x))
      kept = kept-longer element more i segs x k some last none is-own size-own (omega (arith, least))

      pub first : IsFirstOpen (cells_in (set segs i x)) i
      first = first-longer element more i segs x k some last none is-own size-own (omega (arith, least))

      pub granted : (tag size a : ℕ) (after : List PoolSegment) (disc' : Discipline) → Extended disc disc' (pair_in own) more →
          HoldsAt (λ (s : PoolSegment). (let at : ℕ × ℕ = (s.seg.number, cell_offset (cell_for element) s.carved) in place_of a ≡ at)) (set segs i x) i →
          ((freed : ℕ) → IsPool element (cells_in (set segs i x)) freed → IsCarvedAt element tag size (cells_in (set segs i x)) (cells_in after) freed a) →
          IsGranted element tag size more (cells_in segs) (cells_in after) disc disc' a
      granted tag size a after disc' extended place carved =
          let at : PoolSegment → ℕ × ℕ = λ s. (s.seg.number, cell_offset (cell_for element) (carved_in s.seg.number (carved_by (cells_in segs)))) in
          record {
            grant = more_of (pair_in own) more;
            granted = more-asked disc.terms more ss (pair_in own) grown within false;
            place = place-longer element more i segs x k some last none is-own size-own (omega (arith, least)) a place ∙ ap at (sym same);
            served = served disc' extended;
            carved = λ before freed set_from h.
                subst (λ (s : PoolSegment). IsCarvedIn element tag size (cells_in segs) (cells_in after) (record { number = s.seg.number; bytes = more; fresh = false }) freed a) (sym same)
                (carved-longer element more i segs x k some last none is-own size-own (omega (arith, least)) tag size before freed a (cells_in after) set_from h (carved freed));
          }
