use Rattle.vc_base.proofs.Common.{◌≡◌, ℕ, List, [], ◌∷◌, ◌++◌, length, drop, HoldsAt, sym, refl, ◌∙◌, subst, arith, take_at, place_of, cell_for, cell_offset, new_segment}
use Rattle.vc_pool.specs.Cells.Cells.{cells_of}
use Rattle.vc_pool.specs.Cells.Place.{cells_in}
use Rattle.vc_pool.specs.declared.cells.segment.PoolSegment.{PoolSegment}
use Rattle.vc_pool.specs.Cells.Carve.{IsCarvedIn}
use Rattle.vc_pool.specs.Cells.Open.{IsFirstOpen}
use Rattle.vc_pool.proofs.NewSegment.{IsFresh}
use Rattle.vc_pool.proofs.NewSegmentCell.{carved-pushed, first-pushed, kept-pushed, place-pushed}
use Rattle.vc_pool.proofs.cells.grow.carve_new.Goals as goal
use Rattle.vc_pool.proofs.cells.grow.carve_new.Goals.{After-deref_mut}

-- the segment that is put behind the others
own : After-deref_mut → PoolSegment
own c = record { seg = c.args.segment; carved = 0; cells = c.args.table }

fresh : (c : After-deref_mut) → IsFresh (cell_for c.args.element) (cells_of (own c))
unfolding own
fresh c = record { legal = c.requires.segment; carved = refl; pairs = c.requires.table; least = c.requires.cell }

pushed : (c : After-deref_mut) → c.deref_mut.result.now ≡ c.args.segs.now.items ++ own c ∷ []
unfolding own
pushed c = c.deref_mut.ensures.value ∙ c.push_reserved.ensures.items

pub carve_at-requires-clause-kept : goal.carve_at-requires-clause-kept
unfolding own
carve_at-requires-clause-kept c =
    kept-pushed c.args.element c.args.segs.now.items c.deref_mut.result.now (own c) (pushed c) c.requires.kept (omega arith) c.requires.few (fresh c) c.requires.unused

pub carve_at-requires-clause-first : goal.carve_at-requires-clause-first
unfolding own
carve_at-requires-clause-first c =
    let last : c.len-place.result ≡ length c.args.segs.now.items = omega arith in
    subst (IsFirstOpen (cells_in c.deref_mut.result.now)) (sym last)
    (first-pushed c.args.element c.args.segs.now.items c.deref_mut.result.now (own c) (pushed c) c.requires.kept (omega arith) c.requires.few (fresh c) c.requires.unused c.requires.full)

pub returns-clause-place : goal.returns-clause-place
unfolding own
returns-clause-place c =
    let at = (goal.at.returns-clause-place c).After-deref_mut in
    let last : c.len-place.result ≡ length c.args.segs.now.items = omega arith in
    place-pushed c.args.element c.args.segs.now.items c.deref_mut.result.now (own at) (pushed at) c.requires.kept (omega arith) c.requires.few (fresh at) c.requires.unused c.carve_at.result.0
    (subst (HoldsAt (λ (s : PoolSegment). (let at : ℕ × ℕ = (s.seg.number, cell_offset (cell_for c.args.element) s.carved) in place_of c.carve_at.result.0 ≡ at)) c.deref_mut.result.now) last c.carve_at.ensures.place)

pub returns-clause-carved : goal.returns-clause-carved
unfolding own
returns-clause-carved c =
    λ before last set h.
    let at = (goal.at.returns-clause-carved c).After-deref_mut in
    let long : length c.carve_at.new.segs ≡ c.push_reserved.new.self.len = omega arith in
    subst (λ (ss : List PoolSegment). IsCarvedIn c.args.element c.args.tag c.args.size (cells_in c.args.segs.now.items) (cells_in ss) (new_segment c.args.segment.number (length c.args.segment.bytes)) last c.carve_at.result.0)
    (sym (take_at c.carve_at.new.segs (drop (length c.carve_at.new.segs) c.push_reserved.new.self.items) c.push_reserved.new.self.len long))
    (carved-pushed c.args.element c.args.segs.now.items c.deref_mut.result.now (own at) (pushed at) c.requires.kept (omega arith) c.requires.few (fresh at) c.requires.unused c.args.tag c.args.size before last c.carve_at.result.0
    (cells_in c.carve_at.new.segs) set h (c.carve_at.ensures.carved last))
