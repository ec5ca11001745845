use Rattle.vc_base.proofs.Common.{◌-◌, sym, ap, ◌∙◌, subst, HasBlock}
use Rattle.vc_seg.specs.OneBlock.{IsBlockFreed}
use Rattle.vc_addrmap.specs.Parts.{numbers_of}
use Rattle.vc_best.specs.Parts.{layout_of}
use Rattle.vc_audit.specs.ProfileParts.{sites_in}
use Rattle.vc_audit.specs.ProfileSums.{IsCounted, sites_by}
use Rattle.vc_audit.proofs.ProfileBare.{from-both, to-best}
use Rattle.vc_audit.proofs.ProfileFree.{IsAtSite, at-site, counted-gone, enough-blocks, enough-bytes, has-site, profile, profile-gone}
use Rattle.vc_audit.proofs.ProfileRows.{IsRowWith}
use Rattle.vc_audit.proofs.ProfileSites.{IsRowOf, index-within, none-there, row-of, site_of_row}
use Rattle.vc_audit.proofs.ProfileSound.{best_places}
use Rattle.vc_audit.proofs.profile.Profile.free.Given.{Over}
use Rattle.vc_audit.proofs.profile.Profile.free.Goals as goal
use Rattle.vc_audit.proofs.profile.Profile.free.Goals.{After-row_at-row, After-with}

pub size-size-requires : goal.size-size-requires
size-size-requires g c = to-best (λ bs. HasBlock bs c.args.a.0) (sites_in c.args.self.now) (layout_of c.args.self.now.best).blocks c.requires.block

pub unreachable-requires : goal.unreachable-requires
unreachable-requires g c =
    let there = has-site c.args.self.now.counted c.args.a.0 c.size-size.result c.size-size.ensures in
    none-there (numbers_of c.args.self.now.sites) c.args.self.now.rows.entries c.args.a.0 (sym c.take.ensures.answer ∙ c.in-None.is) there

pub row_at-row-requires : goal.row_at-row-requires
row_at-row-requires g c =
    let me = c.args.self.now in
    index-within (numbers_of me.sites) me.rows.entries c.args.a.0 c.in-Some.number (sym c.take.ensures.answer ∙ c.in-Some.is) (has-site me.counted c.args.a.0 c.size-size.result c.size-size.ensures)

-- the row of the block's site
own : (g : Over) (c : After-row_at-row g) → IsRowOf (numbers_of c.args.self.now.sites) c.args.self.now.rows.entries c.args.a.0 c.in-Some.number c.row_at-row.result
own g c =
    let me = c.args.self.now in
    row-of (numbers_of me.sites) me.rows.entries c.args.a.0 c.in-Some.number c.row_at-row.result me.counted.distinct (sym c.take.ensures.answer ∙ c.in-Some.is) (has-site me.counted c.args.a.0 c.size-size.result c.size-size.ensures) c.row_at-row.ensures

-- the block, with its size, its site and the row of that
before : (g : Over) (c : After-row_at-row g) → IsAtSite (layout_of c.args.self.now.best) (sites_in c.args.self.now) c.args.self.now.rows.entries c.args.a.0 c.size-size.result (site_of_row c.args.self.now.rows.entries c.in-Some.number) c.row_at-row.result
before g c = at-site c.args.self.now.counted (best_places c.args.self.now.best) c.size-size.ensures (own g c).kept (own g c).row

-- the row after
row : (g : Over) (c : After-with g) → IsRowWith c.row_at-row.result (c.row_at-row.result.blocks - 1) (c.row_at-row.result.bytes - c.size-size.result) c.with.result
row g c = record { blocks = c.with.ensures.blocks; bytes = c.with.ensures.bytes; peak = c.with.ensures.peak }

pub free-requires : goal.free-requires
free-requires g c = record { block = to-best (λ bs. HasBlock bs c.args.a.0) (sites_in c.args.self.now) (layout_of c.args.self.now.best).blocks c.requires.block }

pub overflow_sub-bytes : goal.overflow_sub-bytes
overflow_sub-bytes g c = enough-bytes (before g (goal.at.overflow_sub-bytes g c).After-row_at-row)

pub overflow_sub-row : goal.overflow_sub-row
overflow_sub-row g c = enough-blocks (before g (goal.at.overflow_sub-row g c).After-row_at-row)

pub invariant_of-self : goal.invariant_of-self
invariant_of-self g c =
    let h = goal.at.invariant_of-self g c in
    record {
      counted = subst (λ l. IsCounted l (sites_by (numbers_of c.take.new.self) c.set_row.new.rows.entries) c.set_row.new.rows.entries) (sym c.free.ensures.layout)
          (counted-gone (own g h.After-row_at-row) (before g h.After-row_at-row) c.take.ensures.numbers c.set_row.ensures (row g h.After-with));
    }

pub returns-clause-profile : goal.returns-clause-profile
returns-clause-profile g c =
    let h = goal.at.returns-clause-profile g c in
    ap (λ l. profile (sites_by (numbers_of c.take.new.self) c.set_row.new.rows.entries) l c.set_row.new.rows.entries) c.free.ensures.layout
    ∙ profile-gone (own g h.After-row_at-row) (before g h.After-row_at-row) c.take.ensures.numbers c.set_row.ensures (row g h.After-with)

pub returns-clause-freed : goal.returns-clause-freed
returns-clause-freed g c =
    let me = c.args.self.now in
    from-both (λ xs ys. IsBlockFreed c.args.a.0 ys xs) (sites_by (numbers_of c.take.new.self) c.set_row.new.rows.entries) (sites_in me) (layout_of c.free.new.self).blocks (layout_of me.best).blocks c.free.ensures.freed
