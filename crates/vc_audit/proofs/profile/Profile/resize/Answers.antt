use Rattle.vc_base.proofs.Common.{ℕ, ◌+◌, ◌-◌, false, option_map, sym, refl, ap, ◌∙◌, subst, arith, place_of, Block, HasBlock}
use Rattle.vc_seg.specs.OneBlock.{IsBlockKept}
use Rattle.indexmap.specs.IndexMap.{set_value_at}
use Rattle.vc_seg.specs.Answer.{IsPut}
use Rattle.vc_addrmap.specs.Map.{moved_number}
use Rattle.vc_addrmap.specs.Parts.{numbers_of}
use Rattle.vc_best.specs.Parts.{layout_of}
use Rattle.vc_audit.specs.ProfileParts.{sites_in}
use Rattle.vc_audit.specs.Profile.{profile_resize}
use Rattle.vc_audit.specs.ProfileSums.{sites_by}
use Rattle.vc_audit.proofs.ProfileAlloc.{few-bytes}
use Rattle.vc_audit.proofs.ProfileBare.{from-both, to-best}
use Rattle.vc_audit.proofs.ProfileFree.{IsAtSite, at-site, counted-set, enough-bytes, has-site, profile, profile-set}
use Rattle.vc_audit.proofs.ProfileHeld.{told-block, told-is}
use Rattle.vc_audit.proofs.ProfileResize.{IsMovedTo, asks-bare, counted-resized, has-block, profile-resized, resize-refused}
use Rattle.vc_audit.proofs.ProfileRows.{IsRowWith}
use Rattle.vc_audit.proofs.ProfileSites.{IsRowOf, index-within, moved-site, none-there, other-sites, row-of, site-kept, site_of_row}
use Rattle.vc_audit.proofs.ProfileSound.{best_places}
use Rattle.vc_audit.proofs.profile.Profile.resize.Given.{Over}
use Rattle.vc_audit.proofs.profile.Profile.resize.Goals as goal
use Rattle.vc_audit.proofs.profile.Profile.resize.Goals.{After-row_at-row, After-with}

pub size-before-requires : goal.size-before-requires
size-before-requires g c = to-best (λ bs. HasBlock bs c.args.a.0) (sites_in c.args.self.now) (layout_of c.args.self.now.best).blocks c.requires.block

pub unreachable-requires : goal.unreachable-requires
unreachable-requires g c =
    none-there (numbers_of c.args.self.now.sites) c.args.self.now.rows.entries c.args.a.0 (sym c.get.ensures.answer ∙ c.in-None.is) (has-site c.args.self.now.counted c.args.a.0 c.size-before.result c.size-before.ensures)

pub row_at-row-requires : goal.row_at-row-requires
row_at-row-requires g c =
    let me = c.args.self.now in
    index-within (numbers_of me.sites) me.rows.entries c.args.a.0 c.in-Some.number (sym c.get.ensures.answer ∙ c.in-Some.is) (has-site me.counted c.args.a.0 c.size-before.result c.size-before.ensures)

-- the row of the block's site
own : (g : Over) (c : After-row_at-row g) → IsRowOf (numbers_of c.args.self.now.sites) c.args.self.now.rows.entries c.args.a.0 c.in-Some.number c.row_at-row.result
own g c =
    let me = c.args.self.now in
    row-of (numbers_of me.sites) me.rows.entries c.args.a.0 c.in-Some.number c.row_at-row.result me.counted.distinct (sym c.get.ensures.answer ∙ c.in-Some.is) (has-site me.counted c.args.a.0 c.size-before.result c.size-before.ensures) c.row_at-row.ensures

-- the block before, with its size, its site and the row of that
before : (g : Over) (c : After-row_at-row g) → IsAtSite (layout_of c.args.self.now.best) (sites_in c.args.self.now) c.args.self.now.rows.entries c.args.a.0 c.size-before.result (site_of_row c.args.self.now.rows.entries c.in-Some.number) c.row_at-row.result
before g c = at-site c.args.self.now.counted (best_places c.args.self.now.best) c.size-before.ensures (own g c).kept (own g c).row

-- and after, with the row
moved : (g : Over) (c : After-with g)
    → IsMovedTo (layout_of c.args.self.now.best) (layout_of c.resize.new.self) (sites_in c.args.self.now) (sites_by (numbers_of c.moved.new.self) (set_value_at c.args.self.now.rows.entries c.in-Some.number c.with.result)) c.args.a.0 c.in-Ok.to.0 c.size-after.result (site_of_row c.args.self.now.rows.entries c.in-Some.number)
moved g c =
    let bs = (layout_of c.resize.new.self).blocks in
    let b = told-block (λ (x : Block ℕ). x.size) bs c.in-Ok.to.0 c.size-after.result c.size-after.ensures in
    let number = sym c.get.ensures.answer ∙ c.in-Some.is in
    let me = c.args.self.now in
    let numbers = c.moved.ensures.numbers ∙ ap (moved_number c.args.a.0 c.in-Ok.to.0) c.get.ensures.same in
    record {
      places = best_places c.resize.new.self;
      the = b;
      sized = told-is (λ (x : Block ℕ). x.size) bs c.in-Ok.to.0 c.size-after.result b c.size-after.ensures;
      others = c.in-Ok.ensures.kept.others;
      kept = moved-site (numbers_of me.sites) (numbers_of c.moved.new.self) me.rows.entries c.in-Some.number c.with.result c.args.a.0 c.in-Ok.to.0 numbers number ∙ site-kept (numbers_of me.sites) me.rows.entries c.args.a.0 c.in-Some.number number (has-site me.counted c.args.a.0 c.size-before.result c.size-before.ensures);
      others_kept = other-sites (numbers_of me.sites) (numbers_of c.moved.new.self) me.rows.entries c.in-Some.number c.with.result c.args.a.0 c.in-Ok.to.0 numbers number;
    }

row : (g : Over) (c : After-with g) → IsRowWith c.row_at-row.result c.row_at-row.result.blocks (c.row_at-row.result.bytes - c.size-before.result + c.size-after.result) c.with.result
row g c = record { blocks = c.with.ensures.blocks; bytes = c.with.ensures.bytes; peak = c.with.ensures.peak }

pub resize-requires-clause-block : goal.resize-requires-clause-block
resize-requires-clause-block g c = to-best (λ bs. HasBlock bs c.args.a.0) (sites_in c.args.self.now) (layout_of c.args.self.now.best).blocks c.requires.block

pub size-after-requires : goal.size-after-requires
size-after-requires g c =
    let bs = (layout_of c.resize.new.self).blocks in
    let b = (before g (goal.at.size-after-requires g c).After-row_at-row).the in
    has-block bs c.in-Ok.to.0 (told-block (λ (x : Block ℕ). x.label) bs c.in-Ok.to.0 b.block.label (c.in-Ok.ensures.kept.label ∙ ap (option_map (λ (x : Block ℕ). x.label)) b.found))

pub overflow_sub-bytes : goal.overflow_sub-bytes
overflow_sub-bytes g c = enough-bytes (before g (goal.at.overflow_sub-bytes g c).After-row_at-row)

pub overflow_add-bytes : goal.overflow_add-bytes
overflow_add-bytes g c =
    let me = c.args.self.now in
    let few = few-bytes (site_of_row me.rows.entries c.in-Some.number) c.row_at-row.result me.counted (own g (goal.at.overflow_add-bytes g c).After-row_at-row).row in
    omega (arith, few, c.size-after.type_inv)

pub invariant_of-self : goal.invariant_of-self
invariant_of-self g c =
    let h = goal.at.invariant_of-self g c in
    record {
      counted = counted-set (layout_of c.resize.new.self) (numbers_of c.moved.new.self) c.args.self.now.rows.entries c.set_row.new.rows.entries (site_of_row c.args.self.now.rows.entries c.in-Some.number) c.in-Some.number c.with.result ((own g h.After-row_at-row).set c.with.result) c.set_row.ensures
          (counted-resized (before g h.After-row_at-row) (moved g h.After-with) _ c.args.size c.args.may_move c.requires.size.most c.in-Ok.ensures.answer c.with.result (row g h.After-with));
    }

pub returns-in-Ok-clause-answer : goal.returns-in-Ok-clause-answer
returns-in-Ok-clause-answer g c =
    let h = goal.at.returns-in-Ok-clause-answer g c in
    subst (IsPut (profile_resize _ (profile (sites_in c.args.self.now) (layout_of c.args.self.now.best) c.args.self.now.rows.entries) (place_of c.args.a.0) c.args.size c.args.may_move false) c.in-Ok.to.0) (sym (profile-set (layout_of c.resize.new.self) (numbers_of c.moved.new.self) c.args.self.now.rows.entries c.set_row.new.rows.entries (site_of_row c.args.self.now.rows.entries c.in-Some.number) c.in-Some.number c.with.result ((own g h.After-row_at-row).set c.with.result) c.set_row.ensures))
    (profile-resized (before g h.After-row_at-row) (moved g h.After-with) _ c.args.size c.args.may_move c.requires.size.most c.in-Ok.ensures.answer c.with.result (row g h.After-with) _ refl)

pub returns-in-Ok-clause-kept : goal.returns-in-Ok-clause-kept
returns-in-Ok-clause-kept g c =
    from-both (λ xs ys. IsBlockKept c.args.a.0 c.in-Ok.to.0 ys xs) (sites_by (numbers_of c.moved.new.self) c.set_row.new.rows.entries) (sites_in c.args.self.now) (layout_of c.resize.new.self).blocks (layout_of c.args.self.now.best).blocks c.in-Ok.ensures.kept

pub returns-clause-answer : goal.returns-clause-answer
returns-clause-answer g c =
    let me = c.args.self.now in (
      resize-refused (sites_in me) (layout_of me.best) me.rows.entries _ (place_of c.args.a.0) c.args.size c.args.may_move c.in-Err.fault c.in-Err.ensures.answer.0,
      ap (λ numbers. profile (sites_by numbers me.rows.entries) (layout_of c.resize.new.self) me.rows.entries) c.get.ensures.same
          ∙ ap (λ l. profile (sites_in me) l me.rows.entries) c.in-Err.ensures.answer.1,
    )

pub returns-clause-no_memory : goal.returns-clause-no_memory
returns-clause-no_memory g c =
    λ e. asks-bare (sites_in c.args.self.now) (layout_of c.args.self.now.best) (c.in-Err.ensures.no_memory e)
