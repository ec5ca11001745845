use Rattle.vc_base.proofs.Common.{map, Some, None, sym}
use Rattle.vc_best.specs.Parts.{layout_of}
use Rattle.vc_audit.specs.ProfileParts.{sites_in}
use Rattle.vc_audit.specs.ProfileSums.{with_its_site}
use Rattle.vc_audit.proofs.ProfileClear.{row-here}
use Rattle.vc_audit.proofs.profile.Profile.row.Goals as goal

pub returns-in-Some : goal.returns-in-Some
returns-in-Some g c =
    let me = c.args.self.now in
    row-here (map (with_its_site (sites_in me)) (layout_of me.best).blocks) me.rows.entries me.counted.counted c.args.i (Some (c.in-Some.site.now, c.in-Some.row.now)) (sym c.in-Some.ensures.entry)

pub returns-in-None : goal.returns-in-None
returns-in-None g c =
    let me = c.args.self.now in
    row-here (map (with_its_site (sites_in me)) (layout_of me.best).blocks) me.rows.entries me.counted.counted c.args.i None (sym c.in-None.ensures.entry)
