use Rattle.vc_base.proofs.Common.{is_some, ap, ◌∙◌, unwrap_or}
use Rattle.vc_commands.specs.Labels.{tag_of}
use Rattle.vc_commands.specs.Tagged.{address_of_none, place_of_tag}
use Rattle.vc_commands.proofs.ByTag.{emptied, emptied-at, named-by-tag}
use Rattle.vc_commands.proofs.region.tagged.empty_holes.Goals as goal

pub remove-requires-clause-there : goal.remove-requires-clause-there
remove-requires-clause-there c =
    let end = c.loop-end.end in
    let places = c.args.places.now in
    ap is_some
    (ap (tag_of c.loop-end.labels) c.name_by_tag.ensures
    ∙ named-by-tag (emptied end places) c.loop-end.labels end (unwrap_or (place_of_tag places end) address_of_none) c.loop-end.invariant.labels c.loop-end-test.true (emptied-at end places))
