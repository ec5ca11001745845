use Rattle.vc_extent.specs.Change.{mark_busy}
use Rattle.vc_extent.proofs.Sets.{body-changed, length-changed}
use Rattle.vc_extent.proofs.extents.Extents.mark_busy.Goals as goal

pub returns-clause-len : goal.returns-clause-len
returns-clause-len c = length-changed c.find-place.ensures.found c.index_mut.ensures.value c.mark_busy_in.ensures.change c.args.size c.mark_busy_in.ensures.len

pub returns-clause-changed : goal.returns-clause-changed
returns-clause-changed c = body-changed (mark_busy c.args.size c.args.tag) c.find-place.ensures.found c.index_mut.ensures.value c.mark_busy_in.ensures.change
