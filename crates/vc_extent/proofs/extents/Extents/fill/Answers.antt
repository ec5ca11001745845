use Rattle.vc_extent.proofs.Sets.{is-changed}
use Rattle.vc_extent.proofs.extents.Extents.fill.Goals as goal

pub returns : goal.returns
returns c = is-changed c.find-place.ensures.found c.index_mut.ensures.value c.fill_in.ensures
