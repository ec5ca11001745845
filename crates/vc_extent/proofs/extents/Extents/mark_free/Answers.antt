use Rattle.vc_extent.proofs.Sets.{is-changed}
use Rattle.vc_extent.proofs.extents.Extents.mark_free.Goals as goal

pub returns : goal.returns
returns c = is-changed c.find-place.ensures.found c.index_mut.ensures.value c.mark_free_in.ensures
