use Rattle.vc_base.proofs.Common.{arith}
use Rattle.vc_extent.proofs.Sets.{is-changed}
use Rattle.vc_extent.proofs.extents.Extents.shrink.Goals as goal

pub returns-clause-changed : goal.returns-clause-changed
returns-clause-changed c = is-changed c.find-place.ensures.found c.index_mut.ensures.value c.shrink_in.ensures.change

pub new-requires-clause-below : goal.new-requires-clause-below
new-requires-clause-below c = omega (arith, c.shrink_in.ensures.within, c.shrink_in.ensures.most, c.span_of.ensures)
