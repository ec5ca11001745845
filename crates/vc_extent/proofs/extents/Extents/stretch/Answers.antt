use Rattle.vc_base.proofs.Common.{◌+◌}
use Rattle.vc_extent.specs.Change.{extent_in, stretch}
use Rattle.vc_extent.specs.Extent.{extents}
use Rattle.vc_extent.proofs.Sets.{body-changed, kept-changed, length-changed}
use Rattle.vc_extent.proofs.WalkStarts.{joins-stretch, near-joined}
use Rattle.vc_extent.proofs.extents.Extents.stretch.Goals as goal

pub invariant_of-self-clause-named : goal.invariant_of-self-clause-named
invariant_of-self-clause-named c =
    let new = (extent_in (c.find-place.result.1 + 16) (extents c.stretch_in-left.new.seg.bytes)).body in
    near-joined c.find-place.ensures.found c.index_mut.ensures.value c.stretch_in-left.ensures.stretched.change c.args.self.now.near.0 c.joined-self.result.0 c.span_in-bytes.result c.index.result.now (joins-stretch c.args.size new) c.index.ensures c.span_in-bytes.ensures.value c.joined-self.ensures c.args.self.now.named

pub returns-then-left-eq0-clause-len : goal.returns-then-left-eq0-clause-len
returns-then-left-eq0-clause-len c = length-changed c.find-place.ensures.found c.index_mut.ensures.value c.stretch_in-left.ensures.stretched.change c.args.size c.stretch_in-left.ensures.stretched.len

pub returns-then-left-eq0-clause-kept : goal.returns-then-left-eq0-clause-kept
returns-then-left-eq0-clause-kept c = kept-changed c.find-place.ensures.found c.index_mut.ensures.value c.stretch_in-left.ensures.stretched.change c.stretch_in-left.ensures.stretched.kept

pub returns-then-left-eq0-clause-changed : goal.returns-then-left-eq0-clause-changed
returns-then-left-eq0-clause-changed c = body-changed (stretch c.args.size) c.find-place.ensures.found c.index_mut.ensures.value c.stretch_in-left.ensures.stretched.change

pub returns-clause-len : goal.returns-clause-len
returns-clause-len c = length-changed c.find-place.ensures.found c.index_mut.ensures.value c.stretch_in-left.ensures.stretched.change c.args.size c.stretch_in-left.ensures.stretched.len

pub returns-clause-kept : goal.returns-clause-kept
returns-clause-kept c = kept-changed c.find-place.ensures.found c.index_mut.ensures.value c.stretch_in-left.ensures.stretched.change c.stretch_in-left.ensures.stretched.kept

pub returns-clause-changed : goal.returns-clause-changed
returns-clause-changed c = body-changed (stretch c.args.size) c.find-place.ensures.found c.index_mut.ensures.value c.stretch_in-left.ensures.stretched.change
