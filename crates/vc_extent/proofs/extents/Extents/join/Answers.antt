use Rattle.vc_extent.proofs.Sets.{is-changed}
use Rattle.vc_extent.proofs.WalkStarts.{joins-join, near-joined}
use Rattle.vc_extent.proofs.extents.Extents.join.Goals as goal

pub invariant_of-self-clause-named : goal.invariant_of-self-clause-named
invariant_of-self-clause-named c =
    near-joined c.find-place.ensures.found c.index_mut.ensures.value c.join_in.ensures c.args.self.now.near.0 c.joined-self.result.0 c.span_in-bytes.result c.index.result.now joins-join c.index.ensures c.span_in-bytes.ensures.value c.joined-self.ensures c.args.self.now.named

pub returns : goal.returns
returns c = is-changed c.find-place.ensures.found c.index_mut.ensures.value c.join_in.ensures
