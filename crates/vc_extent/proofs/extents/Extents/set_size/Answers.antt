use Rattle.vc_base.proofs.Common.{◌≤◌, sym, subst}
use Rattle.vc_extent.specs.Extent.{Extent}
use Rattle.vc_extent.specs.Change.{set_size}
use Rattle.vc_extent.proofs.Sets.{body-changed, extent-before, front-changed, length-changed}
use Rattle.vc_extent.proofs.extents.Extents.set_size.Goals as goal

pub returns-clause-len : goal.returns-clause-len
returns-clause-len c = length-changed c.find-place.ensures.found c.index_mut.ensures.value c.set_size_in.ensures.change c.args.size c.set_size_in.ensures.len

pub returns-clause-kept : goal.returns-clause-kept
returns-clause-kept c =
    λ k new old.
    front-changed c.find-place.ensures.found c.index_mut.ensures.value c.set_size_in.ensures.change k
    (c.set_size_in.ensures.kept k new (subst (λ (x : Extent). k ≤ x.size) (sym (extent-before c.find-place.ensures.found c.index_mut.ensures.value c.set_size_in.ensures.change)) old))

pub returns-clause-changed : goal.returns-clause-changed
returns-clause-changed c = body-changed (set_size c.args.size) c.find-place.ensures.found c.index_mut.ensures.value c.set_size_in.ensures.change
