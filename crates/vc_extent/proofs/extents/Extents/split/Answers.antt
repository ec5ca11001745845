use Rattle.vc_base.proofs.Common.{◌+◌, ◌<◌, ap, arith}
use Rattle.vc_extent.proofs.Sets.{is-changed}
use Rattle.vc_extent.specs.Extent.{Extent}
use Rattle.vc_extent.proofs.Places.{there-found}
use Rattle.vc_extent.proofs.Changed.{within}
use Rattle.vc_extent.proofs.extents.Extents.split.Goals as goal
use Rattle.vc_extent.proofs.extents.Extents.split.Goals.{After-split_in}

place : (c : After-split_in) → c.find-place.result.1 + 16 + c.args.span < 33554432
place c =
    let f = c.find-place.ensures.found in
    let s = c.index_mut.result.now in
    let w = within (there-found f s) in
    omega (arith, w.end, w.most, c.requires.larger, ap (λ (x : Extent). x.span) (f.extent s))

pub overflow_add-at-2 : goal.overflow_add-at-2
overflow_add-at-2 c = let p = place (goal.at.overflow_add-at-2 c).After-split_in in omega arith

pub new-requires-clause-below : goal.new-requires-clause-below
new-requires-clause-below c = place (goal.at.new-requires-clause-below c).After-split_in

pub returns-clause-changed : goal.returns-clause-changed
returns-clause-changed c = is-changed c.find-place.ensures.found c.index_mut.ensures.value c.split_in.ensures
