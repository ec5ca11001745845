use Rattle.vc_base.proofs.Common.{◌≤◌, ℕ, List, ◌∷◌, length, arith, ap, ◌∙◌, sym, get_or, slice_range, Some, rules}
use Rattle.vc_script.proofs.EndSteps.{IsBetween, ends-enough, is-between}
use Rattle.vc_script.proofs.object_items.ObjectItems.get.Goals as goal
use Rattle.vc_script.proofs.object_items.ObjectItems.get.Goals.{After-index}

pub begin_of-requires : goal.begin_of-requires
begin_of-requires c =
    let enough = ends-enough c.self.inside.bytes.items c.self.inside.ends.items c.args.self.now c.args.i c.self.view_is c.requires in
    omega (arith, enough, ap length c.deref-2.ensures.value)

pub index-requires : goal.index-requires
index-requires c =
    let enough = ends-enough c.self.inside.bytes.items c.self.inside.ends.items c.args.self.now c.args.i c.self.view_is c.requires in
    omega (arith, enough, c.self.inside.ends.ok.0)

between : (c : After-index) → IsBetween c.self.inside.bytes.items c.args.self.now c.args.i c.begin_of.result c.index.result.now
between c =
    is-between c.self.inside.bytes.items c.self.inside.ends.items c.args.self.now c.args.i c.begin_of.result c.index.result.now c.self.invariant c.self.view_is c.requires
    (c.begin_of.ensures ∙ ap (λ (es : List ℕ). get_or (0 ∷ es) c.args.i 0) c.deref-2.ensures.value) c.index.ensures

pub slice_bounds-result-count : goal.slice_bounds-result-count
slice_bounds-result-count c = (between (goal.at.slice_bounds-result-count c).After-index).rises

pub slice_bounds-result-start : goal.slice_bounds-result-start
slice_bounds-result-start c =
    let b = between (goal.at.slice_bounds-result-start c).After-index in
    let start : c.begin_of.result ≤ length c.deref.result.now = omega (arith, b.rises, b.ends, ap length c.deref.ensures.value) in
    search (rules, start)

pub slice_bounds-result-end : goal.slice_bounds-result-end
slice_bounds-result-end c =
    let b = between (goal.at.slice_bounds-result-end c).After-index in
    let end : c.index.result.now ≤ length c.deref.result.now = omega (arith, b.ends, ap length c.deref.ensures.value) in
    search (rules, end)

pub returns : goal.returns
returns c =
    (between (goal.at.returns c).After-index).object ∙ ap (λ (bs : List ℕ). Some (slice_range bs c.begin_of.result c.index.result.now)) (sym c.deref.ensures.value)
