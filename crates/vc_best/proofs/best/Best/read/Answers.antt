use Rattle.vc_base.proofs.Common.{◌≡◌, ℕ, ◌+◌, ◌-◌, ◌≤◌, List, length, take, drop, Some, option_map, sym, ap, ◌∙◌, arith, rules}
use Rattle.vc_best.proofs.Common.{layout_by}
use Rattle.vc_best.proofs.Found.{busy-of}
use Rattle.vc_best.proofs.Held.{block-is, most-of, range-within, size-most}
use Rattle.vc_best.proofs.best.Best.read.Goals as goal

pub body-body-requires : goal.body-body-requires
body-body-requires g c = busy-of c.args.self.now.extents.segs.items c.args.self.now.extents.index.items c.args.a.0 c.args.self.now.extents.kept c.requires.block

pub overflow_add-result : goal.overflow_add-result
overflow_add-result g c =
    let le = range-within c.args.self.now.extents.segs.items c.args.self.now.extents.index.items c.args.a.0 c.args.self.now.extents.kept c.requires.block c.args.off c.args.len c.requires.range in
    let most = size-most c.args.self.now.extents.segs.items c.args.self.now.extents.index.items c.args.a.0 c.args.self.now.extents.kept c.requires.block (most-of (layout_by c.args.self.now.extents.segs.items) c.args.self.now.whole) in
    omega (arith, le, most)

pub slice_bounds-result-end : goal.slice_bounds-result-end
slice_bounds-result-end g c =
    let le = range-within c.args.self.now.extents.segs.items c.args.self.now.extents.index.items c.args.a.0 c.args.self.now.extents.kept c.requires.block c.args.off c.args.len c.requires.range in
    let long = c.body-body.ensures.len in
    let end : c.args.off + c.args.len ≤ length c.body-body.result.now = omega (arith, le, long) in
    search (rules, end)

pub returns : goal.returns
returns g c =
    let len : c.args.off + c.args.len - c.args.off ≡ c.args.len = omega arith in
    ap (option_map (λ b. take c.args.len (drop c.args.off b.bytes))) (block-is c.args.self.now.extents.segs.items c.args.self.now.extents.index.items c.args.a.0 c.args.self.now.extents.kept c.requires.block)
    ∙ (ap (λ (bs : List ℕ). Some (take c.args.len (drop c.args.off bs))) (sym c.body-body.ensures.bytes)
    ∙ ap (λ (n : ℕ). Some (take n (drop c.args.off c.body-body.result.now))) (sym len))
