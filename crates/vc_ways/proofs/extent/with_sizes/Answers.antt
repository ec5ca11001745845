use Rattle.vc_base.proofs.Common.{◌≡◌, ◌∙◌, ◌<◌, ℕ, map, length, length-map, get_or, get_or-map, sym, ap, arith}
use Rattle.vc_ways.proofs.Growth.{behind-next}
use Rattle.vc_ways.proofs.extent.with_sizes.Goals as goal

pub loop-i-preserved : goal.loop-i-preserved
loop-i-preserved g c =
    let segs = c.args.segs.now in
    let i = c.loop-i.i in
    let pair = g.T.Numbered.pair in
    let lt : i < length segs = omega (arith, c.loop-i-test.true) in
    let within : i < length (map pair segs) = omega (arith, lt, length-map segs pair) in
    let next = behind-next (map pair segs) i (0, 0) within in
    let here : (get_or (map pair segs) i (0, 0)).1 ≡ (pair c.index-segs-i.result).1 = ap (λ (p : ℕ × ℕ). p.1) (get_or-map pair segs i c.index-segs-i.result (0, 0) lt ∙ ap pair (sym c.index-segs-i.is)) in
    omega (arith, c.loop-i.invariant, next, here, c.size.ensures, c.in-Some.ensures)
