use Rattle.vc_base.proofs.Common.{◌<◌, length, subst, arith, map, HasBlock, Layout, number_of, refl, sym, ap, slice_set}
use Rattle.vc_seg.specs.declared.fault.RegionFault.TheVariants as code
use Rattle.vc_best.specs.Parts.{blocks_in}
use Rattle.vc_cost.proofs.BestLemmas.{asked-left, err-of, none_resized, nth-number, nth-within, resize_made, resize_refused}
use Rattle.vc_cost.proofs.LiveLemmas.{nth-there}
use Rattle.vc_cost.proofs.best_making.resize_nth.Goals as goal

-- src/best_making.rt:67:9
pub returns-then-n-len-clause-made : goal.returns-then-n-len-clause-made
returns-then-n-len-clause-made g c =
    none_resized _ c.args.best.now c.args.live.now.items c.args.steps.now c.requires.live c.args.n (omega (arith, c.if-n-len.true, c.len.ensures, c.args.live.now.ok.0)) c.args.size

-- src/best_making.rt:69:11
pub resize-requires-clause-block : goal.resize-requires-clause-block
resize-requires-clause-block g c =
    let live = c.args.live.now.items in
    let within : c.args.n < length live = omega (arith, c.if-n-len.false, c.len.ensures, c.args.live.now.ok.0) in
    subst (λ z. HasBlock (blocks_in c.args.best.now) z) (sym (nth-number live c.args.n c.index.result.now within c.index.ensures))
    (nth-there (blocks_in c.args.best.now) (blocks_in c.args.best.now) (map number_of live) c.args.n (nth-within live c.args.n within) c.requires.live)

-- src/best_making.rt:51:1
pub returns-in-Ok-clause-made : goal.returns-in-Ok-clause-made
returns-in-Ok-clause-made g c =
    let live = c.args.live.now.items in
    let within : c.args.n < length live = omega (arith, c.if-n-len.false, c.len.ensures, c.args.live.now.ok.0) in
    resize_made _ c.args.best.now c.resize.new.self live (slice_set live c.args.n c.in-Ok.to) c.args.steps.now c.resize.new.steps c.requires.live c.args.n within c.args.size _ c.index.result.now c.in-Ok.to c.index.ensures refl c.in-Ok.ensures.answer
    c.in-Ok.ensures.disc c.in-Ok.ensures.sized c.in-Ok.ensures.kept c.resize.ensures.call

-- src/best_making.rt:51:1
pub returns-in-Err-clause-made : goal.returns-in-Err-clause-made
returns-in-Err-clause-made g c =
    let live = c.args.live.now.items in
    let within : c.args.n < length live = omega (arith, c.if-n-len.false, c.len.ensures, c.args.live.now.ok.0) in
    resize_refused _ c.args.best.now c.resize.new.self live live c.args.steps.now c.resize.new.steps c.requires.live c.args.n within c.args.size 0 c.index.result.now c.in-Err.fault c.index.ensures c.in-Err.ensures.answer.0
    c.in-Err.ensures.answer.1 (λ e. (c.in-Err.ensures.no_memory (err-of c.in-Err.fault code.OutOfMemory e)).asks)
    (asked-left c.in-Err.fault _ _ _ _ _ (ap (λ (l : Layout _). l.segments) c.in-Err.ensures.answer.1) c.in-Err.ensures.disc)
