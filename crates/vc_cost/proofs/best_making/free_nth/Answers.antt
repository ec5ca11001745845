use Rattle.vc_base.proofs.Common.{◌<◌, length, subst, arith, map, HasBlock, number_of, sym}
use Rattle.vc_best.specs.Parts.{blocks_in}
use Rattle.vc_cost.proofs.BestLemmas.{free_made, none_freed, nth-number, nth-within}
use Rattle.vc_cost.proofs.LiveLemmas.{nth-there}
use Rattle.vc_cost.proofs.best_making.free_nth.Goals as goal

-- src/best_making.rt:88:9
pub returns-then-n-len-clause-made : goal.returns-then-n-len-clause-made
returns-then-n-len-clause-made g c =
    none_freed _ c.args.best.now c.args.live.now.items c.args.steps.now c.requires.live c.args.n (omega (arith, c.if-n-len.true, c.len.ensures, c.args.live.now.ok.0))

-- src/best_making.rt:91:5
pub free-requires : goal.free-requires
free-requires g c =
    let live = c.args.live.now.items in
    let within : c.args.n < length live = omega (arith, c.if-n-len.false, c.len.ensures, c.args.live.now.ok.0) in
    record {
      block =
          subst (λ z. HasBlock (blocks_in c.args.best.now) z) (sym (nth-number live c.args.n c.remove-at.result within c.remove-at.ensures.value))
          (nth-there (blocks_in c.args.best.now) (blocks_in c.args.best.now) (map number_of live) c.args.n (nth-within live c.args.n within) c.requires.live);
    }

-- src/best_making.rt:79:1
pub returns-clause-made : goal.returns-clause-made
returns-clause-made g c =
    let live = c.args.live.now.items in
    let within : c.args.n < length live = omega (arith, c.if-n-len.false, c.len.ensures, c.args.live.now.ok.0) in
    free_made _ c.args.best.now c.free.new.self live c.remove-at.new.self.items c.args.steps.now c.free.new.steps c.requires.live c.args.n within c.remove-at.result c.remove-at.ensures.value c.remove-at.ensures.items c.free.ensures.layout
    c.free.ensures.disc c.free.ensures.call
