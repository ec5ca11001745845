use Rattle.vc_base.proofs.Common.{◌≡◌, refl, arith, rules, common_steps}
use Rattle.vc_model.proofs.Keeping.{NoneRefused-same}
use Rattle.vc_best.specs.Cells.{rest_in}
use Rattle.vc_best.specs.Parts.{disc_in}
use Rattle.vc_objects.specs.Parts.{dictionary_in}
use Rattle.vc_objects.proofs.Brought.{gives-same}
use Rattle.vc_objects.proofs.Leaving.{leaves-self}
use Rattle.vc_objects.proofs.turning.turn.Goals as goal

pub returns-then-eq : goal.returns-then-eq
returns-then-eq g c =
    let same : c.args.method ≡ c.args.dict.now.method = first_of (search rules, grind (arith, common_steps)) in
    record {
      turns =
          record {
            kind = refl;
            answer =
                gives-same (g.D.DictDisc.rules c.args.kind.now) (disc_in (λ z. (goal.SegDisc-dyn g z).state z.1) c.args.best.now).terms c.args.method (rest_in c.args.best.now)
                (dictionary_in c.args.dict.now c.args.best.now) (g.D.DictDisc.gone c.args.kind.now) same;
            leaves = leaves-self (λ z. (goal.SegDisc-dyn g z).state z.1) (g.D.DictDisc.rules c.args.kind.now) c.args.best.now c.args.dict.now c.requires.ask.whole;
            asked = NoneRefused-same _;
          };
    }
