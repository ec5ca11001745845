use Rattle.vc_base.proofs.Common.{◌≡◌, ℕ, ◌++◌, take, IfSome, Some, sym, subst}
use Rattle.vc_image.specs.Save.{image_in}
use Rattle.vc_image.proofs.saving.save.Goals as goal

pub returns-clause-front : goal.returns-clause-front
returns-clause-front g c =
    subst (λ r. IfSome (g.O.Sink.written c.args.out.now) (λ w. (k : ℕ) × (g.O.Sink.written c.save_best.new.out ≡ Some (w ++ take k (image_in r c.args.dicts.now))))) (sym c.in-Best.is) c.save_best.ensures.front
