use Rattle.vc_base.proofs.Common.{map, ap}
use Rattle.vc_paths.proofs.SeekLemmas.{path-first}
use Rattle.vc_algebra.proofs.FillLemmas.{can-after}
use Rattle.vc_store_tests.proofs.compares.asked.Goals as goal

pub returns : goal.returns
returns g c =
    can-after _ 0 c.answer.ensures.layers c.answer.ensures.stays.1 (ap (λ v. map g.D.DictDisc.rules v.items) c.answer.ensures.stays.0)
    (path-first _ c.args.paths.now 0 c.has_path.ensures).there c.requires
