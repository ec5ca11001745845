use Rattle.vc_store_tests.proofs.LoadLemmas.{loaded-fills}
use Rattle.vc_store_tests.proofs.compares.of_image.Goals as goal

pub returns-in-Ok : goal.returns-in-Ok
returns-in-Ok g c = loaded-fills _ _ _ c.args.image.now _ c.in-Ok.loaded.region c.in-Ok.loaded.dicts c.in-Ok.ensures.loaded c.in-Ok.ensures.lent
