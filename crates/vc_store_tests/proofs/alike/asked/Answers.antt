use Rattle.vc_store.specs.Stores.AlikeLaws.{keeps-after}
use Rattle.vc_store_tests.proofs.alike.asked.Goals as goal

pub returns : goal.returns
returns g c = keeps-after c.shows.ensures.keeps (keeps-after c.shows-2.ensures.keeps c.shows-3.ensures.keeps)
