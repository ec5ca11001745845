use Rattle.vc_store.proofs.Carried.{alike-kept}
use Rattle.vc_store_tests.proofs.alike.shows.Goals as goal

pub returns-clause-alike : goal.returns-clause-alike
returns-clause-alike g c =
    let stays = c.answer.ensures.stays in
    alike-kept {s = c.args.alike.now.store} {t = c.answer.new.layers.store} c.args.alike.now.like c.answer.new.layers.like stays.0 stays.1 c.requires

pub returns-clause-keeps : goal.returns-clause-keeps
returns-clause-keeps g c = c.answer.ensures.stays.1
