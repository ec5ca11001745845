use Rattle.vc_base.proofs.Common.{◌≡◌, true, sym, is_set}
use Rattle.vc_dtdisc.specs.Objects.{bytes_of, first_with}
use Rattle.vc_objects.specs.Parts.{dictionary_in}
use Rattle.vc_commands.proofs.FoundObjects.{there-looked, with-each, within-looked}
use Rattle.vc_commands.proofs.dict.putting.standing.Goals as goal

pub returns-then-is_set-clause-found : goal.returns-then-is_set-clause-found
returns-then-is_set-clause-found g c =
    let rules = g.D.DictDisc.rules c.args.kind.now in
    let is : is_set c.args.dict.now.method ≡ true = sym c.if-is_set.ensures in
    rw is (rw (sym c.key.ensures)
    (there-looked c.find.new.dict c.find.new.best (first_with bytes_of rules c.key.result.now) (λ P os all. with-each P rules c.key.result.now os all)
    (dictionary_in c.args.dict.now c.args.best.now) c.find.ensures.looks.dict c.find.result c.find.ensures.found))

pub returns-then-is_set-clause-within : goal.returns-then-is_set-clause-within
returns-then-is_set-clause-within g c =
    let rules = g.D.DictDisc.rules c.args.kind.now in
    within-looked c.find.new.dict c.find.new.best (first_with bytes_of rules c.key.result.now) (λ P os all. with-each P rules c.key.result.now os all)
    (dictionary_in c.args.dict.now c.args.best.now) c.find.ensures.looks.dict c.find.result c.find.ensures.found
