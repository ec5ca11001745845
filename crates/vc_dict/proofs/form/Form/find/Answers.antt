use Rattle.vc_base.proofs.Common.{◌%◌, ◌==◌, subst, arith}
use Rattle.vc_dthash.specs.Chained.{hash_at}
use Rattle.vc_dthash.specs.Hashed.{HashFor}
use Rattle.vc_dthash.proofs.FilterLemmas.{filter-shorter}
use Rattle.vc_dict.specs.Stands.{HeadsFor}
use Rattle.vc_dict.proofs.form.Form.find.Goals as goal

pub returns-in-Hash-clause-found : goal.returns-in-Hash-clause-found
returns-in-Hash-clause-found g c = λ holders s.
    let rules = g.D.DictDisc.rules c.args.kind.now in
    let b = g.C.Cells.blocks c.args.cells.now in
    let key = c.args.key.now in
    let slots = c.in-Hash.hash.slots in
    let hash : HashFor rules c.in-Hash.hash b holders = subst (λ z. HeadsFor rules z b holders) c.in-Hash.is s in
    let f = c.find.ensures holders hash in
    let short = filter-shorter (λ a. hash_at rules b a % slots == rules.hash key % slots) holders in
    record { first = f.first; steps = omega (arith, f.steps, short) }
