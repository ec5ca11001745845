use Rattle.vc_base.proofs.Common.{◌%◌, ◌==◌, length, ap, subst, arith}
use Rattle.vc_dtlist.specs.Linked.{StandsFor}
use Rattle.vc_dtlist.proofs.TurnLemmas.{StandsFor-unique}
use Rattle.vc_dthash.specs.Chained.{hash_at}
use Rattle.vc_dthash.specs.Hashed.{HashFor}
use Rattle.vc_dthash.proofs.FilterLemmas.{filter-shorter}
use Rattle.vc_dict.specs.Stands.{HeadsFor}
use Rattle.vc_dict.proofs.dict.Dict.last_like.Goals as goal

pub last_in_list-requires-clause-count : goal.last_in_list-requires-clause-count
last_in_list-requires-clause-count g c = λ holders s.
    let b = g.C.Cells.blocks c.args.cells.now in
    let list : StandsFor c.in-Links.list b c.requires.holders = subst (λ z. HeadsFor (g.D.DictDisc.rules c.args.kind.now) z b c.requires.holders) c.in-Links.is c.requires.stands.heads in
    let same = StandsFor-unique c.in-Links.list b holders c.requires.holders s list in
    omega (arith, ap length same, c.requires.stands.count)

pub returns-in-Hash-clause-found : goal.returns-in-Hash-clause-found
returns-in-Hash-clause-found g c = λ holders s.
    let rules = g.D.DictDisc.rules c.args.kind.now in
    let b = g.C.Cells.blocks c.args.cells.now in
    let slots = c.in-Hash.hash.slots in
    let hash : HashFor rules c.in-Hash.hash b holders = subst (λ z. HeadsFor rules z b holders) c.in-Hash.is s.heads in
    let f = c.last_like.ensures holders hash in
    let short = filter-shorter (λ a. hash_at rules b a % slots == hash_at rules b c.args.at.0 % slots) holders in
    record { last = f.last; steps = omega (arith, f.steps, short) }
