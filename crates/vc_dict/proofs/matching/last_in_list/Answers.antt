use Rattle.vc_base.proofs.Common.{◌≡◌, true, contains, if◌then◌else◌, ap, ◌∙◌, subst, arith}
use Rattle.vc_dtdisc.specs.Finds.{has_key}
use Rattle.vc_dtlist.proofs.AddressLemmas.{LinksFor-holders}
use Rattle.vc_dtlist.proofs.TurnLemmas.{StandsFor-unique, fewer}
use Rattle.vc_dict.proofs.MatchLemmas.{Trail, Trail-end, Trail-next, Trail-over, Trail-start, found-last, placed}
use Rattle.vc_dict.proofs.matching.last_in_list.Goals as goal

pub body-requires : goal.body-requires
body-requires g c =
    let r = c.requires.within in
    let b = g.C.Cells.blocks c.args.cells.now in
    fewer b c.args.at.0 ((LinksFor-holders c.args.list.now b r.holders r.stands.links).there c.args.at.0 r.within)

pub loop-passed-init : goal.loop-passed-init
loop-passed-init g c = λ p. Trail-start p c.next-next.result c.args.steps.now (c.next-next.ensures _ p.stands)

pub returns-in_default : goal.returns-in_default
returns-in_default g c = λ holders s.
    let r = c.requires.within in
    let b = g.C.Cells.blocks c.args.cells.now in
    let same = StandsFor-unique c.args.list.now b r.holders holders r.stands s in
    found-last (g.met.D.DictDisc.lawful c.args.kind.now)
    (λ p. Trail-end p (subst (λ z. Trail (g.D.DictDisc.rules c.args.kind.now) b c.args.at.0 p.rest c.loop-passed._passed z c.loop-passed.last.0 c.args.steps.now c.loop-passed.steps) c.in_default.is (c.loop-passed.invariant p)))
    holders s (subst (λ xs. contains xs c.args.at.0 ≡ true) same r.within)

pub if_match-last-requires : goal.if_match-last-requires
if_match-last-requires g c =
    let r = c.requires.within in
    let b = g.C.Cells.blocks c.args.cells.now in
    let p = placed r.holders r.stands r.within in
    let next = Trail-next p c.in-Some.other (subst (λ z. Trail (g.D.DictDisc.rules c.args.kind.now) b c.args.at.0 p.rest c.loop-passed._passed z c.loop-passed.last.0 c.args.steps.now c.loop-passed.steps) c.in-Some.is (c.loop-passed.invariant p)) in
    fewer b c.in-Some.other.0 ((LinksFor-holders c.args.list.now b _ p.stands.links).there c.in-Some.other.0 next.within)

pub next-next-requires-in-loop-passed : goal.next-next-requires-in-loop-passed
next-next-requires-in-loop-passed g c =
    let r = c.requires.within in
    let b = g.C.Cells.blocks c.args.cells.now in
    let p = placed r.holders r.stands r.within in
    let next = Trail-next p c.in-Some.other (subst (λ z. Trail (g.D.DictDisc.rules c.args.kind.now) b c.args.at.0 p.rest c.loop-passed._passed z c.loop-passed.last.0 c.args.steps.now c.loop-passed.steps) c.in-Some.is (c.loop-passed.invariant p)) in
    record { holders = _; stands = p.stands; within = next.within }

pub loop-passed-preserved : goal.loop-passed-preserved
loop-passed-preserved g c = λ p.
    let rules = g.D.DictDisc.rules c.args.kind.now in
    let b = g.C.Cells.blocks c.args.cells.now in
    let key = c.key-key.ensures ∙ ap rules.key c.body.ensures in
    let next = Trail-next p c.in-Some.other (subst (λ z. Trail rules b c.args.at.0 p.rest c.loop-passed._passed z c.loop-passed.last.0 c.args.steps.now c.loop-passed.steps) c.in-Some.is (c.loop-passed.invariant p)) in
    next.step c.next-next-in-loop-passed.result c.if_match-last.result.0 c.if_match-last.new.steps (c.next-next-in-loop-passed.ensures _ p.stands)
    (c.if_match-last.ensures.value ∙ ap (λ k. if has_key rules b k c.in-Some.other.0 then c.in-Some.other.0 else c.loop-passed.last.0) key)
    c.if_match-last.ensures.step

pub returns : goal.returns
returns g c = λ holders s.
    let r = c.requires.within in
    let b = g.C.Cells.blocks c.args.cells.now in
    let same = StandsFor-unique c.args.list.now b r.holders holders r.stands s in
    found-last (g.met.D.DictDisc.lawful c.args.kind.now)
    (λ p. Trail-over p (c.loop-passed.invariant p) (let few = c.requires.count _ p.stands in omega (arith, few, c.loop-passed-test.false)))
    holders s (subst (λ xs. contains xs c.args.at.0 ≡ true) same r.within)
