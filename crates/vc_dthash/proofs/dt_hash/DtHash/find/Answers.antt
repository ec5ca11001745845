use Rattle.vc_base.proofs.Common.{◌≡◌, ◌%◌, false, ◌==◌, sym, refl, ap, ◌∙◌, arith, eqb-false, word_at}
use Rattle.vc_dtdisc.specs.Finds.{find_key}
use Rattle.vc_dthash.specs.Chained.{chain_of, hash_at}
use Rattle.vc_dthash.proofs.ChainLemmas.{Leads-fits}
use Rattle.vc_dthash.proofs.FilterLemmas.{filter-within}
use Rattle.vc_dthash.proofs.HashLemmas.{chain-is, chain-short, no-slots}
use Rattle.vc_dthash.proofs.WalkLemmas.{has_hash, SlotWalk-end, SlotWalk-found, SlotWalk-further, SlotWalk-next, SlotWalk-over, SlotWalk-start}
use Rattle.vc_dthash.proofs.dt_hash.DtHash.find.Given.{Over}
use Rattle.vc_dthash.proofs.dt_hash.DtHash.find.Goals as goal
use Rattle.vc_dthash.proofs.dt_hash.DtHash.find.Goals.{After-is_found}

pub returns-then-self-eq0 : goal.returns-then-self-eq0
returns-then-self-eq0 g c = λ holders s.
    let b = g.C.Cells.blocks c.args.cells.now in
    record {
      first = sym (ap (find_key (g.D.DictDisc.rules c.args.kind.now) b c.args.key.now) (no-slots (g.D.DictDisc.rules c.args.kind.now) c.args.self.now b holders s c.if-self-eq0.true));
      steps = omega arith;
      alike = omega arith;
    }

pub head-at-requires-clause-fits : goal.head-at-requires-clause-fits
head-at-requires-clause-fits g c =
    let b = g.C.Cells.blocks c.args.cells.now in
    let k = c.slot_of.result in
    let chain = chain-is (g.D.DictDisc.rules c.args.kind.now) c.args.self.now b c.requires.holders k c.requires.stands c.slot_of.ensures.below in
    Leads-fits b (word_at b c.args.self.now.table.0 k) (chain_of (hash_at (g.D.DictDisc.rules c.args.kind.now) b) c.args.self.now.slots k c.requires.holders) chain.addresses chain.leads

pub loop-passed-init : goal.loop-passed-init
loop-passed-init g c = λ holders s.
    let b = g.C.Cells.blocks c.args.cells.now in
    SlotWalk-start (g.D.DictDisc.rules c.args.kind.now) c.args.self.now.table.0 c.args.self.now.slots b c.args.key.now holders c.hash-hash.result c.slot_of.result c.head-at.result.0 c.args.steps.now
    c.hash-hash.ensures c.slot_of.ensures.value (chain-is (g.D.DictDisc.rules c.args.kind.now) c.args.self.now b holders c.slot_of.result s c.slot_of.ensures.below) c.head-at.ensures

pub returns-then-eq : goal.returns-then-eq
returns-then-eq g c = λ holders s.
    SlotWalk-end (c.loop-passed.invariant holders s) (g.met.D.DictDisc.lawful c.args.kind.now) (sym c.eq.ensures ∙ c.if-eq.true)

-- a holder of the chain has its key's hash in word 3, and one with another hash isn't compared
hashed : (g : Over) (c : After-is_found g) → word_at (g.C.Cells.blocks c.args.cells.now) c.loop-passed.at.0 3 ≡ hash_at (g.D.DictDisc.rules c.args.kind.now) (g.C.Cells.blocks c.args.cells.now) c.loop-passed.at.0
hashed g c =
    let rules = g.D.DictDisc.rules c.args.kind.now in
    let b = g.C.Cells.blocks c.args.cells.now in
    let slots = c.args.self.now.slots in
    let next = SlotWalk-next (c.loop-passed.invariant c.requires.holders c.requires.stands) (sym c.eq.ensures ∙ c.if-eq.false) in
    c.requires.stands.hashes c.loop-passed.at.0 (filter-within (λ a. hash_at rules b a % slots == rules.hash c.args.key.now % slots) c.requires.holders c.loop-passed.at.0 next.within)

uncompared : (g : Over) (c : After-is_found g) → has_hash (g.D.DictDisc.rules c.args.kind.now) (g.C.Cells.blocks c.args.cells.now) c.args.key.now c.loop-passed.at.0 ≡ false → c.is_found.new.steps ≡ c.loop-passed.steps
uncompared g c other =
    let rules = g.D.DictDisc.rules c.args.kind.now in
    c.is_found.ensures.none
    (λ e. eqb-false (hash_at rules (g.C.Cells.blocks c.args.cells.now) c.loop-passed.at.0) (rules.hash c.args.key.now) other (sym (hashed g c) ∙ e ∙ c.hash-hash.ensures))

pub is_found-requires-clause-holder : goal.is_found-requires-clause-holder
is_found-requires-clause-holder g c =
    (SlotWalk-next (c.loop-passed.invariant c.requires.holders c.requires.stands) (sym c.eq.ensures ∙ c.if-eq.false)).words

pub is_found-requires-clause-hashed : goal.is_found-requires-clause-hashed
is_found-requires-clause-hashed g c =
    let rules = g.D.DictDisc.rules c.args.kind.now in
    let slots = c.args.self.now.slots in
    let next = SlotWalk-next (c.loop-passed.invariant c.requires.holders c.requires.stands) (sym c.eq.ensures ∙ c.if-eq.false) in
    c.requires.stands.hashes c.loop-passed.at.0
    (filter-within (λ a. hash_at rules (g.C.Cells.blocks c.args.cells.now) a % slots == rules.hash c.args.key.now % slots) c.requires.holders c.loop-passed.at.0 next.within)

pub returns-then-is_found : goal.returns-then-is_found
returns-then-is_found g c = λ holders s.
    SlotWalk-found (c.loop-passed.invariant holders s) (g.met.D.DictDisc.lawful c.args.kind.now) (sym c.eq.ensures ∙ c.if-eq.false)
    (sym c.is_found.ensures.value ∙ c.if-is_found.true) c.is_found.new.steps c.is_found.ensures.steps (uncompared g (goal.at.returns-then-is_found g c).After-is_found) c.loop-passed.at refl

pub neighbour-at-requires-clause-holder : goal.neighbour-at-requires-clause-holder
neighbour-at-requires-clause-holder g c =
    (SlotWalk-next (c.loop-passed.invariant c.requires.holders c.requires.stands) (sym c.eq.ensures ∙ c.if-eq.false)).words

pub neighbour-at-requires-clause-fits : goal.neighbour-at-requires-clause-fits
neighbour-at-requires-clause-fits g c =
    (SlotWalk-next (c.loop-passed.invariant c.requires.holders c.requires.stands) (sym c.eq.ensures ∙ c.if-eq.false)).fits

pub loop-passed-preserved : goal.loop-passed-preserved
loop-passed-preserved g c = λ holders s.
    SlotWalk-further (c.loop-passed.invariant holders s) (sym c.eq.ensures ∙ c.if-eq.false)
    (sym c.is_found.ensures.value ∙ c.if-is_found.false) c.neighbour-at.result.0 c.is_found.new.steps c.neighbour-at.ensures c.is_found.ensures.steps (uncompared g (goal.at.loop-passed-preserved g c).After-is_found)

pub returns : goal.returns
returns g c = λ holders s.
    let self = c.args.self.now in
    let short = chain-short (g.D.DictDisc.rules c.args.kind.now) self (g.C.Cells.blocks c.args.cells.now) holders ((g.D.DictDisc.rules c.args.kind.now).hash c.args.key.now % self.slots) s in
    SlotWalk-over (c.loop-passed.invariant holders s) (g.met.D.DictDisc.lawful c.args.kind.now) (omega (arith, short, c.loop-passed-test.false))
