use Rattle.vc_base.proofs.Common.{◌≡◌, true, false, contains, if◌then◌else◌, sym, ap, ◌∙◌, subst, arith, eqb-false, eqb-true, word_at}
use Rattle.vc_dtlist.proofs.TurnLemmas.{fewer}
use Rattle.vc_dtdisc.specs.Finds.{has_key}
use Rattle.vc_dthash.specs.Chained.{hash_at}
use Rattle.vc_dthash.proofs.ChainLemmas.{Leads-fits}
use Rattle.vc_dthash.proofs.HashLemmas.{HashFor-holders, HashFor-unique}
use Rattle.vc_dthash.proofs.TrailLemmas.{Standing, Trail-end, Trail-next, Trail-over, Trail-start, at-within, finds-last, hashed_alike, standing, tail-is, tail-short, tail_of}
use Rattle.vc_dthash.proofs.dt_hash.DtHash.last_like.Given.{Over}
use Rattle.vc_dthash.proofs.dt_hash.DtHash.last_like.Goals as goal
use Rattle.vc_dthash.proofs.dt_hash.DtHash.last_like.Goals.{After-if_found-last}

pub load-hash-requires-clause-place : goal.load-hash-requires-clause-place
load-hash-requires-clause-place g c =
    let r = c.requires.within in
    fewer (g.C.Cells.blocks c.args.cells.now) c.args.at.0 ((HashFor-holders r.rules c.args.self.now (g.C.Cells.blocks c.args.cells.now) r.holders r.stands).there c.args.at.0 r.within)

pub body-requires : goal.body-requires
body-requires g c =
    let r = c.requires.within in
    fewer (g.C.Cells.blocks c.args.cells.now) c.args.at.0 ((HashFor-holders r.rules c.args.self.now (g.C.Cells.blocks c.args.cells.now) r.holders r.stands).there c.args.at.0 r.within)

pub neighbour-next-requires-clause-holder : goal.neighbour-next-requires-clause-holder
neighbour-next-requires-clause-holder g c =
    let r = c.requires.within in
    fewer (g.C.Cells.blocks c.args.cells.now) c.args.at.0 ((HashFor-holders r.rules c.args.self.now (g.C.Cells.blocks c.args.cells.now) r.holders r.stands).there c.args.at.0 r.within)

pub neighbour-next-requires-clause-fits : goal.neighbour-next-requires-clause-fits
neighbour-next-requires-clause-fits g c =
    let b = g.C.Cells.blocks c.args.cells.now in
    let place = standing c.requires.hash c.requires.within in
    let tail = tail-is place in
    Leads-fits b (word_at b c.args.at.0 2) (tail_of (g.D.DictDisc.rules c.args.kind.now) c.args.self.now.slots b c.args.at.0 place.rest) tail.addresses tail.leads

pub loop-passed-init : goal.loop-passed-init
loop-passed-init g c = λ p. Trail-start (tail-is p) c.neighbour-next.result.0 c.args.steps.now c.neighbour-next.ensures

pub returns-then-eq : goal.returns-then-eq
returns-then-eq g c = λ holders s.
    let same = HashFor-unique c.requires.within.rules (g.D.DictDisc.rules c.args.kind.now) c.args.self.now (g.C.Cells.blocks c.args.cells.now) c.requires.within.holders holders c.requires.within.stands s in
    finds-last (g.met.D.DictDisc.lawful c.args.kind.now)
    (λ p. Trail-end (tail-is p) (c.loop-passed.invariant p) (eqb-true c.loop-passed.next.0 0 (sym c.eq.ensures ∙ c.if-eq.true)))
    holders s (subst (λ xs. contains xs c.args.at.0 ≡ true) same c.requires.within.within)

-- a holder behind it, which isn't compared where it has another hash
module _ (g : Over) (c : After-if_found-last g) where
  abbrev place : Standing (g.D.DictDisc.rules c.args.kind.now) c.args.self.now (g.C.Cells.blocks c.args.cells.now) c.args.at.0
  place = standing c.requires.hash c.requires.within

  own-hash : c.load-hash.result ≡ hash_at (g.D.DictDisc.rules c.args.kind.now) (g.C.Cells.blocks c.args.cells.now) c.args.at.0
  own-hash = c.load-hash.ensures ∙ place.stands.hashes c.args.at.0 (at-within place)

  uncompared : word_at (g.C.Cells.blocks c.args.cells.now) c.loop-passed.next.0 3 ≡ hash_at (g.D.DictDisc.rules c.args.kind.now) (g.C.Cells.blocks c.args.cells.now) c.loop-passed.next.0
      → hashed_alike (g.D.DictDisc.rules c.args.kind.now) (g.C.Cells.blocks c.args.cells.now) c.args.at.0 c.loop-passed.next.0 ≡ false → c.if_found-last.new.steps ≡ c.loop-passed.steps
  uncompared hashed other =
      c.if_found-last.ensures.none
      (λ e. eqb-false (hash_at (g.D.DictDisc.rules c.args.kind.now) (g.C.Cells.blocks c.args.cells.now) c.loop-passed.next.0) (hash_at (g.D.DictDisc.rules c.args.kind.now) (g.C.Cells.blocks c.args.cells.now) c.args.at.0) other
      (sym hashed ∙ (e ∙ own-hash)))

pub if_found-last-requires-clause-holder : goal.if_found-last-requires-clause-holder
if_found-last-requires-clause-holder g c =
    let p = standing c.requires.hash c.requires.within in
    (Trail-next (tail-is p) (c.loop-passed.invariant p) (eqb-false c.loop-passed.next.0 0 (sym c.eq.ensures ∙ c.if-eq.false))).words

pub if_found-last-requires-clause-hashed : goal.if_found-last-requires-clause-hashed
if_found-last-requires-clause-hashed g c =
    let p = standing c.requires.hash c.requires.within in
    (Trail-next (tail-is p) (c.loop-passed.invariant p) (eqb-false c.loop-passed.next.0 0 (sym c.eq.ensures ∙ c.if-eq.false))).hashed

pub if_found-last-requires-clause-hash : goal.if_found-last-requires-clause-hash
if_found-last-requires-clause-hash g c =
    let p = standing c.requires.hash c.requires.within in
    let rules = g.D.DictDisc.rules c.args.kind.now in
    c.load-hash.ensures ∙ (p.stands.hashes c.args.at.0 (at-within p) ∙ sym (ap rules.hash (c.key-key.ensures ∙ ap rules.key c.body.ensures)))

pub neighbour-next-requires-in-loop-passed-clause-holder : goal.neighbour-next-requires-in-loop-passed-clause-holder
neighbour-next-requires-in-loop-passed-clause-holder g c =
    let p = standing c.requires.hash c.requires.within in
    (Trail-next (tail-is p) (c.loop-passed.invariant p) (eqb-false c.loop-passed.next.0 0 (sym c.eq.ensures ∙ c.if-eq.false))).words

pub neighbour-next-requires-in-loop-passed-clause-fits : goal.neighbour-next-requires-in-loop-passed-clause-fits
neighbour-next-requires-in-loop-passed-clause-fits g c =
    let p = standing c.requires.hash c.requires.within in
    (Trail-next (tail-is p) (c.loop-passed.invariant p) (eqb-false c.loop-passed.next.0 0 (sym c.eq.ensures ∙ c.if-eq.false))).fits

pub loop-passed-preserved : goal.loop-passed-preserved
loop-passed-preserved g c = λ p.
    let next = Trail-next (tail-is p) (c.loop-passed.invariant p) (eqb-false c.loop-passed.next.0 0 (sym c.eq.ensures ∙ c.if-eq.false)) in
    let rules = g.D.DictDisc.rules c.args.kind.now in
    let key = c.key-key.ensures ∙ ap rules.key c.body.ensures in
    next.step c.neighbour-next-in-loop-passed.result.0 c.if_found-last.result.0 c.if_found-last.new.steps c.neighbour-next-in-loop-passed.ensures
    (c.if_found-last.ensures.value ∙ ap (λ k. if has_key rules (g.C.Cells.blocks c.args.cells.now) k c.loop-passed.next.0 then c.loop-passed.next.0 else c.loop-passed.last.0) key)
    c.if_found-last.ensures.steps (uncompared g (goal.at.loop-passed-preserved g c).After-if_found-last next.hashed)

pub returns : goal.returns
returns g c = λ holders s.
    let same = HashFor-unique c.requires.within.rules (g.D.DictDisc.rules c.args.kind.now) c.args.self.now (g.C.Cells.blocks c.args.cells.now) c.requires.within.holders holders c.requires.within.stands s in
    finds-last (g.met.D.DictDisc.lawful c.args.kind.now)
    (λ p. let short = tail-short p in Trail-over (tail-is p) (c.loop-passed.invariant p) (omega (arith, short, c.loop-passed-test.false)))
    holders s (subst (λ xs. contains xs c.args.at.0 ≡ true) same c.requires.within.within)
