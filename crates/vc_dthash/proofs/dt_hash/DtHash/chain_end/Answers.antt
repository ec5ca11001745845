use Rattle.vc_base.proofs.Common.{◌≢◌, not, ◌%◌, ◌==◌, [], ◌∙◌, sym, ap, true≢false}
use Rattle.vc_dtlist.proofs.TurnLemmas.{fewer}
use Rattle.vc_dthash.specs.Chained.{chain_of, hash_at}
use Rattle.vc_dthash.proofs.HashLemmas.{HashFor-holders, end-place, last-holder, last-in_chain}
use Rattle.vc_dthash.proofs.dt_hash.DtHash.chain_end.Goals as goal

pub load-requires-clause-place : goal.load-requires-clause-place
load-requires-clause-place g c =
    let b = g.C.Cells.blocks c.args.cells.now in
    let is = c.requires.kept.is in
    let self = c.args.self.now in
    let some : self.last.0 ≢ 0 = λ zero. true≢false (sym c.if-ne.true ∙ c.ne.ensures ∙ ap (λ z. not (z == 0)) zero) in
    fewer b self.last.0
    ((HashFor-holders c.requires.kept.rules self b is.holders is.stands).there self.last.0 (last-holder c.requires.kept.rules self b is.holders is.stands some))

pub returns-then-slot_of-k : goal.returns-then-slot_of-k
returns-then-slot_of-k g c = λ rules holders s.
    let self = c.args.self.now in
    let some : self.last.0 ≢ 0 = λ zero. true≢false (sym c.if-ne.true ∙ c.ne.ensures ∙ ap (λ z. not (z == 0)) zero) in
    last-in_chain rules self (g.C.Cells.blocks c.args.cells.now) holders c.args.k s some
    (ap (λ z. z % self.slots) (sym c.load.ensures) ∙ sym c.slot_of.ensures.value ∙ c.if-slot_of-k.true)

pub seek_before-requires : goal.seek_before-requires
seek_before-requires g c =
    let is = c.requires.kept.is in
    let rules = c.requires.kept.rules in
    record {
      front = chain_of (hash_at rules (g.C.Cells.blocks c.args.cells.now)) c.args.self.now.slots c.args.k is.holders;
      rest = [];
      place = end-place rules c.args.self.now (g.C.Cells.blocks c.args.cells.now) is.holders c.args.k is.stands c.requires.slot;
    }

pub returns : goal.returns
returns g c = λ rules holders s.
    c.seek_before.ensures (chain_of (hash_at rules (g.C.Cells.blocks c.args.cells.now)) c.args.self.now.slots c.args.k holders) []
    (end-place rules c.args.self.now (g.C.Cells.blocks c.args.cells.now) holders c.args.k s c.requires.slot)
