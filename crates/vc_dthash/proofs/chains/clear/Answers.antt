use Rattle.vc_base.proofs.Common.{◌+◌, ◌*◌, ◌≤◌, length, ◌∙◌, arith, bytes_at}
use Rattle.vc_dthash.proofs.FillLemmas.{Cleared-next, Cleared-start}
use Rattle.vc_dthash.proofs.chains.clear.Goals as goal

pub loop-k-init : goal.loop-k-init
loop-k-init g c = (Cleared-start (g.C.Cells.blocks c.args.cells.now) c.args.table.0, g.met.C.Cells.reflexive c.args.cells.now)

pub set_slot-requires : goal.set_slot-requires
set_slot-requires g c =
    let old = g.C.Cells.blocks c.args.cells.now in
    let table = c.args.table.0 in
    let keeps = c.loop-k.invariant.0.keeps in
    let room : 8 * c.loop-k.k + 8 ≤ length (bytes_at old table) = omega (arith, c.loop-k-test.true, c.requires.enough) in
    record { there = keeps.there table ∙ c.requires.there; enough = rw (keeps.sizes table) room }

pub loop-k-preserved : goal.loop-k-preserved
loop-k-preserved g c = (
  Cleared-next (g.C.Cells.blocks c.args.cells.now) (g.C.Cells.blocks c.loop-k.cells) (g.C.Cells.blocks c.set_slot.new.cells) c.args.table.0 c.loop-k.k
      c.loop-k.invariant.0 c.set_slot.ensures.change,
  g.met.C.Cells.transitive c.args.cells.now c.loop-k.cells c.set_slot.new.cells c.loop-k.invariant.1 c.set_slot.ensures.rest,
)

pub returns : goal.returns
returns g c = record {
  change =
      record { zeros = λ k h. c.loop-k.invariant.0.zeros k (omega (arith, h, c.loop-k-test.false)); keeps = c.loop-k.invariant.0.keeps };
  rest = c.loop-k.invariant.1;
}
