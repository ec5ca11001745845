use Rattle.vc_base.proofs.Common.{◌<◌, length, option_copied, sym, subst}
use Rattle.vc_paths.specs.Path.{visible_of}
use Rattle.vc_paths.specs.Unchanged.{Unchanged}
use Rattle.vc_paths.proofs.StayLemmas.{same-over}
use Rattle.vc_algebra.specs.ToCome.{from_place}
use Rattle.vc_algebra.proofs.LoopLemmas.{range-less}
use Rattle.vc_store_tests.proofs.answers.ranged.Given.{Over}
use Rattle.vc_store_tests.proofs.answers.ranged.Goals as goal

-- one call after others
over : (g : Over) (a b c : g.row.Y.Denot) → Unchanged g.Y.Layers a b → Unchanged g.Y.Layers b c → Unchanged g.Y.Layers a c
over g a b c p q = record { layers = same-over p.layers q.layers; stays = g.met.Y.Layers.transitive a b c p.stays q.stays }

pub loop-next-init : goal.loop-next-init
loop-next-init g c = record { at = c.in_ok-next.ensures.goes_on; unchanged = c.in_ok-next.ensures.unchanged }

pub loop-next-smaller : goal.loop-next-smaller
loop-next-smaller g c =
    subst (λ z. length (from_place c.range_next-next.result (visible_of (g.Y.Layers.layered c.range_next-next.new.layers) c.args.paths.now c.args.d)) < length (from_place z (visible_of (g.Y.Layers.layered c.loop-next.layers) c.args.paths.now c.args.d))) (sym c.in-Some.is)
    (range-less c.args.paths.now c.args.d c.in-Some.place (option_copied c.args.high) c.range_next-next.result (g.met.Y.Layers.lawful c.loop-next.layers) c.range_next-next.ensures.unchanged.layers c.loop-next.invariant.at.path (rw c.in-Some.is at c.loop-next.invariant.at.seen) c.range_next-next.ensures.found)

pub loop-next-preserved : goal.loop-next-preserved
loop-next-preserved g c = record {
  at = c.range_next-next.ensures.goes_on;
  unchanged = over g c.args.layers.now c.loop-next.layers c.range_next-next.new.layers c.loop-next.invariant.unchanged c.range_next-next.ensures.unchanged;
}
