use Rattle.vc_paths.specs.Unchanged.{Unchanged}
use Rattle.vc_paths.proofs.StayLemmas.{same-over}
use Rattle.vc_algebra.proofs.LoopLemmas.{merge-less}
use Rattle.vc_store_tests.proofs.answers.made.Given.{Over}
use Rattle.vc_store_tests.proofs.answers.made.Goals as goal

-- one call after others
over : (g : Over) (a b c : g.row.Y.Denot) → Unchanged g.Y.Layers a b → Unchanged g.Y.Layers b c → Unchanged g.Y.Layers a c
over g a b c p q = record { layers = same-over p.layers q.layers; stays = g.met.Y.Layers.transitive a b c p.stays q.stays }

pub loop-place-init : goal.loop-place-init
loop-place-init g c = record { merge = c.in_ok-merge.ensures.begins.merge; unchanged = c.in_ok-merge.ensures.unchanged }

pub loop-place-smaller : goal.loop-place-smaller
loop-place-smaller g c = merge-less (rw c.in-Some.is at c.next.ensures.next)

pub loop-place-preserved : goal.loop-place-preserved
loop-place-preserved g c = record {
  merge = c.next.ensures.merge;
  unchanged = over g c.args.layers.now c.loop-place.layers c.next.new.layers c.loop-place.invariant.unchanged c.next.ensures.unchanged;
}

pub returns : goal.returns
returns g c = over g c.args.layers.now c.loop-place.layers c.next.new.layers c.loop-place.invariant.unchanged c.next.ensures.unchanged
