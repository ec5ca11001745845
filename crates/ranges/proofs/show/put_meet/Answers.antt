use Rattle.vc_base.proofs.Common.{ℕ, List, ◌++◌, ap, ◌∙◌}
use Rattle.vc_paths.specs.Layers.{Layer, Layered}
use Rattle.vc_paths.specs.Unchanged.{Unchanged}
use Rattle.vc_paths.specs.Path.{visible_of}
use Rattle.vc_paths.specs.Visible.{Seen}
use Rattle.vc_paths.proofs.StayLemmas.{same-over}
use Rattle.vc_algebra.specs.Algebra.{meet}
use Rattle.vc_algebra.specs.ToCome.{seen_to_come}
use Rattle.vc_algebra.proofs.LoopLemmas.{merge-ends, merge-less, merge-shows}
use Rattle.ranges.specs.Showing.{object_lines}
use Rattle.ranges.proofs.Lines.{line-put, lines-end}
use Rattle.ranges.proofs.show.put_meet.Given.{Over}
use Rattle.ranges.proofs.show.put_meet.Goals as goal

-- one call after others
over : (g : Over) (a b c : g.row.Y.Denot) → Unchanged g.Y.Layers a b → Unchanged g.Y.Layers b c → Unchanged g.Y.Layers a c
over g a b c p q = record { layers = same-over p.layers q.layers; stays = g.met.Y.Layers.transitive a b c p.stays q.stays }

abbrev bare : (ℕ → Layer) → Layered
bare layer = record { Has = λ d. Unit {0}; layer = layer }

pub loop-place-init : goal.loop-place-init
loop-place-init g c =
    let begins = c.in_ok-meet.ensures.begins in
    let links = c.args.paths.now in
    let all : (ℕ → Layer) → List (Seen ℕ) = λ z. meet (z c.args.d).rules (visible_of (bare z) links c.args.d) (visible_of (bare z) links c.args.e) in
    record {
      merge = begins.merge;
      unchanged = c.in_ok-meet.ensures.unchanged;
      left = ap (λ ys. c.args.lines.now.items ++ object_lines ys) (begins.whole ∙ ap all c.in_ok-meet.ensures.unchanged.layers.layers);
    }

pub loop-place-smaller : goal.loop-place-smaller
loop-place-smaller g c = merge-less (rw c.in-Some.is at c.next.ensures.next)

pub loop-place-preserved : goal.loop-place-preserved
loop-place-preserved g c =
    let links = c.args.paths.now in
    let shows = merge-shows links c.loop-place.meet c.next.new.self c.in-Some.place c.object.result.now (g.met.Y.Layers.lawful c.loop-place.layers) c.loop-place.invariant.merge c.next.ensures.unchanged.layers (rw c.in-Some.is at c.next.ensures.next) c.object.ensures in
    record {
      merge = c.next.ensures.merge;
      unchanged = over g c.args.layers.now c.loop-place.layers c.next.new.layers c.loop-place.invariant.unchanged c.next.ensures.unchanged;
      left =
          ap (λ done. done ++ object_lines (seen_to_come (g.Y.Layers.layered c.next.new.layers) links c.next.new.self)) c.in_ok-put_line.ensures
          ∙ line-put c.loop-place.lines.items c.object.result.now (seen_to_come (g.Y.Layers.layered c.loop-place.layers) links c.loop-place.meet) (seen_to_come (g.Y.Layers.layered c.next.new.layers) links c.next.new.self) shows
          ∙ c.loop-place.invariant.left;
    }

pub returns-clause-lines : goal.returns-clause-lines
returns-clause-lines g c =
    let links = c.args.paths.now in
    lines-end c.loop-place.lines.items (seen_to_come (g.Y.Layers.layered c.loop-place.layers) links c.loop-place.meet) (merge-ends links c.loop-place.meet c.next.new.self (rw c.in_default.is at c.next.ensures.next))
    ∙ c.loop-place.invariant.left
