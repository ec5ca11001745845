use Rattle.vc_base.proofs.Common.{◌<◌, ℕ, ◌++◌, drop, length, Some, sym, refl, ap, ◌∙◌, subst}
use Rattle.vc_paths.specs.Layers.{Layer, Layered}
use Rattle.vc_paths.specs.Unchanged.{Unchanged}
use Rattle.vc_paths.specs.Path.{numbers_of, visible_of}
use Rattle.vc_paths.proofs.StayLemmas.{same-over}
use Rattle.vc_algebra.specs.Algebra.{range}
use Rattle.vc_algebra.specs.ToCome.{from_place}
use Rattle.vc_algebra.proofs.LoopLemmas.{bytes-before, next-before, path-before, range-begins, range-ends, range-goes_on, range-less, range-shows, visible-before}
use Rattle.ranges.specs.Showing.{object_lines}
use Rattle.ranges.proofs.Lines.{line-put, lines-end}
use Rattle.ranges.proofs.show.put_range.Given.{Over}
use Rattle.ranges.proofs.show.put_range.Goals as goal

-- one call after others
over : (g : Over) (a b c : g.row.Y.Denot) → Unchanged g.Y.Layers a b → Unchanged g.Y.Layers b c → Unchanged g.Y.Layers a c
over g a b c p q = record { layers = same-over p.layers q.layers; stays = g.met.Y.Layers.transitive a b c p.stays q.stays }

pub loop-next-smaller : goal.loop-next-smaller
loop-next-smaller g c =
    subst (λ z. length (from_place c.range_next-next.result (visible_of (g.Y.Layers.layered c.range_next-next.new.layers) c.args.paths.now c.args.d)) < length (from_place z (visible_of (g.Y.Layers.layered c.loop-next.layers) c.args.paths.now c.args.d))) (sym c.in-Some.is)
    (range-less c.args.paths.now c.args.d c.in-Some.place (Some c.args.high.now) c.range_next-next.result (g.met.Y.Layers.lawful c.loop-next.layers) c.range_next-next.ensures.unchanged.layers c.loop-next.invariant.at.path (rw c.in-Some.is at c.loop-next.invariant.at.seen) c.range_next-next.ensures.found)

abbrev bare : (ℕ → Layer) → Layered
bare layer = record { Has = λ d. Unit {0}; layer = layer }

pub loop-next-init : goal.loop-next-init
loop-next-init g c =
    let all = g.Y.Layers.layered c.args.layers.now in
    let links = c.args.paths.now in
    let unchanged = c.in_ok-next.ensures.unchanged in
    let at = c.in_ok-next.ensures.goes_on in
    let path = path-before links c.args.d unchanged.layers c.requires at.path in
    record {
      at = at;
      unchanged = unchanged;
      left = (
        range (all.layer c.args.d).rules (Some c.args.low.now) (Some c.args.high.now) (visible_of all links c.args.d),
        range-begins all links c.args.d (Some c.args.low.now) (Some c.args.high.now) (g.met.Y.Layers.lawful c.args.layers.now) path c.in_ok-next.next c.in_ok-next.ensures.found,
        refl,
      );
    }

pub loop-next-preserved : goal.loop-next-preserved
loop-next-preserved g c =
    let all = g.Y.Layers.layered c.args.layers.now in
    let links = c.args.paths.now in
    let inv = c.loop-next.invariant in
    let first = inv.unchanged in
    let then = c.range_next-next.ensures.unchanged in
    let laws = g.met.Y.Layers.lawful c.args.layers.now in
    let path = path-before links c.args.d first.layers c.requires inv.at.path in
    let ys = inv.left.0 in
    let is = rw c.in-Some.is at inv.left.1 in
    let shows = range-shows all links c.args.d (Some c.args.high.now) c.in-Some.place ys c.object.result.now is (bytes-before c.in-Some.place c.object.result.now first.layers c.object.ensures) in
    record {
      at = c.range_next-next.ensures.goes_on;
      unchanged = over g c.args.layers.now c.loop-next.layers c.range_next-next.new.layers first then;
      left = (
        drop 1 ys,
        range-goes_on all links c.args.d (Some c.args.low.now) (Some c.args.high.now) laws path c.in-Some.place c.range_next-next.result ys (visible-before links c.args.d (numbers_of c.in-Some.place) first.layers (rw c.in-Some.is at inv.at.seen))
            (next-before links c.args.d c.in-Some.place (Some c.args.high.now) c.range_next-next.result first.layers c.range_next-next.ensures.found) is,
        ap (λ done. done ++ object_lines (drop 1 ys)) c.in_ok-put_line.ensures ∙ line-put c.loop-next.lines.items c.object.result.now ys (drop 1 ys) shows ∙ inv.left.2,
      );
    }

pub returns-clause-lines : goal.returns-clause-lines
returns-clause-lines g c =
    let inv = c.loop-next.invariant in
    lines-end c.loop-next.lines.items inv.left.0 (range-ends (g.Y.Layers.layered c.args.layers.now) c.args.paths.now c.args.d (Some c.args.high.now) inv.left.0 (rw c.in_default.is at inv.left.1)) ∙ inv.left.2
