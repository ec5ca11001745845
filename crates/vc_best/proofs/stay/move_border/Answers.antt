use Rattle.vc_base.proofs.Common.{◌≡◌, ◌<◌, take, sym, ap, ◌∙◌, arith, take-take, le_prop, ∥∥₁_elim, ℕ_set, span}
use Rattle.vc_best.proofs.Common.{extent_of, tiling}
use Rattle.vc_best.proofs.BorderGaps.{border-cut, gaps-cut, gaps-grown, gaps-sized, gaps-sized_next}
use Rattle.vc_best.proofs.Borders.{border-same, border-stretched, rest-free}
use Rattle.vc_best.proofs.Known.{cut-of}
use Rattle.vc_best.proofs.Sets.{tiling-set}
use Rattle.vc_best.proofs.stay.move_border.Given.{Over}
use Rattle.vc_best.proofs.stay.move_border.Goals as goal
use Rattle.vc_best.proofs.stay.move_border.Goals.{After-shrink-rest, After-stretch}

-- which of the two spans is larger
less : (g : Over) (c : After-shrink-rest g) → span c.args.size < (extent_of (tiling c.args.extents.now.segs.items) c.args.a.0).span
less g c = omega (arith, c.span_at-own.ensures.value, c.span_of-wanted.ensures)

more : (g : Over) (c : After-stretch g) → (extent_of (tiling c.args.extents.now.segs.items) c.args.a.0).span < span c.args.size
more g c = omega (arith, c.span_at-own.ensures.value, c.span_of-wanted.ensures)

pub absorb_next-requires : goal.absorb_next-requires
absorb_next-requires g c =
    let lt = less g (goal.at.absorb_next-requires g c).After-shrink-rest in
    record {
      free = ∥∥₁_elim c.args.extents.now.kept (hlevel (le_prop, ℕ_set)) (λ k. rest-free (tiling c.args.extents.now.segs.items) c.args.a.0 c.args.size (cut-of _ _ c.args.a.0 k c.requires.busy.named) (tiling c.shrink-rest.new.self.segs.items) c.shrink-rest.result.0 c.requires.busy c.requires.sized.some lt c.shrink-rest.ensures.changed.tiling c.shrink-rest.ensures.rest);
    }

pub returns-then-wanted-own-clause-moved : goal.returns-then-wanted-own-clause-moved
returns-then-wanted-own-clause-moved g c =
    let t = tiling c.args.extents.now.segs.items in
    let same : span c.args.size ≡ (extent_of t c.args.a.0).span = omega (arith, c.span_at-own.ensures.value, c.span_of-wanted.ensures) in
    record {
      border = c.set_size.ensures.changed.tiling ∙ ∥∥₁_elim c.args.extents.now.kept (hlevel (tiling-set)) (λ k. border-same t c.args.a.0 c.args.size (cut-of _ _ c.args.a.0 k c.requires.busy.named) (extent_of (tiling c.set_size.new.self.segs.items) c.args.a.0).body same);
      len = c.set_size.ensures.len;
      kept = c.set_size.ensures.kept;
      pairs = c.set_size.ensures.changed.pairs;
    }

pub returns-then-wanted-own-2-clause-moved : goal.returns-then-wanted-own-2-clause-moved
returns-then-wanted-own-2-clause-moved g c =
    let last = c.absorb_next.new.extents in
    border-cut _ c.shrink-rest.new.self.segs.items _ c.args.extents.now.kept (tiling last.segs.items) c.args.a.0 c.args.size c.shrink-rest.result.0 c.requires.busy c.requires.sized.some (less g (goal.at.returns-then-wanted-own-2-clause-moved g c).After-shrink-rest)
    c.shrink-rest.ensures.changed.tiling c.shrink-rest.ensures.rest last.segs.items c.absorb_next.ensures.changed.tiling c.absorb_next.ensures.changed.pairs c.shrink-rest.ensures.changed.pairs

pub returns-else-wanted-own-2-clause-moved : goal.returns-else-wanted-own-2-clause-moved
returns-else-wanted-own-2-clause-moved g c =
    let t = tiling c.args.extents.now.segs.items in
    let size = (extent_of t c.args.a.0).size in
    let body = (extent_of (tiling c.stretch.new.self.segs.items) c.args.a.0).body in
    let gt = more g (goal.at.returns-else-wanted-own-2-clause-moved g c).After-stretch in
    record {
      border = c.stretch.ensures.changed.tiling ∙ ∥∥₁_elim c.args.extents.now.kept (hlevel (tiling-set)) (λ k. border-stretched t c.args.a.0 c.args.size (cut-of _ _ c.args.a.0 k c.requires.busy.named) body gt c.requires.room);
      len = c.stretch.ensures.len;
      kept = λ k small le. sym (take-take k size body le) ∙ ap (take k) c.stretch.ensures.kept;
      pairs = c.stretch.ensures.changed.pairs;
    }

pub returns-then-wanted-own-clause-gaps : goal.returns-then-wanted-own-clause-gaps
returns-then-wanted-own-clause-gaps g c =
    let body = (extent_of (tiling c.set_size.new.self.segs.items) c.args.a.0).body in
    record {
      gaps = gaps-sized_next _ _ _ _ c.args.extents.now.kept c.set_size.new.self.kept c.args.a.0 c.args.size c.requires.busy c.requires.sized.some body c.set_size.ensures.changed.tiling;
      same_span = λ same. gaps-sized _ _ _ _ c.args.extents.now.kept c.set_size.new.self.kept c.args.a.0 c.args.size c.requires.busy c.requires.sized.some body c.set_size.ensures.changed.tiling;
    }

pub returns-then-wanted-own-2-clause-gaps : goal.returns-then-wanted-own-2-clause-gaps
returns-then-wanted-own-2-clause-gaps g c =
    let lt = less g (goal.at.returns-then-wanted-own-2-clause-gaps g c).After-shrink-rest in
    record {
      gaps =
          gaps-cut _ c.shrink-rest.new.self.segs.items _ c.args.extents.now.kept (tiling c.absorb_next.new.extents.segs.items) c.args.a.0 c.args.size c.shrink-rest.result.0 c.requires.busy c.requires.sized.some lt
          c.shrink-rest.ensures.changed.tiling c.shrink-rest.ensures.rest c.absorb_next.ensures.changed.tiling c.absorb_next.ensures.gaps;
      same_span = λ same. absurd (omega (arith, lt, same));
    }

pub returns-else-wanted-own-2-clause-gaps : goal.returns-else-wanted-own-2-clause-gaps
returns-else-wanted-own-2-clause-gaps g c =
    let gt = more g (goal.at.returns-else-wanted-own-2-clause-gaps g c).After-stretch in
    record {
      gaps = gaps-grown _ _ _ _ c.args.extents.now.kept c.stretch.new.self.kept c.args.a.0 c.args.size c.requires.busy c.requires.sized.some (extent_of (tiling c.stretch.new.self.segs.items) c.args.a.0).body gt c.requires.room c.requires.merged c.stretch.ensures.changed.tiling;
      same_span = λ same. absurd (omega (arith, gt, same));
    }
