use Rattle.vc_base.proofs.Common.{◌≡◌, ℕ, List, length, AreDistinct}
use Rattle.vc_dict.specs.Turned.{AreDropped}
use Rattle.vc_best.specs.Cells.{cells_in, labelled_blocks, rest_in}
use Rattle.vc_best.specs.Parts.{disc_in, segments_in}
use Rattle.vc_objects.proofs.Dropping.{Dropping}
use Rattle.vc_objects.proofs.turning.drop_all.Given as goal

abbrev pub invariant-loop-dropped : goal.invariant-loop-dropped
invariant-loop-dropped g l =
    ((holders : List ℕ) → AreDropped (cells_in l.initial.best) l.fn.first.0 holders → AreDistinct holders → l.fn.count ≡ length holders → Dropping holders (cells_in l.initial.best) (rest_in l.initial.best) (g.D.DictDisc.gone l.initial.kind) l._dropped l.at.0 (cells_in l.best) (rest_in l.best) (g.D.DictDisc.gone l.kind))
    × (g.D.DictDisc.rules l.kind ≡ g.D.DictDisc.rules l.initial.kind)
    × (disc_in (λ z. (goal.SegDisc-dyn g z).state z.1) l.best ≡ disc_in (λ z. (goal.SegDisc-dyn g z).state z.1) l.initial.best)
    × (segments_in l.best ≡ segments_in l.initial.best)
    × (labelled_blocks (rest_in l.best) ≡ labelled_blocks (rest_in l.initial.best))
