use Rattle.vc_base.proofs.Common.{ℕ, ◌≤◌, List, [], map, sym, ap, ◌∙◌, subst}
use Rattle.vc_seg.specs.declared.tally.Tally.{Tally}
use Rattle.vc_seg.specs.Tally.{HasRoom, tally_of}
use Rattle.vc_pool.specs.Cells.Place.{cells_in}
use Rattle.vc_pool.proofs.BlockSizes.{count-behind, room-behind, slice-behind}
use Rattle.vc_pool.proofs.walks.tally.tally_behind.Goals as goal

pub tally_segments-requires : goal.tally_segments-requires
tally_segments-requires c =
    subst (λ (ss : List (ℕ × ℕ)). HasRoom (tally_of []) (map (λ (s : ℕ × ℕ). s.1) ss)) (sym (slice-behind c.args.segs.now c.args.first c.min.result c.min.ensures))
    (room-behind (cells_in c.args.segs.now) c.requires c.args.first)

pub returns-clause-value : goal.returns-clause-value
returns-clause-value c =
    c.tally_segments.ensures ∙ ap (λ (ss : List (ℕ × ℕ)). tally_of (map (λ (s : ℕ × ℕ). s.1) ss)) (slice-behind c.args.segs.now c.args.first c.min.result c.min.ensures)

pub returns-clause-few : goal.returns-clause-few
returns-clause-few c = subst (λ (t : Tally). t.count ≤ 1023) (sym (returns-clause-value c)) (count-behind (cells_in c.args.segs.now) c.requires c.args.first)
