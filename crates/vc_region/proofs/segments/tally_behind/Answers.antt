use Rattle.vc_base.proofs.Common.{◌≤◌, sym, ◌∙◌, subst}
use Rattle.vc_seg.specs.declared.tally.Tally.{Tally}
use Rattle.vc_region.proofs.Behind.{few-behind, slice-room, slice-tally}
use Rattle.vc_region.proofs.segments.tally_behind.Goals as goal

pub tally-requires : goal.tally-requires
tally-requires c = slice-room c.args.segments.now c.requires c.args.first c.min.result c.min.ensures

pub returns-clause-value : goal.returns-clause-value
returns-clause-value c = c.tally.ensures ∙ slice-tally c.args.segments.now c.requires c.args.first c.min.result c.min.ensures

pub returns-clause-few : goal.returns-clause-few
returns-clause-few c =
    subst (λ (t : Tally). t.count ≤ 1023) (sym (returns-clause-value c)) (few-behind c.args.segments.now c.requires c.args.first)
