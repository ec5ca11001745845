use Rattle.vc_model.specs.Layout.{footprints}
use Rattle.vc_laws.proofs.Layouts.{AreLawful-from_sound}
use Rattle.vc_laws.proofs.Maximality.{IsGap-from_gaps, gaps-from_IsGap, gaps-apart}
use Rattle.vc_laws.proofs.gap_laws.gaps_of_regions_are_maximal.Goals as goal

pub returns-clause-exactly : goal.returns-clause-exactly
returns-clause-exactly g c = λ r sound run.
    let lawful = AreLawful-from_sound r sound in
    (IsGap-from_gaps r.segments (footprints r.blocks) lawful run, gaps-from_IsGap r.segments (footprints r.blocks) lawful run)

pub returns-clause-once : goal.returns-clause-once
returns-clause-once g c = λ r sound. gaps-apart r.segments (footprints r.blocks) (AreLawful-from_sound r sound)
