use Rattle.vc_laws.proofs.Maximality.{IsGap-from_gaps, gaps-from_IsGap, gaps-apart}
use Rattle.vc_laws.proofs.gap_laws.gaps_are_maximal.Goals as goal

pub returns-clause-exactly : goal.returns-clause-exactly
returns-clause-exactly c = λ segments footprints lawful run. (IsGap-from_gaps segments footprints lawful run, gaps-from_IsGap segments footprints lawful run)

pub returns-clause-once : goal.returns-clause-once
returns-clause-once c = gaps-apart
