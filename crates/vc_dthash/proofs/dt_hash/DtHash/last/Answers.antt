use Rattle.vc_base.proofs.Common.{ap, ◌∙◌, some_address}
use Rattle.vc_dtlist.proofs.ChainLemmas.{Chain-none}
use Rattle.vc_dtlist.proofs.HolderLemmas.{some-last}
use Rattle.vc_dthash.proofs.dt_hash.DtHash.last.Goals as goal

pub returns : goal.returns
returns c = λ rules blocks holders s.
    c.found.ensures ∙ (ap some_address s.links.last ∙ some-last holders (Chain-none blocks 0 holders 0 s.links.chain))
