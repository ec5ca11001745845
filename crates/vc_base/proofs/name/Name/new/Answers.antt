use Rattle.vc_base.proofs.NameLemmas.{IsPadded-over_zeros}
use Rattle.vc_base.proofs.name.Name.new.Goals as goal

pub invariant_of-result : goal.invariant_of-result
invariant_of-result c = rw c.copy_from_slice.ensures.after (IsPadded-over_zeros c.args.bytes.now c.requires.least c.requires.most)
