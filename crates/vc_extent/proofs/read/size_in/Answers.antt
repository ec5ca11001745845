use Rattle.vc_base.proofs.Common.{sym, ◌∙◌, arith}
use Rattle.vc_extent.proofs.Changed.{within}
use Rattle.vc_extent.proofs.read.size_in.Goals as goal

pub returns-clause-value : goal.returns-clause-value
returns-clause-value c = c.field.ensures ∙ sym (within c.requires.there).size

pub returns-clause-within : goal.returns-clause-within
returns-clause-within c = omega (arith, (within c.requires.there).size, (within c.requires.there).end, (within c.requires.there).fits)

pub returns-clause-most : goal.returns-clause-most
returns-clause-most c = (within c.requires.there).most
