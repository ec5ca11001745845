use Rattle.vc_base.proofs.Common.{sym, ◌∙◌, arith}
use Rattle.vc_extent.proofs.Changed.{within}
use Rattle.vc_extent.proofs.read.span_in.Goals as goal

pub returns-clause-value : goal.returns-clause-value
returns-clause-value c = c.field.ensures ∙ sym (within c.requires.there).span

pub returns-clause-within : goal.returns-clause-within
returns-clause-within c = omega (arith, (within c.requires.there).span, (within c.requires.there).end)

pub returns-clause-most : goal.returns-clause-most
returns-clause-most c = (within c.requires.there).most

pub returns-clause-start : goal.returns-clause-start
returns-clause-start c = (within c.requires.there).start

pub returns-clause-least : goal.returns-clause-least
returns-clause-least c = omega (arith, (within c.requires.there).span, (within c.requires.there).legal.least)

pub returns-clause-multiple : goal.returns-clause-multiple
returns-clause-multiple c = omega (arith, (within c.requires.there).span, (within c.requires.there).legal.multiple)
