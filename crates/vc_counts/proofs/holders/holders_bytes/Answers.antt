use Rattle.vc_base.proofs.Common.{sym, ap, ◌∙◌, subst, Blocks}
use Rattle.vc_objects.specs.Parts.{dictionary_of}
use Rattle.vc_views.specs.Dicts.{cells_held}
use Rattle.vc_counts.specs.Holders.{IsSomeWhole}
use Rattle.vc_counts.specs.Working.{holders_bytes}
use Rattle.vc_counts.proofs.holders.holders_bytes.Goals as goal

pub best_of-requires : goal.best_of-requires
best_of-requires g c = record { home = c.requires.home; found = c.requires.found; best = c.requires.best }

pub holders_over-requires : goal.holders_over-requires
holders_over-requires g c =
    subst (λ (b : Blocks). IsSomeWhole c.args.entry.now.dict b) (sym (c.best_of.ensures ∙ ap cells_held c.requires.found)) c.requires.whole

pub returns-clause-bytes : goal.returns-clause-bytes
returns-clause-bytes g c =
    c.holders_over.ensures.bytes
    ∙ ap (λ (b : Blocks). holders_bytes (dictionary_of c.args.entry.now.dict b).objects) c.best_of.ensures
