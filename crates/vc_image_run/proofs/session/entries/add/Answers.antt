use Rattle.vc_base.proofs.Common.{◌∷◌, ◌++◌, [], ap, ◌∙◌, arith, bytes_eq, is_some, lookup}
use Rattle.indexmap.proofs.CallerLemmas.{insert_entry-new}
use Rattle.vc_base.proofs.Options.{none_of}
use Rattle.vc_commands.proofs.Agreeing.{from_ok}
use Rattle.vc_image_run.specs.Session.Copies.{copy_of}
use Rattle.vc_image_run.specs.Session.Entries.{entry_of}
use Rattle.vc_image_run.proofs.session.entries.add.Goals as goal

pub returns : goal.returns
returns c =
    let e = entry_of c.args.i (copy_of c.args.dict.now) in
    let none = none_of (lookup (bytes_eq e.0) c.reserve.new.self.entries) (ap (λ es. is_some (lookup (bytes_eq e.0) es)) c.in_ok-reserve.ensures.entries ∙ c.requires.new) in
    let put = from_ok c.insert.result (c.insert.ensures.succeeds (omega (arith, c.in_ok-reserve.ensures.ok))) c.insert.ensures.entries in
    (rw (c.dict_name.ensures, c.region_name.ensures, c.copy_of.ensures.same) at put)
    ∙ (insert_entry-new bytes_eq c.reserve.new.self e.0 e.1 none ∙ ap (λ es. es ++ e ∷ []) c.in_ok-reserve.ensures.entries)
