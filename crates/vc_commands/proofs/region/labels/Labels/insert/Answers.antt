use Rattle.vc_base.proofs.Common.{◌+◌, cond, length, is_some, ap, ◌∙◌}
use Rattle.vc_commands.specs.declared.region.labels.Labels.{Labels}
use Rattle.vc_commands.proofs.Agreeing.{agree-put, both_ok, from_ok, kept-put}
use Rattle.vc_commands.proofs.region.labels.Labels.insert.Goals as goal

pub returns-clause-agree : goal.returns-clause-agree
returns-clause-agree c =
    let e = c.insert_reserved.ensures in
    let old = c.args.self.now in
    let new : Labels = record { by_tag = c.insert_reserved.new.self; tags = c.insert.new.self } in
    let succeeds = c.insert.ensures.succeeds c.requires.room_by_name in
    let b = both_ok c.insert.result _ _ succeeds c.insert.ensures.old c.insert.ensures.len in
    agree-put old new c.insert_reserved.result (record { name = c.args.name; at = c.args.at }) c.requires.agree c.requires.new e.was_vacant e.updates (from_ok c.insert.result succeeds c.insert.ensures.updates)
    (b.2 ∙ ap (λ o. length old.tags.entries + cond (is_some o) 0 1) b.1) e.len

pub returns-clause-kept : goal.returns-clause-kept
returns-clause-kept c =
    kept-put c.args.self.now (record { by_tag = c.insert_reserved.new.self; tags = c.insert.new.self }) c.insert_reserved.result (record { name = c.args.name; at = c.args.at }) c.requires.agree c.requires.new
    c.insert_reserved.ensures.was_vacant c.insert_reserved.ensures.updates (from_ok c.insert.result (c.insert.ensures.succeeds c.requires.room_by_name) c.insert.ensures.updates)
