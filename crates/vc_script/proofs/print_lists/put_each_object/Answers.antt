use Rattle.vc_base.proofs.Common.{[], ◌++◌, refl, ap, sym, ◌∙◌, arith}
use Rattle.std.proofs.lemmas.Option.{get_or_from_slice_get}
use Rattle.vc_script.specs.Print.{object_text}
use Rattle.vc_script.proofs.PrintSteps.{one-more}
use Rattle.vc_script.proofs.print_lists.put_each_object.Goals as goal

pub loop-i-preserved : goal.loop-i-preserved
loop-i-preserved c =
    let object = get_or_from_slice_get c.args.items.now c.loop-i.i c.get.result.now [] c.get.ensures in
    let within = c.loop-i-test.true in
    one-more object_text _ c.args.items.now c.args.items.now c.loop-i.i [] refl (omega (arith, within, c.len-i-end.ensures)) c.loop-i.invariant
    (c.in_ok-put_spaced_object.ensures.put ∙ ap (λ b. c.loop-i.line.items ++ object_text b) (sym object))
