use Rattle.vc_base.proofs.Common.{◌+◌, arith}
use Rattle.vc_commands.proofs.ByTag.{new-by-tag, upto, upto-below}
use Rattle.vc_commands.proofs.region.tagged.fill_labels.Goals as goal

pub put_label-requires-clause-new : goal.put_label-requires-clause-new
put_label-requires-clause-new c =
    new-by-tag (upto c.loop-key.key c.args.places.now) c.loop-key.labels (c.loop-key.key + 1) c.loop-key.invariant (omega (arith, c.loop-key-test.true, c.requires)) (λ t a first e. upto-below c.loop-key.key c.args.places.now t a e)
