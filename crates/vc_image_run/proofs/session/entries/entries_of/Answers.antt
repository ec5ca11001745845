use Rattle.vc_base.proofs.Common.{◌+◌, ◌<◌, map, take, is_some, bytes_eq, ap, ◌∙◌, arith, length-map, length-take-le, take_all, lookup}
use Rattle.vc_image_run.specs.Session.Copies.{copy_of}
use Rattle.vc_image_run.specs.Session.Entries.{entries_from}
use Rattle.vc_image_run.specs.Session.Names.{dict_name}
use Rattle.vc_image_run.proofs.Names.{entries-so-far, name-new}
use Rattle.vc_image_run.proofs.session.entries.entries_of.Goals as goal

pub loop-i-init : goal.loop-i-init
loop-i-init c = c.new-entries.ensures.empty

pub add-requires-clause-new : goal.add-requires-clause-new
add-requires-clause-new c =
    let few : c.loop-i.i < 256 = omega (arith, c.loop-i-test.true, c.requires) in
    let so-far = take c.loop-i.i c.args.dicts.now in
    ap (λ es. is_some (lookup (bytes_eq (dict_name (c.loop-i.i + 1))) es)) c.loop-i.invariant
    ∙ ap is_some (name-new c.loop-i.i 0 (map copy_of so-far) few (omega (arith, length-map so-far copy_of, length-take-le c.loop-i.i c.args.dicts.now)))

pub loop-i-preserved : goal.loop-i-preserved
loop-i-preserved c =
    entries-so-far c.args.dicts.now c.loop-i.i c.in-Some.dict.now _ _ c.in-Some.ensures.lookup.3.0 c.in-Some.ensures.lookup.1 c.loop-i.invariant c.in_ok-add-in-Some.ensures

pub returns : goal.returns
returns c =
    c.loop-i.invariant
    ∙ ap (λ ds. entries_from 0 (map copy_of ds)) (take_all c.loop-i.i c.args.dicts.now (omega (arith, c.loop-i-test.false)))
