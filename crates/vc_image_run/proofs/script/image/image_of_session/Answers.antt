use Rattle.vc_base.proofs.Common.{map, length, is_some, sym, ap, ◌∙◌, arith}
use Rattle.vc_image.specs.Save.{image_in}
use Rattle.vc_image_run.proofs.Copied.{copies-fewer, err-each, first-image, ok-each, why-none}
use Rattle.vc_image_run.proofs.script.image.image_of_session.Goals as goal

pub image_of_region-requires-clause-few : goal.image_of_region-requires-clause-few
image_of_region-requires-clause-few g c =
    let few = copies-fewer c.in-Some.name.now c.args.session.now.dicts.entries in
    let same = ap length (c.as_slice.ensures ∙ c.in_ok-dicts-in-Some-as_best.ensures.copies) in
    omega (arith, few, same, c.requires.few)

pub returns-in_ok-dicts-in-Some-as_best-clause-image : goal.returns-in_ok-dicts-in-Some-as_best-clause-image
returns-in_ok-dicts-in-Some-as_best-clause-image g c =
    let copies = c.in_ok-dicts-in-Some-as_best in
    ok-each c.image_of_region.result
    (λ image is.
    first-image c.args.session.now (c.in-Some.name.now, c.in-Some.home.now) copies.dicts image.written (sym c.in-Some.ensures.entry) (sym (ap is_some (rw c.in-Some-as_best.is at c.as_best.ensures))) copies.ensures.copies copies.ensures.kinds
    (is ∙ ap (image_in c.in-Some.home.now.region) c.as_slice.ensures))
    c.image_of_region.ensures.image

pub returns-in_ok-dicts-in-Some-as_best-clause-err : goal.returns-in_ok-dicts-in-Some-as_best-clause-err
returns-in_ok-dicts-in-Some-as_best-clause-err g c =
    let copies = c.in_ok-dicts-in-Some-as_best in
    let image = image_in c.in-Some.home.now.region c.as_slice.result.now in
    err-each c.image_of_region.result
    (why-none (map g.D.DictDisc.rules c.args.kinds.now.items) c.args.session.now image
    (first-image c.args.session.now (c.in-Some.name.now, c.in-Some.home.now) copies.dicts image (sym c.in-Some.ensures.entry) (sym (ap is_some (rw c.in-Some-as_best.is at c.as_best.ensures))) copies.ensures.copies copies.ensures.kinds
    (ap (image_in c.in-Some.home.now.region) c.as_slice.ensures)))
    c.image_of_region.ensures.err

pub returns-in-None-as_best-clause-err : goal.returns-in-None-as_best-clause-err
returns-in-None-as_best-clause-err g c =
    record {
      entry = (c.in-Some.name.now, c.in-Some.home.now);
      first = sym c.in-Some.ensures.entry;
      other = sym (rw c.in-None-as_best.is at c.as_best.ensures);
    }
