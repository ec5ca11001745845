use Rattle.vc_base.proofs.Common.{sym, ap, ◌∙◌, subst, arith, take_all}
use Rattle.vc_image_run.specs.Script.Copies.{KindsFit, copies_in, copies_of}
use Rattle.vc_image_run.proofs.Copied.{copies-push, kinds-both}
use Rattle.vc_image_run.proofs.script.copies.copies_in.Goals as goal

pub loop-i-preserved : goal.loop-i-preserved
loop-i-preserved g c =
    let put = c.in_ok-add_if_in-in-Some.ensures.put in
    record {
      copies = copies-push c.args.region.now c.args.session.now.dicts.entries c.loop-i.i (c.in-Some.field-0-0.now, c.in-Some.entry.now) _ _ (sym c.in-Some.ensures.entry) c.loop-i.invariant.copies put;
      kinds = subst KindsFit (sym put) (kinds-both c.loop-i.copies (copies_of c.args.region.now c.in-Some.entry.now) c.loop-i.invariant.kinds c.in_ok-add_if_in-in-Some.ensures.kind);
    }

pub returns-clause-copies : goal.returns-clause-copies
returns-clause-copies g c =
    c.loop-i.invariant.copies
    ∙ ap (λ es. copies_in c.args.region.now es) (take_all c.loop-i.i c.args.session.now.dicts.entries (omega (arith, c.loop-i-test.false, c.len-i-end.ensures.len)))
