use Rattle.vc_base.proofs.Common.{◌≡◌, take}
use Rattle.vc_image_run.specs.Script.Copies.{KindsFit, copies_in}
use Rattle.vc_image_run.proofs.script.copies.copies_in.Given as goal

-- the dictionaries so far are copied
abbrev pub invariant-loop-i : goal.invariant-loop-i
invariant-loop-i g l = record {
  copies : l.copies ≡ copies_in l.region (take l.i l.session.dicts.entries);
  kinds : KindsFit l.copies;
}
