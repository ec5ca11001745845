use Rattle.vc_base.proofs.Common.{◌≡◌, ◌<◌, ◌^◌, map, take, AllByRecursion}
use Rattle.vc_image_check.specs.Bytes.Contents.{rows_of_image}
use Rattle.vc_image.specs.Load.{dict_of_row}
use Rattle.vc_image.proofs.dicts.dicts_of_image.Given as goal

-- those so far were made
abbrev pub invariant-loop-i : goal.invariant-loop-i
invariant-loop-i l = record {
  made : l.dicts ≡ map dict_of_row (take l.i (rows_of_image l.image));
  kinds : AllByRecursion (λ d. d.kind < 2 ^ 32) l.dicts;
}
