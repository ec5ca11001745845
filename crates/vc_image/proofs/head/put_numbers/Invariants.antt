use Rattle.vc_base.proofs.Common.{◌≡◌, ◌++◌, take, flat_map}
use Rattle.vc_image_check.specs.Bytes.Image.{number_bytes}
use Rattle.vc_image.proofs.head.put_numbers.Given as goal

-- those so far are put
abbrev pub invariant-loop-number : goal.invariant-loop-number
invariant-loop-number l = l.head.items ≡ l.fn.head.items ++ flat_map number_bytes (take l.number-index l.numbers)
