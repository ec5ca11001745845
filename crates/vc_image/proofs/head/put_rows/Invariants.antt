use Rattle.vc_base.proofs.Common.{◌≡◌, ◌++◌, take, flat_map}
use Rattle.vc_image_check.specs.Bytes.Image.{row_bytes}
use Rattle.vc_image.specs.Save.{dict_row}
use Rattle.vc_image.proofs.head.put_rows.Given as goal

-- those so far are put
abbrev pub invariant-loop-dict : goal.invariant-loop-dict
invariant-loop-dict l = l.head.items ≡ l.fn.head.items ++ flat_map (λ d. row_bytes (dict_row d)) (take l.dict-index l.dicts)
