use Rattle.vc_base.proofs.Common.{◌++◌, flat_map, sym, ap, ◌∙◌, arith, take_all}
use Rattle.std.proofs.lemmas.List.Folds.{flat_map-map}
use Rattle.vc_image_check.specs.Bytes.Image.{row_bytes}
use Rattle.vc_image.specs.Save.{dict_row}
use Rattle.vc_image.proofs.head.put_rows.Goals as goal

pub returns : goal.returns
returns c =
    let end = c.loop-dict-test.false in
    c.loop-dict.invariant
    ∙ ap (λ z. c.args.head.now.items ++ flat_map (λ d. row_bytes (dict_row d)) z) (take_all c.loop-dict.dict-index c.args.dicts.now (omega (arith, end)))
    ∙ ap (λ z. c.args.head.now.items ++ z) (sym (flat_map-map row_bytes dict_row c.args.dicts.now))
