use Rattle.vc_base.proofs.Common.{◌++◌, flat_map, sym, ap, ◌∙◌, arith, take_all}
use Rattle.std.proofs.lemmas.List.Folds.{flat_map-map}
use Rattle.vc_best.specs.Cells.{cells_in}
use Rattle.vc_script.specs.Print.{line_of}
use Rattle.vc_image_run.specs.Text.Text.{walked_objects}
use Rattle.vc_image_run.proofs.text.objects.put_dicts.Goals as goal

pub returns : goal.returns
returns g c =
    let end = c.loop-dict-test.false in
    let cells = cells_in c.args.best.now in
    c.loop-dict.invariant
    ∙ ap (λ z. c.args.text.now.items ++ flat_map (λ d. line_of (walked_objects cells d)) z) (take_all c.loop-dict.dict-index c.args.dicts.now (omega (arith, end)))
    ∙ ap (λ z. c.args.text.now.items ++ z) (sym (flat_map-map line_of (walked_objects cells) c.args.dicts.now))
