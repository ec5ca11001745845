use Rattle.vc_base.proofs.Common.{true, length, sym, ap, ◌∙◌}
use Rattle.vc_best.specs.Cells.{cells_in, rest_in}
use Rattle.vc_objects.specs.Leaves.{told_if}
use Rattle.vc_objects.specs.Objects.{Dictionary}
use Rattle.vc_objects.specs.Parts.{dictionary_in}
use Rattle.vc_objects.specs.Remove.{bytes_of}
use Rattle.vc_store.specs.Contents.{current_place}
use Rattle.vc_store.specs.Reading.{found_place, place_without}
use Rattle.vc_store.proofs.Removing.{among-whole, removed-placed}
use Rattle.vc_store.proofs.Shown.{distinct-objects, removed-gone, removed-method, removed-shown}
use Rattle.vc_store.proofs.calls.take.Goals as goal

pub returns-clause-method : goal.returns-clause-method
returns-clause-method g c =
    ap (λ (d : Dictionary). d.method) (sym c.remove.ensures.takes.given.dict)
    ∙ removed-method (g.D.DictDisc.rules c.args.kind.now) c.args.key.now (rest_in c.args.best.now) (dictionary_in c.args.dict.now c.args.best.now)

pub returns-clause-removes : goal.returns-clause-removes
returns-clause-removes g c =
    let rules = g.D.DictDisc.rules c.args.kind.now in
    let key = c.args.key.now in
    let b = cells_in c.args.best.now in
    let d = dictionary_in c.args.dict.now c.args.best.now in
    let gone = c.remove.ensures.takes in
    let distinct = distinct-objects rules c.args.dict.now b c.requires.whole in
    let bytes = sym gone.given.gone ∙ removed-gone rules key (rest_in c.args.best.now) d in
    record {
      bytes = bytes;
      lacks = record {
        objects = ap (λ (e : Dictionary). bytes_of e.objects) (sym gone.given.dict) ∙ removed-shown rules key (rest_in c.args.best.now) d distinct;
        place =
            ap (λ (e : Dictionary). current_place e.current e.objects) (sym gone.given.dict)
            ∙ (removed-placed rules key (rest_in c.args.best.now) d distinct (among-whole rules c.args.dict.now b c.requires.whole)
            ∙ ap (λ (e : Dictionary). place_without (found_place rules key (bytes_of d.objects)) (length (bytes_of e.objects)) (current_place d.current d.objects)) gone.given.dict);
      };
      tells = gone.gone ∙ ap (λ o. told_if true o (g.D.DictDisc.gone c.args.kind.now)) bytes;
      same = tt;
      emptied = tt;
    }
