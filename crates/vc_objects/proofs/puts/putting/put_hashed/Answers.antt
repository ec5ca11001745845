use Rattle.vc_base.proofs.Common.{◌≡◌, is_some, not, true, sym, ap, ◌∙◌, arith, length-map}
use Rattle.vc_dict.specs.Listed.{holders_of}
use Rattle.vc_dtdisc.specs.Objects.{bytes_of, first_with}
use Rattle.vc_best.specs.Cells.{cells_in}
use Rattle.vc_objects.specs.Parts.{dictionary_in, object_of}
use Rattle.vc_objects.proofs.PutLemmas.{few-compares, found-object, matched-set}
use Rattle.vc_objects.proofs.puts.putting.put_hashed.Goals as goal

pub returns-then-is_some-clause-matched : goal.returns-then-is_some-clause-matched
returns-then-is_some-clause-matched g c =
    let rules = g.D.DictDisc.rules c.args.kind.now in
    let d = dictionary_in c.args.dict.now c.args.best.now in
    let found : is_some (first_with bytes_of rules (rules.key c.args.object.now) d.objects) ≡ true =
    ap (λ key. is_some (first_with bytes_of rules key d.objects)) (sym c.key.ensures)
    ∙ sym (c.is_some.ensures ∙ found-object c.find.result (first_with bytes_of rules c.key.result.now d.objects) c.find.ensures.found) ∙ c.if-is_some.true in
    sym (ap not (matched-set rules c.args.object.now d true c.requires.set found))

pub returns-then-is_some-clause-compares : goal.returns-then-is_some-clause-compares
returns-then-is_some-clause-compares g c =
    let b = cells_in c.args.best.now in
    let xs = holders_of c.args.dict.now b in
    let few = few-compares (g.D.DictDisc.rules c.args.kind.now) c.args.dict.now.heads b c.key.result.now xs in
    let long = length-map xs (object_of b) in
    let most = c.find.ensures.compares in
    omega (arith, few, long, most)

pub returns-clause-compares : goal.returns-clause-compares
returns-clause-compares g c =
    let b = cells_in c.args.best.now in
    let xs = holders_of c.args.dict.now b in
    let few = few-compares (g.D.DictDisc.rules c.args.kind.now) c.args.dict.now.heads b c.key.result.now xs in
    let long = length-map xs (object_of b) in
    let most = c.find.ensures.compares in
    omega (arith, few, long, most)
