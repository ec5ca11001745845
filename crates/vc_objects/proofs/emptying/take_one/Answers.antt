use Rattle.vc_base.proofs.Common.{◌≡◌, ℕ, Some, None, Option, sym, refl, ap, ◌∙◌, arith, Discipline}
use Rattle.vc_dtdisc.specs.Objects.{Object}
use Rattle.vc_dtdisc.specs.Finding.{first_of}
use Rattle.vc_dtdisc.specs.Rules.{gone_after}
use Rattle.vc_dict.specs.Listed.{holders_of}
use Rattle.vc_best.specs.Cells.{cells_in, rest_in}
use Rattle.vc_best.proofs.CellCalls.{stays-disc}
use Rattle.vc_objects.specs.Leaves.{Looks, told_each}
use Rattle.vc_objects.specs.Objects.{option_list}
use Rattle.vc_objects.specs.Parts.{dictionary_in, object_of}
use Rattle.vc_objects.specs.Remove.{Removed, remove_found}
use Rattle.vc_objects.proofs.Looking.{Looks-became}
use Rattle.vc_objects.proofs.Taken.{IsTaken, dict-after, first-object, holder-stays, leaves-taken, object-stays, region-taken, taken-first}
use Rattle.vc_objects.proofs.emptying.take_one.Given.{Over}
use Rattle.vc_objects.proofs.emptying.take_one.Goals as goal
use Rattle.vc_objects.proofs.emptying.take_one.Goals.{In-None, In-Some}

-- what a region's boxed discipline means
abbrev meaning : (g : Over) → (x : g.dyn-1.0.I) × (g.dyn-1.0.entry x).0.Denot → Discipline
meaning g p = (goal.SegDisc-dyn g p).state p.1

-- the first holder was taken out, which is that of the first object
here : (g : Over) (c : In-Some g) → IsTaken (g.D.DictDisc.rules c.args.kind.now) c.args.best.now c.take_first.new.cells c.args.dict.now c.take_first.new.self c.in-Some.at.0
here g c = taken-first c.requires.whole (c.in-Some.ensures.first _ c.requires.whole.stands) (c.in-Some.ensures.dict _ c.requires.whole.stands)

first-here : (g : Over) (c : In-Some g) → first_of (dictionary_in c.args.dict.now c.args.best.now).objects ≡ Some (object_of (cells_in c.args.best.now) c.in-Some.at.0)
first-here g c = first-object (cells_in c.args.best.now) (holders_of c.args.dict.now (cells_in c.args.best.now)) _ (c.in-Some.ensures.first _ c.requires.whole.stands)

-- there was none
none-here : (g : Over) (c : In-None g) → first_of (dictionary_in c.args.dict.now c.args.best.now).objects ≡ None
none-here g c = first-object (cells_in c.args.best.now) (holders_of c.args.dict.now (cells_in c.args.best.now)) _ (c.in-None.ensures.first _ c.requires.whole.stands)

looks-here : (g : Over) (c : In-None g) → Looks (meaning g) (g.D.DictDisc.rules c.args.kind.now) c.args.best.now c.args.dict.now c.take_first.new.cells c.take_first.new.self
looks-here g c =
    Looks-became (meaning g) (g.D.DictDisc.rules c.args.kind.now) c.args.best.now c.take_first.new.cells c.args.dict.now c.take_first.new.self c.requires.whole
    (c.in-None.ensures.dict _ c.requires.whole.stands) c.in-None.ensures.rest

pub body-requires : goal.body-requires
body-requires g c =
    let holder = holder-stays (here g (goal.at.body-requires g c).In-Some) in
    record { there = holder.there; enough = omega (arith, holder.enough) }

pub free_cell-requires : goal.free_cell-requires
free_cell-requires g c = (holder-stays (here g (goal.at.free_cell-requires g c).In-Some)).there

pub returns-in-Some : goal.returns-in-Some
returns-in-Some g c =
    let gone = g.D.DictDisc.gone c.args.kind.now in
    let new = c.free_cell.new.best in
    let before = (goal.at.returns-in-Some g c).In-Some in
    let is = here g before in
    let found = sym (first-here g before) in
    let removed : Option Object → Removed ℕ = λ o. remove_found (rest_in c.args.best.now) (dictionary_in c.args.dict.now c.args.best.now) o in
    let rest = c.in-Some.ensures.rest in
    let frees = c.free_cell.ensures.frees in
    record {
      empties = record {
        kind = c.freed.ensures.rules;
        region = region-taken is (meaning g) new rest frees ∙ ap (λ (o : Option Object). (removed o).region) found;
        dict = dict-after is (meaning g) new rest frees ∙ ap (λ (o : Option Object). (removed o).dict) found;
        leaves = leaves-taken is (meaning g) new rest frees;
        disc = frees.around.disc ∙ stays-disc (meaning g) c.args.best.now c.take_first.new.cells rest;
        gone =
            c.freed.ensures.gone ∙ ap (gone_after gone) (c.body.ensures ∙ object-stays is)
            ∙ ap (λ (o : Option Object). told_each (option_list (removed o).gone) gone) found;
      };
    }

pub returns-in-None : goal.returns-in-None
returns-in-None g c =
    let old = c.args.best.now in
    let before = (goal.at.returns-in-None g c).In-None in
    let looks = looks-here g before in
    let found = sym (none-here g before) in
    let removed : Option Object → Removed ℕ = λ o. remove_found (rest_in old) (dictionary_in c.args.dict.now old) o in
    record {
      empties = record {
        kind = refl;
        region = looks.region ∙ ap (λ (o : Option Object). (removed o).region) found;
        dict = looks.dict ∙ ap (λ (o : Option Object). (removed o).dict) found;
        leaves = looks.leaves;
        disc = stays-disc (meaning g) old c.take_first.new.cells c.in-None.ensures.rest;
        gone = ap (λ (o : Option Object). told_each (option_list (removed o).gone) (g.D.DictDisc.gone c.args.kind.now)) found;
      };
    }
