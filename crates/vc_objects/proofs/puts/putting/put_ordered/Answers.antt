use Rattle.vc_base.proofs.Common.{is_some, false, true, not, sym, ap, subst, Discipline}
use Rattle.vc_dict.specs.Listed.{holders_of}
use Rattle.vc_dict.specs.Stands.{Became, Stands}
use Rattle.vc_best.specs.Cells.{StaysButCells, cells_in}
use Rattle.vc_objects.specs.Leaves.{LeavesRest, Looks}
use Rattle.vc_objects.specs.Parts.{dictionary_in}
use Rattle.vc_objects.specs.Promises.{Holds, Inserts}
use Rattle.vc_objects.proofs.Looking.{Looks-became}
use Rattle.vc_objects.proofs.JoinLemmas.{ordered-form}
use Rattle.vc_objects.proofs.PutLemmas.{few-steps, matched-key, no-room-wanted, ord-read}
use Rattle.vc_objects.proofs.ToldLemmas.{inserts-told}
use Rattle.vc_objects.specs.Puts.Joins.{LacksKey}
use Rattle.vc_objects.specs.Puts.Puts.{CanHold}
use Rattle.vc_objects.proofs.puts.putting.put_ordered.Given.{Over}
use Rattle.vc_objects.proofs.puts.putting.put_ordered.Goals as goal

-- what a region's boxed discipline means
abbrev meaning : (g : Over) → (x : g.dyn-1.0.I) × (g.dyn-1.0.entry x).0.Denot → Discipline
meaning g p = (goal.SegDisc-dyn g p).state p.1

pub returns-in-Taken : goal.returns-in-Taken
returns-in-Taken g c =
    let rules = g.D.DictDisc.rules c.args.kind.now in
    let old = c.args.best.now in
    let new = c.lean.new.cells in
    let dict = c.args.dict.now in
    let dict' = c.lean.new.dict in
    let b = cells_in old in
    let xs = holders_of dict b in
    let object = c.args.object.now in
    let whole = c.requires.ask.whole in
    let same = c.place_for.ensures.same in
    let lead = c.in-Taken.ensures.place xs (ord-read rules dict c.args.ord b c.requires.form whole) in
    let looks : Looks (meaning g) rules old dict new dict' =
    Looks-became (meaning g) rules old new dict dict' whole
    (subst (λ r. Became rules xs dict (cells_in r) dict' (cells_in new) xs dict.current.0) same (c.lean.ensures.dict rules xs (subst (λ r. Stands rules dict (cells_in r) xs) (sym same) whole.stands)))
    (subst (λ r. StaysButCells r new) same c.lean.ensures.rest) in
    record {
      matched = sym (ap not (matched-key rules object dict b c.key.result.now true c.requires.set c.key.ensures lead.place_is.found));
      looks = looks;
      inserts = tt;
      leaves = looks.leaves;
      compares = few-steps b xs c.args.steps.now c.place_for.new.steps lead.steps;
    }

pub returns-in-Free : goal.returns-in-Free
returns-in-Free g c =
    let rules = g.D.DictDisc.rules c.args.kind.now in
    let old = c.args.best.now in
    let new = c.hold_below.new.best in
    let dict = c.args.dict.now in
    let dict' = c.hold_below.new.dict in
    let b = cells_in old in
    let xs = holders_of dict b in
    let object = c.args.object.now in
    let whole = c.requires.ask.whole in
    let same = c.place_for.ensures.same in
    let lead = c.in-Free.ensures.place xs (ord-read rules dict c.args.ord b c.requires.form whole) in
    let can : CanHold rules dict b c.args.ord object c.in-Free.above c.in-Free.left = record {
      whole = whole;
      form = c.requires.form;
      order = (g.met.D.DictDisc.lawful c.args.kind.now).order;
      object = c.requires.object;
      start = c.args.steps.now;
      now = c.place_for.new.steps;
      place = subst (λ key. LacksKey rules c.args.ord b key xs c.in-Free.above c.in-Free.left c.args.steps.now c.place_for.new.steps) c.key.ensures lead.place_is;
    } in
    let there = subst (λ r. CanHold rules dict (cells_in r) c.args.ord object c.in-Free.above c.in-Free.left) (sym same) can in
    let leaves = subst (λ r. LeavesRest (meaning g) rules r dict new dict') same (c.hold_below.ensures.leaves rules there) in
    let holds = subst (λ r. Holds (meaning g) c.hold_below.result rules false object r dict new dict') same (c.hold_below.ensures.holds rules there) in
    record {
      matched = sym (ap not (matched-key rules object dict b c.key.result.now false c.requires.set c.key.ensures (ap is_some lead.place_is.none)));
      looks = tt;
      inserts =
          subst (λ r. Inserts (meaning g) r rules false object old dict new dict') (sym c.told_by.ensures)
          (inserts-told (meaning g) rules object old new dict dict' (no-room-wanted (dictionary_in dict old) (ordered-form dict c.args.ord c.requires.form whole.stands.form)) leaves c.hold_below.result holds);
      leaves = leaves;
      compares = few-steps b xs c.args.steps.now c.place_for.new.steps lead.steps;
    }
