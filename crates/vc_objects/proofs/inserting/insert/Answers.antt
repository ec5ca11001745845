use Rattle.vc_base.proofs.Common.{◌≡◌, ℕ, ◌+◌, ◌≤◌, false, List, length, None, sym, ap, ◌∙◌, subst, inl, inr, arith, is_list, is_set, Discipline}
use Rattle.vc_dtdisc.specs.Objects.{Object, bytes_of, first_with}
use Rattle.vc_model.proofs.Keeping.{NoneRefused-trans}
use Rattle.vc_best.specs.Cells.{rest_in}
use Rattle.vc_best.specs.Parts.{disc_in}
use Rattle.vc_objects.specs.Insert.{slots_wanted}
use Rattle.vc_objects.specs.Leaves.{LacksHolder, LacksTable}
use Rattle.vc_objects.specs.Parts.{dictionary_in}
use Rattle.vc_objects.specs.Promises.{growth_in}
use Rattle.vc_objects.proofs.Answering.{asked-no_holder, asked-no_table, asked-spent, grown-kept, grown-still, inserted-no_holder, inserted-no_table, inserted-stored, rest-trans}
use Rattle.vc_objects.proofs.Leaving.{keeps-out}
use Rattle.vc_objects.proofs.inserting.insert.Given.{Over}
use Rattle.vc_objects.proofs.inserting.insert.Goals as goal
use Rattle.vc_objects.proofs.inserting.insert.Goals.{In-Ok}

-- what a region's boxed discipline means
abbrev meaning : (g : Over) → (x : g.dyn-1.0.I) × (g.dyn-1.0.entry x).0.Denot → Discipline
meaning g p = (goal.SegDisc-dyn g p).state p.1

-- the table grew, and the objects stay
kept : (g : Over) (c : In-Ok g) → (dictionary_in c.grow.new.dict c.grow.new.best).objects ≡ (dictionary_in c.args.dict.now c.args.best.now).objects
kept g c = (grown-kept _ (rest_in c.args.best.now) (dictionary_in c.args.dict.now c.args.best.now) (slots_wanted (dictionary_in c.args.dict.now c.args.best.now)) (rest_in c.grow.new.best) (dictionary_in c.grow.new.dict c.grow.new.best) c.in-Ok.ensures.grows.ok).1

method-kept : (g : Over) (c : In-Ok g) → c.grow.new.dict.method ≡ c.args.dict.now.method
method-kept g c = (grown-kept _ (rest_in c.args.best.now) (dictionary_in c.args.dict.now c.args.best.now) (slots_wanted (dictionary_in c.args.dict.now c.args.best.now)) (rest_in c.grow.new.best) (dictionary_in c.grow.new.dict c.grow.new.best) c.in-Ok.ensures.grows.ok).0

-- what is compared for as many objects
more : (g : Over) (c : In-Ok g) (steps : ℕ) → steps ≤ c.args.steps.now + length (dictionary_in c.grow.new.dict c.grow.new.best).objects → steps ≤ c.args.steps.now + length (dictionary_in c.args.dict.now c.args.best.now).objects
more g c steps h = subst (λ (os : List Object). steps ≤ c.args.steps.now + length os) (kept g c) h

pub hold-requires-clause-can : goal.hold-requires-clause-can
hold-requires-clause-can g c =
    let here = (goal.at.hold-requires-clause-can g c).In-Ok in
    let rules = g.D.DictDisc.rules c.args.kind.now in
    record {
      ask = record {
        whole = c.grow.ensures.leaves.whole;
        lent = keeps-out _ _ _ _ c.grow.ensures.leaves.rest.disc c.requires.can.ask.lent;
      };
      lone = λ set. ap (first_with bytes_of rules (rules.key c.args.object.now)) (kept g here) ∙ c.requires.can.lone (sym (ap is_set (method-kept g here)) ∙ set);
      object = c.requires.can.object;
      list = λ append. ap is_list (method-kept g here) ∙ c.requires.can.list append;
    }

pub returns-in-Ok-hold : goal.returns-in-Ok-hold
returns-in-Ok-hold g c =
    let holds = c.in-Ok-hold.ensures.holds in
    record {
      inserts = record {
        ok =
            inserted-stored _ _ (rest_in c.args.best.now) (dictionary_in c.args.dict.now c.args.best.now) c.args.append c.args.object.now _ _ (rest_in c.grow.new.best) (dictionary_in c.grow.new.dict c.grow.new.best)
            (rest_in c.hold.new.best) (dictionary_in c.hold.new.dict c.hold.new.best) c.grow.ensures.leaves.rest.disc.kept.terms c.in-Ok.ensures.grows.ok holds.ok;
        err = tt;
        leaves = rest-trans _ _ c.args.best.now c.grow.new.best c.hold.new.best c.args.dict.now c.grow.new.dict c.hold.new.dict c.grow.ensures.leaves c.hold.ensures.leaves (kept g (goal.at.returns-in-Ok-hold g c).In-Ok) c.hold.ensures.table;
        asked = NoneRefused-trans _ _ _ c.in-Ok.ensures.grows.asked holds.asked;
      };
      compares = more g (goal.at.returns-in-Ok-hold g c).In-Ok c.hold.new.steps c.hold.ensures.compares;
    }

pub returns-in-Some : goal.returns-in-Some
returns-in-Some g c =
    let old = dictionary_in c.args.dict.now c.args.best.now in
    let terms = c.grow.ensures.leaves.rest.disc.kept.terms in
    record {
      inserts = record {
        ok =
            inserted-no_holder _ _ (rest_in c.args.best.now) old c.args.append c.args.object.now _ _ (rest_in c.grow.new.best) (dictionary_in c.grow.new.dict c.grow.new.best)
            (rest_in c.hold.new.best) (dictionary_in c.hold.new.dict c.hold.new.best) c.in-Err-hold.fault c.in-Some.want terms c.in-Ok.ensures.grows.ok c.in-Err-hold.ensures.holds.err.0 (sym c.in-Some.ensures)
            c.in-Err-hold.ensures.holds.err.1.region c.in-Err-hold.ensures.holds.err.1.dict;
        err = tt;
        leaves = rest-trans _ _ c.args.best.now c.grow.new.best c.hold.new.best c.args.dict.now c.grow.new.dict c.hold.new.dict c.grow.ensures.leaves c.hold.ensures.leaves (kept g (goal.at.returns-in-Some g c).In-Ok) c.hold.ensures.table;
        asked =
            asked-no_holder (slots_wanted old) c.args.object.now (disc_in (meaning g) c.args.best.now) (disc_in (meaning g) c.grow.new.best) (disc_in (meaning g) c.hold.new.best)
            c.in-Err-hold.fault c.in-Some.want (sym c.in-Some.ensures) c.grow.ensures.same c.in-Ok.ensures.grows.asked c.in-Err-hold.ensures.holds.asked;
      };
      compares = more g (goal.at.returns-in-Some g c).In-Ok c.hold.new.steps c.hold.ensures.compares;
    }

pub returns-in-None : goal.returns-in-None
returns-in-None g c =
    let grown = dictionary_in c.grow.new.dict c.grow.new.best in
    let held = dictionary_in c.hold.new.dict c.hold.new.best in
    let grows = c.in-Ok.ensures.grows in
    let holds = c.in-Err-hold.ensures.holds in
    let mid = disc_in (meaning g) c.grow.new.best in
    let new = disc_in (meaning g) c.hold.new.best in
    record {
      inserts = record {
        ok = tt;
        err = inr (grown-still (growth_in (meaning g) c.args.best.now c.args.dict.now false) (rest_in c.grow.new.best) (rest_in c.hold.new.best) grown held grows.ok holds.err.1.region holds.err.1.dict);
        leaves = rest-trans _ _ c.args.best.now c.grow.new.best c.hold.new.best c.args.dict.now c.grow.new.dict c.hold.new.dict c.grow.ensures.leaves c.hold.ensures.leaves (kept g (goal.at.returns-in-None g c).In-Ok) c.hold.ensures.table;
        asked = NoneRefused-trans _ mid new grows.asked (asked-spent (LacksHolder None c.args.object.now mid new) mid new c.in-Err-hold.fault (sym c.in-None.ensures) holds.asked);
      };
      compares = more g (goal.at.returns-in-None g c).In-Ok c.hold.new.steps c.hold.ensures.compares;
    }

pub returns-in-Some-want_of : goal.returns-in-Some-want_of
returns-in-Some-want_of g c =
    let old = dictionary_in c.args.dict.now c.args.best.now in
    record {
      inserts = record {
        ok =
            inserted-no_table (g.D.DictDisc.rules c.args.kind.now) _ (rest_in c.args.best.now) old c.args.append c.args.object.now (rest_in c.grow.new.best) (dictionary_in c.grow.new.dict c.grow.new.best)
            c.in-Err.fault c.in-Some-want_of.want c.in-Err.ensures.grows.err.0 (sym c.in-Some-want_of.ensures) c.in-Err.ensures.grows.err.1.region c.in-Err.ensures.grows.err.1.dict;
        err = tt;
        leaves = c.grow.ensures.leaves;
        asked =
            asked-no_table (slots_wanted old) c.args.object.now (disc_in (meaning g) c.args.best.now) (disc_in (meaning g) c.grow.new.best)
            c.in-Err.fault c.in-Some-want_of.want (sym c.in-Some-want_of.ensures) c.in-Err.ensures.grows.asked;
      };
      compares = omega arith;
    }

pub returns-in-None-want_of : goal.returns-in-None-want_of
returns-in-None-want_of g c =
    let old = disc_in (meaning g) c.args.best.now in
    let new = disc_in (meaning g) c.grow.new.best in
    let grows = c.in-Err.ensures.grows in
    record {
      inserts = record {
        ok = tt;
        err = inl (grows.err.1.region, grows.err.1.dict);
        leaves = c.grow.ensures.leaves;
        asked = asked-spent (LacksTable (slots_wanted (dictionary_in c.args.dict.now c.args.best.now)) old new) old new c.in-Err.fault (sym c.in-None-want_of.ensures) grows.asked;
      };
      compares = omega arith;
    }
