use Rattle.vc_base.proofs.Common.{◌≤◌, length, sym, refl, ◌∙◌, subst, arith, Discipline}
use Rattle.vc_dict.specs.Listed.{holders_of}
use Rattle.vc_dict.proofs.OwnLemmas.{count-fits}
use Rattle.vc_best.specs.Cells.{cells_in}
use Rattle.vc_objects.specs.Parts.{IsWhole, dictionary_in}
use Rattle.vc_objects.proofs.Emptied.{emptying-all, emptying-next, emptying-start}
use Rattle.vc_objects.proofs.Remains.{counts-objects}
use Rattle.vc_objects.proofs.emptying.empty.Given.{Over}
use Rattle.vc_objects.proofs.emptying.empty.Goals as goal

-- what a region's boxed discipline means
abbrev meaning : (g : Over) → (x : g.dyn-1.0.I) × (g.dyn-1.0.entry x).0.Denot → Discipline
meaning g p = (goal.SegDisc-dyn g p).state p.1

pub overflow_cast-count : goal.overflow_cast-count
overflow_cast-count g c =
    let b = cells_in c.args.best.now in
    let whole = c.requires.whole in
    let counted = whole.stands.count in
    let fits = count-fits (g.D.DictDisc.rules c.args.kind.now) c.args.dict.now b (holders_of c.args.dict.now b) whole.stands in
    omega (arith, fits, counted)

pub loop-passed-init : goal.loop-passed-init
loop-passed-init g c =
    record { emptying = emptying-start (meaning g) (g.D.DictDisc.rules c.args.kind.now) c.args.best.now c.args.dict.now (g.D.DictDisc.gone c.args.kind.now) c.requires.whole; rules = refl }

pub loop-passed-preserved : goal.loop-passed-preserved
loop-passed-preserved g c =
    let l = c.loop-passed in
    let counted = counts-objects (g.D.DictDisc.rules c.args.kind.now) c.args.dict.now (cells_in c.args.best.now) c.requires.whole in
    let before = c.loop-passed-test.true in
    record {
      emptying =
          emptying-next (meaning g) (g.D.DictDisc.rules c.args.kind.now) c.args.best.now c.args.dict.now (g.D.DictDisc.gone c.args.kind.now) l._passed l.best l.dict (g.D.DictDisc.gone l.kind) l.invariant.emptying
          (g.D.DictDisc.rules l.kind) (g.D.DictDisc.rules c.take_one.new.kind) c.take_one.new.best c.take_one.new.dict (g.D.DictDisc.gone c.take_one.new.kind) l.invariant.rules (omega (arith, before, counted)) c.take_one.ensures.empties;
      rules = c.take_one.ensures.empties.kind ∙ l.invariant.rules;
    }

pub take_one-requires : goal.take_one-requires
take_one-requires g c =
    let e = c.loop-passed.invariant.emptying in
    record {
      whole = subst (λ z. IsWhole z c.loop-passed.dict (cells_in c.loop-passed.best)) (sym c.loop-passed.invariant.rules) e.leaves.whole;
    }

pub returns : goal.returns
returns g c =
    let rules = g.D.DictDisc.rules c.args.kind.now in
    let gone = g.D.DictDisc.gone c.args.kind.now in
    let l = c.loop-passed in
    let counted = counts-objects rules c.args.dict.now (cells_in c.args.best.now) c.requires.whole in
    let behind = c.loop-passed-test.false in
    let all : length (dictionary_in c.args.dict.now c.args.best.now).objects ≤ l._passed = omega (arith, behind, counted) in
    record {
      count = omega (arith, counted);
      empties = emptying-all (meaning g) rules c.args.best.now c.args.dict.now gone l._passed l.best l.dict (g.D.DictDisc.gone l.kind) l.invariant.emptying all (g.D.DictDisc.rules l.kind) l.invariant.rules;
    }
