use Rattle.vc_base.proofs.Common.{sym, subst, Discipline}
use Rattle.vc_store.proofs.Shown.{object-is}
use Rattle.vc_store.proofs.Told.{Shows, shows}
use Rattle.vc_store.proofs.calls.put.Given.{Over}
use Rattle.vc_store.proofs.calls.put.Goals as goal

-- what a region's boxed discipline means
abbrev meaning : (g : Over) → (x : g.dyn-1.0.I) × (g.dyn-1.0.entry x).0.Denot → Discipline
meaning g p = (goal.SegDisc-dyn g p).state p.1

pub put-requires-clause-object : goal.put-requires-clause-object
put-requires-clause-object g c = object-is c.args.object.now (sym c.if-not-is_object.ensures)

pub returns : goal.returns
returns g c =
    let rules = g.D.DictDisc.rules c.args.kind.now in
    let put = c.put.ensures in
    let shown : Shows (meaning g) rules c.args.object.now c.args.best.now c.put.new.best c.args.dict.now c.put.new.dict c.told_by.result =
    subst (Shows (meaning g) rules c.args.object.now c.args.best.now c.put.new.best c.args.dict.now c.put.new.dict) (sym c.told_by.ensures)
    (shows (meaning g) rules c.args.object.now c.args.best.now c.put.new.best c.args.dict.now c.put.new.dict (sym c.if-not-is_object.ensures) put.leaves c.put.result put.matched put.looks put.inserts) in
    record {
      objects = shown.objects;
      place = shown.place;
      method = shown.method;
      tried = shown.tried;
      leaves = put.leaves;
    }
