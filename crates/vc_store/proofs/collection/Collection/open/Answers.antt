use Rattle.vc_base.proofs.Common.{false, Some, None, ap, if◌then◌else◌, Discipline, has_table}
use Rattle.vc_best.specs.Cells.{rest_in}
use Rattle.vc_best.specs.Parts.{disc_in, segments_in}
use Rattle.vc_objects.specs.Insert.{empty_dictionary}
use Rattle.vc_objects.specs.Parts.{dictionary_in}
use Rattle.vc_objects.proofs.Leaving.{keeps-out}
use Rattle.vc_store.specs.Contents.{contents_of}
use Rattle.vc_store.proofs.Shown.{grown-same}
use Rattle.vc_store.proofs.collection.Collection.open.Given.{Over}
use Rattle.vc_store.proofs.collection.Collection.open.Goals as goal

-- what a region's boxed discipline means
abbrev meaning : (g : Over) → (x : g.dyn-1.0.I) × (g.dyn-1.0.entry x).0.Denot → Discipline
meaning g p = (goal.SegDisc-dyn g p).state p.1

pub returns-in-Ok-clause-empty : goal.returns-in-Ok-clause-empty
returns-in-Ok-clause-empty g c =
    ap contents_of
    (grown-same (disc_in (meaning g) c.args.best).terms (rest_in c.args.best) (empty_dictionary c.args.method) false (if has_table c.args.method then Some 16 else None)
    (rest_in c.open.new.best) (dictionary_in c.in-Ok.dict c.open.new.best) c.in-Ok.ensures.ok.grown)

pub returns-in-Ok-clause-open : goal.returns-in-Ok-clause-open
returns-in-Ok-clause-open g c = record {
  whole = c.in-Ok.ensures.ok.whole;
  lent =
      keeps-out (disc_in (meaning g) c.args.best) (disc_in (meaning g) c.open.new.best) (segments_in c.args.best) (segments_in c.open.new.best) c.in-Ok.ensures.ok.leaves.disc c.requires.lent;
}

pub returns-in-Ok-clause-lends : goal.returns-in-Ok-clause-lends
returns-in-Ok-clause-lends g c = c.in-Ok.ensures.ok.leaves.disc
