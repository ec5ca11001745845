use Rattle.vc_base.proofs.Common.{true}
use Rattle.vc_dtdisc.specs.Finding.{first_of}
use Rattle.vc_dict.specs.Listed.{holders_of}
use Rattle.vc_best.specs.Cells.{cells_in}
use Rattle.vc_objects.specs.Parts.{dictionary_in}
use Rattle.vc_objects.proofs.Looking.{Looks-became}
use Rattle.vc_objects.proofs.Taken.{IsTaken, first-object, holder-stays, object-small, taken-first, takes-found, takes-none}
use Rattle.vc_objects.proofs.removing.remove_first.Given.{Over}
use Rattle.vc_objects.proofs.removing.remove_first.Goals as goal
use Rattle.vc_objects.proofs.removing.remove_first.Goals.{In-Some}

-- the first holder was taken out, or there was none
here : (g : Over) (c : In-Some g) → IsTaken (g.D.DictDisc.rules c.args.kind.now) c.args.best.now c.take_first.new.cells c.args.dict.now c.take_first.new.self c.in-Some.at.0
here g c = taken-first c.requires.whole (c.in-Some.ensures.first _ c.requires.whole.stands) (c.in-Some.ensures.dict _ c.requires.whole.stands)

pub release-requires : goal.release-requires
release-requires g c =
    let taken = here g (goal.at.release-requires g c).In-Some in
    record { holder = holder-stays taken; small = (object-small taken).most; empty = c.requires.empty; room = c.requires.room }

pub returns-in-Some : goal.returns-in-Some
returns-in-Some g c =
    record {
      takes =
          takes-found (here g (goal.at.returns-in-Some g c).In-Some)
          (λ z. (goal.SegDisc-dyn g z).state z.1) c.release.new.best c.in-Some.ensures.rest c.release.ensures.freed (g.D.DictDisc.rules c.release.new.kind) c.release.ensures.rules
          (first_of (dictionary_in c.args.dict.now c.args.best.now).objects) true c.release.new.out.items (g.D.DictDisc.gone c.args.kind.now) (g.D.DictDisc.gone c.release.new.kind)
          (first-object (cells_in c.args.best.now) (holders_of c.args.dict.now (cells_in c.args.best.now)) _ (c.in-Some.ensures.first _ c.requires.whole.stands)) c.release.ensures.out c.release.ensures.gone;
    }

pub returns-in-None : goal.returns-in-None
returns-in-None g c =
    record {
      takes =
          takes-none (λ z. (goal.SegDisc-dyn g z).state z.1) (g.D.DictDisc.rules c.args.kind.now) c.args.best.now c.take_first.new.cells c.args.dict.now c.take_first.new.self
          (first_of (dictionary_in c.args.dict.now c.args.best.now).objects) true c.args.out.now.items (g.D.DictDisc.gone c.args.kind.now)
          (first-object (cells_in c.args.best.now) (holders_of c.args.dict.now (cells_in c.args.best.now)) _ (c.in-None.ensures.first _ c.requires.whole.stands))
          (Looks-became (λ z. (goal.SegDisc-dyn g z).state z.1) (g.D.DictDisc.rules c.args.kind.now) c.args.best.now c.take_first.new.cells c.args.dict.now c.take_first.new.self c.requires.whole
          (c.in-None.ensures.dict _ c.requires.whole.stands) c.in-None.ensures.rest)
          c.requires.empty;
    }
