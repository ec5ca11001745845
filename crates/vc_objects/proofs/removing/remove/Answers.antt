use Rattle.vc_base.proofs.Common.{option_map, sym, ap, ◌∙◌}
use Rattle.vc_dtdisc.specs.Objects.{bytes_of, first_with}
use Rattle.vc_dtdisc.proofs.ObjectsLemmas.{first_with-map}
use Rattle.vc_dict.specs.Listed.{holders_of}
use Rattle.vc_best.specs.Cells.{cells_in}
use Rattle.vc_objects.specs.Parts.{dictionary_in, object_of}
use Rattle.vc_objects.proofs.Looking.{Looks-became}
use Rattle.vc_objects.proofs.Mapped.{found-within}
use Rattle.vc_objects.proofs.Taken.{IsTaken, holder-stays, object-small, takes-found, takes-none}
use Rattle.vc_objects.proofs.removing.remove.Given.{Over}
use Rattle.vc_objects.proofs.removing.remove.Goals as goal
use Rattle.vc_objects.proofs.removing.remove.Goals.{In-Some}

-- a holder was taken out, or none
here : (g : Over) (c : In-Some g) → IsTaken (g.D.DictDisc.rules c.args.kind.now) c.args.best.now c.unlink.new.cells c.args.dict.now c.unlink.new.self c.in-Some.at.0
here g c =
    let xs = holders_of c.args.dict.now (cells_in c.args.best.now) in
    record {
      whole = c.requires.whole;
      within = found-within (g.D.DictDisc.rules c.args.kind.now) (cells_in c.args.best.now) c.args.key.now xs c.in-Some.at.0 (sym (c.in-Some.ensures.found xs c.requires.whole.stands).first);
      became = c.in-Some.ensures.dict xs c.requires.whole.stands;
    }

pub release-requires : goal.release-requires
release-requires g c =
    let taken = here g (goal.at.release-requires g c).In-Some in
    record { holder = holder-stays taken; small = (object-small taken).most; empty = c.requires.empty; room = c.requires.room }

pub returns-in-Some-clause-takes : goal.returns-in-Some-clause-takes
returns-in-Some-clause-takes g c =
    let b = cells_in c.args.best.now in
    let xs = holders_of c.args.dict.now b in
    takes-found (here g (goal.at.returns-in-Some-clause-takes g c).In-Some)
    (λ z. (goal.SegDisc-dyn g z).state z.1) c.release.new.best c.in-Some.ensures.rest c.release.ensures.freed (g.D.DictDisc.rules c.release.new.kind) c.release.ensures.rules
    (first_with bytes_of (g.D.DictDisc.rules c.args.kind.now) c.args.key.now (dictionary_in c.args.dict.now c.args.best.now).objects) c.args.tells c.release.new.out.items (g.D.DictDisc.gone c.args.kind.now) (g.D.DictDisc.gone c.release.new.kind)
    (first_with-map (object_of b) bytes_of (g.D.DictDisc.rules c.args.kind.now) c.args.key.now xs ∙ ap (option_map (object_of b)) (sym ((c.in-Some.ensures.found xs c.requires.whole.stands).first))) c.release.ensures.out c.release.ensures.gone

pub returns-in-None-clause-takes : goal.returns-in-None-clause-takes
returns-in-None-clause-takes g c =
    let rules = g.D.DictDisc.rules c.args.kind.now in
    let b = cells_in c.args.best.now in
    let xs = holders_of c.args.dict.now b in
    takes-none (λ z. (goal.SegDisc-dyn g z).state z.1) rules c.args.best.now c.unlink.new.cells c.args.dict.now c.unlink.new.self
    (first_with bytes_of (g.D.DictDisc.rules c.args.kind.now) c.args.key.now (dictionary_in c.args.dict.now c.args.best.now).objects) c.args.tells c.args.out.now.items (g.D.DictDisc.gone c.args.kind.now)
    (first_with-map (object_of b) bytes_of rules c.args.key.now xs ∙ ap (option_map (object_of b)) (sym ((c.in-None.ensures.found xs c.requires.whole.stands).first)))
    (Looks-became (λ z. (goal.SegDisc-dyn g z).state z.1) rules c.args.best.now c.unlink.new.cells c.args.dict.now c.unlink.new.self c.requires.whole
    (c.in-None.ensures.dict xs c.requires.whole.stands) c.in-None.ensures.rest)
    c.requires.empty
