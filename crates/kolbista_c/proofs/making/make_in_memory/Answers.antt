use Rattle.vc_base.proofs.Common.{◌≡◌, List, Some, arith, length, length-map, option_map, refl, ◌∙◌, subst, Discipline}
use Rattle.kolbista_c.specs.Making.{kind_gone, kind_rules}
use Rattle.vc_dtdisc.specs.Rules.{Rules}
use Rattle.vc_image_run.specs.Tool.Making.{Makes}
use Rattle.vc_seg.specs.Boxed.{disc_in_box}
use Rattle.vc_session.specs.Streams.{Streams}
use Rattle.vc_steps.specs.Account.{account}
use Rattle.vc_steps.specs.Homes.{slots_on}
use Rattle.vc_steps.specs.Moment.{moment_at_rest}
use Rattle.kolbista_c.proofs.making.make_in_memory.Given as given
use Rattle.kolbista_c.proofs.making.make_in_memory.Goals as goal

abbrev meaning : (g : given.Over) → (x : g.dyn-1.0.I) × (g.dyn-1.0.entry x).0.Denot → Discipline
meaning g p = (g.dyn-1.0.entry p.0).1.state p.1

pub returns-clause-ok : goal.returns-clause-ok
returns-clause-ok g c =
    let M = meaning g in
    let all : length c.args.shelf.now.slots.items ≡ 18 = omega (arith, c.requires.shelf, c.args.shelf.now.slots.ok.0) in
    let start = moment_at_rest M kind_rules kind_gone c.args.shelf.now c.in_ok-kinds.kinds.items in
    let last = moment_at_rest M kind_rules kind_gone c.make-image.new.shelf c.make-image.new.kinds.items in
    let streams : Streams = record {
      left = Some c.make-image.new.source.left.now;
      reads = 0;
      written = Some c.make-image.new.out.written;
      writes = c.make-image.new.out.faults;
      told = Some c.make-image.new.err.written;
      errors = c.make-image.new.err.faults;
    } in
    record {
      image = c.make-image.result;
      last = streams;
      written = c.make-image.new.out.written;
      told = c.make-image.new.err.written;
      done = record {
        start = start;
        last = last;
        places = length-map (slots_on M c.args.shelf.now) (option_map account) ∙ (length-map c.args.shelf.now.slots.items (option_map (disc_in_box M)) ∙ all);
        kinds = c.in_ok-kinds.ensures;
        makes = subst (λ (z : List Rules × Streams). Makes z.0 c.make-image.result start last z.1 streams)
            (λ i. (c.in_ok-kinds.ensures i, record { left = Some c.args.script.now; reads = 0; written = Some (c.in_ok-written.ensures.written.0 i); writes = c.in_ok-written.ensures.written.1 i; told = Some (c.in_ok-written.ensures.told.0 i); errors = c.in_ok-written.ensures.told.1 i }))
            c.make-image.ensures.makes;
        keeps = c.make-image.ensures.keeps.disciplines;
      };
      wrote = refl;
      said = refl;
      code = c.fill_all.ensures.code;
      remade = c.fill_all.ensures.made;
      replied = c.fill_all.ensures.written;
      faulted = c.fill_all.ensures.told;
    }
