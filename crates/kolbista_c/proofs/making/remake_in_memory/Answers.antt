use Rattle.vc_base.proofs.Common.{◌≡◌, Some, arith, length, length-map, option_map, refl, ◌∙◌, subst, Discipline}
use Rattle.kolbista_c.specs.Making.{kind_gone, kind_rules}
use Rattle.vc_image_run.specs.Tool.Making.{MakesOver}
use Rattle.vc_seg.specs.Boxed.{disc_in_box}
use Rattle.vc_session.specs.Streams.{Streams}
use Rattle.vc_steps.specs.Homes.{slots_on}
use Rattle.kolbista_c.proofs.making.remake_in_memory.Given as given
use Rattle.kolbista_c.proofs.making.remake_in_memory.Goals as goal

abbrev meaning : (g : given.Over) → (x : g.dyn-1.0.I) × (g.dyn-1.0.entry x).0.Denot → Discipline
meaning g p = (g.dyn-1.0.entry p.0).1.state p.1

pub returns-clause-ok : goal.returns-clause-ok
returns-clause-ok g c =
    let M = meaning g in
    let all : length c.args.shelf.now.slots.items ≡ 18 = omega (arith, c.requires.shelf, c.args.shelf.now.slots.ok.0) in
    let slots = slots_on M c.args.shelf.now in
    let after = slots_on M c.remake-remade.new.shelf in
    let streams : Streams = record {
      left = Some c.remake-remade.new.source.left.now;
      reads = 0;
      written = Some c.remake-remade.new.out.written;
      writes = c.remake-remade.new.out.faults;
      told = Some c.remake-remade.new.err.written;
      errors = c.remake-remade.new.err.faults;
    } in
    record {
      image = c.remake-remade.result;
      last = streams;
      written = c.remake-remade.new.out.written;
      told = c.remake-remade.new.err.written;
      done = record {
        slots = slots;
        kinds = c.in_ok-kinds.kinds.items;
        slots' = after;
        kinds' = c.remake-remade.new.kinds.items;
        places = length-map c.args.shelf.now.slots.items (option_map (disc_in_box M)) ∙ all;
        rules = c.in_ok-kinds.ensures;
        makes = subst (λ (z : Streams). MakesOver kind_rules kind_gone 1 c.args.image.now slots c.in_ok-kinds.kinds.items c.remake-remade.result after c.remake-remade.new.kinds.items z streams)
            (λ i. record { left = Some c.args.script.now; reads = 0; written = Some (c.in_ok-written.ensures.written.0 i); writes = c.in_ok-written.ensures.written.1 i; told = Some (c.in_ok-written.ensures.told.0 i); errors = c.in_ok-written.ensures.told.1 i })
            c.remake-remade.ensures.makes;
        keeps = c.remake-remade.ensures.keeps.disciplines;
      };
      wrote = refl;
      said = refl;
      code = c.fill_all.ensures.code;
      remade = c.fill_all.ensures.made;
      replied = c.fill_all.ensures.written;
      faulted = c.fill_all.ensures.told;
    }
