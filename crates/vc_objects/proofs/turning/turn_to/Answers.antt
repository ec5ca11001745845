use Rattle.vc_dict.specs.Listed.{holders_of}
use Rattle.vc_dict.specs.Turned.{Remethoded}
use Rattle.vc_dict.proofs.OwnLemmas.{holders-distinct}
use Rattle.vc_best.specs.Cells.{cells_in, rest_in}
use Rattle.vc_objects.specs.Turning.{Frees}
use Rattle.vc_objects.proofs.Parted.{distinct-drops, drops}
use Rattle.vc_objects.proofs.Turned.{can-remethod, count-dropped, fewer-turned, has-dropped, left-there, turns-to}
use Rattle.vc_objects.proofs.turning.turn_to.Goals as goal
use Rattle.vc_objects.proofs.turning.turn_to.Given.{Over}
use Rattle.vc_objects.proofs.turning.turn_to.Goals.{After-drop_all, After-remethod-dropped}
use Rattle.vc_dict.specs.Stands.{slots_in}

-- the dictionary was turned, and then what it dropped went
turned : (g : Over) (c : After-remethod-dropped g)
    → Remethoded (g.D.DictDisc.rules c.args.kind.now) c.args.method c.args.table.at.0 c.args.table.slots (holders_of c.args.dict.now (cells_in c.args.best.now)) c.args.dict.now (cells_in c.args.best.now)
    c.remethod-dropped.new.self (cells_in c.remethod-dropped.new.cells) c.remethod-dropped.result
turned g c = c.remethod-dropped.ensures.dict c.requires.other (holders_of c.args.dict.now (cells_in c.args.best.now)) c.requires.can.whole.stands

gone : (g : Over) (c : After-drop_all g)
    → Frees (drops c.args.method (g.D.DictDisc.rules c.args.kind.now) (cells_in c.args.best.now) (holders_of c.args.dict.now (cells_in c.args.best.now)))
    (cells_in c.remethod-dropped.new.cells) (rest_in c.remethod-dropped.new.cells) (g.D.DictDisc.gone c.args.kind.now) (cells_in c.drop_all.new.best) (rest_in c.drop_all.new.best) (g.D.DictDisc.gone c.drop_all.new.kind)
gone g c =
    let rules = g.D.DictDisc.rules c.args.kind.now in
    let b = cells_in c.args.best.now in
    let hs = holders_of c.args.dict.now b in
    let m = c.remethod-dropped in
    let done = m.ensures.dict c.requires.other hs c.requires.can.whole.stands in
    c.drop_all.ensures.frees (drops c.args.method rules b hs) done.dropped (distinct-drops c.args.method rules b hs (holders-distinct _ _ _ _ c.requires.can.whole.stands))
    (count-dropped rules c.args.method c.args.dict.now b c.args.table.at.0 c.args.table.slots c.requires.can m.new.self (cells_in m.new.cells) m.result done)

pub remethod-dropped-requires : goal.remethod-dropped-requires
remethod-dropped-requires g c =
    can-remethod (g.D.DictDisc.rules c.args.kind.now) c.args.method c.args.dict.now (cells_in c.args.best.now) c.args.table.at.0 c.args.table.slots c.requires.can

pub overflow_sub-before : goal.overflow_sub-before
overflow_sub-before g c =
    fewer-turned (g.D.DictDisc.rules c.args.kind.now) c.args.method c.args.dict.now (cells_in c.args.best.now) c.args.table.at.0 c.args.table.slots c.requires.can
    c.remethod-dropped.new.self (cells_in c.remethod-dropped.new.cells) c.remethod-dropped.result (turned g (goal.at.overflow_sub-before g c).After-remethod-dropped)

pub drop_all-requires : goal.drop_all-requires
drop_all-requires g c =
    record {
      dropped =
          has-dropped (g.D.DictDisc.rules c.args.kind.now) c.args.method c.args.dict.now (cells_in c.args.best.now) c.args.table.at.0 c.args.table.slots c.requires.can
          c.remethod-dropped.new.self (cells_in c.remethod-dropped.new.cells) c.remethod-dropped.result (turned g (goal.at.drop_all-requires g c).After-remethod-dropped);
    }

pub free_table-requires : goal.free_table-requires
free_table-requires g c =
    record {
      there =
          left-there (g.D.DictDisc.rules c.args.kind.now) c.args.method c.args.dict.now (cells_in c.args.best.now) c.args.table.at.0 c.args.table.slots c.requires.can
          c.remethod-dropped.new.self (cells_in c.remethod-dropped.new.cells) c.remethod-dropped.result (turned g (goal.at.free_table-requires g c).After-remethod-dropped)
          (cells_in c.drop_all.new.best) (gone g (goal.at.free_table-requires g c).After-drop_all).others;
    }

pub returns-clause-turns : goal.returns-clause-turns
returns-clause-turns g c =
    turns-to (g.D.DictDisc.rules c.args.kind.now) c.args.method c.args.dict.now c.args.table.at.0 c.args.table.slots c.args.best.now c.remethod-dropped.new.cells c.drop_all.new.best c.free_table.new.best c.requires.can
    c.remethod-dropped.new.self c.remethod-dropped.result (turned g (goal.at.returns-clause-turns g c).After-remethod-dropped) c.remethod-dropped.ensures.rest.layout
    (g.D.DictDisc.gone c.args.kind.now) (g.D.DictDisc.gone c.drop_all.new.kind) (gone g (goal.at.returns-clause-turns g c).After-drop_all)
    (c.free_table.ensures.rest (slots_in c.args.dict.now)) c.free_table.ensures.others
