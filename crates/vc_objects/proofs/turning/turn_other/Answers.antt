use Rattle.vc_base.proofs.Common.{sym, refl, ap, subst}
use Rattle.vc_model.proofs.Keeping.{NoneRefused-equal, NoneRefused-trans}
use Rattle.vc_best.specs.Cells.{cells_in, rest_in}
use Rattle.vc_best.specs.Parts.{disc_in}
use Rattle.vc_objects.specs.Leaves.{LacksTable, RefusedBy}
use Rattle.vc_dict.specs.Methods.{slots_between}
use Rattle.vc_objects.specs.Parts.{dictionary_in, dictionary_of}
use Rattle.vc_objects.proofs.Bringing.{can-turn, dictionary-brought}
use Rattle.vc_objects.proofs.Brought.{gives-turned, refuses-turned}
use Rattle.vc_objects.proofs.Remains.{counts-objects, leaves-refused, leaves-turned}
use Rattle.vc_objects.proofs.turning.turn_other.Goals as goal

pub turn_to-requires-clause-can : goal.turn_to-requires-clause-can
turn_to-requires-clause-can g c =
    can-turn (g.D.DictDisc.rules c.args.kind.now) c.args.method c.args.dict.now (cells_in c.args.best.now) (cells_in c.bring.new.best) c.in-Ok.table.at.0 c.in-Ok.table.slots
    c.requires.ask.whole c.in-Ok.ensures.brings.answer.1

pub returns-in-Ok : goal.returns-in-Ok
returns-in-Ok g c =
    let rules = g.D.DictDisc.rules c.args.kind.now in
    let d = c.args.dict.now in
    let r = c.args.best.now in
    let table = c.in-Ok.table in
    let brought = c.in-Ok.ensures.brings in
    let t = c.turn_to.ensures.turns in
    let around = c.turn_to.ensures.around in
    record {
      turns =
          record {
            kind = c.turn_to.ensures.rules;
            answer =
                gives-turned rules (disc_in (λ z. (goal.SegDisc-dyn g z).state z.1) r).terms c.args.method (rest_in r) (dictionary_in d r) d.count c.requires.other (counts-objects rules d (cells_in r) c.requires.ask.whole)
                (rest_in c.bring.new.best) (rest_in c.turn_to.new.best) (dictionary_in d c.bring.new.best) (dictionary_in c.turn_to.new.dict c.turn_to.new.best) table.at.0 table.slots
                (g.D.DictDisc.gone c.args.kind.now) (g.D.DictDisc.gone c.turn_to.new.kind)
                (dictionary-brought rules c.args.method d (cells_in r) (cells_in c.bring.new.best) table.at.0 table.slots c.requires.ask.whole brought.answer.1)
                brought.answer.0 t.region t.dict t.gone;
            leaves =
                leaves-turned (λ z. (goal.SegDisc-dyn g z).state z.1) rules d c.args.method c.turn_to.new.dict r c.bring.new.best c.turn_to.new.best
                table.at.0 table.slots c.requires.ask.whole brought.answer.1 t.table t.within t.others
                t.whole t.kind brought.disc around.disc around.segments brought.labelled around.labelled;
            asked = NoneRefused-trans _ _ _ brought.asked (NoneRefused-equal _ _ around.disc);
          };
    }

pub returns-in-Err : goal.returns-in-Err
returns-in-Err g c =
    let rules = g.D.DictDisc.rules c.args.kind.now in
    let d = c.args.dict.now in
    let old = disc_in (λ z. (goal.SegDisc-dyn g z).state z.1) c.args.best.now in
    let new = disc_in (λ z. (goal.SegDisc-dyn g z).state z.1) c.bring.new.best in
    let counts = counts-objects rules d (cells_in c.args.best.now) c.requires.ask.whole in
    let brought = c.in-Err.ensures.brings in
    record {
      turns =
          record {
            kind = refl;
            answer = (
              refuses-turned rules old.terms c.args.method (rest_in c.args.best.now) (dictionary_in d c.args.best.now) d.count c.requires.other counts c.in-Err.why brought.answer.0,
              record { region = brought.answer.1; dict = ap (λ b. dictionary_of d b) brought.answer.2 },
              refl,
            );
            leaves =
                leaves-refused (λ z. (goal.SegDisc-dyn g z).state z.1) rules d c.args.best.now c.bring.new.best c.requires.ask.whole
                brought.disc brought.answer.1 brought.answer.2;
            asked =
                subst (λ n. RefusedBy c.in-Err.why (LacksTable (slots_between d.method c.args.method n) old new) old new)
                (sym counts) brought.asked;
          };
    }

pub bring-requires : goal.bring-requires
bring-requires g c = record { lent = c.requires.ask.lent }
