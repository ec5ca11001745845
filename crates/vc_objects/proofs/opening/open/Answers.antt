use Rattle.vc_base.proofs.Common.{ℕ, [], Some, Err, sym, refl, ◌∙◌, subst, Discipline}
use Rattle.vc_model.proofs.Keeping.{NoneRefused-same}
use Rattle.vc_best.specs.Cells.{cells_in, rest_in}
use Rattle.vc_best.specs.Parts.{disc_in}
use Rattle.vc_dict.specs.declared.dict.Dict.{Dict}
use Rattle.vc_objects.specs.Leaves.{AskedTable}
use Rattle.vc_objects.specs.Objects.{own_blocks}
use Rattle.vc_objects.specs.Parts.{dictionary_in}
use Rattle.vc_objects.proofs.Emptiness.{IsNew, first-slots, grows-first, opened-plain, opened-refused, opened-table, owned-none, whole-empty}
use Rattle.vc_objects.proofs.Leaving.{keeps-same, leaves-from, leaves-still}
use Rattle.vc_objects.proofs.opening.open.Given.{Over}
use Rattle.vc_objects.proofs.opening.open.Goals as goal
use Rattle.vc_objects.proofs.opening.open.Goals.{After-new-dict}

-- what a region's boxed discipline means
abbrev meaning : (g : Over) → (x : g.dyn-1.0.I) × (g.dyn-1.0.entry x).0.Denot → Discipline
meaning g p = (goal.SegDisc-dyn g p).state p.1

-- the heads are new
new : (g : Over) (c : After-new-dict g) → IsNew (g.D.DictDisc.rules c.args.rules.now) c.new-dict.result (cells_in c.args.best.now) c.args.method
new g c = record {
  empty = c.new-dict.ensures.dict _ _;
  same = c.new-dict.ensures.method;
  current = c.new-dict.ensures.current;
  table = c.new-dict.ensures.table;
  slots = c.new-dict.ensures.slots;
}

pub put_table-requires : goal.put_table-requires
put_table-requires g c =
    record { grows = grows-first _ c.new-dict.result (cells_in c.args.best.now) c.args.method (new g (goal.at.put_table-requires g c).After-new-dict) c.in-Some.slots (sym c.in-Some.ensures); lent = c.requires.lent }

pub returns-in-None : goal.returns-in-None
returns-in-None g c =
    let best = c.args.best.now in
    let dict = c.new-dict.result in
    let rules = g.D.DictDisc.rules c.args.rules.now in
    let is = new g (goal.at.returns-in-None g c).After-new-dict in
    record {
      ok = record {
        grown = opened-plain rules dict (cells_in best) c.args.method is _ (rest_in best) (sym c.in-None.ensures);
        whole = whole-empty rules dict (cells_in best) c.args.method is (sym c.in-None.ensures);
        leaves = leaves-still _ best best [] (own_blocks (dictionary_in dict best)) (keeps-same _ _ _ _ refl refl) refl refl (owned-none rules dict (cells_in best) c.args.method is);
        numbered = c.new-dict.ensures.kind;
      };
      err = tt;
      asked = NoneRefused-same _;
    }

pub returns-in-Ok : goal.returns-in-Ok
returns-in-Ok g c =
    let best = c.args.best.now in
    let after = c.put_table.new.best in
    let dict = c.new-dict.result in
    let dict' = c.put_table.new.dict in
    let rules = g.D.DictDisc.rules c.args.rules.now in
    let is = new g (goal.at.returns-in-Ok g c).After-new-dict in
    record {
      ok = record {
        grown = opened-table rules dict (cells_in best) c.args.method is _ (rest_in best) (rest_in after) (dictionary_in dict' after) c.in-Some.slots (sym c.in-Some.ensures) c.in-Ok.ensures.grows.ok;
        whole = c.in-Ok.ensures.whole;
        leaves =
            leaves-from _ best after (own_blocks (dictionary_in dict best)) [] (own_blocks (dictionary_in dict' after))
            (owned-none rules dict (cells_in best) c.args.method is) c.put_table.ensures.leaves;
        numbered = c.put_table.ensures.kind ∙ c.new-dict.ensures.kind;
      };
      err = tt;
      asked = c.in-Ok.ensures.grows.asked;
    }

pub returns-in-Err : goal.returns-in-Err
returns-in-Err g c =
    let best = c.args.best.now in
    let is = new g (goal.at.returns-in-Err g c).After-new-dict in
    let grows = c.in-Err.ensures.grows in
    let region = grows.err.1.region in
    let cells = c.in-Err.ensures.err.0 in
    record {
      ok = tt;
      err = (
        opened-refused (g.D.DictDisc.rules c.args.rules.now) c.new-dict.result (cells_in best) c.args.method is _ (rest_in best) c.in-Some.slots c.in-Err.fault (sym c.in-Some.ensures) grows.err.0,
        record { region = region; cells = cells; leaves = leaves-still (meaning g) best c.put_table.new.best [] [] c.put_table.ensures.leaves.disc region cells refl },
      );
      asked =
          subst (λ (n : ℕ). AskedTable {A = Dict} (Err c.in-Err.fault) (Some n) (disc_in (meaning g) best) (disc_in (meaning g) c.put_table.new.best))
          (first-slots (g.D.DictDisc.rules c.args.rules.now) c.new-dict.result (cells_in best) c.args.method is c.in-Some.slots (sym c.in-Some.ensures)) grows.asked;
    }
