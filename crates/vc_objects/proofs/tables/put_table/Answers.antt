use Rattle.vc_base.proofs.Common.{◌≡◌, ℕ, ◌≢◌, refl, ap, ◌∙◌, arith, Blocks, best_need, Discipline, Layout}
use Rattle.vc_base.specs.declared.addr.Addr.{Addr}
use Rattle.vc_dict.specs.Listed.{holders_of}
use Rattle.vc_best.specs.Cells.{cells_in, rest_in}
use Rattle.vc_best.specs.Parts.{disc_in, segments_in}
use Rattle.vc_best.proofs.CellCalls.{stays-disc}
use Rattle.vc_objects.specs.Insert.{alloc_unlabelled, without_table}
use Rattle.vc_objects.specs.Objects.{own_blocks, table_size}
use Rattle.vc_objects.specs.Parts.{dictionary_in, dictionary_of, table_of}
use Rattle.vc_objects.proofs.Adopting.{can-adopt, dictionary-grown, fresh-grown, old-there, others-grown, stands-placed, whole-grown}
use Rattle.vc_objects.proofs.Answering.{asked-block, asked-then, grown-put, grown-refused}
use Rattle.vc_objects.proofs.Doubling.{slots-most, table-sized}
use Rattle.vc_objects.proofs.Leaving.{asked-keeps, leaves-put, leaves-still, none-at}
use Rattle.vc_objects.proofs.tables.put_table.Given.{Over}
use Rattle.vc_objects.proofs.tables.put_table.Goals as goal
use Rattle.vc_dict.specs.Stands.{slots_in, table_in}

-- what a region's boxed discipline means
abbrev meaning : (g : Over) → (x : g.dyn-1.0.I) × (g.dyn-1.0.entry x).0.Denot → Discipline
meaning g p = (goal.SegDisc-dyn g p).state p.1

pub overflow_mul-slots : goal.overflow_mul-slots
overflow_mul-slots g c = let most = slots-most c.args.slots c.requires.grows.allowed in omega (arith, most)

pub alloc_cell-requires-clause-size : goal.alloc_cell-requires-clause-size
alloc_cell-requires-clause-size g c = table-sized c.args.slots c.requires.grows.allowed

pub adopt_table-old-requires : goal.adopt_table-old-requires
adopt_table-old-requires g c =
    can-adopt _ c.args.dict.now (cells_in c.args.best.now) (cells_in c.alloc_cell.new.best) c.in-Ok.table.0 c.args.slots c.requires.grows c.in-Ok.ensures.puts.made

pub free_table-requires : goal.free_table-requires
free_table-requires g c =
    let b0 = cells_in c.args.best.now in
    let b1 = cells_in c.alloc_cell.new.best in
    let cell = c.in-Ok.ensures.puts.made in
    let adopted = c.adopt_table-old.ensures.dict (holders_of c.args.dict.now b0) (stands-placed _ c.args.dict.now b0 b1 c.in-Ok.table.0 c.args.slots c.requires.grows cell) in
    record {
      there = λ some.
          old-there _ c.args.dict.now b0 b1 c.in-Ok.table.0 c.args.slots c.requires.grows cell c.adopt_table-old.new.self (cells_in c.adopt_table-old.new.cells) adopted
          c.adopt_table-old.result.0 (ap (λ (t : Addr). t.0) c.adopt_table-old.ensures.old) some;
    }

pub returns-in-Ok : goal.returns-in-Ok
returns-in-Ok g c =
    let rules = g.D.DictDisc.rules c.args.kind.now in
    let old = c.args.best.now in
    let mid = c.alloc_cell.new.best in
    let adopts = c.adopt_table-old.new.cells in
    let new = c.free_table.new.best in
    let dict = c.args.dict.now in
    let dict' = c.adopt_table-old.new.self in
    let slots = c.args.slots in
    let at = c.in-Ok.table.0 in
    let puts = c.in-Ok.ensures.puts in
    let adopted = c.adopt_table-old.ensures.dict (holders_of dict (cells_in old)) (stands-placed rules dict (cells_in old) (cells_in mid) at slots c.requires.grows puts.made) in
    let table = ap (λ (t : Addr). t.0) c.adopt_table-old.ensures.old in
    let after : (a : ℕ) → a ≢ (table_in dict).0 → cells_in new a ≡ cells_in adopts a = λ a ne. c.free_table.ensures.others a (λ e. ne (e ∙ table)) in
    let around = c.free_table.ensures.around in
    record {
      grows = record {
        ok =
            grown-put _ (dictionary_in dict old) slots at (rest_in mid) (rest_in new) (dictionary_in dict' new) puts.answer
            (c.free_table.ensures.rest (slots_in dict)
            ∙ (ap (λ (q : Layout ℕ). without_table q (table_of c.adopt_table-old.result.0 (slots_in dict))) c.adopt_table-old.ensures.rest.layout
            ∙ ap (λ (n : ℕ). without_table (rest_in mid) (table_of n (slots_in dict))) table))
            (dictionary-grown rules dict (cells_in old) (cells_in mid) at slots c.requires.grows puts.made dict' (cells_in adopts) (cells_in new) adopted after);
        err = tt;
        asked = asked-then (meaning g) old mid new _ puts.asks (around.disc ∙ stays-disc (meaning g) mid adopts c.adopt_table-old.ensures.rest);
      };
      whole = whole-grown rules dict (cells_in old) (cells_in mid) at slots c.requires.grows puts.made dict' (cells_in adopts) (cells_in new) adopted after;
      kind = adopted.kind;
      leaves =
          leaves-put (meaning g) old mid adopts new (own_blocks (dictionary_in dict old)) (own_blocks (dictionary_in dict' new)) _
          puts.asks puts.labelled c.adopt_table-old.ensures.rest around.disc around.segments around.labelled
          (others-grown rules dict (cells_in old) (cells_in mid) at slots c.requires.grows puts.made dict' (cells_in adopts) (cells_in new) adopted after (none-at new) (none-at old))
          (fresh-grown rules dict (cells_in old) (cells_in mid) at slots c.requires.grows puts.made dict' (cells_in adopts) (cells_in new) adopted after);
      err = tt;
    }

pub returns-in-Err : goal.returns-in-Err
returns-in-Err g c =
    let old = c.args.best.now in
    let new = c.alloc_cell.new.best in
    let dict = c.args.dict.now in
    let puts = c.in-Err.ensures.puts in
    let terms = (disc_in (meaning g) old).terms in
    record {
      grows = record {
        ok = tt;
        err = (
          grown-refused (alloc_unlabelled terms (rest_in old) 0 (table_size c.args.slots)) (dictionary_in dict old) c.args.slots c.in-Err.fault puts.answer.0,
          record { region = puts.answer.1; dict = ap (λ (b : Blocks). dictionary_of dict b) puts.same },
        );
        asked = asked-block (disc_in (meaning g) old) (disc_in (meaning g) new) (segments_in old) (segments_in new) (best_need terms (table_size c.args.slots) 32) c.in-Err.fault puts.asks;
      };
      whole = tt;
      kind = refl;
      leaves =
          leaves-still (meaning g) old new (own_blocks (dictionary_in dict old)) (own_blocks (dictionary_in dict new))
          (asked-keeps _ _ (segments_in old) (segments_in new) _ c.in-Err.fault (ap (λ (r : Layout ℕ). r.segments) puts.answer.1) puts.asks)
          puts.answer.1 puts.same (ap (λ (b : Blocks). own_blocks (dictionary_of dict b)) puts.same);
      err = (puts.same, refl);
    }
