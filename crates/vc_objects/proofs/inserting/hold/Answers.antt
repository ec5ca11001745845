use Rattle.vc_base.proofs.Common.{ℕ, ◌+◌, ◌≤◌, sym, refl, ap, ◌∙◌, subst, arith, length-map, Blocks, best_need, Discipline, Layout}
use Rattle.vc_base.specs.Cells.{with_body}
use Rattle.vc_base.specs.declared.addr.Addr.{Addr}
use Rattle.vc_dict.specs.Listed.{holders_of}
use Rattle.vc_best.specs.CellLaws.{stays-after}
use Rattle.vc_best.specs.Cells.{cells_in, rest_in}
use Rattle.vc_best.specs.Parts.{disc_in, segments_in}
use Rattle.vc_best.proofs.CellCalls.{stays-disc}
use Rattle.vc_objects.specs.Objects.{Dictionary, holder_size, own_blocks}
use Rattle.vc_objects.specs.Parts.{dictionary_in, dictionary_of, object_of, table_of}
use Rattle.vc_objects.proofs.Answering.{asked-block, asked-then, held-put}
use Rattle.vc_objects.proofs.Holding.{body-length, body-place, can-link, dictionary-held, fresh-held, others-held, stands-put, whole-held}
use Rattle.vc_objects.proofs.Leaving.{asked-keeps, leaves-put, none-at}
use Rattle.vc_objects.proofs.Remains.{leaves-refused}
use Rattle.vc_objects.proofs.inserting.hold.Given.{Over}
use Rattle.vc_objects.proofs.inserting.hold.Goals as goal
use Rattle.vc_dict.specs.Stands.{slots_in, table_in}

-- what a region's boxed discipline means
abbrev meaning : (g : Over) → (x : g.dyn-1.0.I) × (g.dyn-1.0.entry x).0.Denot → Discipline
meaning g p = (goal.SegDisc-dyn g p).state p.1

pub set_body-requires : goal.set_body-requires
set_body-requires g c =
    let cells = cells_in c.alloc_cell.new.best in
    let rules = g.D.DictDisc.rules c.args.kind.now in
    let made = c.in-Ok.ensures.puts.made in
    let written = with_body c.in-Ok.at.0 c.args.object.now cells in
    record {
      place = body-place rules c.args.dict.now (cells_in c.args.best.now) cells written c.in-Ok.at.0 c.args.object.now c.requires.can.ask.whole made c.requires.can.object refl;
      length = body-length rules c.args.dict.now (cells_in c.args.best.now) cells written c.in-Ok.at.0 c.args.object.now c.requires.can.ask.whole made c.requires.can.object refl;
    }

pub link-requires : goal.link-requires
link-requires g c =
    can-link _ c.args.dict.now (cells_in c.args.best.now) (cells_in c.alloc_cell.new.best) (cells_in c.set_body.new.self) c.in-Ok.at.0 c.args.object.now c.requires.can.ask.whole c.in-Ok.ensures.puts.made c.requires.can.object c.set_body.ensures.blocks
    c.args.append c.requires.room c.requires.can.lone c.requires.can.list

pub returns-in-Ok : goal.returns-in-Ok
returns-in-Ok g c =
    let rules = g.D.DictDisc.rules c.args.kind.now in
    let old = c.args.best.now in
    let mid = c.alloc_cell.new.best in
    let new = c.link.new.cells in
    let dict = c.args.dict.now in
    let dict' = c.link.new.self in
    let at = c.in-Ok.at.0 in
    let object = c.args.object.now in
    let b0 = cells_in old in
    let b1 = cells_in mid in
    let b2 = cells_in c.set_body.new.self in
    let b3 = cells_in new in
    let puts = c.in-Ok.ensures.puts in
    let whole = c.requires.can.ask.whole in
    let is = c.requires.can.object in
    let written = c.set_body.ensures.blocks in
    let became = c.link.ensures.dict (holders_of dict b0) (stands-put rules dict b0 b1 b2 at object whole puts.made is written) in
    let stays = stays-after mid c.set_body.new.self new c.set_body.ensures.rest c.link.ensures.rest in
    record {
      holds = record {
        ok =
            held-put rules c.args.append object (dictionary_in dict old) _ at (rest_in mid) (rest_in new) (dictionary_in dict' new)
            puts.answer (c.link.ensures.rest.layout ∙ c.set_body.ensures.rest.layout)
            (dictionary-held rules dict b0 b1 b2 at object whole puts.made is written c.args.append dict' b3 became);
        err = tt;
        asked = asked-then (meaning g) old mid new _ puts.asks (stays-disc (meaning g) mid new stays);
      };
      leaves = record {
        whole = whole-held rules dict b0 b1 b2 at object whole puts.made is written c.args.append dict' b3 became;
        kind = became.kind;
        rest =
            leaves-put (meaning g) old mid new new (own_blocks (dictionary_in dict old)) (own_blocks (dictionary_in dict' new)) _
            puts.asks puts.labelled stays refl refl refl
            (others-held rules dict b0 b1 b2 at object whole puts.made is written c.args.append dict' b3 became (none-at new) (none-at old))
            (fresh-held rules dict b0 b1 b2 at object whole puts.made is written c.args.append dict' b3 became);
      };
      table = ap (λ (t : Addr). table_of t.0 (slots_in dict')) became.table ∙ ap (table_of (table_in dict).0) became.slots;
      compares =
          let linked = c.link.ensures.steps (holders_of dict b0) (stands-put rules dict b0 b1 b2 at object whole puts.made is written) in
          subst (λ (n : ℕ). c.link.new.steps ≤ c.args.steps.now + n) (sym (length-map (holders_of dict b0) (object_of b0))) linked;
    }

pub returns-in-Err : goal.returns-in-Err
returns-in-Err g c =
    let old = c.args.best.now in
    let new = c.alloc_cell.new.best in
    let puts = c.in-Err.ensures.puts in
    let same = ap (λ (b : Blocks). dictionary_of c.args.dict.now b) puts.same in
    record {
      holds = record {
        ok = tt;
        err = (puts.answer.0, record { region = puts.answer.1; dict = same });
        asked =
            asked-block (disc_in (meaning g) old) (disc_in (meaning g) new) (segments_in old) (segments_in new)
            (best_need (disc_in (meaning g) old).terms (holder_size c.args.object.now) 32) c.in-Err.fault puts.asks;
      };
      leaves =
          leaves-refused (meaning g) (g.D.DictDisc.rules c.args.kind.now) c.args.dict.now old new c.requires.can.ask.whole
          (asked-keeps _ _ (segments_in old) (segments_in new) _ c.in-Err.fault (ap (λ (r : Layout ℕ). r.segments) puts.answer.1) puts.asks)
          puts.answer.1 puts.same;
      table = ap (λ (d : Dictionary). d.table) same;
      compares = omega arith;
    }

pub alloc_cell-requires : goal.alloc_cell-requires
alloc_cell-requires g c =
    let most = c.requires.can.object.most in
    record {
      size = record { some = omega arith; most = omega (arith, most) };
      lent = c.requires.can.ask.lent;
    }
