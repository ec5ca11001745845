use Rattle.vc_base.proofs.Common.{ℕ, ◌∷◌, false, None, refl, ap, ◌∙◌, sym, subst, arith, Blocks, best_need, Discipline, Layout}
use Rattle.vc_base.specs.Cells.{with_body}
use Rattle.vc_dict.specs.Listed.{holders_of}
use Rattle.vc_best.specs.CellLaws.{stays-after}
use Rattle.vc_best.specs.Cells.{cells_in, rest_in}
use Rattle.vc_best.specs.Parts.{disc_in, segments_in}
use Rattle.vc_best.proofs.CellCalls.{stays-disc}
use Rattle.vc_dtdisc.specs.Rules.{Rules}
use Rattle.vc_dict.specs.Changes.{order_by_link}
use Rattle.vc_dict.specs.Stands as stands
use Rattle.vc_objects.specs.Leaves.{LacksHolder, Looks, RefusedBy}
use Rattle.vc_objects.specs.Objects.{Dictionary, holder_size, own_blocks}
use Rattle.vc_objects.specs.Parts.{IsWhole, dictionary_in, dictionary_of}
use Rattle.vc_objects.proofs.Answering.{asked-block, asked-then, held-put, rest-trans}
use Rattle.vc_objects.proofs.Holding.{body-length, body-place, dictionary-held, fresh-held, others-held, whole-held}
use Rattle.vc_objects.proofs.Leaving.{asked-keeps, leaves-put, none-at}
use Rattle.vc_objects.proofs.Looking.{Looks-became}
use Rattle.vc_objects.proofs.Remains.{leaves-refused}
use Rattle.vc_objects.specs.Puts.Puts.{CanHold}
use Rattle.vc_objects.proofs.HoldLemmas.{above-linked, can-join, joins, stands-after}
use Rattle.vc_objects.proofs.puts.putting.hold_below.Given.{Over}
use Rattle.vc_objects.proofs.puts.putting.hold_below.Goals as goal

-- what a region's boxed discipline means
abbrev meaning : (g : Over) → (x : g.dyn-1.0.I) × (g.dyn-1.0.entry x).0.Denot → Discipline
meaning g p = (goal.SegDisc-dyn g p).state p.1

pub alloc_cell-requires : goal.alloc_cell-requires
alloc_cell-requires g c =
    let most = c.requires.can.1.object.most in
    record {
      size = record { some = omega arith; most = omega (arith, most) };
      lent = c.requires.lent;
    }

pub set_body-requires : goal.set_body-requires
set_body-requires g c =
    let rules = c.requires.can.0 in
    let can = c.requires.can.1 in
    let cells = cells_in c.alloc_cell.new.best in
    let made = c.in-Ok.ensures.puts.made in
    let written = with_body c.in-Ok.at.0 c.args.object.now cells in
    record {
      place = body-place rules c.args.dict.now (cells_in c.args.best.now) cells written c.in-Ok.at.0 c.args.object.now can.whole made can.object refl;
      length = body-length rules c.args.dict.now (cells_in c.args.best.now) cells written c.in-Ok.at.0 c.args.object.now can.whole made can.object refl;
    }

pub link_below-requires : goal.link_below-requires
link_below-requires g c =
    can-join c.requires.can.0 c.args.dict.now c.args.ord (cells_in c.args.best.now) c.args.object.now c.args.above c.args.left c.requires.can.1
    (cells_in c.alloc_cell.new.best) (cells_in c.set_body.new.self) c.in-Ok.at.0 c.in-Ok.ensures.puts.made c.set_body.ensures.blocks

pub lean_above-requires : goal.lean_above-requires
lean_above-requires g c =
    let can = c.requires.can.1 in
    record {
      form = can.form;
      within = above-linked c.requires.can.0 c.args.dict.now c.args.ord (cells_in c.args.best.now) c.args.object.now c.args.above c.args.left can (cells_in c.alloc_cell.new.best) c.in-Err.ensures.puts.same;
    }

pub returns-in-Ok : goal.returns-in-Ok
returns-in-Ok g c =
    let old = c.args.best.now in
    let mid = c.alloc_cell.new.best in
    let new = c.link_below.new.cells in
    let dict = c.args.dict.now in
    let dict' = c.link_below.new.dict in
    let at = c.in-Ok.at.0 in
    let object = c.args.object.now in
    let b0 = cells_in old in
    let b1 = cells_in mid in
    let b2 = cells_in c.set_body.new.self in
    let b3 = cells_in new in
    let puts = c.in-Ok.ensures.puts in
    let written = c.set_body.ensures.blocks in
    let stays = stays-after mid c.set_body.new.self new c.set_body.ensures.rest c.link_below.ensures.rest in
    let Became : Rules → Type 0 = λ rules. stands.Became rules (at ∷ holders_of dict b0) dict b2 dict' b3 (order_by_link false dict.method rules b2 dict.current.0 at (holders_of dict b0)) at in
    let became : (rules : Rules) → CanHold rules dict b0 c.args.ord object c.args.above c.args.left → Became rules = λ rules can.
    c.link_below.ensures.dict rules c.args.ord (holders_of dict b0)
    (stands-after rules dict c.args.ord b0 object c.args.above c.args.left can b1 b2 at puts.made written) can.form
    (joins rules dict c.args.ord b0 object c.args.above c.args.left can b1 b2 at puts.made written) in
    record {
      holds = λ rules can. record {
        ok =
            held-put rules false object (dictionary_in dict old) _ at (rest_in mid) (rest_in new) (dictionary_in dict' new)
            puts.answer (c.link_below.ensures.rest.layout ∙ c.set_body.ensures.rest.layout)
            (dictionary-held rules dict b0 b1 b2 at object can.whole puts.made can.object written false dict' b3 (became rules can));
        err = tt;
        asked = asked-then (meaning g) old mid new _ puts.asks (stays-disc (meaning g) mid new stays);
      };
      leaves = λ rules can. record {
        whole = whole-held rules dict b0 b1 b2 at object can.whole puts.made can.object written false dict' b3 (became rules can);
        kind = (became rules can).kind;
        rest =
            leaves-put (meaning g) old mid new new (own_blocks (dictionary_in dict old)) (own_blocks (dictionary_in dict' new)) _
            puts.asks puts.labelled stays refl refl refl
            (others-held rules dict b0 b1 b2 at object can.whole puts.made can.object written false dict' b3 (became rules can) (none-at new) (none-at old))
            (fresh-held rules dict b0 b1 b2 at object can.whole puts.made can.object written false dict' b3 (became rules can));
      };
    }

pub returns-in-Err : goal.returns-in-Err
returns-in-Err g c =
    let old = c.args.best.now in
    let mid = c.alloc_cell.new.best in
    let new = c.lean_above.new.cells in
    let dict = c.args.dict.now in
    let dict' = c.lean_above.new.dict in
    let puts = c.in-Err.ensures.puts in
    let same = ap (λ (b : Blocks). dictionary_of dict b) puts.same in
    let looks : (rules : Rules) → CanHold rules dict (cells_in old) c.args.ord c.args.object.now c.args.above c.args.left → Looks (meaning g) rules mid dict new dict' = λ rules can.
    let whole : IsWhole rules dict (cells_in mid) = subst (λ b. IsWhole rules dict b) (sym puts.same) can.whole in
    Looks-became (meaning g) rules mid new dict dict' whole (c.lean_above.ensures.dict rules (holders_of dict (cells_in mid)) whole.stands) c.lean_above.ensures.rest in
    record {
      holds = λ rules can. record {
        ok = tt;
        err = (puts.answer.0, record { region = (looks rules can).region ∙ puts.answer.1; dict = (looks rules can).dict ∙ same });
        asked =
            subst (λ (x : Discipline). RefusedBy c.in-Err.fault (LacksHolder None c.args.object.now (disc_in (meaning g) old) x) (disc_in (meaning g) old) x) (sym (looks rules can).disc)
            (asked-block (disc_in (meaning g) old) (disc_in (meaning g) mid) (segments_in old) (segments_in mid)
            (best_need (disc_in (meaning g) old).terms (holder_size c.args.object.now) 32) c.in-Err.fault puts.asks);
      };
      leaves = λ rules can.
          rest-trans (meaning g) rules old mid new dict dict dict'
          (leaves-refused (meaning g) rules dict old mid can.whole
          (asked-keeps _ _ (segments_in old) (segments_in mid) _ c.in-Err.fault (ap (λ (r : Layout ℕ). r.segments) puts.answer.1) puts.asks)
          puts.answer.1 puts.same)
          (looks rules can).leaves (ap (λ (d : Dictionary). d.objects) same) (ap (λ (d : Dictionary). d.table) (looks rules can).dict);
    }
