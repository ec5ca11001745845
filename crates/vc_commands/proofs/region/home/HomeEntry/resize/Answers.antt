use Rattle.vc_base.proofs.Common.{false, IfSome, Ok, Err, sym, refl, ap, subst, Discipline}
use Rattle.vc_model.proofs.Keeping.{NoneRefused-same, NoneRefused-served}
use Rattle.vc_region.specs.Region.{region_with_labels}
use Rattle.vc_region.specs.Cells.{rest_in}
use Rattle.vc_region.specs.Parts.{disc_in, region_of}
use Rattle.vc_script.specs.declared.refusal.Refusal.TheVariants as why
use Rattle.vc_commands.specs.Answered.{answered}
use Rattle.vc_commands.proofs.Seen.{seen-out}
use Rattle.vc_commands.specs.Held.{AreLabelsOf, home_of}
use Rattle.vc_commands.specs.Blocks.{resize_block_found, resize_named}
use Rattle.vc_script.specs.Needs.{need_shown}
use Rattle.vc_script.specs.declared.reply.Reply.TheVariants.{At, Refused}
use Rattle.vc_commands.specs.RegionCommands.{is_for_block}
use Rattle.vc_commands.specs.RegionRun.{held_of}
use Rattle.vc_commands.specs.Labels.{MovesLabel, kept_of, name_of_tag}
use Rattle.vc_commands.proofs.Answers.{change-same, told-served, asks-unserved, gives-unchanged, NotNoSegment, err-all, get_ok, if_ok-all, none-no_segment, told-no_segment}
use Rattle.vc_commands.proofs.FoundBlocks.{gives-none, label_of}
use Rattle.vc_commands.proofs.Resized.{Resizes, asks, resized-change, seen}
use Rattle.vc_commands.proofs.Resizing.{gives-place, gives-resized, named-resized, resize-size, step-fault}
use Rattle.vc_commands.proofs.region.home.HomeEntry.resize.Given as given
use Rattle.vc_commands.proofs.region.home.HomeEntry.resize.Goals as goal

abbrev meaning : (g : given.Over) → (x : g.dyn-1.0.I) × (g.dyn-1.0.entry x).0.Denot → Discipline
meaning g p = (g.dyn-1.0.entry p.0).1.state p.1

pub returns-in_default : goal.returns-in_default
returns-in_default g c =
    record {
      runs = record {
        step = λ r. gives-none (held_of (meaning g) r c.args.self.now c.args.labels.now) c.args.name.now (λ k. resize_block_found k c.args.name.now c.args.size c.args.may_move (is_for_block (need_shown (Refused c.no_block.result)))) c.no_block.result c.requires.names c.in_default.ensures.none c.no_block.ensures.value;
        err = tt;
        unserved = λ e. absurd (none-no_segment c.no_block.result c.no_block.ensures.granted e);
        served = λ _. NoneRefused-same _;
      };
      change = λ r. change-same (held_of (meaning g) r c.args.self.now c.args.labels.now) c.args.labels.now c.requires.lent c.requires.names;
    }

pub returns-then-not-is_size : goal.returns-then-not-is_size
returns-then-not-is_size g c =
    record {
      runs = record {
        step = λ r.
            let h = held_of (meaning g) r c.args.self.now c.args.labels.now in
            gives-unchanged (home_of h) (resize_named (home_of h) c.args.name.now c.args.size c.args.may_move false) why.Size
            (resize-size h c.in-Some.ensures.some c.args.size c.args.may_move false (sym c.if-not-is_size.ensures));
        err = tt;
        unserved = λ e. absurd (none-no_segment why.Size (λ is. cc) e);
        served = λ _. NoneRefused-same _;
      };
      change = λ r. change-same (held_of (meaning g) r c.args.self.now c.args.labels.now) c.args.labels.now c.requires.lent c.requires.names;
    }

pub returns-in-Ok : goal.returns-in-Ok
returns-in-Ok g c =
    let has = c.in-Some.ensures.some in
    let done : Resizes (meaning g) c.args.self.now.region c.resize.new.self has c.args.size c.args.may_move (Ok c.in-Ok.to) = record { answer = c.in-Ok.ensures.answer; asks = c.in-Ok.ensures.disc; kept = c.in-Ok.ensures.kept } in
    let rest = seen (meaning g) c.args.self.now.region c.resize.new.self has c.args.size c.args.may_move (Ok c.in-Ok.to) done in
    let new = rest_in c.resize.new.self in
    let labels = c.move_to.new.self in
    let to = label_of c.args.name.now c.in-Ok.to in
    let moved = subst (λ o. IfSome o (λ t. MovesLabel c.args.labels.now labels t to)) has.named c.move_to.ensures.moved in
    record {
      runs = record {
        step = λ r.
            let h = held_of (meaning g) r c.args.self.now c.args.labels.now in
            gives-place (resize_named (home_of h) c.args.name.now c.args.size c.args.may_move false) (region_with_labels (name_of_tag labels) new, kept_of labels) c.args.name.now c.in-Ok.to.0 c.place_of.result c.watch_line-watch.result c.place_of.ensures.seg c.place_of.ensures.off
            (gives-resized h has c.args.size c.args.may_move (sym c.if-not-is_size.ensures) labels to moved refl c.move_to.ensures.kept new rest.answer c.watch_line-watch.result c.watch_line-watch.ensures);
        err = tt;
        unserved = λ e. absurd (subst NotNoSegment (ap (get_ok (At c.args.name.now c.place_of.result c.watch_line-watch.result)) e) tt);
        served = λ other. NoneRefused-served _ _ _ _ _ c.in-Ok.ensures.disc;
      };
      change = λ r.
          resized-change (meaning g) c.args.self.now.region c.resize.new.self has c.args.size c.args.may_move (Ok c.in-Ok.to) done r c.args.self.now.place labels c.requires.lent
          (named-resized (held_of (meaning g) r c.args.self.now c.args.labels.now) has c.args.size c.args.may_move (sym c.if-not-is_size.ensures) labels to moved refl c.move_to.ensures.kept new rest.answer rest.there rest.others c.move_to.ensures.agree rest.places);
    }

pub returns-in-Err : goal.returns-in-Err
returns-in-Err g c =
    let done : Resizes (meaning g) c.args.self.now.region c.resize.new.self c.in-Some.ensures.some c.args.size c.args.may_move (Err c.in-Err.fault) = record { answer = c.in-Err.ensures.answer; asks = c.in-Err.ensures.disc; kept = c.in-Err.ensures.kept } in
    let rest = seen (meaning g) c.args.self.now.region c.resize.new.self c.in-Some.ensures.some c.args.size c.args.may_move (Err c.in-Err.fault) done in
    let asked = asks (meaning g) c.args.self.now.region c.resize.new.self c.in-Some.ensures.some c.args.size c.args.may_move (Err c.in-Err.fault) done in
    record {
      runs = record {
        step = if_ok-all (answered c.refused.result c.refused.new.reply) _ (λ r.
            step-fault (held_of (meaning g) r c.args.self.now c.args.labels.now) c.in-Some.ensures.some c.args.size c.args.may_move (sym c.if-not-is_size.ensures) c.in-Err.fault (answered c.refused.result c.refused.new.reply) c.refused.ensures rest.answer.0 (rest_in c.resize.new.self) rest.answer.1);
        err = err-all (answered c.refused.result c.refused.new.reply) (ap (λ q. (region_with_labels (name_of_tag c.args.labels.now) q, kept_of c.args.labels.now)) rest.answer.1);
        unserved = λ e. asks-unserved c.in-Err.fault _ _ _ _ _ (told-no_segment c.in-Err.fault (answered c.refused.result c.refused.new.reply) c.refused.ensures e) asked;
        served = λ other. told-served c.in-Err.fault (answered c.refused.result c.refused.new.reply) _ _ _ _ _ c.refused.ensures c.in-Err.ensures.disc other;
      };
      change = λ r.
          resized-change (meaning g) c.args.self.now.region c.resize.new.self c.in-Some.ensures.some c.args.size c.args.may_move (Err c.in-Err.fault) done r c.args.self.now.place c.args.labels.now c.requires.lent
          (subst (λ q. AreLabelsOf q c.args.labels.now) (sym rest.answer.1) c.requires.names);
    }

pub resize-requires-clause-lent : goal.resize-requires-clause-lent
resize-requires-clause-lent g c = seen-out (region_of c.args.self.now.region) (disc_in (meaning g) c.args.self.now.region) c.requires.lent
