use Rattle.vc_base.proofs.Common.{cond, filter_map, sym, ap, ◌∙◌, Discipline}
use Rattle.vc_region.specs.Cells.{rest_in}
use Rattle.vc_region.specs.Region.{damaged_in}
use Rattle.vc_region.proofs.Relabel.{debug-relabelled}
use Rattle.vc_script.specs.declared.refusal.Refusal.TheVariants as why
use Rattle.vc_script.specs.declared.reply.Reply.TheVariants.{Damaged}
use Rattle.vc_commands.specs.Held.{home_of}
use Rattle.vc_commands.specs.Audit.{damage_item}
use Rattle.vc_commands.specs.RegionRun.{held_of}
use Rattle.vc_commands.specs.Labels.{name_of_tag}
use Rattle.vc_commands.specs.Home.{reply_alone, refusal_alone}
use Rattle.vc_commands.proofs.region.home.HomeEntry.check.Given as given
use Rattle.vc_commands.proofs.region.home.HomeEntry.check.Goals as goal

abbrev meaning : (g : given.Over) → (x : g.dyn-1.0.I) × (g.dyn-1.0.entry x).0.Denot → Discipline
meaning g p = (g.dyn-1.0.entry p.0).1.state p.1

pub returns-then-not-is_debug : goal.returns-then-not-is_debug
returns-then-not-is_debug g c = λ r.
    let k = home_of (held_of (meaning g) r c.args.self.now c.args.labels.now) in
    ap (λ v. cond v (reply_alone k (Damaged (filter_map damage_item (damaged_in k.region)))) (refusal_alone k why.WrongMethod))
    (debug-relabelled (name_of_tag c.args.labels.now) (rest_in c.args.self.now.region) ∙ (sym c.is_debug.ensures ∙ c.if-not-is_debug.true))

pub returns : goal.returns
returns g c = λ r.
    let k = home_of (held_of (meaning g) r c.args.self.now c.args.labels.now) in
    ap (λ v. cond v (reply_alone k (Damaged (filter_map damage_item (damaged_in k.region)))) (refusal_alone k why.WrongMethod))
    (debug-relabelled (name_of_tag c.args.labels.now) (rest_in c.args.self.now.region) ∙ (sym c.is_debug.ensures ∙ c.if-not-is_debug.false))
    ∙ ap (λ is. reply_alone k (Damaged is)) (sym (c.from_vec.ensures ∙ c.in_ok-damage_items.ensures))
