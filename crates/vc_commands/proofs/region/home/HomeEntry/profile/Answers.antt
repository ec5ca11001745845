use Rattle.vc_base.proofs.Common.{cond, sym, ap, ◌∙◌, Discipline}
use Rattle.vc_region.specs.Cells.{rest_in}
use Rattle.vc_region.specs.Region.{rows_in}
use Rattle.vc_region.proofs.Relabel.{profile-relabelled, rows-relabelled}
use Rattle.vc_script.specs.declared.refusal.Refusal.TheVariants as why
use Rattle.vc_script.specs.declared.reply.Reply.TheVariants.{Rows}
use Rattle.vc_commands.specs.Held.{home_of}
use Rattle.vc_commands.specs.RegionRun.{held_of}
use Rattle.vc_commands.specs.Labels.{name_of_tag}
use Rattle.vc_commands.specs.Home.{reply_alone, refusal_alone}
use Rattle.vc_commands.proofs.region.home.HomeEntry.profile.Given as given
use Rattle.vc_commands.proofs.region.home.HomeEntry.profile.Goals as goal

abbrev meaning : (g : given.Over) → (x : g.dyn-1.0.I) × (g.dyn-1.0.entry x).0.Denot → Discipline
meaning g p = (g.dyn-1.0.entry p.0).1.state p.1

pub returns-then-not-is_profile : goal.returns-then-not-is_profile
returns-then-not-is_profile g c = λ labels r.
    let k = home_of (held_of (meaning g) r c.args.self.now labels) in
    ap (λ v. cond v (reply_alone k (Rows (rows_in k.region))) (refusal_alone k why.WrongMethod))
    (profile-relabelled (name_of_tag labels) (rest_in c.args.self.now.region) ∙ (sym c.is_profile.ensures ∙ c.if-not-is_profile.true))

pub returns : goal.returns
returns g c = λ labels r.
    let k = home_of (held_of (meaning g) r c.args.self.now labels) in
    ap (λ v. cond v (reply_alone k (Rows (rows_in k.region))) (refusal_alone k why.WrongMethod))
    (profile-relabelled (name_of_tag labels) (rest_in c.args.self.now.region) ∙ (sym c.is_profile.ensures ∙ c.if-not-is_profile.false))
    ∙ ap (λ is. reply_alone k (Rows is)) (rows-relabelled (name_of_tag labels) (rest_in c.args.self.now.region) ∙ sym (c.from_vec.ensures ∙ c.in_ok-row_items.ensures))
