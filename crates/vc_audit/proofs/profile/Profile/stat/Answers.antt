use Rattle.vc_base.proofs.Common.{ℕ, sym, ap, ◌∙◌, Layout}
use Rattle.vc_seg.specs.Stat.{layout_stat}
use Rattle.vc_best.specs.Parts.{layout_of}
use Rattle.vc_audit.specs.ProfileParts.{sites_in}
use Rattle.vc_audit.proofs.ProfileBare.{bare-layout}
use Rattle.vc_audit.proofs.profile.Profile.stat.Goals as goal

pub returns : goal.returns
returns g c = c.stat.ensures ∙ ap (λ (l : Layout ℕ). layout_stat l) (sym (bare-layout (sites_in c.args.self.now) (layout_of c.args.self.now.best)))
