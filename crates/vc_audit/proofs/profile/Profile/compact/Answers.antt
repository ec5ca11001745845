use Rattle.vc_base.proofs.Common.{ℕ, sym, ap, ◌∙◌, subst, compact_count, Layout}
use Rattle.vc_best.specs.Parts.{layout_of}
use Rattle.vc_audit.specs.ProfileParts.{sites_in}
use Rattle.vc_audit.specs.ProfileSums.{IsCounted}
use Rattle.vc_audit.proofs.ProfileBare.{bare-layout}
use Rattle.vc_audit.proofs.ProfileFree.{profile}
use Rattle.vc_audit.proofs.ProfileStays.{counted-compacted, profile-compacted}
use Rattle.vc_audit.proofs.profile.Profile.compact.Goals as goal

pub invariant_of-self : goal.invariant_of-self
invariant_of-self g c =
    let me = c.args.self.now in
    record { counted = subst (λ (l : Layout ℕ). IsCounted l (sites_in me) me.rows.entries) (sym c.compact.ensures.layout) (counted-compacted (layout_of me.best) (sites_in me) me.rows.entries me.counted) }

pub returns-clause-profile : goal.returns-clause-profile
returns-clause-profile g c =
    let me = c.args.self.now in
    ap (λ l. profile (sites_in me) l me.rows.entries) c.compact.ensures.layout
    ∙ profile-compacted (layout_of me.best) (sites_in me) me.rows.entries me.counted

pub returns-clause-count : goal.returns-clause-count
returns-clause-count g c =
    let me = c.args.self.now in
    c.compact.ensures.count ∙ ap (λ (l : Layout ℕ). compact_count l) (sym (bare-layout (sites_in me) (layout_of me.best)))
