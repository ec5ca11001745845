use Rattle.vc_base.proofs.Common.{ℕ, ap, ◌∙◌, subst, sym, cleared_layout, Layout}
use Rattle.vc_addrmap.specs.Parts.{numbers_of}
use Rattle.vc_best.specs.Parts.{layout_of}
use Rattle.vc_audit.specs.ProfileParts.{sites_in}
use Rattle.vc_audit.specs.ProfileSums.{IsCounted, sites_by}
use Rattle.vc_audit.proofs.ProfileClear.{counted-cleared, profile-cleared}
use Rattle.vc_audit.proofs.ProfileFree.{profile}
use Rattle.vc_audit.proofs.profile.Profile.clear.Goals as goal

pub invariant_of-self : goal.invariant_of-self
invariant_of-self g c =
    let me = c.args.self.now in
    let t = sites_by (numbers_of c.clear.new.self) c.clear_rows.new.rows.entries in
    record {
      counted = subst (λ (l : Layout ℕ). IsCounted l t c.clear_rows.new.rows.entries) (sym c.clear_best.ensures.layout)
          (subst (IsCounted (cleared_layout (layout_of me.best)) t) (sym c.clear_rows.ensures) (counted-cleared (layout_of me.best) t me.rows.entries me.counted.distinct));
    }

pub returns-clause-profile : goal.returns-clause-profile
returns-clause-profile g c =
    let me = c.args.self.now in
    let t = sites_by (numbers_of c.clear.new.self) c.clear_rows.new.rows.entries in
    ap (λ l. profile t l c.clear_rows.new.rows.entries) c.clear_best.ensures.layout
    ∙ ap (profile t (cleared_layout (layout_of me.best))) c.clear_rows.ensures
    ∙ profile-cleared (layout_of me.best) (sites_in me) t me.rows.entries
