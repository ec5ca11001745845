use Rattle.vc_base.proofs.Common.{◌≡◌, ℕ, length, sym, ap, ◌∙◌, subst, place_of, Layout, without_block}
use Rattle.vc_seg.specs.OneBlock.{IsInBlock}
use Rattle.vc_best.specs.Parts.{layout_of}
use Rattle.vc_audit.specs.ProfileParts.{sites_in}
use Rattle.vc_audit.specs.ProfileSums.{IsCounted}
use Rattle.vc_audit.proofs.ProfileBare.{from-both, to-best}
use Rattle.vc_audit.proofs.ProfileFree.{profile}
use Rattle.vc_audit.proofs.ProfileStays.{counted-written, profile-written}
use Rattle.vc_audit.proofs.profile.Profile.write.Goals as goal

pub write-requires : goal.write-requires
write-requires g c = to-best (λ bs. IsInBlock bs c.args.a.0 c.args.off (length c.args.src.now)) (sites_in c.args.self.now) (layout_of c.args.self.now.best).blocks c.requires

pub invariant_of-self : goal.invariant_of-self
invariant_of-self g c =
    let me = c.args.self.now in
    record { counted = subst (λ (l : Layout ℕ). IsCounted l (sites_in me) me.rows.entries) (sym c.write.ensures.written.layout) (counted-written (layout_of me.best) (sites_in me) me.rows.entries me.counted (place_of c.args.a.0) c.args.off c.args.src.now) }

pub returns-clause-profile : goal.returns-clause-profile
returns-clause-profile g c =
    let me = c.args.self.now in
    ap (λ l. profile (sites_in me) l me.rows.entries) c.write.ensures.written.layout
    ∙ profile-written (layout_of me.best) (sites_in me) me.rows.entries me.counted (place_of c.args.a.0) c.args.off c.args.src.now

pub returns-clause-others : goal.returns-clause-others
returns-clause-others g c =
    let me = c.args.self.now in
    from-both (λ xs ys. without_block (place_of c.args.a.0) xs ≡ without_block (place_of c.args.a.0) ys) (sites_in me) (sites_in me) (layout_of c.write.new.self).blocks (layout_of me.best).blocks c.write.ensures.written.others
