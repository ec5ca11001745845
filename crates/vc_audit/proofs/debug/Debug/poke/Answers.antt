use Rattle.vc_base.proofs.Common.{◌≡◌, ℕ, [], ◌∷◌, replicate, ℤ, pos, ◌<ℤ◌, sym, ap, ◌∙◌, subst, w64, place_of, Layout, HasRange, with_bytes_at}
use Rattle.std.proofs.lemmas.Int.{to_z-of_z}
use Rattle.vc_addrmap.specs.Map.{Numbers}
use Rattle.vc_addrmap.specs.Parts.{numbers_of}
use Rattle.vc_best.specs.Parts.{layout_of}
use Rattle.vc_audit.specs.Debug.{Debug, guarded_offset}
use Rattle.vc_audit.proofs.DebugBlocks.{UserAt, guarded-at, live-down, others-at}
use Rattle.vc_audit.proofs.DebugFills.{guards-written}
use Rattle.vc_audit.proofs.DebugUser.{poke-guarded, poke-most, user_in}
use Rattle.vc_audit.proofs.debug.Debug.poke.Given.{Over}
use Rattle.vc_audit.proofs.debug.Debug.poke.Goals as goal
use Rattle.vc_audit.proofs.debug.Debug.poke.Goals.{After-guarded_addr, After-guarded_off}

pub guarded_addr-requires : goal.guarded_addr-requires
guarded_addr-requires g c = (live-down (layout_of c.args.self.now.best).blocks c.args.a.0 c.requires.block).0

-- the user's block, in the one with guards
user : (g : Over) (c : After-guarded_addr g) → UserAt (layout_of c.args.self.now.best) c.args.a.0 c.guarded_addr.result.0
user g c = user_in c.args.self.now c.args.a.0 c.guarded_addr.result.0 c.guarded_addr.ensures c.requires.block

-- and the place of its byte
place : (g : Over) (c : After-guarded_off g) → c.guarded_off.result ≡ guarded_offset c.args.off
place g c = c.guarded_off.ensures ∙ ap guarded_offset (to_z-of_z w64 c.args.off c.ranges.off)

pub guarded_off-requires-clause-last : goal.guarded_off-requires-clause-last
guarded_off-requires-clause-last g c = subst (λ (z : ℤ). z <ℤ pos 16777232) (sym (to_z-of_z w64 c.args.off c.ranges.off)) (poke-most c.args.self.now (user g (goal.at.guarded_off-requires-clause-last g c).After-guarded_addr) c.args.off c.requires.last)

pub fill-requires : goal.fill-requires
fill-requires g c =
    let h = goal.at.fill-requires g c in
    let u = user g h.After-guarded_addr in
    record {
      block = u.live;
      range = subst (λ n. HasRange (layout_of c.args.self.now.best).blocks c.guarded_addr.result.0 n 1) (sym (place g h.After-guarded_off)) (poke-guarded c.args.self.now u c.args.off c.requires.last);
    }

pub invariant_of-self : goal.invariant_of-self
invariant_of-self g c = record { guarded = rw c.fill.ensures.written.layout (guards-written c.guarded_off.result (replicate 1 c.args.byte) (place_of c.guarded_addr.result.0) (layout_of c.args.self.now.best).blocks c.args.self.now.guarded) }

pub returns-clause-debug : goal.returns-clause-debug
returns-clause-debug g c =
    let r = layout_of c.args.self.now.best in
    let x = c.guarded_addr.result.0 in
    let h = goal.at.returns-clause-debug g c in
    let D : Layout ℕ → Debug ℕ = λ l. record { best = l; marks = numbers_of c.args.self.now.marks } in
    let M : Numbers → Debug ℕ = λ ms. record { best = layout_of c.fill.new.self; marks = ms } in
    ap M c.get.ensures.same ∙ ap D (c.fill.ensures.written.layout ∙ (ap (λ n. with_bytes_at r (place_of x) n (c.args.byte ∷ [])) (place g h.After-guarded_off) ∙ ap (λ p. with_bytes_at r p (guarded_offset c.args.off) (c.args.byte ∷ [])) (sym (guarded-at r c.args.a.0 x (user g h.After-guarded_addr)))))

pub returns-clause-others : goal.returns-clause-others
returns-clause-others g c =
    let bs = (layout_of c.args.self.now.best).blocks in
    others-at (layout_of c.args.self.now.best) c.args.a.0 c.guarded_addr.result.0 (user g (goal.at.returns-clause-others g c).After-guarded_addr) (layout_of c.fill.new.self).blocks bs c.fill.ensures.written.others
