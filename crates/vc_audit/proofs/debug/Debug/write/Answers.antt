use Rattle.vc_base.proofs.Common.{ℕ, ◌+◌, length, sym, ap, ◌∙◌, arith, place_of, Layout, with_bytes_at}
use Rattle.vc_addrmap.specs.Map.{Numbers}
use Rattle.vc_addrmap.specs.Parts.{numbers_of}
use Rattle.vc_best.specs.Parts.{layout_of}
use Rattle.vc_audit.specs.Debug.{Debug}
use Rattle.vc_audit.proofs.DebugBlocks.{UserAt, guarded-at, live-down, others-at}
use Rattle.vc_audit.proofs.DebugFills.{guards-written}
use Rattle.vc_audit.proofs.DebugUser.{range-guarded, range-most, user_in}
use Rattle.vc_audit.proofs.debug.Debug.write.Given.{Over}
use Rattle.vc_audit.proofs.debug.Debug.write.Goals as goal
use Rattle.vc_audit.proofs.debug.Debug.write.Goals.{After-guarded_addr}

pub guarded_addr-requires : goal.guarded_addr-requires
guarded_addr-requires g c = (live-down (layout_of c.args.self.now.best).blocks c.args.a.0 c.requires.block).0

-- the user's block, in the one with guards
user : (g : Over) (c : After-guarded_addr g) → UserAt (layout_of c.args.self.now.best) c.args.a.0 c.guarded_addr.result.0
user g c = user_in c.args.self.now c.args.a.0 c.guarded_addr.result.0 c.guarded_addr.ensures c.requires.block

pub invariant_of-self : goal.invariant_of-self
invariant_of-self g c = record {
  guarded = rw c.write.ensures.written.layout (guards-written (32 + c.args.off) c.args.src.now (place_of c.guarded_addr.result.0) (layout_of c.args.self.now.best).blocks c.args.self.now.guarded);
}

pub returns-clause-debug : goal.returns-clause-debug
returns-clause-debug g c =
    let r = layout_of c.args.self.now.best in
    let D : Layout ℕ → Debug ℕ = λ l. record { best = l; marks = numbers_of c.args.self.now.marks } in
    let M : Numbers → Debug ℕ = λ ms. record { best = layout_of c.write.new.self; marks = ms } in
    ap M c.get.ensures.same ∙ ap D (c.write.ensures.written.layout ∙ ap (λ p. with_bytes_at r p (32 + c.args.off) c.args.src.now) (sym (guarded-at r c.args.a.0 c.guarded_addr.result.0 (user g (goal.at.returns-clause-debug g c).After-guarded_addr))))

pub returns-clause-others : goal.returns-clause-others
returns-clause-others g c =
    let bs = (layout_of c.args.self.now.best).blocks in
    others-at (layout_of c.args.self.now.best) c.args.a.0 c.guarded_addr.result.0 (user g (goal.at.returns-clause-others g c).After-guarded_addr) (layout_of c.write.new.self).blocks bs c.write.ensures.written.others

pub overflow_add-off : goal.overflow_add-off
overflow_add-off g c = let most = range-most c.args.self.now (user g (goal.at.overflow_add-off g c).After-guarded_addr) c.args.off (length c.args.src.now) c.requires.range in omega (arith, most)

pub write-requires : goal.write-requires
write-requires g c =
    let u = user g (goal.at.write-requires g c).After-guarded_addr in
    record { block = u.live; range = range-guarded c.args.self.now u c.args.off (length c.args.src.now) c.requires.range }
