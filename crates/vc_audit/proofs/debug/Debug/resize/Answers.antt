use Rattle.vc_base.proofs.Common.{◌≡◌, ℕ, ◌+◌, min, false, IfSome, Option, unwrap_or, sym, refl, ap, ◌∙◌, subst, arith, place_of, Block, Layout, find_block}
use Rattle.vc_addrmap.specs.Map.{Numbers}
use Rattle.vc_addrmap.specs.Parts.{numbers_of}
use Rattle.vc_best.specs.Parts.{layout_of}
use Rattle.vc_audit.specs.Debug.{Debug, stays_debug}
use Rattle.vc_audit.proofs.DebugBlocks.{UserAt, found-at, live-down}
use Rattle.vc_audit.proofs.DebugPuts.{IsResized, answer-resized, below-resized, guards-resized, live-sized, others-resized, range-sized, refused-resized, stays-user, there-resized}
use Rattle.vc_audit.proofs.DebugUser.{user_in}
use Rattle.vc_audit.proofs.debug.Debug.resize.Given.{Over}
use Rattle.vc_audit.proofs.debug.Debug.resize.Goals as goal
use Rattle.vc_audit.proofs.debug.Debug.resize.Goals.{After-guarded_addr, After-write_zeros}

pub guarded_addr-requires : goal.guarded_addr-requires
guarded_addr-requires g c = (live-down (layout_of c.args.self.now.best).blocks c.args.a.0 c.requires.block).0

-- the user's block, in the one with guards
user : (g : Over) (c : After-guarded_addr g) → UserAt (layout_of c.args.self.now.best) c.args.a.0 c.guarded_addr.result.0
user g c = user_in c.args.self.now c.args.a.0 c.guarded_addr.result.0 c.guarded_addr.ensures c.requires.block

pub resize-requires-clause-block : goal.resize-requires-clause-block
resize-requires-clause-block g c = (user g (goal.at.resize-requires-clause-block g c).After-guarded_addr).live

pub write_zeros-requires-clause-range : goal.write_zeros-requires-clause-range
write_zeros-requires-clause-range g c =
    let bs = (layout_of c.resize.new.self).blocks in
    record { block = live-sized bs c.in-Ok.at.0 (c.args.size + 48) _ refl c.in-Ok.ensures.sized; range = range-sized (find_block (place_of c.in-Ok.at.0) bs) (c.args.size + 48) c.in-Ok.ensures.sized }

-- the block as it was given another size
resized : (g : Over) (c : After-write_zeros g) → IsResized (layout_of c.args.self.now.best) (layout_of c.resize.new.self) (layout_of c.write_zeros.new.best) c.args.size c.min-kept.result c.guarded_addr.result.0 c.in-Ok.at.0
resized g c = record {
  some = c.requires.size.some;
  most = c.requires.size.most;
  guards = c.args.self.now.guarded;
  sized = c.in-Ok.ensures.sized;
  there = c.in-Ok.ensures.kept.label;
  others = c.in-Ok.ensures.kept.others;
  written = c.write_zeros.ensures.layout;
  sound = c.write_zeros.new.best.sound;
}

pub invariant_of-self : goal.invariant_of-self
invariant_of-self g c = record {
  guarded = guards-resized (resized g (goal.at.invariant_of-self g c).After-write_zeros);
}

pub user_addr-to-requires : goal.user_addr-to-requires
user_addr-to-requires g c = let low = below-resized (resized g (goal.at.user_addr-to-requires g c).After-write_zeros) in omega (arith, low)

pub returns-clause-answer : goal.returns-clause-answer
returns-clause-answer g c =
    let D : Layout ℕ → Debug ℕ = λ l. record { best = l; marks = numbers_of c.args.self.now.marks } in
    let M : Numbers → Debug ℕ = λ ms. record { best = layout_of c.resize.new.self; marks = ms } in
    (refused-resized (layout_of c.args.self.now.best) (numbers_of c.args.self.now.marks) _ c.args.a.0 c.guarded_addr.result.0 c.args.size c.args.may_move c.in-Err.fault (user g (goal.at.returns-clause-answer g c).After-guarded_addr) c.in-Err.ensures.answer.0, ap M c.get.ensures.same ∙ ap D c.in-Err.ensures.answer.1)

pub returns-clause-no_memory : goal.returns-clause-no_memory
returns-clause-no_memory g c = λ e.
    let r = layout_of c.args.self.now.best in
    let d : Debug ℕ = record { best = r; marks = numbers_of c.args.self.now.marks } in
    let x = c.guarded_addr.result.0 in
    let h = c.in-Err.ensures.no_memory e in
    record {
      stays = subst (λ (o : Option (Block ℕ)). IfSome o (λ b. stays_debug d c.args.size b ≡ false)) (sym (found-at r c.args.a.0 x (user g (goal.at.returns-clause-no_memory g c).After-guarded_addr) r.blocks)) (stays-user d c.args.size (find_block (place_of x) r.blocks) h.stays);
      may = h.may;
      asks = h.asks;
    }

pub returns-in-Ok-clause-answer : goal.returns-in-Ok-clause-answer
returns-in-Ok-clause-answer g c =
    answer-resized (resized g (goal.at.returns-in-Ok-clause-answer g c).After-write_zeros) (user g (goal.at.returns-in-Ok-clause-answer g c).After-guarded_addr) c.user_addr-to.ensures _ (numbers_of c.args.self.now.marks) (numbers_of c.moved.new.self) c.args.may_move (ap (λ o. min (unwrap_or o 0) c.args.size) c.size.ensures ∙ sym c.min-kept.ensures) c.moved.ensures.numbers c.in-Ok.ensures.answer

pub returns-in-Ok-clause-kept : goal.returns-in-Ok-clause-kept
returns-in-Ok-clause-kept g c =
    let h = goal.at.returns-in-Ok-clause-kept g c in
    let all = resized g h.After-write_zeros in
    let u = user g h.After-guarded_addr in
    record { label = there-resized all u c.user_addr-to.ensures; others = others-resized all u c.user_addr-to.ensures c.write_zeros.ensures.others }
