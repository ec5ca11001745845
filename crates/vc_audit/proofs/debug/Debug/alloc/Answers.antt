use Rattle.vc_base.proofs.Common.{ℕ, arith, Layout}
use Rattle.vc_addrmap.specs.Parts.{numbers_of}
use Rattle.vc_best.specs.Parts.{layout_of}
use Rattle.vc_audit.specs.Debug.{Debug, with_guards}
use Rattle.vc_audit.proofs.DebugPuts.{IsGuarded, below-guarded, fresh-guarded, guards-guarded, live-found, others-guarded, put-by, there-guarded, user-guarded}
use Rattle.vc_audit.proofs.debug.Debug.alloc.Given.{Over}
use Rattle.vc_audit.proofs.debug.Debug.alloc.Goals as goal
use Rattle.vc_audit.proofs.debug.Debug.alloc.Goals.{After-write_guards}

pub write_guards-requires-clause-range : goal.write_guards-requires-clause-range
write_guards-requires-clause-range g c =
    let bs = (layout_of c.alloc.new.self).blocks in
    record { block = live-found bs c.in_ok-at.at.0 _ c.in_ok-at.ensures.put.there; range = rw c.in_ok-at.ensures.put.there (omega arith) }

-- the block as it was put, with its guards
guarded : (g : Over) (c : After-write_guards g) → IsGuarded (layout_of c.args.self.now.best) (layout_of c.alloc.new.self) (layout_of c.write_guards.new.best) c.args.tag c.args.size c.in_ok-at.at.0
guarded g c = record {
  some = c.requires.size.some;
  most = c.requires.size.most;
  guards = c.args.self.now.guarded;
  there = c.in_ok-at.ensures.put.there;
  others = c.in_ok-at.ensures.put.others;
  fresh = c.in_ok-at.ensures.put.fresh;
  written = c.write_guards.ensures.layout;
  sound = c.write_guards.new.best.sound;
}

pub invariant_of-self-2 : goal.invariant_of-self-2
invariant_of-self-2 g c = record {
  guarded = guards-guarded (guarded g (goal.at.invariant_of-self-2 g c).After-write_guards);
}

pub user_addr-requires : goal.user_addr-requires
user_addr-requires g c = let low = below-guarded (guarded g (goal.at.user_addr-requires g c).After-write_guards) in omega (arith, low)

pub returns-clause-answer : goal.returns-clause-answer
returns-clause-answer g c =
    let u = user-guarded (guarded g (goal.at.returns-clause-answer g c).After-write_guards) c.user_addr.ensures in
    let F : ℕ × ℕ → Layout ℕ → Debug ℕ = λ at r. record { best = with_guards r at c.args.size; marks = numbers_of c.args.self.now.marks } in
    let D : Layout ℕ → Debug ℕ = λ r. record { best = r; marks = numbers_of c.args.self.now.marks } in
    let placed = put-by F _ c.in_ok-at.at.0 c.user_addr.result.0 (layout_of c.alloc.new.self) c.user_addr.ensures u.place c.in_ok-at.ensures.answer in
    rw c.write_guards.ensures.layout placed

pub returns-clause-put : goal.returns-clause-put
returns-clause-put g c =
    let all = guarded g (goal.at.returns-clause-put g c).After-write_guards in
    record {
      there = there-guarded all c.user_addr.ensures;
      fresh = fresh-guarded all c.user_addr.ensures;
      others = others-guarded all c.user_addr.ensures c.write_guards.ensures.others;
    }
