use Rattle.vc_base.proofs.Common.{ℕ, None, sym, ap, ◌∙◌, subst, arith, length-map, place_of, without_block_at, Layout, HasBlock}
use Rattle.vc_model.proofs.Owned.{address-place_of}
use Rattle.vc_addrmap.specs.Map.{Numbers, with_number}
use Rattle.vc_addrmap.specs.Parts.{numbers_of}
use Rattle.vc_best.specs.Parts.{layout_of}
use Rattle.vc_audit.specs.Debug.{Debug, guarded_place, user_block}
use Rattle.vc_audit.proofs.DebugBlocks.{UserAt, guarded-at, live-down}
use Rattle.vc_audit.proofs.DebugFills.{guards-without}
use Rattle.vc_audit.proofs.DebugFrees.{freed-user}
use Rattle.vc_audit.proofs.DebugUser.{user_in}
use Rattle.vc_audit.proofs.debug.Debug.free.Given.{Over}
use Rattle.vc_audit.proofs.debug.Debug.free.Goals as goal
use Rattle.vc_audit.proofs.debug.Debug.free.Goals.{After-guarded_addr}

pub guarded_addr-requires : goal.guarded_addr-requires
guarded_addr-requires g c = (live-down (layout_of c.args.self.now.best).blocks c.args.a.0 c.requires).0

-- the user's block, in the one with guards
user : (g : Over) (c : After-guarded_addr g) → UserAt (layout_of c.args.self.now.best) c.args.a.0 c.guarded_addr.result.0
user g c = user_in c.args.self.now c.args.a.0 c.guarded_addr.result.0 c.guarded_addr.ensures c.requires

pub free-requires : goal.free-requires
free-requires g c = record { block = (user g (goal.at.free-requires g c).After-guarded_addr).live }

pub invariant_of-self : goal.invariant_of-self
invariant_of-self g c = record { guarded = rw c.free.ensures.layout (guards-without (place_of c.guarded_addr.result.0) (layout_of c.args.self.now.best).blocks c.args.self.now.guarded) }

pub returns-clause-debug : goal.returns-clause-debug
returns-clause-debug g c =
    let r = layout_of c.args.self.now.best in
    let a = c.args.a.0 in
    let marks = numbers_of c.args.self.now.marks in
    let D : Layout ℕ → Numbers → Debug ℕ = λ l ms. record { best = l; marks = ms } in
    ap (λ l. D l (numbers_of c.take.new.self)) (c.free.ensures.layout ∙ ap (without_block_at r) (sym (guarded-at r a c.guarded_addr.result.0 (user g (goal.at.returns-clause-debug g c).After-guarded_addr))))
    ∙ ap (D (without_block_at r (guarded_place (place_of a)))) (c.take.ensures.numbers ∙ ap (λ n. with_number n None marks) (sym (address-place_of a)))

pub returns-clause-freed : goal.returns-clause-freed
returns-clause-freed g c =
    let bs = (layout_of c.args.self.now.best).blocks in
    let cs = (layout_of c.free.new.self).blocks in
    record {
      one_less = omega (arith, c.free.ensures.freed.one_less, length-map bs (user_block {L = ℕ}), length-map cs (user_block {L = ℕ}));
      freed = freed-user bs cs c.args.a.0 c.guarded_addr.result.0 (user g (goal.at.returns-clause-freed g c).After-guarded_addr).next c.free.ensures.freed.freed;
      none_left = λ live. c.free.ensures.freed.none_left (subst (HasBlock cs) (sym c.guarded_addr.ensures) (live-down cs c.args.a.0 live).1);
    }
