use Rattle.vc_base.proofs.Common.{◌≡◌, ℕ, Bool, List, Some, if◌then◌else◌, option_map, is_eq, sym, ap, ◌∙◌, number_of}
use Rattle.vc_base.specs.declared.addr.Addr.{Addr}
use Rattle.vc_dtdisc.specs.Objects.{is_match}
use Rattle.vc_paths.specs.Layers.{bytes_there}
use Rattle.vc_paths.proofs.WalkLemmas.{IsLastUpTo-end, IsLastUpTo-further, IsLastUpTo-shorter, IsLastUpTo-start}
use Rattle.vc_paths.proofs.layers.Layers.last_like.Given.{Over}
use Rattle.vc_paths.proofs.layers.Layers.last_like.Goals as goal
use Rattle.vc_paths.proofs.layers.Layers.last_like.Goals.{After-next-next-in-Some, then-is_eq, else-is_eq}

-- what is kept is what was passed where it matches
kept : (g : Over) (c : After-next-next-in-Some g) (x y : List ℕ) → bytes_there c.args.at.0 ((g.Self.Layers.layered c.args.self.now).layer c.args.d).objects ≡ Some x
    → bytes_there c.in-Some.other.0 ((g.Self.Layers.layered c.args.self.now).layer c.args.d).objects ≡ Some y
    → c.if-is_eq.last.0 ≡ (if is_match ((g.Self.Layers.layered c.args.self.now).layer c.args.d).rules x y then c.in-Some.other.0 else c.loop-next.last.0)
kept g c x y h there =
    let chosen : Bool → ℕ = λ t. if t then c.in-Some.other.0 else c.loop-next.last.0 in
    let match = sym (ap is_eq (c.compare_at.ensures y x there h)) ∙ sym c.is_eq.ensures in
    elim c.if-is_eq.branch [
      | then-is_eq w ↦ ap (λ (a : Addr). a.0) w.last-is ∙ sym (ap chosen (match ∙ w.if-is_eq.true))
      | else-is_eq w ↦ ap (λ (a : Addr). a.0) w.last-is ∙ sym (ap chosen (match ∙ w.if-is_eq.false))
    ]

pub loop-next-init : goal.loop-next-init
loop-next-init g c = IsLastUpTo-start (g.met.Self.Layers.lawful c.args.self.now) c.requires.dict c.args.at.0 c.requires.place c.next-next.ensures

pub loop-next-smaller : goal.loop-next-smaller
loop-next-smaller g c =
    IsLastUpTo-shorter (g.met.Self.Layers.lawful c.args.self.now) c.requires.dict c.args.at.0 c.loop-next.last.0 c.in-Some.other.0
    (ap (option_map number_of) c.in-Some.is) c.loop-next.invariant c.next-next-in-Some.ensures

pub loop-next-preserved : goal.loop-next-preserved
loop-next-preserved g c =
    IsLastUpTo-further (g.met.Self.Layers.lawful c.args.self.now) c.requires.dict c.args.at.0 c.loop-next.last.0 c.in-Some.other.0 c.if-is_eq.last.0
    (ap (option_map number_of) c.in-Some.is) c.loop-next.invariant (kept g (goal.at.loop-next-preserved g c).After-next-next-in-Some) c.next-next-in-Some.ensures

pub returns-clause-found : goal.returns-clause-found
returns-clause-found g c =
    IsLastUpTo-end ((g.Self.Layers.layered c.args.self.now).layer c.args.d) c.args.at.0 c.loop-next.last.0 (ap (option_map number_of) c.in_default.is) c.loop-next.invariant
