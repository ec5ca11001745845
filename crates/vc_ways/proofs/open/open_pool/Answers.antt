use Rattle.vc_base.proofs.Common.{◌≡◌, ◌++◌, ◌-◌, [], ◌∷◌, List, Option, ap, refl, sym, subst, arith, rules, length, Discipline}
use Rattle.vc_seg.specs.Boxed.{disc_in_box}
use Rattle.vc_seg.specs.Shelf.{slots_of}
use Rattle.vc_ways.specs.PoolParts.{holding_in}
use Rattle.vc_ways.specs.Answer.{Holding}
use Rattle.vc_ways.specs.Lends.{Opens, unused}
use Rattle.vc_ways.specs.Settled.{slots_on}
use Rattle.vc_ways.proofs.Loans.{give-unused, held-unused, lend-at, opens-lends}
use Rattle.vc_ways.proofs.open.open_pool.Given as given
use Rattle.vc_ways.proofs.open.open_pool.Goals as goal
use Rattle.vc_ways.proofs.open.open_pool.Goals.{In-Some}

abbrev meaning : (g : given.Over) → (x : g.dyn-1.0.I) × (g.dyn-1.0.entry x).0.Denot → Discipline
meaning g p = (g.dyn-1.0.entry p.0).1.state p.1

-- its discipline is lent, and held
lent : (g : given.Over) (c : In-Some g) (h : Holding) (old : List (Option Discipline)) (hs : List Holding) → length hs ≡ c.args.n - 1 → Opens hs old (slots_on (meaning g) c.args.shelf.now) → h ≡ unused (disc_in_box (meaning g) c.in-Some.disc) → Opens (hs ++ h ∷ []) old (slots_on (meaning g) c.take.new.self)
lent g c h old hs many opens is =
    lend-at hs old (slots_on (meaning g) c.args.shelf.now) c.args.n (omega (arith, many, c.requires)) opens (slots_on (meaning g) c.take.new.self) (disc_in_box (meaning g) c.in-Some.disc) h c.in-Some.ensures.taken c.in-Some.ensures.emptied is

pub returns-in-Err-clause-lends : goal.returns-in-Err-clause-lends
returns-in-Err-clause-lends g c = λ old hs many opens.
    let d : Discipline = disc_in_box (meaning g) c.in-Some.disc in
    let there = lent g (goal.at.returns-in-Err-clause-lends g c).In-Some (unused d) old hs many opens refl in
    give-unused hs old (slots_on (meaning g) c.take.new.self) (slots_on (meaning g) c.give_back.new.self) c.args.n d (disc_in_box (meaning g) c.in-Err.disc) (omega (arith, many, c.requires)) there c.give_back.ensures.filled c.in-Err.ensures.err

pub returns-in-Ok-clause-lends : goal.returns-in-Ok-clause-lends
returns-in-Ok-clause-lends g c = λ old hs many opens.
    let h = holding_in (meaning g) c.in-Ok.pool in
    lent g (goal.at.returns-in-Ok-clause-lends g c).In-Some h old hs many opens (held-unused h (disc_in_box (meaning g) c.in-Some.disc) c.in-Ok.ensures.ok.1 (ap (λ r. r.layout.segments) c.in-Ok.ensures.ok.0))

pub returns-in_default-clause-lends : goal.returns-in_default-clause-lends
returns-in_default-clause-lends g c = λ old hs many opens.
    let same : c.take.new.self.slots.items ≡ c.args.shelf.now.slots.items = search rules in
    opens-lends hs old (slots_on (meaning g) c.take.new.self) (subst (Opens hs old) (ap (slots_of (disc_in_box (meaning g))) (sym same)) opens)
