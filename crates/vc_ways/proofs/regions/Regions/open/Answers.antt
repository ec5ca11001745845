use Rattle.vc_base.proofs.Common.{◌≡◌, ◌++◌, [], ◌∷◌, All-cons, List, Option, length, refl, ap, arith, Discipline}
use Rattle.vc_seg.specs.Boxed.{disc_in_box}
use Rattle.vc_ways.specs.Answer.{HasOwnSegmentsOut, Holding}
use Rattle.vc_ways.specs.LastParts.{last_holding}
use Rattle.vc_ways.specs.Lends.{Lends, Opens}
use Rattle.vc_ways.specs.PoolParts.{holdings}
use Rattle.vc_ways.specs.RegionsParts.{best_holding}
use Rattle.vc_ways.specs.Settled.{slots_on}
use Rattle.vc_ways.proofs.Empty.{lent-none}
use Rattle.vc_ways.proofs.Loans.{are-taken, give-at}
use Rattle.vc_ways.proofs.regions.Regions.open.Given as given
use Rattle.vc_ways.proofs.regions.Regions.open.Goals as goal
use Rattle.vc_ways.proofs.regions.Regions.open.Goals.{In-Err-open_pools, In-Ok, In-Ok-open_last}

abbrev meaning : (g : given.Over) → (x : g.dyn-1.0.I) × (g.dyn-1.0.entry x).0.Denot → Discipline
meaning g p = (g.dyn-1.0.entry p.0).1.state p.1

-- what is open: the best region, and the last one behind it
abbrev first : (g : given.Over) → In-Ok g → Holding
first g c = best_holding (meaning g) c.in-Ok.best

abbrev second : (g : given.Over) → In-Ok-open_last g → Holding
second g c = last_holding (meaning g) c.in-Ok-open_last.last

one : (g : given.Over) (c : In-Ok g) → Opens (first g c ∷ []) (slots_on (meaning g) c.args.shelf.now) (slots_on (meaning g) c.open_best.new.shelf)
one g c = c.in-Ok.ensures.lends (slots_on (meaning g) c.args.shelf.now) [] refl refl

two : (g : given.Over) (c : In-Ok-open_last g) → Opens (best_holding (meaning g) c.in-Ok.best ∷ second g c ∷ []) (slots_on (meaning g) c.args.shelf.now) (slots_on (meaning g) c.open_last.new.shelf)
two g c = c.in-Ok-open_last.ensures.lends (slots_on (meaning g) c.args.shelf.now) (best_holding (meaning g) c.in-Ok.best ∷ []) refl (one g (goal.at.In-Ok-open_last g c).In-Ok)

-- both are still lent where the pools can't be opened
failed : (g : given.Over) (c : In-Err-open_pools g) → Lends (best_holding (meaning g) c.in-Ok.best ∷ last_holding (meaning g) c.in-Ok-open_last.last ∷ []) (slots_on (meaning g) c.args.shelf.now) (slots_on (meaning g) c.open_pools.new.shelf)
failed g c =
    c.in-Err-open_pools.ensures.lends (slots_on (meaning g) c.args.shelf.now) (best_holding (meaning g) c.in-Ok.best ∷ last_holding (meaning g) c.in-Ok-open_last.last ∷ []) refl (two g (goal.at.In-Err-open_pools g c).In-Ok-open_last)

pub close_best-requires-clause-lent : goal.close_best-requires-clause-lent
close_best-requires-clause-lent g c = lent-none (best_holding (meaning g) c.in-Ok.best) (ap (λ r. r.segments) c.in-Ok.ensures.opened)

pub close_best-requires-clause-taken : goal.close_best-requires-clause-taken
close_best-requires-clause-taken g c =
    let at = (goal.at.close_best-requires-clause-taken g c).In-Ok in
    (slots_on (meaning g) c.args.shelf.now, (first g at ∷ [], (refl, c.in-Err-open_last.ensures.lends (slots_on (meaning g) c.args.shelf.now) (first g at ∷ []) refl (one g at))))

pub open_pools-requires : goal.open_pools-requires
open_pools-requires g c =
    (slots_on (meaning g) c.args.shelf.now, (best_holding (meaning g) c.in-Ok.best ∷ last_holding (meaning g) c.in-Ok-open_last.last ∷ [], (refl, two g (goal.at.open_pools-requires g c).In-Ok-open_last)))

pub close-disc-requires : goal.close-disc-requires
close-disc-requires g c = lent-none (last_holding (meaning g) c.in-Ok-open_last.last) (ap (λ r. r.segments) c.in-Ok-open_last.ensures.opened)

pub give_back-requires : goal.give_back-requires
give_back-requires g c =
    are-taken (best_holding (meaning g) c.in-Ok.best ∷ last_holding (meaning g) c.in-Ok-open_last.last ∷ []) (slots_on (meaning g) c.args.shelf.now) (slots_on (meaning g) c.open_pools.new.shelf) 2 refl (failed g (goal.at.give_back-requires g c).In-Err-open_pools) 2 (omega arith) (omega arith)

pub close_best-requires-in-Err-open_pools-clause-lent : goal.close_best-requires-in-Err-open_pools-clause-lent
close_best-requires-in-Err-open_pools-clause-lent g c = lent-none (best_holding (meaning g) c.in-Ok.best) (ap (λ r. r.segments) c.in-Ok.ensures.opened)

pub close_best-requires-in-Err-open_pools-clause-taken : goal.close_best-requires-in-Err-open_pools-clause-taken
close_best-requires-in-Err-open_pools-clause-taken g c =
    let best = best_holding (meaning g) c.in-Ok.best in (
      slots_on (meaning g) c.args.shelf.now,
      (
        best ∷ [],
        (
          refl,
          give-at (best ∷ []) (last_holding (meaning g) c.in-Ok-open_last.last) (slots_on (meaning g) c.args.shelf.now) (slots_on (meaning g) c.open_pools.new.shelf) (slots_on (meaning g) c.give_back.new.self) 2 (disc_in_box (meaning g) c.close-disc.result.0) refl
              (failed g (goal.at.close_best-requires-in-Err-open_pools-clause-taken g c).In-Err-open_pools) c.give_back.ensures.filled c.close-disc.ensures.disc,
        ),
      ),
    )

pub returns-in-Ok-open_pools-clause-lends : goal.returns-in-Ok-open_pools-clause-lends
returns-in-Ok-open_pools-clause-lends g c = λ old. by old
  where
    first : Holding
    first = best_holding (meaning g) c.in-Ok.best

    second : Holding
    second = last_holding (meaning g) c.in-Ok-open_last.last

    pools : List Holding
    pools = holdings (meaning g) c.in-Ok-open_pools.pools.items

    by : (old : List (Option Discipline)) (hs : List Holding) → length hs ≡ 0 → Opens hs old (slots_on (meaning g) c.args.shelf.now) → Opens (hs ++ first ∷ second ∷ pools) old (slots_on (meaning g) c.open_pools.new.shelf)
    by old [] zero lends = c.in-Ok-open_pools.ensures.lends old (first ∷ second ∷ []) refl (c.in-Ok-open_last.ensures.lends old (first ∷ []) refl (c.in-Ok.ensures.lends old [] refl lends))
    by old (h ∷ hs) zero lends = absurd (omega (arith, zero))

pub returns-in-Ok-open_pools-clause-lent : goal.returns-in-Ok-open_pools-clause-lent
returns-in-Ok-open_pools-clause-lent g c =
    let second : Holding = last_holding (meaning g) c.in-Ok-open_last.last in
    let pools : List Holding = holdings (meaning g) c.in-Ok-open_pools.pools.items in
    All-cons HasOwnSegmentsOut (best_holding (meaning g) c.in-Ok.best) (second ∷ pools) (lent-none (best_holding (meaning g) c.in-Ok.best) (ap (λ r. r.segments) c.in-Ok.ensures.opened))
    (All-cons HasOwnSegmentsOut second pools (lent-none (last_holding (meaning g) c.in-Ok-open_last.last) (ap (λ r. r.segments) c.in-Ok-open_last.ensures.opened)) c.in-Ok-open_pools.ensures.lent)

pub returns-in-Err-open_pools-clause-lends : goal.returns-in-Err-open_pools-clause-lends
returns-in-Err-open_pools-clause-lends g c = λ old. by old
  where
    first : Holding
    first = best_holding (meaning g) c.in-Ok.best

    second : Holding
    second = last_holding (meaning g) c.in-Ok-open_last.last

    by : (old : List (Option Discipline)) (hs : List Holding) → length hs ≡ 0 → Opens hs old (slots_on (meaning g) c.args.shelf.now) → Lends hs old (slots_on (meaning g) c.close_best-in-Err-open_pools.new.shelf)
    by old [] zero lends =
        c.close_best-in-Err-open_pools.ensures old
        (give-at (first ∷ []) second old (slots_on (meaning g) c.open_pools.new.shelf) (slots_on (meaning g) c.give_back.new.self) 2 (disc_in_box (meaning g) c.close-disc.result.0) refl
        (c.in-Err-open_pools.ensures.lends old (first ∷ second ∷ []) refl (c.in-Ok-open_last.ensures.lends old (first ∷ []) refl (c.in-Ok.ensures.lends old [] refl lends))) c.give_back.ensures.filled c.close-disc.ensures.disc)
    by old (h ∷ hs) zero lends = absurd (omega (arith, zero))
