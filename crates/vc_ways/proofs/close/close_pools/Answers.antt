use Rattle.vc_base.proofs.Common.{◌≡◌, ℕ, suc, ◌+◌, ◌-◌, List, [], ◌∷◌, ◌++◌, All, Option, Some, length, map, set, sym, ap, ◌∙◌, subst, arith, append-nil, append_assoc, length-append, Discipline}
use Rattle.vc_seg.specs.Boxed.{disc_in_box}
use Rattle.vc_seg.specs.Shelf.{place_at}
use Rattle.vc_ways.specs.Answer.{HasOwnSegmentsOut}
use Rattle.vc_ways.specs.PoolParts.{holding_in}
use Rattle.vc_ways.specs.Settled.{slots_on, with_discs}
use Rattle.vc_ways.proofs.Slots.{all-mid, none-back, one-back, still-taken}
use Rattle.vc_ways.proofs.close.close_pools.Invariants.{meaning}
use Rattle.vc_ways.proofs.close.close_pools.Given as given
use Rattle.vc_ways.proofs.close.close_pools.Goals as goal
use Rattle.vc_ways.proofs.close.close_pools.Goals.{In-Some}

pub loop-pool-init : goal.loop-pool-init
loop-pool-init g c =
    ([], sym (append-nil c.args.pools.items), record { discs = []; settled = tt; slots = none-back (2 + length c.args.pools.items) (slots_on (meaning g) c.args.shelf.now) })

-- the pools: those that are left, the one that is closed, and those that were before it
all : (g : given.Over) (c : In-Some g) → c.args.pools.items ≡ c.pop.new.self.items ++ c.in-Some.pool ∷ c.loop-pool.invariant.0
all g c =
    c.loop-pool.invariant.1 ∙ (ap (λ xs. xs ++ c.loop-pool.invariant.0) c.in-Some.ensures.items ∙ append_assoc c.pop.new.self.items (c.in-Some.pool ∷ []) c.loop-pool.invariant.0)

count : (g : given.Over) (c : In-Some g) → length c.args.pools.items ≡ length c.pop.new.self.items + suc (length c.loop-pool.invariant.0)
count g c = ap length (all g c) ∙ length-append c.pop.new.self.items (c.in-Some.pool ∷ c.loop-pool.invariant.0)

-- the shelf so far
shelf : (g : given.Over) (c : In-Some g) → slots_on (meaning g) c.loop-pool.shelf ≡ with_discs (2 + length c.pop.new.self.items + 1) c.loop-pool.invariant.2.discs (slots_on (meaning g) c.args.shelf.now)
shelf g c =
    let more = ap length c.in-Some.ensures.items ∙ length-append c.pop.new.self.items (c.in-Some.pool ∷ []) in
    let first : 2 + length c.loop-pool.pools.items ≡ 2 + length c.pop.new.self.items + 1 = omega (arith, more) in
    c.loop-pool.invariant.2.slots ∙ ap (λ k. with_discs k c.loop-pool.invariant.2.discs (slots_on (meaning g) c.args.shelf.now)) first

pub close-disc-requires : goal.close-disc-requires
close-disc-requires g c =
    all-mid HasOwnSegmentsOut (holding_in (meaning g)) c.pop.new.self.items c.in-Some.pool c.loop-pool.invariant.0
    (subst (λ xs. All HasOwnSegmentsOut (map (holding_in (meaning g)) xs)) (all g (goal.at.close-disc-requires g c).In-Some) c.requires.lent)

pub give_back-requires : goal.give_back-requires
give_back-requires g c =
    let at = (goal.at.give_back-requires g c).In-Some in
    ap (λ xs. place_at xs (c.len.result + 3)) (shelf g at)
    ∙ still-taken (slots_on (meaning g) c.args.shelf.now) (length c.args.pools.items + 2) c.requires.taken (c.len.result + 3) (2 + length c.pop.new.self.items) (omega (arith, c.len.ensures)) (omega (arith, c.len.ensures, count g at)) c.loop-pool.invariant.2.discs

pub loop-pool-preserved : goal.loop-pool-preserved
loop-pool-preserved g c =
    let before = (goal.at.loop-pool-preserved g c).In-Some in
    let d : Discipline = disc_in_box (meaning g) c.close-disc.result.0 in (
      c.in-Some.pool ∷ c.loop-pool.invariant.0,
      all g before,
      record {
        discs = d ∷ c.loop-pool.invariant.2.discs;
        settled = (c.close-disc.ensures.disc, c.loop-pool.invariant.2.settled);
        slots =
            c.give_back.ensures.filled
            ∙ (ap (λ (xs : List (Option Discipline)). set xs (c.len.result + 3 - 1) (Some d)) (shelf g before)
            ∙ one-back (slots_on (meaning g) c.args.shelf.now) (length c.args.pools.items + 2) c.requires.taken (c.len.result + 3) (2 + length c.pop.new.self.items) (omega (arith, c.len.ensures)) (omega (arith, c.len.ensures, count g before)) c.loop-pool.invariant.2.discs d);
      },
    )
