use Rattle.vc_base.proofs.Common.{◌≡◌, suc, ◌-◌, List, ◌∷◌, Option, Some, set, refl, ap, ◌∙◌, arith, Discipline}
use Rattle.vc_seg.specs.Boxed.{disc_in_box}
use Rattle.vc_seg.specs.Shelf.{place_at}
use Rattle.vc_ways.specs.RegionsParts.{best_holding}
use Rattle.vc_ways.specs.Settled.{slots_on, with_discs}
use Rattle.vc_ways.proofs.Slots.{one-back, still-taken}
use Rattle.vc_ways.proofs.regions.Regions.close.Given as given
use Rattle.vc_ways.proofs.regions.Regions.close.Goals as goal
use Rattle.vc_ways.proofs.regions.Regions.close.Goals.{After-give_back}

abbrev meaning : (g : given.Over) → (x : g.dyn-1.0.I) × (g.dyn-1.0.entry x).0.Denot → Discipline
meaning g p = (g.dyn-1.0.entry p.0).1.state p.1

pub close_pools-requires-clause-lent : goal.close_pools-requires-clause-lent
close_pools-requires-clause-lent g c = λ i d lt. c.requires.lent (suc (suc i)) d (omega (arith, lt))

pub close_pools-requires-clause-classes : goal.close_pools-requires-clause-classes
close_pools-requires-clause-classes g c = omega (arith, c.requires.classes)

pub close_pools-requires-clause-taken : goal.close_pools-requires-clause-taken
close_pools-requires-clause-taken g c = λ n first last. c.requires.taken n first (omega (arith, last, c.requires.classes))

pub close-second-requires : goal.close-second-requires
close-second-requires g c = c.requires.lent 1 (best_holding (meaning g) c.args.self.best) (omega arith)

pub close-first-requires : goal.close-first-requires
close-first-requires g c = c.requires.lent 0 (best_holding (meaning g) c.args.self.best) (omega arith)

pub give_back-requires : goal.give_back-requires
give_back-requires g c =
    ap (λ (xs : List (Option Discipline)). place_at xs 2) c.close_pools.ensures.slots
    ∙ still-taken (slots_on (meaning g) c.args.shelf.now) 22 c.requires.taken 2 1 refl (omega arith) c.close_pools.ensures.discs

-- the disciplines behind the first place are back
behind : (g : given.Over) (c : After-give_back g) → slots_on (meaning g) c.give_back.new.self ≡ with_discs 1 (disc_in_box (meaning g) c.close-second.result.0 ∷ c.close_pools.ensures.discs) (slots_on (meaning g) c.args.shelf.now)
behind g c =
    c.give_back.ensures.filled
    ∙ (ap (λ (xs : List (Option Discipline)). set xs (2 - 1) (Some (disc_in_box (meaning g) c.close-second.result.0))) c.close_pools.ensures.slots
    ∙ one-back (slots_on (meaning g) c.args.shelf.now) 22 c.requires.taken 2 1 refl (omega arith) c.close_pools.ensures.discs (disc_in_box (meaning g) c.close-second.result.0))

pub give_back-requires-2 : goal.give_back-requires-2
give_back-requires-2 g c =
    ap (λ (xs : List (Option Discipline)). place_at xs 1) (behind g (goal.at.give_back-requires-2 g c).After-give_back)
    ∙ still-taken (slots_on (meaning g) c.args.shelf.now) 22 c.requires.taken 1 0 refl (omega arith) (disc_in_box (meaning g) c.close-second.result.0 ∷ c.close_pools.ensures.discs)

pub returns : goal.returns
returns g c =
    let ds : List Discipline = disc_in_box (meaning g) c.close-second.result.0 ∷ c.close_pools.ensures.discs in
    let first : Discipline = disc_in_box (meaning g) c.close-first.result.0 in
    record {
      discs = first ∷ ds;
      settled = (c.close-first.ensures.disc, (c.close-second.ensures.disc, c.close_pools.ensures.settled));
      slots =
          c.give_back-2.ensures.filled
          ∙ (ap (λ (xs : List (Option Discipline)). set xs (1 - 1) (Some first)) (behind g (goal.at.returns g c).After-give_back)
          ∙ one-back (slots_on (meaning g) c.args.shelf.now) 22 c.requires.taken 1 0 refl (omega arith) ds first);
    }
