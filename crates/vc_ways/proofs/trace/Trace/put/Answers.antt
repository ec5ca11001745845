use Rattle.vc_base.proofs.Common.{rules, ◌≡◌, ◌∙◌, None, length-map, refl, sym, ap, subst, Discipline, false, true}
use Rattle.vc_pool.specs.Parts.{pool_of}
use Rattle.vc_ways.specs.Answer.{KeepsWays}
use Rattle.vc_ways.specs.Extents.{newest_of, with_extents}
use Rattle.vc_ways.specs.PoolWay.{class_of}
use Rattle.vc_ways.specs.Regions.{extent_sums}
use Rattle.vc_ways.specs.RegionsParts.{all_holdings, live_of, regions_of, terms_of}
use Rattle.vc_ways.specs.Step.{goes_with}
use Rattle.vc_ways.specs.TraceParts.{trace_state}
use Rattle.vc_ways.specs.declared.regions.Regions.{Regions}
use Rattle.vc_ways.proofs.Extents.{put-extents}
use Rattle.vc_ways.proofs.PoolLists.{class-few}
use Rattle.vc_ways.proofs.PoolSteps.{kept-any}
use Rattle.vc_ways.proofs.TraceStands.{new-none, placed-goes, placed-stands}
use Rattle.vc_ways.proofs.trace.Trace.put.Given as given
use Rattle.vc_ways.proofs.trace.Trace.put.Goals as goal
use Rattle.vc_ways.proofs.trace.Trace.put.Goals.{In-Ok}

abbrev meaning : (g : given.Over) → (x : g.dyn-1.0.I) × (g.dyn-1.0.entry x).0.Denot → Discipline
meaning g p = (g.dyn-1.0.entry p.0).1.state p.1

-- the extents, by the segments that were the newest
grew : (g : given.Over) (c : In-Ok g) →
    extent_sums (regions_of c.put.new.self) ≡ with_extents (regions_of c.put.new.self) (class_of c.args.size) (newest_of (regions_of c.args.self.now.regions) (class_of c.args.size)) (extent_sums (regions_of c.args.self.now.regions))
grew g c =
    put-extents (terms_of (meaning g) c.args.self.now.regions) (regions_of c.args.self.now.regions) (length-map c.args.self.now.regions.pools.items pool_of ∙ c.requires.stands.whole.classes) c.args.size (class-few c.args.size c.requires.size.most) (live_of c.in-Ok.live, regions_of c.put.new.self) c.in-Ok.ensures.answer

pub returns-in-Ok-place-clause-answer : goal.returns-in-Ok-place-clause-answer
returns-in-Ok-place-clause-answer g c =
    ap (goes_with (trace_state c.args.self.now) c.args.r.now c.args.x.now) c.in-Ok.ensures.answer
    ∙ placed-goes (meaning g) c.args.self.now c.place.new.self c.put.new.self c.requires.stands c.in-Ok-place.ensures.regions c.args.r.now c.args.x.now c.in-Ok.live 0 c.args.size c.class_of-class.result c.newest-first.result None c.in-Ok-place.ensures.placed (new-none c.args.self.now.blocks.entries c.args.x.now c.requires.new) refl c.class_of-class.ensures.value c.newest-first.ensures
    (grew g (goal.at.returns-in-Ok-place-clause-answer g c).In-Ok)

pub returns-in-Ok-place-clause-leaves : goal.returns-in-Ok-place-clause-leaves
returns-in-Ok-place-clause-leaves g c =
    record {
      stands =
          placed-stands (meaning g) c.args.self.now c.place.new.self c.put.new.self c.requires.stands c.in-Ok-place.ensures.regions c.args.r.now c.args.x.now c.in-Ok.live 0 c.args.size c.class_of-class.result c.newest-first.result None c.in-Ok-place.ensures.placed (new-none c.args.self.now.blocks.entries c.args.x.now c.requires.new) refl c.class_of-class.ensures.value c.newest-first.ensures
          (grew g (goal.at.returns-in-Ok-place-clause-leaves g c).In-Ok) (λ k. Unit {0}) c.in-Ok.ensures.leaves.whole c.in-Ok.ensures.leaves.keeps c.in-Ok.ensures.comes (λ q k other is. tt);
      keeps = subst (λ (m : Regions _ _). KeepsWays true (all_holdings (meaning g) c.args.self.now.regions) (all_holdings (meaning g) m)) (sym c.in-Ok-place.ensures.regions) c.in-Ok.ensures.leaves.keeps;
      refused = tt;
    }

pub returns-in-Err-place-clause-leaves : goal.returns-in-Err-place-clause-leaves
returns-in-Err-place-clause-leaves g c =
    record {
      stands = tt;
      keeps = subst (λ (m : Regions _ _). KeepsWays false (all_holdings (meaning g) c.args.self.now.regions) (all_holdings (meaning g) m)) (sym c.in-Err-place.ensures.regions) (kept-any false (all_holdings (meaning g) c.args.self.now.regions) (all_holdings (meaning g) c.put.new.self) c.in-Ok.ensures.leaves.keeps);
      refused = search rules;
    }
