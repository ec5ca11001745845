use Rattle.vc_base.proofs.Common.{◌≡◌, rules, ◌∙◌, None, Some, bytes_eq, length-map, option_map, refl, sym, ap, subst, Discipline, false, true}
use Rattle.std.proofs.lemmas.Map.Made.{lookup-map_values}
use Rattle.vc_pool.specs.Parts.{pool_of}
use Rattle.vc_ways.specs.Answer.{KeepsWays}
use Rattle.vc_ways.specs.Extents.{newest_of, with_extents}
use Rattle.vc_ways.specs.PoolWay.{class_of}
use Rattle.vc_ways.specs.Regions.{extent_sums, size_block}
use Rattle.vc_ways.specs.RegionsParts.{IsStopped, StandApart, all_holdings, live_of, regions_of, terms_of}
use Rattle.vc_ways.specs.Step.{Stops, goes_with, size_found}
use Rattle.vc_ways.specs.TraceParts.{trace_state}
use Rattle.vc_ways.specs.declared.regions.Regions.{Regions}
use Rattle.vc_ways.proofs.Extents.{size-extents}
use Rattle.vc_ways.proofs.PoolLists.{class-few}
use Rattle.vc_ways.proofs.PoolSteps.{kept-any, kept-same}
use Rattle.vc_ways.proofs.TraceSteps.{goes-stopped}
use Rattle.vc_ways.proofs.TraceStands.{placed-goes, placed-stands}
use Rattle.vc_ways.proofs.trace.Trace.resize.Given as given
use Rattle.vc_ways.proofs.trace.Trace.resize.Goals as goal
use Rattle.vc_ways.proofs.trace.Trace.resize.Goals.{In-Ok}

abbrev meaning : (g : given.Over) → (x : g.dyn-1.0.I) × (g.dyn-1.0.entry x).0.Denot → Discipline
meaning g p = (g.dyn-1.0.entry p.0).1.state p.1

pub returns-in-None-clause-answer : goal.returns-in-None-clause-answer
returns-in-None-clause-answer g c =
    ap (size_found (terms_of (meaning g) c.args.self.now.regions) (trace_state c.args.self.now) c.args.r.now c.args.x.now c.args.size None) (lookup-map_values live_of (bytes_eq c.args.x.now) c.args.self.now.blocks.entries ∙ ap (option_map live_of) (sym c.in-None.ensures))

pub returns-in-None-clause-leaves : goal.returns-in-None-clause-leaves
returns-in-None-clause-leaves g c = record { stands = c.requires.stands; keeps = kept-same _ (all_holdings (meaning g) c.args.self.now.regions); refused = tt }

pub resize-requires-clause-live : goal.resize-requires-clause-live
resize-requires-clause-live g c = c.requires.stands.live c.args.x.now c.in-Some.old (sym c.in-Some.ensures)

-- the extents, by the segments that were the newest
grew : (g : given.Over) (c : In-Ok g) →
    extent_sums (regions_of c.resize.new.self) ≡ with_extents (regions_of c.resize.new.self) (class_of c.args.size) (newest_of (regions_of c.args.self.now.regions) (class_of c.args.size)) (extent_sums (regions_of c.args.self.now.regions))
grew g c =
    size-extents (terms_of (meaning g) c.args.self.now.regions) (regions_of c.args.self.now.regions) (length-map c.args.self.now.regions.pools.items pool_of ∙ c.requires.stands.whole.classes) c.args.size (class-few c.args.size c.requires.size.most) (live_of c.in-Ok.live, regions_of c.resize.new.self) (live_of c.in-Some.old)
    (class-few c.in-Some.old.size (c.requires.stands.live c.args.x.now c.in-Some.old (sym c.in-Some.ensures)).size.most) c.in-Ok.ensures.answer

pub returns-in-Ok-place-clause-answer : goal.returns-in-Ok-place-clause-answer
returns-in-Ok-place-clause-answer g c =
    ap (size_found (terms_of (meaning g) c.args.self.now.regions) (trace_state c.args.self.now) c.args.r.now c.args.x.now c.args.size None) (lookup-map_values live_of (bytes_eq c.args.x.now) c.args.self.now.blocks.entries ∙ ap (option_map live_of) (sym c.in-Some.ensures))
    ∙ (ap (goes_with (trace_state c.args.self.now) c.args.r.now c.args.x.now) c.in-Ok.ensures.answer
    ∙ placed-goes (meaning g) c.args.self.now c.place.new.self c.resize.new.self c.requires.stands c.in-Ok-place.ensures.regions c.args.r.now c.args.x.now c.in-Ok.live c.in-Some.old.size c.args.size c.class_of-class.result c.newest-first.result (Some c.in-Some.old) c.in-Ok-place.ensures.placed (sym c.in-Some.ensures) refl c.class_of-class.ensures.value c.newest-first.ensures
    (grew g (goal.at.returns-in-Ok-place-clause-answer g c).In-Ok))

pub returns-in-Ok-place-clause-leaves : goal.returns-in-Ok-place-clause-leaves
returns-in-Ok-place-clause-leaves g c =
    record {
      stands =
          placed-stands (meaning g) c.args.self.now c.place.new.self c.resize.new.self c.requires.stands c.in-Ok-place.ensures.regions c.args.r.now c.args.x.now c.in-Ok.live c.in-Some.old.size c.args.size c.class_of-class.result c.newest-first.result (Some c.in-Some.old) c.in-Ok-place.ensures.placed (sym c.in-Some.ensures) refl c.class_of-class.ensures.value c.newest-first.ensures
          (grew g (goal.at.returns-in-Ok-place-clause-leaves g c).In-Ok) (λ k. StandApart k c.in-Some.old) c.in-Ok.ensures.leaves.whole c.in-Ok.ensures.leaves.keeps c.in-Ok.ensures.comes
          (λ q k other is. c.requires.stands.apart q c.args.x.now k c.in-Some.old (λ e. other (sym e)) is (sym c.in-Some.ensures));
      keeps = subst (λ (m : Regions _ _). KeepsWays true (all_holdings (meaning g) c.args.self.now.regions) (all_holdings (meaning g) m)) (sym c.in-Ok-place.ensures.regions) c.in-Ok.ensures.leaves.keeps;
      refused = tt;
    }

pub returns-in-Err-place-clause-leaves : goal.returns-in-Err-place-clause-leaves
returns-in-Err-place-clause-leaves g c =
    record {
      stands = tt;
      keeps = subst (λ (m : Regions _ _). KeepsWays false (all_holdings (meaning g) c.args.self.now.regions) (all_holdings (meaning g) m)) (sym c.in-Err-place.ensures.regions) (kept-any false (all_holdings (meaning g) c.args.self.now.regions) (all_holdings (meaning g) c.resize.new.self) c.in-Ok.ensures.leaves.keeps);
      refused = search rules;
    }

pub returns-in-Err-clause-answer : goal.returns-in-Err-clause-answer
returns-in-Err-clause-answer g c =
    subst (λ o. IsStopped (λ w f. Stops w f) (λ refused. size_found (terms_of (meaning g) c.args.self.now.regions) (trace_state c.args.self.now) c.args.r.now c.args.x.now c.args.size refused o) c.in-Err.stop.way c.in-Err.stop.fault)
    (sym (lookup-map_values live_of (bytes_eq c.args.x.now) c.args.self.now.blocks.entries ∙ ap (option_map live_of) (sym c.in-Some.ensures)))
    (goes-stopped (trace_state c.args.self.now) c.args.r.now c.args.x.now (size_block (terms_of (meaning g) c.args.self.now.regions) (regions_of c.args.self.now.regions) (live_of c.in-Some.old) c.args.size) c.in-Err.stop.way c.in-Err.stop.fault c.in-Err.ensures.answer)
