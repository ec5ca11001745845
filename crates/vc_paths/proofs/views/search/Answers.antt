use Rattle.vc_paths.proofs.DownLemmas.{down-next, on-head}
use Rattle.vc_paths.proofs.SeekLemmas.{IsSought-end, IsSought-found, IsSought-next, IsSought-start}
use Rattle.vc_paths.proofs.StayLemmas.{same-itself, same-over}
use Rattle.vc_paths.proofs.views.search.Goals as goal

pub loop-at-init : goal.loop-at-init
loop-at-init g c = record {
  layers = same-itself (g.Y.Layers.layered c.args.layers.now);
  stays = g.met.Y.Layers.reflexive c.args.layers.now;
  sought = IsSought-start (g.met.Y.Layers.lawful c.args.layers.now) c.requires;
}

pub find-requires : goal.find-requires
find-requires g c =
    c.loop-at.invariant.layers.has c.in-Some.e (on-head c.show_invariant.ensures c.in-Some.is c.loop-at.invariant.sought.on).there

pub returns-in-Some-find-clause-found : goal.returns-in-Some-find-clause-found
returns-in-Some-find-clause-found g c =
    IsSought-found (g.met.Y.Layers.lawful c.args.layers.now) c.requires c.show_invariant.ensures c.in-Some.is c.loop-at.invariant.sought c.loop-at.invariant.layers c.in-Some-find.ensures.found

pub below-at-requires : goal.below-at-requires
below-at-requires g c = c.loop-at.invariant.sought.on.number c.in-Some.e c.in-Some.is

pub loop-at-smaller : goal.loop-at-smaller
loop-at-smaller g c = down-next c.show_invariant.ensures c.in-Some.is c.below-at.ensures

pub loop-at-preserved : goal.loop-at-preserved
loop-at-preserved g c =
    let laws = g.met.Y.Layers.lawful c.args.layers.now in
    record {
      layers = same-over c.loop-at.invariant.layers c.find.ensures.layers;
      stays = g.met.Y.Layers.transitive c.args.layers.now c.loop-at.layers c.find.new.self c.loop-at.invariant.stays c.find.ensures.stays;
      sought = IsSought-next laws c.requires c.show_invariant.ensures c.in-Some.is c.below-at.ensures c.loop-at.invariant.sought c.loop-at.invariant.layers c.in_default-find.ensures.found;
    }

pub returns-clause-found : goal.returns-clause-found
returns-clause-found g c = IsSought-end c.in_default.is c.loop-at.invariant.sought
