use Rattle.vc_base.proofs.Common.{ℕ, Some, Option, sym, refl, subst}
use Rattle.vc_paths.specs.Ordered.{StandsInLike}
use Rattle.vc_paths.specs.Path.{Answers}
use Rattle.vc_paths.specs.Visible.{Seen}
use Rattle.vc_paths.proofs.LayerLemmas.{beside_shown}
use Rattle.vc_paths.proofs.NeighbourLemmas.{near_answers, neighbour_found, visible_stands}
use Rattle.vc_paths.proofs.PastLemmas.{beside_apart}
use Rattle.vc_paths.proofs.ordered.walk.Given.{Over}
use Rattle.vc_paths.proofs.ordered.walk.Goals as goal
use Rattle.vc_paths.proofs.ordered.walk.Goals.{Start}

-- the object stands in a layer of the path
stands : (g : Over) (c : Start g) → StandsInLike (g.Y.Layers.layered c.args.layers.now) c.args.d c.args.from
stands g c = visible_stands (g.met.Y.Layers.lawful c.args.layers.now) c.requires.path.path c.requires.path.method c.requires.from

pub beside-next-requires : goal.beside-next-requires
beside-next-requires g c =
    let s = stands g (goal.at.beside-next-requires g c).Start in
    record { dict = s.there; place = s.object }

pub matching-requires : goal.matching-requires
matching-requires g c =
    let s = stands g (goal.at.matching-requires g c).Start in
    record {
      place = record { there = s.there; kind = refl; object = s.object };
      beside = (beside_shown c.args.back c.beside-next.result (g.met.Y.Layers.lawful c.args.layers.now) s c.beside-next.ensures).stands;
    }

pub nearest_past-requires-clause-other : goal.nearest_past-requires-clause-other
nearest_past-requires-clause-other g c = stands g (goal.at.nearest_past-requires-clause-other g c).Start

pub returns-in-Some-clause-found : goal.returns-in-Some-clause-found
returns-in-Some-clause-found g c =
    subst (λ (z : Option (Seen ℕ)). Answers (Some c.in-Some.place) z)
    (sym (neighbour_found c.args.back c.args.from c.beside-next.result (g.met.Y.Layers.lawful c.args.layers.now) c.requires.path c.requires.from c.beside-next.ensures c.in-Some.ensures.object))
    (near_answers (g.Y.Layers.layered c.args.layers.now) c.args.from.0 c.in-Some.place _ c.in-Some.ensures.stands)

pub returns-in-None-clause-found : goal.returns-in-None-clause-found
returns-in-None-clause-found g c =
    subst (λ (z : Option (Seen ℕ)). Answers c.nearest_past.result z)
    (sym (neighbour_found c.args.back c.args.from c.beside-next.result (g.met.Y.Layers.lawful c.args.layers.now) c.requires.path c.requires.from c.beside-next.ensures c.in-None.ensures.object))
    c.nearest_past.ensures.found

pub nearest_past-requires-clause-apart : goal.nearest_past-requires-clause-apart
nearest_past-requires-clause-apart g c = beside_apart c.args.back c.beside-next.result (g.met.Y.Layers.lawful c.args.layers.now) (stands g (goal.at.nearest_past-requires-clause-apart g c).Start) c.beside-next.ensures c.in-None.ensures.object
