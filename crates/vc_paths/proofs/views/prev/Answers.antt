use Rattle.vc_base.proofs.Common.{◌≡◌, None, option_map, find, sym, ap, ◌∙◌, subst}
use Rattle.vc_dtdisc.specs.Finding.{before_first}
use Rattle.vc_paths.specs.Path.{Answers, is_at, numbers_of, place_of, visible_of}
use Rattle.vc_paths.specs.Seek.{has_key_in}
use Rattle.vc_paths.proofs.MatchLemmas.{IsFirstWith, before-key}
use Rattle.vc_paths.proofs.SeekLemmas.{none-there}
use Rattle.vc_paths.proofs.SightLemmas.{none-before}
use Rattle.vc_paths.proofs.StayLemmas.{visible-kept, seen-kept}
use Rattle.vc_paths.proofs.views.prev.Given.{Over}
use Rattle.vc_paths.proofs.views.prev.Goals as goal
use Rattle.vc_paths.proofs.views.prev.Goals.{In-Some}

-- before what was found stands what stands before the first that has the key
first : (g : Over) (c : In-Some g) → IsFirstWith (g.Y.Layers.layered c.args.layers.now) c.args.paths.now c.args.d c.args.key.now (numbers_of c.in-Some.from)
first g c =
    before-key (g.Y.Layers.layered c.args.layers.now) c.args.paths.now c.args.d c.args.key.now (numbers_of c.in-Some.from) (g.met.Y.Layers.lawful c.args.layers.now) c.requires
    (ap (option_map numbers_of) (sym c.in-Some.is) ∙ c.search.ensures.found)

pub walk-requires-clause-place : goal.walk-requires-clause-place
walk-requires-clause-place g c =
    seen-kept c.args.paths.now c.args.d (numbers_of c.in-Some.from) c.search.ensures.unchanged.layers (first g (goal.at.walk-requires-clause-place g c).In-Some).there

pub returns-in-Some-clause-found : goal.returns-in-Some-clause-found
returns-in-Some-clause-found g c =
    subst (λ z. Answers c.walk.result (before_first (is_at (numbers_of c.in-Some.from)) z)) (visible-kept c.args.paths.now c.args.d c.search.ensures.unchanged.layers) c.walk.ensures.found
    ∙ ap (option_map place_of) (sym (first g (goal.at.returns-in-Some-clause-found g c).In-Some).same)

pub returns-in-None-clause-found : goal.returns-in-None-clause-found
returns-in-None-clause-found g c =
    let all = g.Y.Layers.layered c.args.layers.now in
    let test = has_key_in all c.args.d c.args.key.now in
    let xs = visible_of all c.args.paths.now c.args.d in
    let none : find test xs ≡ None = none-there (find test xs) (sym c.search.ensures.found ∙ ap (option_map numbers_of) c.in-None.is) in
    sym (ap (option_map place_of) (none-before test None xs none))
