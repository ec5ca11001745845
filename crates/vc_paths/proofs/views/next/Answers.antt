use Rattle.vc_base.proofs.Common.{◌≡◌, ℕ, List, is_some, Some, None, filter, option_map, find, sym, ap, ◌∙◌, subst}
use Rattle.vc_dtdisc.specs.Finding.{behind_last, last_of}
use Rattle.vc_dtdisc.specs.Objects.{is_match}
use Rattle.vc_paths.specs.Layers.{Layer, Same, bytes_there, place_in}
use Rattle.vc_paths.specs.Path.{Answers, is_at, numbers_of, place_of, visible_of}
use Rattle.vc_paths.specs.Seek.{has_key_in}
use Rattle.vc_paths.proofs.MatchLemmas.{IsLastWith, behind-key, key-at}
use Rattle.vc_paths.proofs.SeekLemmas.{none-there}
use Rattle.vc_paths.proofs.SeenLemmas.{place-kept}
use Rattle.vc_paths.proofs.SightLemmas.{none-behind}
use Rattle.vc_paths.proofs.StayLemmas.{same-over, seen-kept, visible-kept}
use Rattle.vc_paths.proofs.views.next.Given.{Over}
use Rattle.vc_paths.proofs.views.next.Goals as goal
use Rattle.vc_paths.proofs.views.next.Goals.{After-last_like-last}

-- behind the last match of what was found stands what stands behind the last that has the key
last : (g : Over) (c : After-last_like-last g) → IsLastWith (g.Y.Layers.layered c.args.layers.now) c.args.paths.now c.args.d c.args.key.now (c.in-Some.from.0, c.last_like-last.result.0)
last g c =
    let match = subst (λ (z : ℕ → Layer). (bytes : List ℕ) → bytes_there c.in-Some.from.1.0 (z c.in-Some.from.0).objects ≡ Some bytes
    → Some c.last_like-last.result.0 ≡ place_in (last_of (filter (λ o. is_match (z c.in-Some.from.0).rules bytes o.bytes) (z c.in-Some.from.0).objects)))
    c.search.ensures.unchanged.layers.layers c.last_like-last.ensures.found in
    behind-key (g.Y.Layers.layered c.args.layers.now) c.args.paths.now c.args.d c.args.key.now (numbers_of c.in-Some.from) c.last_like-last.result.0 (g.met.Y.Layers.lawful c.args.layers.now) c.requires
    (ap (option_map numbers_of) (sym c.in-Some.is) ∙ c.search.ensures.found) match

-- the layers are as they were before the search
same : (g : Over) (c : After-last_like-last g) → Same (g.Y.Layers.layered c.args.layers.now) (g.Y.Layers.layered c.last_like-last.new.self)
same g c = same-over c.search.ensures.unchanged.layers c.last_like-last.ensures.layers

pub last_like-last-requires : goal.last_like-last-requires
last_like-last-requires g c =
    let key = key-at (g.Y.Layers.layered c.args.layers.now) c.args.paths.now c.args.d c.args.key.now (numbers_of c.in-Some.from) (g.met.Y.Layers.lawful c.args.layers.now) c.requires
    (ap (option_map numbers_of) (sym c.in-Some.is) ∙ c.search.ensures.found) in
    let same = c.search.ensures.unchanged.layers in
    record { dict = same.has c.in-Some.from.0 key.dict; place = place-kept c.in-Some.from.0 c.in-Some.from.1.0 same (ap is_some key.there) }

pub walk-requires-clause-place : goal.walk-requires-clause-place
walk-requires-clause-place g c =
    seen-kept c.args.paths.now c.args.d (c.in-Some.from.0, c.last_like-last.result.0) (same g (goal.at.walk-requires-clause-place g c).After-last_like-last)
    (last g (goal.at.walk-requires-clause-place g c).After-last_like-last).there

pub returns-in-Some-clause-found : goal.returns-in-Some-clause-found
returns-in-Some-clause-found g c =
    subst (λ z. Answers c.walk.result (behind_last (is_at (c.in-Some.from.0, c.last_like-last.result.0)) z)) (visible-kept c.args.paths.now c.args.d (same g (goal.at.returns-in-Some-clause-found g c).After-last_like-last)) c.walk.ensures.found
    ∙ ap (option_map place_of) (sym (last g (goal.at.returns-in-Some-clause-found g c).After-last_like-last).same)

pub returns-in-None-clause-found : goal.returns-in-None-clause-found
returns-in-None-clause-found g c =
    let all = g.Y.Layers.layered c.args.layers.now in
    let test = has_key_in all c.args.d c.args.key.now in
    let xs = visible_of all c.args.paths.now c.args.d in
    let none : find test xs ≡ None = none-there (find test xs) (sym c.search.ensures.found ∙ ap (option_map numbers_of) c.in-None.is) in
    sym (ap (option_map place_of) (none-behind test xs none))
