use Rattle.vc_base.proofs.Common.{◌≡◌, ℕ, true, Some, filter, option_copied, sym, ap, ◌∙◌, subst, is_ordered}
use Rattle.vc_dtdisc.specs.Finding.{first_of}
use Rattle.vc_paths.specs.Path.{Answers, visible_of}
use Rattle.vc_paths.specs.Visible.{Seen}
use Rattle.vc_paths.proofs.SeekLemmas.{path-first}
use Rattle.vc_paths.proofs.SightLemmas.{IsThere}
use Rattle.vc_algebra.specs.Algebra.{is_from, range}
use Rattle.vc_algebra.proofs.RangeLemmas.{first-range, first-there, kept_stands, stands_as, up-to, visible_sorted}
use Rattle.vc_algebra.proofs.SeenLemmas.{first-seen, range-at}
use Rattle.vc_algebra.proofs.ranges.range_first.Given.{Over}
use Rattle.vc_algebra.proofs.ranges.range_first.Goals as goal
use Rattle.vc_algebra.proofs.ranges.range_first.Goals.{Start}

-- the first that isn't less than the bound stands
there : (g : Over) (c : Start g) (x : Seen ℕ) → first_of (filter (is_from ((g.Y.Layers.layered c.args.layers.now).layer c.args.d).rules (option_copied c.args.low)) (visible_of (g.Y.Layers.layered c.args.layers.now) c.args.paths.now c.args.d)) ≡ Some x
    → IsThere (g.Y.Layers.layered c.args.layers.now) c.args.d x
there g c x is = first-there (g.Y.Layers.layered c.args.layers.now) c.args.paths.now c.args.d _ x (g.met.Y.Layers.lawful c.args.layers.now) c.requires is

pub up_to-requires : goal.up_to-requires
up_to-requires g c =
    kept_stands c.nearest_from-first.result c.nearest_from-first.ensures.unchanged.layers
    (stands_as c.nearest_from-first.result _ (there g (goal.at.up_to-requires g c).Start) c.nearest_from-first.ensures.found).stands

pub returns-clause-found : goal.returns-clause-found
returns-clause-found g c =
    let all = g.Y.Layers.layered c.args.layers.now in
    let laws = g.met.Y.Layers.lawful c.args.layers.now in
    let dict = (path-first all c.args.paths.now c.args.d c.requires).there in
    let method : is_ordered (all.layer c.args.d).method ≡ true = ap is_ordered (sym c.method.ensures) ∙ sym c.is_ordered.ensures ∙ c.if-not-is_ordered.false in
    subst (Answers c.up_to.result) (sym (first-range (all.layer c.args.d).rules (laws.lawful c.args.d dict).order (option_copied c.args.low) (option_copied c.args.high) (visible_of all c.args.paths.now c.args.d) (visible_sorted all c.args.paths.now c.args.d laws c.requires method)))
    (up-to (option_copied c.args.high) c.nearest_from-first.result c.up_to.result _ c.nearest_from-first.ensures.unchanged.layers laws dict
    (there g (goal.at.returns-clause-found g c).Start) c.nearest_from-first.ensures.found c.up_to.ensures.object c.up_to.ensures.none)

pub returns-clause-goes_on : goal.returns-clause-goes_on
returns-clause-goes_on g c =
    let all = g.Y.Layers.layered c.args.layers.now in
    let laws = g.met.Y.Layers.lawful c.args.layers.now in
    let low = option_copied c.args.low in
    let high = option_copied c.args.high in
    let seen = visible_of all c.args.paths.now c.args.d in
    let dict = (path-first all c.args.paths.now c.args.d c.requires).there in
    let same = c.nearest_from-first.ensures.unchanged.layers in
    let method : is_ordered (all.layer c.args.d).method ≡ true = ap is_ordered (sym c.method.ensures) ∙ sym c.is_ordered.ensures ∙ c.if-not-is_ordered.false in
    let found : Answers c.up_to.result (first_of (range (all.layer c.args.d).rules low high seen)) =
    subst (Answers c.up_to.result) (sym (first-range (all.layer c.args.d).rules (laws.lawful c.args.d dict).order low high seen (visible_sorted all c.args.paths.now c.args.d laws c.requires method)))
    (up-to high c.nearest_from-first.result c.up_to.result _ same laws dict (there g (goal.at.returns-clause-goes_on g c).Start) c.nearest_from-first.ensures.found c.up_to.ensures.object c.up_to.ensures.none) in
    range-at c.args.paths.now c.args.d c.up_to.result laws same (record { path = c.requires; method = method }) (first-seen c.up_to.result _ seen found)
