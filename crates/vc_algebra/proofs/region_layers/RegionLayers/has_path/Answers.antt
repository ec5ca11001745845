use Rattle.vc_base.proofs.Common.{◌≡◌, ℕ, ◌<◌, Bool, true, false, ◌&&◌, Some, length, map, list_all, sym, refl, ap, ◌∙◌, subst, true≢false, same_Some, arith}
use Rattle.vc_paths.specs.Links.{below, numbers, path}
use Rattle.vc_paths.specs.Shown.{down}
use Rattle.vc_paths.proofs.DownLemmas.{down-next, down-none, down-on}
use Rattle.vc_region.specs.Cells.{cells_in}
use Rattle.vc_algebra.specs.Filling.{is_like}
use Rattle.vc_algebra.specs.InRegion.{layers_of_region}
use Rattle.vc_algebra.proofs.FillLemmas.{all-alike, all-like}
use Rattle.vc_algebra.proofs.region_layers.RegionLayers.has_path.Goals as goal

pub loop-next-init : goal.loop-next-init
unfolding down
loop-next-init g c = record { number = λ e is. subst (λ z. z < numbers) (same_Some c.args.d e is) (omega arith); rest = refl }

pub loop-next-smaller : goal.loop-next-smaller
loop-next-smaller g c = down-next c.show_invariant.ensures c.in-Some.is c.below-next.ensures

pub loop-next-preserved : goal.loop-next-preserved
loop-next-preserved g c =
    let s = c.args.self.now in
    let test : ℕ → Bool = is_like (length s.dicts) (layers_of_region (map g.D.DictDisc.rules s.kinds.items) (cells_in s.region) s.dicts) c.args.d in
    let rest = down c.args.paths.now c.below-next.result in
    let passed : test c.in-Some.e ≡ true = sym c.is_like.ensures ∙ c.if-not-is_like.false in
    record {
      number = λ e is. c.show_invariant.ensures.within c.in-Some.e e (sym c.below-next.ensures ∙ is);
      rest = sym (ap (list_all test) (down-on c.show_invariant.ensures c.in-Some.is c.below-next.ensures) ∙ ap (λ t. t && list_all test rest) passed) ∙ c.loop-next.invariant.rest;
    }

pub returns-then-not-is_like : goal.returns-then-not-is_like
returns-then-not-is_like g c =
    let s = c.args.self.now in
    let kinds = map g.D.DictDisc.rules s.kinds.items in
    let can = c.requires in
    let test : ℕ → Bool = is_like (length s.dicts) (layers_of_region kinds (cells_in s.region) s.dicts) c.args.d in
    let rest = down c.args.paths.now (below c.args.paths.now c.in-Some.e) in
    let failed : test c.in-Some.e ≡ false = sym c.is_like.ensures ∙ c.if-not-is_like.true in
    let none : list_all test (down c.args.paths.now c.loop-next.next) ≡ false = ap (list_all test) (down-on c.show_invariant.ensures c.in-Some.is refl) ∙ ap (λ t. t && list_all test rest) failed in
    (λ h. absurd (true≢false (sym h)), λ p. absurd (true≢false (sym (all-like kinds s.region s.dicts can.best can.dicts c.args.d (path c.args.paths.now c.args.d) p.alike) ∙ sym c.loop-next.invariant.rest ∙ none)))

pub returns : goal.returns
returns g c =
    let s = c.args.self.now in
    let kinds = map g.D.DictDisc.rules s.kinds.items in
    let can = c.requires in
    let test : ℕ → Bool = is_like (length s.dicts) (layers_of_region kinds (cells_in s.region) s.dicts) c.args.d in
    let all : list_all test (path c.args.paths.now c.args.d) ≡ true = sym c.loop-next.invariant.rest ∙ ap (λ o. list_all test (down c.args.paths.now o)) c.in_default.is ∙ ap (list_all test) (down-none c.args.paths.now) in
    (λ _. record { number = omega (arith, c.if-d-ge256.false); alike = all-alike kinds s.region s.dicts can.best can.dicts c.args.d (path c.args.paths.now c.args.d) all }, λ _. refl)
