use Rattle.vc_base.proofs.Common.{◌≡◌, ℕ, ◌<◌, Bool, true, false, ◌&&◌, list_all, sym, refl, ap, ◌∙◌, subst, true≢false, same_Some, arith}
use Rattle.vc_paths.specs.Links.{below, numbers, path}
use Rattle.vc_paths.specs.Shown.{down}
use Rattle.vc_paths.proofs.DownLemmas.{down-next, down-none, down-on}
use Rattle.vc_store.specs.Stores.Alike.{is_of}
use Rattle.vc_store.specs.Stores.AlikeLaws.{method-there}
use Rattle.vc_store.proofs.Along.{all-alike, all-like, layer-there}
use Rattle.vc_store.proofs.stores.alike.Alike.has_path.Goals as goal

pub dict_of-requires : goal.dict_of-requires
dict_of-requires g c =
    let s = c.args.self.now in
    layer-there g.D.DictDisc.rules s.store s.like c.requires.layer c.requires.kinds c.args.d (c.has.ensures.0 c.if-not-has.false)

pub loop-next-init : goal.loop-next-init
unfolding down
loop-next-init g c = record { number = λ e is. subst (λ z. z < numbers) (same_Some c.args.d e is) (omega arith); rest = refl }

pub loop-next-smaller : goal.loop-next-smaller
loop-next-smaller g c = down-next c.show_invariant.ensures c.in-Some.is c.below-next.ensures

pub loop-next-preserved : goal.loop-next-preserved
loop-next-preserved g c =
    let s = c.args.self.now in
    let test : ℕ → Bool = is_of s.store c.dict_of.result.now.method in
    let rest = down c.args.paths.now c.below-next.result in
    let passed : test c.in-Some.e ≡ true = sym c.is_of.ensures ∙ c.if-not-is_of.false in
    record {
      number = λ e is. c.show_invariant.ensures.within c.in-Some.e e (sym c.below-next.ensures ∙ is);
      rest = sym (ap (list_all test) (down-on c.show_invariant.ensures c.in-Some.is c.below-next.ensures) ∙ ap (λ t. t && list_all test rest) passed) ∙ c.loop-next.invariant.rest;
    }

pub returns-then-not-is_of : goal.returns-then-not-is_of
returns-then-not-is_of g c =
    let s = c.args.self.now in
    let method = c.dict_of.result.now.method in
    let has = layer-there g.D.DictDisc.rules s.store s.like c.requires.layer c.requires.kinds c.args.d (c.has.ensures.0 c.if-not-has.false) in
    let same = sym (method-there g.D.DictDisc.rules s.store s.like c.args.d has c.dict_of.result.now c.dict_of.ensures) in
    let test : ℕ → Bool = is_of s.store method in
    let rest = down c.args.paths.now (below c.args.paths.now c.in-Some.e) in
    let failed : test c.in-Some.e ≡ false = sym c.is_of.ensures ∙ c.if-not-is_of.true in
    let none : list_all test (down c.args.paths.now c.loop-next.next) ≡ false = ap (list_all test) (down-on c.show_invariant.ensures c.in-Some.is refl) ∙ ap (λ t. t && list_all test rest) failed in
    let like = all-like g.D.DictDisc.rules s.store s.like c.requires.layer c.requires.kinds c.args.d method same (path c.args.paths.now c.args.d) in
    (λ h. absurd (true≢false (sym h)), λ p. absurd (true≢false (sym (like p.alike) ∙ sym c.loop-next.invariant.rest ∙ none)))

pub returns : goal.returns
returns g c =
    let s = c.args.self.now in
    let method = c.dict_of.result.now.method in
    let has = layer-there g.D.DictDisc.rules s.store s.like c.requires.layer c.requires.kinds c.args.d (c.has.ensures.0 c.if-not-has.false) in
    let same = sym (method-there g.D.DictDisc.rules s.store s.like c.args.d has c.dict_of.result.now c.dict_of.ensures) in
    let test : ℕ → Bool = is_of s.store method in
    let all : list_all test (path c.args.paths.now c.args.d) ≡ true = sym c.loop-next.invariant.rest ∙ ap (λ o. list_all test (down c.args.paths.now o)) c.in_default.is ∙ ap (list_all test) (down-none c.args.paths.now) in
    (λ _. record { number = omega (arith, c.if-d-ge256.false); alike = all-alike g.D.DictDisc.rules s.store s.like c.requires.layer c.requires.kinds c.args.d method same (path c.args.paths.now c.args.d) all }, λ _. refl)
