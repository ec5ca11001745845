use Rattle.vc_base.proofs.Common.{◌≡◌, ℕ, suc, ◌+◌, ◌<◌, length, None, ap, ◌∙◌, ⊎_elim, arith, cases_lt}
use Rattle.vc_paths.proofs.NewLinkLemmas.{below-past}
use Rattle.vc_paths.specs.Links.{Links, below, links_with}
use Rattle.vc_views.proofs.LinkChanges.{ended-more}
use Rattle.vc_views.proofs.numbers.end_views.Goals as goal

more : (old new : Links) (k : ℕ) → k < length old → new ≡ links_with k None old → ((n : ℕ) → n < k → below old n ≡ None) → (n : ℕ) → n < k + 1 → below new n ≡ None
more old new k within is none n before =
    let lt : n < suc k = omega (arith, before) in
    ap (λ l. below l n) is ∙ ended-more old k within none n lt

pub loop-number-preserved : goal.loop-number-preserved
loop-number-preserved c =
    let all = c.show_invariant.ensures in
    let fits = c.loop-number.auto in
    more c.loop-number.paths c.end.new.self c.loop-number.number (let is = all.all in omega (arith, is, fits)) c.end.ensures c.loop-number.invariant

pub returns : goal.returns
returns c n =
    let end = c.loop-number-test.false in
    let all = c.show_invariant-2.ensures.all in
    ⊎_elim
    (λ before. c.loop-number.invariant n (omega (arith, before, end)))
    (λ far. below-past c.loop-number.paths n (omega (arith, far, all)))
    (cases_lt n 256)
