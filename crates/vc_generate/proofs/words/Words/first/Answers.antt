use Rattle.vc_base.proofs.Common.{◌≡◌, ℕ, List, [], ◌∷◌, drop, sym, ap, ◌∙◌, arith}
use Rattle.vc_generate.proofs.WordSteps.{words_ahead-none, words_ahead-step}
use Rattle.vc_generate.proofs.words.Words.first.Goals as goal

pub returns-then-self-eq0 : goal.returns-then-self-eq0
returns-then-self-eq0 c =
    let none : c.args.self.now ≡ [] = sym c.self.view_is ∙ words_ahead-none _ _ _ c.if-self-eq0.true in
    (none, ap (drop 1) none)

pub returns-else-self-eq0 : goal.returns-else-self-eq0
returns-else-self-eq0 c =
    let first = sym c.self.view_is ∙ words_ahead-step _ _ _ (omega arith) in
    first ∙ ap (λ (list : List ℕ). c.self.inside.word ∷ list) (sym (ap (drop 1) first))
