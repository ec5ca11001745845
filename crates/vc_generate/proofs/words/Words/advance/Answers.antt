use Rattle.vc_base.proofs.Common.{◌≡◌, ℕ, ◌-◌, [], drop, sym, ap, ◌∙◌, arith}
use Rattle.rand_pcg.specs.Lcg.{Lcg}
use Rattle.vc_generate.proofs.WordSteps.{words_ahead-none, words_ahead-step}
use Rattle.vc_generate.specs.Words.{words_ahead}
use Rattle.vc_generate.proofs.words.Words.advance.Goals as goal

pub returns-then-self-gt0 : goal.returns-then-self-gt0
returns-then-self-gt0 c =
    ap (λ (p : ℕ × Lcg). words_ahead (c.self.inside.left - 1) p.0 p.1) c.next_word-self-inside.ensures
    ∙ sym (ap (drop 1) (sym c.self.view_is ∙ words_ahead-step _ _ _ c.if-self-gt0.true))

pub returns-else-self-gt0 : goal.returns-else-self-gt0
returns-else-self-gt0 c =
    let none : c.args.self.now ≡ [] = sym c.self.view_is ∙ words_ahead-none _ _ _ (omega arith) in
    none ∙ sym (ap (drop 1) none)
