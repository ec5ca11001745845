-- The range of what words ask for.
use Rattle.vc_base.proofs.Common.{◌≡◌, ℕ, ◌≤◌, List, IfSome, IsTrue, nat_le, Some, None, Option, sym, refl, subst, le-leb, and_from}
use Rattle.vc_words.specs.Words.{words_of}
use Rattle.vc_words.specs.declared.words.Words.{Words}
use Rattle.vc_words.proofs.Ranges.{counts_in_range}
use Rattle.vc_session.specs.Asked.{is_in_range}

range-by : (g : Option ℕ) → IfSome g (λ n. (1 ≤ n) × (n ≤ 1000000)) → IsTrue (is_in_range g)
range-by None range = refl
range-by (Some n) range = and_from (nat_le 1 n) (nat_le n 1000000) (le-leb 1 n range.0) (le-leb n 1000000 range.1)

pub in_range : (words : List (List ℕ)) (w : Words) → (let o : Option Words = Some w in o) ≡ words_of words → IsTrue (is_in_range w.generate)
in_range words w is = range-by w.generate (subst (λ (o : Option Words). IfSome o (λ w. IfSome w.generate (λ n. (1 ≤ n) × (n ≤ 1000000)))) (sym is) (counts_in_range words))
