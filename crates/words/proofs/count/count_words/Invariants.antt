use Rattle.words.proofs.SoFar.{SoFar}
use Rattle.words.proofs.count.count_words.Given as goal

-- the words before the part that has begun are counted
abbrev pub invariant-loop-i : goal.invariant-loop-i
invariant-loop-i g l =
    SoFar (λ z. (goal.SegDisc-dyn g z).state z.1) l.text l.fn.set l.set l.start l.i
