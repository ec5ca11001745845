use Rattle.vc_base.proofs.Common.{◌≡◌, ◌≤◌, length, map}
use Rattle.vc_algebra.specs.Filling.{CanFillIn}
use Rattle.ranges.proofs.fill.put_words.Given as goal

-- the words before the part that has begun are put
abbrev pub invariant-loop-i : goal.invariant-loop-i
invariant-loop-i g l = record {
  begun : l.start ≤ l.i;
  fill : CanFillIn (λ z. (goal.SegDisc-dyn g z).state z.1) (map g.D.DictDisc.rules l.sets.kinds.items) l.sets.region l.sets.dicts;
  count : length l.sets.dicts ≡ length l.fn.sets.dicts;
  kinds : l.sets.kinds ≡ l.fn.sets.kinds;
}
