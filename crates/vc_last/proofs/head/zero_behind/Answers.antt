use Rattle.vc_base.proofs.Common.{◌≡◌, ℕ, ◌+◌, ◌-◌, ◌<◌, ◌≤◌, List, length, take, drop, replicate, ap, ◌∙◌, subst, arith, length-replicate, places, same_lists, with_bytes, fitted_bytes}
use Rattle.vc_seg.specs.Frame.{StaysOutside}
use Rattle.vc_seg.proofs.Frames.{stays-written, wider}
use Rattle.vc_last.proofs.head.zero_behind.Goals as goal

zeros-behind : (off old size : ℕ) (b : List ℕ) → old < size → off + size ≤ length b → take size (drop off (with_bytes (off + old) (replicate (size - old) 0) b)) ≡ fitted_bytes size (take old (drop off b))
zeros-behind off old size b lt within = same_lists _ _ (grind (arith, places)) (λ k d le. grind (arith, places))

cut : (off old size : ℕ) (b : List ℕ) → size ≤ old → off + old ≤ length b → take size (drop off b) ≡ fitted_bytes size (take old (drop off b))
cut off old size b le within = same_lists _ _ (grind (arith, places)) (λ k d lt. grind (arith, places))

pub returns-then-size-old-clause-bytes : goal.returns-then-size-old-clause-bytes
returns-then-size-old-clause-bytes c =
    ap (λ (xs : List ℕ). take c.args.size (drop c.args.off xs)) c.fill.ensures.bytes ∙ zeros-behind c.args.off c.args.old c.args.size c.args.seg.now.bytes c.if-size-old.true c.requires.within

pub returns-then-size-old-clause-rest : goal.returns-then-size-old-clause-rest
returns-then-size-old-clause-rest c =
    let long = length-replicate {A = ℕ} (c.args.size - c.args.old) 0 in
    let lt = c.if-size-old.true in
    let s : StaysOutside (c.args.off + c.args.old) (c.args.off + c.args.old + (c.args.size - c.args.old)) c.args.seg.now c.fill.new.self =
    subst (λ k. StaysOutside (c.args.off + c.args.old) (c.args.off + c.args.old + k) c.args.seg.now c.fill.new.self) long
    (stays-written c.args.seg.now c.fill.new.self (c.args.off + c.args.old) (replicate (c.args.size - c.args.old) 0) (omega (arith, long, lt, c.requires.within)) c.fill.ensures.bytes c.fill.ensures.number) in
    wider (c.args.off + c.args.old) (c.args.off + c.args.old + (c.args.size - c.args.old)) c.args.off (c.args.off + c.args.size) c.args.seg.now c.fill.new.self s (omega arith) (omega (arith, lt))

pub returns-else-size-old-clause-bytes : goal.returns-else-size-old-clause-bytes
returns-else-size-old-clause-bytes c = cut c.args.off c.args.old c.args.size c.args.seg.now.bytes c.if-size-old.false c.requires.before
