use Rattle.vc_base.proofs.Common.{◌≡◌, ℕ, ◌<◌, Bool, true, not, length, get_or, take, ◌==◌, sym, ap, arith, take_all}
use Rattle.std.specs.List.{prefix_len}
use Rattle.std.proofs.lemmas.List.Sums.{prefix_len_is}
use Rattle.vc_dtdisc.proofs.bytes.text.Goals as goal

-- a byte that isn't zero
abbrev is_text : ℕ → Bool
is_text byte = not (byte == 0)

pub returns-then-byte-eq0 : goal.returns-then-byte-eq0
returns-then-byte-eq0 c =
    let bytes = c.args.bytes.now in
    let i = c.loop-i.i in
    ap (λ n. take n bytes) (sym (prefix_len_is is_text bytes i 0 (omega arith) c.loop-i.invariant (λ _. ap is_text c.if-byte-eq0.true)))

pub returns : goal.returns
returns c =
    let bytes = c.args.bytes.now in
    let passes : (k : ℕ) → k < length bytes → is_text (get_or bytes k 0) ≡ true = λ k h. c.loop-i.invariant k (omega arith) in
    let all : prefix_len is_text bytes ≡ length bytes = prefix_len_is is_text bytes (length bytes) 0 (omega arith) passes (λ h. absurd (omega arith)) in
    sym (take_all (prefix_len is_text bytes) bytes (omega arith))
