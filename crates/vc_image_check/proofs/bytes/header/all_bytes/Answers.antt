use Rattle.vc_base.proofs.Common.{◌≡◌, ℕ, ◌+◌, ◌*◌, ◌<◌, List, length, get_or, true≢false, sym, ap, ◌∙◌, arith}
use Rattle.vc_seg.specs.Field.{field_at}
use Rattle.vc_image_check.specs.Bytes.Contents.{items_at, segment_pair_at}
use Rattle.vc_image_check.specs.Bytes.Image.{pair_bytes}
use Rattle.vc_image_check.specs.Laws.Pairs.{all-passed, items-get, not-legal, not-new, passed-next, passed-none}
use Rattle.vc_image_check.specs.Laws.Words.{length-items}
use Rattle.vc_image_check.proofs.bytes.header.all_bytes.Goals as goal
use Rattle.vc_image_check.proofs.bytes.header.all_bytes.Goals.{After-word-size}

-- the pairs, how many there are, and the one at hand
abbrev ps : (c : After-word-size) → List (ℕ × ℕ)
ps c = items_at segment_pair_at 8 c.args.count 20 c.args.image.now

abbrev one : (c : After-word-size) → ℕ × ℕ
one c = (c.word-number.result, c.word-size.result)

below : (c : After-word-size) → c.loop-i.i < length (ps c)
below c =
    let long = length-items segment_pair_at pair_bytes 8 c.args.count 20 c.args.image.now in
    let lt = c.loop-i-test.true in
    omega (arith, long, lt)

here : (c : After-word-size) → get_or (ps c) c.loop-i.i (one c) ≡ one c
here c =
    let b = c.args.image.now in
    let place : 20 + 8 * c.loop-i.i + 4 ≡ 24 + 8 * c.loop-i.i = omega arith in
    let number : field_at (20 + 8 * c.loop-i.i) b ≡ c.word-number.result = sym c.word-number.ensures in
    let size : field_at (20 + 8 * c.loop-i.i + 4) b ≡ c.word-size.result = ap (λ z. field_at z b) place ∙ sym c.word-size.ensures in
    items-get segment_pair_at 8 b c.args.count 20 c.loop-i.i (one c) c.loop-i-test.true ∙ (λ i. (number i, size i))

pub loop-i-init : goal.loop-i-init
loop-i-init c = passed-none (items_at segment_pair_at 8 c.args.count 20 c.args.image.now)

pub returns-then-not-is_pair-clause-none : goal.returns-then-not-is_pair-clause-none
returns-then-not-is_pair-clause-none c =
    let h = (goal.at.returns-then-not-is_pair-clause-none c).After-word-size in
    not-legal (ps h) c.loop-i.i (one h) (below h) (here h) (λ legal. absurd (true≢false (sym (c.is_pair.ensures.1 legal) ∙ c.if-not-is_pair.true)))

pub returns-then-marks-number-clause-none : goal.returns-then-marks-number-clause-none
returns-then-marks-number-clause-none c =
    let h = (goal.at.returns-then-marks-number-clause-none c).After-word-size in
    not-new (ps h) c.loop-i.i c.loop-i.marks c.loop-i.total (one h) c.loop-i.invariant (below h) (here h) (c.is_pair.ensures.0 c.if-not-is_pair.false) c.if-marks-number.true

pub loop-i-preserved : goal.loop-i-preserved
loop-i-preserved c =
    let h = (goal.at.loop-i-preserved c).After-word-size in
    passed-next (ps h) c.loop-i.i c.loop-i.marks c.loop-i.total (one h) c.loop-i.invariant (below h) (here h) (c.is_pair.ensures.0 c.if-not-is_pair.false) c.if-marks-number.false

pub returns-clause-some : goal.returns-clause-some
returns-clause-some c =
    let long = length-items segment_pair_at pair_bytes 8 c.args.count 20 c.args.image.now in
    let end = c.loop-i-test.false in
    let most = c.loop-i.auto.i-end in
    let few = c.requires.few in
    all-passed (items_at segment_pair_at 8 c.args.count 20 c.args.image.now) c.loop-i.i c.loop-i.marks c.loop-i.total c.loop-i.invariant (omega (arith, long, end, most)) (omega (arith, end, most, few))
