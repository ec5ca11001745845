use Rattle.vc_base.proofs.Common.{◌≡◌, ◌+◌, ◌-◌, eqb, length, true≢false, sym, refl, ◌∙◌, subst, arith}
use Rattle.vc_seg.specs.Field.{field_at}
use Rattle.vc_image_check.specs.Segments.Sound.{CanFollow, IsSoundSegment}
use Rattle.vc_image_check.proofs.SegmentWalks.{Rest, Stepped, rest-from, rest-sound, rest-to, sound-rest}
use Rattle.vc_image_check.proofs.segments.segment.is_sound_segment.Goals as goal
use Rattle.vc_image_check.proofs.segments.segment.is_sound_segment.Goals.{After-can_stand}

-- in a sound segment the head can stand here, and what is behind it is sound
stepped : (c : After-can_stand) → IsSoundSegment c.args.bytes.now → Stepped c.args.bytes.now (length c.args.bytes.now - 16) c.loop-at.before c.loop-at.free c.loop-at.at
stepped c h = rest-to c.args.bytes.now (length c.args.bytes.now - 16) c.loop-at.before c.loop-at.free c.loop-at.at c.loop-at-test.true (c.loop-at.invariant.to h)

pub loop-at-init : goal.loop-at-init
loop-at-init c = record { low = omega arith; high = omega (arith, c.requires.least); to = sound-rest c.args.bytes.now; from = rest-sound c.args.bytes.now c.requires }

pub returns-then-not-can_stand : goal.returns-then-not-can_stand
returns-then-not-can_stand c = (
  λ yes. absurd (true≢false (sym yes)),
  λ h. absurd (true≢false (sym (c.can_stand.ensures.1 (stepped (goal.at.returns-then-not-can_stand c).After-can_stand h).can) ∙ c.if-not-can_stand.true)),
)

pub returns-then-before-stop : goal.returns-then-before-stop
returns-then-before-stop c = (
  λ yes. absurd (true≢false (sym yes)),
  λ h.
      let within = (stepped (goal.at.returns-then-before-stop c).After-can_stand h).within in
      absurd (omega (arith, within, c.word-before.ensures, c.if-before-stop.true)),
)

pub loop-at-preserved : goal.loop-at-preserved
loop-at-preserved c =
    let b = c.args.bytes.now in
    let at = c.loop-at.at in
    let can : CanFollow b c.loop-at.before at c.loop-at.free = c.can_stand.ensures.0 c.if-not-can_stand.false in
    let span : c.word-before.result ≡ field_at at b = c.word-before.ensures in
    let size : c.word-free.result ≡ field_at (at + 4) b = c.word-free.ensures in
    let moved : Rest b (length b - 16) (field_at at b) (eqb (field_at (at + 4) b) 0) (at + field_at at b) ≡ Rest b (length b - 16) c.word-before.result (eqb c.word-free.result 0) (at + c.word-before.result) =
    rw (span, size) refl in
    record {
      low = omega (arith, can.least, c.loop-at.invariant.low);
      high = omega (arith, c.if-before-stop.false, c.loop-at.invariant.high, c.loop-at-test.true);
      to = λ h. subst (λ (X : Type 0). X) moved (stepped (goal.at.loop-at-preserved c).After-can_stand h).rest;
      from = λ r. c.loop-at.invariant.from (rest-from b (length b - 16) c.loop-at.before c.loop-at.free at can (subst (λ (X : Type 0). X) (sym moved) r));
    }
