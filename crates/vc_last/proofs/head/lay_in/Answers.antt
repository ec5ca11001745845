use Rattle.vc_base.proofs.Common.{◌≡◌, ℕ, ◌+◌, ◌-◌, ◌≤◌, List, length, take, drop, replicate, sym, ap, ◌∙◌, subst, arith, length-replicate, with_bytes}
use Rattle.vc_seg.specs.Segment.{Bytes}
use Rattle.vc_seg.specs.Field.{field_at}
use Rattle.vc_seg.specs.Frame.{StaysOutside}
use Rattle.vc_seg.proofs.Frames.{field-front, stays-written, then, wider, written-part}
use Rattle.vc_last.proofs.head.lay_in.Goals as goal
use Rattle.vc_last.proofs.head.lay_in.Goals.{After-fill}

-- what each write leaves
record Steps (off size : ℕ) (a b d e f g : Bytes) : Type 0 where
  first : StaysOutside (off - 16) (off - 16 + 4) a b
  second : StaysOutside (off - 16 + 4) (off - 16 + 4 + 4) b d
  third : StaysOutside (off - 16 + 8) (off - 16 + 8 + 4) d e
  fourth : StaysOutside (off - 16 + 12) (off - 16 + 12 + 4) e f
  last : StaysOutside off (off + size) f g

room : (c : After-fill) → c.args.off + length {A = ℕ} (replicate c.args.size 0) ≤ length c.set_field-4.new.self.bytes
room c = omega (arith, c.requires.within, length-replicate {A = ℕ} c.args.size 0, c.set_field.ensures.rest.len, c.set_field-2.ensures.rest.len, c.set_field-3.ensures.rest.len, c.set_field-4.ensures.rest.len)

steps : (c : After-fill) → Steps c.args.off c.args.size c.args.seg.now c.set_field.new.self c.set_field-2.new.self c.set_field-3.new.self c.set_field-4.new.self c.fill.new.self
steps c =
    let long = length-replicate {A = ℕ} c.args.size 0 in
    record {
      first = c.set_field.ensures.rest;
      second = c.set_field-2.ensures.rest;
      third = c.set_field-3.ensures.rest;
      fourth = c.set_field-4.ensures.rest;
      last = subst (λ k. StaysOutside c.args.off (c.args.off + k) c.set_field-4.new.self c.fill.new.self) long
          (stays-written c.set_field-4.new.self c.fill.new.self c.args.off (replicate c.args.size 0) (room c) c.fill.ensures.bytes c.fill.ensures.number);
    }

pub returns-clause-size : goal.returns-clause-size
returns-clause-size c =
    let s = steps (goal.at.returns-clause-size c).After-fill in
    field-front c.set_field-4.new.self.bytes c.fill.new.self.bytes c.args.off s.last.below (c.args.off - 16) (omega (arith, c.requires.first))
    ∙ (field-front c.set_field-3.new.self.bytes c.set_field-4.new.self.bytes (c.args.off - 16 + 12) s.fourth.below (c.args.off - 16) (omega arith)
    ∙ (field-front c.set_field-2.new.self.bytes c.set_field-3.new.self.bytes (c.args.off - 16 + 8) s.third.below (c.args.off - 16) (omega arith)
    ∙ (field-front c.set_field.new.self.bytes c.set_field-2.new.self.bytes (c.args.off - 16 + 4) s.second.below (c.args.off - 16) (omega arith) ∙ c.set_field.ensures.value)))

pub returns-clause-label : goal.returns-clause-label
returns-clause-label c =
    let s = steps (goal.at.returns-clause-label c).After-fill in
    let e : c.args.off - 12 ≡ c.args.off - 16 + 4 = omega (arith, c.requires.first) in
    ap (λ i. field_at i c.fill.new.self.bytes) e
    ∙ (field-front c.set_field-4.new.self.bytes c.fill.new.self.bytes c.args.off s.last.below (c.args.off - 16 + 4) (omega (arith, c.requires.first))
    ∙ (field-front c.set_field-3.new.self.bytes c.set_field-4.new.self.bytes (c.args.off - 16 + 12) s.fourth.below (c.args.off - 16 + 4) (omega arith)
    ∙ (field-front c.set_field-2.new.self.bytes c.set_field-3.new.self.bytes (c.args.off - 16 + 8) s.third.below (c.args.off - 16 + 4) (omega arith) ∙ c.set_field-2.ensures.value)))

pub returns-clause-before : goal.returns-clause-before
returns-clause-before c =
    let s = steps (goal.at.returns-clause-before c).After-fill in
    let e : c.args.off - 8 ≡ c.args.off - 16 + 8 = omega (arith, c.requires.first) in
    ap (λ i. field_at i c.fill.new.self.bytes) e
    ∙ (field-front c.set_field-4.new.self.bytes c.fill.new.self.bytes c.args.off s.last.below (c.args.off - 16 + 8) (omega (arith, c.requires.first))
    ∙ (field-front c.set_field-3.new.self.bytes c.set_field-4.new.self.bytes (c.args.off - 16 + 12) s.fourth.below (c.args.off - 16 + 8) (omega arith) ∙ c.set_field-3.ensures.value))

pub returns-clause-zero : goal.returns-clause-zero
returns-clause-zero c =
    let s = steps (goal.at.returns-clause-zero c).After-fill in
    let e : c.args.off - 4 ≡ c.args.off - 16 + 12 = omega (arith, c.requires.first) in
    ap (λ i. field_at i c.fill.new.self.bytes) e
    ∙ (field-front c.set_field-4.new.self.bytes c.fill.new.self.bytes c.args.off s.last.below (c.args.off - 16 + 12) (omega (arith, c.requires.first)) ∙ c.set_field-4.ensures.value)

pub returns-clause-bytes : goal.returns-clause-bytes
returns-clause-bytes c =
    ap (λ (xs : List ℕ). take c.args.size (drop c.args.off xs)) c.fill.ensures.bytes
    ∙ (ap (λ k. take k (drop c.args.off (with_bytes c.args.off (replicate c.args.size 0) c.set_field-4.new.self.bytes))) (sym (length-replicate {A = ℕ} c.args.size 0))
    ∙ written-part c.args.off (replicate c.args.size 0) c.set_field-4.new.self.bytes (room (goal.at.returns-clause-bytes c).After-fill))

pub returns-clause-rest : goal.returns-clause-rest
returns-clause-rest c =
    let s = steps (goal.at.returns-clause-rest c).After-fill in
    let f : ℕ = c.args.off - 16 in
    let t : ℕ = c.args.off + c.args.size in
    let o : Bytes = c.args.seg.now in
    let b : Bytes = c.set_field.new.self in
    let d : Bytes = c.set_field-2.new.self in
    let e : Bytes = c.set_field-3.new.self in
    let g : Bytes = c.set_field-4.new.self in
    let n : Bytes = c.fill.new.self in
    let i : StaysOutside (c.args.off - 16) (c.args.off + c.args.size) o b = wider (c.args.off - 16) (c.args.off - 16 + 4) (c.args.off - 16) (c.args.off + c.args.size) o b s.first (omega arith) (omega (arith, c.requires.first)) in
    let j : StaysOutside (c.args.off - 16) (c.args.off + c.args.size) b d = wider (c.args.off - 16 + 4) (c.args.off - 16 + 4 + 4) (c.args.off - 16) (c.args.off + c.args.size) b d s.second (omega arith) (omega (arith, c.requires.first)) in
    let k : StaysOutside (c.args.off - 16) (c.args.off + c.args.size) d e = wider (c.args.off - 16 + 8) (c.args.off - 16 + 8 + 4) (c.args.off - 16) (c.args.off + c.args.size) d e s.third (omega arith) (omega (arith, c.requires.first)) in
    let l : StaysOutside (c.args.off - 16) (c.args.off + c.args.size) e g = wider (c.args.off - 16 + 12) (c.args.off - 16 + 12 + 4) (c.args.off - 16) (c.args.off + c.args.size) e g s.fourth (omega arith) (omega (arith, c.requires.first)) in
    let m : StaysOutside (c.args.off - 16) (c.args.off + c.args.size) g n = wider c.args.off (c.args.off + c.args.size) (c.args.off - 16) (c.args.off + c.args.size) g n s.last (omega arith) (omega arith) in
    then f t o b n i (then f t b d n j (then f t d e n k (then f t e g n l m)))
