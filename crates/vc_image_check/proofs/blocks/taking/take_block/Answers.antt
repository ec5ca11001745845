use Rattle.vc_base.proofs.Common.{◌≡◌, nat_lt, if◌then◌else◌, sym, ap, ◌∙◌, subst, inl, inr, eqb_tells}
use Rattle.vc_image_check.specs.Marks.Mark.{lists, mark_at}
use Rattle.vc_image_check.specs.Blocks.Blocks.{HasBlockMarks}
use Rattle.vc_image_check.specs.Laws.BlockLaws.{other-marks}
use Rattle.vc_image_check.proofs.blocks.taking.take_block.Goals as goal

pub returns-clause-blocks : goal.returns-clause-blocks
returns-clause-blocks c = λ image k.
    let old = lists c.args.marks.now.rows.items in
    let new = lists c.set.new.self.rows.items in
    let was : mark_at old c.args.a ≡ 3 = sym c.get.ensures ∙ c.if-get-ne3.false in
    subst (HasBlockMarks image new) (sym c.set.ensures.places)
    (other-marks image old new c.args.marks.now.places.items
    (λ b. elim (eqb_tells b c.args.a) as (λ _. nat_lt 2 (mark_at new b) ≡ nat_lt 2 (mark_at old b)) [
      | inl same ↦
          let is : mark_at new b ≡ 4 = c.set.ensures.marks b ∙ ap (λ t. if t then 4 else mark_at old b) same.0 in
          ap (nat_lt 2) is ∙ sym (ap (nat_lt 2) (ap (mark_at old) same.1 ∙ was))
      | inr other ↦ ap (nat_lt 2) (c.set.ensures.marks b ∙ ap (λ t. if t then 4 else mark_at old b) other.0)
    ]) k)
