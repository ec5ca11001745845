use Rattle.vc_base.proofs.Common.{◌≡◌, ◌==◌, if◌then◌else◌, sym, refl, ap, ◌∙◌, inl, inr, cases_eq, eq-eqb, ne_eqb}
use Rattle.vc_image_check.specs.Marks.Mark.{mark_in}
use Rattle.vc_image_check.proofs.gaps.tree.take_one.Goals as goal

pub returns-then-get-eq0 : goal.returns-then-get-eq0
returns-then-get-eq0 c = record {
  marks = λ a. elim (cases_eq a c.args.name) as (λ _. mark_in c.args.marks.now a ≡ (if a == c.args.name then 0 else mark_in c.args.marks.now a)) [
    | inl same ↦ rw (eq-eqb a c.args.name same) (ap (mark_in c.args.marks.now) same ∙ sym c.get.ensures ∙ c.if-get-eq0.true)
    | inr other ↦ rw (ne_eqb a c.args.name other) refl
  ];
  places = refl;
}
