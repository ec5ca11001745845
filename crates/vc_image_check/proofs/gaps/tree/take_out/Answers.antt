use Rattle.vc_base.proofs.Common.{◌≡◌, if◌then◌else◌, get_or, contains, refl, ◌∙◌, subst, arith, get_or_default, take_all}
use Rattle.vc_image_check.specs.Marks.Mark.{lists, mark_in}
use Rattle.vc_image_check.proofs.Sorted.{taken-set}
use Rattle.vc_image_check.proofs.gaps.tree.take_out.Goals as goal

pub loop-name-init : goal.loop-name-init
loop-name-init c = record { marks = λ a. refl; places = refl }

pub loop-name-preserved : goal.loop-name-preserved
loop-name-preserved c =
    let xs = c.args.names.now in
    let i = c.loop-name.name-index in
    record {
      marks = taken-set (lists c.args.marks.now.rows.items) (lists c.loop-name.marks.rows.items) (lists c.take_one.new.marks.rows.items) xs i (get_or xs i 0) c.loop-name-test.true
          (get_or_default xs i (get_or xs i 0) 0 c.loop-name-test.true) c.loop-name.invariant.marks c.take_one.ensures.marks;
      places = c.take_one.ensures.places ∙ c.loop-name.invariant.places;
    }

pub returns : goal.returns
returns c = record {
  marks = λ a.
      subst (λ z. mark_in c.loop-name.marks a ≡ (if contains z a then 0 else mark_in c.args.marks.now a))
      (take_all c.loop-name.name-index c.args.names.now (omega (arith, c.loop-name-test.false))) (c.loop-name.invariant.marks a);
  places = c.loop-name.invariant.places;
}
