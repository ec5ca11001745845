use Rattle.vc_base.proofs.Common.{◌≡◌, ◌/◌, ◌%◌, ◌==◌, if◌then◌else◌, set, sym, refl, ap, ◌∙◌, subst}
use Rattle.vc_image_check.specs.Marks.Mark.{lists, mark_at}
use Rattle.vc_image_check.proofs.Filling.{lists-set, marked-set, row-of, row-there}
use Rattle.vc_image_check.proofs.marks.marks.Marks.set.Goals as goal

pub returns : goal.returns
returns c =
    let rows = c.args.self.now.rows.items in
    let n = c.args.a / 1048576 in
    let k = c.args.a % 1048576 in
    let row = c.index_mut-row.result.now in
    let is = row-of rows n row c.index_mut-row.ensures.value (row-there (lists rows) c.args.a c.args.mark c.requires) in
    record {
      marks = λ b.
          subst (λ z. mark_at z b ≡ (if b == c.args.a then c.args.mark else mark_at (lists rows) b))
          (sym (lists-set rows n _ ∙ ap (λ z. set (lists rows) n (set z k c.args.mark)) is))
          (marked-set (lists rows) c.args.a c.args.mark c.requires b);
      places = refl;
    }
