use Rattle.vc_base.proofs.Common.{ℕ, List, ◌++◌, IsTrue, list_all, subst, sym}
use Rattle.vc_script.specs.Puts.{Puts}
use Rattle.vc_script.specs.Shown.{is_plain}
use Rattle.vc_script.proofs.PrintSteps.{shown_bytes-plain}
use Rattle.vc_script.proofs.print_parts.put_object_between.Goals as goal

pub returns-then-are_plain : goal.returns-then-are_plain
returns-then-are_plain c =
    let object = c.args.object.now in
    let plain : IsTrue (list_all is_plain object) = cc in
    subst (λ (shown : List ℕ). Puts c.args.line.now.items c.put_texts.new.line.items c.put_texts.result (c.args.front.now ++ shown ++ c.args.back.now))
    (sym (shown_bytes-plain object plain))
    c.put_texts.ensures
