use Rattle.vc_base.proofs.Common.{◌≡◌, ◌++◌, OnOk, subst}
use Rattle.vc_image.proofs.Heads.{row-numbers}
use Rattle.vc_image.proofs.head.put_row.Goals as goal

pub returns : goal.returns
returns c =
    subst (λ z. OnOk c.put_numbers.result (c.put_numbers.new.head.items ≡ c.args.head.now.items ++ z))
    (row-numbers c.args.dict.now c.number_of.result c.heads-heads.result c.number_of.ensures c.heads-heads.ensures.heads)
    c.put_numbers.ensures
