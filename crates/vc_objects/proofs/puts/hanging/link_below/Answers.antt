use Rattle.vc_base.proofs.Common.{rules, ◌≡◌, ◌+◌, ◌∷◌, false, length, arith}
use Rattle.vc_dict.specs.Changes.{order_by_link}
use Rattle.vc_dict.specs.declared.form.Form.TheVariants.{Order}
use Rattle.vc_dict.proofs.DictLemmas.{Became-heads, few}
use Rattle.vc_dict.proofs.LengthLemmas.{length-linked}
use Rattle.vc_objects.proofs.JoinLemmas.{heads-joined}
use Rattle.vc_objects.proofs.puts.hanging.link_below.Goals as goal

pub hang_in-requires : goal.hang_in-requires
hang_in-requires g c = record { rules = c.requires.rules; ord = c.requires.ord; holders = c.requires.holders; joins = c.requires.joins }

pub overflow_add-dict : goal.overflow_add-dict
overflow_add-dict g c =
    let h = few c.requires.rules c.args.dict.now (g.C.Cells.blocks c.args.cells.now) c.requires.holders c.requires.stands in
    omega (arith, h)

pub returns-clause-dict : goal.returns-clause-dict
returns-clause-dict g c = λ kind ord holders s form j.
    let d = c.args.dict.now in
    let b = g.C.Cells.blocks c.args.cells.now in
    let b' = g.C.Cells.blocks c.hang_in.new.nodes.cells.now in
    let at = c.args.at in
    let ys = order_by_link false d.method kind b d.current.0 at.0 holders in
    let long : length ys ≡ length holders + 1 = length-linked false d.method kind b d.current.0 at.0 holders in
    let became = Became-heads kind d (Order (record { root = at })) (d.count + 1) at b b' (at.0 ∷ holders) holders ys s
    (heads-joined kind d ord (record { root = at }) b b' at.0 holders form s.form (c.hang_in.ensures.list.change kind ord holders j)) (omega (arith, long, s.count)) in
    search rules
