use Rattle.vc_base.proofs.Common.{rules, sym, subst}
use Rattle.vc_dtord.specs.declared.dt_ord.DtOrd.{DtOrd}
use Rattle.vc_dtord.specs.Ordered.{OrdFor}
use Rattle.vc_dtord.proofs.CallLemmas.{beside_there, is_in, kept-found}
use Rattle.vc_dict.specs.Stands.{HeadsFor, HeadsTurned}
use Rattle.vc_dict.specs.declared.form.Form.{Form}
use Rattle.vc_dict.specs.declared.form.Form.TheVariants.{Order}
use Rattle.vc_dict.proofs.DictLemmas.{Became-heads, turned-ord}
use Rattle.vc_objects.proofs.puts.leaning.lean.Goals as goal

pub splay-root-requires : goal.splay-root-requires
splay-root-requires g c = is_in c.args.ord (g.C.Cells.blocks c.args.cells.now) c.args.at c.requires.within

pub returns-clause-dict : goal.returns-clause-dict
returns-clause-dict g c = λ kind holders s.
    let d = c.args.dict.now in
    let b = g.C.Cells.blocks c.args.cells.now in
    let l = c.splay-root in
    let b' = g.C.Cells.blocks l.new.nodes.cells.now in
    let heads : OrdFor kind c.args.ord b holders = subst (λ z. HeadsFor kind z b holders) c.requires.form s.heads in
    let new : DtOrd = record { root = record { 0 = l.result } } in
    let became = Became-heads kind d (Order new) d.count d.current b b' holders holders holders s
    (subst (λ (z : Form). HeadsTurned kind holders z b (Order new) b' holders) (sym c.requires.form)
    (turned-ord kind c.args.ord new holders b b' holders
    (kept-found kind c.args.ord b c.args.at (beside_there c.args.ord b c.args.at c.requires.within) b' l.new.nodes.mark.0 new l.ensures.rest.3 l.ensures.tree holders heads)))
    s.count in
    search rules
