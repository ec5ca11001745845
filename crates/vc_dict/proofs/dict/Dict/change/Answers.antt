use Rattle.vc_base.proofs.Common.{ℕ, ◌&&◌, List, ap, ◌∙◌, subst, has_table}
use Rattle.vc_dict.specs.Orders.{ordered_by}
use Rattle.vc_dict.specs.Passes.{Ordered}
use Rattle.vc_dict.specs.Stands.{Stands, table_in}
use Rattle.vc_dict.proofs.PassLemmas.{KeepsBut-step}
use Rattle.vc_dict.proofs.RemethodLemmas.{Remethoded-made, Turning, can-settle, can-take, if_number, in-order, kept-count}
use Rattle.vc_dict.proofs.TurnedLemmas.{ordered_by_same}
use Rattle.vc_dict.proofs.dict.Dict.change.Given.{Over}
use Rattle.vc_dict.proofs.dict.Dict.change.Goals as goal
use Rattle.vc_dict.proofs.dict.Dict.change.Goals.{After-table_by-slots}

-- its holders in the method's order
ordered-so : (g : Over) (c : After-table_by-slots g) (holders : List ℕ) → Stands (g.D.DictDisc.rules c.args.kind.now) c.args.self.now (g.C.Cells.blocks c.args.cells.now) holders
    → Ordered (g.D.DictDisc.rules c.args.kind.now) holders (ordered_by c.args.method (g.D.DictDisc.rules c.args.kind.now) (g.C.Cells.blocks c.args.cells.now) holders) (g.C.Cells.blocks c.args.cells.now) c.order_by-ordered.result (g.C.Cells.blocks c.order_by-ordered.new.cells)
ordered-so g c holders s =
    let rules = g.D.DictDisc.rules c.args.kind.now in
    let b = g.C.Cells.blocks c.args.cells.now in
    let b' = g.C.Cells.blocks c.into_list-list.new.cells in
    let b1 = g.C.Cells.blocks c.order_by-ordered.new.cells in
    let list = c.order_by-ordered.result in
    let l = c.into_list-list.ensures.change rules holders s.heads in
    let o : Ordered rules holders (ordered_by c.args.method rules b holders) b' list b1 =
    subst (λ z. Ordered rules holders z b' list b1) (ordered_by_same c.args.method rules b b' holders holders l.keeps) (c.order_by-ordered.ensures.change holders l.stands) in
    record { stands = o.stands; keeps = KeepsBut-step holders holders b b' b1 l.keeps o.keeps (λ x h. h) }

-- it takes them with the table that it has then
turning : (g : Over) (c : After-table_by-slots g) (holders : List ℕ) → Stands (g.D.DictDisc.rules c.args.kind.now) c.args.self.now (g.C.Cells.blocks c.args.cells.now) holders
    → Turning (g.D.DictDisc.rules c.args.kind.now) c.args.method c.args.self.now (g.C.Cells.blocks c.args.cells.now) (g.C.Cells.blocks c.order_by-ordered.new.cells) c.args.table.0 c.args.slots holders
    c.order_by-ordered.result c.table_by-slots.result.0 c.table_by-slots.result.1
turning g c holders s =
    let o = ordered-so g c holders s in
    record {
      can = c.requires;
      stands = s;
      order = (g.met.D.DictDisc.lawful c.args.kind.now).order;
      listed = o.stands;
      keeps = o.keeps;
      table_is = ap (λ z. z.0) c.table_by-slots.ensures.table ∙ if_number (has_table c.args.method && has_table c.args.self.now.method) (table_in c.args.self.now) c.args.table;
      slots_is = c.table_by-slots.ensures.slots;
    }

pub weed_by-weeded-requires : goal.weed_by-weeded-requires
weed_by-weeded-requires g c = can-settle (turning g (goal.at.weed_by-weeded-requires g c).After-table_by-slots c.requires.holders c.requires.stands)

pub in_form-self-requires : goal.in_form-self-requires
in_form-self-requires g c = λ h.
    let t = turning g (goal.at.in_form-self-requires g c).After-table_by-slots c.requires.holders c.requires.stands in
    let w = c.weed_by-weeded.ensures.change _ t.listed in
    record { holders = _; stands = (in-order t w h).0; length = kept-count t w }

pub returns : goal.returns
returns g c = record {
  change = λ holders s.
      let t = turning g (goal.at.returns g c).After-table_by-slots holders s in
      let w = c.weed_by-weeded.ensures.change _ t.listed in
      let form = c.in_form-self.ensures in
      Remethoded-made t w (g.C.Cells.blocks c.in_form-self.new.cells) c.in_form-self.result c.table_left-left.result c.table_left-left.ensures form.form form.table form.slots
      (form.heads.change _ (can-take t w));
  rest = g.met.C.Cells.transitive _ _ _ (g.met.C.Cells.transitive _ _ _ (g.met.C.Cells.transitive _ _ _ c.into_list-list.ensures.rest c.order_by-ordered.ensures.rest) c.weed_by-weeded.ensures.rest) c.in_form-self.ensures.heads.rest;
}
