use Rattle.vc_base.proofs.Common.{not, ◌≢◌, [], ◌==◌, sym, ap, ◌∙◌, subst, true≢false}
use Rattle.vc_objects.specs.Unlabelled.{FreesCell}
use Rattle.vc_objects.specs.Objects.{own_blocks}
use Rattle.vc_objects.specs.Parts.{dictionary_in}
use Rattle.vc_objects.proofs.Emptied.{emptied-fewer, leaves-none, leaves-table}
use Rattle.vc_objects.proofs.Leaving.{leaves-trans}
use Rattle.vc_objects.proofs.emptying.shut.Goals as goal
use Rattle.vc_dict.specs.Stands.{table_in}

pub returns-then-ne-clause-leaves : goal.returns-then-ne-clause-leaves
returns-then-ne-clause-leaves g c =
    let some : (table_in c.empty.new.dict).0 ≢ 0 =
    λ zero. true≢false (sym c.if-ne.true ∙ c.ne.ensures ∙ ap (λ z. not (z == 0)) (ap (λ a. a.0) c.table-table.ensures ∙ zero)) in
    leaves-trans (λ z. (goal.SegDisc-dyn g z).state z.1) c.args.best.now c.empty.new.best c.free_cell.new.best _ _ [] c.empty.ensures.empties.leaves.rest
    (leaves-table (λ z. (goal.SegDisc-dyn g z).state z.1) c.empty.new.best c.free_cell.new.best c.empty.new.dict some
    (subst (λ t. FreesCell (λ z. (goal.SegDisc-dyn g z).state z.1) c.empty.new.best t.0 c.free_cell.new.best) c.table-table.ensures c.free_cell.ensures.frees))
    (λ a apart _. emptied-fewer (dictionary_in c.args.dict c.args.best.now) _ c.empty.ensures.empties.dict a apart)

pub returns-else-ne-clause-leaves : goal.returns-else-ne-clause-leaves
returns-else-ne-clause-leaves g c =
    leaves-trans (λ z. (goal.SegDisc-dyn g z).state z.1) c.args.best.now c.empty.new.best c.empty.new.best _ _ [] c.empty.ensures.empties.leaves.rest
    (leaves-none (λ z. (goal.SegDisc-dyn g z).state z.1) c.empty.new.best (own_blocks (dictionary_in c.empty.new.dict c.empty.new.best)))
    (λ a apart _. emptied-fewer (dictionary_in c.args.dict c.args.best.now) _ c.empty.ensures.empties.dict a apart)
