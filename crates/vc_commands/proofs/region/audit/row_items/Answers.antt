use Rattle.vc_base.proofs.Common.{◌+◌, [], ◌∷◌, ◌++◌, length, drop, sym, ap, ◌∙◌, append_assoc, append-nil, arith}
use Rattle.vc_region.specs.Parts.{region_of}
use Rattle.vc_region.specs.Region.{rows_in}
use Rattle.vc_commands.proofs.Auditing.{row-end, row-is, row-next}
use Rattle.vc_region.proofs.Rest.{rest-profile, rest-rows}
use Rattle.vc_commands.proofs.region.audit.row_items.Goals as goal

pub loop-row-preserved : goal.loop-row-preserved
loop-row-preserved g c =
    let r = region_of c.args.region.now in
    let i = c.loop-row.i in
    let next = row-next (rows_in r) i c.in-Some.row (sym (row-is r i) ∙ sym c.in-Some.ensures) in
    ap (λ is. is ++ drop (i + 1) (rows_in r)) c.in_ok-push.ensures.items
    ∙ (append_assoc c.loop-row.items.items (c.in-Some.row ∷ []) (drop (i + 1) (rows_in r))
    ∙ (ap (λ is. c.loop-row.items.items ++ is) (sym next)
    ∙ c.loop-row.invariant))

pub loop-row-smaller : goal.loop-row-smaller
loop-row-smaller g c =
    let e = ap length (row-next (rows_in (region_of c.args.region.now)) c.loop-row.i c.in-Some.row (sym (row-is (region_of c.args.region.now) c.loop-row.i) ∙ sym c.in-Some.ensures)) in
    omega (arith, e)

pub returns : goal.returns
returns g c =
    let r = region_of c.args.region.now in
    sym (append-nil c.loop-row.items.items)
    ∙ (ap (λ rs. c.loop-row.items.items ++ rs) (sym (row-end (rows_in r) c.loop-row.i (sym (row-is r c.loop-row.i) ∙ sym c.in_default.ensures)))
    ∙ (c.loop-row.invariant ∙ sym (rest-rows r)))

pub row-requires : goal.row-requires
row-requires g c = sym (rest-profile (region_of c.args.region.now)) ∙ c.requires
