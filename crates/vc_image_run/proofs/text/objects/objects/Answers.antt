use Rattle.vc_base.proofs.Common.{[], ◌∷◌, ◌++◌, option_map, ap, subst, ◌∙◌, arith, Blocks}
use Rattle.vc_best.specs.Cells.{cells_in}
use Rattle.vc_dict.specs.Listed.{holders_of}
use Rattle.vc_dict.proofs.OwnLemmas.{holder-there, holders-distinct}
use Rattle.vc_dtlist.specs.Linked.{number_of}
use Rattle.vc_script.specs.declared.reply.Reply.TheVariants.{Objects}
use Rattle.vc_image_run.proofs.Walks.{IsHere, Walked, here, here-within, walked-end, walked-next}
use Rattle.vc_image_run.proofs.text.objects.objects.Given.{Over}
use Rattle.vc_image_run.proofs.text.objects.objects.Goals as goal
use Rattle.vc_image_run.proofs.text.objects.objects.Goals.{In-Some}

-- where the walk is
here-of : (g : Over) (c : In-Some g) → IsHere (cells_in c.args.best.now) (holders_of c.args.dict.now (cells_in c.args.best.now)) c.in-Some.here.0 c.loop-at.items
here-of g c =
    let b : Blocks = cells_in c.args.best.now in
    let hs = holders_of c.args.dict.now b in
    here b hs c.in-Some.here.0 c.loop-at.items (subst (λ o. Walked b hs (option_map number_of o) c.loop-at.items) c.in-Some.is c.loop-at.invariant)

pub body-requires : goal.body-requires
body-requires g c =
    let b : Blocks = cells_in c.args.best.now in
    let hs = holders_of c.args.dict.now b in
    let h = holder-there c.requires.rules c.args.dict.now b hs c.in-Some.here.0 c.requires.whole.stands (here-within b hs c.in-Some.here.0 c.loop-at.items (here-of g (goal.at.body-requires g c).In-Some)) in
    let enough = h.enough in
    record { there = h.there; enough = omega (arith, enough) }

pub loop-at-preserved : goal.loop-at-preserved
loop-at-preserved g c =
    let b : Blocks = cells_in c.args.best.now in
    let hs = holders_of c.args.dict.now b in
    walked-next b hs c.in-Some.here.0 c.loop-at.items (here-of g (goal.at.loop-at-preserved g c).In-Some) (option_map number_of c.next-at.result) c.push.new.self
    (holders-distinct c.requires.rules c.args.dict.now b hs c.requires.whole.stands)
    (c.next-at.ensures c.requires.rules hs c.requires.whole.stands)
    (c.in_ok-push.ensures.pushed ∙ ap (λ o. c.loop-at.items ++ o ∷ []) c.body.ensures)

pub returns : goal.returns
returns g c =
    let b : Blocks = cells_in c.args.best.now in
    let hs = holders_of c.args.dict.now b in
    ap Objects (walked-end b hs c.loop-at.items (subst (λ o. Walked b hs (option_map number_of o) c.loop-at.items) c.in_default.is c.loop-at.invariant))
