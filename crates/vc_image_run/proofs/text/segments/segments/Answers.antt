use Rattle.vc_base.proofs.Common.{◌≡◌, [], ◌∷◌, ◌++◌, length, sym, ap, ◌∙◌, append_assoc, append-nil, arith}
use Rattle.vc_model.specs.Walk.{by_number}
use Rattle.vc_audit.proofs.Sound.{own-numbers}
use Rattle.vc_best.specs.Parts.{layout_of, segments_in}
use Rattle.vc_script.specs.declared.reply.Reply.TheVariants.{SegmentList}
use Rattle.vc_commands.proofs.Listing.{segments-all, segments-end, segments-next, segments_above}
use Rattle.vc_image_run.proofs.text.segments.segments.Goals as goal

pub loop-segment-smaller : goal.loop-segment-smaller
loop-segment-smaller g c =
    let best = c.args.best.now in
    let e = ap length (segments-next c.loop-segment.after (segments_in best) c.in-Some.segment (own-numbers (layout_of best) best.sound) (sym c.in-Some.ensures)) in
    omega (arith, e)

pub loop-segment-preserved : goal.loop-segment-preserved
loop-segment-preserved g c =
    let best = c.args.best.now in
    let ss = segments_in best in
    let rest = segments_above c.in-Some.segment.0 ss in
    ap (λ is. is ++ rest) c.in_ok-push.ensures.items
    ∙ (append_assoc c.loop-segment.items.items (c.in-Some.segment ∷ []) rest
    ∙ (ap (λ is. c.loop-segment.items.items ++ is) (sym (segments-next c.loop-segment.after ss c.in-Some.segment (own-numbers (layout_of best) best.sound) (sym c.in-Some.ensures)))
    ∙ c.loop-segment.invariant))

pub returns : goal.returns
returns g c =
    let best = c.args.best.now in
    let ss = segments_in best in
    let numbers = own-numbers (layout_of best) best.sound in
    let all : c.from_vec.result ≡ by_number ss =
    c.from_vec.ensures
    ∙ (sym (append-nil c.loop-segment.items.items)
    ∙ (ap (λ is. c.loop-segment.items.items ++ is) (sym (segments-end c.loop-segment.after ss numbers (sym c.in_default.ensures)))
    ∙ (c.loop-segment.invariant
    ∙ segments-all ss numbers))) in
    ap SegmentList all
