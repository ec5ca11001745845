use Rattle.vc_base.proofs.Common.{◌≡◌, [], ◌∷◌, ◌++◌, length, map, sym, ap, ◌∙◌, inr, append_assoc, append-nil, arith}
use Rattle.vc_audit.proofs.Sound.{own-best}
use Rattle.vc_best.specs.Parts.{blocks_in, layout_of}
use Rattle.vc_script.specs.declared.reply.Reply.TheVariants.{BlockList}
use Rattle.vc_commands.proofs.Listing.{blocks-all, none-above}
use Rattle.vc_image_run.specs.Text.Text.{items_of}
use Rattle.vc_image_run.proofs.Items.{item, items_above, next-item}
use Rattle.vc_image_run.proofs.text.blocks.blocks.Goals as goal

pub loop-block-smaller : goal.loop-block-smaller
loop-block-smaller g c =
    let best = c.args.best.now in
    let next = next-item (blocks_in best) c.loop-block.after.0 c.in-Some.block.0 c.tag.result c.size.result c.label_of.result c.place_of.result (own-best (layout_of best) best.sound) (sym c.in-Some.ensures.value) c.tag.ensures c.label_of.ensures c.place_of.ensures.seg c.place_of.ensures.off c.size.ensures in
    let e = ap length next.row in
    omega (arith, e)

pub loop-block-preserved : goal.loop-block-preserved
loop-block-preserved g c =
    let best = c.args.best.now in
    let bs = blocks_in best in
    let next = next-item bs c.loop-block.after.0 c.in-Some.block.0 c.tag.result c.size.result c.label_of.result c.place_of.result (own-best (layout_of best) best.sound) (sym c.in-Some.ensures.value) c.tag.ensures c.label_of.ensures c.place_of.ensures.seg c.place_of.ensures.off c.size.ensures in
    let rest = items_above c.in-Some.block.0 bs in
    record {
      items =
          ap (λ is. is ++ rest) c.in_ok-push.ensures.items
          ∙ (append_assoc c.loop-block.items.items ((c.label_of.result, c.place_of.result, c.size.result) ∷ []) rest
          ∙ (ap (λ is. c.loop-block.items.items ++ is) (sym next.row)
          ∙ c.loop-block.invariant.items));
      from = inr c.in-Some.ensures.live;
    }

pub returns : goal.returns
returns g c =
    let best = c.args.best.now in
    let bs = blocks_in best in
    let places = own-best (layout_of best) best.sound in
    let all : c.from_vec.result ≡ items_of bs =
    c.from_vec.ensures
    ∙ (sym (append-nil c.loop-block.items.items)
    ∙ (ap (λ is. c.loop-block.items.items ++ map item is) (sym (none-above bs c.loop-block.after.0 places (sym c.in_default.ensures.value)))
    ∙ (c.loop-block.invariant.items
    ∙ ap (map item) (blocks-all bs places)))) in
    ap BlockList all
