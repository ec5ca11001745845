use Rattle.vc_base.proofs.Common.{◌≡◌, [], ◌∷◌, ◌++◌, sym, ap, ◌∙◌, inr, append_assoc, append-nil, place_of, Discipline, by_address}
use Rattle.vc_region.specs.Cells.{rest_in, rest_of}
use Rattle.vc_region.specs.Parts.{region_of}
use Rattle.vc_region.specs.Region.{blocks_of}
use Rattle.vc_script.specs.declared.reply.Reply.TheVariants.{BlockList}
use Rattle.vc_commands.specs.Home.{reply_alone}
use Rattle.vc_audit.proofs.DebugChecks.{above as blocks_above}
use Rattle.vc_commands.proofs.Listing.{blocks-all, fewer-above, items_of, list-items, next-told, next_in, none-above, places_in}
use Rattle.vc_commands.specs.Held.{home_of}
use Rattle.vc_commands.specs.RegionRun.{held_of}
use Rattle.vc_region.proofs.RestFound.{rest-label, rest-size}
use Rattle.vc_commands.proofs.region.home.HomeEntry.blocks.Given as given
use Rattle.vc_commands.proofs.region.home.HomeEntry.blocks.Goals as goal

abbrev meaning : (g : given.Over) → (x : g.dyn-1.0.I) × (g.dyn-1.0.entry x).0.Denot → Discipline
meaning g p = (g.dyn-1.0.entry p.0).1.state p.1

pub loop-block-smaller : goal.loop-block-smaller
loop-block-smaller g c =
    fewer-above (blocks_of (rest_in c.args.self.now.region)) c.loop-block.after.0 c.in-Some.block.0 (places_in c.args.self.now.region) (next_in c.args.self.now.region c.loop-block.after.0 _ c.in-Some.ensures.value)

pub loop-block-preserved : goal.loop-block-preserved
loop-block-preserved g c =
    let was = region_of c.args.self.now.region in
    let bs = blocks_of (rest_of was) in
    let labels = c.args.labels.now in
    let next = next-told bs labels c.loop-block.after.0 c.in-Some.block.0 c.tag.result c.size.result c.name-name.result c.place_of.result (places_in c.args.self.now.region) (next_in c.args.self.now.region c.loop-block.after.0 _ c.in-Some.ensures.value) (rest-label was (place_of c.in-Some.block.0) ∙ c.tag.ensures) c.name-name.ensures c.place_of.ensures.seg c.place_of.ensures.off (rest-size was (place_of c.in-Some.block.0) ∙ c.size.ensures) in
    let rest = items_of labels (blocks_above c.in-Some.block.0 bs) in
    record {
      items =
          ap (λ is. is ++ rest) (c.in_ok-push.ensures.items ∙ ap (λ i. c.loop-block.items.items ++ i ∷ []) (sym next.item_is))
          ∙ (append_assoc c.loop-block.items.items (items_of labels (next.it ∷ [])) rest
          ∙ (ap (λ is. c.loop-block.items.items ++ is) (sym (ap (items_of labels) next.row))
          ∙ c.loop-block.invariant.items));
      from = inr c.in-Some.ensures.live;
    }

pub returns : goal.returns
returns g c = λ r.
    let h = held_of (meaning g) r c.args.self.now c.args.labels.now in
    let places = places_in c.args.self.now.region in
    let all : c.from_vec.result ≡ items_of h.labels (by_address (blocks_of h.region)) =
    c.from_vec.ensures
    ∙ (sym (append-nil c.loop-block.items.items)
    ∙ (ap (λ is. c.loop-block.items.items ++ items_of h.labels is) (sym (none-above (blocks_of h.region) c.loop-block.after.0 places (next_in c.args.self.now.region c.loop-block.after.0 _ c.in_default.ensures.value)))
    ∙ (c.loop-block.invariant.items
    ∙ ap (items_of h.labels) (blocks-all (blocks_of h.region) places)))) in
    ap (λ is. reply_alone (home_of h) (BlockList is)) (list-items h.region h.labels ∙ sym all)
