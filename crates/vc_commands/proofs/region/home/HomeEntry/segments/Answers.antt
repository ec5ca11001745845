use Rattle.vc_base.proofs.Common.{◌≡◌, [], ◌∷◌, ◌++◌, length, sym, ap, ◌∙◌, append_assoc, append-nil, arith, Discipline}
use Rattle.vc_region.proofs.Relabel.{segments-relabelled}
use Rattle.vc_model.specs.Walk.{by_number}
use Rattle.vc_region.proofs.Sound.{own_numbers}
use Rattle.vc_region.specs.Cells.{rest_in}
use Rattle.vc_region.specs.Parts.{region_of, segments_in}
use Rattle.vc_region.proofs.Rest.{rest-segments}
use Rattle.vc_script.specs.declared.reply.Reply.TheVariants.{SegmentList}
use Rattle.vc_commands.specs.Labels.{name_of_tag}
use Rattle.vc_commands.specs.Home.{reply_alone}
use Rattle.vc_commands.proofs.Listing.{segments-all, segments-end, segments-next, segments_above}
use Rattle.vc_commands.specs.Held.{home_of}
use Rattle.vc_commands.specs.RegionRun.{held_of}
use Rattle.vc_commands.proofs.region.home.HomeEntry.segments.Given as given
use Rattle.vc_commands.proofs.region.home.HomeEntry.segments.Goals as goal

abbrev meaning : (g : given.Over) → (x : g.dyn-1.0.I) × (g.dyn-1.0.entry x).0.Denot → Discipline
meaning g p = (g.dyn-1.0.entry p.0).1.state p.1

pub loop-segment-smaller : goal.loop-segment-smaller
loop-segment-smaller g c =
    let e = ap length (segments-next c.loop-segment.after (segments_in c.args.self.now.region) c.in-Some.segment (own_numbers c.args.self.now.region) (sym c.in-Some.ensures)) in
    omega (arith, e)

pub loop-segment-preserved : goal.loop-segment-preserved
loop-segment-preserved g c =
    let ss = segments_in c.args.self.now.region in
    let rest = segments_above c.in-Some.segment.0 ss in
    ap (λ is. is ++ rest) c.in_ok-push.ensures.items
    ∙ (append_assoc c.loop-segment.items.items (c.in-Some.segment ∷ []) rest
    ∙ (ap (λ is. c.loop-segment.items.items ++ is) (sym (segments-next c.loop-segment.after ss c.in-Some.segment (own_numbers c.args.self.now.region) (sym c.in-Some.ensures)))
    ∙ c.loop-segment.invariant))

pub returns : goal.returns
returns g c = λ labels r.
    let ss = segments_in c.args.self.now.region in
    let numbers = own_numbers c.args.self.now.region in
    let all : c.from_vec.result ≡ by_number ss =
    c.from_vec.ensures
    ∙ (sym (append-nil c.loop-segment.items.items)
    ∙ (ap (λ is. c.loop-segment.items.items ++ is) (sym (segments-end c.loop-segment.after ss numbers (sym c.in_default.ensures)))
    ∙ (c.loop-segment.invariant
    ∙ segments-all ss numbers))) in
    ap (λ is. reply_alone (home_of (held_of (meaning g) r c.args.self.now labels)) (SegmentList is)) (ap by_number (segments-relabelled (name_of_tag labels) (rest_in c.args.self.now.region) ∙ rest-segments (region_of c.args.self.now.region)) ∙ sym all)
