use Rattle.vc_base.proofs.Common.{◌≡◌, true, false, sym, refl, ◌∙◌, subst, inl, inr, place_of, rules}
use Rattle.vc_region.specs.Cells.{rest_in}
use Rattle.vc_region.specs.Parts.{region_of}
use Rattle.vc_region.specs.Region.{blocks_of}
use Rattle.vc_region.specs.declared.region.Region.TheVariants.{Best as OfBest}
use Rattle.vc_region.proofs.RestFound.{rest-label}
use Rattle.vc_commands.proofs.Listing.{fewer-above, next_in, none-above, places_in}
use Rattle.vc_commands.proofs.OwnTags.{NextTagged, Walked, all-own, all-walked, next-tagged, none-walked, not-own, one-walked}
use Rattle.vc_commands.proofs.region.tagged.places_by_tag.Given.{Over}
use Rattle.vc_commands.proofs.region.tagged.places_by_tag.Goals as goal
use Rattle.vc_commands.proofs.region.tagged.places_by_tag.Goals.{After-tag}

-- the block that is next
next : (g : Over) (c : After-tag g) → NextTagged (blocks_of (rest_in (OfBest c.args.best.now))) c.loop-block.after.0 c.in-Some.block.0 c.tag.result
next g c =
    let r = OfBest c.args.best.now in
    next-tagged (blocks_of (rest_in r)) c.loop-block.after.0 c.in-Some.block.0 c.tag.result (places_in r) (next_in r c.loop-block.after.0 _ c.in-Some.ensures.value)
    (rest-label (region_of r) (place_of c.in-Some.block.0) ∙ c.tag.ensures)

pub loop-block-init : goal.loop-block-init
loop-block-init g c =
    let r = OfBest c.args.best.now in
    record {
      walked = subst (λ ps. Walked (blocks_of (rest_in r)) 0 ps) (sym c.new-places.ensures.items) (none-walked (blocks_of (rest_in r)) (places_in r));
      from = inl refl;
    }

pub returns-then-not-branch-clause-own : goal.returns-then-not-branch-clause-own
returns-then-not-branch-clause-own g c =
    let r = OfBest c.args.best.now in
    let taken : c.in_ok-put_place.field-0 ≡ false = search rules in
    sym (not-own (blocks_of (rest_in r)) c.loop-block.after.0 c.in-Some.block.0 c.tag.result (next g (goal.at.returns-then-not-branch-clause-own g c).After-tag) c.loop-block.places.items c.loop-block.invariant.walked (sym c.in_ok-put_place.ensures.vacant ∙ taken))

pub loop-block-smaller : goal.loop-block-smaller
loop-block-smaller g c =
    let r = OfBest c.args.best.now in
    fewer-above (blocks_of (rest_in r)) c.loop-block.after.0 c.in-Some.block.0 (places_in r) (next_in r c.loop-block.after.0 _ c.in-Some.ensures.value)

pub loop-block-preserved : goal.loop-block-preserved
loop-block-preserved g c =
    let r = OfBest c.args.best.now in
    let put : c.in_ok-put_place.field-0 ≡ true = search rules in
    let e = c.in_ok-put_place.ensures in
    record {
      walked = one-walked (blocks_of (rest_in r)) c.loop-block.after.0 c.in-Some.block.0 c.tag.result (next g (goal.at.loop-block-preserved g c).After-tag) c.in-Some.block c.loop-block.places.items c.put_place.new.places.items refl c.loop-block.invariant.walked (sym e.vacant ∙ put) e.most (e.puts put);
      from = inr c.in-Some.ensures.live;
    }

pub returns-clause-own : goal.returns-clause-own
returns-clause-own g c =
    let r = OfBest c.args.best.now in
    sym (all-own (blocks_of (rest_in r)) c.loop-block.after.0 c.loop-block.places.items c.loop-block.invariant.walked (none-above (blocks_of (rest_in r)) c.loop-block.after.0 (places_in r) (next_in r c.loop-block.after.0 _ c.in_default.ensures.value)) (places_in r))

pub returns-clause-places : goal.returns-clause-places
returns-clause-places g c =
    let r = OfBest c.args.best.now in
    all-walked (blocks_of (rest_in r)) c.loop-block.after.0 c.loop-block.places.items c.loop-block.invariant.walked (none-above (blocks_of (rest_in r)) c.loop-block.after.0 (places_in r) (next_in r c.loop-block.after.0 _ c.in_default.ensures.value))
