use Rattle.vc_base.proofs.Common.{◌≡◌, true, is_some, sym, ap, ◌∙◌, subst}
use Rattle.vc_region.specs.Cells.{rest_in}
use Rattle.vc_region.specs.Region.{blocks_of}
use Rattle.vc_region.specs.declared.region.Region.TheVariants.{Best as OfBest}
use Rattle.vc_commands.specs.Tagged.{AreByTag, ArePlaces, have_own_tags, place_of_tag}
use Rattle.vc_commands.proofs.ByTag.{by-tag-named, by-tag-names}
use Rattle.vc_commands.proofs.Listing.{places_in}
use Rattle.vc_commands.proofs.region.tagged.labels_by_tag.Given.{Over}
use Rattle.vc_commands.proofs.region.tagged.labels_by_tag.Goals as goal
use Rattle.vc_commands.proofs.region.tagged.labels_by_tag.Goals.{After-empty_holes}

own : (g : Over) (c : After-empty_holes g) → have_own_tags (blocks_of (rest_in (OfBest c.args.best.now))) ≡ true
own g c = sym c.in_ok-places.ensures.own ∙ ap (λ o. is_some o) c.in-Some.is

stand : (g : Over) (c : After-empty_holes g) → ArePlaces (blocks_of (rest_in (OfBest c.args.best.now))) c.in-Some.places.items
stand g c = rw c.in-Some.is at c.in_ok-places.ensures.places

named : (g : Over) (c : After-empty_holes g) → AreByTag (place_of_tag c.in-Some.places.items) c.empty_holes.new.labels
named g c = subst (λ ps. AreByTag (place_of_tag ps) c.empty_holes.new.labels) c.deref-2.ensures.value c.empty_holes.ensures

pub returns-clause-named : goal.returns-clause-named
returns-clause-named g c =
    let r = OfBest c.args.best.now in
    let k = (goal.at.returns-clause-named g c).After-empty_holes in
    by-tag-named (rest_in r) c.in-Some.places.items c.empty_holes.new.labels (places_in r) (own g k) (stand g k) (named g k)

pub returns-clause-names : goal.returns-clause-names
returns-clause-names g c =
    let r = OfBest c.args.best.now in
    let k = (goal.at.returns-clause-names g c).After-empty_holes in
    by-tag-names (rest_in r) c.in-Some.places.items c.empty_holes.new.labels (places_in r) (own g k) (stand g k) (named g k)
