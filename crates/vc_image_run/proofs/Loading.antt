-- What is loaded, and what isn't named.
use Rattle.vc_base.proofs.Common.{◌≡◌, ℕ, ◌≤◌, List, [], ◌++◌, map, length, sym, ap, ◌∙◌, subst, append-nil, arith, length-map, Discipline, HasOut, TookBack}
use Rattle.vc_best.specs.Blocks.{layout_by}
use Rattle.vc_best.specs.Cells.{zeroed_layout}
use Rattle.vc_best.specs.declared.best.Best.{Best}
use Rattle.vc_dict.specs.declared.dict.Dict.{Dict}
use Rattle.vc_dtdisc.specs.Rules.{Rules}
use Rattle.vc_image.specs.Load.{IsLoaded, dict_of_row, pairs_of}
use Rattle.vc_image.specs.declared.fault.LoadFault.TheVariants.{Bad, Round, Grows, NoSegment, OutOfMemory}
use Rattle.vc_image_check.proofs.Passing.{length-rows}
use Rattle.vc_image_check.specs.Bytes.Contents.{contents_of_image, image_dict_count, rows_of_image}
use Rattle.vc_image.specs.Lends.Lends.{AreLent}
use Rattle.vc_image_run.specs.Session.Opens.{HasNoParts, IsUnnamed, has_own_tags}
use Rattle.vc_commands.specs.Tagged.{have_own_tags}
use Rattle.vc_image_run.specs.declared.session.fault.OpenFault.{OpenFault}
use Rattle.vc_image_run.specs.declared.session.fault.OpenFault.TheVariants.{NoDiscipline, Load, Tags}
use Rattle.vc_model.specs.Discipline.{Terms}
use Rattle.vc_region.specs.Cells.{rest_in}
use Rattle.vc_region.specs.Region.{blocks_of}
use Rattle.vc_region.specs.declared.region.Region.{Region}
use Rattle.vc_region.specs.declared.region.Region.TheVariants.{Best as OfBest}
use Rattle.vc_seg.specs.Segment.{Bytes, pair_of}

module _ {I : Type 0} {V : I → Type 0} (kinds : List Rules) (terms : Terms) (image : List ℕ) (best : Best I V) (ds : List Dict) (loaded : IsLoaded kinds terms image (OfBest best) ds) where
  -- its segments are those of the image
  best-or : Region I V → Best I V
  best-or (OfBest b) = b
  best-or other = best

  pub same-best : loaded.best ≡ best
  unfolding best-or
  same-best = ap best-or (sym loaded.of_best)

  pub segs-are : best.extents.segs.items ≡ (contents_of_image image).segs
  segs-are = subst (λ (b : Best I V). b.extents.segs.items ≡ (contents_of_image image).segs) same-best loaded.segments

  -- there are no more dictionaries than an image has
  pub few-dicts : length ds ≤ 256
  few-dicts =
      let same : length ds ≡ image_dict_count image =
      ap (λ (xs : List Dict). length xs) loaded.numbers
      ∙ (length-map (rows_of_image image) dict_of_row ∙ length-rows image) in
      omega (arith, same, loaded.sound.front.head.dicts)

  -- its segments are the last that were lent
  pub has-out : (d e : Discipline) → AreLent d e (pairs_of image) → HasOut e (layout_by best.extents.segs.items).segments
  unfolding layout_by
  has-out d e lent = (d.out, lent.out ∙ ap (λ (segs : List Bytes). d.out ++ map pair_of segs) (sym segs-are))

  -- and nothing is out that wasn't once it is closed
  pub out-again : (d e f : Discipline) → AreLent d e (pairs_of image) → TookBack e f (layout_by best.extents.segs.items).segments [] → f.out ≡ d.out
  unfolding layout_by has-out
  out-again d e f lent back = back.out d.out (has-out d e lent).1 ∙ append-nil d.out

  -- and its tags
  pub tags-are : has_own_tags image ≡ have_own_tags (blocks_of (rest_in (OfBest best)))
  tags-are = ap (λ (segs : List Bytes). have_own_tags (zeroed_layout (layout_by segs)).blocks) (sym segs-are)

  -- why it has no parts
  pub no-parts : (old new : Discipline) (why : OpenFault) → HasNoParts best why → IsUnnamed kinds image old new why
  no-parts old new NoDiscipline none = absurd none
  no-parts old new (Load (Bad part)) none = absurd none
  no-parts old new (Load (Round number)) none = absurd none
  no-parts old new (Load Grows) none = absurd none
  no-parts old new (Load (NoSegment number)) none = absurd none
  no-parts old new (Load OutOfMemory) none = tt
  no-parts old new Tags none = (loaded.sound, tags-are ∙ none)
