-- Dictionaries that are loaded from an image may get objects.
use Rattle.vc_base.proofs.Common.{ℕ, List, [], ◌∷◌, ◌++◌, map, sym, refl, ap, ◌∙◌, subst, AllByRecursion, Blocks, Discipline, Terms}
use Rattle.vc_seg.specs.Segment.{pair_of}
use Rattle.vc_dtdisc.specs.Rules.{Rules}
use Rattle.vc_dict.specs.declared.dict.Dict.{Dict}
use Rattle.vc_best.proofs.Lends.{segments-by}
use Rattle.vc_best.specs.Cells.{cells_in}
use Rattle.vc_region.specs.Parts.{disc_in}
use Rattle.vc_region.specs.declared.region.Region.{Region}
use Rattle.vc_image.specs.Lends.Lends.{AreLent}
use Rattle.vc_image.specs.Load.{AllShareNone, IsLoaded, IsWholeAmong, pairs_of}
use Rattle.vc_algebra.specs.Filling.{CanFillIn, IsReadyToFill}
use Rattle.vc_algebra.specs.InRegion.{AreDictsIn, held}
use Rattle.vc_algebra.proofs.FillLemmas.{whole-settled}

module _ (kinds : List Rules) (cells : Blocks) where
  dicts-in : (ds : List Dict) → AllByRecursion (IsWholeAmong kinds cells) ds → AllShareNone cells ds → AreDictsIn kinds cells ds
  dicts-in [] each apart = tt
  dicts-in (d ∷ ds) each apart = (
    record {
      rules = each.0.rules;
      kind = each.0.kind;
      stands = each.0.whole.stands;
      objects = each.0.whole.objects;
    },
    apart.0,
    dicts-in ds each.1 apart.1,
  )

  settled-in : (ds : List Dict) → AllByRecursion (IsWholeAmong kinds cells) ds → AllByRecursion (λ h. IsReadyToFill h.dict) (map (held cells) ds)
  settled-in [] each = tt
  settled-in (d ∷ ds) each = (whole-settled each.0.rules d cells each.0.whole, settled-in ds each.1)

-- the region has the image's segments, which are the last that were lent
pub loaded-fills : {I : Type 0} {V : I → Type 0} (meaning : (x : I) × V x → Discipline) (kinds : List Rules) (terms : Terms) (image : List ℕ) (old : Discipline) (r : Region I V) (ds : List Dict)
    → IsLoaded kinds terms image r ds → AreLent old (disc_in meaning r) (pairs_of image) → CanFillIn meaning kinds r ds
loaded-fills meaning kinds terms image old r ds is lent =
    let b = is.best in
    let out = subst (λ q. AreLent old (disc_in meaning q) (pairs_of image)) is.of_best lent in
    let segments = segments-by b.extents.segs.items ∙ ap (map pair_of) is.segments in
    subst (λ q. CanFillIn meaning kinds q ds) (sym is.of_best) (record {
      best = refl;
      dicts = dicts-in kinds (cells_in b) ds is.each is.apart;
      settled = settled-in kinds (cells_in b) ds is.each;
      lent = (old.out, out.out ∙ ap (λ ps. old.out ++ ps) (sym segments));
    })
