-- What is loaded from an image is what was saved, and can be saved again.
use Rattle.vc_base.proofs.Common.{◌≡◌, ℕ, Bool, true, false, ◌==◌, if◌then◌else◌, List, [], ◌∷◌, Some, None, Option, map, option_map, sym, refl, ap, ap₂, ◌∙◌, subst, same_Some, eqb-true, AllByRecursion}
use Rattle.std.proofs.lemmas.Option.{get_or_from_slice_get, slice_get_within}
use Rattle.vc_model.specs.Discipline.{Terms}
use Rattle.vc_base.specs.declared.dict_method.DictMethod.{DictMethod}
use Rattle.vc_base.specs.declared.dict_method.DictMethod.TheVariants.{DtSet, DtBag, DtOset, DtObag, DtList, DtStack, DtQueue}
use Rattle.vc_base.specs.Cells.{Blocks}
use Rattle.vc_base.specs.Methods.{method_number}
use Rattle.vc_seg.specs.Segment.{Bytes}
use Rattle.vc_dtdisc.specs.Rules.{AreLawful, Rules}
use Rattle.vc_dict.specs.declared.dict.Dict.{Dict}
use Rattle.vc_dict.specs.declared.heads.Heads.{Heads}
use Rattle.vc_best.specs.Cells.{cells_in}
use Rattle.vc_best.specs.declared.best.Best.{Best}
use Rattle.vc_objects.specs.Parts.{IsWhole}
use Rattle.vc_region.specs.OfBest.{best_in}
use Rattle.vc_region.specs.declared.region.Region.{Region}
use Rattle.vc_region.specs.declared.region.Region.TheVariants.{Best as OfBest, Pool, Last, Debug, Profile}
use Rattle.vc_image_check.specs.Bytes.Contents.{contents_of_image, rows_of_image}
use Rattle.vc_image_check.specs.Bytes.Image.{DictRow, ImageContents, image_of}
use Rattle.vc_image_check.specs.Blocks.Blocks.{image_blocks}
use Rattle.vc_image_check.specs.Segments.Sound.{IsSoundSegment}
use Rattle.vc_image_check.specs.Dicts.Sound.{IsSoundRow, heads_of, numbered_method}
use Rattle.vc_image_check.specs.Dicts.Whole.{IsFirstUnsoundPart, IsSoundImage}
use Rattle.vc_image_check.proofs.Told.{heads-back}
use Rattle.vc_image_check.specs.declared.parts.part.Part.{Part}
use Rattle.vc_image_check.specs.declared.parts.part.Part.TheVariants.{Header, Segment, Tree, Dictionary, Rest}
use Rattle.vc_image.specs.Load.{IsLoaded, IsWholeAmong, dict_of_row}
use Rattle.vc_image.specs.Save.{dict_row, image_contents, image_in}
use Rattle.vc_image.proofs.Loads.{made-by}
use Rattle.vc_image.specs.Saved.Saved.{AreSame, AreSavable, AreSavableIn, IsWholeBy}
use Rattle.vc_image.proofs.Joined.{dicts-in, read-in, readable-in, rows-read}
use Rattle.vc_image.proofs.LoadedAgain.{each-at, savable-in}

-- a sound image has no unsound part
pub never-unsound : (kinds : List Rules) (image : List ℕ) (part : Part) → IsSoundImage kinds image → IsFirstUnsoundPart kinds image part → ⊥
never-unsound kinds image Header s h = h s.front.head
never-unsound kinds image (Segment n) s h =
    let u = h.1 in
    let segs = (contents_of_image image).segs in
    u.unsound
    (subst (λ (z : Bytes). IsSoundSegment z.bytes) (get_or_from_slice_get segs u.place u.segment u.segment u.there)
    (s.front.segments u.place u.segment (slice_get_within segs u.place u.segment u.there)))
never-unsound kinds image Tree s h = h.tree s.front.tree
never-unsound kinds image (Dictionary n) s h =
    let u = h.1 in
    u.unsound (s.dicts n u.row (slice_get_within (rows_of_image image) n u.row u.there) u.there)
never-unsound kinds image Rest s h = h.rest s.rest

module _ {I J : Type 0} {V : I → Type 0} {W : J → Type 0} (kinds : List Rules) (terms : Terms) (dicts : List Dict) (new : Region J W) (news : List Dict) where
  same-of : (b : Best I V) → AreSavable kinds (cells_in b) dicts → IsLoaded kinds terms (image_of (image_contents b dicts)) new news → AreSame (OfBest b) dicts new news
  same-of b s h =
      let c : ImageContents = image_contents b dicts in
      let can = readable-in kinds (OfBest b) dicts s in
      let again : contents_of_image (image_of c) ≡ c = read-in kinds (OfBest b) dicts can in
      record {
        segments = ap (λ (r : Region J W). option_map (λ (x : Best J W). x.extents.segs.items) (best_in r)) h.of_best ∙ ap Some h.segments ∙ ap (λ (z : ImageContents). Some z.segs) again;
        root = ap (λ (r : Region J W). option_map (λ (x : Best J W). x.root.0) (best_in r)) h.of_best ∙ ap Some h.root ∙ ap (λ (z : ImageContents). Some z.root) again;
        dicts = h.numbers ∙ dicts-in kinds (OfBest b) dicts can;
      }

  pub same-in : (old : Region I V) → AreSavableIn kinds old dicts → IsLoaded kinds terms (image_in old dicts) new news → AreSame old dicts new news
  same-in (OfBest b) s h = same-of b s h
  same-in (Pool p) s h = absurd s
  same-in (Last l) s h = absurd s
  same-in (Debug d) s h = absurd s
  same-in (Profile p) s h = absurd s

-- the number of a method is the one that it was found by
found-by : (n k : ℕ) (m x : DictMethod) (rest : Option DictMethod) → method_number x ≡ k → (if n == k then Some x else rest) ≡ Some m → (rest ≡ Some m → method_number m ≡ n) → method_number m ≡ n
found-by n k m x rest number h more = by (n == k) refl
  where
    by : (t : Bool) → (n == k) ≡ t → method_number m ≡ n
    by true t =
        let q : Some x ≡ Some m = rw t at h in
        sym (ap method_number (same_Some x m q)) ∙ number ∙ sym (eqb-true n k t)
    by false t = let q : rest ≡ Some m = rw t at h in more q

number-back : (n : ℕ) (m : DictMethod) → numbered_method n ≡ Some m → method_number m ≡ n
number-back n m h =
    found-by n 0 m DtSet _ refl h (λ h. found-by n 1 m DtBag _ refl h (λ h. found-by n 2 m DtOset _ refl h (λ h. found-by n 3 m DtObag _ refl h
    (λ h. found-by n 4 m DtList _ refl h (λ h. found-by n 5 m DtStack _ refl h (λ h. found-by n 6 m DtQueue None refl h (λ h. absurd (none-not m h))))))))
  where
    none-not : (m : DictMethod) → None ≡ Some m → ⊥
    none-not m h = cc

module _ (kinds : List Rules) (b : Blocks) where
  row-back : (r : DictRow) → IsSoundRow kinds b r → dict_row (dict_of_row r) ≡ r
  row-back r s =
      let number = number-back r.method s.method s.numbered in
      let heads = heads-back s.method r.count (heads_of r) s.by.others in
      ap dict_row (made-by r s.method s.numbered)
      ∙ ap
      (λ (z : ℕ × Heads). record {
        method = z.0;
        kind = r.kind;
        count = r.count;
        current = r.current;
        first = z.1.first.0;
        last = z.1.last.0;
        table = z.1.table.0;
        slots = z.1.slots;
        root = z.1.root.0;
      })
      (λ i. (number i, heads i))

  rows-back : (rows : List DictRow) → AllByRecursion (IsSoundRow kinds b) rows → map dict_row (map dict_of_row rows) ≡ rows
  rows-back [] all = refl
  rows-back (r ∷ rows) all = ap₂ (λ (x : DictRow) (xs : List DictRow). x ∷ xs) (row-back r all.0) (rows-back rows all.1)

  each-whole : (ds : List Dict) → AllByRecursion (IsWholeAmong kinds b) ds → AllByRecursion (IsWholeBy kinds b) ds
  each-whole [] all = tt
  each-whole (d ∷ ds) all =
      let w = all.0 in
      (λ rules e. subst (λ (z : Rules). IsWhole z d b) (same_Some w.rules rules (sym w.kind ∙ e)) w.whole, each-whole ds all.1)

pub savable-loaded : {I : Type 0} {V : I → Type 0} (kinds : List Rules) (terms : Terms) (image : List ℕ) (region : Region I V) (dicts : List Dict) → AllByRecursion AreLawful kinds → IsLoaded kinds terms image region dicts → AreSavableIn kinds region dicts
savable-loaded {I} {V} kinds terms image region dicts lawful h =
    let rows = rows_of_image image in
    let each = each-at (IsSoundRow kinds (image_blocks image)) rows (λ k r e. (h.sound.dicts k r (slice_get_within rows k r e) e).row) in
    subst (λ (r : Region I V). AreSavableIn kinds r dicts) (sym h.of_best)
    (savable-in kinds image (OfBest h.best) dicts lawful h.sound
    (record {
      segments = ap Some h.segments;
      rows = ap (map dict_row) h.numbers ∙ rows-back kinds (image_blocks image) rows each ∙ rows-read image (contents_of_image image) refl;
      numbers = h.kinds_fit;
      whole = each-whole kinds (cells_in h.best) dicts h.each;
    }))
