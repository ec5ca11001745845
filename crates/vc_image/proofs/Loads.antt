-- What a sound image gives.
use Rattle.vc_base.proofs.Common.{◌≡◌, ℕ, zero, suc, ◌<◌, ◌^◌, Bool, true, false, List, [], ◌∷◌, Some, None, Option, map, length, take, contains, option_map, unwrap_or, slice_get, sym, refl, ap, ◌∙◌, subst, arith, true≢false, same_Some, AllByRecursion}
use Rattle.std.proofs.lemmas.Option.{slice_get_within}
use Rattle.vc_model.specs.Discipline.{Discipline, Terms}
use Rattle.vc_base.specs.declared.dict_method.DictMethod.{DictMethod}
use Rattle.vc_base.specs.declared.dict_method.DictMethod.TheVariants.{DtList}
use Rattle.vc_base.specs.Cells.{Blocks}
use Rattle.vc_base.proofs.Members.{within-front, within-rest}
use Rattle.vc_seg.specs.Segment.{Bytes}
use Rattle.vc_dtdisc.specs.Rules.{Rules}
use Rattle.vc_dict.specs.declared.dict.Dict.{Dict}
use Rattle.vc_dict.specs.Parts.{dict_by}
use Rattle.vc_best.specs.Blocks.{layout_by}
use Rattle.vc_best.specs.Cells.{cells_of}
use Rattle.vc_best.specs.declared.best.Best.{Best}
use Rattle.vc_objects.specs.Parts.{IsWhole}
use Rattle.vc_region.specs.declared.region.Region.{Region}
use Rattle.vc_region.specs.declared.region.Region.TheVariants.{Best as OfBest}
use Rattle.vc_image_check.specs.Bytes.Contents.{contents_of_image, rows_of_image}
use Rattle.vc_image_check.specs.Bytes.Image.{DictRow}
use Rattle.vc_image_check.specs.Blocks.Blocks.{image_blocks}
use Rattle.vc_image_check.specs.Dicts.Sound.{IsSoundDict, IsSoundRow, heads_of, numbered_method, own_in, own_of}
use Rattle.vc_image_check.specs.Dicts.Taken.{AreSoundBefore, taken_by}
use Rattle.vc_image_check.specs.Dicts.Whole.{IsSoundImage}
use Rattle.vc_image_check.proofs.Told.{own-told}
use Rattle.vc_image_check.proofs.Wholes.{sound-whole}
use Rattle.vc_image.specs.Lends.Regions.{IsLoadFault}
use Rattle.vc_image.specs.Lends.Terms.{terms_fault}
use Rattle.vc_image.specs.declared.lends.fault.ImageLendFault.{ImageLendFault}
use Rattle.vc_image.specs.declared.lends.fault.ImageLendFault.TheVariants.{Round, Grows, NoSegment, OutOfMemory}
use Rattle.vc_image.specs.Load.{AllShareNone, IsLoaded, IsNotLoaded, IsWholeAmong, ShareNone, dict_of_row, dicts_of, load_fault_of, own_by, pairs_of}

pub apart-turned : (x y : Bool) → (x ≡ true → y ≡ false) → y ≡ true → x ≡ false
apart-turned true y f h = absurd (true≢false (sym h ∙ f refl))
apart-turned false y f h = refl

-- the blocks of one were taken by the first so many that it is among
pub in-taken : (b : Blocks) (rows : List DictRow) (i j : ℕ) (r : DictRow) (a : ℕ) → i < j → slice_get rows i ≡ Some r → contains (own_of b r) a ≡ true → contains (taken_by b (take j rows)) a ≡ true
in-taken b [] i j r a lt e w = let q : None ≡ Some r = e in absurd (cc)
in-taken b (x ∷ xs) i zero r a lt e w = absurd (omega (arith, lt))
in-taken b (x ∷ xs) zero (suc j) r a lt e w =
    within-front (own_of b x) (taken_by b (take j xs)) a (subst (λ (z : DictRow). contains (own_of b z) a ≡ true) (sym (same_Some x r e)) w)
in-taken b (x ∷ xs) (suc i) (suc j) r a lt e w =
    within-rest (own_of b x) (taken_by b (take j xs)) a (in-taken b xs i j r a (omega (arith, lt)) e w)

-- what holds of what is made of each holds of all that are made
each-made : {A B : Type 0} (f : A → B) (P : B → Type 0) (xs : List A) → ((k : ℕ) (x : A) → slice_get xs k ≡ Some x → P (f x)) → AllByRecursion P (map f xs)
each-made f P [] h = tt
each-made f P (x ∷ xs) h = (h 0 x refl, each-made f P xs (λ k y e. h (suc k) y e))

apart-made : (b : Blocks) (rows : List DictRow) → ((i j : ℕ) (r s : DictRow) → i < j → slice_get rows i ≡ Some r → slice_get rows j ≡ Some s → ShareNone b (dict_of_row r) (dict_of_row s)) → AllShareNone b (map dict_of_row rows)
apart-made b [] h = tt
apart-made b (r ∷ rows) h = (
  each-made dict_of_row (ShareNone b (dict_of_row r)) rows (λ k s e. h 0 (suc k) r s (omega arith) refl e),
  apart-made b rows (λ i j x y lt p q. h (suc i) (suc j) x y (omega (arith, lt)) p q),
)

-- what is made of numbers whose first is that of a method
pub made-by : (r : DictRow) (m : DictMethod) → numbered_method r.method ≡ Some m → dict_of_row r ≡ dict_by m r.kind r.count (record { 0 = r.current }) (heads_of r)
made-by r m e = ap (λ (o : Option DictMethod). dict_by (unwrap_or o DtList) r.kind r.count (record { 0 = r.current }) (heads_of r)) e

module _ (kinds : List Rules) (b : Blocks) where
  whole-made : (r : DictRow) → IsSoundRow kinds b r → IsWholeAmong kinds b (dict_of_row r)
  whole-made r s = record {
    rules = s.rules;
    kind = s.kind;
    whole = subst (λ (d : Dict). IsWhole s.rules d b) (sym (made-by r s.method s.numbered)) (sound-whole s.rules b s.method r.kind r.count (record { 0 = r.current }) (heads_of r) s.by);
  }

  own-made : (r : DictRow) (a : ℕ) → IsSoundRow kinds b r → contains (own_by b (dict_of_row r)) a ≡ contains (own_of b r) a
  own-made r a s =
      ap (λ (d : Dict). contains (own_by b d) a) (made-by r s.method s.numbered)
      ∙ own-told s.method s.rules b r.kind r.count (record { 0 = r.current }) (heads_of r) s.by.holders a
      ∙ ap (λ (o : Option DictMethod). contains (unwrap_or (option_map (λ (m : DictMethod). own_in m b r.count (heads_of r)) o) []) a) (sym s.numbered)

  module _ (rows : List DictRow) (sound : AreSoundBefore kinds b rows (length rows)) where
    sound-at : (k : ℕ) (r : DictRow) → slice_get rows k ≡ Some r → IsSoundDict kinds b (taken_by b (take k rows)) r
    sound-at k r e = sound k r (slice_get_within rows k r e) e

    all-whole : AllByRecursion (IsWholeAmong kinds b) (map dict_of_row rows)
    all-whole = each-made dict_of_row (IsWholeAmong kinds b) rows (λ k r e. whole-made r (sound-at k r e).row)

    all-apart : AllShareNone b (map dict_of_row rows)
    all-apart = apart-made b rows (λ i j r s lt ri sj a w. apart-turned (contains (own_by b (dict_of_row s)) a) (contains (own_by b (dict_of_row r)) a)
        (λ there.
        let mine = own-made r a (sound-at i r ri).row in
        let other = sound-at j s sj in
        let taken = other.apart a (sym (own-made s a other.row) ∙ there) in
        absurd (true≢false (sym (in-taken b rows i j r a lt ri (sym mine ∙ w)) ∙ taken))) w)

module _ {I : Type 0} {V : I → Type 0} (kinds : List Rules) (terms : Terms) (image : List ℕ) (region : Region I V) (best : Best I V) (dicts : List Dict) where
  pub loaded-of : IsSoundImage kinds image → terms_fault terms (pairs_of image) ≡ None → region ≡ OfBest best → best.extents.segs.items ≡ (contents_of_image image).segs → best.root.0 ≡ (contents_of_image image).root → dicts ≡ dicts_of image → AllByRecursion (λ d. d.kind < 2 ^ 32) dicts → IsLoaded kinds terms image region dicts
  loaded-of sound allowed of_best segments root numbers fit =
      let same : image_blocks image ≡ cells_of (layout_by best.extents.segs.items).blocks = ap (λ (z : List Bytes). cells_of (layout_by z).blocks) (sym segments) in
      let back : dicts_of image ≡ dicts = sym numbers in
      record {
        sound = sound;
        allowed = allowed;
        best = best;
        of_best = of_best;
        segments = segments;
        root = root;
        numbers = numbers;
        kinds_fit = fit;
        each = subst (λ (z : Blocks × List Dict). AllByRecursion (IsWholeAmong kinds z.0) z.1) (λ i. (same i, back i)) (all-whole kinds (image_blocks image) (rows_of_image image) sound.dicts);
        apart = subst (λ (z : Blocks × List Dict). AllShareNone z.0 z.1) (λ i. (same i, back i)) (all-apart kinds (image_blocks image) (rows_of_image image) sound.dicts);
      }

-- a sound image isn't loaded for a fault of the terms or of the lends
pub not-loaded : (kinds : List Rules) (image : List ℕ) (old new : Discipline) (fault : ImageLendFault) → IsSoundImage kinds image → IsLoadFault old new (pairs_of image) fault → IsNotLoaded kinds image old new (load_fault_of fault)
not-loaded kinds image old new (Round number) sound h = record { sound = sound; cause = h }
not-loaded kinds image old new Grows sound h = record { sound = sound; cause = h }
not-loaded kinds image old new (NoSegment number) sound h = record { sound = sound; cause = h }
not-loaded kinds image old new OutOfMemory sound h = tt
