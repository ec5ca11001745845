-- What a sound image holds can be saved.
use Rattle.vc_base.proofs.Common.{◌≡◌, ℕ, zero, suc, ◌-◌, ◌<◌, ◌^◌, Bool, true, false, ◌==◌, List, [], ◌∷◌, Some, None, Option, IsSome, map, length, take, contains, option_map, slice_get, sym, refl, ap, ◌∙◌, subst, arith, true≢false, same_Some, none-some, slice_get-map, lt-ltb, length-map, AllByRecursion, Block, place_of, find_block, at_number}
use Rattle.vc_base.specs.declared.dict_method.DictMethod.{DictMethod}
use Rattle.vc_base.specs.Cells.{Blocks}
use Rattle.vc_dtdisc.specs.Rules.{AreLawful, Rules}
use Rattle.vc_seg.specs.Segment.{Bytes}
use Rattle.vc_extent.specs.Tiling.{IsBusy, extent_of, tiling}
use Rattle.vc_dict.specs.declared.dict.Dict.{Dict}
use Rattle.vc_dict.specs.Parts.{heads_in}
use Rattle.vc_best.specs.Blocks.{block_of, layout_by}
use Rattle.vc_best.specs.Cells.{cell_bytes, cells_of}
use Rattle.vc_best.proofs.Found.{found-of}
use Rattle.vc_region.specs.declared.region.Region.{Region}
use Rattle.vc_region.specs.declared.region.Region.TheVariants.{Best as OfBest, Pool, Last, Debug, Profile}
use Rattle.vc_image_check.specs.Bytes.Contents.{contents_of_image, rows_of_image}
use Rattle.vc_image_check.specs.Bytes.Image.{DictRow}
use Rattle.vc_image_check.specs.Blocks.Blocks.{image_blocks, is_cell}
use Rattle.vc_image_check.specs.Dicts.Alone.{AreAlone}
use Rattle.vc_image_check.specs.Dicts.Sound.{IsSoundBy, IsSoundDict, IsSoundRow}
use Rattle.vc_image_check.specs.Dicts.Taken.{AreSoundBefore, taken_by}
use Rattle.vc_image_check.specs.Dicts.Whole.{IsSoundImage}
use Rattle.vc_image_check.proofs.Passing.{length-rows}
use Rattle.vc_image_check.proofs.Told.{set-alone}
use Rattle.vc_image.specs.Load.{AllShareNone, ShareNone, own_by}
use Rattle.vc_image.specs.Save.{dict_row}
use Rattle.vc_image.proofs.Loads.{apart-turned, in-taken}
use Rattle.vc_image.specs.Saved.Saved.{AreOfImage, AreSavable, AreSavableIn, IsSavable, IsWholeBy}
use Rattle.vc_image.proofs.Begun.{AreOfBest, of-best}
use Rattle.vc_image.proofs.Joined.{at-place, cell-busy, numbered, own-same, rows-read, taken-same}
use Rattle.vc_image.proofs.Standing.{holders-back}

-- what holds at each place holds of all, and of each two
pub each-at : {A : Type 0} (P : A → Type 0) (xs : List A) → ((k : ℕ) (x : A) → slice_get xs k ≡ Some x → P x) → AllByRecursion P xs
each-at P [] f = tt
each-at P (x ∷ xs) f = (f 0 x refl, each-at P xs (λ k y e. f (suc k) y e))

apart-at : (b : Blocks) (ds : List Dict) → ((i j : ℕ) (d e : Dict) → i < j → slice_get ds i ≡ Some d → slice_get ds j ≡ Some e → ShareNone b d e) → AllShareNone b ds
apart-at b [] f = tt
apart-at b (d ∷ ds) f = (
  each-at (ShareNone b d) ds (λ k e h. f 0 (suc k) d e (omega arith) refl h),
  apart-at b ds (λ i j x y lt h k. f (suc i) (suc j) x y (omega (arith, lt)) h k),
)

-- the rules of a number are among some
lawful-at : (kinds : List Rules) (n : ℕ) (rules : Rules) → AllByRecursion AreLawful kinds → at_number kinds n ≡ Some rules → AreLawful rules
lawful-at kinds n rules all e = by (n == 0) refl
  where
    by : (t : Bool) → (n == 0) ≡ t → AreLawful rules
    by true t = let q : None ≡ Some rules = rw t at e in absurd (cc)
    by false t = at-place AreLawful kinds (n - 1) rules all (rw t at e)

module _ (kinds : List Rules) (b : Blocks) (lawful : AllByRecursion AreLawful kinds) where
  savable-by : (d : Dict) → d.kind < 2 ^ 32 → IsWholeBy kinds b d → IsSoundRow kinds b (dict_row d) → IsSavable kinds b d
  savable-by d number whole s =
      let w = whole s.rules s.kind in
      let ok = lawful-at kinds d.kind s.rules lawful s.kind in
      let same : s.method ≡ d.method = same_Some s.method d.method (sym s.numbered ∙ numbered d.method) in
      let is : IsSoundBy d.method s.rules b d.count d.current.0 (heads_in d) = subst (λ (m : DictMethod). IsSoundBy m s.rules b d.count d.current.0 (heads_in d)) same s.by in
      record {
        rules = s.rules;
        lawful = ok;
        number = number;
        kind = s.kind;
        whole = w;
        alone = λ set. subst (AreAlone s.rules b) (holders-back s.rules d b w) (set-alone d.method s.rules b d.count (heads_in d) ok set is.holders);
      }

  module _ (ds : List Dict) (sound : AreSoundBefore kinds b (map dict_row ds) (length (map dict_row ds))) (numbers : AllByRecursion (λ d. d.kind < 2 ^ 32) ds) (whole : AllByRecursion (IsWholeBy kinds b) ds) where
    row-at : (k : ℕ) (d : Dict) → slice_get ds k ≡ Some d → slice_get (map dict_row ds) k ≡ Some (dict_row d)
    row-at k d e = slice_get-map dict_row ds k ∙ ap (option_map dict_row) e

    sound-at : (k : ℕ) (d : Dict) → slice_get ds k ≡ Some d → IsSoundDict kinds b (taken_by b (take k (map dict_row ds))) (dict_row d)
    sound-at k d e = sound k (dict_row d) (within (map dict_row ds) k (dict_row d) (row-at k d e)) (row-at k d e)
      where
        within : (rows : List DictRow) (k : ℕ) (r : DictRow) → slice_get rows k ≡ Some r → k < length rows
        within [] k r e = let q : None ≡ Some r = e in absurd (cc)
        within (x ∷ xs) zero r e = omega arith
        within (x ∷ xs) (suc k) r e = let lt = within xs k r e in omega (arith, lt)

    savable-at : (k : ℕ) (d : Dict) → slice_get ds k ≡ Some d → IsSavable kinds b d
    savable-at k d e = savable-by d (at-place (λ (z : Dict). z.kind < 2 ^ 32) ds k d numbers e) (at-place (IsWholeBy kinds b) ds k d whole e) (sound-at k d e).row

    pub each-savable : AllByRecursion (IsSavable kinds b) ds
    each-savable = each-at (IsSavable kinds b) ds savable-at

    pub all-apart : AllShareNone b ds
    all-apart = apart-at b ds (λ i j d e lt di ej a w. apart-turned (contains (own_by b e) a) (contains (own_by b d) a)
        (λ there.
        let mine = own-same kinds b d a (savable-at i d di) in
        let taken = (sound-at j e ej).apart a (sym (own-same kinds b e a (savable-at j e ej)) ∙ there) in
        absurd (true≢false (sym (in-taken b (map dict_row ds) i j (dict_row d) a lt (row-at i d di) (sym mine ∙ w)) ∙ taken))) w)

module _ (segs : List Bytes) (index : List ℕ) (root : ℕ) (h : AreOfBest segs index root) where
  abbrev cells : Blocks
  cells = cells_of (layout_by segs).blocks

  some-cell : (a : ℕ) → IsSome (cells a) → is_cell (extent_of (tiling segs) a) ≡ true
  some-cell a some =
      let busy : IsBusy (tiling segs) a = cell-busy segs index root h a (find_block (place_of a) (layout_by segs).blocks) refl some in
      let found = found-of segs index a h.kept busy in
      by busy (subst (λ (o : Option (Block ℕ)). IsSome (cell_bytes o)) found some) ((extent_of (tiling segs) a).tag == 0) refl
    where
      by : IsBusy (tiling segs) a → IsSome (cell_bytes (Some (block_of (place_of a).0 (extent_of (tiling segs) a)))) → (t : Bool) → ((extent_of (tiling segs) a).tag == 0) ≡ t → is_cell (extent_of (tiling segs) a) ≡ true
      by busy there true t = rw (lt-ltb 0 (extent_of (tiling segs) a).span busy.named, lt-ltb 0 (extent_of (tiling segs) a).size busy.busy, t) refl
      by busy there false t = let q : false ≡ true = rw t at there in absurd (true≢false (sym q))

  module _ (kinds : List Rules) (image : List ℕ) (dicts : List Dict) (lawful : AllByRecursion AreLawful kinds) (sound : IsSoundImage kinds image) (same : segs ≡ (contents_of_image image).segs)
      (read : map dict_row dicts ≡ (contents_of_image image).rows) (numbers : AllByRecursion (λ d. d.kind < 2 ^ 32) dicts) (whole : AllByRecursion (IsWholeBy kinds cells) dicts) where
    blocks : image_blocks image ≡ cells
    blocks = ap (λ (z : List Bytes). cells_of (layout_by z).blocks) (sym same)

    rows : rows_of_image image ≡ map dict_row dicts
    rows = rows-read image (contents_of_image image) refl ∙ sym read

    before : AreSoundBefore kinds cells (map dict_row dicts) (length (map dict_row dicts))
    before = subst (λ (z : Blocks × List DictRow). AreSoundBefore kinds z.0 z.1 (length z.1)) (λ i. (blocks i, rows i)) sound.dicts

    pub savable-of : AreSavable kinds cells dicts
    savable-of =
        let each = each-savable kinds cells lawful dicts before numbers whole in
        record {
          few =
              let head = sound.front.head.dicts in
              let many = length-rows image in
              let long = length-map dicts dict_row in
              let same_many = ap length rows in
              omega (arith, head, many, long, same_many);
          each = each;
          apart = all-apart kinds cells lawful dicts before numbers whole;
          taken = λ a some.
              taken-same kinds cells dicts a each
              ∙ subst (λ (z : Blocks × List DictRow). contains (taken_by z.0 z.1) a ≡ true) (λ i. (blocks i, rows i))
              (sound.rest a (subst (λ (z : List Bytes). is_cell (extent_of (tiling z) a) ≡ true) same (some-cell a some)));
        }

pub savable-in : {I : Type 0} {V : I → Type 0} (kinds : List Rules) (image : List ℕ) (region : Region I V) (dicts : List Dict) → AllByRecursion AreLawful kinds → IsSoundImage kinds image → AreOfImage kinds image region dicts → AreSavableIn kinds region dicts
savable-in kinds image (OfBest b) dicts lawful sound h =
    savable-of b.extents.segs.items b.extents.index.items b.root.0 (of-best b) kinds image dicts lawful sound
    (same_Some b.extents.segs.items (contents_of_image image).segs h.segments) h.rows h.numbers h.whole
savable-in kinds image (Pool p) dicts lawful sound h = let q = h.segments in absurd (none-some (contents_of_image image).segs q)
savable-in kinds image (Last l) dicts lawful sound h = let q = h.segments in absurd (none-some (contents_of_image image).segs q)
savable-in kinds image (Debug d) dicts lawful sound h = let q = h.segments in absurd (none-some (contents_of_image image).segs q)
savable-in kinds image (Profile p) dicts lawful sound h = let q = h.segments in absurd (none-some (contents_of_image image).segs q)
