-- The image of a region with dictionaries that can be saved is sound, and tells what it was made of.
use Rattle.vc_base.proofs.Common.{◌≡◌, ℕ, zero, suc, ◌/◌, ◌≤◌, ◌<◌, ◌^◌, Bool, true, false, ◌||◌, ◌&&◌, ◌==◌, nat_lt, List, [], ◌∷◌, Some, None, Option, IfSome, IsSome, map, length, take, contains, list_any-append, option_map, unwrap_or, flat_map, slice_get, sym, refl, ap, ap₂, ◌∙◌, subst, arith, same_Some, and_parts, ltb-true, length-map, AllByRecursion, Block, place_of, find_block}
use Rattle.vc_model.proofs.Owned.{found-has}
use Rattle.vc_base.specs.declared.dict_method.DictMethod.{DictMethod}
use Rattle.vc_base.specs.declared.dict_method.DictMethod.TheVariants.{DtSet, DtBag, DtOset, DtObag, DtList, DtStack, DtQueue}
use Rattle.vc_base.specs.Cells.{Blocks}
use Rattle.vc_base.specs.Methods.{method_number}
use Rattle.vc_dtdisc.specs.Rules.{Rules}
use Rattle.vc_seg.specs.Segment.{Bytes}
use Rattle.vc_extent.specs.Tiling.{IsBusy, extent_of, tiling}
use Rattle.vc_extent.proofs.Places.{named-there, there-last}
use Rattle.vc_dict.specs.declared.dict.Dict.{Dict}
use Rattle.vc_dict.specs.Parts.{heads_in}
use Rattle.vc_best.specs.Blocks.{layout_by}
use Rattle.vc_best.specs.Cells.{cell_bytes, cells_in, cells_of}
use Rattle.vc_best.proofs.Found.{busy-of, found-of}
use Rattle.vc_region.specs.OfBest.{best_in}
use Rattle.vc_region.specs.declared.region.Region.{Region}
use Rattle.vc_region.specs.declared.region.Region.TheVariants.{Best as OfBest, Pool, Last, Debug, Profile}
use Rattle.vc_objects.specs.Objects.{own_blocks}
use Rattle.vc_objects.specs.Parts.{dictionary_of}
use Rattle.vc_image_check.specs.Bytes.Contents.{contents_of_image, rows_of_image}
use Rattle.vc_image_check.specs.Bytes.Header.{FitsRow}
use Rattle.vc_image_check.specs.Bytes.Image.{DictRow, ImageContents, image_of}
use Rattle.vc_image_check.proofs.Writing.{read-again}
use Rattle.vc_image_check.specs.Blocks.Blocks.{image_blocks, is_cell}
use Rattle.vc_image_check.specs.Dicts.Sound.{IsSoundDict, IsSoundRow, numbered_method, own_in, own_of}
use Rattle.vc_image_check.specs.Dicts.Taken.{AreSoundBefore, taken_by}
use Rattle.vc_image_check.specs.Dicts.Whole.{IsSoundImage}
use Rattle.vc_image_check.proofs.Told.{own-told}
use Rattle.vc_image.specs.Load.{AllShareNone, IsWholeAmong, ShareNone, dict_of_row, dicts_of, own_by}
use Rattle.vc_image.specs.Save.{contents_by, dict_row, image_contents, image_in}
use Rattle.vc_image.proofs.Loads.{apart-turned, made-by}
use Rattle.vc_image.specs.Saved.Saved.{AreReadable, AreReadableIn, AreSavable, AreSavableIn, IsSavable}
use Rattle.vc_image.proofs.Begun.{AreOfBest, are-segments, front-of, of-best, root-fits}
use Rattle.vc_image.proofs.Numbers.{row-fits}
use Rattle.vc_image.proofs.Standing.{dict-back, whole-sound}

-- the number of a method is that of this one
pub numbered : (m : DictMethod) → numbered_method (method_number m) ≡ Some m
numbered DtSet = refl
numbered DtBag = refl
numbered DtOset = refl
numbered DtObag = refl
numbered DtList = refl
numbered DtStack = refl
numbered DtQueue = refl

neither : (x y : Bool) → x ≡ false → y ≡ false → (x || y) ≡ false
neither x y e f = rw (e, f) refl

-- what holds of each of some dictionaries holds of the one at a place
pub at-place : {A : Type 0} (P : A → Type 0) (xs : List A) (k : ℕ) (x : A) → AllByRecursion P xs → slice_get xs k ≡ Some x → P x
at-place P [] k x all e = let q : None ≡ Some x = e in absurd (cc)
at-place P (y ∷ ys) zero x all e = subst P (same_Some y x e) all.0
at-place P (y ∷ ys) (suc k) x all e = at-place P ys k x all.1 e

module _ (kinds : List Rules) (b : Blocks) where
  row-sound : (d : Dict) → IsSavable kinds b d → IsSoundRow kinds b (dict_row d)
  row-sound d s = record {
    method = d.method;
    rules = s.rules;
    numbered = numbered d.method;
    kind = s.kind;
    by = whole-sound s.rules d b s.lawful s.whole s.alone;
  }

  -- its blocks are those that its numbers tell
  own-row : (d : Dict) → own_of b (dict_row d) ≡ own_in d.method b d.count (heads_in d)
  own-row d = ap (λ (o : Option DictMethod). unwrap_or (option_map (λ (m : DictMethod). own_in m b d.count (heads_in d)) o) []) (numbered d.method)

  pub own-same : (d : Dict) (a : ℕ) → IsSavable kinds b d → contains (own_by b d) a ≡ contains (own_of b (dict_row d)) a
  own-same d a s =
      ap (λ (z : Dict). contains (own_blocks (dictionary_of z b)) a) (dict-back s.rules d b s.whole)
      ∙ own-told d.method s.rules b d.kind d.count d.current (heads_in d) (whole-sound s.rules d b s.lawful s.whole s.alone).holders a
      ∙ ap (λ ys. contains ys a) (sym (own-row d))

  pub taken-same : (ds : List Dict) (a : ℕ) → AllByRecursion (IsSavable kinds b) ds → contains (flat_map (own_by b) ds) a ≡ contains (taken_by b (map dict_row ds)) a
  taken-same [] a all = refl
  taken-same (d ∷ ds) a all =
      list_any-append (λ z. z == a) (own_by b d) (flat_map (own_by b) ds)
      ∙ ap₂ (λ (x y : Bool). x || y) (own-same d a all.0) (taken-same ds a all.1)
      ∙ sym (list_any-append (λ z. z == a) (own_of b (dict_row d)) (taken_by b (map dict_row ds)))

  -- the dictionary at a place, whose blocks those before it don't have
  record Placed (ds : List Dict) (k : ℕ) (r : DictRow) : Type 0 where
    dict : Dict
    there : slice_get ds k ≡ Some dict
    is : dict_row dict ≡ r
    savable : IsSavable kinds b dict
    apart : (a : ℕ) → contains (own_by b dict) a ≡ true → contains (taken_by b (take k (map dict_row ds))) a ≡ false

  placed : (ds : List Dict) (k : ℕ) (r : DictRow) → AllByRecursion (IsSavable kinds b) ds → AllShareNone b ds → slice_get (map dict_row ds) k ≡ Some r → Placed ds k r
  placed [] k r all apart e = let q : None ≡ Some r = e in absurd (cc)
  placed (d ∷ ds) zero r all apart e = record { dict = d; there = refl; is = same_Some (dict_row d) r e; savable = all.0; apart = λ a w. refl }
  placed (d ∷ ds) (suc k) r all apart e =
      let p = placed ds k r all.1 apart.1 e in
      let other = at-place (ShareNone b d) ds k p.dict apart.0 p.there in
      record {
        dict = p.dict;
        there = p.there;
        is = p.is;
        savable = p.savable;
        apart = λ a w.
            let here : contains (own_of b (dict_row d)) a ≡ false =
            sym (own-same d a all.0) ∙ apart-turned (contains (own_by b d) a) (contains (own_by b p.dict) a) (other a) w in
            list_any-append (λ z. z == a) (own_of b (dict_row d)) (taken_by b (take k (map dict_row ds)))
            ∙ neither (contains (own_of b (dict_row d)) a) (contains (taken_by b (take k (map dict_row ds))) a) here (p.apart a w);
      }

  dicts-sound : (ds : List Dict) (n : ℕ) → AreSavable kinds b ds → AreSoundBefore kinds b (map dict_row ds) n
  dicts-sound ds n s k r lt e =
      let p = placed ds k r s.each s.apart e in
      subst (IsSoundDict kinds b (taken_by b (take k (map dict_row ds)))) p.is
      (record {
        row = row-sound p.dict p.savable;
        apart = λ a w. p.apart a (own-same p.dict a p.savable ∙ w);
      })

  rows-fit : (ds : List Dict) → ((a : ℕ) → IsSome (b a) → a < 2 ^ 32) → AllByRecursion (λ d. d.kind < 2 ^ 32) ds → AllByRecursion (IsWholeAmong kinds b) ds → AllByRecursion FitsRow (map dict_row ds)
  rows-fit [] cells numbers all = tt
  rows-fit (d ∷ ds) cells numbers all = (row-fits all.0.rules d b cells numbers.0 all.0.whole, rows-fit ds cells numbers.1 all.1)

  -- each is made again of its numbers
  all-back : (ds : List Dict) → AllByRecursion (IsWholeAmong kinds b) ds → map dict_of_row (map dict_row ds) ≡ ds
  all-back [] all = refl
  all-back (d ∷ ds) all =
      let w = all.0 in
      ap₂ (λ (x : Dict) (xs : List Dict). x ∷ xs) (made-by (dict_row d) d.method (numbered d.method) ∙ sym (dict-back w.rules d b w.whole)) (all-back ds all.1)

  -- what can be saved can be read again
  numbers-of : (ds : List Dict) → AllByRecursion (IsSavable kinds b) ds → AllByRecursion (λ d. d.kind < 2 ^ 32) ds
  numbers-of [] all = tt
  numbers-of (d ∷ ds) all = (all.0.number, numbers-of ds all.1)

  among-of : (ds : List Dict) → AllByRecursion (IsSavable kinds b) ds → AllByRecursion (IsWholeAmong kinds b) ds
  among-of [] all = tt
  among-of (d ∷ ds) all = (record { rules = all.0.rules; kind = all.0.kind; whole = all.0.whole }, among-of ds all.1)

  pub readable : (ds : List Dict) → AreSavable kinds b ds → AreReadable kinds b ds
  readable ds s = record { few = s.few; numbers = numbers-of ds s.each; each = among-of ds s.each }

pub rows-read : (image : List ℕ) (c : ImageContents) → contents_of_image image ≡ c → rows_of_image image ≡ c.rows
unfolding contents_of_image
rows-read image c e = ap (λ (z : ImageContents). z.rows) e

module _ (segs : List Bytes) (index : List ℕ) (root : ℕ) (h : AreOfBest segs index root) where
  abbrev cells : Blocks
  cells = cells_of (layout_by segs).blocks

  -- each block has an address below 2^32, and an extent
  pub cell-busy : (a : ℕ) (o : Option (Block ℕ)) → find_block (place_of a) (layout_by segs).blocks ≡ o → IsSome (cell_bytes o) → IsBusy (tiling segs) a
  cell-busy a None e some = absurd (cc)
  cell-busy a (Some c) e some = busy-of segs index a h.kept (found-has a (layout_by segs).blocks c e)

  cells-small : (a : ℕ) → IsSome (cells a) → a < 2 ^ 32
  cells-small a some =
      let busy : IsBusy (tiling segs) a = cell-busy a (find_block (place_of a) (layout_by segs).blocks) refl some in
      let last : a / 1048576 ≤ 1023 = there-last (place_of a).0 segs (are-segments segs index root h).legal (named-there (place_of a).0 (place_of a).1 segs busy.named) in
      omega (arith, last)

  cell-some : (a : ℕ) → is_cell (extent_of (tiling segs) a) ≡ true → IsSome (cells a)
  cell-some a w =
      let e = extent_of (tiling segs) a in
      let p = and_parts (nat_lt 0 e.span) (nat_lt 0 e.size && (e.tag == 0)) w in
      let q = and_parts (nat_lt 0 e.size) (e.tag == 0) p.1 in
      let found = found-of segs index a h.kept (record { named = ltb-true 0 e.span p.0; busy = ltb-true 0 e.size q.0 }) in
      subst (λ (o : Option (Block ℕ)). IsSome (cell_bytes o)) (sym found) (rw q.1 refl)

  module _ (kinds : List Rules) (dicts : List Dict) (s : AreReadable kinds cells dicts) where
    abbrev of : ImageContents
    of = contents_by root segs dicts

    few : length (map dict_row dicts) ≤ 256
    few = let long = length-map dicts dict_row in let most = s.few in omega (arith, long, most)

    pub read : contents_of_image (image_of of) ≡ of
    read = read-again of (record { segments = are-segments segs index root h; root = root-fits segs index root h; few = few; rows = rows-fit kinds cells dicts cells-small s.numbers s.each })

    rows : rows_of_image (image_of of) ≡ map dict_row dicts
    rows = rows-read (image_of of) of read

    pub same-dicts : dicts_of (image_of of) ≡ dicts
    same-dicts = ap (map dict_of_row) rows ∙ all-back kinds cells dicts s.each

    blocks : image_blocks (image_of of) ≡ cells
    blocks = ap (λ (c : ImageContents). cells_of (layout_by c.segs).blocks) read

  module _ (kinds : List Rules) (dicts : List Dict) (s : AreSavable kinds cells dicts) where
    pub sound-of : IsSoundImage kinds (image_of (contents_by root segs dicts))
    sound-of =
        let can = readable kinds cells dicts s in
        let there : image_blocks (image_of (contents_by root segs dicts)) ≡ cells = blocks kinds dicts can in
        let told : rows_of_image (image_of (contents_by root segs dicts)) ≡ map dict_row dicts = rows kinds dicts can in
        record {
          front = front-of segs index root h (map dict_row dicts) (few kinds dicts can);
          dicts = subst (λ (z : Blocks × List DictRow). AreSoundBefore kinds z.0 z.1 (length z.1)) (λ i. (sym there i, sym told i)) (dicts-sound kinds cells dicts (length (map dict_row dicts)) s);
          rest = λ a w.
              let cell : is_cell (extent_of (tiling segs) a) ≡ true = subst (λ (c : ImageContents). is_cell (extent_of (tiling c.segs) a) ≡ true) (read kinds dicts can) w in
              subst (λ (z : Blocks × List DictRow). contains (taken_by z.0 z.1) a ≡ true) (λ i. (sym there i, sym told i))
              (sym (taken-same kinds cells dicts a s.each) ∙ s.taken a (cell-some a cell));
        }

pub sound-in : {I : Type 0} {V : I → Type 0} (kinds : List Rules) (region : Region I V) (dicts : List Dict) → AreSavableIn kinds region dicts → IsSoundImage kinds (image_in region dicts)
sound-in kinds (OfBest b) dicts s = sound-of b.extents.segs.items b.extents.index.items b.root.0 (of-best b) kinds dicts s
sound-in kinds (Pool p) dicts s = absurd s
sound-in kinds (Last l) dicts s = absurd s
sound-in kinds (Debug d) dicts s = absurd s
sound-in kinds (Profile p) dicts s = absurd s

pub readable-in : {I : Type 0} {V : I → Type 0} (kinds : List Rules) (region : Region I V) (dicts : List Dict) → AreSavableIn kinds region dicts → AreReadableIn kinds region dicts
readable-in kinds (OfBest b) dicts s = readable kinds (cells_in b) dicts s
readable-in kinds (Pool p) dicts s = absurd s
readable-in kinds (Last l) dicts s = absurd s
readable-in kinds (Debug d) dicts s = absurd s
readable-in kinds (Profile p) dicts s = absurd s

pub read-in : {I : Type 0} {V : I → Type 0} (kinds : List Rules) (region : Region I V) (dicts : List Dict) → AreReadableIn kinds region dicts → IfSome (best_in region) (λ b. contents_of_image (image_in region dicts) ≡ image_contents b dicts)
read-in kinds (OfBest b) dicts s = read b.extents.segs.items b.extents.index.items b.root.0 (of-best b) kinds dicts s
read-in kinds (Pool p) dicts s = absurd s
read-in kinds (Last l) dicts s = absurd s
read-in kinds (Debug d) dicts s = absurd s
read-in kinds (Profile p) dicts s = absurd s

pub dicts-in : {I : Type 0} {V : I → Type 0} (kinds : List Rules) (region : Region I V) (dicts : List Dict) → AreReadableIn kinds region dicts → dicts_of (image_in region dicts) ≡ dicts
dicts-in kinds (OfBest b) dicts s = same-dicts b.extents.segs.items b.extents.index.items b.root.0 (of-best b) kinds dicts s
dicts-in kinds (Pool p) dicts s = absurd s
dicts-in kinds (Last l) dicts s = absurd s
dicts-in kinds (Debug d) dicts s = absurd s
dicts-in kinds (Profile p) dicts s = absurd s
