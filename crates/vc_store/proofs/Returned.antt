-- What an image of a store's region and of its dictionaries shows.
use Rattle.vc_base.proofs.Common.{◌≡◌, ℕ, zero, suc, ◌+◌, ◌/◌, ◌<◌, ◌≤◌, ◌^◌, List, [], ◌∷◌, map, slice_get, Option, Some, None, IsSome, option_map, refl, sym, ap, ap₂, ◌∙◌, subst, arith, length-map, AllByRecursion, Blocks, Discipline, find_block, place_of}
use Rattle.vc_seg.specs.Segment.{Bytes}
use Rattle.vc_extent.specs.Tiling.{IsBusy, tiling}
use Rattle.vc_extent.proofs.Places.{named-there, there-last}
use Rattle.vc_dtdisc.specs.Rules.{Rules}
use Rattle.vc_dict.specs.declared.dict.Dict.{Dict}
use Rattle.vc_dict.specs.Listed.{holders_of}
use Rattle.vc_dict.proofs.HeadLemmas.{dict-again}
use Rattle.vc_best.specs.Blocks.{layout_by}
use Rattle.vc_best.specs.Cells.{cells_in, cells_of}
use Rattle.vc_objects.specs.Parts.{IsWhole, dictionary_of}
use Rattle.vc_store.specs.Contents.{contents_of}
use Rattle.vc_image_check.specs.Bytes.Contents as bytes
use Rattle.vc_image_check.specs.Bytes.Header.{FitsRow}
use Rattle.vc_image_check.specs.Bytes.Image as image
use Rattle.vc_image_check.proofs.Writing.{read-again}
use Rattle.vc_image_check.specs.Blocks.Blocks.{image_blocks}
use Rattle.vc_image.specs.Load as load
use Rattle.vc_image.specs.Load.{dict_of_row}
use Rattle.vc_image.specs.Save.{dict_row, image_contents}
use Rattle.vc_image.proofs.Loads.{made-by}
use Rattle.vc_image.proofs.Begun.{AreOfBest, are-segments, of-best, root-fits}
use Rattle.vc_image.proofs.Joined.{cell-busy, numbered, rows-read}
use Rattle.vc_image.proofs.Numbers.{row-fits}
use Rattle.vc_image.proofs.Standing.{dict-back}
use Rattle.vc_store.specs.Stores.Copies.{AreFew, copies_from, copies_of, image_of_store, of_kind}
use Rattle.vc_store.specs.Stores.Loads.{shown_of_image, with_kind}
use Rattle.vc_store.specs.Stores.Stores.{IsOpen, dict_at, dicts_of, joined, shown}
use Rattle.vc_store.specs.declared.stores.store.Store.{Store}
use Rattle.vc_store.proofs.Copied.{Fit}
use Rattle.vc_store.proofs.Placed.{first-of, not-first}

-- a dictionary is whole with any number as its kind, and shows the same
module _ (rules : Rules) (d : Dict) (cells : Blocks) (w : IsWhole rules d cells) where
  again : of_kind d.kind d ≡ d
  again = dict-again rules d cells (holders_of d cells) w.stands

  pub copy-whole : (kind : ℕ) → IsWhole rules (of_kind kind d) cells
  copy-whole kind =
      let v : IsWhole rules (of_kind d.kind d) cells = subst (λ (z : Dict). IsWhole rules z cells) (sym again) w in
      record {
        stands = record { form = v.stands.form; heads = v.stands.heads; count = v.stands.count };
        current = v.current;
        table = v.table;
        objects = v.objects;
      }

  pub copy-shown : (kind : ℕ) → contents_of (dictionary_of (of_kind kind d) cells) ≡ contents_of (dictionary_of d cells)
  copy-shown kind = ap (λ (z : Dict). contents_of (dictionary_of z cells)) again

-- by some rules
record Whole (cells : Blocks) (d : Dict) : Type 0 where
  rules : Rules
  whole : IsWhole rules d cells

module _ (cells : Blocks) (small : (a : ℕ) → IsSome (cells a) → a < 2 ^ 32) where
  rows-fit : (n : ℕ) (ds : List (Option Dict)) → ((k : ℕ) (d : Dict) → joined (slice_get ds k) ≡ Some d → Whole cells d) → Fit (copies_from n ds) → AllByRecursion FitsRow (map dict_row (copies_from n ds))
  rows-fit n [] each fit = tt
  rows-fit n (None ∷ ds) each fit = rows-fit (n + 1) ds (λ k d e. each (suc k) d e) fit
  rows-fit n (Some d ∷ ds) each fit =
      let w = each 0 d refl in (
        row-fits w.rules (of_kind (n + 1) d) cells small fit.0 (copy-whole w.rules d cells w.whole (n + 1)),
        rows-fit (n + 1) ds (λ k e at. each (suc k) e at) fit.1,
      )

  all-back : (n : ℕ) (ds : List (Option Dict)) → ((k : ℕ) (d : Dict) → joined (slice_get ds k) ≡ Some d → Whole cells d) → map dict_of_row (map dict_row (copies_from n ds)) ≡ copies_from n ds
  all-back n [] each = refl
  all-back n (None ∷ ds) each = all-back (n + 1) ds (λ k d e. each (suc k) d e)
  all-back n (Some d ∷ ds) each =
      let w = each 0 d refl in
      let c : Dict = of_kind (n + 1) d in
      ap₂ (λ (x : Dict) (xs : List Dict). x ∷ xs)
      (made-by (dict_row c) c.method (numbered c.method) ∙ sym (dict-back w.rules c cells (copy-whole w.rules d cells w.whole (n + 1))))
      (all-back (n + 1) ds (λ k e at. each (suc k) e at))

-- no copy has a kind before those that are counted
early : (n kind : ℕ) (ds : List (Option Dict)) → kind ≤ n → with_kind kind (copies_from n ds) ≡ None
early n kind [] le = refl
early n kind (None ∷ ds) le = early (n + 1) kind ds (omega (arith, le))
early n kind (Some d ∷ ds) le =
    not-first kind (of_kind (n + 1) d) (copies_from (n + 1) ds) (λ (e : n + 1 ≡ kind). omega (arith, le, e))
    ∙ early (n + 1) kind ds (omega (arith, le))

-- the copy of a kind is that of the dictionary whose number is before it
found : (n k kind : ℕ) (ds : List (Option Dict)) → n + k + 1 ≡ kind → with_kind kind (copies_from n ds) ≡ option_map (of_kind kind) (joined (slice_get ds k))
found n k kind [] is = refl
found n zero kind (None ∷ ds) is = early (n + 1) kind ds (omega (arith, is))
found n zero kind (Some d ∷ ds) is =
    let here : n + 1 ≡ kind = omega (arith, is) in
    first-of kind (of_kind (n + 1) d) (copies_from (n + 1) ds) here ∙ ap (λ j. Some (of_kind j d)) here
found n (suc k) kind (None ∷ ds) is = found (n + 1) k kind ds (omega (arith, is))
found n (suc k) kind (Some d ∷ ds) is =
    not-first kind (of_kind (n + 1) d) (copies_from (n + 1) ds) (λ (e : n + 1 ≡ kind). omega (arith, is, e))
    ∙ found (n + 1) k kind ds (omega (arith, is))

module _ (segs : List Bytes) (index : List ℕ) (root : ℕ) (h : AreOfBest segs index root) where
  cells-small : (a : ℕ) → IsSome (cells_of (layout_by segs).blocks a) → a < 2 ^ 32
  cells-small a some =
      let busy : IsBusy (tiling segs) a = cell-busy segs index root h a (find_block (place_of a) (layout_by segs).blocks) refl some in
      let last : a / 1048576 ≤ 1023 = there-last (place_of a).0 segs (are-segments segs index root h).legal (named-there (place_of a).0 (place_of a).1 segs busy.named) in
      omega (arith, last)

module _ {D : Type 0} {I : Type 0} {V : I → Type 0} (rules_by : D → Rules) (s : Store D I V) (disc : Discipline) (is : IsOpen rules_by s disc) (few : AreFew (copies_of s)) where
  abbrev cells : Blocks
  cells = cells_in s.best

  each-whole : (k : ℕ) (d : Dict) → joined (slice_get (dicts_of s) k) ≡ Some d → Whole cells d
  each-whole k d at = record { rules = _; whole = is.whole k d at }

  abbrev of : image.ImageContents
  of = image_contents s.best (copies_of s)

  best-is : AreOfBest s.best.extents.segs.items s.best.extents.index.items s.best.root.0
  best-is = of-best s.best

  small : (a : ℕ) → IsSome (cells a) → a < 2 ^ 32
  small = cells-small s.best.extents.segs.items s.best.extents.index.items s.best.root.0 best-is

  read : bytes.contents_of_image (image_of_store s) ≡ of
  read =
      let long = length-map (copies_of s) dict_row in
      let most = few.count in
      read-again of (record {
        segments = are-segments s.best.extents.segs.items s.best.extents.index.items s.best.root.0 best-is;
        root = root-fits s.best.extents.segs.items s.best.extents.index.items s.best.root.0 best-is;
        few = omega (arith, long, most);
        rows = rows-fit cells small 0 (dicts_of s) each-whole few.kinds;
      })

  dicts : load.dicts_of (image_of_store s) ≡ copies_of s
  dicts = ap (map dict_of_row) (rows-read (image_of_store s) of read) ∙ all-back cells small 0 (dicts_of s) each-whole

  blocks : image_blocks (image_of_store s) ≡ cells
  blocks = ap (λ (c : image.ImageContents). cells_of (layout_by c.segs).blocks) read

  same-shown : (n : ℕ) (o : Option Dict) → dict_at s n ≡ o → option_map (λ d. contents_of (dictionary_of d cells)) (option_map (of_kind (n + 1)) o) ≡ option_map (λ d. contents_of (dictionary_of d cells)) o
  same-shown n None at = refl
  same-shown n (Some d) at = ap Some (copy-shown _ d cells (is.whole n d at) (n + 1))

  pub returned : (n : ℕ) → shown_of_image (image_of_store s) n ≡ shown s n
  returned n =
      ap (λ (z : Blocks). option_map (λ d. contents_of (dictionary_of d z)) (with_kind (n + 1) (load.dicts_of (image_of_store s)))) blocks
      ∙ (ap (λ ds. option_map (λ d. contents_of (dictionary_of d cells)) (with_kind (n + 1) ds)) dicts
      ∙ (ap (option_map (λ d. contents_of (dictionary_of d cells))) (found 0 n (n + 1) (dicts_of s) (omega arith))
      ∙ same-shown n (dict_at s n) refl))
