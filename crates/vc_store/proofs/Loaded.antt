-- A store whose dictionaries are those of an image.
use Rattle.vc_base.proofs.Common.{◌≡◌, ◌≢◌, ℕ, zero, suc, ◌+◌, ◌-◌, ◌≤◌, List, [], ◌∷◌, ◌++◌, map, length, slice_get, Option, Some, None, option_map, refl, sym, ap, ◌∙◌, subst, inl, inr, arith, append-nil, contains, eqb_tells, nat_tests, length-map, none-some, same_Some, slice_get-map, AllByRecursion, Blocks, Discipline, HasOut, TookBack, at_number}
use Rattle.std.proofs.lemmas.Option.{slice_get_within}
use Rattle.vc_model.proofs.Keeping.{Kept-trans}
use Rattle.vc_model.specs.Discipline.{Kept}
use Rattle.vc_seg.specs.Segment.{Bytes, pair_of}
use Rattle.vc_dtdisc.specs.Rules.{Rules}
use Rattle.vc_dict.specs.declared.dict.Dict.{Dict}
use Rattle.vc_dict.specs.Listed.{holders_of}
use Rattle.vc_dict.proofs.HeadLemmas.{dict-again}
use Rattle.vc_best.specs.Blocks.{layout_by}
use Rattle.vc_best.specs.Cells.{cells_in, cells_of}
use Rattle.vc_best.specs.Parts.{disc_in, segments_in}
use Rattle.vc_best.specs.declared.best.Best.{Best}
use Rattle.vc_best.proofs.Lends.{segments-by}
use Rattle.vc_region.specs.Parts as region
use Rattle.vc_region.specs.declared.region.Region.{Region}
use Rattle.vc_region.specs.declared.region.Region.TheVariants.{Best as OfBest}
use Rattle.vc_objects.specs.Parts.{IsWhole, dictionary_of}
use Rattle.vc_store.specs.Contents.{contents_of}
use Rattle.vc_image_check.specs.Bytes.Contents as read
use Rattle.vc_image_check.specs.Blocks.Blocks.{image_blocks}
use Rattle.vc_image.specs.Lends.Lends.{AreLent}
use Rattle.vc_image.specs.Load as load
use Rattle.vc_image.specs.Load.{IsLoaded, IsWholeAmong, ShareNone, pairs_of}
use Rattle.vc_image.proofs.Loads.{apart-turned}
use Rattle.vc_store.specs.Stores.Loads.{HaveOwnKinds, HoldsImage, IsShared, shown_of_image, with_kind}
use Rattle.vc_store.specs.Stores.Places.{CanStandAgain}
use Rattle.vc_algebra.specs.InRegion.{ShareNoBlock, rules_or}
use Rattle.vc_store.specs.Stores.Stores.{IsOpen, dict_at, disc_of, kinds_of, numbers_of, shown}
use Rattle.vc_store.specs.declared.stores.store.Store.{Store}
use Rattle.vc_store.proofs.Placed.{kind-of, of-each}

-- a number that something has is one of those from 1 on
pub at-number : {A : Type 0} (xs : List A) (n : ℕ) (x : A) → at_number xs n ≡ Some x → (1 ≤ n) × (slice_get xs (n - 1) ≡ Some x)
at-number xs zero x at = absurd (none-some x (let none : at_number xs 0 ≡ None = grind (arith, nat_tests) in sym none ∙ at))
at-number xs (suc k) x at =
    let low : 1 ≤ suc k = omega arith in
    let same : at_number xs (suc k) ≡ slice_get xs (suc k - 1) = grind (arith, nat_tests) in
    (low, sym same ∙ at)

-- an item that something is made of is there
mapped : {A B : Type 0} (f : A → B) (xs : List A) (i : ℕ) (y : B) → slice_get (map f xs) i ≡ Some y → option_map f (slice_get xs i) ≡ Some y
mapped f xs i y at = sym (slice_get-map f xs i) ∙ at

module _ {D : Type 0} (rules_by : D → Rules) (kinds : List D) (cells : Blocks) where
  -- each can stand at the place before its kind
  can-stand : (d : Dict) → IsWholeAmong (map rules_by kinds) cells d → CanStandAgain (length kinds) d
  can-stand d w =
      let at = at-number (map rules_by kinds) d.kind w.rules w.kind in
      let low = at.0 in
      let within = slice_get_within (map rules_by kinds) (d.kind - 1) w.rules at.1 in
      let long = length-map kinds rules_by in
      record {
        some = low;
        within = omega (arith, low, within, long);
        again = dict-again w.rules d cells (holders_of d cells) w.whole.stands;
      }

  pub can-stand-each : (ds : List Dict) → AllByRecursion (IsWholeAmong (map rules_by kinds) cells) ds → AllByRecursion (CanStandAgain (length kinds)) ds
  can-stand-each [] all = tt
  can-stand-each (d ∷ ds) all = (can-stand d all.0, can-stand-each ds all.1)

  -- by the rules of the kind at that place
  pub whole-at : (n : ℕ) (ds : List Dict) (d : Dict) → AllByRecursion (IsWholeAmong (map rules_by kinds) cells) ds → with_kind (n + 1) ds ≡ Some d → IsWhole (rules_or (option_map rules_by (slice_get kinds n))) d cells
  whole-at n ds d all h =
      let w = of-each (IsWholeAmong (map rules_by kinds) cells) (n + 1) ds d all h in
      let kind = kind-of (n + 1) ds d h in
      let at = at-number (map rules_by kinds) d.kind w.rules w.kind in
      let place : d.kind - 1 ≡ n = omega (arith, kind) in
      let found : option_map rules_by (slice_get kinds n) ≡ Some w.rules = mapped rules_by kinds n w.rules (ap (slice_get (map rules_by kinds)) (sym place) ∙ at.1) in
      subst (λ (o : Option Rules). IsWhole (rules_or o) d cells) (sym found) w.whole

-- those of two kinds are apart
pub apart-kinds : (cells : Blocks) (j k : ℕ) (ds : List Dict) (d e : Dict) → j ≢ k → load.AllShareNone cells ds → with_kind j ds ≡ Some d → with_kind k ds ≡ Some e → ShareNoBlock cells d e
apart-kinds cells j k [] d e ne apart hd he = absurd (none-some d hd)
apart-kinds cells j k (x ∷ xs) d e ne apart hd he = elim (eqb_tells x.kind j) as (λ _. ShareNoBlock cells d e) [
  | inl mine ↦
      let first : Some x ≡ Some d = rw mine.0 at hd in
      elim (eqb_tells x.kind k) as (λ _. ShareNoBlock cells d e) [
        | inl other ↦ absurd (ne (sym mine.1 ∙ other.1))
        | inr away ↦
            let rest : with_kind k xs ≡ Some e = rw away.0 at he in
            subst (λ (z : Dict). ShareNoBlock cells z e) (same_Some x d first) (of-each (ShareNone cells x) k xs e apart.0 rest)
      ]
  | inr aside ↦
      let rest : with_kind j xs ≡ Some d = rw aside.0 at hd in
      elim (eqb_tells x.kind k) as (λ _. ShareNoBlock cells d e) [
        | inl other ↦
            let first : Some x ≡ Some e = rw other.0 at he in
            let there = of-each (ShareNone cells x) j xs d apart.0 rest in
            subst (λ (z : Dict). ShareNoBlock cells d z) (same_Some x e first)
            (λ a w. apart-turned (contains (load.own_by cells x) a) (contains (load.own_by cells d) a) (there a) w)
        | inr away ↦
            let more : with_kind k xs ≡ Some e = rw away.0 at he in
            apart-kinds cells j k xs d e ne apart.1 rest more
      ]
]

-- the region of what is loaded, and what it has
module _ {I : Type 0} {V : I → Type 0} (meaning : (x : I) × V x → Discipline) (rules : List Rules) (old : Discipline) (image : List ℕ) (r : Region I V) (ds : List Dict)
    (is : IsLoaded rules old.terms image r ds) (lent : AreLent old (region.disc_in meaning r) (pairs_of image)) (b : Best I V) (best : r ≡ OfBest b) where
  same-best : is.best ≡ b
  same-best = let e : OfBest is.best ≡ OfBest b = sym is.of_best ∙ best in cc

  pub each-whole : AllByRecursion (IsWholeAmong rules (cells_in b)) ds
  each-whole = subst (λ (z : Best I V). AllByRecursion (IsWholeAmong rules (cells_in z)) ds) same-best is.each

  all-apart : load.AllShareNone (cells_in b) ds
  all-apart = subst (λ (z : Best I V). load.AllShareNone (cells_in z) ds) same-best is.apart

  segs-are : b.extents.segs.items ≡ (read.contents_of_image image).segs
  segs-are = subst (λ (z : Best I V). z.extents.segs.items ≡ (read.contents_of_image image).segs) same-best is.segments

  root-is : b.root.0 ≡ (read.contents_of_image image).root
  root-is = subst (λ (z : Best I V). z.root.0 ≡ (read.contents_of_image image).root) same-best is.root

  pairs-are : segments_in b ≡ pairs_of image
  pairs-are = segments-by b.extents.segs.items ∙ ap (map pair_of) segs-are

  were-lent : AreLent old (disc_in meaning b) (pairs_of image)
  were-lent = subst (λ (z : Region I V). AreLent old (region.disc_in meaning z) (pairs_of image)) best lent

  cells-are : cells_in b ≡ image_blocks image
  cells-are = ap (λ (z : List Bytes). cells_of (layout_by z).blocks) segs-are

  lent-out : (disc_in meaning b).out ≡ old.out ++ segments_in b
  lent-out = were-lent.out ∙ ap (λ ps. old.out ++ ps) (sym pairs-are)

  pub has-out : HasOut (disc_in meaning b) (segments_in b)
  has-out = (old.out, lent-out)

  -- its segments went back
  module _ (new : Discipline) (back : TookBack (disc_in meaning b) new (segments_in b) []) where
    pub out-back : new.out ≡ old.out
    out-back = back.out old.out lent-out ∙ append-nil old.out

    pub kept-back : Kept old new
    kept-back = Kept-trans old (disc_in meaning b) new were-lent.kept back.kept

    pub shared : (HaveOwnKinds ds → ⊥) → IsShared rules image old new
    shared none = record {
      sound = is.sound;
      allowed = is.allowed;
      shared = λ own. none (subst HaveOwnKinds (sym is.numbers) own);
      asked = disc_in meaning b;
      lent = were-lent;
      back = subst (λ ps. TookBack (disc_in meaning b) new ps []) pairs-are back;
    }

-- a store of that region, each of whose dictionaries stands at the place before its kind
module _ {D : Type 0} {I : Type 0} {V : I → Type 0} (meaning : (x : I) × V x → Discipline) (rules_by : D → Rules) (old : Discipline) (image : List ℕ) (r : Region I V) (ds : List Dict) (s : Store D I V)
    (is : IsLoaded (map rules_by (kinds_of s)) old.terms image r ds) (lent : AreLent old (region.disc_in meaning r) (pairs_of image)) (best : r ≡ OfBest s.best)
    (count : numbers_of s ≡ length (kinds_of s)) (own : HaveOwnKinds ds) (placed : (n : ℕ) → dict_at s n ≡ with_kind (n + 1) ds) where
  abbrev rules : List Rules
  rules = map rules_by (kinds_of s)

  open-over : IsOpen rules_by s (disc_of s meaning)
  open-over = record {
    kinds = sym count;
    whole = λ n d at.
        whole-at rules_by (kinds_of s) (cells_in s.best) n ds d (each-whole meaning rules old image r ds is lent s.best best) (sym (placed n) ∙ at);
    apart = λ m n d e ne at at'.
        apart-kinds (cells_in s.best) (m + 1) (n + 1) ds d e (λ (same : m + 1 ≡ n + 1). ne (omega (arith, same))) (all-apart meaning rules old image r ds is lent s.best best) (sym (placed m) ∙ at) (sym (placed n) ∙ at');
    lent = has-out meaning rules old image r ds is lent s.best best;
  }

  shows : (n : ℕ) → shown s n ≡ shown_of_image image n
  shows n =
      ap (option_map (λ d. contents_of (dictionary_of d (cells_in s.best)))) (placed n)
      ∙ (ap (λ (z : Blocks). option_map (λ d. contents_of (dictionary_of d z)) (with_kind (n + 1) ds)) (cells-are meaning rules old image r ds is lent s.best best)
      ∙ ap (λ zs. option_map (λ d. contents_of (dictionary_of d (image_blocks image))) (with_kind (n + 1) zs)) is.numbers)

  pub holds : HoldsImage rules_by image (kinds_of s) s old (disc_of s meaning)
  holds = record {
    sound = is.sound;
    allowed = is.allowed;
    own = subst HaveOwnKinds is.numbers own;
    is_open = open-over;
    kinds = refl;
    shown = shows;
    segments = segs-are meaning rules old image r ds is lent s.best best;
    root = root-is meaning rules old image r ds is lent s.best best;
    lent = were-lent meaning rules old image r ds is lent s.best best;
  }
