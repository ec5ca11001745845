-- Which store is loaded from an image, and why none is.
use Rattle.std.specs.Prelude.{◌≡◌, ℕ, ◌+◌, List, [], ◌∷◌, Option, None, Some, map, option_map, ◌==◌, if◌then◌else◌}
use Rattle.vc_model.specs.Discipline.{Discipline, TookBack}
use Rattle.vc_dtdisc.specs.Rules.{Rules}
use Rattle.vc_dict.specs.declared.dict.Dict.{Dict}
use Rattle.vc_objects.specs.Parts.{dictionary_of}
use Rattle.vc_store.specs.Contents.{contents_of}
use Rattle.vc_store.specs.Reading.{Contents}
use Rattle.vc_image_check.specs.Bytes.Contents as read
use Rattle.vc_image_check.specs.Blocks.Blocks.{image_blocks}
use Rattle.vc_image_check.specs.Dicts.Whole.{IsSoundImage}
use Rattle.vc_image.specs.Lends.Lends.{AreLent}
use Rattle.vc_image.specs.Lends.Terms.{terms_fault}
use Rattle.vc_image.specs.Load.{IsNotLoaded, dicts_of, pairs_of}
use Rattle.vc_store.specs.Stores.Stores.{IsOpen, best_of, kinds_of, shown}
use Rattle.vc_store.specs.declared.stores.fault.StoreLoadFault.{StoreLoadFault}
use Rattle.vc_store.specs.declared.stores.fault.StoreLoadFault.TheVariants.{NotLoaded, SharedKind}
use Rattle.vc_store.specs.declared.stores.store.Store.{Store}

-- the first of these dictionaries that has a number as its kind
abbrev pub with_kind : ℕ → List Dict → Option Dict
with_kind kind [] = None
with_kind kind (d ∷ ds) = if d.kind == kind then Some d else with_kind kind ds

-- no two of these have one kind
abbrev pub HaveOwnKinds : List Dict → Type 0
HaveOwnKinds [] = Unit {0}
HaveOwnKinds (d ∷ ds) = (with_kind d.kind ds ≡ None) × HaveOwnKinds ds

-- what an image shows of its dictionary for a number, whose kind in it is the number behind that
abbrev pub shown_of_image : List ℕ → ℕ → Option Contents
shown_of_image image n =
    option_map (λ d. contents_of (dictionary_of d (image_blocks image))) (with_kind (n + 1) (dicts_of image))

-- a store was loaded from an image over a discipline: it is open, has these kinds, shows by each number what the image does, and its region has exactly the image's segments, which the discipline lent behind what it had out
pub record HoldsImage {D : Type 0} {I : Type 0} {V : I → Type 0} (rules_by : D → Rules) (image : List ℕ)
    (given : List D) (s : Store D I V) (old new : Discipline) : Type 0 where
  pub sound : IsSoundImage (map rules_by given) image
  pub allowed : terms_fault old.terms (pairs_of image) ≡ None
  pub own : HaveOwnKinds (dicts_of image)
  pub is_open : IsOpen rules_by s new
  pub kinds : kinds_of s ≡ given
  pub shown : (n : ℕ) → shown s n ≡ shown_of_image image n
  pub segments : (best_of s).extents.segs.items ≡ (read.contents_of_image image).segs
  pub root : (best_of s).root.0 ≡ (read.contents_of_image image).root
  pub lent : AreLent old new (pairs_of image)

-- two dictionaries of a sound image have one kind: its segments were lent, and went back
pub record IsShared (kinds : List Rules) (image : List ℕ) (old new : Discipline) : Type 0 where
  pub sound : IsSoundImage kinds image
  pub allowed : terms_fault old.terms (pairs_of image) ≡ None
  pub shared : ¬ HaveOwnKinds (dicts_of image)
  pub asked : Discipline
  pub lent : AreLent old asked (pairs_of image)
  pub back : TookBack asked new (pairs_of image) []

-- why no store is loaded
abbrev pub IsStoreLoadFault : List Rules → List ℕ → Discipline → Discipline → StoreLoadFault → Type 0
IsStoreLoadFault kinds image old new (NotLoaded fault) = IsNotLoaded kinds image old new fault
IsStoreLoadFault kinds image old new SharedKind = IsShared kinds image old new
