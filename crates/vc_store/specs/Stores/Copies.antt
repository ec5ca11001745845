-- What an image tells of the dictionaries of a store, and which it can tell.
use Rattle.std.specs.Prelude.{◌≡◌, ℕ, ◌+◌, ◌<◌, ◌≤◌, ◌^◌, List, [], ◌∷◌, ◌++◌, Option, Some, None, IfSome, length, take}
use Rattle.std.specs.List.{AllByRecursion}
use Rattle.vc_dict.specs.Parts.{dict_by, heads_in}
use Rattle.vc_dict.specs.declared.dict.Dict.{Dict}
use Rattle.vc_image.specs.Save.{image_contents}
use Rattle.vc_image_check.specs.Bytes.Image.{image_of}
use Rattle.vc_store.specs.Stores.Stores.{best_of, dicts_of}
use Rattle.vc_store.specs.declared.stores.store.Store.{Store}

-- a dictionary with another number as its kind
abbrev pub of_kind : ℕ → Dict → Dict
of_kind kind d = dict_by d.method kind d.count d.current (heads_in d)

-- of the dictionary of a number, where there is one: its kind is the number behind it, since kinds count from 1 on
abbrev pub copy_at : ℕ → Option Dict → List Dict
copy_at n None = []
copy_at n (Some d) = of_kind (n + 1) d ∷ []

-- of dictionaries whose numbers count from one on
abbrev pub copies_from : ℕ → List (Option Dict) → List Dict
copies_from n [] = []
copies_from n (dict ∷ dicts) = copy_at n dict ++ copies_from (n + 1) dicts

-- an image can tell them: they are at most 256, and each kind is below 2 ^ 32
pub record AreFew (copies : List Dict) : Type 0 where
  pub count : length copies ≤ 256
  pub kinds : AllByRecursion (λ d. d.kind < 2 ^ 32) copies

-- a front of a text stands behind what was written before, where that is told
abbrev pub IsFrontWritten : List ℕ → Option (List ℕ) → Option (List ℕ) → Type 0
IsFrontWritten text before after = IfSome before (λ w. (k : ℕ) × (after ≡ Some (w ++ take k text)))

module _ {D : Type 0} {I : Type 0} {V : I → Type 0} where
  -- of a store's, in order of number
  abbrev pub copies_of : Store D I V → List Dict
  copies_of s = copies_from 0 (dicts_of s)

  -- its image
  abbrev pub image_of_store : Store D I V → List ℕ
  image_of_store s = image_of (image_contents (best_of s) (copies_of s))
