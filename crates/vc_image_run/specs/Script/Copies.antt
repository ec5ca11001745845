-- Copies of the dictionaries of a session.
use Rattle.std.specs.Prelude.{ℕ, ◌<◌, ◌^◌, List, [], ◌∷◌, if◌then◌else◌}
use Rattle.std.specs.List.{AllByRecursion, flat_map}
use Rattle.std.specs.Str.{bytes_eq}
use Rattle.vc_commands.specs.declared.dict.entry.DictEntry.{DictEntry}
use Rattle.vc_dict.specs.declared.dict.Dict.{Dict}
use Rattle.vc_image_run.specs.Session.Copies.{copy_of}

-- a copy of the dictionary of an entry, where it lies in the region of that name
abbrev pub copies_of : List ℕ → DictEntry → List Dict
copies_of region entry = if bytes_eq entry.home region then copy_of entry.dict ∷ [] else []

-- those of all, in order of opening
abbrev pub copies_in : List ℕ → List (List ℕ × DictEntry) → List Dict
copies_in region entries = flat_map (λ e. copies_of region e.1) entries

-- the number of the kind of each has a place in an image
abbrev pub KindsFit : List Dict → Type 0
KindsFit dicts = AllByRecursion (λ (d : Dict). d.kind < 2 ^ 32) dicts
