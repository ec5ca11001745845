-- The dictionaries of an image as those of a session.
use Rattle.std.specs.Prelude.{ℕ, ◌+◌, List, [], ◌∷◌}
use Rattle.vc_commands.specs.declared.dict.entry.DictEntry.{DictEntry}
use Rattle.vc_dict.specs.declared.dict.Dict.{Dict}
use Rattle.vc_image_run.specs.Session.Names.{dict_name, region_name}

-- a dictionary under its name, in the region, with its number on view paths, from 0 on
abbrev pub entry_of : ℕ → Dict → List ℕ × DictEntry
entry_of i d = (dict_name (i + 1), record { home = region_name; number = i; dict = d })

-- dictionaries, of which the first has that number
abbrev pub entries_from : ℕ → List Dict → List (List ℕ × DictEntry)
entries_from i [] = []
entries_from i (d ∷ ds) = entry_of i d ∷ entries_from (i + 1) ds
