-- The numbers of open dictionaries on view paths, and what they view by name.
use Rattle.std.specs.Prelude.{◌≡◌, ◌||◌, ℕ, Bool, false, is_some, List, Option, Some, option_map}
use Rattle.std.specs.Option.{option_and_then}
use Rattle.vc_objects.specs.Objects.{Dictionary}
use Rattle.vc_paths.specs.Links.{Links, below, is_viewed}
use Rattle.vc_commands.specs.declared.dict.entry.DictEntry.{DictEntry}
use Rattle.vc_views.specs.Dicts.{HaveViewNumbers, entry_numbered}
use Rattle.vc_script.specs.declared.command.Command.{Command}
use Rattle.vc_script.specs.Target.{target_of}
use Rattle.vc_script.specs.declared.target.Target.{Target}
use Rattle.vc_script.specs.declared.target.Target.TheVariants.{Dict}
use Rattle.vc_script.specs.declared.target.Work.{Work}
use Rattle.vc_script.specs.declared.target.Work.TheVariants.{End, Turn}
use Rattle.vc_views.specs.Views.{DictHome}

-- the name of the dictionary of a number, where there is one
abbrev pub name_numbered : List (List ℕ × DictEntry) → ℕ → Option (List ℕ)
name_numbered entries n = option_map (λ e. e.0) (entry_numbered n entries)

-- what the dictionary of a number views, by name
abbrev pub views_by : Links → List (List ℕ × DictEntry) → ℕ → Option (List ℕ)
views_by links entries n = option_and_then (name_numbered entries) (below links n)

-- a dictionary under its name: `over` tells what each is over the cells of its region, and `views` what a number views, by name
abbrev pub home_by : (List ℕ × DictEntry → Dictionary) → (ℕ → Option (List ℕ)) → List ℕ × DictEntry → DictHome
home_by over views e =
    record { name = e.0; home = e.1.home; kind = e.1.dict.kind; views = views e.1.number; dict = over e }

-- from a number to another one there is a link: both are those of dictionaries, of one method and one kind
pub record IsViewLink (entries : List (List ℕ × DictEntry)) (n m : ℕ) : Type 0 where
  pub upper : List ℕ × DictEntry
  pub lower : List ℕ × DictEntry
  pub upper_is : entry_numbered n entries ≡ Some upper
  pub lower_is : entry_numbered m entries ≡ Some lower
  pub method : lower.1.dict.method ≡ upper.1.dict.method
  pub kind : lower.1.dict.kind ≡ upper.1.dict.kind

-- the dictionaries have numbers of their own, and links are between them
pub record AreLinked (links : Links) (entries : List (List ℕ × DictEntry)) : Type 0 where
  pub numbered : HaveViewNumbers entries
  pub linked : (n m : ℕ) → below links n ≡ Some m → IsViewLink entries n m

-- whether a view stands against what is done with the dictionary of a number: none is ended that another one views, and none turned that is viewed or views another one
abbrev pub bars : Links → ℕ → Work → Bool
bars links n End = is_viewed links n
bars links n Turn = is_viewed links n || is_some (below links n)
bars links n work = false

abbrev pub bars_at : Links → ℕ → Target → Bool
bars_at links n (Dict d work) = bars links n work
bars_at links n target = false

-- whether one stands against a command on it
abbrev pub is_barred : Links → ℕ → Command → Bool
is_barred links n command = bars_at links n (target_of command)
