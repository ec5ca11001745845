-- View paths by names: what is seen through a dictionary, and when one may view another.
use Rattle.std.specs.Prelude.{ℕ, List, [], ◌∷◌, Bool, find, false, not, Option, Some, None, is_some, length, map, nat_lt, zero, suc, ◌==◌, ◌&&◌, ◌||◌, if◌then◌else◌}
use Rattle.std.specs.List.{list_any}
use Rattle.std.specs.Option.{option_and_then}
use Rattle.std.specs.Str.{bytes_eq}
use Rattle.vc_base.specs.Methods.{method_number}
use Rattle.vc_dtdisc.specs.Objects.{Object}
use Rattle.vc_dtdisc.specs.Rules.{Rules}
use Rattle.vc_objects.specs.Objects.{Dictionary}
use Rattle.vc_paths.specs.declared.fault.ViewFault.{ViewFault}
use Rattle.vc_paths.specs.declared.fault.ViewFault.TheVariants.{Cycle, Differs, TooDeep}
use Rattle.vc_paths.specs.Links.{path_limit}
use Rattle.vc_paths.specs.Visible.{Seen, visible_objects}
use Rattle.vc_script.specs.declared.refusal.Refusal.{Refusal}
use Rattle.vc_script.specs.declared.refusal.Refusal.TheVariants.{ViewDiffers, ViewCycle, ViewTooDeep}

-- a dictionary that is open: its name, the region that it lies in, the number of its kind, from 1 on, the dictionary that it views, if any, and what it is by its method
pub record DictHome : Type 0 where
  pub name : List ℕ
  pub home : List ℕ
  pub kind : ℕ
  pub views : Option (List ℕ)
  pub dict : Dictionary

-- whether a dictionary has that name, and the one that has it
abbrev pub is_dict : List ℕ → DictHome → Bool
is_dict d h = bytes_eq h.name d

abbrev pub dict_named : List ℕ → List DictHome → Option DictHome
dict_named d dicts = find (is_dict d) dicts

-- the dictionary that a dictionary views, if any
abbrev pub below_in : List DictHome → DictHome → Option DictHome
below_in dicts d = option_and_then (λ e. dict_named e dicts) d.views

-- a path goes on behind a view, or ends
abbrev pub onward_in : (DictHome → List DictHome) → Option DictHome → List DictHome
onward_in path None = []
onward_in path (Some e) = path e

-- a dictionary, what it views, and so on: the first so many of them
abbrev pub path_to : ℕ → List DictHome → DictHome → List DictHome
path_to zero dicts d = []
path_to (suc most) dicts d = d ∷ onward_in (path_to most dicts) (below_in dicts d)

-- the path of a dictionary
abbrev pub path_in : List DictHome → DictHome → List DictHome
path_in dicts d = path_to path_limit dicts d

-- an object of a dictionary as it is seen on a path, and the objects of a dictionary
abbrev pub seen_under : List ℕ → Object → Seen (List ℕ)
seen_under name o = record { dict = name; at = o.at; bytes = o.bytes }

abbrev pub named_layer : DictHome → List (Seen (List ℕ))
named_layer d = map (seen_under d.name) d.dict.objects

-- what is seen through a dictionary, by its kind's rules
abbrev pub seen_through : Rules → List DictHome → DictHome → List (Seen (List ℕ))
seen_through rules dicts d = visible_objects d.dict.method rules (map named_layer (path_in dicts d))

-- whether a dictionary views the one of that name, and whether some dictionary does
abbrev pub is_viewed_name : List ℕ → Option (List ℕ) → Bool
is_viewed_name name None = false
is_viewed_name name (Some other) = bytes_eq other name

abbrev pub views_it : List ℕ → DictHome → Bool
views_it name d = is_viewed_name name d.views

abbrev pub is_viewed_in : List DictHome → List ℕ → Bool
is_viewed_in dicts name = list_any (views_it name) dicts

-- whether another dictionary views this one, or it views one
abbrev pub is_linked_in : List DictHome → DictHome → Bool
is_linked_in dicts d = is_viewed_in dicts d.name || is_some d.views

-- the dictionaries, where the one of that name views another one, or none
abbrev pub with_view : List ℕ → Option (List ℕ) → List DictHome → List DictHome
with_view name views [] = []
with_view name views (h ∷ hs) =
    if is_dict name h then (record h { views = views }) ∷ hs else h ∷ with_view name views hs

-- whether two have one method, and kinds of one number
abbrev pub are_like : DictHome → DictHome → Bool
are_like d e = method_number d.dict.method == method_number e.dict.method && d.kind == e.kind

-- whether some path has more dictionaries than a path may have
abbrev pub is_too_deep : List DictHome → Bool
is_too_deep dicts = list_any (λ d. nat_lt path_limit (length (path_to (suc path_limit) dicts d))) dicts

-- why the first can't view the second, if it can't; what it views now doesn't count
abbrev pub view_refusal : List DictHome → DictHome → DictHome → Option Refusal
view_refusal dicts d e =
    if not (are_like d e) then Some ViewDiffers
    else if list_any (is_dict d.name) (path_in dicts e) then Some ViewCycle
    else if is_too_deep (with_view d.name (Some e.name) dicts) then Some ViewTooDeep
    else None

-- the refusal of a fault of a view
abbrev pub refusal_of_view : ViewFault → Refusal
refusal_of_view Differs = ViewDiffers
refusal_of_view Cycle = ViewCycle
refusal_of_view TooDeep = ViewTooDeep
