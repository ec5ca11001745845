-- A session as it is stored, and a dictionary of it.
use Rattle.vc_base.proofs.Common.{◌≡◌, Bool, ℕ, false, List, map, length, is_some, slice_get, Some, option_map, position, bytes_eq, sym, ap, ◌∙◌, none-some, keys_of, lookup, values_of, Discipline}
use Rattle.vc_dtdisc.specs.Rules.{Gone, Rules}
use Rattle.vc_paths.specs.Links.{Links}
use Rattle.vc_seg.specs.declared.shelf.Shelf.{Shelf}
use Rattle.vc_commands.specs.Held.{Held, home_of}
use Rattle.vc_commands.specs.Home.{is_home}
use Rattle.vc_commands.specs.declared.dict.entry.DictEntry.{DictEntry}
use Rattle.vc_commands.specs.declared.region.home.HomeEntry.{HomeEntry}
use Rattle.vc_commands.specs.declared.region.labels.Labels.{Labels}
use Rattle.vc_commands.proofs.Firsts.{IsFirst, find-none}
use Rattle.vc_views.specs.Numbers.{AreLinked, views_by}
use Rattle.vc_views.specs.Views.{is_dict}
use Rattle.vc_steps.specs.Account.{IsSession, state_of}
use Rattle.vc_steps.specs.DictHomes.{AreDicts, IsDictOf, dicts_in}
use Rattle.vc_steps.specs.Homes.{IsSessionOver, held_all, slots_on}
use Rattle.vc_steps.specs.State.{State}
use Rattle.vc_steps.specs.Told.{gone_in, rules_in}
use Rattle.vc_steps.specs.declared.session.Session.{Session}
use Rattle.vc_steps.proofs.DictChange.{dict-at}
use Rattle.vc_steps.proofs.DictEnd.{home-held}
use Rattle.vc_steps.proofs.DictByName.{first-dict, pair-read}
use Rattle.vc_views.proofs.Firsts.{key-at}
use Rattle.vc_steps.proofs.DictsStay.{Entry, Vs}
use Rattle.vc_steps.proofs.Helds.{any-named}
use Rattle.vc_steps.proofs.Sessions.{Slots}

-- a session over regions and dictionaries as they are stored, what its kinds were told of, and what holds of it
pub record SessionHere {I : Type 0} {V : I → Type 0} (meaning : (x : I) × V x → Discipline) : Type 0 where
  pub kinds : List Rules
  pub armed : Bool
  pub slots : Slots
  pub homes : List (List ℕ × HomeEntry I V)
  pub labels : List Labels
  pub links : Links
  pub es : List Entry
  pub gone : List Gone
  pub named : length labels ≡ length homes
  pub held : IsSession armed slots (held_all meaning homes labels)
  pub dicts : AreDicts kinds (held_all meaning homes labels) es
  pub are : AreLinked links es

-- one that stands over a shelf and kinds
abbrev pub session_here : {I : Type 0} {V : I → Type 0} {D : Type 0} (meaning : (x : I) × V x → Discipline) (rules : D → Rules) (gone : D → Gone) (shelf : Shelf I V) (session : Session D I V) (kinds : List D)
    → IsSessionOver meaning rules shelf session kinds → SessionHere meaning
session_here meaning rules gone shelf session kinds is = record {
  kinds = rules_in rules kinds;
  armed = session.is_armed;
  slots = slots_on meaning shelf;
  homes = session.homes.entries;
  labels = session.labels.items;
  links = session.paths;
  es = session.dicts.entries;
  gone = gone_in gone kinds;
  named = is.regions.named;
  held = is.regions.held;
  dicts = is.dicts;
  are = is.views;
}

-- what a session stands for: the rules of its kinds, the disciplines on its shelf, its regions, its dictionaries, what each of these views, and its state
pub record SessionParts : Type 0 where
  pub kinds : List Rules
  pub slots : Slots
  pub hs : List Held
  pub es : List Entry
  pub vs : Vs
  pub s : State

-- the dictionary of a name and an index
pub record DictAt (es : List Entry) : Type 0 where
  pub name : List ℕ
  pub i : ℕ
  pub v : DictEntry
  pub index : position (bytes_eq name) (keys_of es) ≡ Some i
  pub value : slice_get (values_of es) i ≡ Some v

abbrev pub entry_at : {es : List Entry} → DictAt es → Entry
entry_at d = (d.name, d.v)

-- it stands there
pub stands-at : (es : List Entry) (d : DictAt es) → slice_get es d.i ≡ Some (entry_at d)
stands-at es d = pair-read es d.i d.name d.v (key-at (keys_of es) d.name d.i d.index) d.value

module _ {I : Type 0} {V : I → Type 0} {meaning : (x : I) × V x → Discipline} (here : SessionHere meaning) where
  -- its regions, what each of its dictionaries views, and its state
  abbrev pub helds : List Held
  helds = held_all meaning here.homes here.labels

  abbrev pub views : Vs
  views = views_by here.links here.es

  abbrev pub state_here : State
  state_here = state_of here.kinds here.slots helds (dicts_in helds views here.es)

  -- the same, to be opened at the head of a proof
  abbrev pub parts : SessionParts
  parts = record { kinds = here.kinds; slots = here.slots; hs = helds; es = here.es; vs = views; s = state_here }

  -- a dictionary is whole in its region, by its kind
  module _ (i : ℕ) (e : Entry) (there : slice_get here.es i ≡ Some e) where
    abbrev pub whole_in : IsDictOf here.kinds helds e
    whole_in = dict-at here.kinds helds here.es i e there here.dicts

    -- the region is open
    pub home-open : is_some (lookup (bytes_eq e.1.home) here.homes) ≡ false → ⊥
    home-open none =
        none-some (home_of whole_in.home)
        (sym (find-none (is_home e.1.home) (map home_of helds) (any-named meaning here.homes here.labels e.1.home here.named ∙ none))
        ∙ (home-held helds e.1.home ∙ ap (option_map home_of) whole_in.found))

  module _ (own : DictAt here.es) where
    pub first-at : IsFirst (is_dict own.name) (dicts_in helds views here.es) own.i
    first-at = first-dict helds views here.es own.name own.i own.index

    abbrev pub whole_at : IsDictOf here.kinds helds (entry_at own)
    whole_at = whole_in own.i (entry_at own) (stands-at here.es own)
