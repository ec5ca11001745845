-- Why no dictionary is opened in the region at an index.
use Rattle.vc_base.proofs.Common.{◌≡◌, ℕ, ◌<◌, Bool, true, false, cond, List, [], length, is_some, IfSome, nat_le, slice_get, Some, None, Option, bytes_eq, ap, ◌∙◌, arith, length-map, list_any, keys_of, lookup, values_of, Discipline}
use Rattle.vc_dtdisc.specs.Rules.{Rules}
use Rattle.vc_paths.specs.Links.{Links}
use Rattle.vc_region.specs.Cells.{rest_in}
use Rattle.vc_region.specs.Region.{is_best}
use Rattle.vc_script.specs.declared.refusal.Refusal.{Refusal}
use Rattle.vc_script.specs.declared.refusal.Refusal.TheVariants as why
use Rattle.vc_commands.specs.Held.{Held, home_of}
use Rattle.vc_commands.specs.Labels.{name_of_tag}
use Rattle.vc_commands.specs.RegionRun.{held_of}
use Rattle.vc_commands.specs.declared.region.home.HomeEntry.{HomeEntry}
use Rattle.vc_commands.specs.declared.region.labels.Labels.{Labels}
use Rattle.vc_views.specs.Numbers.{views_by}
use Rattle.vc_views.specs.Views.{is_dict}
use Rattle.vc_steps.specs.Account.{state_of}
use Rattle.vc_steps.specs.DictHomes.{dict_home, dicts_in}
use Rattle.vc_steps.specs.Dicts.{dict_refused, is_kind}
use Rattle.vc_steps.specs.Homes.{held_all}
use Rattle.vc_steps.specs.State.{State}
use Rattle.vc_steps.proofs.DictByName.{any-dict}
use Rattle.vc_steps.proofs.BestStays.{relabelled-best}
use Rattle.vc_steps.proofs.DictRefusals.{refused-by, refused-exists, refused-kind, refused-method}
use Rattle.vc_steps.proofs.DictsStay.{Entry}
use Rattle.vc_steps.proofs.SessionEnd.{if_some-to}
use Rattle.vc_steps.proofs.Helds.{held-read, some-at}

-- the regions and dictionaries of a session, the index of a region, and the name and the number of kind of what is to be opened there
pub record AskedAt {I : Type 0} {V : I → Type 0} (homes : List (List ℕ × HomeEntry I V)) (labels : List Labels) : Type 0 where
  pub kinds : List Rules
  pub links : Links
  pub ds : List Entry
  pub name : List ℕ
  pub j : ℕ
  pub kind : ℕ
  pub named : length labels ≡ length homes
  pub within : j < length homes

module _ {I : Type 0} {V : I → Type 0} (meaning : (x : I) × V x → Discipline) (homes : List (List ℕ × HomeEntry I V)) (labels : List Labels) (a : AskedAt homes labels) where
  abbrev helds : List Held
  helds = held_all meaning homes labels

  abbrev s : State
  s = state_of a.kinds [] helds (dicts_in helds (views_by a.links a.ds) a.ds)

  -- an answer is the reason for that region
  abbrev pub IsWhy : Option Refusal → Type 0
  IsWhy refusal = IfSome (slice_get helds a.j) (λ h. refusal ≡ dict_refused s (home_of h) a.name a.kind)

  name_at : (r : List ℕ) × (slice_get (keys_of homes) a.j ≡ Some r)
  name_at = some-at (keys_of homes) a.j (omega (arith, length-map homes (λ (e : List ℕ × HomeEntry I V). e.0), a.within))

  home_at : (v : HomeEntry I V) × (slice_get (values_of homes) a.j ≡ Some v)
  home_at = some-at (values_of homes) a.j (omega (arith, length-map homes (λ (e : List ℕ × HomeEntry I V). e.1), a.within))

  labels_at : (l : Labels) × (slice_get labels a.j ≡ Some l)
  labels_at = some-at labels a.j (omega (arith, a.named, a.within))

  abbrev region : HomeEntry I V → Held
  region v = held_of meaning name_at.0 v labels_at.0

  is-why : (refusal : Option Refusal) (v : HomeEntry I V) → slice_get (values_of homes) a.j ≡ Some v → refusal ≡ dict_refused s (home_of (region v)) a.name a.kind → IsWhy refusal
  is-why refusal v value is =
      if_some-to (λ (q : Held). refusal ≡ dict_refused s (home_of q) a.name a.kind) (slice_get helds a.j) (region v)
      (held-read meaning homes labels a.j name_at.0 v labels_at.0 name_at.1 value labels_at.1) is

  exists : (t : Bool) → is_some (lookup (bytes_eq a.name) a.ds) ≡ t → list_any (is_dict a.name) s.dicts ≡ t
  exists t is = any-dict helds (views_by a.links a.ds) a.ds a.name ∙ is

  pub why-exists : is_some (lookup (bytes_eq a.name) a.ds) ≡ true → IsWhy (Some why.DictionaryExists)
  why-exists is = is-why (Some why.DictionaryExists) home_at.0 home_at.1 (refused-exists s (home_of (region home_at.0)) a.name a.kind (exists true is))

  module _ (new : is_some (lookup (bytes_eq a.name) a.ds) ≡ false) where
    pub why-kind : is_kind s a.kind ≡ false → IsWhy (Some why.NoSuchKind)
    why-kind is = is-why (Some why.NoSuchKind) home_at.0 home_at.1 (refused-kind s (home_of (region home_at.0)) a.name a.kind (exists false new) is)

    module _ (kind : is_kind s a.kind ≡ true) (v : HomeEntry I V) (value : slice_get (values_of homes) a.j ≡ Some v) where
      best : (t : Bool) → is_best (rest_in v.region) ≡ t → is_best (home_of (region v)).region ≡ t
      best t is = relabelled-best (name_of_tag labels_at.0) (rest_in v.region) ∙ is

      pub why-method : is_best (rest_in v.region) ≡ false → IsWhy (Some why.WrongMethod)
      why-method is = is-why (Some why.WrongMethod) v value (refused-method s (home_of (region v)) a.name a.kind (exists false new) kind (best false is))

      -- and where there is room for one more, or not
      pub why-full : is_best (rest_in v.region) ≡ true → (full : Bool) → nat_le 256 (length a.ds) ≡ full → IsWhy (cond full (Some why.TooManyDictionaries) None)
      why-full is full many =
          is-why (cond full (Some why.TooManyDictionaries) None) v value
          (refused-by s (home_of (region v)) a.name a.kind (exists false new) kind (best true is) full (ap (nat_le 256) (length-map a.ds (dict_home helds (views_by a.links a.ds))) ∙ many))
