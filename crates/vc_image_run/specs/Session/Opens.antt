-- What is promised of a session over an image, and why there is none.
use Rattle.std.specs.Prelude.{◌≡◌, ◌≢◌, ℕ, ◌-◌, List, [], Bool, Option, Some, None, true, false, map, slice_set}
use Rattle.vc_best.specs.declared.best.Best.{Best}
use Rattle.vc_commands.specs.Held.{AreLabelsOf}
use Rattle.vc_commands.specs.Labels.{kept_of, name_of_tag}
use Rattle.vc_commands.specs.Tagged.{have_own_tags, name_by_tag}
use Rattle.vc_commands.specs.declared.dict.entry.DictEntry.{DictEntry}
use Rattle.vc_commands.specs.declared.region.labels.Labels.{Labels}
use Rattle.vc_dict.specs.declared.dict.Dict.{Dict}
use Rattle.vc_dtdisc.specs.Rules.{Rules}
use Rattle.vc_image.specs.Load.{IsLoaded, IsNotLoaded, pairs_of}
use Rattle.vc_image.specs.declared.fault.LoadFault.TheVariants.{OutOfMemory}
use Rattle.vc_image_check.specs.Bytes.Contents.{contents_of_image}
use Rattle.vc_image_check.specs.Dicts.Whole.{IsSoundImage}
use Rattle.vc_image.specs.Lends.Terms.{terms_fault}
use Rattle.vc_image_run.specs.Session.Copies.{copy_of}
use Rattle.vc_image_run.specs.Session.Entries.{entries_from}
use Rattle.vc_image_run.specs.Session.State.{image_state, region_of_segs}
use Rattle.vc_image_run.specs.declared.session.fault.OpenFault.{OpenFault}
use Rattle.vc_image_run.specs.declared.session.fault.OpenFault.TheVariants.{NoDiscipline, Load, Tags}
use Rattle.vc_model.specs.Discipline.{Discipline, Terms, armed_as}
use Rattle.vc_model.specs.Numbered.{at_number}
use Rattle.vc_region.specs.Cells.{rest_in}
use Rattle.vc_region.specs.Region.{blocks_of, region_with_labels}
use Rattle.vc_region.specs.declared.region.Region.TheVariants.{Best as OfBest}
use Rattle.vc_seg.specs.Shelf.{place_at}
use Rattle.vc_seg.specs.declared.shelf.Shelf.{Shelf}
use Rattle.vc_seg.specs.declared.shelf.ShelfPlace.TheVariants.{Here}
use Rattle.vc_steps.specs.Account.{Account, KeepsAccounts, SameAsked, accounts, state_of}
use Rattle.vc_steps.specs.Homes.{IsSessionOver, settled_over, slots_on, state_over}
use Rattle.vc_steps.specs.State.{State}
use Rattle.vc_steps.specs.declared.session.Session.{Session}

-- whether the blocks of an image have tags of their own
abbrev pub has_own_tags : List ℕ → Bool
has_own_tags image = have_own_tags (blocks_of (region_of_segs (contents_of_image image).segs))

-- why no session is made over a discipline
abbrev pub IsUnnamed : List Rules → List ℕ → Discipline → Discipline → OpenFault → Type 0
IsUnnamed kinds image old new NoDiscipline = ⊥
IsUnnamed kinds image old new (Load fault) = IsNotLoaded kinds image old new fault
IsUnnamed kinds image old new Tags = IsSoundImage kinds image × (has_own_tags image ≡ false)

module _ (kinds : List Rules) (place : ℕ) (image : List ℕ) (slots : List (Option Discipline)) where
  -- a state is that of an image over the discipline at a place of a shelf, and so are the accounts once all is closed
  pub record StandsForImage (state : State) (settled : List (Option Account)) : Type 0 where
    pub disc : Discipline
    pub here : at_number slots place ≡ Some (Some disc)
    pub sound : IsSoundImage kinds image
    pub allowed : terms_fault disc.terms (pairs_of image) ≡ None
    pub tags : has_own_tags image ≡ true
    pub state_is : state ≡ image_state (state_of kinds slots [] []) place disc.terms image
    -- each place has its discipline, with the segments out and the terms that it had, and no fault less; none was asked for an exception
    pub keeps : KeepsAccounts (accounts slots) settled
    pub asked : SameAsked (accounts slots) settled

  -- a discipline stood at a place, and stands there again; over it no session was made
  pub record StandsAgain (slots' : List (Option Discipline)) (why : OpenFault) : Type 0 where
    pub disc : Discipline
    pub here : at_number slots place ≡ Some (Some disc)
    pub after : Discipline
    pub again : slots' ≡ slice_set slots (place - 1) (Some after)
    pub cause : IsUnnamed kinds image (armed_as false disc) after why

  -- none stands at the place; or that; want of memory may come at any time
  abbrev pub IsNotOpened : List (Option Discipline) → OpenFault → Type 0
  IsNotOpened slots' NoDiscipline = (place_at slots place ≢ Here) × (slots' ≡ slots)
  IsNotOpened slots' (Load OutOfMemory) = Unit {0}
  IsNotOpened slots' why = StandsAgain slots' why

module _ {I : Type 0} {V : I → Type 0} where
  -- entries are those of copies of dictionaries, and labels name the blocks of a best region by their tags
  pub record AreParts (best : Best I V) (dicts : List Dict) (entries : List (List ℕ × DictEntry)) (labels : Labels) : Type 0 where
    pub entries_are : entries ≡ entries_from 0 (map copy_of dicts)
    pub named : AreLabelsOf (rest_in (OfBest best)) labels
    pub names : region_with_labels (name_of_tag labels) (rest_in (OfBest best)) ≡ region_with_labels name_by_tag (rest_in (OfBest best))
    pub kept : kept_of labels ≡ []
    pub own : have_own_tags (blocks_of (rest_in (OfBest best))) ≡ true

  -- or it has none
  abbrev pub HasNoParts : Best I V → OpenFault → Type 0
  HasNoParts best Tags = have_own_tags (blocks_of (rest_in (OfBest best))) ≡ false
  HasNoParts best NoDiscipline = ⊥
  HasNoParts best (Load OutOfMemory) = Unit {0}
  HasNoParts best (Load other) = ⊥

  -- an image was loaded over a discipline of those terms as a best region with these dictionaries
  pub record LoadsAs (kinds : List Rules) (terms : Terms) (image : List ℕ) (best : Best I V) (entries : List (List ℕ × DictEntry)) (labels : Labels) : Type 0 where
    pub dicts : List Dict
    pub loaded : IsLoaded kinds terms image (OfBest best) dicts
    pub parts : AreParts best dicts entries labels

  -- a session with what an image holds, which arms no discipline
  pub record OpensImage {D : Type 0} (meaning : (x : I) × V x → Discipline) (rules : D → Rules) (place : ℕ) (image : List ℕ) (shelf : Shelf I V) (kinds : List D) (shelf' : Shelf I V) (session : Session D I V) : Type 0 where
    pub stands : IsSessionOver meaning rules shelf' session kinds
    pub is : StandsForImage (map rules kinds) place image (slots_on meaning shelf) (state_over meaning (map rules kinds) shelf' session) (settled_over meaning shelf' session)
    pub unarmed : session.is_armed ≡ false
    pub spent : session.is_spent ≡ false
