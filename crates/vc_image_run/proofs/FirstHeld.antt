-- The first open region of a session, and the dictionaries that lie in it, in the state that the session stands for.
use Rattle.vc_base.proofs.Common.{IsSome, IsSomeAnd, AllByRecursion, ◌≡◌, ℕ, ◌≤◌, Bool, true, false, List, [], ◌∷◌, map, length, filter, slice_get, Some, None, Option, option_map, bytes_eq, sym, refl, ap, ◌∙◌, subst, arith, same_Some, none-some, slice_get-map, Discipline, Blocks}
use Rattle.vc_base.proofs.Texts.{bytes_eq-swapped}
use Rattle.vc_dtdisc.specs.Rules.{Rules}
use Rattle.vc_seg.specs.declared.shelf.Shelf.{Shelf}
use Rattle.vc_commands.specs.declared.dict.entry.DictEntry.{DictEntry}
use Rattle.vc_commands.specs.declared.region.home.HomeEntry.{HomeEntry}
use Rattle.vc_commands.specs.declared.region.labels.Labels.{Labels}
use Rattle.vc_commands.specs.Held.{Held, home_of}
use Rattle.vc_commands.specs.Labels.{name_of_tag}
use Rattle.vc_commands.specs.RegionRun.{held_of}
use Rattle.vc_dict.specs.declared.dict.Dict.{Dict}
use Rattle.vc_dict.proofs.HeadLemmas.{dict-again}
use Rattle.vc_dict.specs.Listed.{holders_of}
use Rattle.vc_image.specs.Load.{IsWholeAmong, dicts_of}
use Rattle.vc_image.specs.Save.{contents_by, image_contents, image_in}
use Rattle.vc_image_check.specs.Bytes.Contents.{contents_of_image}
use Rattle.vc_image_check.specs.Bytes.Image.{ImageContents, image_of}
use Rattle.vc_image.proofs.Begun.{front-in}
use Rattle.vc_image.proofs.Joined.{dicts-in, read-in}
use Rattle.vc_image.specs.Saved.Saved.{AreReadableIn}
use Rattle.vc_image_run.proofs.Copied.{copies-fewer, few-entries}
use Rattle.vc_image_run.specs.Script.Copies.{KindsFit, copies_in}
use Rattle.vc_image_run.specs.Session.Copies.{copy_of}
use Rattle.vc_image_run.specs.Session.State.{cells_of_segs, region_of_segs}
use Rattle.vc_commands.specs.Home.{Home, Label}
use Rattle.vc_image_run.specs.Script.Found.{HasOtherFirst, IsFirstImage}
use Rattle.vc_image_run.specs.Script.Image.{IsImageOf, dicts_at}
use Rattle.vc_image_run.specs.Script.Promises.{IsOtherFirst}
use Rattle.vc_objects.specs.Objects.{Dictionary}
use Rattle.vc_objects.specs.Parts.{IsWhole, dictionary_of}
use Rattle.vc_region.specs.Cells.{cells_in, rest_in}
use Rattle.vc_region.specs.OfBest.{best_in}
use Rattle.vc_region.specs.Region as model
use Rattle.vc_region.specs.Region.{is_best, region_with_labels}
use Rattle.vc_region.specs.declared.region.Region.{Region}
use Rattle.vc_region.specs.declared.region.Region.TheVariants.{Best as OfBest, Pool, Last, Debug, Profile}
use Rattle.vc_steps.specs.Account.{held_named}
use Rattle.vc_steps.specs.DictHomes.{AreDicts, IsDictOf, cells_named, cells_of_held, dicts_in}
use Rattle.vc_steps.specs.Homes.{IsSessionOver, held_all, held_in_session, state_over}
use Rattle.vc_steps.specs.State.{State}
use Rattle.vc_steps.specs.Told.{rules_in}
use Rattle.vc_steps.specs.declared.session.Session.{Session}
use Rattle.vc_views.specs.Numbers.{views_by}
use Rattle.vc_views.specs.Views.{DictHome}

abbrev kind_and_what : DictHome → ℕ × Dictionary
kind_and_what h = (h.kind, h.dict)

abbrev what_in : Blocks → Dict → ℕ × Dictionary
what_in cells d = (d.kind, dictionary_of d cells)

module _ {I : Type 0} {V : I → Type 0} (meaning : (x : I) × V x → Discipline) where
  -- with the names of its blocks
  pub first-held : (homes : List (List ℕ × HomeEntry I V)) (labels : List Labels) (e : List ℕ × HomeEntry I V) → length labels ≡ length homes → slice_get homes 0 ≡ Some e → (l : Labels) × (slice_get (held_all meaning homes labels) 0 ≡ Some (held_of meaning e.0 e.1 l))
  first-held [] labels e same at = absurd (none-some e at)
  first-held (x ∷ xs) [] e same at = absurd (omega (arith, same))
  first-held (x ∷ xs) (l ∷ ls) e same at = (l, ap (λ (y : List ℕ × HomeEntry I V). Some (held_of meaning y.0 y.1 l)) (same_Some x e at))

  module _ (hs : List Held) (views : ℕ → Option (List ℕ)) (e : List ℕ × HomeEntry I V) (l : Labels) (at : slice_get hs 0 ≡ Some (held_of meaning e.0 e.1 l)) where
    first-found : (gs : List Held) (r : List ℕ) → slice_get gs 0 ≡ Some (held_of meaning e.0 e.1 l) → bytes_eq e.0 r ≡ true → held_named gs (Some r) ≡ Some (held_of meaning e.0 e.1 l)
    first-found [] r is named = absurd (none-some (held_of meaning e.0 e.1 l) is)
    first-found (g ∷ gs) r is named =
        let same = same_Some g (held_of meaning e.0 e.1 l) is in
        rw (same, named) refl

    -- a dictionary that lies in it, and its copy
    record Lies (kinds : List Rules) (x : List ℕ × DictEntry) : Type 0 where
      cells : cells_named hs x.1.home ≡ cells_in e.1.region
      copy : copy_of x.1.dict ≡ x.1.dict
      among : IsWholeAmong kinds (cells_in e.1.region) x.1.dict

    lies : (kinds : List Rules) (x : List ℕ × DictEntry) → IsDictOf kinds hs x → bytes_eq x.1.home e.0 ≡ true → Lies kinds x
    lies kinds x is named =
        let found = first-found hs x.1.home at (bytes_eq-swapped e.0 x.1.home ∙ named) in
        let held : is.home ≡ held_of meaning e.0 e.1 l = same_Some is.home (held_of meaning e.0 e.1 l) (sym is.found ∙ found) in
        let whole : IsWhole is.rules x.1.dict (cells_in e.1.region) = subst (λ (h : Held). IsWhole is.rules x.1.dict h.cells) held is.whole in
        record {
          cells = ap (λ (o : Option Held). cells_of_held o) found;
          copy = dict-again is.rules x.1.dict (cells_in e.1.region) (holders_of x.1.dict (cells_in e.1.region)) whole.stands;
          among = record { rules = is.rules; kind = is.kind; whole = whole };
        }

    -- the copies are whole in it
    pub copies-whole : (kinds : List Rules) (es : List (List ℕ × DictEntry)) → AreDicts kinds hs es → AllByRecursion (IsWholeAmong kinds (cells_in e.1.region)) (copies_in e.0 es)
    copies-whole kinds [] all = tt
    copies-whole kinds (x ∷ xs) all = by (bytes_eq x.1.home e.0) refl (copies-whole kinds xs all.2)
      where
        by : (t : Bool) → bytes_eq x.1.home e.0 ≡ t → AllByRecursion (IsWholeAmong kinds (cells_in e.1.region)) (copies_in e.0 xs) → AllByRecursion (IsWholeAmong kinds (cells_in e.1.region)) (copies_in e.0 (x ∷ xs))
        by false is rest = rw is rest
        by true is rest =
            let there = lies kinds x all.0 is in
            rw is (subst (IsWholeAmong kinds (cells_in e.1.region)) (sym there.copy) there.among, rest)

    -- the dictionaries in it, by the copies
    pub each-copy : (kinds : List Rules) (es : List (List ℕ × DictEntry)) → AreDicts kinds hs es → map (what_in (cells_in e.1.region)) (copies_in e.0 es) ≡ map kind_and_what (filter (λ (h : DictHome). bytes_eq h.home e.0) (dicts_in hs views es))
    each-copy kinds [] all = refl
    each-copy kinds (x ∷ xs) all = by (bytes_eq x.1.home e.0) refl (each-copy kinds xs all.2)
      where
        by : (t : Bool) → bytes_eq x.1.home e.0 ≡ t → map (what_in (cells_in e.1.region)) (copies_in e.0 xs) ≡ map kind_and_what (filter (λ (h : DictHome). bytes_eq h.home e.0) (dicts_in hs views xs)) → map (what_in (cells_in e.1.region)) (copies_in e.0 (x ∷ xs)) ≡ map kind_and_what (filter (λ (h : DictHome). bytes_eq h.home e.0) (dicts_in hs views (x ∷ xs)))
        by false is rest = rw is rest
        by true is rest =
            let there = lies kinds x all.0 is in
            rw is
            (ap (λ (d : Dict). what_in (cells_in e.1.region) d ∷ map (what_in (cells_in e.1.region)) (copies_in e.0 xs)) there.copy
            ∙ (ap (λ ds. what_in (cells_in e.1.region) x.1.dict ∷ ds) rest
            ∙ ap (λ (b : Blocks). what_in b x.1.dict ∷ map kind_and_what (filter (λ (h : DictHome). bytes_eq h.home e.0) (dicts_in hs views xs))) (sym there.cells)))

-- the image of a region with dictionaries is one of a state whose first region it is, and these lie in it
module _ {I : Type 0} {V : I → Type 0} (s : State) (home : Home) (first : slice_get s.homes 0 ≡ Some home) (name_by : ℕ → Label) (kinds : List Rules) (dicts : List Dict) (few : length dicts ≤ 256) (numbers : KindsFit dicts) where
  pub image-of_region : (r : Region I V) → IsSome (best_in r) → AllByRecursion (IsWholeAmong kinds (cells_in r)) dicts → region_with_labels name_by (rest_in r) ≡ home.region → map (what_in (cells_in r)) dicts ≡ dicts_at home.name s → IsImageOf s (image_in r dicts)
  image-of_region (OfBest b) some whole region same =
      let image = image_in (OfBest b) dicts in
      let can : AreReadableIn kinds (OfBest b) dicts = record { few = few; numbers = numbers; each = whole } in
      let read : contents_of_image image ≡ image_contents b dicts = read-in kinds (OfBest b) dicts can in
      let again : dicts_of image ≡ dicts = dicts-in kinds (OfBest b) dicts can in
      record {
        home = home;
        first = first;
        front = front-in (OfBest b) dicts some few;
        is = λ i. image_of (contents_by (sym read i).root (sym read i).segs (sym again i));
        name_of = name_by;
        blocks = ap (λ (c : ImageContents). region_with_labels name_by (region_of_segs c.segs)) read ∙ region;
        dicts = (λ i. map (what_in (cells_of_segs (read i).segs)) (again i)) ∙ same;
      }
  image-of_region (Pool p) some whole region same = absurd (cc)
  image-of_region (Last l) some whole region same = absurd (cc)
  image-of_region (Debug d) some whole region same = absurd (cc)
  image-of_region (Profile p) some whole region same = absurd (cc)

module _ {I : Type 0} {V : I → Type 0} {D : Type 0} (meaning : (x : I) × V x → Discipline) (rules : D → Rules) (shelf : Shelf I V) (session : Session D I V) (kinds : List D) (over : IsSessionOver meaning rules shelf session kinds) where
  abbrev held : List Held
  held = held_in_session meaning session

  abbrev state : State
  state = state_over meaning (rules_in rules kinds) shelf session

  -- the first region is that of the state, and the copies are whole and the dictionaries in it
  record IsFirst (e : List ℕ × HomeEntry I V) : Type 0 where
    home : Home
    first : slice_get state.homes 0 ≡ Some home
    name_of : ℕ → Label
    region : region_with_labels name_of (rest_in e.1.region) ≡ home.region
    whole : AllByRecursion (IsWholeAmong (rules_in rules kinds) (cells_in e.1.region)) (copies_in e.0 session.dicts.entries)
    dicts : map (what_in (cells_in e.1.region)) (copies_in e.0 session.dicts.entries) ≡ dicts_at home.name state

  first-of : (e : List ℕ × HomeEntry I V) → slice_get session.homes.entries 0 ≡ Some e → IsFirst e
  first-of e at =
      let first = first-held meaning session.homes.entries session.labels.items e over.regions.named at in
      let views = views_by session.paths session.dicts.entries in
      record {
        home = home_of (held_of meaning e.0 e.1 first.0);
        first = slice_get-map home_of held 0 ∙ ap (option_map home_of) first.1;
        name_of = name_of_tag first.0;
        region = refl;
        whole = copies-whole meaning held views e first.0 first.1 (rules_in rules kinds) session.dicts.entries over.dicts;
        dicts = each-copy meaning held views e first.0 first.1 (rules_in rules kinds) session.dicts.entries over.dicts;
      }

  pub image-of : (image : List ℕ) → IsFirstImage session image → IsImageOf state image
  image-of image found =
      let e = found.entry in
      let copies = copies_in e.0 session.dicts.entries in
      let f = first-of e found.first in
      let fewer = copies-fewer e.0 session.dicts.entries in
      let few = few-entries session.dicts.entries over.views.numbered in
      subst (IsImageOf state) (sym found.image_is)
      (image-of_region state f.home f.first f.name_of (rules_in rules kinds) copies (omega (arith, fewer, few)) found.kinds_fit e.1.region found.best f.whole f.region f.dicts)

  pub none-open : session.homes.entries ≡ [] → state.homes ≡ []
  none-open none = ap (λ (es : List (List ℕ × HomeEntry I V)). map home_of (held_all meaning es session.labels.items)) none

  -- a region of another method than best
  other-best : (r : Region I V) → best_in r ≡ None → is_best (rest_in r) ≡ false
  other-best (OfBest b) none = absurd (none-some b (sym none))
  other-best (Pool p) none = refl
  other-best (Last l) none = refl
  other-best (Debug d) none = refl
  other-best (Profile p) none = refl

  best-labelled : (f : ℕ → Label) (r : model.Region ℕ) → is_best (region_with_labels f r) ≡ is_best r
  best-labelled f (model.OfBest layout) = refl
  best-labelled f (model.OfPool pool) = refl
  best-labelled f (model.OfLast layout) = refl
  best-labelled f (model.OfDebug debug) = refl
  best-labelled f (model.OfProfile profile) = refl

  pub other-first : HasOtherFirst session → IsOtherFirst state
  other-first other =
      let first = first-of other.entry other.first in
      subst (λ (o : Option Home). IsSomeAnd o (λ (h : Home). is_best h.region ≡ false)) (sym first.first)
      (ap (λ (r : model.Region Label). is_best r) (sym first.region) ∙ (best-labelled first.name_of (rest_in other.entry.1.region) ∙ other-best other.entry.1.region other.other))
