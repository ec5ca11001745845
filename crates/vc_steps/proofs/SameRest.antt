-- What a look through a view path leaves of a session: regions of which only the bytes in cells differ.
use Rattle.vc_base.proofs.Common.{◌≡◌, Bool, ℕ, zero, suc, ◌-◌, ◌≢◌, List, [], ◌∷◌, map, length, set, slice_get, Some, Option, sym, refl, ap, ◌∙◌, subst, ap₂, arith, none-some, same_Some, map-map, AllByRecursion, Discipline}
use Rattle.vc_base.specs.declared.dict_method.DictMethod.{DictMethod}
use Rattle.vc_base.proofs.Lists.{head-same, tail-same}
use Rattle.vc_seg.specs.Boxed.{disc_in_box}
use Rattle.vc_region.specs.Cells.{cells_in}
use Rattle.vc_commands.specs.Held.{Held, home_of}
use Rattle.vc_commands.specs.declared.region.home.HomeEntry.{HomeEntry}
use Rattle.vc_commands.specs.declared.region.labels.Labels.{Labels}
use Rattle.vc_steps.specs.Account.{Account, IsHeldFrom, IsSession, account_after, settled_accounts}
use Rattle.vc_steps.specs.DictHomes.{dicts_in}
use Rattle.vc_steps.specs.Homes.{held_all, held_entry}
use Rattle.vc_steps.proofs.DictRegions.{over-seen, seen}
use Rattle.vc_steps.proofs.DictsStay.{Entry, Vs}
use Rattle.vc_steps.proofs.Sessions.{Slots}
use Rattle.vc_views.specs.Dicts.{DictRegion, DictSeen, HomeRest, dict_seen, home_rest, with_current, with_current_at}
use Rattle.vc_views.specs.Views.{DictHome}
use Rattle.vc_views.proofs.LinkChanges.{link_part, view_part}

-- a region is another one but for the bytes in its cells
abbrev pub SameRest : Held → Held → Type 0
SameRest h g = g ≡ record h { cells = g.cells }

abbrev pub AllRest : List Held → List Held → Type 0
AllRest [] [] = Unit {0}
AllRest [] (g ∷ gs) = ⊥
AllRest (h ∷ hs) [] = ⊥
AllRest (h ∷ hs) (g ∷ gs) = SameRest h g × AllRest hs gs

module _ {I : Type 0} {V : I → Type 0} (meaning : (x : I) × V x → Discipline) where
  rest-one : (e f : List ℕ × HomeEntry I V) (l : Labels) → home_rest f ≡ home_rest e → SameRest (held_entry meaning (e, l)) (held_entry meaning (f, l))
  rest-one e f l same =
      ap (λ (r : HomeRest I V). let h : Held = record { name = r.name; place = r.place; disc = disc_in_box meaning r.disc; region = r.region; cells = cells_in f.1.region; labels = l } in h) same

  -- those of entries of which a look leaves all else
  pub rest-all : (homes homes' : List (List ℕ × HomeEntry I V)) (labels : List Labels) → map home_rest homes' ≡ map home_rest homes → AllRest (held_all meaning homes labels) (held_all meaning homes' labels)
  rest-all [] [] labels same = tt
  rest-all [] (f ∷ fs) labels same = absurd (omega (arith, ap length same))
  rest-all (e ∷ es) [] labels same = absurd (omega (arith, ap length same))
  rest-all (e ∷ es) (f ∷ fs) [] same = tt
  rest-all (e ∷ es) (f ∷ fs) (l ∷ ls) same = (
    rest-one e f l (head-same (home_rest f) (home_rest e) (map home_rest fs) (map home_rest es) same),
    rest-all es fs ls (tail-same (home_rest f) (home_rest e) (map home_rest fs) (map home_rest es) same),
  )

-- they settle the same
pub settled-rest : (shelf : List (Option Account)) (hs gs : List Held) → AllRest hs gs → settled_accounts shelf gs ≡ settled_accounts shelf hs
settled-rest shelf [] [] all = refl
settled-rest shelf [] (g ∷ gs) all = absurd all
settled-rest shelf (h ∷ hs) [] all = absurd all
settled-rest shelf (h ∷ hs) (g ∷ gs) all =
    ap (λ (k : Held). settled_accounts (set shelf (k.place - 1) (Some (account_after k))) gs) all.0
    ∙ settled-rest (set shelf (h.place - 1) (Some (account_after h))) hs gs all.1

-- and stand over a shelf as those do
apart-rest : (p : ℕ) (hs gs : List Held) → AllRest hs gs → AllByRecursion (λ g. g.place ≢ p) hs → AllByRecursion (λ g. g.place ≢ p) gs
apart-rest p [] [] all apart = tt
apart-rest p [] (g ∷ gs) all apart = absurd all
apart-rest p (h ∷ hs) [] all apart = absurd all
apart-rest p (h ∷ hs) (g ∷ gs) all apart =
    (subst (λ (k : Held). k.place ≢ p) (sym all.0) apart.0, apart-rest p hs gs all.1 apart.1)

held-rest : (armed : Bool) (slots : Slots) (h g : Held) → SameRest h g → IsHeldFrom armed slots h → IsHeldFrom armed slots g
held-rest armed slots h g same is = subst (IsHeldFrom armed slots) (sym same) (record { place = is.place; armed_so = is.armed_so; lent = is.lent; names = is.names })

pub session-rest : (armed : Bool) (slots : Slots) (hs gs : List Held) → AllRest hs gs → IsSession armed slots hs → IsSession armed slots gs
session-rest armed slots [] [] all is = is
session-rest armed slots [] (g ∷ gs) all is = absurd all
session-rest armed slots (h ∷ hs) [] all is = absurd all
session-rest armed slots (h ∷ hs) (g ∷ gs) all is = (
  held-rest armed slots h g all.0 is.0,
  subst (λ p. AllByRecursion (λ k. k.place ≢ p) gs) (sym (ap (λ (k : Held). k.place) all.0)) (apart-rest h.place hs gs all.1 is.1),
  session-rest armed slots hs gs all.1 is.2,
)

-- and what they stand for is the same
pub homes-rest : (hs gs : List Held) → AllRest hs gs → map home_of gs ≡ map home_of hs
homes-rest [] [] all = refl
homes-rest [] (g ∷ gs) all = absurd all
homes-rest (h ∷ hs) [] all = absurd all
homes-rest (h ∷ hs) (g ∷ gs) all = ap₂ (λ x xs. x ∷ xs) (ap home_of all.0) (homes-rest hs gs all.1)

-- a dictionary by what is seen of it, and the parts that tell links and views
abbrev pub home_seen : Vs → DictSeen → DictHome
home_seen vs s = record { name = s.name; home = s.home; kind = s.kind; views = vs s.number; dict = s.dict }

abbrev pub seen_links : DictSeen → ℕ × DictMethod × ℕ
seen_links s = (s.number, s.dict.method, s.kind)

abbrev pub seen_views : DictSeen → List ℕ × ℕ
seen_views s = (s.name, s.number)

module _ (hs : List Held) where
  pub homes-seen : (vs : Vs) (es : List Entry) → dicts_in hs vs es ≡ map (home_seen vs) (map (dict_seen (seen hs)) es)
  homes-seen vs [] = refl
  homes-seen vs (e ∷ es) =
      ap₂ (λ d ds. (let k : DictHome = record { name = e.0; home = e.1.home; kind = e.1.dict.kind; views = vs e.1.number; dict = d } in k) ∷ ds) (sym (over-seen hs e)) (homes-seen vs es)

pub links-seen : (regions : List DictRegion) (es : List Entry) → map link_part es ≡ map seen_links (map (dict_seen regions) es)
links-seen regions es = sym (map-map seen_links (dict_seen regions) es)

pub views-seen : (regions : List DictRegion) (es : List Entry) → map view_part es ≡ map seen_views (map (dict_seen regions) es)
views-seen regions es = sym (map-map seen_views (dict_seen regions) es)

-- another current object changes neither of these
current-parts : {B : Type 0} (f : DictSeen → B) (place : Option ℕ) → ((s : DictSeen) → f (with_current place s) ≡ f s) → (i : ℕ) (ss : List DictSeen) → map f (with_current_at i place ss) ≡ map f ss
current-parts f place same i [] = refl
current-parts f place same zero (s ∷ ss) = ap (λ x. x ∷ map f ss) (same s)
current-parts f place same (suc i) (s ∷ ss) = ap (λ xs. f s ∷ xs) (current-parts f place same i ss)

-- and stands in the dictionary at its index
pub current-set : {B : Type 0} (f : DictSeen → B) (place : Option ℕ) (i : ℕ) (ss : List DictSeen) (s : DictSeen) → slice_get ss i ≡ Some s → map f (with_current_at i place ss) ≡ set (map f ss) i (f (with_current place s))
current-set f place i [] s at = absurd (none-some s at)
current-set f place zero (r ∷ ss) s at = ap (λ (x : DictSeen). f (with_current place x) ∷ map f ss) (same_Some r s at)
current-set f place (suc i) (r ∷ ss) s at = ap (λ xs. f r ∷ xs) (current-set f place i ss s at)

module _ (regions regions' : List DictRegion) (es es' : List Entry) (i : ℕ) (place : Option ℕ) (looked : map (dict_seen regions') es' ≡ with_current_at i place (map (dict_seen regions) es)) where
  pub links-looked : map link_part es' ≡ map link_part es
  links-looked =
      links-seen regions' es' ∙ (ap (map seen_links) looked ∙ (current-parts seen_links place (λ s. refl) i (map (dict_seen regions) es) ∙ sym (links-seen regions es)))

  pub views-looked : map view_part es' ≡ map view_part es
  views-looked =
      views-seen regions' es' ∙ (ap (map seen_views) looked ∙ (current-parts seen_views place (λ s. refl) i (map (dict_seen regions) es) ∙ sym (views-seen regions es)))
