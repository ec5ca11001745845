-- The open regions of a session with their disciplines armed, or unarmed.
use Rattle.vc_base.proofs.Common.{◌≡◌, ℕ, zero, suc, ◌+◌, ◌-◌, ◌≤◌, ◌≢◌, Bool, List, [], ◌∷◌, map, length, set, slice_get, Some, None, Option, option_map, bytes_eq, sym, refl, ap, ◌∙◌, subst, add-one, arith, none-some, same_Some, AllByRecursion, values_of, Discipline}
use Rattle.vc_base.proofs.Lists.{find-map}
use Rattle.indexmap.specs.IndexMap.{set_value_at}
use Rattle.vc_dtdisc.specs.Rules.{Rules}
use Rattle.vc_seg.specs.declared.shelf.Shelf.{Shelf}
use Rattle.vc_commands.specs.declared.region.home.HomeEntry.{HomeEntry}
use Rattle.vc_commands.specs.declared.region.labels.Labels.{Labels}
use Rattle.vc_commands.specs.Held.{Held, home_of}
use Rattle.vc_commands.specs.RegionRun.{held_of}
use Rattle.vc_views.specs.Numbers.{AreLinked, views_by}
use Rattle.vc_steps.specs.Account.{Account, IsHeldFrom, IsSession, account_after, held_named, settled_accounts, state_of}
use Rattle.vc_steps.specs.Arms.{ArmsAll, ArmsHome, armed_held}
use Rattle.vc_steps.specs.DictHomes.{AreDicts, cells_of_held, dict_home, dicts_in}
use Rattle.vc_steps.specs.Homes.{IsSessionOver, accounts_on, held_all, held_in_session, settled_over, slots_on, state_over}
use Rattle.vc_steps.specs.declared.session.Session.{Session}
use Rattle.vc_steps.proofs.DictsStay.{Entry, Stays, Vs, all-stay, dicts-stay, home_of_entry, stays-cells}
use Rattle.vc_steps.proofs.Sessions.{Slots}
use Rattle.vc_objects.specs.Parts.{dictionary_of}

-- the first so many of them armed so
abbrev pub armed_first : ℕ → Bool → List Held → List Held
armed_first zero on hs = hs
armed_first (suc n) on [] = []
armed_first (suc n) on (h ∷ hs) = armed_held on h ∷ armed_first n on hs

-- the one at an index
abbrev pub armed_at : ℕ → Bool → List Held → List Held
armed_at zero on [] = []
armed_at zero on (h ∷ hs) = armed_held on h ∷ hs
armed_at (suc n) on [] = []
armed_at (suc n) on (h ∷ hs) = h ∷ armed_at n on hs

armed-suc : (n : ℕ) (on : Bool) (hs : List Held) → armed_at n on (armed_first n on hs) ≡ armed_first (suc n) on hs
armed-suc zero on [] = refl
armed-suc zero on (h ∷ hs) = refl
armed-suc (suc n) on [] = refl
armed-suc (suc n) on (h ∷ hs) = ap (λ gs. armed_held on h ∷ gs) (armed-suc n on hs)

pub armed-next : (n : ℕ) (on : Bool) (hs : List Held) → armed_at n on (armed_first n on hs) ≡ armed_first (n + 1) on hs
armed-next n on hs = armed-suc n on hs ∙ ap (λ k. armed_first k on hs) (sym (add-one n))

pub armed-last : (n : ℕ) (on : Bool) (hs : List Held) → length hs ≤ n → armed_first n on hs ≡ map (armed_held on) hs
armed-last zero on [] few = refl
armed-last zero on (h ∷ hs) few = absurd (omega (arith, few))
armed-last (suc n) on [] few = refl
armed-last (suc n) on (h ∷ hs) few = ap (λ gs. armed_held on h ∷ gs) (armed-last n on hs (omega (arith, few)))

module _ {I : Type 0} {V : I → Type 0} (meaning : (x : I) × V x → Discipline) (on : Bool) where
  abbrev Homes : Type 0
  Homes = List (List ℕ × HomeEntry I V)

  -- no more than there are
  pub helds-few : (homes : Homes) (labels : List Labels) → length (held_all meaning homes labels) ≤ length homes
  helds-few [] labels = omega arith
  helds-few (e ∷ es) [] = omega arith
  helds-few (e ∷ es) (l ∷ ls) = omega (arith, helds-few es ls)

  -- the one at an index, as it is stored
  pub helds-armed : (homes : Homes) (labels : List Labels) (i : ℕ) (old new : HomeEntry I V) → slice_get (values_of homes) i ≡ Some old → ArmsHome meaning on old new → held_all meaning (set_value_at homes i new) labels ≡ armed_at i on (held_all meaning homes labels)
  helds-armed [] labels i old new at arms = absurd (none-some old at)
  helds-armed (e ∷ es) [] zero old new at arms = refl
  helds-armed (e ∷ es) [] (suc i) old new at arms = refl
  helds-armed (e ∷ es) (l ∷ ls) zero old new at arms =
      ap (λ h. h ∷ held_all meaning es ls) (arms e.0 l ∙ ap (λ h. armed_held on (held_of meaning e.0 h l)) (sym (same_Some e.1 old at)))
  helds-armed (e ∷ es) (l ∷ ls) (suc i) old new at arms = ap (λ hs. held_of meaning e.0 e.1 l ∷ hs) (helds-armed es ls i old new at arms)

  pub length-armed : (homes : Homes) (i : ℕ) (new : HomeEntry I V) → length (set_value_at homes i new) ≡ length homes
  length-armed [] i new = refl
  length-armed (e ∷ es) zero new = refl
  length-armed (e ∷ es) (suc i) new = ap suc (length-armed es i new)

-- each holds its discipline, armed so
away-armed : (on : Bool) (p : ℕ) (hs : List Held) → AllByRecursion (λ g. g.place ≢ p) hs → AllByRecursion (λ g. g.place ≢ p) (map (armed_held on) hs)
away-armed on p [] away = tt
away-armed on p (h ∷ hs) away = (away.0, away-armed on p hs away.1)

held-armed : (was on : Bool) (slots : Slots) (h : Held) → IsHeldFrom was slots h → IsHeldFrom on slots (armed_held on h)
held-armed was on slots h held = record { place = held.place; armed_so = refl; lent = held.lent; names = held.names }

pub helds-session : (was on : Bool) (slots : Slots) (hs : List Held) → IsSession was slots hs → IsSession on slots (map (armed_held on) hs)
helds-session was on slots [] session = tt
helds-session was on slots (h ∷ hs) session =
    (held-armed was on slots h session.0, away-armed on h.place hs session.1, helds-session was on slots hs session.2)

-- the state and the settled shelf don't tell whether they are armed
homes-armed : (on : Bool) (hs : List Held) → map home_of (map (armed_held on) hs) ≡ map home_of hs
homes-armed on [] = refl
homes-armed on (h ∷ hs) = ap (λ ks. home_of h ∷ ks) (homes-armed on hs)

pub settled-armed : (on : Bool) (shelf : List (Option Account)) (hs : List Held) → settled_accounts shelf (map (armed_held on) hs) ≡ settled_accounts shelf hs
settled-armed on shelf [] = refl
settled-armed on shelf (h ∷ hs) = settled-armed on (set shelf (h.place - 1) (Some (account_after h))) hs

-- the one of a name
found-armed : (on : Bool) (hs : List Held) (r : List ℕ) → held_named (map (armed_held on) hs) (Some r) ≡ option_map (armed_held on) (held_named hs (Some r))
found-armed on hs r = find-map (armed_held on) (λ (h : Held). bytes_eq h.name r) hs

same-cells : (on : Bool) (o : Option Held) → cells_of_held (option_map (armed_held on) o) ≡ cells_of_held o
same-cells on None = refl
same-cells on (Some h) = refl

-- and dictionaries in it stay
pub dicts_in-armed : (on : Bool) (hs : List Held) (vs : Vs) (es : List Entry) → dicts_in (map (armed_held on) hs) vs es ≡ dicts_in hs vs es
dicts_in-armed on hs vs [] = refl
dicts_in-armed on hs vs (e ∷ es) =
    ap (λ cells. home_of_entry vs e (dictionary_of e.1.dict cells) ∷ dicts_in (map (armed_held on) hs) vs es)
    (ap cells_of_held (found-armed on hs e.1.home) ∙ same-cells on (held_named hs (Some e.1.home)))
    ∙ ap (λ ds. dict_home hs vs e ∷ ds) (dicts_in-armed on hs vs es)

pub dicts-armed : (on : Bool) (kinds : List Rules) (hs : List Held) (es : List Entry) → AreDicts kinds hs es → AreDicts kinds (map (armed_held on) hs) es
dicts-armed on kinds hs es dicts =
    let each : (e : Entry) → Stays kinds hs (map (armed_held on) hs) e = λ e is.
    stays-cells kinds hs (map (armed_held on) hs) e is.home (armed_held on is.home) is.found (found-armed on hs e.1.home ∙ ap (option_map (armed_held on)) is.found) (λ best. best) refl is in
    dicts-stay kinds hs (map (armed_held on) hs) es (all-stay kinds hs (map (armed_held on) hs) es each) dicts

-- a session whose disciplines were armed, or unarmed, stands where it stood, and means the same
module _ {I : Type 0} {V : I → Type 0} {D : Type 0} {meaning : (x : I) × V x → Discipline} {on : Bool} {session session' : Session D I V} (arms : ArmsAll meaning on session session') where
  abbrev hs : List Held
  hs = held_in_session meaning session

  pub arms-stands : (rules : D → Rules) (shelf : Shelf I V) (kinds : List D) → IsSessionOver meaning rules shelf session kinds → IsSessionOver meaning rules shelf session' kinds
  arms-stands rules shelf kinds stands =
      record {
        regions = record {
          named = ap (λ s. length s.labels.items) arms.rest ∙ (stands.regions.named ∙ sym arms.count);
          held =
              subst (λ b. IsSession b (slots_on meaning shelf) (held_in_session meaning session')) (sym (ap (λ s. s.is_armed) arms.rest))
              (subst (IsSession on (slots_on meaning shelf)) (sym arms.held) (helds-session session.is_armed on (slots_on meaning shelf) hs stands.regions.held));
        };
        dicts =
            subst (AreDicts (map rules kinds) (held_in_session meaning session')) (sym (ap (λ s. s.dicts.entries) arms.rest))
            (subst (λ gs. AreDicts (map rules kinds) gs session.dicts.entries) (sym arms.held) (dicts-armed on (map rules kinds) hs session.dicts.entries stands.dicts));
        views =
            subst (AreLinked session'.paths) (sym (ap (λ s. s.dicts.entries) arms.rest))
            (subst (λ links. AreLinked links session.dicts.entries) (sym (ap (λ s. s.paths) arms.rest)) stands.views);
      }

  pub arms-state : (kinds : List Rules) (shelf : Shelf I V) → state_over meaning kinds shelf session' ≡ state_over meaning kinds shelf session
  arms-state kinds shelf =
      let vs = views_by session.paths session.dicts.entries in
      ap (λ s. state_of kinds (slots_on meaning shelf) (held_in_session meaning session') (dicts_in (held_in_session meaning session') (views_by s.paths s.dicts.entries) s.dicts.entries)) arms.rest
      ∙ (ap (λ gs. state_of kinds (slots_on meaning shelf) gs (dicts_in gs vs session.dicts.entries)) arms.held
      ∙ (ap (state_of kinds (slots_on meaning shelf) (map (armed_held on) hs)) (dicts_in-armed on hs vs session.dicts.entries)
      ∙ ap (λ homes. record (state_of kinds (slots_on meaning shelf) hs (dicts_in hs vs session.dicts.entries)) { homes = homes }) (homes-armed on hs)))

  pub arms-settled : (shelf : Shelf I V) → settled_over meaning shelf session' ≡ settled_over meaning shelf session
  arms-settled shelf =
      ap (settled_accounts (accounts_on meaning shelf)) arms.held ∙ settled-armed on (accounts_on meaning shelf) (held_in_session meaning session)
