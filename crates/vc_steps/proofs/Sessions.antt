-- Open regions over a shelf, as one is opened or changes.
use Rattle.vc_base.proofs.Common.{◌≡◌, Bool, ℕ, zero, suc, ◌-◌, ◌≢◌, List, [], ◌∷◌, ◌++◌, set, slice_get, Some, None, Option, sym, ap, ◌∙◌, subst, ⊎_elim, cases_eq, none-some, same_Some, AllByRecursion, Discipline, at_number}
use Rattle.vc_base.proofs.Lists.{slice_get-set}
use Rattle.vc_commands.specs.Held.{Held}
use Rattle.vc_steps.specs.Account.{IsHeldFrom, IsSession}
use Rattle.vc_steps.proofs.Cells.{at_number-from_one, at_number_some, slice_get-set_other}
use Rattle.vc_steps.proofs.Settle.{IsApart}

abbrev pub Slots : Type 0
Slots = List (Option Discipline)

-- each open region has a place of its own
pub apart-session : (armed : Bool) (slots : Slots) (hs : List Held) → IsSession armed slots hs → IsApart hs
apart-session armed slots [] s = tt
apart-session armed slots (h ∷ hs) s = ((at_number_some slots h.place None s.0.place).0, s.1, apart-session armed slots hs s.2)

-- a place whose discipline is here is no open region's
pub away-session : (armed : Bool) (slots : Slots) (n : ℕ) (d : Discipline) (hs : List Held) → at_number slots n ≡ Some (Some d) → IsSession armed slots hs → AllByRecursion (λ g. g.place ≢ n) hs
away-session armed slots n d [] at s = tt
away-session armed slots n d (h ∷ hs) at s =
    ((λ e. none-some d (same_Some None (Some d) (sym s.0.place ∙ (ap (at_number slots) e ∙ at)))), away-session armed slots n d hs at s.2)

taken_stays : (slots : Slots) (k : ℕ) (o : Option Discipline) (p : ℕ) → slice_get slots k ≡ Some o → at_number slots p ≡ Some None → at_number (set slots k None) p ≡ Some None
taken_stays slots k o p there at =
    let found = at_number_some slots p None at in
    at_number-from_one (set slots k None) p found.0 ∙ ⊎_elim
    (λ e. ap (slice_get (set slots k None)) e ∙ slice_get-set slots k o None there)
    (λ other. slice_get-set_other slots k (p - 1) None other ∙ found.1)
    (cases_eq (p - 1) k)

held_stays : (armed : Bool) (slots : Slots) (k : ℕ) (o : Option Discipline) (h : Held) → slice_get slots k ≡ Some o → IsHeldFrom armed slots h → IsHeldFrom armed (set slots k None) h
held_stays armed slots k o h there held = record { place = taken_stays slots k o h.place there held.place; armed_so = held.armed_so; lent = held.lent; names = held.names }

away-push : (p : ℕ) (hs : List Held) (h : Held) → AllByRecursion (λ g. g.place ≢ p) hs → h.place ≢ p → AllByRecursion (λ g. g.place ≢ p) (hs ++ h ∷ [])
away-push p [] h all other = (other, tt)
away-push p (g ∷ hs) h all other = (all.0, away-push p hs h all.1 other)

-- one more region, whose discipline is taken from the shelf
pub session-push : (armed : Bool) (slots : Slots) (k : ℕ) (o : Option Discipline) (hs : List Held) (h : Held) → slice_get slots k ≡ Some o → IsSession armed slots hs → AllByRecursion (λ g. g.place ≢ h.place) hs → IsHeldFrom armed (set slots k None) h → IsSession armed (set slots k None) (hs ++ h ∷ [])
session-push armed slots k o [] h there s away held = (held, tt, tt)
session-push armed slots k o (g ∷ hs) h there s away held = (
  held_stays armed slots k o g there s.0,
  away-push g.place hs h s.1 (λ e. away.0 (sym e)),
  session-push armed slots k o hs h there s.2 away.1 held,
)

-- what holds of a region at a place
pub held-at : (armed : Bool) (slots : Slots) (hs : List Held) (i : ℕ) (h : Held) → slice_get hs i ≡ Some h → IsSession armed slots hs → IsHeldFrom armed slots h
held-at armed slots [] i h at s = absurd (none-some h at)
held-at armed slots (g ∷ hs) zero h at s = subst (IsHeldFrom armed slots) (same_Some g h at) s.0
held-at armed slots (g ∷ hs) (suc i) h at s = held-at armed slots hs i h at s.2

away-set : (p : ℕ) (hs : List Held) (i : ℕ) (h g : Held) → slice_get hs i ≡ Some h → g.place ≡ h.place → AllByRecursion (λ f. f.place ≢ p) hs → AllByRecursion (λ f. f.place ≢ p) (set hs i g)
away-set p [] i h g at same all = tt
away-set p (f ∷ hs) zero h g at same all = ((λ e. all.0 (ap (λ (x : Held). x.place) (same_Some f h at) ∙ (sym same ∙ e))), all.1)
away-set p (f ∷ hs) (suc i) h g at same all = (all.0, away-set p hs i h g at same all.1)

-- a region that changes at its place
pub session-set : (armed : Bool) (slots : Slots) (hs : List Held) (i : ℕ) (h g : Held) → slice_get hs i ≡ Some h → g.place ≡ h.place → IsHeldFrom armed slots g → IsSession armed slots hs → IsSession armed slots (set hs i g)
session-set armed slots [] i h g at same held s = absurd (none-some h at)
session-set armed slots (f ∷ hs) zero h g at same held s =
    let here : f.place ≡ g.place = ap (λ (x : Held). x.place) (same_Some f h at) ∙ sym same in
    (held, subst (λ p. AllByRecursion (λ e. e.place ≢ p) hs) here s.1, s.2)
session-set armed slots (f ∷ hs) (suc i) h g at same held s = (s.0, away-set f.place hs i h g at same s.1, session-set armed slots hs i h g at same held s.2)
