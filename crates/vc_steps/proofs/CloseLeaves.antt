-- What closing a region leaves.
use Rattle.vc_base.proofs.Common.{◌≡◌, Bool, ℕ, zero, suc, ◌-◌, ◌≤◌, true, false, cond, ◌≢◌, List, [], ◌∷◌, map, length, take, set, slice_get, Some, None, Option, option_map, remove, sym, refl, ap, ◌∙◌, subst, append-nil, arith, or_parts, map-set, none-some, same_Some, slice_get-map, AllByRecursion, list_any, Discipline, HasOut, TookBack, at_number}
use Rattle.std.proofs.lemmas.List.{set_comm}
use Rattle.vc_region.specs.Region.{segments_of}
use Rattle.vc_script.specs.declared.refusal.Refusal.TheVariants.{Busy}
use Rattle.vc_script.specs.declared.reply.Reply.TheVariants.{Closed}
use Rattle.vc_region.proofs.Relabel.{segments-relabelled}
use Rattle.vc_dtdisc.specs.Rules.{Rules}
use Rattle.vc_commands.specs.Labels.{name_of_tag}
use Rattle.vc_steps.specs.State.{State, step_with_reply, close_home, close_step, step_with_close, home_named, is_home_busy, step_with_refusal, without_home}
use Rattle.vc_views.specs.Views.{DictHome}
use Rattle.vc_commands.specs.Home.{Home, is_home}
use Rattle.vc_steps.specs.Account.{Account, IsSession, account, accounts, account_after, account_back, asked_of, settled_accounts, state_of}
use Rattle.vc_commands.specs.Held.{Held, home_of}
use Rattle.vc_views.proofs.LinkLists.{all-remove}
use Rattle.vc_steps.proofs.Cells.{at_number-from_one, at_number-zero, at_number_some, map-remove, slice_get-set_other}
use Rattle.vc_commands.proofs.Firsts.{IsFirst, find-first}
use Rattle.vc_steps.proofs.Settle.{IsApart, away-at, low-at}
use Rattle.vc_seg.specs.Shelf.{place_at, standing}
use Rattle.vc_seg.specs.declared.shelf.ShelfPlace.TheVariants.{Taken}
use Rattle.vc_steps.proofs.Sessions.{Slots, apart-session}
use Rattle.vc_commands.proofs.Answers.{front-out}

-- the account of a discipline that has its segments back
pub account-closed : (d e : Discipline) (segments : List (ℕ × ℕ)) → HasOut d segments → TookBack d e segments [] → account e ≡ account_back d segments
account-closed d e segments has back =
    let out : take (length d.out - length segments) d.out ≡ e.out =
    front-out has.0 segments d.out has.1 ∙ sym (back.out has.0 has.1 ∙ append-nil has.0) in
    ap (λ o. let a : Account = record { out = o; terms = e.terms; faults = e.faults; asked = asked_of e } in a) (sym out)
    ∙ (ap (λ t. let a : Account = record { out = (account_back d segments).out; terms = t; faults = e.faults; asked = asked_of e } in a) back.kept.terms
    ∙ (ap (λ f. let a : Account = record { out = (account_back d segments).out; terms = d.terms; faults = f; asked = asked_of e } in a) back.faults
    ∙ ap (λ x. let a : Account = record { out = (account_back d segments).out; terms = d.terms; faults = d.faults; asked = (x.told, x.yes) } in a) back.exceptions))

-- another place stays
pub elsewhere-set : (slots : Slots) (n : ℕ) (x : Option Discipline) {o : Option Discipline} → at_number slots n ≡ Some o → (p : ℕ) → p ≢ n → at_number (set slots (n - 1) x) p ≡ at_number slots p
elsewhere-set slots n x {o = o} at zero other = at_number-zero (set slots (n - 1) x) 0 refl ∙ sym (at_number-zero slots 0 refl)
elsewhere-set slots n x {o = o} at (suc k) other =
    let low : 1 ≤ suc k = omega arith in
    let first : 1 ≤ n = (at_number_some slots n o at).0 in
    at_number-from_one (set slots (n - 1) x) (suc k) low
    ∙ (slice_get-set_other slots (n - 1) (suc k - 1) x (λ e. other (omega (arith, e, low, first)))
    ∙ sym (at_number-from_one slots (suc k) low))

pub elsewhere : (slots : Slots) (n : ℕ) (d : Discipline) {o : Option Discipline} → at_number slots n ≡ Some o → (p : ℕ) → p ≢ n → at_number (set slots (n - 1) (Some d)) p ≡ at_number slots p
elsewhere slots n d at p other = elsewhere-set slots n (Some d) at p other

-- the other regions still hold their disciplines
pub session-closed : (armed : Bool) (slots slots' : Slots) (n : ℕ) (hs : List Held) → ((p : ℕ) → p ≢ n → at_number slots' p ≡ at_number slots p) → AllByRecursion (λ g. g.place ≢ n) hs → IsSession armed slots hs → IsSession armed slots' hs
session-closed armed slots slots' n [] same away s = tt
session-closed armed slots slots' n (h ∷ hs) same away s = (
  record { place = same h.place away.0 ∙ s.0.place; armed_so = s.0.armed_so; lent = s.0.lent; names = s.0.names },
  s.1,
  session-closed armed slots slots' n hs same away.1 s.2,
)

taken_of : (o : Option (Option Discipline)) → standing o ≡ Taken → o ≡ Some None
taken_of None e = absurd cc
taken_of (Some None) e = refl
taken_of (Some (Some d)) e = absurd cc

-- what stands at a place that is taken
pub taken-at : (slots : Slots) (n : ℕ) → place_at slots n ≡ Taken → at_number slots n ≡ Some None
taken-at slots n e = taken_of (at_number slots n) e

session-remove : (armed : Bool) (slots : Slots) (hs : List Held) (i : ℕ) → IsSession armed slots hs → IsSession armed slots (remove hs i)
session-remove armed slots [] zero s = tt
session-remove armed slots [] (suc i) s = tt
session-remove armed slots (g ∷ hs) zero s = s.2
session-remove armed slots (g ∷ hs) (suc i) s = (s.0, all-remove (λ f. f.place ≢ g.place) hs i s.1, session-remove armed slots hs i s.2)

-- no other region has the place of the one that is taken out
away-remove : (hs : List Held) (i : ℕ) (h : Held) → slice_get hs i ≡ Some h → IsApart hs → AllByRecursion (λ g. g.place ≢ h.place) (remove hs i)
away-remove [] i h at apart = absurd (none-some h at)
away-remove (g ∷ hs) zero h at apart = subst (λ (x : Held). AllByRecursion (λ f. f.place ≢ x.place) hs) (same_Some g h at) apart.1
away-remove (g ∷ hs) (suc i) h at apart = ((λ e. away-at g.place hs i h at apart.1 (sym e)), away-remove hs i h at apart.2)

-- a region that is closed early settles as it would at the end
settled-remove : (shelf : List (Option Account)) (hs : List Held) (i : ℕ) (h : Held) → slice_get hs i ≡ Some h → IsApart hs → settled_accounts (set shelf (h.place - 1) (Some (account_after h))) (remove hs i) ≡ settled_accounts shelf hs
settled-remove shelf [] i h at apart = absurd (none-some h at)
settled-remove shelf (g ∷ hs) zero h at apart = ap (λ (x : Held). settled_accounts (set shelf (x.place - 1) (Some (account_after x))) hs) (sym (same_Some g h at))
settled-remove shelf (g ∷ hs) (suc i) h at apart =
    let other : h.place ≢ g.place = away-at g.place hs i h at apart.1 in
    let low : 1 ≤ h.place = low-at hs i h at apart.2 in
    let first : 1 ≤ g.place = apart.0 in
    ap (λ s. settled_accounts s (remove hs i)) (set_comm shelf (h.place - 1) (g.place - 1) (Some (account_after h)) (Some (account_after g)) (λ e. other (omega (arith, e, low, first))))
    ∙ settled-remove (set shelf (g.place - 1) (Some (account_after g))) hs i h at apart.2

terms_of : (slots : Slots) → map (option_map (λ (a : Account). a.terms)) (accounts slots) ≡ map (option_map (λ (d : Discipline). d.terms)) slots
terms_of [] = refl
terms_of (None ∷ slots) = ap (λ rs. None ∷ rs) (terms_of slots)
terms_of (Some d ∷ slots) = ap (λ rs. Some d.terms ∷ rs) (terms_of slots)

without_home-at : (r : List ℕ) (hs : List Home) (i : ℕ) (h : Home) → slice_get hs i ≡ Some h → is_home r h ≡ true → list_any (is_home r) (take i hs) ≡ false → without_home r hs ≡ remove hs i
without_home-at r [] i h at passes none = absurd (none-some h at)
without_home-at r (g ∷ hs) zero h at passes none = ap (λ b. cond b hs (g ∷ without_home r hs)) (ap (is_home r) (same_Some g h at) ∙ passes)
without_home-at r (g ∷ hs) (suc i) h at passes none =
    let parts = or_parts (is_home r g) (list_any (is_home r) (take i hs)) none in
    ap (λ b. cond b hs (g ∷ without_home r hs)) parts.0 ∙ ap (λ ks. g ∷ ks) (without_home-at r hs i h at passes parts.1)

-- a region in which a dictionary lies is not closed
pub close-busy : (s : State) (r : List ℕ) (i : ℕ) → IsFirst (is_home r) s.homes i → is_home_busy s r ≡ true → close_step s r ≡ step_with_refusal s Busy
close-busy s r i first busy =
    ap (close_home s r) (find-first (is_home r) s.homes i first) ∙ ap (λ b. cond b (step_with_refusal s Busy) (step_with_close s r first.item)) busy

module _ (armed : Bool) (slots slots' : Slots) (hs : List Held) (i : ℕ) (h : Held) (at : slice_get hs i ≡ Some h) (session : IsSession armed slots hs) (here : accounts slots' ≡ set (accounts slots) (h.place - 1) (Some (account_after h))) where
  pub session-close : ((p : ℕ) → p ≢ h.place → at_number slots' p ≡ at_number slots p) → IsSession armed slots' (remove hs i)
  session-close same = session-closed armed slots slots' h.place (remove hs i) same (away-remove hs i h at (apart-session armed slots hs session)) (session-remove armed slots hs i session)

  pub settled-close : settled_accounts (accounts slots') (remove hs i) ≡ settled_accounts (accounts slots) hs
  settled-close = ap (λ a. settled_accounts a (remove hs i)) here ∙ settled-remove (accounts slots) hs i h at (apart-session armed slots hs session)

  shelf-close : map (option_map (λ (d : Discipline). d.terms)) slots' ≡ set (map (option_map (λ (d : Discipline). d.terms)) slots) (h.place - 1) (Some h.disc.terms)
  shelf-close =
      sym (terms_of slots')
      ∙ (ap (map (option_map (λ (a : Account). a.terms))) here
      ∙ (map-set (option_map (λ (a : Account). a.terms)) (accounts slots) (h.place - 1) (Some (account_after h))
      ∙ ap (λ rs. set rs (h.place - 1) (Some h.disc.terms)) (terms_of slots)))

  pub step-close : (kinds : List Rules) (ds : List DictHome) (r : List ℕ) (count : ℕ) → IsFirst (is_home r) (map home_of hs) i → is_home_busy (state_of kinds slots hs ds) r ≡ false → count ≡ length (segments_of h.region) → close_step (state_of kinds slots hs ds) r ≡ step_with_reply (state_of kinds slots' (remove hs i) ds) (Closed r count)
  step-close kinds ds r count first free counted =
      let item : first.item ≡ home_of h = same_Some first.item (home_of h) (sym first.at ∙ (slice_get-map home_of hs i ∙ ap (option_map home_of) at)) in
      let found : home_named r (map home_of hs) ≡ Some (home_of h) = find-first (is_home r) (map home_of hs) i first ∙ ap (λ k. Some k) item in
      let left : without_home r (map home_of hs) ≡ map home_of (remove hs i) =
      without_home-at r (map home_of hs) i first.item first.at first.passes first.before ∙ sym (map-remove home_of hs i) in
      ap (close_home (state_of kinds slots hs ds) r) found
      ∙ (ap (λ b. cond b (step_with_refusal (state_of kinds slots hs ds) Busy) (step_with_close (state_of kinds slots hs ds) r (home_of h))) free
      ∙ (ap (λ ss. step_with_reply (record (state_of kinds slots hs ds) { shelf = set (state_of kinds slots hs ds).shelf (h.place - 1) (Some h.disc.terms); homes = without_home r (map home_of hs) }) (Closed r (length ss))) (segments-relabelled (name_of_tag h.labels) h.region)
      ∙ (ap (λ rs. step_with_reply (record (state_of kinds slots hs ds) { shelf = rs; homes = without_home r (map home_of hs) }) (Closed r (length (segments_of h.region)))) (sym shelf-close)
      ∙ (ap (λ ks. step_with_reply (record (state_of kinds slots' hs ds) { homes = ks }) (Closed r (length (segments_of h.region)))) left
      ∙ ap (λ n. step_with_reply (state_of kinds slots' (remove hs i) ds) (Closed r n)) (sym counted)))))
