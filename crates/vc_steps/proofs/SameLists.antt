-- A session whose lists stay, over a shelf with the disciplines that it had.
use Rattle.vc_base.proofs.Common.{◌≡◌, ℕ, List, length, sym, ap, ◌∙◌, subst, Discipline}
use Rattle.vc_dtdisc.specs.Rules.{Rules}
use Rattle.vc_seg.specs.declared.shelf.Shelf.{Shelf}
use Rattle.vc_commands.specs.declared.region.home.HomeEntry.{HomeEntry}
use Rattle.vc_commands.specs.declared.region.labels.Labels.{Labels}
use Rattle.vc_views.specs.Numbers.{AreLinked}
use Rattle.vc_steps.specs.Account.{IsSession, accounts, settled_accounts, state_of}
use Rattle.vc_steps.specs.DictHomes.{AreDicts, dicts_in}
use Rattle.vc_steps.specs.Homes.{HoldsRegions, KeepsRegions, held_all, held_in_session, slots_on}
use Rattle.vc_steps.specs.declared.session.Session.{Session}
use Rattle.vc_steps.proofs.DictsStay.{Entry, Vs}
use Rattle.vc_steps.proofs.Sessions.{Slots}

module _ {I : Type 0} {V : I → Type 0} (meaning : (x : I) × V x → Discipline) {slots slots' : Slots} {homes homes' : List (List ℕ × HomeEntry I V)} {labels labels' : List Labels} (same_slots : slots' ≡ slots) (same_homes : homes' ≡ homes) (same_labels : labels' ≡ labels) where
  pub held-lists : held_all meaning homes' labels' ≡ held_all meaning homes labels
  held-lists = ap (λ es. held_all meaning es labels') same_homes ∙ ap (held_all meaning homes) same_labels

  -- they stand for the same state and settle to the same accounts
  pub state-lists : (kinds : List Rules) (vs : Vs) (es : List Entry) → state_of kinds slots' (held_all meaning homes' labels') (dicts_in (held_all meaning homes' labels') vs es) ≡ state_of kinds slots (held_all meaning homes labels) (dicts_in (held_all meaning homes labels) vs es)
  state-lists kinds vs es =
      ap (λ s. state_of kinds s (held_all meaning homes' labels') (dicts_in (held_all meaning homes' labels') vs es)) same_slots
      ∙ ap (λ hs. state_of kinds slots hs (dicts_in hs vs es)) held-lists

  pub settled-lists : settled_accounts (accounts slots') (held_all meaning homes' labels') ≡ settled_accounts (accounts slots) (held_all meaning homes labels)
  settled-lists = ap (λ s. settled_accounts (accounts s) (held_all meaning homes' labels')) same_slots ∙ ap (settled_accounts (accounts slots)) held-lists

-- it keeps its regions
pub keeps-lists-over : {I : Type 0} {V : I → Type 0} {D : Type 0} {meaning : (x : I) × V x → Discipline} {shelf' : Shelf I V} {session session' : Session D I V} (slots : Slots) → length session.labels.items ≡ length session.homes.entries → IsSession session.is_armed slots (held_in_session meaning session) → slots_on meaning shelf' ≡ slots
    → session'.homes.entries ≡ session.homes.entries → session'.labels.items ≡ session.labels.items → session'.dicts.entries ≡ session.dicts.entries → session'.paths ≡ session.paths → session'.is_spent ≡ session.is_spent → session'.is_armed ≡ session.is_armed → KeepsRegions meaning session shelf' session'
keeps-lists-over {meaning = meaning} {shelf' = shelf'} {session = session} {session' = session'} over named is slots homes labels dicts paths spent armed =
    let held : held_in_session meaning session' ≡ held_in_session meaning session = held-lists meaning slots homes labels in
    record {
      regions = record {
        named = ap length labels ∙ (named ∙ sym (ap length homes));
        held = subst (λ s. IsSession session'.is_armed s (held_in_session meaning session')) (sym slots) (subst (λ on. IsSession on over (held_in_session meaning session')) (sym armed) (subst (IsSession session.is_armed over) (sym held) is));
      };
      dicts = λ kinds all. subst (λ hs. AreDicts kinds hs session'.dicts.entries) (sym held) (subst (AreDicts kinds (held_in_session meaning session)) (sym dicts) all);
      views = λ are. subst (λ l. AreLinked l session'.dicts.entries) (sym paths) (subst (AreLinked session.paths) (sym dicts) are);
      spent = spent;
      armed = armed;
    }

pub keeps-lists : {I : Type 0} {V : I → Type 0} {D : Type 0} {meaning : (x : I) × V x → Discipline} {shelf' : Shelf I V} {session session' : Session D I V} (shelf : Shelf I V) → HoldsRegions meaning shelf session → slots_on meaning shelf' ≡ slots_on meaning shelf
    → session'.homes.entries ≡ session.homes.entries → session'.labels.items ≡ session.labels.items → session'.dicts.entries ≡ session.dicts.entries → session'.paths ≡ session.paths → session'.is_spent ≡ session.is_spent → session'.is_armed ≡ session.is_armed → KeepsRegions meaning session shelf' session'
keeps-lists {meaning = meaning} shelf is slots homes labels dicts paths spent armed = keeps-lists-over (slots_on meaning shelf) is.named is.held slots homes labels dicts paths spent armed
