-- A session with one region more, which was just opened.
use Rattle.vc_base.proofs.Common.{◌≡◌, ℕ, ◌-◌, Bool, false, List, [], ◌∷◌, ◌++◌, length, set, is_some, Some, None, bytes_eq, sym, ap, ◌∙◌, subst, arith, length-append, set-set, lookup, Discipline, at_number}
use Rattle.vc_model.specs.Discipline.{armed_as}
use Rattle.vc_dtdisc.specs.Rules.{Rules}
use Rattle.vc_region.specs.Cells.{cells_in, rest_in, rest_of}
use Rattle.vc_region.specs.Parts.{disc_in, region_of}
use Rattle.vc_region.specs.Stat.{opened_region}
use Rattle.vc_seg.specs.declared.method.Method.{Method}
use Rattle.vc_script.specs.declared.reply.Reply.TheVariants.{Opened}
use Rattle.vc_commands.specs.declared.region.home.HomeEntry.{HomeEntry}
use Rattle.vc_commands.specs.declared.region.labels.Labels.{Labels}
use Rattle.vc_commands.specs.Held.{Held}
use Rattle.vc_steps.specs.Account.{IsSession, accounts, settled_accounts, state_of}
use Rattle.vc_steps.specs.DictHomes.{AreDicts, dicts_in}
use Rattle.vc_steps.specs.Homes.{held_all}
use Rattle.vc_commands.specs.RegionRun.{held_of}
use Rattle.vc_steps.specs.State.{open_step, step_with_reply}
use Rattle.vc_steps.proofs.DictsStay.{Entry, Vs, all-stay, dicts-stay, dicts_in-stay, stays-push}
use Rattle.vc_steps.proofs.Helds.{any-named, held-new}
use Rattle.vc_steps.proofs.OpenLeaves.{AreNone, accounts-armed, at-armed, open_step-ok, opened-rest, session-open, session-armed, settled-open, state-armed, armed-slots}
use Rattle.vc_steps.proofs.Sessions.{Slots}

-- the region is the last, over a discipline that stood on the shelf and was armed so
pub record IsNewest {I : Type 0} {V : I → Type 0} (meaning : (x : I) × V x → Discipline) (on : Bool) (slots slots' : Slots) (entries entries' : List (List ℕ × HomeEntry I V)) (labels labels' : List Labels) (name : List ℕ) (method : Method) (home : HomeEntry I V) (new : Labels) : Type 0 where
  pub named : length labels ≡ length entries
  pub session : IsSession on slots (held_all meaning entries labels)
  pub absent : is_some (lookup (bytes_eq name) entries) ≡ false
  pub last : entries' ≡ entries ++ (name, home) ∷ []
  pub more : labels' ≡ labels ++ new ∷ []
  pub newly : region_of home.region ≡ opened_region method
  pub was : Discipline
  pub taken : at_number slots home.place ≡ Some (Some was)
  pub armed : disc_in meaning home.region ≡ armed_as on was
  pub emptied : slots' ≡ set slots (home.place - 1) None
  pub none : AreNone new

module _ {I : Type 0} {V : I → Type 0} {meaning : (x : I) × V x → Discipline} {on : Bool} {slots slots' : Slots} {entries entries' : List (List ℕ × HomeEntry I V)} {labels labels' : List Labels} {name : List ℕ} {method : Method} {home : HomeEntry I V} {new : Labels} (is : IsNewest meaning on slots slots' entries entries' labels labels' name method home new) where
  abbrev before : List Held
  before = held_all meaning entries labels

  abbrev after : List Held
  after = held_all meaning entries' labels'

  abbrev one : Held
  one = held_of meaning name home new

  abbrev over : Slots
  over = armed-slots on slots home.place is.was is.taken

  on_shelf : at_number over home.place ≡ Some (Some (disc_in meaning home.region))
  on_shelf = at-armed on slots home.place is.was is.taken ∙ ap (λ d. Some (Some d)) (sym is.armed)

  is_so : (disc_in meaning home.region).exceptions.armed ≡ on
  is_so = ap (λ (d : Discipline). d.exceptions.armed) is.armed

  stands_over : IsSession on over before
  stands_over = session-armed on slots home.place is.was is.taken on before is.session

  emptied_over : slots' ≡ set over (home.place - 1) None
  emptied_over = is.emptied ∙ sym (set-set slots (home.place - 1) (Some (armed_as on is.was)) None)

  all : after ≡ before ++ one ∷ []
  all =
      ap (λ es. held_all meaning es labels') is.last
      ∙ (ap (λ ls. held_all meaning (entries ++ (name, home) ∷ []) ls) is.more ∙ held-new meaning entries labels name home new is.named)

  rest : rest_in home.region ≡ opened_region method
  rest = ap rest_of is.newly ∙ opened-rest method

  pub newest-named : length labels' ≡ length entries'
  newest-named =
      let more : length (labels ++ new ∷ []) ≡ length (entries ++ (name, home) ∷ []) = omega (arith, length-append labels (new ∷ []), length-append entries ((name, home) ∷ []), is.named) in
      ap length is.more ∙ (more ∙ sym (ap length is.last))

  pub newest-session : IsSession on slots' after
  newest-session =
      subst (λ s. IsSession on s after) (sym emptied_over)
      (subst (λ hs. IsSession on (set over (home.place - 1) None) hs) (sym all)
      (session-open on over before name home.place (disc_in meaning home.region) method (rest_in home.region) rest (cells_in home.region) new is.none on_shelf is_so stands_over))

  pub newest-settled : settled_accounts (accounts slots') after ≡ settled_accounts (accounts slots) before
  newest-settled =
      ap (λ s. settled_accounts (accounts s) after) emptied_over
      ∙ (ap (λ hs. settled_accounts (accounts (set over (home.place - 1) None)) hs) all
      ∙ (settled-open on over before name home.place (disc_in meaning home.region) method (rest_in home.region) rest (cells_in home.region) new is.none on_shelf is_so stands_over
      ∙ ap (λ xs. settled_accounts xs before) (accounts-armed on slots home.place is.was is.taken)))

  pub newest-dicts : (kinds : List Rules) (es : List Entry) → AreDicts kinds before es → AreDicts kinds after es
  newest-dicts kinds es dicts =
      subst (λ hs. AreDicts kinds hs es) (sym all)
      (dicts-stay kinds before (before ++ one ∷ []) es (all-stay kinds before (before ++ one ∷ []) es (λ e. stays-push kinds before one e)) dicts)

  pub newest-step : (kinds : List Rules) (vs : Vs) (es : List Entry) → AreDicts kinds before es → open_step (state_of kinds slots before (dicts_in before vs es)) name method home.place ≡ step_with_reply (state_of kinds slots' after (dicts_in after vs es)) (Opened name)
  newest-step kinds vs es dicts =
      let stays = dicts_in-stay kinds before (before ++ one ∷ []) vs es (all-stay kinds before (before ++ one ∷ []) es (λ e. stays-push kinds before one e)) dicts in
      ap (λ s. open_step s name method home.place) (sym (state-armed on slots home.place is.was is.taken kinds before (dicts_in before vs es)))
      ∙ (open_step-ok on over before name home.place (disc_in meaning home.region) method (rest_in home.region) rest (cells_in home.region) new is.none on_shelf is_so stands_over kinds (dicts_in before vs es) (any-named meaning entries labels name is.named ∙ is.absent)
      ∙ (ap (λ ds. step_with_reply (state_of kinds (set over (home.place - 1) None) (before ++ one ∷ []) ds) (Opened name)) (sym stays)
      ∙ (ap (λ hs. step_with_reply (state_of kinds (set over (home.place - 1) None) hs (dicts_in hs vs es)) (Opened name)) (sym all)
      ∙ ap (λ s. step_with_reply (state_of kinds s after (dicts_in after vs es)) (Opened name)) (sym emptied_over))))
