-- Where no fault was counted no reply shows a need.
use Rattle.vc_base.proofs.Common.{◌≡◌, ℕ, Bool, true, false, cond, eqb, ◌==◌, List, [], ◌∷◌, ◌++◌, map, Some, None, Option, option_map, count_by, sym, refl, ap, ◌∙◌, subst, inl, inr, arith, eq-eqb, list_any, sum_by-append, AllByRecursion, Terms, at_number}
use Rattle.vc_region.specs.Region.{Region}
use Rattle.vc_region.specs.Stat.{opened_region}
use Rattle.vc_base.specs.declared.dict_method.DictMethod.{DictMethod}
use Rattle.vc_dtdisc.specs.Rules.{Rules}
use Rattle.vc_script.specs.declared.command.Command.{Command}
use Rattle.vc_script.specs.declared.command.Command.TheVariants.{OpenRegion, CloseRegion, OpenDict}
use Rattle.vc_script.specs.declared.refusal.Refusal.TheVariants as why
use Rattle.vc_script.specs.declared.reply.Reply.{Reply}
use Rattle.vc_script.specs.declared.reply.Reply.TheVariants.{Refused}
use Rattle.vc_script.specs.Needs.{Need, NoNeed, ShowsNeeds, need_at, need_shown}
use Rattle.vc_commands.specs.Home.{Home, Label, is_home}
use Rattle.vc_views.specs.Views.{DictHome, dict_named}
use Rattle.vc_model.specs.Count.{RoseBy}
use Rattle.vc_steps.specs.Account.{faults_of}
use Rattle.vc_steps.specs.Dicts.{dict_command, dict_of, on_found, on_seat, open_dict_in, region_asked_for}
use Rattle.vc_steps.specs.Moment.{Moment}
use Rattle.vc_steps.specs.Refusals.{home_place, place_named, refusal_at}
use Rattle.vc_steps.specs.State.{State, Stepped, close_home, home_named, is_home_busy, opened_over, step_with_close, step_with_refusal}
use Rattle.vc_steps.specs.Step.{opened_in, region_asked, region_of_command, region_step, shelf_step, step, step_of, step_on}
use Rattle.vc_steps.proofs.RegionChange.{asked-region}
use Rattle.vc_session.specs.Completes.{Stayed}
use Rattle.vc_session.specs.Cut.{RoseAsRefused}
use Rattle.vc_session.specs.Replay.{FaultsStayed}
use Rattle.vc_session.specs.Run.{run_from}

-- where a step has a place to be refused at and no refusal is there, its reply shows no need
placed : (s : State) (c : Command) (reply : Reply) (p : ℕ) → place_named s (region_asked s c) ≡ p ∷ [] → refusal_at s c reply ≡ [] → need_shown reply ≡ NoNeed
placed s c (Refused why.NoSegment) p there none = let empty : p ∷ [] ≡ [] = sym there ∙ none in absurd cc
placed s c (Refused why.NoSegmentForTable) p there none = let empty : p ∷ [] ≡ [] = sym there ∙ none in absurd cc
placed s c (Refused why.NoSegmentForObject) p there none = let empty : p ∷ [] ≡ [] = sym there ∙ none in absurd cc
placed s c reply p there none = refl

cond-shown : (t : Bool) (a b : Stepped) → need_shown a.reply ≡ NoNeed → need_shown b.reply ≡ NoNeed → need_shown (cond t a b).reply ≡ NoNeed
cond-shown true a b p q = p
cond-shown false a b p q = q

opened-shown : (s : State) (r : List ℕ) (n : ℕ) (region : Region Label) (place : Option (Option Terms)) → need_shown (opened_over s r n region place).reply ≡ NoNeed
opened-shown s r n region None = refl
opened-shown s r n region (Some None) = refl
opened-shown s r n region (Some (Some terms)) = refl

closed-shown : (s : State) (r : List ℕ) (o : Option Home) → need_shown (close_home s r o).reply ≡ NoNeed
closed-shown s r None = refl
closed-shown s r (Some h) = cond-shown (is_home_busy s r) (step_with_refusal s why.Busy) (step_with_close s r h) refl refl

module _ (s : State) where
  -- a dictionary is opened in an open region
  opens : (d r : List ℕ) (method : DictMethod) (kind : ℕ) (need : Need) (o : Option Home) → home_named r s.homes ≡ o → refusal_at s (OpenDict d method r kind) (open_dict_in s d method kind need o).reply ≡ [] → need_shown (open_dict_in s d method kind need o).reply ≡ NoNeed
  opens d r method kind need None found none = refl
  opens d r method kind need (Some h) found none =
      placed s (OpenDict d method r kind) (open_dict_in s d method kind need (Some h)).reply h.place (ap home_place found) none

  on-shelf : (c : Command) (need : Need) → refusal_at s c (shelf_step s c need).reply ≡ [] → need_shown (shelf_step s c need).reply ≡ NoNeed
  on-shelf (OpenRegion r method n) need none =
      cond-shown (list_any (is_home r) s.homes) (step_with_refusal s why.RegionExists) (opened_over s r n (opened_region method) (at_number s.shelf n)) refl (opened-shown s r n (opened_region method) (at_number s.shelf n))
  on-shelf (CloseRegion r) need none = closed-shown s r (home_named r s.homes)
  on-shelf (OpenDict d method r kind) need none = opens d r method kind need (home_named r s.homes) refl none
  on-shelf c need none = refl

  module _ (n : ℕ) (c : Command) (need : Need) where
    in-home : (r : List ℕ) (o : Option Home) → region_asked s c ≡ Some r → home_named r s.homes ≡ o → refusal_at s c (region_step s r n c need o).reply ≡ [] → need_shown (region_step s r n c need o).reply ≡ NoNeed
    in-home r None asked found none = refl
    in-home r (Some h) asked found none =
        placed s c (region_step s r n c need (Some h)).reply h.place (ap (place_named s) asked ∙ ap home_place found) none

    in-region : (o : Option (List ℕ)) → dict_of c ≡ None → region_of_command c ≡ o → refusal_at s c (step_of s n c need o).reply ≡ [] → need_shown (step_of s n c need o).reply ≡ NoNeed
    in-region None dict is none = on-shelf c need none
    in-region (Some r) dict is none = in-home r (home_named r s.homes) (asked-region s c r dict is) refl none

    on-seated : (act : DictHome → Home → Rules → Stepped) (e : DictHome) (o : Option Home) (rules : Option Rules) → region_asked s c ≡ Some e.home → home_named e.home s.homes ≡ o → refusal_at s c (on_seat s e act o rules).reply ≡ [] → need_shown (on_seat s e act o rules).reply ≡ NoNeed
    on-seated act e None rules asked found none = refl
    on-seated act e (Some h) None asked found none = refl
    on-seated act e (Some h) (Some rules) asked found none =
        placed s c (act e h rules).reply h.place (ap (place_named s) asked ∙ ap home_place found) none

    on-named : (act : DictHome → Home → Rules → Stepped) (o : Option DictHome) → region_asked s c ≡ option_map (λ h. h.home) o → refusal_at s c (on_found s act o).reply ≡ [] → need_shown (on_found s act o).reply ≡ NoNeed
    on-named act None asked none = refl
    on-named act (Some e) asked none = on-seated act e (home_named e.home s.homes) (at_number s.kinds e.kind) asked refl none

    by-dict : (o : Option (List ℕ)) → dict_of c ≡ o → refusal_at s c (step_on s n c need o).reply ≡ [] → need_shown (step_on s n c need o).reply ≡ NoNeed
    by-dict None is none = in-region (region_of_command c) is refl none
    by-dict (Some d) is none = on-named (dict_command s c need) (dict_named d s.dicts) (ap (λ o. region_asked_for s o (opened_in c)) is) none

    -- a step that is refused at no place shows no need
    step-none : refusal_at s c (step s n c need).reply ≡ [] → need_shown (step s n c need).reply ≡ NoNeed
    step-none none = by-dict (dict_of c) refl none

append-none : {A : Type 0} (xs ys : List A) → xs ++ ys ≡ [] → (xs ≡ []) × (ys ≡ [])
append-none [] ys none = (refl, none)
append-none (x ∷ xs) ys none = absurd cc

-- nor does a run
pub run-none : (s : State) (cs : List (ℕ × Command)) (needs : List (ℕ × Need)) → (run_from s cs needs).refusals ≡ [] → AllByRecursion (λ r. need_shown r.1 ≡ NoNeed) (run_from s cs needs).replies
run-none s [] needs none = tt
run-none s (c ∷ cs) needs none =
    let t = step s c.0 c.1 (need_at needs c.0) in
    let parts = append-none (refusal_at s c.1 t.reply) (run_from t.state cs needs).refusals none in
    (step-none s c.0 c.1 (need_at needs c.0) parts.0, run-none t.state cs needs parts.1)

none-at : (refusals : List ℕ) → ((place : ℕ) → count_by (λ p. p == place) refusals ≡ 0) → refusals ≡ []
none-at [] none = refl
none-at (p ∷ ps) none =
    let one : ◌≡◌ {A = ℕ} (cond (eqb p p) 1 0) 1 = ap (λ t. cond t 1 0) (eq-eqb p p refl) in
    absurd (omega (arith, none p, sum_by-append (λ q. cond (eqb q p) 1 0) (p ∷ []) ps, one))

stayed-zero : (n before after : ℕ) → RoseBy n before after → Stayed before after → n ≡ 0
stayed-zero n before after (inl more) stayed = omega (arith, more, stayed.0)
stayed-zero n before after (inr last) stayed = absurd (omega (arith, last, stayed.1))

-- where the faults of each place stayed, nothing was refused
pub stayed-none : (refusals : List ℕ) (before after : Moment) → RoseAsRefused refusals before after → FaultsStayed before after → refusals ≡ []
stayed-none refusals before after rose stayed = none-at refusals (λ place. stayed-zero _ _ _ (rose place) (stayed place))

-- needs that show replies without one show none at their lines
pub shown-none : (needs : List (ℕ × Need)) (rs : List (ℕ × Reply)) → ShowsNeeds needs rs → AllByRecursion (λ r. need_shown r.1 ≡ NoNeed) rs → AllByRecursion (λ n. need_at needs n ≡ NoNeed) (map (λ r. r.0) rs)
shown-none needs [] shows none = tt
shown-none needs (r ∷ rs) shows none = (shows.0 ∙ none.0, shown-none needs rs shows.1 none.1)

-- where the accounts are the same, the faults stayed there too
pub stayed-same : (before now after : Moment) → after.accounts ≡ now.accounts → FaultsStayed before after → FaultsStayed before now
stayed-same before now after same stayed =
    λ place. subst (λ shelf. Stayed (faults_of (at_number before.accounts place)) (faults_of (at_number shelf place))) same (stayed place)
