-- The step of a look by what it answered.
use Rattle.vc_base.proofs.Common.{◌≡◌, ℕ, true, List, map, length, IfOk, IfErr, ◌==◌, slice_get, Some, Ok, Err, Result, position, bytes_eq, sym, refl, ap, ◌∙◌, subst, arith, length-map, IsDistinct, keys_of, Discipline}
use Rattle.vc_dtdisc.specs.Rules.{Rules}
use Rattle.vc_paths.specs.Layers.{Layered}
use Rattle.vc_paths.specs.Path.{visible_of}
use Rattle.vc_script.specs.Needs.{need_shown}
use Rattle.vc_script.specs.declared.command.Command.{Command}
use Rattle.vc_script.specs.declared.reply.Reply.{Reply}
use Rattle.vc_commands.specs.Held.{Held}
use Rattle.vc_commands.specs.declared.region.home.HomeEntry.{HomeEntry}
use Rattle.vc_commands.specs.Looking.{is_look, look_found, look_reply, own_place}
use Rattle.vc_commands.proofs.Firsts.{IsFirst}
use Rattle.vc_commands.proofs.Grants.{IsGranted}
use Rattle.vc_steps.specs.Account.{IsSession, accounts, settled_accounts}
use Rattle.vc_steps.specs.DictHomes.{AreDicts, dicts_in}
use Rattle.vc_steps.specs.Dicts.{dict_step}
use Rattle.vc_steps.specs.Homes.{held_all}
use Rattle.vc_steps.specs.State.{step_with_reply}
use Rattle.vc_steps.specs.Steps.{StepsBy}
use Rattle.vc_steps.proofs.DictRegions.{dicts-from, regions-held, seen}
use Rattle.vc_steps.proofs.DictsStay.{Entry}
use Rattle.vc_steps.proofs.Looks.{linked-here, linked-unlooked, state-unlooked, step-looked}
use Rattle.vc_steps.proofs.RegionSteps.{moment_over}
use Rattle.vc_steps.proofs.SameRest.{AllRest, rest-all, session-rest, settled-rest}
use Rattle.vc_steps.proofs.SessionLayers.{layers-here, rules-here}
use Rattle.vc_steps.proofs.SeenEntry.{entry-named, number-named}
use Rattle.vc_steps.proofs.SessionHere.{SessionHere, state_here, views, whole_in, parts}
use Rattle.vc_views.specs.Promises.{LooksThrough}
use Rattle.vc_steps.proofs.DictByName.{first-dict}
use Rattle.vc_steps.specs.Moment.{Moment}
use Rattle.vc_steps.proofs.Steps.{halts-same, steps-quiet}
use Rattle.vc_steps.proofs.ViewReplies.{look-any}
use Rattle.vc_views.specs.Dicts.{AreDictsOver, DictRegion, dict_seen, home_rest, layered_by, number_in, number_at, region_seen, with_current_at}
use Rattle.vc_views.specs.Looks.{place_through, reply_through}
use Rattle.vc_views.specs.Numbers.{AreLinked, views_by}
use Rattle.vc_views.specs.Views.{is_dict}

module _ {I : Type 0} {V : I → Type 0} {E : Type 0} {meaning : (x : I) × V x → Discipline} (here : SessionHere meaning) {homes' : List (List ℕ × HomeEntry I V)} {es' : List Entry} {i : ℕ} {command : Command} {answer : Result Reply E}
    (looked : LooksThrough here.kinds here.homes homes' here.es es' here.links i command answer) where
  open here use {links}
  open (parts here) use {kinds, slots, hs, es}

  abbrev gs : List Held
  gs = held_all meaning homes' here.labels

  abbrev regions : List DictRegion
  regions = map region_seen here.homes

  abbrev regions' : List DictRegion
  regions' = map region_seen homes'

  abbrev all : Layered
  all = layered_by kinds regions es

  rest : AllRest hs gs
  rest = rest-all meaning here.homes homes' here.labels looked.homes

  pub named-looked : length here.labels ≡ length homes'
  named-looked = omega (arith, here.named, length-map here.homes home_rest, length-map homes' home_rest, ap length looked.homes)

  pub session-looked : IsSession here.armed slots gs
  session-looked = session-rest here.armed slots hs gs rest here.held

  pub settled-looked : settled_accounts (accounts slots) gs ≡ settled_accounts (accounts slots) hs
  settled-looked = settled-rest (accounts slots) hs gs rest

  pub dicts-looked : AreDicts kinds gs es'
  dicts-looked = dicts-from gs kinds es' (subst (λ rs. AreDictsOver kinds rs es') (regions-held meaning homes' here.labels named-looked) looked.dicts)

  seen-by : (f : List DictRegion → List DictRegion → Type 0) → f regions regions' → f (seen hs) (seen gs)
  seen-by f is =
      subst (λ rs. f rs (seen gs)) (regions-held meaning here.homes here.labels here.named) (subst (f regions) (regions-held meaning homes' here.labels named-looked) is)

  module _ (names : IsDistinct bytes_eq (keys_of es)) (name : List ℕ) (index : position (bytes_eq name) (keys_of es) ≡ Some i) (look : is_look command ≡ true) where
    abbrev e : Entry
    e = (name, (entry-named es name i index).0)

    at : slice_get es i ≡ Some e
    at = (entry-named es name i index).1

    first : IsFirst (is_dict name) (dicts_in hs (views here) es) i
    first = first-dict hs (views here) es name i index

    abbrev n : ℕ
    n = number_in e

    abbrev rules : Rules
    rules = (whole_in here i e at).rules

    alike : rules ≡ (all.layer n).rules
    alike = rules-here meaning kinds here.homes here.labels es here.named here.dicts links here.are i e at

    -- by the number that it has
    by-number : (P : ℕ → Reply → Type 0) → IfOk answer (P (number_at i es)) → IfOk answer (P n)
    by-number P is = subst (λ m. IfOk answer (P m)) (number-named es name i index) is

    abbrev Looked : Type 0
    Looked = map (dict_seen regions') es' ≡ with_current_at i (place_through all links n command) (map (dict_seen regions) es)

    ok : IfOk answer (λ _. Looked)
    ok = by-number (λ m _. map (dict_seen regions') es' ≡ with_current_at i (place_through all links m command) (map (dict_seen regions) es)) looked.ok

    replied : IfOk answer (λ reply. reply ≡ reply_through all links n command)
    replied = by-number (λ m reply. reply ≡ reply_through all links m command) looked.reply

    abbrev Same : Type 0
    Same = map (dict_seen regions') es' ≡ map (dict_seen regions) es

    looked-seen : Looked → map (dict_seen (seen gs)) es' ≡ with_current_at i (place_through all links n command) (map (dict_seen (seen hs)) es)
    looked-seen is = seen-by (λ rs qs. map (dict_seen qs) es' ≡ with_current_at i (place_through all links n command) (map (dict_seen rs) es)) is

    same-seen : Same → map (dict_seen (seen gs)) es' ≡ map (dict_seen (seen hs)) es
    same-seen is = seen-by (λ rs qs. map (dict_seen qs) es' ≡ map (dict_seen rs) es) is

    linked-by : (r : Result Reply E) → IfOk r (λ _. Looked) → IfErr r (λ _. Same) → AreLinked links es'
    linked-by (Ok reply) is err = linked-here kinds slots hs gs rest links es es' here.are names here.dicts i e at first (place_through all links n command) (looked-seen is)
    linked-by (Err x) is err = linked-unlooked kinds slots hs gs rest links es es' here.are (same-seen err)

    pub linked-looked : AreLinked links es'
    linked-looked = linked-by answer ok looked.err

    abbrev moment_before : Moment
    moment_before = moment_over here.armed slots es (views here) kinds here.gone hs

    abbrev moment_after : Moment
    moment_after = moment_over here.armed slots es' (views_by links es') kinds here.gone gs

    steps-by : (r : Result Reply E) → IfOk r (λ reply. reply ≡ reply_through all links n command) → IfOk r (λ _. Looked) → IfErr r (λ _. Same) → StepsBy r moment_before moment_after command (λ st. dict_step st name command)
    steps-by (Ok reply) says is err =
        let shown = look-any IsGranted tt (λ bytes. tt) (λ objects. tt) tt (all.layer n).rules command (visible_of all links n) in
        steps-quiet moment_before moment_after command (dict_step (state_here here) name command (need_shown reply)) reply
        (step-looked kinds slots hs gs rest links es es' here.are names here.dicts i e at first (place_through all links n command) (looked-seen is)
        all (layers-here meaning kinds here.homes here.labels es here.named here.dicts) rules alike refl command look
        (ap (λ r. own_place (λ m. m == n) (look_found r command (visible_of all links n))) (sym alike)) (need_shown reply)
        ∙ (ap (λ r. step_with_reply moment_after.state (look_reply r command (visible_of all links n))) alike ∙ ap (step_with_reply moment_after.state) (sym says)))
        refl settled-looked refl (subst IsGranted (sym says) shown)
    steps-by (Err x) says is err = halts-same moment_before moment_after command (state-unlooked kinds slots hs gs rest links es es' here.are (same-seen err)) refl settled-looked refl

    pub steps-looked : StepsBy answer moment_before moment_after command (λ st. dict_step st name command)
    steps-looked = steps-by answer replied ok looked.err
