-- A run from a session in which nothing is open to the session's end.
use Rattle.vc_base.proofs.Common.{◌≡◌, ℕ, Bool, false, List, [], ◌∷◌, map, length, IfSome, IfOk, IfErr, OnErr, None, Ok, Err, Option, Result, sym, refl, ap, ◌∙◌, subst, AllByRecursion, Discipline}
use Rattle.vc_dtdisc.specs.Rules.{Gone, Rules}
use Rattle.vc_seg.specs.declared.shelf.Shelf.{Shelf}
use Rattle.vc_script.specs.declared.command.Command.{Command}
use Rattle.vc_script.specs.declared.line_fault.LineFault.{LineFault}
use Rattle.vc_script.specs.declared.tool.Tool.{Tool}
use Rattle.vc_commands.specs.Held.{Held, home_of}
use Rattle.vc_steps.specs.Account.{ArmsNone, KeepsAccounts, SameAsked, Settles, accounts, settled_accounts, state_of}
use Rattle.vc_paths.specs.Links.{no_links}
use Rattle.vc_views.specs.Numbers.{views_by}
use Rattle.vc_steps.proofs.NewSession.{new-stands, none-held}
use Rattle.vc_steps.specs.DictHomes.{dicts_in}
use Rattle.vc_steps.specs.Homes.{accounts_on, held_in_session, settled_over, slots_on}
use Rattle.vc_steps.specs.Moment.{Moment, moment, over_sink, moment_at_rest_by, moment_at_rest}
use Rattle.vc_session.specs.ProperState.{IsProperHome, IsProperOver}
use Rattle.vc_session.specs.Replay.{IsCutShort, IsGenerated, IsReplay, IsRunOf, run_by}
use Rattle.vc_base.specs.Told.{Told}
use Rattle.vc_session.specs.Engine.{RunsScript}
use Rattle.vc_session.specs.Run.{Ran, first_bad, is_second, script}
use Rattle.vc_script.specs.Judged.{judged_lines}
use Rattle.vc_session.specs.Cut.{IsCutText}
use Rattle.vc_session.proofs.Cuts.{cut-same}
use Rattle.vc_session.proofs.NoneRefused.{stayed-same}
use Rattle.vc_session.specs.Headline.{Headline}
use Rattle.vc_session.specs.declared.status.Status.{Status}
use Rattle.vc_session.specs.Streams.{Flows, Streams}
use Rattle.vc_session.specs.QuietText.{style_by}
use Rattle.vc_session.specs.declared.style.Style.{Style}
use Rattle.vc_session.proofs.SoFar.{if_some, some-all}
use Rattle.vc_session.specs.Text.{good_lines, is_quiet, text_of}
use Rattle.vc_words.specs.declared.words.Words.{Words}
use Rattle.vc_session.specs.declared.engine.Stop.{Stop}
use Rattle.vc_session.specs.declared.engine.Stop.TheVariants.{Read}
use Rattle.vc_steps.specs.Told.{KeepRules, gone_in, rules_in}
use Rattle.vc_steps.proofs.SettledShelf.{keeps-same}
use Rattle.vc_session.specs.Arming.{KeepsLent, LastsArming}
use Rattle.vc_session.proofs.SessionLasts.{lent-ended}
use Rattle.vc_commands.specs.declared.dict.entry.DictEntry.{DictEntry}
use Rattle.vc_steps.specs.declared.session.Session.{Session}

-- from the moment of a run's last line to the one behind its session's end
pub record Rests (now after : Moment) : Type 0 where
  pub written : after.written ≡ now.written
  pub accounts : after.accounts ≡ now.accounts
  pub gone : after.gone ≡ now.gone

module _ {before now after : Moment} (rests : Rests now after) where
  pub run-rest : {quiet second : Bool} {said : Ran → List ℕ} {commands : List (ℕ × Command)} → IsRunOf quiet second said before now commands → IsRunOf quiet second said before after commands
  run-rest {quiet} {second} {said} {commands} r =
      record {
        written = r.written;
        text = r.text;
        told = subst (λ w. Told before.written w r.written) (sym rests.written) r.told;
        settles =
            subst (λ s. Settles second before.accounts s (run_by (style_by quiet second) before commands r.written).refusals) (sym rests.accounts) r.settles;
        no_need = λ stayed. r.no_need (stayed-same before now after rests.accounts stayed);
        unrefused = λ stayed. r.unrefused (stayed-same before now after rests.accounts stayed);
        gone = rests.gone ∙ r.gone;
      }

  pub generated-rest : {tool : Tool} {w : Words} {n : ℕ} → IsGenerated tool w n before now → IsGenerated tool w n before after
  generated-rest r = record { run = run-rest r.run }

  pub replay-rest : {tool : Tool} {w : Words} {input : List ℕ} {bad : Option (ℕ × LineFault)} {left : Option (List ℕ)} → IsReplay tool w before now input bad left → IsReplay tool w before after input bad left
  replay-rest r = record { first = r.first; stops = r.stops; run = run-rest r.run }

  pub cut_short-rest : {tool : Tool} {quiet : Bool} {input : List ℕ} {left : Option (List ℕ)} → IsCutShort tool quiet before now input left → IsCutShort tool quiet before after input left
  cut_short-rest r = record {
    bytes = r.bytes;
    rest = r.rest;
    split = r.split;
    unread = r.unread;
    no_fault = r.no_fault;
    run = run-rest r.run;
  }

  pub cut-rest : {style : Style} {said : Ran → List ℕ} {commands : List (ℕ × Command)} → IsCutText style said before now commands → IsCutText style said before after commands
  cut-rest c = cut-same after rests.written rests.accounts c

err-each : {T E : Type 0} (r : Result T E) (A : E → Type 0) (P Q : Type 0) → (P → Q) → IfErr r (λ e. A e → P) → IfErr r (λ e. A e → Q)
err-each (Ok x) A P Q f p = tt
err-each (Err e) A P Q f p = λ a. f (p a)

ok-each : {T E : Type 0} (r : Result T E) (P Q : T → Type 0) → ((x : T) → P x → Q x) → IfOk r P → IfOk r Q
ok-each (Ok x) P Q f p = f x p
ok-each (Err e) P Q f p = tt

pub on_err-each : {T E P Q : Type 0} (r : Result T E) → (P → Q) → OnErr r P → OnErr r Q
on_err-each (Ok x) f p = tt
on_err-each (Err e) f p = f p

-- what a run of a script promises at its last line it promises behind its session's end, from the same start
pub runs-rest : (tool : Tool) (w : Words) (start before now after : Moment) (old new : Flows) (answer : Result (Option (ℕ × LineFault)) Stop) → start ≡ before → ((written : Option (List ℕ)) → Rests (over_sink now written) (over_sink after written)) → after.armed ≡ false → RunsScript tool w answer start now old new → RunsScript tool w answer before after old new
runs-rest tool w start before now after old new answer same rests off r =
    record {
      replay =
          ok-each answer (λ bad. IfSome old.left (λ input. IsReplay tool w (over_sink start old.written) (over_sink now new.written) input bad new.left)) (λ bad. IfSome old.left (λ input. IsReplay tool w (over_sink before old.written) (over_sink after new.written) input bad new.left))
          (λ bad. if_some old.left (λ input. IsReplay tool w (over_sink start old.written) (over_sink now new.written) input bad new.left) (λ input. IsReplay tool w (over_sink before old.written) (over_sink after new.written) input bad new.left)
          (λ input ran. subst (λ m. IsReplay tool w (over_sink m old.written) (over_sink after new.written) input bad new.left) same (replay-rest (rests new.written) ran))) r.replay;
      cut_short =
          err-each answer (λ stop. stop ≡ Read) (IfSome old.left (λ input. IsCutShort tool (is_quiet w) (over_sink start old.written) (over_sink now new.written) input new.left)) (IfSome old.left (λ input. IsCutShort tool (is_quiet w) (over_sink before old.written) (over_sink after new.written) input new.left))
          (if_some old.left (λ input. IsCutShort tool (is_quiet w) (over_sink start old.written) (over_sink now new.written) input new.left) (λ input. IsCutShort tool (is_quiet w) (over_sink before old.written) (over_sink after new.written) input new.left)
          (λ input ran. subst (λ m. IsCutShort tool (is_quiet w) (over_sink m old.written) (over_sink after new.written) input new.left) same (cut_short-rest (rests new.written) ran))) r.cut_short;
      cut =
          on_err-each answer
          (if_some old.left _ _ (λ input c. subst (λ m. IsCutText (style_by (is_quiet w) (is_second tool input)) (text_of w (is_second tool input) (good_lines (first_bad tool input) (length (judged_lines input)))) (over_sink m old.written) (over_sink after new.written) (script tool input)) same (cut-rest (rests new.written) c))) r.cut;
      not_ahead = r.not_ahead;
      arms = some-all old.left _ (λ input one. off);
      read = r.read;
      write = r.write;
      reads = r.reads;
      writes = r.writes;
    }

-- a session in which nothing is open
module _ {I : Type 0} {V : I → Type 0} {D : Type 0} (meaning : (x : I) × V x → Discipline) (rules : D → Rules) (gone : D → Gone) (shelf : Shelf I V) (session : Session D I V) (kinds : List D) (none : (session.homes.entries ≡ []) × (session.labels.items ≡ []) × (session.dicts.entries ≡ []) × (session.paths ≡ no_links)) where
  no_held : held_in_session meaning session ≡ []
  no_held = none-held meaning rules shelf session kinds none

  pub new-session : IsProperOver meaning rules shelf session kinds
  new-session = record {
    stands = new-stands meaning rules shelf session kinds none;
    proper = subst (λ hs. AllByRecursion IsProperHome (map home_of hs)) (sym no_held) tt;
  }

  abbrev moment_of : List Held → List (List ℕ × DictEntry) → Moment
  moment_of hs es = record {
    state = state_of (rules_in rules kinds) (slots_on meaning shelf) hs (dicts_in hs (views_by session.paths session.dicts.entries) es);
    regions = hs;
    armed = session.is_armed;
    written = None;
    accounts = settled_accounts (accounts (slots_on meaning shelf)) hs;
    gone = gone_in gone kinds;
  }

  pub new-moment : session.is_armed ≡ false → moment meaning rules gone shelf session kinds ≡ moment_at_rest meaning rules gone shelf kinds
  new-moment off =
      ap (λ hs. moment_of hs session.dicts.entries) no_held
      ∙ (ap (λ es. moment_of [] es) none.2 ∙ ap (λ on. let m : Moment = record (moment_of [] []) { armed = on } in m) off)

  -- once it was run and ended, what was lent is kept
  pub new-ended : {first : Type 0} {run after : Shelf I V} {session' : Session D I V} {kinds' last : List D} → session.is_armed ≡ false → LastsArming meaning rules shelf session kinds run session' kinds' → (first → session'.is_armed ≡ false)
      → accounts_on meaning after ≡ settled_over meaning run session' → KeepRules rules kinds' last → ArmsNone (slots_on meaning run) (slots_on meaning after) → KeepsLent meaning rules gone first shelf kinds after last
  new-ended off h unarmed ends same arms =
      let begins : settled_over meaning shelf session ≡ accounts_on meaning shelf = ap (λ (m : Moment). m.accounts) (new-moment off) in
      lent-ended meaning rules gone shelf shelf session kinds (subst (KeepsAccounts (accounts_on meaning shelf)) (sym begins) (keeps-same (accounts_on meaning shelf))) (subst (SameAsked (accounts_on meaning shelf)) (sym begins) refl) (λ n d at on. at) h unarmed ends same arms

map-none : {A B : Type 0} (f : A → B) (xs ys : List A) → map f xs ≡ map f ys → ys ≡ [] → xs ≡ []
map-none f [] ys same none = refl
map-none f (x ∷ xs) ys same none = let empty : map f (x ∷ xs) ≡ [] = same ∙ ap (λ zs. map f zs) none in absurd cc

-- what a tool without kinds promises
pub headline-none : {I : Type 0} {V : I → Type 0} {K : Type 0} (meaning : (x : I) × V x → Discipline) (rules : K → Rules) (gone : K → Gone) (shelf shelf' : Shelf I V) (kinds kinds' : List K) {tool : Tool} {asked : Option Words} {old new : Streams} {status : Status} → kinds ≡ [] → Headline tool asked (moment_at_rest meaning rules gone shelf kinds) (moment_at_rest meaning rules gone shelf' kinds') old new status → Headline tool asked (moment_at_rest_by meaning [] [] shelf) (moment_at_rest_by meaning [] [] shelf') old new status
headline-none meaning rules gone shelf shelf' kinds kinds' {tool} {asked} {old} {new} {status} none h =
    subst (λ ks. Headline tool asked (moment_at_rest_by meaning [] [] shelf) (moment_at_rest meaning rules gone shelf' ks) old new status) (map-none rules kinds' kinds h.rules none)
    (subst (λ ks. Headline tool asked (moment_at_rest meaning rules gone shelf ks) (moment_at_rest meaning rules gone shelf' kinds') old new status) none h)
