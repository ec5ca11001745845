-- A run in its middle, and what each command adds to it.
use Rattle.vc_base.proofs.Common.{◌≡◌, ℕ, ◌+◌, ◌^◌, ◌<◌, ◌≤◌, max, Bool, true, false, cond, not, List, [], ◌∷◌, ◌++◌, map, IsTrue, Some, None, sum, count_by, Option, sym, refl, ap, ◌∙◌, subst, append_assoc, append-nil, arith, sum_by-append, map-append, AllByRecursion, Grant}
use Rattle.std.proofs.lemmas.Grind.{flat_map-append}
use Rattle.std.proofs.lemmas.List.Sums.{sum_by_push}
use Rattle.vc_base.proofs.Quantifiers.{all-push, all-weaken}
use Rattle.vc_counts.specs.Counts.{live_bytes, counts_with_step}
use Rattle.vc_counts.specs.declared.counts.Counts.{Counts}
use Rattle.vc_script.specs.declared.command.Command.{Command}
use Rattle.vc_script.specs.declared.reply.Reply.{Reply}
use Rattle.vc_script.specs.ProperReply.{IsProperReply}
use Rattle.vc_script.specs.Proper.{IsProperCommand}
use Rattle.vc_script.specs.Lines.{ended_lines}
use Rattle.vc_script.specs.Needs.{AreAscending, Need, NoNeed, ShowsNeeds, is_refusal, need_at, need_shown}
use Rattle.vc_script.proofs.Texts.{ascending-push}
use Rattle.vc_steps.specs.Account.{Settles}
use Rattle.vc_steps.specs.Moment.{Moment, moment_at_end, over_sink}
use Rattle.vc_steps.specs.Refusals.{refusal_at}
use Rattle.vc_steps.specs.State.{State, Stepped}
use Rattle.vc_steps.specs.Step.{step}
use Rattle.vc_steps.specs.Told.{ended_told, tell}
use Rattle.vc_steps.proofs.SettledShelf.{settles-armed, settles-same, settles-trans}
use Rattle.vc_steps.proofs.KindsTold.{tell-append}
use Rattle.vc_session.specs.Engine.{IsIdle, IsStep, TakesVersion}
use Rattle.vc_session.specs.Progress.{Progress}
use Rattle.vc_session.specs.ProperState.{IsProperState}
use Rattle.vc_session.specs.declared.style.Style.{Style}
use Rattle.vc_session.specs.QuietText.{body_by, line_by, needs_by_text, style_by}
use Rattle.vc_session.specs.Replay.{FaultsStayed, IsRunOf, LeavesRun, all_told, run_by}
use Rattle.vc_base.specs.Told.{Told}
use Rattle.vc_session.specs.Run.{Ran, lines_of, nothing_ran, run_from}
use Rattle.vc_session.specs.Text.{replies_text, counts_of}
use Rattle.vc_session.proofs.NoneRefused.{run-none, shown-none, stayed-none}
use Rattle.vc_session.proofs.ProperSteps.{proper-step}
use Rattle.vc_session.proofs.Runs.{one_more, run-push, step_after}
use Rattle.vc_session.proofs.ShownNeeds.{NoLine, shows-needs}

pub told-none : (before : Option (List ℕ)) → Told before before []
told-none None = tt
told-none (Some w) = ap Some (sym (append-nil w))

pub told-more : (before now after : Option (List ℕ)) (front piece : List ℕ) → Told before now front → Told now after piece → Told before after (front ++ piece)
told-more None now after front piece p q = tt
told-more (Some w) now after front piece p q =
    subst (λ (o : Option (List ℕ)). Told o after piece) p q ∙ ap Some (append_assoc w front piece)

all-front : {A : Type 0} (P : A → Type 0) (xs : List A) (x : A) → AllByRecursion P (xs ++ x ∷ []) → AllByRecursion P xs × P x
all-front P [] x each = (tt, each.0)
all-front P (y ∷ ys) x each = let behind = all-front P ys x each.1 in ((each.0, behind.0), behind.1)

-- no command was run
pub progress-start : (quiet : Bool) (start : Moment) (counts : Counts) → IsProperState start.state → (IsTrue quiet → counts ≡ counts_of (nothing_ran start.state)) → Progress quiet start start counts [] 0 []
progress-start quiet start counts all none = record {
  ran = nothing_ran start.state;
  lines = refl;
  rising = tt;
  within = tt;
  proper = tt;
  proper_state = all;
  run = λ needs shows. refl;
  state = refl;
  settles = settles-same start.accounts;
  gone = refl;
  told = refl;
  counted = none;
}

-- the same run, over another sink
pub progress-over : {quiet : Bool} {start now : Moment} {counts : Counts} {text : List ℕ} {count : ℕ} {done : List (ℕ × Command)} (written : Option (List ℕ)) → Progress quiet start now counts text count done → Progress quiet start (over_sink now written) counts text count done
progress-over written p = record {
  ran = p.ran;
  lines = p.lines;
  rising = p.rising;
  within = p.within;
  proper = p.proper;
  proper_state = p.proper_state;
  run = p.run;
  state = p.state;
  settles = p.settles;
  gone = p.gone;
  told = p.told;
  counted = p.counted;
}

-- a run stays what it is where nothing changed
pub progress-same : {quiet : Bool} {start now next : Moment} {before counts : Counts} {text : List ℕ} {count : ℕ} {done : List (ℕ × Command)} → Progress quiet start now before text count done → IsIdle now next before counts → Progress quiet start next counts text count done
progress-same {quiet = quiet} {start = start} {now = now} {next = next} p idle = record {
  ran = p.ran;
  lines = p.lines;
  rising = p.rising;
  within = p.within;
  proper = p.proper;
  proper_state = subst IsProperState (sym idle.state) p.proper_state;
  run = p.run;
  state = p.state ∙ sym idle.state;
  settles =
      subst (λ on. Settles on start.accounts next.accounts p.ran.refusals) (sym idle.armed)
      (subst (Settles now.armed start.accounts next.accounts) (append-nil p.ran.refusals) (settles-trans start.accounts now.accounts next.accounts p.ran.refusals [] p.settles idle.settles));
  gone = idle.gone ∙ p.gone;
  told = p.told ∙ ap (λ on. replies_text (style_by quiet on) p.ran) (sym idle.armed);
  counted = λ is_quiet. idle.same_counts ∙ p.counted is_quiet;
}

none-replied : (rs : List (ℕ × Reply)) → [] ≡ map (λ (r : ℕ × Reply). r.0) rs → rs ≡ []
none-replied [] none = refl
none-replied (r ∷ rs) none = absurd cc

-- where no command was run, nothing is written of replies, whatever is asked for
pub none-written : (style : Style) (ran : Ran) → [] ≡ map (λ (r : ℕ × Reply). r.0) ran.replies → replies_text style ran ≡ []
none-written style ran none = ap (λ rs. body_by style rs) (none-replied ran.replies none)

-- a run of no command stays what it is where the version was told
pub progress-version : {quiet : Bool} {start now next : Moment} {before counts : Counts} {text : List ℕ} {count n version : ℕ} → now.armed ≡ false → Progress quiet start now before text count [] → TakesVersion now next before counts n version → Progress quiet start next counts text count []
progress-version {quiet = quiet} {start = start} {now = now} {next = next} off p told = record {
  ran = p.ran;
  lines = p.lines;
  rising = p.rising;
  within = p.within;
  proper = p.proper;
  proper_state = subst IsProperState (sym told.state) p.proper_state;
  run = p.run;
  state = p.state ∙ sym told.state;
  settles =
      subst (λ accounts. Settles next.armed start.accounts accounts p.ran.refusals) (sym told.accounts)
      (settles-armed next.armed (subst (λ on. Settles on start.accounts now.accounts p.ran.refusals) off p.settles));
  gone = told.gone ∙ p.gone;
  told = p.told ∙ (none-written (style_by quiet now.armed) p.ran p.lines ∙ sym (none-written (style_by quiet next.armed) p.ran p.lines));
  counted = λ is_quiet. told.same_counts ∙ p.counted is_quiet;
}

-- what a run with one more step counted
cond-not : (t : Bool) → ◌≡◌ {A = ℕ} (cond (not t) 1 0) (cond t 0 1)
cond-not true = refl
cond-not false = refl

same_counts : (done done' refused refused' segments segments' bytes bytes' busy peak : ℕ) → done ≡ done' → refused ≡ refused' → segments ≡ segments' → bytes ≡ bytes' → (let c : Counts = record { done = done; refused = refused; segments = segments; bytes = bytes; busy = busy; peak = peak } in c) ≡ record { done = done'; refused = refused'; segments = segments'; bytes = bytes'; busy = busy; peak = peak }
same_counts done done' refused refused' segments segments' bytes bytes' busy peak e0 e1 e2 e3 = cc

pub counts-push : (r : Ran) (c : ℕ × Command) (t : Stepped) → counts_of (one_more r c t) ≡ counts_with_step (counts_of r) t
counts-push r c t =
    same_counts _ _ _ _ _ _ _ _ (live_bytes t.state) (max r.peak (live_bytes t.state))
    (sum_by_push (λ (x : ℕ × Reply). cond (not (is_refusal x.1)) 1 0) r.replies (c.0, t.reply) ∙ ap (λ n. count_by (λ (x : ℕ × Reply). not (is_refusal x.1)) r.replies + n) (cond-not (is_refusal t.reply)))
    (sum_by_push (λ (x : ℕ × Reply). cond (is_refusal x.1) 1 0) r.replies (c.0, t.reply))
    (sum_by-append (λ (g : Grant). cond g.fresh 1 0) r.granted t.granted)
    (ap sum (map-append (λ (g : Grant). g.bytes) r.granted t.granted) ∙ sum_by-append (λ n. n) (map (λ (g : Grant). g.bytes) r.granted) (map (λ (g : Grant). g.bytes) t.granted))

-- one more reply
body-push : (style : Style) (replies : List (ℕ × Reply)) (r : ℕ × Reply) → body_by style (replies ++ r ∷ []) ≡ body_by style replies ++ line_by style r
body-push style replies r =
    flat_map-append (line_by style) replies (r ∷ []) ∙ ap (λ w. body_by style replies ++ w) (append-nil (line_by style r))

module _ {quiet : Bool} {start now : Moment} {before : Counts} {text : List ℕ} {count : ℕ} {done : List (ℕ × Command)} (n : ℕ) (below : count < n) (p : Progress quiet start now before text count done) where
  within-next : AllByRecursion (λ m. m ≤ n) (lines_of done)
  within-next = all-weaken (λ m. m ≤ count) (λ m. m ≤ n) (lines_of done) (λ m le. omega (arith, le, below)) p.within

  below-next : AllByRecursion (λ m. m < n) (lines_of done)
  below-next = all-weaken (λ m. m ≤ count) (λ m. m < n) (lines_of done) (λ m le. omega (arith, le, below)) p.within

  -- a line that asks for nothing
  pub progress-blank : Progress quiet start now before text n done
  progress-blank = record {
    ran = p.ran;
    lines = p.lines;
    rising = p.rising;
    within = within-next;
    proper = p.proper;
    proper_state = p.proper_state;
    run = p.run;
    state = p.state;
    settles = p.settles;
    gone = p.gone;
    told = p.told;
    counted = p.counted;
  }

  module _ {next : Moment} {counts : Counts} (c : Command) (is : IsProperCommand c) (i : IsStep quiet now next before counts n c) where
    abbrev t : Stepped
    t = step now.state n c (need_shown i.reply)

    -- the run with one more step
    abbrev pushed : Ran
    pushed = one_more p.ran (n, c) t

    -- with the reply and the state of the step
    abbrev stepped_ran : Ran
    stepped_ran = record {
      replies = p.ran.replies ++ (n, i.reply) ∷ [];
      state = next.state;
      refusals = p.ran.refusals ++ refusal_at now.state c i.reply;
      told = p.ran.told ++ t.told;
      granted = p.ran.granted ++ t.granted;
      peak = max p.ran.peak (live_bytes next.state);
    }

    abbrev with_step : Reply → State → State → Ran
    with_step reply was state = record {
      replies = p.ran.replies ++ (n, reply) ∷ [];
      state = state;
      refusals = p.ran.refusals ++ refusal_at was c reply;
      told = p.ran.told ++ t.told;
      granted = p.ran.granted ++ t.granted;
      peak = max p.ran.peak (live_bytes state);
    }

    pushed-stepped : pushed ≡ stepped_ran
    pushed-stepped =
        ap (λ was. with_step t.reply was t.state) p.state
        ∙ (ap (λ reply. with_step reply now.state t.state) i.steps.gives.replied
        ∙ ap (λ state. with_step i.reply now.state state) i.steps.gives.state_after)

    proper_next : IsProperReply i.reply × IsProperState next.state
    proper_next =
        let proper = proper-step now.state n c (need_shown i.reply) is p.proper_state in
        (subst IsProperReply i.steps.gives.replied proper.0, subst IsProperState i.steps.gives.state_after proper.1)

    lines_next : lines_of (done ++ (n, c) ∷ []) ≡ lines_of done ++ n ∷ []
    lines_next = map-append (λ (d : ℕ × Command). d.0) done ((n, c) ∷ [])

    run_next : (needs : List (ℕ × Need)) → ShowsNeeds needs (p.ran.replies ++ (n, i.reply) ∷ []) → run_from start.state (done ++ (n, c) ∷ []) needs ≡ stepped_ran
    run_next needs shows =
        let parts = all-front (λ (x : ℕ × Reply). need_at needs x.0 ≡ need_shown x.1) p.ran.replies (n, i.reply) shows in
        run-push start.state done needs (n, c)
        ∙ (ap (λ e. one_more e (n, c) (step_after e (n, c) needs)) (p.run needs parts.0)
        ∙ (ap (λ s. one_more p.ran (n, c) (step s n c (need_at needs n))) p.state
        ∙ (ap (λ need. one_more p.ran (n, c) (step now.state n c need)) parts.1
        ∙ pushed-stepped)))

    -- one more command was run
    pub progress-step : Progress quiet start next counts (text ++ line_by (style_by quiet now.armed) (n, i.reply)) n (done ++ (n, c) ∷ [])
    progress-step = record {
      ran = stepped_ran;
      lines = lines_next ∙ (ap (λ ns. ns ++ n ∷ []) p.lines ∙ sym (map-append (λ (r : ℕ × Reply). r.0) p.ran.replies ((n, i.reply) ∷ [])));
      rising = subst AreAscending (sym lines_next) (ascending-push (lines_of done) n p.rising below-next);
      within = subst (AllByRecursion (λ m. m ≤ n)) (sym lines_next) (all-push (λ m. m ≤ n) (lines_of done) n within-next (omega arith));
      proper = all-push (λ (r : ℕ × Reply). IsProperReply r.1) p.ran.replies (n, i.reply) p.proper proper_next.0;
      proper_state = proper_next.1;
      run = run_next;
      state = refl;
      settles =
          subst (λ on. Settles on start.accounts next.accounts (p.ran.refusals ++ refusal_at now.state c i.reply)) (sym i.steps.armed)
          (settles-trans start.accounts now.accounts next.accounts p.ran.refusals (refusal_at now.state c i.reply) p.settles i.steps.settles);
      gone =
          i.steps.gives.told
          ∙ (ap (λ g. tell t.told g) p.gone
          ∙ sym (tell-append p.ran.told t.told start.gone));
      told =
          ap (λ w. w ++ line_by (style_by quiet now.armed) (n, i.reply)) p.told
          ∙ (sym (body-push (style_by quiet now.armed) p.ran.replies (n, i.reply))
          ∙ ap (λ on. replies_text (style_by quiet on) stepped_ran) (sym i.steps.armed));
      counted = λ is_quiet.
          i.counted is_quiet
          ∙ (ap (λ b. counts_with_step b t) (p.counted is_quiet)
          ∙ (sym (counts-push p.ran (n, c) t)
          ∙ ap counts_of pushed-stepped));
    }

-- the end of a run whose text is that of its replies and this one behind them
module _ {quiet : Bool} {start now : Moment} {counts : Counts} {text : List ℕ} {count : ℕ} {done : List (ℕ × Command)} (p : Progress quiet start now counts text count done) where
  abbrev style : Style
  style = style_by quiet now.armed

  few_lines : count < 2 ^ 64 → AllByRecursion (λ n. n < 2 ^ 64) (map (λ (r : ℕ × Reply). r.0) p.ran.replies)
  few_lines few =
      subst (AllByRecursion (λ n. n < 2 ^ 64)) p.lines
      (all-weaken (λ n. n ≤ count) (λ n. n < 2 ^ 64) (lines_of done) (λ n le. omega (arith, le, few)) p.within)

  -- the text shows the needs of its replies
  pub shows : (tail : List ℕ) → count < 2 ^ 64 → ((n : ℕ) → n < 2 ^ 64 → NoLine n (ended_lines tail)) → ShowsNeeds (needs_by_text style (lines_of done) (text ++ tail)) p.ran.replies
  shows tail few none =
      subst (λ t. ShowsNeeds (needs_by_text style (lines_of done) (t ++ tail)) p.ran.replies) (sym p.told)
      (subst (λ ns. ShowsNeeds (needs_by_text style ns (replies_text style p.ran ++ tail)) p.ran.replies) (sym p.lines)
      (shows-needs style p.ran.replies tail (few_lines few) (subst AreAscending p.lines p.rising) p.proper none))

  -- where no fault was counted no reply shows a need
  module _ (needs : List (ℕ × Need)) (shows : ShowsNeeds needs p.ran.replies) (stayed : FaultsStayed start now) where
    replied-none : AllByRecursion (λ r. need_shown r.1 ≡ NoNeed) p.ran.replies
    replied-none =
        let ran = p.run needs shows in
        let none : (run_from start.state done needs).refusals ≡ [] = ap (λ r. r.refusals) ran ∙ stayed-none p.ran.refusals start now (λ place. (p.settles.faults place).rose) stayed in
        subst (λ r. AllByRecursion (λ x. need_shown x.1 ≡ NoNeed) r.replies) ran (run-none start.state done needs none)

    -- needs that show the replies show none at their lines
    pub none-needed : AllByRecursion (λ n. need_at needs n ≡ NoNeed) (lines_of done)
    none-needed =
        subst (AllByRecursion (λ n. need_at needs n ≡ NoNeed)) (sym p.lines) (shown-none needs p.ran.replies shows replied-none)

    -- and the run is the one without a need
    none-refused : run_from start.state done [] ≡ p.ran
    none-refused =
        p.run [] (all-weaken (λ r. need_shown r.1 ≡ NoNeed) (λ r. need_at [] r.0 ≡ need_shown r.1) p.ran.replies (λ r none. sym none) replied-none)

  -- what is left is the state that the run leaves for them
  pub progress-leaves : (said : Ran → List ℕ) (tail : List ℕ) (after : Option (List ℕ)) → count < 2 ^ 64 → ((n : ℕ) → n < 2 ^ 64 → NoLine n (ended_lines tail)) → said p.ran ≡ replies_text style p.ran ++ tail → Told start.written after (text ++ tail) → LeavesRun quiet now.armed said start (over_sink now after) done
  progress-leaves said tail after few none says told =
      let ran : run_by style start done (text ++ tail) ≡ p.ran = p.run (needs_by_text style (lines_of done) (text ++ tail)) (shows tail few none) in
      record {
        written = text ++ tail;
        text = ap (λ t. t ++ tail) p.told ∙ (sym says ∙ ap said (sym ran));
        told = told;
        state = sym p.state ∙ ap (λ (r : Ran). r.state) (sym ran);
      }

  pub progress-end : (said : Ran → List ℕ) (tail : List ℕ) (after : Option (List ℕ)) → count < 2 ^ 64 → ((n : ℕ) → n < 2 ^ 64 → NoLine n (ended_lines tail)) → said p.ran ≡ replies_text style p.ran ++ tail → Told start.written after (text ++ tail) → IsRunOf quiet now.armed said start (moment_at_end (over_sink now after)) done
  progress-end said tail after few none says told =
      let ran : run_by style start done (text ++ tail) ≡ p.ran = p.run (needs_by_text style (lines_of done) (text ++ tail)) (shows tail few none) in
      record {
        written = text ++ tail;
        text = ap (λ t. t ++ tail) p.told ∙ (sym says ∙ ap said (sym ran));
        told = told;
        settles = subst (λ e. Settles now.armed start.accounts now.accounts e.refusals) (sym ran) p.settles;
        no_need = none-needed (needs_by_text style (lines_of done) (text ++ tail)) (shows tail few none);
        unrefused = λ stayed.
            ap (λ t. t ++ tail) p.told
            ∙ (sym says ∙ ap said (sym (none-refused (needs_by_text style (lines_of done) (text ++ tail)) (shows tail few none) stayed)));
        gone =
            ap (λ g. tell (ended_told now.state) g) p.gone
            ∙ (sym (tell-append p.ran.told (ended_told now.state) start.gone)
            ∙ (ap (λ s. tell (p.ran.told ++ ended_told s) start.gone) (sym p.state)
            ∙ ap (λ e. tell (all_told e) start.gone) (sym ran)));
      }
