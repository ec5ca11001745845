-- A script's end, and then the end of its session.
use Rattle.vc_base.proofs.Common.{arith, IfOk, IfErr, ◌≡◌, ℕ, Bool, false, List, [], Some, None, Ok, Err, Option, Result, IfSome, sym, refl, ◌∙◌, subst, inl, inr, Discipline}
use Rattle.vc_base.specs.Memory.{MemorySink}
use Rattle.vc_dtdisc.specs.Rules.{Gone, Rules}
use Rattle.vc_image_check.specs.Dicts.Whole.{IsFirstUnsoundPart, IsSoundImage}
use Rattle.vc_image_run.proofs.FirstHeld.{image-of, none-open, other-first}
use Rattle.vc_image_run.specs.Script.Found.{IsFirstImage, WhyNone}
use Rattle.vc_image_run.specs.Script.Image.{IsImageOf}
use Rattle.vc_image_run.specs.Script.Promises.{FailsBy, IsOtherFirst, IsSaved, RunsTo, RunsWithoutWords, Saves}
use Rattle.vc_image_run.specs.declared.script.fault.ScriptFault.{ScriptFault}
use Rattle.vc_image_run.specs.declared.script.fault.ScriptFault.TheVariants.{Line, Read, Write, Memory, NoRegion, WrongMethod, Unsound}
use Rattle.vc_script.specs.declared.command.Command.{Command}
use Rattle.vc_script.specs.declared.line_fault.LineFault.{LineFault}
use Rattle.vc_script.specs.declared.tool.Tool.TheVariants.{Dtrun}
use Rattle.vc_session.proofs.Rest.{Rests, runs-rest}
use Rattle.vc_session.specs.Engine.{RunsScriptOn}
use Rattle.vc_session.specs.Replay.{LeavesReplay, LeavesRun}
use Rattle.vc_session.specs.Rows.{no_words}
use Rattle.vc_session.specs.Run.{Ran}
use Rattle.vc_session.specs.Streams.{Flows}
use Rattle.vc_session.proofs.Broken.{cuts-source, memory-read, memory-write}
use Rattle.vc_session.proofs.HowFar.{unarmed-arms}
use Rattle.vc_session.specs.declared.engine.Stop.{Stop}
use Rattle.vc_session.specs.declared.engine.Stop.TheVariants as stop
use Rattle.vc_steps.proofs.SettledShelf.{keeps-same}
use Rattle.vc_seg.specs.declared.shelf.Shelf.{Shelf}
use Rattle.vc_session.specs.SoFar.{ArmsBy}
use Rattle.vc_steps.specs.Homes.{IsSessionOver}
use Rattle.vc_steps.specs.Moment.{Moment, moment, moment_at_end, over_sink}
use Rattle.vc_steps.specs.Told.{rules_in}
use Rattle.vc_steps.specs.declared.session.Session.{Session}
use Rattle.vc_steps.specs.State.{State}
use Rattle.vc_base.specs.Told.{Told}

-- what a run leaves is that of its last moment's state and sink alone
leaves-here : {quiet second : Bool} {said : Ran → List ℕ} {before last : Moment} {commands : List (ℕ × Command)} (after : Moment) → after.written ≡ last.written → after.state ≡ last.state → LeavesRun quiet second said before last commands → LeavesRun quiet second said before after commands
leaves-here {before = before} after written state r = record {
  written = r.written;
  text = r.text;
  told = subst (λ w. Told before.written w r.written) (sym written) r.told;
  state = state ∙ r.state;
}

some-each : (o : Option (List ℕ)) {P Q : List ℕ → Type 0} → ((x : List ℕ) → P x → Q x) → IfSome o P → IfSome o Q
some-each None f p = tt
some-each (Some x) f p = f x p

-- a script was run to its end over a session that goes on
pub runs-to : (holds : State → Type 0) (start last : Moment) (old new : Flows) → RunsScriptOn Dtrun no_words (Ok None) start last old new → holds last.state → RunsTo holds start (moment_at_end last) old new
runs-to holds start last old new on is = record {
  runs = on.script;
  state = last.state;
  leaves = some-each old.left (λ input r. leaves-here (over_sink (moment_at_end last) new.written) refl refl r) on.leaves;
  is = is;
}

-- and an image was made of it, or none
module _ {I : Type 0} {V : I → Type 0} {D : Type 0} (meaning : (x : I) × V x → Discipline) (rules : D → Rules) (gone : D → Gone) (shelf : Shelf I V) (session : Session D I V) (kinds : List D) (over : IsSessionOver meaning rules shelf session kinds) (start : Moment) (old new : Flows) where
  abbrev last_of : Moment
  last_of = moment meaning rules gone shelf session kinds

  saved-err : (why : ScriptFault) → RunsScriptOn Dtrun no_words (Ok None) start last_of old new → WhyNone (rules_in rules kinds) session why → FailsBy (rules_in rules kinds) why start (moment_at_end last_of) old new
  saved-err (Line n why) on none = absurd none
  saved-err Read on none = absurd none
  saved-err Write on none = absurd none
  saved-err Memory on none = inr on.script
  saved-err NoRegion on none = runs-to (λ s. s.homes ≡ []) start last_of old new on (none-open meaning rules shelf session kinds over none)
  saved-err WrongMethod on none = runs-to IsOtherFirst start last_of old new on (other-first meaning rules shelf session kinds over none)
  saved-err (Unsound part) on none =
      runs-to (λ s. (image : List ℕ) × (IsImageOf s image × IsFirstUnsoundPart (rules_in rules kinds) image part)) start last_of old new on
      (none.0, (image-of meaning rules shelf session kinds over none.0 none.1.0, none.1.1))

  pub saved-by : (image : Result MemorySink ScriptFault) → RunsScriptOn Dtrun no_words (Ok None) start last_of old new → IfOk image (λ i. IsFirstImage session i.written) → IfOk image (λ i. IsSoundImage (rules_in rules kinds) i.written) → IfErr image (WhyNone (rules_in rules kinds) session) → Saves (rules_in rules kinds) image start (moment_at_end last_of) old new
  saved-by (Ok image) on first sound none =
      runs-to (λ s. IsSaved (rules_in rules kinds) s image.written) start last_of old new on
      (record { image_of = image-of meaning rules shelf session kinds over image.written first; sound = sound })
  saved-by (Err why) on first sound none = saved-err why on none

-- and then the session was ended
module _ (start before last after : Moment) (old new : Flows) (same : start ≡ before) (rests : (written : Option (List ℕ)) → Rests (over_sink last written) (over_sink after written)) (off : after.armed ≡ false) where
  runs-at_rest : (answer : Result (Option (ℕ × LineFault)) Stop) → RunsWithoutWords answer start last old new → RunsWithoutWords answer before after old new
  runs-at_rest answer r = runs-rest Dtrun no_words start before last after old new answer same rests off r

  to-at_rest : (holds : State → Type 0) → RunsTo holds start last old new → RunsTo holds before after old new
  to-at_rest holds r = record {
    runs = runs-at_rest (Ok None) r.runs;
    state = r.state;
    leaves =
        subst (λ (m : Moment). IfSome old.left (λ input. LeavesReplay Dtrun no_words (over_sink m old.written) (over_sink (record after { state = r.state }) new.written) input None)) same
        (some-each old.left (λ input one. leaves-here (over_sink (record after { state = r.state }) new.written) refl refl one) r.leaves);
    is = r.is;
  }

  module _ (kinds : List Rules) where
    fails-at_rest : (why : ScriptFault) → FailsBy kinds why start last old new → FailsBy kinds why before after old new
    fails-at_rest (Line n why) r = runs-at_rest _ r
    fails-at_rest Read r = runs-at_rest _ r
    fails-at_rest Write r = runs-at_rest _ r
    fails-at_rest Memory (inl r) = inl (runs-at_rest _ r)
    fails-at_rest Memory (inr r) = inr (runs-at_rest _ r)
    fails-at_rest NoRegion r = to-at_rest _ r
    fails-at_rest WrongMethod r = to-at_rest _ r
    fails-at_rest (Unsound part) r = to-at_rest _ r

    pub saves-at_rest : (image : Result MemorySink ScriptFault) → Saves kinds image start last old new → Saves kinds image before after old new
    saves-at_rest (Ok image) r = to-at_rest _ r
    saves-at_rest (Err why) r = fails-at_rest why r

-- disciplines are armed only where the version is 2
module _ (kinds : List Rules) (start last : Moment) (old new : Flows) where
  fails-arms : (why : ScriptFault) → FailsBy kinds why start last old new → IfSome old.left (λ input. ArmsBy Dtrun input last)
  fails-arms (Line n why) r = r.arms
  fails-arms Read r = r.arms
  fails-arms Write r = r.arms
  fails-arms Memory (inl r) = r.arms
  fails-arms Memory (inr r) = r.arms
  fails-arms NoRegion r = r.runs.arms
  fails-arms WrongMethod r = r.runs.arms
  fails-arms (Unsound part) r = r.runs.arms

  pub saves-arms : (image : Result MemorySink ScriptFault) → Saves kinds image start last old new → IfSome old.left (λ input. ArmsBy Dtrun input last)
  saves-arms (Ok image) r = r.runs.arms
  saves-arms (Err why) r = fails-arms why r

-- nothing was run for want of memory
pub runs-none : (start : Moment) (old new : Flows) → old ≡ new → start.armed ≡ false → RunsWithoutWords (Err stop.Memory) start start old new
runs-none start old new same off = subst (λ (after : Flows). RunsWithoutWords (Err stop.Memory) start start old after) same (record {
  replay = tt;
  cut_short = λ is. absurd (memory-read stop.Memory refl is);
  cut = cuts-source Dtrun no_words (over_sink start old.written) (over_sink start old.written) old.left (keeps-same start.accounts) refl;
  not_ahead = λ is. absurd (memory-write stop.Memory refl is);
  arms = unarmed-arms Dtrun old.left start off;
  read = λ is. absurd (memory-read stop.Memory refl is);
  write = λ is. absurd (memory-write stop.Memory refl is);
  reads = omega arith;
  writes = omega arith;
})
