-- What running what the words ask for promises, by whether a source is read.
use Rattle.vc_base.proofs.Common.{◌≡◌, ℕ, ◌≤◌, List, IfSome, IfOk, IfErr, OnErr, Some, None, Ok, Err, Option, Result, sym, refl, ◌∙◌, subst, false≢true}
use Rattle.vc_script.specs.declared.line_fault.LineFault.{LineFault}
use Rattle.vc_script.specs.declared.tool.Tool.{Tool}
use Rattle.vc_steps.specs.Moment.{Moment, over_sink}
use Rattle.vc_session.specs.Cut.{Cuts, NotAhead}
use Rattle.vc_session.specs.Text.{is_quiet}
use Rattle.vc_session.proofs.GeneratedRun.{quiet-generated}
use Rattle.vc_session.specs.Engine.{RunsAsked, RunsGenerated, RunsScript}
use Rattle.vc_session.specs.Replay.{ReplaysBy}
use Rattle.vc_session.specs.Streams.{Flows}
use Rattle.vc_session.specs.declared.engine.Stop.{Stop}
use Rattle.vc_session.specs.declared.engine.Stop.TheVariants.{Read}
use Rattle.vc_words.specs.declared.words.Words.{Words}

module _ {tool : Tool} {w : Words} {start last : Moment} {old new : Flows} where
  -- a source's script
  pub asked-script : {answer : Result (Option (ℕ × LineFault)) Stop} → w.generate ≡ None → RunsScript tool w answer start last old new → RunsAsked tool w answer start last old new
  asked-script {answer} none r =
      record {
        replay = subst (λ g. IfOk answer (λ bad. ReplaysBy g tool w (over_sink start old.written) (over_sink last new.written) old.left new.left bad)) (sym none) r.replay;
        cut = subst (λ g. OnErr answer (Cuts g tool w (over_sink start old.written) (over_sink last new.written) old.left)) (sym none) r.cut;
        not_ahead = r.not_ahead;
        read = both answer _ _ _ none r.read r.cut_short;
        write = r.write;
        reads = r.reads;
        writes = r.writes;
      } where
        both : (answer : Result (Option (ℕ × LineFault)) Stop) (P Q R : Type 0) → P → IfErr answer (λ stop. stop ≡ Read → Q) → IfErr answer (λ stop. stop ≡ Read → R) → IfErr answer (λ stop. stop ≡ Read → P × Q × R)
        both (Ok bad) P Q R p q r = tt
        both (Err stop) P Q R p q r = λ is. (p, q is, r is)

  -- generated commands
  pub asked-generated : {U : Type 0} {n : ℕ} (made : U) → w.generate ≡ Some n → RunsGenerated tool w n (let answer : Result U Stop = Ok made in answer) start last old.written new.written old.writes new.writes → old.reads ≤ new.reads → RunsAsked tool w (Ok None) start last old new
  asked-generated made is r reads =
      record {
        replay = subst (λ g. ReplaysBy g tool w (over_sink start old.written) (over_sink last new.written) old.left new.left None) (sym is) (refl, r.run);
        cut = tt;
        not_ahead = tt;
        read = tt;
        write = tt;
        reads = reads;
        writes = r.writes;
      }

-- a cut of generated commands is one of what the words ask for
pub cuts-asked : (tool : Tool) (w : Words) (before after : Moment) (told : Option (List ℕ)) {n : ℕ} → w.generate ≡ Some n → Cuts (Some n) tool w before after None → Cuts w.generate tool w before after told
cuts-asked tool w before after told is cut = subst (λ g. Cuts g tool w before after told) (sym is) cut

-- they are run quietly
pub generated-ahead : (tool : Tool) (w : Words) (told left before after : Option (List ℕ)) {n : ℕ} → w.generate ≡ Some n → NotAhead tool (is_quiet w) told left before after
generated-ahead tool w told left before after {n} is = λ plain. absurd (false≢true (sym plain ∙ quiet-generated w n is))

-- what holds of what is there
pub some-of : (P : ℕ → Type 0) (o : Option ℕ) (n : ℕ) → o ≡ Some n → IfSome o P → P n
some-of P o n is holds = subst (λ (x : Option ℕ). IfSome x P) is holds
