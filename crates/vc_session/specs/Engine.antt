-- What running one line does, and what running a script promises.
use Rattle.std.specs.Prelude.{◌≡◌, ◌≢◌, ◌==◌, ℕ, ◌≤◌, List, [], Option, Some, None, Bool, Result, IfErr, IfOk, IfSome, IsTrue, OnErr, OnOk}
use Rattle.vc_counts.specs.Counts.{counts_with_step}
use Rattle.vc_counts.specs.declared.counts.Counts.{Counts}
use Rattle.vc_model.specs.Count.{Rose}
use Rattle.vc_script.specs.Needs.{need_shown}
use Rattle.vc_script.specs.declared.command.Command.{Command}
use Rattle.vc_script.specs.declared.line_answer.LineAnswer.{LineAnswer}
use Rattle.vc_script.specs.declared.line_answer.LineAnswer.TheVariants.{Blank, Is, Version, Bad}
use Rattle.vc_script.specs.declared.line_fault.LineFault.{LineFault}
use Rattle.vc_script.specs.declared.reply.Reply.{Reply}
use Rattle.vc_script.specs.declared.tool.Tool.{Tool}
use Rattle.vc_session.specs.Cut.{Cuts, NotAhead}
use Rattle.vc_session.specs.Far.{WrotePart}
use Rattle.vc_session.specs.Progress.{CountsOn}
use Rattle.vc_session.specs.QuietText.{line_by, style_by}
use Rattle.vc_session.specs.Replay.{IsCutShort, IsGenerated, IsReplay, LeavesReplay, ReplaysBy}
use Rattle.vc_base.specs.Told.{Told}
use Rattle.vc_session.specs.Run.{is_second, script}
use Rattle.vc_session.specs.SoFar.{ArmsBy, AtEnd}
use Rattle.vc_session.specs.Streams.{Flows}
use Rattle.vc_session.specs.Text.{is_quiet}
use Rattle.vc_session.specs.declared.scratch.Scratch.{Scratch}
use Rattle.vc_session.specs.declared.engine.Stop.{Stop}
use Rattle.vc_session.specs.declared.engine.Stop.TheVariants.{Read, Write}
use Rattle.vc_steps.specs.Account.{Settles}
use Rattle.vc_steps.specs.Moment.{Moment, moment_at_end, over_sink}
use Rattle.vc_steps.specs.Step.{step}
use Rattle.vc_steps.specs.Steps.{Steps, StepsBy}
use Rattle.vc_words.specs.declared.words.Words.{Words}

-- a moment at which what is gathered of the replies stands for what their sink tells
abbrev pub gathered : Moment → Scratch → Moment
gathered m scratch = over_sink m (Some scratch.replies.items)

-- nothing was run
pub record IsIdle (now next : Moment) (before counts : Counts) : Type 0 where
  pub state : next.state ≡ now.state
  pub told : next.written ≡ now.written
  pub settles : Settles now.armed now.accounts next.accounts []
  pub armed : next.armed ≡ now.armed
  pub gone : next.gone ≡ now.gone
  pub same_counts : counts ≡ before

-- nothing was run, and the first line told the version, by which disciplines are armed from now on
pub record TakesVersion (now next : Moment) (before counts : Counts) (n version : ℕ) : Type 0 where
  pub first : n ≡ 1
  pub armed : next.armed ≡ (version == 2)
  pub state : next.state ≡ now.state
  pub told : next.written ≡ now.written
  pub accounts : next.accounts ≡ now.accounts
  pub gone : next.gone ≡ now.gone
  pub same_counts : counts ≡ before

-- the command of a line was run, and its reply written as it is asked for; quietly it was counted
pub record IsStep (quiet : Bool) (now next : Moment) (before counts : Counts) (n : ℕ) (command : Command) : Type 0 where
  pub reply : Reply
  pub steps : Steps now next command (step now.state n command (need_shown reply)) reply
  pub told : Told now.written next.written (line_by (style_by quiet now.armed) (n, reply))
  pub counted : IsTrue quiet → counts ≡ counts_with_step before (step now.state n command (need_shown reply))

-- what running the command of a line promises by its answer: it is a step, and quietly it was counted
pub record RunsLine {E : Type 0} (quiet : Bool) (answer : Result Reply E) (now next : Moment) (before counts : Counts) (n : ℕ) (command : Command) : Type 0 where
  pub steps : StepsBy answer now next command (λ s. step s n command)
  pub counts_on : CountsOn quiet answer counts next n (λ reply. IsTrue quiet → counts ≡ counts_with_step before (step now.state n command (need_shown reply)))

-- a line was run by its answer
abbrev pub LineRan : Bool → Moment → Moment → Counts → Counts → ℕ → LineAnswer → Option LineFault → Type 0
LineRan quiet now next before counts n Blank fault = (fault ≡ None) × IsIdle now next before counts
LineRan quiet now next before counts n (Version version) fault = (fault ≡ None) × TakesVersion now next before counts n version
LineRan quiet now next before counts n (Bad why) fault = (fault ≡ Some why) × IsIdle now next before counts
LineRan quiet now next before counts n (Is command) fault = (fault ≡ None) × IsStep quiet now next before counts n command

-- what running the lines of a source promises by its answer, from a moment and what its streams mean then to another, before anything is written behind the replies
pub record RunsLines (tool : Tool) (quiet : Bool) (answer : Result (Option (ℕ × LineFault)) Stop) (start last : Moment) (counts : Counts) (lines : ℕ) (old new : Flows) : Type 0 where
  pub at_end : IfOk answer (λ bad. IfSome old.left (λ input. AtEnd tool quiet (over_sink start old.written) (over_sink last new.written) counts lines input bad new.left))
  pub cut_short : IfErr answer (λ stop. stop ≡ Read → IfSome old.left (λ input. IsCutShort tool quiet (over_sink start old.written) (moment_at_end (over_sink last new.written)) input new.left))
  -- wherever it was broken off, a front of what is written of the replies was written
  pub far : OnErr answer (IfSome old.left (λ input. WrotePart (style_by quiet (is_second tool input)) (over_sink start old.written) (over_sink last new.written) (script tool input)))
  -- disciplines are armed only where the version is 2
  pub arms : IfSome old.left (λ input. ArmsBy tool input last)
  -- and no more was read than what the next replies are of
  pub not_ahead : IfErr answer (λ stop. stop ≡ Write → NotAhead tool quiet old.left new.left old.written new.written)
  pub read : IfErr answer (λ stop. stop ≡ Read → Rose old.reads new.reads)
  pub write : IfErr answer (λ stop. stop ≡ Write → Rose old.writes new.writes)
  pub reads : old.reads ≤ new.reads
  pub writes : old.writes ≤ new.writes

-- what running a source's script by the words of the tool promises
pub record RunsScript (tool : Tool) (w : Words) (answer : Result (Option (ℕ × LineFault)) Stop) (start last : Moment) (old new : Flows) : Type 0 where
  -- the script was run to its end, or to its first bad line
  pub replay : IfOk answer (λ bad. IfSome old.left (λ input. IsReplay tool w (over_sink start old.written) (over_sink last new.written) input bad new.left))
  -- or up to a failed read
  pub cut_short : IfErr answer (λ stop. stop ≡ Read → IfSome old.left (λ input. IsCutShort tool (is_quiet w) (over_sink start old.written) (over_sink last new.written) input new.left))
  -- wherever it was broken off, what was written is a cut, and reading didn't run ahead of it
  pub cut : OnErr answer (Cuts None tool w (over_sink start old.written) (over_sink last new.written) old.left)
  pub not_ahead : IfErr answer (λ stop. stop ≡ Write → NotAhead tool (is_quiet w) old.left new.left old.written new.written)
  -- disciplines are armed only where the version is 2
  pub arms : IfSome old.left (λ input. ArmsBy tool input last)
  -- a fault comes from its stream
  pub read : IfErr answer (λ stop. stop ≡ Read → Rose old.reads new.reads)
  pub write : IfErr answer (λ stop. stop ≡ Write → Rose old.writes new.writes)
  -- the counts of failures never fall
  pub reads : old.reads ≤ new.reads
  pub writes : old.writes ≤ new.writes

-- what running it over a session promises that goes on behind it: besides, the session is as the run leaves it
pub record RunsScriptOn (tool : Tool) (w : Words) (answer : Result (Option (ℕ × LineFault)) Stop) (start last : Moment) (old new : Flows) : Type 0 where
  pub script : RunsScript tool w answer start (moment_at_end last) old new
  pub leaves : IfOk answer (λ bad. IfSome old.left (λ input. LeavesReplay tool w (over_sink start old.written) (over_sink last new.written) input bad))

-- what running generated commands promises; `told` is what the replies' sink tells, and `failures` how often a write of it failed
pub record RunsGenerated {U : Type 0} (tool : Tool) (w : Words) (n : ℕ) (answer : Result U Stop) (start last : Moment) (told told' : Option (List ℕ)) (failures failures' : ℕ) : Type 0 where
  -- all commands were run
  pub run : OnOk answer (IsGenerated tool w n (over_sink start told) (over_sink last told'))
  -- wherever it was broken off, what was written is a cut
  pub cut : OnErr answer (Cuts (Some n) tool w (over_sink start told) (over_sink last told') None)
  -- no read is tried, and a failed write comes from the sink
  pub read : IfErr answer (λ stop. stop ≢ Read)
  pub write : IfErr answer (λ stop. stop ≡ Write → Rose failures failures')
  pub writes : failures ≤ failures'

-- what running what the words ask for promises
pub record RunsAsked (tool : Tool) (w : Words) (answer : Result (Option (ℕ × LineFault)) Stop) (start last : Moment) (old new : Flows) : Type 0 where
  pub replay : IfOk answer (λ bad. ReplaysBy w.generate tool w (over_sink start old.written) (over_sink last new.written) old.left new.left bad)
  -- wherever it was broken off, what was written is a cut, and reading didn't run ahead of it
  pub cut : OnErr answer (Cuts w.generate tool w (over_sink start old.written) (over_sink last new.written) old.left)
  pub not_ahead : IfErr answer (λ stop. stop ≡ Write → NotAhead tool (is_quiet w) old.left new.left old.written new.written)
  -- only a source is read
  pub read : IfErr answer (λ stop. stop ≡ Read → (w.generate ≡ None) × Rose old.reads new.reads × IfSome old.left (λ input. IsCutShort tool (is_quiet w) (over_sink start old.written) (over_sink last new.written) input new.left))
  pub write : IfErr answer (λ stop. stop ≡ Write → Rose old.writes new.writes)
  pub reads : old.reads ≤ new.reads
  pub writes : old.writes ≤ new.writes
