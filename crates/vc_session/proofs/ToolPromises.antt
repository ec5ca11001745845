-- What a tool promises, by whether its words are taken.
use Rattle.vc_base.proofs.Common.{◌≡◌, ℕ, ◌≤◌, ◌⊎◌, IfSome, IsSome, Some, None, Option, codes, sym, subst, none-some, Rose}
use Rattle.vc_script.specs.declared.line_fault.LineFault.{LineFault}
use Rattle.vc_script.specs.declared.tool.Tool.{Tool}
use Rattle.vc_steps.specs.Moment.{Moment, over_sink}
use Rattle.vc_session.proofs.StatusDue.{completes}
use Rattle.vc_session.specs.Arming.{IsVersionOne, Keeps}
use Rattle.vc_session.specs.Cut.{Cuts, NotAhead}
use Rattle.vc_session.specs.Headline.{BreaksOff, Headline, Replays, Tells, Tries}
use Rattle.vc_session.specs.Promises.{LentToTool, Promises}
use Rattle.vc_session.specs.Replay.{IsCutShort, err_line, message}
use Rattle.vc_session.specs.Streams.{Streams}
use Rattle.vc_session.specs.Text.{is_quiet}
use Rattle.vc_session.specs.declared.status.Status.{Status}
use Rattle.vc_session.specs.declared.status.Status.TheVariants.{Ok, Script, Usage, Read, Write, Memory}
use Rattle.vc_words.specs.declared.words.Words.{Words}

-- what a status says of words that were taken
abbrev DueBy : Tool → Words → Moment → Moment → Streams → Streams → Status → Type 0
DueBy tool w start last old new Ok = Replays tool w start last old new None
DueBy tool w start last old new Script = (w.generate ≡ None) × ((bad : ℕ × LineFault) × Tells old new (err_line tool bad) × Replays tool w start last old new (Some bad))
DueBy tool w start last old new Usage = ⊥
DueBy tool w start last old new Read = ((w.generate ≡ None) × Rose old.reads new.reads × Tries old new (message tool (codes "read failed"))) × IfSome old.left (λ input. IsCutShort tool (is_quiet w) (over_sink start old.written) (over_sink last new.written) input new.left)
DueBy tool w start last old new Write = (Rose old.writes new.writes × Tries old new (message tool (codes "write failed"))) ⊎ ((bad : ℕ × LineFault) × BreaksOff old new (err_line tool bad) × Replays tool w start last old new (Some bad))
DueBy tool w start last old new Memory = Tries old new (message tool (codes "out of memory"))

module _ {tool : Tool} {w : Words} {start last : Moment} {old new : Streams} {status : Status} where
  headline-by : DueBy tool w start last old new status → ((status ≡ Write) ⊎ (status ≡ Memory) → Cuts w.generate tool w (over_sink start old.written) (over_sink last new.written) old.left) → (status ≡ Write → NotAhead tool (is_quiet w) old.left new.left old.written new.written) → old.reads ≤ new.reads → (old.writes ≤ new.writes) × (old.errors ≤ new.errors) → Keeps (IsVersionOne w.generate tool old.left) start last → last.state.kinds ≡ start.state.kinds → Headline tool (Some w) start last old new status
  headline-by due cut not_ahead reads writes keeps rules =
      record {
        ok = λ is. subst (DueBy tool w start last old new) is due;
        script = λ is. subst (DueBy tool w start last old new) is due;
        words_refused = λ none. absurd (none-some w (sym none));
        usage = λ is. absurd (subst (DueBy tool w start last old new) is due);
        read = λ is. (subst (DueBy tool w start last old new) is due).0;
        cut_short = λ is. (subst (DueBy tool w start last old new) is due).1;
        write = λ is. subst (DueBy tool w start last old new) is due;
        memory = λ is. subst (DueBy tool w start last old new) is due;
        cut = cut;
        not_ahead = not_ahead;
        reads = reads;
        writes = writes;
        keeps = keeps;
        rules = rules;
      }

module _ {H K S O E : Type 0} {tool : Tool} {w : Words} {status : Status} {old new : LentToTool H K S O E} {rest : H → K → Moment} {streams : S → O → E → Streams} where
  -- words that ask for that are taken
  pub promises-asked : DueBy tool w (rest old.shelf old.kinds) (rest new.shelf new.kinds) (streams old.source old.out old.err) (streams new.source new.out new.err) status
      → ((status ≡ Write) ⊎ (status ≡ Memory) → Cuts w.generate tool w (over_sink (rest old.shelf old.kinds) (streams old.source old.out old.err).written) (over_sink (rest new.shelf new.kinds) (streams new.source new.out new.err).written) (streams old.source old.out old.err).left)
      → (status ≡ Write → NotAhead tool (is_quiet w) (streams old.source old.out old.err).left (streams new.source new.out new.err).left (streams old.source old.out old.err).written (streams new.source new.out new.err).written)
      → (streams old.source old.out old.err).reads ≤ (streams new.source new.out new.err).reads
      → ((streams old.source old.out old.err).writes ≤ (streams new.source new.out new.err).writes) × ((streams old.source old.out old.err).errors ≤ (streams new.source new.out new.err).errors)
      → Keeps (IsVersionOne w.generate tool (streams old.source old.out old.err).left) (rest old.shelf old.kinds) (rest new.shelf new.kinds) → (rest new.shelf new.kinds).state.kinds ≡ (rest old.shelf old.kinds).state.kinds
      → (status ≡ Ok → new.err ≡ old.err) → (IsSome w.generate → new.source ≡ old.source) → Promises tool (Some w) status old new rest streams
  promises-asked due cut not_ahead reads writes keeps rules quiet generated =
      let headline : Headline tool (Some w) (rest old.shelf old.kinds) (rest new.shelf new.kinds) (streams old.source old.out old.err) (streams new.source new.out new.err) status =
      headline-by due cut not_ahead reads writes keeps rules in
      record {
        headline = headline;
        completes = completes headline;
        quiet = quiet;
        refused_words = λ none. absurd (none-some w (sym none));
        generated = generated;
      }

  pub promises-taken : {asked : Option Words} → asked ≡ Some w → Promises tool (Some w) status old new rest streams → Promises tool asked status old new rest streams
  promises-taken is p = subst (λ asked. Promises tool asked status old new rest streams) (sym is) p
