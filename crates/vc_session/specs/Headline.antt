-- What a tool promises by its status.
use Rattle.std.specs.Prelude.{◌≡◌, ℕ, ◌≤◌, ◌⊎◌, List, Option, Some, None, IfSome, IsSomeAnd, codes}
use Rattle.vc_model.specs.Count.{Rose}
use Rattle.vc_script.specs.declared.line_fault.LineFault.{LineFault}
use Rattle.vc_script.specs.declared.tool.Tool.{Tool}
use Rattle.vc_session.specs.declared.status.Status.{Status}
use Rattle.vc_session.specs.declared.status.Status.TheVariants.{Ok, Script, Usage, Read, Write, Memory}
use Rattle.vc_session.specs.Arming.{AsksFirst, Keeps}
use Rattle.vc_session.specs.Cut.{Cuts, NotAhead}
use Rattle.vc_session.specs.Replay.{IsCutShort, ReplaysBy, err_line, message}
use Rattle.vc_base.specs.Told.{Broke, Told, Tried}
use Rattle.vc_session.specs.Streams.{Streams}
use Rattle.vc_session.specs.Text.{is_quiet}
use Rattle.vc_steps.specs.Moment.{Moment, over_sink}
use Rattle.vc_words.specs.declared.words.Words.{Words}

-- from one moment and what the streams mean then to another, what the words ask for was run up to this bad line
abbrev pub Replays : Tool → Words → Moment → Moment → Streams → Streams → Option (ℕ × LineFault) → Type 0
Replays tool w start last old new bad =
    ReplaysBy w.generate tool w (over_sink start old.written) (over_sink last new.written) old.left new.left bad

-- one line of err was written, was broken off, or one of these
abbrev pub Tells : Streams → Streams → List ℕ → Type 0
Tells old new line = Told old.told new.told line

abbrev pub BreaksOff : Streams → Streams → List ℕ → Type 0
BreaksOff old new line = Broke old.errors new.errors old.told new.told line

abbrev pub Tries : Streams → Streams → List ℕ → Type 0
Tries old new line = Tried old.errors new.errors old.told new.told line

-- by how a tool ends whose words ask for that, or are refused, from the moment and the streams at its start to those at its end
pub record Headline (tool : Tool) (asked : Option Words) (start last : Moment) (old new : Streams) (status : Status) : Type 0 where
  -- nothing was wrong, and the replies of the whole script were written
  pub ok : status ≡ Ok → IsSomeAnd asked (λ w. Replays tool w start last old new None)
  -- the replies of the source's lines before the fault were written, and the fault's line; what was read shows no fault, but for its last 4,096 bytes or fewer
  pub script : status ≡ Script → IsSomeAnd asked (λ w. (w.generate ≡ None) × ((bad : ℕ × LineFault) × Tells old new (err_line tool bad) × Replays tool w start last old new (Some bad)))
  -- the words are refused, but for want of memory
  pub words_refused : asked ≡ None → (status ≡ Usage) ⊎ ((status ≡ Memory) ⊎ ((status ≡ Write) × BreaksOff old new (message tool (codes "bad arguments"))))
  pub usage : status ≡ Usage → (asked ≡ None) × Tells old new (message tool (codes "bad arguments"))
  -- a fault comes from its stream, and its line is tried once
  pub read : status ≡ Read → IsSomeAnd asked (λ w. w.generate ≡ None) × Rose old.reads new.reads × Tries old new (message tool (codes "read failed"))
  -- with a failed read the replies of the lines that were wholly read were written, and no byte that was read shows a fault
  pub cut_short : status ≡ Read → IsSomeAnd asked (λ w. IfSome old.left (λ input. IsCutShort tool (is_quiet w) (over_sink start old.written) (over_sink last new.written) input new.left))
  -- where the line of status 1 or 2 could not be written whole, a front of it was
  pub write : status ≡ Write → IfSome asked (λ w. (Rose old.writes new.writes × Tries old new (message tool (codes "write failed"))) ⊎ ((bad : ℕ × LineFault) × BreaksOff old new (err_line tool bad) × Replays tool w start last old new (Some bad)))
  pub memory : status ≡ Memory → Tries old new (message tool (codes "out of memory"))
  -- where it was broken off, what was written is a cut of the text, and each refusal that it shows was counted
  pub cut : (status ≡ Write) ⊎ (status ≡ Memory) → IfSome asked (λ w. Cuts w.generate tool w (over_sink start old.written) (over_sink last new.written) old.left)
  -- and reading didn't run ahead of writing
  pub not_ahead : status ≡ Write → IfSome asked (λ w. NotAhead tool (is_quiet w) old.left new.left old.written new.written)
  -- the counts of failures never fall
  pub reads : old.reads ≤ new.reads
  pub writes : (old.writes ≤ new.writes) × (old.errors ≤ new.errors)
  -- on every exit each place has its discipline, with the segments out and the terms that it had, no fault less; and where version 1 was run, none was asked for an exception
  pub keeps : Keeps (AsksFirst asked tool old.left) start last
  -- and the kinds have the rules that they had
  pub rules : last.state.kinds ≡ start.state.kinds
