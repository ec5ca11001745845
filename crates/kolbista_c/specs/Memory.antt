-- What a run over memory promises.
use Rattle.std.specs.Prelude.{◌≡◌, ℕ, ◌%◌, ◌++◌, ◌⊎◌, List, [], ◌∷◌, Option, Some, None, Bool, ◌==◌, ◌&&◌, if◌then◌else◌, length, take, drop, min, nat_le, codes}
use Rattle.vc_script.specs.declared.tool.Tool.{Tool}
use Rattle.vc_script.specs.declared.tool.Tool.TheVariants.{Dtrun, Vmreplay}
use Rattle.vc_session.specs.Completes.{Completes}
use Rattle.vc_session.specs.Headline.{Headline}
use Rattle.vc_session.specs.Status.{number}
use Rattle.vc_session.specs.Streams.{Streams}
use Rattle.vc_session.specs.declared.status.Status.{Status}
use Rattle.vc_steps.specs.Moment.{Moment}
use Rattle.vc_words.specs.Words.{words_of}

-- a buffer before a call and after it, and how many bytes at its front the call says that it wrote
pub record Buffer : Type 0 where
  pub before : List ℕ
  pub after : List ℕ
  pub used : ℕ

abbrev pub buffer : List ℕ → List ℕ → ℕ → Buffer
buffer before after used = record { before = before; after = after; used = used }

-- as many of these bytes as fit stand at the front, and the others stay
pub record IsFilled (bytes : List ℕ) (b : Buffer) : Type 0 where
  pub used : b.used ≡ min (length bytes) (length b.before)
  pub after : b.after ≡ take b.used bytes ++ drop b.used b.before

-- whether these bytes fit into a buffer
abbrev pub fits_buffer : List ℕ → Buffer → Bool
fits_buffer bytes b = nat_le (length bytes) (length b.before)

-- a word, where it is asked for
abbrev word_if : Bool → List ℕ → List (List ℕ)
word_if asked word = if asked then word ∷ [] else []

-- the words that flags stand for: 1 for --quiet, 2 for --stat, and their sum for both
abbrev pub words_by : ℕ → Option (List (List ℕ))
words_by flags =
    if nat_le flags 3
    then Some (word_if (flags % 2 == 1) (codes "--quiet") ++ word_if (nat_le 2 flags) (codes "--stat"))
    else None

abbrev pub tool_by : ℕ → Option Tool
tool_by n = if n == 0 then Some Vmreplay else (if n == 1 then Some Dtrun else None)

-- the streams before a run of a script
abbrev pub streams_over : List ℕ → Streams
streams_over script =
    record { left = Some script; reads = 0; written = Some []; writes = 0; told = Some []; errors = 0 }

-- from a shelf of eighteen disciplines and a script, the tool kept its promises and wrote that
pub record Played (tool : Tool) (words : List (List ℕ)) (script : List ℕ) (status : Status) (replies told : List ℕ) : Type 0 where
  pub start : Moment
  pub last : Moment
  pub streams : Streams
  pub places : length start.accounts ≡ 18
  pub written : streams.written ≡ Some replies
  pub said : streams.told ≡ Some told
  pub headline : Headline tool (words_of words) start last (streams_over script) streams status
  pub completes : Completes tool (words_of words) (streams_over script) streams status

-- and as much of it as fits is in the buffers
pub record RanInMemory (tool : Tool) (words : List (List ℕ)) (script : List ℕ) (answer : ℕ) (out err : Buffer) : Type 0 where
  pub status : Status
  pub replies : List ℕ
  pub told : List ℕ
  pub played : Played tool words script status replies told
  -- where all of it fits, the answer is the status, and else that of a failed write
  pub code : answer ≡ (if fits_buffer replies out && fits_buffer told err then number status else 4)
  pub replied : IsFilled replies out
  pub faulted : IsFilled told err

-- nothing was put into three buffers
pub record AreIdle (made out err : Buffer) : Type 0 where
  pub made_is : IsFilled [] made
  pub out_is : IsFilled [] out
  pub err_is : IsFilled [] err

-- nothing was run
pub record NothingRan (due answer : ℕ) (out err : Buffer) : Type 0 where
  pub code : answer ≡ due
  pub replied : IsFilled [] out
  pub faulted : IsFilled [] err

-- want of memory before the run, or the run
abbrev pub Runs : Option Tool → Option (List (List ℕ)) → List ℕ → ℕ → Buffer → Buffer → Type 0
Runs None words script answer out err = NothingRan 2 answer out err
Runs (Some tool) None script answer out err = NothingRan 2 answer out err
Runs (Some tool) (Some words) script answer out err =
    NothingRan 5 answer out err ⊎ RanInMemory tool words script answer out err
