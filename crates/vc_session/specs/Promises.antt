-- What a tool promises of all that it is lent.
use Rattle.std.specs.Prelude.{◌≡◌, ℕ, Option, None, IsSome, IsSomeAnd}
use Rattle.vc_script.specs.declared.tool.Tool.{Tool}
use Rattle.vc_session.specs.Completes.{Completes}
use Rattle.vc_session.specs.Headline.{Headline}
use Rattle.vc_session.specs.Status.{number}
use Rattle.vc_session.specs.Streams.{Streams}
use Rattle.vc_session.specs.declared.status.Status.{Status}
use Rattle.vc_session.specs.declared.status.Status.TheVariants.{Ok}
use Rattle.vc_steps.specs.Moment.{Moment}
use Rattle.vc_words.specs.declared.words.Words.{Words}

-- what a tool is lent: a shelf, kinds of dictionaries, a source, a sink of replies, and one of faults
pub record LentToTool (H K S O E : Type 0) : Type 0 where
  pub shelf : H
  pub kinds : K
  pub source : S
  pub out : O
  pub err : E

abbrev pub borrowed : {H K S O E : Type 0} → H → K → S → O → E → LentToTool H K S O E
borrowed shelf kinds source out err =
    record { shelf = shelf; kinds = kinds; source = source; out = out; err = err }

-- by how a tool ends whose words ask for that, or are refused, from what it was lent to what it gives back; read by these, a shelf and kinds are a moment, and the streams mean that
pub record Promises {H K S O E : Type 0} (tool : Tool) (asked : Option Words) (status : Status) (old new : LentToTool H K S O E) (rest : H → K → Moment) (streams : S → O → E → Streams) : Type 0 where
  -- what was run, read, written and told of, and in what the shelf and the kinds are given back
  pub headline : Headline tool asked (rest old.shelf old.kinds) (rest new.shelf new.kinds) (streams old.source old.out old.err) (streams new.source new.out new.err) status
  -- which status is due where no stream failed
  pub completes : Completes tool asked (streams old.source old.out old.err) (streams new.source new.out new.err) status
  -- where nothing was wrong nothing is written to err
  pub quiet : status ≡ Ok → new.err ≡ old.err
  -- refused words touch nothing but err
  pub refused_words : asked ≡ None → (new.source ≡ old.source) × (new.out ≡ old.out) × (new.shelf ≡ old.shelf) × (new.kinds ≡ old.kinds)
  -- for generated commands no call is made on the source
  pub generated : IsSomeAnd asked (λ w. IsSome w.generate) → new.source ≡ old.source

-- a program ends with the number of a status by which its tool keeps its promises
abbrev pub EndsProgram : {H K S O E : Type 0} → Tool → Option Words → ℕ → LentToTool H K S O E → LentToTool H K S O E → (H → K → Moment) → (S → O → E → Streams) → Type 0
EndsProgram tool asked code old new rest streams = (status : Status) × ((code ≡ number status) × Promises tool asked status old new rest streams)
