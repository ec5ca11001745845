-- How a tool ends where no stream failed, by what it promises of each status.
use Rattle.vc_base.proofs.Common.{◌≡◌, ℕ, List, IfSome, Some, None, Option, sym, refl, ap, inl, inr, arith, none-some, Rose}
use Rattle.vc_script.specs.declared.line_fault.LineFault.{LineFault}
use Rattle.vc_script.specs.declared.tool.Tool.{Tool}
use Rattle.vc_steps.specs.Moment.{Moment}
use Rattle.vc_session.specs.Completes.{Completes, EndsBy, EndsWith, NoneFailed, Stayed, due_by}
use Rattle.vc_session.specs.Headline.{Headline}
use Rattle.vc_session.specs.Replay.{ReplaysBy}
use Rattle.vc_session.specs.Streams.{Streams}
use Rattle.vc_session.specs.declared.status.Status.{Status}
use Rattle.vc_session.specs.declared.status.Status.TheVariants.{Ok, Script, Usage, Read, Write, Memory}
use Rattle.vc_words.specs.declared.words.Words.{Words}

not-rose : (before after : ℕ) → Stayed before after → Rose before after → ⊥
not-rose before after stayed (inl more) = omega (arith, stayed.0, more)
not-rose before after stayed (inr last) = omega (arith, stayed.1, last)

module _ (tool : Tool) (w : Words) (before after : Moment) (left : Option (List ℕ)) where
  ok-by : (g : Option ℕ) (told : Option (List ℕ)) → ReplaysBy g tool w before after told left None → EndsBy g tool told Ok
  ok-by None None r = tt
  ok-by None (Some input) r = inl (ap due_by r.first)
  ok-by (Some n) told r = inl refl

  script-by : (g : Option ℕ) (told : Option (List ℕ)) (bad : ℕ × LineFault) → ReplaysBy g tool w before after told left (Some bad) → EndsBy g tool told Script
  script-by None None bad r = tt
  script-by None (Some input) bad r = inl (ap due_by r.first)
  script-by (Some n) told bad r = absurd (none-some bad (sym r.0))

  -- generated commands have no bad line
  pub from-source : (g : Option ℕ) (told : Option (List ℕ)) (bad : ℕ × LineFault) → ReplaysBy g tool w before after told left (Some bad) → g ≡ None
  from-source None told bad r = refl
  from-source (Some n) told bad r = absurd (none-some bad (sym r.0))

memory-by : (g : Option ℕ) (tool : Tool) (told : Option (List ℕ)) → EndsBy g tool told Memory
memory-by None tool None = tt
memory-by None tool (Some input) = inr refl
memory-by (Some n) tool told = inr refl

module _ {tool : Tool} {start last : Moment} {old new : Streams} where
  refused-by : {asked : Option Words} {status : Status} → Headline tool asked start last old new status → asked ≡ None → Stayed old.errors new.errors → EndsWith Usage status
  refused-by h none stayed =
      elim (h.words_refused none) [
        | inl usage ↦ inl usage
        | inr other ↦ elim other [
          | inl memory ↦ inr memory
          | inr write ↦ absurd (not-rose old.errors new.errors stayed write.1.0)
        ]
      ]

  taken-by : (w : Words) (status : Status) → Headline tool (Some w) start last old new status → NoneFailed old new → EndsBy w.generate tool old.left status
  taken-by w Ok h none = ok-by tool w _ _ _ w.generate old.left (h.ok refl)
  taken-by w Script h none = script-by tool w _ _ _ w.generate old.left (h.script refl).1.0 (h.script refl).1.2
  taken-by w Usage h none = absurd (none-some w (sym (h.usage refl).0))
  taken-by w Read h none = absurd (not-rose old.reads new.reads none.reads (h.read refl).1)
  taken-by w Write h none =
      elim (h.write refl) [
        | inl out ↦ absurd (not-rose old.writes new.writes none.writes out.0)
        | inr err ↦ absurd (not-rose old.errors new.errors none.errors err.1.0)
      ]
  taken-by w Memory h none = memory-by w.generate tool old.left

  taken : (asked : Option Words) (status : Status) → Headline tool asked start last old new status → NoneFailed old new → IfSome asked (λ w. EndsBy w.generate tool old.left status)
  taken None status h none = tt
  taken (Some w) status h none = taken-by w status h none

  pub completes : {asked : Option Words} {status : Status} → Headline tool asked start last old new status → Completes tool asked old new status
  completes {asked} {status} h = record { refused = refused-by h; taken = taken asked status h }

memory-each : (asked : Option Words) (tool : Tool) (told : Option (List ℕ)) → IfSome asked (λ w. EndsBy w.generate tool told Memory)
memory-each None tool told = tt
memory-each (Some w) tool told = memory-by w.generate tool told

-- want of memory is a way to end, whatever the words ask for
pub completes-memory : (tool : Tool) (asked : Option Words) (old new : Streams) → Completes tool asked old new Memory
completes-memory tool asked old new = record { refused = λ none stayed. inr refl; taken = λ none. memory-each asked tool old.left }
