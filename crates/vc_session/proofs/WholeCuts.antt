-- What was written is a cut where all was run and where nothing was.
use Rattle.vc_base.proofs.Common.{◌≡◌, ℕ, List, length, IfSome, IsTrue, Some, None, Option, sym, refl, subst, none-some}
use Rattle.vc_script.specs.declared.line_fault.LineFault.{LineFault}
use Rattle.vc_script.specs.declared.tool.Tool.{Tool}
use Rattle.vc_script.specs.Judged.{judged_lines}
use Rattle.vc_steps.specs.Moment.{Moment}
use Rattle.vc_steps.proofs.SettledShelf.{keeps-same}
use Rattle.vc_session.specs.Asked.{is_in_range}
use Rattle.vc_session.specs.Cut.{Cuts, IsCutText, NotAhead}
use Rattle.vc_session.specs.Replay.{ReplaysBy}
use Rattle.vc_session.specs.Run.{is_second, script}
use Rattle.vc_session.specs.QuietText.{style_by}
use Rattle.vc_session.specs.Text.{good_lines, is_quiet, text_of}
use Rattle.vc_words.specs.declared.words.Words.{Words}
use Rattle.vc_session.proofs.Broken.{cuts-source, text-begins}
use Rattle.vc_session.proofs.Cuts.{cut-run}
use Rattle.vc_session.proofs.GeneratedCuts.{cuts-generated}
use Rattle.vc_session.proofs.GeneratedRun.{asked-most}
use Rattle.vc_session.proofs.HowFar.{not_ahead-run}
use Rattle.vc_session.proofs.SoFar.{if_some}

module _ (tool : Tool) (w : Words) (before after : Moment) (told left : Option (List ℕ)) where
  -- a script that was run up to a bad line
  pub replay-cuts : (g : Option ℕ) (bad : ℕ × LineFault) → ReplaysBy g tool w before after told left (Some bad) → Cuts g tool w before after told
  replay-cuts None bad replay =
      if_some told _ _ (λ input r. subst (λ b. IsCutText (style_by (is_quiet w) (is_second tool input)) (text_of w (is_second tool input) (good_lines b (length (judged_lines input)))) before after (script tool input)) r.first (cut-run r.run)) replay
  replay-cuts (Some n) bad replay = absurd (none-some bad (sym replay.0))

  pub replay-not_ahead : (g : Option ℕ) (bad : ℕ × LineFault) → ReplaysBy g tool w before after told left (Some bad) → NotAhead tool (is_quiet w) told left before.written after.written
  replay-not_ahead None bad replay =
      λ plain. if_some told _ _ (λ input r. not_ahead-run tool input left (text-begins w (is_second tool input) (good_lines (Some bad) (length (judged_lines input)))) r.run plain) replay
  replay-not_ahead (Some n) bad replay = absurd (none-some bad (sym replay.0))

cuts-by : (tool : Tool) (w : Words) (start : Moment) (told : Option (List ℕ)) (g : Option ℕ) → w.generate ≡ g → IsTrue (is_in_range g) → Cuts g tool w start start told
cuts-by tool w start told None is in_range = cuts-source tool w start start told (keeps-same start.accounts) refl
cuts-by tool w start told (Some n) is in_range = cuts-generated tool w n is (asked-most (Some n) n refl in_range) start start (keeps-same start.accounts) refl

-- nothing was run
pub cuts-untouched : (tool : Tool) (asked : Option Words) → ((w : Words) → asked ≡ Some w → IsTrue (is_in_range w.generate)) → (start : Moment) (told : Option (List ℕ)) → IfSome asked (λ w. Cuts w.generate tool w start start told)
cuts-untouched tool None in_range start told = tt
cuts-untouched tool (Some w) in_range start told = cuts-by tool w start told w.generate refl (in_range w refl)
