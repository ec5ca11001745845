use Rattle.vc_base.proofs.Common.{◌≡◌, ℕ, ◌<◌, ◌≤◌, None}
use Rattle.vc_commands.specs.Labels.{AreLabels, FreesNames, label_at}
use Rattle.vc_commands.proofs.region.labels.Labels.keep_all.Given as goal

-- the blocks of the keys so far are gone, and past the last key there was none
abbrev pub invariant-loop-key : goal.invariant-loop-key
invariant-loop-key l =
    record {
      agree : AreLabels l.self;
      gone : (tag : ℕ) → 1 ≤ tag → tag ≤ l.key → label_at l.self tag ≡ None;
      past : (tag : ℕ) → l.end < tag → label_at l.self tag ≡ None;
      frees : FreesNames l.initial.self l.self l.line;
    }
