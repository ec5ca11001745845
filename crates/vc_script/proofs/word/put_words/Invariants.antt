use Rattle.vc_base.proofs.Common.{◌≡◌, ◌<◌, ◌≤◌, map, length}
use Rattle.vc_script.specs.Words.{words}
use Rattle.vc_script.proofs.Cuts.{words_from}
use Rattle.vc_script.proofs.word.put_words.Given as goal

abbrev pub invariant-loop-i : goal.invariant-loop-i
invariant-loop-i l = record {
  begun : l.start ≤ l.i;
  room : length l.found.items < 6;
  words : words l.line ≡ words_from (map (λ w. w.now) l.found.items) l.line l.start l.i;
}
