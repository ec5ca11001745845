use Rattle.vc_image_check.proofs.Told.{heads-back, own-told, set-alone}
use Rattle.vc_image_check.proofs.Wholes.{sound-whole}
use Rattle.vc_image_check.proofs.dicts.laws.sound_is_whole.Goals as goal

pub returns : goal.returns
returns c = record {
  whole = λ n kind. sound-whole n.rules n.blocks n.method kind n.count n.current n.heads n.sound;
  heads = λ n kind. heads-back n.method n.count n.heads n.sound.others;
  own = λ n kind a. own-told n.method n.rules n.blocks kind n.count n.current n.heads n.sound.holders a;
  alone = λ n lawful set. set-alone n.method n.rules n.blocks n.count n.heads lawful set n.sound.holders;
}
