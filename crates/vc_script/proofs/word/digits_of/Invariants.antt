use Rattle.vc_base.proofs.Common.{◌≡◌, ◌^◌, ◌<◌, true, take, list_all}
use Rattle.vc_script.specs.Words.{digits_value, is_digit}
use Rattle.vc_script.proofs.word.digits_of.Given as goal

abbrev pub invariant-loop-d : goal.invariant-loop-d
invariant-loop-d l = record {
  digits : list_all is_digit (take l.d-index l.word) ≡ true;
  value : l.value ≡ digits_value (take l.d-index l.word);
  small : l.value < 10 ^ l.d-index;
}
