-- What a word spells whose escapes are counted.
use Rattle.std.specs.Prelude.{ℕ, List}
use Rattle.percent_encoding.specs.Percent.{percent_decode}
use Rattle.vc_script.specs.declared.spelled.Spelled.{Spelled}
use Rattle.vc_script.specs.declared.spelled.Spelled.TheVariants.{Plain, Escaped}

abbrev pub spelled_bytes : Spelled → List ℕ
spelled_bytes (Plain word) = word.now
spelled_bytes (Escaped word escapes) = percent_decode word.now
