-- What an answer unfolds to compute a printed line on a literal.
use Rattle.vc_base.proofs.Common.{digits}
use Rattle.std.specs.Prelude.{⊤}
use Rattle.hex.specs.Hex.{encode_with}
use Rattle.percent_encoding.specs.Percent.{percent_encode_byte}

unfoldable pub printing_on_literals : ⊤
unfolding digits encode_with percent_encode_byte
printing_on_literals = tt
