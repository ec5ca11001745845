-- An address as a number.
use Rattle.std.specs.Prelude.{ℕ}
use Rattle.vc_base.specs.declared.addr.Addr.{Addr}

-- the number of an address
abbrev pub number_of : Addr → ℕ
number_of at = at.0
