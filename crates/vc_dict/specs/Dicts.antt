-- Dictionaries by number.
use Rattle.std.specs.Prelude.{ℕ, List, slice_set}
use Rattle.std.specs.Borrow.{Fml, Lends, MutBor}
use Rattle.vc_dict.specs.declared.dict.Dict.{Dict}
use Rattle.vc_dict.specs.contracts.dict.Dict as dict
use Rattle.vc_dict.specs.contracts.dicts.Dicts as dicts

-- the dictionary of a number is lent: what is last written through the loan stands at its place, and the others stay
abbrev pub LendsDict : MutBor (List Dict) → ℕ → MutBor Dict → Fml
LendsDict all i r = Lends dicts.the_row dict.the_row all r (slice_set all.now i)
