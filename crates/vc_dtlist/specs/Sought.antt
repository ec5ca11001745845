-- Which holder of a list stands to a key in the order that is sought.
use Rattle.std.specs.Prelude.{◌≡◌, ℕ, ◌+◌, ◌≤◌, Bool, List, Option, length}
use Rattle.std.specs.List.{find}
use Rattle.std.specs.Option.{option_map}
use Rattle.std.specs.Ordering.{is_eq, is_ge, is_gt}
use Rattle.std.specs.declared.cmp.Ordering.{Ordering}
use Rattle.vc_base.specs.declared.addr.Addr.{Addr}
use Rattle.vc_base.specs.Cells.{Blocks}
use Rattle.vc_dtdisc.specs.Finds.{object_at}
use Rattle.vc_dtdisc.specs.Rules.{Rules}
use Rattle.vc_dtlist.specs.Linked.{number_of}
use Rattle.vc_dtlist.specs.declared.sought.Sought.{Sought}
use Rattle.vc_dtlist.specs.declared.sought.Sought.TheVariants.{Equal, NotLess, Greater}

-- whether an order is the one that is sought
abbrev pub is_sought : Sought → Ordering → Bool
is_sought Equal order = is_eq order
is_sought NotLess order = is_ge order
is_sought Greater order = is_gt order

-- whether the key of a holder's object stands so to this one
abbrev pub stands_so : Sought → Rules → Blocks → List ℕ → ℕ → Bool
stands_so sought rules blocks key at = is_sought sought (rules.compare (rules.key (object_at blocks at)) key)

-- the first of these holders that passes the test was found, by at most one step for each
pub record Seeks (test : ℕ → Bool) (holders : List ℕ) (result : Option Addr) (before after : ℕ) : Type 0 where
  pub first : option_map number_of result ≡ find test holders
  pub steps : after ≤ before + length holders
