-- What the printers do to the text behind which they print.
use Rattle.std.specs.Prelude.{◌≡◌, ℕ, List, ◌++◌, Result, OnOk}
use Rattle.std.specs.Io.{StartsWith}
use Rattle.std.specs.declared.alloc.AllocError.{AllocError}

-- what was printed stands behind the old text, where there was memory for it; the new text begins with the old one in any case
pub record Puts (old new : List ℕ) (result : Result (Unit {0}) AllocError) (printed : List ℕ) : Type 0 where
  pub put : OnOk result (new ≡ old ++ printed)
  pub front : StartsWith new old
