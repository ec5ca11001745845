-- How far the cutting of an input into lines has come.
use Rattle.std.specs.Prelude.{◌≡◌, ℕ, ◌≤◌, List, [], Bool, true, length}
use Rattle.vc_script.specs.Judged.{line_limit, last_number}

-- the bytes of the line that has begun, how many lines were whole, the last whole line without its final CR (at
-- first an empty one), and whether more may be fed
pub record Cutting : Type 0 where
  pub kept : List ℕ
  pub count : ℕ
  pub line : List ℕ
  pub is_open : Bool

-- nothing has been fed
abbrev pub new_cutting : Cutting
new_cutting = record { kept = []; count = 0; line = []; is_open = true }

-- no more is kept than a line may have, nor of a line whose number is too great
pub record IsCutting (s : Cutting) : Type 0 where
  pub short : length s.kept ≤ line_limit
  pub few : s.count ≤ last_number
  pub no_more : s.count ≡ last_number → s.kept ≡ []
