-- Which holders of a set are alone: their objects don't match.
use Rattle.std.specs.Prelude.{◌≡◌, ℕ, zero, suc, ◌<◌, ◌≤◌, ◌^◌, List, [], ◌∷◌, None, true, ◌==◌, if◌then◌else◌}
use Rattle.vc_base.specs.Cells.{Blocks, IsAddress, IsHolder, word_at}
use Rattle.vc_base.specs.Holders.{contains}
use Rattle.vc_dtdisc.specs.Finds.{find_key, object_at}
use Rattle.vc_dtdisc.specs.Rules.{Rules}
use Rattle.vc_dthash.specs.Chained.{AreChained, IsHashed, hash_at}

-- no two of these have equal keys
abbrev pub AreAlone : Rules → Blocks → List ℕ → Type 0
AreAlone rules blocks [] = Unit {0}
AreAlone rules blocks (x ∷ xs) =
    (find_key rules blocks (rules.key (object_at blocks x)) xs ≡ None) × AreAlone rules blocks xs

-- at most so many holders from an address on, each telling of the one behind it by its word 2, up to one that tells of none
abbrev pub chained_from : Blocks → ℕ → ℕ → List ℕ
chained_from blocks zero at = []
chained_from blocks (suc most) at = if at == 0 then [] else at ∷ chained_from blocks most (word_at blocks at 2)

-- a holder has the hash of its key in its fourth word, and what its third word tells may be an address
pub record IsHung (rules : Rules) (blocks : Blocks) (a : ℕ) : Type 0 where
  pub holder : IsHolder blocks a
  pub hashed : IsHashed rules blocks a
  pub behind : word_at blocks a 2 < 2 ^ 32

-- so are these, and some table leads through them by their hashes
pub record AreHung (rules : Rules) (blocks : Blocks) (holders : List ℕ) : Type 0 where
  pub table : ℕ
  pub slots : ℕ
  pub some : 1 ≤ slots
  pub chained : AreChained (hash_at rules blocks) blocks table slots holders
  pub addresses : (a : ℕ) → contains holders a ≡ true → IsAddress a
  pub there : (a : ℕ) → contains holders a ≡ true → IsHolder blocks a
  pub hashed : (a : ℕ) → contains holders a ≡ true → IsHashed rules blocks a
