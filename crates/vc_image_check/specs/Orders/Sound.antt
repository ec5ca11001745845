-- Which ordered dictionaries of blocks are sound.
use Rattle.std.specs.Prelude.{◌≡◌, ℕ, ◌≤◌, Bool, List, length}
use Rattle.std.specs.List.{AllByRecursion}
use Rattle.vc_base.specs.declared.addr.Addr.{Addr}
use Rattle.vc_base.specs.Cells.{Blocks, bytes_at}
use Rattle.vc_base.specs.Holders.{AreDistinct}
use Rattle.vc_dtdisc.specs.Rules.{Rules}
use Rattle.vc_dtord.specs.Nodes.{node_store}
use Rattle.vc_dtord.specs.Ordered.{IsPlain}
use Rattle.vc_image_check.specs.Walks.Spelled.{IsSpelled}
use Rattle.vc_image_check.specs.Lists.Ascending.{IsAscending}

-- a holder has 0 in its fourth word and at most 1,056 bytes
pub record IsPlainNode (blocks : Blocks) (a : ℕ) : Type 0 where
  pub plain : IsPlain blocks a
  pub most : length (bytes_at blocks a) ≤ 1056

-- so do these
abbrev pub ArePlain : Blocks → List ℕ → Type 0
ArePlain blocks names = AllByRecursion (IsPlainNode blocks) names

-- so many holders, each once, are the nodes of the tree at a root, in order of their keys
pub record IsSoundOrder (rules : Rules) (blocks : Blocks) (alone : Bool) (count : ℕ) (root : Addr) : Type 0 where
  pub names : List ℕ
  pub tree : IsSpelled (node_store blocks) 0 root.0 names
  pub distinct : AreDistinct names
  pub many : length names ≡ count
  pub plain : ArePlain blocks names
  pub ascending : IsAscending rules blocks alone names
