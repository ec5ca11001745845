-- Which holders an ordered set or bag stands for: the nodes of its tree, which stand in order of their keys.
use Rattle.std.specs.Prelude.{◌≡◌, ℕ, zero, suc, Bool, List, [], ◌∷◌, ◌++◌, true, false, All, ◌==◌, if◌then◌else◌}
use Rattle.vc_base.specs.Cells.{Blocks, IsHolder, word_at}
use Rattle.vc_base.specs.Holders.{KeepsBut, contains}
use Rattle.vc_dtdisc.specs.Finds.{object_at}
use Rattle.vc_dtdisc.specs.Objects as objects
use Rattle.vc_dtdisc.specs.Objects.{is_greater, placed_among}
use Rattle.vc_dtdisc.specs.Rules.{Rules}
use Rattle.vc_splay.specs.Stands.{IsTree}
use Rattle.vc_splay.specs.Tree.{Tree, names}
use Rattle.vc_dtord.specs.declared.dt_ord.DtOrd.{DtOrd}
use Rattle.vc_dtord.specs.Nodes.{node_store}

-- whether one holder's key is less than another's
abbrev pub is_less : Rules → Blocks → ℕ → ℕ → Bool
is_less rules blocks at other = is_greater rules (object_at blocks other) (object_at blocks at)

-- no holder is less than one before it
abbrev pub IsSorted : Rules → Blocks → List ℕ → Type 0
IsSorted rules blocks holders = objects.IsSorted (object_at blocks) rules holders

-- sorted holders with one more, behind the last that isn't greater
abbrev pub order_with : Rules → Blocks → ℕ → List ℕ → List ℕ
order_with rules blocks at holders = placed_among (object_at blocks) rules at holders

-- word 3 of a holder is 0
abbrev pub IsPlain : Blocks → ℕ → Type 0
IsPlain blocks at = word_at blocks at 3 ≡ 0

-- it stands for these holders: they are the nodes of the tree at its root, in order, and stand in order of their keys
pub record OrdFor (rules : Rules) (ord : DtOrd) (blocks : Blocks) (holders : List ℕ) : Type 0 where
  pub tree : Tree
  pub is_tree : IsTree (node_store blocks) ord.root.0 tree
  pub list : names tree ≡ holders
  pub plain : All (IsPlain blocks) holders
  pub sorted : IsSorted rules blocks holders

-- the holders of the tree at an address that is at most so deep, in order
abbrev pub in_order : Blocks → ℕ → ℕ → List ℕ
in_order blocks zero at = []
in_order blocks (suc depth) at =
    if at == 0 then []
    else in_order blocks depth (word_at blocks at 0) ++ at ∷ in_order blocks depth (word_at blocks at 1)

-- it stands for some holders
pub record IsOrd (rules : Rules) (ord : DtOrd) (blocks : Blocks) : Type 0 where
  pub holders : List ℕ
  pub stands : OrdFor rules ord blocks holders

-- it does so by some kind's rules
pub record IsOrdered (ord : DtOrd) (blocks : Blocks) : Type 0 where
  pub rules : Rules
  pub is : IsOrd rules ord blocks

-- it stands for some holders, and this one may join them
pub record CanLink (rules : Rules) (ord : DtOrd) (blocks : Blocks) (at : ℕ) : Type 0 where
  pub holders : List ℕ
  pub stands : OrdFor rules ord blocks holders
  pub apart : contains holders at ≡ false
  pub holder : IsHolder blocks at

-- it stands for some holders by some kind's rules, and this is one of them
pub record IsLinked (ord : DtOrd) (blocks : Blocks) (at : ℕ) : Type 0 where
  pub rules : Rules
  pub holders : List ℕ
  pub stands : OrdFor rules ord blocks holders
  pub within : contains holders at ≡ true

-- from old to new its holders change so, and the blocks keep all but the words of some holders
pub record OrdTurned (rules : Rules) (written : List ℕ) (before : Blocks) (new : DtOrd) (after : Blocks) (changed : List ℕ) : Type 0 where
  pub stands : OrdFor rules new after changed
  pub keeps : KeepsBut written before after
