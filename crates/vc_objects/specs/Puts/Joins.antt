-- How an ordered list of holders is read down with a key, and how one more joins it where that ends.
use Rattle.std.specs.Prelude.{◌≡◌, ◌≢◌, ℕ, ◌+◌, ◌≤◌, List, Bool, true, false, None, is_some, length}
use Rattle.std.specs.Cmp.{IsTotalOrder}
use Rattle.std.specs.declared.cmp.Ordering.{Ordering}
use Rattle.vc_base.specs.Cells.{Blocks, IsHolder}
use Rattle.vc_base.specs.Holders.{contains}
use Rattle.vc_dtdisc.specs.Finds.{find_key}
use Rattle.vc_dtdisc.specs.Rules.{Rules}
use Rattle.vc_dtord.specs.declared.dt_ord.DtOrd.{DtOrd}
use Rattle.vc_dtord.specs.Nodes.{node_store, stands_to, stands_to_holder}
use Rattle.vc_dtord.specs.Ordered.{OrdFor}
use Rattle.vc_dict.specs.declared.dict.Dict.{Dict}
use Rattle.vc_dict.specs.declared.form.Form.TheVariants.{Order}
use Rattle.vc_dict.specs.Stands.{Stands}
use Rattle.vc_splay.specs.Searches.{Gap}
use Rattle.vc_splay.specs.Stands.{IsTree}
use Rattle.vc_splay.specs.Tree.{Tree}
use Rattle.vc_objects.specs.declared.puts.place.Place.{Place}
use Rattle.vc_objects.specs.declared.puts.place.Place.TheVariants.{Taken, Free}

-- a place in the tree of an ordered list by a guide: below this holder, if any, on this side of it
abbrev pub IsGap : (ℕ → Ordering) → DtOrd → Blocks → ℕ → Bool → ℕ → ℕ → Type 0
IsGap side ord blocks above left start now =
    (tree : Tree) → IsTree (node_store blocks) ord.root.0 tree → Gap side tree above left start now

-- one of the holders has an object with the key
pub record HasKey (rules : Rules) (blocks : Blocks) (key : List ℕ) (holders : List ℕ) (at : ℕ) : Type 0 where
  pub within : contains holders at ≡ true
  pub found : is_some (find_key rules blocks key holders) ≡ true

-- none has, and this is the place of one that would
pub record LacksKey (rules : Rules) (ord : DtOrd) (blocks : Blocks) (key : List ℕ) (holders : List ℕ) (above : ℕ) (left : Bool) (start now : ℕ) : Type 0 where
  pub none : find_key rules blocks key holders ≡ None
  pub gap : IsGap (stands_to rules blocks key) ord blocks above left start now
  pub within : above ≢ 0 → contains holders above ≡ true

abbrev pub IsPlace : Place → Rules → DtOrd → Blocks → List ℕ → List ℕ → ℕ → ℕ → Type 0
IsPlace (Taken at) rules ord blocks key holders start now = HasKey rules blocks key holders at
IsPlace (Free above left) rules ord blocks key holders start now = LacksKey rules ord blocks key holders above left start now

-- a way down with a key ends there, by at most as many compares as there are holders
pub record LeadsTo (place : Place) (rules : Rules) (ord : DtOrd) (blocks : Blocks) (key : List ℕ) (holders : List ℕ) (start now : ℕ) : Type 0 where
  pub place_is : IsPlace place rules ord blocks key holders start now
  pub steps : now ≤ start + length holders

-- one more holder may join these at a place that was found for its key
pub record Joins (rules : Rules) (ord : DtOrd) (blocks : Blocks) (at above : ℕ) (left : Bool) (holders : List ℕ) : Type 0 where
  pub order : IsTotalOrder rules.compare
  pub stands : OrdFor rules ord blocks holders
  pub apart : contains holders at ≡ false
  pub holder : IsHolder blocks at
  pub side : ℕ → Ordering
  pub start : ℕ
  pub now : ℕ
  pub gap : IsGap side ord blocks above left start now
  pub sides : (a : ℕ) → contains holders a ≡ true → side a ≡ stands_to_holder rules blocks at a

-- it may do so by some kind's rules
pub record CanJoin (blocks : Blocks) (at above : ℕ) (left : Bool) : Type 0 where
  pub rules : Rules
  pub ord : DtOrd
  pub holders : List ℕ
  pub joins : Joins rules ord blocks at above left holders

-- it may join the holders of an ordered dictionary
pub record CanJoinDict (dict : Dict) (blocks : Blocks) (at above : ℕ) (left : Bool) : Type 0 where
  pub rules : Rules
  pub ord : DtOrd
  pub holders : List ℕ
  pub stands : Stands rules dict blocks holders
  pub form : dict.heads ≡ Order ord
  pub joins : Joins rules ord blocks at above left holders
