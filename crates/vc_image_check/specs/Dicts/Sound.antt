-- Which dictionaries of an image are sound.
use Rattle.std.specs.Prelude.{◌≡◌, ℕ, ◌++◌, Bool, List, [], ◌∷◌, Option, Some, None, true, false, unwrap_or, ◌==◌, if◌then◌else◌}
use Rattle.std.specs.Option.{option_map}
use Rattle.vc_model.specs.Numbered.{at_number}
use Rattle.vc_base.specs.declared.addr.Addr.{Addr}
use Rattle.vc_base.specs.declared.dict_method.DictMethod.{DictMethod}
use Rattle.vc_base.specs.declared.dict_method.DictMethod.TheVariants.{DtSet, DtBag, DtOset, DtObag, DtList, DtStack, DtQueue}
use Rattle.vc_base.specs.Cells.{Blocks}
use Rattle.vc_base.specs.Holders.{contains}
use Rattle.vc_base.specs.Methods.{has_table, is_ordered, is_set}
use Rattle.vc_dtdisc.specs.Rules.{Rules}
use Rattle.vc_dict.specs.declared.dict.Dict.{Dict}
use Rattle.vc_dict.specs.declared.heads.Heads.{Heads}
use Rattle.vc_dict.specs.Listed.{holders_by, holders_from}
use Rattle.vc_dict.specs.Parts.{HasNoOtherHeads, dict_by, form_by}
use Rattle.vc_image_check.specs.Bytes.Image.{DictRow}
use Rattle.vc_image_check.specs.Lists.Chained.{IsSoundChain}
use Rattle.vc_image_check.specs.Lists.Sound.{IsSoundList}
use Rattle.vc_image_check.specs.Lists.Tables.{IsSoundTable}
use Rattle.vc_image_check.specs.Orders.Sound.{IsSoundOrder}
use Rattle.vc_image_check.specs.Dicts.Alone.{AreAlone}

-- the method of a number, in order from 0 on
abbrev pub numbered_method : ℕ → Option DictMethod
numbered_method n =
    if n == 0 then Some DtSet
    else (if n == 1 then Some DtBag
    else (if n == 2 then Some DtOset
    else (if n == 3 then Some DtObag
    else (if n == 4 then Some DtList
    else (if n == 5 then Some DtStack
    else (if n == 6 then Some DtQueue
    else None))))))

-- the heads among a dictionary's nine numbers
abbrev pub heads_of : DictRow → Heads
heads_of r =
    record {
      first = record { 0 = r.first };
      last = record { 0 = r.last };
      table = record { 0 = r.table };
      root = record { 0 = r.root };
      slots = r.slots;
    }

-- the holders to which some heads lead, so many, and with them the table of a set or bag
abbrev pub holders_in : DictMethod → Blocks → ℕ → Heads → List ℕ
holders_in method blocks count heads = holders_by (form_by method count heads) blocks count

abbrev pub own_in : DictMethod → Blocks → ℕ → Heads → List ℕ
own_in method blocks count heads =
    holders_in method blocks count heads ++ (if has_table method then heads.table.0 ∷ [] else [])

-- those of nine numbers; none where no method has the first
abbrev pub own_of : Blocks → DictRow → List ℕ
own_of blocks r = unwrap_or (option_map (λ method. own_in method blocks r.count (heads_of r)) (numbered_method r.method)) []

-- so many holders are a set or bag of that table, and in a set no two match
pub record IsSoundHash (rules : Rules) (blocks : Blocks) (alone : Bool) (count : ℕ) (heads : Heads) : Type 0 where
  pub table : IsSoundTable blocks count heads.table.0 heads.slots
  pub chain : IsSoundChain rules blocks count heads.table.0 heads.slots heads.first heads.last
  pub lone : alone ≡ true → AreAlone rules blocks (holders_from blocks count heads.first.0)

-- so many holders are a dictionary of that method
pub record AreSoundHolders (method : DictMethod) (rules : Rules) (blocks : Blocks) (count : ℕ) (heads : Heads) : Type 0 where
  pub hash : has_table method ≡ true → IsSoundHash rules blocks (is_set method) count heads
  pub order : is_ordered method ≡ true → IsSoundOrder rules blocks (is_set method) count heads.root
  pub list : has_table method ≡ false → is_ordered method ≡ false → IsSoundList blocks count heads.first heads.last

-- and heads that it has no use for are 0, and its current holder is none or one of its own
pub record IsSoundBy (method : DictMethod) (rules : Rules) (blocks : Blocks) (count current : ℕ) (heads : Heads) : Type 0 where
  pub others : HasNoOtherHeads method heads
  pub holders : AreSoundHolders method rules blocks count heads
  pub within : contains (0 ∷ holders_in method blocks count heads) current ≡ true

-- the numbers of such a dictionary, over some blocks by the rules of its kind
pub record SoundNumbers : Type 0 where
  pub rules : Rules
  pub blocks : Blocks
  pub method : DictMethod
  pub count : ℕ
  pub current : Addr
  pub heads : Heads
  pub sound : IsSoundBy method rules blocks count current.0 heads

-- the dictionary that they make, where its kind has that number
abbrev pub numbered_dict : SoundNumbers → ℕ → Dict
numbered_dict n kind = dict_by n.method kind n.count n.current n.heads

-- nine numbers are those of such a dictionary of a method and a kind that are there
pub record IsSoundRow (kinds : List Rules) (blocks : Blocks) (r : DictRow) : Type 0 where
  pub method : DictMethod
  pub rules : Rules
  pub numbered : numbered_method r.method ≡ Some method
  pub kind : at_number kinds r.kind ≡ Some rules
  pub by : IsSoundBy method rules blocks r.count r.current (heads_of r)

-- and neither its table nor a holder of it was taken by another one
pub record IsSoundDict (kinds : List Rules) (blocks : Blocks) (taken : List ℕ) (r : DictRow) : Type 0 where
  pub row : IsSoundRow kinds blocks r
  pub apart : (a : ℕ) → contains (own_of blocks r) a ≡ true → contains taken a ≡ false
