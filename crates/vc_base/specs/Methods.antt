-- What the methods of dictionaries have in common.
use Rattle.std.specs.Prelude.{ℕ, Bool, true, false}
use Rattle.vc_base.specs.declared.dict_method.DictMethod.{DictMethod}
use Rattle.vc_base.specs.declared.dict_method.DictMethod.TheVariants.{DtSet, DtBag, DtOset, DtObag, DtList, DtStack, DtQueue}

-- sets and bags have a table
abbrev pub has_table : DictMethod → Bool
has_table DtSet = true
has_table DtBag = true
has_table method = false

-- ordered sets and bags stand in order of their keys
abbrev pub is_ordered : DictMethod → Bool
is_ordered DtOset = true
is_ordered DtObag = true
is_ordered method = false

-- in sets no two objects match
abbrev pub is_set : DictMethod → Bool
is_set DtSet = true
is_set DtOset = true
is_set method = false

-- objects are appended to lists
abbrev pub is_list : DictMethod → Bool
is_list DtList = true
is_list method = false

-- the methods in their order
abbrev pub method_number : DictMethod → ℕ
method_number DtSet = 0
method_number DtBag = 1
method_number DtOset = 2
method_number DtObag = 3
method_number DtList = 4
method_number DtStack = 5
method_number DtQueue = 6
