-- What a map from addresses to numbers means.
use Rattle.std.specs.Prelude.{ℕ, List, length}
use Rattle.vc_splay.specs.Tree.{names}
use Rattle.vc_addrmap.specs.declared.addr_map.AddrMap.{AddrMap}
use Rattle.vc_addrmap.specs.Entries.{HasRoom}
use Rattle.vc_addrmap.specs.Map.{Numbers, numbers_in}

-- the names of its entries, in ascending order of address
unfoldable pub names_of : AddrMap → List ℕ
names_of m = names m.kept.tree

-- the number of each address, where it has one
unfoldable pub numbers_of : AddrMap → Numbers
unfolding names_of
numbers_of m = numbers_in m.entries.slab (names_of m)

-- how many addresses have one
unfoldable pub count_of : AddrMap → ℕ
unfolding names_of
count_of m = length (names_of m)

-- there is room for one more
abbrev pub HasRoomForOne : AddrMap → Type 0
HasRoomForOne m = HasRoom m.entries.slab
