-- The list of a dictionary, read from its heads and from the bytes of its holders.
use Rattle.std.specs.Prelude.{ℕ, List, [], ◌∷◌, zero, suc}
use Rattle.vc_base.specs.Cells.{Blocks, word_at}
use Rattle.vc_dtord.specs.Ordered.{in_order}
use Rattle.vc_dict.specs.declared.dict.Dict.{Dict}
use Rattle.vc_dict.specs.declared.form.Form.{Form}
use Rattle.vc_dict.specs.declared.form.Form.TheVariants.{Hash, Links, Order}

-- so many holders from an address on, each telling of the one behind it by its word 1
abbrev pub holders_from : Blocks → ℕ → ℕ → List ℕ
holders_from blocks zero at = []
holders_from blocks (suc count) at = at ∷ holders_from blocks count (word_at blocks at 1)

-- the holders of a dictionary's heads, so many: those of a tree in its order, and else those from the first on
abbrev pub holders_by : Form → Blocks → ℕ → List ℕ
holders_by (Hash hash) blocks count = holders_from blocks count hash.first.0
holders_by (Order ord) blocks count = in_order blocks count ord.root.0
holders_by (Links list) blocks count = holders_from blocks count list.first.0

-- the holders that a dictionary counts
abbrev pub holders_of : Dict → Blocks → List ℕ
holders_of dict blocks = holders_by dict.heads blocks dict.count
