-- The commands of the first four words of seed 42, as a worked row.
use Rattle.std.specs.Prelude.{List, [], ◌∷◌, None, codes}
use Rattle.vc_base.specs.declared.dict_method.DictMethod.TheVariants.{DtOset}
use Rattle.vc_seg.specs.declared.method.Method.TheVariants.{VmBest}
use Rattle.vc_script.specs.declared.command.Command.{Command}
use Rattle.vc_script.specs.declared.command.Command.TheVariants.{Alloc, CloseRegion, Insert, OpenDict, OpenRegion, Search, Shut}

-- of vmreplay
abbrev pub four_on_blocks : List Command
four_on_blocks =
    OpenRegion (codes "r") VmBest 1
    ∷ Alloc (codes "r") (codes "x183") 851 None
    ∷ Alloc (codes "r") (codes "x9") 349 None
    ∷ Alloc (codes "r") (codes "x48") 172 None
    ∷ Alloc (codes "r") (codes "x147") 219 None
    ∷ CloseRegion (codes "r")
    ∷ []

-- of dtrun
abbrev pub four_on_objects : List Command
four_on_objects =
    OpenRegion (codes "r") VmBest 1
    ∷ OpenDict (codes "d") DtOset (codes "r") 1
    ∷ Search (codes "d") (codes "k850")
    ∷ Insert (codes "d") (codes "k348")
    ∷ Insert (codes "d") (codes "k171")
    ∷ Search (codes "d") (codes "k218")
    ∷ Shut (codes "d")
    ∷ CloseRegion (codes "r")
    ∷ []
