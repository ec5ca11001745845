-- A discipline in a box.
use Rattle.std.specs.declared.dyn_box.DynBox.{DynBox}
use Rattle.std.specs.declared.alloc.Global.{Global}
use Rattle.vc_model.specs.Discipline.{Discipline}

-- what the discipline in a box means, by what each discipline means
abbrev pub disc_in_box : {I : Type 0} {V : I → Type 0} → ((x : I) × V x → Discipline) → DynBox I Global V → Discipline
disc_in_box meaning b = meaning (b.vtable, b.value)
