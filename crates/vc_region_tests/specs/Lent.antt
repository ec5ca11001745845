-- What regions ask of their disciplines.
use Rattle.vc_model.specs.Discipline.{Discipline, HasOut}
use Rattle.vc_best.specs.Parts.{disc_in, segments_in}
use Rattle.vc_best.specs.declared.best.Best.{Best}

-- the segments of a best region are out
abbrev pub IsLent : {I : Type 0} {V : I → Type 0} → ((x : I) × V x → Discipline) → Best I V → Type 0
IsLent meaning b = HasOut (disc_in meaning b) (segments_in b)
