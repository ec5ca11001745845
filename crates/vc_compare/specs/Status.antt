-- The number of each status.
use Rattle.std.specs.Prelude.{ℕ}
use Rattle.vc_compare.specs.declared.status.CompareStatus.{CompareStatus}
use Rattle.vc_compare.specs.declared.status.CompareStatus.TheVariants.{Ok, Script, Usage, Read, Write, Memory, NoSegment, TooMany}

abbrev pub compare_status_number : CompareStatus → ℕ
compare_status_number Ok = 0
compare_status_number Script = 1
compare_status_number Usage = 2
compare_status_number Read = 3
compare_status_number Write = 4
compare_status_number Memory = 5
compare_status_number NoSegment = 6
compare_status_number TooMany = 7
