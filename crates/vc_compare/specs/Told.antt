-- What is told on err.
use Rattle.std.specs.Prelude.{ℕ, List, ◌++◌, codes, decimal}
use Rattle.vc_script.specs.Faults.{fault_text as line_fault_text}
use Rattle.vc_compare.specs.declared.ending.Fault.{Fault}
use Rattle.vc_compare.specs.declared.ending.Fault.TheVariants.{Bad, Outside, NoSegment, TooMany}

-- the line that err gets: the program's name, and what happened
abbrev pub error_line : List ℕ → List ℕ
error_line text = codes "vmcompare" ++ codes ": " ++ text ++ codes "\n"

-- what keeps a line from being run
abbrev pub trace_fault_text : Fault → List ℕ
trace_fault_text (Bad fault) = line_fault_text fault
trace_fault_text Outside = codes "not in a trace"
trace_fault_text (NoSegment way) = codes "no segment"
trace_fault_text (TooMany way) = codes "too many segments"

-- the line that err gets for a line that isn't run
abbrev pub bad_line_text : ℕ → Fault → List ℕ
bad_line_text n fault = error_line (codes "line " ++ decimal n ++ codes ": " ++ trace_fault_text fault)
