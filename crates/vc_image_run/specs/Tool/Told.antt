-- What is told on err.
use Rattle.std.specs.Prelude.{ℕ, List, ◌++◌, codes, decimal}
use Rattle.vc_image.specs.declared.fault.LoadFault.{LoadFault}
use Rattle.vc_image.specs.declared.fault.LoadFault.TheVariants as load
use Rattle.vc_image_check.specs.declared.parts.part.Part.{Part}
use Rattle.vc_image_check.specs.declared.parts.part.Part.TheVariants.{Header, Segment, Tree, Dictionary, Rest}
use Rattle.vc_image_run.specs.declared.script.over_fault.OverFault.{OverFault}
use Rattle.vc_image_run.specs.declared.script.over_fault.OverFault.TheVariants as over
use Rattle.vc_image_run.specs.declared.script.fault.ScriptFault.{ScriptFault}
use Rattle.vc_image_run.specs.declared.script.fault.ScriptFault.TheVariants as script
use Rattle.vc_image_run.specs.declared.session.fault.OpenFault.{OpenFault}
use Rattle.vc_image_run.specs.declared.session.fault.OpenFault.TheVariants as unopened
use Rattle.vc_script.specs.Faults.{fault_text as line_text}
use Rattle.vc_image_run.specs.declared.tool.fault.ImageFault.{ImageFault}
use Rattle.vc_image_run.specs.declared.tool.fault.ImageFault.TheVariants as fault
use Rattle.vc_image_run.specs.declared.tool.status.ImageStatus.{ImageStatus}
use Rattle.vc_image_run.specs.declared.tool.status.ImageStatus.TheVariants.{Unsound, Usage, Read, Write, Memory, NotLent, Script, NoImage}

-- the line that err gets: the program's name, and what happened
abbrev pub vmimage_line : List ℕ → List ℕ
vmimage_line text = codes "vmimage: " ++ text ++ codes "\n"

-- a part of an image
abbrev pub part_text : Part → List ℕ
part_text Header = codes "header"
part_text (Segment number) = codes "segment " ++ decimal number
part_text Tree = codes "tree"
part_text (Dictionary number) = codes "dictionary " ++ decimal number
part_text Rest = codes "rest"

-- what is wrong with the segment of a number
abbrev pub bad_segment_text : ℕ → List ℕ → List ℕ
bad_segment_text number why = codes "segment " ++ decimal number ++ why

-- why an image isn't loaded
abbrev pub load_text : LoadFault → List ℕ
load_text (load.Bad part) = codes "unsound: " ++ part_text part
load_text (load.Round number) = bad_segment_text number (codes ": wrong size")
load_text load.Grows = codes "too many segments"
load_text (load.NoSegment number) = bad_segment_text number (codes ": no segment")
load_text load.OutOfMemory = codes "out of memory"

-- why no image is made of what a script leaves
abbrev pub script_text : ScriptFault → List ℕ
script_text (script.Line n why) = codes "line " ++ decimal n ++ codes ": " ++ line_text why
script_text script.Read = codes "read failed"
script_text script.Write = codes "write failed"
script_text script.Memory = codes "out of memory"
script_text script.NoRegion = codes "no region"
script_text script.WrongMethod = codes "wrong method"
script_text (script.Unsound part) = load_text (load.Bad part)

-- why an image isn't opened for a script
abbrev pub open_text : OpenFault → List ℕ
open_text unopened.NoDiscipline = codes "no discipline"
open_text (unopened.Load why) = load_text why
open_text unopened.Tags = codes "wrong tags"

-- what is wrong
abbrev pub image_fault_text : ImageFault → List ℕ
image_fault_text fault.Usage = codes "bad arguments"
image_fault_text fault.Read = codes "read failed"
image_fault_text fault.Write = codes "write failed"
image_fault_text fault.Memory = codes "out of memory"
image_fault_text (fault.Load why) = load_text why
image_fault_text (fault.Script why) = script_text why
image_fault_text (fault.Open why) = open_text why

-- what keeps a script from being run over an image, or from an image of what it leaves
abbrev pub over_fault : OverFault → ImageFault
over_fault (over.Open why) = fault.Open why
over_fault (over.Script why) = fault.Script why

-- the line of a fault
abbrev pub fault_line : ImageFault → List ℕ
fault_line why = vmimage_line (image_fault_text why)

-- the status of an image that isn't loaded
abbrev pub load_status : LoadFault → ImageStatus
load_status (load.Bad part) = Unsound
load_status (load.Round number) = NotLent
load_status load.Grows = NotLent
load_status (load.NoSegment number) = NotLent
load_status load.OutOfMemory = Memory

-- the status of a script of which no image is made
abbrev pub script_status : ScriptFault → ImageStatus
script_status (script.Line n why) = Script
script_status script.Read = Read
script_status script.Write = Write
script_status script.Memory = Memory
script_status script.NoRegion = NoImage
script_status script.WrongMethod = NoImage
script_status (script.Unsound part) = Unsound

-- the status of an image that isn't opened for one
abbrev pub open_status : OpenFault → ImageStatus
open_status unopened.NoDiscipline = NotLent
open_status (unopened.Load why) = load_status why
open_status unopened.Tags = NotLent

-- the status of a fault
abbrev pub status_of_image_fault : ImageFault → ImageStatus
status_of_image_fault fault.Usage = Usage
status_of_image_fault fault.Read = Read
status_of_image_fault fault.Write = Write
status_of_image_fault fault.Memory = Memory
status_of_image_fault (fault.Load why) = load_status why
status_of_image_fault (fault.Script why) = script_status why
status_of_image_fault (fault.Open why) = open_status why
