-- The numbers of answers, methods and kinds.
use Rattle.std.specs.Prelude.{ℕ, ◌-◌, Option, None, ◌==◌, if◌then◌else◌, slice_get}
use Rattle.vc_dtdisc.specs.declared.shape.Shape.{Shape}
use Rattle.vc_main.specs.Places.{shapes}
use Rattle.vc_seg.specs.declared.fault.RegionFault.{RegionFault}
use Rattle.vc_seg.specs.declared.fault.RegionFault.TheVariants as fault
use Rattle.vc_store.specs.declared.put.Put.{Put}
use Rattle.vc_store.specs.declared.put.Put.TheVariants as put
use Rattle.vc_checked.specs.declared.answer.Answer.{Answer}
use Rattle.vc_checked.specs.declared.answer.Answer.TheVariants.{Done, TooSmall, OutOfMemory, Old, NoObject, NoDict, NoMethod, NoKind, WrongSize, NoSegment}

-- the number of an answer
abbrev pub answer_number : Answer → ℕ
answer_number Done = 0
answer_number TooSmall = 4
answer_number OutOfMemory = 5
answer_number Old = 6
answer_number NoObject = 7
answer_number NoDict = 8
answer_number NoMethod = 9
answer_number NoKind = 10
answer_number WrongSize = 11
answer_number NoSegment = 12

-- the answer to what became of an object
abbrev pub answer_of_put : Put → Answer
answer_of_put put.New = Done
answer_of_put put.Old = Old
answer_of_put put.NoSegment = NoSegment
answer_of_put put.OutOfMemory = OutOfMemory
answer_of_put put.WrongSize = WrongSize

-- the answer where a region has no room for a table
abbrev pub answer_to_fault : RegionFault → Answer
answer_to_fault fault.OutOfMemory = OutOfMemory
answer_to_fault other = NoSegment

-- the shape of a kind's number, from 1 on
abbrev pub shape_of : ℕ → Option Shape
shape_of n = if n == 0 then None else slice_get shapes (n - 1)
