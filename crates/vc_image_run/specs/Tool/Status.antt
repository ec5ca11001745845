-- The number of each status.
use Rattle.std.specs.Prelude.{ℕ}
use Rattle.vc_image_run.specs.declared.tool.status.ImageStatus.{ImageStatus}
use Rattle.vc_image_run.specs.declared.tool.status.ImageStatus.TheVariants.{Done, Unsound, Usage, Read, Write, Memory, NotLent, Script, NoImage}

abbrev pub image_status_number : ImageStatus → ℕ
image_status_number Done = 0
image_status_number Unsound = 1
image_status_number Usage = 2
image_status_number Read = 3
image_status_number Write = 4
image_status_number Memory = 5
image_status_number NotLent = 6
image_status_number Script = 7
image_status_number NoImage = 8
