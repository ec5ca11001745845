use Rattle.vc_base.proofs.Common.{◌≡◌, map, take}
use Rattle.vc_image_run.specs.Session.Copies.{copy_of}
use Rattle.vc_image_run.specs.Session.Entries.{entries_from}
use Rattle.vc_image_run.proofs.session.entries.entries_of.Given as goal

-- the dictionaries so far have entries
abbrev pub invariant-loop-i : goal.invariant-loop-i
invariant-loop-i l = l.entries.entries ≡ entries_from 0 (map copy_of (take l.i l.dicts))
