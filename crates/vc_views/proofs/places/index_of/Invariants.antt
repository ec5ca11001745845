use Rattle.vc_base.proofs.Common.{◌≡◌, drop, find}
use Rattle.vc_views.specs.Dicts.{entry_numbered, is_numbered}
use Rattle.vc_views.proofs.places.index_of.Given as goal

-- none before has the number
abbrev pub invariant-loop-i : goal.invariant-loop-i
invariant-loop-i l = find (is_numbered l.d) (drop l.i l.dicts.entries) ≡ entry_numbered l.d l.dicts.entries
