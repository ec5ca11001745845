-- What is looked for through a dictionary.
use Rattle.std.specs.Prelude.{ℕ, Bool, List}
use Rattle.vc_dtdisc.specs.Objects.{has_key}
use Rattle.vc_paths.specs.Layers.{Layered}
use Rattle.vc_paths.specs.Visible.{Seen}

-- whether an object that is seen through a dictionary has a key
abbrev pub has_key_in : Layered → ℕ → List ℕ → Seen ℕ → Bool
has_key_in all d key o = has_key (all.layer d).rules key o.bytes
