-- Places that are seen through view paths.
use Rattle.std.specs.Prelude.{◌≡◌, ℕ, Option, Some}
use Rattle.vc_base.specs.declared.addr.Addr.{Addr}
use Rattle.vc_paths.specs.Layers.{Layered}
use Rattle.vc_paths.specs.Links.{Links}
use Rattle.vc_paths.specs.Path.{IsVisible, numbers_of}

-- a place that there may be is one of an object that is seen
abbrev pub IsSeen : Layered → Links → ℕ → Option (ℕ × Addr) → Type 0
IsSeen all links d at = (p : ℕ × Addr) → at ≡ Some p → IsVisible all links d (numbers_of p)
