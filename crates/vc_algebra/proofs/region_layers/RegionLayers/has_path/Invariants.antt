use Rattle.vc_base.proofs.Common.{◌≡◌, ℕ, ◌<◌, Bool, Some, length, map, list_all}
use Rattle.vc_paths.specs.Links.{numbers, path}
use Rattle.vc_paths.specs.Shown.{down}
use Rattle.vc_region.specs.Cells.{cells_in}
use Rattle.vc_algebra.specs.Filling.{is_like}
use Rattle.vc_algebra.specs.InRegion.{layers_of_region}
use Rattle.vc_algebra.proofs.region_layers.RegionLayers.has_path.Given as goal

-- whether the path is one is whether what is left of it is
abbrev pub invariant-loop-next : goal.invariant-loop-next
invariant-loop-next g l =
    let test : ℕ → Bool = is_like (length l.self.dicts) (layers_of_region (map g.D.DictDisc.rules l.self.kinds.items) (cells_in l.self.region) l.self.dicts) l.d in
    record {
      number : (e : ℕ) → l.next ≡ Some e → e < numbers;
      rest : list_all test (down l.paths l.next) ≡ list_all test (path l.paths l.d);
    }

abbrev pub decreases-loop-next : goal.decreases-loop-next
decreases-loop-next g l = length (down l.paths l.next)
