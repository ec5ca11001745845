use Rattle.vc_base.proofs.Common.{◌≡◌, ℕ, ◌<◌, Bool, Some, length, list_all}
use Rattle.vc_paths.specs.Links.{numbers, path}
use Rattle.vc_paths.specs.Shown.{down}
use Rattle.vc_store.specs.Stores.Alike.{is_of}
use Rattle.vc_store.proofs.stores.alike.Alike.has_path.Given as goal

-- whether the path is one is whether what is left of it is
abbrev pub invariant-loop-next : goal.invariant-loop-next
invariant-loop-next g l =
    let test : ℕ → Bool = is_of l.self.store l.method in
    record {
      number : (e : ℕ) → l.next ≡ Some e → e < numbers;
      rest : list_all test (down l.paths l.next) ≡ list_all test (path l.paths l.d);
    }

abbrev pub decreases-loop-next : goal.decreases-loop-next
decreases-loop-next g l = length (down l.paths l.next)
