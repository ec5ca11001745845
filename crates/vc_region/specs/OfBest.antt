-- What a region of the method VmBest holds.
use Rattle.std.specs.Prelude.{Option, None, Some}
use Rattle.vc_best.specs.declared.best.Best.{Best}
use Rattle.vc_region.specs.declared.region.Region.{Region}
use Rattle.vc_region.specs.declared.region.Region.TheVariants.{Best as OfBest, Pool, Last, Debug, Profile}

-- it, or none where its method is another
abbrev pub best_in : {I : Type 0} {V : I → Type 0} → Region I V → Option (Best I V)
best_in (OfBest best) = Some best
best_in (Pool pool) = None
best_in (Last last) = None
best_in (Debug debug) = None
best_in (Profile profile) = None
