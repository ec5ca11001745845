use Rattle.vc_base.proofs.Common.{ℕ, ◌≤◌, List, ◌++◌, length, drop, replicate, refl, arith, length-append, length-replicate}
use Rattle.std.proofs.lemmas.List.{drop-replicate}
use Rattle.std.proofs.Math.Seq.{take-append_seam}
use Rattle.vc_base.specs.Name.{IsPadded}

-- bytes written over the first of 32 zeros are a padded name
pub IsPadded-over_zeros : (xs : List ℕ) → 1 ≤ length xs → length xs ≤ 32 → IsPadded (xs ++ drop (length xs) (replicate 32 0)) (length xs)
IsPadded-over_zeros xs least most = rw drop-replicate (record {
  least = least;
  most = most;
  full = rw (length-append, length-replicate) (omega arith);
  zeros = rw take-append_seam refl;
})
