-- Telling kinds of objects, part after part.
use Rattle.vc_base.proofs.Common.{◌≡◌, ℕ, List, [], ◌∷◌, ◌++◌, refl}
use Rattle.vc_dtdisc.specs.Rules.{Gone}
use Rattle.vc_steps.specs.Told.{tell, tell_one}

pub tell-append : (front behind : List (ℕ × List ℕ)) (gone : List Gone) → tell (front ++ behind) gone ≡ tell behind (tell front gone)
tell-append [] behind gone = refl
tell-append (one ∷ rest) behind gone = tell-append rest behind (tell_one one gone)
