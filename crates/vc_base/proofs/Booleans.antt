-- Laws of booleans that std has not.
use Rattle.vc_base.proofs.Common.{◌≡◌, Bool, true, false, ◌||◌, refl}

pub or-swap : (a b c : Bool) → (a || (b || c)) ≡ (b || (a || c))
or-swap true true c = refl
or-swap true false c = refl
or-swap false true c = refl
or-swap false false c = refl
