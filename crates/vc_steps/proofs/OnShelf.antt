-- What follows of an answer.
use Rattle.vc_base.proofs.Common.{◌≡◌, IfOk, OnErr, Ok, Err, Result, subst}

pub ok-at : {T E : Type 0} (r : Result T E) (x : T) (P : T → Type 0) → r ≡ Ok x → IfOk r P → P x
ok-at r x P e p = subst (λ q. IfOk q P) e p

pub error-at : {T E : Type 0} (r : Result T E) (e : E) (P : Type 0) → r ≡ Err e → OnErr r P → P
error-at r e P is p = subst (λ q. OnErr q P) is p
