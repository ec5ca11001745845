-- What may be there, mapped or not.
use Rattle.vc_base.proofs.Common.{◌≡◌, Bool, true, false, not, is_some, Some, None, Option, option_map, refl, ap, ◌∙◌, true≢false}

pub some_same : {A : Type 0} {x y : A} → Some x ≡ Some y → x ≡ y
some_same h = cc

-- nothing is there where a test says so
pub none_of : {A : Type 0} (o : Option A) → is_some o ≡ false → o ≡ None
none_of None e = refl
none_of (Some x) e = absurd (true≢false e)

pub none_where : {A : Type 0} (o : Option A) (t : Bool) → is_some o ≡ not t → t ≡ true → o ≡ None
none_where o t h g = none_of o (h ∙ ap not g)

-- what is mapped is there where that is which it is mapped from
pub is_some-map : {A B : Type 0} (f : A → B) (o : Option A) → is_some (option_map f o) ≡ is_some o
is_some-map f None = refl
is_some-map f (Some x) = refl

pub option_map-None : {A B : Type 0} (f : A → B) (o : Option A) → option_map f o ≡ None → o ≡ None
option_map-None f None e = refl
option_map-None f (Some x) e = cc

pub option_map-Some : {A B : Type 0} (f : A → B) (o : Option A) (y : B) → option_map f o ≡ Some y → (x : A) × (o ≡ Some x) × (f x ≡ y)
option_map-Some f None y e = absurd (cc)
option_map-Some f (Some x) y e = (x, refl, cc)
