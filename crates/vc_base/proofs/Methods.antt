-- The number of a method tells which it is.
use Rattle.vc_base.proofs.Common.{◌≡◌, ℕ, true, false, ◌≢◌, if◌then◌else◌, ◌==◌, sym, refl, ap, ◌∙◌, ne_eqb, eqb-true, method_number}
use Rattle.vc_base.specs.declared.dict_method.DictMethod.{DictMethod}
use Rattle.vc_base.specs.declared.dict_method.DictMethod.TheVariants.{DtSet, DtBag, DtOset, DtObag, DtList, DtStack, DtQueue}

method_of : ℕ → DictMethod
method_of n =
    if n == 0 then DtSet else (if n == 1 then DtBag else (if n == 2 then DtOset else (if n == 3 then DtObag else (if n == 4 then DtList else (if n == 5 then DtStack else DtQueue)))))

method-back : (m : DictMethod) → method_of (method_number m) ≡ m
unfolding method_of
method-back DtSet = refl
method-back DtBag = refl
method-back DtOset = refl
method-back DtObag = refl
method-back DtList = refl
method-back DtStack = refl
method-back DtQueue = refl

pub same-method : (m n : DictMethod) → (method_number m == method_number n) ≡ true → m ≡ n
same-method m n is = sym (method-back m) ∙ ap method_of (eqb-true (method_number m) (method_number n) is) ∙ method-back n

pub other-method : (m n : DictMethod) → m ≢ n → (method_number m == method_number n) ≡ false
other-method m n ne = ne_eqb (method_number m) (method_number n) (λ e. ne (sym (method-back m) ∙ ap method_of e ∙ method-back n))
