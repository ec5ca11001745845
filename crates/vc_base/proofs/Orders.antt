-- How one order decides another.
use Rattle.vc_base.proofs.Common.{◌≡◌, true, false, is_eq, is_gt, Ordering, Less, Equal, Greater, sym, refl, true≢false, ordering_reverse}

pub is-equal : (o : Ordering) → is_eq o ≡ true → o ≡ Equal
is-equal Less e = absurd (true≢false (sym e))
is-equal Equal e = refl
is-equal Greater e = absurd (true≢false (sym e))

pub reversed : (o : Ordering) → is_gt o ≡ true → is_gt (ordering_reverse o) ≡ false
reversed Less e = absurd (true≢false (sym e))
reversed Equal e = refl
reversed Greater e = refl
