-- One kind is told of objects.
use Rattle.vc_base.proofs.Common.{◌≡◌, ℕ, ◌-◌, ◌<◌, ◌≤◌, List, [], ◌∷◌, map, length, set, slice_get, Some, option_map, sym, ap, ◌∙◌, arith, set-set, length-map, at_number}
use Rattle.vc_base.proofs.Lists.{slice_get-set}
use Rattle.vc_dtdisc.specs.Rules.{Gone, gone_after}
use Rattle.vc_objects.specs.Leaves.{told_each}
use Rattle.vc_steps.specs.Dicts.{told_of}
use Rattle.vc_steps.specs.Told.{tell, told_at}
use Rattle.vc_steps.proofs.Cells.{at_number-from_one, at_number-map, at_number_some, set_same}
use Rattle.std.proofs.lemmas.Option.{slice_get_within}

-- there is a kind of a number that has rules
pub kind-within : {K R : Type 0} (f : K → R) (ks : List K) (n : ℕ) (r : R) → at_number (map f ks) n ≡ Some r → (1 ≤ n) × (n - 1 < length ks)
kind-within f ks n r at =
    let found = at_number_some (map f ks) n r at in
    (found.0, omega (arith, slice_get_within (map f ks) (n - 1) r found.1, length-map ks f))

pub kind-at : {K R : Type 0} (f : K → R) (ks : List K) (n : ℕ) (k : K) → 1 ≤ n → slice_get ks (n - 1) ≡ Some k → at_number (map f ks) n ≡ Some (f k)
kind-at f ks n k low at = at_number-map f ks n ∙ ap (option_map f) (at_number-from_one ks n low ∙ at)

-- the kind of a number is told of each, in order
pub tell-each : (objects : List (List ℕ)) (gone : List Gone) (k : ℕ) (was : Gone) → at_number gone k ≡ Some was → tell (told_of k objects) gone ≡ set gone (k - 1) (told_each objects was)
tell-each [] gone k was at = sym (set_same gone (k - 1) was (at_number_some gone k was at).1)
tell-each (o ∷ os) gone k was at =
    let found = at_number_some gone k was at in
    let next : List Gone = set gone (k - 1) (gone_after was o) in
    let there : at_number next k ≡ Some (gone_after was o) =
    at_number-from_one next k found.0 ∙ slice_get-set gone (k - 1) was (gone_after was o) found.1 in
    ap (λ x. tell (told_of k os) (told_at gone k o x)) at
    ∙ (tell-each os next k (gone_after was o) there
    ∙ set-set gone (k - 1) (gone_after was o) (told_each os (gone_after was o)))
