-- What one call makes and costs.
use Rattle.vc_base.proofs.Common.{◌≡◌, ℕ, ◌+◌, ◌*◌, ◌≤◌, Bool, true, false, List, [], ◌∷◌, length, if◌then◌else◌, Option, Some, None, is_some, option_map, refl, ap, ◌∙◌, arith, Blocks}
use Rattle.std.specs.List.{find}
use Rattle.vc_base.specs.declared.addr.Addr.{Addr}
use Rattle.vc_dtdisc.specs.Finding.{put_before}
use Rattle.vc_dtdisc.specs.Finds.{find_key, has_key}
use Rattle.vc_dtdisc.specs.Rules.{Rules}
use Rattle.vc_dtlist.specs.Linked.{number_of}
use Rattle.vc_dtlist.specs.Sought.{stands_so}
use Rattle.vc_dtlist.specs.declared.sought.Sought.TheVariants.{NotLess}
use Rattle.vc_dtlist.proofs.HolderLemmas.{length-without}
use Rattle.vc_splay.specs.Rank.{Costs, binary_digits, size}
use Rattle.vc_splay.specs.Tree.{Tree, names}
use Rattle.vc_splay.proofs.DigitLemmas.{digits-rise}
use Rattle.vc_dtord.specs.declared.dt_ord.DtOrd.{DtOrd}
use Rattle.vc_dtord.specs.Cost.{CallCosts}
use Rattle.vc_dtord.specs.Ordered.{OrdFor, OrdTurned, is_less, order_with}
use Rattle.vc_dtord.proofs.FirstLemmas.{found-within}
use Rattle.vc_cost.specs.declared.ord_call.OrdCall.TheVariants.{Link, Take, Find, AtLeast}
use Rattle.vc_cost.specs.declared.tally.Made.{Made}
use Rattle.vc_cost.specs.declared.tally.Made.TheVariants.{Linked}
use Rattle.vc_cost.specs.Calls.{without_found}
use Rattle.vc_cost.specs.Costs.{IsMade, TakeCosts}
use Rattle.vc_cost.specs.Made.{came, found_by, went}
use Rattle.vc_cost.proofs.TakeLemmas.{names-holders}

by_test : (t : Bool) (at x : ℕ) (xs ys : List ℕ) → length ys ≡ length xs + 1 → length (if t then at ∷ x ∷ xs else x ∷ ys) ≡ length (x ∷ xs) + 1
by_test true at x xs ys e = omega arith
by_test false at x xs ys e = omega (arith, e)

length-put : (test : ℕ → Bool) (at : ℕ) (xs : List ℕ) → length (put_before test at xs) ≡ length xs + 1
length-put test at [] = omega arith
length-put test at (x ∷ xs) = by_test (test x) at x xs (put_before test at xs) (length-put test at xs)

-- one fewer where one was found
length-found : (test : ℕ → Bool) (xs : List ℕ) (o : Option ℕ) → find test xs ≡ o → length (without_found o xs) + (if is_some o then 1 else 0) ≡ length xs
length-found test xs None e = omega arith
length-found test xs (Some at) e = length-without xs at (found-within test xs at e)

-- a tree's size, by its names
pub size-names : (t : Tree) (xs : List ℕ) → names t ≡ xs → size t ≡ length xs
unfolding size
size-names t xs e = ap (λ z. length z) e

-- whether there is one, by its number
pub some-number : (o : Option Addr) → is_some o ≡ is_some (option_map number_of o)
some-number None = refl
some-number (Some a) = refl

-- a call that costs so much by the tree's size costs that by any greater one
by_most : (t u : Tree) (more most start now : ℕ) → size t + more ≤ most → Costs t u start now (30 * binary_digits (size t + more) + 30) → Costs t u start now (1 * (30 * binary_digits most + 30))
by_most t u more most start now few h = record {
  cost = let i = h.cost in let j = digits-rise (size t + more) most few in omega arith;
}

-- what did neither bring a holder nor take one
none-came : (n : ℕ) (made : Made) → came made ≡ 0 → went made ≡ 0 → n + went made ≡ n + came made
none-came n made e f = omega (arith, e, f)

module _ (rules : Rules) (ord new : DtOrd) (b b' : Blocks) (start now : ℕ) (xs : List ℕ) (s : OrdFor rules ord b xs) where
  pub link_made : (at : Addr) → OrdTurned rules (at.0 ∷ xs) b new b' (order_with rules b at.0 xs) → CallCosts ord b new b' 1 start now → IsMade rules (Link at) xs ord b new b' start now Linked
  link_made at h p = record {
    turned = h;
    count = let z = length-put (is_less rules b at.0) at.0 xs in omega (arith, z);
    found = refl;
    cost = λ t u most j k few least.
        let x = size-names t xs (names-holders rules ord b xs t s j) in
        let y = size-names u (order_with rules b at.0 xs) (names-holders rules new b' (order_with rules b at.0 xs) u h.stands k) in
        let z = length-put (is_less rules b at.0) at.0 xs in
        by_most t u 1 most start now (omega arith) (p.law t u j k);
  }

  pub take_made : (key : List ℕ) (taken : Bool) (made : Made) → taken ≡ is_some (find_key rules b key xs) → came made ≡ 0 → went made ≡ (if taken then 1 else 0) → found_by made ≡ 0 → OrdTurned rules xs b new b' (without_found (find_key rules b key xs) xs) → TakeCosts ord b new b' start now → IsMade rules (Take key) xs ord b new b' start now made
  take_made key taken made told c w f h p = record {
    turned = h;
    count =
        let z = length-found (has_key rules b key) xs (find_key rules b key xs) refl in
        let e = w ∙ ap (λ t. if t then 1 else 0) told in
        omega (arith, z, e, c);
    found = f;
    cost = λ t u most j k few least. record {
      cost = let i = (p.law t u j k).cost in let d = digits-rise (size t) most few in omega arith;
    };
  }

  pub find_made : (key : List ℕ) (o : Option Addr) (found : Bool) (made : Made) → found ≡ is_some o → option_map number_of o ≡ find_key rules b key xs → came made ≡ 0 → went made ≡ 0 → found_by made ≡ (if found then 1 else 0) → OrdTurned rules xs b new b' xs → CallCosts ord b new b' 0 start now → IsMade rules (Find key) xs ord b new b' start now made
  find_made key o found made e first c w f h p = record {
    turned = h;
    count = none-came (length xs) made c w;
    found = f ∙ ap (λ t. if t then 1 else 0) (e ∙ some-number o ∙ ap (λ z. is_some z) first);
    cost = λ t u most j k few least. by_most t u 0 most start now (omega arith) (p.law t u j k);
  }

  pub least_made : (key : List ℕ) (o : Option Addr) (found : Bool) (made : Made) → found ≡ is_some o → option_map number_of o ≡ find (stands_so NotLess rules b key) xs → came made ≡ 0 → went made ≡ 0 → found_by made ≡ (if found then 1 else 0) → OrdTurned rules xs b new b' xs → CallCosts ord b new b' 0 start now → IsMade rules (AtLeast key) xs ord b new b' start now made
  least_made key o found made e first c w f h p = record {
    turned = h;
    count = none-came (length xs) made c w;
    found = f ∙ ap (λ t. if t then 1 else 0) (e ∙ some-number o ∙ ap (λ z. is_some z) first);
    cost = λ t u most j k few least. by_most t u 0 most start now (omega arith) (p.law t u j k);
  }
