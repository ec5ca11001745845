-- Links with another link of a dictionary, and that no path is too long then.
use Rattle.vc_base.proofs.Common.{◌≡◌, ℕ, zero, suc, ◌+◌, ◌<◌, ◌≤◌, Bool, true, false, ◌≢◌, ◌⊎◌, List, [], ◌∷◌, length, replicate, nat_lt, slice_get, slice_set, Some, None, Option, sym, refl, ap, ◌∙◌, subst, inl, inr, le_trans, arith, length-set, eqb_tells, or_parts, or_right, length-replicate, none-some, list_any}
use Rattle.std.proofs.lemmas.Bool.Decides.{leb_tells}
use Rattle.std.proofs.lemmas.Option.{slice_get_past}
use Rattle.vc_paths.specs.Links.{ArePaths, Links, are_too_long, below, is_too_long, link_at, links_with, no_links, numbers, numbers_from, onward, path_limit, path_of}
use Rattle.vc_paths.proofs.PathLemmas.{not_less}

get-set_same : (xs : Links) (i : ℕ) (y : Option ℕ) → i < length xs → slice_get (slice_set xs i y) i ≡ Some y
get-set_same [] i y h = absurd (omega arith)
get-set_same (x ∷ xs) zero y h = refl
get-set_same (x ∷ xs) (suc i) y h = get-set_same xs i y (omega (arith, h))

get-set_other : (xs : Links) (i j : ℕ) (y : Option ℕ) → j ≢ i → slice_get (slice_set xs i y) j ≡ slice_get xs j
get-set_other [] i j y ne = refl
get-set_other (x ∷ xs) zero zero y ne = absurd (ne refl)
get-set_other (x ∷ xs) zero (suc j) y ne = refl
get-set_other (x ∷ xs) (suc i) zero y ne = refl
get-set_other (x ∷ xs) (suc i) (suc j) y ne = get-set_other xs i j y (λ e. ne (ap suc e))

-- what a dictionary views, with its own link another or with another one's
pub below-linked : (links : Links) (d : ℕ) (o : Option ℕ) → d < length links → below (links_with d o links) d ≡ o
below-linked links d o h = ap link_at (get-set_same links d o h)

pub below-other : (links : Links) (d x : ℕ) (o : Option ℕ) → x ≢ d → below (links_with d o links) x ≡ below links x
below-other links d x o ne = ap link_at (get-set_other links d x o ne)

-- past the numbers nothing is viewed
pub below-past : (links : Links) (x : ℕ) → length links ≤ x → below links x ≡ None
below-past links x h = ap link_at (slice_get_past links x h)

-- a path of one dictionary
pub none-short : (links : Links) (x : ℕ) → below links x ≡ None → is_too_long links x ≡ false
none-short links x e = rw e refl

below-no_links : (n x : ℕ) → below (replicate n None) x ≡ None
below-no_links zero x = refl
below-no_links (suc n) zero = refl
below-no_links (suc n) (suc x) = below-no_links n x

-- a test of an order that fails
not_above : (a b : ℕ) → b ≤ a → nat_lt a b ≡ false
not_above a b h = grind (arith, leb_tells)

within-or-past : (x : ℕ) → (numbers ≤ x) ⊎ (x < numbers)
within-or-past x = elim (leb_tells numbers x) as (λ _. (numbers ≤ x) ⊎ (x < numbers)) [
  | inl past ↦ inl past.1
  | inr within ↦ inr within.1
]

-- a path is no longer than it may be where so many are counted
short : (links : Links) (x : ℕ) → length (path_of (suc path_limit) links x) ≤ path_limit → is_too_long links x ≡ false
short links x h = not_above path_limit (length (path_of (suc path_limit) links x)) h

long : (links : Links) (x : ℕ) → is_too_long links x ≡ false → length (path_of (suc path_limit) links x) ≤ path_limit
long links x h = not_less path_limit (length (path_of (suc path_limit) links x)) h

-- no links
pub ArePaths-none : ArePaths no_links
ArePaths-none = record {
  all = length-replicate {A = Option ℕ} numbers None;
  within = λ d e h. absurd (none-some e (sym (below-no_links numbers d) ∙ h));
  short = λ d. none-short no_links d (below-no_links numbers d);
}

-- without the link of one, no path is longer
onward-less : (f g : ℕ → List ℕ) (o : Option ℕ) → ((e : ℕ) → length (f e) ≤ length (g e)) → length (onward f o) ≤ length (onward g o)
onward-less f g None each = omega arith
onward-less f g (Some e) each = each e

ended-shorter : (links : Links) (d n x : ℕ) → d < length links → length (path_of n (links_with d None links) x) ≤ length (path_of n links x)
ended-shorter links d zero x h = omega arith
ended-shorter links d (suc n) x h = elim (eqb_tells x d) as (λ _. length (path_of (suc n) (links_with d None links) x) ≤ length (path_of (suc n) links x)) [
  | inl same ↦ rw (ap (below (links_with d None links)) same.1 ∙ below-linked links d None h) (omega arith)
  | inr apart ↦
      let rest = onward-less (path_of n (links_with d None links)) (path_of n links) (below links x) (λ e. ended-shorter links d n e h) in
      rw (below-other links d x None apart.1) (omega (arith, rest))
]

within-ended : (links : Links) (d x e : ℕ) → ArePaths links → d < numbers → below (links_with d None links) x ≡ Some e → e < numbers
within-ended links d x e p h b = elim (eqb_tells x d) as (λ _. e < numbers) [
  | inl same ↦ absurd (none-some e (sym (ap (below (links_with d None links)) same.1 ∙ below-linked links d None (subst (λ z. d < z) (sym p.all) h)) ∙ b))
  | inr apart ↦ p.within x e (sym (below-other links d x None apart.1) ∙ b)
]

pub ArePaths-ended : (links : Links) (d : ℕ) → ArePaths links → d < numbers → ArePaths (links_with d None links)
ArePaths-ended links d p h = record {
  all = length-set links d None ∙ p.all;
  within = λ x e b. within-ended links d x e p h b;
  short = λ x. short (links_with d None links) x
      (le_trans (ended-shorter links d (suc path_limit) x (subst (λ z. d < z) (sym p.all) h)) (long links x (p.short x)));
}

-- a test over numbers one after another
any-none : (test : ℕ → Bool) (first more x : ℕ) → list_any test (numbers_from first more) ≡ false → first ≤ x → x < first + more → test x ≡ false
any-none test first zero x h l m = absurd (omega (arith, l, m))
any-none test first (suc more) x h l m = elim (eqb_tells first x) as (λ _. test x ≡ false) [
  | inl same ↦ subst (λ z. test z ≡ false) same.1 (or_parts (test first) (list_any test (numbers_from (suc first) more)) h).0
  | inr apart ↦
      any-none test (suc first) more x (or_parts (test first) (list_any test (numbers_from (suc first) more)) h).1 (omega (arith, apart.1, l)) (omega (arith, m))
]

pub none-any : (test : ℕ → Bool) (first more : ℕ) → ((x : ℕ) → first ≤ x → x < first + more → test x ≡ false) → list_any test (numbers_from first more) ≡ false
none-any test first zero h = refl
none-any test first (suc more) h =
    rw (h first (omega arith) (omega arith)) (none-any test (suc first) more (λ x l m. h x (omega (arith, l)) (omega (arith, m))))

pub some-any : (test : ℕ → Bool) (first more x : ℕ) → test x ≡ true → first ≤ x → x < first + more → list_any test (numbers_from first more) ≡ true
some-any test first zero x h l m = absurd (omega (arith, l, m))
some-any test first (suc more) x h l m = elim (eqb_tells first x) as (λ _. list_any test (numbers_from first (suc more)) ≡ true) [
  | inl same ↦ rw (ap test same.1 ∙ h) refl
  | inr apart ↦
      or_right (test first) (list_any test (numbers_from (suc first) more)) (some-any test (suc first) more x h (omega (arith, apart.1, l)) (omega (arith, m)))
]

-- with another link where no path is too long
pub within-viewed : (links : Links) (d e x y : ℕ) → ArePaths links → d < numbers → e < numbers → below (links_with d (Some e) links) x ≡ Some y → y < numbers
within-viewed links d e x y p h k b = elim (eqb_tells x d) as (λ _. y < numbers) [
  | inl same ↦
      let both : Some e ≡ Some y = sym (ap (below (links_with d (Some e) links)) same.1 ∙ below-linked links d (Some e) (subst (λ z. d < z) (sym p.all) h)) ∙ b in
      let one : e ≡ y = cc in
      subst (λ z. z < numbers) one k
  | inr apart ↦ p.within x y (sym (below-other links d x (Some e) apart.1) ∙ b)
]

short-viewed : (links : Links) (x : ℕ) → length links ≡ numbers → are_too_long links ≡ false → (numbers ≤ x) ⊎ (x < numbers) → is_too_long links x ≡ false
short-viewed links x all h (inl past) = none-short links x (below-past links x (subst (λ z. z ≤ x) (sym all) past))
short-viewed links x all h (inr within) = any-none (is_too_long links) 0 numbers x h (omega arith) within

pub ArePaths-viewed : (links : Links) (d e : ℕ) → ArePaths links → d < numbers → e < numbers → are_too_long (links_with d (Some e) links) ≡ false → ArePaths (links_with d (Some e) links)
ArePaths-viewed links d e p h k t =
    let all : length (links_with d (Some e) links) ≡ numbers = length-set links d (Some e) ∙ p.all in
    record {
      all = all;
      within = λ x y b. within-viewed links d e x y p h k b;
      short = λ x. short-viewed (links_with d (Some e) links) x all t (within-or-past x);
    }
