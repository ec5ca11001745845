-- What is seen of what a range answers.
use Rattle.vc_base.proofs.Common.{◌≡◌, ℕ, Bool, true, false, cond, List, filter, Some, None, Option, IfOk, IfSome, Result, Ok, Err, refl, sym, ◌∙◌, inl, inr, true≢false, cases_Bool, list_any}
use Rattle.vc_base.specs.declared.addr.Addr.{Addr}
use Rattle.vc_dtdisc.specs.Finding.{behind_last, first_of}
use Rattle.vc_dtdisc.specs.Rules.{Rules}
use Rattle.vc_paths.specs.Layers.{AreLayers, Layered, Same}
use Rattle.vc_paths.specs.Links.{Links}
use Rattle.vc_paths.specs.Path.{Answers, IsPathBy, is_at, numbers_of, visible_of}
use Rattle.vc_paths.specs.Visible.{Seen}
use Rattle.vc_paths.proofs.EndLemmas.{any-filter}
use Rattle.vc_paths.proofs.SightLemmas.{visible-there}
use Rattle.vc_paths.proofs.StayLemmas.{standing-kept}
use Rattle.vc_algebra.specs.Algebra.{if_upto, is_over}
use Rattle.vc_algebra.specs.Runs.{IsRangeAt}
use Rattle.vc_algebra.proofs.ComeLemmas.{by-kept, is-head, seen-behind, seen-first, seen-on}
use Rattle.vc_algebra.proofs.RangeLemmas.{none-place}

-- what a range answers is seen
seen-filter : {A : Type 0} (t p : A → Bool) (xs : List A) → list_any t (filter p xs) ≡ true → list_any t xs ≡ true
seen-filter t p xs h = elim (cases_Bool (list_any t xs)) as (λ _. list_any t xs ≡ true) [
  | inl any ↦ any
  | inr none ↦ absurd (true≢false (sym h ∙ any-filter t p xs none))
]

pub first-seen : (r : Option (ℕ × Addr)) (p : Seen ℕ → Bool) (xs : List (Seen ℕ)) → Answers r (first_of (filter p xs)) → IfSome r (λ q. list_any (is_at (numbers_of q)) xs ≡ true)
first-seen None p xs a = tt
first-seen (Some q) p xs a = seen-filter (is_at (numbers_of q)) p xs (seen-first (Some q) (filter p xs) a)

cut : (q : ℕ × Addr) (x : Seen ℕ) (t : Bool) → Answers (Some q) (cond t None (Some x)) → Answers (Some q) (Some x)
cut q x true a = absurd (none-place (numbers_of q) (sym a))
cut q x false a = a

whole : (q : ℕ × Addr) (rules : Rules) (high : Option (List ℕ)) (o : Option (Seen ℕ)) → Answers (Some q) (if_upto rules high o) → Answers (Some q) o
whole q rules high None a = a
whole q rules high (Some x) a = cut q x (is_over rules high x) a

pub next-seen : (r : Option (ℕ × Addr)) (p : ℕ × ℕ) (rules : Rules) (high : Option (List ℕ)) (xs : List (Seen ℕ)) → Answers r (if_upto rules high (behind_last (is_at p) xs)) → IfSome r (λ q. list_any (is_at (numbers_of q)) xs ≡ true)
next-seen None p rules high xs a = tt
next-seen (Some q) p rules high xs a = seen-behind p (Some q) xs (whole q rules high (behind_last (is_at p) xs) a)

pub if-first : {E : Type 0} (r : Result (Option (ℕ × Addr)) E) (p : Seen ℕ → Bool) (xs : List (Seen ℕ)) → IfOk r (λ o. Answers o (first_of (filter p xs))) → IfOk r (λ o. IfSome o (λ q. list_any (is_at (numbers_of q)) xs ≡ true))
if-first (Ok o) p xs a = first-seen o p xs a
if-first (Err e) p xs a = a

-- from what is seen a range goes on
pub range-at : {old new : Layered} (links : Links) (d : ℕ) (r : Option (ℕ × Addr)) → AreLayers old → Same old new → IsPathBy true old links d → IfSome r (λ q. list_any (is_at (numbers_of q)) (visible_of old links d) ≡ true) → IsRangeAt new links d r
range-at {old} {new} links d r laws same p seen = record {
  path = by-kept d same p;
  seen = seen-on links d r same seen;
  stands = standing-kept d r same (is-head old d d r (visible_of old links d) (visible-there old links d laws p.path) refl seen).stands;
}
