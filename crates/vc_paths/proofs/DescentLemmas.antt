-- Walks down a path that look for the first layer that shows something, or for the last one.
use Rattle.vc_base.proofs.Common.{◌≡◌, ℕ, true, false, List, is_some, Some, None, Option, option_map, flat_map, sym, refl, ap, ◌∙◌, true≢false, option_or}
use Rattle.vc_dtdisc.specs.Finding.{first_of, last_from, last_of}
use Rattle.vc_paths.specs.Links.{ArePaths, Links, below, is_link_to}
use Rattle.vc_paths.specs.Shown.{above, down}
use Rattle.vc_paths.proofs.DownLemmas.{above-on, above-stop, down-none, down-on}
use Rattle.vc_paths.proofs.EndLemmas.{first-append, last-append, last-or}

or-some : {A : Type 0} (r o : Option A) → is_some r ≡ true → option_or r o ≡ r
or-some None o h = absurd (true≢false (sym h))
or-some (Some x) o h = refl

or-none : {A : Type 0} (r o : Option A) → is_some r ≡ false → option_or r o ≡ o
or-none None o h = refl
or-none (Some x) o h = absurd (true≢false h)

pub or-mapped : {A B : Type 0} (f : A → B) (r o : Option A) → option_map f (option_or r o) ≡ option_or (option_map f r) (option_map f o)
or-mapped f None o = refl
or-mapped f (Some x) o = refl

module _ {A : Type 0} (shows : ℕ → List A) {links : Links} (p : ArePaths links) where
  first-step : {at : Option ℕ} {e : ℕ} {next : Option ℕ} {r : Option A} → at ≡ Some e → next ≡ below links e → r ≡ first_of (shows e)
      → first_of (flat_map shows (down links at)) ≡ option_or r (first_of (flat_map shows (down links next)))
  first-step {at} {e} {next} {r} is on found =
      ap (λ z. first_of (flat_map shows z)) (down-on p is on)
      ∙ first-append (shows e) (flat_map shows (down links next))
      ∙ ap (λ z. option_or z (first_of (flat_map shows (down links next)))) (sym found)

  -- a layer that shows something, and one that shows nothing
  pub below-found : {at : Option ℕ} {e : ℕ} {r : Option A} → at ≡ Some e → r ≡ first_of (shows e) → is_some r ≡ true → r ≡ first_of (flat_map shows (down links at))
  below-found {at} {e} {r} is found h = sym (first-step is refl found ∙ or-some r (first_of (flat_map shows (down links (below links e)))) h)

  pub below-past : {at : Option ℕ} {e : ℕ} {next : Option ℕ} {r : Option A} → at ≡ Some e → next ≡ below links e → r ≡ first_of (shows e) → is_some r ≡ false
      → first_of (flat_map shows (down links at)) ≡ first_of (flat_map shows (down links next))
  below-past {at} {e} {next} {r} is on found h = first-step is on found ∙ or-none r (first_of (flat_map shows (down links next))) h

  pub below-end : {at : Option ℕ} → at ≡ None → None ≡ first_of (flat_map shows (down links at))
  below-end is = sym (ap (λ z. first_of (flat_map shows z)) (ap (down links) is ∙ down-none links))

  -- the last so far, at the end and before it
  pub above-end : (end : Option ℕ) {at : Option ℕ} (best : Option A) → at ≡ None → last_from best (flat_map shows (above end (down links at))) ≡ best
  above-end end best is = ap (λ z. last_from best (flat_map shows (above end z))) (ap (down links) is ∙ down-none links)

  pub above-last : (end : Option ℕ) {at : Option ℕ} {e : ℕ} (best : Option A) → at ≡ Some e → is_link_to e end ≡ true → last_from best (flat_map shows (above end (down links at))) ≡ best
  above-last end {at} {e} best is h =
      ap (λ z. last_from best (flat_map shows (above end z))) (down-on p is refl)
      ∙ ap (λ z. last_from best (flat_map shows z)) (above-stop end e (down links (below links e)) h)

  pub above-past : (end : Option ℕ) {at : Option ℕ} {e : ℕ} {next : Option ℕ} (best : Option A) {r : Option A} → at ≡ Some e → next ≡ below links e → is_link_to e end ≡ false → r ≡ last_of (shows e)
      → last_from best (flat_map shows (above end (down links at))) ≡ last_from (option_or r best) (flat_map shows (above end (down links next)))
  above-past end {at} {e} {next} best {r} is on h found =
      ap (λ z. last_from best (flat_map shows (above end z))) (down-on p is on)
      ∙ ap (λ z. last_from best (flat_map shows z)) (above-on end e (down links next) h)
      ∙ last-append best (shows e) (flat_map shows (above end (down links next)))
      ∙ ap (λ z. last_from z (flat_map shows (above end (down links next)))) (last-or best (shows e) ∙ ap (λ z. option_or z best) (sym found))
