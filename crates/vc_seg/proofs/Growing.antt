-- What asking gives where a segment may be made longer.
use Rattle.vc_base.proofs.Common.{◌≡◌, ◌≢◌, ℕ, ◌+◌, ◌<◌, ◌≤◌, Bool, true, false, Some, leb, le-leb, leb-true, List, refl, sym, ap, ◌∙◌, ⊎_elim, arith, cases_Bool, Terms, Grant, Granted, TooMany, NotLent, ask, if◌then◌else◌}
use Rattle.vc_model.specs.Segments.{ask_by, ask_more, growing, size_limit}

-- a segment with so many bytes more
abbrev pub more_of : ℕ × ℕ → ℕ → Grant
more_of s bytes = record { number = s.0; bytes = bytes; fresh = false }

module _ (terms : Terms) (bytes : ℕ) (ss : List (ℕ × ℕ)) (s : ℕ × ℕ) (grows : growing terms ss ≡ Some s) where
  pub asked-more : (refused : Bool) → ask terms bytes ss refused ≡ ask_more bytes s refused
  asked-more refused = ap (λ o. ask_by o bytes ss refused) grows

  -- it would have too many bytes
  pub more-too_many : size_limit < s.1 + bytes → ask terms bytes ss false ≡ TooMany
  more-too_many above =
      ⊎_elim
      (λ (t : leb (s.1 + bytes) size_limit ≡ true). let low = leb-true (s.1 + bytes) size_limit t in absurd (omega (arith, low, above)))
      (λ (t : leb (s.1 + bytes) size_limit ≡ false). asked-more false ∙ rw t refl)
      (cases_Bool (leb (s.1 + bytes) size_limit))

  -- it may have them
  pub more-asked : s.1 + bytes ≤ size_limit → (refused : Bool) → ask terms bytes ss refused ≡ (if refused then NotLent else Granted (more_of s bytes))
  more-asked within refused = asked-more refused ∙ rw (le-leb (s.1 + bytes) size_limit within) refl

  pub more-may : s.1 + bytes ≤ size_limit → ask terms bytes ss false ≢ TooMany
  more-may within many = let other : Granted (more_of s bytes) ≡ TooMany = sym (more-asked within false) ∙ many in absurd (cc)
