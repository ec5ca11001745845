-- Segments that stay, get longer, or come.
use Rattle.vc_base.proofs.Common.{◌≡◌, ℕ, suc, ◌-◌, take, take-append-le, List, [], ◌∷◌, ◌++◌, Bool, true, false, cond, length, refl, sym, ap, ◌∙◌, subst, arith, Outcome, Done, Refused, Grant}
use Rattle.vc_model.specs.Segments.{segments_with, with_more}

-- segments, of which at most the newest got longer, and with more behind them
pub record Grown (old new : List (ℕ × ℕ)) : Type 0 where
  pub is : take (length old - 1) new ≡ take (length old - 1) old
  pub none : new ≡ [] → old ≡ []

pub grown-same : (old new : List (ℕ × ℕ)) → new ≡ old → Grown old new
grown-same old new e = record { is = ap (take (length old - 1)) e; none = λ f. sym e ∙ f }

more-front : (more : ℕ) (old : List (ℕ × ℕ)) → take (length old - 1) (with_more more old) ≡ take (length old - 1) old
more-front more [] = refl
more-front more (s ∷ []) = refl
more-front more (s ∷ t ∷ ss) =
    let one : length (s ∷ t ∷ ss) - 1 ≡ suc (length (t ∷ ss) - 1) = omega arith in
    ap (λ n. take n (s ∷ with_more more (t ∷ ss))) one
    ∙ (ap (λ xs. s ∷ xs) (more-front more (t ∷ ss)) ∙ ap (λ n. take n (s ∷ t ∷ ss)) (sym one))

-- where there are none then, there were none
none-front : (old : List (ℕ × ℕ)) (s : ℕ × ℕ) → old ++ s ∷ [] ≡ [] → old ≡ []
none-front [] s e = refl
none-front (t ∷ ts) s e = absurd (cc)

none-more : (more : ℕ) (old : List (ℕ × ℕ)) → with_more more old ≡ [] → old ≡ []
none-more more [] e = refl
none-more more (s ∷ []) e = absurd (cc)
none-more more (s ∷ t ∷ ss) e = absurd (cc)

-- with what is granted
pub grown-with : (g : Grant) (old : List (ℕ × ℕ)) → Grown old (segments_with g old)
grown-with g old = record { is = by g.fresh; none = none g.fresh }
  where
    none : (t : Bool) → cond t (old ++ (g.number, g.bytes) ∷ []) (with_more g.bytes old) ≡ [] → old ≡ []
    none true = none-front old (g.number, g.bytes)
    none false = none-more g.bytes old

    by : (t : Bool) → take (length old - 1) (cond t (old ++ (g.number, g.bytes) ∷ []) (with_more g.bytes old)) ≡ take (length old - 1) old
    by true = take-append-le (length old - 1) old ((g.number, g.bytes) ∷ []) (omega arith)
    by false = more-front g.bytes old

-- what a call answers that is done
abbrev pub OnDone : {A : Type 0} → (A → Type 0) → Outcome A → Type 0
OnDone P (Done answer) = P answer
OnDone P (Refused why) = Unit {0}

pub on-done : {A : Type 0} (P : A → Type 0) (o : Outcome A) (a : A) → OnDone P o → o ≡ Done a → P a
on-done P o a h e = subst (OnDone P) e h
