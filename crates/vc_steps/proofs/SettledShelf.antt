-- From one settled shelf to the next, and over a run.
use Rattle.vc_base.proofs.Common.{◌≡◌, map, ℕ, zero, suc, ◌+◌, ◌-◌, ◌≤◌, Bool, false, cond, eqb, ◌≢◌, List, [], ◌++◌, set, ◌==◌, Some, count_by, Option, option_map, sym, refl, ap, ◌∙◌, subst, inl, inr, ⊎_elim, arith, cases_eq, sum_by-append, Rose, at_number}
use Rattle.vc_base.proofs.Lists.{slice_get-set}
use Rattle.vc_views.proofs.LinkLists.{map-set_same}
use Rattle.vc_steps.proofs.Cells.{slice_get-set_other, at_number-from_one, at_number-zero, at_number_some}
use Rattle.vc_model.specs.Count.{RoseBy}
use Rattle.vc_steps.specs.Account.{Account, CountsFaults, KeepsAccounts, faults_of, SameAsked, Settles, without_faults}

rose_by-trans : (m n a b c : ℕ) → RoseBy m a b → RoseBy n b c → RoseBy (m + n) a c
rose_by-trans m n a b c (inl p) (inl q) = inl (omega (arith, p, q))
rose_by-trans m n a b c (inl p) (inr q) = inr q
rose_by-trans m n a b c (inr p) (inl q) = inr (omega (arith, p, q))
rose_by-trans m n a b c (inr p) (inr q) = inr q

rose-by_one : (a b : ℕ) → Rose a b → RoseBy 1 a b
rose-by_one a b (inl more) = inl (omega (arith, more))
rose-by_one a b (inr last) = inr (omega (arith, last))

-- a count that stands
pub counts-none : {armed : Bool} (n : ℕ) → CountsFaults armed 0 n n
counts-none n = record { never_falls = omega arith; none = λ off e. refl; rose = inl (omega arith) }

pub counts-granted : {armed : Bool} (a b : ℕ) → a ≤ b → (armed ≡ false → b ≡ a) → CountsFaults armed 0 a b
counts-granted a b least same = record { never_falls = least; none = λ off e. same off; rose = inl (omega (arith, least)) }

-- one that rose
pub counts-one : {armed : Bool} (a b : ℕ) → a ≤ b → Rose a b → CountsFaults armed 1 a b
counts-one a b least rose = record { never_falls = least; none = λ off e. absurd (omega (arith, e)); rose = rose-by_one a b rose }

counts-trans : {armed : Bool} (m n a b c : ℕ) → CountsFaults armed m a b → CountsFaults armed n b c → CountsFaults armed (m + n) a c
counts-trans m n a b c p q =
    record {
      never_falls = omega (arith, p.never_falls, q.never_falls);
      none = λ off e. q.none off (omega (arith, e)) ∙ p.none off (omega (arith, e));
      rose = rose_by-trans m n a b c p.rose q.rose;
    }

-- nothing has changed
pub settles-same : {armed : Bool} (shelf : List (Option Account)) → Settles armed shelf shelf []
settles-same shelf = record { same = refl; faults = λ place. counts-none (faults_of (at_number shelf place)); asked = λ off. refl }

pub keeps-same : (shelf : List (Option Account)) → KeepsAccounts shelf shelf
keeps-same shelf = record { same = refl; faults = λ place. omega arith }

-- whatever was refused
pub keeps-settles : {armed : Bool} {before after : List (Option Account)} {refusals : List ℕ} → Settles armed before after refusals → KeepsAccounts before after
keeps-settles s = record { same = s.same; faults = λ place. (s.faults place).never_falls }

pub keeps-equal : (before after : List (Option Account)) → after ≡ before → KeepsAccounts before after
keeps-equal before after same = subst (KeepsAccounts before) (sym same) (keeps-same before)

pub keeps-trans : (a b c : List (Option Account)) → KeepsAccounts a b → KeepsAccounts b c → KeepsAccounts a c
keeps-trans a b c f g = record { same = g.same ∙ f.same; faults = λ place. omega (arith, f.faults place, g.faults place) }

pub settles-equal : {armed : Bool} (before after : List (Option Account)) → after ≡ before → Settles armed before after []
settles-equal {armed = armed} before after same = subst (λ s. Settles armed before s []) (sym same) (settles-same before)

-- as much holds where disciplines are armed as where they aren't
pub settles-armed : {before after : List (Option Account)} {refusals : List ℕ} (armed : Bool) → Settles false before after refusals → Settles armed before after refusals
settles-armed armed s = record {
  same = s.same;
  faults = λ place. let f = s.faults place in record { never_falls = f.never_falls; none = λ off. f.none refl; rose = f.rose };
  asked = λ off. s.asked refl;
}

pub asked-equal : (before after : List (Option Account)) → after ≡ before → SameAsked before after
asked-equal before after same = ap (map (option_map (λ (a : Account). a.asked))) same

pub settles-trans : {armed : Bool} (a b c : List (Option Account)) (ps qs : List ℕ) → Settles armed a b ps → Settles armed b c qs → Settles armed a c (ps ++ qs)
settles-trans {armed = armed} a b c ps qs f g = record {
  same = g.same ∙ f.same;
  faults = λ place.
      subst (λ n. CountsFaults armed n (faults_of (at_number a place)) (faults_of (at_number c place))) (sym (sum_by-append (λ p. cond (eqb p place) 1 0) ps qs))
      (counts-trans _ _ _ _ _ (f.faults place) (g.faults place));
  asked = λ off. g.asked off ∙ f.asked off;
}

-- the refusals at one place, which has n of them
pub record OnlyAt (place n : ℕ) (refusals : List ℕ) : Type 0 where
  pub here : count_by (λ p. p == place) refusals ≡ n
  pub elsewhere : (q : ℕ) → q ≢ place → count_by (λ p. p == q) refusals ≡ 0

module _ {armed : Bool} (shelf : List (Option Account)) (place n : ℕ) (a b : Account) (refusals : List ℕ) (at : at_number shelf place ≡ Some (Some a)) (same : without_faults b ≡ without_faults a) (asked : armed ≡ false → b.asked ≡ a.asked) (counts : CountsFaults armed n a.faults b.faults) (only : OnlyAt place n refusals) where
  after : List (Option Account)
  after = set shelf (place - 1) (Some b)

  at_place : at_number after place ≡ Some (Some b)
  unfolding after
  at_place =
      let found = at_number_some shelf place (Some a) at in
      at_number-from_one (set shelf (place - 1) (Some b)) place found.0
      ∙ slice_get-set shelf (place - 1) (Some a) (Some b) found.1

  counts_here : (q : ℕ) → q ≡ place → CountsFaults armed (count_by (λ p. p == q) refusals) (faults_of (at_number shelf q)) (faults_of (at_number after q))
  counts_here q e =
      subst (λ r. CountsFaults armed (count_by (λ p. p == r) refusals) (faults_of (at_number shelf r)) (faults_of (at_number after r))) (sym e)
      (subst (λ m. CountsFaults armed m (faults_of (at_number shelf place)) (faults_of (at_number after place))) (sym only.here)
      (subst (λ o. CountsFaults armed n (faults_of o) (faults_of (at_number after place))) (sym at)
      (subst (λ o. CountsFaults armed n a.faults (faults_of o)) (sym at_place) counts)))

  same_elsewhere : (q : ℕ) → q ≢ place → at_number after q ≡ at_number shelf q
  unfolding after
  same_elsewhere zero other = at_number-zero (set shelf (place - 1) (Some b)) 0 refl ∙ sym (at_number-zero shelf 0 refl)
  same_elsewhere (suc j) other =
      let low : 1 ≤ suc j = omega arith in
      let first : 1 ≤ place = (at_number_some shelf place (Some a) at).0 in
      at_number-from_one (set shelf (place - 1) (Some b)) (suc j) low
      ∙ (slice_get-set_other shelf (place - 1) (suc j - 1) (Some b) (λ e. other (omega (arith, e, low, first)))
      ∙ sym (at_number-from_one shelf (suc j) low))

  counts_elsewhere : (q : ℕ) → q ≢ place → CountsFaults armed (count_by (λ p. p == q) refusals) (faults_of (at_number shelf q)) (faults_of (at_number after q))
  counts_elsewhere q other =
      subst (λ m. CountsFaults armed m (faults_of (at_number shelf q)) (faults_of (at_number after q))) (sym (only.elsewhere q other))
      (subst (λ o. CountsFaults armed 0 (faults_of (at_number shelf q)) (faults_of o)) (sym (same_elsewhere q other)) (counts-none (faults_of (at_number shelf q))))

  -- one place's discipline has changed, but for its faults it is the same
  pub settles-set : Settles armed shelf (set shelf (place - 1) (Some b)) refusals
  unfolding after
  settles-set = record {
    same = map-set_same (option_map without_faults) shelf (place - 1) (Some a) (Some b) (at_number_some shelf place (Some a) at).1 (ap Some same);
    faults = λ q. ⊎_elim (counts_here q) (counts_elsewhere q) (cases_eq q place);
    asked = λ off. map-set_same (option_map (λ (a : Account). a.asked)) shelf (place - 1) (Some a) (Some b) (at_number_some shelf place (Some a) at).1 (ap Some (asked off));
  }
