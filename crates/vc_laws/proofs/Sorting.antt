-- The runs of one segment, by their first bytes, stand one behind the other.
use Rattle.std.proofs.Common.{◌≡◌, ℕ, ◌<◌, ◌≤◌, ◌⊎◌, List, [], ◌∷◌, true, false, cond, ltb, eqb, filter, refl, sym, ap, ◌∙◌, inl, inr, ⊎_elim, arith}
use Rattle.std.proofs.lemmas.Bool.{ltb-true, ltb-false}
use borrow.Author.Tests.{eqb-true, eqb-false}
use Rattle.vc_model.specs.Gap.{Run, runs_in}
use Rattle.vc_model.specs.Order.{put_by, sorted_by}
use Rattle.vc_model.specs.Sound.{IsApart}
use Rattle.vc_laws.proofs.Members.{Member, Pairwise}
use Rattle.vc_laws.proofs.Sweep.{Fits, Within, Beside}

-- by the first byte
abbrev first_of : Run → ℕ
first_of f = f.from

abbrev put : Run → List Run → List Run
put f fs = put_by (λ (r : Run). r.from) f fs

-- what is among the runs once one more is put there
put-member : (f : Run) (fs : List Run) (g : Run) → Member g (put f fs) → (g ≡ f) ⊎ Member g fs
put-member f [] g (inl e) = inl e
put-member f [] g (inr m) = absurd m
put-member f (h ∷ hs) g among =
    elim (ltb f.from h.from) as (λ t. Member g (cond t (f ∷ h ∷ hs) (h ∷ put f hs)) → (g ≡ f) ⊎ Member g (h ∷ hs)) [
      | true ↦ λ m. m
      | false ↦ λ m. ⊎_elim (λ e. inr (inl e)) (λ u. ⊎_elim (λ e. inl e) (λ v. inr (inr v)) (put-member f hs g u)) m
    ] among

member-put : (f : Run) (fs : List Run) (g : Run) → (g ≡ f) ⊎ Member g fs → Member g (put f fs)
member-put f [] g m = m
member-put f (h ∷ hs) g among =
    elim (ltb f.from h.from) as (λ t. (g ≡ f) ⊎ Member g (h ∷ hs) → Member g (cond t (f ∷ h ∷ hs) (h ∷ put f hs))) [
      | true ↦ λ m. m
      | false ↦ λ m. ⊎_elim (λ e. inr (member-put f hs g (inl e))) (λ u. ⊎_elim (λ e. inl e) (λ v. inr (member-put f hs g (inr v))) u) m
    ] among

-- what is among the runs of a segment
pub runs_in-member : (seg : ℕ) (fs : List Run) (g : Run) → Member g (runs_in seg fs) → Member g fs × (g.seg ≡ seg)
runs_in-member seg [] g m = absurd m
runs_in-member seg (f ∷ fs) g among =
    let later : Member g (runs_in seg fs) → Member g fs × (g.seg ≡ seg) = runs_in-member seg fs g in
    elim (eqb f.seg seg) as (λ t. (eqb f.seg seg ≡ t) → Member g (sorted_by (λ (r : Run). r.from) (cond t (f ∷ filter (λ (r : Run). eqb r.seg seg) fs) (filter (λ (r : Run). eqb r.seg seg) fs))) → Member g (f ∷ fs) × (g.seg ≡ seg)) [
      | true ↦ λ test m.
          ⊎_elim
          (λ e. (inl e, ap (λ (r : Run). r.seg) e ∙ eqb-true f.seg seg test))
          (λ u. (inr (later u).0, (later u).1))
          (put-member f (runs_in seg fs) g m)
      | false ↦ λ test m. (inr (later m).0, (later m).1)
    ] refl among

pub member-runs_in : (seg : ℕ) (fs : List Run) (g : Run) → Member g fs → g.seg ≡ seg → Member g (runs_in seg fs)
member-runs_in seg [] g m same = absurd m
member-runs_in seg (f ∷ fs) g m same =
    let later : Member g fs → Member g (runs_in seg fs) = λ u. member-runs_in seg fs g u same in
    elim (eqb f.seg seg) as (λ t. (eqb f.seg seg ≡ t) → Member g (f ∷ fs) → Member g (sorted_by (λ (r : Run). r.from) (cond t (f ∷ filter (λ (r : Run). eqb r.seg seg) fs) (filter (λ (r : Run). eqb r.seg seg) fs)))) [
      | true ↦ λ test u. member-put f (runs_in seg fs) g (⊎_elim (λ e. inl e) (λ v. inr (later v)) u)
      | false ↦ λ test u. ⊎_elim (λ e. absurd (eqb-false f.seg seg test (ap (λ (r : Run). r.seg) (sym e) ∙ same))) (λ v. later v) u
    ] refl m

Beside-lower : (f g : Run) → Beside f g → f.from < g.from → g.from < g.to → f.to ≤ g.from
Beside-lower f g (inl u) less some = u
Beside-lower f g (inr u) less some = absurd (omega (arith, u, less, some))

Beside-upper : (f g : Run) → Beside f g → g.from ≤ f.from → f.from < f.to → g.to ≤ f.from
Beside-upper f g (inl u) more some = absurd (omega (arith, u, more, some))
Beside-upper f g (inr u) more some = u

-- one more run that is beside each
fits-put : (lo hi : ℕ) (f : Run) (fs : List Run) → Within lo hi f → ((g : Run) → Member g fs → Beside f g) → Fits lo hi fs → Fits lo hi (put f fs)
fits-put lo hi f [] w beside fits = (w.low, w.some, w.high, tt)
fits-put lo hi f (g ∷ gs) w beside fits =
    let later : g.to ≤ f.from → Fits g.to hi (put f gs) =
    λ above. fits-put g.to hi f gs (record { low = above; some = w.some; high = w.high }) (λ h m. beside h (inr m)) fits.3 in
    elim (ltb f.from g.from) as (λ t. (ltb f.from g.from ≡ t) → Fits lo hi (cond t (f ∷ g ∷ gs) (g ∷ put f gs))) [
      | true ↦ λ test. (w.low, w.some, w.high, (Beside-lower f g (beside g (inl refl)) (ltb-true f.from g.from test) fits.1, fits.1, fits.2, fits.3))
      | false ↦ λ test. (fits.0, fits.1, fits.2, later (Beside-upper f g (beside g (inl refl)) (ltb-false f.from g.from test) w.some))
    ] refl

-- runs of one segment that are apart are beside each other
Beside-from_apart : (f g : Run) → IsApart f g → f.seg ≡ g.seg → Beside f g
Beside-from_apart f g (inl (inl less)) same = absurd (omega (arith, less, same))
Beside-from_apart f g (inl (inr u)) same = inl u.1
Beside-from_apart f g (inr (inl less)) same = absurd (omega (arith, less, same))
Beside-from_apart f g (inr (inr u)) same = inr u.1

-- the runs of a segment stand one behind the other
pub Fits-runs_in : (seg lo hi : ℕ) (fs : List Run) → ((f : Run) → Member f fs → f.seg ≡ seg → Within lo hi f) → Pairwise IsApart fs → Fits lo hi (runs_in seg fs)
Fits-runs_in seg lo hi [] within apart = tt
Fits-runs_in seg lo hi (f ∷ fs) within apart =
    let later : Fits lo hi (runs_in seg fs) = Fits-runs_in seg lo hi fs (λ g m same. within g (inr m) same) apart.1 in
    elim (eqb f.seg seg) as (λ t. (eqb f.seg seg ≡ t) → Fits lo hi (sorted_by (λ (r : Run). r.from) (cond t (f ∷ filter (λ (r : Run). eqb r.seg seg) fs) (filter (λ (r : Run). eqb r.seg seg) fs)))) [
      | true ↦ λ test.
          let here : f.seg ≡ seg = eqb-true f.seg seg test in
          fits-put lo hi f (runs_in seg fs) (within f (inl refl) here)
          (λ g m. let of = runs_in-member seg fs g m in Beside-from_apart f g (apart.0 g of.0) (here ∙ sym of.1))
          later
      | false ↦ λ test. later
    ] refl
