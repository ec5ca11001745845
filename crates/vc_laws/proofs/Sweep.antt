-- What the sweep over runs by their first bytes finds: the runs between them.
use Rattle.std.proofs.Common.{◌≡◌, ℕ, ◌<◌, ◌≤◌, ◌⊎◌, List, [], ◌∷◌, true, false, cond, ltb, refl, sym, ap, ◌∙◌, inl, inr, ⊎_elim, arith}
use Rattle.std.proofs.lemmas.Bool.{ltb-true, lt-ltb}
use Rattle.vc_model.specs.Gap.{Run, run_of, gaps_between}
use Rattle.vc_model.specs.Sound.{IsApart}
use Rattle.vc_laws.proofs.Members.{Member, Pairwise, Member-append_cases, Member-append_left, Member-append_right, Pairwise-append}

-- these runs stand one behind the other from lo to hi, and each has a byte
abbrev pub Fits : ℕ → ℕ → List Run → Type 0
Fits lo hi [] = Unit {0}
Fits lo hi (f ∷ fs) = (lo ≤ f.from) × (f.from < f.to) × (f.to ≤ hi) × Fits f.to hi fs

-- a run lies between lo and hi and has a byte
pub record Within (lo hi : ℕ) (f : Run) : Type 0 where
  pub low : lo ≤ f.from
  pub some : f.from < f.to
  pub high : f.to ≤ hi

-- two runs of one segment have no byte in common
abbrev pub Beside : Run → Run → Type 0
Beside f g = (f.to ≤ g.from) ⊎ (g.to ≤ f.from)

-- a run begins at lo or where one of these ends
abbrev pub StartsBehind : ℕ → List Run → Run → Type 0
StartsBehind lo fs g = (g.from ≡ lo) ⊎ ((f : Run) × Member f fs × (f.to ≡ g.from))

-- a run ends at hi or where one of these begins
abbrev pub EndsAt : ℕ → List Run → Run → Type 0
EndsAt hi fs g = (g.to ≡ hi) ⊎ ((f : Run) × Member f fs × (f.from ≡ g.to))

-- a run between lo and hi, beside each of these, that reaches from one of them to the next
pub record Between (seg lo hi : ℕ) (fs : List Run) (g : Run) : Type 0 where
  pub seg_is : g.seg ≡ seg
  pub within : Within lo hi g
  pub clear : (f : Run) → Member f fs → Beside f g
  pub starts : StartsBehind lo fs g
  pub ends : EndsAt hi fs g

-- a run by its parts
pub record IsRun (seg from to : ℕ) (g : Run) : Type 0 where
  pub seg_is : g.seg ≡ seg
  pub from_is : g.from ≡ from
  pub to_is : g.to ≡ to
  pub some : from < to

run_eq : (a b c : ℕ) (g : Run) → g.seg ≡ a → g.from ≡ b → g.to ≡ c → g ≡ record { seg = a; from = b; to = c }
run_eq a b c g p q r = λ i. record { seg = p i; from = q i; to = r i }

run_of-member : (seg from to : ℕ) (g : Run) → Member g (run_of seg from to) → IsRun seg from to g
run_of-member seg from to g =
    elim (ltb from to) as (λ t. (ltb from to ≡ t) → Member g (cond t (record { seg = seg; from = from; to = to } ∷ []) []) → IsRun seg from to g) [
      | true ↦ λ test m. ⊎_elim (λ e. record { seg_is = ap (λ (r : Run). r.seg) e; from_is = ap (λ (r : Run). r.from) e; to_is = ap (λ (r : Run). r.to) e; some = ltb-true from to test }) (λ u. absurd u) m
      | false ↦ λ test m. absurd m
    ] refl

member-run_of : (seg from to : ℕ) (g : Run) → IsRun seg from to g → Member g (run_of seg from to)
member-run_of seg from to g is =
    let test : ltb from to ≡ true = lt-ltb from to is.some in
    rw test (inl (run_eq seg from to g is.seg_is is.from_is is.to_is))

-- each of the runs lies between lo and hi
pub Within-from_fits : (lo hi : ℕ) (fs : List Run) (f : Run) → Fits lo hi fs → Member f fs → Within lo hi f
Within-from_fits lo hi [] f fits m = absurd m
Within-from_fits lo hi (g ∷ gs) f fits (inl e) =
    let from_is = ap (λ (r : Run). r.from) e in
    let to_is = ap (λ (r : Run). r.to) e in
    record { low = omega (arith, fits.0, from_is); some = omega (arith, fits.1, from_is, to_is); high = omega (arith, fits.2, to_is) }
Within-from_fits lo hi (g ∷ gs) f fits (inr m) =
    let later = Within-from_fits g.to hi gs f fits.3 m in
    record { low = omega (arith, fits.0, fits.1, later.low); some = later.some; high = later.high }

-- the run before the first of the runs
module _ (seg lo hi : ℕ) (f : Run) (fs : List Run) (fits : Fits lo hi (f ∷ fs)) (g : Run) where
  clear-first : IsRun seg lo f.from g → (h : Run) → Member h (f ∷ fs) → Beside h g
  clear-first is h (inl e) = let from_is = ap (λ (r : Run). r.from) e in inr (omega (arith, is.to_is, from_is))
  clear-first is h (inr m) = let behind = Within-from_fits f.to hi fs h fits.3 m in inr (omega (arith, is.to_is, behind.low, fits.1))

  Between-first : IsRun seg lo f.from g → Between seg lo hi (f ∷ fs) g
  Between-first is = record {
    seg_is = is.seg_is;
    within = record { low = omega (arith, is.from_is); some = omega (arith, is.from_is, is.to_is, is.some); high = omega (arith, is.to_is, fits.1, fits.2) };
    clear = clear-first is;
    starts = inl is.from_is;
    ends = inr (f, inl refl, sym is.to_is);
  }

  clear-later : Between seg f.to hi fs g → (h : Run) → Member h (f ∷ fs) → Beside h g
  clear-later b h (inl e) = let to_is = ap (λ (r : Run). r.to) e in inl (omega (arith, to_is, b.within.low))
  clear-later b h (inr m) = b.clear h m

  starts-later : StartsBehind f.to fs g → StartsBehind lo (f ∷ fs) g
  starts-later (inl e) = inr (f, inl refl, sym e)
  starts-later (inr u) = inr (u.0, inr u.1, u.2)

  ends-later : EndsAt hi fs g → EndsAt hi (f ∷ fs) g
  ends-later (inl e) = inl e
  ends-later (inr u) = inr (u.0, inr u.1, u.2)

  Between-later : Between seg f.to hi fs g → Between seg lo hi (f ∷ fs) g
  Between-later b = record {
    seg_is = b.seg_is;
    within = record { low = omega (arith, fits.0, fits.1, b.within.low); some = b.within.some; high = b.within.high };
    clear = clear-later b;
    starts = starts-later b.starts;
    ends = ends-later b.ends;
  }

  -- and back
  starts-first : Within lo hi g → g.to ≤ f.from → StartsBehind lo (f ∷ fs) g → g.from ≡ lo
  starts-first w before (inl e) = e
  starts-first w before (inr (h, inl e, meets)) = let to_is = ap (λ (r : Run). r.to) e in absurd (omega (arith, w.some, before, meets, to_is, fits.1))
  starts-first w before (inr (h, inr m, meets)) = let behind = Within-from_fits f.to hi fs h fits.3 m in absurd (omega (arith, w.some, before, meets, behind.low, behind.some, fits.1))

  ends-first : Within lo hi g → g.to ≤ f.from → EndsAt hi (f ∷ fs) g → g.to ≡ f.from
  ends-first w before (inl e) = absurd (omega (arith, before, e, fits.1, fits.2))
  ends-first w before (inr (h, inl e, meets)) = let from_is = ap (λ (r : Run). r.from) e in omega (arith, from_is, meets)
  ends-first w before (inr (h, inr m, meets)) = let behind = Within-from_fits f.to hi fs h fits.3 m in absurd (omega (arith, before, meets, behind.low, fits.1))

  starts-rest : Within lo hi g → f.to ≤ g.from → StartsBehind lo (f ∷ fs) g → StartsBehind f.to fs g
  starts-rest w after (inl e) = absurd (omega (arith, after, e, fits.0, fits.1))
  starts-rest w after (inr (h, inl e, meets)) = let to_is = ap (λ (r : Run). r.to) e in inl (omega (arith, meets, to_is))
  starts-rest w after (inr (h, inr m, meets)) = inr (h, m, meets)

  ends-rest : Within lo hi g → f.to ≤ g.from → EndsAt hi (f ∷ fs) g → EndsAt hi fs g
  ends-rest w after (inl e) = inl e
  ends-rest w after (inr (h, inl e, meets)) = let from_is = ap (λ (r : Run). r.from) e in absurd (omega (arith, w.some, after, meets, from_is, fits.1))
  ends-rest w after (inr (h, inr m, meets)) = inr (h, m, meets)

  IsRun-first : Between seg lo hi (f ∷ fs) g → g.to ≤ f.from → IsRun seg lo f.from g
  IsRun-first b before =
      let from_is : g.from ≡ lo = starts-first b.within before b.starts in
      let to_is : g.to ≡ f.from = ends-first b.within before b.ends in
      record { seg_is = b.seg_is; from_is = from_is; to_is = to_is; some = omega (arith, b.within.some, from_is, to_is) }

  Between-rest : Between seg lo hi (f ∷ fs) g → f.to ≤ g.from → Between seg f.to hi fs g
  Between-rest b after = record {
    seg_is = b.seg_is;
    within = record { low = after; some = b.within.some; high = b.within.high };
    clear = λ h m. b.clear h (inr m);
    starts = starts-rest b.within after b.starts;
    ends = ends-rest b.within after b.ends;
  }

Between-alone : (seg lo hi : ℕ) (g : Run) → IsRun seg lo hi g → Between seg lo hi [] g
Between-alone seg lo hi g is = record {
  seg_is = is.seg_is;
  within = record { low = omega (arith, is.from_is); some = omega (arith, is.from_is, is.to_is, is.some); high = omega (arith, is.to_is) };
  clear = λ f m. absurd m;
  starts = inl is.from_is;
  ends = inl is.to_is;
}

starts-alone : (lo : ℕ) (g : Run) → StartsBehind lo [] g → g.from ≡ lo
starts-alone lo g (inl e) = e
starts-alone lo g (inr u) = absurd u.1

ends-alone : (hi : ℕ) (g : Run) → EndsAt hi [] g → g.to ≡ hi
ends-alone hi g (inl e) = e
ends-alone hi g (inr u) = absurd u.1

IsRun-alone : (seg lo hi : ℕ) (g : Run) → Between seg lo hi [] g → IsRun seg lo hi g
IsRun-alone seg lo hi g b =
    let from_is : g.from ≡ lo = starts-alone lo g b.starts in
    let to_is : g.to ≡ hi = ends-alone hi g b.ends in
    record { seg_is = b.seg_is; from_is = from_is; to_is = to_is; some = omega (arith, b.within.some, from_is, to_is) }

-- what the sweep finds lies between the runs
pub Between-from_sweep : (seg lo hi : ℕ) (fs : List Run) (g : Run) → Fits lo hi fs → Member g (gaps_between seg lo hi fs) → Between seg lo hi fs g
Between-from_sweep seg lo hi [] g fits m = Between-alone seg lo hi g (run_of-member seg lo hi g m)
Between-from_sweep seg lo hi (f ∷ fs) g fits m =
    ⊎_elim
    (λ u. Between-first seg lo hi f fs fits g (run_of-member seg lo f.from g u))
    (λ u. Between-later seg lo hi f fs fits g (Between-from_sweep seg f.to hi fs g fits.3 u))
    (Member-append_cases (run_of seg lo f.from) (gaps_between seg f.to hi fs) g m)

-- and what lies between them is found
pub sweep-from_Between : (seg lo hi : ℕ) (fs : List Run) (g : Run) → Fits lo hi fs → Between seg lo hi fs g → Member g (gaps_between seg lo hi fs)
sweep-from_Between seg lo hi [] g fits b = member-run_of seg lo hi g (IsRun-alone seg lo hi g b)
sweep-from_Between seg lo hi (f ∷ fs) g fits b =
    ⊎_elim
    (λ after. Member-append_right (run_of seg lo f.from) (gaps_between seg f.to hi fs) g (sweep-from_Between seg f.to hi fs g fits.3 (Between-rest seg lo hi f fs fits g b after)))
    (λ before. Member-append_left (run_of seg lo f.from) (gaps_between seg f.to hi fs) g (member-run_of seg lo f.from g (IsRun-first seg lo hi f fs fits g b before)))
    (b.clear f (inl refl))

alone-apart : (seg from to : ℕ) → Pairwise IsApart (run_of seg from to)
alone-apart seg from to = elim (ltb from to) as (λ t. Pairwise IsApart (cond t (record { seg = seg; from = from; to = to } ∷ []) [])) [ true ↦ ((λ y m. absurd m), tt) | false ↦ tt ]

-- and each is found once: no two have a byte in common
pub sweep-apart : (seg lo hi : ℕ) (fs : List Run) → Fits lo hi fs → Pairwise IsApart (gaps_between seg lo hi fs)
sweep-apart seg lo hi [] fits = alone-apart seg lo hi
sweep-apart seg lo hi (f ∷ fs) fits =
    Pairwise-append IsApart (run_of seg lo f.from) (gaps_between seg f.to hi fs) (alone-apart seg lo f.from) (sweep-apart seg f.to hi fs fits.3)
    (λ g h one two.
    let first = run_of-member seg lo f.from g one in
    let later = Between-from_sweep seg f.to hi fs h fits.3 two in
    inl (inr (first.seg_is ∙ sym later.seg_is, omega (arith, first.to_is, fits.1, later.within.low))))
