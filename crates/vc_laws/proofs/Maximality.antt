-- The runs that the sweep finds are the longest runs of free bytes.
use Rattle.std.proofs.Common.{◌≡◌, ◌≢◌, ℕ, ◌+◌, ◌-◌, ◌<◌, ◌≤◌, ◌⊎◌, List, [], AllPairs, ◌∷◌, Contains, refl, sym, ap, ◌∙◌, subst, inl, inr, ⊎_elim, arith}
use Rattle.std.proofs.lemmas.Bool.{cases_lt}
use Rattle.vc_model.specs.Gap.{Run, runs_in, gaps_in, gaps}
use Rattle.vc_model.specs.Sound.{IsApart, IsUsable}
use Rattle.vc_laws.specs.Maximal.{Covers, IsFreeByte, IsWholeGap, AreLawful}
use Rattle.vc_laws.proofs.Members.{Member, Pairwise, Some_of, All-at_member, All-from_members, Member-from_Contains, Contains-from_Member, Some_of-from_Any, Any-from_member, Pairwise-from_AllPairs, same_segment, Member-flat_map, flat_map-member, Pairwise-append, AllPairs-from_Pairwise}
use Rattle.vc_laws.proofs.Sweep.{Fits, Within, Beside, StartsBehind, EndsAt, Between, Between-from_sweep, sweep-from_Between, sweep-apart}
use Rattle.vc_laws.proofs.Sorting.{runs_in-member, member-runs_in, Fits-runs_in}

-- whether a run of that segment covers a byte, one way or the other
covers_or : (f : Run) (at : ℕ × ℕ) → f.seg ≡ at.0 → Covers f at ⊎ (¬ Covers f at)
covers_or f at same =
    ⊎_elim
    (λ below. inr (λ c. absurd (omega (arith, below, c.1))))
    (λ from. ⊎_elim (λ before. inl (same, from, before)) (λ behind. inr (λ c. absurd (omega (arith, behind, c.2)))) (cases_lt at.1 f.to))
    (cases_lt at.1 f.from)

-- whether one of the runs covers a byte
any_covers_or : (fs : List Run) (at : ℕ × ℕ) → ((f : Run) → Member f fs → f.seg ≡ at.0) → Some_of (λ f. Covers f at) fs ⊎ ((f : Run) → Member f fs → ¬ Covers f at)
any_covers_or [] at same = inr (λ f m. absurd m)
any_covers_or (g ∷ gs) at same =
    ⊎_elim
    (λ here. inl (g, inl refl, here))
    (λ not_here. ⊎_elim
    (λ later. inl (later.0, inr later.1, later.2))
    (λ none. inr (λ f m c. ⊎_elim (λ e. not_here (subst (λ h. Covers h at) e c)) (λ u. none f u c) m))
    (any_covers_or gs at (λ f m. same f (inr m))))
    (covers_or g at (same g (inl refl)))

-- a segment whose usable part has the byte at a place
abbrev UsableIn : ℕ × ℕ → ℕ × ℕ → Type 0
UsableIn at s = (at.0 ≡ s.0) × (16 ≤ at.1) × (at.1 + 16 < s.1)

-- runs of two segments
apart_by_segment : (g h : Run) → g.seg ≢ h.seg → IsApart g h
apart_by_segment g h other =
    ⊎_elim
    (λ less. inl (inl less))
    (λ more. ⊎_elim (λ less. inr (inl less)) (λ same. absurd (other (omega (arith, more, same)))) (cases_lt h.seg g.seg))
    (cases_lt g.seg h.seg)

module _ (segments : List (ℕ × ℕ)) (footprints : List Run) (lawful : AreLawful segments footprints) where
  own : Pairwise (λ (a b : ℕ × ℕ). a.0 ≢ b.0) segments
  own = Pairwise-from_AllPairs (λ (a b : ℕ × ℕ). a.0 ≢ b.0) segments lawful.numbered.distinct

  -- a byte that is free in the segment of a number is usable in it
  usable_here : (s : ℕ × ℕ) (off : ℕ) → Member s segments → IsFreeByte segments footprints (s.0, off) → UsableIn (s.0, off) s
  usable_here s off ms free =
      let found = Some_of-from_Any (UsableIn (s.0, off)) segments free.usable in
      let same : found.0 ≡ s = same_segment segments found.0 s own found.1 ms (sym found.2.0) in
      subst (λ t. UsableIn (s.0, off) t) same found.2

  -- a byte that no run of its segment covers is covered by none
  IsFree-from_runs : (s : ℕ × ℕ) (off : ℕ) → Member s segments → 16 ≤ off → off + 16 < s.1 → ((f : Run) → Member f (runs_in s.0 footprints) → ¬ Covers f (s.0, off)) → IsFreeByte segments footprints (s.0, off)
  IsFree-from_runs s off ms low high none = record {
    usable = Any-from_member (UsableIn (s.0, off)) segments s ms (refl, low, high);
    uncovered = All-from_members (λ f. ¬ Covers f (s.0, off)) footprints (λ f m c. none f (member-runs_in s.0 footprints f m c.0) c);
  }

  uncovered_at : (s : ℕ × ℕ) (off : ℕ) → IsFreeByte segments footprints (s.0, off) → (f : Run) → Member f (runs_in s.0 footprints) → ¬ Covers f (s.0, off)
  uncovered_at s off free f m = All-at_member (λ g. ¬ Covers g (s.0, off)) footprints f free.uncovered (runs_in-member s.0 footprints f m).0

  -- each run of a segment lies in its usable part
  within_part : (s : ℕ × ℕ) → Member s segments → (f : Run) → Member f footprints → f.seg ≡ s.0 → Within 16 (s.1 - 16) f
  within_part s ms f m same =
      let some : f.from < f.to = All-at_member (λ (g : Run). g.from < g.to) footprints f lawful.some m in
      let found = Some_of-from_Any (λ (t : ℕ × ℕ). (f.seg ≡ t.0) × (16 ≤ f.from) × (f.to + 16 ≤ t.1)) segments (All-at_member (IsUsable segments) footprints f lawful.usable m) in
      let one : found.0 ≡ s = same_segment segments found.0 s own found.1 ms (sym found.2.0 ∙ same) in
      let size : found.0.1 ≡ s.1 = ap (λ (t : ℕ × ℕ). t.1) one in
      let low : 16 ≤ f.from = found.2.1 in
      let high : f.to + 16 ≤ found.0.1 = found.2.2 in
      record { low = low; some = some; high = omega (arith, size, high) }

  runs_fit : (s : ℕ × ℕ) → Member s segments → Fits 16 (s.1 - 16) (runs_in s.0 footprints)
  runs_fit s ms = Fits-runs_in s.0 16 (s.1 - 16) footprints (within_part s ms) (Pairwise-from_AllPairs IsApart footprints lawful.apart)

  some_of_runs : (s : ℕ × ℕ) (f : Run) → Member f (runs_in s.0 footprints) → f.from < f.to
  some_of_runs s f m = All-at_member (λ (g : Run). g.from < g.to) footprints f lawful.some (runs_in-member s.0 footprints f m).0

  -- what lies between the runs of a segment is a gap
  module _ (s : ℕ × ℕ) (ms : Member s segments) (g : Run) (b : Between s.0 16 (s.1 - 16) (runs_in s.0 footprints) g) where
    covers_none : (off : ℕ) → g.from ≤ off → off < g.to → (f : Run) → Member f (runs_in s.0 footprints) → ¬ Covers f (s.0, off)
    covers_none off from before f m c = ⊎_elim (λ u. absurd (omega (arith, u, from, c.2))) (λ u. absurd (omega (arith, u, before, c.1))) (b.clear f m)

    free_bytes : (off : ℕ) → g.from ≤ off → off < g.to → IsFreeByte segments footprints (s.0, off)
    free_bytes off from before =
        let low : 16 ≤ g.from = b.within.low in
        let high : g.to ≤ s.1 - 16 = b.within.high in
        IsFree-from_runs s off ms (omega (arith, low, from)) (omega (arith, high, before)) (covers_none off from before)

    not_before : StartsBehind 16 (runs_in s.0 footprints) g → ¬ IsFreeByte segments footprints (s.0, g.from - 1)
    not_before (inl e) free = let here = usable_here s (g.from - 1) ms free in absurd (omega (arith, e, here.1))
    not_before (inr (f, m, meets)) free =
        let some : f.from < f.to = some_of_runs s f m in
        let same : f.seg ≡ s.0 = (runs_in-member s.0 footprints f m).1 in
        uncovered_at s (g.from - 1) free f m (same, omega (arith, some, meets), omega (arith, some, meets))

    not_behind : EndsAt (s.1 - 16) (runs_in s.0 footprints) g → ¬ IsFreeByte segments footprints (s.0, g.to)
    not_behind (inl e) free =
        let some : g.from < g.to = b.within.some in
        let here = usable_here s g.to ms free in
        absurd (omega (arith, e, some, here.2))
    not_behind (inr (f, m, meets)) free =
        let some : f.from < f.to = some_of_runs s f m in
        let same : f.seg ≡ s.0 = (runs_in-member s.0 footprints f m).1 in
        uncovered_at s g.to free f m (same, omega (arith, meets), omega (arith, some, meets))

    IsGap-from_Between : IsWholeGap segments footprints g
    IsGap-from_Between = record {
      some = b.within.some;
      free = λ off from before. subst (λ n. IsFreeByte segments footprints (n, off)) (sym b.seg_is) (free_bytes off from before);
      before = λ free. not_before b.starts (subst (λ n. IsFreeByte segments footprints (n, g.from - 1)) b.seg_is free);
      behind = λ free. not_behind b.ends (subst (λ n. IsFreeByte segments footprints (n, g.to)) b.seg_is free);
    }

  -- a gap lies between the runs of its segment
  module _ (g : Run) (gap : IsWholeGap segments footprints g) (s : ℕ × ℕ) (ms : Member s segments) (same : g.seg ≡ s.0) where
    free_in : (off : ℕ) → g.from ≤ off → off < g.to → IsFreeByte segments footprints (s.0, off)
    free_in off from before = subst (λ n. IsFreeByte segments footprints (n, off)) same (gap.free off from before)

    within_gap : Within 16 (s.1 - 16) g
    within_gap =
        let some : g.from < g.to = gap.some in
        let first = usable_here s g.from ms (free_in g.from (omega arith) some) in
        let last = usable_here s (g.to - 1) ms (free_in (g.to - 1) (omega (arith, some)) (omega (arith, some))) in
        record { low = first.1; some = some; high = omega (arith, some, last.2) }

    -- else both have the later of their first bytes
    beside_or : (f : Run) → Member f (runs_in s.0 footprints) → g.from < f.to → f.from < g.to → ⊥
    beside_or f m one two =
        let some : g.from < g.to = gap.some in
        let some_too : f.from < f.to = some_of_runs s f m in
        let here : f.seg ≡ s.0 = (runs_in-member s.0 footprints f m).1 in
        ⊎_elim
        (λ less. uncovered_at s f.from (free_in f.from (omega (arith, less)) two) f m (here, omega arith, some_too))
        (λ more. uncovered_at s g.from (free_in g.from (omega arith) some) f m (here, more, one))
        (cases_lt g.from f.from)

    clear_gap : (f : Run) → Member f (runs_in s.0 footprints) → Beside f g
    clear_gap f m =
        ⊎_elim
        (λ one. ⊎_elim (λ two. absurd (beside_or f m one two)) (λ after. inr after) (cases_lt f.from g.to))
        (λ before. inl before)
        (cases_lt g.from f.to)

    of_segment : (off : ℕ) (f : Run) → Member f (runs_in s.0 footprints) → f.seg ≡ s.0
    of_segment off f m = (runs_in-member s.0 footprints f m).1

    starts_by : (f : Run) → Member f (runs_in s.0 footprints) → Covers f (s.0, g.from - 1) → 16 < g.from → f.to ≡ g.from
    starts_by f m c more =
        let some : g.from < g.to = gap.some in
        let from : f.from ≤ g.from - 1 = c.1 in
        let to : g.from - 1 < f.to = c.2 in
        ⊎_elim (λ u. omega (arith, u, to, more)) (λ u. absurd (omega (arith, u, from, some))) (clear_gap f m)

    starts_gap : StartsBehind 16 (runs_in s.0 footprints) g
    starts_gap =
        let some : g.from < g.to = gap.some in
        let high : g.to ≤ s.1 - 16 = within_gap.high in
        let low : 16 ≤ g.from = within_gap.low in
        let not_free : ¬ IsFreeByte segments footprints (s.0, g.from - 1) = λ free. gap.before (subst (λ n. IsFreeByte segments footprints (n, g.from - 1)) (sym same) free) in
        ⊎_elim
        (λ more. ⊎_elim
        (λ found. inr (found.0, found.1, starts_by found.0 found.1 found.2 more))
        (λ none. absurd (not_free (IsFree-from_runs s (g.from - 1) ms (omega (arith, more)) (omega (arith, some, high, low)) none)))
        (any_covers_or (runs_in s.0 footprints) (s.0, g.from - 1) (of_segment (g.from - 1))))
        (λ less. inl (omega (arith, less, low)))
        (cases_lt 16 g.from)

    ends_by : (f : Run) → Member f (runs_in s.0 footprints) → Covers f (s.0, g.to) → f.from ≡ g.to
    ends_by f m c =
        let some : g.from < g.to = gap.some in
        let from : f.from ≤ g.to = c.1 in
        let to : g.to < f.to = c.2 in
        ⊎_elim (λ u. absurd (omega (arith, u, to, some))) (λ u. omega (arith, u, from)) (clear_gap f m)

    ends_gap : EndsAt (s.1 - 16) (runs_in s.0 footprints) g
    ends_gap =
        let some : g.from < g.to = gap.some in
        let high : g.to ≤ s.1 - 16 = within_gap.high in
        let low : 16 ≤ g.from = within_gap.low in
        let not_free : ¬ IsFreeByte segments footprints (s.0, g.to) = λ free. gap.behind (subst (λ n. IsFreeByte segments footprints (n, g.to)) (sym same) free) in
        ⊎_elim
        (λ less. ⊎_elim
        (λ found. inr (found.0, found.1, ends_by found.0 found.1 found.2))
        (λ none. absurd (not_free (IsFree-from_runs s g.to ms (omega (arith, low, some)) (omega (arith, less)) none)))
        (any_covers_or (runs_in s.0 footprints) (s.0, g.to) (of_segment g.to)))
        (λ more. inl (omega (arith, more, high)))
        (cases_lt g.to (s.1 - 16))

    Between-from_IsGap : Between s.0 16 (s.1 - 16) (runs_in s.0 footprints) g
    Between-from_IsGap = record { seg_is = same; within = within_gap; clear = clear_gap; starts = starts_gap; ends = ends_gap }

  pub IsGap-from_gaps : (g : Run) → Contains (gaps segments footprints) g → IsWholeGap segments footprints g
  IsGap-from_gaps g found =
      let at = Member-flat_map (gaps_in footprints) segments g (Member-from_Contains (gaps segments footprints) g found) in
      IsGap-from_Between at.0 at.1 g (Between-from_sweep at.0.0 16 (at.0.1 - 16) (runs_in at.0.0 footprints) g (runs_fit at.0 at.1) at.2)

  pub gaps-from_IsGap : (g : Run) → IsWholeGap segments footprints g → Contains (gaps segments footprints) g
  gaps-from_IsGap g gap =
      let first = gap.free g.from (omega arith) gap.some in
      let at = Some_of-from_Any (UsableIn (g.seg, g.from)) segments first.usable in
      Contains-from_Member (gaps segments footprints) g
      (flat_map-member (gaps_in footprints) segments g at.0 at.1
      (sweep-from_Between at.0.0 16 (at.0.1 - 16) (runs_in at.0.0 footprints) g (runs_fit at.0 at.1) (Between-from_IsGap g gap at.0 at.1 at.2.0)))

  seg_of_gap : (s : ℕ × ℕ) → Member s segments → (g : Run) → Member g (gaps_in footprints s) → g.seg ≡ s.0
  seg_of_gap s ms g m = (Between-from_sweep s.0 16 (s.1 - 16) (runs_in s.0 footprints) g (runs_fit s ms) m).seg_is

  -- those of some of the segments
  gaps_of-apart : (some : List (ℕ × ℕ)) → ((s : ℕ × ℕ) → Member s some → Member s segments) → Pairwise (λ (a b : ℕ × ℕ). a.0 ≢ b.0) some → Pairwise IsApart (gaps some footprints)
  gaps_of-apart [] among distinct = tt
  gaps_of-apart (s ∷ ss) among distinct =
      Pairwise-append IsApart (gaps_in footprints s) (gaps ss footprints)
      (sweep-apart s.0 16 (s.1 - 16) (runs_in s.0 footprints) (runs_fit s (among s (inl refl))))
      (gaps_of-apart ss (λ t m. among t (inr m)) distinct.1)
      (λ g h one two.
      let at = Member-flat_map (gaps_in footprints) ss h two in
      let here : g.seg ≡ s.0 = seg_of_gap s (among s (inl refl)) g one in
      let there : h.seg ≡ at.0.0 = seg_of_gap at.0 (among at.0 (inr at.1)) h at.2 in
      apart_by_segment g h (λ same. distinct.0 at.0 at.1 (sym here ∙ same ∙ there)))

  pub gaps-apart : AllPairs IsApart (gaps segments footprints)
  gaps-apart = AllPairs-from_Pairwise IsApart (gaps segments footprints) (gaps_of-apart segments (λ s m. m) own)
