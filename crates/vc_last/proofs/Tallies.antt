-- Tallies of gaps, taken on from where a scan stands, and the room for them.
use Rattle.vc_base.proofs.Common.{◌≡◌, ℕ, zero, suc, ◌+◌, ◌-◌, ◌*◌, ◌<◌, ◌≤◌, Bool, true, false, eqb, ltb, List, [], ◌∷◌, ◌++◌, map, length, get_or, drop, All, sum, filter, AllPairs, sym, refl, ap, ◌∙◌, subst, ⊎_elim, arith, ltb-true, lt-ltb, eqb-true, cases_Bool, All-append, All-cons, All-filter, All-head, All-map, All-nil, All-tail, filter_passes, AllPairs-filter, sum_by-append, sum_by-cons, length-map, map-append, Run, bytes_of, gaps, gaps_between, run_of, Block, Layout, footprint, footprints, put_by}
use Rattle.vc_model.specs.Gap.{runs_in}
use Rattle.vc_model.specs.Numbers.{gap_sizes}
use Rattle.vc_model.specs.Order.{sorted_by}
use Rattle.vc_model.proofs.Pairs.{AllPairs-head, AllPairs-tail}
use Rattle.vc_seg.specs.Segment.{AreSegments, Bytes, pair_of}
use Rattle.vc_seg.specs.Tally.{HasRoom, tally_of}
use Rattle.vc_seg.proofs.Lists.{AllPairs-map}
use Rattle.vc_seg.proofs.Segments.{only-one}
use Rattle.vc_last.specs.Allocation.{AreAllocated}
use Rattle.vc_last.specs.Gaps.{gaps_left, gaps_left_in}

-- the sizes of the gaps that runs leave of these segments
abbrev pub sizes_in : List Run → List Bytes → List ℕ
sizes_in runs segs = map bytes_of (gaps_left (map pair_of segs) runs)

pub sizes_in-next : (runs : List Run) (segs : List Bytes) (i : ℕ) (d : Bytes) → i < length segs →
    sizes_in runs (drop i segs) ≡ map bytes_of (gaps_left_in runs (pair_of (get_or segs i d))) ++ sizes_in runs (drop (suc i) segs)
sizes_in-next runs [] i d lt = absurd (omega arith)
sizes_in-next runs (b ∷ bs) zero d lt = map-append bytes_of (gaps_left_in runs (pair_of b)) (gaps_left (map pair_of bs) runs)
sizes_in-next runs (b ∷ bs) (suc i) d lt = sizes_in-next runs bs i d (omega arith)

sum-cons : (n : ℕ) (ns : List ℕ) → sum (n ∷ ns) ≡ n + sum ns
sum-cons n ns = sum_by-cons (λ (m : ℕ). m) n ns

sum-append : (ms ns : List ℕ) → sum (ms ++ ns) ≡ sum ms + sum ns
sum-append ms ns = sum_by-append (λ (m : ℕ). m) ms ns

-- there are no more sizes than bytes
length-le-sum : (ns : List ℕ) → All (λ n. 1 ≤ n) ns → length ns ≤ sum ns
length-le-sum [] h = omega arith
length-le-sum (n ∷ ns) h =
    let P : ℕ → Type 0 = λ m. 1 ≤ m in
    let some : 1 ≤ n = All-head P n ns h in
    omega (arith, sum-cons n ns, some, length-le-sum ns (All-tail P n ns h))

-- each gap has a byte
abbrev HasByte : Run → Type 0
HasByte g = g.from < g.to

run_of-some : (n from to : ℕ) → All HasByte (run_of n from to)
run_of-some n from to =
    ⊎_elim
    (λ (t : ltb from to ≡ true). rw t (All-cons HasByte (record { seg = n; from = from; to = to }) [] (ltb-true from to t) (All-nil HasByte)))
    (λ (t : ltb from to ≡ false). rw t (All-nil HasByte))
    (cases_Bool (ltb from to))

gaps_between-some : (n end from : ℕ) (fs : List Run) → All HasByte (gaps_between n from end fs)
gaps_between-some n end from [] = run_of-some n from end
gaps_between-some n end from (f ∷ fs) = All-append HasByte (run_of n from f.from) (gaps_between n f.to end fs) (run_of-some n from f.from) (gaps_between-some n end f.to fs)

gaps-some : (runs : List Run) (ss : List (ℕ × ℕ)) → All HasByte (gaps_left ss runs)
gaps-some runs [] = All-nil HasByte
gaps-some runs (s ∷ ss) = All-append HasByte (gaps_left_in runs s) (gaps_left ss runs) (gaps_between-some s.0 (s.1 - 16) 16 (filter (λ f. eqb f.seg s.0) runs)) (gaps-some runs ss)

gap_sizes-some : (runs : List Run) (ss : List (ℕ × ℕ)) → All (λ n. 1 ≤ n) (map bytes_of (gaps_left ss runs))
gap_sizes-some runs ss = All-map (λ (n : ℕ). 1 ≤ n) bytes_of (gaps_left ss runs) (λ k d lt. let some : (get_or (gaps_left ss runs) k d).from < (get_or (gaps_left ss runs) k d).to = gaps-some runs ss k d lt in omega (arith, some))

run_of-most : (n from to : ℕ) → sum (map bytes_of (run_of n from to)) ≤ to - from
run_of-most n from to = ⊎_elim (λ e. rw e (omega (arith, sum-cons (to - from) []))) (λ e. rw e (omega arith)) (cases_Bool (ltb from to))

-- a run of a segment, with bytes, that ends within an offset
record IsRunOf (end : ℕ) (f : Run) : Type 0 where
  first : 16 ≤ f.from
  order : f.from < f.to
  before : f.to ≤ end

-- one run ends before another begins
abbrev Ends : Run → Run → Type 0
Ends f g = f.to ≤ g.from

gaps_between-most : (n end from : ℕ) (fs : List Run) → All (IsRunOf end) fs → All (λ f. from ≤ f.from) fs → AllPairs Ends fs → from ≤ end → sum (map bytes_of (gaps_between n from end fs)) ≤ end - from
gaps_between-most n end from [] of behind pairs le = run_of-most n from end
gaps_between-most n end from (f ∷ fs) of behind pairs le =
    let here = All-head (IsRunOf end) f fs of in
    let low : from ≤ f.from = All-head (λ (r : Run). from ≤ r.from) f fs behind in
    let first = run_of-most n from f.from in
    let more = gaps_between-most n end f.to fs (All-tail (IsRunOf end) f fs of) (AllPairs-head Ends f fs pairs) (AllPairs-tail Ends f fs pairs) here.before in
    rw (map-append bytes_of (run_of n from f.from) (gaps_between n f.to end fs))
    (omega (arith, sum-append (map bytes_of (run_of n from f.from)) (map bytes_of (gaps_between n f.to end fs)), first, more, low, here.order, here.before))

module _ (r : Layout ℕ) (h : AreAllocated r) where
  -- a footprint lies in the segment of its number
  abbrev InOwn : ℕ × ℕ → Run → Type 0
  InOwn s f = (16 ≤ f.from) × (f.from < f.to) × (f.seg ≡ s.0 → f.to + 16 ≤ s.1)

  in-own : All (λ s. All (InOwn s) (footprints r.blocks)) r.segments
  in-own = λ k d lt.
      let s : ℕ × ℕ = get_or r.segments k d in
      All-map (InOwn s) footprint r.blocks
      (λ i e within.
      let b : Block ℕ = get_or r.blocks i e in
      let u = h.usable i e within in
      (u.4.1, omega (arith, u.4.1), λ own. only-one r.segments b.seg (λ q. (footprint b).to + 16 ≤ q.1) h.numbered.distinct (u.0, u.1, u.2, u.3, (sym u.4.0, u.4.2)) k d lt (sym own)))

  -- the footprints of one segment
  abbrev own : ℕ → List Run
  own n = filter (λ f. eqb f.seg n) (footprints r.blocks)

  own-ends : (n : ℕ) → AllPairs Ends (own n)
  own-ends n =
      let test : Run → Bool = λ f. eqb f.seg n in
      let R : Run → Run → Type 0 = λ f g. f.seg ≡ g.seg → f.to ≤ g.from in
      let pairs = AllPairs-filter R test (footprints r.blocks) (AllPairs-map R footprint r.blocks h.ordered) in
      λ i j d lt within.
      let one = eqb-true (get_or (own n) i d).seg n (filter_passes test (footprints r.blocks) i d (omega (arith, lt, within))) in
      let two = eqb-true (get_or (own n) j d).seg n (filter_passes test (footprints r.blocks) j d within) in
      pairs i j d lt within (one ∙ sym two)

  own-runs : (s : ℕ × ℕ) → All (InOwn s) (footprints r.blocks) → All (IsRunOf (s.1 - 16)) (own s.0)
  own-runs s all =
      let test : Run → Bool = λ f. eqb f.seg s.0 in
      λ k d lt.
      let f : Run = get_or (own s.0) k d in
      let seg : f.seg ≡ s.0 = eqb-true f.seg s.0 (filter_passes test (footprints r.blocks) k d lt) in
      let lies = All-filter test (InOwn s) (footprints r.blocks) all k d lt in
      record { first = lies.0; order = lies.1; before = omega (arith, lies.2 seg) }

  -- the gaps of a segment have no more bytes than it
  gaps_in-most : (s : ℕ × ℕ) → 64 ≤ s.1 → All (InOwn s) (footprints r.blocks) → sum (map bytes_of (gaps_left_in (footprints r.blocks) s)) ≤ s.1
  gaps_in-most s least all =
      let runs = own-runs s all in
      let most = gaps_between-most s.0 (s.1 - 16) 16 (own s.0) runs (λ k d lt. (runs k d lt).first) (own-ends s.0) (omega (arith, least)) in
      omega (arith, most)

  gaps-most : (ss : List (ℕ × ℕ)) → All (λ s. 64 ≤ s.1) ss → All (λ s. s.1 ≤ 33554432) ss → All (λ s. All (InOwn s) (footprints r.blocks)) ss → sum (map bytes_of (gaps_left ss (footprints r.blocks))) ≤ length ss * 33554432
  gaps-most [] least most all = omega arith
  gaps-most (s ∷ ss) least most all =
      let here = gaps_in-most s (All-head (λ (q : ℕ × ℕ). 64 ≤ q.1) s ss least) (All-head (λ (q : ℕ × ℕ). All (InOwn q) (footprints r.blocks)) s ss all) in
      let wide : s.1 ≤ 33554432 = All-head (λ (q : ℕ × ℕ). q.1 ≤ 33554432) s ss most in
      let rest = gaps-most ss (All-tail (λ (q : ℕ × ℕ). 64 ≤ q.1) s ss least) (All-tail (λ (q : ℕ × ℕ). q.1 ≤ 33554432) s ss most) (All-tail (λ (q : ℕ × ℕ). All (InOwn q) (footprints r.blocks)) s ss all) in
      let later = gaps_left ss (footprints r.blocks) in
      rw (map-append bytes_of (gaps_left_in (footprints r.blocks) s) later)
      (omega (arith, sum-append (map bytes_of (gaps_left_in (footprints r.blocks) s)) (map bytes_of later), here, wide, rest))

  gaps-room : (ss : List (ℕ × ℕ)) → ss ≡ r.segments → All (λ s. 64 ≤ s.1) ss → All (λ s. s.1 ≤ 33554432) ss → length ss ≤ 1023 → HasRoom (tally_of []) (map bytes_of (gaps_left ss (footprints r.blocks)))
  gaps-room ss is least most few =
      let all = gaps-most ss least most (subst (λ (qs : List (ℕ × ℕ)). All (λ s. All (InOwn s) (footprints r.blocks)) qs) (sym is) in-own) in
      let sizes : List ℕ = map bytes_of (gaps_left ss (footprints r.blocks)) in
      let count = length-le-sum sizes (gap_sizes-some (footprints r.blocks) ss) in
      record { count = omega (arith, count, all, few); bytes = omega (arith, all, few) }

  -- there is room for the gaps' tally
  pub HasRoom-gaps : (segs : List Bytes) → AreSegments segs → map pair_of segs ≡ r.segments → HasRoom (tally_of []) (sizes_in (footprints r.blocks) segs)
  HasRoom-gaps segs legal pairs =
      let least : All (λ (s : ℕ × ℕ). 64 ≤ s.1) (map pair_of segs) = All-map (λ (s : ℕ × ℕ). 64 ≤ s.1) pair_of segs (λ k d lt. (legal.legal k d lt).size.least) in
      let most : All (λ (s : ℕ × ℕ). s.1 ≤ 33554432) (map pair_of segs) = All-map (λ (s : ℕ × ℕ). s.1 ≤ 33554432) pair_of segs (λ k d lt. (legal.legal k d lt).size.most) in
      gaps-room (map pair_of segs) pairs least most (omega (arith, legal.few, length-map segs pair_of))

  -- the footprints of a segment stand by their first bytes
  own-sorted : (n : ℕ) → runs_in n (footprints r.blocks) ≡ own n
  own-sorted n =
      let test : Run → Bool = λ f. eqb f.seg n in
      let some : All HasByte (footprints r.blocks) = All-map HasByte footprint r.blocks (λ k d lt. omega arith) in
      let here : All HasByte (own n) = All-filter test HasByte (footprints r.blocks) some in
      sorted-ascending (own n) (λ i j d lt within. let order : (get_or (own n) i d).from < (get_or (own n) i d).to = here i d (omega (arith, lt, within)) in let le = own-ends n i j d lt within in omega (arith, order, le))
    where
      put-first : (x : Run) (xs : List Run) → All (λ y. x.from < y.from) xs → put_by (λ f. f.from) x xs ≡ x ∷ xs
      put-first x [] h = refl
      put-first x (y ∷ ys) h = rw (lt-ltb x.from y.from (All-head (λ (z : Run). x.from < z.from) y ys h)) refl

      sorted-ascending : (xs : List Run) → AllPairs (λ x y. x.from < y.from) xs → sorted_by (λ f. f.from) xs ≡ xs
      sorted-ascending [] h = refl
      sorted-ascending (x ∷ xs) h =
          let R : Run → Run → Type 0 = λ f g. f.from < g.from in
          ap (put_by (λ f. f.from) x) (sorted-ascending xs (AllPairs-tail R x xs h)) ∙ put-first x xs (AllPairs-head R x xs h)

  -- so their gaps are those that they leave
  gaps-left : (ss : List (ℕ × ℕ)) → gaps_left ss (footprints r.blocks) ≡ gaps ss (footprints r.blocks)
  gaps-left [] = refl
  gaps-left (s ∷ ss) =
      ap (λ gs. gaps_left_in (footprints r.blocks) s ++ gs) (gaps-left ss)
      ∙ ap (λ fs. gaps_between s.0 16 (s.1 - 16) fs ++ gaps ss (footprints r.blocks)) (sym (own-sorted s.0))

  pub gap_sizes-runs : (segs : List Bytes) → map pair_of segs ≡ r.segments → sizes_in (footprints r.blocks) segs ≡ gap_sizes r
  gap_sizes-runs segs pairs = ap (λ ss. map bytes_of (gaps_left ss (footprints r.blocks))) pairs ∙ ap (map bytes_of) (gaps-left r.segments)
