-- The gaps are the free runs, where no two free extents stand beside each other.
use Rattle.vc_base.proofs.Common.{◌≡◌, ℕ, ◌+◌, ◌-◌, ◌%◌, ◌<◌, ◌≤◌, true, false, ◌&&◌, eqb, ltb, ◌≢◌, List, [], ◌∷◌, ◌++◌, map, length, get_or, All, filter, AllPairs, sym, refl, ap, ◌∙◌, ⊎_elim, append-nil, arith, ltb-true, le-ltb, lt-ltb, eq-eqb, ne_eqb, eqb-true, ∥∥₁_elim, and_from, and_parts, cases_Bool, eqb-false, or_right, All-cons, All-head, All-nil, All-tail, All-weaker, filter-append, Run, gaps_between, run_of, Block, footprint, footprints, lies_before, with_block, gaps_of, span}
use Rattle.vc_best.proofs.Common.{AreExtents, Bytes, Extent, IsMerged, all_busy, block_of, busy_in, extents, extents_of, free_in, free_runs, in_order, is_merged, layout_by, pair_of, run_of_extent, tiling}
use Rattle.vc_model.proofs.Pairs.{AllPairs-head, AllPairs-tail}
use Rattle.vc_best.proofs.LeftGaps.{gaps_left, gaps_left_in}
use Rattle.vc_best.proofs.Layouts.{busy-seg}
use Rattle.vc_best.proofs.Lies.{Differ, Ends, IsAt, Lies, Tiled, lies-behind, lies-tiled}
use Rattle.vc_best.proofs.Ordered.{gaps-left}
use Rattle.vc_best.proofs.Sets.{runs-set}
use Rattle.vc_best.proofs.Tilings.{All-busy_in, Apart, all-apart, all-lodged, other-seg}
use Rattle.vc_best.proofs.Along.{own-from}
use Rattle.vc_best.proofs.Apart.{order-before}

-- the blocks of one segment alone
abbrev own_of : ℕ → List (Block ℕ) → List (Block ℕ)
own_of n bs = filter (λ b. eqb b.seg n) bs

own-none : (n : ℕ) (bs : List (Block ℕ)) → All (λ b. eqb b.seg n ≡ false) bs → own_of n bs ≡ []
own-none n [] h = refl
own-none n (b ∷ bs) h =
    let P : Block ℕ → Type 0 = λ c. eqb c.seg n ≡ false in
    rw (All-head P b bs h) (own-none n bs (All-tail P b bs h))

own-all : (n : ℕ) (bs : List (Block ℕ)) → All (λ b. eqb b.seg n ≡ true) bs → own_of n bs ≡ bs
own-all n [] h = refl
own-all n (b ∷ bs) h =
    let P : Block ℕ → Type 0 = λ c. eqb c.seg n ≡ true in
    rw (All-head P b bs h) (ap (λ cs. b ∷ cs) (own-all n bs (All-tail P b bs h)))

-- blocks in order of segments
abbrev Rises : Block ℕ → Block ℕ → Type 0
Rises c d = c.seg ≤ d.seg

lower-seg : (b c : Block ℕ) → lies_before b c ≡ true → b.seg ≤ c.seg
lower-seg b c e =
    ⊎_elim
    (λ (t : ltb b.seg c.seg ≡ true). let lt = ltb-true b.seg c.seg t in omega arith)
    (λ (t : ltb b.seg c.seg ≡ false).
    let both : (eqb b.seg c.seg && ltb b.off c.off) ≡ true = rw t at e in
    let same = eqb-true b.seg c.seg (and_parts (eqb b.seg c.seg) (ltb b.off c.off) both).0 in
    omega (arith, same))
    (cases_Bool (ltb b.seg c.seg))

-- a block is put among those of its own segment as among all
own-with : (n : ℕ) (b : Block ℕ) (bs : List (Block ℕ)) → eqb b.seg n ≡ true → AllPairs Rises bs → own_of n (with_block b bs) ≡ with_block b (own_of n bs)
own-with n b [] own h = rw own refl
own-with n b (c ∷ cs) own h =
    let rest = AllPairs-tail Rises c cs h in
    ⊎_elim
    (λ (u : eqb c.seg n ≡ true).
    ⊎_elim
    (λ (t : lies_before b c ≡ true). rw (t, u) (rw t (rw own refl)))
    (λ (t : lies_before b c ≡ false). rw (t, u) (rw t (ap (λ ds. c ∷ ds) (own-with n b cs own rest))))
    (cases_Bool (lies_before b c)))
    (λ (u : eqb c.seg n ≡ false).
    ⊎_elim
    (λ (t : lies_before b c ≡ true).
    let le = lower-seg b c t in
    let same = eqb-true b.seg n own in
    let other = eqb-false c.seg n u in
    let none : own_of n cs ≡ [] = own-none n cs (All-weaker (Rises c) (λ d. eqb d.seg n ≡ false) (λ d up. ne_eqb d.seg n (λ e. other (omega (arith, e, up, le, same)))) cs (AllPairs-head Rises c cs h)) in
    rw t (rw own (rw u (rw none refl))))
    (λ (t : lies_before b c ≡ false). rw t (rw u (own-with n b cs own rest)))
    (cases_Bool (lies_before b c)))
    (cases_Bool (eqb c.seg n))

own-skip : (n : ℕ) (b : Block ℕ) (bs : List (Block ℕ)) → eqb b.seg n ≡ false → own_of n (with_block b bs) ≡ own_of n bs
own-skip n b [] other = rw other refl
own-skip n b (c ∷ cs) other =
    ⊎_elim
    (λ (t : lies_before b c ≡ true). rw t (rw other refl))
    (λ (t : lies_before b c ≡ false).
    rw t
    (⊎_elim
    (λ (u : eqb c.seg n ≡ true). rw u (ap (λ ds. c ∷ ds) (own-skip n b cs other)))
    (λ (u : eqb c.seg n ≡ false). rw u (own-skip n b cs other))
    (cases_Bool (eqb c.seg n))))
    (cases_Bool (lies_before b c))

rises-order : (bs : List (Block ℕ)) → All (λ b. 32 ≤ b.off) bs → AllPairs Apart bs → AllPairs Rises (in_order bs)
rises-order bs offs apart = λ i j d lt within. ⊎_elim (λ u. omega (arith, u)) (λ u. omega (arith, u.0)) (order-before bs offs apart i j d lt within)

own-order : (n : ℕ) (bs : List (Block ℕ)) → All (λ b. 32 ≤ b.off) bs → AllPairs Apart bs → own_of n (in_order bs) ≡ in_order (own_of n bs)
own-order n [] offs apart = refl
own-order n (b ∷ bs) offs apart =
    let P : Block ℕ → Type 0 = λ c. 32 ≤ c.off in
    let offs' = All-tail P b bs offs in
    let apart' = AllPairs-tail Apart b bs apart in
    ⊎_elim
    (λ (t : eqb b.seg n ≡ true). rw t (own-with n b (in_order bs) t (rises-order bs offs' apart') ∙ ap (with_block b) (own-order n bs offs' apart')))
    (λ (t : eqb b.seg n ≡ false). rw t (own-skip n b (in_order bs) t ∙ own-order n bs offs' apart'))
    (cases_Bool (eqb b.seg n))

-- the blocks of a segment stand by address already
first-with : (b : Block ℕ) (bs : List (Block ℕ)) → All (λ c. lies_before b c ≡ true) bs → with_block b bs ≡ b ∷ bs
first-with b [] h = refl
first-with b (c ∷ cs) h = rw (All-head (λ d. lies_before b d ≡ true) c cs h) refl

in-order : (n stop at : ℕ) (es : List Extent) → (at + 16) % 32 ≡ 0 → Lies stop at es → in_order (busy_in (n, es)) ≡ busy_in (n, es)
in-order n stop at [] m h = refl
in-order n stop at (e ∷ es) m h =
    let rest = in-order n stop (at + e.span) es (omega (arith, m, h.0.legal.multiple)) h.1 in
    ⊎_elim
    (λ (t : ltb 0 e.size ≡ true).
    rw t
    (ap (with_block (block_of n e)) rest
    ∙ first-with (block_of n e) (busy_in (n, es))
    (All-busy_in (λ c. lies_before (block_of n e) c ≡ true) n es
    (All-weaker (Ends e) (λ x. 0 < x.size → lies_before (block_of n e) (block_of n x) ≡ true)
    (λ x ends some. or_right (ltb n n) (eqb n n && ltb e.off x.off) (and_from (eqb n n) (ltb e.off x.off) (eq-eqb n n refl) (lt-ltb e.off x.off (omega (arith, ends, h.0.legal.least))))) es (lies-behind stop at e es m h)))))
    (λ (t : ltb 0 e.size ≡ false). rw t rest)
    (cases_Bool (ltb 0 e.size))

-- what the blocks of a segment leave free are its free extents
runs-nothing : (n at stop : ℕ) → at ≡ stop → run_of n at stop ≡ []
runs-nothing n at stop e = rw (le-ltb at stop (omega (arith, e))) refl

whole-run : (n at stop : ℕ) (e : Extent) → at < stop → e.off ≡ at + 16 → at + e.span ≡ stop → run_of n at stop ≡ run_of_extent n e ∷ []
whole-run n at stop e lt own end =
    let from : at ≡ e.off - 16 = omega (arith, own) in
    let to : stop ≡ e.off - 16 + e.span = omega (arith, own, end) in
    rw (lt-ltb at stop lt) (λ i. record { seg = n; from = from i; to = to i } ∷ [])

after-busy : (n stop at : ℕ) (e : Extent) → IsAt stop at e → 0 < e.size → (fs : List Run) (gs : List Run) → gaps_between n (at + e.span) stop fs ≡ gs → gaps_between n (e.off - 16 + span e.size) stop fs ≡ gs
after-busy n stop at e h busy fs gs rest =
    let spans = h.legal.busy busy in
    let own = h.off in
    ap (λ (k : ℕ). gaps_between n k stop fs) (omega (arith, spans, own)) ∙ rest

gaps-busy : (n stop at : ℕ) (es : List Extent) → Lies stop at es → is_merged false es ≡ true → gaps_between n at stop (footprints (busy_in (n, es))) ≡ free_in (n, es)
gaps-busy n stop at [] h merged = runs-nothing n at stop h
gaps-busy n stop at (e ∷ []) h merged =
    ⊎_elim
    (λ (t : ltb 0 e.size ≡ true). rw t (ap (λ r. r ++ run_of n (e.off - 16 + span e.size) stop) (runs-nothing n at (e.off - 16) (omega (arith, h.0.off))) ∙ after-busy n stop at e h.0 (ltb-true 0 e.size t) [] [] (runs-nothing n (at + e.span) stop h.1)))
    (λ (t : ltb 0 e.size ≡ false). rw t (whole-run n at stop e (omega (arith, h.1, h.0.legal.least)) h.0.off h.1))
    (cases_Bool (ltb 0 e.size))
gaps-busy n stop at (e ∷ x ∷ xs) h merged =
    let own = h.0.off in
    let wide = h.0.legal.least in
    let next = h.1.0.off in
    ⊎_elim
    (λ (t : ltb 0 e.size ≡ true).
    let merged' : is_merged false (x ∷ xs) ≡ true = rw t at merged in
    rw t
    (ap (λ r. r ++ gaps_between n (e.off - 16 + span e.size) stop (footprints (busy_in (n, x ∷ xs)))) (runs-nothing n at (e.off - 16) (omega (arith, own)))
    ∙ after-busy n stop at e h.0 (ltb-true 0 e.size t) (footprints (busy_in (n, x ∷ xs))) (free_in (n, x ∷ xs)) (gaps-busy n stop (at + e.span) (x ∷ xs) h.1 merged')))
    (λ (t : ltb 0 e.size ≡ false).
    let merged' : is_merged true (x ∷ xs) ≡ true = rw t at merged in
    ⊎_elim
    (λ (u : ltb 0 x.size ≡ true).
    let m : is_merged false xs ≡ true = rw u at merged' in
    rw (t, u)
    (ap (λ r. r ++ gaps_between n (x.off - 16 + span x.size) stop (footprints (busy_in (n, xs)))) (whole-run n at (x.off - 16) e (omega (arith, next, wide)) own (omega (arith, next)))
    ∙ ap (λ gs. run_of_extent n e ∷ gs) (after-busy n stop (at + e.span) x h.1.0 (ltb-true 0 x.size u) (footprints (busy_in (n, xs))) (free_in (n, xs)) (gaps-busy n stop (at + e.span + x.span) xs h.1.1 m))))
    (λ (u : ltb 0 x.size ≡ false). let m : false ≡ true = rw u at merged' in absurd (cc))
    (cases_Bool (ltb 0 x.size)))
    (cases_Bool (ltb 0 e.size))

-- of all segments
filter-footprints : (n : ℕ) (bs : List (Block ℕ)) → filter (λ (f : Run). eqb f.seg n) (footprints bs) ≡ footprints (own_of n bs)
filter-footprints n [] = refl
filter-footprints n (b ∷ bs) =
    ⊎_elim
    (λ (t : eqb b.seg n ≡ true). rw t (ap (λ fs. footprint b ∷ fs) (filter-footprints n bs)))
    (λ (t : eqb b.seg n ≡ false). rw t (filter-footprints n bs))
    (cases_Bool (eqb b.seg n))

flat-each : (runs : List Run) (ss : List Bytes) → All (λ s. gaps_left_in runs (pair_of s) ≡ free_in (s.number, extents s.bytes)) ss → gaps_left (map pair_of ss) runs ≡ free_runs (tiling ss)
flat-each runs [] h = refl
flat-each runs (s ∷ ss) h =
    let P : Bytes → Type 0 = λ x. gaps_left_in runs (pair_of x) ≡ free_in (x.number, extents x.bytes) in
    ap (λ gs. gs ++ gaps_left (map pair_of ss) runs) (All-head P s ss h)
    ∙ ap (λ gs. free_in (s.number, extents s.bytes) ++ gs) (flat-each runs ss (All-tail P s ss h))

-- so they are those that stand in order
owns-of : (n : ℕ) (segs : List Bytes) → AllPairs Differ segs → own_of n (all_busy (tiling segs)) ≡ busy_in (n, extents_of n (tiling segs))
owns-of n [] distinct = refl
owns-of n (s ∷ ss) distinct =
    let own : List (Block ℕ) = busy_in (s.number, extents s.bytes) in
    let rest : List (Block ℕ) = all_busy (tiling ss) in
    filter-append (λ (b : Block ℕ). eqb b.seg n) own rest
    ∙ ⊎_elim
    (λ (t : eqb s.number n ≡ true).
    let same = eqb-true s.number n t in
    rw t
    (ap (λ bs. bs ++ own_of n rest) (own-all n own (All-weaker (λ b. b.seg ≡ s.number) (λ b. eqb b.seg n ≡ true) (λ b is. eq-eqb b.seg n (is ∙ same)) own (busy-seg s.number (extents s.bytes))))
    ∙ (ap (λ bs. own ++ bs) (own-none n rest (All-weaker (λ c. s.number ≢ c.seg) (λ c. eqb c.seg n ≡ false) (λ c other. ne_eqb c.seg n (λ e. other (same ∙ sym e))) rest (other-seg s ss (AllPairs-head Differ s ss distinct))))
    ∙ (append-nil own ∙ ap (λ (m : ℕ). busy_in (m, extents s.bytes)) same))))
    (λ (t : eqb s.number n ≡ false).
    rw t
    (ap (λ bs. bs ++ own_of n rest) (own-none n own (All-weaker (λ b. b.seg ≡ s.number) (λ b. eqb b.seg n ≡ false) (λ b is. ne_eqb b.seg n (λ e. eqb-false s.number n t (sym is ∙ e))) own (busy-seg s.number (extents s.bytes))))
    ∙ owns-of n ss (AllPairs-tail Differ s ss distinct)))
    (cases_Bool (eqb s.number n))

stand-in : (n : ℕ) (segs : List Bytes) → All Tiled segs → in_order (busy_in (n, extents_of n (tiling segs))) ≡ busy_in (n, extents_of n (tiling segs))
stand-in n [] tiled = refl
stand-in n (s ∷ ss) tiled =
    ⊎_elim
    (λ (t : eqb s.number n ≡ true). rw t (in-order n (length s.bytes - 16) 16 (extents s.bytes) refl (lies-tiled s.bytes (All-head Tiled s ss tiled))))
    (λ (t : eqb s.number n ≡ false). rw t (stand-in n ss (All-tail Tiled s ss tiled)))
    (cases_Bool (eqb s.number n))

pub own-blocks : (segs : List Bytes) (index : List ℕ) → AreExtents segs index → (n : ℕ) → filter (λ (b : Block ℕ). eqb b.seg n) (in_order (all_busy (tiling segs))) ≡ busy_in (n, extents_of n (tiling segs))
own-blocks segs index j n =
    own-order n (all_busy (tiling segs)) (λ i d lt. (all-lodged segs j.segments.legal j.tiled i d lt).off) (all-apart segs j.segments.distinct j.tiled)
    ∙ (ap in_order (owns-of n segs j.segments.distinct) ∙ stand-in n segs j.tiled)

pub gaps-of : (segs : List Bytes) (index : List ℕ) → ∥ AreExtents segs index ∥₁ → IsMerged (tiling segs) → gaps_of (layout_by segs) ≡ free_runs (tiling segs)
unfolding layout_by
gaps-of segs index k merged =
    ∥∥₁_elim k (hlevel (runs-set)) (λ (j : AreExtents segs index).
    let bs : List (Block ℕ) = all_busy (tiling segs) in
    let offs : All (λ b. 32 ≤ b.off) bs = λ i d lt. (all-lodged segs j.segments.legal j.tiled i d lt).off in
    let apart = all-apart segs j.segments.distinct j.tiled in
    gaps-left (map pair_of segs) (in_order bs) (order-before bs offs apart)
    ∙ flat-each (footprints (in_order bs)) segs
    (λ i d lt.
    let s : Bytes = get_or segs i d in
    let n : ℕ = s.number in
    let lies = lies-tiled s.bytes (j.tiled i d lt) in
    let own : own_of n (in_order bs) ≡ busy_in (n, extents s.bytes) =
    own-blocks segs index j n ∙ ap (λ (es : List Extent). busy_in (n, es)) (own-from segs i d j.segments.distinct lt) in
    ap (gaps_between n 16 (length s.bytes - 16)) (filter-footprints n (in_order bs) ∙ ap footprints own)
    ∙ gaps-busy n (length s.bytes - 16) 16 (extents s.bytes) lies (merged-at segs merged i d lt)))
  where
    merged-at : (ss : List Bytes) → IsMerged (tiling ss) → All (λ s. is_merged false (extents s.bytes) ≡ true) ss
    merged-at [] h = All-nil (λ (s : Bytes). is_merged false (extents s.bytes) ≡ true)
    merged-at (s ∷ ss) h =
        let M : ℕ × List Extent → Type 0 = λ x. is_merged false x.1 ≡ true in
        All-cons (λ (x : Bytes). is_merged false (extents x.bytes) ≡ true) s ss (All-head M (s.number, extents s.bytes) (tiling ss) h) (merged-at ss (All-tail M (s.number, extents s.bytes) (tiling ss) h))
