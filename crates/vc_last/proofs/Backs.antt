-- Sizes and gaps, from the latest block back.
use Rattle.vc_base.proofs.Common.{◌≡◌, ℕ, ◌≤◌, true, false, eqb, ltb, ◌≢◌, List, [], ◌∷◌, ◌++◌, map, length, get_or, All, sym, refl, ap, ◌∙◌, ⊎_elim, append_assoc, append-nil, arith, cases_Bool, All-map, length-map, map-append, map_push, Run, bytes_of, gaps_between, run_of, Block, footprint, footprints}
use Rattle.vc_base.proofs.Places.{span-least}
use Rattle.vc_seg.specs.Segment.{Bytes}
use Rattle.vc_seg.proofs.BytesByNumber.{bytes_of_number-most}
use Rattle.vc_seg.specs.Tally.{HasRoom, tally_of}
use Rattle.vc_seg.proofs.Tallies.{sizes-most}
use Rattle.vc_last.specs.Chain.{IsLast, blocks_from, most_blocks}
use Rattle.vc_last.specs.Gaps.{gap_end_below, own_runs, run_sizes, sizes_above}
use Rattle.vc_last.specs.Head.{before_of, block_of}
use Rattle.vc_last.proofs.Chains.{back-most, chain-heads, latest-none, latest-some}
use Rattle.vc_last.proofs.UnorderedFolds.{filter-push}

abbrev pub sizes_back : List Bytes → ℕ → List ℕ
sizes_back segs q = map (λ b. b.size) (blocks_from segs q)

pub sizes-last : (segs : List Bytes) (q : ℕ) → IsLast segs q → q ≢ 0 → sizes_back segs q ≡ sizes_back segs (before_of segs q) ++ (block_of segs q).size ∷ []
sizes-last segs q h some = ap (map (λ (b : Block ℕ). b.size)) (latest-some segs q some h).blocks ∙ map_push (λ (b : Block ℕ). b.size) (blocks_from segs (before_of segs q)) (block_of segs q)

from-most : (segs : List Bytes) (q : ℕ) → length (blocks_from segs q) ≤ most_blocks segs
unfolding blocks_from
from-most segs q = back-most (most_blocks segs) segs q

pub HasRoom-blocks : (segs : List Bytes) (q : ℕ) → IsLast segs q → HasRoom (tally_of []) (sizes_back segs q)
HasRoom-blocks segs q h =
    let heads = chain-heads segs 0 q (blocks_from segs q) h.chain in
    let count = from-most segs q in
    let long = length-map (blocks_from segs q) (λ (b : Block ℕ). b.size) in
    let most : All (λ n. n ≤ 33554432) (sizes_back segs q) =
    All-map (λ (n : ℕ). n ≤ 33554432) (λ (b : Block ℕ). b.size) (blocks_from segs q)
    (λ k d lt.
    let b : Block ℕ = get_or (blocks_from segs q) k d in
    omega (arith, (heads k d lt).within, bytes_of_number-most b.seg segs h.segments.legal, span-least b.size)) in
    record { count = omega (arith, h.segments.few, count, long); bytes = omega (arith, sizes-most 33554432 (sizes_back segs q) most, h.segments.few, count, long) }

-- the sizes of the gaps of a segment up to an offset
abbrev pub gaps_back : List Bytes → ℕ → ℕ → ℕ → List ℕ
gaps_back segs q number to = map bytes_of (gaps_between number 16 to (own_runs number (footprints (blocks_from segs q))))

gaps-push : (seg from end : ℕ) (fs : List Run) (f : Run) → gaps_between seg from end (fs ++ f ∷ []) ≡ gaps_between seg from f.from fs ++ run_of seg f.to end
gaps-push seg from end [] f = refl
gaps-push seg from end (g ∷ gs) f = ap (λ (rs : List Run). run_of seg from g.from ++ rs) (gaps-push seg g.to end gs f) ∙ sym (append_assoc (run_of seg from g.from) (gaps_between seg g.to f.from gs) (run_of seg f.to end))

run-sizes : (seg from to : ℕ) → map bytes_of (run_of seg from to) ≡ run_sizes from to
run-sizes seg from to =
    ⊎_elim
    (λ (t : ltb from to ≡ true). rw t refl)
    (λ (t : ltb from to ≡ false). rw t refl)
    (cases_Bool (ltb from to))

gaps-step : (number to : ℕ) (front : List (Block ℕ)) (b : Block ℕ) →
    map bytes_of (gaps_between number 16 to (own_runs number (footprints (front ++ b ∷ [])))) ≡ map bytes_of (gaps_between number 16 (gap_end_below number to b) (own_runs number (footprints front))) ++ sizes_above number to b
gaps-step number to front b =
    let runs : own_runs number (footprints (front ++ b ∷ [])) ≡ own_runs number (footprints front) ++ own_runs number (footprint b ∷ []) =
    ap (own_runs number) (map_push footprint front b) ∙ filter-push (λ (f : Run). eqb f.seg number) (footprints front) (footprint b) in
    ap (λ (fs : List Run). map bytes_of (gaps_between number 16 to fs)) runs
    ∙ ⊎_elim
    (λ (t : eqb b.seg number ≡ true).
    rw t (ap (map bytes_of) (gaps-push number 16 to (own_runs number (footprints front)) (footprint b))
    ∙ (map-append bytes_of (gaps_between number 16 (footprint b).from (own_runs number (footprints front))) (run_of number (footprint b).to to)
    ∙ ap (λ (ns : List ℕ). map bytes_of (gaps_between number 16 (footprint b).from (own_runs number (footprints front))) ++ ns) (run-sizes number (footprint b).to to))))
    (λ (t : eqb b.seg number ≡ false).
    rw t (ap (λ (fs : List Run). map bytes_of (gaps_between number 16 to fs)) (append-nil (own_runs number (footprints front)))
    ∙ sym (append-nil (map bytes_of (gaps_between number 16 to (own_runs number (footprints front)))))))
    (cases_Bool (eqb b.seg number))

pub gaps-last : (segs : List Bytes) (q number to : ℕ) → IsLast segs q → q ≢ 0 → gaps_back segs q number to ≡ gaps_back segs (before_of segs q) number (gap_end_below number to (block_of segs q)) ++ sizes_above number to (block_of segs q)
gaps-last segs q number to h some =
    ap (λ (bs : List (Block ℕ)). map bytes_of (gaps_between number 16 to (own_runs number (footprints bs)))) (latest-some segs q some h).blocks ∙ gaps-step number to (blocks_from segs (before_of segs q)) (block_of segs q)

pub gaps-end : (segs : List Bytes) (q number to : ℕ) → q ≡ 0 → gaps_back segs q number to ≡ run_sizes 16 to
gaps-end segs q number to z =
    ap (λ a. gaps_back segs a number to) z ∙ (ap (λ (bs : List (Block ℕ)). map bytes_of (gaps_between number 16 to (own_runs number (footprints bs)))) (latest-none segs) ∙ run-sizes number 16 to)
