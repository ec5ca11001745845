-- Counts, taken on extent by extent.
use Rattle.vc_base.proofs.Common.{◌≡◌, ℕ, Bool, List, ◌++◌, map, filter, ap, ◌∙◌, subst, arith, length-append, filter-append, sum_by-append, map-append}
use Rattle.vc_best.proofs.Common.{Extent, HaveRoom, busy_sizes, counts_with, free_spans, is_busy, is_free}
use Rattle.vc_seg.specs.Tally.{HasRoom, tallied_all}
use Rattle.vc_seg.proofs.Tallies.{HasRoom-rest, tallied_all-append}
use Rattle.vc_best.specs.declared.stat.Counts.{Counts}
use Rattle.vc_seg.specs.declared.tally.Tally.{Tally}

-- what is shown of those of two lists that pass a test
pub shown-append : (p : Extent → Bool) (g : Extent → ℕ) (xs ys : List Extent) → map g (filter p (xs ++ ys)) ≡ map g (filter p xs) ++ map g (filter p ys)
shown-append p g xs ys = ap (map g) (filter-append p xs ys) ∙ map-append g (filter p xs) (filter p ys)

pub counted-append : (c : Counts) (xs ys : List Extent) → counts_with c (xs ++ ys) ≡ counts_with (counts_with c xs) ys
counted-append c xs ys =
    let b = ap (tallied_all c.blocks) (shown-append is_busy (λ (e : Extent). e.size) xs ys) ∙ tallied_all-append c.blocks (busy_sizes xs) (busy_sizes ys) in
    let f = ap (tallied_all c.gaps) (shown-append is_free (λ (e : Extent). e.span) xs ys) ∙ tallied_all-append c.gaps (free_spans xs) (free_spans ys) in
    λ i. record { blocks = b i; gaps = f i }

pub room-rest : (c : Counts) (xs ys : List Extent) → HaveRoom c (xs ++ ys) → HaveRoom (counts_with c xs) ys
room-rest c xs ys h =
    record {
      blocks = HasRoom-rest c.blocks (busy_sizes xs) (busy_sizes ys) (subst (HasRoom c.blocks) (shown-append is_busy (λ (e : Extent). e.size) xs ys) h.blocks);
      gaps = HasRoom-rest c.gaps (free_spans xs) (free_spans ys) (subst (HasRoom c.gaps) (shown-append is_free (λ (e : Extent). e.span) xs ys) h.gaps);
    }

front : (t : Tally) (ms ns : List ℕ) → HasRoom t (ms ++ ns) → HasRoom t ms
front t ms ns h =
    let count = h.count in
    let bytes = h.bytes in
    record { count = omega (arith, length-append ms ns, count); bytes = omega (arith, sum_by-append (λ (m : ℕ). m) ms ns, bytes) }

pub room-front : (c : Counts) (xs ys : List Extent) → HaveRoom c (xs ++ ys) → HaveRoom c xs
room-front c xs ys h =
    record {
      blocks = front c.blocks (busy_sizes xs) (busy_sizes ys) (subst (HasRoom c.blocks) (shown-append is_busy (λ (e : Extent). e.size) xs ys) h.blocks);
      gaps = front c.gaps (free_spans xs) (free_spans ys) (subst (HasRoom c.gaps) (shown-append is_free (λ (e : Extent). e.span) xs ys) h.gaps);
    }
