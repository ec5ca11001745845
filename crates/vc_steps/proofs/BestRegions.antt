-- A best region is its layout, with other labels, too.
use Rattle.vc_base.proofs.Common.{◌≡◌, true, sym, refl, ap, ◌∙◌, true≢false, Layout, relabel_layout}
use Rattle.vc_region.specs.Region.{OfBest, OfDebug, OfLast, OfPool, OfProfile, Region, is_best, layout_in, region_with_labels}

pub best-is : {L : Type 0} (r : Region L) → is_best r ≡ true → r ≡ OfBest (layout_in r)
best-is (OfBest layout) best = refl
best-is (OfPool pool) best = absurd (true≢false (sym best))
best-is (OfLast layout) best = absurd (true≢false (sym best))
best-is (OfDebug debug) best = absurd (true≢false (sym best))
best-is (OfProfile profile) best = absurd (true≢false (sym best))

-- a layout of other labels is that of a best region
pub best-named : {L M : Type 0} (f : L → M) (r : Region L) (l : Layout L) → is_best r ≡ true → l ≡ layout_in r → OfBest (relabel_layout f l) ≡ region_with_labels f r
best-named f r l best same = ap (λ (q : Layout _). OfBest (relabel_layout f q)) same ∙ ap (region_with_labels f) (sym (best-is r best))
