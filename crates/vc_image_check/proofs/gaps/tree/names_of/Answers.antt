use Rattle.vc_base.proofs.Common.{◌≡◌, ℕ, ◌<◌, List, true, length, contains, AreDistinct, sym, ◌∙◌, subst, arith, true≢false}
use Rattle.vc_extent.specs.Tiling.{tiling}
use Rattle.vc_gaps.specs.GapStore.{gap_store, key_of}
use Rattle.vc_gaps.specs.GapTree.{AscendFrom, HasGapTree}
use Rattle.vc_gaps.proofs.GapTrees.{tree-distinct}
use Rattle.vc_image_check.specs.Bytes.Contents.{contents_of_image}
use Rattle.vc_image_check.specs.Walks.Spelled.{IsSpelled}
use Rattle.vc_image_check.specs.Gaps.Known.{known_fits, known_none}
use Rattle.vc_image_check.specs.Laws.Lying.{root-is}
use Rattle.vc_image_check.proofs.Sorted.{spelled-free, spelled-tree, tree-few, tree-same, tree-spelled}
use Rattle.vc_image_check.proofs.gaps.tree.names_of.Goals as goal
use Rattle.vc_image_check.proofs.gaps.tree.names_of.Goals.{After-word, In-Some}

-- the walk's names, and any that stand in order from the root that was read
spelled : (c : In-Some) → IsSpelled (gap_store (tiling (contents_of_image c.args.image.now).segs)) 0 c.word.result c.in-Some.names.items
spelled c = rw c.in-Some.is at c.in_ok-names.ensures.some

from-root : (c : After-word) (xs : List ℕ) → HasGapTree (tiling (contents_of_image c.args.image.now).segs) (contents_of_image c.args.image.now).root xs → HasGapTree (tiling (contents_of_image c.args.image.now).segs) c.word.result xs
from-root c xs = subst (λ z. HasGapTree (tiling (contents_of_image c.args.image.now).segs) z xs) (root-is c.args.image.now ∙ sym c.word.ensures)

pub ascend-requires : goal.ascend-requires
ascend-requires c = λ a w. spelled-free _ _ _ (spelled (goal.at.ascend-requires c).In-Some) a (subst (λ z. contains z a ≡ true) c.deref.ensures.value w)

pub returns-then-ascend-clause-some : goal.returns-then-ascend-clause-some
returns-then-ascend-clause-some c =
    subst (λ z. HasGapTree (tiling (contents_of_image c.args.image.now).segs) z c.in-Some.names.items) (c.word.ensures ∙ sym (root-is c.args.image.now))
    (spelled-tree _ _ _ (spelled (goal.at.returns-then-ascend-clause-some c).In-Some)
    (subst (AscendFrom (key_of (tiling (contents_of_image c.args.image.now).segs)) 0) c.deref.ensures.value (c.ascend.ensures.0 c.if-ascend.true)))

pub returns-else-ascend-clause-none : goal.returns-else-ascend-clause-none
returns-else-ascend-clause-none c = λ xs h.
    let at = goal.at.returns-else-ascend-clause-none c in
    let same = tree-same _ _ _ _ (known_none _ _ _ ∣ c.requires ∣₁) (spelled at.In-Some) (from-root at.After-word xs h) in
    true≢false (sym (c.ascend.ensures.1 (subst (AscendFrom (key_of (tiling (contents_of_image c.args.image.now).segs)) 0) (same ∙ sym c.deref.ensures.value) h.ascending)) ∙ c.if-ascend.false)

pub returns-in-None-clause-none : goal.returns-in-None-clause-none
returns-in-None-clause-none c = λ xs h.
    let k = from-root (goal.at.returns-in-None-clause-none c).After-word xs h in
    let never : (zs : List ℕ) → IsSpelled (gap_store (tiling (contents_of_image c.args.image.now).segs)) 0 c.word.result zs → AreDistinct zs → 4294967296 < length zs = rw c.in-None.is at c.in_ok-names.ensures.none in
    let more = never xs (tree-spelled _ _ _ k) (tree-distinct _ _ _ k) in
    let few = tree-few _ _ _ (known_fits _ _ _ ∣ c.requires ∣₁) k in
    omega (arith, more, few)
