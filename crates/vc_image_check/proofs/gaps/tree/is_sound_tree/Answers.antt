use Rattle.vc_base.proofs.Common.{ℕ, List, sym, subst, true≢false}
use Rattle.vc_extent.specs.Tiling.{tiling}
use Rattle.vc_gaps.specs.GapTree.{HasGapTree}
use Rattle.vc_image_check.specs.Bytes.Contents.{contents_of_image}
use Rattle.vc_image_check.specs.Marks.Mark.{lists}
use Rattle.vc_image_check.specs.Gaps.Known.{known_none}
use Rattle.vc_image_check.proofs.Sorted.{TakenOut, exact-where, marks-left}
use Rattle.vc_image_check.proofs.gaps.tree.is_sound_tree.Goals as goal
use Rattle.vc_image_check.proofs.gaps.tree.is_sound_tree.Goals.{After-take_out}

-- the names are those of the tree at the root, and their marks were taken out
tree : (c : After-take_out) → HasGapTree (tiling (contents_of_image c.args.image.now).segs) (contents_of_image c.args.image.now).root c.in-Some.names.items
tree c = rw c.in-Some.is at c.in_ok-names.ensures.some

taken : (c : After-take_out) → TakenOut (lists c.args.marks.now.rows.items) (lists c.take_out.new.marks.rows.items) c.in-Some.names.items
taken c = subst (TakenOut (lists c.args.marks.now.rows.items) (lists c.take_out.new.marks.rows.items)) c.deref.ensures.value c.take_out.ensures.marks

pub returns-in-Some-clause-sound : goal.returns-in-Some-clause-sound
returns-in-Some-clause-sound c =
    let h = (goal.at.returns-in-Some-clause-sound c).After-take_out in
    exact-where _ _ _ _ _ c.requires.marked.marks (tree h) (taken h) (known_none _ _ _ ∣ c.requires ∣₁) c.has.result c.has.ensures.some c.has.ensures.none

pub returns-in-Some-clause-marks : goal.returns-in-Some-clause-marks
returns-in-Some-clause-marks c = λ yes.
    let h = (goal.at.returns-in-Some-clause-marks c).After-take_out in
    let none = known_none _ _ _ ∣ c.requires ∣₁ in
    marks-left _ _ _ _ _ c.requires.marked.marks (tree h) (taken h) none
    ((exact-where _ _ _ _ _ c.requires.marked.marks (tree h) (taken h) none c.has.result c.has.ensures.some c.has.ensures.none).0 yes)

pub returns-in-None-clause-sound : goal.returns-in-None-clause-sound
returns-in-None-clause-sound c =
    let never : (xs : List ℕ) → HasGapTree (tiling (contents_of_image c.args.image.now).segs) (contents_of_image c.args.image.now).root xs → ⊥ = rw c.in-None.is at c.in_ok-names.ensures.none in
    (λ yes. absurd (true≢false (sym yes)), λ g. absurd (never g.names g.tree))
