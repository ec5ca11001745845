use Rattle.vc_base.proofs.Common.{◌≡◌, ◌+◌, ◌*◌, eqb, get_or, sym, refl, ap, arith, true≢false, get_or_default, list_any_at, eq-eqb, drop_all}
use Rattle.vc_extent.specs.Tiling.{tiling}
use Rattle.vc_gaps.specs.GapStore.{key_of}
use Rattle.vc_image_check.specs.Bytes.Contents.{contents_of_image}
use Rattle.vc_image_check.proofs.Sorted.{ascending-end, ascending-next, ascending-not, ascending-start}
use Rattle.vc_image_check.proofs.gaps.tree.ascend.Goals as goal
use Rattle.vc_image_check.proofs.gaps.tree.ascend.Goals.{After-span}

-- the name is the one at its place, and the number that was made is its key
here : (c : After-span) → get_or c.args.names.now c.loop-name.name-index (get_or c.args.names.now c.loop-name.name-index 0) ≡ get_or c.args.names.now c.loop-name.name-index 0
here c = get_or_default c.args.names.now c.loop-name.name-index (get_or c.args.names.now c.loop-name.name-index 0) 0 c.loop-name-test.true

key : (c : After-span) → c.span.result * 4294967296 + get_or c.args.names.now c.loop-name.name-index 0 ≡ key_of (tiling (contents_of_image c.args.nodes.now.image.now).segs) (get_or c.args.names.now c.loop-name.name-index 0)
key c = ap (λ z. z * 4294967296 + get_or c.args.names.now c.loop-name.name-index 0) c.span.ensures.value

pub loop-name-init : goal.loop-name-init
loop-name-init c = ascending-start (key_of (tiling (contents_of_image c.args.nodes.now.image.now).segs)) c.args.names.now

pub span-requires : goal.span-requires
span-requires c =
    let x = get_or c.args.names.now c.loop-name.name-index 0 in
    c.requires x (list_any_at (λ z. eqb z x) c.args.names.now c.loop-name.name-index 0 c.loop-name-test.true (eq-eqb x x refl))

pub returns-then-key-low : goal.returns-then-key-low
returns-then-key-low c =
    let h = (goal.at.returns-then-key-low c).After-span in (
      λ yes. absurd (true≢false (sym yes)),
      λ all. absurd (ascending-not _ _ _ _ _ _ c.loop-name-test.true (here h) (key h) c.if-key-low.true c.loop-name.invariant all),
    )

pub loop-name-preserved : goal.loop-name-preserved
loop-name-preserved c =
    let h = (goal.at.loop-name-preserved c).After-span in
    ascending-next _ _ _ _ _ _ c.loop-name-test.true (here h) (key h) c.if-key-low.false c.loop-name.invariant

pub returns : goal.returns
returns c =
    let all = ascending-end _ _ _ _ (drop_all c.loop-name.name-index c.args.names.now (omega (arith, c.loop-name-test.false))) c.loop-name.invariant in
    (λ _. all, λ _. refl)
