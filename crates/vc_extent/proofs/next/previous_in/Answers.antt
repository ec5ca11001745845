use Rattle.vc_base.proofs.Common.{◌≡◌, ℕ, ◌+◌, ◌-◌, ◌<◌, cond, Some, None, sym, ap, ◌∙◌, subst, arith, eq-eqb, ne_eqb}
use Rattle.vc_extent.specs.Extent.{extents}
use Rattle.vc_extent.specs.Change.{extent_in}
use Rattle.vc_seg.specs.Field.{field_at}
use Rattle.vc_extent.proofs.Changed.{within, head-room}
use Rattle.vc_extent.proofs.Neighbours.{previous, boundary-within, boundary-multiple, before-named}
use Rattle.vc_extent.proofs.next.previous_in.Goals as goal

pub field-before-requires : goal.field-before-requires
field-before-requires c = omega (arith, head-room c.requires.there)

pub overflow_add-result : goal.overflow_add-result
overflow_add-result c = omega (arith, (within c.requires.there).end, (within c.requires.there).most)

pub overflow_sub-result : goal.overflow_sub-result
overflow_sub-result c = let le = boundary-within c.requires.there in omega (arith, c.field-before.ensures)

pub returns-then-before-eq0-clause-value : goal.returns-then-before-eq0-clause-value
returns-then-before-eq0-clause-value c =
    let b = c.args.seg.now.bytes in
    let zero : field_at (c.args.at + 12) b ≡ 0 = omega (arith, c.field-before.ensures, c.if-before-eq0.true) in
    previous c.requires.there ∙ ap (λ v. cond v None (Some (c.args.at + 16 - field_at (c.args.at + 12) b))) (eq-eqb (field_at (c.args.at + 12) b) 0 zero)

pub returns-else-before-eq0-clause-value : goal.returns-else-before-eq0-clause-value
returns-else-before-eq0-clause-value c =
    let b = c.args.seg.now.bytes in
    let word : c.field-before.result ≡ field_at (c.args.at + 12) b = c.field-before.ensures in
    previous c.requires.there
    ∙ (ap (λ v. cond v None (Some (c.args.at + 16 - field_at (c.args.at + 12) b))) (ne_eqb (field_at (c.args.at + 12) b) 0 (λ q. c.if-before-eq0.false (word ∙ q)))
    ∙ ap (λ k. Some (c.args.at + 16 - k)) (sym word))

pub returns-else-before-eq0-clause-below : goal.returns-else-before-eq0-clause-below
returns-else-before-eq0-clause-below c = omega (arith, (within c.requires.there).end, (within c.requires.there).most, (within c.requires.there).legal.least)

pub returns-else-before-eq0-clause-multiple : goal.returns-else-before-eq0-clause-multiple
returns-else-before-eq0-clause-multiple c =
    let m = boundary-multiple c.requires.there in
    let le = boundary-within c.requires.there in
    omega (arith, c.field-before.ensures, c.requires.multiple)

pub returns-else-before-eq0-clause-named : goal.returns-else-before-eq0-clause-named
returns-else-before-eq0-clause-named c =
    let b = c.args.seg.now.bytes in
    let word : c.field-before.result ≡ field_at (c.args.at + 12) b = c.field-before.ensures in
    subst (λ (k : ℕ). 0 < (extent_in (c.args.at + 16 - k) (extents b)).span) (sym word) (before-named c.requires.there (λ q. c.if-before-eq0.false (word ∙ q)))
