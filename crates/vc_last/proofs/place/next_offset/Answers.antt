use Rattle.vc_base.proofs.Common.{◌+◌, sym, ap, ◌∙◌, place_of, span}
use Rattle.vc_last.proofs.Chains.{latest-head}
use Rattle.vc_last.proofs.Newest.{next-zero, next-own, next-other, none-zero, some-zero}
use Rattle.vc_last.proofs.place.next_offset.Goals as goal

pub returns-then-is_none-clause-value : goal.returns-then-is_none-clause-value
returns-then-is_none-clause-value c = next-zero c.args.segs.now c.args.latest.0 c.args.number c.requires.kept c.requires.newest (none-zero c.is_none.result c.args.latest.0 c.is_none.ensures c.if-is_none.true)

pub returns-then-seg-number-clause-value : goal.returns-then-seg-number-clause-value
returns-then-seg-number-clause-value c = next-other c.args.segs.now c.args.latest.0 c.args.number c.requires.kept c.requires.newest (some-zero c.is_none.result c.args.latest.0 c.is_none.ensures c.if-is_none.false) (λ e. c.if-seg-number.true (c.seg.ensures ∙ e))

pub size_at-requires : goal.size_at-requires
size_at-requires c = latest-head c.args.segs.now c.args.latest.0 (some-zero c.is_none.result c.args.latest.0 c.is_none.ensures c.if-is_none.false) c.requires.kept

pub returns-clause-value : goal.returns-clause-value
returns-clause-value c =
    let next = next-own c.args.segs.now c.args.latest.0 c.args.number c.requires.kept c.requires.newest (some-zero c.is_none.result c.args.latest.0 c.is_none.ensures c.if-is_none.false) (sym c.seg.ensures ∙ c.if-seg-number.false) in
    ap (λ k. k + c.span_of.result) c.off.ensures ∙ (ap (λ k. (place_of c.args.latest.0).1 + k) (c.span_of.ensures ∙ ap span c.size_at.ensures.value) ∙ next)
