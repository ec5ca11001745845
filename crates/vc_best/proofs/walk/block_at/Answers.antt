use Rattle.vc_base.proofs.Common.{ℕ, ◌-◌, List, Some, Option, find, sym, ap, ◌∙◌, subst, place_of, holds_byte}
use Rattle.vc_best.proofs.Common.{Addr, Extent, busy_in, extents_of, layout_by, tiling}
use Rattle.vc_base.proofs.Options.{none_where}
use Rattle.vc_seg.specs.OneBlock.{IsBlockAt}
use Rattle.vc_best.proofs.AtBytes.{at-found, at-none, found-place, none-extents, none-found}
use Rattle.vc_best.proofs.Firsts.{block_at-there}
use Rattle.vc_best.proofs.Found.{has-of}
use Rattle.vc_best.proofs.walk.block_at.Goals as goal

pub returns-then-is_none : goal.returns-then-is_none
returns-then-is_none c =
    let none = sym c.has.ensures ∙ none_where c.has.result c.is_none.result c.is_none.ensures c.if-is_none.true in
    record {
      value = sym (at-none c.args.seg c.args.off (layout_by c.args.extents.now.segs.items).blocks (block_at-there _ _ c.args.extents.now.kept c.args.seg c.args.off ∙ ap (λ (es : List Extent). find (holds_byte (c.args.seg, c.args.off)) (busy_in (c.args.seg, es))) (none-extents c.args.seg c.args.extents.now.segs.items none)));
      live = tt;
    }

pub returns-in_err-a : goal.returns-in_err-a
returns-in_err-a c =
    let bs = (layout_by c.args.extents.now.segs.items).blocks in
    let none = none-found (find (holds_byte (c.args.seg, c.args.off)) (busy_in (c.args.seg, extents_of c.args.seg (tiling c.args.extents.now.segs.items)))) c.in_err-a.ensures.value in
    subst (λ (r : Option (Addr × ℕ)). IsBlockAt r (c.args.seg, c.args.off) bs) (sym c.from_residual.ensures)
    (record { value = sym (at-none c.args.seg c.args.off bs (block_at-there _ _ c.args.extents.now.kept c.args.seg c.args.off ∙ none)); live = tt })

pub returns : goal.returns
returns c =
    let f = found-place (place_of c.in_ok-a.a.0) (find (holds_byte (c.args.seg, c.args.off)) (busy_in (c.args.seg, extents_of c.args.seg (tiling c.args.extents.now.segs.items)))) c.in_ok-a.ensures.value in
    record {
      value = ap (λ (n : ℕ). Some (c.in_ok-a.a.0, c.args.off - n)) c.off.ensures ∙ at-found c.args.seg c.args.off c.in_ok-a.a.0 (layout_by c.args.extents.now.segs.items).blocks f.0 (block_at-there _ _ c.args.extents.now.kept c.args.seg c.args.off ∙ f.1) f.2;
      live = has-of _ _ c.in_ok-a.a.0 c.args.extents.now.kept c.in_ok-a.ensures.busy;
    }
