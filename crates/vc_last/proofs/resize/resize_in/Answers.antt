use Rattle.vc_base.proofs.Common.{◌≡◌, ℕ, List, map, sym, ap, ◌∙◌, subst, place_of, Layout, footprint, is_usable, resize_there, sized_block}
use Rattle.vc_seg.specs.Segment.{Bytes, pair_of}
use Rattle.vc_last.specs.Head.{block_of}
use Rattle.vc_last.specs.Read.{layout_by}
use Rattle.vc_last.proofs.Calls.{resize-as, resize-fixed, resize-not_last, resize-other, sized-others, sized-there, stays-fixed, stays-put}
use Rattle.vc_last.proofs.Moves.{found-head, some-latest}
use Rattle.vc_last.proofs.Puts.{unasked}
use Rattle.vc_last.proofs.resize.resize_in.Goals as goal
use Rattle.vc_last.proofs.resize.resize_in.Goals.{After-can_end, After-resize_there}
use Rattle.vc_last.proofs.resize.resize_in.Given.{Over}

pub returns-then-a-at-clause-resize : goal.returns-then-a-at-clause-resize
returns-then-a-at-clause-resize g c =
    resize-not_last c.args.a.0 c.args.size c.args.may_move (layout_by c.args.segs.now.items c.args.at.now.0) _
    (resize-other c.args.segs.now.items c.args.at.now.0 c.args.a.0 _ c.args.size c.args.may_move c.requires.kept.last c.requires.block c.if-a-at.true)

pub can_end-requires-clause-block : goal.can_end-requires-clause-block
can_end-requires-clause-block g c = rw c.deref.ensures.value (found-head c.args.segs.now.items c.args.at.now.0 c.args.a.0 c.requires.kept.last c.requires.block)

-- whether it has room where it is
ends : (g : Over) (c : After-can_end g) → is_usable (map pair_of c.args.segs.now.items) (footprint (sized_block c.args.size (block_of c.args.segs.now.items c.args.a.0))) ≡ c.can_end.result
ends g c = sym (c.can_end.ensures ∙ ap (λ (xs : List Bytes). is_usable (map pair_of xs) (footprint (sized_block c.args.size (block_of xs c.args.a.0)))) c.deref.ensures.value)

pub resize_there-requires-clause-block : goal.resize_there-requires-clause-block
resize_there-requires-clause-block g c = λ z. some-latest c.args.segs.now.items c.args.at.now.0 c.args.a.0 c.requires.block (sym c.if-a-at.false ∙ z)

resized : (g : Over) (c : After-resize_there g) → layout_by c.resize_there.new.segs.items c.args.at.now.0 ≡ resize_there (layout_by c.args.segs.now.items c.args.at.now.0) (place_of c.args.a.0) c.args.size
resized g c = subst (λ k. layout_by c.resize_there.new.segs.items k ≡ resize_there (layout_by c.args.segs.now.items k) (place_of c.args.a.0) c.args.size) c.if-a-at.false c.resize_there.ensures.layout

pub returns-then-can_end-clause-resize : goal.returns-then-can_end-clause-resize
returns-then-can_end-clause-resize g c =
    let at = goal.at.returns-then-can_end-clause-resize g c in
    let old : Layout ℕ = layout_by c.args.segs.now.items c.args.at.now.0 in
    let new : Layout ℕ = layout_by c.resize_there.new.segs.items c.args.at.now.0 in
    let is = resized g at.After-resize_there in
    record {
      answer = stays-put c.args.segs.now.items c.args.at.now.0 c.args.a.0 c.requires.kept.last c.requires.block c.if-a-at.false _ c.args.size c.args.may_move new (ends g at.After-can_end ∙ c.if-can_end.true) is;
      disc = unasked _ old.segments new.segments _ (ap (λ (r : Layout ℕ). r.segments) is);
      no_memory = λ e. absurd (cc);
      kept = record { label = sized-there old new c.args.a.0 c.args.size is; others = sized-others old new c.args.a.0 c.args.size is };
    }

pub returns-then-not-may_move-clause-resize : goal.returns-then-not-may_move-clause-resize
returns-then-not-may_move-clause-resize g c =
    let at = goal.at.returns-then-not-may_move-clause-resize g c in
    resize-fixed c.args.a.0 c.args.size c.args.may_move (layout_by c.args.segs.now.items c.args.at.now.0) _
    (stays-fixed c.args.segs.now.items c.args.at.now.0 c.args.a.0 c.requires.kept.last c.requires.block c.if-a-at.false _ c.args.size c.args.may_move c.if-not-may_move.true (ends g at.After-can_end ∙ c.if-can_end.false))

pub move_latest-requires-clause-block : goal.move_latest-requires-clause-block
move_latest-requires-clause-block g c = some-latest c.args.segs.now.items c.args.at.now.0 c.args.a.0 c.requires.block

pub returns-clause-resize : goal.returns-clause-resize
returns-clause-resize g c = resize-as c.args.a.0 c.args.at.now.0 c.args.size c.args.may_move _ _ _ _ _ c.if-a-at.false c.if-not-may_move.false c.move_latest.ensures.resize
