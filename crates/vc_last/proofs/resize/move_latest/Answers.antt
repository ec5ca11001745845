use Rattle.vc_base.proofs.Common.{◌≡◌, ℕ, false, ◌≢◌, List, take, IfSome, Some, option_map, sym, refl, ap, ◌∙◌, subst, place_of, without_block_at, Block, Layout, HasBlock, find_block, with_bytes_at}
use Rattle.vc_seg.specs.Segment.{Bytes}
use Rattle.vc_last.specs.Chain.{IsLast}
use Rattle.vc_last.specs.Head.{block_of}
use Rattle.vc_last.specs.Read.{layout_by}
use Rattle.vc_last.proofs.Allocs.{IsNew, alloc-new}
use Rattle.vc_last.proofs.Calls.{ends-there}
use Rattle.vc_last.proofs.Chains.{latest-head}
use Rattle.vc_last.proofs.Latest.{IsLatestAt}
use Rattle.vc_last.proofs.Moves.{IsMove, end-latest, found-layout, latest-among, latest-block, latest-found, before-copied, move-at, moved-own, refused-move}
use Rattle.vc_seg.proofs.Segments.{Served-later}
use Rattle.vc_last.proofs.Resizes.{moved-is, moved-others, moved-there, resize-moves}
use Rattle.vc_last.proofs.resize.move_latest.Goals as goal
use Rattle.vc_last.proofs.resize.move_latest.Goals.{After-copy_front, After-tag_at-tag, After-unlink}
use Rattle.vc_last.proofs.resize.move_latest.Given.{Over}

-- the latest block has that tag
record IsTagged (o : List Bytes) (q tag : ℕ) : Type 0 where
  at : IsLatestAt (layout_by o q) (place_of q)
  own : tag ≡ at.block.label
  label : option_map (λ b. b.label) (find_block (place_of q) (layout_by o q).blocks) ≡ Some tag

latest : (o : List Bytes) (q tag : ℕ) (xs : List Bytes) → IsLast o q → q ≢ 0 → xs ≡ o → tag ≡ (block_of xs q).label → IsTagged o q tag
latest o q tag xs h some same own =
    let l = latest-found o q h some in
    let is : tag ≡ (block_of o q).label = own ∙ ap (λ (ys : List Bytes). (block_of ys q).label) same in
    record {
      at = l;
      own = is ∙ ap (λ (b : Block ℕ). b.label) (sym (latest-block o q h some l));
      label = ap (option_map (λ (b : Block ℕ). b.label)) (found-layout o q q h (latest-among o q h some)) ∙ ap Some (sym is);
    }

pub tag_at-tag-requires : goal.tag_at-tag-requires
tag_at-tag-requires g c = rw c.deref.ensures.value (latest-head c.args.segs.now.items c.args.latest.now.0 c.requires.block c.requires.kept.last)

pub copy_front-requires-clause-block : goal.copy_front-requires-clause-block
copy_front-requires-clause-block g c = (move-at c.args.segs.now.items c.alloc_in.new.segs.items c.args.latest.now.0 c.in-Ok.to.0 c.alloc_in.new.latest.0 c.tag_at-tag.result c.args.size c.requires.kept.last c.requires.block c.in-Ok.ensures.kept.last c.in-Ok.ensures.latest (alloc-new _ (layout_by c.args.segs.now.items c.args.latest.now.0) c.tag_at-tag.result c.args.size c.in-Ok.to.0 (layout_by c.alloc_in.new.segs.items c.alloc_in.new.latest.0) c.in-Ok.ensures.alloc.answer) c.in-Ok.ensures.alloc.fresh).block

pub copy_front-requires-clause-to : goal.copy_front-requires-clause-to
copy_front-requires-clause-to g c = (move-at c.args.segs.now.items c.alloc_in.new.segs.items c.args.latest.now.0 c.in-Ok.to.0 c.alloc_in.new.latest.0 c.tag_at-tag.result c.args.size c.requires.kept.last c.requires.block c.in-Ok.ensures.kept.last c.in-Ok.ensures.latest (alloc-new _ (layout_by c.args.segs.now.items c.args.latest.now.0) c.tag_at-tag.result c.args.size c.in-Ok.to.0 (layout_by c.alloc_in.new.segs.items c.alloc_in.new.latest.0) c.in-Ok.ensures.alloc.answer) c.in-Ok.ensures.alloc.fresh).there

pub copy_front-requires-clause-room : goal.copy_front-requires-clause-room
copy_front-requires-clause-room g c = (move-at c.args.segs.now.items c.alloc_in.new.segs.items c.args.latest.now.0 c.in-Ok.to.0 c.alloc_in.new.latest.0 c.tag_at-tag.result c.args.size c.requires.kept.last c.requires.block c.in-Ok.ensures.kept.last c.in-Ok.ensures.latest (alloc-new _ (layout_by c.args.segs.now.items c.args.latest.now.0) c.tag_at-tag.result c.args.size c.in-Ok.to.0 (layout_by c.alloc_in.new.segs.items c.alloc_in.new.latest.0) c.in-Ok.ensures.alloc.answer) c.in-Ok.ensures.alloc.fresh).room

-- what was put, and that the latest block can move there
new : (g : Over) (c : After-copy_front g) → IsNew (layout_by c.args.segs.now.items c.args.latest.now.0) c.tag_at-tag.result c.args.size c.in-Ok.to.0 (layout_by c.alloc_in.new.segs.items c.alloc_in.new.latest.0)
new g c = alloc-new _ (layout_by c.args.segs.now.items c.args.latest.now.0) c.tag_at-tag.result c.args.size c.in-Ok.to.0 (layout_by c.alloc_in.new.segs.items c.alloc_in.new.latest.0) c.in-Ok.ensures.alloc.answer

move : (g : Over) (c : After-copy_front g) → IsMove c.alloc_in.new.segs.items c.args.latest.now.0 c.in-Ok.to.0 c.args.size
move g c = move-at c.args.segs.now.items c.alloc_in.new.segs.items c.args.latest.now.0 c.in-Ok.to.0 c.alloc_in.new.latest.0 c.tag_at-tag.result c.args.size c.requires.kept.last c.requires.block c.in-Ok.ensures.kept.last c.in-Ok.ensures.latest (alloc-new _ (layout_by c.args.segs.now.items c.args.latest.now.0) c.tag_at-tag.result c.args.size c.in-Ok.to.0 (layout_by c.alloc_in.new.segs.items c.alloc_in.new.latest.0) c.in-Ok.ensures.alloc.answer) c.in-Ok.ensures.alloc.fresh

pub unlink-requires-clause-to : goal.unlink-requires-clause-to
unlink-requires-clause-to g c = (move g (goal.at.unlink-requires-clause-to g c).After-copy_front).some

pub unlink-requires-clause-before : goal.unlink-requires-clause-before
unlink-requires-clause-before g c =
    let mv = move g (goal.at.unlink-requires-clause-before g c).After-copy_front in
    before-copied c.alloc_in.new.segs.items c.copy_front.new.segs.items c.args.latest.now.0 c.in-Ok.to.0 (take c.args.size (block_of c.alloc_in.new.segs.items c.args.latest.now.0).bytes) (subst (IsLast c.alloc_in.new.segs.items) c.in-Ok.ensures.latest c.in-Ok.ensures.kept.last) mv.some c.requires.block mv.before c.copy_front.ensures.kept.last c.copy_front.ensures.layout

-- the region then, by the block that moved
own : (g : Over) (c : After-unlink g) → HasBlock (layout_by c.alloc_in.new.segs.items c.in-Ok.to.0).blocks c.args.latest.now.0 → IfSome (find_block (place_of c.args.latest.now.0) (layout_by c.alloc_in.new.segs.items c.alloc_in.new.latest.0).blocks) (λ b. (layout_by c.unlink.new.segs.items c.alloc_in.new.latest.0) ≡ without_block_at (with_bytes_at (layout_by c.alloc_in.new.segs.items c.alloc_in.new.latest.0) (place_of c.in-Ok.to.0) 0 (take c.args.size b.bytes)) (place_of c.args.latest.now.0))
own g c there = moved-own c.alloc_in.new.segs.items c.copy_front.new.segs.items c.unlink.new.segs.items c.args.latest.now.0 c.in-Ok.to.0 c.alloc_in.new.latest.0 c.args.size c.in-Ok.ensures.kept.last c.in-Ok.ensures.latest there c.copy_front.ensures.layout c.unlink.ensures.layout

-- the segments are those after the block was put
same : (g : Over) (c : After-unlink g) → (layout_by c.unlink.new.segs.items c.alloc_in.new.latest.0).segments ≡ (layout_by c.alloc_in.new.segs.items c.alloc_in.new.latest.0).segments
same g c =
    ap (λ j. (layout_by c.unlink.new.segs.items j).segments) c.in-Ok.ensures.latest
    ∙ (ap (λ (r : Layout ℕ). r.segments) (c.unlink.ensures.layout ∙ ap (λ (r : Layout ℕ). without_block_at r (place_of c.args.latest.now.0)) c.copy_front.ensures.layout)
    ∙ ap (λ j. (layout_by c.alloc_in.new.segs.items j).segments) (sym c.in-Ok.ensures.latest))

tagged : (g : Over) (c : After-tag_at-tag g) → IsTagged c.args.segs.now.items c.args.latest.now.0 c.tag_at-tag.result
tagged g c = latest c.args.segs.now.items c.args.latest.now.0 c.tag_at-tag.result c.deref.result.now c.requires.kept.last c.requires.block c.deref.ensures.value c.tag_at-tag.ensures

pub returns-in-Ok-clause-resize : goal.returns-in-Ok-clause-resize
returns-in-Ok-clause-resize g c =
    let at = goal.at.returns-in-Ok-clause-resize g c in
    let q : ℕ = c.args.latest.now.0 in
    let o : Layout ℕ = layout_by c.args.segs.now.items c.args.latest.now.0 in
    let m : Layout ℕ = layout_by c.alloc_in.new.segs.items c.alloc_in.new.latest.0 in
    let n : Layout ℕ = layout_by c.unlink.new.segs.items c.alloc_in.new.latest.0 in
    let l = tagged g at.After-tag_at-tag in
    let can = end-latest c.args.segs.now.items q c.requires.kept.last c.requires.block c.args.size false c.requires.ends l.at in
    let put = new g at.After-copy_front in
    let moved = own g at.After-unlink (move g at.After-copy_front).block in
    record {
      answer = resize-moves _ o m n q c.in-Ok.to.0 c.tag_at-tag.result c.args.size l.at can l.label c.in-Ok.ensures.alloc.answer (moved-is o m n q c.in-Ok.to.0 c.tag_at-tag.result c.args.size l.at put c.in-Ok.ensures.alloc.fresh moved);
      disc = Served-later _ _ o.segments m.segments n.segments _ (same g at.After-unlink) c.in-Ok.ensures.alloc.disc;
      no_memory = λ e. absurd (cc);
      kept = record { label = moved-there o m n q c.in-Ok.to.0 c.tag_at-tag.result c.args.size l.at put c.in-Ok.ensures.alloc.fresh moved l.label; others = moved-others o m n q c.in-Ok.to.0 c.tag_at-tag.result c.args.size l.at put c.in-Ok.ensures.alloc.fresh moved };
    }

pub returns-in-Err-clause-resize : goal.returns-in-Err-clause-resize
returns-in-Err-clause-resize g c =
    let l = tagged g (goal.at.returns-in-Err-clause-resize g c).After-tag_at-tag in
    record {
      answer = (refused-move _ (layout_by c.args.segs.now.items c.args.latest.now.0) c.args.latest.now.0 c.tag_at-tag.result c.args.size l.at (end-latest c.args.segs.now.items c.args.latest.now.0 c.requires.kept.last c.requires.block c.args.size false c.requires.ends l.at) l.own c.in-Err.fault c.in-Err.ensures.alloc.answer.0, c.in-Err.ensures.alloc.answer.1);
      disc = c.in-Err.ensures.alloc.disc;
      no_memory = λ e. record {
        must = ends-there c.args.segs.now.items c.args.latest.now.0 c.args.latest.now.0 c.requires.kept.last (latest-among c.args.segs.now.items c.args.latest.now.0 c.requires.kept.last c.requires.block) refl c.args.size c.requires.ends;
        moves = refl;
        lacks = c.in-Err.ensures.alloc.no_memory e;
      };
      kept = tt;
    }
