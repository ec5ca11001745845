use Rattle.vc_base.proofs.Common.{◌≡◌, ℕ, suc, ◌<◌, List, ◌++◌, length, get_or, drop, sym, ap, ◌∙◌, subst, add-one}
use Rattle.vc_best.proofs.Common.{Bytes, Extent, HaveRoom, IsThere, all_extents, counts_with, extents, extents_of, tiling}
use Rattle.vc_best.proofs.Along.{pair-at, there-at, tiling-next}
use Rattle.vc_best.proofs.Counts.{counted-append, room-front, room-rest}
use Rattle.vc_best.proofs.stat.count_all.Given.{Over}
use Rattle.vc_best.proofs.stat.count_all.Goals as goal
use Rattle.vc_best.proofs.stat.count_all.Goals.{After-number}

-- the segment that is counted, and the extents of those behind it
abbrev here : (g : Over) (c : After-number g) → Bytes
here g c = get_or c.args.extents.now.segs.items c.loop-segment.segment-index c.segment-item.result

abbrev rest : (g : Over) (c : After-number g) → List Extent
rest g c = all_extents (tiling (drop (suc c.loop-segment.segment-index) c.args.extents.now.segs.items))

within : (g : Over) (c : After-number g) → c.loop-segment.segment-index < length c.args.extents.now.segs.items
within g c = rw c.deref-segment-items.ensures.value at c.loop-segment-test.true

-- its number, its extents, and the room for them
number : (g : Over) (c : After-number g) → c.number.result ≡ (here g c).number
number g c = c.number.ensures ∙ ap (λ (b : Bytes). b.number) (rw c.deref-segment-items.ensures.value at c.segment-item.is)

own : (g : Over) (c : After-number g) → extents_of c.number.result (tiling c.args.extents.now.segs.items) ≡ extents (here g c).bytes
own g c =
    let e = c.args.extents.now in
    ap (λ (q : ℕ × List Extent). q.1) (pair-at e.segs.items e.index.items c.loop-segment.segment-index c.segment-item.result c.number.result e.kept (within g c) (number g c))

left : (g : Over) (c : After-number g) → all_extents (tiling (drop c.loop-segment.segment-index c.args.extents.now.segs.items)) ≡ extents (here g c).bytes ++ rest g c
left g c = ap all_extents (tiling-next c.args.extents.now.segs.items c.loop-segment.segment-index c.segment-item.result (within g c))

room : (g : Over) (c : After-number g) → HaveRoom c.loop-segment.counts (extents (here g c).bytes ++ rest g c)
room g c = subst (HaveRoom c.loop-segment.counts) (left g c) c.loop-segment.invariant.room

pub count_segment-counts-requires-clause-there : goal.count_segment-counts-requires-clause-there
count_segment-counts-requires-clause-there g c =
    let n = (goal.at.count_segment-counts-requires-clause-there g c).After-number in
    subst (λ (m : ℕ). IsThere m c.args.extents.now.segs.items) (sym (number g n)) (there-at c.args.extents.now.segs.items c.loop-segment.segment-index c.segment-item.result (within g n))

pub count_segment-counts-requires-clause-room : goal.count_segment-counts-requires-clause-room
count_segment-counts-requires-clause-room g c =
    let n = (goal.at.count_segment-counts-requires-clause-room g c).After-number in
    subst (HaveRoom c.loop-segment.counts) (sym (own g n)) (room-front c.loop-segment.counts (extents (here g n).bytes) (rest g n) (room g n))

pub loop-segment-preserved : goal.loop-segment-preserved
loop-segment-preserved g c =
    let n = (goal.at.loop-segment-preserved g c).After-number in
    let es = extents (here g n).bytes in
    let now : c.count_segment-counts.result ≡ counts_with c.loop-segment.counts es = c.count_segment-counts.ensures ∙ ap (counts_with c.loop-segment.counts) (own g n) in
    rw add-one
    record {
      room = subst (λ k. HaveRoom k (rest g n)) (sym now) (room-rest c.loop-segment.counts es (rest g n) (room g n));
      rest =
          ap (λ k. counts_with k (rest g n)) now
          ∙ (sym (counted-append c.loop-segment.counts es (rest g n))
          ∙ (ap (counts_with c.loop-segment.counts) (sym (left g n)) ∙ c.loop-segment.invariant.rest));
    }
