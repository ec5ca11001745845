use Rattle.vc_base.proofs.Common.{ℕ, List, [], map, length, sum, sym, ap, ◌∙◌, subst, arith, length-map}
use Rattle.vc_best.proofs.Common.{Bytes, pair_of}
use Rattle.vc_seg.specs.Tally.{HasRoom, tally_of}
use Rattle.vc_seg.proofs.Tallies.{tally_of-bytes, tally_of-count}
use Rattle.vc_best.proofs.Counting.{blocks-bytes, blocks-count, blocks-most, gaps-bytes, gaps-count, gaps-most, room-all, room-segments}
use Rattle.vc_best.proofs.EmptySegments.{segments-of}
use Rattle.vc_best.proofs.Lends.{segments-by}
use Rattle.vc_best.proofs.stat.stat.Goals as goal

pub count_all-counts-requires : goal.count_all-counts-requires
count_all-counts-requires g c = record { room = room-all c.args.extents.now.segs.items c.args.extents.now.index.items c.args.extents.now.kept }

pub tally_segments-segments-requires : goal.tally_segments-segments-requires
tally_segments-segments-requires g c = subst (λ (bs : List Bytes). HasRoom (tally_of []) (map (λ s. s.1) (map pair_of bs))) (sym c.deref.ensures.value) (room-segments c.args.extents.now.segs.items c.args.extents.now.index.items c.args.extents.now.kept)

pub overflow_cast-result : goal.overflow_cast-result
overflow_cast-result g c =
    let ss = map pair_of c.args.extents.now.segs.items in
    let segs = c.tally_segments-segments.ensures ∙ ap (λ (bs : List Bytes). tally_of (map (λ s. s.1) (map pair_of bs))) c.deref.ensures.value in
    let n = ap (λ t. t.count) segs ∙ tally_of-count (map (λ (s : ℕ × ℕ). s.1) ss) in
    let long = length-map ss (λ (s : ℕ × ℕ). s.1) ∙ length-map c.args.extents.now.segs.items pair_of in
    let few = (segments-of c.args.extents.now.segs.items c.args.extents.now.index.items c.args.extents.now.kept).few in
    omega arith

pub returns : goal.returns
returns g c =
    let ss = map pair_of c.args.extents.now.segs.items in
    let m = c.requires in
    let counts = c.count_all-counts.ensures in
    let segs = c.tally_segments-segments.ensures ∙ ap (λ (bs : List Bytes). tally_of (map (λ s. s.1) (map pair_of bs))) c.deref.ensures.value in
    let sizes = map (λ (s : ℕ × ℕ). s.1) ss in
    let busy = ap (λ k. k.blocks.count) counts ∙ blocks-count c.args.extents.now.segs.items c.args.extents.now.index.items c.args.extents.now.kept in
    let sbusy = ap (λ k. k.blocks.bytes) counts ∙ blocks-bytes c.args.extents.now.segs.items c.args.extents.now.index.items c.args.extents.now.kept in
    let mbusy = ap (λ k. k.blocks.most) counts ∙ blocks-most c.args.extents.now.segs.items c.args.extents.now.index.items c.args.extents.now.kept in
    let free = ap (λ k. k.gaps.count) counts ∙ gaps-count c.args.extents.now.segs.items c.args.extents.now.index.items c.args.extents.now.kept m in
    let sfree = ap (λ k. k.gaps.bytes) counts ∙ gaps-bytes c.args.extents.now.segs.items c.args.extents.now.index.items c.args.extents.now.kept m in
    let mfree = ap (λ k. k.gaps.most) counts ∙ gaps-most c.args.extents.now.segs.items c.args.extents.now.index.items c.args.extents.now.kept m in
    let count = ap (λ t. t.count) segs ∙ (tally_of-count sizes ∙ (length-map ss (λ (s : ℕ × ℕ). s.1) ∙ ap length (sym (segments-by c.args.extents.now.segs.items)))) in
    let extent = ap (λ t. t.bytes) segs ∙ (tally_of-bytes sizes ∙ ap (λ (qs : List (ℕ × ℕ)). sum (map (λ (s : ℕ × ℕ). s.1) qs)) (sym (segments-by c.args.extents.now.segs.items))) in
    λ i. record { busy = busy i; free = free i; sbusy = sbusy i; sfree = sfree i; mbusy = mbusy i; mfree = mfree i; segs = count i; extent = extent i }
