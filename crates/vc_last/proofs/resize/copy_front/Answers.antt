use Rattle.vc_base.proofs.Common.{◌≡◌, ℕ, ◌+◌, ◌<◌, ◌≤◌, min, List, ◌++◌, length, take, drop, sym, ap, ◌∙◌, subst, arith, length-drop, length-take-le, places, same_lists, with_items_is, place_of, HasBlock, with_bytes_at}
use Rattle.vc_seg.specs.Segment.{Bytes}
use Rattle.vc_last.specs.Chain.{IsLast}
use Rattle.vc_last.specs.Head.{block_of, bytes_at}
use Rattle.vc_last.specs.Read.{layout_by}
use Rattle.vc_base.proofs.Places.{span-least}
use Rattle.vc_seg.specs.Memory.{write_segment}
use Rattle.vc_seg.proofs.Segments.{bytes_of_number-write}
use Rattle.vc_last.proofs.Bodies.{layout-written}
use Rattle.vc_last.proofs.Moves.{among-from, found-by, found-head}
use Rattle.vc_last.proofs.Writes.{stays-written}
use Rattle.vc_last.proofs.resize.copy_front.Goals as goal
use Rattle.vc_last.proofs.resize.copy_front.Goals.{After-min-kept, After-copy_in}

-- the first bytes of a range
front-range : (bytes : List ℕ) (from held size kept : ℕ) → kept ≡ min held size → take kept (drop from bytes) ≡ take size (take held (drop from bytes))
front-range bytes from held size kept is = same_lists _ _ (grind (arith, places)) (λ i d lt. grind (arith, places))

pub size_at-requires : goal.size_at-requires
size_at-requires c = rw c.deref.ensures.value (found-head c.args.segs.now.items c.args.to.0 c.args.a.0 c.requires.kept.last c.requires.block)

-- both ranges lie in their segments
record Ranges (o : List Bytes) (a to kept : ℕ) : Type 0 where
  from-some : 0 < length (bytes_at o a)
  to-some : 0 < length (bytes_at o to)
  from : (place_of a).1 + kept ≤ length (bytes_at o a)
  into : (place_of to).1 + kept ≤ length (bytes_at o to)

ranges : (o : List Bytes) (a to size kept : ℕ) → IsLast o to → HasBlock (layout_by o to).blocks a → HasBlock (layout_by o to).blocks to → size ≤ (block_of o to).size → kept ≡ min (block_of o a).size size → Ranges o a to kept
ranges o a to size kept h live there room held =
    let s = (found-by o to a h live).head in
    let t = (found-by o to to h there).head in
    let small : kept ≤ (block_of o a).size = omega (arith, held) in
    let fits : kept ≤ (block_of o to).size = omega (arith, held, room) in
    record {
      from-some = omega (arith, s.within, s.first);
      to-some = omega (arith, t.within, t.first);
      from = omega (arith, s.within, small, span-least (block_of o a).size);
      into = omega (arith, t.within, fits, span-least (block_of o to).size);
    }

held : (c : After-min-kept) → c.min-kept.result ≡ min (block_of c.args.segs.now.items c.args.a.0).size c.args.size
held c = c.min-kept.ensures ∙ ap (λ k. min k c.args.size) (c.size_at.ensures.value ∙ ap (λ (xs : List Bytes). (block_of xs c.args.a.0).size) c.deref.ensures.value)

both : (c : After-min-kept) → Ranges c.args.segs.now.items c.args.a.0 c.args.to.0 c.min-kept.result
both c = ranges c.args.segs.now.items c.args.a.0 c.args.to.0 c.args.size c.min-kept.result c.requires.kept.last c.requires.block c.requires.to c.requires.room (held c)

pub copy_in-requires-clause-source : goal.copy_in-requires-clause-source
copy_in-requires-clause-source c = rw (c.seg.ensures, c.deref_mut.ensures.value) (both (goal.at.copy_in-requires-clause-source c).After-min-kept).from-some

pub copy_in-requires-clause-target : goal.copy_in-requires-clause-target
copy_in-requires-clause-target c = rw (c.seg-2.ensures, c.deref_mut.ensures.value) (both (goal.at.copy_in-requires-clause-target c).After-min-kept).to-some

pub copy_in-requires-clause-from : goal.copy_in-requires-clause-from
copy_in-requires-clause-from c = rw (c.seg.ensures, c.off.ensures, c.deref_mut.ensures.value) (both (goal.at.copy_in-requires-clause-from c).After-min-kept).from

pub copy_in-requires-clause-to : goal.copy_in-requires-clause-to
copy_in-requires-clause-to c = rw (c.seg-2.ensures, c.off-2.ensures, c.deref_mut.ensures.value) (both (goal.at.copy_in-requires-clause-to c).After-min-kept).into

-- what is copied
abbrev front : List Bytes → ℕ → ℕ → List ℕ
front o a kept = take kept (drop (place_of a).1 (bytes_at o a))

after : (c : After-copy_in) → take c.args.segs.now.len (c.copy_in.new.segs ++ drop (length c.copy_in.new.segs) c.args.segs.now.items) ≡ write_segment (place_of c.args.to.0).0 (place_of c.args.to.0).1 (front c.args.segs.now.items c.args.a.0 c.min-kept.result) c.args.segs.now.items
after c =
    with_items_is c.args.segs.now c.copy_in.new.segs (omega (arith, c.copy_in.auto.segs, c.deref_mut.ensures.len))
    ∙ (rw (← c.seg.ensures, ← c.off.ensures, ← c.seg-2.ensures, ← c.off-2.ensures, ← c.deref_mut.ensures.value) c.copy_in.ensures)

copied : (o : List Bytes) (to : ℕ) (src : List ℕ) → IsLast o to → HasBlock (layout_by o to).blocks to → 0 < length (bytes_at o to) → (place_of to).1 + length src ≤ length (bytes_at o to) → length src ≤ (block_of o to).size →
    IsLast (write_segment (place_of to).0 (place_of to).1 src o) to × (layout_by (write_segment (place_of to).0 (place_of to).1 src o) to ≡ with_bytes_at (layout_by o to) (place_of to) 0 src)
copied o to src h there some into fits =
    let zero : (place_of to).1 + 0 ≡ (place_of to).1 = omega arith in
    let n : List Bytes = write_segment (place_of to).0 ((place_of to).1 + 0) src o in
    let room : (place_of to).1 + 0 + length src ≤ length (bytes_at o to) = omega (arith, into) in
    let within : 0 + length src ≤ (block_of o to).size = omega (arith, fits) in
    subst (λ k. IsLast (write_segment (place_of to).0 k src o) to × (layout_by (write_segment (place_of to).0 k src o) to ≡ with_bytes_at (layout_by o to) (place_of to) 0 src)) zero
    (layout-written o n to to 0 src h (among-from o to to there) within (stays-written (place_of to).0 ((place_of to).1 + 0) src o some room) (bytes_of_number-write (place_of to).0 ((place_of to).1 + 0) src o some))

written : (c : After-min-kept) → IsLast (write_segment (place_of c.args.to.0).0 (place_of c.args.to.0).1 (front c.args.segs.now.items c.args.a.0 c.min-kept.result) c.args.segs.now.items) c.args.to.0
    × (layout_by (write_segment (place_of c.args.to.0).0 (place_of c.args.to.0).1 (front c.args.segs.now.items c.args.a.0 c.min-kept.result) c.args.segs.now.items) c.args.to.0 ≡ with_bytes_at (layout_by c.args.segs.now.items c.args.to.0) (place_of c.args.to.0) 0 (front c.args.segs.now.items c.args.a.0 c.min-kept.result))
written c =
    let r = both c in
    let into = r.into in
    let from = r.from in
    let long : length (front c.args.segs.now.items c.args.a.0 c.min-kept.result) ≡ c.min-kept.result =
    length-take-le c.min-kept.result (drop (place_of c.args.a.0).1 (bytes_at c.args.segs.now.items c.args.a.0)) (omega (arith, from, length-drop (place_of c.args.a.0).1 (bytes_at c.args.segs.now.items c.args.a.0))) in
    copied c.args.segs.now.items c.args.to.0 (front c.args.segs.now.items c.args.a.0 c.min-kept.result) c.requires.kept.last c.requires.to r.to-some (omega (arith, into, long)) (omega (arith, held c, c.requires.room, long))

pub returns-clause-kept : goal.returns-clause-kept
returns-clause-kept c =
    let at = goal.at.returns-clause-kept c in
    record {
      last = subst (λ (xs : List Bytes). IsLast xs c.args.to.0) (sym (after at.After-copy_in)) (written at.After-min-kept).0;
      room = c.requires.kept.room;
    }

pub returns-clause-layout : goal.returns-clause-layout
returns-clause-layout c =
    let at = goal.at.returns-clause-layout c in
    ap (λ (xs : List Bytes). layout_by xs c.args.to.0) (after at.After-copy_in)
    ∙ ((written at.After-min-kept).1
    ∙ ap (with_bytes_at (layout_by c.args.segs.now.items c.args.to.0) (place_of c.args.to.0) 0)
    (front-range (bytes_at c.args.segs.now.items c.args.a.0) (place_of c.args.a.0).1 (block_of c.args.segs.now.items c.args.a.0).size c.args.size c.min-kept.result (held at.After-min-kept)))
