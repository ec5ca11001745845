-- Ranges of the block at an address.
use Rattle.vc_base.proofs.Common.{◌≡◌, ℕ, ◌+◌, ◌<◌, ◌≤◌, List, length, take, drop, IfSome, Some, Option, option_map, sym, ap, ◌∙◌, subst, arith, place_of, Block, HasBlock, HasRange, find_block}
use Rattle.vc_base.proofs.Overwrites.{part-of-part}
use Rattle.vc_base.proofs.Places.{span-least}
use Rattle.vc_seg.specs.Segment.{Bytes}
use Rattle.vc_seg.proofs.BytesByNumber.{bytes_of_number-most}
use Rattle.vc_last.specs.Chain.{IsLast}
use Rattle.vc_last.specs.Head.{block_of, bytes_at}
use Rattle.vc_last.specs.Read.{layout_by}
use Rattle.vc_last.proofs.Moves.{found-by, found-layout}

-- the range lies in the segment of its block
pub record RangeIn (o : List Bytes) (a off len : ℕ) : Type 0 where
  pub fits : off + len ≤ (block_of o a).size
  pub there : 0 < length (bytes_at o a)
  pub within : (place_of a).1 + off + len ≤ length (bytes_at o a)
  pub below : (place_of a).1 + off + len ≤ 33554432

module _ (o : List Bytes) (q a off len : ℕ) (h : IsLast o q) (live : HasBlock (layout_by o q).blocks a) (range : HasRange (layout_by o q).blocks a off len) where
  pub range-in : RangeIn o a off len
  range-in =
      let head = (found-by o q a h live).head in
      let inside : off + len ≤ (block_of o a).size = subst (λ (x : Option (Block ℕ)). IfSome x (λ b. off + len ≤ b.size)) (found-layout o q a h live) range in
      record {
        fits = inside;
        there = omega (arith, head.within, head.first);
        within = omega (arith, head.within, inside, span-least (block_of o a).size);
        below = omega (arith, head.within, inside, bytes_of_number-most (place_of a).0 o h.segments.legal, span-least (block_of o a).size);
      }

  pub read-in : option_map (λ b. take len (drop off b.bytes)) (find_block (place_of a) (layout_by o q).blocks) ≡ Some (take len (drop ((place_of a).1 + off) (bytes_at o a)))
  read-in = ap (option_map (λ (b : Block ℕ). take len (drop off b.bytes))) (found-layout o q a h live) ∙ ap Some (sym (part-of-part (bytes_at o a) (place_of a).1 (block_of o a).size off len range-in.fits))
