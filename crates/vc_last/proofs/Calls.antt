-- What a call on the block at an address answers, where that is the latest, and where it isn't.
use Rattle.vc_base.proofs.Common.{◌≡◌, ℕ, Bool, true, false, ◌≢◌, List, map, length, IfSome, Some, Err, Result, option_map, sym, refl, ap, ◌∙◌, subst, arith, length_push, same_Some, address, place_of, without_block_at, Discipline, Terms, can_end, last_free, last_need, last_resize, latest, resize_latest, Block, Layout, footprint, without_block, Done, Fixed, NotLast, Outcome, Put, Refused, is_usable, resize_there, sized_block, stays, HasBlock, find_block}
use Rattle.vc_base.specs.declared.addr.Addr.{Addr}
use Rattle.vc_base.proofs.Places.{at-place}
use Rattle.vc_seg.specs.Answer.{IsPut}
use Rattle.vc_seg.specs.declared.fault.RegionFault.{RegionFault}
use Rattle.vc_seg.specs.declared.fault.RegionFault.TheVariants as code
use Rattle.vc_seg.proofs.Segments.{Served-same}
use Rattle.vc_seg.specs.OneBlock.{IsBlockFreed}
use Rattle.vc_last.specs.Call.{IsResize}
use Rattle.vc_seg.specs.Segment.{Bytes, pair_of}
use Rattle.vc_last.specs.Chain.{IsLast, blocks_from}
use Rattle.vc_last.specs.Head.{before_of, block_of}
use Rattle.vc_last.specs.Read.{layout_by}
use Rattle.vc_last.proofs.Latest.{IsExact-front, IsLatestAt, call-latest, call-other, freed-latest, none-there, without-latest}
use Rattle.vc_seg.proofs.Resizes.{others-sized, there-sized}
use Rattle.vc_last.proofs.Resizes.{there-latest}
use Rattle.vc_last.proofs.Allocations.{row}
use Rattle.vc_last.proofs.Chains.{chain-heads, head-exact, latest-some}
use Rattle.vc_last.proofs.Changes.{elsewhere-latest, here-latest}
use Rattle.vc_last.proofs.Kept.{layout-from, row-by}
use Rattle.vc_last.proofs.Moves.{blocks-latest, latest-found, latest-is, not-latest, some-latest}

-- the latest block is freed
pub record IsLatestFreed (o : List Bytes) (q a p : ℕ) : Type 0 where
  pub kept : IsLast o p
  pub answer : last_free (layout_by o q) (place_of a) ≡ Done (layout_by o p)
  pub freed : IsBlockFreed a (layout_by o q).blocks (layout_by o p).blocks

freed-at : (o : List Bytes) (q : ℕ) → IsLast o q → q ≢ 0 → IsLatestFreed o q q (before_of o q)
freed-at o q h some =
    let z = latest-some o q some h in
    let r : Layout ℕ = layout_by o q in
    let l = latest-found o q h some in
    let front : List (Block ℕ) = blocks_from o (before_of o q) in
    let left : without_block (place_of q) (layout_by o q).blocks ≡ blocks_from o (before_of o q) = ap (without_block (place_of q)) (blocks-latest o q h some) ∙ without-latest (place_of q) (block_of o q) (here-latest o q h some) (blocks_from o (before_of o q)) (elsewhere-latest o q h some) in
    let new : (layout_by o (before_of o q)).blocks ≡ blocks_from o (before_of o q) = ap (λ (s : Layout ℕ). s.blocks) (layout-from o (before_of o q)) in
    let segments : (layout_by o q).segments ≡ map pair_of o = ap (λ (s : Layout ℕ). s.segments) (layout-from o q) in
    let is : without_block_at (layout_by o q) (place_of q) ≡ layout_by o (before_of o q) =
    ap (λ ss. row ss (without_block (place_of q) (layout_by o q).blocks)) segments ∙ (ap (row (map pair_of o)) left ∙ sym (layout-from o (before_of o q))) in
    let heads = chain-heads o 0 (before_of o q) (blocks_from o (before_of o q)) z.kept.chain in
    record {
      kept = z.kept;
      answer = call-latest r (place_of q) (λ (b : Block ℕ). Done (without_block_at (layout_by o q) (place_of q))) l ∙ ap Done is;
      freed =
          record {
            one_less = omega (arith, ap length new, ap length (blocks-latest o q h some), length_push front (block_of o q));
            freed = λ i lt at. new ∙ (sym left ∙ freed-latest r q i l (IsExact-front r (place_of q) l (row-by o q h)) lt at);
            none_left = subst (λ (bs : List (Block ℕ)). ¬ HasBlock bs q) (sym new) (none-there front q (λ k d lt. head-exact o _ (heads k d lt)) (elsewhere-latest o q h some));
          };
    }

pub freed-of : (o : List Bytes) (q a p : ℕ) → IsLast o q → HasBlock (layout_by o q).blocks a → a ≡ q → p ≡ before_of o a → IsLatestFreed o q a p
freed-of o q a p h live e is = subst (λ b. IsLatestFreed o q b p) (sym e) (subst (IsLatestFreed o q q) (sym (is ∙ ap (before_of o) e)) (freed-at o q h (some-latest o q a live)))

-- the latest block is at that address
module _ (o : List Bytes) (q a : ℕ) (h : IsLast o q) (live : HasBlock (layout_by o q).blocks a) (e : a ≡ q) where
  pub latest-there : IsLatestAt (layout_by o q) (place_of a)
  latest-there = subst (λ b. IsLatestAt (layout_by o q) (place_of b)) (sym e) (latest-found o q h (some-latest o q a live))

  pub end-there : (size : ℕ) (can : Bool) → is_usable (map pair_of o) (footprint (sized_block size (block_of o a))) ≡ can → can_end (layout_by o q) size latest-there.block ≡ can
  end-there size can u =
      let same : latest-there.block ≡ block_of o a = same_Some latest-there.block (block_of o a) (sym latest-there.is ∙ (latest-is o q h (some-latest o q a live) ∙ ap (λ b. Some (block_of o b)) (sym e))) in
      ap (can_end (layout_by o q) size) same ∙ (ap (λ (r : Layout ℕ). is_usable r.segments (footprint (sized_block size (block_of o a)))) (layout-from o q) ∙ u)

  module _ (terms : Terms) (size : ℕ) where
    pub stays-put : (may : Bool) (new : Layout ℕ) → is_usable (map pair_of o) (footprint (sized_block size (block_of o a))) ≡ true → new ≡ resize_there (layout_by o q) (place_of a) size → IsPut (last_resize terms (layout_by o q) (place_of a) size may false) a new
    stays-put may new u is =
        let can = end-there size true u in
        let at : (latest-there.block.seg, latest-there.block.off) ≡ place_of a = at-place (place_of a) latest-there.block latest-there.here in
        let call : resize_latest terms (layout_by o q) size may false latest-there.block ≡ stays (layout_by o q) size latest-there.block = rw can refl in
        let own : a ≡ address (latest-there.block.seg, latest-there.block.off) = sym (ap address at ∙ omega arith) in
        subst (λ (x : Outcome (Put (Layout ℕ))). IsPut x a new) (sym (call-latest (layout_by o q) (place_of a) (resize_latest terms (layout_by o q) size may false) latest-there ∙ call))
        (own, at, is ∙ ap (λ p. resize_there (layout_by o q) p size) (sym at))

    pub stays-fixed : (may : Bool) → may ≡ false → is_usable (map pair_of o) (footprint (sized_block size (block_of o a))) ≡ false → last_resize terms (layout_by o q) (place_of a) size may false ≡ Refused Fixed
    stays-fixed may stuck u =
        let can = end-there size false u in
        let call : resize_latest terms (layout_by o q) size may false latest-there.block ≡ Refused Fixed = rw can (rw stuck refl) in
        call-latest (layout_by o q) (place_of a) (resize_latest terms (layout_by o q) size may false) latest-there ∙ call

  pub ends-there : (size : ℕ) → is_usable (map pair_of o) (footprint (sized_block size (block_of o a))) ≡ false → IfSome (find_block (place_of a) (layout_by o q).blocks) (λ b. (latest (layout_by o q) ≡ Some b) × (can_end (layout_by o q) size b ≡ false))
  ends-there size u = there-latest (layout_by o q) (place_of a) latest-there size false (ap (option_map (can_end (layout_by o q) size)) latest-there.is ∙ ap Some (end-there size false u))

-- it is another
pub resize-other : (o : List Bytes) (q a : ℕ) (terms : Terms) (size : ℕ) (may : Bool) → IsLast o q → HasBlock (layout_by o q).blocks a → a ≢ q → last_resize terms (layout_by o q) (place_of a) size may false ≡ Refused NotLast
resize-other o q a terms size may h live other = call-other (layout_by o q) (place_of a) (resize_latest terms (layout_by o q) size may false) (not-latest o q a h live other)

pub free-other : (o : List Bytes) (q a : ℕ) → IsLast o q → HasBlock (layout_by o q).blocks a → a ≢ q → last_free (layout_by o q) (place_of a) ≡ Refused NotLast
free-other o q a h live other = call-other (layout_by o q) (place_of a) (λ (b : Block ℕ). Done (without_block_at (layout_by o q) (place_of a))) (not-latest o q a h live other)

-- a resize that is refused without asking for a segment leaves all as it was
module _ (a size : ℕ) (may : Bool) (r : Layout ℕ) (d : Discipline) where
  pub resize-not_last : last_resize d.terms r (place_of a) size may false ≡ Refused NotLast → IsResize a size may (Err code.NotLast) r r d d
  resize-not_last e =
      record {
        answer = (e, refl);
        disc = Served-same d r.segments (last_need d.terms size);
        no_memory = λ z. absurd (cc);
        kept = tt;
      }

  pub resize-fixed : last_resize d.terms r (place_of a) size may false ≡ Refused Fixed → IsResize a size may (Err code.Fixed) r r d d
  resize-fixed e =
      record {
        answer = (e, refl);
        disc = Served-same d r.segments (last_need d.terms size);
        no_memory = λ z. absurd (cc);
        kept = tt;
      }

-- a resize of the latest block that may move is one of the block at its address
pub resize-as : (a q size : ℕ) (may : Bool) (result : Result Addr RegionFault) (r new : Layout ℕ) (d e : Discipline) → a ≡ q → may ≡ true → IsResize q size true result r new d e → IsResize a size may result r new d e
resize-as a q size may result r new d e own free h = subst (λ b. IsResize b size may result r new d e) (sym own) (subst (λ m. IsResize q size m result r new d e) (sym free) h)

-- what a resize leaves of the others
pub sized-others : (r new : Layout ℕ) (a size : ℕ) → new ≡ resize_there r (place_of a) size → without_block (place_of a) new.blocks ≡ without_block (place_of a) r.blocks
sized-others r new a size e = ap (λ (s : Layout ℕ). without_block (place_of a) s.blocks) e ∙ others-sized size (place_of a) r.blocks

pub sized-there : (r new : Layout ℕ) (a size : ℕ) → new ≡ resize_there r (place_of a) size → option_map (λ (b : Block ℕ). b.label) (find_block (place_of a) new.blocks) ≡ option_map (λ (b : Block ℕ). b.label) (find_block (place_of a) r.blocks)
sized-there r new a size e = ap (λ (s : Layout ℕ). option_map (λ (b : Block ℕ). b.label) (find_block (place_of a) s.blocks)) e ∙ there-sized size (place_of a) r.blocks
