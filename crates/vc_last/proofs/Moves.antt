-- The latest block moves to where one was put.
use Rattle.vc_base.proofs.Common.{◌≡◌, ℕ, ◌<◌, ◌≤◌, Bool, true, false, ◌≢◌, List, [], ◌∷◌, ◌++◌, map, length, take, IfSome, Some, Option, sym, refl, ap, ◌∙◌, subst, ⊎_elim, arith, cases_Bool, get_or-map, length-map, length_push, same_Some, address, place_of, without_block_at, zeros, Terms, can_end, last_alloc, last_resize, latest, resize_latest, Block, Layout, address_of, footprint, is_at, is_usable, outcome_of_move, sized_block, HasBlock, change_block, find_block, rewritten_block, with_bytes_at}
use Rattle.vc_base.proofs.Places.{at-place}
use Rattle.vc_seg.specs.Answer.{IsRefusal}
use Rattle.vc_seg.specs.Segment.{Bytes, pair_of}
use Rattle.vc_seg.specs.declared.fault.RegionFault.{RegionFault}
use Rattle.vc_seg.specs.declared.fault.RegionFault.TheVariants as code
use Rattle.vc_last.specs.Allocation.{is_latest, is_one_at}
use Rattle.vc_last.specs.Chain.{IsLast, blocks_from}
use Rattle.vc_last.specs.Head.{HasHeadAt, before_of, block_of}
use Rattle.vc_last.specs.Read.{layout_by}
use Rattle.vc_last.proofs.Lists.{get_or-last, last_of-push}
use Rattle.vc_last.proofs.Allocs.{IsNew, new-among, new-found, old-among}
use Rattle.vc_last.proofs.Latest.{IsLatestAt, call-latest, change-last, latest-at}
use Rattle.vc_last.proofs.Allocations.{row}
use Rattle.vc_last.proofs.Chains.{head-some, latest-none, latest-some}
use Rattle.vc_last.proofs.Changes.{before-is, elsewhere-latest, here-latest}
use Rattle.vc_last.proofs.Kept.{StandsAt, layout-from, row-by, stands-at}

-- the block at the latest address is the latest of the layout
module _ (o : List Bytes) (q : ℕ) (h : IsLast o q) (some : q ≢ 0) where
  pub blocks-latest : (layout_by o q).blocks ≡ blocks_from o (before_of o q) ++ block_of o q ∷ []
  blocks-latest = ap (λ (r : Layout ℕ). r.blocks) (layout-from o q) ∙ (latest-some o q some h).blocks

  pub latest-is : latest (layout_by o q) ≡ Some (block_of o q)
  latest-is = ap (λ (bs : List (Block ℕ)). latest (row [] bs)) blocks-latest ∙ last_of-push (blocks_from o (before_of o q)) (block_of o q)

  pub latest-here : is_latest (layout_by o q) (place_of q) ≡ true
  latest-here = ap (is_one_at (place_of q)) latest-is ∙ here-latest o q h some

  pub latest-found : IsLatestAt (layout_by o q) (place_of q)
  latest-found = latest-at (layout_by o q) (place_of q) (row-by o q h) latest-here

  pub latest-block : (l : IsLatestAt (layout_by o q) (place_of q)) → l.block ≡ block_of o q
  latest-block l = same_Some l.block (block_of o q) (sym l.is ∙ latest-is)

  pub latest-among : HasBlock (layout_by o q).blocks q
  latest-among =
      let front : List (Block ℕ) = blocks_from o (before_of o q) in
      let b : Block ℕ = block_of o q in
      let all : List (Block ℕ) = front ++ b ∷ [] in
      let within : length front < length all = omega (arith, length_push front b) in
      subst (λ (bs : List (Block ℕ)). HasBlock bs q) (sym blocks-latest)
      (length front, omega (arith, within, length-map all address_of), get_or-map address_of all (length front) b q within ∙ (ap address_of (get_or-last front b b) ∙ (latest-some o q some h).at))

  pub end-latest : (size : ℕ) (can : Bool) → is_usable (map pair_of o) (footprint (sized_block size (block_of o q))) ≡ can → (l : IsLatestAt (layout_by o q) (place_of q)) → can_end (layout_by o q) size l.block ≡ can
  end-latest size can e l =
      ap (can_end (layout_by o q) size) (latest-block l) ∙ (ap (λ (r : Layout ℕ). is_usable r.segments (footprint (sized_block size (block_of o q)))) (layout-from o q) ∙ e)

pub among-from : (o : List Bytes) (q a : ℕ) → HasBlock (layout_by o q).blocks a → HasBlock (blocks_from o q) a
among-from o q a live = subst (λ (r : Layout ℕ). HasBlock r.blocks a) (layout-from o q) live

pub found-by : (o : List Bytes) (q a : ℕ) → IsLast o q → HasBlock (layout_by o q).blocks a → StandsAt o (blocks_from o q) a
found-by o q a h live = stands-at o q (blocks_from o q) a h (among-from o q a live)

pub found-head : (o : List Bytes) (q a : ℕ) → IsLast o q → HasBlock (layout_by o q).blocks a → HasHeadAt o a
found-head o q a h live = record { segments = h.segments; head = (found-by o q a h live).head }

pub found-layout : (o : List Bytes) (q a : ℕ) → IsLast o q → HasBlock (layout_by o q).blocks a → find_block (place_of a) (layout_by o q).blocks ≡ Some (block_of o a)
found-layout o q a h live = ap (λ (r : Layout ℕ). find_block (place_of a) r.blocks) (layout-from o q) ∙ (found-by o q a h live).found

-- what the put block makes possible
pub record IsMove (m : List Bytes) (q to size : ℕ) : Type 0 where
  pub block : HasBlock (layout_by m to).blocks q
  pub there : HasBlock (layout_by m to).blocks to
  pub room : size ≤ (block_of m to).size
  pub some : to ≢ 0
  pub before : before_of m to ≡ q

pub move-of : (o m : List Bytes) (q to tag size : ℕ) → IsLast o q → q ≢ 0 → IsLast m to → IsNew (layout_by o q) tag size to (layout_by m to) → ¬ HasBlock (layout_by o q).blocks to → IsMove m q to size
move-of o m q to tag size h some k n fresh =
    let r : Layout ℕ = layout_by o q in
    let mid : Layout ℕ = layout_by m to in
    let among = new-among r tag size to mid n fresh in
    let x = found-by m to to k among in
    let is : block_of m to ≡ zeros tag size (place_of to) = same_Some (block_of m to) (zeros tag size (place_of to)) (sym (found-layout m to to k among) ∙ new-found r tag size to mid n fresh) in
    let l = latest-some o q some h in
    let blocks : blocks_from m to ≡ (blocks_from o (before_of o q) ++ block_of o q ∷ []) ++ zeros tag size (place_of to) ∷ [] =
    ap (λ (s : Layout ℕ). s.blocks) (sym (layout-from m to)) ∙ (n.blocks ∙ ap (λ (bs : List (Block ℕ)). bs ++ zeros tag size (place_of to) ∷ []) (blocks-latest o q h some)) in
    record {
      block = old-among r tag size to mid n fresh q (latest-among o q h some);
      there = among;
      room = omega (arith, ap (λ (b : Block ℕ). b.size) is);
      some = λ z. omega (arith, z, x.at, head-some m (block_of m to) x.head);
      before = before-is m to (blocks_from o (before_of o q)) (block_of o q) (zeros tag size (place_of to)) k blocks ∙ l.at;
    }

pub move-at : (o m : List Bytes) (q to nl tag size : ℕ) → IsLast o q → q ≢ 0 → IsLast m nl → nl ≡ to → IsNew (layout_by o q) tag size to (layout_by m nl) → ¬ HasBlock (layout_by o q).blocks to → IsMove m q to size
move-at o m q to nl tag size h some k e n fresh = move-of o m q to tag size h some (subst (IsLast m) e k) (subst (λ j. IsNew (layout_by o q) tag size to (layout_by m j)) e n) fresh

-- the block before the latest stays that where bytes are written into the latest
pub before-copied : (m s : List Bytes) (q to : ℕ) (src : List ℕ) → IsLast m to → to ≢ 0 → q ≢ 0 → before_of m to ≡ q → IsLast s to → layout_by s to ≡ with_bytes_at (layout_by m to) (place_of to) 0 src → before_of s to ≡ q
before-copied m s q to src k some live before h is =
    let z = latest-some m to some k in
    let l = latest-some m q live (subst (IsLast m) before z.kept) in
    let f : Block ℕ → Block ℕ = rewritten_block 0 src in
    let blocks : blocks_from s to ≡ (blocks_from m (before_of m q) ++ block_of m q ∷ []) ++ rewritten_block 0 src (block_of m to) ∷ [] =
    ap (λ (r : Layout ℕ). r.blocks) (sym (layout-from s to) ∙ (is ∙ ap (λ (r : Layout ℕ). with_bytes_at r (place_of to) 0 src) (layout-from m to)))
    ∙ (ap (change_block (rewritten_block 0 src) (place_of to)) z.blocks
    ∙ (change-last (place_of to) (block_of m to) (here-latest m to k some) (rewritten_block 0 src) (blocks_from m (before_of m to)) (elsewhere-latest m to k some)
    ∙ ap (λ (bs : List (Block ℕ)). bs ++ rewritten_block 0 src (block_of m to) ∷ []) (ap (blocks_from m) before ∙ l.blocks))) in
    before-is s to (blocks_from m (before_of m q)) (block_of m q) (rewritten_block 0 src (block_of m to)) h blocks ∙ l.at

-- what moving leaves
pub moved-own : (m n s : List Bytes) (q to nl size : ℕ) → IsLast m nl → nl ≡ to → HasBlock (layout_by m to).blocks q → layout_by n to ≡ with_bytes_at (layout_by m to) (place_of to) 0 (take size (block_of m q).bytes) → layout_by s to ≡ without_block_at (layout_by n to) (place_of q) →
    IfSome (find_block (place_of q) (layout_by m nl).blocks) (λ b. layout_by s nl ≡ without_block_at (with_bytes_at (layout_by m nl) (place_of to) 0 (take size b.bytes)) (place_of q))
moved-own m n s q to nl size k e live copied gone =
    let there : HasBlock (layout_by m nl).blocks q = subst (λ j. HasBlock (layout_by m j).blocks q) (sym e) live in
    let src : List ℕ = take size (block_of m q).bytes in
    let is : layout_by s nl ≡ without_block_at (with_bytes_at (layout_by m nl) (place_of to) 0 (take size (block_of m q).bytes)) (place_of q) =
    ap (layout_by s) e ∙ (gone ∙ (ap (λ (r : Layout ℕ). without_block_at r (place_of q)) copied ∙ ap (λ j. without_block_at (with_bytes_at (layout_by m j) (place_of to) 0 (take size (block_of m q).bytes)) (place_of q)) (sym e))) in
    subst (λ (x : Option (Block ℕ)). IfSome x (λ b. layout_by s nl ≡ without_block_at (with_bytes_at (layout_by m nl) (place_of to) 0 (take size b.bytes)) (place_of q))) (sym (found-layout m nl q k there)) is

-- where no segment is lent for it, the resize is refused likewise
module _ (terms : Terms) (r : Layout ℕ) (a tag size : ℕ) (l : IsLatestAt r (place_of a)) (can : can_end r size l.block ≡ false) (own : tag ≡ l.block.label) where
  resized : (refused : Bool) → last_resize terms r (place_of a) size true refused ≡ outcome_of_move size l.block (last_alloc terms r tag size refused)
  resized refused =
      let call : resize_latest terms r size true refused l.block ≡ outcome_of_move size l.block (last_alloc terms r l.block.label size refused) = rw can refl in
      call-latest r (place_of a) (resize_latest terms r size true refused) l ∙ (call ∙ ap (λ k. outcome_of_move size l.block (last_alloc terms r k size refused)) (sym own))

  pub refused-move : (e : RegionFault) → IsRefusal (last_alloc terms r tag size) e → IsRefusal (last_resize terms r (place_of a) size true) e
  refused-move code.TooManySegments h = resized false ∙ ap (outcome_of_move size l.block) h
  refused-move code.NoSegment h = resized true ∙ ap (outcome_of_move size l.block) h
  refused-move code.OutOfMemory h = tt
  refused-move code.Fixed h = resized false ∙ ap (outcome_of_move size l.block) h
  refused-move code.PoolSize h = resized false ∙ ap (outcome_of_move size l.block) h
  refused-move code.NotLast h = resized false ∙ ap (outcome_of_move size l.block) h
  refused-move code.WrongMethod h = resized false ∙ ap (outcome_of_move size l.block) h

-- a region with a block has a latest one, and another block isn't it
pub some-latest : (o : List Bytes) (q a : ℕ) → HasBlock (layout_by o q).blocks a → q ≢ 0
some-latest o q a live z =
    let none : (layout_by o q).blocks ≡ [] = ap (λ (r : Layout ℕ). r.blocks) (layout-from o q) ∙ (ap (blocks_from o) z ∙ latest-none o) in
    let gone : HasBlock {L = ℕ} [] a = subst (λ (bs : List (Block ℕ)). HasBlock bs a) none live in
    let within : gone.0 < 0 = gone.1 in
    omega (arith, within)

pub not-latest : (o : List Bytes) (q a : ℕ) → IsLast o q → HasBlock (layout_by o q).blocks a → a ≢ q → is_latest (layout_by o q) (place_of a) ≡ false
not-latest o q a h live other =
    ap (is_one_at (place_of a)) (latest-is o q h (some-latest o q a live))
    ∙ ⊎_elim
    (λ (t : is_at (place_of a) (block_of o q) ≡ true).
    let same : place_of q ≡ place_of a = at-place (place_of a) (block_of o q) t in
    let e : address (place_of q) ≡ address (place_of a) = ap address same in
    absurd (other (omega (arith, e))))
    (λ (t : is_at (place_of a) (block_of o q) ≡ false). t)
    (cases_Bool (is_at (place_of a) (block_of o q)))
