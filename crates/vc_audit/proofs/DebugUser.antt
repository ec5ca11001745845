-- The user's block at an address of a debug region, by the block with guards in which it is.
use Rattle.vc_base.proofs.Common.{◌≡◌, ℕ, ◌+◌, ◌-◌, ◌≤◌, ℤ, pos, ◌<ℤ◌, IfSome, Option, option_map, subst, place_of, Block, Layout, HasBlock, HasRange, find_block}
use Rattle.vc_best.specs.Parts.{layout_of}
use Rattle.vc_audit.specs.Debug.{guarded_offset, user_block}
use Rattle.vc_audit.specs.DebugParts.{blocks_in}
use Rattle.vc_audit.specs.declared.debug.Debug.{Debug}
use Rattle.vc_audit.proofs.DebugBlocks.{UserAt, found-at, user_at}
use Rattle.vc_audit.proofs.DebugFills.{found-live, guards-found, range-below, range-user}
use Rattle.vc_audit.proofs.DebugPokes.{poke-below, poke-range}

pub user_in : {I : Type 0} {V : I → Type 0} (d : Debug I V) (a x : ℕ) → x ≡ a - 1 → HasBlock (blocks_in d) a → UserAt (layout_of d.best) a x
user_in d a x e live = user_at (layout_of d.best) d.best.sound d.guarded a x e live

module _ {I : Type 0} {V : I → Type 0} (d : Debug I V) {a x : ℕ} (u : UserAt (layout_of d.best) a x) where
  abbrev r : Layout ℕ
  r = layout_of d.best

  pub found-in : find_block (place_of a) (blocks_in d) ≡ option_map user_block (find_block (place_of x) r.blocks)
  found-in = found-at r a x u r.blocks

  -- a range of the user's bytes
  pub range-in : (off len : ℕ) → HasRange (blocks_in d) a off len → IfSome (option_map user_block (find_block (place_of x) r.blocks)) (λ b. off + len ≤ b.size)
  range-in off len range = subst (λ (o : Option (Block ℕ)). IfSome o (λ b. off + len ≤ b.size)) found-in range

  pub range-guarded : (off len : ℕ) → HasRange (blocks_in d) a off len → HasRange r.blocks x (32 + off) len
  range-guarded off len range = range-user r.blocks (place_of x) off len d.guarded (range-in off len range)

  pub range-most : (off len : ℕ) → HasRange (blocks_in d) a off len → 32 + off + len ≤ 16777264
  range-most off len range = range-below r.blocks (place_of x) off len d.guarded (found-live r d.best.sound x u.live) (range-guarded off len range)

  -- one byte, which may lie in the guards
  poke-in : (off : ℤ) → IfSome (find_block (place_of a) (blocks_in d)) (λ b. off <ℤ pos (b.size + 16)) → IfSome (option_map user_block (find_block (place_of x) r.blocks)) (λ b. off <ℤ pos (b.size + 16))
  poke-in off last = subst (λ (o : Option (Block ℕ)). IfSome o (λ b. off <ℤ pos (b.size + 16))) found-in last

  pub poke-most : (off : ℤ) → IfSome (find_block (place_of a) (blocks_in d)) (λ b. off <ℤ pos (b.size + 16)) → off <ℤ pos 16777232
  poke-most off last = poke-below (find_block (place_of x) r.blocks) off (λ b found. guards-found r.blocks (place_of x) b d.guarded found) (found-live r d.best.sound x u.live) (poke-in off last)

  pub poke-guarded : (off : ℤ) → IfSome (find_block (place_of a) (blocks_in d)) (λ b. off <ℤ pos (b.size + 16)) → HasRange r.blocks x (guarded_offset off) 1
  poke-guarded off last = poke-range (find_block (place_of x) r.blocks) off (λ b found. guards-found r.blocks (place_of x) b d.guarded found) (poke-in off last)
