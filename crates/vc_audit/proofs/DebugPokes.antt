-- Bytes in the guards of a block, by their offsets from the user's bytes on.
use Rattle.vc_base.proofs.Common.{◌≡◌, ℕ, ◌+◌, ◌-◌, ◌≤◌, ℤ, pos, negsuc, ◌<ℤ◌, IfSome, Some, None, Option, option_map, refl, arith, Block}
use Rattle.std.proofs.lemmas.Int.{ints}
use Rattle.vc_audit.specs.Debug.{guarded_offset, user_block}

abbrev Bounds : Option (Block ℕ) → Type 0
Bounds o = (b : Block ℕ) → o ≡ Some b → (49 ≤ b.size) × (b.size ≤ 16777264)

below-most : (off : ℤ) (n : ℕ) → n ≤ 16777264 → off <ℤ pos (n - 48 + 16) → off <ℤ pos 16777232
below-most off n le lt = omega (arith, ints)

pub poke-below : (o : Option (Block ℕ)) (off : ℤ) → ((b : Block ℕ) → o ≡ Some b → (49 ≤ b.size) × (b.size ≤ 16777264)) → (o ≡ None → ⊥) → IfSome (option_map user_block o) (λ b. off <ℤ pos (b.size + 16)) → off <ℤ pos 16777232
poke-below None off bounds found h = absurd (found refl)
poke-below (Some b) off bounds found h = below-most off b.size (bounds b refl).1 h

within-size : (off : ℤ) (n : ℕ) → 49 ≤ n → off <ℤ pos (n - 48 + 16) → guarded_offset off + 1 ≤ n
within-size (pos k) n some lt = omega (arith, ints, lt)
within-size (negsuc k) n some lt = omega (arith, some)

pub poke-range : (o : Option (Block ℕ)) (off : ℤ) → ((b : Block ℕ) → o ≡ Some b → (49 ≤ b.size) × (b.size ≤ 16777264)) → IfSome (option_map user_block o) (λ b. off <ℤ pos (b.size + 16)) → IfSome o (λ b. guarded_offset off + 1 ≤ b.size)
poke-range None off bounds h = tt
poke-range (Some b) off bounds h = within-size off b.size (bounds b refl).0 h
