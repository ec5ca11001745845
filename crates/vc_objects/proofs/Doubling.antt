-- The slots of a first table: 16 doubled at most 17 times, and enough.
use Rattle.vc_base.proofs.Common.{◌≡◌, ℕ, zero, suc, ◌+◌, ◌*◌, ◌^◌, ◌<◌, ◌≤◌, Bool, true, false, if◌then◌else◌, nat_le, refl, pow-suc, arith, pow_mono, leb-true}
use Rattle.vc_seg.specs.OneBlock.{IsSize}
use Rattle.vc_dthash.specs.Slots.{IsSlots, enough_slots, most_slots, slots_for}

either_slots : (t : Bool) (s r : ℕ) → IsSlots s → IsSlots r → IsSlots (if t then s else r)
either_slots true s r h k = h
either_slots false s r h k = k

twice : (s k : ℕ) → s ≡ 16 * 2 ^ k → 2 * s ≡ 16 * 2 ^ suc k
twice s k e = let p : 2 ^ suc k ≡ 2 ^ k * 2 = pow-suc 2 k in omega (arith, e, p)

allowed : (d k s n : ℕ) → s ≡ 16 * 2 ^ k → k + d ≡ 17 → IsSlots (enough_slots d s n)
allowed zero k s n e f = record { doublings = k; few = omega (arith, f); value = e }
allowed (suc d) k s n e f =
    either_slots (nat_le n (2 * s)) s (enough_slots d (2 * s) n) (record { doublings = k; few = omega (arith, f); value = e })
    (allowed d (suc k) (2 * s) n (twice s k e) (omega (arith, f)))

pub slots-allowed : (n : ℕ) → IsSlots (slots_for n)
slots-allowed n = allowed 17 0 16 n refl refl

either_enough : (n s r : ℕ) (t : Bool) → nat_le n (2 * s) ≡ t → (r < most_slots → n ≤ 2 * r) → (if t then s else r) < most_slots → n ≤ 2 * (if t then s else r)
either_enough n s r true e f h = leb-true n (2 * s) e
either_enough n s r false e f h = f h

enough : (d k s n : ℕ) → s ≡ 16 * 2 ^ k → k + d ≡ 17 → enough_slots d s n < most_slots → n ≤ 2 * enough_slots d s n
enough zero k s n e f h =
    let p : 2 ^ 17 ≤ 2 ^ k = pow_mono {i = 17} {j = k} (omega (arith, f)) in
    absurd (omega (arith, e, p, h))
enough (suc d) k s n e f h =
    either_enough n s (enough_slots d (2 * s) n) (nat_le n (2 * s)) refl (enough d (suc k) (2 * s) n (twice s k e) (omega (arith, f))) h

pub slots-enough : (n : ℕ) → slots_for n < most_slots → n ≤ 2 * slots_for n
slots-enough n h = enough 17 0 16 n refl refl h

pub slots-least : (s : ℕ) → IsSlots s → 16 ≤ s
slots-least s is =
    let p : 2 ^ 0 ≤ 2 ^ is.doublings = pow_mono {i = 0} {j = is.doublings} (omega arith) in
    omega (arith, p, is.value)

pub slots-most : (s : ℕ) → IsSlots s → s ≤ 2097152
slots-most s is =
    let p : 2 ^ is.doublings ≤ 2 ^ 17 = pow_mono {i = is.doublings} {j = 17} is.few in
    omega (arith, p, is.value)

-- a table is a block of a size that a region puts
pub table-sized : (s : ℕ) → IsSlots s → IsSize (8 * s)
table-sized s is = record { some = omega (arith, slots-least s is); most = omega (arith, slots-most s is) }
