-- The user's blocks of a debug region, by their addresses.
use Rattle.vc_base.proofs.Common.{◌≡◌, ℕ, ◌+◌, ◌-◌, ◌*◌, ◌/◌, ◌%◌, ◌<◌, ◌≤◌, true, false, ◌&&◌, eqb, List, [], ◌∷◌, map, length, get_or, Contains, option_map, sym, refl, ap, ◌∙◌, subst, ⊎_elim, arith, le_prop, ∥∥₁_elim, nat_tests, cases_Bool, get_or-map, length-map, place_of, Block, Layout, address_of, is_at, without_block, span, IsSound, HasBlock, find_block}
use Rattle.vc_audit.specs.Debug.{guarded_place, user_block, user_place}
use Rattle.vc_audit.specs.DebugGuard.{HasGuards}

eqb-plus : (m n k : ℕ) → eqb (m + k) (n + k) ≡ eqb m n
eqb-plus m n k = grind (arith, nat_tests)

module _ {L : Type 0} where
  pub is_at-user : (p : ℕ × ℕ) (b : Block L) → is_at (user_place p) (user_block b) ≡ is_at p b
  is_at-user p b = ap (λ v. eqb b.seg p.0 && v) (eqb-plus b.off p.1 32)

  -- the user's block at a place is in the block with guards there
  pub find-user : (p : ℕ × ℕ) (bs : List (Block L)) → find_block (user_place p) (map user_block bs) ≡ option_map user_block (find_block p bs)
  find-user p [] = refl
  find-user p (b ∷ bs) =
      ⊎_elim
      (λ (e : is_at p b ≡ true). rw e (rw (is_at-user p b ∙ e) refl))
      (λ (e : is_at p b ≡ false). rw e (rw (is_at-user p b ∙ e) (find-user p bs)))
      (cases_Bool (is_at p b))

  pub without-user : (p : ℕ × ℕ) (bs : List (Block L)) → without_block (user_place p) (map user_block bs) ≡ map user_block (without_block p bs)
  without-user p [] = refl
  without-user p (b ∷ bs) =
      ⊎_elim
      (λ (e : is_at p b ≡ true). rw e (rw (is_at-user p b ∙ e) refl))
      (λ (e : is_at p b ≡ false). rw e (rw (is_at-user p b ∙ e) (ap (λ cs. user_block b ∷ cs) (without-user p bs))))
      (cases_Bool (is_at p b))

  pub address-user : (b : Block L) → address_of (user_block b) ≡ address_of b + 1
  address-user b = omega arith

  pub addresses-user : (bs : List (Block L)) → map address_of (map user_block bs) ≡ map (λ n. n + 1) (map address_of bs)
  addresses-user [] = refl
  addresses-user (b ∷ bs) = ap (λ n. n ∷ map address_of (map user_block bs)) (address-user b) ∙ ap (λ ns. (address_of b + 1) ∷ ns) (addresses-user bs)

-- a number of a list of which each is one more than in another
contains-down : (ns : List ℕ) (a : ℕ) → Contains (map (λ n. n + 1) ns) a → (1 ≤ a) × Contains ns (a - 1)
contains-down ns a among =
    let k : ℕ = among.0 in
    let within : k < length ns = omega (arith, among.1, length-map ns (λ n. n + 1)) in
    let up : get_or ns k (a - 1) + 1 ≡ a = sym (get_or-map (λ n. n + 1) ns k (a - 1) a within) ∙ among.2 in
    (omega (arith, up), (k, within, omega (arith, up)))

contains-up : (ns : List ℕ) (a : ℕ) → Contains ns a → Contains (map (λ n. n + 1) ns) (a + 1)
contains-up ns a among =
    let k : ℕ = among.0 in
    let within : k < length ns = among.1 in
    (k, omega (arith, within, length-map ns (λ n. n + 1)), get_or-map (λ n. n + 1) ns k a (a + 1) within ∙ ap (λ n. n + 1) among.2)

module _ {L : Type 0} where
  pub live-down : (bs : List (Block L)) (a : ℕ) → HasBlock (map user_block bs) a → (1 ≤ a) × HasBlock bs (a - 1)
  live-down bs a live = contains-down (map address_of bs) a (subst (λ ns. Contains ns a) (addresses-user bs) live)

  pub live-up : (bs : List (Block L)) (a : ℕ) → HasBlock bs a → HasBlock (map user_block bs) (a + 1)
  live-up bs a live = subst (λ ns. Contains ns (a + 1)) (sym (addresses-user bs)) (contains-up (map address_of bs) a live)

-- where the guards begin below the end of a segment, the user's bytes do
pub user_place-next : (a : ℕ) → (place_of a).1 + 33 ≤ 33554432 → place_of (a + 1) ≡ user_place (place_of a)
user_place-next a below =
    let pair : ℕ → ℕ → ℕ × ℕ = λ m n. (m, n) in
    let number : (a + 1) / 1048576 ≡ a / 1048576 = omega arith in
    let offset : (a + 1) % 1048576 * 32 ≡ a % 1048576 * 32 + 32 = omega arith in
    ap (λ m. pair m ((a + 1) % 1048576 * 32)) number ∙ ap (pair (a / 1048576)) offset

long-span : (size : ℕ) → 49 ≤ size → 96 ≤ span size
long-span size some = omega arith

-- a block of nothing, as a default
pub none : Block ℕ
none = record { label = 0; seg = 0; off = 0; size = 0; bytes = [] }

module _ (r : Layout ℕ) (guards : HasGuards r.blocks) where
  below-sound : IsSound r → (a : ℕ) → HasBlock r.blocks a → (place_of a).1 + 33 ≤ 33554432
  below-sound s a live =
      let k : ℕ = live.0 in
      let within : k < length r.blocks = omega (arith, live.1, length-map r.blocks address_of) in
      let b : Block ℕ = get_or r.blocks k none in
      let at : address_of b ≡ a = sym (get_or-map address_of r.blocks k none a within) ∙ live.2 in
      let place : place_of a ≡ (b.seg, b.off) = ap place_of (sym at) ∙ s.exact k none within in
      let usable = s.usable k none within in
      let some : 49 ≤ b.size = guards.some k none within in
      let long : 96 ≤ span b.size = long-span b.size some in
      let short : (get_or r.segments usable.0 usable.1).1 ≤ 33554432 = s.short usable.0 usable.1 usable.2 in
      let is : get_or r.segments usable.0 usable.1 ≡ usable.1 = usable.3 in
      let end : b.off - 16 + span b.size + 16 ≤ usable.1.1 = usable.4.2 in
      let from : 16 ≤ b.off - 16 = usable.4.1 in
      let off : (place_of a).1 ≡ b.off = ap (λ (p : ℕ × ℕ). p.1) place in
      let size : (get_or r.segments usable.0 usable.1).1 ≡ usable.1.1 = ap (λ (p : ℕ × ℕ). p.1) is in
      omega (arith, long, short, end, from, off, size)

  pub below-end : ∥ IsSound r ∥₁ → (a : ℕ) → HasBlock r.blocks a → (place_of a).1 + 33 ≤ 33554432
  below-end sound a live = ∥∥₁_elim sound (le_prop) (λ s. below-sound s a live)

-- a user's block stands at the first of these addresses, and the block with guards in which it is at the second
pub record UserAt (r : Layout ℕ) (a x : ℕ) : Type 0 where
  pub next : a ≡ x + 1
  pub live : HasBlock r.blocks x
  pub place : place_of a ≡ user_place (place_of x)

pub user_at : (r : Layout ℕ) → ∥ IsSound r ∥₁ → HasGuards r.blocks → (a x : ℕ) → x ≡ a - 1 → HasBlock (map user_block r.blocks) a → UserAt r a x
user_at r sound guards a x e live =
    let down = live-down r.blocks a live in
    let first : 1 ≤ a = down.0 in
    let next : a ≡ x + 1 = omega (arith, first, e) in
    let among : HasBlock r.blocks x = subst (HasBlock r.blocks) (sym e) down.1 in
    record {
      next = next;
      live = among;
      place = ap place_of next ∙ user_place-next x (below-end r guards sound x among);
    }

-- the same where a block with guards is known
pub at_user : (r : Layout ℕ) → ∥ IsSound r ∥₁ → HasGuards r.blocks → (a x : ℕ) → a ≡ x + 1 → HasBlock r.blocks x → UserAt r a x
at_user r sound guards a x next live = record { next = next; live = live; place = ap place_of next ∙ user_place-next x (below-end r guards sound x live) }

module _ (r : Layout ℕ) (a x : ℕ) (u : UserAt r a x) where
  pub found-at : (bs : List (Block ℕ)) → find_block (place_of a) (map user_block bs) ≡ option_map user_block (find_block (place_of x) bs)
  found-at bs = ap (λ p. find_block p (map user_block bs)) u.place ∙ find-user (place_of x) bs

  pub without-at : (bs : List (Block ℕ)) → without_block (place_of a) (map user_block bs) ≡ map user_block (without_block (place_of x) bs)
  without-at bs = ap (λ p. without_block p (map user_block bs)) u.place ∙ without-user (place_of x) bs

  pub guarded-at : guarded_place (place_of a) ≡ place_of x
  guarded-at =
      let pair : ℕ → ℕ → ℕ × ℕ = λ m n. (m, n) in
      let back : (place_of x).1 + 32 - 32 ≡ (place_of x).1 = omega arith in
      ap guarded_place u.place ∙ ap (pair (place_of x).0) back

  pub live-at : HasBlock (map user_block r.blocks) a
  live-at = subst (HasBlock (map user_block r.blocks)) (sym u.next) (live-up r.blocks x u.live)

  -- the other blocks stay where they stay in the region with guards
  pub others-at : (bs cs : List (Block ℕ)) → without_block (place_of x) bs ≡ without_block (place_of x) cs → without_block (place_of a) (map user_block bs) ≡ without_block (place_of a) (map user_block cs)
  others-at bs cs same = without-at bs ∙ (ap (map user_block) same ∙ sym (without-at cs))
