-- The damaged blocks in order.
use Rattle.vc_base.proofs.Common.{◌≡◌, ℕ, ◌+◌, ◌-◌, ◌<◌, ◌≤◌, Bool, true, false, cond, List, [], ◌∷◌, length, take, drop, ℤ, IfSome, nat_lt, Some, None, filter, Option, option_map, find, filter_map, sym, refl, ap, ◌∙◌, arith, length-take, none-some, same_Some, AllByRecursion, cons_option, place_of, Block, address_of, HaveOwnPlaces, find_block, by_address, next_block}
use Rattle.vc_model.proofs.Places.{among-above, found-there}
use Rattle.vc_model.proofs.Sorting as sorting
use Rattle.vc_audit.specs.Debug.{Debug, damage, damage_of, next_damaged, user_block}
use Rattle.vc_audit.specs.DebugGuard.{HasGuards}
use Rattle.vc_audit.proofs.DebugBlocks.{address-user}
use Rattle.vc_audit.proofs.DebugFills.{guards-found}
use Rattle.vc_audit.proofs.DebugWalks.{above-user, all-some}

-- the first item
abbrev pub first_item : {A : Type 0} → List A → Option A
first_item [] = None
first_item (x ∷ xs) = Some x

-- the blocks with guards above an address, and the damaged ones among them
abbrev pub above : ℕ → List (Block ℕ) → List (Block ℕ)
above k bs = filter (sorting.is_above address_of k) (by_address bs)

abbrev pub damaged_above : ℕ → List (Block ℕ) → Option (Block ℕ × ℤ)
damaged_above k bs = first_item (filter_map damage_of (above k bs))

module _ (after k : ℕ) (e : k ≡ after - 1) (b : Block ℕ) (bs : List (Block ℕ)) (some : 1 ≤ address_of b) where
  abbrev behind : Block ℕ × ℤ → Bool
  behind f = nat_lt after (address_of f.0)

  abbrev rest : List (Block ℕ)
  rest = filter (sorting.is_above address_of k) bs

  abbrev pair : ℤ → Block ℕ × ℤ
  pair off = (user_block b, off)

  find-step : find behind (filter_map damage_of bs) ≡ first_item (filter_map damage_of rest) → (o : Option ℤ) → damage b ≡ o →
      find behind (filter_map damage_of (b ∷ bs)) ≡ first_item (filter_map damage_of (filter (sorting.is_above address_of k) (b ∷ bs)))
  find-step later None d =
      let whole : damage_of b ≡ None = ap (option_map pair) d in
      ap (λ q. find behind (cons_option q (filter_map damage_of bs))) whole
      ∙ (later
      ∙ sym (elim (nat_lt k (address_of b)) as (λ v. first_item (filter_map damage_of (cond v (b ∷ rest) rest)) ≡ first_item (filter_map damage_of rest))
      [ true ↦ ap (λ q. first_item (cons_option q (filter_map damage_of rest))) whole | false ↦ refl ]))
  find-step later (Some off) d =
      let hurt : damage_of b ≡ Some (user_block b, off) = ap (option_map pair) d in
      ap (λ q. find behind (cons_option q (filter_map damage_of bs))) hurt
      ∙ (ap (λ v. cond v (Some (user_block b, off)) (find behind (filter_map damage_of bs))) (above-user after k b e some)
      ∙ (ap (λ q. cond (nat_lt k (address_of b)) (Some (user_block b, off)) q) later
      ∙ sym (elim (nat_lt k (address_of b)) as (λ v. first_item (filter_map damage_of (cond v (b ∷ rest) rest)) ≡ cond v (Some (user_block b, off)) (first_item (filter_map damage_of rest)))
      [ true ↦ ap (λ q. first_item (cons_option q (filter_map damage_of rest))) hurt | false ↦ refl ])))

-- what is found behind the user's address
find-damaged : (after k : ℕ) → k ≡ after - 1 → (bs : List (Block ℕ)) → AllByRecursion (λ b. 1 ≤ address_of b) bs →
    find (λ f. nat_lt after (address_of f.0)) (filter_map damage_of bs) ≡ first_item (filter_map damage_of (filter (sorting.is_above address_of k) bs))
find-damaged after k e [] all = refl
find-damaged after k e (b ∷ bs) all = find-step after k e b bs all.0 (find-damaged after k e bs all.1) (damage b) refl

pub check-begins : (d : Debug ℕ) (after k : ℕ) → k ≡ after - 1 → HaveOwnPlaces d.best.blocks → next_damaged after d ≡ damaged_above k d.best.blocks
check-begins d after k e places = find-damaged after k e (by_address d.best.blocks) (sorting.all-sorted_by address_of (λ b. 1 ≤ address_of b) d.best.blocks (all-some d.best.blocks places))

-- the next block with guards, and whether it is damaged
pub record NextIs (bs : List (Block ℕ)) (k n : ℕ) (o : Option ℤ) : Type 0 where
  pub block : Block ℕ
  pub address : address_of block ≡ n
  pub row : above k bs ≡ block ∷ above n bs
  pub damage : damage block ≡ o

pub next-is : (bs : List (Block ℕ)) (k n : ℕ) (o : Option ℤ) → HaveOwnPlaces bs → Some n ≡ option_map address_of (next_block k bs) → option_map damage (find_block (place_of n) bs) ≡ Some o → NextIs bs k n o
next-is bs k n o places told found = from (next_block k bs) refl told
  where
    from : (q : Option (Block ℕ)) → next_block k bs ≡ q → Some n ≡ option_map address_of q → NextIs bs k n o
    from None is t = absurd (none-some n (sym t))
    from (Some b) is t =
        let at : address_of b ≡ n = sym (same_Some n (address_of b) t) in
        let there : find_block (place_of n) bs ≡ Some b = found-there bs b n places (among-above address_of k bs b is) at in
        record {
          block = b;
          address = at;
          row = sorting.next-above address_of k bs b (sorting.distinct-pairs address_of bs places.distinct) is ∙ ap (λ m. b ∷ above m bs) at;
          damage = same_Some (damage b) o (sym (ap (option_map damage) there) ∙ found);
        }

module _ (bs : List (Block ℕ)) (k n : ℕ) where
  -- it is damaged
  pub check-finds : (off : ℤ) (h : NextIs bs k n (Some off)) → damaged_above k bs ≡ Some (user_block h.block, off)
  check-finds off h =
      ap (λ cs. first_item (filter_map damage_of cs)) h.row
      ∙ ap (λ q. first_item (cons_option q (filter_map damage_of (above n bs)))) (ap (option_map {U = Block ℕ × ℤ} (λ z. (user_block h.block, z))) h.damage)

  -- its guards are whole
  pub check-passes : NextIs bs k n None → damaged_above k bs ≡ damaged_above n bs
  check-passes h =
      ap (λ cs. first_item (filter_map damage_of cs)) h.row
      ∙ ap (λ q. first_item (cons_option q (filter_map damage_of (above n bs)))) (ap (option_map {U = Block ℕ × ℤ} (λ z. (user_block h.block, z))) h.damage)

  pub check-smaller : (o : Option ℤ) → NextIs bs k n o → length (above n bs) < length (above k bs)
  check-smaller o h = omega (arith, ap length h.row)

pub check-ends : (bs : List (Block ℕ)) (k : ℕ) → HaveOwnPlaces bs → next_block k bs ≡ None → damaged_above k bs ≡ None
check-ends bs k places e = ap (λ cs. first_item (filter_map damage_of cs)) (sorting.none-above address_of k bs (sorting.distinct-pairs address_of bs places.distinct) e)

pub from-none : (bs : List (Block ℕ)) (k : ℕ) → None ≡ option_map address_of (next_block k bs) → next_block k bs ≡ None
from-none bs k e = by (next_block k bs) e
  where
    by : (q : Option (Block ℕ)) → None ≡ option_map address_of q → q ≡ None
    by None t = refl
    by (Some b) t = absurd (none-some (address_of b) t)

-- what a check answers
pub check-told : (d : Debug ℕ) (after k n a : ℕ) (off : ℤ) (h : NextIs d.best.blocks k n (Some off)) → a ≡ n + 1 → next_damaged after d ≡ damaged_above k d.best.blocks →
    Some (a, off) ≡ option_map {U = ℕ × ℤ} (λ f. (address_of f.0, f.1)) (next_damaged after d)
check-told d after k n a off h next same =
    let with : ℕ → Option (ℕ × ℤ) = λ m. Some (m, off) in
    ap with (next ∙ (ap (λ m. m + 1) (sym h.address) ∙ sym (address-user h.block)))
    ∙ sym (ap (option_map {U = ℕ × ℤ} (λ f. (address_of f.0, f.1))) (same ∙ check-finds d.best.blocks k n off h))

pub check-over : (d : Debug ℕ) (after k : ℕ) → HaveOwnPlaces d.best.blocks → None ≡ option_map address_of (next_block k d.best.blocks) → next_damaged after d ≡ damaged_above k d.best.blocks →
    None ≡ option_map {U = ℕ × ℤ} (λ f. (address_of f.0, f.1)) (next_damaged after d)
check-over d after k places ended same = sym (ap (option_map {U = ℕ × ℤ} (λ f. (address_of f.0, f.1))) (same ∙ check-ends d.best.blocks k places (from-none d.best.blocks k ended)))

-- the guards of a block lie in it
long-front : (o : Option (Block ℕ)) → ((b : Block ℕ) → o ≡ Some b → (49 ≤ b.size) × (b.size ≤ 16777264)) → IfSome o (λ b. 0 + 32 ≤ b.size)
long-front None bounds = tt
long-front (Some b) bounds = let some = (bounds b refl).0 in omega (arith, some)

pub front-range : (bs : List (Block ℕ)) (p : ℕ × ℕ) → HasGuards bs → IfSome (find_block p bs) (λ b. 0 + 32 ≤ b.size)
front-range bs p guards = long-front (find_block p bs) (λ b found. guards-found bs p b guards found)

pub back-range : (o : Option (Block ℕ)) (s : ℕ) → 49 ≤ s → option_map (λ b. b.size) o ≡ Some s → IfSome o (λ b. s - 16 + 16 ≤ b.size)
back-range None s some e = tt
back-range (Some b) s some e = let same : b.size ≡ s = same_Some b.size s e in omega (arith, some, same)

pub part-length : (o : Option (Block ℕ)) (off len : ℕ) (bytes : List ℕ) → option_map (λ b. take len (drop off b.bytes)) o ≡ Some bytes → length bytes ≤ len
part-length None off len bytes e = absurd (none-some bytes e)
part-length (Some b) off len bytes e = omega (arith, length-take len (drop off b.bytes), ap length (same_Some (take len (drop off b.bytes)) bytes e))
