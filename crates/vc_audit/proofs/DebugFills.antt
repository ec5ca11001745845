-- Bytes that are written into a block with guards leave its size and all addresses, and sizes have room for guards.
use Rattle.vc_base.proofs.Common.{◌≡◌, ℕ, ◌+◌, ◌-◌, ◌<◌, ◌≤◌, true, false, eqb, List, [], ◌∷◌, map, take, drop, IfSome, Some, None, Contains, Option, option_map, sym, refl, ap, ◌∙◌, subst, ⊎_elim, arith, take-take, drop-drop, eq-eqb, ∥∥₁_elim, and_from, cases_Bool, drop-take, none-some, same_Some, AllByRecursion, place_of, Block, Layout, address_of, is_at, without_block, IsSound, HasBlock, HasRange, change_block, find_block, rewritten_block}
use Rattle.std.proofs.lemmas.Map.Made.{Contains-tail}
use Rattle.std.proofs.lemmas.List.Elements.{All-from_recursion}
use Rattle.vc_model.proofs.Pairs.{all-recursion}
use Rattle.vc_model.proofs.Places.{among-all, among-find}
use Rattle.vc_audit.specs.Debug.{user_block}
use Rattle.vc_audit.specs.DebugGuard.{HasGuards}

module _ {L : Type 0} (off : ℕ) (src : List ℕ) where
  addresses-written : (p : ℕ × ℕ) (bs : List (Block L)) → map address_of (change_block (rewritten_block off src) p bs) ≡ map address_of bs
  addresses-written p [] = refl
  addresses-written p (b ∷ bs) =
      ⊎_elim
      (λ (e : is_at p b ≡ true). rw e refl)
      (λ (e : is_at p b ≡ false). rw e (ap (λ ns. address_of b ∷ ns) (addresses-written p bs)))
      (cases_Bool (is_at p b))

  pub live-written : (p : ℕ × ℕ) (bs : List (Block L)) (a : ℕ) → HasBlock bs a → HasBlock (change_block (rewritten_block off src) p bs) a
  live-written p bs a live = subst (λ ns. Contains ns a) (sym (addresses-written p bs)) live

  pub found-written : (p : ℕ × ℕ) (bs : List (Block L)) → find_block p (change_block (rewritten_block off src) p bs) ≡ option_map (rewritten_block off src) (find_block p bs)
  found-written p [] = refl
  found-written p (b ∷ bs) =
      ⊎_elim
      (λ (e : is_at p b ≡ true). rw e (rw e refl))
      (λ (e : is_at p b ≡ false). rw e (rw e (found-written p bs)))
      (cases_Bool (is_at p b))

  all-written : (P : ℕ → Type 0) (p : ℕ × ℕ) (bs : List (Block L)) → AllByRecursion (λ b. P b.size) bs → AllByRecursion (λ b. P b.size) (change_block (rewritten_block off src) p bs)
  all-written P p [] all = tt
  all-written P p (b ∷ bs) all =
      ⊎_elim
      (λ (e : is_at p b ≡ true). rw e all)
      (λ (e : is_at p b ≡ false). rw e (all.0, all-written P p bs all.1))
      (cases_Bool (is_at p b))

  pub guards-written : (p : ℕ × ℕ) (bs : List (Block L)) → HasGuards bs → HasGuards (change_block (rewritten_block off src) p bs)
  guards-written p bs guards =
      record {
        some = All-from_recursion (λ (b : Block L). 49 ≤ b.size) (change_block (rewritten_block off src) p bs) (all-written (λ n. 49 ≤ n) p bs (all-recursion (λ (b : Block L). 49 ≤ b.size) bs guards.some));
        most = All-from_recursion (λ (b : Block L). b.size ≤ 16777264) (change_block (rewritten_block off src) p bs) (all-written (λ n. n ≤ 16777264) p bs (all-recursion (λ (b : Block L). b.size ≤ 16777264) bs guards.most));
      }

-- a range of the same block
range-within : {L : Type 0} (o : Option (Block L)) (off src : ℕ) (m n m' n' : ℕ) (bytes : List ℕ) → m' + n' ≤ m + n → IfSome o (λ b. m + n ≤ b.size) → IfSome (option_map (rewritten_block off bytes) o) (λ b. m' + n' ≤ b.size)
range-within None off src m n m' n' bytes le range = tt
range-within (Some b) off src m n m' n' bytes le range = omega (arith, le, range)

pub range-written : {L : Type 0} (off : ℕ) (src : List ℕ) (bs : List (Block L)) (a m n m' n' : ℕ) → m' + n' ≤ m + n → HasRange bs a m n → HasRange (change_block (rewritten_block off src) (place_of a) bs) a m' n'
range-written {L = L} off src bs a m n m' n' le range =
    subst (λ (o : Option (Block L)). IfSome o (λ b. m' + n' ≤ b.size)) (sym (found-written off src (place_of a) bs)) (range-within (find_block (place_of a) bs) off 0 m n m' n' src le range)

all-without : {L : Type 0} (P : Block L → Type 0) (p : ℕ × ℕ) (bs : List (Block L)) → AllByRecursion P bs → AllByRecursion P (without_block p bs)
all-without P p [] all = tt
all-without P p (b ∷ bs) all =
    ⊎_elim
    (λ (e : is_at p b ≡ true). rw e all.1)
    (λ (e : is_at p b ≡ false). rw e (all.0, all-without P p bs all.1))
    (cases_Bool (is_at p b))

pub guards-without : {L : Type 0} (p : ℕ × ℕ) (bs : List (Block L)) → HasGuards bs → HasGuards (without_block p bs)
guards-without {L = L} p bs guards =
    record {
      some = All-from_recursion (λ (b : Block L). 49 ≤ b.size) (without_block p bs) (all-without (λ (b : Block L). 49 ≤ b.size) p bs (all-recursion (λ (b : Block L). 49 ≤ b.size) bs guards.some));
      most = All-from_recursion (λ (b : Block L). b.size ≤ 16777264) (without_block p bs) (all-without (λ (b : Block L). b.size ≤ 16777264) p bs (all-recursion (λ (b : Block L). b.size ≤ 16777264) bs guards.most));
    }

-- the blocks but for one, and that one, have room for guards
all-with : {L : Type 0} (P : Block L → Type 0) (p : ℕ × ℕ) (bs : List (Block L)) → AllByRecursion P (without_block p bs) → IfSome (find_block p bs) P → AllByRecursion P bs
all-with P p [] all one = tt
all-with P p (b ∷ bs) all one =
    ⊎_elim
    (λ (e : is_at p b ≡ true). let rest : AllByRecursion P bs = rw e at all in let here : P b = rw e at one in (here, rest))
    (λ (e : is_at p b ≡ false). let rest : P b × AllByRecursion P (without_block p bs) = rw e at all in let later : IfSome (find_block p bs) P = rw e at one in (rest.0, all-with P p bs rest.1 later))
    (cases_Bool (is_at p b))

sized-some : {L : Type 0} (P : ℕ → Type 0) (o : Option (Block L)) (size : ℕ) → P size → option_map (λ b. b.size) o ≡ Some size → IfSome o (λ b. P b.size)
sized-some P None size holds e = tt
sized-some P (Some b) size holds e = subst P (sym (same_Some b.size size e)) holds

pub guards-with : {L : Type 0} (p : ℕ × ℕ) (size : ℕ) (bs : List (Block L)) → 49 ≤ size → size ≤ 16777264 → HasGuards (without_block p bs) → option_map (λ b. b.size) (find_block p bs) ≡ Some size → HasGuards bs
guards-with {L = L} p size bs some most guards e =
    record {
      some = All-from_recursion (λ (b : Block L). 49 ≤ b.size) bs (all-with (λ (b : Block L). 49 ≤ b.size) p bs (all-recursion (λ (b : Block L). 49 ≤ b.size) (without_block p bs) guards.some) (sized-some (λ n. 49 ≤ n) (find_block p bs) size some e));
      most = All-from_recursion (λ (b : Block L). b.size ≤ 16777264) bs (all-with (λ (b : Block L). b.size ≤ 16777264) p bs (all-recursion (λ (b : Block L). b.size ≤ 16777264) (without_block p bs) guards.most) (sized-some (λ n. n ≤ 16777264) (find_block p bs) size most e));
    }

-- the size of a block that is found has room for guards
found-size : {L : Type 0} (bs : List (Block L)) (guards : HasGuards bs) (s : ℕ) (o : Option (Block L)) → ((b : Block L) → o ≡ Some b → (49 ≤ b.size) × (b.size ≤ 16777264)) → option_map (λ b. b.size) o ≡ Some s → (49 ≤ s) × (s ≤ 16777264)
found-size bs guards s None bounds e = absurd (none-some s e)
found-size bs guards s (Some b) bounds e = let here = bounds b refl in let le = here.0 in let most = here.1 in let same : b.size ≡ s = same_Some b.size s e in (omega (arith, le, same), omega (arith, most, same))

pub guards-found : {L : Type 0} (bs : List (Block L)) (p : ℕ × ℕ) (b : Block L) → HasGuards bs → find_block p bs ≡ Some b → (49 ≤ b.size) × (b.size ≤ 16777264)
guards-found {L = L} bs p b guards e =
    (among-all (λ (c : Block L). 49 ≤ c.size) b bs (among-find (is_at p) bs b e) (all-recursion (λ (c : Block L). 49 ≤ c.size) bs guards.some), among-all (λ (c : Block L). c.size ≤ 16777264) b bs (among-find (is_at p) bs b e) (all-recursion (λ (c : Block L). c.size ≤ 16777264) bs guards.most))

pub guards-size : {L : Type 0} (bs : List (Block L)) (p : ℕ × ℕ) (s : ℕ) → HasGuards bs → option_map (λ b. b.size) (find_block p bs) ≡ Some s → (49 ≤ s) × (s ≤ 16777264)
guards-size bs p s guards e = found-size bs guards s (find_block p bs) (λ b found. guards-found bs p b guards found) e

-- a range of the user's bytes, in the block with guards
range-some : {L : Type 0} (o : Option (Block L)) (off len : ℕ) → ((b : Block L) → o ≡ Some b → (49 ≤ b.size) × (b.size ≤ 16777264)) → IfSome (option_map user_block o) (λ b. off + len ≤ b.size) → IfSome o (λ b. 32 + off + len ≤ b.size)
range-some None off len bounds range = tt
range-some (Some b) off len bounds range = let here = bounds b refl in let some = here.0 in omega (arith, some, range)

pub range-user : {L : Type 0} (bs : List (Block L)) (p : ℕ × ℕ) (off len : ℕ) → HasGuards bs → IfSome (option_map user_block (find_block p bs)) (λ b. off + len ≤ b.size) → IfSome (find_block p bs) (λ b. 32 + off + len ≤ b.size)
range-user bs p off len guards range = range-some (find_block p bs) off len (λ b found. guards-found bs p b guards found) range

below-some : {L : Type 0} (o : Option (Block L)) (off len : ℕ) → ((b : Block L) → o ≡ Some b → (49 ≤ b.size) × (b.size ≤ 16777264)) → ((o ≡ None) → ⊥) → IfSome o (λ b. 32 + off + len ≤ b.size) → 32 + off + len ≤ 16777264
below-some None off len bounds found range = absurd (found refl)
below-some (Some b) off len bounds found range = let here = bounds b refl in let most = here.1 in omega (arith, most, range)

pub range-below : {L : Type 0} (bs : List (Block L)) (p : ℕ × ℕ) (off len : ℕ) → HasGuards bs → ((find_block p bs ≡ None) → ⊥) → IfSome (find_block p bs) (λ b. 32 + off + len ≤ b.size) → 32 + off + len ≤ 16777264
range-below bs p off len guards found range = below-some (find_block p bs) off len (λ b e. guards-found bs p b guards e) found range

-- the user's bytes of a range
part : (bytes : List ℕ) (size off len : ℕ) → off + len ≤ size → take len (drop off (take size (drop 32 bytes))) ≡ take len (drop (32 + off) bytes)
part bytes size off len within =
    let rest : size ≡ off + (size - off) = omega (arith, within) in
    let le : len ≤ size - off = omega (arith, within) in
    ap (λ n. take len (drop off (take n (drop 32 bytes)))) rest
    ∙ (ap (take len) (drop-take off (size - off) (drop 32 bytes))
    ∙ (take-take len (size - off) (drop off (drop 32 bytes)) le
    ∙ ap (take len) (drop-drop off 32 bytes)))

pub read-user : {L : Type 0} (o : Option (Block L)) (off len : ℕ) (bytes : List ℕ) → IfSome (option_map user_block o) (λ b. off + len ≤ b.size) → option_map (λ b. take len (drop (32 + off) b.bytes)) o ≡ Some bytes → option_map (λ b. take len (drop off b.bytes)) (option_map user_block o) ≡ Some bytes
read-user None off len bytes range e = absurd (none-some bytes e)
read-user (Some b) off len bytes range e = ap Some (part b.bytes (b.size - 48) off len range) ∙ e

pub size-user : {L : Type 0} (o : Option (Block L)) (s : ℕ) → option_map (λ b. b.size) o ≡ Some s → option_map (λ b. b.size) (option_map user_block o) ≡ Some (s - 48)
size-user None s e = absurd (none-some s e)
size-user (Some b) s e = ap (λ n. Some (n - 48)) (same_Some b.size s e)

pub label-user : {L : Type 0} (o : Option (Block L)) → option_map (λ b. b.label) (option_map user_block o) ≡ option_map (λ b. b.label) o
label-user None = refl
label-user (Some b) = refl

-- a block is found at the place of each address that one has
found-exact : {L : Type 0} (bs : List (Block L)) (a : ℕ) → AllByRecursion (λ b. place_of (address_of b) ≡ (b.seg, b.off)) bs → HasBlock bs a → find_block (place_of a) bs ≡ None → ⊥
found-exact [] a exact live none = let within : live.0 < 0 = live.1 in omega (arith, within)
found-exact {L = L} (b ∷ bs) a exact live none =
    ⊎_elim
    (λ (e : is_at (place_of a) b ≡ true). let some : Some b ≡ None = rw e at none in none-some b (sym some))
    (λ (e : is_at (place_of a) b ≡ false).
    let rest : find_block (place_of a) bs ≡ None = rw e at none in
    let other : address_of b ≡ a → ⊥ = λ q.
    let at : place_of a ≡ (b.seg, b.off) = ap place_of (sym q) ∙ exact.0 in
    let here : is_at (place_of a) b ≡ true = ap (λ p. is_at p b) at ∙ own b in
    let no : true ≡ false = sym here ∙ e in cc in
    found-exact bs a exact.1 (Contains-tail (address_of b) (map address_of bs) a other live) rest)
    (cases_Bool (is_at (place_of a) b))
  where
    own : (c : Block L) → is_at (c.seg, c.off) c ≡ true
    own c = and_from (eqb c.seg c.seg) (eqb c.off c.off) (eq-eqb c.seg c.seg refl) (eq-eqb c.off c.off refl)

pub found-live : {L : Type 0} (r : Layout L) → ∥ IsSound r ∥₁ → (a : ℕ) → HasBlock r.blocks a → find_block (place_of a) r.blocks ≡ None → ⊥
found-live {L = L} r sound a live none = ∥∥₁_elim sound (hlevel) (λ s. found-exact r.blocks a (all-recursion (λ (b : Block L). place_of (address_of b) ≡ (b.seg, b.off)) r.blocks s.exact) live none)
