-- What putting and resizing a block with guards leaves of the user's blocks.
use Rattle.vc_base.proofs.Common.{◌≡◌, ℕ, suc, ◌+◌, ◌-◌, ◌≤◌, min, Bool, true, false, eqb, List, [], ◌∷◌, ◌++◌, map, length, take, drop, replicate, IfSome, Some, None, Option, option_map, unwrap_or, sym, refl, ap, ◌∙◌, subst, ⊎_elim, append_assoc, arith, length-take, take-take, drop_at, eqb-true, and_parts, cases_Bool, length-replicate, take-append-le, none-some, address, place_of, zeros, with_bytes, Terms, Block, Layout, address_of, is_at, without_block, Done, Outcome, Put, Refused, best_resize, can_stay, IsSound, HasBlock, change_block, find_block, rewritten_block}
use Rattle.std.proofs.lemmas.List.{drop-replicate, take-replicate}
use Rattle.std.proofs.Math.Seq.{take-append-add}
use Rattle.vc_model.proofs.Owned.{address-place_of}
use Rattle.vc_seg.specs.Answer.{IsPut, IsRefusal}
use Rattle.vc_seg.specs.declared.fault.RegionFault.{RegionFault}
use Rattle.vc_seg.specs.declared.fault.RegionFault.TheVariants as code
use Rattle.vc_audit.specs.Debug.{Debug, debug_resize, guarded_place, outcome_by, put_with_mark, stays_debug, user_block, user_place, user_size, with_guards, with_zeros}
use Rattle.vc_addrmap.specs.Map.{Numbers, moved_number}
use Rattle.vc_audit.specs.DebugGuard.{HasGuards}
use Rattle.vc_audit.proofs.DebugBlocks.{UserAt, at_user, guarded-at, below-end, found-at, live-down, without-at}
use Rattle.vc_audit.proofs.DebugFills.{found-written, guards-with, guards-without, guards-written, label-user, live-written}

-- a block that is found has the address of its place
pub live-found : (bs : List (Block ℕ)) (x : ℕ) (b : Block ℕ) → find_block (place_of x) bs ≡ Some b → HasBlock bs x
live-found [] x b e = absurd (none-some b e)
live-found (c ∷ cs) x b e =
    ⊎_elim
    (λ (t : is_at (place_of x) c ≡ true).
    let both = and_parts (eqb c.seg (place_of x).0) (eqb c.off (place_of x).1) t in
    let at : address_of c ≡ x = ap (λ s. address (s, c.off)) (eqb-true c.seg (place_of x).0 both.0) ∙ (ap (λ o. address ((place_of x).0, o)) (eqb-true c.off (place_of x).1 both.1) ∙ address-place_of x) in
    (0, omega arith, at))
    (λ (t : is_at (place_of x) c ≡ false).
    let rest : find_block (place_of x) cs ≡ Some b = rw t at e in
    let later = live-found cs x b rest in
    let within = later.1 in
    (suc later.0, omega (arith, within), later.2))
    (cases_Bool (is_at (place_of x) c))

pub live-sized : (bs : List (Block ℕ)) (x size : ℕ) (o : Option (Block ℕ)) → find_block (place_of x) bs ≡ o → option_map (λ b. b.size) o ≡ Some size → HasBlock bs x
live-sized bs x size None found e = absurd (none-some size e)
live-sized bs x size (Some b) found e = live-found bs x b found

pub range-sized : (o : Option (Block ℕ)) (size : ℕ) → option_map (λ b. b.size) o ≡ Some size → IfSome o (λ b. 0 + size ≤ b.size)
range-sized None size e = tt
range-sized (Some b) size e = let same : b.size ≡ size = ap (λ o. unwrap_or o 0) e in omega (arith, same)

address-next : (p : ℕ × ℕ) → address (user_place p) ≡ address p + 1
address-next p = omega arith

-- the outcome of a call of the best region, as one of the debug region
pub put-by : (F : ℕ × ℕ → Layout ℕ → Debug ℕ) (o : Outcome (Put (Layout ℕ))) (x a : ℕ) (mid : Layout ℕ) → a ≡ x + 1 → place_of a ≡ user_place (place_of x) → IsPut o x mid →
    IsPut (outcome_by (λ p. record { at = user_place p.at; region = F p.at p.region; granted = p.granted }) o) a (F (place_of x) mid)
put-by F (Done p) x a mid next place h =
    let first : a ≡ address (user_place p.at) = next ∙ (ap (λ n. n + 1) h.0 ∙ sym (address-next p.at)) in
    (first, ap user_place h.1 ∙ sym place, ap (F (place_of x)) h.2 ∙ ap (λ at. F at p.region) (sym h.1))
put-by F (Refused why) x a mid next place h = absurd h

pub refused-by : {R S : Type 0} (f : Put R → Put S) (call : Bool → Outcome (Put R)) (why : RegionFault) → IsRefusal call why → IsRefusal (λ b. outcome_by f (call b)) why
refused-by f call code.TooManySegments h = ap (outcome_by f) h
refused-by f call code.NoSegment h = ap (outcome_by f) h
refused-by f call code.OutOfMemory h = tt
refused-by f call code.Fixed h = ap (outcome_by f) h
refused-by f call code.PoolSize h = ap (outcome_by f) h
refused-by f call code.NotLast h = ap (outcome_by f) h
refused-by f call code.WrongMethod h = ap (outcome_by f) h

-- both guards, or zeros and the back guard, leave the sizes and the addresses
module _ (mid new : Layout ℕ) (p : ℕ × ℕ) (size off : ℕ) (src : List ℕ) where
  abbrev once : List (Block ℕ)
  once = change_block (rewritten_block off src) p mid.blocks

  abbrev twice : List (Block ℕ)
  twice = change_block (rewritten_block (32 + size) (replicate 16 165)) p once

  pub guards-twice : new.blocks ≡ twice → HasGuards mid.blocks → HasGuards new.blocks
  guards-twice e guards = rw e (guards-written (32 + size) (replicate 16 165) p once (guards-written off src p mid.blocks guards))

  pub live-twice : (x : ℕ) → new.blocks ≡ twice → HasBlock mid.blocks x → HasBlock new.blocks x
  live-twice x e live = rw e (live-written (32 + size) (replicate 16 165) p once x (live-written off src p mid.blocks x live))

  pub found-twice : new.blocks ≡ twice → find_block p new.blocks ≡ option_map (rewritten_block (32 + size) (replicate 16 165)) (option_map (rewritten_block off src) (find_block p mid.blocks))
  found-twice e = ap (find_block p) e ∙ (found-written (32 + size) (replicate 16 165) p once ∙ ap (option_map (rewritten_block (32 + size) (replicate 16 165))) (found-written off src p mid.blocks))

  label-some : (o : Option (Block ℕ)) → option_map (λ b. b.label) (option_map (rewritten_block (32 + size) (replicate 16 165)) (option_map (rewritten_block off src) o)) ≡ option_map (λ b. b.label) o
  label-some None = refl
  label-some (Some b) = refl

  pub label-twice : new.blocks ≡ twice → option_map (λ b. b.label) (find_block p new.blocks) ≡ option_map (λ b. b.label) (find_block p mid.blocks)
  label-twice e = ap (option_map (λ b. b.label)) (found-twice e) ∙ label-some (find_block p mid.blocks)

-- the user's bytes between the guards, by their length
between : (front rest back : List ℕ) (size : ℕ) → length front ≡ 32 → size ≤ length rest → take size (drop 32 (take (32 + size) (front ++ rest) ++ back)) ≡ take size rest
between front rest back size long le =
    let kept : List ℕ = take size rest in
    let one : take (32 + size) (front ++ rest) ≡ front ++ kept = ap (λ n. take (n + size) (front ++ rest)) (sym long) ∙ take-append-add front rest size in
    let cut : drop 32 (front ++ (kept ++ back)) ≡ kept ++ back = drop_at front (kept ++ back) 32 long in
    let most : size ≤ length kept = omega (arith, length-take {A = ℕ} size rest, le) in
    ap (λ ys. take size (drop 32 (ys ++ back))) one
    ∙ (ap (λ ys. take size (drop 32 ys)) (append_assoc front kept back)
    ∙ (ap (take size) cut
    ∙ (take-append-le size kept back most ∙ take-take size size rest (omega arith))))

user-zeros : (size : ℕ) → take (size + 48 - 48) (drop 32 (with_bytes (32 + size) (replicate 16 165) (with_bytes 0 (replicate 32 165) (replicate (size + 48) 0)))) ≡ replicate size 0
user-zeros size =
    let front : List ℕ = replicate 32 165 in
    let long : length front ≡ 32 = length-replicate {A = ℕ} 32 165 in
    let rest : List ℕ = drop (0 + length front) (replicate (size + 48) 0) in
    let back : List ℕ = replicate 16 165 ++ drop (32 + size + length {A = ℕ} (replicate 16 165)) (with_bytes 0 front (replicate (size + 48) 0)) in
    let same : size + 48 - 48 ≡ size = omega arith in
    let is : rest ≡ replicate (size + 48 - 32) 0 = ap (λ n. drop n (replicate (size + 48) 0)) long ∙ drop-replicate 32 (size + 48) 0 in
    let enough : size ≤ length rest = omega (arith, ap length is, length-replicate {A = ℕ} (size + 48 - 32) 0) in
    ap (λ n. take n (drop 32 (with_bytes (32 + size) (replicate 16 165) (with_bytes 0 front (replicate (size + 48) 0))))) same
    ∙ (ap (λ ys. take size (drop 32 ys)) (append_assoc (take (32 + size) (front ++ rest)) (replicate 16 165) (drop (32 + size + length {A = ℕ} (replicate 16 165)) (with_bytes 0 front (replicate (size + 48) 0))))
    ∙ (between front rest back size long enough
    ∙ (ap (take size) is ∙ take-replicate size (size + 48 - 32) 0 (omega arith))))

-- a new block with guards is one of zeros of the user
pub user-new : (label size : ℕ) (p : ℕ × ℕ) → user_block (rewritten_block (32 + size) (replicate 16 165) (rewritten_block 0 (replicate 32 165) (zeros label (size + 48) p))) ≡ zeros label size (user_place p)
user-new label size p =
    let same : size + 48 - 48 ≡ size = omega arith in
    let at : ℕ → List ℕ → Block ℕ = λ n bytes. record { label = label; seg = p.0; off = p.1 + 32; size = n; bytes = bytes } in
    ap (λ n. at n (user_block (rewritten_block (32 + size) (replicate 16 165) (rewritten_block 0 (replicate 32 165) (zeros label (size + 48) p)))).bytes) same ∙ ap (at size) (user-zeros size)

-- whether the user's block stays is whether the one with guards does
pub stays-user : (d : Debug ℕ) (size : ℕ) (o : Option (Block ℕ)) → IfSome o (λ b. can_stay d.best (size + 48) b ≡ false) → IfSome (option_map user_block o) (λ b. stays_debug d size b ≡ false)
stays-user d size None h = tt
stays-user d size (Some b) h =
    let back : b.off + 32 - 32 ≡ b.off = omega arith in
    let at : ℕ → Block ℕ = λ off. record { label = b.label; seg = b.seg; off = off; size = b.size - 48; bytes = take (b.size - 48) (drop 32 b.bytes) } in
    ap (λ off. can_stay d.best (size + 48) (at off)) back ∙ h

-- a block was put into a region, and its guards were written
pub record IsGuarded (r mid new : Layout ℕ) (label size x : ℕ) : Type 0 where
  pub some : 1 ≤ size
  pub most : size ≤ 16777216
  pub guards : HasGuards r.blocks
  pub there : find_block (place_of x) mid.blocks ≡ Some (zeros label (size + 48) (place_of x))
  pub others : without_block (place_of x) mid.blocks ≡ r.blocks
  pub fresh : ¬ HasBlock r.blocks x
  pub written : new ≡ with_guards mid (place_of x) size
  pub sound : ∥ IsSound new ∥₁

module _ {r mid new : Layout ℕ} {label size x : ℕ} (h : IsGuarded r mid new label size x) where
  blocks-guarded : new.blocks ≡ (with_guards mid (place_of x) size).blocks
  blocks-guarded = ap (λ (q : Layout ℕ). q.blocks) h.written

  pub guards-guarded : HasGuards new.blocks
  guards-guarded =
      let some = h.some in
      let most = h.most in
      guards-twice mid new (place_of x) size 0 (replicate 32 165) blocks-guarded
      (guards-with (place_of x) (size + 48) mid.blocks (omega (arith, some)) (omega (arith, most)) (subst HasGuards (sym h.others) h.guards) (ap (option_map (λ b. b.size)) h.there))

  live-guarded : HasBlock new.blocks x
  live-guarded = live-twice mid new (place_of x) size 0 (replicate 32 165) x blocks-guarded (live-found mid.blocks x (zeros label (size + 48) (place_of x)) h.there)

  pub below-guarded : (place_of x).1 + 33 ≤ 33554432
  below-guarded = below-end new guards-guarded h.sound x live-guarded

  module _ {a : ℕ} (next : a ≡ x + 1) where
    pub user-guarded : UserAt new a x
    user-guarded = at_user new h.sound guards-guarded a x next live-guarded

    pub there-guarded : find_block (place_of a) (map user_block new.blocks) ≡ Some (zeros label size (place_of a))
    there-guarded =
        let back = rewritten_block {L = ℕ} (32 + size) (replicate 16 165) in
        let front = rewritten_block {L = ℕ} 0 (replicate 32 165) in
        found-at new a x user-guarded new.blocks
        ∙ (ap (option_map user_block) (found-twice mid new (place_of x) size 0 (replicate 32 165) blocks-guarded ∙ ap (λ o. option_map back (option_map front o)) h.there)
        ∙ (ap Some (user-new label size (place_of x)) ∙ ap (λ p. Some (zeros label size p)) (sym user-guarded.place)))

    pub fresh-guarded : ¬ HasBlock (map user_block r.blocks) a
    fresh-guarded live =
        let same : a - 1 ≡ x = omega (arith, next) in
        h.fresh (subst (HasBlock r.blocks) same (live-down r.blocks a live).1)

    pub others-guarded : without_block (place_of x) new.blocks ≡ without_block (place_of x) mid.blocks → without_block (place_of a) (map user_block new.blocks) ≡ map user_block r.blocks
    others-guarded same = without-at new a x user-guarded new.blocks ∙ ap (map user_block) (same ∙ h.others)

-- a block of a region got another size, and its back guard was written anew
pub record IsResized (r mid new : Layout ℕ) (size kept x y : ℕ) : Type 0 where
  pub some : 1 ≤ size
  pub most : size ≤ 16777216
  pub guards : HasGuards r.blocks
  pub sized : option_map (λ b. b.size) (find_block (place_of y) mid.blocks) ≡ Some (size + 48)
  pub there : option_map (λ b. b.label) (find_block (place_of y) mid.blocks) ≡ option_map (λ b. b.label) (find_block (place_of x) r.blocks)
  pub others : without_block (place_of y) mid.blocks ≡ without_block (place_of x) r.blocks
  pub written : new ≡ with_zeros mid (place_of y) kept size
  pub sound : ∥ IsSound new ∥₁

module _ {r mid new : Layout ℕ} {size kept x y : ℕ} (h : IsResized r mid new size kept x y) where
  blocks-resized : new.blocks ≡ (with_zeros mid (place_of y) kept size).blocks
  blocks-resized = ap (λ (q : Layout ℕ). q.blocks) h.written

  pub guards-resized : HasGuards new.blocks
  guards-resized =
      let some = h.some in
      let most = h.most in
      guards-twice mid new (place_of y) size (32 + kept) (replicate (size - kept) 0) blocks-resized
      (guards-with (place_of y) (size + 48) mid.blocks (omega (arith, some)) (omega (arith, most)) (subst HasGuards (sym h.others) (guards-without (place_of x) r.blocks h.guards)) h.sized)

  live-resized : HasBlock new.blocks y
  live-resized = live-twice mid new (place_of y) size (32 + kept) (replicate (size - kept) 0) y blocks-resized (live-sized mid.blocks y (size + 48) (find_block (place_of y) mid.blocks) refl h.sized)

  pub below-resized : (place_of y).1 + 33 ≤ 33554432
  below-resized = below-end new guards-resized h.sound y live-resized

  module _ {a to : ℕ} (old : UserAt r a x) (next : to ≡ y + 1) where
    pub user-resized : UserAt new to y
    user-resized = at_user new h.sound guards-resized to y next live-resized

    pub there-resized : option_map (λ b. b.label) (find_block (place_of to) (map user_block new.blocks)) ≡ option_map (λ b. b.label) (find_block (place_of a) (map user_block r.blocks))
    there-resized =
        let label : Option (Block ℕ) → Option ℕ = λ o. option_map (λ b. b.label) o in
        ap label (found-at new to y user-resized new.blocks)
        ∙ (label-user (find_block (place_of y) new.blocks)
        ∙ (label-twice mid new (place_of y) size (32 + kept) (replicate (size - kept) 0) blocks-resized
        ∙ (h.there
        ∙ sym (ap label (found-at r a x old r.blocks) ∙ label-user (find_block (place_of x) r.blocks)))))

    pub others-resized : without_block (place_of y) new.blocks ≡ without_block (place_of y) mid.blocks → without_block (place_of to) (map user_block new.blocks) ≡ without_block (place_of a) (map user_block r.blocks)
    others-resized same = without-at new to y user-resized new.blocks ∙ (ap (map user_block) (same ∙ h.others) ∙ sym (without-at r a x old r.blocks))

    pub answer-resized : (terms : Terms) (marks moved : Numbers) (may_move : Bool) → min (user_size (let d : Debug ℕ = record { best = r; marks = marks } in d) (place_of a)) size ≡ kept → moved ≡ moved_number a to marks →
        IsPut (best_resize terms r (place_of x) (size + 48) may_move false) y mid → IsPut (debug_resize terms (record { best = r; marks = marks }) (place_of a) size may_move false) to (record { best = new; marks = moved })
    answer-resized terms marks moved may_move same along placed =
        let F : ℕ × ℕ → Layout ℕ → Debug ℕ = λ at l. record { best = with_zeros l at kept size; marks = moved_number (address (place_of a)) (address (user_place at)) marks } in
        let D : Layout ℕ → Numbers → Debug ℕ = λ l ms. record { best = l; marks = ms } in
        let goes : address (user_place (place_of y)) ≡ to = address-next (place_of y) ∙ (ap (λ n. n + 1) (address-place_of y) ∙ sym next) in
        let marked : (F (place_of y) mid).marks ≡ moved = ap (λ n. moved_number n (address (user_place (place_of y))) marks) (address-place_of a) ∙ (ap (λ n. moved_number a n marks) goes ∙ sym along) in
        let left : F (place_of y) mid ≡ D new moved = ap (λ l. D l (F (place_of y) mid).marks) (sym h.written) ∙ ap (D new) marked in
        let R : ℕ × ℕ → ℕ → Debug ℕ → Type 0 = λ q k d. IsPut (outcome_by (put_with_mark marks (place_of a) k size) (best_resize terms r q (size + 48) may_move false)) to d in
        let base : R (place_of x) kept (F (place_of y) mid) = put-by F (best_resize terms r (place_of x) (size + 48) may_move false) y to mid next user-resized.place placed in
        subst (λ q. R q (min (user_size (D r marks) (place_of a)) size) (D new moved)) (sym (guarded-at r a x old))
        (subst (λ k. R (place_of x) k (D new moved)) (sym same) (subst (R (place_of x) kept) left base))

pub refused-resized : (r : Layout ℕ) (marks : Numbers) (terms : Terms) (a x size : ℕ) (may_move : Bool) (why : RegionFault) → UserAt r a x → IsRefusal (best_resize terms r (place_of x) (size + 48) may_move) why →
    IsRefusal (debug_resize terms (record { best = r; marks = marks }) (place_of a) size may_move) why
refused-resized r marks terms a x size may_move why old h =
    let d : Debug ℕ = record { best = r; marks = marks } in
    refused-by (put_with_mark marks (place_of a) (min (user_size d (place_of a)) size) size) (best_resize terms r (guarded_place (place_of a)) (size + 48) may_move) why
    (subst (λ q. IsRefusal (best_resize terms r q (size + 48) may_move) why) (sym (guarded-at r a x old)) h)
