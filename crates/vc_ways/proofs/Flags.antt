-- Which blocks of the last region are dead, as it changes.
use Rattle.vc_base.proofs.Common.{◌≡◌, ◌≢◌, ℕ, zero, suc, ◌+◌, ◌-◌, ◌<◌, ◌≤◌, List, [], ◌∷◌, ◌++◌, Bool, true, false, length, get_or, eqb, refl, sym, ap, ◌∙◌, ⊎_elim, cases_Bool, cases_lt, arith, false≢true, get_or_append_left, get_or-set_other, get_or-take, Outcome, Done, Refused, Put, Layout, done_as, last_alloc, last_resize}
use Rattle.std.proofs.lemmas.List.{get_or_default}
use Rattle.vc_model.specs.Discipline.{Terms}
use Rattle.vc_ways.specs.LastWay.{LastWay, done_or, drop_dead, drop_dead_in, ends_dead, last_dead, last_put, last_sized, latest_place, latest_sized, without_latest}

-- the block behind so many is alive
abbrev pub IsAlive : LastWay → ℕ → Type 0
IsAlive w i = get_or w.dead i true ≡ false

past : (xs : List Bool) (i : ℕ) → length xs ≤ i → get_or xs i true ≡ true
past [] i le = refl
past (x ∷ xs) zero le = absurd (omega (arith, le))
past (x ∷ xs) (suc i) le = past xs i (omega (arith, le))

pub alive-within : (w : LastWay) (i : ℕ) → IsAlive w i → i < length w.dead
alive-within w i alive =
    ⊎_elim (λ (lt : i < length w.dead). lt) (λ (le : length w.dead ≤ i). absurd (false≢true (sym alive ∙ past w.dead i le))) (cases_lt i (length w.dead))

latest-dead : (dead : List Bool) → 0 < length dead → ends_dead dead ≡ true → get_or dead (length dead - 1) true ≡ true
latest-dead dead some t = get_or_default dead (length dead - 1) true false (omega (arith, some)) ∙ t

-- an alive one isn't dropped
drop-in-alive : (n : ℕ) (w : LastWay) (i : ℕ) → IsAlive w i → IsAlive (drop_dead_in n w) i
drop-in-alive zero w i alive = alive
drop-in-alive (suc n) w i alive =
    ⊎_elim
    (λ (t : ends_dead w.dead ≡ true).
    let within = alive-within w i alive in
    let other : i ≢ length w.dead - 1 = λ e. false≢true (sym alive ∙ (ap (λ k. get_or w.dead k true) e ∙ latest-dead w.dead (omega (arith, within)) t)) in
    let less : i < length w.dead - 1 = omega (arith, within, other) in
    let rest : IsAlive (without_latest w) i = get_or-take (length w.dead - 1) w.dead i true less ∙ alive in
    rw t (drop-in-alive n (without_latest w) i rest))
    (λ (t : ends_dead w.dead ≡ false). rw t alive)
    (cases_Bool (ends_dead w.dead))

pub drop-alive : (w : LastWay) (i : ℕ) → IsAlive w i → IsAlive (drop_dead w) i
drop-alive w i alive = drop-in-alive (length w.dead) w i alive

-- another one stays alive beside one that dies
pub dead-alive : (w : LastWay) (i k : ℕ) → IsAlive w k → k ≢ i → IsAlive (last_dead w i) k
dead-alive w i k alive other = get_or-set_other w.dead i k true true other ∙ alive

-- a block is put: behind the others
put-flags : (w : LastWay) (o : Outcome (Put (Layout ℕ))) (i : ℕ) (w' : LastWay) → done_as {B = ℕ × LastWay} (λ p. (length w.dead, record { region = p.region; dead = w.dead ++ false ∷ [] })) o ≡ Done (i, w') → (i ≡ length w.dead) × (w'.dead ≡ w.dead ++ false ∷ [])
put-flags w (Done p) i w' e = let same = ap (done_or (length w.dead, w)) e in (sym (ap (λ (q : ℕ × LastWay). q.0) same), sym (ap (λ (q : ℕ × LastWay). q.1.dead) same))
put-flags w (Refused why) i w' e = absurd (cc)

last-new : (ds : List Bool) → get_or (ds ++ false ∷ []) (length ds) true ≡ false
last-new [] = refl
last-new (d ∷ ds) = last-new ds

module _ (terms : Terms) (w : LastWay) (size i : ℕ) (w' : LastWay) (is : last_put terms w size false ≡ Done (i, w')) where
  flags : (i ≡ length w.dead) × (w'.dead ≡ w.dead ++ false ∷ [])
  flags = put-flags w (last_alloc terms w.region 0 size false) i w' is

  pub put-alive : IsAlive w' i
  put-alive = ap (λ (ds : List Bool). get_or ds i true) flags.1 ∙ (ap (λ k. get_or (w.dead ++ false ∷ []) k true) flags.0 ∙ last-new w.dead)

  pub put-stays-alive : (k : ℕ) → IsAlive w k → IsAlive w' k
  put-stays-alive k alive =
      ap (λ (ds : List Bool). get_or ds k true) flags.1 ∙ (get_or_append_left w.dead (false ∷ []) true k (alive-within w k alive) ∙ alive)

  pub put-other : (k : ℕ) → IsAlive w k → k ≢ i
  put-other k alive e = let within = alive-within w k alive in omega (arith, within, e, flags.0)

-- the latest block gets another size: no flag changes
same-flags : (w : LastWay) (j : ℕ) (o : Outcome (Put (Layout ℕ))) (i : ℕ) (w' : LastWay) → done_as {B = ℕ × LastWay} (λ p. (j, record { region = p.region; dead = w.dead })) o ≡ Done (i, w') → (i ≡ j) × (w'.dead ≡ w.dead)
same-flags w j (Done p) i w' e = let same = ap (done_or (j, w)) e in (sym (ap (λ (q : ℕ × LastWay). q.0) same), sym (ap (λ (q : ℕ × LastWay). q.1.dead) same))
same-flags w j (Refused why) i w' e = absurd (cc)

module _ (terms : Terms) (w : LastWay) (j size i : ℕ) (w' : LastWay) (alive : IsAlive w j) (is : last_sized terms w j size false ≡ Done (i, w')) where
  -- it is alive, and another one that was is still, elsewhere
  pub sized-alive : IsAlive w' i × ((k : ℕ) → IsAlive w k → k ≢ j → IsAlive w' k × (k ≢ i))
  sized-alive =
      ⊎_elim
      (λ (t : (eqb (j + 1) (length w.dead)) ≡ true).
      let there : latest_sized terms w j size false ≡ Done (i, w') = rw t at is in
      let same = same-flags w j (last_resize terms w.region (latest_place w.region) size true false) i w' there in (
        ap (λ (ds : List Bool). get_or ds i true) same.1 ∙ (ap (λ k. get_or w.dead k true) same.0 ∙ alive),
        λ k live other. (ap (λ (ds : List Bool). get_or ds k true) same.1 ∙ live, λ e. other (e ∙ same.0)),
      ))
      (λ (t : (eqb (j + 1) (length w.dead)) ≡ false).
      let put : last_put terms (last_dead w j) size false ≡ Done (i, w') = rw t at is in (
        put-alive terms (last_dead w j) size i w' put,
        λ k live other.
            let still = dead-alive w j k live other in
            (put-stays-alive terms (last_dead w j) size i w' put k still, put-other terms (last_dead w j) size i w' put k still),
      ))
      (cases_Bool (eqb (j + 1) (length w.dead)))
