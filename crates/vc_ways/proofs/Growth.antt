-- Segments that come with a command.
use Rattle.vc_base.proofs.Common.{◌≡◌, ◌≢◌, ℕ, zero, suc, ◌+◌, ◌-◌, ◌<◌, ask, take, take-append-drop, ⊎_elim, cases_eq, get_or-set_same, get_or-set_other, length-set, sum-map, segment_bytes, pool_free, List, [], ◌∷◌, ◌++◌, Bool, true, false, cond, Option, Some, None, length, map, sum, sum_by-append, sum_by-cons, drop-cons, drop_all, ◌≤◌, get_or, set, drop, eqb, nat_lt, refl, sym, ap, ◌∙◌, subst, arith, Block, Layout, Outcome, Done, Refused, Put, Pool, Terms, best_alloc, best_need, best_resize, can_end, can_stay, cell_for, done_as, element_with, find_block, if_latest, is_at, last_alloc, last_need, last_place, last_resize, latest, outcome_of_move, place_in, pool_alloc, pool_need, put_asked, put_behind_latest, put_carving, put_free, put_in_new, put_in_newest, put_or_ask, put_or_lend, resize_found, resize_latest, stays, uncarved, with_grant, without_block_at, NotLast, PoolSize, cases_Bool, Granted, NotLent, TooMany, Asked}
use Rattle.std.proofs.lemmas.List.Sums.{get_or-le-sum_by, sum_by-set}
use Rattle.std.specs.List.{sum_by}
use Rattle.vc_model.specs.Best.{put}
use Rattle.vc_model.specs.Pool.{empty_pool}
use Rattle.vc_ways.specs.Extents.{bytes_behind}
use Rattle.vc_ways.specs.LastWay.{LastWay, done_or, drop_dead, drop_dead_in, ends_dead, free_latest_of, last_dead, last_put, last_sized, latest_place, latest_sized, without_latest}
use Rattle.vc_ways.specs.PoolWay.{class_bytes, class_of, cell_put, cell_sized, cell_free, pool_at, terms_at}
use Rattle.vc_ways.proofs.Grown.{Grown, OnDone, grown-same, grown-with}

abbrev bytes_in : List (ℕ × ℕ) → ℕ
bytes_in segments = sum (map (λ s. s.1) segments)

sum-front : (old more : List (ℕ × ℕ)) → bytes_in (old ++ more) ≡ bytes_in old + bytes_in more
sum-front old more =
    let size : ℕ × ℕ → ℕ = λ s. s.1 in
    let all = sum-map size (old ++ more) in
    let parts = sum_by-append size old more in
    let first = sum-map size old in
    let second = sum-map size more in
    omega (arith, all, parts, first, second)

-- their sizes, behind the first ones
pub front-bytes : (k : ℕ) (segments : List (ℕ × ℕ)) → bytes_in segments ≡ bytes_in (take k segments) + bytes_behind k segments
front-bytes k segments = ap bytes_in (sym (take-append-drop k segments)) ∙ sum-front (take k segments) (drop k segments)

-- their sizes, by those from where one was the newest
pub grown-bytes : (old new : List (ℕ × ℕ)) → Grown old new → (bytes_behind (length old - 1) old ≤ sum (map (λ s. s.1) old)) × (sum (map (λ s. s.1) new) + bytes_behind (length old - 1) old ≡ sum (map (λ s. s.1) old) + bytes_behind (length old - 1) new)
grown-bytes old new h =
    let before = front-bytes (length old - 1) old in
    let after = front-bytes (length old - 1) new in
    let same = ap bytes_in h.is in
    (omega (arith, before), omega (arith, before, after, same))

-- in a best region, and in a last one
module _ (terms : Terms) (r : Layout ℕ) where
  abbrev Grows : Put (Layout ℕ) → Type 0
  Grows p = Grown r.segments p.region.segments

  same : Grown r.segments r.segments
  same = grown-same r.segments r.segments refl

  module _ (label size : ℕ) where
    new-grows : (align : ℕ) (asked : Asked) → OnDone Grows (put_in_new r label size align asked)
    new-grows align (Granted g) = there (place_in (with_grant r g) size align)
      where
        there : (at : Option (ℕ × ℕ)) → OnDone Grows (put (with_grant r g) label size (Some g) at)
        there None = tt
        there (Some at) = grown-with g r.segments
    new-grows align TooMany = tt
    new-grows align NotLent = tt

    asks-grows : (align : ℕ) (refused : Bool) (at : Option (ℕ × ℕ)) → OnDone Grows (put_or_ask terms r label size align refused at)
    asks-grows align refused None = new-grows align (ask terms (best_need terms size align) r.segments refused)
    asks-grows align refused (Some at) = same

    pub alloc-grows : (align : ℕ) (refused : Bool) → OnDone Grows (best_alloc terms r label size align refused)
    alloc-grows align refused = asks-grows align refused (place_in r size align)

    newest-grows : (asked : Asked) → OnDone Grows (put_in_newest r label size asked)
    newest-grows (Granted g) = there (last_place (with_grant r g) size)
      where
        there : (at : Option (ℕ × ℕ)) → OnDone Grows (put_behind_latest (with_grant r g) label size (Some g) at)
        there None = tt
        there (Some at) = grown-with g r.segments
    newest-grows TooMany = tt
    newest-grows NotLent = tt

    lends-grows : (refused : Bool) (at : Option (ℕ × ℕ)) → OnDone Grows (put_or_lend terms r label size refused at)
    lends-grows refused None = newest-grows (ask terms (last_need terms size) r.segments refused)
    lends-grows refused (Some at) = same

    pub last-grows : (refused : Bool) → OnDone Grows (last_alloc terms r label size refused)
    last-grows refused = lends-grows refused (last_place r size)

  moves : (size : ℕ) (b : Block ℕ) (o : Outcome (Put (Layout ℕ))) → OnDone Grows o → OnDone Grows (outcome_of_move size b o)
  moves size b (Done p) h = h
  moves size b (Refused why) h = tt

  stays-or : (size : ℕ) (b : Block ℕ) (stay : Bool) (o : Outcome (Put (Layout ℕ))) → OnDone Grows o → OnDone Grows (cond stay (stays r size b) (outcome_of_move size b o))
  stays-or size b true o h = same
  stays-or size b false o h = moves size b o h

  pub resize-grows : (at : ℕ × ℕ) (size : ℕ) (refused : Bool) → OnDone Grows (best_resize terms r at size true refused)
  resize-grows at size refused = there (find_block at r.blocks)
    where
      there : (b : Option (Block ℕ)) → OnDone Grows (resize_found terms r size true refused b)
      there None = tt
      there (Some b) = stays-or size b (can_stay r size b) (best_alloc terms r b.label size 32 refused) (alloc-grows b.label size 32 refused)

  pub last-resize-grows : (at : ℕ × ℕ) (size : ℕ) (refused : Bool) → OnDone Grows (last_resize terms r at size true refused)
  last-resize-grows at size refused = there (latest r)
    where
      is-it : (b : Block ℕ) (t : Bool) → OnDone Grows (cond t (resize_latest terms r size true refused b) (Refused NotLast))
      is-it b true = stays-or size b (can_end r size b) (last_alloc terms r b.label size refused) (last-grows b.label size refused)
      is-it b false = tt

      there : (b : Option (Block ℕ)) → OnDone Grows (if_latest at (resize_latest terms r size true refused) b)
      there None = tt
      there (Some b) = is-it b (is_at at b)

-- of what is made of the answer
pub done-grows : {A B : Type 0} (P : A → Type 0) (Q : B → Type 0) (form : A → B) → ((a : A) → P a → Q (form a)) → (o : Outcome A) → OnDone P o → OnDone Q (done_as form o)
done-grows P Q form to (Done a) h = to a h
done-grows P Q form to (Refused why) h = tt

-- in the way of a last region
module _ (terms : Terms) where
  abbrev WayGrows : LastWay → ℕ × LastWay → Type 0
  WayGrows w p = Grown w.region.segments p.1.region.segments

  pub way-put-grows : (w : LastWay) (size : ℕ) (refused : Bool) → OnDone (WayGrows w) (last_put terms w size refused)
  way-put-grows w size refused =
      done-grows (λ p. Grown w.region.segments p.region.segments) (WayGrows w) _ (λ p h. h) (last_alloc terms w.region 0 size refused) (last-grows terms w.region 0 size refused)

  pub way-sized-grows : (w : LastWay) (i size : ℕ) (refused : Bool) → OnDone (WayGrows w) (last_sized terms w i size refused)
  way-sized-grows w i size refused = there (eqb (i + 1) (length w.dead))
    where
      there : (t : Bool) → OnDone (WayGrows w) (cond t (latest_sized terms w i size refused) (last_put terms (last_dead w i) size refused))
      there true =
          done-grows (λ p. Grown w.region.segments p.region.segments) (WayGrows w) _ (λ p h. h) (last_resize terms w.region (latest_place w.region) size true refused) (last-resize-grows terms w.region (latest_place w.region) size refused)
      there false = way-put-grows (last_dead w i) size refused

-- dead blocks go, and no segment
at-it : (r : Layout ℕ) (at : ℕ × ℕ) (t : Bool) → (done_or r (cond t (Done (without_block_at r at)) (Refused NotLast))).segments ≡ r.segments
at-it r at true = refl
at-it r at false = refl

latest-freed : (r : Layout ℕ) (at : ℕ × ℕ) (c : Option (Block ℕ)) → (done_or r (if_latest at (λ d. Done (without_block_at r at)) c)).segments ≡ r.segments
latest-freed r at None = refl
latest-freed r at (Some c) = at-it r at (is_at at c)

freed-by : (r : Layout ℕ) (b : Option (Block ℕ)) → (free_latest_of r b).segments ≡ r.segments
freed-by r None = refl
freed-by r (Some b) = latest-freed r (b.seg, b.off) (latest r)

dropped-in : (n : ℕ) (w : LastWay) → (drop_dead_in n w).region.segments ≡ w.region.segments
dropped-in zero w = refl
dropped-in (suc n) w =
    ⊎_elim
    (λ (t : ends_dead w.dead ≡ true). rw t (dropped-in n (without_latest w) ∙ freed-by w.region (latest w.region)))
    (λ (t : ends_dead w.dead ≡ false). rw t refl)
    (cases_Bool (ends_dead w.dead))

pub dropped : (w : LastWay) → (drop_dead w).region.segments ≡ w.region.segments
dropped w = dropped-in (length w.dead) w

-- in a pool
module _ (terms : Terms) (r : Pool ℕ) (label size : ℕ) where
  abbrev PoolGrows : Put (Pool ℕ) → Type 0
  PoolGrows p = Grown r.layout.segments p.region.layout.segments

  carved-grows : (asked : Asked) → OnDone PoolGrows (put_asked r label size asked)
  carved-grows (Granted g) = grown-with g r.layout.segments
  carved-grows TooMany = tt
  carved-grows NotLent = tt

  pub pool-grows : (refused : Bool) → OnDone PoolGrows (pool_alloc terms r label size refused)
  pool-grows refused = fits (nat_lt (element_with r size) size)
    where
      carves : (at : Option (ℕ × ℕ)) → OnDone PoolGrows (put_carving terms r label size refused at)
      carves None = carved-grows (ask terms (pool_need terms r size) r.layout.segments refused)
      carves (Some at) = same terms r.layout

      free : (freed : List (ℕ × ℕ)) → OnDone PoolGrows (put_free terms r label size refused freed)
      free [] = carves (uncarved (cell_for (element_with r size)) r.carved r.layout.segments)
      free (at ∷ freed) = same terms r.layout

      fits : (t : Bool) → OnDone PoolGrows (cond t (Refused PoolSize) (put_free terms r label size refused r.freed))
      fits true = tt
      fits false = free r.freed

abbrev pub pool_bytes : Pool ℕ → ℕ
pool_bytes p = segment_bytes p.layout

-- the pool of a class grows, and no other one does
pub record PoolsGrow (old new : List (Pool ℕ)) (class : ℕ) : Type 0 where
  pub grown : Grown (pool_at old class).layout.segments (pool_at new class).layout.segments
  pub most : pool_bytes (pool_at old class) ≤ sum (map pool_bytes old)
  pub sum : sum (map pool_bytes new) + pool_bytes (pool_at old class) ≡ sum (map pool_bytes old) + pool_bytes (pool_at new class)

pools-most : (pools : List (Pool ℕ)) (class : ℕ) → class < length pools → pool_bytes (pool_at pools class) ≤ sum (map pool_bytes pools)
pools-most pools class lt = omega (arith, get_or-le-sum_by pool_bytes pools class empty_pool lt, sum-map pool_bytes pools)

pools-set : (pools : List (Pool ℕ)) (class : ℕ) (q : Pool ℕ) → class < length pools → Grown (pool_at pools class).layout.segments q.layout.segments → PoolsGrow pools (set pools class q) class
pools-set pools class q lt grown =
    let here : pool_at (set pools class q) class ≡ q = get_or-set_same pools class q empty_pool lt in
    record {
      grown = subst (λ (p : Pool ℕ). Grown (pool_at pools class).layout.segments p.layout.segments) (sym here) grown;
      sum =
          ap (λ n. n + pool_bytes (pool_at pools class)) (sum-map pool_bytes (set pools class q))
          ∙ (sum_by-set pool_bytes pools class q empty_pool lt
          ∙ (ap (λ n. n + pool_bytes q) (sym (sum-map pool_bytes pools)) ∙ ap (λ p. sum (map pool_bytes pools) + pool_bytes p) (sym here)));
      most = pools-most pools class lt;
    }

module _ (terms : List Terms) (pools : List (Pool ℕ)) (many : length pools ≡ 20) where
  pub cells-grow : (size : ℕ) (refused : Bool) → class_of size < 20 → OnDone (λ (p : (ℕ × ℕ) × List (Pool ℕ)). PoolsGrow pools p.1 (class_of size) × (length p.1 ≡ 20)) (cell_put terms pools size refused)
  cells-grow size refused few =
      done-grows (λ p. Grown (pool_at pools (class_of size)).layout.segments p.region.layout.segments) (λ (p : (ℕ × ℕ) × List (Pool ℕ)). PoolsGrow pools p.1 (class_of size) × (length p.1 ≡ 20)) _
      (λ p h. (pools-set pools (class_of size) p.region (omega (arith, few, many)) h, length-set pools (class_of size) p.region ∙ many))
      (pool_alloc (terms_at terms (class_of size)) (pool_at pools (class_of size)) 0 (class_bytes (class_of size)) refused) (pool-grows (terms_at terms (class_of size)) (pool_at pools (class_of size)) 0 (class_bytes (class_of size)) refused)

  -- a cell is freed
  freed-same : (mid : List (Pool ℕ)) (class : ℕ) (at : ℕ × ℕ) → class < length mid → (n : ℕ) → (pool_at (set mid class (pool_free (pool_at mid class) at)) n).layout.segments ≡ (pool_at mid n).layout.segments
  freed-same mid class at lt n =
      ⊎_elim
      (λ (e : n ≡ class). ap (λ k. (pool_at (set mid class (pool_free (pool_at mid class) at)) k).layout.segments) e ∙ (ap (λ (p : Pool ℕ). p.layout.segments) (get_or-set_same mid class (pool_free (pool_at mid class) at) empty_pool lt) ∙ ap (λ k. (pool_at mid k).layout.segments) (sym e)))
      (λ (other : n ≢ class). ap (λ (p : Pool ℕ). p.layout.segments) (get_or-set_other mid class n (pool_free (pool_at mid class) at) empty_pool other))
      (cases_eq n class)

  pub freed-sum : (mid : List (Pool ℕ)) (class : ℕ) (at : ℕ × ℕ) → class < length mid → sum (map pool_bytes (set mid class (pool_free (pool_at mid class) at))) ≡ sum (map pool_bytes mid)
  freed-sum mid class at lt =
      let all = sum_by-set pool_bytes mid class (pool_free (pool_at mid class) at) empty_pool lt in
      let new = sum-map pool_bytes (set mid class (pool_free (pool_at mid class) at)) in
      let old = sum-map pool_bytes mid in
      omega (arith, all, new, old)

  pub freed-grow : (mid : List (Pool ℕ)) (class size : ℕ) (at : ℕ × ℕ) → length mid ≡ 20 → class_of size < 20 → PoolsGrow pools mid class → PoolsGrow pools (cell_free mid size at) class
  freed-grow mid class size at long few h =
      let lt : class_of size < length mid = omega (arith, few, long) in
      let segs = freed-same mid (class_of size) at lt class in
      let all = freed-sum mid (class_of size) at lt in
      record {
        grown = subst (λ (ss : List (ℕ × ℕ)). Grown (pool_at pools class).layout.segments ss) (sym segs) h.grown;
        sum = ap (λ n. n + pool_bytes (pool_at pools class)) all ∙ (h.sum ∙ ap (λ (ss : List (ℕ × ℕ)). sum (map pool_bytes pools) + sum (map (λ s. s.1) ss)) (sym segs));
        most = h.most;
      }

  pub sized-grow : (old size : ℕ) (at : ℕ × ℕ) (refused : Bool) → class_of old < 20 → class_of size < 20 → OnDone (λ (p : (ℕ × ℕ) × List (Pool ℕ)). PoolsGrow pools p.1 (class_of size)) (cell_sized terms pools old at size refused)
  sized-grow old size at refused few-old few = there (eqb (class_of size) (class_of old))
    where
      there : (t : Bool) → OnDone (λ (p : (ℕ × ℕ) × List (Pool ℕ)). PoolsGrow pools p.1 (class_of size)) (cond t (Done (at, pools)) (done_as {B = (ℕ × ℕ) × List (Pool ℕ)} (λ p. (p.0, cell_free p.1 old at)) (cell_put terms pools size refused)))
      there true = record { grown = grown-same _ _ refl; sum = refl; most = pools-most pools (class_of size) (omega (arith, few, many)) }
      there false =
          done-grows (λ (p : (ℕ × ℕ) × List (Pool ℕ)). PoolsGrow pools p.1 (class_of size) × (length p.1 ≡ 20)) (λ (p : (ℕ × ℕ) × List (Pool ℕ)). PoolsGrow pools p.1 (class_of size)) _ (λ p h. freed-grow p.1 (class_of size) old at h.1 few-old h.0)
          (cell_put terms pools size refused) (cells-grow size refused few)

-- the sizes behind one more segment
pub behind-next : (segments : List (ℕ × ℕ)) (i : ℕ) (d : ℕ × ℕ) → i < length segments → bytes_behind i segments ≡ (get_or segments i d).1 + bytes_behind (i + 1) segments
behind-next segments i d lt =
    let size : ℕ × ℕ → ℕ = λ s. s.1 in
    let all = sum-map size (drop i segments) in
    let rest = sum-map size (drop (i + 1) segments) in
    let next : i + 1 ≡ suc i = omega arith in
    let parts : sum_by size (drop i segments) ≡ (get_or segments i d).1 + sum_by size (drop (suc i) segments) = ap (sum_by size) (drop-cons segments i d lt) ∙ sum_by-cons size (get_or segments i d) (drop (suc i) segments) in
    let shift : sum_by size (drop (suc i) segments) ≡ sum_by size (drop (i + 1) segments) = ap (λ n. sum_by size (drop n segments)) (sym next) in
    omega (arith, all, rest, parts, shift)

pub behind-none : (segments : List (ℕ × ℕ)) (i : ℕ) → length segments ≤ i → bytes_behind i segments ≡ 0
behind-none segments i le = ap (λ (ss : List (ℕ × ℕ)). sum (map (λ s. s.1) ss)) (drop_all i segments le)
