-- What a call of a region lends: what it is granted stands behind the segments there, or in the last one.
use Rattle.vc_base.proofs.Common.{◌≡◌, ℕ, ◌+◌, ◌≤◌, ◌⊎◌, Bool, true, false, cond, List, [], ◌∷◌, length, nat_le, nat_lt, Some, None, Option, refl, inl, inr, ⊎_elim, arith, best_alloc, best_need, place_in, put_in_new, put_or_ask, Terms, can_end, if_latest, last_alloc, last_need, last_place, put_behind_latest, put_in_newest, put_or_lend, resize_latest, Block, Layout, is_at, with_grant, Done, Fixed, NotLast, Outcome, PoolSize, Put, Refused, outcome_as, Pool, cell_for, element_with, pool_alloc, pool_need, pool_resize, put_asked, put_carving, put_free, uncarved, best_resize, can_stay, outcome_of_move, resize_found, stays, Asked, Grant, Granted, NotLent, TooMany, ask, lowest_unused, new_segment, numbers, find_block}
use Rattle.vc_model.specs.Best.{put}
use Rattle.vc_model.specs.Segments.{ask_by, growing, segment_limit, size_limit}
use Rattle.vc_audit.specs.Debug.{put_with_guards, outcome_by, put_with_mark}
use Rattle.vc_audit.specs.Profile.{profile_after}
use Rattle.vc_objects.specs.Objects.{option_list}
use Rattle.vc_region.specs.Region.{OfBest, OfPool, OfLast, OfDebug, OfProfile, Region, segments_of}
use Rattle.vc_counts.proofs.GrantedSegments.{IsFor, StandBehind, behind-one, none-behind}

pub either : {A : Type 0} (P : A → Type 0) (t : Bool) (a b : A) → P a → P b → P (cond t a b)
either P true a b p q = p
either P false a b p q = q

-- what asking granted is a new segment, or goes into one of these
abbrev pub IsAskedFor : List (ℕ × ℕ) → Asked → Type 0
IsAskedFor segments (Granted g) = IsFor segments g
IsAskedFor segments TooMany = Unit {0}
IsAskedFor segments NotLent = Unit {0}

asked-by : (o : Option (ℕ × ℕ)) (bytes : ℕ) (segments : List (ℕ × ℕ)) (refused : Bool) → (o ≡ None) ⊎ (1 ≤ length segments) → IsAskedFor segments (ask_by o bytes segments refused)
asked-by None bytes segments refused h =
    let granted = Granted (new_segment (lowest_unused (numbers segments)) bytes) in
    either (IsAskedFor segments) (nat_lt (length segments) segment_limit) (cond refused NotLent granted) TooMany (either (IsAskedFor segments) refused NotLent granted tt (inl refl)) tt
asked-by (Some s) bytes segments refused h =
    let granted = Granted (record { number = s.0; bytes = bytes; fresh = false }) in
    let some : 1 ≤ length segments = ⊎_elim (λ (e : Some s ≡ None). absurd (cc)) (λ (l : 1 ≤ length segments). l) h in
    either (IsAskedFor segments) (nat_le (s.1 + bytes) size_limit) (cond refused NotLent granted) TooMany (either (IsAskedFor segments) refused NotLent granted tt (inr some)) tt

grows-in : (terms : Terms) (segments : List (ℕ × ℕ)) → (growing terms segments ≡ None) ⊎ (1 ≤ length segments)
grows-in terms [] = inl (either (λ o. o ≡ None) terms.grows None None refl refl)
grows-in terms (s ∷ ss) = inr (omega arith)

asked-for : (terms : Terms) (bytes : ℕ) (segments : List (ℕ × ℕ)) (refused : Bool) → IsAskedFor segments (ask terms bytes segments refused)
asked-for terms bytes segments refused = asked-by (growing terms segments) bytes segments refused (grows-in terms segments)

-- what was granted for a block stands behind these or in the last one, in what the region is then
abbrev pub PutsBy : {R : Type 0} → (R → List (ℕ × ℕ)) → List (ℕ × ℕ) → Outcome (Put R) → Type 0
PutsBy of segments (Done p) = StandBehind segments (of p.region) (option_list p.granted)
PutsBy of segments (Refused why) = Unit {0}

abbrev pub Puts : {L : Type 0} → List (ℕ × ℕ) → Outcome (Put (Layout L)) → Type 0
Puts segments o = PutsBy (λ r. r.segments) segments o

abbrev pub PutsCell : {L : Type 0} → List (ℕ × ℕ) → Outcome (Put (Pool L)) → Type 0
PutsCell segments o = PutsBy (λ p. p.layout.segments) segments o

abbrev pub PutsIn : {L : Type 0} → List (ℕ × ℕ) → Outcome (Put (Region L)) → Type 0
PutsIn segments o = PutsBy segments_of segments o

module _ {L : Type 0} where
  puts-new : (r : Layout L) (g : Grant) → IsFor r.segments g → (label : L) (size : ℕ) (o : Option (ℕ × ℕ)) → Puts r.segments (put (with_grant r g) label size (Some g) o)
  puts-new r g fresh label size None = tt
  puts-new r g fresh label size (Some at) = behind-one r.segments g fresh

  puts-asked : (r : Layout L) (label : L) (size align : ℕ) (a : Asked) → IsAskedFor r.segments a → Puts r.segments (put_in_new r label size align a)
  puts-asked r label size align (Granted g) new = puts-new r g new label size (place_in (with_grant r g) size align)
  puts-asked r label size align TooMany new = tt
  puts-asked r label size align NotLent new = tt

  puts-placed : (terms : Terms) (r : Layout L) (label : L) (size align : ℕ) (refused : Bool) (o : Option (ℕ × ℕ)) → Puts r.segments (put_or_ask terms r label size align refused o)
  puts-placed terms r label size align refused (Some at) = none-behind r.segments r.segments refl
  puts-placed terms r label size align refused None = puts-asked r label size align (ask terms (best_need terms size align) r.segments refused) (asked-for terms (best_need terms size align) r.segments refused)

  pub puts-best : (terms : Terms) (r : Layout L) (label : L) (size align : ℕ) (refused : Bool) → Puts r.segments (best_alloc terms r label size align refused)
  puts-best terms r label size align refused = puts-placed terms r label size align refused (place_in r size align)

  puts-moved : (segments : List (ℕ × ℕ)) (size : ℕ) (b : Block L) (o : Outcome (Put (Layout L))) → Puts segments o → Puts segments (outcome_of_move size b o)
  puts-moved segments size b (Done p) h = h
  puts-moved segments size b (Refused why) h = tt

  puts-stay : (r : Layout L) (size : ℕ) (b : Block L) → Puts r.segments (stays r size b)
  puts-stay r size b = none-behind r.segments r.segments refl

  -- a block stays, or moves where it may
  puts-resized : (r : Layout L) (size : ℕ) (b : Block L) (stay move : Bool) (o : Outcome (Put (Layout L))) → Puts r.segments o → Puts r.segments (cond stay (stays r size b) (cond move (outcome_of_move size b o) (Refused Fixed)))
  puts-resized r size b stay move o h =
      either (Puts r.segments) stay (stays r size b) (cond move (outcome_of_move size b o) (Refused Fixed)) (puts-stay r size b)
      (either (Puts r.segments) move (outcome_of_move size b o) (Refused Fixed) (puts-moved r.segments size b o h) tt)

  puts-found : (terms : Terms) (r : Layout L) (size : ℕ) (may_move refused : Bool) (o : Option (Block L)) → Puts r.segments (resize_found terms r size may_move refused o)
  puts-found terms r size may_move refused None = tt
  puts-found terms r size may_move refused (Some b) =
      puts-resized r size b (can_stay r size b) may_move (best_alloc terms r b.label size 32 refused) (puts-best terms r b.label size 32 refused)

  pub puts-resize : (terms : Terms) (r : Layout L) (at : ℕ × ℕ) (size : ℕ) (may_move refused : Bool) → Puts r.segments (best_resize terms r at size may_move refused)
  puts-resize terms r at size may_move refused = puts-found terms r size may_move refused (find_block at r.blocks)

  puts-newest : (r : Layout L) (g : Grant) → IsFor r.segments g → (label : L) (size : ℕ) (o : Option (ℕ × ℕ)) → Puts r.segments (put_behind_latest (with_grant r g) label size (Some g) o)
  puts-newest r g fresh label size None = tt
  puts-newest r g fresh label size (Some at) = behind-one r.segments g fresh

  puts-lent : (r : Layout L) (label : L) (size : ℕ) (a : Asked) → IsAskedFor r.segments a → Puts r.segments (put_in_newest r label size a)
  puts-lent r label size (Granted g) new = puts-newest r g new label size (last_place (with_grant r g) size)
  puts-lent r label size TooMany new = tt
  puts-lent r label size NotLent new = tt

  puts-behind : (terms : Terms) (r : Layout L) (label : L) (size : ℕ) (refused : Bool) (o : Option (ℕ × ℕ)) → Puts r.segments (put_or_lend terms r label size refused o)
  puts-behind terms r label size refused (Some at) = none-behind r.segments r.segments refl
  puts-behind terms r label size refused None = puts-lent r label size (ask terms (last_need terms size) r.segments refused) (asked-for terms (last_need terms size) r.segments refused)

  pub puts-last : (terms : Terms) (r : Layout L) (label : L) (size : ℕ) (refused : Bool) → Puts r.segments (last_alloc terms r label size refused)
  puts-last terms r label size refused = puts-behind terms r label size refused (last_place r size)

  pub puts-latest : (terms : Terms) (r : Layout L) (at : ℕ × ℕ) (size : ℕ) (may_move refused : Bool) (o : Option (Block L)) → Puts r.segments (if_latest at (resize_latest terms r size may_move refused) o)
  puts-latest terms r at size may_move refused None = tt
  puts-latest terms r at size may_move refused (Some b) =
      either (Puts r.segments) (is_at at b) (resize_latest terms r size may_move refused b) (Refused NotLast)
      (puts-resized r size b (can_end r size b) may_move (last_alloc terms r b.label size refused) (puts-last terms r b.label size refused)) tt

  puts-cell : (p : Pool L) (label : L) (size : ℕ) (a : Asked) → IsAskedFor p.layout.segments a → PutsCell p.layout.segments (put_asked p label size a)
  puts-cell p label size (Granted g) new = behind-one p.layout.segments g new
  puts-cell p label size TooMany new = tt
  puts-cell p label size NotLent new = tt

  puts-carved : (terms : Terms) (p : Pool L) (label : L) (size : ℕ) (refused : Bool) (o : Option (ℕ × ℕ)) → PutsCell p.layout.segments (put_carving terms p label size refused o)
  puts-carved terms p label size refused (Some at) = none-behind p.layout.segments p.layout.segments refl
  puts-carved terms p label size refused None = puts-cell p label size (ask terms (pool_need terms p size) p.layout.segments refused) (asked-for terms (pool_need terms p size) p.layout.segments refused)

  puts-free : (terms : Terms) (p : Pool L) (label : L) (size : ℕ) (refused : Bool) (freed : List (ℕ × ℕ)) → PutsCell p.layout.segments (put_free terms p label size refused freed)
  puts-free terms p label size refused (at ∷ freed) = none-behind p.layout.segments p.layout.segments refl
  puts-free terms p label size refused [] =
      puts-carved terms p label size refused (uncarved (cell_for (element_with p size)) p.carved p.layout.segments)

  pub puts-pool : (terms : Terms) (p : Pool L) (label : L) (size : ℕ) (refused : Bool) → PutsCell p.layout.segments (pool_alloc terms p label size refused)
  puts-pool terms p label size refused =
      either (PutsCell p.layout.segments) (nat_lt (element_with p size) size) (Refused PoolSize) (put_free terms p label size refused p.freed) tt
      (puts-free terms p label size refused p.freed)

  pub puts-sized : (p : Pool L) (at : ℕ × ℕ) (size : ℕ) → PutsCell p.layout.segments (pool_resize p at size)
  puts-sized p at size =
      either (PutsCell p.layout.segments) (nat_lt (element_with p size) size) (Refused PoolSize) _ tt (none-behind p.layout.segments p.layout.segments refl)

  -- each form of a region has the segments of its lists
  pub in-best : (segments : List (ℕ × ℕ)) (o : Outcome (Put (Layout L))) → Puts segments o → PutsIn segments (outcome_as OfBest o)
  in-best segments (Done p) h = h
  in-best segments (Refused why) h = tt

  pub in-pool : (segments : List (ℕ × ℕ)) (o : Outcome (Put (Pool L))) → PutsCell segments o → PutsIn segments (outcome_as OfPool o)
  in-pool segments (Done p) h = h
  in-pool segments (Refused why) h = tt

  pub in-last : (segments : List (ℕ × ℕ)) (o : Outcome (Put (Layout L))) → Puts segments o → PutsIn segments (outcome_as OfLast o)
  in-last segments (Done p) h = h
  in-last segments (Refused why) h = tt

  pub in-guards : (segments : List (ℕ × ℕ)) (marks : ℕ → Option ℕ) (size : ℕ) (o : Outcome (Put (Layout L))) → Puts segments o → PutsIn segments (outcome_as OfDebug (outcome_by (put_with_guards marks size) o))
  in-guards segments marks size (Done p) h = h
  in-guards segments marks size (Refused why) h = tt

  pub in-resized : (segments : List (ℕ × ℕ)) (marks : ℕ → Option ℕ) (at : ℕ × ℕ) (kept size : ℕ) (o : Outcome (Put (Layout L))) → Puts segments o → PutsIn segments (outcome_as OfDebug (outcome_by (put_with_mark marks at kept size) o))
  in-resized segments marks at kept size (Done p) h = h
  in-resized segments marks at kept size (Refused why) h = tt

  pub in-profile : (segments : List (ℕ × ℕ)) (peaks : List (List ℕ × ℕ)) (o : Outcome (Put (Layout (L × List ℕ)))) → Puts segments o → PutsIn segments (outcome_as OfProfile (outcome_as (profile_after peaks) o))
  in-profile segments peaks (Done p) h = h
  in-profile segments peaks (Refused why) h = tt
