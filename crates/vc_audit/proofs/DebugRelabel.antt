-- Every call of a debug region commutes with a change of its labels.
use Rattle.vc_base.proofs.Common.{◌≡◌, ℕ, ◌+◌, ◌-◌, min, Bool, true, false, cond, List, [], ◌∷◌, map, replicate, ℤ, nat_lt, Some, None, sum, Option, option_map, find, filter_map, unwrap_or, sym, refl, ap, ◌∙◌, AllByRecursion, cons_option, best_alloc, Terms, Block, Layout, address_of, relabel_block, relabel_layout, greatest, Done, Outcome, Put, Refused, outcome_as, best_resize, find_block, rewritten_block, with_bytes_at, by_address}
use Rattle.vc_model.proofs.Relabel.{best_alloc-relabel, best_resize-relabel, by_address-relabel, can_stay-relabel, change_block-relabel, compact_count-relabel, compacted-relabel, find_block-relabel, relabel-alike, relabel_outcome, without_block-relabel}
use Rattle.vc_seg.proofs.Stats.{layout_stat-relabel}
use Rattle.vc_seg.specs.Stat.{layout_stat}
use Rattle.vc_seg.specs.declared.stat.Stat.{Stat}
use Rattle.vc_addrmap.specs.Map.{Numbers}
use Rattle.vc_audit.specs.Debug.{Debug, damage, damage_of, damaged_blocks, debug_alloc, debug_clear, debug_compact, debug_compact_count, debug_free, debug_resize, debug_write, put_with_guards, guarded_offset, guarded_place, next_damaged, outcome_by, with_poke, relabel_debug, put_with_mark, stays_debug, user_block, user_blocks, user_size, with_back_guard, with_watch, watched_at}
use Rattle.vc_audit.specs.DebugStat.{debug_stat}

module _ {L M : Type 0} (f : L → M) where
  abbrev debug : Numbers → Layout M → Debug M
  debug marks r = record { best = r; marks = marks }

  users-relabelled : (bs : List (Block L)) → map user_block (map (relabel_block f) bs) ≡ map (relabel_block f) (map user_block bs)
  users-relabelled [] = refl
  users-relabelled (b ∷ bs) = ap (λ cs. relabel_block f (user_block b) ∷ cs) (users-relabelled bs)

  pub blocks-relabelled : (d : Debug L) → user_blocks (relabel_debug f d) ≡ map (relabel_block f) (user_blocks d)
  blocks-relabelled d = users-relabelled d.best.blocks

  bytes-relabelled : (r : Layout L) (at : ℕ × ℕ) (off : ℕ) (src : List ℕ) → with_bytes_at (relabel_layout f r) at off src ≡ relabel_layout f (with_bytes_at r at off src)
  bytes-relabelled r at off src =
      ap (λ bs. let q : Layout M = record { segments = r.segments; blocks = bs } in q) (sym (change_block-relabel f (rewritten_block off src) (rewritten_block off src) (λ c. refl) at r.blocks))

  back-relabelled : (r : Layout L) (at : ℕ × ℕ) (size off : ℕ) (src : List ℕ) → with_back_guard (with_bytes_at (relabel_layout f r) at off src) at size ≡ relabel_layout f (with_back_guard (with_bytes_at r at off src) at size)
  back-relabelled r at size off src =
      ap (λ q. with_back_guard q at size) (bytes-relabelled r at off src) ∙ bytes-relabelled (with_bytes_at r at off src) at (32 + size) (replicate 16 165)

  guarded-relabelled : (marks : Numbers) (size : ℕ) (o : Outcome (Put (Layout L))) → outcome_by (put_with_guards marks size) (relabel_outcome f o) ≡ outcome_as (relabel_debug f) (outcome_by (put_with_guards marks size) o)
  guarded-relabelled marks size (Done p) =
      ap (λ r. Done (record { at = (p.at.0, p.at.1 + 32); region = debug marks r; granted = p.granted })) (back-relabelled p.region p.at size 0 (replicate 32 165))
  guarded-relabelled marks size (Refused why) = refl

  pub alloc-relabelled : (terms : Terms) (d : Debug L) (label : L) (size : ℕ) (refused : Bool) → debug_alloc terms (relabel_debug f d) (f label) size refused ≡ outcome_as (relabel_debug f) (debug_alloc terms d label size refused)
  alloc-relabelled terms d label size refused =
      ap (outcome_by (put_with_guards d.marks size)) (best_alloc-relabel f terms d.best label (size + 48) 32 refused) ∙ guarded-relabelled d.marks size (best_alloc terms d.best label (size + 48) 32 refused)

  resized-relabelled : (marks : Numbers) (at : ℕ × ℕ) (kept size : ℕ) (o : Outcome (Put (Layout L))) → outcome_by (put_with_mark marks at kept size) (relabel_outcome f o) ≡ outcome_as (relabel_debug f) (outcome_by (put_with_mark marks at kept size) o)
  resized-relabelled marks at kept size (Done p) =
      ap (λ r. Done (record { at = (p.at.0, p.at.1 + 32); region = debug (put_with_mark marks at kept size p).region.marks r; granted = p.granted })) (back-relabelled p.region p.at size (32 + kept) (replicate (size - kept) 0))
  resized-relabelled marks at kept size (Refused why) = refl

  size-relabelled : (d : Debug L) (at : ℕ × ℕ) → user_size (relabel_debug f d) at ≡ user_size d at
  size-relabelled d at =
      ap (λ bs. unwrap_or (option_map (λ b. b.size) (find_block at bs)) 0) (users-relabelled d.best.blocks)
      ∙ (ap (λ o. unwrap_or (option_map (λ b. b.size) o) 0) (find_block-relabel f at (user_blocks d)) ∙ same (find_block at (user_blocks d)))
    where
      same : (o : Option (Block L)) → unwrap_or (option_map (λ b. b.size) (option_map (relabel_block f) o)) 0 ≡ unwrap_or (option_map (λ b. b.size) o) 0
      same None = refl
      same (Some b) = refl

  pub resize-relabelled : (terms : Terms) (d : Debug L) (at : ℕ × ℕ) (size : ℕ) (may_move refused : Bool) → debug_resize terms (relabel_debug f d) at size may_move refused ≡ outcome_as (relabel_debug f) (debug_resize terms d at size may_move refused)
  resize-relabelled terms d at size may_move refused =
      ap (λ n. outcome_by (put_with_mark d.marks at (min n size) size) (best_resize terms (relabel_layout f d.best) (guarded_place at) (size + 48) may_move refused)) (size-relabelled d at)
      ∙ (ap (outcome_by (put_with_mark d.marks at (min (user_size d at) size) size)) (best_resize-relabel f terms d.best (guarded_place at) (size + 48) may_move refused)
      ∙ resized-relabelled d.marks at (min (user_size d at) size) size (best_resize terms d.best (guarded_place at) (size + 48) may_move refused))

  pub stays-relabelled : (d : Debug L) (size : ℕ) (b : Block L) → stays_debug (relabel_debug f d) size (relabel_block f b) ≡ stays_debug d size b
  stays-relabelled d size b = can_stay-relabel f d.best (size + 48) (record b { off = b.off - 32 })

  pub free-relabelled : (d : Debug L) (at : ℕ × ℕ) → debug_free (relabel_debug f d) at ≡ relabel_debug f (debug_free d at)
  free-relabelled d at = ap (λ bs. debug (debug_free d at).marks (record { segments = d.best.segments; blocks = bs })) (sym (without_block-relabel f (guarded_place at) d.best.blocks))

  pub write-relabelled : (d : Debug L) (at : ℕ × ℕ) (off : ℕ) (src : List ℕ) → debug_write (relabel_debug f d) at off src ≡ relabel_debug f (debug_write d at off src)
  write-relabelled d at off src = ap (debug d.marks) (bytes-relabelled d.best (guarded_place at) (32 + off) src)

  pub poke-relabelled : (d : Debug L) (at : ℕ × ℕ) (off : ℤ) (byte : ℕ) → with_poke (relabel_debug f d) at off byte ≡ relabel_debug f (with_poke d at off byte)
  poke-relabelled d at off byte = ap (debug d.marks) (bytes-relabelled d.best (guarded_place at) (guarded_offset off) (byte ∷ []))

  pub clear-relabelled : (d : Debug L) → debug_clear (relabel_debug f d) ≡ relabel_debug f (debug_clear d)
  clear-relabelled d = refl

  pub compact-relabelled : (d : Debug L) → debug_compact (relabel_debug f d) ≡ relabel_debug f (debug_compact d)
  compact-relabelled d = ap (debug d.marks) (compacted-relabel f d.best)

  pub compact_count-relabelled : (d : Debug L) → debug_compact_count (relabel_debug f d) ≡ debug_compact_count d
  compact_count-relabelled d = compact_count-relabel f d.best

  pub watch-relabelled : (d : Debug L) (at : ℕ × ℕ) (line : ℕ) → with_watch (relabel_debug f d) at line ≡ relabel_debug f (with_watch d at line)
  watch-relabelled d at line = refl

  pub watched-relabelled : (d : Debug L) (at : ℕ × ℕ) → watched_at (relabel_debug f d) at ≡ watched_at d at
  watched-relabelled d at = refl

  pub damage-relabelled : (b : Block L) → damage (relabel_block f b) ≡ damage b
  damage-relabelled b = refl

  -- a damaged block with another label
  abbrev pub relabel_found : Block L × ℤ → Block M × ℤ
  relabel_found g = (relabel_block f g.0, g.1)

  found-relabelled : (bs : List (Block L)) → filter_map damage_of (map (relabel_block f) bs) ≡ map relabel_found (filter_map damage_of bs)
  found-relabelled [] = refl
  found-relabelled (b ∷ bs) = ap (cons_option (damage_of (relabel_block f b))) (found-relabelled bs) ∙ joins (damage b) (filter_map damage_of bs)
    where
      joins : (o : Option ℤ) (xs : List (Block L × ℤ)) → cons_option (option_map {U = Block M × ℤ} (λ off. (user_block (relabel_block f b), off)) o) (map relabel_found xs) ≡ map relabel_found (cons_option (option_map {U = Block L × ℤ} (λ off. (user_block b, off)) o) xs)
      joins None xs = refl
      joins (Some off) xs = refl

  pub damaged-relabelled : (d : Debug L) → damaged_blocks (relabel_debug f d) ≡ map relabel_found (damaged_blocks d)
  damaged-relabelled d = ap (filter_map damage_of) (by_address-relabel f d.best.blocks) ∙ found-relabelled (by_address d.best.blocks)

  pub next_damaged-relabelled : (after : ℕ) (d : Debug L) → next_damaged after (relabel_debug f d) ≡ option_map relabel_found (next_damaged after d)
  next_damaged-relabelled after d = ap (find (λ g. nat_lt after (address_of g.0))) (damaged-relabelled d) ∙ finds (damaged_blocks d)
    where
      finds : (xs : List (Block L × ℤ)) → find (λ g. nat_lt after (address_of g.0)) (map relabel_found xs) ≡ option_map relabel_found (find (λ g. nat_lt after (address_of g.0)) xs)
      finds [] = refl
      finds (x ∷ xs) =
          elim (nat_lt after (address_of x.0)) as (λ v. cond v (Some (relabel_found x)) (find (λ g. nat_lt after (address_of g.0)) (map relabel_found xs)) ≡ option_map relabel_found (cond v (Some x) (find (λ g. nat_lt after (address_of g.0)) xs)))
          [ true ↦ refl | false ↦ finds xs ]

  sizes-relabelled : (bs : List (Block L)) → map (λ b. b.size) (map user_block (map (relabel_block f) bs)) ≡ map (λ b. b.size) (map user_block bs)
  sizes-relabelled [] = refl
  sizes-relabelled (b ∷ bs) = ap (λ ns. (b.size - 48) ∷ ns) (sizes-relabelled bs)

  pub stat-relabelled : (d : Debug L) → debug_stat (relabel_debug f d) ≡ debug_stat d
  stat-relabelled d =
      let with : Stat → List ℕ → Stat = λ s ns. record s { sbusy = sum ns; mbusy = greatest ns } in
      ap (λ s. with s (map (λ b. b.size) (user_blocks (relabel_debug f d)))) (layout_stat-relabel f d.best) ∙ ap (with (layout_stat d.best)) (sizes-relabelled d.best.blocks)

-- labels that are the same on the blocks
pub relabelled-alike : {L M : Type 0} (f g : L → M) (d : Debug L) → AllByRecursion (λ b. f b.label ≡ g b.label) (user_blocks d) → relabel_debug f d ≡ relabel_debug g d
relabelled-alike {L = L} f g d same = ap (λ bs. record { best = record { segments = d.best.segments; blocks = bs }; marks = d.marks }) (relabel-alike f g d.best.blocks (down d.best.blocks same))
  where
    down : (bs : List (Block L)) → AllByRecursion (λ b. f b.label ≡ g b.label) (map user_block bs) → AllByRecursion (λ b. f b.label ≡ g b.label) bs
    down [] all = tt
    down (b ∷ bs) all = (all.0, down bs all.1)
