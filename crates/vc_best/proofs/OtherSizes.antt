-- A block of another size where it is.
use Rattle.vc_base.proofs.Common.{◌≡◌, ℕ, ◌+◌, ◌-◌, ◌<◌, ◌≤◌, true, false, not, ◌&&◌, List, [], ◌∷◌, ◌++◌, map, length, take, drop, replicate, Some, sym, refl, ap, ◌∙◌, subst, ⊎_elim, append-nil, arith, drop_of_length-le, take_all, lt-ltb, ∥∥₁_elim, ℕ_set, and_from, and_parts, cases_Bool, length-replicate, place_of, with_bytes, Block, Layout, is_at, fitted_bytes, resize_there, sized_block, span, change_block, find_block, rewritten_block}
use Rattle.vc_best.proofs.Common.{AreExtents, Bytes, Extent, IsBusy, IsMerged, behind_of, block_of, busy_extent, busy_in, change_extent, extent_in, extent_of, is_busy, is_merged, layout_by, move_border, pair_of, room_of, tiling}
use Rattle.vc_best.proofs.Borders.{IsBehind, behind-border}
use Rattle.vc_best.proofs.Cuts.{extent_in-here}
use Rattle.vc_best.proofs.Found.{found-of}
use Rattle.vc_best.proofs.Known.{cut-of, off-of, then-extent}
use Rattle.vc_best.proofs.Layouts.{layout-changed}
use Rattle.vc_best.proofs.Merges.{merged-at}
use Rattle.vc_best.proofs.Sets.{extent-set, merged-prop}

-- two changes of one block are one
change-both : (f g : Block ℕ → Block ℕ) → ((at : ℕ × ℕ) (b : Block ℕ) → is_at at (f b) ≡ is_at at b) → (at : ℕ × ℕ) (bs : List (Block ℕ)) → change_block g at (change_block f at bs) ≡ change_block (λ b. g (f b)) at bs
change-both f g keeps at [] = refl
change-both f g keeps at (c ∷ cs) =
    ⊎_elim
    (λ (t : is_at at c ≡ true). rw t (rw (keeps at c ∙ t) refl))
    (λ (t : is_at at c ≡ false). rw t (rw t (ap (λ ds. c ∷ ds) (change-both f g keeps at cs))))
    (cases_Bool (is_at at c))

-- and two that do the same to it come to one
change-as : (f h : Block ℕ → Block ℕ) (at : ℕ × ℕ) (bs : List (Block ℕ)) (b : Block ℕ) → find_block at bs ≡ Some b → f b ≡ h b → change_block f at bs ≡ change_block h at bs
change-as f h at [] b found e = refl
change-as f h at (c ∷ cs) b found e =
    ⊎_elim
    (λ (t : is_at at c ≡ true).
    let same : c ≡ b = let q : Some c ≡ Some b = rw t at found in cc in
    let here : f c ≡ h c = subst (λ (d : Block ℕ). f d ≡ h d) (sym same) e in
    rw t (ap (λ d. d ∷ cs) here))
    (λ (t : is_at at c ≡ false). rw t (ap (λ ds. c ∷ ds) (change-as f h at cs b (rw t at found) e)))
    (cases_Bool (is_at at c))

-- zeros behind the bytes that stay
filled-bytes : (size own : ℕ) (old new : List ℕ) → length old ≡ own → length new ≡ size → own < size → take own new ≡ take own old → with_bytes own (replicate (size - own) 0) new ≡ fitted_bytes size old
filled-bytes size own old new lo ln lt kept =
    let long = length-replicate {A = ℕ} (size - own) 0 in
    let none : drop (own + length (replicate {A = ℕ} (size - own) 0)) new ≡ [] = drop_of_length-le new {i = own + length (replicate {A = ℕ} (size - own) 0)} (omega (arith, long, ln, lt)) in
    let front : take own new ≡ old = kept ∙ take_all own old (omega (arith, lo)) in
    let whole : take size old ≡ old = take_all size old (omega (arith, lo, lt)) in
    let count : size - own ≡ size - length old = ap (λ (n : ℕ). size - n) (sym lo) in
    let zs : List ℕ = replicate (size - own) 0 in
    let one : with_bytes own zs new ≡ old ++ zs =
    ap (λ (bs : List ℕ). (bs ++ zs) ++ drop (own + length zs) new) front ∙ (ap (λ (bs : List ℕ). (old ++ zs) ++ bs) none ∙ append-nil (old ++ zs)) in
    let two : old ++ zs ≡ fitted_bytes size old = rw whole (ap (λ (n : ℕ). old ++ replicate n 0) count) in
    one ∙ two

cut-bytes : (size own : ℕ) (old new : List ℕ) → length old ≡ own → length new ≡ size → size ≤ own → take size new ≡ take size old → new ≡ fitted_bytes size old
cut-bytes size own old new lo ln le kept =
    let none : size - length old ≡ 0 = omega (arith, lo, le) in
    let whole : take size new ≡ new = take_all size new (omega (arith, ln)) in
    rw none (sym whole ∙ (kept ∙ sym (append-nil (take size old))))

module _ (old new : List Bytes) (i j : List ℕ) (a size : ℕ) (body : List ℕ) (k : ∥ AreExtents old i ∥₁) (l : ∥ AreExtents new j ∥₁) (busy : IsBusy (tiling old) a) (some : 1 ≤ size) (room : span size ≤ room_of (tiling old) a)
    (is : tiling new ≡ change_extent a (move_border size body) (tiling old)) (pairs : map pair_of new ≡ map pair_of old) where
  abbrev e : Extent
  e = extent_of (tiling old) a

  abbrev b : Block ℕ
  b = block_of (place_of a).0 e

  yes : is_busy (busy_extent e.off (span size) size e.tag body) ≡ true
  yes = lt-ltb 0 size (omega arith)

  behind : IsBehind (place_of a).0 size (extent_of (tiling old) a) (behind_of (tiling old) a)
  behind = behind-border (place_of a).0 size (extent_of (tiling old) a) (behind_of (tiling old) a) room

  pub moved-extent : extent_of (tiling new) a ≡ busy_extent (extent_of (tiling old) a).off (span size) size (extent_of (tiling old) a).tag body
  moved-extent =
      ∥∥₁_elim k (hlevel (extent-set))
      (λ h.
      let c = cut-of old i a h busy.named in
      then-extent (tiling old) (tiling new) a a (move_border size body) c is refl (omega arith)
      ∙ (ap (extent_in (place_of a).1) (behind.is body) ∙ extent_in-here (place_of a).1 (busy_extent e.off (span size) size e.tag body) behind.rest (off-of (tiling old) a c)))

  pub moved-busy : IsBusy (tiling new) a
  moved-busy = record { named = rw (ap (λ (x : Extent). x.span) moved-extent) (omega arith); busy = rw (ap (λ (x : Extent). x.size) moved-extent) (omega arith) }

  pub moved-layout : layout_by new ≡ record { segments = (layout_by old).segments; blocks = change_block (λ b. record b { size = size; bytes = body }) (place_of a) (layout_by old).blocks }
  moved-layout =
      layout-changed old new i j k l a (move_border size body) busy.named is pairs (λ b. record b { size = size; bytes = body }) (λ b. refl) (λ b. refl) busy.busy
      (ap (λ (xs : List Extent). busy_in ((place_of a).0, xs)) (behind.is body) ∙ rw yes (ap (λ bs. record (block_of (place_of a).0 e) { size = size; bytes = body } ∷ bs) behind.busy))

  pub moved-merged : IsMerged (tiling old) → IsMerged (tiling new)
  moved-merged m =
      let ys = behind_of (tiling old) a in
      let was : is_busy e ≡ true = lt-ltb 0 e.size busy.busy in
      subst IsMerged (sym is)
      (∥∥₁_elim k (merged-prop _)
      (λ h.
      merged-at (tiling old) a (move_border size body) (cut-of old i a h busy.named)
      (λ b own.
      let parts = and_parts (not (b && false)) (is_merged false ys) (rw was at own) in
      ap (is_merged b) (behind.is body) ∙ rw yes (and_from (not (b && false)) (is_merged false behind.rest) parts.0 (behind.merged parts.1)))
      m))

  found : find_block (place_of a) (layout_by old).blocks ≡ Some (block_of (place_of a).0 (extent_of (tiling old) a))
  found = found-of old i a k busy

  long : length (extent_of (tiling old) a).body ≡ (extent_of (tiling old) a).size
  long = ∥∥₁_elim k (hlevel (ℕ_set)) (λ h. (cut-of old i a h busy.named).cut.here.0.bytes)

  -- where it has no more bytes than before
  pub there-cut : length body ≡ size → size ≤ (extent_of (tiling old) a).size → take size body ≡ take size (extent_of (tiling old) a).body → layout_by new ≡ resize_there (layout_by old) (place_of a) size
  there-cut len le kept =
      let same : body ≡ fitted_bytes size e.body = cut-bytes size e.size e.body body long len le kept in
      moved-layout
      ∙ ap (λ (bs : List (Block ℕ)). record { segments = (layout_by old).segments; blocks = bs })
      (change-as (λ b. record b { size = size; bytes = body }) (sized_block size) (place_of a) (layout_by old).blocks b found (ap (λ (bs : List ℕ). record b { size = size; bytes = bs }) same))

  -- where it has more, which are filled with zeros
  pub there-filled : (r : Layout ℕ) → r ≡ record { segments = (layout_by new).segments; blocks = change_block (rewritten_block (extent_of (tiling old) a).size (replicate (size - (extent_of (tiling old) a).size) 0)) (place_of a) (layout_by new).blocks } →
      length body ≡ size → (extent_of (tiling old) a).size < size → take (extent_of (tiling old) a).size body ≡ take (extent_of (tiling old) a).size (extent_of (tiling old) a).body → r ≡ resize_there (layout_by old) (place_of a) size
  there-filled r e1 len lt kept =
      let fill : Block ℕ → Block ℕ = rewritten_block e.size (replicate (size - e.size) 0) in
      let same : with_bytes e.size (replicate (size - e.size) 0) body ≡ fitted_bytes size e.body = filled-bytes size e.size e.body body long len lt kept in
      e1
      ∙ (ap (λ (s : Layout ℕ). record { segments = s.segments; blocks = change_block fill (place_of a) s.blocks }) moved-layout
      ∙ ap (λ (bs : List (Block ℕ)). record { segments = (layout_by old).segments; blocks = bs })
      (change-both (λ b. record b { size = size; bytes = body }) fill (λ at b. refl) (place_of a) (layout_by old).blocks
      ∙ change-as (λ b. fill (record b { size = size; bytes = body })) (sized_block size) (place_of a) (layout_by old).blocks b found (ap (λ (bs : List ℕ). record b { size = size; bytes = bs }) same)))
