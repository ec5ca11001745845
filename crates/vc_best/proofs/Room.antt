-- A block can have a size where it is exactly where its room is enough.
use Rattle.vc_base.proofs.Common.{◌≡◌, ℕ, ◌+◌, ◌-◌, ◌%◌, ◌<◌, ◌≤◌, Bool, true, false, not, ◌&&◌, ◌||◌, eqb, ltb, leb, ◌≢◌, ◌⊎◌, List, [], ◌∷◌, ◌++◌, map, length, get_or, All, AllPairs, sym, refl, ap, ◌∙◌, subst, inl, inr, ⊎_elim, arith, ltb-true, le-ltb, lt-ltb, eq-eqb, ne_eqb, eqb-true, le-leb, leb-false, leb-true, or-false, ∥∥₁_elim, and_from, and_left, and_parts, and_right, cases_Bool, eqb-false, lt-leb, or_left, or_right, All-append, All-cons, All-head, All-nil, All-tail, All-weaker, list_any-append, list_all, list_any, place_of, Run, Block, footprint, is_at, can_stay, is_usable, sized_block, span}
use Rattle.vc_best.proofs.Common.{AreExtents, Bytes, Extent, IsBusy, IsLegal, IsMerged, IsTiled, all_busy, behind_of, block_of, busy_in, extent_in, extent_of, extents, extents_of, first_of, free_bytes, in_order, is_free, is_merged, layout_by, pair_of, room_of, tiling}
use Rattle.vc_gaps.proofs.Named.{extent_in-off}
use mathlib.Core.Bool.{Bool-set}
use Rattle.vc_model.specs.Resize.{meets}
use Rattle.vc_model.proofs.Pairs.{AllPairs-head, AllPairs-tail}
use Rattle.vc_seg.proofs.InOrder.{All-in_order, any-order, own-place}
use Rattle.vc_best.proofs.Layouts.{below-others, busy-seg, lies-front}
use Rattle.vc_best.proofs.Lies.{Differ, Ends, IsWithin, Lies, Tiled, lies-behind, lies-tiled, lies-within}
use Rattle.vc_best.proofs.Parts.{above, above-others, below, busy-are, busy-one, front, front-is, lead, rear}
use Rattle.vc_best.proofs.Tilings.{All-all_busy, All-busy_in}

-- all pass a test where none fails it
all-any : {A : Type 0} (p : A → Bool) (xs : List A) → list_all p xs ≡ not (list_any (λ x. not (p x)) xs)
all-any p [] = refl
all-any p (x ∷ xs) =
    ⊎_elim
    (λ (t : p x ≡ true). rw t (all-any p xs))
    (λ (t : p x ≡ false). rw t refl)
    (cases_Bool (p x))

all-true : {A : Type 0} (p : A → Bool) (xs : List A) → All (λ x. p x ≡ true) xs → list_all p xs ≡ true
all-true p [] h = refl
all-true {A = A} p (x ∷ xs) h =
    let P : A → Type 0 = λ y. p y ≡ true in
    rw (All-head P x xs h) (all-true p xs (All-tail P x xs h))

-- a run in the segment of a number among these
not-usable : (f : Run) (segs : List Bytes) → All (λ b. f.seg ≢ b.number) segs → is_usable (map pair_of segs) f ≡ false
not-usable f [] h = refl
not-usable f (s ∷ ss) h =
    let R : Bytes → Type 0 = λ b. f.seg ≢ b.number in
    rw (ne_eqb f.seg s.number (All-head R s ss h)) (not-usable f ss (All-tail R s ss h))

record Own (segs : List Bytes) (f : Run) : Type 0 where
  bytes : List ℕ
  tiled : IsTiled bytes
  extents_are : extents_of f.seg (tiling segs) ≡ extents bytes
  usable : is_usable (map pair_of segs) f ≡ (leb 16 f.from && leb (f.to + 16) (length bytes))
  merged : IsMerged (tiling segs) → is_merged false (extents bytes) ≡ true

own : (f : Run) (segs : List Bytes) → AllPairs Differ segs → All Tiled segs → (extents_of f.seg (tiling segs) ≡ [] → ⊥) → Own segs f
own f [] distinct tiled some = absurd (some refl)
own f (s ∷ ss) distinct tiled some =
    let M : ℕ × List Extent → Type 0 = λ x. is_merged false x.1 ≡ true in
    ⊎_elim
    (λ (t : eqb s.number f.seg ≡ true).
    let same = eqb-true s.number f.seg t in
    record {
      bytes = s.bytes;
      tiled = All-head Tiled s ss tiled;
      extents_are = rw t refl;
      usable = rw (eq-eqb f.seg s.number (sym same)) (rw (not-usable f ss (All-weaker (Differ s) (λ b. f.seg ≢ b.number) (λ b other e. other (same ∙ e)) ss (AllPairs-head Differ s ss distinct))) (or-false (leb 16 f.from && leb (f.to + 16) (length s.bytes))));
      merged = λ m. All-head M (s.number, extents s.bytes) (tiling ss) m;
    })
    (λ (t : eqb s.number f.seg ≡ false).
    let r : Own ss f = own f ss (AllPairs-tail Differ s ss distinct) (All-tail Tiled s ss tiled) (rw t at some) in
    record {
      bytes = r.bytes;
      tiled = r.tiled;
      extents_are = rw t r.extents_are;
      usable = rw (ne_eqb f.seg s.number (λ e. eqb-false s.number f.seg t (sym e))) r.usable;
      merged = λ m. r.merged (All-tail M (s.number, extents s.bytes) (tiling ss) m);
    })
    (cases_Bool (eqb s.number f.seg))

-- what is behind the extents of a front is merged too
merged-behind : (was : Bool) (xs : List Extent) (e : Extent) (ys : List Extent) → is_merged was (xs ++ e ∷ ys) ≡ true → is_merged (is_free e) ys ≡ true
merged-behind was [] e ys h = (and_parts (not (was && is_free e)) (is_merged (is_free e) ys) h).1
merged-behind was (x ∷ xs) e ys h = merged-behind (is_free x) xs e ys (and_parts (not (was && is_free x)) (is_merged (is_free x) (xs ++ e ∷ ys)) h).1

-- blocks of other segments
other-segs : (n : ℕ) (t : List (ℕ × List Extent)) → All (λ s. eqb s.0 n ≡ false) t → All (λ c. c.seg ≢ n) (all_busy t)
other-segs n t h =
    All-all_busy (λ c. c.seg ≢ n) t
    (All-weaker (λ s. eqb s.0 n ≡ false) (λ s. All (λ c. c.seg ≢ n) (busy_in s))
    (λ s other. All-weaker (λ c. c.seg ≡ s.0) (λ c. c.seg ≢ n) (λ c is e. eqb-false s.0 n other (sym is ∙ e)) (busy_in (s.0, s.1)) (busy-seg s.0 s.1)) t h)

-- where the extents behind a front lie
record From (stop : ℕ) (es : List Extent) : Type 0 where
  at : ℕ
  first : 16 ≤ at
  multiple : (at + 16) % 32 ≡ 0
  lies : Lies stop at es

lies-drop : (stop at : ℕ) (xs ys : List Extent) → 16 ≤ at → (at + 16) % 32 ≡ 0 → Lies stop at (xs ++ ys) → From stop ys
lies-drop stop at [] ys first m h = record { at = at; first = first; multiple = m; lies = h }
lies-drop stop at (x ∷ xs) ys first m h = let span = h.0.legal.multiple in lies-drop stop (at + x.span) xs ys (omega (arith, first)) (omega (arith, m, span)) h.1

-- the block of an extent with another size, against all blocks
module _ (n size : ℕ) (e : Extent) where
  abbrev wide : Run
  wide = footprint (sized_block size (block_of n e))

  abbrev passes : Block ℕ → Bool
  passes c = is_at (n, e.off) c || not (meets wide (footprint c))

  passes-apart : (c : Block ℕ) → meets wide (footprint c) ≡ false → passes c ≡ true
  passes-apart c m = or_right (is_at (n, e.off) c) (not (meets wide (footprint c))) (rw m refl)

  passes-seg : (c : Block ℕ) → c.seg ≢ n → passes c ≡ true
  passes-seg c other = passes-apart c (and_left (eqb n c.seg) (ltb (e.off - 16) (c.off - 16 + span c.size) && ltb (c.off - 16) (e.off - 16 + span size)) (ne_eqb n c.seg (λ same. other (sym same))))

  passes-before : (c : Block ℕ) → c.off - 16 + span c.size ≤ e.off - 16 → passes c ≡ true
  passes-before c le =
      passes-apart c (and_right (eqb n c.seg) (ltb (e.off - 16) (c.off - 16 + span c.size) && ltb (c.off - 16) (e.off - 16 + span size))
      (and_left (ltb (e.off - 16) (c.off - 16 + span c.size)) (ltb (c.off - 16) (e.off - 16 + span size)) (le-ltb (e.off - 16) (c.off - 16 + span c.size) le)))

  passes-behind : (c : Block ℕ) → e.off - 16 + span size ≤ c.off - 16 → passes c ≡ true
  passes-behind c le =
      passes-apart c (and_right (eqb n c.seg) (ltb (e.off - 16) (c.off - 16 + span c.size) && ltb (c.off - 16) (e.off - 16 + span size))
      (and_right (ltb (e.off - 16) (c.off - 16 + span c.size)) (ltb (c.off - 16) (e.off - 16 + span size)) (le-ltb (c.off - 16) (e.off - 16 + span size) le)))

  -- a busy extent behind it, within what it would take
  fails : (x : Extent) → 0 < x.size → IsLegal x → 32 ≤ e.off → e.off < x.off → x.off - 16 < e.off - 16 + span size → passes (block_of n x) ≡ false
  fails x busy legal first low high =
      let spans = legal.busy busy in
      let least = legal.least in
      rw (and_right (eqb n n) (eqb x.off e.off) (ne_eqb x.off e.off (λ same. omega (arith, same, low))))
      (rw (eq-eqb n n refl)
      (rw (lt-ltb (e.off - 16) (x.off - 16 + span x.size) (omega (arith, first, low, spans, least)))
      (rw (lt-ltb (x.off - 16) (e.off - 16 + span size) high) refl)))

  -- the blocks of what stands behind it begin behind its room
  past-room : (stop at : ℕ) (ys : List Extent) → (at + 16) % 32 ≡ 0 → 0 < e.size → Lies stop at (e ∷ ys) → All (λ c. at + (e.span + free_bytes (first_of ys)) ≤ c.off - 16) (busy_in (n, ys))
  past-room stop at [] m busy h = All-nil (λ (c : Block ℕ). at + (e.span + 0) ≤ c.off - 16)
  past-room stop at (x ∷ xs) m busy h =
      let own = h.0.legal.multiple in
      let next = h.1.0.off in
      let wide_x = h.1.0.legal.least in
      let ends = lies-behind stop (at + e.span) x xs (omega (arith, m, own)) h.1 in
      ⊎_elim
      (λ (t : ltb 0 x.size ≡ true).
      rw t
      (All-cons (λ (c : Block ℕ). at + (e.span + 0) ≤ c.off - 16) (block_of n x) (busy_in (n, xs)) (omega (arith, next))
      (All-busy_in (λ c. at + (e.span + 0) ≤ c.off - 16) n xs (All-weaker (Ends x) (λ y. 0 < y.size → at + (e.span + 0) ≤ y.off - 16) (λ y q some. omega (arith, q, next, wide_x)) xs ends))))
      (λ (t : ltb 0 x.size ≡ false).
      rw t
      (All-busy_in (λ c. at + (e.span + x.span) ≤ c.off - 16) n xs (All-weaker (Ends x) (λ y. 0 < y.size → at + (e.span + x.span) ≤ y.off - 16) (λ y q some. omega (arith, q, next, wide_x)) xs ends)))
      (cases_Bool (ltb 0 x.size))

  room-within : (stop at : ℕ) (ys : List Extent) → Lies stop at (e ∷ ys) → at + (e.span + free_bytes (first_of ys)) ≤ stop
  room-within stop at [] h = omega (arith, h.0.within)
  room-within stop at (x ∷ xs) h =
      let one = h.0.within in
      let two = h.1.0.within in
      ⊎_elim
      (λ (t : ltb 0 x.size ≡ true). rw t (omega (arith, one)))
      (λ (t : ltb 0 x.size ≡ false). rw t (omega (arith, two)))
      (cases_Bool (ltb 0 x.size))

  -- what ends its room is a busy extent or the end
  past-end : (stop at : ℕ) (ys : List Extent) → 16 ≤ at → is_merged false ys ≡ true → Lies stop at (e ∷ ys) → e.span + free_bytes (first_of ys) < span size → (stop < e.off - 16 + span size) ⊎ (list_any (λ c. not (passes c)) (busy_in (n, ys)) ≡ true)
  past-end stop at [] first merged h less = inl (omega (arith, h.0.off, h.1, less))
  past-end stop at (x ∷ xs) first merged h less =
      let own = h.0.off in
      let least = h.0.legal.least in
      let next = h.1.0.off in
      ⊎_elim
      (λ (t : ltb 0 x.size ≡ true).
      let some = ltb-true 0 x.size t in
      let less' : e.span + 0 < span size = rw t at less in
      let bad = fails x some h.1.0.legal (omega (arith, own, first)) (omega (arith, own, next, least)) (omega (arith, own, next, less')) in
      inr (rw t (rw bad refl)))
      (λ (t : ltb 0 x.size ≡ false).
      let less' : e.span + x.span < span size = rw t at less in
      let merged' : is_merged true xs ≡ true = rw t at merged in
      ⊎_elim (λ u. inl u) (λ u. inr (rw t u)) (behind-free stop at x xs first own next less' merged' (at + e.span + x.span) (h.1.0.legal.least) (h.0.legal.least) refl h.1.1))
      (cases_Bool (ltb 0 x.size))
    where
      behind-free : (stop at : ℕ) (x : Extent) (xs : List Extent) → 16 ≤ at → e.off ≡ at + 16 → x.off ≡ at + e.span + 16 → e.span + x.span < span size → is_merged true xs ≡ true → (to : ℕ) → 32 ≤ x.span → 32 ≤ e.span → to ≡ at + e.span + x.span → Lies stop to xs →
          (stop < e.off - 16 + span size) ⊎ (list_any (λ c. not (passes c)) (busy_in (n, xs)) ≡ true)
      behind-free stop at x [] first own next less merged to wide_x wide_e is h = inl (omega (arith, own, less, is, h))
      behind-free stop at x (y ∷ ys) first own next less merged to wide_x wide_e is h =
          ⊎_elim
          (λ (t : ltb 0 y.size ≡ true).
          let off = h.0.off in
          let bad = fails y (ltb-true 0 y.size t) h.0.legal (omega (arith, own, first)) (omega (arith, own, off, is, wide_e)) (omega (arith, own, off, is, less)) in
          inr (rw t (rw bad refl)))
          (λ (t : ltb 0 y.size ≡ false). let m : false ≡ true = rw t at merged in absurd (cc))
          (cases_Bool (ltb 0 y.size))

module _ (segs : List Bytes) (index : List ℕ) (k : AreExtents segs index) (merged : IsMerged (tiling segs)) (a size : ℕ) (h : IsBusy (tiling segs) a) where
  abbrev n : ℕ
  n = (place_of a).0

  abbrev es : List Extent
  es = extents_of n (tiling segs)

  abbrev e : Extent
  e = extent_of (tiling segs) a

  abbrev ys : List Extent
  ys = behind_of (tiling segs) a

  abbrev fr : List Extent
  fr = front (place_of a).1 es

  parts : es ≡ fr ++ e ∷ ys
  parts = front-is (place_of a).1 es h.named

  place : e.off ≡ (place_of a).1
  place = extent_in-off (place_of a).1 es

  ours : Own segs (wide n size e)
  ours = own (wide n size e) segs k.segments.distinct k.tiled (λ none. let lt : 0 < 0 = subst (λ (xs : List Extent). 0 < (extent_in (place_of a).1 xs).span) none h.named in omega (arith, lt))

  lies : Lies (length ours.bytes - 16) 16 (fr ++ e ∷ ys)
  lies = subst (λ (xs : List Extent). Lies (length ours.bytes - 16) 16 xs) (sym ours.extents_are ∙ parts) (lies-tiled ours.bytes ours.tiled)

  rest : From (length ours.bytes - 16) (e ∷ ys)
  rest = lies-drop (length ours.bytes - 16) 16 fr (e ∷ ys) (omega arith) refl lies

  -- the blocks of all segments, in three parts
  in-parts : all_busy (tiling segs) ≡ lead (tiling segs) a ++ (block_of n e ∷ busy_in (n, ys) ++ rear (tiling segs) a)
  in-parts = busy-are (tiling segs) a h.named ∙ ap (λ bs. lead (tiling segs) a ++ (bs ++ rear (tiling segs) a)) (busy-one n e ys h.busy)

  enough : span size ≤ e.span + free_bytes (first_of ys) → can_stay (layout_by segs) size (block_of n e) ≡ true
  unfolding layout_by
  enough le =
      let stop : ℕ = length ours.bytes - 16 in
      let own = rest.lies.0.off in
      let first = rest.first in
      let size_of = ours.tiled.size.least in
      let within = room-within n size e stop rest.at ys rest.lies in
      let P : Block ℕ → Type 0 = λ c. passes n size e c ≡ true in
      let before : All P (busy_in (n, fr)) =
      All-busy_in P n fr
      (λ i d lt busy.
      let x : Extent = get_or fr i d in
      let ends : x.off + x.span ≤ e.off = All-head (Ends x) e ys (lies-front stop 16 fr (e ∷ ys) refl lies i d lt) in
      let w = All-left (IsWithin stop 16) fr (e ∷ ys) (lies-within stop 16 (fr ++ e ∷ ys) refl lies) i d lt in
      let spans = w.legal.busy busy in
      let from = w.from in
      passes-before n size e (block_of n x) (omega (arith, ends, spans, from))) in
      let elsewhere : (t : List (ℕ × List Extent)) → All (λ s. eqb s.0 n ≡ false) t → All P (all_busy t) =
      λ t others. All-weaker (λ c. c.seg ≢ n) P (λ c other. passes-seg n size e c other) (all_busy t) (other-segs n t others) in
      let all : All P (all_busy (tiling segs)) =
      subst (λ (bs : List (Block ℕ)). All P bs) (sym in-parts)
      (All-append P (lead (tiling segs) a) (block_of n e ∷ busy_in (n, ys) ++ rear (tiling segs) a)
      (All-append P (all_busy (above n (tiling segs))) (busy_in (n, fr)) (elsewhere (above n (tiling segs)) (above-others n (tiling segs))) before)
      (All-cons P (block_of n e) (busy_in (n, ys) ++ rear (tiling segs) a)
      (or_left (is_at (n, e.off) (block_of n e)) (not (meets (wide n size e) (footprint (block_of n e)))) (own-place (block_of n e)))
      (All-append P (busy_in (n, ys)) (rear (tiling segs) a)
      (All-weaker (λ c. rest.at + (e.span + free_bytes (first_of ys)) ≤ c.off - 16) P (λ c q. passes-behind n size e c (omega (arith, q, own, le))) (busy_in (n, ys)) (past-room n size e stop rest.at ys rest.multiple h.busy rest.lies))
      (elsewhere (below n (tiling segs)) (below-others n segs k.segments.distinct))))) in
      and_from (is_usable (map pair_of segs) (wide n size e)) (list_all (passes n size e) (in_order (all_busy (tiling segs))))
      (ours.usable ∙ and_from (leb 16 (e.off - 16)) (leb (e.off - 16 + span size + 16) (length ours.bytes)) (le-leb 16 (e.off - 16) (omega (arith, own, first))) (le-leb (e.off - 16 + span size + 16) (length ours.bytes) (omega (arith, own, within, le, size_of))))
      (all-true (passes n size e) (in_order (all_busy (tiling segs))) (All-in_order P (all_busy (tiling segs)) all))
    where
      All-left : {A : Type 0} (Q : A → Type 0) (xs zs : List A) → All Q (xs ++ zs) → All Q xs
      All-left Q [] zs all = All-nil Q
      All-left Q (x ∷ xs) zs all = All-cons Q x xs (All-head Q x (xs ++ zs) all) (All-left Q xs zs (All-tail Q x (xs ++ zs) all))

  too-little : e.span + free_bytes (first_of ys) < span size → can_stay (layout_by segs) size (block_of n e) ≡ false
  unfolding layout_by
  too-little less =
      let stop : ℕ = length ours.bytes - 16 in
      let own = rest.lies.0.off in
      let fits = ours.tiled.size.least in
      let is_merged_all : is_merged false (fr ++ e ∷ ys) ≡ true = subst (λ (xs : List Extent). is_merged false xs ≡ true) (sym ours.extents_are ∙ parts) (ours.merged merged) in
      let is_behind : is_merged (is_free e) ys ≡ true = merged-behind false fr e ys is_merged_all in
      let not_free : is_free e ≡ false = rw (lt-ltb 0 e.size h.busy) refl in
      let behind_merged : is_merged false ys ≡ true = subst (λ (x : Bool). is_merged x ys ≡ true) not_free is_behind in
      let bad : Block ℕ → Bool = λ c. not (passes n size e c) in
      ⊎_elim
      (λ (past : stop < e.off - 16 + span size).
      and_left (is_usable (map pair_of segs) (wide n size e)) (list_all (passes n size e) (in_order (all_busy (tiling segs))))
      (ours.usable ∙ and_right (leb 16 (e.off - 16)) (leb (e.off - 16 + span size + 16) (length ours.bytes)) (lt-leb (e.off - 16 + span size + 16) (length ours.bytes) (omega (arith, past, fits)))))
      (λ (met : list_any bad (busy_in (n, ys)) ≡ true).
      let tail_any : list_any bad (busy_in (n, ys) ++ rear (tiling segs) a) ≡ true = list_any-append bad (busy_in (n, ys)) (rear (tiling segs) a) ∙ or_left (list_any bad (busy_in (n, ys))) (list_any bad (rear (tiling segs) a)) met in
      let own_any : list_any bad (block_of n e ∷ busy_in (n, ys) ++ rear (tiling segs) a) ≡ true = or_right (bad (block_of n e)) (list_any bad (busy_in (n, ys) ++ rear (tiling segs) a)) tail_any in
      let all_any : list_any bad (all_busy (tiling segs)) ≡ true =
      ap (list_any bad) in-parts ∙ (list_any-append bad (lead (tiling segs) a) (block_of n e ∷ busy_in (n, ys) ++ rear (tiling segs) a)
      ∙ or_right (list_any bad (lead (tiling segs) a)) (list_any bad (block_of n e ∷ busy_in (n, ys) ++ rear (tiling segs) a)) own_any) in
      and_right (is_usable (map pair_of segs) (wide n size e)) (list_all (passes n size e) (in_order (all_busy (tiling segs))))
      (all-any (passes n size e) (in_order (all_busy (tiling segs))) ∙ ap not (any-order bad (all_busy (tiling segs)) ∙ all_any)))
      (past-end n size e stop rest.at ys rest.first behind_merged rest.lies less)

  stays-by-room : can_stay (layout_by segs) size (block_of n e) ≡ leb (span size) (e.span + free_bytes (first_of ys))
  stays-by-room =
      ⊎_elim
      (λ (t : leb (span size) (e.span + free_bytes (first_of ys)) ≡ true). enough (leb-true (span size) (e.span + free_bytes (first_of ys)) t) ∙ sym t)
      (λ (t : leb (span size) (e.span + free_bytes (first_of ys)) ≡ false). too-little (leb-false (span size) (e.span + free_bytes (first_of ys)) t) ∙ sym t)
      (cases_Bool (leb (span size) (e.span + free_bytes (first_of ys))))

pub can_stay-room : (segs : List Bytes) (index : List ℕ) (a size : ℕ) → ∥ AreExtents segs index ∥₁ → IsMerged (tiling segs) → IsBusy (tiling segs) a → 1 ≤ size →
    can_stay (layout_by segs) size (block_of (place_of a).0 (extent_of (tiling segs) a)) ≡ leb (span size) (room_of (tiling segs) a)
can_stay-room segs index a size k merged busy some = ∥∥₁_elim k (hlevel (Bool-set)) (λ j. stays-by-room segs index j merged a size busy)
