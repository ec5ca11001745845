-- The extent that a walk to the last one begins with.
use Rattle.vc_base.proofs.Common.{◌≡◌, ℕ, zero, suc, ◌+◌, ◌-◌, ◌/◌, ◌<◌, true, false, cond, eqb, ◌≢◌, ◌⊎◌, inl, inr, List, [], ◌∷◌, ◌++◌, length, get_or, set, remove, HoldsAt, sym, refl, ap, ◌∙◌, subst, ⊎_elim, arith, ne_eqb, eqb-true, cases_Bool, cases_eq, eqb-false, get_or_default, place_of, span}
use Rattle.vc_seg.specs.Segment.{Bytes}
use Rattle.vc_extent.specs.Extent.{Extent, extents}
use Rattle.vc_extent.specs.Tiles.{IsTiled, Tiles}
use Rattle.vc_extent.specs.Change.{Changes, IsExtentAt, behind, change_at, extent_in, join, mark_busy, mark_free, set_link, set_size, shrink, split, stretch, write}
use Rattle.vc_extent.specs.Tiling.{IsFound, IsNamed, IsPlace, extents_of, tiling}
use Rattle.vc_extent.proofs.Changed.{here}
use Rattle.vc_extent.proofs.Neighbours.{first-named}
use Rattle.vc_extent.proofs.Places.{there-found}
use Rattle.vc_extent.proofs.Sets.{extents-changed, extents-set, is-changed}
use Rattle.vc_extent.proofs.Tiled.{off-at}

-- an offset names one of these extents
abbrev pub IsIn : ℕ → List Extent → Type 0
IsIn off [] = ⊥
IsIn off (e ∷ es) = (e.off ≡ off) ⊎ IsIn off es

is-in : (off : ℕ) (es : List Extent) → 0 < (extent_in off es).span → IsIn off es
is-in off [] named = absurd (omega arith)
is-in off (e ∷ es) named =
    ⊎_elim
    (λ (t : eqb e.off off ≡ true). inl (eqb-true e.off off t))
    (λ (t : eqb e.off off ≡ false). inr (is-in off es (rw t at named)))
    (cases_Bool (eqb e.off off))

pub in-named : (b : List ℕ) (stop p at off : ℕ) (es : List Extent) → Tiles b stop p at es → IsIn off es → 0 < (extent_in off es).span
in-named b stop p at off [] h i = absurd i
in-named b stop p at off (e ∷ es) h i =
    ⊎_elim
    (λ (t : eqb e.off off ≡ true). let l = h.0.legal.least in rw t (omega arith))
    (λ (t : eqb e.off off ≡ false).
    ⊎_elim (λ (s : e.off ≡ off). absurd (eqb-false e.off off t s)) (λ (s : IsIn off es). rw t (in-named b stop e.span (at + e.span) off es h.1 s)) i)
    (cases_Bool (eqb e.off off))

pub in-append : (off : ℕ) (es xs : List Extent) → IsIn off es → IsIn off (es ++ xs)
in-append off [] xs i = absurd i
in-append off (e ∷ es) xs i = ⊎_elim (λ (s : e.off ≡ off). inl s) (λ (s : IsIn off es). inr (in-append off es xs s)) i

pub in-last : (off : ℕ) (es : List Extent) (x : Extent) → x.off ≡ off → IsIn off (es ++ x ∷ [])
in-last off [] x e = inl e
in-last off (d ∷ ds) x e = inr (in-last off ds x e)

-- the change of an extent and those behind it keeps an offset
in-changed : (off at : ℕ) (change : Extent → List Extent → List Extent) (es : List Extent) → 0 < (extent_in at es).span → (IsIn off (extent_in at es ∷ behind at es) → IsIn off (change (extent_in at es) (behind at es))) → IsIn off es → IsIn off (change_at at change es)
in-changed off at change [] named keeps i = absurd i
in-changed off at change (e ∷ es) named keeps i =
    ⊎_elim
    (λ (t : eqb e.off at ≡ true).
    let k : IsIn off (e ∷ es) → IsIn off (change e es) = rw t at keeps in
    rw t (k i))
    (λ (t : eqb e.off at ≡ false).
    let k : IsIn off (extent_in at es ∷ behind at es) → IsIn off (change (extent_in at es) (behind at es)) = rw t at keeps in
    rw t (⊎_elim (λ (s : e.off ≡ off). inl s) (λ (s : IsIn off es). inr (in-changed off at change es (rw t at named) k s)) i))
    (cases_Bool (eqb e.off at))

-- the segments of other numbers
extents-other : (m i : ℕ) (segs : List Bytes) (new : Bytes) → HoldsAt (λ (b : Bytes). b.number ≢ m) segs i → new.number ≢ m → extents_of m (tiling (set segs i new)) ≡ extents_of m (tiling segs)
extents-other m i [] new at ne = refl
extents-other m zero (s ∷ ss) new at ne = rw (ne_eqb new.number m ne, ne_eqb s.number m (at s)) refl
extents-other m (suc i) (s ∷ ss) new at ne = ap (cond (eqb s.number m) (extents s.bytes)) (extents-other m i ss new (λ d. at d) ne)

-- a segment in whose place another stands that has each offset of its extents
pub named-set : (n i b : ℕ) (segs : List Bytes) (new : Bytes) → IsPlace n segs i → new.number ≡ n → IsTiled new.bytes →
    ((place_of b).0 ≡ n → (d : Bytes) → IsIn (place_of b).1 (extents (get_or segs i d).bytes) → IsIn (place_of b).1 (extents new.bytes)) → IsNamed (tiling segs) b → IsNamed (tiling (set segs i new)) b
named-set n i b segs new p number tiled keeps named =
    ⊎_elim
    (λ (e : (place_of b).0 ≡ n).
    let off : ℕ = (place_of b).1 in
    let was : 0 < (extent_in off (extents (get_or segs i new).bytes)).span = subst (λ (es : List Extent). 0 < (extent_in off es).span) (ap (λ (k : ℕ). extents_of k (tiling segs)) e ∙ sym (p.extents new)) named in
    let is : 0 < (extent_in off (extents new.bytes)).span = in-named new.bytes (length new.bytes - 16) 0 16 off (extents new.bytes) tiled.tiles (keeps e new (is-in off (extents (get_or segs i new).bytes) was)) in
    subst (λ (es : List Extent). 0 < (extent_in off es).span) (sym (ap (λ (k : ℕ). extents_of k (tiling (set segs i new))) e ∙ extents-set n i segs new p.within p.first number)) is)
    (λ (ne : (place_of b).0 ≡ n → ⊥).
    subst (λ (es : List Extent). 0 < (extent_in (place_of b).1 es).span) (sym (extents-other (place_of b).0 i segs new (λ d q. ne (sym q ∙ p.numbered d)) (λ q. ne (sym q ∙ number)))) named)
    (cases_eq (place_of b).0 n)

-- the same of segments of which one is gone, and of one more
extents-remove : (n m i : ℕ) (segs : List Bytes) → HoldsAt (λ (b : Bytes). b.number ≡ n) segs i → m ≢ n → extents_of m (tiling (remove segs i)) ≡ extents_of m (tiling segs)
extents-remove n m zero [] at ne = refl
extents-remove n m (suc i) [] at ne = refl
extents-remove n m zero (s ∷ ss) at ne = rw (ne_eqb s.number m (λ q. ne (sym q ∙ at s))) refl
extents-remove n m (suc i) (s ∷ ss) at ne = ap (cond (eqb s.number m) (extents s.bytes)) (extents-remove n m i ss (λ d. at d) ne)

extents-push : (m off : ℕ) (segs : List Bytes) (s : Bytes) → 0 < (extent_in off (extents_of m (tiling segs))).span → 0 < (extent_in off (extents_of m (tiling (segs ++ s ∷ [])))).span
extents-push m off [] s named = absurd (omega arith)
extents-push m off (t ∷ ts) s named =
    ⊎_elim
    (λ (q : eqb t.number m ≡ true). rw q (rw q at named))
    (λ (q : eqb t.number m ≡ false). rw q (extents-push m off ts s (rw q at named)))
    (cases_Bool (eqb t.number m))

pub near-pushed : (near : ℕ) (segs : List Bytes) (s : Bytes) → (0 < near → IsNamed (tiling segs) near) → 0 < near → IsNamed (tiling (segs ++ s ∷ [])) near
near-pushed near segs s named some = extents-push (place_of near).0 (place_of near).1 segs s (named some)

-- where walks begin after the extents of a segment are gone
module _ {near n to : ℕ} (is : to ≡ cond (eqb (near / 1048576) n) 0 near) where
  outside : 0 < to → (to ≡ near) × ((place_of near).0 ≢ n)
  outside some =
      ⊎_elim
      (λ (t : eqb (near / 1048576) n ≡ true). let z : to ≡ 0 = rw t at is in absurd (omega arith))
      (λ (t : eqb (near / 1048576) n ≡ false). let z : to ≡ near = rw t at is in (z, eqb-false (near / 1048576) n t))
      (cases_Bool (eqb (near / 1048576) n))

  pub near-removed : (segs : List Bytes) (i : ℕ) → HoldsAt (λ (b : Bytes). b.number ≡ n) segs i → (0 < near → IsNamed (tiling segs) near) → 0 < to → IsNamed (tiling (remove segs i)) to
  near-removed segs i at named some =
      let o = outside some in
      let same = o.0 in
      subst (IsNamed (tiling (remove segs i))) (sym same)
      (subst (λ (es : List Extent). 0 < (extent_in (place_of near).1 es).span) (sym (extents-remove n (place_of near).0 i segs at o.1)) (named (omega arith)))

  pub near-reset : (segs : List Bytes) (i : ℕ) (new : Bytes) → IsPlace n segs i → new.number ≡ n → IsTiled new.bytes → (0 < near → IsNamed (tiling segs) near) → 0 < to → IsNamed (tiling (set segs i new)) to
  near-reset segs i new p number tiled named some =
      let o = outside some in
      let same = o.0 in
      subst (IsNamed (tiling (set segs i new))) (sym same) (named-set n i near segs new p number tiled (λ q. absurd (o.1 q)) (named (omega arith)))

-- a change that keeps the offsets of an extent and of those behind it, and one that takes the extent behind it
pub record Keeps (change : Extent → List Extent → List Extent) : Type 0 where
  pub keeps : (off : ℕ) (e : Extent) (es : List Extent) → IsIn off (e ∷ es) → IsIn off (change e es)

pub record Joins (change : Extent → List Extent → List Extent) : Type 0 where
  pub keeps : (b : List ℕ) (stop p at off : ℕ) (e : Extent) (es : List Extent) → Tiles b stop p at es → off ≢ at + 16 → IsIn off (e ∷ es) → IsIn off (change e es)

pub keeps-split : (size : ℕ) → Keeps (split size)
keeps-split size = record { keeps = λ off e es i. ⊎_elim (λ (s : e.off ≡ off). inl s) (λ (s : IsIn off es). inr (inr s)) i }

pub keeps-shrink : (size : ℕ) → Keeps (shrink size)
keeps-shrink size = record { keeps = λ off e es i. ⊎_elim (λ (s : e.off ≡ off). inl s) (λ (s : IsIn off es). inr (inr s)) i }

pub keeps-mark_busy : (size tag : ℕ) (body : List ℕ) → Keeps (mark_busy size tag body)
keeps-mark_busy size tag body = record { keeps = λ off e es i. i }

pub keeps-mark_free : Keeps mark_free
keeps-mark_free = record { keeps = λ off e es i. i }

pub keeps-set_size : (size : ℕ) (body : List ℕ) → Keeps (set_size size body)
keeps-set_size size body = record { keeps = λ off e es i. i }

pub keeps-set_link : (k v : ℕ) → Keeps (set_link k v)
keeps-set_link k v = record { keeps = λ off e es i. i }

pub keeps-write : (from : ℕ) (src : List ℕ) → Keeps (write from src)
keeps-write from src = record { keeps = λ off e es i. i }

behind-off : (b : List ℕ) (stop p at : ℕ) (e : Extent) (es : List Extent) → Tiles b stop p at (e ∷ es) → e.off ≡ at + 16
behind-off b stop p at e es h = ap (λ (x : Extent). x.off) h.0.extent ∙ off-at at b

past : (b : List ℕ) (stop p at off : ℕ) (e : Extent) (es : List Extent) → Tiles b stop p at (e ∷ es) → off ≢ at + 16 → IsIn off (e ∷ es) → IsIn off es
past b stop p at off e es h ne i = ⊎_elim (λ (s : e.off ≡ off). absurd (ne (sym s ∙ behind-off b stop p at e es h))) (λ (s : IsIn off es). s) i

join-keeps : (b : List ℕ) (stop p at off : ℕ) (e : Extent) (es : List Extent) → Tiles b stop p at es → off ≢ at + 16 → IsIn off (e ∷ es) → IsIn off (join e es)
join-keeps b stop p at off e [] h ne i = i
join-keeps b stop p at off e (d ∷ ds) h ne i = ⊎_elim (λ (s : e.off ≡ off). inl s) (λ (s : IsIn off (d ∷ ds)). inr (past b stop p at off d ds h ne s)) i

pub joins-join : Joins join
joins-join = record { keeps = join-keeps }

stretch-keeps : (size : ℕ) (body : List ℕ) (b : List ℕ) (stop p at off : ℕ) (e : Extent) (es : List Extent) → Tiles b stop p at es → off ≢ at + 16 → IsIn off (e ∷ es) → IsIn off (stretch size body e es)
stretch-keeps size body b stop p at off e [] h ne i = i
stretch-keeps size body b stop p at off e (d ∷ ds) h ne i =
    ⊎_elim (λ (s : e.off ≡ off). inl s)
    (λ (s : IsIn off (d ∷ ds)).
    let rest : IsIn off ds = past b stop p at off d ds h ne s in
    ⊎_elim (λ (t : eqb (e.span + d.span) (span size) ≡ true). inr (rw t rest)) (λ (t : eqb (e.span + d.span) (span size) ≡ false). inr (rw t (inr rest))) (cases_Bool (eqb (e.span + d.span) (span size))))
    i

pub joins-stretch : (size : ℕ) (body : List ℕ) → Joins (stretch size body)
joins-stretch size body = record { keeps = stretch-keeps size body }

-- an extent lies behind the first 16 bytes of a segment
pub first-there : (b : List ℕ) → IsTiled b → IsExtentAt b 16
first-there b t = let least = t.size.least in record { tiled = t; named = first-named b (length b - 16) 0 16 (extents b) t.tiles (omega arith) }

-- where walks begin after the extents behind an address changed
module _ {a i at : ℕ} {segs : List Bytes} {s new : Bytes} {change : Extent → List Extent → List Extent} (f : IsFound a segs i at) (is : s ≡ get_or segs i s) (ch : Changes (at + 16) change s new) where
  there : IsExtentAt s.bytes at
  there = subst (λ (b : Bytes). IsExtentAt b.bytes at) (sym is) (there-found f s)

  stays : (b : ℕ) → ((place_of b).0 ≡ (place_of a).0 → IsIn (place_of b).1 (extent_in (at + 16) (extents s.bytes) ∷ behind (at + 16) (extents s.bytes)) → IsIn (place_of b).1 (change (extent_in (at + 16) (extents s.bytes)) (behind (at + 16) (extents s.bytes)))) →
      IsNamed (tiling segs) b → IsNamed (tiling (set segs i new)) b
  stays b keeps named =
      let off : ℕ = (place_of b).1 in
      named-set (place_of a).0 i b segs new f.place (ch.number ∙ (ap (λ (x : Bytes). x.number) is ∙ f.place.numbered s)) ch.tiled
      (λ q d h.
      subst (IsIn off) (sym ch.extents)
      (in-changed off (at + 16) change (extents s.bytes) there.named (keeps q) (subst (λ (x : Bytes). IsIn off (extents x.bytes)) (sym (is ∙ get_or_default segs i s d f.place.within)) h)))
      named

  pub near-changed : (near : ℕ) → Keeps change → (0 < near → IsNamed (tiling segs) near) → 0 < near → IsNamed (tiling (set segs i new)) near
  near-changed near k named some = stays near (λ q. k.keeps (place_of near).1 (extent_in (at + 16) (extents s.bytes)) (behind (at + 16) (extents s.bytes))) (named some)

  pub near-joined : (near to bytes : ℕ) (read : Bytes) → Joins change → read ≡ get_or segs i read → bytes ≡ (extent_in (at + 16) (extents read.bytes)).span → to ≡ cond (eqb near (a + bytes / 32)) a near → (0 < near → IsNamed (tiling segs) near) → 0 < to → IsNamed (tiling (set segs i new)) to
  near-joined near to bytes read k read-is read-span to-is named some =
      let e : Extent = extent_in (at + 16) (extents s.bytes) in
      let same : read ≡ s = read-is ∙ (get_or_default segs i read s f.place.within ∙ sym is) in
      let span : bytes ≡ e.span = read-span ∙ ap (λ (x : Bytes). (extent_in (at + 16) (extents x.bytes)).span) same in
      let es : List Extent = behind (at + 16) (extents s.bytes) in
      let p = here there in
      let least = p.head.legal.least in
      let off = f.off in
      let keeps : (b : ℕ) → (place_of b).1 ≢ at + e.span + 16 → IsIn (place_of b).1 (e ∷ es) → IsIn (place_of b).1 (change e es) = λ b ne. k.keeps s.bytes (length s.bytes - 16) e.span (at + e.span) (place_of b).1 e es p.rest ne in
      ⊎_elim
      (λ (t : eqb near (a + bytes / 32) ≡ true).
      let z : to ≡ a = rw t at to-is in
      subst (IsNamed (tiling (set segs i new))) (sym z) (stays a (λ q. keeps a (λ r. omega arith)) (subst (λ (x : Extent). 0 < x.span) (f.extent s) (f.named s))))
      (λ (t : eqb near (a + bytes / 32) ≡ false).
      let z : to ≡ near = rw t at to-is in
      let ne : near ≢ a + bytes / 32 = eqb-false near (a + bytes / 32) t in
      subst (IsNamed (tiling (set segs i new))) (sym z) (stays near (λ q. keeps near (λ r. ne (omega arith))) (named (omega arith))))
      (cases_Bool (eqb near (a + bytes / 32)))

pub ruleset changed_steps = (is-changed, extents-changed, near-changed, keeps-split, keeps-shrink, keeps-mark_busy, keeps-mark_free, keeps-set_size, keeps-set_link, keeps-write)
