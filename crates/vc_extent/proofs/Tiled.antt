-- Extents that tile bytes, and bytes that are written elsewhere.
use Rattle.vc_base.proofs.Common.{◌≡◌, ℕ, zero, suc, ◌+◌, ◌-◌, ◌%◌, ◌<◌, ◌≤◌, Bool, true, false, cond, eqb, List, [], ◌∷◌, length, take, drop, sym, refl, ap, ◌∙◌, subst, ⊎_elim, arith, le-ltb, lt-ltb, ne_eqb, eqb-true, cases_Bool, eqb-false, span}
use Rattle.vc_seg.specs.Field.{field_at}
use Rattle.vc_extent.specs.Extent.{Extent, Links, extent_at, extents, walk, no_links, links_at, free_extent, busy_extent}
use Rattle.vc_extent.specs.Tiles.{IsHead, IsLegal, Tiles}
use Rattle.vc_extent.specs.Change.{behind, extent_in}
use Rattle.vc_seg.proofs.Frames.{part-front, field-front, part-back, field-back}

-- the same numbers, links and bytes are the same extent
pub same-extent : (o n : List ℕ) (at : ℕ) → field_at at n ≡ field_at at o → field_at (at + 4) n ≡ field_at (at + 4) o → field_at (at + 8) n ≡ field_at (at + 8) o → links_at (at + 16) n ≡ links_at (at + 16) o →
    take (field_at (at + 4) o) (drop (at + 16) n) ≡ take (field_at (at + 4) o) (drop (at + 16) o) → extent_at at n ≡ extent_at at o
unfolding extent_at
same-extent o n at span size tag links body =
    let e : (a b : ℕ) → a ≡ b → take a (drop (at + 16) n) ≡ take b (drop (at + 16) n) = λ a b p. ap (λ k. take k (drop (at + 16) n)) p in
    let whole : take (field_at (at + 4) n) (drop (at + 16) n) ≡ take (field_at (at + 4) o) (drop (at + 16) o) = e _ _ size ∙ body in
    let l : cond (eqb (field_at (at + 4) n) 0) (links_at (at + 16) n) no_links ≡ cond (eqb (field_at (at + 4) o) 0) (links_at (at + 16) o) no_links = rw (size, links) refl in
    λ i. record { off = at + 16; span = span i; size = size i; tag = tag i; links = l i; body = whole i }

pub same-links : (o n : List ℕ) (at : ℕ) → field_at at n ≡ field_at at o → field_at (at + 4) n ≡ field_at (at + 4) o → field_at (at + 8) n ≡ field_at (at + 8) o → links_at at n ≡ links_at at o
same-links o n at a b c = λ i. record { first = a i; second = b i; third = c i }

-- its parts
pub off-at : (at : ℕ) (b : List ℕ) → (extent_at at b).off ≡ at + 16
unfolding extent_at
off-at at b = refl

pub span-at : (at : ℕ) (b : List ℕ) → (extent_at at b).span ≡ field_at at b
unfolding extent_at
span-at at b = refl

pub size-at : (at : ℕ) (b : List ℕ) → (extent_at at b).size ≡ field_at (at + 4) b
unfolding extent_at
size-at at b = refl

pub tag-at : (at : ℕ) (b : List ℕ) → (extent_at at b).tag ≡ field_at (at + 8) b
unfolding extent_at
tag-at at b = refl

pub body-at : (at : ℕ) (b : List ℕ) → (extent_at at b).body ≡ take (extent_at at b).size (drop (at + 16) b)
unfolding extent_at
body-at at b = refl

-- a legal extent has its head, its links and its body within its span
pub inside : (e : Extent) → IsLegal e → e.size + 16 ≤ e.span
inside e h =
    ⊎_elim
    (λ (t : eqb e.size 0 ≡ true). let z = eqb-true e.size 0 t in let l = h.least in omega arith)
    (λ (t : eqb e.size 0 ≡ false). let z = eqb-false e.size 0 t in let b = h.busy (omega (arith, z)) in omega arith)
    (cases_Bool (eqb e.size 0))

-- where the front is the same
module _ (o n : List ℕ) (f : ℕ) (same : take f n ≡ take f o) where
  pub extent-front : (at : ℕ) → at + 28 ≤ f → at + 16 + field_at (at + 4) o ≤ f → extent_at at n ≡ extent_at at o
  extent-front at h within =
      let l : (i : ℕ) → i + 4 ≤ f → field_at i n ≡ field_at i o = field-front o n f same in
      same-extent o n at (l at (omega arith)) (l (at + 4) (omega arith)) (l (at + 8) (omega arith))
      (same-links o n (at + 16) (l (at + 16) (omega arith)) (l (at + 16 + 4) (omega arith)) (l (at + 16 + 8) (omega arith)))
      (part-front o n f same (at + 16) (field_at (at + 4) o) (omega arith))

  pub head-front : (p at : ℕ) (e : Extent) → IsHead o p at e → at + e.span ≤ f → IsHead n p at e
  head-front p at e h within =
      let i : e.size + 16 ≤ e.span = inside e h.legal in
      let least = h.legal.least in
      let s : e.size ≡ field_at (at + 4) o = ap (λ (x : Extent). x.size) h.extent ∙ size-at at o in
      record {
        extent = h.extent ∙ sym (extent-front at (omega arith) (omega arith));
        boundary = field-front o n f same (at + 12) (omega arith) ∙ h.boundary;
        legal = h.legal;
      }

-- where the back is the same
module _ (o n : List ℕ) (t : ℕ) (same : drop t n ≡ drop t o) where
  pub extent-back : (at : ℕ) → t ≤ at → extent_at at n ≡ extent_at at o
  extent-back at h =
      let l : (i : ℕ) → t ≤ i → field_at i n ≡ field_at i o = field-back o n t same in
      same-extent o n at (l at h) (l (at + 4) (omega arith)) (l (at + 8) (omega arith))
      (same-links o n (at + 16) (l (at + 16) (omega arith)) (l (at + 16 + 4) (omega arith)) (l (at + 16 + 8) (omega arith)))
      (part-back o n t same (at + 16) (field_at (at + 4) o) (omega arith))

  pub head-back : (p at : ℕ) (e : Extent) → IsHead o p at e → t ≤ at → IsHead n p at e
  head-back p at e h le =
      record {
        extent = h.extent ∙ sym (extent-back at le);
        boundary = field-back o n t same (at + 12) (omega arith) ∙ h.boundary;
        legal = h.legal;
      }

  pub tiles-back : (stop p at : ℕ) (es : List Extent) → t ≤ at → Tiles o stop p at es → Tiles n stop p at es
  tiles-back stop p at [] le h = h
  tiles-back stop p at (e ∷ es) le h = (head-back p at e h.0 le, tiles-back stop e.span (at + e.span) es (omega arith) h.1)

-- what tiles begins below its end
pub tiles-le : (b : List ℕ) (stop p at : ℕ) (es : List Extent) → Tiles b stop p at es → at ≤ stop
tiles-le b stop p at [] h = omega (arith, h)
tiles-le b stop p at (e ∷ es) h = let r = tiles-le b stop e.span (at + e.span) es h.1 in omega arith

pub tiles-lt : (b : List ℕ) (stop p at : ℕ) (e : Extent) (es : List Extent) → Tiles b stop p at (e ∷ es) → at + e.span ≤ stop
tiles-lt b stop p at e es h = tiles-le b stop e.span (at + e.span) es h.1

-- only one list tiles
pub walk-is : (b : List ℕ) (stop more p at : ℕ) (es : List Extent) → stop ≤ at + more → Tiles b stop p at es → walk more at stop b ≡ es
unfolding walk
walk-is b stop zero p at [] le h = refl
walk-is b stop zero p at (e ∷ es) le h = let l = h.0.legal.least in let r = tiles-lt b stop p at e es h in absurd (omega arith)
walk-is b stop (suc more) p at [] le h = rw (le-ltb at stop (omega (arith, h))) refl
walk-is b stop (suc more) p at (e ∷ es) le h =
    let l = h.0.legal.least in
    let r = tiles-lt b stop p at e es h in
    let s : field_at at b ≡ e.span = sym (ap (λ (x : Extent). x.span) h.0.extent ∙ span-at at b) in
    let rest : walk more (at + e.span) stop b ≡ es = walk-is b stop more e.span (at + e.span) es (omega arith) h.1 in
    rw (lt-ltb at stop (omega arith), ← h.0.extent, s) (ap (λ xs. e ∷ xs) rest)

pub extents-are : (b : List ℕ) (es : List Extent) → Tiles b (length b - 16) 0 16 es → extents b ≡ es
unfolding extents
extents-are b es h = walk-is b (length b - 16) (length b) 0 16 es (omega arith) h

-- an extent that a name stands for lies behind the start
pub named-above : (b : List ℕ) (stop p at off : ℕ) (es : List Extent) → Tiles b stop p at es → 0 < (extent_in off es).span → at + 16 ≤ off
named-above b stop p at off [] h named = absurd (omega arith)
named-above b stop p at off (e ∷ es) h named =
    let o : e.off ≡ at + 16 = ap (λ (x : Extent). x.off) h.0.extent ∙ off-at at b in
    ⊎_elim
    (λ (t : eqb e.off off ≡ true). let z = eqb-true e.off off t in omega arith)
    (λ (t : eqb e.off off ≡ false).
    let r = named-above b stop e.span (at + e.span) off es h.1 (rw t at named) in
    omega arith)
    (cases_Bool (eqb e.off off))

-- the head of an extent that is named by a place, and what lies behind it
pub record IsPart (b : List ℕ) (stop at : ℕ) (es : List Extent) : Type 0 where
  pub head : IsHead b (field_at (at + 12) b) at (extent_in (at + 16) es)
  pub rest : Tiles b stop (extent_in (at + 16) es).span (at + (extent_in (at + 16) es).span) (behind (at + 16) es)

pub part : (b : List ℕ) (stop p from at : ℕ) (es : List Extent) → Tiles b stop p from es → 0 < (extent_in (at + 16) es).span → IsPart b stop at es
part b stop p from at [] h named = absurd (omega arith)
part b stop p from at (e ∷ es) h named =
    let o : e.off ≡ from + 16 = ap (λ (x : Extent). x.off) h.0.extent ∙ off-at from b in
    ⊎_elim
    (λ (t : eqb e.off (at + 16) ≡ true).
    let z : e.off ≡ at + 16 = eqb-true e.off (at + 16) t in
    let same : from ≡ at = omega arith in
    let head : IsHead b (field_at (at + 12) b) at e = subst (λ (k : ℕ). IsHead b (field_at (k + 12) b) k e) same (record { extent = h.0.extent; boundary = refl; legal = h.0.legal }) in
    let rest : Tiles b stop e.span (at + e.span) es = subst (λ (k : ℕ). Tiles b stop e.span (k + e.span) es) same h.1 in
    subst (λ (v : Bool). IsHead b (field_at (at + 12) b) at (cond v e (extent_in (at + 16) es)) × Tiles b stop (cond v e (extent_in (at + 16) es)).span (at + (cond v e (extent_in (at + 16) es)).span) (cond v es (behind (at + 16) es)) → IsPart b stop at (e ∷ es)) t
    (λ w. record { head = w.0; rest = w.1 }) (head, rest))
    (λ (t : eqb e.off (at + 16) ≡ false).
    let r : IsPart b stop at es = part b stop e.span (from + e.span) at es h.1 (rw t at named) in
    record { head = rw t r.head; rest = rw t r.rest })
    (cases_Bool (eqb e.off (at + 16)))

-- another boundary word
pub rebound : (o n : List ℕ) (stop p q at : ℕ) (es : List Extent) → take (at + 12) n ≡ take (at + 12) o → drop (at + 16) n ≡ drop (at + 16) o → field_at (at + 12) n ≡ q → Tiles o stop p at es → Tiles n stop q at es
rebound o n stop p q at [] below above word h = h
rebound o n stop p q at (e ∷ es) below above word h =
    let b : (i : ℕ) → i + 4 ≤ at + 12 → field_at i n ≡ field_at i o = field-front o n (at + 12) below in
    let a : (i : ℕ) → at + 16 ≤ i → field_at i n ≡ field_at i o = field-back o n (at + 16) above in
    let least = h.0.legal.least in
    let same : extent_at at n ≡ extent_at at o =
    same-extent o n at (b at (omega arith)) (b (at + 4) (omega arith)) (b (at + 8) (omega arith))
    (same-links o n (at + 16) (a (at + 16) (omega arith)) (a (at + 16 + 4) (omega arith)) (a (at + 16 + 8) (omega arith)))
    (part-back o n (at + 16) above (at + 16) (field_at (at + 4) o) (omega arith)) in
    (record { extent = h.0.extent ∙ sym same; boundary = word; legal = h.0.legal }, tiles-back o n (at + 16) above stop e.span (at + e.span) es (omega arith) h.1)

-- at the end there is no boundary word
pub rebound-end : (b : List ℕ) (stop p q at : ℕ) (es : List Extent) → stop ≤ at → Tiles b stop p at es → Tiles b stop q at es
rebound-end b stop p q at [] le h = h
rebound-end b stop p q at (e ∷ es) le h = let r = tiles-lt b stop p at e es h in let l = h.0.legal.least in absurd (omega arith)

-- an extent by its head
pub busy-is : (b body : List ℕ) (at span size tag : ℕ) → field_at at b ≡ span → field_at (at + 4) b ≡ size → field_at (at + 8) b ≡ tag → 1 ≤ size → take size (drop (at + 16) b) ≡ body → busy_extent (at + 16) span size tag body ≡ extent_at at b
unfolding extent_at
busy-is b body at span size tag s z t some e =
    let l : cond (eqb (field_at (at + 4) b) 0) (links_at (at + 16) b) no_links ≡ no_links = rw (z, ne_eqb size 0 (λ k. omega arith)) refl in
    let w : take (field_at (at + 4) b) (drop (at + 16) b) ≡ body = rw z e in
    λ i. record { off = at + 16; span = sym s i; size = sym z i; tag = sym t i; links = sym l i; body = sym w i }

pub free-is : (b : List ℕ) (at span : ℕ) (links : Links) → field_at at b ≡ span → field_at (at + 4) b ≡ 0 → field_at (at + 8) b ≡ 0 → links_at (at + 16) b ≡ links → free_extent (at + 16) span links ≡ extent_at at b
unfolding extent_at
free-is b at span links s z t ls =
    let l : cond (eqb (field_at (at + 4) b) 0) (links_at (at + 16) b) no_links ≡ links = rw z ls in
    let w : take (field_at (at + 4) b) (drop (at + 16) b) ≡ [] = rw z refl in
    λ i. record { off = at + 16; span = sym s i; size = sym z i; tag = sym t i; links = sym l i; body = sym w i }

-- legal numbers
pub legal-busy : (off bytes size tag : ℕ) (body : List ℕ) → bytes ≡ span size → 1 ≤ size → IsLegal (busy_extent off bytes size tag body)
legal-busy off bytes size tag body e some = record { multiple = omega arith; least = omega arith; busy = λ _. e; free = λ z. absurd (omega arith) }

pub legal-free : (off bytes : ℕ) (links : Links) → 32 ≤ bytes → bytes % 32 ≡ 0 → IsLegal (free_extent off bytes links)
legal-free off bytes links least multiple = record { multiple = multiple; least = least; busy = λ z. absurd (omega arith); free = λ _. refl }

-- links that are 0
pub zero-links : (b : List ℕ) (at : ℕ) → field_at at b ≡ 0 → field_at (at + 4) b ≡ 0 → field_at (at + 8) b ≡ 0 → links_at at b ≡ no_links
zero-links b at x y z = λ i. record { first = x i; second = y i; third = z i }
