-- Extents that lie one behind the other.
use Rattle.vc_base.proofs.Common.{◌≡◌, ℕ, ◌+◌, ◌-◌, ◌%◌, ◌≤◌, ◌≢◌, List, [], ◌∷◌, length, take, drop, All, ap, ◌∙◌, arith, All-cons, All-nil, All-weaker}
use Rattle.vc_best.proofs.Common.{Bytes, Extent, IsLegal, IsTiled, Tiles, extents}
use Rattle.vc_base.proofs.Lists.{length-part}
use Rattle.vc_extent.proofs.Tiled.{body-at, inside, off-at, tiles-lt}

-- an extent lies from a place on, up to another at most
pub record IsAt (stop at : ℕ) (e : Extent) : Type 0 where
  pub off : e.off ≡ at + 16
  pub legal : IsLegal e
  pub within : at + e.span ≤ stop
  pub bytes : length e.body ≡ e.size

-- extents lie one behind the other from a place up to a place
abbrev pub Lies : ℕ → ℕ → List Extent → Type 0
Lies stop at [] = at ≡ stop
Lies stop at (e ∷ es) = IsAt stop at e × Lies stop (at + e.span) es

lies-tiles : (b : List ℕ) (stop p at : ℕ) (es : List Extent) → stop ≤ length b → Tiles b stop p at es → Lies stop at es
lies-tiles b stop p at [] le h = h
lies-tiles b stop p at (e ∷ es) le h =
    let within : at + e.span ≤ stop = tiles-lt b stop p at e es h in
    let own = inside e h.0.legal in
    let body : e.body ≡ take e.size (drop (at + 16) b) = rw h.0.extent (body-at at b) in (
      record {
        off = ap (λ (x : Extent). x.off) h.0.extent ∙ off-at at b;
        legal = h.0.legal;
        within = within;
        bytes = ap length body ∙ length-part b (at + 16) e.size (omega arith);
      },
      lies-tiles b stop e.span (at + e.span) es le h.1,
    )

-- a segment is tiled, and two segments have numbers of their own
abbrev pub Tiled : Bytes → Type 0
Tiled s = IsTiled s.bytes

abbrev pub Differ : Bytes → Bytes → Type 0
Differ s t = s.number ≢ t.number

pub lies-tiled : (bytes : List ℕ) → IsTiled bytes → Lies (length bytes - 16) 16 (extents bytes)
lies-tiled bytes h = lies-tiles bytes (length bytes - 16) 0 16 (extents bytes) (omega arith) h.tiles

-- what holds of each of them
pub record IsWithin (stop at : ℕ) (e : Extent) : Type 0 where
  pub from : at + 16 ≤ e.off
  pub to : e.off + e.span ≤ stop + 16
  pub multiple : e.off % 32 ≡ 0
  pub legal : IsLegal e
  pub bytes : length e.body ≡ e.size

within-lower : (stop at on : ℕ) (e : Extent) → at ≤ on → IsWithin stop on e → IsWithin stop at e
within-lower stop at on e le h = record { from = omega (arith, h.from); to = h.to; multiple = h.multiple; legal = h.legal; bytes = h.bytes }

pub lies-within : (stop at : ℕ) (es : List Extent) → (at + 16) % 32 ≡ 0 → Lies stop at es → All (IsWithin stop at) es
lies-within stop at [] m h = All-nil (IsWithin stop at)
lies-within stop at (e ∷ es) m h =
    let here = h.0 in
    let span = here.legal.multiple in
    All-cons (IsWithin stop at) e es
    (record { from = omega (arith, here.off); to = omega (arith, here.off, here.within); multiple = omega (arith, here.off, m); legal = here.legal; bytes = here.bytes })
    (All-weaker (IsWithin stop (at + e.span)) (IsWithin stop at) (λ x q. within-lower stop at (at + e.span) x (omega arith) q) es (lies-within stop (at + e.span) es (omega (arith, m, span)) h.1))

-- one ends before another
abbrev pub Ends : Extent → Extent → Type 0
Ends d e = d.off + d.span ≤ e.off

-- the extents behind one begin behind it
pub lies-behind : (stop at : ℕ) (e : Extent) (es : List Extent) → (at + 16) % 32 ≡ 0 → Lies stop at (e ∷ es) → All (Ends e) es
lies-behind stop at e es m h =
    let span = h.0.legal.multiple in
    All-weaker (IsWithin stop (at + e.span)) (Ends e) (λ x q. omega (arith, q.from, h.0.off)) es (lies-within stop (at + e.span) es (omega (arith, m, span)) h.1)
