-- Two extents made one.
use Rattle.vc_base.proofs.Common.{◌≡◌, ℕ, ◌+◌, ◌-◌, List, [], ◌∷◌, length, IfSome, IsSome, sym, subst, arith}
use Rattle.vc_seg.specs.Segment.{Bytes}
use Rattle.vc_extent.specs.Extent.{Extent, free_extent, no_links}
use Rattle.vc_extent.specs.Change.{first_of, join}
use Rattle.vc_seg.specs.Field.{field_at}
use Rattle.vc_extent.specs.Tiles.{Tiles}

pub join-tiles : (o a n : Bytes) (at first second : ℕ) (e : Extent) (es : List Extent) → e.off ≡ at + 16 → e.span ≡ first → IsSome (first_of es) → IfSome (first_of es) (λ (g : Extent). second ≡ g.span) → Tiles o.bytes (length o.bytes - 16) e.span (at + e.span) es →
    ((p : ℕ) (xs : List Extent) → Tiles o.bytes (length o.bytes - 16) p (at + (first + second)) xs → Tiles a.bytes (length a.bytes - 16) (first + second) (at + (first + second)) xs) →
    ((xs : List Extent) → Tiles a.bytes (length a.bytes - 16) (first + second) (at + (first + second)) xs → Tiles n.bytes (length n.bytes - 16) (field_at (at + 12) a.bytes) at (free_extent (at + 16) (first + second) no_links ∷ xs)) →
    field_at (at + 12) a.bytes ≡ field_at (at + 12) o.bytes → Tiles n.bytes (length n.bytes - 16) (field_at (at + 12) o.bytes) at (join e es)
join-tiles o a n at first second e [] off span some next t one two boundary = absurd (cc)
join-tiles o a n at first second e (g ∷ es) off span some next t one two boundary =
    let place : at + e.span + g.span ≡ at + (first + second) = omega arith in
    let whole : first + second ≡ e.span + g.span = omega arith in
    let old : Tiles o.bytes (length o.bytes - 16) g.span (at + (first + second)) es = subst (λ (k : ℕ). Tiles o.bytes (length o.bytes - 16) g.span k es) place t.1 in
    let made = two es (one g.span es old) in
    let list : ℕ → ℕ → List Extent = λ off k. free_extent off k no_links ∷ es in
    let first' : Tiles n.bytes (length n.bytes - 16) (field_at (at + 12) o.bytes) at (list (at + 16) (first + second)) = subst (λ (k : ℕ). Tiles n.bytes (length n.bytes - 16) k at (list (at + 16) (first + second))) boundary made in
    subst (λ (k : ℕ). Tiles n.bytes (length n.bytes - 16) (field_at (at + 12) o.bytes) at (list k (e.span + g.span))) (sym off)
    (subst (λ (k : ℕ). Tiles n.bytes (length n.bytes - 16) (field_at (at + 12) o.bytes) at (list (at + 16) k)) whole first')
