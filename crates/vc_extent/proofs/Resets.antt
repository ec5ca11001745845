-- A segment made one free extent again.
use Rattle.vc_base.proofs.Common.{◌≡◌, ℕ, ◌+◌, ◌-◌, List, [], ◌∷◌, length, ap, arith}
use Rattle.vc_extent.specs.Extent.{Extent, extents, free_extent, no_links}
use Rattle.vc_extent.specs.Change.{one_free, spans}
use Rattle.vc_extent.specs.Tiles.{IsTiled, Tiles}

spans-are : (b : List ℕ) (stop p at : ℕ) (es : List Extent) → Tiles b stop p at es → at + spans es ≡ stop
spans-are b stop p at [] h = omega (arith, h)
spans-are b stop p at (e ∷ es) h = let r = spans-are b stop e.span (at + e.span) es h.1 in omega arith

pub one-free : (b : List ℕ) → IsTiled b → free_extent 32 (length b - 32) no_links ∷ [] ≡ one_free (extents b)
one-free b t = let r = spans-are b (length b - 16) 0 16 (extents b) t.tiles in let least = t.size.least in ap (λ k. free_extent 32 k no_links ∷ []) (omega arith)
