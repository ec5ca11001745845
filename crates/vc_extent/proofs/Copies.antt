-- A copy of a range of one segment in another.
use Rattle.vc_base.proofs.Common.{◌≡◌, ℕ, ◌+◌, ◌<◌, ◌≤◌, List, length, get_or, take, drop, sym, refl, ap, ◌∙◌, subst, arith, take-take, with_bytes}
use Rattle.vc_base.proofs.Lists.{length-part}
use Rattle.vc_seg.specs.Memory.{with_copy_of}
use Rattle.vc_seg.specs.Segment.{Bytes}
use Rattle.vc_extent.specs.Extent.{Extent, extents}
use Rattle.vc_extent.specs.Change.{Changes, extent_in, write}
use Rattle.vc_extent.specs.Tiling.{IsFound, extent_of, tiling}
use Rattle.vc_extent.proofs.Bodies.{body-changed}
use Rattle.vc_extent.proofs.Places.{there-found}
use Rattle.vc_extent.proofs.Changed.{within}

-- the front of one busy extent copied into another
module _ (segs : List Bytes) (from to i j at place len : ℕ) (f : IsFound from segs i at) (g : IsFound to segs j place) (busy : 0 < (extent_of (tiling segs) to).size) (inside : len ≤ (extent_of (tiling segs) from).size) (fits : len ≤ (extent_of (tiling segs) to).size) where
  pub source-fits : (d : Bytes) → at + 16 + len ≤ length (get_or segs i d).bytes
  source-fits d =
      let w = within (there-found f d) in
      omega (arith, w.end, w.fits, ap (λ (x : Extent). x.size) (f.extent d))

  pub target-fits : (d : Bytes) → place + 16 + len ≤ length (get_or segs j d).bytes
  target-fits d =
      let w = within (there-found g d) in
      omega (arith, w.end, w.fits, ap (λ (x : Extent). x.size) (g.extent d))

  pub copy-changes : (d : Bytes) → Changes (place + 16) (write 0 (take len (extent_of (tiling segs) from).body)) (get_or segs j d) (with_copy_of (get_or segs i d) (at + 16) len (place + 16) (get_or segs j d))
  copy-changes d =
      let w = within (there-found f d) in
      let e : Extent = extent_in (at + 16) (extents (get_or segs i d).bytes) in
      let same : e ≡ extent_of (tiling segs) from = f.extent d in
      let inside' : len ≤ e.size = subst (λ (x : Extent). len ≤ x.size) (sym same) inside in
      let src : take len (drop (at + 16) (get_or segs i d).bytes) ≡ take len (extent_of (tiling segs) from).body =
      sym (take-take len e.size (drop (at + 16) (get_or segs i d).bytes) inside') ∙ (ap (take len) (sym w.body) ∙ ap (λ (x : Extent). take len x.body) same) in
      let long : length (take len (extent_of (tiling segs) from).body) ≡ len = ap length (sym src) ∙ length-part (get_or segs i d).bytes (at + 16) len (source-fits d) in
      let there : extent_in (place + 16) (extents (get_or segs j d).bytes) ≡ extent_of (tiling segs) to = g.extent d in
      let none : place + 16 ≡ place + 16 + 0 = omega arith in
      let size = ap (λ (x : Extent). x.size) there in
      body-changed (get_or segs j d) (with_copy_of (get_or segs i d) (at + 16) len (place + 16) (get_or segs j d)) place 0 (take len (extent_of (tiling segs) from).body) (there-found g d) (omega arith) (omega arith)
      (ap (λ k. with_bytes k (take len (drop (at + 16) (get_or segs i d).bytes)) (get_or segs j d).bytes) none ∙ ap (λ (xs : List ℕ). with_bytes (place + 16 + 0) xs (get_or segs j d).bytes) src)
      refl
