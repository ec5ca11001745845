-- A link of a free extent is written: the store of gaps after it, and what stays.
use Rattle.vc_base.proofs.Common.{◌≡◌, ℕ, true, false, cond, eqb, ◌≢◌, List, [], ◌∷◌, map, sym, refl, ap, ◌∙◌, subst, ⊎_elim, eq-eqb, cases_Bool, cases_eq, place_of}
use Rattle.vc_gaps.proofs.Common.{Bytes, Extent, StaysButLinks, Tiling, change_at, change_extent, change_in, extent_in, extent_of, extents_of, free_extent, gap_store, is_free, is_free-named, is_free-size, is_free-stays, pair_of, plain, set_link, tiling, with_link, without_links}
use Rattle.vc_splay.specs.Store.{with_kid, with_parent}
use Rattle.vc_splay.proofs.StoreLemmas.{with_kid-is, with_parent-is}
use Rattle.vc_gaps.proofs.Named.{behind_of, extent_in-off, extent_of-here, extent_of-single}

-- an extent with other links
abbrev pub relinked : ℕ → ℕ → Extent → Extent
relinked k v e = free_extent e.off e.span (with_link k v e.links)

plain-changed : (off k v : ℕ) (es : List Extent) → (extent_in off es).size ≡ 0 → map without_links (change_at off (set_link k v) es) ≡ map without_links es
plain-changed off k v [] free = refl
plain-changed off k v (e ∷ es) free =
    ⊎_elim
    (λ (t : eqb e.off off ≡ true). let z : e.size ≡ 0 = rw t at free in rw (t, eq-eqb e.size 0 z) refl)
    (λ (t : eqb e.off off ≡ false). rw t (ap (λ es. without_links e ∷ es) (plain-changed off k v es (rw t at free))))
    (cases_Bool (eqb e.off off))

plain-in : (n off k v : ℕ) (t : Tiling) → (extent_in off (extents_of n t)).size ≡ 0 → plain (change_in n (change_at off (set_link k v)) t) ≡ plain t
plain-in n off k v [] free = refl
plain-in n off k v (s ∷ ss) free =
    ⊎_elim
    (λ (t : eqb s.0 n ≡ true). rw t (ap (λ (es : List Extent). (s.0, es) ∷ plain ss) (plain-changed off k v s.1 (rw t at free))))
    (λ (t : eqb s.0 n ≡ false). rw t (ap (λ (q : Tiling). (s.0, map without_links s.1) ∷ q) (plain-in n off k v ss (rw t at free))))
    (cases_Bool (eqb s.0 n))

module _ (old new : Tiling) (a k v : ℕ) (free : is_free old a ≡ true) (e : new ≡ change_extent a (set_link k v) old) where
  own : (extent_of old a).off ≡ (place_of a).1
  own = extent_in-off (place_of a).1 (extents_of (place_of a).0 old)

  at-node : extent_of new a ≡ relinked k v (extent_of old a)
  at-node = extent_of-here old new a (set_link k v) e (relinked k v (extent_of old a)) (behind_of old a) (is_free-named old a free) own refl

  at-other : (b : ℕ) → b ≢ a → extent_of new b ≡ extent_of old b
  at-other = extent_of-single old new a (set_link k v) e (relinked k v (extent_of old a)) own refl

  pub plain-linked : plain new ≡ plain old
  plain-linked = ap plain e ∙ plain-in (place_of a).0 (place_of a).1 k v old (is_free-size old a free)

  has-linked : (b : ℕ) → is_free new b ≡ is_free old b
  has-linked b = is_free-stays old new plain-linked b

  -- what of an extent is the same where it is another one, and where the link is another one
  part : {A : Type 0} (part_of : Extent → A) → part_of (relinked k v (extent_of old a)) ≡ part_of (extent_of old a) → (b : ℕ) → part_of (extent_of new b) ≡ part_of (extent_of old b)
  part part_of same b =
      ⊎_elim
      (λ (q : b ≡ a). subst (λ z. part_of (extent_of new z) ≡ part_of (extent_of old z)) (sym q) (ap part_of at-node ∙ same))
      (λ (q : b ≡ a → ⊥). ap part_of (at-other b q))
      (cases_eq b a)

pub first-linked : (old new : Tiling) (a v : ℕ) → is_free old a ≡ true → new ≡ change_extent a (set_link 0 v) old → gap_store new ≡ with_kid true a v (gap_store old)
first-linked old new a v free e =
    with_kid-is (gap_store old) (gap_store new) true a v (has-linked old new a 0 v free e)
    (ap (λ (x : Extent). x.links.first) (at-node old new a 0 v free e))
    (part old new a 0 v free e (λ (x : Extent). x.links.second) refl)
    (λ b ne d. ap (λ (x : Extent). cond d x.links.first x.links.second) (at-other old new a 0 v free e b ne))
    (part old new a 0 v free e (λ (x : Extent). x.links.third) refl)

pub second-linked : (old new : Tiling) (a v : ℕ) → is_free old a ≡ true → new ≡ change_extent a (set_link 1 v) old → gap_store new ≡ with_kid false a v (gap_store old)
second-linked old new a v free e =
    with_kid-is (gap_store old) (gap_store new) false a v (has-linked old new a 1 v free e)
    (ap (λ (x : Extent). x.links.second) (at-node old new a 1 v free e))
    (part old new a 1 v free e (λ (x : Extent). x.links.first) refl)
    (λ b ne d. ap (λ (x : Extent). cond d x.links.first x.links.second) (at-other old new a 1 v free e b ne))
    (part old new a 1 v free e (λ (x : Extent). x.links.third) refl)

pub third-linked : (old new : Tiling) (a v : ℕ) → is_free old a ≡ true → new ≡ change_extent a (set_link 2 v) old → gap_store new ≡ with_parent a v (gap_store old)
third-linked old new a v free e =
    with_parent-is (gap_store old) (gap_store new) a v (has-linked old new a 2 v free e)
    (λ d. part old new a 2 v free e (λ (x : Extent). cond d x.links.first x.links.second) (elim d as (λ z. cond z (with_link 2 v (extent_of old a).links).first (with_link 2 v (extent_of old a).links).second ≡ cond z (extent_of old a).links.first (extent_of old a).links.second) [ true ↦ refl | false ↦ refl ]))
    (ap (λ (x : Extent). x.links.third) (at-node old new a 2 v free e))
    (λ b ne. ap (λ (x : Extent). x.links.third) (at-other old new a 2 v free e b ne))

pub but-linked : (old new : List Bytes) (a k v : ℕ) → is_free (tiling old) a ≡ true → tiling new ≡ change_extent a (set_link k v) (tiling old) → map pair_of new ≡ map pair_of old → StaysButLinks old new
but-linked old new a k v free e pairs = record { extents = plain-linked (tiling old) (tiling new) a k v free e; pairs = pairs }
