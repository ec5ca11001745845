-- The free extents of a tiling as a store of nodes, by address.
use Rattle.std.specs.Prelude.{ℕ, ◌+◌, ◌*◌, Bool, nat_lt, ◌==◌, ◌&&◌, if◌then◌else◌}
use Rattle.std.specs.Ordering.{nat_cmp}
use Rattle.std.specs.declared.cmp.Ordering.{Ordering}
use Rattle.vc_splay.specs.Store.{Store}
use Rattle.vc_extent.specs.Tiling.{extent_of}
use Rattle.vc_gaps.specs.ButLinks.{Tiling}

-- whether an address names a free extent
abbrev pub is_free : Tiling → ℕ → Bool
is_free t a = nat_lt 0 (extent_of t a).span && ((extent_of t a).size == 0)

-- a free extent's three links are its left child, its right child and its parent
abbrev pub gap_store : Tiling → Store
gap_store t = record {
  has = is_free t;
  kid = λ left a. if left then (extent_of t a).links.first else (extent_of t a).links.second;
  parent = λ a. (extent_of t a).links.third;
}

-- span and address as one number: the order of gaps is by span, and then by address
abbrev pub gap_key : ℕ → ℕ → ℕ
gap_key span a = span * 4294967296 + a

abbrev pub key_of : Tiling → ℕ → ℕ
key_of t a = gap_key (extent_of t a).span a

-- where a free extent stands to a span and an address
abbrev pub gap_side : Tiling → ℕ → ℕ → ℕ → Ordering
gap_side t span at a = nat_cmp (key_of t a) (gap_key span at)
