-- The 16 bytes before a block of a last region, four numbers: its size, its tag, the address of the
-- live block that was allocated before it, 0 for none, and 0.
use Rattle.std.specs.Prelude.{◌≡◌, ◌≢◌, ℕ, ◌+◌, ◌-◌, ◌<◌, ◌≤◌, List, All, length, map, take, drop, Bool}
use Rattle.std.specs.List.{HoldsAt}
use Rattle.vc_model.specs.Addr.{place_of}
use Rattle.vc_model.specs.Layout.{Block, address_of, footprint}
use Rattle.vc_model.specs.Resize.{is_usable, sized_block}
use Rattle.vc_model.specs.Segments.{span}
use Rattle.vc_seg.specs.Segment.{AreSegments, Bytes, pair_of}
use Rattle.vc_seg.specs.Memory.{bytes_of_number}
use Rattle.vc_seg.specs.Field.{field_at}

-- the bytes of the segment of an address
abbrev pub bytes_at : List Bytes → ℕ → List ℕ
bytes_at segs a = bytes_of_number (place_of a).0 segs

-- the block at a place of its segment's bytes
abbrev pub block_in_bytes : List ℕ → ℕ × ℕ → Block ℕ
block_in_bytes bytes at =
    record {
      label = field_at (at.1 - 12) bytes;
      seg = at.0;
      off = at.1;
      size = field_at (at.1 - 16) bytes;
      bytes = take (field_at (at.1 - 16) bytes) (drop at.1 bytes);
    }

-- the block at an address
abbrev pub block_of : List Bytes → ℕ → Block ℕ
block_of segs a = block_in_bytes (bytes_at segs a) (place_of a)

-- the address that its head has of the block allocated before it
abbrev pub before_of : List Bytes → ℕ → ℕ
before_of segs a = field_at ((place_of a).1 - 8) (bytes_at segs a)

-- whether the block at an address has room for a size where it is
abbrev pub has_room : List Bytes → ℕ → ℕ → Bool
has_room segs a size = is_usable (map pair_of segs) (footprint (sized_block size (block_of segs a)))

-- a block that lies in these segments behind its head
pub record HasHead (segs : List Bytes) (b : Block ℕ) : Type 0 where
  pub some : 1 ≤ b.size
  pub first : 32 ≤ b.off
  pub within : b.off + span b.size ≤ length (bytes_of_number b.seg segs)
  pub zero : field_at (b.off - 4) (bytes_of_number b.seg segs) ≡ 0
  pub is : b ≡ block_of segs (address_of b)

-- segments with numbers of their own, in which the block at an address lies behind its head
pub record HasHeadAt (segs : List Bytes) (a : ℕ) : Type 0 where
  pub segments : AreSegments segs
  pub head : HasHead segs (block_of segs a)

-- a head without its size stays, that of the block at an offset of a segment's bytes
pub record HeadStays (off : ℕ) (old new : List ℕ) : Type 0 where
  pub label : field_at (off - 12) new ≡ field_at (off - 12) old
  pub before : field_at (off - 8) new ≡ field_at (off - 8) old
  pub zero : field_at (off - 4) new ≡ field_at (off - 4) old

-- the first segment of a number stands at a place
pub record IsFirstAt (n : ℕ) (segs : List Bytes) (place : ℕ) : Type 0 where
  pub within : place < length segs
  pub number : HoldsAt (λ s. s.number ≡ n) segs place
  pub first : All (λ s. s.number ≢ n) (take place segs)

-- a write into a range of the segment of that number leaves all other bytes as they are
pub record StaysBut (number from to : ℕ) (old new : List Bytes) : Type 0 where
  pub pairs : map pair_of new ≡ map pair_of old
  pub others : (m : ℕ) → m ≢ number → bytes_of_number m new ≡ bytes_of_number m old
  pub below : take from (bytes_of_number number new) ≡ take from (bytes_of_number number old)
  pub above : drop to (bytes_of_number number new) ≡ drop to (bytes_of_number number old)

-- a block's bytes lie behind a head that names the block before it
pub record LiesThere (segs : List Bytes) (earlier : ℕ) (b : Block ℕ) : Type 0 where
  pub size : field_at (b.off - 16) (bytes_of_number b.seg segs) ≡ b.size
  pub label : field_at (b.off - 12) (bytes_of_number b.seg segs) ≡ b.label
  pub before : field_at (b.off - 8) (bytes_of_number b.seg segs) ≡ earlier
  pub zero : field_at (b.off - 4) (bytes_of_number b.seg segs) ≡ 0
  pub bytes : take b.size (drop b.off (bytes_of_number b.seg segs)) ≡ b.bytes
