-- What owns a segment's memory, by the allocator's token t for a block. It is asked for and given back as
-- words, which have it at a multiple of 8, and used as bytes.
use Rattle.std.specs.Prelude.{ℕ, ◌/◌, ◌^◌, List, length}
use mir.Syntax.{Ty, w8, w64, ty_int, ty_array}
use base.Fraction.{full_share}
use base.Fml.{Fml, Lft, fsep, fwand, flt}
use denote.Builtin.{u8}
use denote.Array.{Array}
use denote.RawPtr.{Ptr, lies_at, room_for, in_block}
use denote.Sharing.{said, beside}
use denote.Struct.Lending.{lent_at}

-- the type of n bytes
abbrev pub bytes_type : ℕ → Ty
bytes_type n = ty_array (ty_int w8) n

-- the type of the words in n bytes
abbrev pub words_type : ℕ → Ty
words_type n = ty_array (ty_int w64) (n / 8)

-- the right to give n bytes at p back, once nothing lies in them
abbrev pub right : (Ty → Ptr → Fml) → ℕ → Ptr → Fml
right t n p = fsep (fwand (room_for (bytes_type n) p) (room_for (words_type n) p)) (t (words_type n) p)

-- the bytes xs at p, and the right to give them back
abbrev pub block_owns : (Ty → Ptr → Fml) → Ptr → List ℕ → Fml
block_owns t p xs =
    fsep (flt (length xs) (2 ^ 63))
    (in_block p (fsep (lies_at (Array u8 (length xs)) full_share p xs) (right t (length xs) p)))

-- what a `&` to them holds
abbrev pub block_shares : Ptr → List ℕ → Lft → Fml
block_shares p xs = beside (said (flt (length xs) (2 ^ 63))) (lent_at (Array u8 (length xs)) p xs)
