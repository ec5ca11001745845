-- The rules of the six built-in shapes.
use Rattle.std.specs.Prelude.{ℕ, ◌+◌, ◌*◌, ◌%◌, ◌^◌, List, map, take, drop, Bool, true, IsTrue, not, nat_le, ◌==◌, ◌&&◌, if◌then◌else◌, fold}
use Rattle.std.specs.List.{take_while}
use Rattle.std.specs.Cmp.Lexicographic.{slice_cmp}
use Rattle.std.specs.Ordering.{nat_cmp}
use Rattle.std.specs.declared.cmp.Ordering.{Ordering}
use Rattle.vc_dtdisc.specs.declared.shape.Shape.{Shape}
use Rattle.vc_dtdisc.specs.declared.shape.Shape.TheVariants.{Whole, Field, Text, Fold, Reverse, Clip}
use Rattle.vc_dtdisc.specs.Rules.{Gone, Rules}

-- a letter A to Z as a to z, and any other byte as it is
abbrev pub lower_case : ℕ → ℕ
lower_case byte = if nat_le 65 byte && nat_le byte 90 then byte + 32 else byte

-- by bytes: at the first difference, and a front of a key stands before it
abbrev pub by_bytes : List ℕ → List ℕ → Ordering
by_bytes a b = slice_cmp nat_cmp a b

-- begun with 0, 31 times the hash so far, and one more than the byte, modulo 2^64
abbrev pub hash_of : List ℕ → ℕ
hash_of key = fold (λ h byte. (31 * h + byte + 1) % 2 ^ 64) 0 key

-- the bytes before the first zero byte
abbrev pub before_zero : List ℕ → List ℕ
before_zero bytes = take_while (λ byte. not (byte == 0)) bytes

-- the key of an object; taking and dropping end with the object
abbrev pub key_in_shape : Shape → List ℕ → List ℕ
key_in_shape Whole obj = obj
key_in_shape (Field off size) obj = take size (drop off obj)
key_in_shape (Text off) obj = before_zero (drop off obj)
key_in_shape Fold obj = obj
key_in_shape Reverse obj = obj
key_in_shape (Clip n) obj = take n obj

-- how two keys stand to each other
abbrev pub order_of : Shape → List ℕ → List ℕ → Ordering
order_of Whole a b = by_bytes a b
order_of (Field off size) a b = by_bytes a b
order_of (Text off) a b = by_bytes a b
order_of Fold a b = by_bytes (map lower_case a) (map lower_case b)
order_of Reverse a b = by_bytes b a
order_of (Clip n) a b = by_bytes a b

-- the hash of a key
abbrev pub shape_hash : Shape → List ℕ → ℕ
shape_hash Whole key = hash_of key
shape_hash (Field off size) key = hash_of key
shape_hash (Text off) key = hash_of key
shape_hash Fold key = hash_of (map lower_case key)
shape_hash Reverse key = hash_of key
shape_hash (Clip n) key = hash_of key

-- the object that is made of a prototype
abbrev pub made_of : Shape → List ℕ → List ℕ
made_of Whole obj = obj
made_of (Field off size) obj = obj
made_of (Text off) obj = obj
made_of Fold obj = obj
made_of Reverse obj = obj
made_of (Clip n) obj = take n obj

-- the rules of a shape
abbrev pub rules_of : Shape → Rules
rules_of shape = record {
  key = key_in_shape shape;
  compare = order_of shape;
  hash = shape_hash shape;
  made = made_of shape;
}

-- a clip has at least one byte
abbrev pub is_shape : Shape → Bool
is_shape Whole = true
is_shape (Field off size) = true
is_shape (Text off) = true
is_shape Fold = true
is_shape Reverse = true
is_shape (Clip n) = nat_le 1 n

-- a kind of one of the shapes, and what it was told of
pub record BuiltInKind : Type 0 where
  pub shape : Shape
  pub legal : IsTrue (is_shape shape)
  pub gone : Gone
