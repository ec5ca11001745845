-- Worked objects, dictionaries and regions for the rows of definitions.
use Rattle.std.specs.Prelude.{ℕ, ◌+◌, zero, suc, List, [], ◌∷◌, ◌++◌, Bool, true, false, Option, Some, None, map, replicate}
use Rattle.vc_base.specs.declared.dict_method.DictMethod.{DictMethod}
use Rattle.vc_base.specs.declared.dict_method.DictMethod.TheVariants.{DtBag}
use Rattle.vc_model.specs.Best.{zeros}
use Rattle.vc_model.specs.Discipline.{Terms}
use Rattle.vc_model.specs.Layout.{Block, Layout}
use Rattle.vc_model.specs.Outcome.{Outcome}
use Rattle.vc_dtdisc.specs.Objects.{Object, address_of, bytes_of, linked_among}
use Rattle.vc_dtdisc.specs.Rules.{Rules}
use Rattle.vc_dtdisc.specs.Shapes.{rules_of}
use Rattle.vc_dtdisc.specs.declared.shape.Shape.TheVariants.{Fold}
use Rattle.vc_objects.specs.Insert.{Inserted, insert}
use Rattle.vc_objects.specs.Objects.{Dictionary, Table}
use Rattle.vc_objects.specs.Turn.{Turned, turn}

-- keys without regard to case
abbrev pub by_fold : Rules
by_fold = rules_of Fold

-- sizes of segments are rounded to 4,096 bytes
abbrev pub by_page : Terms
by_page = record { round = 4096; grows = false }

-- an object of one byte in the holder at an offset of segment 1, which is 32 times a number
abbrev pub byte_at_place : ℕ → ℕ → Object
byte_at_place n byte = record { at = 1048576 + n; bytes = byte ∷ [] }

-- the objects b, a, B and c, of one byte each
abbrev pub lower_b : Object
lower_b = byte_at_place 1 98

abbrev pub lower_a : Object
lower_a = byte_at_place 3 97

abbrev pub upper_b : Object
upper_b = byte_at_place 5 66

abbrev pub lower_c : Object
lower_c = byte_at_place 7 99

abbrev pub b_a_b : List Object
b_a_b = lower_b ∷ lower_a ∷ upper_b ∷ []

-- B is put among others, by keys without regard to case
abbrev pub with_upper : Bool → DictMethod → Option ℕ → List Object → List Object
with_upper append method current objects =
    linked_among address_of bytes_of append method by_fold current upper_b objects

-- a best region of segment 1, with blocks
abbrev pub segment_with : ℕ → List (Block ℕ) → Layout ℕ
segment_with bytes blocks = record { segments = (1, bytes) ∷ []; blocks = blocks }

-- with no block
abbrev pub one_segment : Layout ℕ
one_segment = segment_with 4096 []

-- an unlabelled block of zeros at an offset of segment 1
abbrev pub at_offset : ℕ → ℕ → Block ℕ
at_offset size off = zeros 0 size (1, off)

-- the holders of b, a and B; the same and a table of 16 slots
abbrev pub three_holders : List (Block ℕ)
three_holders = at_offset 33 32 ∷ at_offset 33 96 ∷ at_offset 33 160 ∷ []

abbrev pub held_region : Layout ℕ
held_region = segment_with 4096 (three_holders ++ at_offset 128 224 ∷ [])

abbrev pub first_table : Table
first_table = record { at = 1048583; slots = 16 }

-- b, a and B in that region; b is current
abbrev pub of_three : DictMethod → Option Table → Dictionary
of_three method table = record { method = method; objects = b_a_b; current = Some 1048577; table = table }

abbrev pub bag : Dictionary
bag = of_three DtBag (Some first_table)

-- a dictionary of so many objects with a table of 16 slots
abbrev pub of_many : DictMethod → ℕ → Dictionary
of_many method count =
    record { method = method; objects = replicate count lower_b; current = None; table = Some first_table }

-- a bag of so many objects; with 32 that table is full
abbrev pub bag_of : ℕ → Dictionary
bag_of count = of_many DtBag count

abbrev pub full_bag : Dictionary
full_bag = bag_of 32

-- that table alone, in a segment of so many bytes
abbrev pub table_alone : ℕ → Layout ℕ
table_alone bytes = segment_with bytes (at_offset 128 224 ∷ [])

-- so many segments of 64 bytes, from a number on
abbrev pub small_segments : ℕ → ℕ → List (ℕ × ℕ)
small_segments n zero = []
small_segments n (suc more) = (n, 64) ∷ small_segments (n + 1) more

-- a best region that can have no more segments, and has no room
abbrev pub full_region : Layout ℕ
full_region = record { segments = small_segments 1 1023; blocks = [] }

-- the offsets of the blocks of a region
abbrev pub offsets_in : Layout ℕ → List ℕ
offsets_in r = map (λ b. b.off) r.blocks

-- an object is put into a dictionary in a region
abbrev pub put_example : Layout ℕ → Dictionary → List ℕ → Bool → Bool → Inserted ℕ
put_example r d bytes no_table no_holder = insert by_fold by_page r 0 d false bytes no_table no_holder

-- that bag of three is turned to a method
abbrev pub bag_turned : DictMethod → Outcome (Turned ℕ)
bag_turned method = turn by_fold by_page held_region 0 bag method false

-- an object is put into the full bag in a segment of 4,096 bytes
abbrev pub after_growth : Inserted ℕ
after_growth = put_example (table_alone 4096) full_bag (98 ∷ []) false false

-- one of 320 bytes where there is room for the larger table alone, and no segment for the holder
abbrev pub halted_insert : Inserted ℕ
halted_insert = put_example (table_alone 672) full_bag (replicate 320 98) false true
