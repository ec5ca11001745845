-- The lists of a region. The label of a block is a tag in the libraries, and a name or none in a session.
use Rattle.std.specs.Prelude.{ℕ, ◌+◌, ◌-◌, List, [], ◌∷◌, Bool, map, nat_lt, ◌==◌, ◌&&◌, ◌||◌, if◌then◌else◌}
use Rattle.vc_model.specs.Addr.{address}
use Rattle.vc_model.specs.Segments.{Grant, segments_with, span}
use Rattle.vc_model.specs.Gap.{Run}

-- a block, which begins at its offset in a segment; sizes and offsets are in bytes
pub record Block (L : Type 0) : Type 0 where
  pub label : L
  pub seg : ℕ
  pub off : ℕ
  pub size : ℕ
  pub bytes : List ℕ

-- segments in order of lending, as number and size, and blocks: in a last region in order of allocation, in every other by address
pub record Layout (L : Type 0) : Type 0 where
  pub segments : List (ℕ × ℕ)
  pub blocks : List (Block L)

-- with no segment and no block
abbrev pub empty_layout : {L : Type 0} → Layout L
empty_layout = record { segments = []; blocks = [] }

-- the layout with what is granted
abbrev pub with_grant : {L : Type 0} → Layout L → Grant → Layout L
with_grant r g = record { segments = segments_with g r.segments; blocks = r.blocks }

-- where a block begins
abbrev pub place_of_block : {L : Type 0} → Block L → ℕ × ℕ
place_of_block b = (b.seg, b.off)

abbrev pub address_of : {L : Type 0} → Block L → ℕ
address_of b = address (b.seg, b.off)

-- what a block takes of its segment, from its head of 16 bytes on
abbrev pub footprint : {L : Type 0} → Block L → Run
footprint b = record { seg = b.seg; from = b.off - 16; to = b.off - 16 + span b.size }

abbrev pub footprints : {L : Type 0} → List (Block L) → List Run
footprints blocks = map footprint blocks

-- whether one block lies before another
abbrev pub lies_before : {L : Type 0} → Block L → Block L → Bool
lies_before a b = nat_lt a.seg b.seg || ((a.seg == b.seg) && nat_lt a.off b.off)

-- a block among the others, by address
abbrev pub with_block : {L : Type 0} → Block L → List (Block L) → List (Block L)
with_block b [] = b ∷ []
with_block b (c ∷ cs) = if lies_before b c then b ∷ c ∷ cs else c ∷ with_block b cs

-- whether a block begins at a place, as segment and offset
abbrev pub is_at : {L : Type 0} → ℕ × ℕ → Block L → Bool
is_at at b = (b.seg == at.0) && (b.off == at.1)

-- the blocks without the one at a place
abbrev pub without_block : {L : Type 0} → ℕ × ℕ → List (Block L) → List (Block L)
without_block at [] = []
without_block at (b ∷ bs) = if is_at at b then bs else b ∷ without_block at bs

-- the same with other labels
abbrev pub relabel_block : {L M : Type 0} → (L → M) → Block L → Block M
relabel_block name b = record { label = name b.label; seg = b.seg; off = b.off; size = b.size; bytes = b.bytes }

abbrev pub relabel_layout : {L M : Type 0} → (L → M) → Layout L → Layout M
relabel_layout name r = record { segments = r.segments; blocks = map (relabel_block name) r.blocks }
