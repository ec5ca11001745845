-- The way of a last region, whose blocks are alive or dead.
use Rattle.std.specs.Prelude.{ℕ, ◌+◌, ◌-◌, zero, suc, List, [], ◌∷◌, ◌++◌, Option, Some, None, Bool, true, false, length, option_map, slice_index_or, slice_set, take, unwrap_or, ◌==◌, if◌then◌else◌}
use Rattle.vc_model.specs.Discipline.{Terms}
use Rattle.vc_model.specs.Last.{last_alloc, last_free, last_resize, latest}
use Rattle.vc_model.specs.Layout.{Block, Layout, empty_layout, place_of_block}
use Rattle.vc_model.specs.Outcome.{Outcome, Done, Refused, done_as}

-- a last region, and for each of its blocks, in order of allocation, whether it is dead
pub record LastWay : Type 0 where
  pub region : Layout ℕ
  pub dead : List Bool

-- without a block
abbrev pub new_last : LastWay
new_last = record { region = empty_layout; dead = [] }

-- a block is put behind the others, alive; it is known by how many stand before it. Whether a segment is refused is the one free choice
abbrev pub last_put : Terms → LastWay → ℕ → Bool → Outcome (ℕ × LastWay)
last_put terms w size refused =
    done_as {B = ℕ × LastWay} (λ p. (length w.dead, record { region = p.region; dead = w.dead ++ false ∷ [] })) (last_alloc terms w.region 0 size refused)

-- the block behind so many is dead
abbrev pub last_dead : LastWay → ℕ → LastWay
last_dead w i = record { region = w.region; dead = slice_set w.dead i true }

-- where the latest block is
abbrev pub latest_place : Layout ℕ → ℕ × ℕ
latest_place r = unwrap_or (option_map place_of_block (latest r)) (0, 0)

-- the latest block gets another size, and may move
abbrev pub latest_sized : Terms → LastWay → ℕ → ℕ → Bool → Outcome (ℕ × LastWay)
latest_sized terms w i size refused =
    done_as {B = ℕ × LastWay} (λ p. (i, record { region = p.region; dead = w.dead })) (last_resize terms w.region (latest_place w.region) size true refused)

-- the block behind so many gets another size: if it isn't the latest, one of that size is put, and it is dead. Nothing writes into blocks, so the bytes that it takes along are the zeros that are there
abbrev pub last_sized : Terms → LastWay → ℕ → ℕ → Bool → Outcome (ℕ × LastWay)
last_sized terms w i size refused =
    if i + 1 == length w.dead then latest_sized terms w i size refused else last_put terms (last_dead w i) size refused

-- the region without its latest block
abbrev pub done_or : {A : Type 0} → A → Outcome A → A
done_or before (Done after) = after
done_or before (Refused why) = before

abbrev pub free_latest_of : Layout ℕ → Option (Block ℕ) → Layout ℕ
free_latest_of r None = r
free_latest_of r (Some b) = done_or r (last_free r (place_of_block b))

abbrev pub free_latest : Layout ℕ → Layout ℕ
free_latest r = free_latest_of r (latest r)

abbrev pub without_latest : LastWay → LastWay
without_latest w = record { region = free_latest w.region; dead = take (length w.dead - 1) w.dead }

-- whether the latest block is dead
abbrev pub ends_dead : List Bool → Bool
ends_dead dead = slice_index_or dead (length dead - 1) false

-- while the latest block is dead, it is freed; so many times at most
abbrev pub drop_dead_in : ℕ → LastWay → LastWay
drop_dead_in zero w = w
drop_dead_in (suc more) w = if ends_dead w.dead then drop_dead_in more (without_latest w) else w

abbrev pub drop_dead : LastWay → LastWay
drop_dead w = drop_dead_in (length w.dead) w
