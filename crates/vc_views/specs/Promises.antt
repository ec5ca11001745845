-- What calls over the open regions and dictionaries of a session promise.
use Rattle.std.specs.Prelude.{◌≡◌, ℕ, ◌<◌, List, Option, Result, IfErr, IfOk, true, length, map, option_map, slice_get}
use Rattle.vc_base.specs.Address.{number_of}
use Rattle.vc_base.specs.Cells.{Blocks}
use Rattle.vc_base.specs.declared.addr.Addr.{Addr}
use Rattle.vc_dtdisc.specs.Rules.{Rules}
use Rattle.vc_commands.specs.Looking.{is_look}
use Rattle.vc_commands.specs.declared.dict.entry.DictEntry.{DictEntry}
use Rattle.vc_commands.specs.declared.region.home.HomeEntry.{HomeEntry}
use Rattle.vc_paths.specs.Layers.{Layer, Layered}
use Rattle.vc_paths.specs.Links.{Links}
use Rattle.vc_paths.specs.Path.{IsPath}
use Rattle.vc_script.specs.declared.command.Command.{Command}
use Rattle.vc_script.specs.declared.reply.Reply.{Reply}
use Rattle.vc_views.specs.Dicts.{AreDictsOver, HaveViewNumbers, cells_held, dict_seen, home_rest, layer_seen, layered_by, number_at, region_named, region_seen, with_current_at}
use Rattle.vc_views.specs.Leaves.{KeepsDicts}
use Rattle.vc_views.specs.Looks.{place_through, reply_through}

-- the cells of the first region of a name
abbrev pub cells_under : {I : Type 0} {V : I → Type 0} → List (List ℕ × HomeEntry I V) → List ℕ → Blocks
cells_under homes r = cells_held (region_named (map region_seen homes) r)

-- the layers of a session over its open regions
abbrev pub layered_over : {I : Type 0} {V : I → Type 0} → List Rules → List (List ℕ × HomeEntry I V) → List (List ℕ × DictEntry) → Layered
layered_over kinds homes dicts = layered_by kinds (map region_seen homes) dicts

-- the dictionary at an index as a layer, and an empty one where there is none
abbrev pub layer_at : {I : Type 0} {V : I → Type 0} → List Rules → List (List ℕ × HomeEntry I V) → List (List ℕ × DictEntry) → ℕ → Layer
layer_at kinds homes dicts i = layer_seen kinds (slice_get (map (dict_seen (map region_seen homes)) dicts) i)

-- each dictionary is whole, and what a look leaves is as it was
pub record LeavesDicts {I : Type 0} {V : I → Type 0} (kinds : List Rules) (homes homes' : List (List ℕ × HomeEntry I V)) (entries entries' : List (List ℕ × DictEntry)) : Type 0 where
  pub dicts : AreDictsOver kinds (map region_seen homes') entries'
  pub keeps : KeepsDicts kinds kinds homes homes' entries entries'

-- a look replies so, and tells where what it finds is, where that is an object of the dictionary itself
pub record IsLook (all : Layered) (links : Links) (d : ℕ) (command : Command) (shown : Reply) (at : Option Addr) : Type 0 where
  pub reply : shown ≡ reply_through all links d command
  pub place : option_map number_of at ≡ place_through all links d command

-- a command looks through the dictionary at an index, where there is one: all dictionaries are whole, under numbers of their own, and that one has a path
pub record CanLook {I : Type 0} {V : I → Type 0} (kinds : List Rules) (homes : List (List ℕ × HomeEntry I V)) (entries : List (List ℕ × DictEntry)) (links : Links) (i : ℕ) (command : Command) : Type 0 where
  pub dicts : AreDictsOver kinds (map region_seen homes) entries
  pub numbers : HaveViewNumbers entries
  pub index : i < length entries
  pub path : IsPath (layered_over kinds homes entries) links (number_at i entries)
  pub look : is_look command ≡ true

-- what it finds is current then where that is an object of that dictionary itself, and else nothing changes: no other dictionary, and of a region no more than its cells
pub record LooksThrough {I : Type 0} {V : I → Type 0} {E : Type 0} (kinds : List Rules) (regions regions' : List (List ℕ × HomeEntry I V)) (entries entries' : List (List ℕ × DictEntry)) (links : Links) (i : ℕ) (command : Command) (answer : Result Reply E) : Type 0 where
  pub reply : IfOk answer (λ reply. reply ≡ reply_through (layered_over kinds regions entries) links (number_at i entries) command)
  pub homes : map home_rest regions' ≡ map home_rest regions
  pub dicts : AreDictsOver kinds (map region_seen regions') entries'
  pub ok :
      IfOk answer (λ _. map (dict_seen (map region_seen regions')) entries'
      ≡ with_current_at i (place_through (layered_over kinds regions entries) links (number_at i entries) command) (map (dict_seen (map region_seen regions)) entries))
  pub err : IfErr answer (λ _. map (dict_seen (map region_seen regions')) entries' ≡ map (dict_seen (map region_seen regions)) entries)
