-- What is sought in a dictionary by a key, by how it stands to the key: the last object that is less, the first that has it, or the first that is greater.
use Rattle.std.specs.Prelude.{◌≡◌, ℕ, true, List, Option, find, IsSome}
use Rattle.std.specs.List.{filter}
use Rattle.std.specs.Ordering.{is_gt, is_lt}
use Rattle.std.specs.declared.cmp.Ordering.{Ordering}
use Rattle.std.specs.declared.cmp.Ordering.TheVariants.{Equal, Greater, Less}
use Rattle.vc_base.specs.declared.addr.Addr.{Addr}
use Rattle.vc_base.specs.declared.dict_method.DictMethod.{DictMethod}
use Rattle.vc_base.specs.Cells.{Blocks}
use Rattle.vc_base.specs.Methods.{is_ordered}
use Rattle.vc_dtdisc.specs.Finding.{first_of, last_of}
use Rattle.vc_dtdisc.specs.Finds.{find_key, object_at}
use Rattle.vc_dtdisc.specs.Objects.{is_match}
use Rattle.vc_dtdisc.specs.Rules.{Rules}
use Rattle.vc_paths.specs.Layers.{Layer, Layered, bytes_there, place_in, place_last_like, place_with}

-- what is less or greater is asked of an ordered dictionary alone
abbrev pub CanStand : Ordering → DictMethod → Type 0
CanStand Less method = is_ordered method ≡ true
CanStand Equal method = Unit {0}
CanStand Greater method = is_ordered method ≡ true

-- of some holders the one that stands so to a key
abbrev pub holder_to : Ordering → Rules → Blocks → List ℕ → List ℕ → Option ℕ
holder_to Less rules b key holders = last_of (filter (λ at. is_lt (rules.compare (rules.key (object_at b at)) key)) holders)
holder_to Equal rules b key holders = find_key rules b key holders
holder_to Greater rules b key holders = find (λ at. is_gt (rules.compare (rules.key (object_at b at)) key)) holders

-- the place of the object of a layer that does
abbrev pub place_to : Ordering → Layer → List ℕ → Option ℕ
place_to Less layer key = place_in (last_of (filter (λ o. is_lt (layer.rules.compare (layer.rules.key o.bytes) key)) layer.objects))
place_to Equal layer key = place_with layer.rules key layer.objects
place_to Greater layer key = place_in (first_of (filter (λ o. is_gt (layer.rules.compare (layer.rules.key o.bytes) key)) layer.objects))

-- of the one that stands so to the key of some object
abbrev pub place_like : Ordering → Layer → List ℕ → Option ℕ
place_like side layer bytes = place_to side layer (layer.rules.key bytes)

-- of some holders the last whose object matches that of one, and the place of the last object of a layer that matches one
abbrev pub holder_like : Rules → Blocks → ℕ → List ℕ → Option ℕ
holder_like rules b at holders = last_of (filter (λ other. is_match rules (object_at b at) (object_at b other)) holders)

abbrev pub last_match_place : Layer → List ℕ → Option ℕ
last_match_place layer bytes = place_last_like layer.rules bytes layer.objects

-- a dictionary is asked so for what stands to the object at a place of another one
pub record CanCompare (all : Layered) (d : ℕ) (side : Ordering) (other : ℕ × Addr) : Type 0 where
  pub dict : all.Has d
  pub there : all.Has other.0
  pub asked : CanStand side (all.layer d).method
  pub place : IsSome (bytes_there other.1.0 (all.layer other.0).objects)
