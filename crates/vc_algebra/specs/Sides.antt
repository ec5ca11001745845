-- What is sought in a dictionary by a key, by how it stands to the key.
use Rattle.std.specs.Prelude.{◌≡◌, ℕ, true, List, Option, find, IsSome}
use Rattle.std.specs.List.{filter}
use Rattle.std.specs.Ordering.{is_ge, is_gt, is_lt}
use Rattle.vc_base.specs.declared.addr.Addr.{Addr}
use Rattle.vc_base.specs.declared.dict_method.DictMethod.{DictMethod}
use Rattle.vc_base.specs.Cells.{Blocks}
use Rattle.vc_base.specs.Methods.{is_ordered}
use Rattle.vc_dtdisc.specs.Finding.{first_of, last_of}
use Rattle.vc_dtdisc.specs.Finds.{find_key, object_at}
use Rattle.vc_dtdisc.specs.Objects.{is_match}
use Rattle.vc_dtdisc.specs.Rules.{Rules}
use Rattle.vc_paths.specs.Layers.{Layer, Layered, bytes_there, place_in, place_last_like, place_with}
use Rattle.vc_algebra.specs.Algebra.{place_at_least}
use Rattle.vc_algebra.specs.declared.side.Side.{Side}
use Rattle.vc_algebra.specs.declared.side.Side.TheVariants.{Below, Level, AtLeast, Above}

-- all but what has the key is asked of an ordered dictionary alone
abbrev pub CanAsk : Side → DictMethod → Type 0
CanAsk Below method = is_ordered method ≡ true
CanAsk Level method = Unit {0}
CanAsk AtLeast method = is_ordered method ≡ true
CanAsk Above method = is_ordered method ≡ true

-- of some holders the one that is sought
abbrev pub sought_holder : Side → Rules → Blocks → List ℕ → List ℕ → Option ℕ
sought_holder Below rules b key holders = last_of (filter (λ at. is_lt (rules.compare (rules.key (object_at b at)) key)) holders)
sought_holder Level rules b key holders = find_key rules b key holders
sought_holder AtLeast rules b key holders = find (λ at. is_ge (rules.compare (rules.key (object_at b at)) key)) holders
sought_holder Above rules b key holders = find (λ at. is_gt (rules.compare (rules.key (object_at b at)) key)) holders

-- the place of the object of a layer that is
abbrev pub sought_place : Side → Layer → List ℕ → Option ℕ
sought_place Below layer key = place_in (last_of (filter (λ o. is_lt (layer.rules.compare (layer.rules.key o.bytes) key)) layer.objects))
sought_place Level layer key = place_with layer.rules key layer.objects
sought_place AtLeast layer key = place_at_least layer.rules key layer.objects
sought_place Above layer key = place_in (first_of (filter (λ o. is_gt (layer.rules.compare (layer.rules.key o.bytes) key)) layer.objects))

-- of some holders the last whose object matches that of one, and the place of the last object of a layer that matches one
abbrev pub holder_like : Rules → Blocks → ℕ → List ℕ → Option ℕ
holder_like rules b at holders = last_of (filter (λ other. is_match rules (object_at b at) (object_at b other)) holders)

abbrev pub last_place_like : Layer → List ℕ → Option ℕ
last_place_like layer bytes = place_last_like layer.rules bytes layer.objects

-- a dictionary is asked so for what stands to the object at a place of another one
pub record CanSeekBy (all : Layered) (d : ℕ) (side : Side) (other : ℕ × Addr) : Type 0 where
  pub dict : all.Has d
  pub there : all.Has other.0
  pub asked : CanAsk side (all.layer d).method
  pub place : IsSome (bytes_there other.1.0 (all.layer other.0).objects)
