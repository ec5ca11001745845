-- The footprints of a region's blocks are lawful.
use Rattle.std.proofs.Common.{ℕ, ◌<◌, get_or, arith}
use Rattle.std.proofs.lemmas.List.Elements.{All-map}
use Rattle.vc_model.specs.Gap.{Run}
use Rattle.vc_model.specs.Layout.{Block, Layout, footprint, footprints}
use Rattle.vc_model.specs.Segments.{span}
use Rattle.vc_model.specs.Sound.{IsApart, IsSound, IsUsable}
use Rattle.vc_laws.specs.Maximal.{AreLawful}
use Rattle.vc_laws.proofs.Members.{Pairwise-map, Pairwise-from_AllPairs, AllPairs-from_Pairwise}

some-span : (size : ℕ) → 0 < span size
some-span size = omega arith

pub AreLawful-from_sound : {L : Type 0} (r : Layout L) → IsSound r → AreLawful r.segments (footprints r.blocks)
AreLawful-from_sound {L} r sound = record {
  numbered = sound.numbered;
  some = All-map (λ (f : Run). f.from < f.to) footprint r.blocks (λ k d within. let some = some-span (get_or r.blocks k d).size in omega (arith, some));
  usable = All-map (IsUsable r.segments) footprint r.blocks sound.usable;
  apart = AllPairs-from_Pairwise IsApart (footprints r.blocks) (Pairwise-map IsApart footprint r.blocks (Pairwise-from_AllPairs (λ (a b : Block L). IsApart (footprint a) (footprint b)) r.blocks sound.apart));
}
