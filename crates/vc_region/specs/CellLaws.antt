-- No cell of a region stands at the address 0, and what stays but for cells stays over one call after another.
use Rattle.std.proofs.Common.{ℕ, IsSome, refl, sym, ◌∙◌}
use Rattle.std.proofs.lemmas.Bool.{true≢false}
use Rattle.vc_base.specs.Cells.{IsAddress}
use Rattle.vc_best.specs.CellLaws as best
use Rattle.vc_region.specs.Cells.{StaysButCells, cells_in}
use Rattle.vc_region.specs.declared.region.Region.{Region}
use Rattle.vc_region.specs.declared.region.Region.TheVariants.{Best, Pool, Last, Debug, Profile}

pub cells-addresses : {I : Type 0} {V : I → Type 0} (r : Region I V) (a : ℕ) → IsSome (cells_in r a) → IsAddress a
cells-addresses (Best b) a h = best.cells-addresses b a h
cells-addresses (Pool pool) a h = absurd (true≢false (sym h))
cells-addresses (Last last) a h = absurd (true≢false (sym h))
cells-addresses (Debug debug) a h = absurd (true≢false (sym h))
cells-addresses (Profile profile) a h = absurd (true≢false (sym h))

pub stays-same : {I : Type 0} {V : I → Type 0} (r : Region I V) → StaysButCells r r
stays-same r = record { region = refl; disc = refl }

pub stays-after : {I : Type 0} {V : I → Type 0} (a b c : Region I V) → StaysButCells a b → StaysButCells b c → StaysButCells a c
stays-after a b c p q = record { region = q.region ∙ p.region; disc = q.disc ∙ p.disc }
