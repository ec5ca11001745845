-- No cell of a best region stands at the address 0, and what stays but for cells stays over one call after another.
use Rattle.std.proofs.Common.{◌≡◌, ℕ, ◌^◌, true, false, Option, Some, None, IsSome, cond, refl, sym, ◌∙◌, subst, ⊎_elim}
use Rattle.std.proofs.Math.Bridge.{le_prop}
use Rattle.std.proofs.Math.Logic.{∥∥₁_elim}
use Rattle.std.proofs.lemmas.Bool.{cases_Bool, true≢false}
use Rattle.vc_base.specs.Cells.{IsAddress}
use Rattle.vc_model.specs.Addr.{place_of}
use Rattle.vc_model.specs.Layout.{Block}
use Rattle.vc_model.specs.Touch.{find_block}
use Rattle.vc_model.proofs.Owned.{found-below, found-first}
use Rattle.vc_model.proofs.Places.{own-places}
use Rattle.vc_best.specs.Cells.{StaysButCells, cell_bytes, cells_in, is_unlabelled}
use Rattle.vc_best.specs.Parts.{blocks_in, layout_of}
use Rattle.vc_best.specs.declared.best.Best.{Best}

-- the block that shows bytes as a cell
pub cell-of : (o : Option (Block ℕ)) → IsSome (cell_bytes o) → (b : Block ℕ) × (o ≡ Some b) × (is_unlabelled b ≡ true)
cell-of None h = absurd (true≢false (sym h))
cell-of (Some b) h =
    ⊎_elim
    (λ (t : is_unlabelled b ≡ true). (b, refl, t))
    (λ (t : is_unlabelled b ≡ false). absurd (true≢false (sym (subst (λ v. IsSome (cond v (Some b.bytes) None)) t h))))
    (cases_Bool (is_unlabelled b))

pub cells-addresses : {I : Type 0} {V : I → Type 0} (best : Best I V) (a : ℕ) → IsSome (cells_in best a) → IsAddress a
cells-addresses best a h =
    let c = cell-of (find_block (place_of a) (blocks_in best)) h in
    record {
      some = ∥∥₁_elim best.sound (le_prop) (λ s. found-first a (blocks_in best) c.0 c.1 (own-places (layout_of best) s).first);
      fits = ∥∥₁_elim best.whole (le_prop) (λ s. found-below a (2 ^ 32) (blocks_in best) c.0 c.1 s.fits);
    }

pub stays-same : {I : Type 0} {V : I → Type 0} (b : Best I V) → StaysButCells b b
stays-same b = record { layout = refl; disc = refl }

pub stays-after : {I : Type 0} {V : I → Type 0} (a b c : Best I V) → StaysButCells a b → StaysButCells b c → StaysButCells a c
stays-after a b c p q = record { layout = q.layout ∙ p.layout; disc = q.disc ∙ p.disc }
