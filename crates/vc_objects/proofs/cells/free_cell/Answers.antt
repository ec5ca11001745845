use Rattle.vc_base.proofs.Common.{ℕ, ap, ◌∙◌, Layout}
use Rattle.vc_best.specs.Cells.{cells_of, labelled_blocks, zeroed_layout}
use Rattle.vc_best.specs.Parts.{blocks_in, layout_of}
use Rattle.vc_best.proofs.CellCalls.{cells-freed}
use Rattle.vc_best.proofs.Labelled.{labelled-freed}
use Rattle.vc_best.proofs.Places.{own_places}
use Rattle.vc_objects.proofs.Unlabelled.{cell-has, cell-label, freed-zeroed}
use Rattle.vc_objects.proofs.cells.free_cell.Goals as goal

pub free-requires : goal.free-requires
free-requires g c = record { block = cell-has (blocks_in c.args.best.now) c.args.at.0 c.requires }

pub returns : goal.returns
returns g c =
    record {
      frees = record {
        rest = ap zeroed_layout c.free.ensures.layout ∙ freed-zeroed (layout_of c.args.best.now) c.args.at.0;
        cells = ap (λ (r : Layout ℕ). cells_of r.blocks) c.free.ensures.layout ∙ cells-freed (layout_of c.args.best.now) c.args.at.0 (own_places c.args.best.now);
        around = record {
          disc = c.free.ensures.disc;
          segments = ap (λ (r : Layout ℕ). r.segments) c.free.ensures.layout;
          labelled =
              ap (λ (r : Layout ℕ). labelled_blocks (zeroed_layout r)) c.free.ensures.layout
              ∙ labelled-freed (layout_of c.args.best.now) c.args.at.0 (cell-label (blocks_in c.args.best.now) c.args.at.0 c.requires);
        };
      };
    }
