use Rattle.kolbista_c.proofs.images.show_image.Goals as goal

pub returns : goal.returns
returns c = record { disc = _; does = c.show_over.ensures }
