use Rattle.vc_base.proofs.Common.{Some, option_map, sym, ap, ◌∙◌}
use Rattle.vc_best.proofs.Found.{busy-of}
use Rattle.vc_best.proofs.Held.{block-is}
use Rattle.vc_best.proofs.best.Best.tag.Goals as goal

pub tag_at-requires : goal.tag_at-requires
tag_at-requires g c = (busy-of c.args.self.now.extents.segs.items c.args.self.now.extents.index.items c.args.a.0 c.args.self.now.extents.kept c.requires).named

pub returns : goal.returns
returns g c = ap (option_map (λ b. b.label)) (block-is c.args.self.now.extents.segs.items c.args.self.now.extents.index.items c.args.a.0 c.args.self.now.extents.kept c.requires) ∙ ap Some (sym c.tag_at.ensures)
