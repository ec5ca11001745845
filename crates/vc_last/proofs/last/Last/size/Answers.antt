use Rattle.vc_base.proofs.Common.{ℕ, List, Some, option_map, sym, ap, ◌∙◌, Block}
use Rattle.vc_seg.specs.Segment.{Bytes}
use Rattle.vc_last.specs.Head.{block_of}
use Rattle.vc_last.proofs.Moves.{found-head, found-layout}
use Rattle.vc_last.proofs.Types.{have}
use Rattle.vc_last.proofs.last.Last.size.Goals as goal

pub size_at-requires : goal.size_at-requires
size_at-requires g c = rw c.deref.ensures.value (found-head c.args.self.now.segs.items c.args.self.now.latest.0 c.args.a.0 (have c.args.self.now.segs.items c.args.self.now.latest.0 c.args.self.now.kept) c.requires)

pub returns : goal.returns
returns g c = ap (option_map (λ (b : Block ℕ). b.size)) (found-layout c.args.self.now.segs.items c.args.self.now.latest.0 c.args.a.0 (have c.args.self.now.segs.items c.args.self.now.latest.0 c.args.self.now.kept) c.requires) ∙ ap Some (sym (c.size_at.ensures.value ∙ ap (λ (xs : List Bytes). (block_of xs c.args.a.0).size) c.deref.ensures.value))
