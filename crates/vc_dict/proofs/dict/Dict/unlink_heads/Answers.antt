use Rattle.vc_base.proofs.Common.{◌≡◌, ◌+◌, ◌-◌, ◌∷◌, length, arith, without}
use Rattle.vc_dtlist.proofs.HolderLemmas.{length-without}
use Rattle.vc_dict.proofs.DictLemmas.{Became-heads, Became-within, member}
use Rattle.vc_dict.proofs.dict.Dict.unlink_heads.Goals as goal

pub returns : goal.returns
returns g c = record {
  change = λ holders s.
      let rules = g.D.DictDisc.rules c.args.kind.now in
      let d = c.args.self.now in
      let b = g.C.Cells.blocks c.args.cells.now in
      let b' = g.C.Cells.blocks c.unlink.new.cells in
      let at = c.args.at.0 in
      let within = member rules d b at holders c.requires s in
      let long : length (without at holders) + 1 ≡ length holders = length-without holders at within in
      Became-within rules holders at d _ b b' (without at holders) d.current.0 within
      (Became-heads rules d c.unlink.new.self (d.count - 1) d.current b b' (at ∷ holders) holders (without at holders) s (c.unlink.ensures.change holders s.heads) (omega (arith, long, s.count)));
  rest = c.unlink.ensures.rest;
}
