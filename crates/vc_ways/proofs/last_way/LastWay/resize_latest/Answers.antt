use Rattle.vc_base.proofs.Common.{rules, sym, ◌∙◌, arith}
use Rattle.vc_last.specs.Read.{layout_by}
use Rattle.vc_ways.specs.LastParts.{way_of}
use Rattle.vc_ways.proofs.Blocks.{kept-length, own}
use Rattle.vc_ways.proofs.LatestBlock.{latest-at, latest-live, latest-refused}
use Rattle.vc_ways.proofs.last_way.LastWay.resize_latest.Goals as goal

pub resize-requires-clause-block : goal.resize-requires-clause-block
resize-requires-clause-block g c =
    latest-live c.args.self.now.region.segs.items c.args.self.now.region.latest.0 c.args.self.now.region.kept (omega (arith, c.requires.can.paired, c.requires.latest))

pub returns-in-Ok-clause-leaves : goal.returns-in-Ok-clause-leaves
returns-in-Ok-clause-leaves g c =
    let r = c.args.self.now.region in
    let r' = c.resize.new.self in
    let live = latest-live r.segs.items r.latest.0 r.kept (omega (arith, c.requires.can.paired, c.requires.latest)) in
    record {
      paired =
          c.requires.can.paired
          ∙ sym (kept-length r.latest.0 c.in-Ok.field-0.0 _ _ (own (layout_by r.segs.items r.latest.0) r.sound) (own (layout_by r'.segs.items r'.latest.0) r'.sound) live c.in-Ok.ensures.kept);
      keeps = search rules;
      refused = search rules;
    }

pub returns-in-Err-clause-answer : goal.returns-in-Err-clause-answer
returns-in-Err-clause-answer g c =
    latest-refused _ (way_of c.args.self.now) c.args.i c.args.size _ c.in-Err.fault (latest-at c.args.self.now.region.segs.items c.args.self.now.region.latest.0 c.args.self.now.region.kept (omega (arith, c.requires.can.paired, c.requires.latest))) c.in-Err.ensures.answer.0
