use Rattle.vc_seg.proofs.Frames.{field-written, stays-field}
use Rattle.vc_seg.proofs.segment.Segment.set_field.Goals as goal

pub returns-clause-value : goal.returns-clause-value
returns-clause-value c = field-written c.args.at c.args.v c.to_le_bytes.result c.args.self.now.bytes c.put.new.self.bytes c.requires c.to_le_bytes.ensures c.ranges.v.fits c.put.ensures.bytes

pub returns-clause-rest : goal.returns-clause-rest
returns-clause-rest c = stays-field c.args.self.now c.put.new.self c.args.at c.args.v c.to_le_bytes.result c.requires c.to_le_bytes.ensures c.put.ensures.bytes c.put.ensures.number
