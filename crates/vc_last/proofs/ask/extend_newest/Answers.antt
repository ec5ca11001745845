use Rattle.vc_base.proofs.Common.{◌-◌, refl, arith}
use Rattle.vc_last.proofs.Granted.{can-longer, growing-newest, newest-size, obtained-longer, some-newest}
use Rattle.vc_last.proofs.ask.extend_newest.Goals as goal

pub overflow_add-newest : goal.overflow_add-newest
overflow_add-newest g c =
    let d = (goal.SegDisc-dyn g (c.args.disc.now.vtable, c.args.disc.now.value)).state c.args.disc.now.value in
    let had = newest-size (growing-newest d.terms c.args.segs.now.items c.args.newest c.requires.newest) c.requires.segments in
    omega (arith, had.most, c.requires.bytes.most)

pub extend_segment-requires : goal.extend_segment-requires
extend_segment-requires g c =
    let d = (goal.SegDisc-dyn g (c.args.disc.now.vtable, c.args.disc.now.value)).state c.args.disc.now.value in
    let w = growing-newest d.terms c.args.segs.now.items c.args.newest c.requires.newest in
    can-longer w c.requires.segments (c.len-last.result - 1) (omega (arith, some-newest w)) d c.index_mut.result.now c.index_mut.ensures.value c.args.bytes c.requires.bytes c.if-newest-bytes-gt33554432.false refl c.requires.lent c.requires.multiple

pub returns-clause-obtained : goal.returns-clause-obtained
returns-clause-obtained g c =
    let d = (goal.SegDisc-dyn g (c.args.disc.now.vtable, c.args.disc.now.value)).state c.args.disc.now.value in
    let e = (goal.SegDisc-dyn g (c.extend_segment.new.disc.vtable, c.extend_segment.new.disc.value)).state c.extend_segment.new.disc.value in
    let some = some-newest (growing-newest d.terms c.args.segs.now.items c.args.newest c.requires.newest) in
    obtained-longer d e c.args.segs.now.items c.args.newest c.args.bytes (c.len-last.result - 1) c.index_mut.result.now c.extend_segment.new.seg c.requires.newest c.requires.segments (omega (arith, some)) c.index_mut.ensures.value c.requires.bytes c.if-newest-bytes-gt33554432.false
    c.extend_segment.result c.extend_segment.ensures.segment c.extend_segment.ensures.extended c.extend_segment.ensures.only c.extend_segment.ensures.refused c.extend_segment.ensures.no_memory c.extend_segment.ensures.same
