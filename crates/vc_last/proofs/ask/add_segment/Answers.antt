use Rattle.vc_base.proofs.Common.{List, Err, false, map, rules, ap, ◌∙◌, subst, ask}
use Rattle.vc_seg.specs.Lend.{IsGrantOf, IsNoGrant}
use Rattle.vc_seg.specs.Segment.{Bytes, pair_of}
use Rattle.vc_last.proofs.Granted.{obtained-new, obtained-none}
use Rattle.vc_last.proofs.ask.add_segment.Goals as goal

pub lend_next-requires-clause-new : goal.lend_next-requires-clause-new
lend_next-requires-clause-new g c = rw c.deref.ensures.value c.requires.new

pub returns-clause-obtained : goal.returns-clause-obtained
returns-clause-obtained g c =
    let d = (goal.SegDisc-dyn g (c.args.disc.now.vtable, c.args.disc.now.value)).state c.args.disc.now.value in
    let e = (goal.SegDisc-dyn g (c.lend_next.new.disc.vtable, c.lend_next.new.disc.value)).state c.lend_next.new.disc.value in
    let grant : IsGrantOf d.terms c.args.bytes (map pair_of c.args.segs.now.items) c.in_ok-segment.segment =
    subst (λ (xs : List Bytes). IsGrantOf d.terms c.args.bytes (map pair_of xs) c.in_ok-segment.segment) c.deref.ensures.value c.in_ok-segment.ensures.granted in
    obtained-new d e c.args.segs.now.items c.push_reserved.new.self.items c.args.bytes c.in_ok-segment.segment c.push_reserved.ensures.items c.requires.segments c.requires.bytes grant c.in_ok-segment.ensures.lent

pub returns-in_err-segment-clause-obtained : goal.returns-in_err-segment-clause-obtained
returns-in_err-segment-clause-obtained g c =
    let d = (goal.SegDisc-dyn g (c.args.disc.now.vtable, c.args.disc.now.value)).state c.args.disc.now.value in
    let e = (goal.SegDisc-dyn g (c.lend_next.new.disc.vtable, c.lend_next.new.disc.value)).state c.lend_next.new.disc.value in
    let o = c.args.segs.now.items in
    let why = c.in_err-segment.field-0.0 in
    obtained-none d e o c.args.bytes why c.from_residual.result (search rules) c.requires.segments
    (subst (λ (xs : List Bytes). IsNoGrant d.terms c.args.bytes (map pair_of xs) why) c.deref.ensures.value c.in_err-segment.ensures.fault)
    (λ wants many. c.in_err-segment.ensures.may (ap Err wants) (ap (λ (xs : List Bytes). ask d.terms c.args.bytes (map pair_of xs) false) c.deref.ensures.value ∙ many))
    c.in_err-segment.ensures.refused
