use Rattle.vc_base.proofs.Common.{ℕ, ◌∙◌, ap, refl, arith, map, Terms, address, false}
use Rattle.vc_extent.specs.Change.{widen}
use Rattle.vc_extent.specs.Tiling.{change_in, tiling}
use Rattle.vc_seg.specs.Segment.{pair_of}
use Rattle.vc_seg.proofs.Growing.{more-asked}
use Rattle.vc_best.proofs.Growing.{IsLast, last-can, last-is, last-legal, last-longer, last-served, last-size, last-there}
use Rattle.vc_best.proofs.lend.widen_last.Given.{Over}
use Rattle.vc_best.proofs.lend.widen_last.Goals as goal
use Rattle.vc_best.proofs.lend.widen_last.Goals.{Start}

-- the terms of the discipline
abbrev terms : (g : Over) (c : Start g) → Terms
terms g c = ((goal.SegDisc-dyn g (c.args.disc.now.vtable, c.args.disc.now.value)).state c.args.disc.now.value).terms

last : (g : Over) (c : Start g) → IsLast (terms g c) (map pair_of c.args.extents.now.segs.items) c.args.number c.args.had
last g c = last-is _ _ _ _ c.requires.last

pub overflow_add-had : goal.overflow_add-had
overflow_add-had g c =
    let own = last-legal _ _ c.args.extents.now.kept _ _ _ (last g (goal.at.overflow_add-had g c).Start) in
    let old = own.most in
    let more = c.requires.bytes.most in
    omega arith

pub widen-requires-clause-there : goal.widen-requires-clause-there
widen-requires-clause-there g c = last-there _ _ c.args.extents.now.kept _ _ _ (last g (goal.at.widen-requires-clause-there g c).Start)

pub widen-requires-clause-can : goal.widen-requires-clause-can
widen-requires-clause-can g c =
    last-can _ _ c.args.extents.now.kept _ _ _ (last g (goal.at.widen-requires-clause-can g c).Start) _ c.args.more refl c.requires.lent c.requires.bytes c.requires.multiple c.if-had-more-gt-SIZE_LIMIT.false

pub returns-in-Ok-clause-more : goal.returns-in-Ok-clause-more
returns-in-Ok-clause-more g c =
    let s = (goal.at.returns-in-Ok-clause-more g c).Start in
    let l = last g s in
    let e = c.args.extents.now in
    record {
      granted = more-asked (terms g s) c.args.more (map pair_of e.segs.items) (c.args.number, c.args.had) c.requires.last c.if-had-more-gt-SIZE_LIMIT.false false;
      extents = c.in-Ok.ensures.tiling ∙ ap (λ (m : ℕ). change_in c.args.number (widen m c.args.more) (tiling e.segs.items)) (last-size e.segs.items e.index.items e.kept _ _ _ l);
      pairs = c.in-Ok.ensures.pairs ∙ last-longer e.segs.items e.index.items e.kept _ _ _ l c.args.more;
      there = last-there e.segs.items e.index.items e.kept _ _ _ l;
      size = last-size e.segs.items e.index.items e.kept _ _ _ l;
      least = (last-legal e.segs.items e.index.items e.kept _ _ _ l).least;
      most = c.if-had-more-gt-SIZE_LIMIT.false;
      value = c.in-Ok.ensures.value ∙ ap (λ (m : ℕ). address (c.args.number, m)) (last-size e.segs.items e.index.items e.kept _ _ _ l);
    }

pub returns-in-Ok-clause-served : goal.returns-in-Ok-clause-served
returns-in-Ok-clause-served g c =
    let e = c.args.extents.now in
    last-served e.segs.items e.index.items e.kept _ _ _ (last g (goal.at.returns-in-Ok-clause-served g c).Start) _ _ _ c.args.more c.in-Ok.ensures.pairs c.requires.bytes.least c.in-Ok.ensures.extended
