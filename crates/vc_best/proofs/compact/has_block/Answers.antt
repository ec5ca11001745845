use Rattle.vc_base.proofs.Common.{map, IsSome, sym, refl, ◌∙◌, subst, arith}
use Rattle.vc_best.proofs.Common.{pair_of}
use Rattle.vc_best.proofs.Made.{count-more, count-one}
use Rattle.vc_best.proofs.Segments.{occupied-by}
use Rattle.vc_best.proofs.compact.has_block.Goals as goal

pub returns-in-Some-clause-value : goal.returns-in-Some-clause-value
returns-in-Some-clause-value g c = λ there. let e = c.args.extents.now in occupied-by e.segs.items e.index.items c.args.number e.kept c.requires there c.is_one_free.result c.is_one_free.ensures.value

pub returns-in-None-clause-value : goal.returns-in-None-clause-value
returns-in-None-clause-value g c = λ there. absurd (let none = subst IsSome (sym c.has.ensures ∙ c.in-None.is) there in cc)

pub returns-in-Some-clause-most_steps : goal.returns-in-Some-clause-most_steps
returns-in-Some-clause-most_steps g c =
    let one = count-one c.args.number (map pair_of c.args.extents.now.segs.items) (subst IsSome (sym c.in-Some.is ∙ c.has.ensures) refl) in
    let read = c.is_one_free.ensures.most_steps in
    omega arith

pub returns-in-None-clause-most_steps : goal.returns-in-None-clause-most_steps
returns-in-None-clause-most_steps g c =
    let more = count-more c.args.number (map pair_of c.args.extents.now.segs.items) in
    omega arith
