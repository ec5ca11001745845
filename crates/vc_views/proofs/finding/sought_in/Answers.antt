use Rattle.vc_base.proofs.Common.{◌≡◌, sym, ap, ◌∙◌, subst}
use Rattle.vc_dict.specs.Listed.{holders_of}
use Rattle.vc_best.specs.Cells.{cells_in}
use Rattle.vc_objects.specs.Parts.{IsWhole}
use Rattle.vc_views.specs.Promises.{cells_under}
use Rattle.vc_views.specs.Sides.{holder_to}
use Rattle.vc_views.proofs.Firsts.{no-other, no-region, region-looked}
use Rattle.vc_views.proofs.LookLeaves.{held-is, looked, rest-kept}
use Rattle.vc_views.proofs.finding.sought_in.Given.{Over}
use Rattle.vc_views.proofs.finding.sought_in.Goals as goal
use Rattle.vc_views.proofs.finding.sought_in.Goals.{In-Best}

-- the cells of the region of the name, and the dictionary is whole over them
held : (g : Over) (c : In-Best g) → cells_under c.args.homes.now.entries c.args.name.now ≡ cells_in c.in-Best.best
held g c = held-is c.args.homes.now.entries c.args.name.now c.in-Some.j c.index_mut.result.now c.in-Best.best (sym c.in-Some.ensures.index) c.index_mut.ensures.value c.in-Best.is

whole : (g : Over) (c : In-Best g) → IsWhole (g.D.DictDisc.rules c.args.kind.now) c.args.dict.now (cells_in c.in-Best.best)
whole g c = subst (IsWhole (g.D.DictDisc.rules c.args.kind.now) c.args.dict.now) (held g c) c.requires.whole

pub unreachable-requires : goal.unreachable-requires
unreachable-requires g c = no-region c.args.homes.now.entries c.args.name.now c.requires.region.home c.requires.region.found c.in_default.ensures.found

pub unreachable-requires-in_default-region : goal.unreachable-requires-in_default-region
unreachable-requires-in_default-region g c =
    let same = region-looked c.args.homes.now.entries c.args.name.now c.requires.region.home c.index_mut.result.now c.requires.region.found (sym c.in-Some.ensures.value ∙ c.index_mut.ensures.value) in
    no-other c.index_mut.result.now.region (sym (ap (λ p. p.0) same) ∙ c.requires.region.best) c.in_default-region.not-Best

pub sought-requires-clause-dict : goal.sought-requires-clause-dict
sought-requires-clause-dict g c =
    let at = (goal.at.sought-requires-clause-dict g c).In-Best in
    record { holders = holders_of c.args.dict.now (cells_in c.in-Best.best); stands = (whole g at).stands }

pub returns-clause-found : goal.returns-clause-found
returns-clause-found g c =
    let at = (goal.at.returns-clause-found g c).In-Best in
    c.sought.ensures.found (holders_of c.args.dict.now (cells_in c.in-Best.best)) (whole g at).stands
    ∙ ap (λ b. holder_to c.args.side (g.D.DictDisc.rules c.args.kind.now) b c.args.key.now (holders_of c.args.dict.now b)) (sym (held g at))

pub returns-clause-looks : goal.returns-clause-looks
returns-clause-looks g c =
    let at = (goal.at.returns-clause-looks g c).In-Best in
    looked c.args.homes.now.entries c.args.name.now c.in-Some.j c.index_mut.result.now c.in-Best.best (sym c.in-Some.ensures.index) c.index_mut.ensures.value c.in-Best.is
    c.sought.new.cells c.sought.ensures.rest (g.D.DictDisc.rules c.args.kind.now) c.args.dict.now c.sought.new.dict (whole g at)
    (c.sought.ensures.dict (holders_of c.args.dict.now (cells_in c.in-Best.best)) (whole g at).stands)

pub returns-clause-rest : goal.returns-clause-rest
returns-clause-rest g c =
    rest-kept c.args.homes.now.entries c.args.name.now c.in-Some.j c.index_mut.result.now c.in-Best.best (sym c.in-Some.ensures.index) c.index_mut.ensures.value c.in-Best.is
    c.sought.new.cells c.sought.ensures.rest
