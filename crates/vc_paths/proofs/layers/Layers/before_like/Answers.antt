use Rattle.vc_base.proofs.Common.{false, true, Some, None, is_gt, sym, ap, ◌∙◌}
use Rattle.vc_dtdisc.specs.Objects.{is_greater}
use Rattle.vc_dtdisc.specs.Rules.{Rules}
use Rattle.vc_paths.specs.Ordered.{is_past, object_there}
use Rattle.vc_paths.proofs.LayerLemmas.{along_next, along_start}
use Rattle.vc_paths.proofs.PastLemmas.{end_found, end_here, end_none, past_at}
use Rattle.vc_paths.proofs.layers.Layers.before_like.Goals as goal

pub loop-next-init : goal.loop-next-init
loop-next-init g c =
    let all = g.Self.Layers.layered c.args.self.now in
    along_start true all c.args.d (is_past true (all.layer c.args.d).rules (object_there all (c.args.of, c.args.at))) c.last-next.result (g.met.Self.Layers.lawful c.args.self.now) c.requires.dict c.last-next.ensures

pub returns-then-is_gt-clause-found : goal.returns-then-is_gt-clause-found
returns-then-is_gt-clause-found g c =
    let all = g.Self.Layers.layered c.args.self.now in
    end_found true all c.args.d c.args.of c.args.at (Some c.in-Some.other)
    (end_here (g.met.Self.Layers.lawful c.args.self.now) c.in-Some.is c.loop-next.invariant
    (past_at true all c.args.d c.args.of c.args.at c.in-Some.other true c.requires.compared.object (λ x y h there. sym c.if-is_gt.true ∙ c.is_gt.ensures ∙ ap is_gt (c.compare_at.ensures x y h there) ∙ ap (λ (r : Rules). is_greater r x y) ((g.met.Self.Layers.lawful c.args.self.now).kinds c.args.of c.args.d c.requires.compared.there c.requires.dict c.requires.compared.kind))))

pub loop-next-smaller : goal.loop-next-smaller
loop-next-smaller g c =
    let all = g.Self.Layers.layered c.args.self.now in
    (along_next (g.met.Self.Layers.lawful c.args.self.now) c.in-Some.is c.loop-next.invariant
    (past_at true all c.args.d c.args.of c.args.at c.in-Some.other false c.requires.compared.object (λ x y h there. sym c.if-is_gt.false ∙ c.is_gt.ensures ∙ ap is_gt (c.compare_at.ensures x y h there) ∙ ap (λ (r : Rules). is_greater r x y) ((g.met.Self.Layers.lawful c.args.self.now).kinds c.args.of c.args.d c.requires.compared.there c.requires.dict c.requires.compared.kind)))
    c.prev-next.ensures).1

pub loop-next-preserved : goal.loop-next-preserved
loop-next-preserved g c =
    let all = g.Self.Layers.layered c.args.self.now in
    (along_next (g.met.Self.Layers.lawful c.args.self.now) c.in-Some.is c.loop-next.invariant
    (past_at true all c.args.d c.args.of c.args.at c.in-Some.other false c.requires.compared.object (λ x y h there. sym c.if-is_gt.false ∙ c.is_gt.ensures ∙ ap is_gt (c.compare_at.ensures x y h there) ∙ ap (λ (r : Rules). is_greater r x y) ((g.met.Self.Layers.lawful c.args.self.now).kinds c.args.of c.args.d c.requires.compared.there c.requires.dict c.requires.compared.kind)))
    c.prev-next.ensures).0

pub returns-clause-found : goal.returns-clause-found
returns-clause-found g c = end_found true (g.Self.Layers.layered c.args.self.now) c.args.d c.args.of c.args.at None (end_none true c.in_default.is c.loop-next.invariant)
