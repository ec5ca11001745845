use Rattle.vc_base.proofs.Common.{false, true, Some, None, is_gt, sym, ap, ◌∙◌}
use Rattle.vc_paths.proofs.LayerLemmas.{along_next}
use Rattle.vc_paths.proofs.PastLemmas.{end_found, end_here, end_none, past_at}
use Rattle.vc_paths.proofs.layers.Layers.behind_like.Goals as goal

pub returns-then-is_gt-clause-found : goal.returns-then-is_gt-clause-found
returns-then-is_gt-clause-found g c =
    let all = g.Self.Layers.layered c.args.self.now in
    end_found false all c.args.d c.args.of c.args.at (Some c.in-Some.other)
    (end_here (g.met.Self.Layers.lawful c.args.self.now) c.in-Some.is c.loop-next.invariant
    (past_at false all c.args.d c.args.of c.args.at c.in-Some.other true c.requires.compared.object (λ x y h there. sym c.if-is_gt.true ∙ c.is_gt.ensures ∙ ap is_gt (c.compare_at.ensures y x there h))))

pub loop-next-smaller : goal.loop-next-smaller
loop-next-smaller g c =
    let all = g.Self.Layers.layered c.args.self.now in
    (along_next (g.met.Self.Layers.lawful c.args.self.now) c.in-Some.is c.loop-next.invariant
    (past_at false all c.args.d c.args.of c.args.at c.in-Some.other false c.requires.compared.object (λ x y h there. sym c.if-is_gt.false ∙ c.is_gt.ensures ∙ ap is_gt (c.compare_at.ensures y x there h)))
    c.next-next.ensures).1

pub loop-next-preserved : goal.loop-next-preserved
loop-next-preserved g c =
    let all = g.Self.Layers.layered c.args.self.now in
    (along_next (g.met.Self.Layers.lawful c.args.self.now) c.in-Some.is c.loop-next.invariant
    (past_at false all c.args.d c.args.of c.args.at c.in-Some.other false c.requires.compared.object (λ x y h there. sym c.if-is_gt.false ∙ c.is_gt.ensures ∙ ap is_gt (c.compare_at.ensures y x there h)))
    c.next-next.ensures).0

pub returns-clause-found : goal.returns-clause-found
returns-clause-found g c = end_found false (g.Self.Layers.layered c.args.self.now) c.args.d c.args.of c.args.at None (end_none false c.in_default.is c.loop-next.invariant)
