use Rattle.vc_base.proofs.Common.{◌≡◌, ◌-◌, suc, true, false, is_some, sym, ap, ◌∙◌, subst, arith}
use Rattle.vc_base.specs.Cells.{word_at}
use Rattle.vc_dtdisc.specs.Finds.{find_key}
use Rattle.vc_image_check.specs.Dicts.Alone.{IsHung, chained_from}
use Rattle.vc_image_check.proofs.Matching.{chained-end, seeking-end, seeking-found, seeking-here, seeking-next}
use Rattle.vc_image_check.proofs.dicts.alone.has_match_behind.Given.{Over}
use Rattle.vc_image_check.proofs.dicts.alone.has_match_behind.Goals as goal
use Rattle.vc_image_check.proofs.dicts.alone.has_match_behind.Goals.{Else-other-eq0}

-- one more may be looked at, and the next one hangs in the chain
more : (g : Over) (c : Else-other-eq0 g) → c.loop-left.left ≡ suc (c.loop-left.left - 1)
more g c = omega (arith, c.loop-left-test.true)

here : (g : Over) (c : Else-other-eq0 g) → IsHung (g.D.DictDisc.rules c.args.kind.now) (g.N.Holders.blocks c.args.nodes.now) c.loop-left.other
here g c = seeking-here _ _ _ _ _ _ _ _ (more g c) c.if-other-eq0.false c.loop-left.invariant

pub returns-then-other-eq0 : goal.returns-then-other-eq0
returns-then-other-eq0 g c =
    sym (subst (λ k. is_some (find_key (g.D.DictDisc.rules c.args.kind.now) (g.N.Holders.blocks c.args.nodes.now) k (chained_from (g.N.Holders.blocks c.args.nodes.now) c.args.most (word_at (g.N.Holders.blocks c.args.nodes.now) c.args.at 2))) ≡ false)
    (c.key-key.ensures ∙ ap (g.D.DictDisc.rules c.args.kind.now).key c.object.ensures)
    (seeking-end _ _ _ _ _ _ _ (chained-end (g.N.Holders.blocks c.args.nodes.now) c.loop-left.left c.loop-left.other c.if-other-eq0.true) c.loop-left.invariant))

pub is_found-requires-clause-holder : goal.is_found-requires-clause-holder
is_found-requires-clause-holder g c = (here g (goal.at.is_found-requires-clause-holder g c).Else-other-eq0).holder

pub is_found-requires-clause-hashed : goal.is_found-requires-clause-hashed
is_found-requires-clause-hashed g c = (here g (goal.at.is_found-requires-clause-hashed g c).Else-other-eq0).hashed

pub returns-then-is_found : goal.returns-then-is_found
returns-then-is_found g c =
    sym (subst (λ k. is_some (find_key (g.D.DictDisc.rules c.args.kind.now) (g.N.Holders.blocks c.args.nodes.now) k (chained_from (g.N.Holders.blocks c.args.nodes.now) c.args.most (word_at (g.N.Holders.blocks c.args.nodes.now) c.args.at 2))) ≡ true)
    (c.key-key.ensures ∙ ap (g.D.DictDisc.rules c.args.kind.now).key c.object.ensures)
    (seeking-found _ _ _ _ _ _ _ _ (more g (goal.at.returns-then-is_found g c).Else-other-eq0) c.if-other-eq0.false c.loop-left.invariant (sym c.is_found.ensures ∙ c.if-is_found.true)))

pub word-other-requires-in-loop-left : goal.word-other-requires-in-loop-left
word-other-requires-in-loop-left g c =
    let h = (here g (goal.at.word-other-requires-in-loop-left g c).Else-other-eq0).holder in
    record { there = h.there; enough = omega (arith, h.enough) }

pub overflow_cast-other-in-loop-left : goal.overflow_cast-other-in-loop-left
overflow_cast-other-in-loop-left g c =
    let small = (here g (goal.at.overflow_cast-other-in-loop-left g c).Else-other-eq0).behind in
    omega (arith, small, c.word-other-in-loop-left.ensures)

pub loop-left-preserved : goal.loop-left-preserved
loop-left-preserved g c =
    seeking-next _ _ _ _ _ _ _ _ (more g (goal.at.loop-left-preserved g c).Else-other-eq0) c.if-other-eq0.false c.loop-left.invariant
    c.word-other-in-loop-left.result c.word-other-in-loop-left.ensures (sym c.is_found.ensures ∙ c.if-is_found.false)
