use Rattle.vc_base.proofs.Common.{◌≡◌, suc, eqb, is_some, get_or, drop, sym, refl, ap, ◌∙◌, true≢false, eq-eqb, list_any_at}
use Rattle.vc_dtdisc.specs.Finds.{find_key, object_at}
use Rattle.vc_image_check.proofs.Matching.{alone-next, alone-not, behind-found, behind-hung, hung-each}
use Rattle.vc_image_check.proofs.dicts.alone.are_alone.Given.{Over}
use Rattle.vc_image_check.proofs.dicts.alone.are_alone.Goals as goal
use Rattle.vc_image_check.proofs.dicts.alone.are_alone.Goals.{After-has_match_behind}

-- what was told of those behind the holder in its chain is true of all behind it
told : (g : Over) (c : After-has_match_behind g)
    → is_some (find_key (g.D.DictDisc.rules c.args.kind.now) (g.N.Holders.blocks c.args.nodes.now) ((g.D.DictDisc.rules c.args.kind.now).key (object_at (g.N.Holders.blocks c.args.nodes.now) (get_or c.args.holders.now c.loop-holder.holder-index 0))) (drop (suc c.loop-holder.holder-index) c.args.holders.now))
    ≡ c.has_match_behind.result
told g c =
    ap is_some (sym (behind-found _ _ c.args.holders.now c.requires.hung c.args.count c.loop-holder.holder-index c.requires.many c.loop-holder-test.true (g.met.D.DictDisc.lawful c.args.kind.now)))
    ∙ sym c.has_match_behind.ensures

pub has_match_behind-requires-clause-here : goal.has_match_behind-requires-clause-here
has_match_behind-requires-clause-here g c =
    let x = get_or c.args.holders.now c.loop-holder.holder-index 0 in
    hung-each _ _ c.args.holders.now c.requires.hung x (list_any_at (λ z. eqb z x) c.args.holders.now c.loop-holder.holder-index 0 c.loop-holder-test.true (eq-eqb x x refl))

pub has_match_behind-requires-clause-behind : goal.has_match_behind-requires-clause-behind
has_match_behind-requires-clause-behind g c = behind-hung _ _ c.args.holders.now c.requires.hung c.args.count c.loop-holder.holder-index c.requires.many c.loop-holder-test.true

pub returns-then-has_match_behind : goal.returns-then-has_match_behind
returns-then-has_match_behind g c = (
  λ yes. absurd (true≢false (sym yes)),
  λ a. absurd (alone-not _ _ c.args.holders.now c.loop-holder.holder-index c.loop-holder-test.true
      (told g (goal.at.returns-then-has_match_behind g c).After-has_match_behind ∙ c.if-has_match_behind.true) c.loop-holder.invariant a),
)

pub loop-holder-preserved : goal.loop-holder-preserved
loop-holder-preserved g c =
    alone-next _ _ c.args.holders.now c.loop-holder.holder-index c.loop-holder-test.true
    (told g (goal.at.loop-holder-preserved g c).After-has_match_behind ∙ c.if-has_match_behind.false) c.loop-holder.invariant
