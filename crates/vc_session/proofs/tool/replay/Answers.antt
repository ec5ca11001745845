use Rattle.vc_base.proofs.Common.{refl}
use Rattle.vc_session.proofs.Rest.{headline-none}
use Rattle.vc_session.proofs.tool.replay.Given as given
use Rattle.vc_session.proofs.tool.replay.Goals as goal

pub returns-clause-promises : goal.returns-clause-promises
returns-clause-promises g c =
    let p = c.run_tool.ensures.promises in
    record {
      headline =
          headline-none (λ z. (given.SegDisc-dyn g z).state z.1) _ _ c.args.shelf.now c.run_tool.new.shelf c.new-kinds.result.items c.run_tool.new.kinds.items c.new-kinds.ensures.items p.headline;
      completes = p.completes;
      quiet = p.quiet;
      refused_words = λ none. let same = p.refused_words none in (same.0, same.1, same.2, refl);
      generated = p.generated;
    }
