use Rattle.vc_base.proofs.Common.{sym, ◌∙◌}
use Rattle.vc_dtdisc.specs.Finds.{has_key}
use Rattle.vc_dtord.proofs.FirstLemmas.{found-within}
use Rattle.vc_dict.proofs.dict.Dict.unlink.Goals as goal

pub remove-requires-clause-found : goal.remove-requires-clause-found
remove-requires-clause-found g c = λ at e.
    let r = c.requires in
    record {
      holders = r.holders;
      stands = (c.look-found.ensures.dict r.holders r.stands).stands;
      within = found-within (has_key (g.D.DictDisc.rules c.args.kind.now) (g.C.Cells.blocks c.args.cells.now) c.args.key.now) r.holders at
          (sym (c.look-found.ensures.found r.holders r.stands).first ∙ e);
    }
