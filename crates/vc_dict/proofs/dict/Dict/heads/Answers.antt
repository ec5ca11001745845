use Rattle.vc_dict.proofs.HeadLemmas.{dict-again, no-other-heads}
use Rattle.vc_dict.proofs.dict.Dict.heads.Goals as goal

pub returns-clause-others : goal.returns-clause-others
returns-clause-others c = λ rules blocks holders s. rw c.heads.ensures (no-other-heads rules c.args.self.now blocks holders s)

pub returns-clause-same : goal.returns-clause-same
returns-clause-same c = λ rules blocks holders s. rw c.heads.ensures (dict-again rules c.args.self.now blocks holders s)
