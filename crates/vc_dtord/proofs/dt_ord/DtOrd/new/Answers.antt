use Rattle.vc_base.proofs.Common.{refl, All-nil}
use Rattle.vc_splay.specs.Tree.{Leaf}
use Rattle.vc_dtord.specs.Ordered.{IsPlain}
use Rattle.vc_dtord.proofs.dt_ord.DtOrd.new.Goals as goal

pub returns : goal.returns
returns c = λ rules blocks. record {
  tree = Leaf;
  is_tree = record { top = refl; stands = tt; distinct = tt };
  list = refl;
  plain = All-nil (IsPlain blocks);
  sorted = tt;
}
