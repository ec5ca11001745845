use Rattle.vc_base.proofs.Common.{◌∙◌, ap, address}
use Rattle.vc_extent.proofs.Widens.{can-at, extended-at, kept-widened, last-named, near-kept, pair-at, pairs-widened, size-read, tiling-widened}
use Rattle.vc_extent.proofs.extents.Extents.widen.Goals as goal

pub widen_in-requires-clause-can : goal.widen_in-requires-clause-can
widen_in-requires-clause-can g c = can-at (pair-at c.walk_from-place.ensures.place c.index_mut.ensures.value) c.requires.can

pub invariant_of-self : goal.invariant_of-self
invariant_of-self g c =
    record {
      kept = kept-widened c.walk_from-place.ensures.place c.index_mut.ensures.value c.args.more c.widen_in.new.seg c.args.self.now.index.items c.widen_in.result c.widen_in.ensures.widened c.widen_in.ensures.same c.args.self.now.kept;
      reserved = c.args.self.now.reserved;
      named = near-kept c.walk_from-place.ensures.place c.index_mut.ensures.value c.args.more c.widen_in.new.seg c.args.self.now.near.0 c.widen_in.result c.widen_in.ensures.widened c.widen_in.ensures.same c.args.self.now.named;
    }

pub invariant_of-self-2 : goal.invariant_of-self-2
invariant_of-self-2 g c =
    record {
      kept = kept-widened c.walk_from-place.ensures.place c.index_mut.ensures.value c.args.more c.widen_in.new.seg c.args.self.now.index.items c.widen_in.result c.widen_in.ensures.widened c.widen_in.ensures.same c.args.self.now.kept;
      reserved = c.args.self.now.reserved;
      named = λ _. last-named c.walk_from-place.ensures.place c.index_mut.ensures.value c.new-a.result.0 c.size-size.result c.in_ok-widen_in.ensures.widened (size-read c.walk_from-place.ensures.place c.index.ensures c.size-size.ensures.value) c.new-a.ensures.place;
    }

pub returns-clause-tiling : goal.returns-clause-tiling
returns-clause-tiling g c = tiling-widened c.walk_from-place.ensures.place c.index_mut.ensures.value c.in_ok-widen_in.ensures.widened

pub returns-clause-pairs : goal.returns-clause-pairs
returns-clause-pairs g c = pairs-widened c.walk_from-place.ensures.place c.index_mut.ensures.value c.in_ok-widen_in.ensures.widened

pub returns-clause-value : goal.returns-clause-value
returns-clause-value g c = c.new-a.ensures.value ∙ ap (λ k. address (c.args.n, k)) (size-read c.walk_from-place.ensures.place c.index.ensures c.size-size.ensures.value)

pub returns-clause-extended : goal.returns-clause-extended
returns-clause-extended g c = extended-at (pair-at c.walk_from-place.ensures.place c.index_mut.ensures.value) c.in_ok-widen_in.ensures.extended
