use Rattle.vc_splay.proofs.RankLemmas.{rank-leaf, zig-law, zig_zag-law, zig_zig-law}
use Rattle.vc_splay.proofs.rows.step_laws.Goals as goal

pub returns-clause-single : goal.returns-clause-single
returns-clause-single c = λ side near inner sibling x p. zig-law side near x inner p sibling

pub returns-clause-one_side : goal.returns-clause-one_side
returns-clause-one_side c = λ side near inner sibling uncle x p g c. zig_zig-law side near x inner p sibling g uncle c

pub returns-clause-both_sides : goal.returns-clause-both_sides
returns-clause-both_sides c = λ side near inner sibling uncle x p g c. zig_zag-law side near x inner p sibling g uncle c

pub returns-clause-leaf : goal.returns-clause-leaf
returns-clause-leaf c = λ c at. rank-leaf c at
