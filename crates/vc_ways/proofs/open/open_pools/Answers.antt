use Rattle.vc_base.proofs.Common.{◌≡◌, ◌++◌, List, [], ◌∷◌, All, All-push, length, length-append, replicate, sym, ap, ◌∙◌, subst, arith}
use Rattle.std.proofs.lemmas.Result.{err_from_is_err_and}
use Rattle.vc_model.specs.Pool.{empty_pool}
use Rattle.vc_pool.specs.Parts.{pool_of}
use Rattle.vc_pool.specs.declared.pool.Pool.{Pool}
use Rattle.vc_ways.specs.Lends.{Lends, Opens, OpensMore}
use Rattle.vc_ways.specs.PoolParts.{holdings}
use Rattle.vc_ways.specs.Settled.{slots_on, with_discs}
use Rattle.vc_ways.proofs.Empty.{empty-lent, empty-pools, lent-push, lent-size, pools-taken}
use Rattle.vc_ways.proofs.Loans.{lends-settled, opens-lends}
use Rattle.vc_ways.proofs.open.open_pools.Invariants.{meaning}
use Rattle.vc_ways.proofs.open.open_pools.Goals as goal

pub returns-in_err-pools-clause-lends : goal.returns-in_err-pools-clause-lends
returns-in_err-pools-clause-lends g c =
    let here = slots_on (meaning g) c.args.shelf.now in
    let r = err_from_is_err_and c.from_residual.result c.from_residual.ensures.1 in
    subst (λ o. OpensMore (λ pools. holdings (meaning g) pools.items) 2 o here here) (sym r.1) (λ old hs two opens. opens-lends hs old here opens)

pub loop-alloc-preserved : goal.loop-alloc-preserved
loop-alloc-preserved g c =
    let pools = c.loop-alloc.pools.items in
    let inv = c.loop-alloc.invariant in
    let items = c.push_reserved.ensures.items in
    let mid = slots_on (meaning g) c.open_pool.new.shelf in
    record {
      few = omega (arith, c.len.ensures, c.loop-alloc-test.true, ap length items, length-append pools (c.in-Ok.pool ∷ []));
      room = omega (arith, inv.room, c.push_reserved.ensures.capacity);
      empty = subst (All (λ p. pool_of p ≡ empty_pool)) (sym items) (All-push (λ p. pool_of p ≡ empty_pool) pools c.in-Ok.pool inv.empty c.in-Ok.ensures.opened);
      lends = λ old hs two opens.
          let more = c.in-Ok.ensures.lends old (hs ++ holdings (meaning g) pools) (omega (arith, lent-size (meaning g) hs pools two, c.len-in-loop-alloc.ensures)) (inv.lends old hs two opens) in
          subst (λ (ps : List (Pool _ _)). Opens (hs ++ holdings (meaning g) ps) old mid) (sym items) (lent-push (meaning g) hs pools c.in-Ok.pool old mid more);
    }

pub close_pools-requires-clause-lent : goal.close_pools-requires-clause-lent
close_pools-requires-clause-lent g c = empty-lent (meaning g) c.loop-alloc.pools.items c.loop-alloc.invariant.empty

pub close_pools-requires-clause-taken : goal.close_pools-requires-clause-taken
close_pools-requires-clause-taken g c =
    pools-taken (meaning g) c.loop-alloc.pools.items (slots_on (meaning g) c.args.shelf.now) (slots_on (meaning g) c.open_pool.new.shelf) c.requires
    (λ old hs two lends. c.in-Err.ensures.lends old (hs ++ holdings (meaning g) c.loop-alloc.pools.items) (omega (arith, lent-size (meaning g) hs c.loop-alloc.pools.items two, c.len-in-loop-alloc.ensures)) (c.loop-alloc.invariant.lends old hs two lends))

pub returns-in-Err-clause-lends : goal.returns-in-Err-clause-lends
returns-in-Err-clause-lends g c = λ old hs two lends.
    let more = c.in-Err.ensures.lends old (hs ++ holdings (meaning g) c.loop-alloc.pools.items) (omega (arith, lent-size (meaning g) hs c.loop-alloc.pools.items two, c.len-in-loop-alloc.ensures)) (c.loop-alloc.invariant.lends old hs two lends) in
    subst (Lends hs old) (sym (c.close_pools.ensures.slots ∙ ap (λ n. with_discs n c.close_pools.ensures.discs (slots_on (meaning g) c.open_pool.new.shelf)) (sym two)))
    (lends-settled hs (holdings (meaning g) c.loop-alloc.pools.items) c.close_pools.ensures.discs old (slots_on (meaning g) c.open_pool.new.shelf) more c.close_pools.ensures.settled)

pub returns-clause-opened : goal.returns-clause-opened
returns-clause-opened g c =
    let all : length c.loop-alloc.pools.items ≡ 20 = omega (arith, c.loop-alloc.invariant.few, c.len.ensures, c.loop-alloc-test.false) in
    empty-pools (meaning g) c.loop-alloc.pools.items c.loop-alloc.invariant.empty ∙ ap (λ n. replicate n empty_pool) all

pub returns-clause-lent : goal.returns-clause-lent
returns-clause-lent g c = empty-lent (meaning g) c.loop-alloc.pools.items c.loop-alloc.invariant.empty
