use Rattle.vc_base.proofs.Common.{◌≤◌, arith, Discipline}
use Rattle.vc_store.specs.Stores.Stores.{numbers_of}
use Rattle.vc_store.proofs.Ended.{all-told, below-next, below-start, took-all}
use Rattle.vc_store.proofs.stores.store.Store.close.Given.{Over}
use Rattle.vc_store.proofs.stores.store.Store.close.Goals as goal

-- what a region's boxed discipline means
abbrev meaning : (g : Over) → (x : g.dyn-1.0.I) × (g.dyn-1.0.entry x).0.Denot → Discipline
meaning g p = (goal.SegDisc-dyn g p).state p.1

pub loop-n-init : goal.loop-n-init
loop-n-init g c = below-start (meaning g) g.D.DictDisc.rules g.D.DictDisc.gone c.args.self c.requires.open

pub end-requires-clause-open : goal.end-requires-clause-open
end-requires-clause-open g c = c.loop-n.invariant.is_open

pub loop-n-preserved : goal.loop-n-preserved
loop-n-preserved g c =
    let l = c.loop-n in
    below-next (meaning g) g.D.DictDisc.rules g.D.DictDisc.gone c.args.self l.store c.end.new.self l.n l.invariant c.end.ensures

pub close-requires : goal.close-requires
close-requires g c = c.loop-n.invariant.is_open.lent

pub returns-clause-disc : goal.returns-clause-disc
returns-clause-disc g c =
    let l = c.loop-n in
    let all : numbers_of c.args.self ≤ l.n = let done = c.loop-n-test.false in let fits = c.args.self.dicts.ok.0 in omega (arith, done, fits) in
    took-all (meaning g) g.D.DictDisc.rules g.D.DictDisc.gone c.args.self l.store l.n all c.requires.open l.invariant _ c.close.ensures.disc

pub returns-clause-kinds : goal.returns-clause-kinds
returns-clause-kinds g c =
    let l = c.loop-n in
    let all : numbers_of c.args.self ≤ l.n = let done = c.loop-n-test.false in let fits = c.args.self.dicts.ok.0 in omega (arith, done, fits) in
    all-told (meaning g) g.D.DictDisc.rules g.D.DictDisc.gone c.args.self l.store l.n all c.requires.open l.invariant
