use Rattle.vc_base.proofs.Common.{◌≡◌, ℕ, ◌<◌, ◌-◌, length, take, ap, ap₂, ◌∙◌, arith, length-take-le, vec_len, Layout, Bool, List}
use Rattle.vc_last.specs.Read.{layout_by}
use Rattle.vc_ways.specs.LastWay.{LastWay, free_latest}
use Rattle.vc_ways.proofs.Blocks.{own}
use Rattle.vc_ways.proofs.LatestBlock.{freed-layout, freed-length, latest-live}
use Rattle.vc_ways.proofs.last_way.LastWay.drop_latest.Given as given
use Rattle.vc_ways.proofs.last_way.LastWay.drop_latest.Goals as goal
use Rattle.vc_ways.proofs.last_way.LastWay.drop_latest.Goals.{After-free}

pub free-requires : goal.free-requires
free-requires g c =
    record { block = latest-live c.args.self.now.region.segs.items c.args.self.now.region.latest.0 c.args.self.now.region.kept (omega (arith, c.requires.paired, c.requires.some)) }

-- the region is without its latest block
freed : (g : given.Over) (c : After-free g) → layout_by c.free.new.self.segs.items c.free.new.self.latest.0 ≡ free_latest (layout_by c.args.self.now.region.segs.items c.args.self.now.region.latest.0)
freed g c =
    freed-layout c.args.self.now.region.segs.items c.args.self.now.region.latest.0 c.args.self.now.region.kept (omega (arith, c.requires.paired, c.requires.some)) c.free.result (layout_by c.free.new.self.segs.items c.free.new.self.latest.0) c.free.ensures.answer c.free.ensures.memory

pub returns-clause-way : goal.returns-clause-way
returns-clause-way g c =
    let dead = c.args.self.now.dead in
    let all : vec_len dead ≡ length dead.items = omega (arith, dead.ok.0) in
    let front : c.pop.new.self.items ≡ take (length dead.items - 1) dead.items = c.pop.ensures.rest ∙ ap (λ n. take (n - 1) dead.items) all in
    ap₂ (λ (region : Layout ℕ) (dead : List Bool). let w : LastWay = record { region = region; dead = dead } in w) (freed g (goal.at.returns-clause-way g c).After-free) front

pub returns-clause-paired : goal.returns-clause-paired
returns-clause-paired g c =
    let r = c.args.self.now.region in
    let some : 0 < length (layout_by r.segs.items r.latest.0).blocks = omega (arith, c.requires.paired, c.requires.some) in
    let less = freed-length r.segs.items r.latest.0 r.kept some (layout_by c.free.new.self.segs.items c.free.new.self.latest.0) (own (layout_by r.segs.items r.latest.0) r.sound) (freed g (goal.at.returns-clause-paired g c).After-free) in
    let long : vec_len c.args.self.now.dead ≡ length c.args.self.now.dead.items = omega (arith, c.args.self.now.dead.ok.0) in
    let front : length c.pop.new.self.items ≡ vec_len c.args.self.now.dead - 1 = ap length c.pop.ensures.rest ∙ length-take-le (vec_len c.args.self.now.dead - 1) c.args.self.now.dead.items (omega (arith, long, c.requires.some)) in
    omega (arith, less, front, long, c.requires.paired, c.requires.some)
