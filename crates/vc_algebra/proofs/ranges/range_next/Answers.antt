use Rattle.vc_base.proofs.Common.{◌≡◌, ℕ, Some, option_copied}
use Rattle.vc_dtdisc.specs.Finding.{behind_last}
use Rattle.vc_paths.specs.Path.{is_at, numbers_of, visible_of}
use Rattle.vc_paths.specs.Visible.{Seen}
use Rattle.vc_paths.proofs.SeekLemmas.{path-first}
use Rattle.vc_paths.proofs.SightLemmas.{IsThere}
use Rattle.vc_algebra.proofs.RangeLemmas.{behind-there, kept_stands, stands_as, up-to}
use Rattle.vc_algebra.proofs.SeenLemmas.{next-seen, range-at}
use Rattle.vc_algebra.proofs.ranges.range_next.Given.{Over}
use Rattle.vc_algebra.proofs.ranges.range_next.Goals as goal
use Rattle.vc_algebra.proofs.ranges.range_next.Goals.{Start}

-- what is behind a place stands
there : (g : Over) (c : Start g) (x : Seen ℕ) → behind_last (is_at (numbers_of c.args.from)) (visible_of (g.Y.Layers.layered c.args.layers.now) c.args.paths.now c.args.d) ≡ Some x → IsThere (g.Y.Layers.layered c.args.layers.now) c.args.d x
there g c x is = behind-there (g.Y.Layers.layered c.args.layers.now) c.args.paths.now c.args.d (numbers_of c.args.from) x (g.met.Y.Layers.lawful c.args.layers.now) c.requires.path.path is

pub up_to-requires : goal.up_to-requires
up_to-requires g c =
    kept_stands c.walk_next-next.result c.walk_next-next.ensures.unchanged.layers
    (stands_as c.walk_next-next.result _ (there g (goal.at.up_to-requires g c).Start) c.walk_next-next.ensures.found).stands

pub returns-clause-found : goal.returns-clause-found
returns-clause-found g c =
    let all = g.Y.Layers.layered c.args.layers.now in
    up-to (option_copied c.args.high) c.walk_next-next.result c.up_to.result _ c.walk_next-next.ensures.unchanged.layers (g.met.Y.Layers.lawful c.args.layers.now) (path-first all c.args.paths.now c.args.d c.requires.path.path).there
    (there g (goal.at.returns-clause-found g c).Start) c.walk_next-next.ensures.found c.up_to.ensures.object c.up_to.ensures.none

pub returns-clause-goes_on : goal.returns-clause-goes_on
returns-clause-goes_on g c =
    let all = g.Y.Layers.layered c.args.layers.now in
    let laws = g.met.Y.Layers.lawful c.args.layers.now in
    let same = c.walk_next-next.ensures.unchanged.layers in
    let found = up-to (option_copied c.args.high) c.walk_next-next.result c.up_to.result _ same laws (path-first all c.args.paths.now c.args.d c.requires.path.path).there
    (there g (goal.at.returns-clause-goes_on g c).Start) c.walk_next-next.ensures.found c.up_to.ensures.object c.up_to.ensures.none in
    range-at c.args.paths.now c.args.d c.up_to.result laws same c.requires.path
    (next-seen c.up_to.result (numbers_of c.args.from) (all.layer c.args.d).rules (option_copied c.args.high) (visible_of all c.args.paths.now c.args.d) found)
