use Rattle.vc_base.proofs.Common.{◌≡◌, ◌≤◌, false, Some, None, sym, ap, ◌∙◌, subst, rules, Discipline}
use Rattle.vc_model.proofs.Keeping.{NoneRefused-same}
use Rattle.vc_region.specs.Region.{region_alloc}
use Rattle.vc_region.specs.Cells.{rest_in}
use Rattle.vc_region.specs.Parts.{disc_in, region_of}
use Rattle.vc_region.proofs.Keeps.{alloc-keeps}
use Rattle.vc_region.proofs.Sound.{own_places}
use Rattle.vc_commands.specs.Answered.{answered}
use Rattle.vc_commands.proofs.Answered.{ok-answered}
use Rattle.vc_commands.specs.Held.{home_of}
use Rattle.vc_commands.specs.Blocks.{site_or_hyphen, size_refused}
use Rattle.vc_commands.specs.RegionRun.{held_of}
use Rattle.vc_commands.specs.Naming.{NamesPut, new_refused}
use Rattle.vc_commands.proofs.Answers.{change-same}
use Rattle.vc_commands.proofs.Placed.{IsPlaced, placed-change, placed-runs, refused-runs, reserved-change, reserved-with}
use Rattle.vc_commands.proofs.PutBlocks.{alloc-commutes, new-words, size-legal, size-other, size-range}
use Rattle.vc_commands.proofs.Runs.{runs-halted}
use Rattle.vc_commands.proofs.Seen.{seen-alloc, seen-out}
use Rattle.vc_commands.proofs.region.home.HomeEntry.allocate.Given as given
use Rattle.vc_commands.proofs.region.home.HomeEntry.allocate.Goals as goal
use Rattle.vc_commands.proofs.region.home.HomeEntry.allocate.Goals.{In-None}

abbrev meaning : (g : given.Over) → (x : g.dyn-1.0.I) × (g.dyn-1.0.entry x).0.Denot → Discipline
meaning g p = (g.dyn-1.0.entry p.0).1.state p.1

pub returns-in-Some : goal.returns-in-Some
returns-in-Some g c =
    record {
      runs = refused-runs (meaning g) c.args.self.now c.args.labels.now c.args.name.now (λ k. size_refused c.args.size) (λ k u. region_alloc k.terms k.region (Some c.args.name.now) (site_or_hyphen c.args.site.now) c.args.size u) _ c.in-Some.why c.requires.names (λ r. size-other c.args.size)
          (λ r. ap (new_refused c.args.labels.now c.args.name.now) (sym c.size_refused.ensures) ∙ (sym c.new_refused.ensures ∙ c.in-Some.is));
      change = λ r. change-same (held_of (meaning g) r c.args.self.now c.args.labels.now) c.args.labels.now c.requires.lent c.requires.names;
    }

-- its name and its size are none that is refused
allowed : (g : given.Over) (c : In-None g) → new_refused c.args.labels.now c.args.name.now (size_refused c.args.size) ≡ None
allowed g c = ap (new_refused c.args.labels.now c.args.name.now) (sym c.size_refused.ensures) ∙ (sym c.new_refused.ensures ∙ c.in-None.is)

sized : (g : given.Over) (c : In-None g) → (1 ≤ c.args.size) × (c.args.size ≤ 16777216)
sized g c = size-range c.args.size (size-legal c.args.size (new-words c.args.labels.now c.args.name.now _ (allowed g c)))

pub alloc-requires-clause-size : goal.alloc-requires-clause-size
alloc-requires-clause-size g c = let is = sized g (goal.at.alloc-requires-clause-size g c).In-None in record { some = is.0; most = is.1 }

pub returns-in_ok-tag-in-None : goal.returns-in_ok-tag-in-None
returns-in_ok-tag-in-None g c =
    let name = c.args.name.now in
    let size = c.args.size in
    let tag = c.in_ok-tag-in-None.tag in
    let ok = c.in_ok-tag-in-None.ensures.ok in
    let site = c.site_of.result.now in
    let terms = (disc_in (meaning g) c.args.self.now.region).terms in
    let old = rest_in c.args.self.now.region in
    let done : IsPlaced (meaning g) c.args.self.now c.args.labels.now c.alloc.new.self name (λ k. size_refused size) (λ k u. region_alloc k.terms k.region (Some name) (site_or_hyphen c.args.site.now) size u) (region_alloc terms old tag site size) tag size 32 c.reserve.new.self c.name_put.new.labels c.alloc.result (answered c.name_put.result c.name_put.new.reply) =
    record {
      names = c.requires.names;
      allowed = λ r. allowed g (goal.at.returns-in_ok-tag-in-None g c).In-None;
      same = c.reserve.ensures.same;
      agree = c.reserve.ensures.agree;
      first = ok.1;
      vacant = ok.2;
      commutes = λ r f new same u.
          let h = held_of (meaning g) r c.args.self.now c.args.labels.now in
          ap (λ s. region_alloc terms (home_of h).region (Some name) s size u) (sym c.site_of.ensures.value) ∙ alloc-commutes h name tag site size f new same u;
      stays = alloc-keeps terms old tag site size false;
      named = subst (λ t. NamesPut t name c.alloc.result c.reserve.new.self c.name_put.new.labels (answered c.name_put.result c.name_put.new.reply)) (sym ok.0) c.name_put.ensures;
      seen = seen-alloc terms (region_of c.args.self.now.region) (region_of c.alloc.new.self) tag site size c.alloc.result ok.1 c.alloc.ensures.put (own_places c.alloc.new.self) c.alloc.ensures.answer;
      asks = c.alloc.ensures.disc;
    } in
    record { runs = placed-runs done; change = placed-change done c.requires.lent }

pub returns-in_err-tag-in-None : goal.returns-in_err-tag-in-None
returns-in_err-tag-in-None g c =
    record {
      runs = runs-halted _ (answered c.from_residual.result c.args.reply.now) _ _ _ _ _ _ (ok-answered c.from_residual.result c.args.reply.now _ (search rules)) (reserved-with (meaning g) c.args.self.now c.reserve.ensures.same) (NoneRefused-same _);
      change = reserved-change (meaning g) c.args.self.now c.reserve.ensures.same c.reserve.ensures.agree c.requires.names c.requires.lent;
    }

pub alloc-requires-clause-lent : goal.alloc-requires-clause-lent
alloc-requires-clause-lent g c = seen-out (region_of c.args.self.now.region) (disc_in (meaning g) c.args.self.now.region) c.requires.lent
