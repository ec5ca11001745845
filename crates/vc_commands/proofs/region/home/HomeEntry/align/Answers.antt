use Rattle.vc_base.proofs.Common.{◌≡◌, ℕ, true, false, List, [], ◌∷◌, Some, None, sym, ap, ◌∙◌, subst, rules, and_parts, Discipline}
use Rattle.vc_model.proofs.Keeping.{NoneRefused-same}
use Rattle.vc_region.specs.Region.{region_align}
use Rattle.vc_region.specs.Cells.{rest_in}
use Rattle.vc_region.specs.Parts.{disc_in, region_of}
use Rattle.vc_region.proofs.Keeps.{align-keeps}
use Rattle.vc_region.proofs.Sound.{own_places}
use Rattle.vc_commands.specs.Answered.{answered}
use Rattle.vc_commands.proofs.Answered.{ok-answered}
use Rattle.vc_commands.specs.Held.{home_of}
use Rattle.vc_commands.specs.Blocks.{align_refused, is_align, is_size}
use Rattle.vc_commands.specs.RegionRun.{held_of}
use Rattle.vc_commands.specs.Naming.{NamesPut, new_refused}
use Rattle.vc_commands.proofs.Answers.{change-same}
use Rattle.vc_commands.proofs.FoundBlocks.{align-in}
use Rattle.vc_commands.proofs.Placed.{IsPlaced, placed-change, placed-runs, refused-runs, reserved-change, reserved-with}
use Rattle.vc_commands.proofs.PutBlocks.{align-commutes, align-legal, align-other, align-words, new-name, new-words, size-range}
use Rattle.vc_commands.proofs.Runs.{runs-halted}
use Rattle.vc_commands.proofs.Seen.{seen-align, seen-out}
use Rattle.vc_commands.proofs.region.home.HomeEntry.align.Given as given
use Rattle.vc_commands.proofs.region.home.HomeEntry.align.Goals as goal
use Rattle.vc_commands.proofs.region.home.HomeEntry.align.Goals.{After-new_refused, In-None}

abbrev meaning : (g : given.Over) → (x : g.dyn-1.0.I) × (g.dyn-1.0.entry x).0.Denot → Discipline
meaning g p = (g.dyn-1.0.entry p.0).1.state p.1

-- its words by the region with names, and by the one with tags
words : (g : given.Over) (c : After-new_refused g) (r : List ℕ) → new_refused c.args.labels.now c.args.name.now (align_refused (home_of (held_of (meaning g) r c.args.self.now c.args.labels.now)).region c.args.size c.args.align) ≡ c.new_refused.result
words g c r = ap (new_refused c.args.labels.now c.args.name.now) (align-words (held_of (meaning g) r c.args.self.now c.args.labels.now) c.args.size c.args.align ∙ sym c.align_refused-words.ensures) ∙ sym c.new_refused.ensures

pub returns-in-Some : goal.returns-in-Some
returns-in-Some g c =
    record {
      runs = refused-runs (meaning g) c.args.self.now c.args.labels.now c.args.name.now (λ k. align_refused k.region c.args.size c.args.align) (λ k u. region_align k.terms k.region (Some c.args.name.now) (45 ∷ []) c.args.size c.args.align u) _ c.in-Some.why c.requires.names
          (λ r. align-other (home_of (held_of (meaning g) r c.args.self.now c.args.labels.now)).region c.args.size c.args.align) (λ r. words g (goal.at.returns-in-Some g c).After-new_refused r ∙ c.in-Some.is);
      change = λ r. change-same (held_of (meaning g) r c.args.self.now c.args.labels.now) c.args.labels.now c.requires.lent c.requires.names;
    }

-- its size and its alignment are none that is refused
legal : (g : given.Over) (c : In-None g) → (is_size c.args.size ≡ true) × (is_align c.args.align ≡ true)
legal g c =
    let is : new_refused c.args.labels.now c.args.name.now (align_refused (rest_in c.args.self.now.region) c.args.size c.args.align) ≡ None = ap (new_refused c.args.labels.now c.args.name.now) (sym c.align_refused-words.ensures) ∙ (sym c.new_refused.ensures ∙ c.in-None.is) in
    and_parts (is_size c.args.size) (is_align c.args.align) (align-legal (rest_in c.args.self.now.region) c.args.size c.args.align (new-words c.args.labels.now c.args.name.now _ is))

pub align-requires-clause-size : goal.align-requires-clause-size
align-requires-clause-size g c = let is = size-range c.args.size (legal g (goal.at.align-requires-clause-size g c).In-None).0 in record { some = is.0; most = is.1 }

pub align-requires-clause-align : goal.align-requires-clause-align
align-requires-clause-align g c = align-in c.args.align (legal g (goal.at.align-requires-clause-align g c).In-None).1

pub name_put-requires-clause-new : goal.name_put-requires-clause-new
name_put-requires-clause-new g c =
    c.reserve.ensures.same.by_name c.args.name.now
    ∙ new-name c.args.labels.now c.args.name.now c.align_refused-words.result (sym c.new_refused.ensures ∙ c.in-None.is)

pub returns-in_ok-tag-in-None : goal.returns-in_ok-tag-in-None
returns-in_ok-tag-in-None g c =
    let name = c.args.name.now in
    let size = c.args.size in
    let align = c.args.align in
    let tag = c.in_ok-tag-in-None.tag in
    let ok = c.in_ok-tag-in-None.ensures.ok in
    let terms = (disc_in (meaning g) c.args.self.now.region).terms in
    let old = rest_in c.args.self.now.region in
    let done : IsPlaced (meaning g) c.args.self.now c.args.labels.now c.align.new.self name (λ k. align_refused k.region size align) (λ k u. region_align k.terms k.region (Some name) (45 ∷ []) size align u) (region_align terms old tag (45 ∷ []) size align) tag size align c.reserve.new.self c.name_put.new.labels c.align.result (answered c.name_put.result c.name_put.new.reply) =
    record {
      names = c.requires.names;
      allowed = λ r. words g (goal.at.returns-in_ok-tag-in-None g c).After-new_refused r ∙ c.in-None.is;
      same = c.reserve.ensures.same;
      agree = c.reserve.ensures.agree;
      first = ok.1;
      vacant = ok.2;
      commutes = λ r. align-commutes (held_of (meaning g) r c.args.self.now c.args.labels.now) name tag (45 ∷ []) size align;
      stays = align-keeps terms old tag (45 ∷ []) size align false;
      named = subst (λ t. NamesPut t name c.align.result c.reserve.new.self c.name_put.new.labels (answered c.name_put.result c.name_put.new.reply)) (sym ok.0) c.name_put.ensures;
      seen = seen-align terms (region_of c.args.self.now.region) (region_of c.align.new.self) tag (45 ∷ []) size c.align.result ok.1 c.align.ensures.put (own_places c.align.new.self) align c.align.ensures.answer;
      asks = c.align.ensures.disc;
    } in
    record { runs = placed-runs done; change = placed-change done c.requires.lent }

pub returns-in_err-tag-in-None : goal.returns-in_err-tag-in-None
returns-in_err-tag-in-None g c =
    record {
      runs = runs-halted _ (answered c.from_residual.result c.args.reply.now) _ _ _ _ _ _ (ok-answered c.from_residual.result c.args.reply.now _ (search rules)) (reserved-with (meaning g) c.args.self.now c.reserve.ensures.same) (NoneRefused-same _);
      change = reserved-change (meaning g) c.args.self.now c.reserve.ensures.same c.reserve.ensures.agree c.requires.names c.requires.lent;
    }

pub align-requires-clause-lent : goal.align-requires-clause-lent
align-requires-clause-lent g c = seen-out (region_of c.args.self.now.region) (disc_in (meaning g) c.args.self.now.region) c.requires.lent
