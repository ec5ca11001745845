use Rattle.vc_base.proofs.Common.{◌≡◌, ◌-◌, ◌<◌, ◌≤◌, false, length, set, is_some, slice_get, Some, sym, refl, ap, ◌∙◌, subst, arith, map-set, same_Some, Discipline}
use Rattle.indexmap.specs.IndexMap.{set_value_at}
use Rattle.vc_views.proofs.Firsts.{no-other}
use Rattle.vc_objects.specs.Objects.{Dictionary}
use Rattle.vc_objects.specs.Parts.{IsWhole}
use Rattle.vc_objects.specs.Remove.{bytes_of}
use Rattle.vc_paths.specs.Links.{is_viewed, numbers}
use Rattle.vc_views.specs.Numbers.{views_by}
use Rattle.vc_views.proofs.NumbersToNames.{all-at}
use Rattle.vc_steps.specs.DictHomes.{dict_home}
use Rattle.vc_steps.specs.Dicts.{told_of}
use Rattle.vc_steps.specs.Homes.{held_all, held_in_session, slots_on}
use Rattle.vc_steps.specs.Moment.{moment}
use Rattle.vc_steps.specs.Steps.{Shuts}
use Rattle.vc_steps.specs.Told.{gone_in, rules_in, tell}
use Rattle.vc_views.proofs.LinkLists.{map-set_same}
use Rattle.vc_steps.proofs.DictRegion.{best_entry}
use Rattle.vc_steps.proofs.DictShut.{DictEnded, below-ended, dicts-ended, linked-ended, named-ended, session-ended, settled-ended, state-ended}
use Rattle.vc_steps.proofs.DictThere.{DictIn, best-there, dict-is, in_best, its, whole-there}
use Rattle.vc_steps.proofs.DictTold.{kind-at, kind-within, tell-each}
use Rattle.vc_steps.proofs.DictsStay.{Entry}
use Rattle.vc_steps.proofs.SessionEnd.{if_some-at, if_some-to}
use Rattle.vc_steps.proofs.Helds.{length-remove, slice-or}
use Rattle.vc_best.specs.Cells.{cells_in}
use Rattle.vc_objects.specs.Parts.{dictionary_in}
use Rattle.vc_steps.proofs.RegionSteps.{moment_over}
use Rattle.vc_steps.proofs.RegionAt.{stored_at}
use Rattle.vc_steps.proofs.SessionHere.{SessionHere, home-open, session_here, whole_in}
use Rattle.vc_steps.proofs.SettledShelf.{asked-equal, keeps-equal}
use Rattle.vc_steps.proofs.session.Session.shut_at.Given as given
use Rattle.vc_steps.proofs.session.Session.shut_at.Goals as goal
use Rattle.vc_steps.proofs.session.Session.shut_at.Goals.{After-index_mut, After-index_mut-2, In-Some}

abbrev meaning : (g : given.Over) → (x : g.dyn-1.0.I) × (g.dyn-1.0.entry x).0.Denot → Discipline
meaning g p = (g.dyn-1.0.entry p.0).1.state p.1

-- the session, and the dictionary that ends
abbrev here : (g : given.Over) (c : In-Some g) → SessionHere (meaning g)
here g c = session_here (meaning g) g.D.DictDisc.rules g.D.DictDisc.gone c.args.shelf.now c.args.self.now c.args.kinds.now.items c.requires.session

abbrev ends : (g : given.Over) (c : In-Some g) → Entry
ends g c = (c.in-Some.field-0-0, c.in-Some.entry)

-- its kind is one of those that there are
kind-range : (g : given.Over) (c : In-Some g) → (1 ≤ c.in-Some.entry.dict.kind) × (c.in-Some.entry.dict.kind - 1 < length c.args.kinds.now.items)
kind-range g c =
    let is = whole_in (here g c) c.args.i (ends g c) (sym c.in-Some.ensures.entry) in
    kind-within g.D.DictDisc.rules c.args.kinds.now.items c.in-Some.entry.dict.kind is.rules is.kind

-- the region that it lies in
abbrev lies : (g : given.Over) (c : After-index_mut g) → DictIn (meaning g) c.index_mut.result.now
lies g c =
    let session = c.args.self.now in
    record {
      here = session_here (meaning g) g.D.DictDisc.rules g.D.DictDisc.gone c.args.shelf.now session c.args.kinds.now.items c.requires.session;
      i = c.args.i;
      e = (c.in-Some.field-0-0, c.in-Some.entry);
      there = sym c.in-Some.ensures.entry;
      j = c.in-Some-get_index_of.j;
      region =
          stored_at session.homes.entries session.labels.items c.in-Some.entry.home c.in-Some-get_index_of.j c.requires.session.regions.named
          (sym c.get_index_of.ensures.index ∙ c.in-Some-get_index_of.is) c.index_mut.result.now c.index_mut.ensures.value;
    }

-- its kind stands at its number
its-kind : (g : given.Over) (c : After-index_mut-2 g) → (1 ≤ c.in-Some.entry.dict.kind) × (slice_get c.args.kinds.now.items (c.in-Some.entry.dict.kind - 1) ≡ Some c.index_mut-2.result.now)
its-kind g c =
    let all = session_here (meaning g) g.D.DictDisc.rules g.D.DictDisc.gone c.args.shelf.now c.args.self.now c.args.kinds.now.items c.requires.session in
    let is = whole_in all c.args.i (c.in-Some.field-0-0, c.in-Some.entry) (sym c.in-Some.ensures.entry) in
    let range = kind-within g.D.DictDisc.rules c.args.kinds.now.items c.in-Some.entry.dict.kind is.rules is.kind in
    (range.0, slice-or c.args.kinds.now.items (c.in-Some.entry.dict.kind - 1) c.index_mut-2.result.now range.1 c.index_mut-2.ensures.value)

pub unreachable-requires-in_default-get_index_of : goal.unreachable-requires-in_default-get_index_of
unreachable-requires-in_default-get_index_of g c =
    let one = (goal.at.unreachable-requires-in_default-get_index_of g c).In-Some in
    home-open (here g one) c.args.i (ends g one) (sym c.in-Some.ensures.entry) (sym c.get_index_of.ensures.found ∙ ap is_some c.in_default-get_index_of.is)

pub overflow_sub-k : goal.overflow_sub-k
overflow_sub-k g c = (kind-range g (goal.at.overflow_sub-k g c).In-Some).0

pub index_mut-requires-2 : goal.index_mut-requires-2
index_mut-requires-2 g c =
    let within = kind-range g (goal.at.index_mut-requires-2 g c).In-Some in
    omega (arith, within.1, c.args.kinds.now.ok.0)

pub unreachable-requires-in_default-region : goal.unreachable-requires-in_default-region
unreachable-requires-in_default-region g c =
    no-other c.index_mut.result.now.region (best-there (lies g (goal.at.unreachable-requires-in_default-region g c).After-index_mut)) c.in_default-region.not-Best

pub shut-requires : goal.shut-requires
shut-requires g c =
    let at = goal.at.shut-requires g c in
    let x = in_best (lies g at.After-index_mut) c.in-Best.best c.in-Best.is in
    let by = kind-at g.D.DictDisc.rules c.args.kinds.now.items c.in-Some.entry.dict.kind c.index_mut-2.result.now (its-kind g at.After-index_mut-2).0 (its-kind g at.After-index_mut-2).1 in
    record { whole = subst (λ q. IsWhole q c.in-Some.entry.dict (cells_in c.in-Best.best)) (same_Some (its x).rules (g.D.DictDisc.rules c.index_mut-2.result.now) (sym (its x).kind ∙ by)) (whole-there x) }

pub returns : goal.returns
returns g c =
    let M = meaning g in
    let at = goal.at.returns g c in
    let place = c.index_mut.result.now.place in
    let best = c.in-Best.best in
    let x = in_best (lies g at.After-index_mut) best c.in-Best.is in
    let item = g.D.DictDisc.rules in
    let gone = g.D.DictDisc.gone in
    let items = c.args.kinds.now.items in
    let n = c.in-Some.entry.dict.kind in
    let k = n - 1 in
    let kind = c.index_mut-2.result.now in
    let told = c.shut.new.kind in
    let there = its-kind g at.After-index_mut-2 in
    let left = c.shift_remove_index.ensures.entries in
    let same_kinds = map-set_same item items k kind told there.1 c.shut.ensures.rules in
    let o : DictEnded place best x = record {
      unviewed = if_some-at (λ (f : Entry). is_viewed c.args.self.now.paths f.1.number ≡ false) (slice_get c.args.self.now.dicts.entries c.args.i) x.e x.there c.requires.unviewed;
      paths = c.show_invariant.ensures;
      after = c.shut.new.best;
      leaves = c.shut.ensures.leaves;
      region = c.shut.ensures.region;
      disc = c.shut.ensures.disc;
      kinds' = rules_in item (set items k told);
      same_kinds = same_kinds;
      links' = c.end.new.self;
      ended = c.end.ensures;
      es' = c.shift_remove_index.new.self.entries;
      left = left;
      alone = c.in-Some.ensures.updates.1;
    } in
    let hs = held_all M (set_value_at c.args.self.now.homes.entries x.j (best_entry place c.shut.new.best)) c.args.self.now.labels.items in
    let vs = views_by c.args.self.now.paths c.args.self.now.dicts.entries in
    record {
      shuts = record {
        shuts =
            if_some-to
            (λ (f : Entry). Shuts (moment M item gone c.args.shelf.now c.args.self.now items)
            (moment_over c.args.self.now.is_armed (slots_on M c.args.shelf.now) o.es' (views_by o.links' o.es') o.kinds' (gone_in gone (set items k told)) hs) (dict_home (held_in_session M c.args.self.now) vs f))
            (slice_get c.args.self.now.dicts.entries c.args.i) x.e x.there
            (record {
              state = state-ended place best x o;
              gone =
                  (map-set gone items k told
                  ∙ (ap (set (gone_in gone items) k) c.shut.ensures.gone
                  ∙ (sym (tell-each (bytes_of (dictionary_in c.in-Some.entry.dict best).objects) (gone_in gone items) n (gone kind) (kind-at gone items n kind there.0 there.1))
                  ∙ ap (λ (d : Dictionary). tell (told_of n (bytes_of d.objects)) (gone_in gone items)) (sym (dict-is x)))));
              accounts = settled-ended place best x o;
            });
        fewer = omega (arith, ap length left, length-remove c.args.self.now.dicts.entries c.args.i c.requires.within);
        homes = sym (named-ended place best x o) ∙ c.requires.session.regions.named;
        views = below-ended place best x o;
      };
      stays = record {
        lasts = record {
          stands = record {
            regions = record { named = named-ended place best x o; held = session-ended place best x o };
            dicts = dicts-ended place best x o;
            views = linked-ended place best x o;
          };
          keeps_rules = same_kinds;
          armed = refl;
          accounts = keeps-equal _ _ (settled-ended place best x o);
          asked = λ off. asked-equal _ _ (settled-ended place best x o);
          arms_none = λ n d at on. at;
        };
        spent = refl;
      };
    }

pub end-requires : goal.end-requires
end-requires g c =
    all-at (λ (x : Entry). x.1.number < numbers) c.args.self.now.dicts.entries c.args.i (c.in-Some.field-0-0, c.in-Some.entry) c.requires.session.views.numbered.below (sym c.in-Some.ensures.entry)
