use Rattle.vc_base.proofs.Common.{◌≡◌, ◌-◌, ◌≤◌, false, [], ◌∷◌, ◌++◌, length, is_some, nat_le, slice_get, Some, None, option_map, bytes_eq, sym, refl, ap, ◌∙◌, subst, arith, rules, length-map, slice_get-map, lookup, Discipline}
use Rattle.indexmap.proofs.CallerLemmas.{insert_entry-new}
use Rattle.vc_base.proofs.Options.{none_of}
use Rattle.vc_views.proofs.Firsts.{no-other}
use Rattle.vc_region.specs.Cells.{rest_in}
use Rattle.vc_script.specs.Needs.{NoNeed, need_shown}
use Rattle.vc_script.specs.declared.reply.Reply.TheVariants.{Refused}
use Rattle.vc_commands.specs.declared.dict.entry.DictEntry.{DictEntry}
use Rattle.vc_commands.specs.declared.region.home.HomeEntry.{HomeEntry}
use Rattle.vc_commands.specs.Held.{Held, home_of}
use Rattle.vc_views.specs.Dicts.{entry_numbered}
use Rattle.vc_views.specs.Numbers.{AreLinked, views_by}
use Rattle.vc_steps.specs.Account.{accounts, settled_accounts, state_of}
use Rattle.vc_steps.specs.DictHomes.{AreDicts, dict_home, dicts_in}
use Rattle.vc_steps.specs.Dicts.{dict_limit, dict_refused}
use Rattle.vc_steps.specs.Homes.{held_in_session, slots_on, state_over}
use Rattle.vc_commands.specs.Labels.{name_of_tag}
use Rattle.vc_commands.specs.Home.{is_home}
use Rattle.vc_steps.specs.Told.{gone_in, rules_in}
use Rattle.vc_commands.proofs.Agreeing.{from_ok}
use Rattle.vc_steps.proofs.Cells.{at_number-from_one}
use Rattle.vc_steps.proofs.DictByName.{any-dict}
use Rattle.vc_steps.proofs.DictOpens.{OpensIn, open-none, open-refused}
use Rattle.vc_steps.proofs.BestStays.{relabelled-best}
use Rattle.vc_steps.proofs.DictRegion.{best_at, best_entry}
use Rattle.vc_steps.proofs.DictWhy.{IsAllowed, few-within, kind-within, lacks-early, refused-early, refused-none, settles-early}
use Rattle.vc_steps.proofs.SessionEnd.{if_some-at}
use Rattle.vc_commands.proofs.Firsts.{find-none}
use Rattle.vc_steps.proofs.Helds.{any-named, slice-or}
use Rattle.vc_steps.proofs.OpensHere.{DictOpened, dicts-new, dicts-unopened, lent-by, linked-new, linked-unopened, named-opened, session-opened, steps-opened, steps-unopened}
use Rattle.vc_steps.proofs.RegionAt.{RegionAt, found_at, region-stands, region_at, stored_at}
use Rattle.vc_steps.proofs.SessionHere.{SessionHere, helds, session_here, state_here, views}
use Rattle.vc_steps.proofs.SettledShelf.{keeps-same, keeps-settles, settles-same}
use Rattle.vc_steps.proofs.Steps.{asked-steps, halts-same, halts-steps, keeps-steps}
use Rattle.vc_steps.proofs.session.Session.open_dict.Given as given
use Rattle.vc_steps.proofs.session.Session.open_dict.Goals as goal
use Rattle.vc_steps.proofs.session.Session.open_dict.Goals.{After-dict_refused, After-index_mut, In-Best}

abbrev meaning : (g : given.Over) → (x : g.dyn-1.0.I) × (g.dyn-1.0.entry x).0.Denot → Discipline
meaning g p = (g.dyn-1.0.entry p.0).1.state p.1

-- the session
abbrev here : (g : given.Over) (c : After-dict_refused g) → SessionHere (meaning g)
here g c = session_here (meaning g) g.D.DictDisc.rules g.D.DictDisc.gone c.args.shelf.now c.args.self.now c.args.kinds.now.items c.requires.session

-- a dictionary is opened in the region of the name
abbrev opens : (g : given.Over) (c : After-dict_refused g) {v : HomeEntry _ _} → RegionAt c.args.self.now.homes.entries c.args.self.now.labels.items c.args.region c.in-Some.j v → OpensIn (meaning g) v
opens g c region = record { here = here g c; r = c.args.region; j = c.in-Some.j; region = region; d = c.args.name; method = c.args.method; k = c.args.kind }

-- why none is, if none is
why : (g : given.Over) (c : After-dict_refused g) {v : HomeEntry _ _} (x : RegionAt c.args.self.now.homes.entries c.args.self.now.labels.items c.args.region c.in-Some.j v)
    → c.dict_refused.result ≡ dict_refused (state_here (here g c)) (home_of (region_at (meaning g) x)) c.args.name c.args.kind
why g c x =
    if_some-at (λ (q : Held). c.dict_refused.result ≡ dict_refused (state_here (here g c)) (home_of q) c.args.name c.args.kind) (slice_get (helds (here g c)) c.in-Some.j) (region_at (meaning g) x) (region-stands (meaning g) x) c.dict_refused.ensures

-- where it is not refused
may : (g : given.Over) (c : After-dict_refused g) {v : HomeEntry _ _} (x : RegionAt c.args.self.now.homes.entries c.args.self.now.labels.items c.args.region c.in-Some.j v)
    → c.dict_refused.result ≡ None → IsAllowed (state_here (here g c)) (home_of (region_at (meaning g) x)) c.args.name c.args.kind
may g c x is = refused-none (state_here (here g c)) (home_of (region_at (meaning g) x)) c.args.name c.args.kind (sym (why g c x) ∙ is)

-- some region has the name
abbrev found : (g : given.Over) (c : After-dict_refused g) → (v : HomeEntry _ _) × RegionAt c.args.self.now.homes.entries c.args.self.now.labels.items c.args.region c.in-Some.j v
found g c = found_at c.args.self.now.homes.entries c.args.self.now.labels.items c.args.region c.in-Some.j c.requires.session.regions.named (sym c.get_index_of.ensures.index ∙ c.in-Some.is)

-- its kind is one of those that there are
range : (g : given.Over) (c : After-dict_refused g) → c.dict_refused.result ≡ None → (1 ≤ c.args.kind) × (c.args.kind ≤ length c.args.kinds.now.items)
range g c is =
    let parts = kind-within c.args.kind (length (rules_in g.D.DictDisc.rules c.args.kinds.now.items)) (may g c (found g c).1 is).kind in
    (parts.0, subst (λ n. c.args.kind ≤ n) (length-map c.args.kinds.now.items g.D.DictDisc.rules) parts.1)

-- the region as it is stored
abbrev place : (g : given.Over) (c : After-index_mut g) → RegionAt c.args.self.now.homes.entries c.args.self.now.labels.items c.args.region c.in-Some.j c.index_mut.result.now
place g c =
    stored_at c.args.self.now.homes.entries c.args.self.now.labels.items c.args.region c.in-Some.j c.requires.session.regions.named (sym c.get_index_of.ensures.index ∙ c.in-Some.is) c.index_mut.result.now c.index_mut.ensures.value

-- and as a best one
abbrev in_best : (g : given.Over) (c : In-Best g) → OpensIn (meaning g) (best_entry c.index_mut.result.now.place c.in-Best.best)
in_best g c =
    let session = c.args.self.now in
    record {
      here = session_here (meaning g) g.D.DictDisc.rules g.D.DictDisc.gone c.args.shelf.now session c.args.kinds.now.items c.requires.session;
      r = c.args.region;
      j = c.in-Some.j;
      region =
          best_at
          (stored_at session.homes.entries session.labels.items c.args.region c.in-Some.j c.requires.session.regions.named (sym c.get_index_of.ensures.index ∙ c.in-Some.is) c.index_mut.result.now c.index_mut.ensures.value)
          c.in-Best.best c.in-Best.is;
      d = c.args.name;
      method = c.args.method;
      k = c.args.kind;
    }

pub returns-in_default-clause-steps : goal.returns-in_default-clause-steps
returns-in_default-clause-steps g c =
    let session = c.args.self.now in
    let s = state_over (meaning g) (rules_in g.D.DictDisc.rules c.args.kinds.now.items) c.args.shelf.now session in
    record {
      gives =
          open-none s (gone_in g.D.DictDisc.gone c.args.kinds.now.items) c.args.name c.args.region c.args.method c.args.kind NoNeed
          (find-none (is_home c.args.region) s.homes (any-named (meaning g) session.homes.entries session.labels.items c.args.region c.requires.session.regions.named ∙ (sym c.get_index_of.ensures.found ∙ ap is_some c.in_default.is)));
      settles = settles-same _;
      armed = refl;
      lacks = tt;
    }

pub returns-in-Some-dict_refused-clause-steps : goal.returns-in-Some-dict_refused-clause-steps
returns-in-Some-dict_refused-clause-steps g c =
    let a = (goal.at.returns-in-Some-dict_refused-clause-steps g c).After-dict_refused in
    let x = opens g a (found g a).1 in
    let s = state_here x.here in
    let hs = helds x.here in
    let refusal = c.in-Some-dict_refused.why in
    let is = sym (why g a x.region) ∙ c.in-Some-dict_refused.is in
    let early = refused-early s (home_of (region_at (meaning g) x.region)) x.d x.k refusal is in
    record {
      gives = open-refused x x.here.gone (need_shown (Refused refusal)) refusal is;
      settles = settles-early s (settled_accounts (accounts x.here.slots) hs) x.d x.r x.method x.k refusal early;
      armed = refl;
      lacks = lacks-early s hs hs x.d x.r x.method x.k refusal early;
    }

pub returns-in_err-reserve : goal.returns-in_err-reserve
returns-in_err-reserve g c =
    let M = meaning g in
    let kinds = rules_in g.D.DictDisc.rules c.args.kinds.now.items in
    let slots = slots_on M c.args.shelf.now in
    let helds = held_in_session M c.args.self.now in
    record {
      steps = halts-steps c.from_residual.result _ _ _ _ (search rules) (halts-same _ _ _ (ap (λ x. state_of kinds slots helds (dicts_in helds (views_by c.args.self.now.paths x) x)) c.reserve.ensures.entries) refl refl refl);
      stays = record {
        lasts = record {
          stands = record {
            regions = record { named = c.requires.session.regions.named; held = c.requires.session.regions.held };
            dicts = subst (AreDicts kinds helds) (sym c.reserve.ensures.entries) c.requires.session.dicts;
            views = subst (AreLinked c.args.self.now.paths) (sym c.reserve.ensures.entries) c.requires.session.views;
          };
          keeps_rules = refl;
          armed = refl;
          accounts = keeps-same _;
          asked = λ off. refl;
          arms_none = λ n d at on. at;
        };
        spent = refl;
      };
    }

pub unreachable-requires : goal.unreachable-requires
unreachable-requires g c =
    let at = goal.at.unreachable-requires g c in
    let x = place g at.After-index_mut in
    let best = (may g at.After-dict_refused x c.in_default-dict_refused.is).best in
    no-other c.index_mut.result.now.region (sym (relabelled-best (name_of_tag x.l) (rest_in c.index_mut.result.now.region)) ∙ best) c.in_default-region.not-Best

pub overflow_sub-kind : goal.overflow_sub-kind
overflow_sub-kind g c = (range g (goal.at.overflow_sub-kind g c).After-dict_refused c.in_default-dict_refused.is).0

pub index-requires : goal.index-requires
index-requires g c =
    let within = range g (goal.at.index-requires g c).After-dict_refused c.in_default-dict_refused.is in
    omega (arith, within.0, within.1, c.args.kinds.now.ok.0)

pub free_number-number-requires : goal.free_number-number-requires
free_number-number-requires g c =
    let a = (goal.at.free_number-number-requires g c).After-dict_refused in
    let all = here g a in
    let many = length-map all.es (dict_home (helds all) (views all)) in
    let few = few-within (length all.es) (ap (nat_le dict_limit) (sym many) ∙ (may g a (found g a).1 c.in_default-dict_refused.is).few) in
    omega (arith, few, ap length c.reserve.ensures.entries)

pub open-requires : goal.open-requires
open-requires g c =
    let at = goal.at.open-requires g c in
    let x = in_best g at.In-Best in
    record { lent = lent-by c.index_mut.result.now.place c.in-Best.best x (sym (why g at.After-dict_refused x.region) ∙ c.in_default-dict_refused.is) }

pub returns-in-Err : goal.returns-in-Err
returns-in-Err g c =
    let at = goal.at.returns-in-Err g c in
    let x = in_best g at.In-Best in
    let allowed = sym (why g at.After-dict_refused x.region) ∙ c.in_default-dict_refused.is in
    let shelf = c.index_mut.result.now.place in
    let after = c.open.new.best in
    let stays = c.in-Err.ensures.err.1 in
    let new = c.reserve.new.self.entries in
    let steps = steps-unopened shelf c.in-Best.best x allowed after stays new c.reserve.ensures.entries c.in-Err.fault c.table_refused.result c.table_refused.ensures c.in-Err.ensures.asked c.in-Err.ensures.err.0 in
    record {
      steps = steps;
      stays = record {
        lasts = record {
          stands = record {
            regions = record { named = named-opened shelf c.in-Best.best x allowed after [] stays.leaves; held = session-opened shelf c.in-Best.best x allowed after [] stays.leaves };
            dicts = dicts-unopened shelf c.in-Best.best x allowed after stays new c.reserve.ensures.entries;
            views = linked-unopened shelf c.in-Best.best x allowed after stays new c.reserve.ensures.entries;
          };
          keeps_rules = refl;
          armed = refl;
          accounts = keeps-steps c.table_refused.result _ _ _ _ steps;
          asked = asked-steps c.table_refused.result _ _ _ _ steps;
          arms_none = λ n d at on. at;
        };
        spent = refl;
      };
    }

pub returns-in-Ok : goal.returns-in-Ok
returns-in-Ok g c =
    let at = goal.at.returns-in-Ok g c in
    let x = in_best g at.In-Best in
    let allowed = sym (why g at.After-dict_refused x.region) ∙ c.in_default-dict_refused.is in
    let shelf = c.index_mut.result.now.place in
    let after = c.open.new.best in
    let dict = c.in-Ok.dict in
    let items = c.args.kinds.now.items in
    let item = g.D.DictDisc.rules in
    let d = c.args.name in
    let k = c.args.kind in
    let within = range g at.After-dict_refused c.in_default-dict_refused.is in
    let kind = c.index.result.now in
    let its_kind : slice_get items (k - 1) ≡ Some kind = slice-or items (k - 1) kind (omega (arith, within.0, within.1)) c.index.ensures in
    let n = c.free_number-number.result in
    let lain : DictEntry = record { home = c.args.region; number = n; dict = dict } in
    let absent : is_some (lookup (bytes_eq d) x.here.es) ≡ false = sym (any-dict (helds x.here) (views x.here) x.here.es d) ∙ (may g at.After-dict_refused x.region c.in_default-dict_refused.is).new in
    let put = from_ok c.insert.result (c.insert.ensures.succeeds (omega (arith, c.in_ok-reserve.ensures.ok))) c.insert.ensures.entries in
    let free = none_of (lookup (bytes_eq d) c.reserve.new.self.entries) (ap (λ es. is_some (lookup (bytes_eq d) es)) c.reserve.ensures.entries ∙ absent) in
    let o : DictOpened shelf c.in-Best.best x allowed = record {
      rules = item kind;
      by = at_number-from_one (rules_in item items) k within.0 ∙ (slice_get-map item items (k - 1) ∙ ap (option_map item) its_kind);
      dict = dict;
      after = after;
      opens = c.in-Ok.ensures.ok;
      asked = c.in-Ok.ensures.asked.faults;
      n = n;
      free = ap (entry_numbered n) (sym c.reserve.ensures.entries) ∙ c.free_number-number.ensures.free;
      below = c.free_number-number.ensures.below;
      es' = c.insert.new.self.entries;
      last = put ∙ (insert_entry-new bytes_eq c.reserve.new.self d lain free ∙ ap (λ es. es ++ (d, lain) ∷ []) c.reserve.ensures.entries);
    } in
    let steps = steps-opened shelf c.in-Best.best x allowed o in
    record {
      steps = steps;
      stays = record {
        lasts = record {
          stands = record {
            regions = record { named = named-opened shelf c.in-Best.best x allowed after _ c.in-Ok.ensures.ok.leaves; held = session-opened shelf c.in-Best.best x allowed after _ c.in-Ok.ensures.ok.leaves };
            dicts = dicts-new shelf c.in-Best.best x allowed o;
            views = linked-new shelf c.in-Best.best x allowed o;
          };
          keeps_rules = refl;
          armed = refl;
          accounts = keeps-settles steps.settles;
          asked = steps.settles.asked;
          arms_none = λ n d at on. at;
        };
        spent = refl;
      };
    }
