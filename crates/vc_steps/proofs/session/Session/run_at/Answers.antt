use Rattle.vc_base.proofs.Common.{◌≡◌, ◌-◌, ◌<◌, ◌≤◌, false, length, set, slice_get, Some, position, bytes_eq, sym, refl, ap, ◌∙◌, subst, map-set, same_Some, keys_of, Discipline}
use Rattle.vc_commands.specs.Answered.{answered}
use Rattle.vc_views.proofs.Firsts.{no-other}
use Rattle.vc_commands.specs.declared.dict.entry.DictEntry.{DictEntry}
use Rattle.vc_views.specs.Numbers.{is_barred}
use Rattle.vc_steps.proofs.DictsStay.{Entry}
use Rattle.vc_steps.proofs.SessionEnd.{if_some-at}
use Rattle.vc_steps.specs.Told.{gone_in, rules_in}
use Rattle.vc_views.proofs.LinkLists.{map-set_same}
use Rattle.vc_steps.proofs.DictRegion.{best_at, best_entry}
use Rattle.vc_steps.proofs.DictRun.{CommandRan, DictRan, dicts-ran, lent-by, linked-ran, named-ran, session-ran, steps-ran, whole-by}
use Rattle.vc_steps.proofs.DictThere.{DictIn, best-there, its}
use Rattle.vc_steps.proofs.DictTold.{kind-at, kind-within}
use Rattle.vc_steps.proofs.Helds.{slice-or}
use Rattle.vc_steps.proofs.RegionAt.{stored_at}
use Rattle.vc_steps.proofs.SessionHere.{DictAt, SessionHere, entry_at, home-open, session_here, stands-at, whole_at}
use Rattle.vc_steps.proofs.Steps.{asked-steps, keeps-steps}
use Rattle.vc_steps.proofs.session.Session.run_at.Given as given
use Rattle.vc_steps.proofs.session.Session.run_at.Goals as goal
use Rattle.vc_steps.proofs.session.Session.run_at.Goals.{After-index-entry, After-index_mut-3}

abbrev meaning : (g : given.Over) → (x : g.dyn-1.0.I) × (g.dyn-1.0.entry x).0.Denot → Discipline
meaning g p = (g.dyn-1.0.entry p.0).1.state p.1

-- the session, and the dictionary of the name
abbrev here : (g : given.Over) (c : After-index-entry g) → SessionHere (meaning g)
here g c = session_here (meaning g) g.D.DictDisc.rules g.D.DictDisc.gone c.args.shelf.now c.args.self.now c.args.kinds.now.items c.requires.at.stands

abbrev own : (g : given.Over) (c : After-index-entry g) → DictAt c.args.self.now.dicts.entries
own g c = record { name = c.args.name.now; i = c.args.i; v = c.index-entry.result.now; index = c.requires.at.index; value = c.index-entry.ensures }

-- its kind is one of those that there are
kind-range : (g : given.Over) (c : After-index-entry g) → (1 ≤ c.index-entry.result.now.dict.kind) × (c.index-entry.result.now.dict.kind - 1 < length c.args.kinds.now.items)
kind-range g c =
    let is = whole_at (here g c) (own g c) in
    kind-within g.D.DictDisc.rules c.args.kinds.now.items c.index-entry.result.now.dict.kind is.rules is.kind

-- it is the same when it changes
same : (g : given.Over) (c : After-index_mut-3 g) → c.index-entry.result.now ≡ c.index_mut-2.result.now
same g c = same_Some c.index-entry.result.now c.index_mut-2.result.now (sym c.index-entry.ensures ∙ c.index_mut-2.ensures.value)

-- the best region that it lies in
abbrev lies : (g : given.Over) (c : After-index_mut-3 g) → DictIn (meaning g) (best_entry c.index_mut.result.now.place c.in-Best.best)
lies g c =
    let session = c.args.self.now in
    let region = stored_at session.homes.entries session.labels.items c.index_mut-2.result.now.home c.in-Some.j c.requires.at.stands.regions.named
    (subst (λ (e : DictEntry). position (bytes_eq e.home) (keys_of session.homes.entries) ≡ Some c.in-Some.j) (same g c) (sym c.in-Some.ensures.index)) c.index_mut.result.now c.index_mut.ensures.value in
    record {
      here = session_here (meaning g) g.D.DictDisc.rules g.D.DictDisc.gone c.args.shelf.now session c.args.kinds.now.items c.requires.at.stands;
      i = c.args.i;
      e = (c.args.name.now, c.index_mut-2.result.now);
      there = stands-at session.dicts.entries (record { name = c.args.name.now; i = c.args.i; v = c.index_mut-2.result.now; index = c.requires.at.index; value = c.index_mut-2.ensures.value });
      j = c.in-Some.j;
      region = best_at region c.in-Best.best c.in-Best.is;
    }

-- its kind stands at its number
its-kind : (g : given.Over) (c : After-index_mut-3 g) → (1 ≤ c.index_mut-2.result.now.dict.kind) × (slice_get c.args.kinds.now.items (c.index_mut-2.result.now.dict.kind - 1) ≡ Some c.index_mut-3.result.now)
its-kind g c =
    let is = its (lies g c) in
    let range = kind-within g.D.DictDisc.rules c.args.kinds.now.items c.index_mut-2.result.now.dict.kind is.rules is.kind in
    let within = subst (λ (e : DictEntry). e.dict.kind - 1 < length c.args.kinds.now.items) (sym (same g c)) range.1 in
    (range.0, subst (λ (e : DictEntry). slice_get c.args.kinds.now.items (e.dict.kind - 1) ≡ Some c.index_mut-3.result.now) (same g c) (slice-or c.args.kinds.now.items (c.index-entry.result.now.dict.kind - 1) c.index_mut-3.result.now within c.index_mut-3.ensures.value))

pub unreachable-requires : goal.unreachable-requires
unreachable-requires g c =
    let at = (goal.at.unreachable-requires g c).After-index-entry in
    home-open (here g at) c.args.i (entry_at (own g at)) (stands-at c.args.self.now.dicts.entries (own g at)) (sym c.in_default.ensures.found)

pub unreachable-requires-in_default-region : goal.unreachable-requires-in_default-region
unreachable-requires-in_default-region g c =
    let at = (goal.at.unreachable-requires-in_default-region g c).After-index-entry in
    let v = c.index_mut.result.now in
    let region = stored_at c.args.self.now.homes.entries c.args.self.now.labels.items c.index-entry.result.now.home c.in-Some.j c.requires.at.stands.regions.named (sym c.in-Some.ensures.index) v c.index_mut.ensures.value in
    no-other v.region (best-there {meaning = meaning g} {v = v} (record { here = here g at; i = c.args.i; e = entry_at (own g at); there = stands-at c.args.self.now.dicts.entries (own g at); j = c.in-Some.j; region = region })) c.in_default-region.not-Best

pub overflow_sub-k : goal.overflow_sub-k
overflow_sub-k g c = (kind-range g (goal.at.overflow_sub-k g c).After-index-entry).0

pub index_mut-requires-3 : goal.index_mut-requires-3
index_mut-requires-3 g c =
    subst (λ n. c.index-entry.result.now.dict.kind - 1 < n) (sym c.args.kinds.now.ok.0) (kind-range g (goal.at.index_mut-requires-3 g c).After-index-entry).1

pub run-requires : goal.run-requires
run-requires g c =
    let at = (goal.at.run-requires g c).After-index_mut-3 in
    let at_rules = kind-at g.D.DictDisc.rules c.args.kinds.now.items c.index_mut-2.result.now.dict.kind c.index_mut-3.result.now (its-kind g at).0 (its-kind g at).1 in
    record {
      ask = record {
        whole = whole-by c.index_mut.result.now.place c.in-Best.best (lies g at) c.requires.at.index (g.D.DictDisc.rules c.index_mut-3.result.now) at_rules;
        lent = lent-by c.index_mut.result.now.place c.in-Best.best (lies g at) c.requires.at.index;
      };
    }

pub returns : goal.returns
returns g c =
    let at = (goal.at.returns g c).After-index_mut-3 in
    let x = lies g at in
    let index = c.requires.at.index in
    let place = c.index_mut.result.now.place in
    let best = c.in-Best.best in
    let rules = g.D.DictDisc.rules in
    let gone = g.D.DictDisc.gone in
    let items = c.args.kinds.now.items in
    let es = c.args.self.now.dicts.entries in
    let command = c.args.command.now in
    let e = c.index_mut-2.result.now in
    let one = c.index_mut-3.result.now in
    let told = c.run.new.kind in
    let kind = its-kind g at in
    let k = c.index-entry.result.now.dict.kind - 1 in
    let at_k = subst (λ (y : DictEntry). slice_get items (y.dict.kind - 1) ≡ Some one) (sym (same g at)) kind.1 in
    let same_kinds = map-set_same rules items k one told at_k c.run.ensures.rules in
    let ran : DictRan place best x index = record {
      rules = rules one;
      at_rules = kind-at rules items e.dict.kind one kind.0 kind.1;
      after = c.run.new.best;
      new = c.run.new.dict;
      leaves = c.run.ensures.runs.leaves;
      kinds' = rules_in rules (set items k told);
      same_kinds = same_kinds;
    } in
    let did : CommandRan place best x index ran (answered c.run.result c.run.new.reply) command (gone one) (gone told) = record {
      works = c.requires.name;
      alone = c.requires.alone;
      names = c.show_names.ensures;
      free = if_some-at (λ (f : Entry). is_barred c.args.self.now.paths f.1.number command ≡ false) (slice_get es c.args.i) (c.args.name.now, e) x.there c.requires.free;
      gives = c.run.ensures.runs.step;
      err = c.run.ensures.err;
      asked = c.run.ensures.runs.asked;
    } in
    let is_gone = map-set gone items k told ∙ ap (λ (y : DictEntry). set (gone_in gone items) (y.dict.kind - 1) (gone told)) (same g at) in
    let steps = steps-ran place best x index ran (answered c.run.result c.run.new.reply) command (gone_in gone (set items k told)) (gone one) (gone told) did (kind-at gone items e.dict.kind one kind.0 kind.1) is_gone in
    record {
      steps = steps;
      stays = record {
        lasts = record {
          stands = record {
            regions = record { named = named-ran place best x index ran; held = session-ran place best x index ran };
            dicts = dicts-ran place best x index ran;
            views = linked-ran place best x index ran (answered c.run.result c.run.new.reply) command (gone one) (gone told) did;
          };
          keeps_rules = same_kinds;
          armed = refl;
          accounts = keeps-steps (answered c.run.result c.run.new.reply) _ _ command _ steps;
          asked = asked-steps (answered c.run.result c.run.new.reply) _ _ command _ steps;
          arms_none = λ n d at on. at;
        };
        spent = refl;
      };
    }
