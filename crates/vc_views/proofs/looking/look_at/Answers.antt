use Rattle.vc_base.proofs.Common.{◌≡◌, map, option_map, sym, ap, ◌∙◌, subst, rules, number_of}
use Rattle.vc_paths.specs.Path.{IsPath}
use Rattle.vc_views.specs.Dicts.{dict_seen, layered_by, number_at, region_seen, with_current_at}
use Rattle.vc_views.specs.Promises.{layered_over}
use Rattle.vc_views.specs.LayerLaws.{are-layers}
use Rattle.vc_views.specs.Looks.{place_through, reply_through}
use Rattle.vc_views.proofs.Currents.{current-none, dicts-current, number-is, own-there, seen-after, still-within}
use Rattle.vc_views.proofs.LookAnswers.{look-halted}
use Rattle.vc_views.proofs.looking.look_at.Given.{Over}
use Rattle.vc_views.proofs.looking.look_at.Goals as goal
use Rattle.vc_views.proofs.looking.look_at.Goals.{In_ok-place}

pub look_through-requires-clause-path : goal.look_through-requires-clause-path
look_through-requires-clause-path g c =
    subst (IsPath (layered_by (map g.D.DictDisc.rules c.args.kinds.now.items) (map region_seen c.args.homes.now.entries) c.args.dicts.now.entries) c.args.paths.now)
    (number-is c.args.dicts.now.entries c.args.i c.index.result.now c.index.ensures) c.requires.path

pub index_mut-requires : goal.index_mut-requires
index_mut-requires g c =
    still-within (map region_seen c.args.homes.now.entries) (map region_seen c.look_through.new.homes.entries) c.args.dicts.now.entries c.look_through.new.dicts.entries c.args.i c.look_through.ensures.leaves.keeps.seen c.requires.index

pub returns-in_err-place : goal.returns-in_err-place
returns-in_err-place g c =
    look-halted (map g.D.DictDisc.rules c.args.kinds.now.items) c.args.homes.now.entries c.look_through.new.homes.entries c.args.dicts.now.entries c.look_through.new.dicts.entries c.args.paths.now c.args.i c.args.command.now
    c.from_residual.result c.look_through.new.reply (search rules) c.look_through.ensures.leaves

-- the reply is that of the dictionary's number
replied : (g : Over) (c : In_ok-place g) → c.look_through.new.reply ≡ reply_through (layered_over (map g.D.DictDisc.rules c.args.kinds.now.items) c.args.homes.now.entries c.args.dicts.now.entries) c.args.paths.now (number_at c.args.i c.args.dicts.now.entries) c.args.command.now
replied g c =
    let all = layered_over (map g.D.DictDisc.rules c.args.kinds.now.items) c.args.homes.now.entries c.args.dicts.now.entries in
    c.in_ok-place.ensures.look.reply
    ∙ ap (λ d. reply_through all c.args.paths.now d c.args.command.now) (sym (number-is c.args.dicts.now.entries c.args.i c.index.result.now c.index.ensures))

pub returns-in_default : goal.returns-in_default
returns-in_default g c =
    let regions = map region_seen c.args.homes.now.entries in
    let all = layered_by (map g.D.DictDisc.rules c.args.kinds.now.items) regions c.args.dicts.now.entries in
    let seen = map (dict_seen regions) c.args.dicts.now.entries in
    record {
      reply = replied g (goal.at.returns-in_default g c).In_ok-place;
      homes = c.look_through.ensures.leaves.keeps.rest;
      dicts = c.look_through.ensures.leaves.dicts;
      ok = c.look_through.ensures.leaves.keeps.seen ∙ sym (current-none c.args.i seen)
          ∙ ap (λ p. with_current_at c.args.i p seen) (sym (ap (option_map number_of) c.in_default.is) ∙ c.in_ok-place.ensures.look.place)
          ∙ ap (λ d. with_current_at c.args.i (place_through all c.args.paths.now d c.args.command.now) seen) (sym (number-is c.args.dicts.now.entries c.args.i c.index.result.now c.index.ensures));
      err = tt;
    }

pub returns : goal.returns
returns g c =
    let kinds = map g.D.DictDisc.rules c.args.kinds.now.items in
    let old = map region_seen c.args.homes.now.entries in
    let new = map region_seen c.look_through.new.homes.entries in
    let es = c.args.dicts.now.entries in
    let all = layered_by kinds old es in
    let d = c.index.result.now.number in
    let leaves = c.look_through.ensures.leaves in
    let path = subst (IsPath all c.args.paths.now) (number-is es c.args.i c.index.result.now c.index.ensures) c.requires.path in
    let place = sym c.in_ok-place.ensures.look.place ∙ ap (option_map number_of) c.in-Some.is in
    let there = own-there all c.args.paths.now d (are-layers g.D.DictDisc.rules g.met.D.DictDisc.lawful c.args.kinds.now.items old es) path (all.layer d).rules c.args.command.now c.in-Some.at.0 place in
    let seen = map (dict_seen old) es in
    record {
      reply = replied g (goal.at.returns g c).In_ok-place;
      homes = leaves.keeps.rest;
      dicts =
          dicts-current kinds old new es c.look_through.new.dicts.entries leaves.keeps.seen leaves.dicts c.requires.numbers.distinct
          c.args.i c.index.result.now c.index.ensures c.index_mut.result.now c.index_mut.ensures.value c.in-Some.at there;
      ok =
          seen-after kinds old new es c.look_through.new.dicts.entries leaves.keeps.seen leaves.dicts c.requires.numbers.distinct
          c.args.i c.index.result.now c.index.ensures c.index_mut.result.now c.index_mut.ensures.value c.in-Some.at there
          ∙ ap (λ p. with_current_at c.args.i p seen) (sym place)
          ∙ ap (λ k. with_current_at c.args.i (place_through all c.args.paths.now k c.args.command.now) seen) (sym (number-is es c.args.i c.index.result.now c.index.ensures));
      err = tt;
    }
