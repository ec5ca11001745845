use Rattle.vc_base.proofs.Common.{ℕ, List, [], ◌++◌, length, ℤ, Option, option_map, sym, ap, ◌∙◌, inr, append-nil, arith, w64, SFits, rules, cons_option, Block, address_of}
use Rattle.std.proofs.lemmas.Int.{to_z-of_z}
use Rattle.vc_base.proofs.Options.{option_map-None}
use Rattle.vc_region.proofs.Sound.{own_places}
use Rattle.vc_region.specs.Cells.{rest_in}
use Rattle.vc_region.specs.Parts.{region_of}
use Rattle.vc_region.specs.Region.{next_damaged_in}
use Rattle.vc_commands.proofs.Auditing.{NextDamage, between, damage-told, damaged-all, damaged-end, damaged_behind, found_items, list-damage}
use Rattle.vc_region.proofs.Rest.{rest-damaged, rest-debug}
use Rattle.vc_commands.proofs.region.audit.damage_items.Given.{Over}
use Rattle.vc_commands.proofs.region.audit.damage_items.Goals as goal
use Rattle.vc_commands.proofs.region.audit.damage_items.Goals.{After-name}

-- the damaged block that is next, and what is told of it
next : (g : Over) (c : After-name g) → NextDamage c.args.region.now c.args.labels.now c.loop-block.after.0 c.in-Some.block.0 c.name.result c.in-Some.off
next g c = damage-told c.args.region.now c.args.labels.now c.loop-block.after.0 c.in-Some.block.0 c.tag.result c.name.result c.in-Some.off (own_places c.args.region.now) (sym c.in-Some.ensures.value) c.tag.ensures c.name.ensures

pub loop-block-smaller : goal.loop-block-smaller
loop-block-smaller g c =
    let fewer = ap length (next g (goal.at.loop-block-smaller g c).After-name).row in
    omega (arith, fewer)

pub loop-block-preserved : goal.loop-block-preserved
loop-block-preserved g c =
    let items = c.loop-block.items.items in
    let damage = next g (goal.at.loop-block-preserved g c).After-name in
    let rest = found_items c.args.labels.now (damaged_behind c.in-Some.block.0 (region_of c.args.region.now)) in
    let fits : SFits w64 c.in-Some.off = search rules in
    let item : Option (List ℕ × ℤ) = option_map {U = List ℕ × ℤ} (λ x. (x, c.in-Some.off)) c.name.result in
    record {
      items =
          ap (λ is. is ++ rest) (c.in_ok-push_damage.ensures ∙ ap (λ z. items ++ cons_option (option_map {U = List ℕ × ℤ} (λ x. (x, z)) c.name.result) []) (to_z-of_z w64 c.in-Some.off fits))
          ∙ (between items item rest
          ∙ (ap (λ o. items ++ cons_option o rest) (sym damage.item_is)
          ∙ (ap (λ fs. items ++ found_items c.args.labels.now fs) (sym damage.row)
          ∙ c.loop-block.invariant.items)));
      from = inr c.in-Some.ensures.live;
    }

pub returns : goal.returns
returns g c =
    let r = c.args.region.now in
    let labels = c.args.labels.now in
    let at : Block ℕ × ℤ → ℕ × ℤ = λ f. (address_of f.0, f.1) in
    let none = option_map-None at (next_damaged_in c.loop-block.after.0 (region_of r)) (sym c.in_default.ensures.value) in
    sym (append-nil c.loop-block.items.items)
    ∙ (ap (λ fs. c.loop-block.items.items ++ found_items labels fs) (sym (damaged-end r c.loop-block.after.0 none))
    ∙ (c.loop-block.invariant.items
    ∙ (ap (found_items labels) (damaged-all r ∙ sym (rest-damaged (region_of r))) ∙ sym (list-damage (rest_in r) labels))))

pub check-requires-clause-method : goal.check-requires-clause-method
check-requires-clause-method g c = sym (rest-debug (region_of c.args.region.now)) ∙ c.requires.method
