use Rattle.vc_base.proofs.Common.{◌∙◌, ◌&&◌, Option, bytes_eq, length, length-map, nat_lt, option_map, sym, ap}
use Rattle.std.specs.Prelude.{is_none}
use Rattle.std.proofs.lemmas.Map.Made.{lookup-map_values}
use Rattle.vc_ways.specs.Live.{LivePlaces}
use Rattle.vc_ways.specs.RegionsParts.{live_of}
use Rattle.vc_ways.specs.TraceParts.{live_table, named_live}
use Rattle.vc_ways.proofs.trace.Trace.is_new.Goals as goal

pub returns-in-None : goal.returns-in-None
returns-in-None g c =
    let none = lookup-map_values live_of (bytes_eq c.args.x.now) c.args.self.now.blocks.entries ∙ ap (option_map live_of) (sym c.in-None.ensures) in
    let len = c.len.ensures.len ∙ sym (length-map c.args.self.now.blocks.entries named_live) in
    ap (λ n. nat_lt n 1000000) len ∙ sym (ap (λ (o : Option LivePlaces). is_none o && nat_lt (length (live_table c.args.self.now.blocks.entries)) 1000000) none)

pub returns-in-Some : goal.returns-in-Some
returns-in-Some g c =
    let some = lookup-map_values live_of (bytes_eq c.args.x.now) c.args.self.now.blocks.entries ∙ ap (option_map live_of) (sym c.in-Some.ensures) in
    sym (ap (λ (o : Option LivePlaces). is_none o && nat_lt (length (live_table c.args.self.now.blocks.entries)) 1000000) some)
