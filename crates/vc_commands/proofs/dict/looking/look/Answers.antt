use Rattle.vc_base.proofs.Common.{◌≡◌, IfOk, OnOk, ◌==◌, option_map, sym, ap, ◌∙◌, subst, number_of}
use Rattle.vc_paths.specs.Path.{visible_of}
use Rattle.vc_commands.specs.Looking.{found_reply, own_place}
use Rattle.vc_commands.proofs.Walking.{found-asked, meant-found, meant-kept, reply-found}
use Rattle.vc_commands.proofs.dict.looking.look.Goals as goal

pub show-requires : goal.show-requires
show-requires g c =
    let all = g.Y.Layers.layered c.args.layers.now in
    let rules = g.D.DictDisc.rules c.args.kind.now in
    let meant = meant-found all c.args.paths.now c.args.d rules c.args.command.now c.found-at.result (g.met.Y.Layers.lawful c.args.layers.now) c.requires.path c.found-at.ensures.found in
    (meant-kept c.args.d c.found-at.result _ c.found-at.ensures.unchanged.layers meant).stands

pub returns-in_default : goal.returns-in_default
returns-in_default g c =
    let all = g.Y.Layers.layered c.args.layers.now in
    let rules = g.D.DictDisc.rules c.args.kind.now in
    let command = c.args.command.now in
    let seen = visible_of all c.args.paths.now c.args.d in
    let meant = meant-found all c.args.paths.now c.args.d rules command c.found-at.result (g.met.Y.Layers.lawful c.args.layers.now) c.requires.path c.found-at.ensures.found in
    let object = (meant-kept c.args.d c.found-at.result _ c.found-at.ensures.unchanged.layers meant).object in
    let asked = sym c.if-not-is_askable.ensures in
    record {
      reply = subst (λ z. OnOk c.show.result (c.show.new.reply ≡ z)) (ap found_reply object ∙ sym (reply-found rules command seen asked c.in_default.not-Walk)) c.show.ensures.reply;
      place = subst (λ z. IfOk c.show.result (λ at. option_map number_of at ≡ own_place (λ e. e == c.args.d) z)) (object ∙ sym (found-asked rules command seen asked)) c.show.ensures.place;
      unchanged = c.found-at.ensures.unchanged;
    }
