use Rattle.std.proofs.Common.{◌≡◌, None, Some, sym, ap, ◌∙◌, option_map, length, ◌-◌, true}
use Rattle.std.specs.List.{slice_get}
use Rattle.std.specs.Option.{option_copied}
use Rattle.vc_seg.proofs.LastPair.{last_or-map, last_or-some}
use Rattle.vc_seg.proofs.lend.growing_of.Goals as goal

-- src/lend.rt:29:1
pub returns-in-Some : goal.returns-in-Some
returns-in-Some g c =
    let here : Some c.in-Some.segment.now ≡ slice_get c.args.segs.now (length c.args.segs.now - 1) = ap option_copied (sym c.in-Some.is) ∙ c.last.ensures.value in
    let last = last_or-some c.args.segs.now c.in-Some.segment.now here in
    let grows : c.grows.result ≡ true = c.if-not-grows.false in
    rw (sym c.grows.ensures ∙ grows) (ap (λ m. Some (m, c.size.result)) c.number.ensures ∙ ap (λ n. Some ((g.T.Numbered.pair c.in-Some.segment.now).0, n)) c.size.ensures ∙ sym (last_or-map g.T.Numbered.pair None c.args.segs.now ∙ ap (option_map g.T.Numbered.pair) last))
