use Rattle.vc_base.proofs.Common.{◌++◌, sym, ap, ◌∙◌, arith}
use Rattle.vc_session.specs.Text.{lines_text}
use Rattle.vc_session.proofs.Behind.{stats-all-entries, stats-push}
use Rattle.vc_session.proofs.tail.gather_stats.Given as given
use Rattle.vc_session.proofs.tail.gather_stats.Goals as goal

pub loop-i-preserved : goal.loop-i-preserved
loop-i-preserved g c =
    stats-push c.args.session.now.homes.entries c.loop-i.i (c.in-Some.name.now, c.in-Some.home.now) c.args.gathered.now.items _ _ (sym c.in-Some.ensures.entry) c.loop-i.invariant c.in_ok-gather_stat-in-Some.ensures

pub returns : goal.returns
returns g c =
    c.loop-i.invariant ∙ ap (λ ls. c.args.gathered.now.items ++ lines_text ls)
    (sym (stats-all-entries (λ z. (given.SegDisc-dyn g z).state z.1) c.args.asked c.args.session.now.homes.entries c.args.session.now.labels.items c.loop-i.i c.if-not-asked.false c.requires (omega (arith, c.loop-i-test.false, c.len-i-end.ensures.len))))
