use Rattle.vc_base.proofs.Common.{◌≡◌, rules}
use Rattle.vc_compare.specs.Told.{error_line}
use Rattle.vc_compare.proofs.Breaking.{broke-of}
use Rattle.vc_compare.proofs.told.tell.Goals as goal

pub returns-clause-broke : goal.returns-clause-broke
returns-clause-broke g c =
    let same : c.as_bytes.result.now ≡ error_line c.args.text.now = search rules in
    broke-of c.write_all.result (g.E.Sink.failures c.args.err.now) (g.E.Sink.failures c.write_all.new.out) (g.E.Sink.written c.args.err.now) (g.E.Sink.written c.write_all.new.out) c.as_bytes.result.now (error_line c.args.text.now) same c.write_all.ensures.cause c.write_all.ensures.front
