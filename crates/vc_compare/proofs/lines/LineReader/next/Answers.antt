use Rattle.vc_base.proofs.Common.{◌+◌, ◌∙◌, subst, ap, refl, arith, inl, inr}
use Rattle.vc_compare.specs.Reading.{CutsLine, is_line}
use Rattle.vc_compare.proofs.ToCome.{leaves-start, told-bad, told-end, told-line, told-more, told-ready}
use Rattle.vc_compare.proofs.lines.LineReader.next.Goals as goal

pub loop-self-init : goal.loop-self-init
loop-self-init g c = record {
  can = c.requires.can;
  count = refl;
  leaves = leaves-start c.args.self.now (g.S.Source.left c.args.source.now);
  never_falls = omega arith;
}

pub ready-requires : goal.ready-requires
ready-requires g c = record { can = c.loop-self.invariant.can }

pub returns-in-Ok-false-clause-gives : goal.returns-in-Ok-false-clause-gives
returns-in-Ok-false-clause-gives g c =
    let readies = rw c.in-Ok-false.field-0-test at c.in-Ok-false.ensures.readies in
    told-end c.args.self.now (g.S.Source.left c.args.source.now) c.finish.result c.loop-self.self c.ready.new.self c.finish.new.self (g.S.Source.left c.loop-self.source) (g.S.Source.left c.ready.new.source) c.ready.ensures.cutter readies c.finish.ensures.last c.loop-self.invariant.leaves

pub returns-in-Ok-false-clause-never_falls : goal.returns-in-Ok-false-clause-never_falls
returns-in-Ok-false-clause-never_falls g c = omega (arith, c.loop-self.invariant.never_falls, c.ready.ensures.never_falls)

pub returns-in-Err-clause-gives : goal.returns-in-Err-clause-gives
returns-in-Err-clause-gives g c =
    told-ready c.args.self.now (g.S.Source.left c.args.source.now) _ c.loop-self.self c.ready.new.self (g.S.Source.left c.loop-self.source) (g.S.Source.left c.ready.new.source) c.ready.ensures.cutter c.in-Err.ensures.readies c.loop-self.invariant.leaves

pub returns-in-Err-clause-cause : goal.returns-in-Err-clause-cause
returns-in-Err-clause-cause g c =
    elim c.in-Err.ensures.cause [
      | inl rose ↦ inl (omega (arith, rose, c.loop-self.invariant.never_falls))
      | inr last ↦ inr last
    ]

pub returns-in-Err-clause-never_falls : goal.returns-in-Err-clause-never_falls
returns-in-Err-clause-never_falls g c = omega (arith, c.loop-self.invariant.never_falls, c.ready.ensures.never_falls)

pub loop-self-smaller : goal.loop-self-smaller
loop-self-smaller g c =
    let used = c.cut.ensures.more c.in-More.is in
    let more = rw c.ready.ensures.cutter at used.more in
    omega (arith, more, used.can.cutting.short)

pub loop-self-preserved : goal.loop-self-preserved
loop-self-preserved g c =
    let used = c.cut.ensures.more c.in-More.is in
    let cuts = subst (λ k. CutsLine k c.ready.new.self c.cut.new.self) c.in-More.is c.cut.ensures.cuts in
    let readied = told-ready c.args.self.now (g.S.Source.left c.args.source.now) _ c.loop-self.self c.ready.new.self (g.S.Source.left c.loop-self.source) (g.S.Source.left c.ready.new.source) c.ready.ensures.cutter c.in-Ok-true.ensures.readies c.loop-self.invariant.leaves in
    record {
      can = used.can;
      count = used.count ∙ (ap (λ k. k.count) c.ready.ensures.cutter ∙ c.loop-self.invariant.count);
      leaves = told-more c.args.self.now (g.S.Source.left c.args.source.now) c.ready.new.self c.cut.new.self (g.S.Source.left c.ready.new.source) cuts readied;
      never_falls = omega (arith, c.loop-self.invariant.never_falls, c.ready.ensures.never_falls);
    }

pub returns-in-Bad-clause-gives : goal.returns-in-Bad-clause-gives
returns-in-Bad-clause-gives g c =
    let cuts = subst (λ k. CutsLine k c.ready.new.self c.cut.new.self) c.in-Bad.is c.cut.ensures.cuts in
    let readied = told-ready c.args.self.now (g.S.Source.left c.args.source.now) _ c.loop-self.self c.ready.new.self (g.S.Source.left c.loop-self.source) (g.S.Source.left c.ready.new.source) c.ready.ensures.cutter c.in-Ok-true.ensures.readies c.loop-self.invariant.leaves in
    told-bad c.args.self.now (g.S.Source.left c.args.source.now) c.in-Bad.fault c.ready.new.self c.cut.new.self (g.S.Source.left c.ready.new.source) cuts readied

pub returns-in-Bad-clause-never_falls : goal.returns-in-Bad-clause-never_falls
returns-in-Bad-clause-never_falls g c = omega (arith, c.loop-self.invariant.never_falls, c.ready.ensures.never_falls)

pub returns-in-Whole-clause-gives : goal.returns-in-Whole-clause-gives
returns-in-Whole-clause-gives g c =
    let cuts = subst (λ k. CutsLine k c.ready.new.self c.cut.new.self) c.in-Whole.is c.cut.ensures.cuts in
    let readied = told-ready c.args.self.now (g.S.Source.left c.args.source.now) _ c.loop-self.self c.ready.new.self (g.S.Source.left c.loop-self.source) (g.S.Source.left c.ready.new.source) c.ready.ensures.cutter c.in-Ok-true.ensures.readies c.loop-self.invariant.leaves in
    told-line c.args.self.now (g.S.Source.left c.args.source.now) c.ready.new.self c.cut.new.self (g.S.Source.left c.ready.new.source) cuts readied

pub returns-in-Whole-clause-line : goal.returns-in-Whole-clause-line
returns-in-Whole-clause-line g c same =
    let one = c.cut.ensures.whole (ap is_line c.in-Whole.is) in
    record { can = one.can; count = one.count ∙ ap (λ n. n + 1) (ap (λ k. k.count) c.ready.ensures.cutter ∙ c.loop-self.invariant.count) }

pub returns-in-Whole-clause-never_falls : goal.returns-in-Whole-clause-never_falls
returns-in-Whole-clause-never_falls g c = omega (arith, c.loop-self.invariant.never_falls, c.ready.ensures.never_falls)
