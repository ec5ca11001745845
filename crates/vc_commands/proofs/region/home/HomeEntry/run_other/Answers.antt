use Rattle.vc_base.proofs.Common.{sym, refl, subst, w64, SFits, rules, Discipline}
use Rattle.std.proofs.lemmas.Int.{to_z-of_z}
use Rattle.vc_model.proofs.Keeping.{NoneRefused-same}
use Rattle.vc_script.specs.Needs.{NoNeed}
use Rattle.vc_script.specs.declared.refusal.Refusal.TheVariants as why
use Rattle.vc_commands.specs.Held.{home_of}
use Rattle.vc_commands.specs.Audit.{poke_in}
use Rattle.vc_commands.specs.RegionRun.{RunsRegion, held_of, region_with}
use Rattle.vc_commands.proofs.Answers.{change-same, err-all, gives-changed, gives-unchanged, if_ok-map, none-no_segment}
use Rattle.vc_commands.proofs.Grants.{granted-addr, granted-check, granted-poke, granted-profile, granted-read, granted-segment, granted-size, granted-write}
use Rattle.vc_commands.proofs.Runs.{other-region, runs-any, runs-granted}
use Rattle.vc_commands.proofs.region.home.HomeEntry.run_other.Given as given
use Rattle.vc_commands.proofs.region.home.HomeEntry.run_other.Goals as goal

abbrev meaning : (g : given.Over) → (x : g.dyn-1.0.I) × (g.dyn-1.0.entry x).0.Denot → Discipline
meaning g p = (g.dyn-1.0.entry p.0).1.state p.1

pub returns-in-ClearRegion-clause-runs : goal.returns-in-ClearRegion-clause-runs
returns-in-ClearRegion-clause-runs g c =
    rw c.in-ClearRegion.is (runs-granted _ _ _ _ _ _ _ _ (λ h need. tt) c.clear.ensures.step tt c.clear.ensures.served)

pub returns-in-Compact-clause-runs : goal.returns-in-Compact-clause-runs
returns-in-Compact-clause-runs g c =
    rw c.in-Compact.is
    (runs-granted _ _ _ _ _ _ _ _ (λ h need. tt) (λ r. gives-changed (home_of (held_of (meaning g) r c.args.self.now c.args.labels.now)) _ _ c.compact.result (c.compact.ensures.step c.args.labels.now r)) tt c.compact.ensures.served)

pub returns-in-WriteBlock-clause-runs : goal.returns-in-WriteBlock-clause-runs
returns-in-WriteBlock-clause-runs g c =
    rw (c.in-WriteBlock.is, sym c.as_slice.ensures) (runs-granted _ _ _ _ _ _ _ _ (λ h need. granted-write h c.in-WriteBlock.block c.in-WriteBlock.off c.as_slice.result.now) c.write.ensures.step tt c.write.ensures.served)

pub returns-in-ReadBlock-clause-runs : goal.returns-in-ReadBlock-clause-runs
returns-in-ReadBlock-clause-runs g c =
    rw c.in-ReadBlock.is (runs-granted _ c.read.result _ _ _ _ _ _ (λ h need. granted-read h c.in-ReadBlock.block c.in-ReadBlock.off c.in-ReadBlock.len) c.read.ensures (err-all c.read.result refl) (NoneRefused-same _))

pub returns-in-SizeOf-clause-runs : goal.returns-in-SizeOf-clause-runs
returns-in-SizeOf-clause-runs g c =
    rw c.in-SizeOf.is (runs-granted _ _ _ _ _ _ _ _ (λ h need. granted-size h c.in-SizeOf.block) c.size.ensures tt (NoneRefused-same _))

pub returns-in-AddrOf-clause-runs : goal.returns-in-AddrOf-clause-runs
returns-in-AddrOf-clause-runs g c =
    rw c.in-AddrOf.is (runs-granted _ _ _ _ _ _ _ _ (λ h need. granted-addr h c.in-AddrOf.at) (λ r. gives-changed (home_of (held_of (meaning g) r c.args.self.now c.args.labels.now)) _ _ c.addr.result (c.addr.ensures r)) tt (NoneRefused-same _))

pub returns-in-SegmentOf-clause-runs : goal.returns-in-SegmentOf-clause-runs
returns-in-SegmentOf-clause-runs g c =
    rw c.in-SegmentOf.is
    (runs-granted _ _ _ _ _ _ _ _ (λ h need. granted-segment h c.in-SegmentOf.at) (λ r. gives-changed (home_of (held_of (meaning g) r c.args.self.now c.args.labels.now)) _ _ c.segment.result (c.segment.ensures c.args.labels.now r)) tt (NoneRefused-same _))

pub returns-in-StatOf-clause-runs : goal.returns-in-StatOf-clause-runs
returns-in-StatOf-clause-runs g c =
    rw c.in-StatOf.is (runs-granted _ _ _ _ _ _ _ _ (λ h need. tt) (λ r. gives-changed (home_of (held_of (meaning g) r c.args.self.now c.args.labels.now)) _ _ c.stat.result (c.stat.ensures c.args.labels.now r)) tt (NoneRefused-same _))

pub returns-in-Segments-clause-runs : goal.returns-in-Segments-clause-runs
returns-in-Segments-clause-runs g c =
    rw c.in-Segments.is
    (runs-granted _ c.segments.result _ _ _ _ _ _ (λ h need. tt)
    (if_ok-map c.segments.result _ _ (λ told eq r. gives-changed (home_of (held_of (meaning g) r c.args.self.now c.args.labels.now)) _ _ told (eq c.args.labels.now r)) c.segments.ensures) (err-all c.segments.result refl) (NoneRefused-same _))

pub returns-in-Blocks-clause-runs : goal.returns-in-Blocks-clause-runs
returns-in-Blocks-clause-runs g c =
    rw c.in-Blocks.is
    (runs-granted _ c.blocks-in-Blocks.result _ _ _ _ _ _ (λ h need. tt)
    (if_ok-map c.blocks-in-Blocks.result _ _ (λ told eq r. gives-changed (home_of (held_of (meaning g) r c.args.self.now c.args.labels.now)) _ _ told (eq r)) c.blocks-in-Blocks.ensures) (err-all c.blocks-in-Blocks.result refl) (NoneRefused-same _))

pub returns-in-Poke-clause-runs : goal.returns-in-Poke-clause-runs
returns-in-Poke-clause-runs g c =
    let fits : SFits w64 c.in-Poke.off = search rules in
    rw c.in-Poke.is
    (runs-granted _ _ _ _ _ _ _ _ (λ h need. granted-poke h c.in-Poke.block c.in-Poke.off c.in-Poke.byte)
    (subst (λ z. RunsRegion (meaning g) (λ h. poke_in h c.in-Poke.block z c.in-Poke.byte) c.args.self.now c.args.labels.now (region_with c.poke.new.self c.args.labels.now) c.poke.result)
    (to_z-of_z w64 c.in-Poke.off fits) c.poke.ensures.step) tt c.poke.ensures.served)

pub returns-in-Check-clause-runs : goal.returns-in-Check-clause-runs
returns-in-Check-clause-runs g c =
    rw c.in-Check.is
    (runs-granted _ c.check.result _ _ _ _ _ _ (λ h need. granted-check h)
    (if_ok-map c.check.result _ _ (λ told eq r. gives-changed (home_of (held_of (meaning g) r c.args.self.now c.args.labels.now)) _ _ told (eq r)) c.check.ensures) (err-all c.check.result refl) (NoneRefused-same _))

pub returns-in-Watch-clause-runs : goal.returns-in-Watch-clause-runs
returns-in-Watch-clause-runs g c =
    rw c.in-Watch.is (runs-any _ _ _ _ _ _ _ _ c.watch.ensures.runs)

pub returns-in-ProfileOf-clause-runs : goal.returns-in-ProfileOf-clause-runs
returns-in-ProfileOf-clause-runs g c =
    rw c.in-ProfileOf.is
    (runs-granted _ c.profile.result _ _ _ _ _ _ (λ h need. granted-profile h)
    (if_ok-map c.profile.result _ _ (λ told eq r. gives-changed (home_of (held_of (meaning g) r c.args.self.now c.args.labels.now)) _ _ told (eq c.args.labels.now r)) c.profile.ensures) (err-all c.profile.result refl) (NoneRefused-same _))

pub returns-in_default-clause-runs : goal.returns-in_default-clause-runs
returns-in_default-clause-runs g c =
    record {
      step = λ r.
          gives-unchanged (home_of (held_of (meaning g) r c.args.self.now c.args.labels.now)) _ why.NoRegion
          (other-region (home_of (held_of (meaning g) r c.args.self.now c.args.labels.now)) c.args.line c.args.command.now NoNeed c.requires.other c.in_default.not-ClearRegion c.in_default.not-Compact c.in_default.not-WriteBlock c.in_default.not-ReadBlock c.in_default.not-SizeOf c.in_default.not-AddrOf c.in_default.not-SegmentOf c.in_default.not-StatOf c.in_default.not-Segments c.in_default.not-Blocks c.in_default.not-Poke c.in_default.not-Check c.in_default.not-Watch c.in_default.not-ProfileOf);
      err = tt;
      unserved = λ e. absurd (none-no_segment why.NoRegion (λ is. cc) e);
      served = λ _. NoneRefused-same _;
    }

pub returns-in-ClearRegion-clause-change : goal.returns-in-ClearRegion-clause-change
returns-in-ClearRegion-clause-change g c = rw c.in-ClearRegion.is c.clear.ensures.change

pub returns-in-Compact-clause-change : goal.returns-in-Compact-clause-change
returns-in-Compact-clause-change g c = rw c.in-Compact.is (c.compact.ensures.change c.args.labels.now c.requires.names)

pub returns-in-WriteBlock-clause-change : goal.returns-in-WriteBlock-clause-change
returns-in-WriteBlock-clause-change g c = rw c.in-WriteBlock.is c.write.ensures.change

pub returns-in-Poke-clause-change : goal.returns-in-Poke-clause-change
returns-in-Poke-clause-change g c = rw c.in-Poke.is c.poke.ensures.change

pub returns-in-Watch-clause-change : goal.returns-in-Watch-clause-change
returns-in-Watch-clause-change g c = rw c.in-Watch.is c.watch.ensures.change

pub returns-in-ReadBlock-clause-change : goal.returns-in-ReadBlock-clause-change
returns-in-ReadBlock-clause-change g c = rw c.in-ReadBlock.is (λ r. change-same (held_of (meaning g) r c.args.self.now c.args.labels.now) c.args.labels.now c.requires.lent c.requires.names)

pub returns-in-SizeOf-clause-change : goal.returns-in-SizeOf-clause-change
returns-in-SizeOf-clause-change g c = rw c.in-SizeOf.is (λ r. change-same (held_of (meaning g) r c.args.self.now c.args.labels.now) c.args.labels.now c.requires.lent c.requires.names)

pub returns-in-AddrOf-clause-change : goal.returns-in-AddrOf-clause-change
returns-in-AddrOf-clause-change g c = rw c.in-AddrOf.is (λ r. change-same (held_of (meaning g) r c.args.self.now c.args.labels.now) c.args.labels.now c.requires.lent c.requires.names)

pub returns-in-SegmentOf-clause-change : goal.returns-in-SegmentOf-clause-change
returns-in-SegmentOf-clause-change g c = rw c.in-SegmentOf.is (λ r. change-same (held_of (meaning g) r c.args.self.now c.args.labels.now) c.args.labels.now c.requires.lent c.requires.names)

pub returns-in-StatOf-clause-change : goal.returns-in-StatOf-clause-change
returns-in-StatOf-clause-change g c = rw c.in-StatOf.is (λ r. change-same (held_of (meaning g) r c.args.self.now c.args.labels.now) c.args.labels.now c.requires.lent c.requires.names)

pub returns-in-Segments-clause-change : goal.returns-in-Segments-clause-change
returns-in-Segments-clause-change g c = rw c.in-Segments.is (λ r. change-same (held_of (meaning g) r c.args.self.now c.args.labels.now) c.args.labels.now c.requires.lent c.requires.names)

pub returns-in-Blocks-clause-change : goal.returns-in-Blocks-clause-change
returns-in-Blocks-clause-change g c = rw c.in-Blocks.is (λ r. change-same (held_of (meaning g) r c.args.self.now c.args.labels.now) c.args.labels.now c.requires.lent c.requires.names)

pub returns-in-Check-clause-change : goal.returns-in-Check-clause-change
returns-in-Check-clause-change g c = rw c.in-Check.is (λ r. change-same (held_of (meaning g) r c.args.self.now c.args.labels.now) c.args.labels.now c.requires.lent c.requires.names)

pub returns-in-ProfileOf-clause-change : goal.returns-in-ProfileOf-clause-change
returns-in-ProfileOf-clause-change g c = rw c.in-ProfileOf.is (λ r. change-same (held_of (meaning g) r c.args.self.now c.args.labels.now) c.args.labels.now c.requires.lent c.requires.names)
