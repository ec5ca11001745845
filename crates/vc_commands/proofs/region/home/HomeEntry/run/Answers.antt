use Rattle.vc_commands.proofs.Runs.{other-block, runs-any}
use Rattle.vc_commands.proofs.region.home.HomeEntry.run.Goals as goal

pub run_other-requires-clause-other : goal.run_other-requires-clause-other
run_other-requires-clause-other g c = other-block c.args.command.now c.in_default.not-Alloc c.in_default.not-Align c.in_default.not-Resize c.in_default.not-Free

pub returns-in-Alloc-clause-runs : goal.returns-in-Alloc-clause-runs
returns-in-Alloc-clause-runs g c =
    rw c.in-Alloc.is c.allocate.ensures.runs

pub returns-in-Align-clause-runs : goal.returns-in-Align-clause-runs
returns-in-Align-clause-runs g c =
    rw c.in-Align.is c.align.ensures.runs

pub returns-in-Resize-clause-runs : goal.returns-in-Resize-clause-runs
returns-in-Resize-clause-runs g c =
    rw c.in-Resize.is c.resize.ensures.runs

pub returns-in-Free-clause-runs : goal.returns-in-Free-clause-runs
returns-in-Free-clause-runs g c =
    rw c.in-Free.is (runs-any _ _ _ _ _ _ _ _ c.free.ensures.runs)

pub returns-in-Alloc-clause-change : goal.returns-in-Alloc-clause-change
returns-in-Alloc-clause-change g c = rw c.in-Alloc.is c.allocate.ensures.change

pub returns-in-Align-clause-change : goal.returns-in-Align-clause-change
returns-in-Align-clause-change g c = rw c.in-Align.is c.align.ensures.change

pub returns-in-Resize-clause-change : goal.returns-in-Resize-clause-change
returns-in-Resize-clause-change g c = rw c.in-Resize.is c.resize.ensures.change

pub returns-in-Free-clause-change : goal.returns-in-Free-clause-change
returns-in-Free-clause-change g c = rw c.in-Free.is c.free.ensures.change

pub returns-in_default-clause-runs : goal.returns-in_default-clause-runs
returns-in_default-clause-runs g c = rw c.put_answer.ensures c.run_other.ensures.runs
