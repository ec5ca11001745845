use Rattle.vc_base.proofs.Common.{◌≡◌, [], ◌++◌, take, IfSome, Some, Ok, refl, ap, ◌∙◌, subst, arith, Discipline, rules}
use Rattle.vc_model.specs.Stream.{Reads}
use Rattle.vc_session.proofs.SessionLasts.{arming-same, arming-trans}
use Rattle.vc_session.proofs.Progress.{told-more, told-none}
use Rattle.vc_steps.proofs.SettledShelf.{keeps-same}
use Rattle.vc_session.proofs.HowFar.{part-arms, piece-far, so_far-here, so_far-not_ahead, wrote-front, wrote-part}
use Rattle.vc_session.proofs.SoFar.{at-end, if_err, new-is, on_err, so_far-cut_short, so_far-over, so_far-read, so_far-start}
use Rattle.vc_session.specs.Engine.{gathered}
use Rattle.vc_session.specs.SoFar.{RanPartBy, SoFar}
use Rattle.vc_steps.specs.Moment.{moment, over_sink}
use Rattle.vc_session.proofs.engine.run_lines.Given as given
use Rattle.vc_session.proofs.engine.run_lines.Goals as goal
use Rattle.vc_session.proofs.engine.run_lines.Goals.{After-run_last-ran, After-run_piece-ran}

abbrev meaning : (g : given.Over) → (x : g.dyn-1.0.I) × (g.dyn-1.0.entry x).0.Denot → Discipline
meaning g p = (g.dyn-1.0.entry p.0).1.state p.1

-- a piece was read behind what was run, and what of it was run
piece-read : (g : given.Over) (c : After-run_piece-ran g) → SoFar c.args.tool c.args.quiet (over_sink (moment (meaning g) g.D.DictDisc.rules g.D.DictDisc.gone c.args.shelf.now c.args.session.now c.args.kinds.now.items) (g.O.Sink.written c.args.out.now)) (over_sink (moment (meaning g) g.D.DictDisc.rules g.D.DictDisc.gone c.loop-n.shelf c.loop-n.session c.loop-n.kinds.items) (g.O.Sink.written c.loop-n.out)) c.loop-n.scratch.counts c.loop-n.invariant.text (g.S.Source.left c.args.source.now) (g.S.Source.left c.read.new.self) c.loop-n.cutter (take c.in_ok-n.n c.read.new.buf)
piece-read g c = so_far-read _ _ c.in_ok-n.n c.loop-n.invariant.so_far c.loop-n.invariant.feeds.cutting (c.read.auto.buf ∙ c.loop-n.invariant.room) c.in_ok-n.ensures.ok

piece-part : (g : given.Over) (c : After-run_piece-ran g) → IfSome (g.S.Source.left c.args.source.now) (λ input. RanPartBy c.args.tool c.args.quiet (over_sink (moment (meaning g) g.D.DictDisc.rules g.D.DictDisc.gone c.args.shelf.now c.args.session.now c.args.kinds.now.items) (g.O.Sink.written c.args.out.now)) (gathered (moment (meaning g) g.D.DictDisc.rules g.D.DictDisc.gone c.run_piece-ran.new.shelf c.run_piece-ran.new.session c.run_piece-ran.new.kinds.items) c.run_piece-ran.new.scratch) (c.loop-n.invariant.text ++ c.run_piece-ran.new.scratch.replies.items) input)
piece-part g c = (piece-far c.run_piece-ran.ensures.runs.runs).far (so_far-over _ (piece-read g c))

-- the source was at its end, and what of its last line was run
none-read : (g : given.Over) (c : After-run_last-ran g) → Reads (g.S.Source.left c.loop-n.source) (g.S.Source.left c.read.new.self) c.read.new.buf 0
none-read g c = subst (Reads _ _ c.read.new.buf) c.if-n-eq0.true c.in_ok-n.ensures.ok

all-read : (g : given.Over) (c : After-run_last-ran g) → SoFar c.args.tool c.args.quiet (over_sink (moment (meaning g) g.D.DictDisc.rules g.D.DictDisc.gone c.args.shelf.now c.args.session.now c.args.kinds.now.items) (g.O.Sink.written c.args.out.now)) (over_sink (moment (meaning g) g.D.DictDisc.rules g.D.DictDisc.gone c.loop-n.shelf c.loop-n.session c.loop-n.kinds.items) (g.O.Sink.written c.loop-n.out)) c.loop-n.scratch.counts c.loop-n.invariant.text (g.S.Source.left c.args.source.now) (g.S.Source.left c.read.new.self) c.loop-n.cutter []
all-read g c = so_far-read _ c.read.new.buf 0 c.loop-n.invariant.so_far c.loop-n.invariant.feeds.cutting (c.read.auto.buf ∙ c.loop-n.invariant.room) (none-read g c)

at-its-end : (g : given.Over) (c : After-run_last-ran g) → IfSome (g.S.Source.left c.args.source.now) (λ input. (g.S.Source.left c.read.new.self) ≡ Some [])
at-its-end g c = at-end _ c.read.new.buf c.loop-n.invariant.so_far (c.read.auto.buf ∙ c.loop-n.invariant.room) (none-read g c)

last-part : (g : given.Over) (c : After-run_last-ran g) → IfSome (g.S.Source.left c.args.source.now) (λ input. RanPartBy c.args.tool c.args.quiet (over_sink (moment (meaning g) g.D.DictDisc.rules g.D.DictDisc.gone c.args.shelf.now c.args.session.now c.args.kinds.now.items) (g.O.Sink.written c.args.out.now)) (gathered (moment (meaning g) g.D.DictDisc.rules g.D.DictDisc.gone c.run_last-ran.new.shelf c.run_last-ran.new.session c.run_last-ran.new.kinds.items) c.run_last-ran.new.scratch) (c.loop-n.invariant.text ++ c.run_last-ran.new.scratch.replies.items) input)
last-part g c = c.run_last-ran.ensures.runs.far.far (so_far-over _ (all-read g c)) (at-its-end g c)

pub loop-n-init : goal.loop-n-init
loop-n-init g c =
    rw c.requires.new
    (record {
      room = refl;
      none = c.requires.none;
      feeds = record { is_open = refl; cutting = new-is };
      lasts = arming-same c.requires.begins.over.stands;
      counts = c.requires.begins.can;
      unarmed = λ none. c.requires.unarmed;
      text = [];
      so_far = so_far-start _ _ _ _ _ c.requires.unarmed c.requires.begins.over.proper c.requires.begins.zero;
      told = told-none _;
      reads = omega arith;
      writes = omega arith;
    })

pub returns-in_err-n : goal.returns-in_err-n
returns-in_err-n g c =
    record {
      lasts = c.loop-n.invariant.lasts;
      runs = record {
        at_end = search rules;
        cut_short = if_err _ _ _ (so_far-cut_short _ _ c.loop-n.invariant.so_far c.loop-n.invariant.feeds.cutting c.in_err-n.ensures.err c.loop-n.invariant.told);
        far = on_err _ _ (wrote-part _ _ _ _ _ _ c.loop-n.invariant.text (so_far-here c.loop-n.invariant.so_far) (keeps-same _) c.loop-n.invariant.told);
        not_ahead = search rules;
        arms = part-arms _ _ _ _ _ _ (so_far-here c.loop-n.invariant.so_far);
        read = search rules;
        write = search rules;
        reads = omega (arith, c.loop-n.invariant.reads, c.read.ensures.never_falls);
        writes = c.loop-n.invariant.writes;
      };
    }

pub run_piece-ran-requires-clause-session : goal.run_piece-ran-requires-clause-session
run_piece-ran-requires-clause-session g c = c.loop-n.invariant.lasts.lasts.stands

pub returns-in_err-write_all : goal.returns-in_err-write_all
returns-in_err-write_all g c =
    let p = (goal.at.returns-in_err-write_all g c).After-run_piece-ran in
    let front = rw c.as_slice.ensures.value at c.write_all.ensures.front in
    record {
      lasts = arming-trans c.loop-n.invariant.lasts c.run_piece-ran.ensures.runs.lasts;
      runs = record {
        at_end = search rules;
        cut_short = search rules;
        far = on_err _ _ (wrote-front _ _ _ _ _ _ c.loop-n.invariant.text _ _ (piece-part g p) (keeps-same _) c.loop-n.invariant.told front);
        not_ahead = if_err _ _ _ (so_far-not_ahead _ c.read.new.buf c.in_ok-n.n _ _ _ c.loop-n.invariant.so_far (c.read.auto.buf ∙ c.loop-n.invariant.room) c.in_ok-n.ensures.ok c.loop-n.invariant.told front);
        arms = part-arms _ _ _ _ _ _ (piece-part g p);
        read = search rules;
        write = search rules;
        reads = omega (arith, c.loop-n.invariant.reads, c.read.ensures.never_falls);
        writes = omega (arith, c.loop-n.invariant.writes, c.write_all.ensures.never_falls);
      };
    }

pub returns-in_err-bad : goal.returns-in_err-bad
returns-in_err-bad g c =
    let p = (goal.at.returns-in_err-bad g c).After-run_piece-ran in
    record {
      lasts = arming-trans c.loop-n.invariant.lasts c.run_piece-ran.ensures.runs.lasts;
      runs = record {
        at_end = search rules;
        cut_short = search rules;
        far = on_err _ _ (wrote-part _ _ _ _ _ _ _ (piece-part g p) (keeps-same _) (told-more _ _ _ c.loop-n.invariant.text _ c.loop-n.invariant.told (rw c.as_slice.ensures.value at c.in_ok-write_all.ensures.ok)));
        not_ahead = search rules;
        arms = part-arms _ _ _ _ _ _ (piece-part g p);
        read = search rules;
        write = search rules;
        reads = omega (arith, c.loop-n.invariant.reads, c.read.ensures.never_falls);
        writes = omega (arith, c.loop-n.invariant.writes, c.write_all.ensures.never_falls);
      };
    }

pub returns-in-Some : goal.returns-in-Some
returns-in-Some g c =
    let p = (goal.at.returns-in-Some g c).After-run_piece-ran in
    record {
      lasts = arming-trans c.loop-n.invariant.lasts c.run_piece-ran.ensures.runs.lasts;
      runs = record {
        at_end = (c.run_piece-ran.ensures.runs.runs.bad c.in-Some.bad (c.in_ok-bad.was ∙ ap (λ o. Ok o) c.in-Some.is)).end _ (so_far-over _ (piece-read g p)) (told-more _ _ _ c.loop-n.invariant.text _ c.loop-n.invariant.told (rw c.as_slice.ensures.value at c.in_ok-write_all.ensures.ok));
        cut_short = tt;
        far = tt;
        not_ahead = tt;
        arms = part-arms _ _ _ _ _ _ (piece-part g p);
        read = tt;
        write = tt;
        reads = omega (arith, c.loop-n.invariant.reads, c.read.ensures.never_falls);
        writes = omega (arith, c.loop-n.invariant.writes, c.write_all.ensures.never_falls);
      };
    }

pub loop-n-preserved : goal.loop-n-preserved
loop-n-preserved g c =
    let none = c.in_ok-bad.was ∙ ap (λ o. Ok o) c.in-None.is in
    let p = (goal.at.loop-n-preserved g c).After-run_piece-ran in
    record {
      room = c.read.auto.buf ∙ c.loop-n.invariant.room;
      none = c.clear.ensures.items;
      feeds = c.run_piece-ran.ensures.runs.runs.open_is none;
      counts = c.run_piece-ran.ensures.runs.runs.counted none;
      lasts = arming-trans c.loop-n.invariant.lasts c.run_piece-ran.ensures.runs.lasts;
      unarmed = c.run_piece-ran.ensures.unarmed none;
      text = c.loop-n.invariant.text ++ c.run_piece-ran.new.scratch.replies.items;
      so_far = so_far-over _ ((c.run_piece-ran.ensures.runs.runs.good none).on (so_far-over _ (piece-read g p)));
      told = told-more _ _ _ c.loop-n.invariant.text _ c.loop-n.invariant.told (rw c.as_slice.ensures.value at c.in_ok-write_all.ensures.ok);
      reads = omega (arith, c.loop-n.invariant.reads, c.read.ensures.never_falls);
      writes = omega (arith, c.loop-n.invariant.writes, c.write_all.ensures.never_falls);
    }

pub run_last-ran-requires-clause-session : goal.run_last-ran-requires-clause-session
run_last-ran-requires-clause-session g c = c.loop-n.invariant.lasts.lasts.stands

pub returns-in_err-write_all-2 : goal.returns-in_err-write_all-2
returns-in_err-write_all-2 g c =
    let l = (goal.at.returns-in_err-write_all-2 g c).After-run_last-ran in
    let front = rw c.as_slice-2.ensures.value at c.write_all-2.ensures.front in
    record {
      lasts = arming-trans c.loop-n.invariant.lasts c.run_last-ran.ensures.lasts;
      runs = record {
        at_end = search rules;
        cut_short = search rules;
        far = on_err _ _ (wrote-front _ _ _ _ _ _ c.loop-n.invariant.text _ _ (last-part g l) (keeps-same _) c.loop-n.invariant.told front);
        not_ahead = if_err _ _ _ (so_far-not_ahead _ c.read.new.buf 0 _ _ _ c.loop-n.invariant.so_far (c.read.auto.buf ∙ c.loop-n.invariant.room) (none-read g l) c.loop-n.invariant.told front);
        arms = part-arms _ _ _ _ _ _ (last-part g l);
        read = search rules;
        write = search rules;
        reads = omega (arith, c.loop-n.invariant.reads, c.read.ensures.never_falls);
        writes = omega (arith, c.loop-n.invariant.writes, c.write_all-2.ensures.never_falls);
      };
    }

pub returns-in_err-ran : goal.returns-in_err-ran
returns-in_err-ran g c =
    let l = (goal.at.returns-in_err-ran g c).After-run_last-ran in
    record {
      lasts = arming-trans c.loop-n.invariant.lasts c.run_last-ran.ensures.lasts;
      runs = record {
        at_end = search rules;
        cut_short = search rules;
        far = on_err _ _ (wrote-part _ _ _ _ _ _ _ (last-part g l) (keeps-same _) (told-more _ _ _ c.loop-n.invariant.text _ c.loop-n.invariant.told (rw c.as_slice-2.ensures.value at c.in_ok-write_all-2.ensures.ok)));
        not_ahead = search rules;
        arms = part-arms _ _ _ _ _ _ (last-part g l);
        read = search rules;
        write = search rules;
        reads = omega (arith, c.loop-n.invariant.reads, c.read.ensures.never_falls);
        writes = omega (arith, c.loop-n.invariant.writes, c.write_all-2.ensures.never_falls);
      };
    }

pub returns : goal.returns
returns g c =
    let l = (goal.at.returns g c).After-run_last-ran in
    let ends = rw c.in_ok-ran.was at c.run_last-ran.ensures.runs.ended in
    record {
      lasts = arming-trans c.loop-n.invariant.lasts c.run_last-ran.ensures.lasts;
      runs = record {
        at_end = ends.end _ (so_far-over _ (all-read g l)) (at-its-end g l) (told-more _ _ _ c.loop-n.invariant.text _ c.loop-n.invariant.told (rw c.as_slice-2.ensures.value at c.in_ok-write_all-2.ensures.ok));
        cut_short = tt;
        far = tt;
        not_ahead = tt;
        arms = part-arms _ _ _ _ _ _ (last-part g l);
        read = tt;
        write = tt;
        reads = omega (arith, c.loop-n.invariant.reads, c.read.ensures.never_falls);
        writes = omega (arith, c.loop-n.invariant.writes, c.write_all-2.ensures.never_falls);
      };
    }
