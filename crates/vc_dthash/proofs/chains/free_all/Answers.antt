use Rattle.vc_base.proofs.Common.{◌≡◌, length, ap, ◌∙◌, arith}
use Rattle.vc_dtlist.specs.Linked.{IsPlain}
use Rattle.vc_dtlist.proofs.TurnLemmas.{LinksFor-unique}
use Rattle.vc_dtlist.proofs.WordLemmas.{HasBytes-written, WordsWritten-trans}
use Rattle.vc_dthash.proofs.MarkLemmas.{Marking-end, Marking-going, Marking-next, Marking-start}
use Rattle.vc_dthash.proofs.WriteLemmas.{word-same}
use Rattle.vc_dthash.proofs.chains.free_all.Goals as goal

pub loop-passed-init : goal.loop-passed-init
loop-passed-init g c = (
  λ holders s. Marking-start IsPlain c.args.list (g.C.Cells.blocks c.args.cells.now) holders s,
  g.met.C.Cells.reflexive c.args.cells.now,
)

pub set_word-requires-clause-holder : goal.set_word-requires-clause-holder
set_word-requires-clause-holder g c =
    (Marking-going c.requires.links (c.loop-passed.invariant.0 c.requires.holders c.requires.links) (omega (arith, c.loop-passed-test.true, c.requires.many))).words

pub set_word-requires-in-loop-passed-clause-holder : goal.set_word-requires-in-loop-passed-clause-holder
set_word-requires-in-loop-passed-clause-holder g c =
    HasBytes-written (g.C.Cells.blocks c.loop-passed.cells) (g.C.Cells.blocks c.set_word.new.cells) c.loop-passed.at.0 c.loop-passed.at.0 32 c.set_word.ensures.change.written (Marking-going c.requires.links (c.loop-passed.invariant.0 c.requires.holders c.requires.links) (omega (arith, c.loop-passed-test.true, c.requires.many))).words

pub neighbour-at-requires-clause-holder : goal.neighbour-at-requires-clause-holder
neighbour-at-requires-clause-holder g c =
    let mid = g.C.Cells.blocks c.set_word.new.cells in
    let at = c.loop-passed.at.0 in
    HasBytes-written mid (g.C.Cells.blocks c.set_word-in-loop-passed.new.cells) at at 32 c.set_word-in-loop-passed.ensures.change.written
    (HasBytes-written (g.C.Cells.blocks c.loop-passed.cells) mid at at 32 c.set_word.ensures.change.written (Marking-going c.requires.links (c.loop-passed.invariant.0 c.requires.holders c.requires.links) (omega (arith, c.loop-passed-test.true, c.requires.many))).words)

pub neighbour-at-requires-clause-fits : goal.neighbour-at-requires-clause-fits
neighbour-at-requires-clause-fits g c =
    let w = c.set_word.ensures.change.other_words 1 (omega arith) in
    let v = c.set_word-in-loop-passed.ensures.change.other_words 1 (omega arith) in
    let l = (c.loop-passed.invariant.0 c.requires.holders c.requires.links).links c.loop-passed.at.0 1 (omega arith) in
    rw (v, w, l) (Marking-going c.requires.links (c.loop-passed.invariant.0 c.requires.holders c.requires.links) (omega (arith, c.loop-passed-test.true, c.requires.many))).fits

pub loop-passed-preserved : goal.loop-passed-preserved
loop-passed-preserved g c =
    let now = g.C.Cells.blocks c.loop-passed.cells in
    let new = g.C.Cells.blocks c.set_word-in-loop-passed.new.cells in
    let w = c.set_word.ensures.change in
    let v = c.set_word-in-loop-passed.ensures.change in
    let go = Marking-going c.requires.links (c.loop-passed.invariant.0 c.requires.holders c.requires.links) (omega (arith, c.loop-passed-test.true, c.requires.many)) in (
      λ holders s.
          let long : length holders ≡ length c.requires.holders = ap length (LinksFor-unique c.args.list (g.C.Cells.blocks c.args.cells.now) holders c.requires.holders s c.requires.links) in
          Marking-next IsPlain c.args.list (g.C.Cells.blocks c.args.cells.now) now new holders c.loop-passed._passed c.loop-passed.at.0 c.neighbour-at.result.0
          (λ a e p. record { third = word-same now new a 2 e ∙ p.third; fourth = word-same now new a 3 e ∙ p.fourth })
          s (c.loop-passed.invariant.0 holders s) (omega (arith, c.loop-passed-test.true, c.requires.many, long)) (WordsWritten-trans now (g.C.Cells.blocks c.set_word.new.cells) new c.loop-passed.at.0 w.written v.written)
          (λ k few. v.other_words k (omega (arith, few)) ∙ w.other_words k (omega (arith, few)))
          (record { third = v.other_words 2 (omega arith) ∙ w.read go.words.there; fourth = v.read (w.written.there c.loop-passed.at.0 ∙ go.words.there) })
          c.neighbour-at.ensures,
      g.met.C.Cells.transitive c.args.cells.now c.set_word.new.cells c.set_word-in-loop-passed.new.cells (g.met.C.Cells.transitive c.args.cells.now c.loop-passed.cells c.set_word.new.cells c.loop-passed.invariant.1 c.set_word.ensures.rest) c.set_word-in-loop-passed.ensures.rest,
    )

pub returns : goal.returns
returns g c = record {
  change = λ holders s.
      let old = g.C.Cells.blocks c.args.cells.now in
      let long : length holders ≡ length c.requires.holders = ap length (LinksFor-unique c.args.list old holders c.requires.holders s c.requires.links) in
      Marking-end IsPlain c.args.list old (g.C.Cells.blocks c.loop-passed.cells) holders c.loop-passed._passed c.loop-passed.at.0 s
      (c.loop-passed.invariant.0 holders s) (omega (arith, c.loop-passed-test.false, c.requires.many, long));
  rest = c.loop-passed.invariant.1;
}
