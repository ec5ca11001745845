use Rattle.vc_base.proofs.Common.{◌≡◌, true, map, filter, sym, refl, ap, ◌∙◌, All-map, filter_passes, AllPairs-filter}
use Rattle.vc_seg.specs.Back.{is_kept, is_marked, stays_from}
use Rattle.vc_seg.proofs.Backs.{Differ, Differ-pairs, HasOut-left, TookBack-none, TookBack-more, first-own, last-own, stays_from-first, stays_from-more, stays_from-last}
use Rattle.vc_seg.proofs.back.give_back.Goals as goal

pub loop-number-init : goal.loop-number-init
loop-number-init g c =
    record {
      segments = sym (stays_from-first g.T.Numbered.pair (is_marked c.args.marks.now) c.args.segs.now.items (first-own g.T.Numbered.pair c.args.segs.now.items c.requires.segments));
      back = TookBack-none _ (map g.T.Numbered.pair c.args.segs.now.items);
      room = refl;
    }

pub give_back_unless-requires-clause-distinct : goal.give_back_unless-requires-clause-distinct
give_back_unless-requires-clause-distinct g c =
    rw c.loop-number.invariant.segments
    (AllPairs-filter (Differ g.T.Numbered.pair) (λ s. stays_from (is_marked c.args.marks.now) c.loop-number.number (g.T.Numbered.pair s).0) c.args.segs.now.items
    (Differ-pairs g.T.Numbered.pair c.args.segs.now.items c.requires.segments.distinct))

pub give_back_unless-requires-clause-ascending : goal.give_back_unless-requires-clause-ascending
give_back_unless-requires-clause-ascending g c =
    rw c.loop-number.invariant.segments
    (All-map (λ s. stays_from (is_marked c.args.marks.now) c.loop-number.number s.0 ≡ true) g.T.Numbered.pair _
    (filter_passes (λ s. stays_from (is_marked c.args.marks.now) c.loop-number.number (g.T.Numbered.pair s).0) c.args.segs.now.items))

pub give_back_unless-requires-clause-out : goal.give_back_unless-requires-clause-out
give_back_unless-requires-clause-out g c =
    HasOut-left _ _ (map g.T.Numbered.pair c.args.segs.now.items) (map g.T.Numbered.pair c.loop-number.segs.items) c.loop-number.invariant.back c.requires.out

pub loop-number-preserved : goal.loop-number-preserved
loop-number-preserved g c =
    record {
      segments =
          c.give_back_unless.ensures.segments
          ∙ (ap (filter (λ s. is_kept (is_marked c.args.marks.now) c.loop-number.number (g.T.Numbered.pair s).0)) c.loop-number.invariant.segments
          ∙ stays_from-more g.T.Numbered.pair (is_marked c.args.marks.now) c.loop-number.number c.args.segs.now.items);
      back = TookBack-more _ _ _ (map g.T.Numbered.pair c.args.segs.now.items) (map g.T.Numbered.pair c.loop-number.segs.items) (map g.T.Numbered.pair c.give_back_unless.new.segs.items) c.loop-number.invariant.back c.give_back_unless.ensures.out;
      room = c.give_back_unless.ensures.room ∙ c.loop-number.invariant.room;
    }

pub returns-clause-segments : goal.returns-clause-segments
returns-clause-segments g c =
    c.loop-number.invariant.segments
    ∙ stays_from-last g.T.Numbered.pair (is_marked c.args.marks.now) c.loop-number.number c.args.segs.now.items (last-own g.T.Numbered.pair c.args.segs.now.items c.requires.segments) c.loop-number-test.false
