use Rattle.vc_base.proofs.Common.{◌≡◌, ℕ, ◌+◌, ◌≤◌, Bool, List, map, Err, sym, ap, ◌∙◌, subst, arith, Discipline, HasOut, last_need, last_place, Block, Layout, with_grant, ask, round_up, span, HasBlock, false}
use Rattle.vc_seg.specs.Segment.{Bytes, pair_of}
use Rattle.vc_seg.proofs.Rounding.{IsSegmentSize-asked, round_up-least}
use Rattle.vc_seg.specs.Lend.{IsNoGrant}
use Rattle.vc_seg.specs.declared.fault.RegionFault.TheVariants as code
use Rattle.vc_last.specs.Chain.{IsLast}
use Rattle.vc_last.specs.Place.{with_latest}
use Rattle.vc_last.specs.Read.{layout_by}
use Rattle.vc_last.proofs.Granted.{granted-kept, granted-layout, granted-place}
use Rattle.vc_last.proofs.Kept.{layout-from, row-by}
use Rattle.vc_last.proofs.Places.{place-last}
use Rattle.vc_last.proofs.Puts.{put-in-new, refused-disc, refused-new, served-need}
use Rattle.vc_last.proofs.put.put_in_new.Goals as goal
use Rattle.vc_last.proofs.put.put_in_new.Goals.{After-rounded_up-bytes, After-place, In-Ok}
use Rattle.vc_last.proofs.put.put_in_new.Given.{Over}

-- the discipline before
abbrev disc : (g : Over) (c : After-rounded_up-bytes g) → Discipline
disc g c = (goal.SegDisc-dyn g (c.args.disc.now.vtable, c.args.disc.now.value)).state c.args.disc.now.value

room : (g : Over) (c : After-rounded_up-bytes g) → 32 + span c.args.size ≤ c.rounded_up-bytes.result
room g c =
    let least = c.round_of.ensures.legal.least in
    rw (c.rounded_up-bytes.ensures, c.span_of.ensures) (let low = round_up-least (span c.args.size + 32) c.round_of.result (omega (arith, least)) in omega (arith, low))

segments : (g : Over) (c : After-rounded_up-bytes g) → (layout_by c.args.segs.now.items c.args.latest.now.0).segments ≡ map pair_of c.args.segs.now.items
segments g c = ap (λ (r : Layout ℕ). r.segments) (layout-from c.args.segs.now.items c.args.latest.now.0)

-- what a region needs for the block, and why it wants memory only where it may be granted that
need : (g : Over) (c : After-rounded_up-bytes g) → c.rounded_up-bytes.result ≡ round_up (span c.args.size + 32) (disc g c).terms.round
need g c = c.rounded_up-bytes.ensures ∙ (ap (λ k. round_up (k + 32) c.round_of.result) c.span_of.ensures ∙ ap (round_up (span c.args.size + 32)) c.round_of.ensures.value)

asks : (g : Over) (c : After-rounded_up-bytes g) (refused : Bool) → ask (disc g c).terms c.rounded_up-bytes.result (map pair_of c.args.segs.now.items) refused ≡ ask (disc g c).terms (last_need (disc g c).terms c.args.size) (layout_by c.args.segs.now.items c.args.latest.now.0).segments refused
asks g c refused = ap (λ ss. ask (disc g c).terms c.rounded_up-bytes.result ss refused) (sym (segments g c)) ∙ ap (λ b. ask (disc g c).terms b (layout_by c.args.segs.now.items c.args.latest.now.0).segments refused) (need g c)

pub ask_for-requires-clause-lent : goal.ask_for-requires-clause-lent
ask_for-requires-clause-lent g c =
    let at = (goal.at.ask_for-requires-clause-lent g c).After-rounded_up-bytes in
    subst (HasOut (disc g at)) (segments g at) c.requires.lent

pub ask_for-requires-clause-bytes : goal.ask_for-requires-clause-bytes
ask_for-requires-clause-bytes g c =
    let some = c.requires.size.some in
    let most = c.requires.size.most in
    rw (c.rounded_up-bytes.ensures, c.span_of.ensures) (IsSegmentSize-asked c.round_of.result (span c.args.size + 32) c.round_of.ensures.legal (omega (arith, some)) (omega (arith, most)))

-- what was granted keeps the blocks
kept : (g : Over) (c : In-Ok g) → IsLast c.ask_for.new.segs.items c.args.latest.now.0
kept g c = granted-kept (disc g (goal.at.In-Ok g c).After-rounded_up-bytes).terms c.rounded_up-bytes.result c.args.latest.now.0 c.args.segs.now.items c.ask_for.new.segs.items c.requires.kept.last c.in-Ok.ensures.obtained.legal c.in-Ok.ensures.obtained.granted

grown : (g : Over) (c : In-Ok g) → layout_by c.ask_for.new.segs.items c.args.latest.now.0 ≡ with_grant (layout_by c.args.segs.now.items c.args.latest.now.0) c.in-Ok.ensures.obtained.granted.grant
grown g c = granted-layout (disc g (goal.at.In-Ok g c).After-rounded_up-bytes).terms c.rounded_up-bytes.result c.args.latest.now.0 c.args.segs.now.items c.ask_for.new.segs.items c.requires.kept.last c.in-Ok.ensures.obtained.legal c.in-Ok.ensures.obtained.granted

pub place-requires-clause-kept : goal.place-requires-clause-kept
place-requires-clause-kept g c = rw c.deref.ensures.value (kept g (goal.at.place-requires-clause-kept g c).In-Ok)

there : (g : Over) (c : After-place g) → c.place.result ≡ last_place (layout_by c.ask_for.new.segs.items c.args.latest.now.0) c.args.size
there g c = rw c.deref.ensures.value at c.place.ensures

pub unreachable-requires : goal.unreachable-requires
unreachable-requires g c =
    let at = goal.at.unreachable-requires g c in
    let before = at.After-rounded_up-bytes in
    granted-place (disc g before).terms c.rounded_up-bytes.result c.args.latest.now.0 c.args.segs.now.items c.ask_for.new.segs.items c.requires.kept.last c.in-Ok.ensures.obtained.legal c.in-Ok.ensures.obtained.granted c.args.size (room g before) (sym (there g at.After-place) ∙ c.in_default.is)

pub put-a-requires-clause-kept : goal.put-a-requires-clause-kept
put-a-requires-clause-kept g c = record { last = kept g (goal.at.put-a-requires-clause-kept g c).In-Ok; room = c.ask_for.ensures.room }

pub put-a-requires-clause-place : goal.put-a-requires-clause-place
put-a-requires-clause-place g c =
    let at = goal.at.put-a-requires-clause-place g c in
    place-last (layout_by c.ask_for.new.segs.items c.args.latest.now.0) c.args.size c.in-Some.room (row-by c.ask_for.new.segs.items c.args.latest.now.0 (kept g at.In-Ok)) (sym (there g at.After-place) ∙ c.in-Some.is)

pub returns-in-Some-clause-alloc : goal.returns-in-Some-clause-alloc
returns-in-Some-clause-alloc g c =
    let at = goal.at.returns-in-Some-clause-alloc g c in
    let before = at.After-rounded_up-bytes in
    let r : Layout ℕ = layout_by c.args.segs.now.items c.args.latest.now.0 in
    let got = c.in-Ok.ensures.obtained.granted in
    let new = grown g at.In-Ok in
    let made = c.put-a.ensures.layout ∙ ap (λ (q : Layout ℕ). with_latest q c.args.tag c.args.size c.in-Some.room) new in
    let pairs = ap (λ (q : Layout ℕ). q.segments) (layout-from c.ask_for.new.segs.items c.args.latest.now.0) in
    let after : (layout_by c.put-a.new.segs.items c.put-a.result.0).segments ≡ map pair_of c.ask_for.new.segs.items = ap (λ (q : Layout ℕ). q.segments) c.put-a.ensures.layout ∙ pairs in
    let e = (goal.SegDisc-dyn g (c.ask_for.new.disc.vtable, c.ask_for.new.disc.value)).state c.ask_for.new.disc.value in
    record {
      answer = put-in-new _ r c.args.tag c.args.size c.rounded_up-bytes.result (need g before) c.requires.none _ got.grant c.in-Some.room c.put-a.result.0
          (ap (λ ss. ask (disc g before).terms c.rounded_up-bytes.result ss false) (segments g before) ∙ got.granted)
          (ap (λ (q : Layout ℕ). last_place q c.args.size) (sym new) ∙ (sym (there g at.After-place) ∙ c.in-Some.is)) c.put-a.ensures.at.address c.put-a.ensures.at.place made;
      disc = served-need (disc g before) e r.segments (map pair_of c.args.segs.now.items) (map pair_of c.ask_for.new.segs.items) _ c.rounded_up-bytes.result _ (segments g before) after (need g before) c.in-Ok.ensures.obtained.served;
      fresh = subst (λ (bs : List (Block ℕ)). ¬ HasBlock bs c.put-a.result.0) (ap (λ (q : Layout ℕ). q.blocks) new) c.put-a.ensures.fresh;
      no_memory = λ wants. absurd (cc);
    }

pub returns-in-Err-clause-alloc : goal.returns-in-Err-clause-alloc
returns-in-Err-clause-alloc g c =
    let before = (goal.at.returns-in-Err-clause-alloc g c).After-rounded_up-bytes in
    let r : Layout ℕ = layout_by c.args.segs.now.items c.args.latest.now.0 in
    let got = c.in-Err.ensures.obtained in
    let same = ap (λ (xs : List Bytes). layout_by xs c.args.latest.now.0) got.same in
    record {
      answer = (refused-new _ r c.args.tag c.args.size c.rounded_up-bytes.result (need g before) c.requires.none c.in-Err.fault (subst (λ ss. IsNoGrant (disc g before).terms c.rounded_up-bytes.result ss c.in-Err.fault) (sym (segments g before)) got.fault), same);
      disc = refused-disc c.in-Err.fault _ _ r.segments _ c.rounded_up-bytes.result _ (need g before) (ap (λ (q : Layout ℕ). q.segments) same) got.refused;
      fresh = tt;
      no_memory = λ wants.
          let lacks : c.in-Err.fault ≡ code.OutOfMemory = cc in
          record { none = c.requires.none; may = λ many. got.may (ap Err lacks) (asks g before false ∙ many) };
    }

pub returns-in-Err-clause-kept : goal.returns-in-Err-clause-kept
returns-in-Err-clause-kept g c = record { last = subst (λ (xs : List Bytes). IsLast xs c.args.latest.now.0) (sym c.in-Err.ensures.obtained.same) c.requires.kept.last; room = c.ask_for.ensures.room }
