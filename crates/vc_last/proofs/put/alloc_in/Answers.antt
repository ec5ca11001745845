use Rattle.vc_base.proofs.Common.{◌≡◌, ℕ, Some, sym, ap, ◌∙◌, Layout}
use Rattle.vc_last.specs.Place.{IsBlockPlace}
use Rattle.vc_last.specs.Read.{layout_by}
use Rattle.vc_last.proofs.Kept.{row-by}
use Rattle.vc_last.proofs.Places.{place-last}
use Rattle.vc_last.proofs.Puts.{put-there, unasked}
use Rattle.vc_last.proofs.put.alloc_in.Goals as goal
use Rattle.vc_last.proofs.put.alloc_in.Goals.{After-place}
use Rattle.vc_last.proofs.put.alloc_in.Given.{Over}

here : (g : Over) (c : After-place g) (at : ℕ × ℕ) → c.place.result ≡ Some at → IsBlockPlace (layout_by c.args.segs.now.items c.args.latest.now.0) c.args.size at
here g c at e = place-last (layout_by c.args.segs.now.items c.args.latest.now.0) c.args.size at (row-by c.args.segs.now.items c.args.latest.now.0 c.requires.kept.last) (rw c.deref.ensures.value at (sym c.place.ensures ∙ e))

pub put-a-requires-clause-place : goal.put-a-requires-clause-place
put-a-requires-clause-place g c = here g (goal.at.put-a-requires-clause-place g c).After-place c.in-Some.at c.in-Some.is

pub returns-in-Some-clause-alloc : goal.returns-in-Some-clause-alloc
returns-in-Some-clause-alloc g c =
    let r : Layout ℕ = layout_by c.args.segs.now.items c.args.latest.now.0 in
    record {
      answer = put-there _ r _ c.args.tag c.args.size c.put-a.result.0 c.in-Some.at (rw c.deref.ensures.value at (sym c.place.ensures ∙ c.in-Some.is)) c.put-a.ensures.at.address c.put-a.ensures.at.place c.put-a.ensures.layout;
      disc = unasked _ r.segments _ _ (ap (λ (q : Layout ℕ). q.segments) c.put-a.ensures.layout);
      fresh = c.put-a.ensures.fresh;
      no_memory = λ e. absurd (cc);
    }
