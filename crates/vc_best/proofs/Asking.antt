-- What a call that may ask for a segment answers, and leaves of the discipline.
use Rattle.vc_base.proofs.Common.{◌≡◌, ℕ, Bool, true, false, Some, None, Ok, Err, Option, Result, sym, refl, ap, ◌∙◌, subst, place_of, best_alloc, best_need, place_in, put_at, put_in_new, put_or_ask, Discipline, Terms, Layout, with_grant, Outcome, Put, Grant, Granted, ask}
use Rattle.vc_best.proofs.Common.{Addr, IsPutByAsking, IsPutInGap}
use Rattle.vc_model.specs.Best.{put}
use Rattle.vc_model.proofs.Owned.{address-place_of}
use Rattle.vc_seg.specs.declared.fault.RegionFault.{RegionFault}
use Rattle.vc_seg.specs.declared.fault.RegionFault.TheVariants as code
use Rattle.vc_seg.specs.Answer.{Answers, Asks, IsPut}
use Rattle.vc_seg.specs.Lend.{IsNoGrant}
use Rattle.vc_seg.proofs.Segments.{Served-unasked}

-- before it the layout was the same, but for links
pub IsPutByAsking-same : (old mid new : Layout ℕ) (terms : Terms) (label size align : ℕ) (result : Result Addr RegionFault) → mid ≡ old →
    IsPutByAsking terms result mid new label size align → IsPutByAsking terms result old new label size align
IsPutByAsking-same old mid new terms label size align result same h = subst (λ (r : Layout ℕ). IsPutByAsking terms result r new label size align) same h

-- a block was put in a gap
module _ (old new : Layout ℕ) (label size align : ℕ) (a : Addr) (p : IsPutInGap old new label size align a.0) where
  kept : IsPut (put_at old label size None (place_of a.0)) a.0 new
  kept = (sym (address-place_of a.0), refl, p.layout)

  pub Answers-in_gap : (terms : Terms) → Answers (best_alloc terms old label size align) (Ok a) old new
  Answers-in_gap terms = subst (λ (o : Option (ℕ × ℕ)). IsPut (put_or_ask terms old label size align false o) a.0 new) (sym p.place) kept

  pub Asks-in_gap : (d : Discipline) (need : ℕ) → Asks (Ok a) d d old.segments new.segments need
  Asks-in_gap d need = Served-unasked d old.segments new.segments need (ap (λ (r : Layout ℕ). r.segments) p.layout)

-- a segment was asked for, where the block had no place
module _ (old new : Layout ℕ) (terms : Terms) (label size align : ℕ) (none : place_in old size align ≡ None) where
  asked : (refused : Bool) → best_alloc terms old label size align refused ≡ put_in_new old label size align (ask terms (best_need terms size align) old.segments refused)
  asked refused = ap (put_or_ask terms old label size align refused) none

  pub Answers-granted : (g : Grant) → ask terms (best_need terms size align) old.segments false ≡ Granted g → (a : Addr) → IsPutInGap (with_grant old g) new label size align a.0 →
      Answers (best_alloc terms old label size align) (Ok a) old new
  Answers-granted g granted a p =
      subst (λ (o : Outcome (Put (Layout ℕ))). IsPut o a.0 new)
      (sym (asked false ∙ ap (put_in_new old label size align) granted ∙ ap (put (with_grant old g) label size (Some g)) p.place))
      (sym (address-place_of a.0), refl, p.layout)

  pub Answers-fault : (e : RegionFault) → IsNoGrant terms (best_need terms size align) old.segments e → new ≡ old → Answers (best_alloc terms old label size align) (Err e) old new
  Answers-fault code.TooManySegments why same = (asked false ∙ ap (put_in_new old label size align) why, same)
  Answers-fault code.NoSegment why same = (asked true ∙ ap (put_in_new old label size align) why, same)
  Answers-fault code.OutOfMemory why same = (tt, same)
  Answers-fault code.Fixed why same = absurd why
  Answers-fault code.PoolSize why same = absurd why
  Answers-fault code.NotLast why same = absurd why
  Answers-fault code.WrongMethod why same = absurd why
