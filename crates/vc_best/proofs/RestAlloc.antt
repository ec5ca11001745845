-- What allocation answers, it answers too over a layout that shows zeros for the bytes of its unlabelled blocks.
use Rattle.vc_base.proofs.Common.{◌≡◌, ℕ, Bool, true, false, Ok, Err, Result, sym, ap, ◌∙◌, subst, best_alloc, Terms, Layout, Done, Fault, Outcome, Put, Refused, outcome_as}
use Rattle.vc_best.proofs.Common.{Addr, zeroed_layout}
use Rattle.vc_seg.specs.Answer.{Answers, IsPut, IsRefusal}
use Rattle.vc_seg.specs.declared.fault.RegionFault.{RegionFault}
use Rattle.vc_seg.specs.declared.fault.RegionFault.TheVariants as code
use Rattle.vc_best.proofs.RestLayout.{best_alloc-zeroed}

-- a refusal of one call that is one of another
pub refusal-kept : {A B : Type 0} (call : Bool → Outcome A) (call' : Bool → Outcome B) → ((refused : Bool) (why : Fault) → call refused ≡ Refused why → call' refused ≡ Refused why) → (why : RegionFault) → IsRefusal call why → IsRefusal call' why
refusal-kept call call' kept code.TooManySegments h = kept false _ h
refusal-kept call call' kept code.NoSegment h = kept true _ h
refusal-kept call call' kept code.OutOfMemory h = tt
refusal-kept call call' kept code.Fixed h = kept false _ h
refusal-kept call call' kept code.PoolSize h = kept false _ h
refusal-kept call call' kept code.NotLast h = kept false _ h
refusal-kept call call' kept code.WrongMethod h = kept false _ h

-- a block that was put in a region was put in another form of it
pub put-as : {R S : Type 0} (form : R → S) (o : Outcome (Put R)) (a : ℕ) (r : R) → IsPut o a r → IsPut (outcome_as form o) a (form r)
put-as form (Done p) a r is = (is.0, is.1, ap form is.2)
put-as form (Refused why) a r is = absurd is

-- the answer of a call that puts or keeps a block, in another form of the region
pub answers-as : {R S : Type 0} (form : R → S) (call : Bool → Outcome (Put R)) (call' : Bool → Outcome (Put S)) (result : Result Addr RegionFault) (r r' : R) → ((refused : Bool) → call' refused ≡ outcome_as form (call refused)) → Answers call result r r' → Answers call' result (form r) (form r')
answers-as form call call' (Ok a) r r' same is = subst (λ o. IsPut o a.0 (form r')) (sym (same false)) (put-as form (call false) a.0 r' is)
answers-as form call call' (Err why) r r' same is =
    (refusal-kept call call' (λ refused fault e. same refused ∙ ap (outcome_as form) e) why is.0, ap form is.1)

pub answers-zeroed : (terms : Terms) (r r' : Layout ℕ) (tag size align : ℕ) (result : Result Addr RegionFault) → Answers (best_alloc terms r tag size align) result r r' → Answers (best_alloc terms (zeroed_layout r) tag size align) result (zeroed_layout r) (zeroed_layout r')
answers-zeroed terms r r' tag size align result is =
    answers-as zeroed_layout (best_alloc terms r tag size align) (best_alloc terms (zeroed_layout r) tag size align) result r r' (λ refused. best_alloc-zeroed terms r tag size align refused) is
