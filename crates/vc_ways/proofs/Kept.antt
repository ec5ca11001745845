-- What calls leave of the disciplines.
use Rattle.vc_base.proofs.Common.{◌≡◌, ℕ, List, [], ◌++◌, Bool, Ok, Err, false, true, sym, ap, ◌∙◌, subst, Done, Refused}
use Rattle.std.specs.Prelude.{is_ok}
use Rattle.std.specs.declared.result.Result.{Result}
use Rattle.vc_base.specs.declared.addr.Addr.{Addr}
use Rattle.vc_model.specs.Discipline.{Discipline, Kept, Served, Unserved}
use Rattle.vc_model.specs.Outcome.{Outcome, Put}
use Rattle.vc_seg.specs.Answer.{Answers, Asks, IsPut}
use Rattle.vc_seg.specs.declared.fault.RegionFault.{RegionFault}
use Rattle.vc_seg.specs.declared.fault.RegionFault.TheVariants as code
use Rattle.vc_ways.specs.Answer.{KeepsWay}
use Rattle.vc_ways.proofs.Grown.{Grown, OnDone}

served-keeps : (went : Bool) (old new : Discipline) (s t : List (ℕ × ℕ)) (size : ℕ) → (t ≡ [] → s ≡ []) → Served old new s t size → KeepsWay went (record { disc = old; segments = s }) (record { disc = new; segments = t })
served-keeps went old new s t size none h = record { kept = h.kept; out = h.out; none = none; same = λ yes e. h.same (e ∙ sym (none e)) }

same-keeps : (old new : Discipline) (s t : List (ℕ × ℕ)) (size : ℕ) → t ≡ s → Served old new s t size → KeepsWay false (record { disc = old; segments = s }) (record { disc = new; segments = t })
same-keeps old new s t size same h = served-keeps false old new s t size (λ e. sym same ∙ e) h

-- nothing went out
nothing-keeps : (old new : Discipline) (s t : List (ℕ × ℕ)) → t ≡ s → Kept old new → new.out ≡ old.out → KeepsWay false (record { disc = old; segments = s }) (record { disc = new; segments = t })
nothing-keeps old new s t same kept out =
    record {
      kept = kept;
      out = λ rest e. out ∙ (e ∙ ap (λ (x : List (ℕ × ℕ)). rest ++ x) (sym same));
      none = λ e. sym same ∙ e;
      same = λ yes e. absurd (cc);
    }

module _ {R : Type 0} (segments : R → List (ℕ × ℕ)) where
  put-none : (o : Outcome (Put R)) (a : ℕ) (r q : R) → IsPut o a q → OnDone (λ (p : Put R). Grown (segments r) (segments p.region)) o → segments q ≡ [] → segments r ≡ []
  put-none (Done p) a r q h grown e = grown.none (ap segments (sym h.2) ∙ e)
  put-none (Refused why) a r q h grown e = absurd h

  -- a call that may ask for a segment, and takes none away
  pub asked-keeps : (call : Bool → Outcome (Put R)) (result : Result Addr RegionFault) (r q : R) (old new : Discipline) (size : ℕ) → Answers call result r q → OnDone (λ (p : Put R). Grown (segments r) (segments p.region)) (call false) → Asks result old new (segments r) (segments q) size → KeepsWay (is_ok result) (record { disc = old; segments = segments r }) (record { disc = new; segments = segments q })
  asked-keeps call (Ok a) r q old new size h grown k = served-keeps true old new _ _ size (put-none (call false) a.0 r q h grown) k
  asked-keeps call (Err code.TooManySegments) r q old new size h grown k = same-keeps old new _ _ size (ap segments h.1) k
  asked-keeps call (Err code.NoSegment) r q old new size h grown k = nothing-keeps old new _ _ (ap segments h.1) k.kept k.out
  asked-keeps call (Err code.OutOfMemory) r q old new size h grown k = nothing-keeps old new _ _ (ap segments h.1) k.kept k.out
  asked-keeps call (Err code.Fixed) r q old new size h grown k = same-keeps old new _ _ size (ap segments h.1) k
  asked-keeps call (Err code.PoolSize) r q old new size h grown k = same-keeps old new _ _ size (ap segments h.1) k
  asked-keeps call (Err code.NotLast) r q old new size h grown k = same-keeps old new _ _ size (ap segments h.1) k
  asked-keeps call (Err code.WrongMethod) r q old new size h grown k = same-keeps old new _ _ size (ap segments h.1) k

-- where it tells of a refused segment, the discipline refused it
pub asked-unserved : (result : Result Addr RegionFault) (old new : Discipline) (s t : List (ℕ × ℕ)) (size : ℕ) → Asks result old new s t size → result ≡ Err code.NoSegment → Unserved old new size
asked-unserved result old new s t size k e = subst (λ (r : Result Addr RegionFault). Asks r old new s t size) e k

pub refused-unserved : (why : RegionFault) (old new : Discipline) (s t : List (ℕ × ℕ)) (size : ℕ) → Asks (Err why) old new s t size → why ≡ code.NoSegment → Unserved old new size
refused-unserved why old new s t size k e = subst (λ (w : RegionFault). Asks (Err w) old new s t size) e k
