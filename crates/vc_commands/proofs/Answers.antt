-- What a region's answer leaves of its discipline, and what a fault of it tells.
use Rattle.vc_base.proofs.Common.{◌≡◌, ℕ, ◌-◌, Bool, ◌≢◌, List, ◌++◌, length, take, IfOk, OnErr, Some, Ok, Err, Result, option_map, sym, refl, ap, ◌∙◌, subst, arith, length-append, take_at, none-some, same_Some, Blocks, Discipline, HasOut, NoneRefused, Unserved, Fault, Outcome, Put, Refused}
use Rattle.vc_base.specs.declared.addr.Addr.{Addr}
use Rattle.vc_model.specs.Discipline.{Kept}
use Rattle.vc_model.proofs.Keeping.{Kept-equal, Kept-same, NoneRefused-served}
use Rattle.vc_model.specs.Outcome as model
use Rattle.vc_region.specs.Region.{Region, segments_of}
use Rattle.vc_seg.proofs.Nothing.{nothing-out, nothing-refused}
use Rattle.vc_seg.specs.Answer.{Answers, Asks, IsRefusal}
use Rattle.vc_seg.specs.declared.fault.RegionFault.{RegionFault}
use Rattle.vc_seg.specs.declared.fault.RegionFault.TheVariants as code
use Rattle.vc_script.specs.Needs.{need_shown}
use Rattle.vc_script.specs.declared.reply.Reply.{Reply}
use Rattle.vc_script.specs.declared.reply.Reply.TheVariants as reply
use Rattle.vc_script.specs.declared.refusal.Refusal.{Refusal}
use Rattle.vc_script.specs.declared.refusal.Refusal.TheVariants as why
use Rattle.vc_commands.specs.declared.region.labels.Labels.{Labels}
use Rattle.vc_commands.specs.Held.{Held, IsChange, AreLabelsOf}
use Rattle.vc_commands.specs.Blocks.{fault_of, script_refusal}
use Rattle.vc_commands.specs.Naming.{NamesPut, TellsFault}
use Rattle.vc_commands.specs.Home.{Changed, Home, Label, changed_to, refusal_alone}
use Rattle.vc_commands.specs.RegionRun.{GivesRegion}
use Rattle.vc_commands.specs.RegionCommands.{is_for_block}

-- what is left of segments that are out, when those of a region are back
pub front-out : (rest segments out : List (ℕ × ℕ)) → out ≡ rest ++ segments → take (length out - length segments) out ≡ rest
front-out rest segments out e =
    ap (λ o. take (length o - length segments) o) e
    ∙ take_at rest segments (length (rest ++ segments) - length segments) (omega (arith, length-append rest segments))

-- a region's part of what is out, before and after it
abbrev pub KeepsOut : Discipline → Discipline → List (ℕ × ℕ) → List (ℕ × ℕ) → Type 0
KeepsOut d e segments segments' = (rest : List (ℕ × ℕ)) → d.out ≡ rest ++ segments → e.out ≡ rest ++ segments'

-- a region that changed, whose discipline keeps what was out before the region's segments
pub changed-by : (h : Held) (disc : Discipline) (region : Region ℕ) (cells : Blocks) (labels : Labels) → cells ≡ h.cells → HasOut h.disc (segments_of h.region) → Kept h.disc disc → KeepsOut h.disc disc (segments_of h.region) (segments_of region) → AreLabelsOf region labels → IsChange h (record { name = h.name; place = h.place; disc = disc; region = region; cells = cells; labels = labels })
changed-by h disc region cells labels same has kept keeps names =
    let after = keeps has.0 has.1 in
    record {
      name = refl;
      place = refl;
      kept = kept;
      lent = (has.0, after);
      out = front-out has.0 (segments_of region) disc.out after ∙ sym (front-out has.0 (segments_of h.region) h.disc.out has.1);
      names = names;
      cells = same;
    }

-- what is out stays, where the discipline and the segments do
pub out-same : (d e : Discipline) (segments segments' : List (ℕ × ℕ)) → e ≡ d → segments' ≡ segments → KeepsOut d e segments segments'
out-same d e segments segments' same alike = λ rest at. ap (λ (x : Discipline). x.out) same ∙ (at ∙ ap (λ s. rest ++ s) (sym alike))

-- a region that changed, whose discipline and segments stay
pub changed-alike : (h : Held) (disc : Discipline) (region : Region ℕ) (cells : Blocks) (labels : Labels) → cells ≡ h.cells → HasOut h.disc (segments_of h.region) → disc ≡ h.disc → segments_of region ≡ segments_of h.region → AreLabelsOf region labels → IsChange h (record { name = h.name; place = h.place; disc = disc; region = region; cells = cells; labels = labels })
changed-alike h disc region cells labels same has alike segments names =
    changed-by h disc region cells labels same has (Kept-equal h.disc disc alike) (out-same h.disc disc (segments_of h.region) (segments_of region) alike segments) names

pub asks-kept : (result : Result Addr RegionFault) (d e : Discipline) (s s' : List (ℕ × ℕ)) (n : ℕ) → Asks result d e s s' n → Kept d e
asks-kept (Ok a) d e s s' n asks = asks.kept
asks-kept (Err code.NoSegment) d e s s' n asks = asks.kept
asks-kept (Err code.OutOfMemory) d e s s' n asks = asks.kept
asks-kept (Err fault) d e s s' n asks = asks.kept

module _ (call : Bool → Outcome (Put (Region ℕ))) (r r' : Region ℕ) (d e : Discipline) (n : ℕ) where
  pub asks-out : (result : Result Addr RegionFault) → Answers call result r r' → Asks result d e (segments_of r) (segments_of r') n → KeepsOut d e (segments_of r) (segments_of r')
  asks-out (Ok a) answers asks = asks.out
  asks-out (Err code.NoSegment) answers asks = λ rest at. asks.out ∙ (at ∙ ap (λ (q : Region ℕ). rest ++ segments_of q) (sym answers.1))
  asks-out (Err code.OutOfMemory) answers asks = nothing-out d e (segments_of r) (segments_of r') (ap segments_of answers.1) asks
  asks-out (Err fault) answers asks = asks.out

  -- a fault changes nothing
  pub answers-same : (result : Result Addr RegionFault) (fault : RegionFault) → result ≡ Err fault → Answers call result r r' → r' ≡ r
  answers-same (Ok a) fault is answers = absurd cc
  answers-same (Err why) fault is answers = answers.1

-- a reply that tells a fault is the refusal of the definitions for the need that it shows
pub record Told {A : Type 0} (call : Bool → Outcome A) (told : Reply) : Type 0 where
  pub fault : Fault
  pub refused : call (is_for_block (need_shown told)) ≡ Refused fault
  pub is : reply.Refused (script_refusal fault) ≡ told

module _ {A : Type 0} (call : Bool → Outcome A) where
  tells : (fault : Fault) (told : Reply) → Some (reply.Refused (script_refusal fault)) ≡ Some told → call (is_for_block (need_shown (reply.Refused (script_refusal fault)))) ≡ Refused fault → Told call told
  tells fault told e refused =
      let is = same_Some (reply.Refused (script_refusal fault)) told e in
      record { fault = fault; refused = subst (λ t. call (is_for_block (need_shown t)) ≡ Refused fault) is refused; is = is }

  pub fault-told : (fault : RegionFault) (told : Reply) → option_map (λ f. reply.Refused (script_refusal f)) (fault_of fault) ≡ Some told → IsRefusal call fault → Told call told
  fault-told code.TooManySegments told e refused = tells model.TooManySegments told e refused
  fault-told code.NoSegment told e refused = tells model.NoSegment told e refused
  fault-told code.OutOfMemory told e refused = absurd (none-some told e)
  fault-told code.Fixed told e refused = tells model.Fixed told e refused
  fault-told code.PoolSize told e refused = tells model.PoolSize told e refused
  fault-told code.NotLast told e refused = tells model.NotLast told e refused
  fault-told code.WrongMethod told e refused = tells model.WrongMethod told e refused

abbrev pub IsNoSegment : RegionFault → Type 0
IsNoSegment code.NoSegment = Unit {0}
IsNoSegment fault = ⊥

abbrev pub NotNoSegment : Reply → Type 0
NotNoSegment (reply.Refused why.NoSegment) = ⊥
NotNoSegment told = Unit {0}

other-told : (refusal : Refusal) (told : Reply) → NotNoSegment (reply.Refused refusal) → Some (reply.Refused refusal) ≡ Some told → told ≡ reply.Refused why.NoSegment → ⊥
other-told refusal told other e is = subst NotNoSegment (same_Some (reply.Refused refusal) told e ∙ is) other

-- a segment that was refused is told by that fault alone
pub fault-no_segment : (fault : RegionFault) (told : Reply) → option_map (λ f. reply.Refused (script_refusal f)) (fault_of fault) ≡ Some told → told ≡ reply.Refused why.NoSegment → IsNoSegment fault
fault-no_segment code.NoSegment told e is = tt
fault-no_segment code.TooManySegments told e is = other-told why.TooManySegments told tt e is
fault-no_segment code.OutOfMemory told e is = absurd (none-some told e)
fault-no_segment code.Fixed told e is = other-told why.CannotGrow told tt e is
fault-no_segment code.PoolSize told e is = other-told why.PoolSize told tt e is
fault-no_segment code.NotLast told e is = other-told why.NotLast told tt e is
fault-no_segment code.WrongMethod told e is = other-told why.WrongMethod told tt e is

-- then the discipline was asked for a segment and refused it
pub asks-unserved : (fault : RegionFault) (d e : Discipline) (s s' : List (ℕ × ℕ)) (n : ℕ) → IsNoSegment fault → Asks (Err fault) d e s s' n → Unserved d e n
asks-unserved code.NoSegment d e s s' n is asks = asks
asks-unserved code.TooManySegments d e s s' n is asks = absurd is
asks-unserved code.OutOfMemory d e s s' n is asks = absurd is
asks-unserved code.Fixed d e s s' n is asks = absurd is
asks-unserved code.PoolSize d e s s' n is asks = absurd is
asks-unserved code.NotLast d e s s' n is asks = absurd is
asks-unserved code.WrongMethod d e s s' n is asks = absurd is

-- the value of a result that has one
abbrev pub get_ok : {A E : Type 0} → A → Result A E → A
get_ok d (Ok x) = x
get_ok d (Err e) = d

abbrev pub IsAn : {A E : Type 0} → Result A E → Type 0
IsAn (Ok x) = Unit {0}
IsAn (Err e) = ⊥

-- a fault that is told as one of a segment
pub told-no_segment : {E : Type 0} (fault : RegionFault) (result : Result Reply E) → TellsFault fault result → result ≡ Ok (reply.Refused why.NoSegment) → IsNoSegment fault
told-no_segment fault (Ok told) tells is = fault-no_segment fault told tells (ap (get_ok told) is)
told-no_segment fault (Err e) tells is = absurd (subst IsAn (sym is) tt)

-- where no refused segment is told, none was refused
pub told-served : {E : Type 0} (fault : RegionFault) (result : Result Reply E) (d e : Discipline) (s s' : List (ℕ × ℕ)) (n : ℕ) → TellsFault fault result → Asks (Err fault) d e s s' n → result ≢ Ok (reply.Refused why.NoSegment) → NoneRefused d e
told-served code.NoSegment (Ok told) d e s s' n tells asks other = absurd (other (ap (λ q. Ok q) (sym (same_Some (reply.Refused why.NoSegment) told tells))))
told-served code.NoSegment (Err x) d e s s' n tells asks other = absurd (none-some model.NoSegment (sym tells))
told-served code.OutOfMemory result d e s s' n tells asks other = nothing-refused d e asks
told-served fault result d e s s' n tells asks other = NoneRefused-served d e s s' n asks

pub put-served : {E : Type 0} (tag : ℕ) (x : List ℕ) (put : Result Addr RegionFault) (old new : Labels) (result : Result Reply E) (d e : Discipline) (s s' : List (ℕ × ℕ)) (n : ℕ) → NamesPut tag x put old new result → Asks put d e s s' n → result ≢ Ok (reply.Refused why.NoSegment) → NoneRefused d e
put-served tag x (Ok a) old new result d e s s' n named asks other = NoneRefused-served d e s s' n asks
put-served tag x (Err fault) old new result d e s s' n named asks other = told-served fault result d e s s' n named.0 asks other

-- what holds of an answer under each name of a region
pub if_ok-all : {E : Type 0} (result : Result Reply E) (P : List ℕ → Reply → Type 0) → ((name : List ℕ) → IfOk result (P name)) → IfOk result (λ told. (name : List ℕ) → P name told)
if_ok-all (Ok told) P all = all
if_ok-all (Err e) P all = tt

-- what holds anyway holds where no answer came
pub err-all : {E P : Type 0} (result : Result Reply E) → P → OnErr result P
err-all (Ok told) p = tt
err-all (Err e) p = p

-- a refusal leaves the region
pub gives-unchanged : (h : Home) (c : Changed) (w : Refusal) → c ≡ refusal_alone h w → GivesRegion c (h.region, h.kept) (reply.Refused w)
gives-unchanged h c w e = record { region_after = ap (λ (k : Changed). k.region) e; kept_after = ap (λ (k : Changed). k.kept) e; replied = ap (λ (k : Changed). k.reply) e }

-- a region whose discipline and lists stay
pub change-same : (h : Held) (labels : Labels) → HasOut h.disc (segments_of h.region) → AreLabelsOf h.region labels → IsChange h (record { name = h.name; place = h.place; disc = h.disc; region = h.region; cells = h.cells; labels = labels })
change-same h labels has names =
    changed-by h h.disc h.region h.cells labels refl has (Kept-same h.disc) (out-same h.disc h.disc (segments_of h.region) (segments_of h.region) refl refl) names

-- what is told leaves the region
pub gives-changed : (h : Home) (region : Region Label) (c : Changed) (told : Reply) → c ≡ changed_to h region told → GivesRegion c (region, h.kept) told
gives-changed h region c told e = record { region_after = ap (λ (k : Changed). k.region) e; kept_after = ap (λ (k : Changed). k.kept) e; replied = ap (λ (k : Changed). k.reply) e }

pub if_ok-map : {E : Type 0} (result : Result Reply E) (P Q : Reply → Type 0) → ((told : Reply) → P told → Q told) → IfOk result P → IfOk result Q
if_ok-map (Ok told) P Q f all = f told all
if_ok-map (Err e) P Q f all = tt

-- a region and the names that it keeps are the same
pub both-same : {A B : Type 0} (a a' : A) (b b' : B) → a ≡ a' → b ≡ b' → (let p : A × B = (a, b) in p) ≡ (a', b')
both-same a a' b b' p q = λ i. (p i, q i)

-- a refusal, where no block has the name, is of no segment
pub none-no_segment : {E : Type 0} (refusal : Refusal) → (refusal ≡ why.NoSegment → ⊥) → (let told : Result Reply E = Ok (reply.Refused refusal) in told) ≡ Ok (reply.Refused why.NoSegment) → ⊥
none-no_segment refusal other e = other (ap (λ r. refusal_in (get_ok (reply.Refused refusal) r)) e)
  where
    refusal_in : Reply → Refusal
    refusal_in (reply.Refused w) = w
    refusal_in told = why.NoRegion
