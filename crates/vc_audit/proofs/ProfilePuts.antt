-- What puts and resizes make of blocks with any labels, and of the region without their sites.
use Rattle.vc_base.proofs.Common.{◌≡◌, ℕ, Bool, true, false, cond, List, take, Some, None, Option, sym, refl, ap, ◌∙◌, subst, AllByRecursion, address, place_of, best_alloc, best_need, place_in, put_in_new, put_or_ask, zeros, Terms, Block, Layout, relabel_layout, with_block, with_grant, Done, Fault, Fixed, Outcome, Put, Refused, outcome_as, best_resize, can_stay, outcome_of_move, resize_found, sized_block, stays, Asked, Grant, Granted, NotLent, TooMany, ask, find_block, rewritten_block}
use Rattle.vc_model.specs.Best.{put}
use Rattle.vc_model.specs.Resize.{resize_block}
use Rattle.vc_model.proofs.Relabel.{relabel_outcome}
use Rattle.vc_seg.specs.Answer.{IsPut, IsRefusal}
use Rattle.vc_seg.specs.declared.fault.RegionFault.{RegionFault}
use Rattle.vc_seg.specs.declared.fault.RegionFault.TheVariants as code
use Rattle.vc_audit.specs.Profile.{Profile, profile_after}
use Rattle.vc_audit.proofs.ProfileBare.{bare}
use Rattle.vc_audit.proofs.ProfileLists.{all-change, all-with, all-without}

-- what holds of the answer of a call that is done
abbrev pub OnDone : {A : Type 0} → (A → Type 0) → Outcome A → Type 0
OnDone P (Done x) = P x
OnDone P (Refused why) = Unit {0}

module _ {L : Type 0} where
  -- the blocks are those before, with one more
  abbrev pub HasOneMore : Layout L → L → ℕ → Put (Layout L) → Type 0
  HasOneMore r label size p = p.region.blocks ≡ with_block (zeros label size p.at) r.blocks

  put-blocks : (r : Layout L) (label : L) (size : ℕ) (granted : Option Grant) (at : Option (ℕ × ℕ)) → OnDone (HasOneMore r label size) (put r label size granted at)
  put-blocks r label size granted None = tt
  put-blocks r label size granted (Some at) = refl

  asked-blocks : (r : Layout L) (label : L) (size align : ℕ) (asked : Asked) → OnDone (HasOneMore r label size) (put_in_new r label size align asked)
  asked-blocks r label size align (Granted grant) = put-blocks (with_grant r grant) label size (Some grant) (place_in (with_grant r grant) size align)
  asked-blocks r label size align TooMany = tt
  asked-blocks r label size align NotLent = tt

  placed-blocks : (terms : Terms) (r : Layout L) (label : L) (size align : ℕ) (refused : Bool) (at : Option (ℕ × ℕ)) → OnDone (HasOneMore r label size) (put_or_ask terms r label size align refused at)
  placed-blocks terms r label size align refused (Some at) = refl
  placed-blocks terms r label size align refused None = asked-blocks r label size align (ask terms (best_need terms size align) r.segments refused)

  pub alloc-blocks : (terms : Terms) (r : Layout L) (label : L) (size align : ℕ) (refused : Bool) → OnDone (HasOneMore r label size) (best_alloc terms r label size align refused)
  alloc-blocks terms r label size align refused = placed-blocks terms r label size align refused (place_in r size align)

  -- what holds of all blocks holds of them after a resize, where it holds of a block of zeros at the place that is answered
  module _ (P : Block L → Type 0) (writes : (src : List ℕ) (b : Block L) → P b → P (rewritten_block 0 src b)) (size : ℕ) (sizes : (b : Block L) → P b → P (sized_block size b)) (terms : Terms) (r : Layout L) (at : ℕ × ℕ) (all : AllByRecursion P r.blocks) where
    abbrev pub Keeps : Put (Layout L) → Type 0
    Keeps p = ((b : Block L) → find_block at r.blocks ≡ Some b → P (zeros b.label size p.at)) → AllByRecursion P p.region.blocks

    moved-all : (b : Block L) → find_block at r.blocks ≡ Some b → (o : Outcome (Put (Layout L))) → OnDone (HasOneMore r b.label size) o → OnDone Keeps (outcome_of_move size b o)
    moved-all b e (Done p) shape =
        λ fresh.
        let src = take size b.bytes in
        all-without P (b.seg, b.off) _
        (all-change P (rewritten_block 0 src) (writes src) p.at p.region.blocks (subst (AllByRecursion P) (sym shape) (all-with P (zeros b.label size p.at) r.blocks (fresh b e) all)))
    moved-all b e (Refused why) shape = tt

    block-all : (may_move refused : Bool) (b : Block L) → find_block at r.blocks ≡ Some b → OnDone Keeps (resize_block terms r size may_move refused b)
    block-all may_move refused b e =
        let off = outcome_of_move size b (best_alloc terms r b.label size 32 refused) in
        elim (can_stay r size b) as (λ v. OnDone Keeps (cond v (stays r size b) (cond may_move off (Refused Fixed)))) [
          | true ↦ λ fresh. all-change P (sized_block size) sizes (b.seg, b.off) r.blocks all
          | false ↦
              elim may_move as (λ v. OnDone Keeps (cond v off (Refused Fixed)))
              [ true ↦ moved-all b e (best_alloc terms r b.label size 32 refused) (alloc-blocks terms r b.label size 32 refused) | false ↦ tt ]
        ]

    found-all : (may_move refused : Bool) (o : Option (Block L)) → find_block at r.blocks ≡ o → OnDone Keeps (resize_found terms r size may_move refused o)
    found-all may_move refused None e = tt
    found-all may_move refused (Some b) e = block-all may_move refused b e

    pub resize-all : (may_move refused : Bool) → OnDone Keeps (best_resize terms r at size may_move refused)
    resize-all may_move refused = found-all may_move refused (find_block at r.blocks) refl

-- the outcome with sites, by what the region without them became
pub record WithSites (o : Outcome (Put (Layout (ℕ × List ℕ)))) (a : ℕ) (r' : Layout ℕ) (Q : Put (Layout (ℕ × List ℕ)) → Type 0) : Type 0 where
  pub put : Put (Layout (ℕ × List ℕ))
  pub is : o ≡ Done put
  pub address : a ≡ address put.at
  pub place : put.at ≡ place_of a
  pub layout : r' ≡ relabel_layout bare put.region
  pub holds : Q put

pub with-sites : (o : Outcome (Put (Layout (ℕ × List ℕ)))) (a : ℕ) (r' : Layout ℕ) (Q : Put (Layout (ℕ × List ℕ)) → Type 0) → IsPut (relabel_outcome bare o) a r' → OnDone Q o → WithSites o a r' Q
with-sites (Done p) a r' Q is holds = record { put = p; is = refl; address = is.0; place = is.1; layout = is.2; holds = holds }
with-sites (Refused why) a r' Q is holds = absurd is

-- the profile that it gives
pub put-profile : (peaks : List (List ℕ × ℕ)) (o : Outcome (Put (Layout (ℕ × List ℕ)))) (a : ℕ) (r' : Layout ℕ) (Q : Put (Layout (ℕ × List ℕ)) → Type 0) (w : WithSites o a r' Q) (p : Profile ℕ) → p ≡ profile_after peaks w.put.region → IsPut (outcome_as (profile_after peaks) o) a p
put-profile peaks o a r' Q w p is =
    subst (λ (x : Outcome (Put (Layout (ℕ × List ℕ)))). IsPut (outcome_as (profile_after peaks) x) a p) (sym w.is) (w.address, w.place, is)

-- a call that is refused without sites is so with them
still-refused : {R : Type 0} (form : Layout (ℕ × List ℕ) → R) (o : Outcome (Put (Layout (ℕ × List ℕ)))) (why : Fault) → relabel_outcome bare o ≡ Refused why → outcome_as form o ≡ Refused why
still-refused form (Done p) why e = absurd (cc)
still-refused form (Refused other) why e = ap (λ (f : Fault). Refused f) (cc)

pub refusal-with : {R : Type 0} (form : Layout (ℕ × List ℕ) → R) (call : Bool → Outcome (Put (Layout ℕ))) (called : Bool → Outcome (Put (Layout (ℕ × List ℕ)))) → ((u : Bool) → call u ≡ relabel_outcome bare (called u)) → (e : RegionFault) → IsRefusal call e → IsRefusal (λ u. outcome_as form (called u)) e
refusal-with form call called same code.TooManySegments h = still-refused form (called false) _ (sym (same false) ∙ h)
refusal-with form call called same code.NoSegment h = still-refused form (called true) _ (sym (same true) ∙ h)
refusal-with form call called same code.OutOfMemory h = tt
refusal-with form call called same code.Fixed h = still-refused form (called false) _ (sym (same false) ∙ h)
refusal-with form call called same code.PoolSize h = still-refused form (called false) _ (sym (same false) ∙ h)
refusal-with form call called same code.NotLast h = still-refused form (called false) _ (sym (same false) ∙ h)
refusal-with form call called same code.WrongMethod h = still-refused form (called false) _ (sym (same false) ∙ h)
