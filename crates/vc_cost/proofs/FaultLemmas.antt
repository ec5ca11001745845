-- With which faults a best region refuses a block.
use Rattle.vc_base.proofs.Common.{◌≡◌, ◌≢◌, ℕ, ◌+◌, ◌⊎◌, Bool, true, false, List, [], length, nat_le, nat_lt, Option, Some, None, is_some, refl, sym, ap, ◌∙◌, inl, inr, ⊎_elim, cases_Bool, true≢false, best_alloc, best_need, place_in, put_in_new, put_or_ask, find_block, Terms, Block, Layout, Done, Fault, Outcome, Put, Refused, best_resize, can_stay, outcome_of_move, resize_found, stays, Asked, Grant, Granted, NotLent, TooMany, ask, lowest_unused, new_segment, numbers}
use Rattle.vc_model.specs.Best.{put}
use Rattle.vc_model.specs.Outcome.{TooManySegments, NoSegment}
use Rattle.vc_model.specs.Resize.{resize_block}
use Rattle.vc_model.specs.Segments.{ask_by, growing, size_limit}
use Rattle.vc_best.specs.Ask.{AsksForSegment}
use Rattle.vc_seg.specs.Answer.{IsRefusal}
use Rattle.vc_seg.specs.declared.fault.RegionFault.{RegionFault}
use Rattle.vc_seg.specs.declared.fault.RegionFault.TheVariants as code
use Rattle.vc_cost.specs.BestCalls.{IsFault}

abbrev Placing : Type 0
Placing = Outcome (Put (Layout ℕ))

-- it comes from the lack of a segment alone
abbrev Lacks : Fault → Type 0
Lacks why = (why ≡ TooManySegments) ⊎ (why ≡ NoSegment)

put-why : (r : Layout ℕ) (label size : ℕ) (g : Option Grant) (o : Option (ℕ × ℕ)) (why : Fault) → put r label size g o ≡ Refused why → why ≡ NoSegment
put-why r label size g None why e = cc
put-why r label size g (Some at) why e = absurd (cc)

-- a region without a segment is granted one
ask-first : (terms : Terms) (bytes : ℕ) → ask terms bytes [] false ≡ Granted (new_segment 1 bytes)
ask-first terms bytes =
    ⊎_elim (λ (t : terms.grows ≡ true). rw t refl) (λ (t : terms.grows ≡ false). rw t refl) (cases_Bool terms.grows)

module _ (terms : Terms) (r : Layout ℕ) (label size align : ℕ) where
  asked-why : (a : Asked) (why : Fault) → put_in_new r label size align a ≡ Refused why → Lacks why
  asked-why (Granted g) why e = inr (put-why _ label size (Some g) _ why e)
  asked-why TooMany why e = inl (cc)
  asked-why NotLent why e = inr (cc)

  place-why : (refused : Bool) (o : Option (ℕ × ℕ)) (why : Fault) → put_or_ask terms r label size align refused o ≡ Refused why → Lacks why
  place-why refused None why e = asked-why (ask terms (best_need terms size align) r.segments refused) why e
  place-why refused (Some at) why e = absurd (cc)

  pub alloc-why : (refused : Bool) (why : Fault) → best_alloc terms r label size align refused ≡ Refused why → Lacks why
  alloc-why refused why e = place-why refused (place_in r size align) why e

  -- too many is so whether a segment is refused or not
  asked-many : (a : Asked) → put_in_new r label size align a ≡ Refused TooManySegments → a ≡ TooMany
  asked-many (Granted g) e = absurd (let no : TooManySegments ≡ NoSegment = put-why _ label size (Some g) _ TooManySegments e in cc)
  asked-many TooMany e = refl
  asked-many NotLent e = absurd (cc)

  many-by : (o : Option (ℕ × ℕ)) (bytes : ℕ) → ask_by o bytes r.segments false ≡ TooMany → ask_by o bytes r.segments true ≡ TooMany
  many-by None bytes e =
      ⊎_elim
      (λ (t : nat_lt (length r.segments) 1023 ≡ true).
      let no : Granted (new_segment (lowest_unused (numbers r.segments)) bytes) ≡ TooMany = rw t at e in absurd (cc))
      (λ (t : nat_lt (length r.segments) 1023 ≡ false). rw t refl)
      (cases_Bool (nat_lt (length r.segments) 1023))
  many-by (Some s) bytes e =
      ⊎_elim
      (λ (t : nat_le (s.1 + bytes) size_limit ≡ true).
      let no : Granted (record { number = s.0; bytes = bytes; fresh = false }) ≡ TooMany = rw t at e in absurd (cc))
      (λ (t : nat_le (s.1 + bytes) size_limit ≡ false). rw t refl)
      (cases_Bool (nat_le (s.1 + bytes) size_limit))

  many-both : (bytes : ℕ) → ask terms bytes r.segments false ≡ TooMany → ask terms bytes r.segments true ≡ TooMany
  many-both bytes e = many-by (growing terms r.segments) bytes e

  place-both : (o : Option (ℕ × ℕ)) → put_or_ask terms r label size align false o ≡ Refused TooManySegments → put_or_ask terms r label size align true o ≡ Refused TooManySegments
  place-both None e =
      ap (put_in_new r label size align)
      (many-both (best_need terms size align) (asked-many (ask terms (best_need terms size align) r.segments false) e))
  place-both (Some at) e = absurd (cc)

  pub alloc-both : best_alloc terms r label size align false ≡ Refused TooManySegments → best_alloc terms r label size align true ≡ Refused TooManySegments
  alloc-both e = place-both (place_in r size align) e

  pub alloc-asks : AsksForSegment terms r size align → best_alloc terms r label size align false ≢ Refused TooManySegments
  alloc-asks h e = h.may (asked-many (ask terms (best_need terms size align) r.segments false) (sym (ap (put_or_ask terms r label size align false) h.none) ∙ e))

  place-first : r.segments ≡ [] → (o : Option (ℕ × ℕ)) → put_or_ask terms r label size align false o ≢ Refused TooManySegments
  place-first none None e =
      let bytes = best_need terms size align in
      let many : ask terms bytes r.segments false ≡ TooMany = asked-many (ask terms bytes r.segments false) e in
      let no : Granted (new_segment 1 bytes) ≡ TooMany = sym (ask-first terms bytes) ∙ (ap (λ ss. ask terms bytes ss false) (sym none) ∙ many) in
      absurd (cc)
  place-first none (Some at) e = absurd (cc)

  pub alloc-first : r.segments ≡ [] → best_alloc terms r label size align false ≢ Refused TooManySegments
  alloc-first none e = place-first none (place_in r size align) e

-- the same of a block that may move
move-why : (size : ℕ) (b : Block ℕ) (o : Placing) (why : Fault) → outcome_of_move size b o ≡ Refused why → o ≡ Refused why
move-why size b (Done p) why e = absurd (cc)
move-why size b (Refused w) why e = e

module _ (terms : Terms) (r : Layout ℕ) (size : ℕ) where
  block-why : (refused : Bool) (b : Block ℕ) (why : Fault) → resize_block terms r size true refused b ≡ Refused why → (can_stay r size b ≡ false) × (best_alloc terms r b.label size 32 refused ≡ Refused why)
  block-why refused b why e =
      ⊎_elim
      (λ (t : can_stay r size b ≡ true). let no : stays r size b ≡ Refused why = rw t at e in absurd (cc))
      (λ (t : can_stay r size b ≡ false).
      let k : outcome_of_move size b (best_alloc terms r b.label size 32 refused) ≡ Refused why = rw t at e in
      (t, move-why size b (best_alloc terms r b.label size 32 refused) why k))
      (cases_Bool (can_stay r size b))

  found-why : (refused : Bool) (o : Option (Block ℕ)) (why : Fault) → is_some o ≡ true → resize_found terms r size true refused o ≡ Refused why → Lacks why
  found-why refused None why some e = absurd (true≢false (sym some))
  found-why refused (Some b) why some e = alloc-why terms r b.label size 32 refused why (block-why refused b why e).1

  found-both : (o : Option (Block ℕ)) → is_some o ≡ true → resize_found terms r size true false o ≡ Refused TooManySegments → resize_found terms r size true true o ≡ Refused TooManySegments
  found-both None some e = absurd (true≢false (sym some))
  found-both (Some b) some e =
      let h = block-why false b TooManySegments e in
      rw h.0 (ap (outcome_of_move size b) (alloc-both terms r b.label size 32 h.1))

  found-asks : (o : Option (Block ℕ)) → AsksForSegment terms r size 32 → resize_found terms r size true false o ≢ Refused TooManySegments
  found-asks None h e = absurd (cc)
  found-asks (Some b) h e = alloc-asks terms r b.label size 32 h (block-why false b TooManySegments e).1

  module _ (at : ℕ × ℕ) (some : is_some (find_block at r.blocks) ≡ true) where
    pub resize-why : (refused : Bool) (why : Fault) → best_resize terms r at size true refused ≡ Refused why → Lacks why
    resize-why refused why e = found-why refused (find_block at r.blocks) why some e

    pub resize-both : best_resize terms r at size true false ≡ Refused TooManySegments → best_resize terms r at size true true ≡ Refused TooManySegments
    resize-both e = found-both (find_block at r.blocks) some e

  pub resize-asks : (at : ℕ × ℕ) → AsksForSegment terms r size 32 → best_resize terms r at size true false ≢ Refused TooManySegments
  resize-asks at h e = found-asks (find_block at r.blocks) h e

-- so the fault of a call is known from its refusal
module _ (call : Bool → Placing) (Refuses : Bool → Fault → Type 0) (to : (b : Bool) (w : Fault) → call b ≡ Refused w → Refuses b w) (from : (b : Bool) (w : Fault) → Refuses b w → call b ≡ Refused w)
    (both : call false ≡ Refused TooManySegments → call true ≡ Refused TooManySegments) (only : (b : Bool) (w : Fault) → call b ≡ Refused w → Lacks w) where
  other : (w : Fault) → call false ≡ Refused w → w ≢ TooManySegments → w ≢ NoSegment → ⊥
  other w e n m = ⊎_elim (λ k. n k) (λ k. m k) (only false w e)

  pub fault-of : (why : RegionFault) → (why ≡ code.OutOfMemory → call false ≢ Refused TooManySegments) → IsRefusal call why → IsFault why Refuses
  fault-of code.TooManySegments asks is = record { too_many = (λ e. to false TooManySegments is, λ k. refl); no_segment = λ e. absurd (cc); only = inl refl }
  fault-of code.NoSegment asks is = record {
    too_many = (λ e. absurd (cc), λ k. absurd (let a = both (from false TooManySegments k) in let no : Refused NoSegment ≡ Refused TooManySegments = sym is ∙ a in cc));
    no_segment = λ e. to true NoSegment is;
    only = inr (inl refl);
  }
  fault-of code.OutOfMemory asks is = record { too_many = (λ e. absurd (cc), λ k. absurd (asks refl (from false TooManySegments k))); no_segment = λ e. absurd (cc); only = inr (inr refl) }
  fault-of code.Fixed asks is = absurd (other _ is (λ e. cc) (λ e. cc))
  fault-of code.PoolSize asks is = absurd (other _ is (λ e. cc) (λ e. cc))
  fault-of code.NotLast asks is = absurd (other _ is (λ e. cc) (λ e. cc))
  fault-of code.WrongMethod asks is = absurd (other _ is (λ e. cc) (λ e. cc))
