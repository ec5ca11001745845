-- What one call makes of a best region and of the list of its live blocks.
use Rattle.vc_base.proofs.Common.{◌≡◌, ℕ, zero, suc, ◌<◌, ◌≤◌, true, false, List, [], ◌∷◌, ◌++◌, map, map-append, map-set, length, length-map, max, get_or, get_or-map, remove, set, if◌then◌else◌, Option, Result, Some, None, is_some, option_map, Err, find_block, refl, sym, ap, ◌∙◌, subst, le-ltb, lt-ltb, none-some, arith, number_of, place_of, address, best_alloc, best_resize, without_block_at, without_block, cleared_layout, compacted_layout, Discipline, Served, TookBack, Layout, Done, Outcome, Put, Refused}
use Rattle.vc_base.specs.declared.addr.Addr.{Addr}
use Rattle.vc_model.proofs.Keeping.{NoneRefused-back, NoneRefused-equal, NoneRefused-same, NoneRefused-served}
use Rattle.vc_splay.specs.Rank.{rank}
use Rattle.vc_splay.specs.Unique.{IsTree-one}
use Rattle.vc_extent.specs.Tiling.{tiling}
use Rattle.vc_gaps.specs.GapLaws.{gap_none}
use Rattle.vc_gaps.specs.GapStore.{gap_store}
use Rattle.vc_best.specs.Ask.{AsksForSegment}
use Rattle.vc_best.specs.Cost.{CallCosts}
use Rattle.vc_best.specs.Parts.{blocks_in, disc_in, layout_of, segments_in}
use Rattle.vc_best.specs.declared.best.Best.{Best}
use Rattle.vc_best.proofs.Places.{own_places}
use Rattle.vc_seg.proofs.Nothing.{nothing-out}
use Rattle.vc_seg.specs.Answer.{Asks, IsPut, IsRefusal}
use Rattle.vc_seg.specs.OneBlock.{IsBlockKept, IsBlockPut, IsSize, IsGuardedSize}
use Rattle.vc_seg.specs.declared.fault.RegionFault.{RegionFault}
use Rattle.vc_seg.specs.declared.fault.RegionFault.TheVariants as code
use Rattle.vc_cost.specs.declared.best_call.BestCall.{BestCall}
use Rattle.vc_cost.specs.declared.best_call.BestCall.TheVariants.{Alloc, Resize, Free, Clear, Compact}
use Rattle.vc_cost.specs.BestCalls.{AreLive, IsDiscLeft, IsDiscServed, IsRefusedBy, Live, after_best, best_weight, has_nth, resize_nth, with_last, with_nth, without_nth}
use Rattle.vc_cost.specs.BestCosts.{IsBestMade, IsBestRefused, live_in}
use Rattle.vc_cost.proofs.FaultLemmas.{alloc-asks, alloc-both, alloc-why, fault-of, resize-asks, resize-both, resize-why}
use Rattle.vc_cost.proofs.LiveLemmas.{has-found, live-freed, live-moved, live-none, live-put, nth-there}

map-remove : (xs : List Addr) (n : ℕ) → map number_of (remove xs n) ≡ remove (map number_of xs) n
map-remove [] zero = refl
map-remove [] (suc n) = refl
map-remove (x ∷ xs) zero = refl
map-remove (x ∷ xs) (suc n) = ap (λ z. number_of x ∷ z) (map-remove xs n)

some-size : {A : Type 0} (f : A → ℕ) (o : Option A) (n : ℕ) → option_map f o ≡ Some n → is_some o ≡ true
some-size f None n e = absurd (none-some n e)
some-size f (Some x) n e = refl

pub guarded : (size : ℕ) → IsSize size → IsGuardedSize size
guarded size h = record { some = h.some; most = let m = h.most in omega arith }

-- the n-th one, where there is one
pub nth-number : (live : List Addr) (n : ℕ) (a : Addr) → n < length live → a ≡ get_or live n a → a.0 ≡ get_or (map number_of live) n 0
nth-number live n a within e = ap number_of e ∙ sym (get_or-map number_of live n a 0 within)

pub nth-within : (live : List Addr) (n : ℕ) → n < length live → n < length (map number_of live)
nth-within live n within = let e = length-map live number_of in omega (arith, e, within)

module _ {I : Type 0} {V : I → Type 0} (meaning : (x : I) × V x → Discipline) (old new : Best I V) (before after : List Addr) (start now : ℕ) (live : AreLive (blocks_in old) (map number_of before)) where
  abbrev r : Live
  r = live_in old before

  served : (size : ℕ) → Served (disc_in meaning old) (disc_in meaning new) (segments_in old) (segments_in new) size → IsDiscServed (disc_in meaning old) (disc_in meaning new) (segments_in old) (segments_in new)
  served size h = record { none = NoneRefused-served (disc_in meaning old) (disc_in meaning new) (segments_in old) (segments_in new) size h; out = h.out }

  kept-back : disc_in meaning new ≡ disc_in meaning old → segments_in new ≡ segments_in old → IsDiscServed (disc_in meaning old) (disc_in meaning new) (segments_in old) (segments_in new)
  kept-back same segs = record {
    none = NoneRefused-equal (disc_in meaning old) (disc_in meaning new) same;
    out = λ rest e. ap (λ (d : Discipline). d.out) same ∙ e ∙ ap (λ z. rest ++ z) (sym segs);
  }

  put-leaves : (at : Addr) (o : Outcome (Put (Layout ℕ))) → map number_of after ≡ map number_of before ++ at.0 ∷ [] → IsPut o at.0 (layout_of new) → live_in new after ≡ with_last r o
  put-leaves at (Done p) same is =
      let e : map number_of after ≡ map number_of before ++ address p.at ∷ [] = same ∙ ap (λ z. map number_of before ++ z ∷ []) is.0 in
      λ i. record { layout = is.2 i; blocks = e i }
  put-leaves at (Refused why) same is = absurd is

  pub alloc_made : (size need : ℕ) (at : Addr) → after ≡ before ++ at ∷ [] → IsPut (best_alloc (disc_in meaning old).terms (layout_of old) 0 size 32 false) at.0 (layout_of new)
      → Served (disc_in meaning old) (disc_in meaning new) (segments_in old) (segments_in new) need → IsBlockPut 0 size at.0 (blocks_in old) (blocks_in new) → CallCosts old new 1 start now
      → IsBestMade meaning (Alloc size) old new before after start now
  alloc_made size need at same is h p c =
      let e : map number_of after ≡ map number_of before ++ at.0 ∷ [] = ap (λ z. map number_of z) same ∙ map-append number_of before (at ∷ []) in
      record {
        leaves = put-leaves at (best_alloc (disc_in meaning old).terms (layout_of old) 0 size 32 false) e is;
        live = subst (AreLive (blocks_in new)) (sym e) (live-put (blocks_in old) (blocks_in new) (map number_of before) at.0 p.fresh (ap (λ o. is_some o) p.there) p.others live);
        disc = served need h;
        cost = c;
      }

  -- a call on the n-th block, where there is one
  module _ (n : ℕ) (within : n < length before) where
    has : has_nth r n ≡ true
    has = lt-ltb n (length (map number_of before)) (nth-within before n within)

    move-leaves : (to : Addr) (o : Outcome (Put (Layout ℕ))) → map number_of after ≡ set (map number_of before) n to.0 → IsPut o to.0 (layout_of new) → live_in new after ≡ with_nth r n o
    move-leaves to (Done p) same is =
        let e : map number_of after ≡ set (map number_of before) n (address p.at) = same ∙ ap (λ z. set (map number_of before) n z) is.0 in
        λ i. record { layout = is.2 i; blocks = e i }
    move-leaves to (Refused why) same is = absurd is

    pub resize_made : (size need : ℕ) (a to : Addr) → a ≡ get_or before n a → after ≡ set before n to → IsPut (best_resize (disc_in meaning old).terms (layout_of old) (place_of a.0) size true false) to.0 (layout_of new)
        → Served (disc_in meaning old) (disc_in meaning new) (segments_in old) (segments_in new) need → option_map (λ b. b.size) (find_block (place_of to.0) (blocks_in new)) ≡ Some size → IsBlockKept a.0 to.0 (blocks_in old) (blocks_in new)
        → CallCosts old new 1 start now → IsBestMade meaning (Resize n size) old new before after start now
    resize_made size need a to own same is h sized kept c =
        let at = nth-number before n a within own in
        let e : map number_of after ≡ set (map number_of before) n to.0 = ap (λ z. map number_of z) same ∙ map-set number_of before n to in
        let put = subst (λ z. IsPut (best_resize (disc_in meaning old).terms (layout_of old) (place_of z) size true false) to.0 (layout_of new)) at is in
        let others = subst (λ z. without_block (place_of to.0) (blocks_in new) ≡ without_block (place_of z) (blocks_in old)) at kept.others in
        let m = move-leaves to (resize_nth (disc_in meaning old).terms r n size false) e put in
        record {
          leaves = m ∙ sym (ap (λ t. if t then with_nth r n (resize_nth (disc_in meaning old).terms r n size false) else r) has);
          live =
              subst (AreLive (blocks_in new)) (sym e)
              (live-moved (blocks_in old) (blocks_in new) (map number_of before) n (nth-within before n within) live to.0 (some-size (λ b. b.size) (find_block (place_of to.0) (blocks_in new)) size sized) (own_places new) others);
          disc = served need h;
          cost = subst (λ w. CallCosts old new w start now) (sym (ap (λ t. if t then 1 else 0) has)) c;
        }

    pub free_made : (a : Addr) → a ≡ get_or before n a → after ≡ remove before n → layout_of new ≡ without_block_at (layout_of old) (place_of a.0) → disc_in meaning new ≡ disc_in meaning old → CallCosts old new 1 start now
        → IsBestMade meaning (Free n) old new before after start now
    free_made a own same gone still c =
        let at = nth-number before n a within own in
        let e : map number_of after ≡ remove (map number_of before) n = ap (λ z. map number_of z) same ∙ map-remove before n in
        let left : layout_of new ≡ without_block_at (layout_of old) (place_of (get_or (map number_of before) n 0)) = gone ∙ ap (λ z. without_block_at (layout_of old) (place_of z)) at in
        let leaves : live_in new after ≡ without_nth r n = λ i. record { layout = left i; blocks = e i } in
        record {
          leaves = leaves ∙ sym (ap (λ t. if t then without_nth r n else r) has);
          live = subst (AreLive (blocks_in new)) (sym e) (live-freed (blocks_in old) (blocks_in new) (map number_of before) n (nth-within before n within) live (ap (λ (l : Layout ℕ). l.blocks) left));
          disc = kept-back still (ap (λ (l : Layout ℕ). l.segments) gone);
          cost = subst (λ w. CallCosts old new w start now) (sym (ap (λ t. if t then 1 else 0) has)) c;
        }

    pub resize_refused : (size need : ℕ) (a : Addr) (why : RegionFault) → a ≡ get_or before n a → IsRefusal (best_resize (disc_in meaning old).terms (layout_of old) (place_of a.0) size true) why → layout_of new ≡ layout_of old
        → (why ≡ code.OutOfMemory → AsksForSegment (disc_in meaning old).terms (layout_of old) size 32) → IsDiscLeft why (disc_in meaning old) (disc_in meaning new) (segments_in old) (segments_in new)
        → IsBestRefused meaning (Resize n size) old new before why
    resize_refused size need a why own is same asks d =
        let at = nth-number before n a within own in
        let terms = (disc_in meaning old).terms in
        let place : ℕ × ℕ = place_of (get_or (map number_of before) n 0) in
        let there = has-found (get_or (map number_of before) n 0) (blocks_in old) (own_places old).exact (nth-there (blocks_in old) (blocks_in new) (map number_of before) n (nth-within before n within) live) in
        record {
          same = same;
          fault =
              fault-of (λ b. best_resize terms (layout_of old) place size true b) (IsRefusedBy terms (Resize n size) r)
              (λ b w e. (has, e)) (λ b w k. k.1) (resize-both terms (layout_of old) size place there) (resize-why terms (layout_of old) size place there) why
              (λ e. resize-asks terms (layout_of old) size place (asks e))
              (subst (λ z. IsRefusal (best_resize terms (layout_of old) (place_of z) size true) why) at is);
          disc = d;
        }

  pub clear_made : after ≡ [] → layout_of new ≡ cleared_layout (layout_of old) → disc_in meaning new ≡ disc_in meaning old → CallCosts old new (max 1 (length (segments_in old))) start now → IsBestMade meaning Clear old new before after start now
  clear_made same left still c =
      let e : map number_of after ≡ [] = ap (λ z. map number_of z) same in
      record {
        leaves = λ i. record { layout = left i; blocks = e i };
        live = subst (AreLive (blocks_in new)) (sym e) (live-none (blocks_in new));
        disc = kept-back still (ap (λ (l : Layout ℕ). l.segments) left);
        cost = c;
      }

  pub compact_made : after ≡ before → layout_of new ≡ compacted_layout (layout_of old) → TookBack (disc_in meaning old) (disc_in meaning new) (segments_in old) (segments_in new) → CallCosts old new (max 1 (length (segments_in old))) start now
      → IsBestMade meaning Compact old new before after start now
  compact_made same left d c =
      let e : map number_of after ≡ map number_of before = ap (λ z. map number_of z) same in
      record {
        leaves = λ i. record { layout = left i; blocks = e i };
        live = subst (AreLive (blocks_in new)) (sym e) (subst (λ bs. AreLive bs (map number_of before)) (sym (ap (λ (l : Layout ℕ). l.blocks) left)) live);
        disc = record { none = NoneRefused-back (disc_in meaning old) (disc_in meaning new) (segments_in old) (segments_in new) d; out = d.out };
        cost = c;
      }

  pub alloc_refused : (size : ℕ) (why : RegionFault) → IsRefusal (best_alloc (disc_in meaning old).terms (layout_of old) 0 size 32) why → layout_of new ≡ layout_of old
      → (why ≡ code.OutOfMemory → AsksForSegment (disc_in meaning old).terms (layout_of old) size 32) → IsDiscLeft why (disc_in meaning old) (disc_in meaning new) (segments_in old) (segments_in new)
      → IsBestRefused meaning (Alloc size) old new before why
  alloc_refused size why is same asks d =
      let terms = (disc_in meaning old).terms in
      record {
        same = same;
        fault =
            fault-of (λ b. best_alloc terms (layout_of old) 0 size 32 b) (IsRefusedBy terms (Alloc size) r)
            (λ b w e. e) (λ b w k. k) (alloc-both terms (layout_of old) 0 size 32) (alloc-why terms (layout_of old) 0 size 32) why
            (λ e. alloc-asks terms (layout_of old) 0 size 32 (asks e)) is;
        disc = d;
      }

pub err-of : {A : Type 0} (w v : RegionFault) → w ≡ v → ◌≡◌ {A = Result A RegionFault} (Err w) (Err v)
err-of w v e = ap (λ z. Err z) e

-- what the discipline says of a refused block
pub asked-left : (why : RegionFault) (old new : Discipline) (segs segs' : List (ℕ × ℕ)) (size : ℕ) → segs' ≡ segs → Asks (Err why) old new segs segs' size → IsDiscLeft why old new segs segs'
asked-left code.NoSegment old new segs segs' size same h = record { kept = h.kept; rose = λ e. h.rose; out = λ rest e. h.out ∙ e ∙ ap (λ z. rest ++ z) (sym same) }
asked-left code.TooManySegments old new segs segs' size same h = record { kept = h.kept; rose = λ e. absurd (cc); out = h.out }
asked-left code.OutOfMemory old new segs segs' size same h = record { kept = h.kept; rose = λ e. absurd (cc); out = nothing-out old new segs segs' same h }
asked-left code.Fixed old new segs segs' size same h = record { kept = h.kept; rose = λ e. absurd (cc); out = h.out }
asked-left code.PoolSize old new segs segs' size same h = record { kept = h.kept; rose = λ e. absurd (cc); out = h.out }
asked-left code.NotLast old new segs segs' size same h = record { kept = h.kept; rose = λ e. absurd (cc); out = h.out }
asked-left code.WrongMethod old new segs segs' size same h = record { kept = h.kept; rose = λ e. absurd (cc); out = h.out }

-- a call that names no block
module _ {I : Type 0} {V : I → Type 0} (meaning : (x : I) × V x → Discipline) (b : Best I V) (before : List Addr) (now : ℕ) (live : AreLive (blocks_in b) (map number_of before)) where
  none_made : (call : BestCall) → after_best (disc_in meaning b).terms call (live_in b before) ≡ live_in b before → best_weight call (live_in b before) ≡ 0 → IsBestMade meaning call b b before before now now
  none_made call same none = record {
    leaves = sym same;
    live = live;
    disc = record { none = NoneRefused-same (disc_in meaning b); out = λ rest e. e };
    cost = record {
      law = λ t u h k. record {
        cost = let e = ap rank (IsTree-one (gap_store (tiling b.extents.segs.items)) b.root.0 t u (gap_none b.extents.segs.items b.extents.index.items b.extents.kept) h k) in omega arith;
      };
    };
  }

  module _ (n : ℕ) (none : length before ≤ n) where
    lacks : has_nth (live_in b before) n ≡ false
    lacks = le-ltb n (length (map number_of before)) (let e = length-map before number_of in omega (arith, e, none))

    pub none_resized : (size : ℕ) → IsBestMade meaning (Resize n size) b b before before now now
    none_resized size =
        none_made (Resize n size)
        (ap (λ t. if t then with_nth (live_in b before) n (resize_nth (disc_in meaning b).terms (live_in b before) n size false) else live_in b before) lacks)
        (ap (λ t. if t then 1 else 0) lacks)

    pub none_freed : IsBestMade meaning (Free n) b b before before now now
    none_freed = none_made (Free n) (ap (λ t. if t then without_nth (live_in b before) n else live_in b before) lacks) (ap (λ t. if t then 1 else 0) lacks)
