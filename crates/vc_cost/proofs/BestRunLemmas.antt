-- A run of calls on a best region, some of which were made.
use Rattle.std.proofs.lemmas.Nat.{mul-le}
use Rattle.vc_base.proofs.Common.{◌≡◌, ℕ, ◌+◌, ◌*◌, ◌<◌, ◌≤◌, Bool, true, false, List, [], ◌∷◌, ◌++◌, length, length-append, map, max, get_or, nat_lt, take, take_all, append-nil, OnOk, Result, Ok, Err, HasOut, refl, sym, ap, ◌∙◌, subst, inl, inr, le-ltb, true≢false, arith, number_of, Discipline, Terms, TookBack, Fault}
use Rattle.std.specs.Result.{is_err}
use Rattle.std.proofs.lemmas.List.{take_more}
use Rattle.vc_base.specs.declared.addr.Addr.{Addr}
use Rattle.vc_model.specs.Count.{Rose}
use Rattle.vc_model.specs.Numbers.{gap_count}
use Rattle.vc_model.specs.Outcome.{TooManySegments}
use Rattle.vc_model.specs.Layout.{footprints}
use Rattle.vc_model.specs.Gap.{gaps}
use Rattle.vc_model.proofs.Keeping.{Kept-same, Kept-trans, NoneRefused-same, NoneRefused-trans, Rose-earlier}
use Rattle.vc_splay.proofs.DigitLemmas.{digits-rise}
use Rattle.vc_splay.specs.Rank.{binary_digits, rank, size}
use Rattle.vc_splay.specs.Stands.{IsTree}
use Rattle.vc_splay.specs.Tree.{Tree, Leaf, Node, names}
use Rattle.vc_extent.specs.Tiling.{tiling}
use Rattle.vc_gaps.specs.GapStore.{gap_store}
use Rattle.vc_best.specs.Parts.{blocks_in, disc_in, layout_of, segments_in}
use Rattle.vc_best.specs.declared.best.Best.{Best}
use Rattle.vc_best.proofs.Held.{merged-of, tree-of}
use Rattle.vc_best.proofs.NodesFew.{nodes-few}
use Rattle.vc_seg.specs.declared.fault.RegionFault.{RegionFault}
use Rattle.vc_seg.specs.declared.fault.RegionFault.TheVariants as code
use Rattle.vc_cost.specs.declared.best_call.BestCall.{BestCall}
use Rattle.vc_cost.specs.declared.best_call.BestCall.TheVariants.{Alloc, Resize, Free, Clear, Compact}
use Rattle.vc_cost.specs.BestCalls.{AreLive, IsDiscLeft, IsDiscServed, IsRefusedAt, IsRefusedBy, IsStoppedAt, Live, after_best, after_bests, best_weight, bests_made, greatest_gaps}
use Rattle.vc_cost.specs.BestCosts.{IsBestMade, IsBestRefused, IsRunMade, IsRunStopped, live_in}
use Rattle.vc_cost.proofs.FaultLemmas.{alloc-first}
use Rattle.vc_cost.proofs.LiveLemmas.{live-none}
use Rattle.vc_cost.proofs.MadeLemmas.{size-names}

-- one more call of a list
module _ (terms : Terms) (call : BestCall) where
  after-more : (calls : List BestCall) (r : Live) → after_bests terms (calls ++ call ∷ []) r ≡ after_best terms call (after_bests terms calls r)
  after-more [] r = refl
  after-more (c ∷ calls) r = after-more calls (after_best terms c r)

  greatest-more : (calls : List BestCall) (r : Live) → greatest_gaps terms (calls ++ call ∷ []) r ≡ max (greatest_gaps terms calls r) (gap_count (after_best terms call (after_bests terms calls r)).layout)
  greatest-more [] r = omega arith
  greatest-more (c ∷ calls) r = let h = greatest-more calls (after_best terms c r) in omega (arith, h)

  made-more : (calls : List BestCall) (r : Live) → bests_made terms (calls ++ call ∷ []) r ≡ bests_made terms calls r + best_weight call (after_bests terms calls r)
  made-more [] r = omega arith
  made-more (c ∷ calls) r = let h = made-more calls (after_best terms c r) in omega (arith, h)

-- these calls were made on a region, in turn: what it is now, and what they cost
pub record AreBestsMade {I : Type 0} {V : I → Type 0} (meaning : (x : I) × V x → Discipline) (calls : List BestCall) (first now : Best I V) (live : List Addr) (greatest start steps : ℕ) : Type 0 where
  pub leaves : live_in now live ≡ after_bests (disc_in meaning first).terms calls (live_in first [])
  pub alive : AreLive (blocks_in now) (map number_of live)
  pub disc : IsDiscServed (disc_in meaning first) (disc_in meaning now) (segments_in first) (segments_in now)
  pub most : greatest ≡ greatest_gaps (disc_in meaning first).terms calls (live_in first [])
  pub few : gap_count (layout_of now) ≤ greatest
  pub cost : (u : Tree) → IsTree (gap_store (tiling now.extents.segs.items)) now.root.0 u → steps + 2 * rank u ≤ start + bests_made (disc_in meaning first).terms calls (live_in first []) * (240 * binary_digits greatest + 260)

none-rank : (t : Tree) → size t ≤ 0 → rank t ≡ 0
none-rank Leaf h = refl
none-rank (Node l n r) h =
    let e = size-names (Node l n r) (names l ++ n ∷ names r) refl in
    let k = length-append (names l) (n ∷ names r) in
    absurd (omega (arith, h, e, k))

module _ {I : Type 0} {V : I → Type 0} (meaning : (x : I) × V x → Discipline) where
  bests_none : (b : Best I V) (now : ℕ) → segments_in b ≡ [] → AreBestsMade meaning [] b b [] 0 now now
  bests_none b now none =
      let no : gap_count (layout_of b) ≡ 0 = ap (λ ss. length (gaps ss (footprints (blocks_in b)))) none in
      record {
        leaves = refl;
        alive = live-none (blocks_in b);
        disc = record { none = NoneRefused-same (disc_in meaning b); out = λ rest e. e };
        most = refl;
        few = omega (arith, no);
        cost = λ u k.
            let f : size u ≤ gap_count (layout_of b) = nodes-few b.extents.segs.items b.extents.index.items b.extents.kept (merged-of (tiling b.extents.segs.items) b.merged) b.root.0 u k in
            let e = none-rank u (omega (arith, f, no)) in
            omega (arith, e);
      }

  -- so the list of live blocks is empty
  pub bests_first : (b : Best I V) (live : List Addr) (now : ℕ) → live ≡ [] → segments_in b ≡ [] → AreBestsMade meaning [] b b live 0 now now
  bests_first b live now empty none = subst (λ z. AreBestsMade meaning [] b b z 0 now now) (sym empty) (bests_none b now none)

  module _ (calls : List BestCall) (first mid new : Best I V) (live after : List Addr) (greatest greatest' start steps last : ℕ) (call : BestCall) (h : AreBestsMade meaning calls first mid live greatest start steps) where
    abbrev terms : Terms
    terms = (disc_in meaning first).terms

    abbrev r : Live
    r = live_in first []

    pub bests_next : IsBestMade meaning call mid new live after steps last → greatest' ≡ max greatest (gap_count (layout_of new)) → AreBestsMade meaning (calls ++ call ∷ []) first new after greatest' start last
    bests_next k g =
        let made : live_in new after ≡ after_best terms call (after_bests terms calls r) =
        k.leaves ∙ ap (λ t. after_best t call (live_in mid live)) h.disc.none.kept.terms ∙ ap (after_best terms call) h.leaves in
        let gaps_now : gap_count (layout_of new) ≡ gap_count (after_best terms call (after_bests terms calls r)).layout = ap (λ (s : Live). gap_count s.layout) made in
        let all = greatest-more terms call calls r in
        record {
          leaves = made ∙ sym (after-more terms call calls r);
          alive = k.live;
          disc = record {
            none = NoneRefused-trans (disc_in meaning first) (disc_in meaning mid) (disc_in meaning new) h.disc.none k.disc.none;
            out = λ rest e. k.disc.out rest (h.disc.out rest e);
          };
          most = omega (arith, g, h.most, gaps_now, all);
          few = omega (arith, g);
          cost = λ u s.
              let w = tree-of mid.extents.segs.items mid.extents.index.items mid.root.0 mid.extents.kept mid.gaps in
              let v = w.tree.tree in
              let weight = best_weight call (after_bests terms calls r) in
              let made_before = bests_made terms calls r in
              let i = h.cost v w.tree.is_tree in
              let j = (k.cost.law v u w.tree.is_tree s).cost in
              let same : best_weight call (live_in mid live) ≡ weight = ap (best_weight call) h.leaves in
              let few = h.few in
              let d = digits-rise greatest greatest' (omega (arith, g)) in
              let e = digits-rise (max (gap_count (layout_of mid)) (gap_count (layout_of new))) greatest' (omega (arith, g, few)) in
              let x = mul-le made_before (240 * binary_digits greatest + 260) made_before (240 * binary_digits greatest' + 260) (omega arith) (omega (arith, d)) in
              let y = mul-le (best_weight call (live_in mid live)) (240 * binary_digits (max (gap_count (layout_of mid)) (gap_count (layout_of new))) + 260) weight (240 * binary_digits greatest' + 260) (omega (arith, same)) (omega (arith, e)) in
              subst (λ m. last + 2 * rank u ≤ start + m * (240 * binary_digits greatest' + 260)) (sym (made-more terms call calls r)) (omega (arith, i, j, x, y));
        }

    -- the next one was refused
    pub bests_left : (why : RegionFault) → IsBestRefused meaning call mid new live why → IsDiscLeft why (disc_in meaning first) (disc_in meaning new) (segments_in first) (segments_in new)
    bests_left why k = record {
      kept = Kept-trans (disc_in meaning first) (disc_in meaning mid) (disc_in meaning new) h.disc.none.kept k.disc.kept;
      rose = λ e. Rose-earlier (disc_in meaning first).faults (disc_in meaning mid).faults (disc_in meaning new).faults h.disc.none.kept.faults (k.disc.rose e);
      out = λ rest e. k.disc.out rest (h.disc.out rest e);
    }

moved : (t t' : Terms) (c c' : BestCall) (s s' : Live) (b : Bool) (w : Fault) → t ≡ t' → c ≡ c' → s ≡ s' → IsRefusedBy t c s b w → IsRefusedBy t' c' s' b w
moved t t' c c' s s' b w et ec es h = subst (λ z. IsRefusedBy t' c' z b w) es (subst (λ z. IsRefusedBy t' z s b w) ec (subst (λ z. IsRefusedBy z c s b w) et h))

module _ {I : Type 0} {V : I → Type 0} (meaning : (x : I) × V x → Discipline) (items : List BestCall) (k : ℕ) (first mid new : Best I V) (live : List Addr) (greatest start steps : ℕ) where
  abbrev given : Live
  given = live_in first []

  abbrev all : Terms
  all = (disc_in meaning first).terms

  pub bests_stopped : (call : BestCall) (why : RegionFault) → k < length items → call ≡ get_or items k Compact → AreBestsMade meaning (take k items) first mid live greatest start steps → IsBestRefused meaning call mid new live why
      → IsStoppedAt all items given k why (layout_of new)
  bests_stopped call why within own h stop =
      let to : (b : Bool) (w : Fault) → IsRefusedBy (disc_in meaning mid).terms call (live_in mid live) b w → IsRefusedAt all items k given b w =
      λ b w q. record {
        there = within;
        by = moved (disc_in meaning mid).terms all call (get_or items k Compact) (live_in mid live) (after_bests all (take k items) given) b w h.disc.none.kept.terms own h.leaves q;
      }
      in
      let from : (b : Bool) (w : Fault) → IsRefusedAt all items k given b w → IsRefusedBy (disc_in meaning mid).terms call (live_in mid live) b w =
      λ b w q. moved all (disc_in meaning mid).terms (get_or items k Compact) call (after_bests all (take k items) given) (live_in mid live) b w (sym h.disc.none.kept.terms) (sym own) (sym h.leaves) q.by in
      record {
        place = inl within;
        layout = stop.same ∙ ap (λ (s : Live). s.layout) h.leaves;
        fault = record {
          too_many = (λ e. to false _ (stop.fault.too_many.0 e), λ q. stop.fault.too_many.1 (from false _ q));
          no_segment = λ e. to true _ (stop.fault.no_segment e);
          only = stop.fault.only;
        };
      }

-- a region without a segment doesn't lack the place for one
first-asks : (terms : Terms) (call : BestCall) (s : Live) → s.layout.segments ≡ [] → s.blocks ≡ [] → IsRefusedBy terms call s false TooManySegments → ⊥
first-asks terms (Alloc size) s none empty h = alloc-first terms s.layout 0 size 32 none h
first-asks terms (Resize n size) s none empty h = true≢false (sym h.0 ∙ ap (λ bs. nat_lt n (length bs)) empty ∙ le-ltb n 0 (omega arith))
first-asks terms (Free n) s none empty h = h
first-asks terms Clear s none empty h = h
first-asks terms Compact s none empty h = h

pub none_stopped : {I : Type 0} {V : I → Type 0} (terms : Terms) (items : List BestCall) (b : Best I V) → segments_in b ≡ [] → IsStoppedAt terms items (live_in b []) 0 code.OutOfMemory (layout_of b)
none_stopped terms items b none = record {
  place = inr (refl, refl);
  layout = refl;
  fault = record {
    too_many = (λ e. absurd (cc), λ q. absurd (first-asks terms (get_or items 0 Compact) (live_in b []) none refl q.by));
    no_segment = λ e. absurd (cc);
    only = inr (inr refl);
  };
}

pub none_left : (d : Discipline) (segs : List (ℕ × ℕ)) → IsDiscLeft code.OutOfMemory d d segs segs
none_left d segs = record { kept = Kept-same d; rose = λ e. absurd (cc); out = λ rest e. e }

-- the run that ends so
pub run_unstarted : {I : Type 0} {V : I → Type 0} (meaning : (x : I) × V x → Discipline) (items : List BestCall) (b : Best I V) → segments_in b ≡ [] → IsRunStopped meaning items b b 0 code.OutOfMemory
run_unstarted meaning items b none = record { stopped = none_stopped (disc_in meaning b).terms items b none; disc = none_left (disc_in meaning b) (segments_in b) }

pub run_stopped : {I : Type 0} {V : I → Type 0} (meaning : (x : I) × V x → Discipline) (items : List BestCall) (k : ℕ) (first mid new : Best I V) (live after : List Addr) (greatest start steps : ℕ) (call : BestCall) (why : RegionFault) → k < length items → call ≡ get_or items k Compact
    → AreBestsMade meaning (take k items) first mid live greatest start steps → IsBestRefused meaning call mid new live why → IsRunStopped meaning items first new k why
run_stopped meaning items k first mid new live after greatest start steps call why within own h stop = record {
  stopped = bests_stopped meaning items k first mid new live greatest start steps call why within own h stop;
  disc = bests_left meaning (take k items) first mid new live after greatest greatest start steps steps call h why stop;
}

-- where all were made
module _ {I : Type 0} {V : I → Type 0} (meaning : (x : I) × V x → Discipline) (items calls : List BestCall) (i : ℕ) (first now : Best I V) (live : List Addr) (greatest start steps : ℕ) (same : items ≡ calls) (end : length items ≤ i)
    (h : AreBestsMade meaning (take i items) first now live greatest start steps) where
  pub bests_all : AreBestsMade meaning calls first now live greatest start steps
  bests_all = subst (λ z. AreBestsMade meaning z first now live greatest start steps) (take_all i items end ∙ same) h

  all_cost : steps ≤ start + bests_made (disc_in meaning first).terms calls (live_in first []) * (240 * binary_digits greatest + 260)
  all_cost =
      let w = tree-of now.extents.segs.items now.extents.index.items now.root.0 now.extents.kept now.gaps in
      let c = bests_all.cost w.tree.tree w.tree.is_tree in
      omega (arith, c)

  pub run_made : IsRunMade meaning calls first now start steps greatest
  run_made = record { layout = ap (λ (s : Live). s.layout) bests_all.leaves; most = bests_all.most; disc = bests_all.disc; cost = all_cost }

-- one more of a list of them was made
pub bests_step : {I : Type 0} {V : I → Type 0} (meaning : (x : I) × V x → Discipline) (items : List BestCall) (i : ℕ) (first mid new : Best I V) (live after : List Addr) (greatest greatest' start steps last : ℕ) (call : BestCall)
    → i < length items → AreBestsMade meaning (take i items) first mid live greatest start steps → IsBestMade meaning call mid new live after steps last → greatest' ≡ max greatest (gap_count (layout_of new)) → call ≡ get_or items i Compact
    → AreBestsMade meaning (take (i + 1) items) first new after greatest' start last
bests_step meaning items i first mid new live after greatest greatest' start steps last call within h k g own =
    subst (λ z. AreBestsMade meaning z first new after greatest' start last) (sym (take_more items i Compact within ∙ ap (λ z. take i items ++ z ∷ []) (sym own)))
    (bests_next meaning (take i items) first mid new live after greatest greatest' start steps last call h k g)

-- the segments of the region are out
pub bests_lent : {I : Type 0} {V : I → Type 0} (meaning : (x : I) × V x → Discipline) (calls : List BestCall) (first mid : Best I V) (live : List Addr) (greatest start steps : ℕ) → segments_in first ≡ [] → AreBestsMade meaning calls first mid live greatest start steps → HasOut (disc_in meaning mid) (segments_in mid)
bests_lent meaning calls first mid live greatest start steps none h =
    let out = (disc_in meaning first).out in
    (out, h.disc.out out (sym (ap (λ z. out ++ z) none ∙ append-nil out)))

-- what holds of a call that succeeded
pub ok-holds : {A E : Type 0} (result : Result A E) (P : Type 0) → is_err result ≡ false → OnOk result P → P
ok-holds (Ok a) P e p = p
ok-holds (Err w) P e p = absurd (true≢false e)
