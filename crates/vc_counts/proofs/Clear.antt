-- A best region puts a block where none stands.
use Rattle.vc_base.proofs.Common.{◌≡◌, ℕ, zero, suc, ◌+◌, ◌-◌, ◌<◌, ◌≤◌, Bool, true, false, cond, eqb, ◌≢◌, List, [], ◌∷◌, ◌++◌, length, get_or, get_or_default, nat_le, nat_lt, Some, None, All, Contains, filter, Option, sym, refl, ap, ◌∙◌, subst, ⊎_elim, true≢false, arith, eq-eqb, eqb-true, leb-true, and_parts, cases_Bool, or_parts, All-append, All-cons, All-filter, All-head, All-nil, All-tail, All-weaker, filter_passes, none-some, list_any, best_alloc, best_need, place_in, put_in_new, put_or_ask, zeros, Terms, Run, gaps, Block, Layout, footprint, footprints, is_at, with_grant, Done, Outcome, Put, Refused, holds, lowest_offset, Asked, Grant, Granted, NotLent, TooMany, ask, lowest_unused, new_segment, numbers, span, unused_from, HaveOwnNumbers, IsUsable}
use Rattle.std.proofs.lemmas.List.Elements.{All-contains_itself}
use Rattle.vc_best.proofs.Gaps.{least-from}
use Rattle.vc_seg.proofs.Lists.{AllPairs-append}
use Rattle.vc_laws.specs.Maximal.{AreLawful, Covers}
use Rattle.vc_laws.proofs.Maximality.{IsGap-from_gaps}
use Rattle.vc_laws.proofs.Members.{Any-from_member, Member-append_left, Some_of-from_Any}
use Rattle.vc_model.specs.Best.{put}
use Rattle.vc_model.specs.Place.{best_gap}
use Rattle.vc_model.specs.Segments.{ask_by, growing, segment_limit, size_limit, with_more}
use Rattle.vc_base.proofs.Places.{some-span}
use Rattle.vc_base.proofs.Options.{option_map-Some}
use Rattle.vc_seg.proofs.Rounding.{round_up-least}
use Rattle.vc_seg.proofs.Unused.{is_among, lowest_unused-unused}
use Rattle.vc_counts.proofs.GrantedSegments.{more-many}
use Rattle.vc_counts.proofs.RegionLends.{either}
use Rattle.vc_counts.proofs.BlockSizes.{HasSized, IsClear, sized-more}

module _ {L : Type 0} where
  covers : (at : ℕ × ℕ) (b : Block L) → is_at at b ≡ true → Covers (footprint b) (at.0, at.1 - 16)
  covers at b here =
      let both = and_parts (eqb b.seg at.0) (eqb b.off at.1) here in
      let off : b.off ≡ at.1 = eqb-true b.off at.1 both.1 in
      (eqb-true b.seg at.0 both.0, omega (arith, off), omega (arith, off, some-span b.size))

  -- where no footprint covers the first byte of a head
  uncovered-clear : (at : ℕ × ℕ) (bs : List (Block L)) → All (λ f. ¬ Covers f (at.0, at.1 - 16)) (footprints bs) → IsClear at bs
  uncovered-clear at [] all = tt
  uncovered-clear at (b ∷ bs) all =
      let P : Run → Type 0 = λ f. ¬ Covers f (at.0, at.1 - 16) in (
        ⊎_elim (λ t. absurd (All-head P (footprint b) (footprints bs) all (covers at b t))) (λ t. t) (cases_Bool (is_at at b)),
        uncovered-clear at bs (All-tail P (footprint b) (footprints bs) all),
      )

  module _ (r : Layout L) (lawful : AreLawful r.segments (footprints r.blocks)) (size align : ℕ) (some : 1 ≤ align) where
    abbrev place_at : Run → ℕ × ℕ
    place_at g = (g.seg, lowest_offset align g)

    clear-gap : (g : Run) → Contains (gaps r.segments (footprints r.blocks)) g → holds (span size) align g ≡ true → IsClear (place_at g) r.blocks
    clear-gap g within fits =
        let gap = IsGap-from_gaps r.segments (footprints r.blocks) lawful g within in
        let off : ℕ = lowest_offset align g in
        let behind : g.from + 16 ≤ off = round_up-least (g.from + 16) align some in
        let ends : off + span size ≤ g.to + 16 = leb-true (off + span size) (g.to + 16) fits in
        uncovered-clear (place_at g) r.blocks (gap.free (off - 16) (omega (arith, behind)) (omega (arith, behind, ends, some-span size))).uncovered

    -- the place of a block
    pub clear-place : (at : ℕ × ℕ) → place_in r size align ≡ Some at → IsClear at r.blocks
    clear-place at e =
        let all : List Run = gaps r.segments (footprints r.blocks) in
        let test : Run → Bool = holds (span size) align in
        let P : Run → Type 0 = λ g. IsClear (place_at g) r.blocks in
        let found = option_map-Some place_at (best_gap r.segments (footprints r.blocks) size align) at e in
        let each : All P (filter test all) =
        λ k d lt. clear-gap (get_or (filter test all) k d) (All-filter test (Contains all) all (All-contains_itself all) k d lt) (filter_passes test all k d lt) in
        subst (λ p. IsClear p r.blocks) found.2 (least-from P None (filter test all) found.0 (λ c q. absurd (none-some c q)) each found.1)

-- a number that isn't used is from 1 on
unused-least : (n more : ℕ) (used : List ℕ) → n ≤ unused_from n more used
unused-least n zero used = omega arith
unused-least n (suc more) used =
    either (λ m. n ≤ m) (list_any (λ m. eqb m n) used) (unused_from (n + 1) more used) n (let rest = unused-least (n + 1) more used in omega (arith, rest)) (omega arith)

-- none of these segments has it
not-among : (n : ℕ) (ss : List (ℕ × ℕ)) → is_among n (numbers ss) ≡ false → All (λ (s : ℕ × ℕ). s.0 ≢ n) ss
not-among n [] none = All-nil (λ (s : ℕ × ℕ). s.0 ≢ n)
not-among n (s ∷ ss) none =
    let parts = or_parts (eqb s.0 n) (is_among n (numbers ss)) none in
    All-cons (λ (t : ℕ × ℕ). t.0 ≢ n) s ss (λ e. true≢false (sym (eq-eqb s.0 n e) ∙ parts.0)) (not-among n ss parts.1)

module _ {L : Type 0} (r : Layout L) (lawful : AreLawful r.segments (footprints r.blocks)) (n bytes : ℕ) (first : 1 ≤ n) (unused : is_among n (numbers r.segments) ≡ false) where
  abbrev more : List (ℕ × ℕ)
  more = r.segments ++ (n, bytes) ∷ []

  own : HaveOwnNumbers more
  own =
      let First : ℕ × ℕ → Type 0 = λ s. 1 ≤ s.0 in
      let Apart : ℕ × ℕ → ℕ × ℕ → Type 0 = λ s t. s.0 ≢ t.0 in
      record {
        first = All-append First r.segments ((n, bytes) ∷ []) lawful.numbered.first (All-cons First (n, bytes) [] first (All-nil First));
        distinct =
            AllPairs-append Apart r.segments ((n, bytes) ∷ []) lawful.numbered.distinct (λ i j d lt within. absurd (omega (arith, lt, within)))
            (All-weaker (λ (s : ℕ × ℕ). s.0 ≢ n) (λ (s : ℕ × ℕ). All (Apart s) ((n, bytes) ∷ []))
            (λ s other. All-cons (Apart s) (n, bytes) [] other (All-nil (Apart s))) r.segments (not-among n r.segments unused));
      }

  usable-more : (f : Run) → IsUsable r.segments f → IsUsable more f
  usable-more f usable =
      let P : ℕ × ℕ → Type 0 = λ s. (f.seg ≡ s.0) × (16 ≤ f.from) × (f.to + 16 ≤ s.1) in
      let at = Some_of-from_Any P r.segments usable in
      Any-from_member P more at.0 (Member-append_left r.segments ((n, bytes) ∷ []) at.0 at.1) at.2

  -- with one more segment under such a number
  pub lawful-more : AreLawful more (footprints r.blocks)
  lawful-more =
      record {
        numbered = own;
        some = lawful.some;
        usable = All-weaker (IsUsable r.segments) (IsUsable more) usable-more (footprints r.blocks) lawful.usable;
        apart = lawful.apart;
      }

-- with more bytes in the last segment
longer-number : (bytes : ℕ) (ss : List (ℕ × ℕ)) (k : ℕ) (d : ℕ × ℕ) → (get_or (with_more bytes ss) k d).0 ≡ (get_or ss k d).0
longer-number bytes [] k d = refl
longer-number bytes (s ∷ []) zero d = refl
longer-number bytes (s ∷ []) (suc k) d = refl
longer-number bytes (s ∷ t ∷ ss) zero d = refl
longer-number bytes (s ∷ t ∷ ss) (suc k) d = longer-number bytes (t ∷ ss) k d

longer-size : (bytes : ℕ) (ss : List (ℕ × ℕ)) (k : ℕ) (d : ℕ × ℕ) → (get_or ss k d).1 ≤ (get_or (with_more bytes ss) k d).1
longer-size bytes [] k d = omega arith
longer-size bytes (s ∷ []) zero d = omega arith
longer-size bytes (s ∷ []) (suc k) d = omega arith
longer-size bytes (s ∷ t ∷ ss) zero d = omega arith
longer-size bytes (s ∷ t ∷ ss) (suc k) d = longer-size bytes (t ∷ ss) k d

module _ (bytes : ℕ) (ss : List (ℕ × ℕ)) where
  own-longer : HaveOwnNumbers ss → HaveOwnNumbers (with_more bytes ss)
  own-longer own =
      let long = more-many ss bytes in
      record {
        first = λ k d within. subst (λ n. 1 ≤ n) (sym (longer-number bytes ss k d)) (own.first k d (omega (arith, long, within)));
        distinct = λ i j d lt within e. own.distinct i j d lt (omega (arith, long, within)) (sym (longer-number bytes ss i d) ∙ (e ∙ longer-number bytes ss j d));
      }

  usable-longer : (f : Run) → IsUsable ss f → IsUsable (with_more bytes ss) f
  usable-longer f (k, x, within, same, (number, from, to)) =
      let long = more-many ss bytes in
      let inside : k < length (with_more bytes ss) = omega (arith, long, within) in
      let size = longer-size bytes ss k x in
      let had : (get_or ss k x).1 ≡ x.1 = ap (λ s. s.1) same in (
        k,
        get_or (with_more bytes ss) k x,
        inside,
        get_or_default (with_more bytes ss) k (get_or (with_more bytes ss) k x) x inside,
        (number ∙ (ap (λ s. s.0) (sym same) ∙ sym (longer-number bytes ss k x)), from, omega (arith, to, size, had)),
      )

  lawful-longer : (fs : List Run) → AreLawful ss fs → AreLawful (with_more bytes ss) fs
  lawful-longer fs lawful =
      record {
        numbered = own-longer lawful.numbered;
        some = lawful.some;
        usable = All-weaker (IsUsable ss) (IsUsable (with_more bytes ss)) usable-longer fs lawful.usable;
        apart = lawful.apart;
      }

-- a block that is put leaves those there, each of its size at its address
abbrev pub KeepsSized : {L : Type 0} → Layout L → Outcome (Put (Layout L)) → Type 0
KeepsSized r (Done p) = (a n : ℕ) → HasSized r.blocks a n → HasSized p.region.blocks a n
KeepsSized r (Refused why) = Unit {0}

module _ {L : Type 0} (r : Layout L) (lawful : AreLawful r.segments (footprints r.blocks)) (label : L) (size align : ℕ) (some : 1 ≤ align) where
  keeps-granted : (g : Grant) → AreLawful (with_grant r g).segments (footprints r.blocks) → (o : Option (ℕ × ℕ)) → place_in (with_grant r g) size align ≡ o → KeepsSized r (put (with_grant r g) label size (Some g) o)
  keeps-granted g after None e = tt
  keeps-granted g after (Some at) e = λ a m has. sized-more (zeros label size at) r.blocks (clear-place (with_grant r g) after size align some at e) a m has

  keeps-by : (o : Option (ℕ × ℕ)) (need : ℕ) (refused : Bool) → KeepsSized r (put_in_new r label size align (ask_by o need r.segments refused))
  keeps-by None need refused =
      let n : ℕ = lowest_unused (numbers r.segments) in
      let g = new_segment n need in
      let P : Asked → Type 0 = λ a. KeepsSized r (put_in_new r label size align a) in
      either P (nat_lt (length r.segments) segment_limit) (cond refused NotLent (Granted g)) TooMany
      (either P refused NotLent (Granted g) tt
      (keeps-granted g (lawful-more r lawful n need (unused-least 1 (length (numbers r.segments)) (numbers r.segments)) (lowest_unused-unused (numbers r.segments))) (place_in (with_grant r g) size align) refl))
      tt
  keeps-by (Some s) need refused =
      let g : Grant = record { number = s.0; bytes = need; fresh = false } in
      let P : Asked → Type 0 = λ a. KeepsSized r (put_in_new r label size align a) in
      either P (nat_le (s.1 + need) size_limit) (cond refused NotLent (Granted g)) TooMany
      (either P refused NotLent (Granted g) tt (keeps-granted g (lawful-longer need r.segments (footprints r.blocks) lawful) (place_in (with_grant r g) size align) refl))
      tt

  keeps-asked : (terms : Terms) (need : ℕ) (refused : Bool) → KeepsSized r (put_in_new r label size align (ask terms need r.segments refused))
  keeps-asked terms need refused = keeps-by (growing terms r.segments) need refused

  keeps-placed : (terms : Terms) (refused : Bool) (o : Option (ℕ × ℕ)) → place_in r size align ≡ o → KeepsSized r (put_or_ask terms r label size align refused o)
  keeps-placed terms refused (Some at) e =
      λ a m has. sized-more (zeros label size at) r.blocks (clear-place r lawful size align some at e) a m has
  keeps-placed terms refused None e = keeps-asked terms (best_need terms size align) refused

  pub keeps-alloc : (terms : Terms) (refused : Bool) → KeepsSized r (best_alloc terms r label size align refused)
  keeps-alloc terms refused = keeps-placed terms refused (place_in r size align) refl
