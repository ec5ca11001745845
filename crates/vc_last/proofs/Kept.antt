-- The blocks of a last region are a row, each is found at its address, and one more goes behind them.
use Rattle.vc_base.proofs.Common.{◌≡◌, ℕ, suc, ◌+◌, ◌-◌, ◌*◌, ◌/◌, ◌%◌, ◌<◌, ◌≤◌, true, false, ◌≢◌, List, [], ◌∷◌, ◌++◌, map, length, get_or, Some, All, Any, AllPairs, sym, refl, ap, ◌∙◌, subst, inr, ⊎_elim, arith, eq-eqb, ne_eqb, cases_Bool, cases_eq, All-head, All-map, All-tail, get_or-map, length-map, length_push, address, place_of, newest, Block, address_of, is_at, span, IsSound, HasBlock, find_block}
use Rattle.std.proofs.lemmas.Map.Made.{Contains-tail}
use Rattle.vc_base.proofs.Places.{at-place, span-least}
use Rattle.vc_model.specs.Last.{last_of}
use Rattle.vc_seg.specs.Segment.{Bytes, pair_of}
use Rattle.vc_seg.proofs.Backs.{Apart}
use Rattle.vc_seg.specs.Memory.{bytes_of_number}
use Rattle.vc_seg.proofs.BytesByNumber.{bytes_of_number-at, bytes_of_number-most}
use Rattle.vc_seg.specs.Field.{field_at}
use Rattle.vc_extent.specs.Tiling.{index_from}
use Rattle.vc_seg.proofs.Segments.{HaveOwnNumbers-segments}
use Rattle.vc_last.specs.Allocation.{AreAllocated}
use Rattle.vc_last.specs.Head.{HasHead, LiesThere, StaysBut, before_of, block_of}
use Rattle.vc_last.specs.Chain.{IsLast, IsLastOf, LiesLower, blocks_from, rank}
use Rattle.vc_last.specs.Place.{IsBlockPlace}
use Rattle.vc_last.specs.Read.{layout_by}
use Rattle.vc_last.proofs.Lists.{get_or-last}
use Rattle.vc_last.proofs.Latest.{at-own}
use Rattle.vc_last.proofs.Allocations.{IsSound-row, row}
use Rattle.vc_last.proofs.Places.{place-behind}
use Rattle.vc_last.proofs.Chains.{chain-heads, head-exact, last-is, last-push}
use Rattle.vc_last.proofs.Writes.{LiesClear, head-made, last-stays, rank-same, size-same}

-- a segment with bytes is among these, and its bytes are those of its number
any-bytes : (n to : ℕ) (segs : List Bytes) → 0 < to → to ≤ length (bytes_of_number n segs) → Any (λ s. (n ≡ s.0) × (to ≤ s.1)) (map pair_of segs)
any-bytes n to [] some le = absurd (omega (arith, some, le))
any-bytes n to (s ∷ ss) some le =
    ⊎_elim
    (λ (e : s.number ≡ n). let own : to ≤ length s.bytes = rw (eq-eqb s.number n e) at le in (0, pair_of s, omega arith, refl, (sym e, own)))
    (λ (e : s.number ≡ n → ⊥).
    let rest = any-bytes n to ss some (rw (ne_eqb s.number n e) at le) in
    (suc rest.0, rest.1, omega (arith, rest.2), rest.3, rest.4))
    (cases_eq s.number n)

pub bytes-any : (n to : ℕ) (segs : List Bytes) → AllPairs Apart segs → Any (λ s. (n ≡ s.0) × (to ≤ s.1)) (map pair_of segs) → to ≤ length (bytes_of_number n segs)
bytes-any n to segs distinct h =
    let i : ℕ = h.0 in
    let d : Bytes = record { number = 0; bytes = [] } in
    let s : Bytes = get_or segs i d in
    let lt : i < length segs = omega (arith, h.2, length-map segs pair_of) in
    let same : h.1 ≡ pair_of s = sym h.3 ∙ get_or-map pair_of segs i d h.1 lt in
    let number : n ≡ s.number = h.4.0 ∙ ap (λ (q : ℕ × ℕ). q.0) same in
    let size : to ≤ length s.bytes = omega (arith, h.4.1, ap (λ (q : ℕ × ℕ). q.1) same) in
    subst (λ (m : ℕ). to ≤ length (bytes_of_number m segs)) (sym number)
    (subst (λ (bytes : List ℕ). to ≤ length bytes) (sym (bytes_of_number-at segs i d distinct lt)) size)

pub row-of : (segs : List Bytes) (q : ℕ) (bs : List (Block ℕ)) → IsLastOf segs q bs → AreAllocated (row (map pair_of segs) bs)
row-of segs q bs h =
    let heads = chain-heads segs 0 q bs h.chain in
    record {
      ordered = h.ordered;
      usable = λ k d lt.
          let b : Block ℕ = get_or bs k d in
          let l : HasHead segs b = heads k d lt in
          let u = any-bytes b.seg (b.off + span b.size) segs (omega (arith, l.first)) l.within in
          (u.0, u.1, u.2, u.3, (u.4.0, omega (arith, l.first), omega (arith, l.first, u.4.1)));
      exact = λ k d lt. head-exact segs (get_or bs k d) (heads k d lt);
      numbered = HaveOwnNumbers-segments segs h.segments;
    }

pub layout-is : (segs : List Bytes) (q : ℕ) (bs : List (Block ℕ)) → IsLastOf segs q bs → layout_by segs q ≡ row (map pair_of segs) bs
unfolding layout_by
layout-is segs q bs h = ap (row (map pair_of segs)) (last-is segs q bs h)

pub layout-from : (segs : List Bytes) (q : ℕ) → layout_by segs q ≡ row (map pair_of segs) (blocks_from segs q)
unfolding layout_by
layout-from segs q = refl

pub row-by : (segs : List Bytes) (q : ℕ) → IsLast segs q → AreAllocated (layout_by segs q)
row-by segs q h = subst AreAllocated (sym (layout-from segs q)) (row-of segs q (blocks_from segs q) h)

pub sound-by : (segs : List Bytes) (q : ℕ) → IsLast segs q → IsSound (layout_by segs q)
unfolding layout_by
sound-by segs q h = IsSound-row (layout_by segs q) (row-by segs q h) (All-map (λ (s : ℕ × ℕ). s.1 ≤ 33554432) pair_of segs (λ k d lt. (h.segments.legal k d lt).size.most))

-- what stands at an address
pub record StandsAt (segs : List Bytes) (bs : List (Block ℕ)) (a : ℕ) : Type 0 where
  pub found : find_block (place_of a) bs ≡ Some (block_of segs a)
  pub head : HasHead segs (block_of segs a)
  pub at : address_of (block_of segs a) ≡ a
  pub place : ℕ
  pub within : place < length bs
  pub is : (d : Block ℕ) → get_or bs place d ≡ block_of segs a

own-block : (segs : List Bytes) (b : Block ℕ) (a : ℕ) → HasHead segs b → is_at (place_of a) b ≡ true → b ≡ block_of segs a
own-block segs b a h t =
    let own : address_of b ≡ a = ap address (at-place (place_of a) b t) ∙ (omega arith) in
    h.is ∙ ap (block_of segs) own

find-head : (segs : List Bytes) (a : ℕ) (bs : List (Block ℕ)) → All (HasHead segs) bs → HasBlock bs a → find_block (place_of a) bs ≡ Some (block_of segs a)
find-head segs a [] h among = let within : among.0 < 0 = among.1 in absurd (omega (arith, within))
find-head segs a (b ∷ bs) h among =
    let head = All-head (HasHead segs) b bs h in
    ⊎_elim
    (λ (t : is_at (place_of a) b ≡ true). rw t (ap Some (own-block segs b a head t)))
    (λ (t : is_at (place_of a) b ≡ false).
    let other : address_of b ≡ a → ⊥ = λ e. let yes = at-own (place_of a) b (sym (head-exact segs b head) ∙ ap place_of e) in let both : true ≡ false = sym yes ∙ t in cc in
    rw t (find-head segs a bs (All-tail (HasHead segs) b bs h) (Contains-tail (address_of b) (map address_of bs) a other among)))
    (cases_Bool (is_at (place_of a) b))

pub stands-at : (segs : List Bytes) (q : ℕ) (bs : List (Block ℕ)) (a : ℕ) → IsLastOf segs q bs → HasBlock bs a → StandsAt segs bs a
stands-at segs q bs a h among =
    let heads = chain-heads segs 0 q bs h.chain in
    let none : Block ℕ = record { label = 0; seg = 0; off = 0; size = 0; bytes = [] } in
    let k : ℕ = among.0 in
    let within : k < length bs = omega (arith, among.1, length-map bs address_of) in
    let own : (d : Block ℕ) → address_of (get_or bs k d) ≡ a = λ d. sym (get_or-map address_of bs k d a within) ∙ among.2 in
    let is : (d : Block ℕ) → get_or bs k d ≡ block_of segs a = λ d. (heads k d within).is ∙ ap (block_of segs) (own d) in
    record {
      found = find-head segs a bs heads among;
      head = subst (HasHead segs) (is none) (heads k none within);
      at = ap address_of (sym (is none)) ∙ own none;
      place = k;
      within = within;
      is = is;
    }

-- a block that was laid at a place behind the others
module _ (o s : List Bytes) (q : ℕ) (bs : List (Block ℕ)) (b : Block ℕ) (h : IsLastOf o q bs) (some : 1 ≤ b.size) (p : IsBlockPlace (row (map pair_of o) bs) b.size (b.seg, b.off)) where
  place-within : b.off + span b.size ≤ length (bytes_of_number b.seg o)
  place-within = bytes-any b.seg (b.off + span b.size) o h.segments.distinct p.inside

  place-exact : place_of (address_of b) ≡ (b.seg, b.off)
  place-exact =
      let most = bytes_of_number-most b.seg o h.segments.legal in
      let within = place-within in
      let pair : ℕ → ℕ → ℕ × ℕ = λ m n. (m, n) in
      let a : ℕ = address_of b in
      let number : address_of b / 1048576 ≡ b.seg = omega (arith, most, within, some, p.multiple) in
      let offset : address_of b % 1048576 * 32 ≡ b.off = omega (arith, most, within, some, p.multiple) in
      ap (λ m. pair m (address_of b % 1048576 * 32)) number ∙ ap (pair b.seg) offset

  place-clear : All (LiesClear b.seg (b.off - 16) (b.off + b.size)) bs
  place-clear = λ k d lt e.
      inr (omega (arith, p.behind k d lt e, p.first, span-least (get_or bs k d).size))

  pub put-last : StaysBut b.seg (b.off - 16) (b.off + b.size) o s → LiesThere s q b → All (λ c. LiesLower o c b) bs → IsLastOf s (address_of b) (bs ++ b ∷ [])
  put-last stays laid lower =
      let rest = last-stays b.seg (b.off - 16) (b.off + b.size) o s stays q bs h place-clear in
      let head : HasHead s b =
      record {
        some = some;
        first = p.first;
        within = subst (λ k. b.off + span b.size ≤ k) (sym (size-same b.seg o s stays.pairs)) place-within;
        zero = laid.zero;
        is = head-made s b place-exact (sym laid.size) (sym laid.label) (sym laid.bytes);
      } in
      let before : before_of s (address_of b) ≡ q = ap (λ (e : ℕ × ℕ). field_at (e.1 - 8) (bytes_of_number e.0 s)) place-exact ∙ laid.before in
      let behind = place-behind (row (map pair_of o) bs) b.size (b.seg, b.off) some p (row-of o q bs h) in
      let rank' = rank-same b.seg (b.off - 16) (b.off + b.size) o s stays in
      last-push s q bs b rest head before (λ k d lt. behind k d lt)
      (λ k d lt. let low : rank o (get_or bs k d) < rank o b = lower k d lt in omega (arith, low, rank' b, rank' (get_or bs k d)))

-- all blocks lie lower than a place behind those of the newest segment
pub index-front : (k m : ℕ) (front : List Bytes) (s : Bytes) → s.number ≢ m → index_from k m (front ++ s ∷ []) ≤ k + length front
index-front k m [] s other = rw (ne_eqb s.number m other) (omega arith)
index-front k m (t ∷ ts) s other =
    ⊎_elim
    (λ (e : t.number ≡ m). rw (eq-eqb t.number m e) (omega arith))
    (λ (e : t.number ≡ m → ⊥). rw (ne_eqb t.number m e) (omega (arith, index-front (k + 1) m ts s other)))
    (cases_eq t.number m)

pub index-end : (k n : ℕ) (front : List Bytes) (s : Bytes) → s.number ≡ n → AllPairs Apart (front ++ s ∷ []) → index_from k n (front ++ s ∷ []) ≡ k + length front + 1
index-end k n [] s e apart = rw (eq-eqb s.number n e) (omega arith)
index-end k n (t ∷ ts) s e apart =
    let other : t.number ≢ n = λ q. apart 0 (length (t ∷ ts)) s (omega arith) (omega (arith, length_push ts s)) (q ∙ (sym e ∙ sym (ap (λ (b : Bytes). b.number) (get_or-last (t ∷ ts) s s)))) in
    rw (ne_eqb t.number n other) (omega (arith, index-end (k + 1) n ts s e (λ i j d lt within. apart (suc i) (suc j) d (omega (arith, lt)) (omega (arith, within)))))

-- the segment lent latest, behind the others
pub newest-cut : (segs : List Bytes) (s : ℕ × ℕ) → last_of (map pair_of segs) ≡ Some s → (front : List Bytes) × (t : Bytes) × (segs ≡ front ++ t ∷ []) × (pair_of t ≡ s)
newest-cut [] s e = absurd (cc)
newest-cut (c ∷ []) s e = let same : pair_of c ≡ s = cc in ([], c, refl, same)
newest-cut (c ∷ d ∷ cs) s e = let rest = newest-cut (d ∷ cs) s e in (c ∷ rest.0, rest.1, ap (λ (xs : List Bytes). c ∷ xs) rest.2, rest.3)

pub newest-split : (segs : List Bytes) (s : ℕ × ℕ) (bs : List (Block ℕ)) → newest (row (map pair_of segs) bs) ≡ Some s → (front : List Bytes) × (t : Bytes) × (segs ≡ front ++ t ∷ []) × (t.number ≡ s.0)
newest-split segs s bs e = let cut = newest-cut segs s e in (cut.0, cut.1, cut.2, ap (λ (p : ℕ × ℕ). p.0) cut.3)

pub lower-newest : (segs : List Bytes) (q size : ℕ) (bs : List (Block ℕ)) (b : Block ℕ) (s : ℕ × ℕ) → IsLastOf segs q bs → newest (row (map pair_of segs) bs) ≡ Some s → b.seg ≡ s.0 → IsBlockPlace (row (map pair_of segs) bs) size (b.seg, b.off) → All (λ c. LiesLower segs c b) bs
lower-newest segs q size bs b s h new seg p =
    let cut = newest-split segs s bs new in
    let front : List Bytes = cut.0 in
    let t : Bytes = cut.1 in
    let number : t.number ≡ b.seg = cut.3 ∙ sym seg in
    let heads = chain-heads segs 0 q bs h.chain in
    let end : index_from 0 b.seg segs ≡ 0 + length front + 1 = ap (index_from 0 b.seg) cut.2 ∙ index-end 0 b.seg front t number (subst (AllPairs Apart) cut.2 h.segments.distinct) in
    λ k d lt.
    let c : Block ℕ = get_or bs k d in
    let low : c.off < 33554432 = let e = ap (λ (p : ℕ × ℕ). p.1) (head-exact segs c (heads k d lt)) in omega (arith, e) in
    ⊎_elim
    (λ (e : c.seg ≡ b.seg).
    omega (arith, p.behind k d lt e, span-least c.size, ap (λ m. index_from 0 m segs) e))
    (λ (e : c.seg ≡ b.seg → ⊥).
    let most : index_from 0 c.seg segs ≤ 0 + length front = subst (λ (xs : List Bytes). index_from 0 c.seg xs ≤ 0 + length front) (sym cut.2) (index-front 0 c.seg front t (λ z. e (sym z ∙ number))) in
    omega (arith, most, end, low))
    (cases_eq c.seg b.seg)
