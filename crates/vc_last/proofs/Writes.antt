-- What a write into a range of one segment leaves of the segments, and of the blocks outside of it.
use Rattle.vc_base.proofs.Common.{◌≡◌, ℕ, ◌+◌, ◌-◌, ◌*◌, ◌/◌, ◌<◌, ◌≤◌, cond, eqb, ◌⊎◌, List, [], ◌∷◌, map, length, get_or, take, drop, All, AllPairs, sym, refl, ap, ◌∙◌, subst, ⊎_elim, arith, eq-eqb, ne_eqb, cases_eq, All-head, All-tail, get_or-map, length-map, place_of, IsSegmentSize, Block, address_of}
use Rattle.vc_seg.specs.Segment.{AreSegments, Bytes, pair_of}
use Rattle.vc_seg.specs.Memory.{bytes_of_number, write_segment}
use Rattle.vc_seg.specs.Field.{field_at}
use Rattle.vc_extent.specs.Tiling.{index_from}
use Rattle.vc_seg.proofs.Frames.{drop-back, field-back, field-front, part-back, part-front, take-front, written-above, written-below}
use Rattle.vc_seg.proofs.Segments.{bytes_of_number-other, bytes_of_number-write, pairs-write}
use Rattle.vc_last.specs.Head.{HasHead, StaysBut, before_of, block_in_bytes, block_of}
use Rattle.vc_last.specs.Chain.{IsChain, IsLastOf, LiesLower, rank}
use Rattle.vc_last.proofs.Chains.{head-exact}

-- one write
pub stays-written : (n at : ℕ) (src : List ℕ) (segs : List Bytes) → 0 < length (bytes_of_number n segs) → at + length src ≤ length (bytes_of_number n segs) → StaysBut n at (at + length src) segs (write_segment n at src segs)
stays-written n at src segs some fits =
    let is = bytes_of_number-write n at src segs some in
    record {
      pairs = pairs-write n at src segs fits;
      others = λ m other. bytes_of_number-other n at src m segs other;
      below = ap (take at) is ∙ written-below at src (bytes_of_number n segs) fits;
      above = ap (drop (at + length src)) is ∙ written-above at src (bytes_of_number n segs) fits;
    }

-- a wider range, and one write behind another
pub wider : (n f t f' t' : ℕ) (o s : List Bytes) → StaysBut n f t o s → f' ≤ f → t ≤ t' → StaysBut n f' t' o s
wider n f t f' t' o s h below above =
    record {
      pairs = h.pairs;
      others = h.others;
      below = take-front (bytes_of_number n o) (bytes_of_number n s) f h.below f' below;
      above = drop-back (bytes_of_number n o) (bytes_of_number n s) t h.above t' above;
    }

pub then : (n f t : ℕ) (o m s : List Bytes) → StaysBut n f t o m → StaysBut n f t m s → StaysBut n f t o s
then n f t o m s a b =
    record { pairs = b.pairs ∙ a.pairs; others = λ k other. b.others k other ∙ a.others k other; below = b.below ∙ a.below; above = b.above ∙ a.above }

-- what the numbers and sizes of segments tell
pair-head : (s t : Bytes) (ss ts : List Bytes) → map pair_of (s ∷ ss) ≡ map pair_of (t ∷ ts) → (pair_of s ≡ pair_of t) × (map pair_of ss ≡ map pair_of ts)
pair-head s t ss ts e = (cc, cc)

pub size-same : (n : ℕ) (o s : List Bytes) → map pair_of s ≡ map pair_of o → length (bytes_of_number n s) ≡ length (bytes_of_number n o)
size-same n [] [] e = refl
size-same n [] (y ∷ ys) e = absurd (cc)
size-same n (x ∷ xs) [] e = absurd (cc)
size-same n (x ∷ xs) (y ∷ ys) e =
    let h = pair-head y x ys xs e in
    let number : y.number ≡ x.number = ap (λ (p : ℕ × ℕ). p.0) h.0 in
    let len : length y.bytes ≡ length x.bytes = ap (λ (p : ℕ × ℕ). p.1) h.0 in
    ⊎_elim
    (λ (q : x.number ≡ n). rw (eq-eqb x.number n q) (rw (eq-eqb y.number n (number ∙ q)) len))
    (λ (q : x.number ≡ n → ⊥). rw (ne_eqb x.number n q) (rw (ne_eqb y.number n (λ p. q (sym number ∙ p))) (size-same n xs ys h.1)))
    (cases_eq x.number n)

pub index-same : (k n : ℕ) (o s : List Bytes) → map pair_of s ≡ map pair_of o → index_from k n s ≡ index_from k n o
index-same k n [] [] e = refl
index-same k n [] (y ∷ ys) e = absurd (cc)
index-same k n (x ∷ xs) [] e = absurd (cc)
index-same k n (x ∷ xs) (y ∷ ys) e =
    let h = pair-head y x ys xs e in
    let number : y.number ≡ x.number = ap (λ (p : ℕ × ℕ). p.0) h.0 in
    ap (λ m. cond (eqb m n) (k + 1) (index_from (k + 1) n ys)) number ∙ ap (cond (eqb x.number n) (k + 1)) (index-same (k + 1) n xs ys h.1)

pub segments-same : (o s : List Bytes) → map pair_of s ≡ map pair_of o → AreSegments o → AreSegments s
segments-same o s e h =
    let long : length s ≡ length o = sym (length-map s pair_of) ∙ (ap length e ∙ length-map o pair_of) in
    let at : (k : ℕ) (d : Bytes) → k < length s → pair_of (get_or s k d) ≡ pair_of (get_or o k d) =
    λ k d lt. sym (get_or-map pair_of s k d (pair_of d) lt) ∙ (ap (λ (ps : List (ℕ × ℕ)). get_or ps k (pair_of d)) e ∙ get_or-map pair_of o k d (pair_of d) (omega (arith, lt, long))) in
    record {
      few = omega (arith, h.few, long);
      legal = λ k d lt.
          let l = h.legal k d (omega (arith, lt, long)) in
          let number : (get_or s k d).number ≡ (get_or o k d).number = ap (λ (p : ℕ × ℕ). p.0) (at k d lt) in
          record {
            first = subst (λ m. 1 ≤ m) (sym number) l.first;
            last = subst (λ m. m ≤ 1023) (sym number) l.last;
            size = subst IsSegmentSize (sym (ap (λ (p : ℕ × ℕ). p.1) (at k d lt))) l.size;
          };
      distinct = λ i j d lt within q.
          let one : (get_or s i d).number ≡ (get_or o i d).number = ap (λ (p : ℕ × ℕ). p.0) (at i d (omega (arith, lt, within))) in
          let two : (get_or s j d).number ≡ (get_or o j d).number = ap (λ (p : ℕ × ℕ). p.0) (at j d within) in
          h.distinct i j d lt (omega (arith, within, long)) (sym one ∙ (q ∙ two));
    }

-- a block's head and bytes lie outside of a range
abbrev pub LiesClear : ℕ → ℕ → ℕ → Block ℕ → Type 0
LiesClear n from to b = b.seg ≡ n → (to ≤ b.off - 16) ⊎ (b.off + b.size ≤ from)

-- the head and the bytes of a block are the same in other bytes
pub record SameBlock (o s : List ℕ) (b : Block ℕ) : Type 0 where
  pub size : field_at (b.off - 16) s ≡ field_at (b.off - 16) o
  pub label : field_at (b.off - 12) s ≡ field_at (b.off - 12) o
  pub before : field_at (b.off - 8) s ≡ field_at (b.off - 8) o
  pub zero : field_at (b.off - 4) s ≡ field_at (b.off - 4) o
  pub bytes : take b.size (drop b.off s) ≡ take b.size (drop b.off o)

-- so they are where its segment has the same bytes
same-bytes : (o s : List Bytes) (b : Block ℕ) → bytes_of_number b.seg s ≡ bytes_of_number b.seg o → SameBlock (bytes_of_number b.seg o) (bytes_of_number b.seg s) b
same-bytes o s b e =
    record {
      size = ap (field_at (b.off - 16)) e;
      label = ap (field_at (b.off - 12)) e;
      before = ap (field_at (b.off - 8)) e;
      zero = ap (field_at (b.off - 4)) e;
      bytes = ap (λ (xs : List ℕ). take b.size (drop b.off xs)) e;
    }

module _ (n from to : ℕ) (o s : List Bytes) (h : StaysBut n from to o s) where
  same-there : (b : Block ℕ) → 16 ≤ b.off → b.seg ≡ n → (to ≤ b.off - 16) ⊎ (b.off + b.size ≤ from) → SameBlock (bytes_of_number n o) (bytes_of_number n s) b
  same-there b first seg u =
      let x : List ℕ = bytes_of_number n o in
      let y : List ℕ = bytes_of_number n s in
      ⊎_elim
      (λ (le : to ≤ b.off - 16).
      record {
        size = field-back x y to h.above (b.off - 16) le;
        label = field-back x y to h.above (b.off - 12) (omega (arith, le, first));
        before = field-back x y to h.above (b.off - 8) (omega (arith, le, first));
        zero = field-back x y to h.above (b.off - 4) (omega (arith, le, first));
        bytes = part-back x y to h.above b.off b.size (omega (arith, le, first));
      })
      (λ (le : b.off + b.size ≤ from).
      record {
        size = field-front x y from h.below (b.off - 16) (omega (arith, le, first));
        label = field-front x y from h.below (b.off - 12) (omega (arith, le, first));
        before = field-front x y from h.below (b.off - 8) (omega (arith, le, first));
        zero = field-front x y from h.below (b.off - 4) (omega (arith, le, first));
        bytes = part-front x y from h.below b.off b.size le;
      })
      u

  same-block : (b : Block ℕ) → 16 ≤ b.off → LiesClear n from to b → SameBlock (bytes_of_number b.seg o) (bytes_of_number b.seg s) b
  same-block b first clear =
      ⊎_elim
      (λ (q : b.seg ≡ n). subst (λ m. SameBlock (bytes_of_number m o) (bytes_of_number m s) b) (sym q) (same-there b first q (clear q)))
      (λ (q : b.seg ≡ n → ⊥). same-bytes o s b (h.others b.seg q))
      (cases_eq b.seg n)

-- the parts of a block with a head, by its place
pub record HeadSays (segs : List Bytes) (b : Block ℕ) : Type 0 where
  pub size : b.size ≡ field_at (b.off - 16) (bytes_of_number b.seg segs)
  pub label : b.label ≡ field_at (b.off - 12) (bytes_of_number b.seg segs)
  pub before : before_of segs (address_of b) ≡ field_at (b.off - 8) (bytes_of_number b.seg segs)
  pub bytes : b.bytes ≡ take b.size (drop b.off (bytes_of_number b.seg segs))

pub head-says : (segs : List Bytes) (b : Block ℕ) → HasHead segs b → HeadSays segs b
head-says segs b h =
    let e = head-exact segs b h in
    let size : b.size ≡ field_at (b.off - 16) (bytes_of_number b.seg segs) = ap (λ (c : Block ℕ). c.size) h.is ∙ ap (λ (p : ℕ × ℕ). field_at (p.1 - 16) (bytes_of_number p.0 segs)) e in
    record {
      size = size;
      label = ap (λ (c : Block ℕ). c.label) h.is ∙ ap (λ (p : ℕ × ℕ). field_at (p.1 - 12) (bytes_of_number p.0 segs)) e;
      before = ap (λ (p : ℕ × ℕ). field_at (p.1 - 8) (bytes_of_number p.0 segs)) e;
      bytes = ap (λ (c : Block ℕ). c.bytes) h.is ∙ (ap (λ (p : ℕ × ℕ). (block_in_bytes (bytes_of_number p.0 segs) p).bytes) e ∙ ap (λ k. take k (drop b.off (bytes_of_number b.seg segs))) (sym size));
    }

-- and a block is known by them
pub head-made : (segs : List Bytes) (b : Block ℕ) → place_of (address_of b) ≡ (b.seg, b.off) → b.size ≡ field_at (b.off - 16) (bytes_of_number b.seg segs) → b.label ≡ field_at (b.off - 12) (bytes_of_number b.seg segs) → b.bytes ≡ take b.size (drop b.off (bytes_of_number b.seg segs)) → b ≡ block_of segs (address_of b)
head-made segs b e size label bytes =
    let at : block_in_bytes (bytes_of_number b.seg segs) (b.seg, b.off) ≡ block_of segs (address_of b) = ap (λ (p : ℕ × ℕ). block_in_bytes (bytes_of_number p.0 segs) p) (sym e) in
    let all : b.bytes ≡ take (field_at (b.off - 16) (bytes_of_number b.seg segs)) (drop b.off (bytes_of_number b.seg segs)) = bytes ∙ ap (λ k. take k (drop b.off (bytes_of_number b.seg segs))) size in
    (λ i. record { label = label i; seg = b.seg; off = b.off; size = size i; bytes = all i }) ∙ at

-- it has its head still, which names the same block before it
pub head-kept : (o s : List Bytes) (b : Block ℕ) → HasHead o b → length (bytes_of_number b.seg o) ≤ length (bytes_of_number b.seg s) → SameBlock (bytes_of_number b.seg o) (bytes_of_number b.seg s) b → HasHead s b × (before_of s (address_of b) ≡ before_of o (address_of b))
head-kept o s b l len same =
    let says = head-says o b l in
    let exact = head-exact o b l in (
      record {
        some = l.some;
        first = l.first;
        within = omega (arith, l.within, len);
        zero = same.zero ∙ l.zero;
        is = head-made s b exact (says.size ∙ sym same.size) (says.label ∙ sym same.label) (says.bytes ∙ sym same.bytes);
      },
      ap (λ (p : ℕ × ℕ). field_at (p.1 - 8) (bytes_of_number p.0 s)) exact ∙ (same.before ∙ sym says.before),
    )

pub head-same : (o s : List Bytes) (b : Block ℕ) → HasHead o b → bytes_of_number b.seg s ≡ bytes_of_number b.seg o → HasHead s b × (before_of s (address_of b) ≡ before_of o (address_of b))
head-same o s b l e = head-kept o s b l (omega (arith, ap length e)) (same-bytes o s b e)

module _ (n from to : ℕ) (o s : List Bytes) (h : StaysBut n from to o s) where
  pub head-stays : (b : Block ℕ) → HasHead o b → LiesClear n from to b → HasHead s b × (before_of s (address_of b) ≡ before_of o (address_of b))
  head-stays b l clear = head-kept o s b l (omega (arith, size-same b.seg o s h.pairs)) (same-block n from to o s h b (omega (arith, l.first)) clear)

  pub chain-stays : (p q : ℕ) (bs : List (Block ℕ)) → IsChain o p bs q → All (LiesClear n from to) bs → IsChain s p bs q
  chain-stays p q [] c clear = c
  chain-stays p q (b ∷ bs) c clear =
      let here = head-stays b c.0 (All-head (LiesClear n from to) b bs clear) in
      (here.0, here.1 ∙ c.1, chain-stays (address_of b) q bs c.2 (All-tail (LiesClear n from to) b bs clear))

  pub rank-same : (b : Block ℕ) → rank s b ≡ rank o b
  rank-same b = ap (λ k. k * 1048576 + b.off / 32) (index-same 0 b.seg o s h.pairs)

  pub rising-same : (bs : List (Block ℕ)) → AllPairs (LiesLower o) bs → AllPairs (LiesLower s) bs
  rising-same bs r = λ i j d lt within. let low : rank o (get_or bs i d) < rank o (get_or bs j d) = r i j d lt within in omega (arith, low, rank-same (get_or bs i d), rank-same (get_or bs j d))

  -- all blocks outside of the range stay
  pub last-stays : (q : ℕ) (bs : List (Block ℕ)) → IsLastOf o q bs → All (LiesClear n from to) bs → IsLastOf s q bs
  last-stays q bs l clear =
      record { segments = segments-same o s h.pairs l.segments; chain = chain-stays 0 q bs l.chain clear; ordered = l.ordered; rising = rising-same bs l.rising }
