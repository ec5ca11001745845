-- A write into one segment, among all of them.
use Rattle.vc_base.proofs.Common.{◌≡◌, ℕ, zero, suc, ◌<◌, cond, eqb, ◌≢◌, List, [], ◌∷◌, map, length, get_or, take, drop, set, All, HoldsAt, sym, refl, ap, ◌∙◌, arith, eq-eqb, ne_eqb, All-head, All-tail, get_or_default}
use Rattle.vc_seg.specs.Segment.{Bytes, pair_of}
use Rattle.vc_seg.specs.Memory.{bytes_of_number}
use Rattle.vc_seg.proofs.FirstByNumber.{bytes_of_number-first}
use Rattle.vc_seg.specs.Frame.{StaysOutside}
use Rattle.vc_extent.proofs.Sets.{pairs-set}
use Rattle.vc_last.specs.Head.{IsFirstAt, StaysBut}

abbrev IsOther : ℕ → Bytes → Type 0
IsOther n b = b.number ≢ n

bytes-set : (n i : ℕ) (segs : List Bytes) (new : Bytes) → i < length segs → All (IsOther n) (take i segs) → new.number ≡ n → bytes_of_number n (set segs i new) ≡ new.bytes
bytes-set n i [] new lt h e = absurd (omega (arith, lt))
bytes-set n zero (s ∷ ss) new lt h e = rw (eq-eqb new.number n e) refl
bytes-set n (suc i) (s ∷ ss) new lt h e = rw (ne_eqb s.number n (All-head (IsOther n) s (take i ss) h)) (bytes-set n i ss new (omega (arith, lt)) (All-tail (IsOther n) s (take i ss) h) e)

others-set : (n m i : ℕ) (segs : List Bytes) (new : Bytes) → i < length segs → HoldsAt (λ (s : Bytes). s.number ≡ n) segs i → new.number ≡ n → m ≢ n → bytes_of_number m (set segs i new) ≡ bytes_of_number m segs
others-set n m i [] new lt at e other = refl
others-set n m zero (s ∷ ss) new lt at e other = rw (ne_eqb new.number m (λ q. other (sym q ∙ e))) (rw (ne_eqb s.number m (λ q. other (sym q ∙ at s))) refl)
others-set n m (suc i) (s ∷ ss) new lt at e other = ap (cond (eqb s.number m) s.bytes) (others-set n m i ss new (omega (arith, lt)) (λ d. at d) e other)

module _ (n i f t : ℕ) (segs : List Bytes) (d new : Bytes) (p : IsFirstAt n segs i) where
  abbrev s : Bytes
  s = get_or segs i d

  pub own-bytes : bytes_of_number n segs ≡ (get_or segs i d).bytes
  own-bytes = bytes_of_number-first n segs i d p.within p.first (p.number d)

  module _ (number : new.number ≡ (get_or segs i d).number) where
    own : new.number ≡ n
    own = number ∙ p.number d

    pub new-bytes : bytes_of_number n (set segs i new) ≡ new.bytes
    new-bytes = bytes-set n i segs new p.within p.first own

    pub others-stay : (m : ℕ) → m ≢ n → bytes_of_number m (set segs i new) ≡ bytes_of_number m segs
    others-stay m other = others-set n m i segs new p.within p.number own other

    pub pairs-stay : length new.bytes ≡ length (get_or segs i d).bytes → map pair_of (set segs i new) ≡ map pair_of segs
    pairs-stay len =
        pairs-set i segs new p.within
        (λ e. let same : get_or segs i d ≡ get_or segs i e = get_or_default segs i d e p.within in (λ j. (number j, len j)) ∙ ap pair_of same)

  pub stays-set : StaysOutside f t (get_or segs i d) new → StaysBut n f t segs (set segs i new)
  stays-set h =
      record {
        pairs = pairs-stay h.number h.len;
        others = others-stay h.number;
        below = ap (take f) (new-bytes h.number) ∙ (h.below ∙ ap (take f) (sym own-bytes));
        above = ap (drop t) (new-bytes h.number) ∙ (h.above ∙ ap (drop t) (sym own-bytes));
      }
