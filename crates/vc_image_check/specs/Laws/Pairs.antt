-- The numbers and sizes of segments, gone over one by one.
use Rattle.std.specs.Prelude.{◌≡◌, ℕ, zero, suc, ◌+◌, ◌*◌, ◌<◌, ◌≤◌, Bool, true, false, ◌||◌, ◌==◌, List, [], ◌∷◌, ◌++◌, All, AllPairs, length, get_or, set, take, ◌≢◌, refl, replicate}
use Rattle.vc_base.proofs.Common.{sym, ap, ◌∙◌, subst, inl, inr, true≢false, arith, eq-eqb, eqb-true, ne_eqb, cases_eq, All-push, all_pairs_push, length-take-le, length-set, get_or-set_same, get_or-set_other, get_or-take, get_or_default, list_any, list_any_at, take_all, All-nil, length-replicate}
use Rattle.std.proofs.Common.{mul-suc}
use Rattle.std.proofs.lemmas.List.{get_or-replicate}
use Rattle.std.proofs.lemmas.List.Folds.{Any-from_list_any, list_any-append}
use Rattle.std.proofs.lemmas.List.Sums.{sum_by-append}
use Rattle.std.proofs.lemmas.Grind.{take_at_read}
use Rattle.vc_seg.specs.Budget.{bytes_of}
use Rattle.vc_seg.specs.Numbered.{AreNumbered, IsRegionPair}
use Rattle.vc_image_check.specs.Bytes.Contents.{items_at}

-- an item at its place
pub items-get : {X : Type 0} (read : ℕ → List ℕ → X) (w : ℕ) (b : List ℕ) (k at i : ℕ) (d : X) → i < k → get_or (items_at read w k at b) i d ≡ read (at + w * i) b
items-get read w b zero at i d lt = absurd (omega (arith, lt))
items-get read w b (suc k) at zero d lt = let e : at ≡ at + w * 0 = omega arith in ap (λ z. read z b) e
items-get read w b (suc k) at (suc i) d lt =
    let m = mul-suc w i in
    let e : at + w + w * i ≡ at + w * suc i = omega (arith, m) in
    items-get read w b k (at + w) i d (omega (arith, lt)) ∙ ap (λ z. read z b) e

abbrev Differ : ℕ × ℕ → ℕ × ℕ → Type 0
Differ s t = s.0 ≢ t.0

abbrev pub has_number : ℕ → ℕ × ℕ → Bool
has_number n p = p.0 == n

-- so many of them are legal, and each has another number; the marks tell their numbers, and the total their bytes
pub record Passed (ps : List (ℕ × ℕ)) (i : ℕ) (marks : List Bool) (total : ℕ) : Type 0 where
  pub legal : All IsRegionPair (take i ps)
  pub distinct : AllPairs Differ (take i ps)
  pub long : length marks ≡ 1024
  pub marked : (n : ℕ) → n < 1024 → get_or marks n false ≡ list_any (has_number n) (take i ps)
  pub sum : total ≡ bytes_of (take i ps)
  pub few : total ≤ 33554432 * i

or-none : (b : Bool) → (b || false) ≡ b
or-none true = refl
or-none false = refl

or-true_right : (b c : Bool) → c ≡ true → (b || c) ≡ true
or-true_right true c e = refl
or-true_right false c e = e

or-false_right : (b c : Bool) → c ≡ false → (b || c) ≡ b
or-false_right b c e = ap (λ z. b || z) e ∙ or-none b

-- one more
pub passed-next : (ps : List (ℕ × ℕ)) (i : ℕ) (marks : List Bool) (total : ℕ) (p : ℕ × ℕ) → Passed ps i marks total → i < length ps → get_or ps i p ≡ p → IsRegionPair p → get_or marks p.0 false ≡ false → Passed ps (i + 1) (set marks p.0 true) (total + p.1)
passed-next ps i marks total p h lt here legal new =
    let last = legal.last in
    let most = legal.size.most in
    let few = h.few in
    let old = h.sum in
    let more : take (i + 1) ps ≡ take i ps ++ p ∷ [] = (take_at_read ps i p lt).1 ∙ ap (λ z. take i ps ++ z ∷ []) here in
    let none : list_any (has_number p.0) (take i ps) ≡ false = sym (h.marked p.0 (omega (arith, last))) ∙ new in
    let after : (n : ℕ) → list_any (has_number n) (take (i + 1) ps) ≡ (list_any (has_number n) (take i ps) || has_number n p) =
    λ n. ap (list_any (has_number n)) more ∙ list_any-append (has_number n) (take i ps) (p ∷ []) ∙ ap (λ z. list_any (has_number n) (take i ps) || z) (or-none (has_number n p)) in
    let sums : bytes_of (take (i + 1) ps) ≡ bytes_of (take i ps) + p.1 =
    ap bytes_of more ∙ sum_by-append (λ (s : ℕ × ℕ). s.1) (take i ps) (p ∷ []) ∙ (let one : bytes_of (p ∷ []) ≡ p.1 = omega arith in ap (λ z. bytes_of (take i ps) + z) one) in
    record {
      legal = subst (All IsRegionPair) (sym more) (All-push IsRegionPair (take i ps) p h.legal legal);
      distinct = subst (AllPairs Differ) (sym more) (all_pairs_push Differ (take i ps) p h.distinct (λ k d within same.
          absurd (true≢false (sym (list_any_at (has_number p.0) (take i ps) k d within (eq-eqb (get_or (take i ps) k d).0 p.0 same)) ∙ none))));
      long = length-set marks p.0 true ∙ h.long;
      marked = λ n below. elim (cases_eq n p.0) as (λ _. get_or (set marks p.0 true) n false ≡ list_any (has_number n) (take (i + 1) ps)) [
        | inl same ↦
            subst (λ z. get_or (set marks p.0 true) z false ≡ list_any (has_number z) (take (i + 1) ps)) (sym same)
            (get_or-set_same marks p.0 true false (let l = h.long in omega (arith, l, last))
            ∙ sym (after p.0 ∙ or-true_right (list_any (has_number p.0) (take i ps)) (has_number p.0 p) (eq-eqb p.0 p.0 refl)))
        | inr other ↦
            get_or-set_other marks p.0 n true false other ∙ h.marked n below
            ∙ sym (after n ∙ or-false_right (list_any (has_number n) (take i ps)) (has_number n p) (ne_eqb p.0 n (λ e. other (sym e))))
      ];
      sum = omega (arith, sums, old);
      few = omega (arith, few, most);
    }

-- one that is not legal, or has the number of an earlier one
pub not-legal : (ps : List (ℕ × ℕ)) (i : ℕ) (p : ℕ × ℕ) → i < length ps → get_or ps i p ≡ p → (IsRegionPair p → ⊥) → AreNumbered ps → ⊥
not-legal ps i p lt here bad h = bad (subst IsRegionPair here (h.legal i p lt))

pub not-new : (ps : List (ℕ × ℕ)) (i : ℕ) (marks : List Bool) (total : ℕ) (p : ℕ × ℕ) → Passed ps i marks total → i < length ps → get_or ps i p ≡ p → IsRegionPair p → get_or marks p.0 false ≡ true → AreNumbered ps → ⊥
not-new ps i marks total p h lt here legal old n =
    let last = legal.last in
    let some : list_any (has_number p.0) (take i ps) ≡ true = sym (h.marked p.0 (omega (arith, last))) ∙ old in
    let u = Any-from_list_any (has_number p.0) (take i ps) some in
    let long = length-take-le i ps (omega (arith, lt)) in
    let below : u.0 < i = let w = u.2 in omega (arith, w, long) in
    let is : get_or ps u.0 u.1 ≡ u.1 = sym (get_or-take i ps u.0 u.1 below) ∙ u.3 in
    let at : get_or ps i u.1 ≡ p = get_or_default ps i u.1 p lt ∙ here in
    n.distinct u.0 i u.1 below lt (ap (λ (q : ℕ × ℕ). q.0) is ∙ eqb-true u.1.0 p.0 u.4 ∙ sym (ap (λ (q : ℕ × ℕ). q.0) at))

-- all of them
pub all-passed : (ps : List (ℕ × ℕ)) (i : ℕ) (marks : List Bool) (total : ℕ) → Passed ps i marks total → i ≡ length ps → i ≤ 1023 → AreNumbered ps × (total ≡ bytes_of ps)
all-passed ps i marks total h e few =
    let all : take i ps ≡ ps = take_all i ps (omega (arith, e)) in (
      record { few = omega (arith, e, few); legal = subst (All IsRegionPair) all h.legal; distinct = subst (AllPairs Differ) all h.distinct },
      h.sum ∙ ap bytes_of all,
    )

-- none of them
pub passed-none : (ps : List (ℕ × ℕ)) → Passed ps 0 (replicate 1024 false) 0
passed-none ps = record {
  legal = All-nil IsRegionPair;
  distinct = λ i j d lt within. absurd (omega (arith, within));
  long = length-replicate 1024 false;
  marked = λ n below. get_or-replicate 1024 n false false below;
  sum = refl;
  few = omega arith;
}
