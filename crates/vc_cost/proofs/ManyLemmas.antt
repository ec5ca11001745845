-- The holders of the tests, and the calls that link them.
use Rattle.vc_base.proofs.Common.{◌≡◌, ℕ, ◌+◌, ◌<◌, ◌≤◌, ◌≢◌, Bool, false, ◌&&◌, nat_lt, if◌then◌else◌, All, All-append, All-cons, All-nil, All-head, All-tail, All-weaker, List, [], ◌∷◌, ◌++◌, append-nil, append_assoc, length, length-set, get_or, get_or_default, set, get_or-set_same, get_or-set_other, Some, None, unwrap_or, refl, sym, ap, ◌∙◌, subst, inl, inr, eqb_tells, and_from, arith, lt-ltb, ltb-true, AreDistinct, Blocks, HasBytes, bytes_at, contains}
use Rattle.vc_base.specs.declared.addr.Addr.{Addr}
use Rattle.vc_base.specs.Cells.{put}
use Rattle.vc_base.proofs.Members.{apart-cons}
use Rattle.vc_dtlist.proofs.HolderLemmas.{distinct-insert}
use Rattle.vc_dtord.specs.NodeLaws.{and-left, and-right}
use Rattle.vc_cost.specs.declared.ord_call.OrdCall.{OrdCall}
use Rattle.vc_cost.specs.declared.ord_call.OrdCall.TheVariants.{Link, Find}
use Rattle.vc_cost.specs.Calls.{linked, linked_by}
use Rattle.vc_cost.specs.Many.{many, there-by}

-- a block of theirs that has so many bytes
pub record IsHeld (xs : List (List ℕ)) (a n : ℕ) : Type 0 where
  pub some : 1 ≤ a
  pub within : a < length xs
  pub enough : n ≤ length (get_or xs a [])

pub held : (xs : List (List ℕ)) (a n : ℕ) → HasBytes (many xs) a n → IsHeld xs a n
held xs a n h =
    let bytes = get_or xs a [] in
    let t = there-by (nat_lt 0 a && nat_lt a (length xs)) bytes h.there in
    record {
      some = ltb-true 0 a (and-left (nat_lt 0 a) (nat_lt a (length xs)) t);
      within = ltb-true a (length xs) (and-right (nat_lt 0 a) (nat_lt a (length xs)) t);
      enough = subst (λ z. n ≤ length (unwrap_or (if z then Some bytes else None) [])) t h.enough;
    }

many-at : (xs : List (List ℕ)) (a : ℕ) → 1 ≤ a → a < length xs → many xs a ≡ Some (get_or xs a [])
many-at xs a some within =
    ap (λ (t : Bool). if t then Some (get_or xs a []) else None) (and_from (nat_lt 0 a) (nat_lt a (length xs)) (lt-ltb 0 a some) (lt-ltb a (length xs) within))

pub many-bytes : (xs : List (List ℕ)) (a : ℕ) → 1 ≤ a → a < length xs → bytes_at (many xs) a ≡ get_or xs a []
many-bytes xs a some within = ap (λ o. unwrap_or o []) (many-at xs a some within)

-- one that was read
pub at-place : (xs : List (List ℕ)) (a : ℕ) (x : List ℕ) → a < length xs → x ≡ get_or xs a x → x ≡ get_or xs a []
at-place xs a x within e = e ∙ get_or_default xs a x [] within

-- one of them written
many-put : (xs : List (List ℕ)) (at : ℕ) (bytes : List ℕ) → 1 ≤ at → at < length xs → ◌≡◌ {A = Blocks} (many (set xs at bytes)) (put at bytes (many xs))
many-put xs at bytes some within = λ i. λ a. point a i
  where
    point : (a : ℕ) → many (set xs at bytes) a ≡ put at bytes (many xs) a
    point a = elim (eqb_tells a at) as (λ _. many (set xs at bytes) a ≡ put at bytes (many xs) a) [
      | inl same ↦
          rw same.0
          (subst (λ z. many (set xs at bytes) z ≡ Some bytes) (sym same.1)
          (many-at (set xs at bytes) at some (omega (arith, length-set xs at bytes, within)) ∙ ap (λ z. Some z) (get_or-set_same xs at bytes [] within)))
      | inr other ↦
          rw other.0
          (ap (λ n. if nat_lt 0 a && nat_lt a n then Some (get_or (set xs at bytes) a []) else None) (length-set xs at bytes)
          ∙ ap (λ z. if nat_lt 0 a && nat_lt a (length xs) then Some z else None) (get_or-set_other xs at a bytes [] other.1))
    ]

pub many-written : (f : List ℕ → List ℕ) (xs : List (List ℕ)) (at : ℕ) (bytes : List ℕ) → 1 ≤ at → at < length xs → bytes ≡ f (get_or xs at []) → ◌≡◌ {A = Blocks} (many (set xs at bytes)) (put at (f (bytes_at (many xs) at)) (many xs))
many-written f xs at bytes some within e =
    many-put xs at bytes some within ∙ ap (λ z. put at z (many xs)) (e ∙ ap f (sym (many-bytes xs at some within)))

-- what calls link with one more
pub linked-more : (calls : List OrdCall) (call : OrdCall) → linked (calls ++ call ∷ []) ≡ linked calls ++ linked_by call
linked-more [] call = append-nil (linked_by call)
linked-more (x ∷ calls) call = ap (λ z. linked_by x ++ z) (linked-more calls call) ∙ sym (append_assoc (linked_by x) (linked calls) (linked_by call))

above-apart : (n : ℕ) (xs : List ℕ) → All (λ a. (1 ≤ a) × (a ≤ n)) xs → contains xs (n + 1) ≡ false
above-apart n [] h = refl
above-apart n (x ∷ xs) h =
    let first = All-head (λ a. (1 ≤ a) × (a ≤ n)) x xs h in
    let ne : x ≢ n + 1 = λ e. omega (arith, first.1, e) in
    apart-cons x xs (n + 1) ne (above-apart n xs (All-tail (λ a. (1 ≤ a) × (a ≤ n)) x xs h))

pub distinct-more : (n : ℕ) (xs : List ℕ) → AreDistinct xs → All (λ a. (1 ≤ a) × (a ≤ n)) xs → AreDistinct (xs ++ (n + 1) ∷ [])
distinct-more n xs d h =
    distinct-insert xs [] (n + 1) (subst (λ z. AreDistinct z) (sym (append-nil xs)) d)
    (ap (λ z. contains z (n + 1)) (append-nil xs) ∙ above-apart n xs h)

pub within-more : (n : ℕ) (xs : List ℕ) → All (λ a. (1 ≤ a) × (a ≤ n)) xs → All (λ a. (1 ≤ a) × (a ≤ n + 1)) (xs ++ (n + 1) ∷ [])
within-more n xs h =
    All-append (λ a. (1 ≤ a) × (a ≤ n + 1)) xs ((n + 1) ∷ [])
    (All-weaker (λ a. (1 ≤ a) × (a ≤ n)) (λ a. (1 ≤ a) × (a ≤ n + 1)) (λ a k. (k.0, omega (arith, k.1))) xs h)
    (All-cons (λ a. (1 ≤ a) × (a ≤ n + 1)) (n + 1) [] (omega arith, omega arith) (All-nil (λ a. (1 ≤ a) × (a ≤ n + 1))))

abbrev pub Links : ℕ → List OrdCall → Type 0
Links n calls = AreDistinct (linked calls) × All (λ a. (1 ≤ a) × (a ≤ n)) (linked calls)

pub links-more : (n : ℕ) (calls new : List OrdCall) (at : Addr) → at.0 ≡ n + 1 → new ≡ calls ++ Link at ∷ [] → Links n calls → Links (n + 1) new
links-more n calls new at same e h =
    let k : linked new ≡ linked calls ++ (n + 1) ∷ [] = ap (λ z. linked z) e ∙ linked-more calls (Link at) ∙ ap (λ z. linked calls ++ z ∷ []) same in
    (subst (λ z. AreDistinct z) (sym k) (distinct-more n (linked calls) h.0 h.1), subst (λ z. All (λ a. (1 ≤ a) × (a ≤ n + 1)) z) (sym k) (within-more n (linked calls) h.1))

pub finds-more : (n : ℕ) (calls new : List OrdCall) (key : List ℕ) → new ≡ calls ++ Find key ∷ [] → Links n calls → Links n new
finds-more n calls new key e h =
    let k : linked new ≡ linked calls = ap (λ z. linked z) e ∙ linked-more calls (Find key) ∙ append-nil (linked calls) in
    (subst (λ z. AreDistinct z) (sym k) h.0, subst (λ z. All (λ a. (1 ≤ a) × (a ≤ n)) z) (sym k) h.1)
