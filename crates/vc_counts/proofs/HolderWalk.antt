-- How far a walk along a dictionary's holders has counted their bytes.
use Rattle.vc_base.proofs.Common.{◌≡◌, ℕ, zero, suc, ◌+◌, ◌*◌, ◌^◌, ◌<◌, ◌≤◌, true, false, ◌≢◌, List, [], ◌∷◌, map, length, drop, Some, None, Option, option_map, sym, refl, ap, ◌∙◌, subst, inl, inr, true≢false, add-one, arith, eqb_tells, none-some, same_Some, Blocks, HasBytes, AreDistinct, contains, first_in, next_in}
use Rattle.vc_base.specs.declared.addr.Addr.{Addr}
use Rattle.vc_base.proofs.Members.{within-head, within-tail}
use Rattle.vc_dict.specs.Listed.{holders_of}
use Rattle.vc_dict.specs.Stands.{IsIn}
use Rattle.vc_dict.specs.declared.dict.Dict.{Dict}
use Rattle.vc_dict.proofs.OwnLemmas.{count-fits, holder-there, holders-distinct}
use Rattle.vc_dtdisc.specs.Finds.{object_at}
use Rattle.vc_dtdisc.specs.Rules.{IsObject, Rules}
use Rattle.vc_dtlist.specs.Linked.{number_of}
use Rattle.vc_objects.specs.Objects.{holder_size}
use Rattle.vc_objects.specs.Parts.{IsWhole, object_of}
use Rattle.vc_objects.proofs.Owning.{each-object}
use Rattle.vc_counts.specs.Working.{holders_bytes}
use Rattle.vc_counts.proofs.EndedBytes.{holders-cons}

-- the one that is next is the first of those that are left
left-first : (i : ℕ) (hs : List ℕ) (x : ℕ) → first_in (drop i hs) ≡ Some x → drop i hs ≡ x ∷ drop (suc i) hs
left-first zero [] x e = absurd (none-some x e)
left-first zero (y ∷ ys) x e = ap (λ z. z ∷ ys) (same_Some y x e)
left-first (suc i) [] x e = absurd (none-some x e)
left-first (suc i) (y ∷ ys) x e = left-first i ys x e

left-within : (i : ℕ) (hs : List ℕ) (x : ℕ) → first_in (drop i hs) ≡ Some x → contains hs x ≡ true
left-within zero [] x e = absurd (none-some x e)
left-within zero (y ∷ ys) x e = subst (λ z. contains (y ∷ ys) z ≡ true) (same_Some y x e) (within-head y ys)
left-within (suc i) [] x e = absurd (none-some x e)
left-within (suc i) (y ∷ ys) x e = within-tail y ys x (left-within i ys x e)

next-left : (i : ℕ) (hs : List ℕ) (x : ℕ) → AreDistinct hs → first_in (drop i hs) ≡ Some x → next_in x hs ≡ first_in (drop (suc i) hs)
next-left zero [] x distinct e = absurd (none-some x e)
next-left zero (y ∷ ys) x distinct e =
    elim (eqb_tells y x) as (λ _. next_in x (y ∷ ys) ≡ first_in ys) [
      | inl same ↦ rw same.0 refl
      | inr apart ↦ absurd (apart.1 (same_Some y x e))
    ]
next-left (suc i) [] x distinct e = absurd (none-some x e)
next-left (suc i) (y ∷ ys) x distinct e =
    elim (eqb_tells y x) as (λ _. next_in x (y ∷ ys) ≡ first_in (drop (suc i) ys)) [
      | inl same ↦ absurd (true≢false (sym (left-within i ys x e) ∙ subst (λ z. contains ys z ≡ false) same.1 distinct.0))
      | inr apart ↦ rw apart.0 (next-left i ys x distinct.1 e)
    ]

some-left : (i : ℕ) (hs : List ℕ) → i < length hs → (x : ℕ) × (first_in (drop i hs) ≡ Some x)
some-left i [] lt = absurd (omega (arith, lt))
some-left zero (y ∷ ys) lt = (y, refl)
some-left (suc i) (y ∷ ys) lt = some-left i ys (omega (arith, lt))

all-left : (hs : List ℕ) (i : ℕ) → length hs ≤ i → drop i hs ≡ []
all-left [] zero le = refl
all-left [] (suc i) le = refl
all-left (y ∷ ys) zero le = absurd (omega (arith, le))
all-left (y ∷ ys) (suc i) le = all-left ys i (omega (arith, le))

module _ (b : Blocks) (hs : List ℕ) where
  abbrev held : List ℕ → ℕ
  held xs = holders_bytes (map (object_of b) xs)

  -- so many were counted, and the one behind them is next
  pub record Walked (i : ℕ) (next : Option ℕ) (bytes : ℕ) : Type 0 where
    pub first : next ≡ first_in (drop i hs)
    pub sum : bytes + held (drop i hs) ≡ held hs
    pub most : bytes ≤ 1056 * i

  pub walked-start : (next : Option ℕ) → next ≡ first_in hs → Walked 0 next 0
  walked-start next first = record { first = first; sum = omega arith; most = omega arith }

  -- there is one while not all were
  pub walked-some : (i : ℕ) (next : Option ℕ) (bytes : ℕ) → Walked i next bytes → i < length hs → next ≢ None
  walked-some i next bytes w lt none =
      let some = some-left i hs lt in
      none-some some.0 (sym none ∙ (w.first ∙ some.1))

  module _ (i x bytes : ℕ) (w : Walked i (Some x) bytes) where
    pub walked-within : contains hs x ≡ true
    walked-within = left-within i hs x (sym w.first)

    pub walked-next : AreDistinct hs → (size : ℕ) → size ≡ holder_size (object_at b x) → size ≤ 1056 → Walked (i + 1) (next_in x hs) (bytes + size)
    walked-next distinct size is few =
        let here : drop i hs ≡ x ∷ drop (suc i) hs = left-first i hs x (sym w.first) in
        let most = w.most in
        rw add-one
        record {
          first = next-left i hs x distinct (sym w.first);
          sum = omega (arith, w.sum, is, ap held here, holders-cons (object_of b x) (map (object_of b) (drop (suc i) hs)));
          most = omega (arith, most, few);
        }

  -- and all were
  pub walked-all : (i : ℕ) (next : Option ℕ) (bytes : ℕ) → Walked i next bytes → length hs ≤ i → bytes ≡ held hs
  walked-all i next bytes w all = let none = ap held (all-left hs i all) in omega (arith, w.sum, none)

-- along a whole dictionary
module _ (rules : Rules) (d : Dict) (b : Blocks) (whole : IsWhole rules d b) (i : ℕ) (next : Option Addr) (bytes : ℕ) (w : Walked b (holders_of d b) i (option_map number_of next) bytes) where
  abbrev hs : List ℕ
  hs = holders_of d b

  pub more-left : i < d.count → next ≡ None → ⊥
  more-left lt none =
      walked-some b hs i (option_map number_of next) bytes w (omega (arith, lt, whole.stands.count)) (ap (option_map number_of) none)

  pub few-bytes : i ≤ d.count → bytes < 2 ^ 43
  few-bytes le = omega (arith, le, w.most, whole.stands.count, count-fits rules d b hs whole.stands)

  module _ (at : Addr) (is : next ≡ Some at) (lt : i < d.count) where
    here : Walked b (holders_of d b) i (Some at.0) bytes
    here = subst (λ o. Walked b hs i (option_map number_of o) bytes) is w

    within : contains (holders_of d b) at.0 ≡ true
    within = walked-within b hs i at.0 bytes here

    pub holder-bytes : HasBytes b at.0 32
    holder-bytes =
        let h = holder-there rules d b hs at.0 whole.stands within in
        let enough = h.enough in
        record { there = h.there; enough = omega (arith, enough) }

    pub is-in : IsIn d b at.0
    is-in = record { rules = rules; is = record { holders = hs; stands = whole.stands; within = within } }

    short : length (object_at b at.0) ≤ 1024
    short = (each-object IsObject b hs whole.objects at.0 within).most

    module _ (body : List ℕ) (own : body ≡ object_at b at.0) where
      long : length body ≡ length (object_at b at.0)
      long = ap (λ (o : List ℕ). length o) own

      pub sum-fits : bytes + (32 + length body) < 2 ^ 64
      sum-fits = let le = few-bytes (omega (arith, lt)) in omega (arith, le, long, short)

      pub passed : (behind : Option Addr) → option_map number_of behind ≡ next_in at.0 (holders_of d b) → Walked b (holders_of d b) (i + 1) (option_map number_of behind) (bytes + (32 + length body))
      passed behind e =
          subst (λ o. Walked b hs (i + 1) o (bytes + (32 + length body))) (sym e)
          (walked-next b hs i at.0 bytes here (holders-distinct rules d b hs whole.stands) (32 + length body) (omega (arith, long)) (omega (arith, long, short)))
