-- Which place is the current one when an object goes.
use Rattle.vc_base.proofs.Common.{◌≡◌, ℕ, suc, ◌-◌, ◌<◌, Bool, true, false, ◌≢◌, List, [], ◌∷◌, map, length, if◌then◌else◌, ◌==◌, nat_lt, Some, None, Option, option_map, sym, refl, ap, ◌∙◌, subst, none-some, same_Some, arith, eq-eqb, ne_eqb, eqb_tells, lt-ltb, le-ltb, find, cond, true≢false, length-map, cases_lt, ⊎_elim, inl, inr, ◌≤◌, AreDistinct, contains, Blocks, some_address}
use Rattle.vc_base.proofs.Members.{within-head, within-tail}
use Rattle.vc_dtdisc.specs.Finding.{first_of}
use Rattle.vc_dtdisc.specs.Objects as objects
use Rattle.vc_dtdisc.specs.Objects.{Object, address_of, behind_object, current_without, first_with, without_object}
use Rattle.vc_dtdisc.specs.Rules.{Rules}
use Rattle.vc_objects.specs.Objects.{Dictionary}
use Rattle.vc_objects.specs.Parts.{IsWhole, dictionary_of}
use Rattle.vc_objects.proofs.Mapped.{addresses-mapped}
use Rattle.vc_dict.specs.Listed.{holders_of}
use Rattle.vc_dict.specs.declared.dict.Dict.{Dict}
use Rattle.vc_objects.specs.Remove.{bytes_of, remove, remove_found}
use Rattle.vc_model.specs.Layout.{Layout}
use Rattle.vc_store.specs.Contents.{before_address, current_place}
use Rattle.vc_store.specs.Reading.{count_before, place_without}
use Rattle.vc_store.proofs.Places.{other-than}
use Rattle.vc_store.proofs.Shown.{found-there, within-rest}

abbrev ats : List Object → List ℕ
ats xs = map address_of xs

here-first : (x : Object) (a : ℕ) (xs : List Object) → x.at ≡ a → before_address a (x ∷ xs) ≡ 0
here-first x a xs e = rw (eq-eqb x.at a e) refl

here-behind : (x : Object) (a : ℕ) (xs : List Object) → x.at ≢ a → before_address a (x ∷ xs) ≡ suc (before_address a xs)
here-behind x a xs ne = rw (ne_eqb x.at a ne) refl

before-within : (a : ℕ) (xs : List Object) → contains (ats xs) a ≡ true → before_address a xs < length xs
before-within a [] w = absurd (true≢false (sym w))
before-within a (x ∷ xs) w = elim (eqb_tells x.at a) as (λ _. before_address a (x ∷ xs) < length (x ∷ xs)) [
  | inl same ↦ let here = here-first x a xs same.1 in omega (arith, here)
  | inr apart ↦
      let here = here-behind x a xs apart.1 in
      let rest = before-within a xs (rw apart.0 at w) in
      omega (arith, here, rest)
]

-- two addresses have two places
before-apart : (a b : ℕ) (xs : List Object) → b ≢ a → contains (ats xs) b ≡ true → before_address b xs ≢ before_address a xs
before-apart a b [] ne w e = true≢false (sym w)
before-apart a b (x ∷ xs) ne w e = elim (eqb_tells x.at b) as (λ _. ⊥) [
  | inl same ↦
      let this = here-first x b xs same.1 in
      let that = here-behind x a xs (λ z. ne (sym same.1 ∙ z)) in
      absurd (omega (arith, this, that, e))
  | inr apart ↦
      let this = here-behind x b xs apart.1 in
      elim (eqb_tells x.at a) as (λ _. ⊥) [
        | inl same ↦ let that = here-first x a xs same.1 in absurd (omega (arith, this, that, e))
        | inr other ↦
            let that = here-behind x a xs other.1 in
            before-apart a b xs ne (rw apart.0 at w) (omega (arith, this, that, e))
      ]
]

-- another one's place once one goes
abbrev moved : ℕ → ℕ → ℕ
moved gone place = if nat_lt gone place then place - 1 else place

moved-suc : (m n : ℕ) → suc (moved m n) ≡ moved (suc m) (suc n)
moved-suc m n =
    ⊎_elim
    (λ (less : m < n).
    let same : suc (n - 1) ≡ suc n - 1 = omega (arith, less) in
    ap (λ t. suc (if t then n - 1 else n)) (lt-ltb m n less) ∙ (same ∙ sym (ap (λ t. if t then suc n - 1 else suc n) (lt-ltb (suc m) (suc n) (omega (arith, less))))))
    (λ (more : n ≤ m).
    ap (λ t. suc (if t then n - 1 else n)) (le-ltb m n more) ∙ sym (ap (λ t. if t then suc n - 1 else suc n) (le-ltb (suc m) (suc n) (omega (arith, more)))))
    (cases_lt m n)

moved-down : (n : ℕ) → n ≡ moved 0 (suc n)
moved-down n =
    let same : n ≡ suc n - 1 = omega arith in
    same ∙ sym (ap (λ t. if t then suc n - 1 else suc n) (lt-ltb 0 (suc n) (omega arith)))

moved-first : (m : ℕ) → 0 ≡ moved m 0
moved-first m = sym (ap (λ t. if t then 0 - 1 else 0) (le-ltb m 0 (omega arith)))

before-other : (a b : ℕ) (xs : List Object) → b ≢ a → before_address b (without_object address_of a xs) ≡ moved (before_address a xs) (before_address b xs)
before-other a b [] ne = moved-first 0
before-other a b (x ∷ xs) ne = elim (eqb_tells x.at a) as (λ _. before_address b (without_object address_of a (x ∷ xs)) ≡ moved (before_address a (x ∷ xs)) (before_address b (x ∷ xs))) [
  | inl same ↦
      let that : (x.at == b) ≡ false = ne_eqb x.at b (λ e. ne (sym e ∙ same.1)) in
      rw (same.0, that) (moved-down (before_address b xs))
  | inr apart ↦ elim (eqb_tells x.at b) as (λ _. before_address b (without_object address_of a (x ∷ xs)) ≡ moved (before_address a (x ∷ xs)) (before_address b (x ∷ xs))) [
    | inl same ↦ rw apart.0 (rw same.0 (moved-first (suc (before_address a xs))))
    | inr other ↦
        rw apart.0 (rw other.0 (ap (λ n. suc n) (before-other a b xs ne) ∙ moved-suc (before_address a xs) (before_address b xs)))
  ]
]

-- so many are left
left-one : (a : ℕ) (xs : List Object) → contains (ats xs) a ≡ true → suc (length (without_object address_of a xs)) ≡ length xs
left-one a [] w = absurd (true≢false (sym w))
left-one a (x ∷ xs) w = elim (eqb_tells x.at a) as (λ _. suc (length (without_object address_of a (x ∷ xs))) ≡ length (x ∷ xs)) [
  | inl same ↦ rw same.0 refl
  | inr apart ↦ rw apart.0 (ap (λ n. suc n) (left-one a xs (rw apart.0 at w)))
]

-- the one behind it
first-there : (xs : List Object) (b : Object) → first_of xs ≡ Some b → contains (ats xs) b.at ≡ true
first-there [] b e = absurd (none-some b e)
first-there (x ∷ xs) b e = subst (λ (z : Object). contains (x.at ∷ ats xs) z.at ≡ true) (same_Some x b e) (within-head x.at (ats xs))

behind-there : (a : ℕ) (xs : List Object) (b : Object) → behind_object address_of a xs ≡ Some b → contains (ats xs) b.at ≡ true
behind-there a [] b e = absurd (none-some b e)
behind-there a (x ∷ xs) b e = elim (eqb_tells x.at a) as (λ _. contains (ats (x ∷ xs)) b.at ≡ true) [
  | inl same ↦ within-tail x.at (ats xs) b.at (first-there xs b (rw same.0 at e))
  | inr apart ↦ within-tail x.at (ats xs) b.at (behind-there a xs b (rw apart.0 at e))
]

abbrev if_left : ℕ → ℕ → Option ℕ
if_left place left = if nat_lt place left then Some place else None

left-suc : (m n : ℕ) → option_map (λ k. suc k) (if_left m n) ≡ if_left (suc m) (suc n)
left-suc m n =
    ⊎_elim
    (λ (less : m < n).
    ap (λ t. option_map (λ k. suc k) (if t then Some m else None)) (lt-ltb m n less) ∙ sym (ap (λ t. if t then Some (suc m) else None) (lt-ltb (suc m) (suc n) (omega (arith, less)))))
    (λ (more : n ≤ m).
    ap (λ t. option_map (λ k. suc k) (if t then Some m else None)) (le-ltb m n more) ∙ sym (ap (λ t. if t then Some (suc m) else None) (le-ltb (suc m) (suc n) (omega (arith, more)))))
    (cases_lt m n)

first-place : (xs : List Object) → current_place (option_map address_of (first_of xs)) xs ≡ if_left 0 (length xs)
first-place [] = refl
first-place (x ∷ xs) =
    ap Some (here-first x x.at xs refl) ∙ sym (ap (λ t. if t then Some 0 else None) (lt-ltb 0 (suc (length xs)) (omega arith)))

under : (x : Object) (o : Option Object) (ys : List Object) → ((b : Object) → o ≡ Some b → x.at ≢ b.at)
    → current_place (option_map address_of o) (x ∷ ys) ≡ option_map (λ k. suc k) (current_place (option_map address_of o) ys)
under x None ys apart = refl
under x (Some b) ys apart = ap Some (here-behind x b.at ys (apart b refl))

behind-place : (a : ℕ) (xs : List Object) → AreDistinct (ats xs) → contains (ats xs) a ≡ true
    → current_place (option_map address_of (behind_object address_of a xs)) (without_object address_of a xs) ≡ if_left (before_address a xs) (length (without_object address_of a xs))
behind-place a [] d w = absurd (true≢false (sym w))
behind-place a (x ∷ xs) d w = elim (eqb_tells x.at a) as (λ _. current_place (option_map address_of (behind_object address_of a (x ∷ xs))) (without_object address_of a (x ∷ xs)) ≡ if_left (before_address a (x ∷ xs)) (length (without_object address_of a (x ∷ xs)))) [
  | inl same ↦ rw same.0 (first-place xs)
  | inr apart ↦
      rw apart.0
      (under x (behind_object address_of a xs) (without_object address_of a xs) (λ b e. other-than x.at b.at (ats xs) d.0 (behind-there a xs b e))
      ∙ (ap (λ p. option_map (λ k. suc k) p) (behind-place a xs d.1 (rw apart.0 at w))
      ∙ left-suc (before_address a xs) (length (without_object address_of a xs))))
]

-- the current one's place, where that one goes, and where another does
own-place : (a : ℕ) (xs : List Object) → AreDistinct (ats xs) → contains (ats xs) a ≡ true
    → current_place (current_without address_of a (Some a) xs) (without_object address_of a xs) ≡ place_without (before_address a xs) (length (without_object address_of a xs)) (Some (before_address a xs))
own-place a xs d w =
    let n = before_address a xs in
    let left = length (without_object address_of a xs) in
    ap (λ t. current_place (if t then option_map address_of (behind_object address_of a xs) else Some a) (without_object address_of a xs)) (eq-eqb a a refl)
    ∙ (behind-place a xs d w ∙ sym (ap (λ t. if t then Some (n - 1) else if_left n left) (le-ltb n n (omega arith))))

other-place : (a c : ℕ) (xs : List Object) → c ≢ a → contains (ats xs) a ≡ true → contains (ats xs) c ≡ true
    → Some (before_address c (without_object address_of a xs)) ≡ place_without (before_address a xs) (length (without_object address_of a xs)) (Some (before_address c xs))
other-place a c xs ne w v =
    let m = before_address a xs in
    let n = before_address c xs in
    let left = length (without_object address_of a xs) in
    ap Some (before-other a c xs ne)
    ∙ ⊎_elim
    (λ (less : m < n).
    ap (λ t. Some (if t then n - 1 else n)) (lt-ltb m n less) ∙ sym (ap (λ t. if t then Some (n - 1) else if_left n left) (lt-ltb m n less)))
    (λ (more : n ≤ m).
    let apart = before-apart a c xs ne v in
    let in_list = before-within a xs w in
    let one = left-one a xs w in
    let strict : n < m = ⊎_elim (λ (s : n < m). s) (λ (e : m ≤ n). absurd (apart (omega (arith, e, more)))) (cases_lt n m) in
    ap (λ t. Some (if t then n - 1 else n)) (le-ltb m n more)
    ∙ (sym (ap (λ t. if t then Some n else None) (lt-ltb n left (omega (arith, strict, in_list, one))))
    ∙ sym (ap (λ t. if t then Some (n - 1) else if_left n left) (le-ltb m n more))))
    (cases_lt m n)

-- a current one is one of the objects
abbrev pub IsAmong : Option ℕ → List Object → Type 0
IsAmong None xs = Unit {0}
IsAmong (Some c) xs = contains (ats xs) c ≡ true

gone-place : (a : ℕ) (current : Option ℕ) (xs : List Object) → AreDistinct (ats xs) → contains (ats xs) a ≡ true → IsAmong current xs
    → current_place (current_without address_of a current xs) (without_object address_of a xs) ≡ place_without (before_address a xs) (length (without_object address_of a xs)) (current_place current xs)
gone-place a None xs d w v = refl
gone-place a (Some c) xs d w v = elim (eqb_tells c a) as (λ _. current_place (current_without address_of a (Some c) xs) (without_object address_of a xs) ≡ place_without (before_address a xs) (length (without_object address_of a xs)) (current_place (Some c) xs)) [
  | inl same ↦
      subst
      (λ z. current_place (current_without address_of a (Some z) xs) (without_object address_of a xs) ≡ place_without (before_address a xs) (length (without_object address_of a xs)) (Some (before_address z xs)))
      (sym same.1) (own-place a xs d w)
  | inr apart ↦
      ap (λ t. current_place (if t then option_map address_of (behind_object address_of a xs) else Some c) (without_object address_of a xs)) apart.0
      ∙ other-place a c xs apart.1 w v
]

still-place : (current : Option ℕ) (xs : List Object) → IsAmong current xs → current_place current xs ≡ place_without (length xs) (length xs) (current_place current xs)
still-place None xs v = refl
still-place (Some c) xs v =
    let n = before_address c xs in
    let in_list = before-within c xs v in
    sym (ap (λ t. if t then Some n else None) (lt-ltb n (length xs) in_list))
    ∙ sym (ap (λ t. if t then Some (n - 1) else if_left n (length xs)) (le-ltb (length xs) n (omega (arith, in_list))))

-- as many stand before the first that passes a test
found-counted : (test : List ℕ → Bool) (xs : List Object) (o : Object) → AreDistinct (ats xs) → find (λ x. test x.bytes) xs ≡ Some o → before_address o.at xs ≡ count_before test (bytes_of xs)
found-counted test [] o d e = absurd (none-some o e)
found-counted test (x ∷ xs) o d e = by (test x.bytes) (found-counted test xs o d.1) e
  where
    by : (t : Bool) → (find (λ x. test x.bytes) xs ≡ Some o → before_address o.at xs ≡ count_before test (bytes_of xs)) → cond t (Some x) (find (λ x. test x.bytes) xs) ≡ Some o
        → before_address o.at (x ∷ xs) ≡ (if t then 0 else suc (count_before test (bytes_of xs)))
    by true rest e = here-first x o.at xs (ap (λ (z : Object). z.at) (same_Some x o e))
    by false rest e =
        here-behind x o.at xs (other-than x.at o.at (ats xs) d.0 (found-there (λ z. test z.bytes) xs o e))
        ∙ ap (λ n. suc n) (rest e)

none-counted : (test : List ℕ → Bool) (xs : List Object) → find (λ x. test x.bytes) xs ≡ None → length xs ≡ count_before test (bytes_of xs)
none-counted test [] e = refl
none-counted test (x ∷ xs) e = by (test x.bytes) (none-counted test xs) e
  where
    by : (t : Bool) → (find (λ x. test x.bytes) xs ≡ None → length xs ≡ count_before test (bytes_of xs)) → cond t (Some x) (find (λ x. test x.bytes) xs) ≡ None
        → suc (length xs) ≡ (if t then 0 else suc (count_before test (bytes_of xs)))
    by true rest e = absurd (none-some x (sym e))
    by false rest e = ap (λ n. suc n) (rest e)

-- so where the first that has a key goes
module _ (rules : Rules) (key : List ℕ) (r : Layout ℕ) (d : Dictionary) (distinct : AreDistinct (ats d.objects)) (among : IsAmong d.current d.objects) where
  abbrev test : List ℕ → Bool
  test = objects.has_key rules key

  found-placed : (o : Option Object) → find (λ x. test x.bytes) d.objects ≡ o
      → current_place (remove_found r d o).dict.current (remove_found r d o).dict.objects
      ≡ place_without (count_before test (bytes_of d.objects)) (length (bytes_of (remove_found r d o).dict.objects)) (current_place d.current d.objects)
  found-placed None e =
      still-place d.current d.objects among
      ∙ (ap (λ n. place_without n (length d.objects) (current_place d.current d.objects)) (none-counted test d.objects e)
      ∙ ap (λ n. place_without (count_before test (bytes_of d.objects)) n (current_place d.current d.objects)) (sym (length-map d.objects objects.bytes_of)))
  found-placed (Some o) e =
      let ys = without_object address_of o.at d.objects in
      gone-place o.at d.current d.objects distinct (found-there (λ z. test z.bytes) d.objects o e) among
      ∙ (ap (λ n. place_without n (length ys) (current_place d.current d.objects)) (found-counted test d.objects o distinct e)
      ∙ ap (λ n. place_without (count_before test (bytes_of d.objects)) n (current_place d.current d.objects)) (sym (length-map ys objects.bytes_of)))

  pub removed-placed : current_place (remove rules r d key).dict.current (remove rules r d key).dict.objects
      ≡ place_without (count_before test (bytes_of d.objects)) (length (bytes_of (remove rules r d key).dict.objects)) (current_place d.current d.objects)
  removed-placed = found-placed (first_with objects.bytes_of rules key d.objects) refl

among-by : (t : Bool) (c : ℕ) (xs : List Object) → (t ≡ false → contains (ats xs) c ≡ true) → IsAmong (if t then None else Some c) xs
among-by true c xs h = tt
among-by false c xs h = h refl

pub among-whole : (rules : Rules) (d : Dict) (b : Blocks) → IsWhole rules d b → IsAmong (some_address d.current.0) (dictionary_of d b).objects
among-whole rules d b whole =
    among-by (d.current.0 == 0) d.current.0 (dictionary_of d b).objects
    (λ some. subst (λ ys. contains ys d.current.0 ≡ true) (sym (addresses-mapped b (holders_of d b))) (within-rest d.current.0 (holders_of d b) some whole.current))
