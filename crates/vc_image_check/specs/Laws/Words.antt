-- Numbers of four bytes, and items of several of them, read and written.
use Rattle.std.specs.Prelude.{◌≡◌, ℕ, zero, suc, ◌+◌, ◌*◌, ◌<◌, ◌≤◌, ◌^◌, List, [], ◌∷◌, ◌++◌, length, get_or, take, drop, flat_map, refl}
use Rattle.vc_base.proofs.Common.{sym, ap, ap₂, ◌∙◌, inl, inr, arith, append_assoc, length-append, length-drop, length-take, length-take-le, get_or-drop, get_or-take, drop-drop, take-add, take_at, drop_at, from_le_bytes, w32, cases_lt}
use Rattle.std.proofs.Common.{mul-suc}
use Rattle.std.proofs.lemmas.List.{get_or_past}
use Rattle.std.proofs.lemmas.Nat.{from_le_bytes-to_le_bytes_4, le_bytes_4}
use Rattle.std.proofs.lemmas.Grind.{flat_map-append}
use Rattle.std.specs.List.{AllByRecursion}
use Rattle.vc_seg.specs.Field.{field_at}
use Rattle.vc_image_check.specs.Bytes.Contents.{items_at}
use Rattle.vc_image_check.specs.Bytes.Header.{AreBytes}
use Rattle.vc_image_check.specs.Bytes.Image.{number_bytes}

-- a number takes four bytes
pub length-number : (n : ℕ) → length (number_bytes n) ≡ 4
unfolding number_bytes
length-number n = refl

pub length-numbers : (ns : List ℕ) → length (flat_map number_bytes ns) ≡ 4 * length ns
length-numbers [] = refl
length-numbers (n ∷ ns) =
    let l = length-append (number_bytes n) (flat_map number_bytes ns) in
    let m = length-number n in
    let r = length-numbers ns in
    omega (arith, l, m, r)

-- a part of bytes has bytes
small-part : (at : ℕ) (b : List ℕ) → AreBytes b → AreBytes (take 4 (drop at b))
small-part at b small i = elim (cases_lt i 4) as (λ _. get_or (take 4 (drop at b)) i 0 < 256) [
  | inl lt ↦ let e = get_or-take 4 (drop at b) i 0 lt in let f = get_or-drop at b i 0 in let s = small (at + i) in omega (arith, e, f, s)
  | inr ge ↦ let l = length-take 4 (drop at b) in let e = get_or_past (take 4 (drop at b)) i 0 (omega (arith, l, ge)) in omega (arith, e)
]

-- what is read of four bytes is written as these
pub number-back : (at : ℕ) (b : List ℕ) → AreBytes b → at + 4 ≤ length b → number_bytes (field_at at b) ≡ take 4 (drop at b)
unfolding number_bytes field_at
number-back at b small h =
    let left = length-drop at b in
    let long : length (take 4 (drop at b)) ≡ 4 = length-take-le 4 (drop at b) (omega (arith, left)) in
    le_bytes_4 (take 4 (drop at b)) (from_le_bytes w32 (take 4 (drop at b))) long (small-part at b small) refl

-- what was written is read behind a front of so many bytes
pub number-again : (at n : ℕ) (front rest : List ℕ) → n < 2 ^ 32 → length front ≡ at → field_at at (front ++ number_bytes n ++ rest) ≡ n
unfolding number_bytes field_at
number-again at n front rest fits e =
    ap (λ z. from_le_bytes w32 (take 4 (drop at z))) (append_assoc front (number_bytes n) rest)
    ∙ ap (λ z. from_le_bytes w32 (take 4 z)) (drop_at front (number_bytes n ++ rest) at e)
    ∙ ap (from_le_bytes w32) (take_at (number_bytes n) rest 4 refl)
    ∙ from_le_bytes-to_le_bytes_4 n fits

-- among others
pub field-again : (place at : ℕ) (pre : List ℕ) (n : ℕ) (post front rest : List ℕ) → n < 2 ^ 32 → length front ≡ at → place ≡ at + 4 * length pre → field_at place (front ++ flat_map number_bytes (pre ++ n ∷ post) ++ rest) ≡ n
field-again place at pre n post front rest fits e p =
    let a = flat_map number_bytes pre in
    let b = flat_map number_bytes post in
    let whole : front ++ flat_map number_bytes (pre ++ n ∷ post) ++ rest ≡ front ++ a ++ number_bytes n ++ (b ++ rest) =
    ap (λ z. front ++ z ++ rest) (flat_map-append number_bytes pre (n ∷ post))
    ∙ ap (λ z. z ++ rest) (sym (append_assoc front a (number_bytes n ++ b)) ∙ sym (append_assoc (front ++ a) (number_bytes n) b))
    ∙ append_assoc (front ++ a ++ number_bytes n) b rest in
    let long : length (front ++ a) ≡ place = let l = length-append front a in let m = length-numbers pre in omega (arith, l, m, e, p) in
    ap (field_at place) whole ∙ number-again place n (front ++ a) (b ++ rest) fits long

-- two parts side by side
pub parts : (n m at : ℕ) (b : List ℕ) → take n (drop at b) ++ take m (drop (at + n) b) ≡ take (n + m) (drop at b)
parts n m at b = ap (λ z. take n (drop at b) ++ take m z) (sym (drop-drop n at b)) ∙ sym (take-add n m (drop at b))

-- items are read of what they are written as
module _ {X : Type 0} (read : ℕ → List ℕ → X) (spell : X → List ℕ) (w : ℕ) where
  pub items-back : (b : List ℕ) → ((at : ℕ) → at + w ≤ length b → spell (read at b) ≡ take w (drop at b)) → (k at : ℕ) → at + w * k ≤ length b → flat_map spell (items_at read w k at b) ≡ take (w * k) (drop at b)
  items-back b each zero at h = let none : 0 ≡ w * 0 = omega arith in ap (λ z. take z (drop at b)) none
  items-back b each (suc k) at h =
      let m : w * suc k ≡ w * k + w = mul-suc w k in
      ap₂ (λ x y. x ++ y) (each at (omega (arith, h, m))) (items-back b each k (at + w) (omega (arith, h, m)))
      ∙ parts w (w * k) at b ∙ (let more : w + w * k ≡ w * suc k = omega (arith, m) in ap (λ z. take z (drop at b)) more)

  pub length-items : (k at : ℕ) (b : List ℕ) → length (items_at read w k at b) ≡ k
  length-items zero at b = refl
  length-items (suc k) at b = let r = length-items k (at + w) b in omega (arith, r)

  pub items-again : (Fits : X → Type 0) → ((x : X) → length (spell x) ≡ w) → ((x : X) (at : ℕ) (front rest : List ℕ) → Fits x → length front ≡ at → read at (front ++ spell x ++ rest) ≡ x) → (xs : List X) (at : ℕ) (front rest : List ℕ) → AllByRecursion Fits xs → length front ≡ at
      → items_at read w (length xs) at (front ++ flat_map spell xs ++ rest) ≡ xs
  items-again Fits long each [] at front rest fits e = refl
  items-again Fits long each (x ∷ xs) at front rest fits e =
      let more = flat_map spell xs in
      let two : front ++ (spell x ++ more) ++ rest ≡ front ++ spell x ++ more ++ rest = ap (λ z. z ++ rest) (sym (append_assoc front (spell x) more)) in
      let one : front ++ (spell x ++ more) ++ rest ≡ front ++ spell x ++ (more ++ rest) = two ∙ append_assoc (front ++ spell x) more rest in
      let behind : length (front ++ spell x) ≡ at + w = let l = length-append front (spell x) in let m = long x in omega (arith, l, m, e) in
      ap₂ (λ y ys. y ∷ ys)
      (ap (read at) one ∙ each x at front (more ++ rest) fits.0 e)
      (ap (items_at read w (length xs) (at + w)) two ∙ items-again Fits long each xs (at + w) (front ++ spell x) rest fits.1 behind)
