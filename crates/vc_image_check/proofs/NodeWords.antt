-- Holders as nodes, read word by word.
use Rattle.vc_base.proofs.Common.{◌≡◌, ℕ, ◌+◌, ◌*◌, ◌^◌, ◌<◌, ◌≤◌, Bool, true, false, ◌&&◌, List, [], Option, Some, None, IsSome, nat_lt, length, get_or, take, drop, sym, refl, ap, ◌∙◌, arith, inl, inr, cases_lt, ltb-true, lt-ltb, and_parts, bytes_eq, bytes_eq-Decides, length-take-le, length-take, length-drop, get_or-take, get_or-drop, from_le_bytes, to_le_bytes, w64, unwrap_or}
use Rattle.std.proofs.lemmas.List.{get_or_past}
use Rattle.std.proofs.lemmas.Nat.{le_bytes_8}
use Rattle.vc_base.specs.Cells.{Blocks, HasBytes, bytes_at, word}
use Rattle.vc_dtord.specs.NodeLaws.{node-is, node-none}
use Rattle.vc_dtord.specs.Nodes.{is_link, is_node, is_node_of, word_bytes}

pub has-bytes : (blocks : Blocks) (a n : ℕ) → 1 ≤ n → n ≤ length (bytes_at blocks a) → HasBytes blocks a n
has-bytes blocks a n some enough = record { there = by (blocks a) enough; enough = enough }
  where
    by : (o : Option (List ℕ)) → n ≤ length (unwrap_or o []) → IsSome o
    by None h = absurd (omega (arith, h, some))
    by (Some x) h = refl

pub node-bytes : (blocks : Blocks) (a n : ℕ) → 1 ≤ n → n ≤ 33 → is_node blocks a ≡ true → HasBytes blocks a n
node-bytes blocks a n some few h = let l = (node-is blocks a h).long in has-bytes blocks a n some (omega (arith, l, few))

pub link-small : (k : ℕ) (bytes : List ℕ) → is_link k bytes ≡ true → word k bytes < 2 ^ 32
unfolding is_link
link-small k bytes h = ltb-true (word k bytes) 4294967296 (and_parts (nat_lt (word k bytes) 4294967296) (bytes_eq (word_bytes k bytes) (to_le_bytes w64 (word k bytes))) h).0

and-true : (x : Bool) → x ≡ (x && true)
and-true true = refl
and-true false = refl

same-bytes : (xs ys : List ℕ) → xs ≡ ys → bytes_eq xs ys ≡ true
same-bytes xs ys e = (bytes_eq-Decides xs ys).1 e

small-part : (at : ℕ) (b : List ℕ) → ((i : ℕ) → get_or b i 0 < 256) → (i : ℕ) → get_or (take 8 (drop at b)) i 0 < 256
small-part at b small i = elim (cases_lt i 8) as (λ _. get_or (take 8 (drop at b)) i 0 < 256) [
  | inl lt ↦ let e = get_or-take 8 (drop at b) i 0 lt in let f = get_or-drop at b i 0 in let s = small (at + i) in omega (arith, e, f, s)
  | inr ge ↦ let l = length-take 8 (drop at b) in let e = get_or_past (take 8 (drop at b)) i 0 (omega (arith, l, ge)) in omega (arith, e)
]

pub short-is : (k : ℕ) (bytes : List ℕ) → 8 * k + 8 ≤ length bytes → ((i : ℕ) → get_or bytes i 0 < 256) → nat_lt (word k bytes) 4294967296 ≡ is_link k bytes
unfolding is_link word
short-is k bytes enough small =
    let left = length-drop (8 * k) bytes in
    let long : length (take 8 (drop (8 * k) bytes)) ≡ 8 = length-take-le 8 (drop (8 * k) bytes) (omega (arith, left, enough)) in
    let w = from_le_bytes w64 (take 8 (drop (8 * k) bytes)) in
    let back : to_le_bytes w64 w ≡ take 8 (drop (8 * k) bytes) = le_bytes_8 (take 8 (drop (8 * k) bytes)) w long (small-part (8 * k) bytes small) refl in
    and-true (nat_lt w 4294967296) ∙ ap (λ z. nat_lt w 4294967296 && z) (sym (same-bytes (take 8 (drop (8 * k) bytes)) (to_le_bytes w64 w) (sym back)))

pub node-zero : (blocks : Blocks) (n : ℕ) → n ≡ 0 → false ≡ is_node blocks n
node-zero blocks n e = sym (ap (is_node blocks) e ∙ node-none blocks)

pub node-short : (blocks : Blocks) (n : ℕ) → length (bytes_at blocks n) < 33 → false ≡ is_node blocks n
node-short blocks n lt = by (is_node blocks n) refl
  where
    by : (b : Bool) → is_node blocks n ≡ b → false ≡ is_node blocks n
    by true e = let l = (node-is blocks n e).long in absurd (omega (arith, l, lt))
    by false e = sym e

pub node-links : (blocks : Blocks) (n : ℕ) → 1 ≤ n → n < 2 ^ 32 → 33 ≤ length (bytes_at blocks n)
    → (is_link 0 (bytes_at blocks n) && (is_link 1 (bytes_at blocks n) && is_link 2 (bytes_at blocks n))) ≡ is_node blocks n
unfolding is_node_of
node-links blocks n some fits long = rw (lt-ltb 0 n some, lt-ltb n 4294967296 fits, lt-ltb 32 (length (bytes_at blocks n)) long) refl
