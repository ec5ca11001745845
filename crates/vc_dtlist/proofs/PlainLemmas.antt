-- Holders whose third and fourth word are 0: what written links leave of them, with one more and without one.
use Rattle.vc_base.proofs.Common.{◌≡◌, ℕ, ◌≤◌, false, ◌≢◌, List, [], ◌∷◌, ◌++◌, All, ◌∙◌, inl, inr, arith, eqb_tells, All-cons, All-head, All-nil, All-tail, All-weaker, Blocks, WordsWritten, word_at, contains, without}
use Rattle.vc_base.proofs.Members.{apart-head, apart-tail}
use Rattle.vc_dtlist.specs.Linked.{IsPlain}
use Rattle.vc_dtlist.proofs.WordLemmas.{word-other_block}

-- one of another block stays plain
IsPlain-other : (old new : Blocks) (a x : ℕ) → WordsWritten old new a → x ≢ a → IsPlain old x → IsPlain new x
IsPlain-other old new a x w ne p = record {
  third = word-other_block old new a x 2 w ne ∙ p.third;
  fourth = word-other_block old new a x 3 w ne ∙ p.fourth;
}

-- all of them
pub plain-other : (old new : Blocks) (a : ℕ) (xs : List ℕ) → WordsWritten old new a → contains xs a ≡ false → All (IsPlain old) xs → All (IsPlain new) xs
plain-other old new a [] w h p = All-nil (IsPlain new)
plain-other old new a (x ∷ xs) w h p =
    All-cons (IsPlain new) x xs (IsPlain-other old new a x w (apart-head x xs a h) (All-head (IsPlain old) x xs p))
    (plain-other old new a xs w (apart-tail x xs a h) (All-tail (IsPlain old) x xs p))

-- where their third and fourth words stay
pub plain-kept : (old new : Blocks) (xs : List ℕ) → ((a k : ℕ) → 2 ≤ k → word_at new a k ≡ word_at old a k) → All (IsPlain old) xs → All (IsPlain new) xs
plain-kept old new xs e p =
    All-weaker (IsPlain old) (IsPlain new) (λ x q. record { third = e x 2 (omega arith) ∙ q.third; fourth = e x 3 (omega arith) ∙ q.fourth }) xs p

-- with one more between two parts of a list
pub All-inserted : (P : ℕ → Type 0) (xs ys : List ℕ) (a : ℕ) → All P (xs ++ ys) → P a → All P (xs ++ a ∷ ys)
All-inserted P [] ys a h p = All-cons P a ys p h
All-inserted P (x ∷ xs) ys a h p = All-cons P x (xs ++ a ∷ ys) (All-head P x (xs ++ ys) h) (All-inserted P xs ys a (All-tail P x (xs ++ ys) h) p)

-- without one
pub All-without : (P : ℕ → Type 0) (xs : List ℕ) (a : ℕ) → All P xs → All P (without a xs)
All-without P [] a h = h
All-without P (x ∷ xs) a h = elim (eqb_tells x a) as (λ _. All P (without a (x ∷ xs))) [
  | inl same ↦ rw same.0 (All-tail P x xs h)
  | inr apart ↦ rw apart.0 (All-cons P x (without a xs) (All-head P x xs h) (All-without P xs a (All-tail P x xs h)))
]
