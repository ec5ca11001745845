-- What is granted to a region, in new segments behind those there or in the last of them, and segments that it gives back.
use Rattle.vc_base.proofs.Common.{◌≡◌, ℕ, zero, suc, ◌+◌, ◌-◌, ◌<◌, ◌≤◌, ◌⊎◌, Bool, true, false, cond, List, [], ◌∷◌, ◌++◌, map, length, get_or, drop, sum, count_by, filter, sym, refl, ap, ◌∙◌, subst, ⊎_elim, cases_Bool, arith, sum-map, sum_by-cons, Grant}
use Rattle.vc_model.specs.Segments.{segments_with, with_more}

-- the sizes of segments
abbrev sizes : List (ℕ × ℕ) → List ℕ
sizes segments = map (λ s. s.1) segments

-- how many new segments are granted, and how many bytes
abbrev pub new_ones : List Grant → ℕ
new_ones granted = count_by (λ g. g.fresh) granted

abbrev pub bytes_granted : List Grant → ℕ
bytes_granted granted = sum (map (λ g. g.bytes) granted)

-- what is granted is a new segment, or goes into one of these
abbrev pub IsFor : List (ℕ × ℕ) → Grant → Type 0
IsFor segments g = (g.fresh ≡ true) ⊎ (1 ≤ length segments)

-- what was granted stands behind the segments there or in the last of them
pub record StandBehind (before after : List (ℕ × ℕ)) (granted : List Grant) : Type 0 where
  pub many : length after ≡ length before + new_ones granted
  pub bytes : sum (sizes after) ≡ sum (sizes before) + bytes_granted granted
  pub kept : (i : ℕ) → suc i < length before → get_or (sizes after) i 0 ≡ get_or (sizes before) i 0

-- where a region has the first segments before and the second ones after, as many more stand from the last one on as were granted, with as many bytes more
pub record Lends (before after : List (ℕ × ℕ)) (granted : List Grant) : Type 0 where
  pub count : new_ones granted ≡ length (drop (length before - 1) after) - length (drop (length before - 1) before)
  pub bytes : bytes_granted granted ≡ sum (sizes (drop (length before - 1) after)) - sum (sizes (drop (length before - 1) before))

sizes-cons : (s : ℕ × ℕ) (ss : List (ℕ × ℕ)) → sum (sizes (s ∷ ss)) ≡ s.1 + sum (sizes ss)
sizes-cons s ss = sum-map (λ t. t.1) (s ∷ ss) ∙ (sum_by-cons (λ t. t.1) s ss ∙ ap (λ n. s.1 + n) (sym (sum-map (λ t. t.1) ss)))

bytes-cons : (g : Grant) (gs : List Grant) → bytes_granted (g ∷ gs) ≡ g.bytes + bytes_granted gs
bytes-cons g gs = sum-map (λ h. h.bytes) (g ∷ gs) ∙ (sum_by-cons (λ h. h.bytes) g gs ∙ ap (λ n. g.bytes + n) (sym (sum-map (λ h. h.bytes) gs)))

new-cons : (g : Grant) (gs : List Grant) → new_ones (g ∷ gs) ≡ cond g.fresh 1 0 + new_ones gs
new-cons g gs = sum_by-cons (λ (h : Grant). cond h.fresh 1 0) g gs

-- nothing is granted where the segments stay
pub none-behind : (before after : List (ℕ × ℕ)) → after ≡ before → StandBehind before after []
none-behind before after e = record {
  many = omega (arith, ap length e);
  bytes = omega (arith, ap (λ ss. sum (sizes ss)) e);
  kept = λ i within. ap (λ ss. get_or (sizes ss) i 0) e;
}

-- one and then others
new-append : (first next : List Grant) → new_ones (first ++ next) ≡ new_ones first + new_ones next
new-append [] next = omega arith
new-append (g ∷ gs) next = omega (arith, new-cons g (gs ++ next), new-cons g gs, new-append gs next)

bytes-append : (first next : List Grant) → bytes_granted (first ++ next) ≡ bytes_granted first + bytes_granted next
bytes-append [] next = omega arith
bytes-append (g ∷ gs) next = omega (arith, bytes-cons g (gs ++ next), bytes-cons g gs, bytes-append gs next)

pub behind-more : (a b c : List (ℕ × ℕ)) (first next : List Grant) → StandBehind a b first → StandBehind b c next → StandBehind a c (first ++ next)
behind-more a b c first next p q = record {
  many = omega (arith, p.many, q.many, new-append first next);
  bytes = omega (arith, p.bytes, q.bytes, bytes-append first next);
  kept = λ i within. q.kept i (omega (arith, within, p.many)) ∙ p.kept i within;
}

-- the segments may be read of another list that is the same
pub behind-left : (before after left : List (ℕ × ℕ)) (granted : List Grant) → left ≡ after → StandBehind before after granted → StandBehind before left granted
behind-left before after left granted e p = subst (λ ss. StandBehind before ss granted) (sym e) p

-- a new segment
pushed-bytes : (ss : List (ℕ × ℕ)) (n b : ℕ) → sum (sizes (ss ++ (n, b) ∷ [])) ≡ sum (sizes ss) + b
pushed-bytes [] n b = omega arith
pushed-bytes (s ∷ ss) n b = omega (arith, sizes-cons s (ss ++ (n, b) ∷ []), sizes-cons s ss, pushed-bytes ss n b)

pushed-many : (ss : List (ℕ × ℕ)) (n b : ℕ) → length (ss ++ (n, b) ∷ []) ≡ length ss + 1
pushed-many [] n b = refl
pushed-many (s ∷ ss) n b = let rest = pushed-many ss n b in omega (arith, rest)

pushed-kept : (ss : List (ℕ × ℕ)) (n b i : ℕ) → suc i < length ss → get_or (sizes (ss ++ (n, b) ∷ [])) i 0 ≡ get_or (sizes ss) i 0
pushed-kept [] n b i within = absurd (omega (arith, within))
pushed-kept (s ∷ ss) n b zero within = refl
pushed-kept (s ∷ ss) n b (suc i) within = pushed-kept ss n b i (omega (arith, within))

-- more in the last one
more-bytes : (ss : List (ℕ × ℕ)) (more : ℕ) → 1 ≤ length ss → sum (sizes (with_more more ss)) ≡ sum (sizes ss) + more
more-bytes [] more some = absurd (omega (arith, some))
more-bytes (s ∷ []) more some = omega (arith, sizes-cons s [], sizes-cons (s.0, s.1 + more) [])
more-bytes (s ∷ t ∷ ss) more some = omega (arith, sizes-cons s (with_more more (t ∷ ss)), sizes-cons s (t ∷ ss), more-bytes (t ∷ ss) more (omega arith))

pub more-many : (ss : List (ℕ × ℕ)) (more : ℕ) → length (with_more more ss) ≡ length ss
more-many [] more = refl
more-many (s ∷ []) more = refl
more-many (s ∷ t ∷ ss) more = ap suc (more-many (t ∷ ss) more)

more-kept : (ss : List (ℕ × ℕ)) (more i : ℕ) → suc i < length ss → get_or (sizes (with_more more ss)) i 0 ≡ get_or (sizes ss) i 0
more-kept [] more i within = absurd (omega (arith, within))
more-kept (s ∷ []) more i within = absurd (omega (arith, within))
more-kept (s ∷ t ∷ ss) more zero within = refl
more-kept (s ∷ t ∷ ss) more (suc i) within = more-kept (t ∷ ss) more i (omega (arith, within))

pub behind-one : (segments : List (ℕ × ℕ)) (g : Grant) → IsFor segments g → StandBehind segments (segments_with g segments) (g ∷ [])
behind-one segments g for =
    let one = new-cons g [] in
    let bytes = bytes-cons g [] in
    ⊎_elim
    (λ (t : g.fresh ≡ true).
    subst (λ ss. StandBehind segments ss (g ∷ [])) (sym (ap (λ b. cond b (segments ++ (g.number, g.bytes) ∷ []) (with_more g.bytes segments)) t))
    (record {
      many = omega (arith, pushed-many segments g.number g.bytes, one, ap {B = ℕ} (λ b. cond b 1 0) t);
      bytes = omega (arith, pushed-bytes segments g.number g.bytes, bytes);
      kept = pushed-kept segments g.number g.bytes;
    }))
    (λ (f : g.fresh ≡ false).
    let some : 1 ≤ length segments = ⊎_elim (λ (t : g.fresh ≡ true). absurd (cc)) (λ (s : 1 ≤ length segments). s) for in
    subst (λ ss. StandBehind segments ss (g ∷ [])) (sym (ap (λ b. cond b (segments ++ (g.number, g.bytes) ∷ []) (with_more g.bytes segments)) f))
    (record {
      many = omega (arith, more-many segments g.bytes, one, ap {B = ℕ} (λ b. cond b 1 0) f);
      bytes = omega (arith, more-bytes segments g.bytes some, bytes);
      kept = more-kept segments g.bytes;
    }))
    (cases_Bool g.fresh)

-- the place of the last one
abbrev last_from : List (ℕ × ℕ) → ℕ
last_from [] = 0
last_from (s ∷ []) = 0
last_from (s ∷ t ∷ ss) = suc (last_from (t ∷ ss))

last-from : (ss : List (ℕ × ℕ)) → last_from ss ≡ length ss - 1
last-from [] = omega arith
last-from (s ∷ []) = omega arith
last-from (s ∷ t ∷ ss) = let rest = last-from (t ∷ ss) in omega (arith, rest)

-- from the last one on stand as many more as in all
tail-count : (before after : List (ℕ × ℕ)) (more : ℕ) → length after ≡ length before + more → more ≡ length (drop (last_from before) after) - length (drop (last_from before) before)
tail-count [] after more many = omega (arith, many)
tail-count (s ∷ []) after more many = omega (arith, many)
tail-count (s ∷ t ∷ ss) [] more many = absurd (omega (arith, many))
tail-count (s ∷ t ∷ ss) (a ∷ rest) more many = tail-count (t ∷ ss) rest more (omega (arith, many))

tail-bytes : (before after : List (ℕ × ℕ)) (more : ℕ) → length before ≤ length after → sum (sizes after) ≡ sum (sizes before) + more → ((i : ℕ) → suc i < length before → get_or (sizes after) i 0 ≡ get_or (sizes before) i 0) →
    more ≡ sum (sizes (drop (last_from before) after)) - sum (sizes (drop (last_from before) before))
tail-bytes [] after more many bytes kept = omega (arith, bytes)
tail-bytes (s ∷ []) after more many bytes kept = omega (arith, bytes)
tail-bytes (s ∷ t ∷ ss) [] more many bytes kept = absurd (omega (arith, many))
tail-bytes (s ∷ t ∷ ss) (a ∷ rest) more many bytes kept =
    let first : a.1 ≡ s.1 = kept 0 (omega arith) in
    tail-bytes (t ∷ ss) rest more (omega (arith, many)) (omega (arith, bytes, first, sizes-cons s (t ∷ ss), sizes-cons a rest)) (λ i within. kept (suc i) (omega (arith, within)))

pub lends-more : (before after : List (ℕ × ℕ)) (granted : List Grant) → StandBehind before after granted → Lends before after granted
lends-more before after granted e =
    record {
      count = subst (λ n. new_ones granted ≡ length (drop n after) - length (drop n before)) (last-from before) (tail-count before after (new_ones granted) e.many);
      bytes = subst (λ n. bytes_granted granted ≡ sum (sizes (drop n after)) - sum (sizes (drop n before))) (last-from before) (tail-bytes before after (bytes_granted granted) (omega (arith, e.many)) e.bytes e.kept);
    }

-- segments of which none comes: from the last one on no more stand, and no more bytes
record Loses (before after : List (ℕ × ℕ)) : Type 0 where
  count : length (drop (last_from before) after) ≤ length (drop (last_from before) before)
  bytes : sum (sizes (drop (last_from before) after)) ≤ sum (sizes (drop (last_from before) before))

lends-losing : (before after : List (ℕ × ℕ)) → Loses before after → Lends before after []
lends-losing before after l =
    let at = last-from before in
    record {
      count = subst (λ n. 0 ≡ length (drop n after) - length (drop n before)) at (omega (arith, l.count));
      bytes = subst (λ n. 0 ≡ sum (sizes (drop n after)) - sum (sizes (drop n before))) at (omega (arith, l.bytes));
    }

drop-none : (n : ℕ) → drop {A = ℕ × ℕ} n [] ≡ []
drop-none zero = refl
drop-none (suc n) = refl

drop-all : (n : ℕ) (ss : List (ℕ × ℕ)) → length ss ≤ n → drop n ss ≡ []
drop-all zero [] fewer = refl
drop-all zero (s ∷ ss) fewer = absurd (omega (arith, fewer))
drop-all (suc n) [] fewer = refl
drop-all (suc n) (s ∷ ss) fewer = drop-all n ss (omega (arith, fewer))

-- none is left
pub lends-none : (before : List (ℕ × ℕ)) → Lends before [] []
lends-none before =
    let none = drop-none (last_from before) in
    lends-losing before [] (record { count = omega (arith, ap length none); bytes = omega (arith, ap (λ ss. sum (sizes ss)) none) })

pub lends-same : (before after : List (ℕ × ℕ)) → after ≡ before → Lends before after []
lends-same before after e = lends-more before after [] (none-behind before after e)

fewer-if : (b : Bool) (x : ℕ × ℕ) (xs ys : List (ℕ × ℕ)) → length ys ≤ length xs → length (cond b (x ∷ ys) ys) ≤ length (x ∷ xs)
fewer-if true x xs ys le = omega (arith, le)
fewer-if false x xs ys le = omega (arith, le)

fewer : (test : ℕ × ℕ → Bool) (xs : List (ℕ × ℕ)) → length (filter test xs) ≤ length xs
fewer test [] = omega arith
fewer test (x ∷ xs) = fewer-if (test x) x xs (filter test xs) (fewer test xs)

last-within : (s : ℕ × ℕ) (ss : List (ℕ × ℕ)) → suc (last_from (s ∷ ss)) ≡ length (s ∷ ss)
last-within s [] = refl
last-within s (t ∷ ss) = ap suc (last-within t ss)

loses-if : (b : Bool) (s t : ℕ × ℕ) (ss ys : List (ℕ × ℕ)) → length ys ≤ length (t ∷ ss) → Loses (t ∷ ss) ys → Loses (s ∷ t ∷ ss) (cond b (s ∷ ys) ys)
loses-if true s t ss ys few l = record { count = l.count; bytes = l.bytes }
loses-if false s t ss ys few l =
    let none = drop-all (suc (last_from (t ∷ ss))) ys (omega (arith, few, last-within t ss)) in
    record { count = omega (arith, ap length none); bytes = omega (arith, ap (λ xs. sum (sizes xs)) none) }

loses-one : (b : Bool) (s : ℕ × ℕ) → Loses (s ∷ []) (cond b (s ∷ []) [])
loses-one true s = record { count = omega arith; bytes = omega arith }
loses-one false s = record { count = omega arith; bytes = omega arith }

loses-kept : (test : ℕ × ℕ → Bool) (xs : List (ℕ × ℕ)) → Loses xs (filter test xs)
loses-kept test [] = record { count = omega arith; bytes = omega arith }
loses-kept test (x ∷ []) = loses-one (test x) x
loses-kept test (x ∷ y ∷ ys) = loses-if (test x) x y ys (filter test (y ∷ ys)) (fewer test (y ∷ ys)) (loses-kept test (y ∷ ys))

-- some of them stay
pub lends-kept : (test : ℕ × ℕ → Bool) (xs : List (ℕ × ℕ)) → Lends xs (filter test xs) []
lends-kept test xs = lends-losing xs (filter test xs) (loses-kept test xs)
