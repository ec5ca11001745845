-- Tallies of the blocks and segments of a layout.
use Rattle.vc_base.proofs.Common.{◌≡◌, ℕ, ◌+◌, ◌*◌, ◌≤◌, max, true, false, List, [], ◌∷◌, ◌++◌, map, length, fold, All, sum, refl, ap, ◌∙◌, ⊎_elim, arith, length-append, cases_Bool, All-head, All-map, All-tail, sum_by-append, sum_by-cons, length-map, Block, lies_before, with_block, greatest}
use Rattle.std.proofs.lemmas.List.Sums.{fold-append}
use Rattle.vc_seg.specs.InOrder.{in_order}
use Rattle.vc_seg.specs.Tally.{HasRoom, tally_with, tallied_all, tally_of}
use Rattle.vc_seg.specs.declared.tally.Tally.{Tally}
use Rattle.vc_seg.specs.Numbered.{AreNumbered}

pub tallied_all-append : (t : Tally) (xs ys : List ℕ) → tallied_all t (xs ++ ys) ≡ tallied_all (tallied_all t xs) ys
tallied_all-append t xs ys = fold-append tally_with t xs ys

-- what sizes add
pub tallied_all-count : (t : Tally) (ns : List ℕ) → (tallied_all t ns).count ≡ t.count + length ns
tallied_all-count t [] = omega arith
tallied_all-count t (n ∷ ns) = let rest = tallied_all-count (tally_with t n) ns in omega (arith, rest)

pub tallied_all-bytes : (t : Tally) (ns : List ℕ) → (tallied_all t ns).bytes ≡ t.bytes + sum ns
tallied_all-bytes t [] = omega arith
tallied_all-bytes t (n ∷ ns) = let rest = tallied_all-bytes (tally_with t n) ns in let more = sum_by-cons (λ (m : ℕ). m) n ns in omega (arith, rest, more)

pub HasRoom-rest : (t : Tally) (xs ys : List ℕ) → HasRoom t (xs ++ ys) → HasRoom (tallied_all t xs) ys
HasRoom-rest t xs ys h =
    let count = h.count in
    let bytes = h.bytes in
    record {
      count = omega (arith, length-append xs ys, count, tallied_all-count t xs);
      bytes = omega (arith, sum_by-append (λ (m : ℕ). m) xs ys, bytes, tallied_all-bytes t xs);
    }

tallied_all-most : (t : Tally) (ns : List ℕ) → (tallied_all t ns).most ≡ fold max t.most ns
tallied_all-most t [] = refl
tallied_all-most t (n ∷ ns) = tallied_all-most (tally_with t n) ns

pub tally_of-count : (ns : List ℕ) → (tally_of ns).count ≡ length ns
tally_of-count ns = let all = tallied_all-count (tally_of []) ns in omega (arith, all)

pub tally_of-bytes : (ns : List ℕ) → (tally_of ns).bytes ≡ sum ns
tally_of-bytes ns = let all = tallied_all-bytes (tally_of []) ns in omega (arith, all)

pub tally_of-most : (ns : List ℕ) → (tally_of ns).most ≡ greatest ns
tally_of-most ns = tallied_all-most (tally_of []) ns

pub sizes-most : (most : ℕ) (ns : List ℕ) → All (λ n. n ≤ most) ns → sum ns ≤ length ns * most
sizes-most most [] h = omega arith
sizes-most most (n ∷ ns) h =
    let here : n ≤ most = All-head (λ (m : ℕ). m ≤ most) n ns h in
    let rest = sizes-most most ns (All-tail (λ (m : ℕ). m ≤ most) n ns h) in
    let more = sum_by-cons (λ (m : ℕ). m) n ns in
    omega (arith, here, rest, more)

-- a tally has room for the segments of a region
pub HasRoom-segments : (pairs : List (ℕ × ℕ)) → AreNumbered pairs → HasRoom (tally_of []) (map (λ s. s.1) pairs)
HasRoom-segments pairs h =
    let few = h.few in
    let most = sizes-most 33554432 (map (λ (s : ℕ × ℕ). s.1) pairs) (All-map (λ n. n ≤ 33554432) (λ (s : ℕ × ℕ). s.1) pairs (λ k d lt. (h.legal k d lt).size.most)) in
    let len = length-map pairs (λ (s : ℕ × ℕ). s.1) in
    record { count = omega (arith, few, len); bytes = omega (arith, few, len, most) }

-- sizes make one tally in whichever order they come
tallied-twice : (t : Tally) (m n : ℕ) → tally_with (tally_with t m) n ≡ tally_with (tally_with t n) m
tallied-twice t m n =
    let bytes : t.bytes + m + n ≡ t.bytes + n + m = omega arith in
    let most : max (max t.most m) n ≡ max (max t.most n) m = omega arith in
    λ j. record { count = t.count + 1 + 1; bytes = bytes j; most = most j }

tallied-with : (t : Tally) (b : Block ℕ) (bs : List (Block ℕ)) → tallied_all t (map (λ c. c.size) (with_block b bs)) ≡ tallied_all (tally_with t b.size) (map (λ c. c.size) bs)
tallied-with t b [] = refl
tallied-with t b (c ∷ cs) =
    ⊎_elim
    (λ (e : lies_before b c ≡ true). rw e refl)
    (λ (e : lies_before b c ≡ false).
    rw e (tallied-with (tally_with t c.size) b cs ∙ ap (λ u. tallied_all u (map (λ (d : Block ℕ). d.size) cs)) (tallied-twice t c.size b.size)))
    (cases_Bool (lies_before b c))

pub tallied-order : (t : Tally) (bs : List (Block ℕ)) → tallied_all t (map (λ c. c.size) (in_order bs)) ≡ tallied_all t (map (λ c. c.size) bs)
tallied-order t [] = refl
tallied-order t (b ∷ bs) = tallied-with t b (in_order bs) ∙ tallied-order (tally_with t b.size) bs
