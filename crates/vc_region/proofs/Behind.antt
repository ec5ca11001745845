-- The segments behind the first ones are few enough to be counted.
use Rattle.vc_base.proofs.Common.{◌≡◌, ℕ, zero, suc, ◌-◌, ◌*◌, ◌≤◌, min, List, [], ◌∷◌, map, length, take, drop, sum, sym, ap, ◌∙◌, subst, arith, length-drop, All-map, sum_by-cons, drop-map, length-map, take_rest}
use Rattle.std.proofs.lemmas.List.{drop_min}
use Rattle.vc_seg.specs.Tally.{HasRoom, tally_of}
use Rattle.vc_seg.proofs.Tallies.{sizes-most, tally_of-count}
use Rattle.vc_seg.specs.Segment.{AreSegments, Bytes, pair_of}
use Rattle.vc_seg.specs.declared.tally.Tally.{Tally}

-- of segments those behind the first ones, counted and in bytes
abbrev tally_behind : ℕ → List (ℕ × ℕ) → Tally
tally_behind first segments = tally_of (map (λ s. s.1) (drop first segments))

sum-behind : (n : ℕ) (ns : List ℕ) → sum (drop n ns) ≤ sum ns
sum-behind zero ns = omega arith
sum-behind (suc n) [] = omega arith
sum-behind (suc n) (m ∷ ns) = omega (arith, sum_by-cons (λ (k : ℕ). k) m ns, sum-behind n ns)

module _ (segs : List Bytes) (legal : AreSegments segs) (first : ℕ) where
  abbrev sizes : List ℕ
  sizes = map (λ (s : ℕ × ℕ). s.1) (map pair_of segs)

  -- the sizes of those behind
  behind : map (λ (s : ℕ × ℕ). s.1) (map pair_of (drop first segs)) ≡ drop first sizes
  behind = ap (map (λ (s : ℕ × ℕ). s.1)) (sym (drop-map pair_of first segs)) ∙ sym (drop-map (λ (s : ℕ × ℕ). s.1) first (map pair_of segs))

  count : length (drop first sizes) ≤ 1023
  count = omega (arith, legal.few, length-drop first sizes, length-map (map pair_of segs) (λ (s : ℕ × ℕ). s.1), length-map segs pair_of)

  bytes : sum (drop first sizes) ≤ 1023 * 33554432
  bytes =
      let all = sizes-most 33554432 sizes (All-map (λ (n : ℕ). n ≤ 33554432) (λ (s : ℕ × ℕ). s.1) (map pair_of segs) (All-map (λ (s : ℕ × ℕ). s.1 ≤ 33554432) pair_of segs (λ k d lt. (legal.legal k d lt).size.most))) in
      omega (arith, all, legal.few, sum-behind first sizes, length-map (map pair_of segs) (λ (s : ℕ × ℕ). s.1), length-map segs pair_of)

  pub room-behind : HasRoom (tally_of []) (map (λ s. s.1) (map pair_of (drop first segs)))
  room-behind = subst (HasRoom (tally_of [])) (sym behind) (record { count = omega (arith, count); bytes = omega (arith, bytes) })

  pub few-behind : (tally_behind first (map pair_of segs)).count ≤ 1023
  few-behind =
      let is : (tally_behind first (map pair_of segs)).count ≡ length (map (λ (s : ℕ × ℕ). s.1) (drop first (map pair_of segs))) = tally_of-count (map (λ (s : ℕ × ℕ). s.1) (drop first (map pair_of segs))) in
      omega (arith, is, count, ap length (drop-map (λ (s : ℕ × ℕ). s.1) first (map pair_of segs)))

  -- the slice behind the lesser of a number and their length
  module _ (k : ℕ) (is : k ≡ min first (length segs)) where
    pub slice : take (length segs - k) (drop k segs) ≡ drop first segs
    slice = take_rest segs k ∙ (ap (λ n. drop n segs) is ∙ drop_min first segs)

    pub slice-room : HasRoom (tally_of []) (map (λ s. s.1) (map pair_of (take (length segs - k) (drop k segs))))
    slice-room = subst (λ (ss : List Bytes). HasRoom (tally_of []) (map (λ (s : ℕ × ℕ). s.1) (map pair_of ss))) (sym slice) room-behind

    pub slice-tally : tally_of (map (λ s. s.1) (map pair_of (take (length segs - k) (drop k segs)))) ≡ tally_behind first (map pair_of segs)
    slice-tally =
        ap (λ (ss : List Bytes). tally_of (map (λ (s : ℕ × ℕ). s.1) (map pair_of ss))) slice
        ∙ ap (λ (ss : List (ℕ × ℕ)). tally_of (map (λ (s : ℕ × ℕ). s.1) ss)) (sym (drop-map pair_of first segs))
