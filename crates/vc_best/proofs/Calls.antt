-- What a call on a best region costs, by the number of its gaps.
use Rattle.vc_base.proofs.Common.{◌≡◌, ℕ, zero, suc, ◌+◌, ◌*◌, ◌≤◌, max, List, ap, arith}
use Rattle.std.proofs.lemmas.Nat.{mul-le}
use Rattle.vc_model.specs.Numbers.{gap_count}
use Rattle.vc_splay.proofs.DigitLemmas.{digits-next, digits-rise}
use Rattle.vc_splay.specs.Rank.{binary_digits, size}
use Rattle.vc_gaps.specs.Cost.{GapsCost}
use Rattle.vc_best.specs.Cost.{CallCosts}
use Rattle.vc_best.specs.Made.{MadeCost}
use Rattle.vc_best.specs.declared.best.Best.{Best}
use Rattle.vc_best.proofs.Common.{AreExtents, IsMerged, layout_of, tiling}
use Rattle.vc_best.proofs.Held.{merged-of}
use Rattle.vc_best.proofs.NodesFew.{nodes-few}

digits-more : (n m : ℕ) → binary_digits (n + m) ≤ binary_digits n + m
digits-more n zero = let same : n + 0 ≡ n = omega arith in let e = ap binary_digits same in omega arith
digits-more n (suc m) =
    let h = digits-more n m in
    let k = digits-next (n + m) in
    let same : n + suc m ≡ n + m + 1 = omega arith in
    let e = ap binary_digits same in
    omega arith

module _ {I : Type 0} {V : I → Type 0} (old new : Best I V) (calls start now : ℕ) where
  abbrev most : ℕ
  most = max (gap_count (layout_of old)) (gap_count (layout_of new))

  pub call_costs : (per plus more : ℕ) → per ≤ 240 * calls → per * more + plus ≤ 260 * calls → GapsCost (tiling old.extents.segs.items) (tiling new.extents.segs.items) old.root.0 new.root.0 start now per plus more
      → CallCosts old new calls start now
  call_costs per plus more p q g = record {
    law = λ t u h k. record {
      cost =
          let i = (g.law t u h k).cost in
          let few : size t ≤ gap_count (layout_of old) = nodes-few old.extents.segs.items old.extents.index.items old.extents.kept (merged-of (tiling old.extents.segs.items) old.merged) old.root.0 t h in
          let d = digits-rise (size t) most (omega arith) in
          let e = digits-more (size t) more in
          let x = mul-le per (binary_digits (size t + more)) per (binary_digits most + more) (omega arith) (omega arith) in
          let y = mul-le per (binary_digits most) (240 * calls) (binary_digits most) p (omega arith) in
          omega arith;
    };
  }

  -- where the tree is made anew
  pub made_costs : (index : List ℕ) → ∥ AreExtents new.extents.segs.items index ∥₁ → IsMerged (tiling new.extents.segs.items) → (n : ℕ) → n ≤ calls → MadeCost (tiling new.extents.segs.items) new.root.0 start now n → CallCosts old new calls start now
  made_costs index kept merged n less m = record {
    law = λ t u h k. record {
      cost =
          let i = (m.law u k).cost in
          let f = m.few u k in
          let few : size u ≤ gap_count (layout_of new) = nodes-few new.extents.segs.items index kept merged new.root.0 u k in
          let d = digits-rise (size u) most (omega arith) in
          let x = mul-le (size u) (8 * binary_digits (size u) + 1) calls (240 * binary_digits most + 260) (omega arith) (omega arith) in
          omega arith;
    };
  }
