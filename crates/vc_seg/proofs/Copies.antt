-- A copy of a range of one segment in another.
use Rattle.vc_base.proofs.Common.{◌≡◌, ℕ, ◌-◌, ◌<◌, List, ◌++◌, length, get_or, take, drop, set, sym, ap, ◌∙◌, arith, get_or_append_left, get_or_default, with_bytes}
use Rattle.std.proofs.lemmas.List.{get_or-append_right, set-append_left, set-append_right}
use Rattle.vc_seg.specs.Segment.{Bytes}
use Rattle.vc_seg.specs.Memory.{with_copy_of}

-- what the copy leaves of the segment that it goes to
copied-is : (source s new : Bytes) (from len to : ℕ) → new.number ≡ s.number → new.bytes ≡ with_bytes to (take len (drop from source.bytes)) s.bytes → new ≡ with_copy_of source from len to s
copied-is source s new from len to number bytes =
    let segment : ℕ → List ℕ → Bytes = λ k bs. record { number = k; bytes = bs } in
    ap (λ k. segment k new.bytes) number ∙ ap (segment s.number) bytes

module _ (segs front back : List Bytes) (source from target to len : ℕ) (e f d new : Bytes) (whole : segs ≡ front ++ back) where
  pub copied-back : length front ≡ target → source < target → 0 < length back → new.number ≡ (get_or back 0 f).number → new.bytes ≡ with_bytes to (take len (drop from (get_or front source e).bytes)) (get_or back 0 f).bytes →
      front ++ set back 0 new ≡ set segs target (with_copy_of (get_or segs source d) from len to (get_or segs target d))
  copied-back long before some number bytes =
      let none : target - target ≡ 0 = omega arith in
      let s : get_or segs source d ≡ get_or front source e = ap (λ xs. get_or xs source d) whole ∙ (get_or_append_left front back d source (omega arith) ∙ get_or_default front source d e (omega arith)) in
      let t : get_or segs target d ≡ get_or back 0 f =
      ap (λ xs. get_or xs target d) whole ∙ (get_or-append_right front back target target d long (omega arith) ∙ (ap (λ k. get_or back k d) none ∙ get_or_default back 0 d f some)) in
      let it : new ≡ with_copy_of (get_or segs source d) from len to (get_or segs target d) =
      copied-is (get_or front source e) (get_or back 0 f) new from len to number bytes ∙ (ap (λ x. with_copy_of x from len to (get_or back 0 f)) (sym s) ∙ ap (with_copy_of (get_or segs source d) from len to) (sym t)) in
      ap (λ k. front ++ set back k new) (sym none)
      ∙ (sym (set-append_right front back target target new long (omega arith)) ∙ (ap (λ xs. set xs target new) (sym whole) ∙ ap (set segs target) it))

  pub copied-front : length front ≡ source → target < source → 0 < length back → new.number ≡ (get_or front target f).number → new.bytes ≡ with_bytes to (take len (drop from (get_or back 0 e).bytes)) (get_or front target f).bytes →
      set front target new ++ back ≡ set segs target (with_copy_of (get_or segs source d) from len to (get_or segs target d))
  copied-front long before some number bytes =
      let none : source - source ≡ 0 = omega arith in
      let s : get_or segs source d ≡ get_or back 0 e =
      ap (λ xs. get_or xs source d) whole ∙ (get_or-append_right front back source source d long (omega arith) ∙ (ap (λ k. get_or back k d) none ∙ get_or_default back 0 d e some)) in
      let t : get_or segs target d ≡ get_or front target f = ap (λ xs. get_or xs target d) whole ∙ (get_or_append_left front back d target (omega arith) ∙ get_or_default front target d f (omega arith)) in
      let it : new ≡ with_copy_of (get_or segs source d) from len to (get_or segs target d) =
      copied-is (get_or back 0 e) (get_or front target f) new from len to number bytes ∙ (ap (λ x. with_copy_of x from len to (get_or front target f)) (sym s) ∙ ap (with_copy_of (get_or segs source d) from len to) (sym t)) in
      sym (set-append_left front back target new (omega arith)) ∙ (ap (λ xs. set xs target new) (sym whole) ∙ ap (set segs target) it)
