-- The segments of a layout: numbers of their own, the one that a lend adds, bytes that are written into one.
use Rattle.vc_base.proofs.Common.{◌≡◌, ℕ, ◌+◌, ◌<◌, ◌≤◌, true, false, cond, eqb, ltb, ◌≢◌, List, [], ◌∷◌, ◌++◌, map, length, get_or, Err, All, Any, AllPairs, sym, refl, ap, ◌∙◌, subst, ⊎_elim, append_assoc, arith, ltb-false, ltb-true, ne_eqb, eqb-true, cases_Bool, eqb-false, All-map, get_or_default, length_push, with_bytes, Discipline, Lent, Served, TookBack, HaveOwnNumbers}
use Rattle.std.proofs.Common.{inl, inr}
use Rattle.std.proofs.lemmas.List.{append_cancel_left}
use Rattle.vc_model.specs.Discipline.{Excused, Extended, LentNothing, extend_last}
use Rattle.vc_model.specs.Segments.{with_more}
use Rattle.vc_seg.proofs.Lists.{AllPairs-map}
use Rattle.vc_model.proofs.Keeping.{Kept-same}
use Rattle.vc_base.proofs.Overwrites.{length-with_bytes}
use Rattle.vc_seg.proofs.Backs.{extend_last-push}
use Rattle.vc_seg.specs.Answer.{Asks}
use Rattle.vc_seg.specs.Segment.{AreSegments, Bytes, pair_of}
use Rattle.vc_seg.specs.declared.fault.RegionFault.{RegionFault}
use Rattle.vc_seg.specs.Lend.{IsAsked}
use Rattle.vc_seg.specs.Memory.{bytes_of_number, write_segment}
use Rattle.vc_seg.specs.declared.fault.RegionFault.TheVariants as code

pub TookBack-all : (a b : Discipline) (held : List (ℕ × ℕ)) (ss : List Bytes) → TookBack a b held (map pair_of ss) → ss ≡ [] → TookBack a b held []
TookBack-all a b held ss h none = subst (TookBack a b held) (ap (map pair_of) none) h

-- of segments with numbers of their own, one alone has a number
pub only-one : (ss : List (ℕ × ℕ)) (n : ℕ) (P : ℕ × ℕ → Type 0) → AllPairs (λ s t. s.0 ≢ t.0) ss → Any (λ s. (s.0 ≡ n) × P s) ss → All (λ s. s.0 ≡ n → P s) ss
only-one [] n P h any = absurd (omega (arith, any.2))
only-one (s ∷ ss) n P h any = λ k d lt own.
    let all = s ∷ ss in
    let q : ℕ × ℕ = get_or all k d in
    let i : ℕ = any.0 in
    let there : get_or all i any.1 ≡ any.1 = any.3 in
    ⊎_elim
    (λ (t : eqb i k ≡ true).
    let same : get_or all k any.1 ≡ any.1 = subst (λ (j : ℕ). get_or all j any.1 ≡ any.1) (eqb-true i k t) there in
    let at : q ≡ any.1 = get_or_default all k d any.1 lt ∙ same in
    subst P (sym at) any.4.1)
    (λ (t : eqb i k ≡ false).
    let other = eqb-false i k t in
    let mine : (get_or all i d).0 ≡ n = ap (λ (x : ℕ × ℕ). x.0) (get_or_default all i d any.1 any.2 ∙ there) ∙ any.4.0 in
    ⊎_elim
    (λ (u : ltb i k ≡ true). absurd (h i k d (ltb-true i k u) lt (mine ∙ sym own)))
    (λ (u : ltb i k ≡ false). let le = ltb-false i k u in absurd (h k i d (omega (arith, le, other)) any.2 (own ∙ sym mine)))
    (cases_Bool (ltb i k)))
    (cases_Bool (eqb i k))

-- a discipline that was asked for nothing
pub Served-same : (d : Discipline) (segments : List (ℕ × ℕ)) (bytes : ℕ) → Served d d segments segments bytes
Served-same d segments bytes = record { kept = Kept-same d; faults = inl refl; out = λ rest e. e; room = λ other. absurd (other refl); same = λ e. refl }

-- a discipline that lent a segment
pub Served-lent : (old new : Discipline) (segments segments' : List (ℕ × ℕ)) (n bytes : ℕ) → segments' ≡ segments ++ (n, bytes) ∷ [] → Lent old new n bytes → Served old new segments segments' bytes
Served-lent old new segments segments' n bytes e lent =
    record {
      kept = lent.kept;
      faults = lent.faults;
      out = λ rest o. lent.out ∙ (ap (λ (xs : List (ℕ × ℕ)). xs ++ (n, bytes) ∷ []) o ∙ (append_assoc rest segments ((n, bytes) ∷ []) ∙ ap (λ (xs : List (ℕ × ℕ)). rest ++ xs) (sym e)));
      room = λ other. lent.room;
      same = λ same. absurd (omega (arith, length_push segments (n, bytes), ap length (sym same ∙ e)));
    }

-- the segment lent latest has more bytes, whatever stands before it
pub with_more-push : (more : ℕ) (front : List (ℕ × ℕ)) (p : ℕ × ℕ) → with_more more (front ++ p ∷ []) ≡ front ++ (p.0, p.1 + more) ∷ []
with_more-push more [] p = refl
with_more-push more (x ∷ []) p = refl
with_more-push more (x ∷ y ∷ ys) p = ap (λ (zs : List (ℕ × ℕ)). x ∷ zs) (with_more-push more (y ∷ ys) p)

-- a discipline that made the segment lent latest longer
pub Served-extended : (old new : Discipline) (front segments segments' : List (ℕ × ℕ)) (n size more : ℕ) → segments ≡ front ++ (n, size) ∷ [] → segments' ≡ front ++ (n, size + more) ∷ [] → 1 ≤ more → Extended old new (n, size) more
    → Served old new segments segments' more
Served-extended old new front segments segments' n size more e e' some extended =
    record {
      kept = extended.kept;
      faults = extended.faults;
      out = λ rest o.
          let whole : old.out ≡ (rest ++ front) ++ (n, size) ∷ [] = o ∙ (ap (λ (xs : List (ℕ × ℕ)). rest ++ xs) e ∙ sym (append_assoc rest front ((n, size) ∷ []))) in
          extended.out
          ∙ (ap (extend_last (n, size) more) whole
          ∙ (extend_last-push (n, size) more (rest ++ front) ∙ (append_assoc rest front ((n, size + more) ∷ []) ∙ ap (λ (xs : List (ℕ × ℕ)). rest ++ xs) (sym e'))));
      room = λ other. extended.room;
      same = λ same.
          let last : (n, size + more) ∷ [] ≡ (n, size) ∷ [] = append_cancel_left front ((n, size + more) ∷ []) ((n, size) ∷ []) (sym e' ∙ (same ∙ e)) in
          let equal : size + more ≡ size = ap (λ (xs : List (ℕ × ℕ)). (get_or xs 0 (0, 0)).1) last in
          absurd (omega (arith, equal, some));
    }

-- the segments may be told by an equal list
pub Served-later : (old new : Discipline) (segments mid later : List (ℕ × ℕ)) (need : ℕ) → later ≡ mid → Served old new segments mid need → Served old new segments later need
Served-later old new segments mid later need same h = subst (λ (ss : List (ℕ × ℕ)). Served old new segments ss need) (sym same) h

-- nothing was asked for
pub Served-unasked : (d : Discipline) (segments segments' : List (ℕ × ℕ)) (size : ℕ) → segments' ≡ segments → Served d d segments segments' size
Served-unasked d segments segments' size same = Served-later d d segments segments segments' size same (Served-same d segments size)

-- a segment of the bytes that were needed was lent
pub Served-granted : (old new : Discipline) (segments segments' : List (ℕ × ℕ)) (n bytes need : ℕ) → bytes ≡ need → segments' ≡ segments ++ (n, bytes) ∷ [] → Lent old new n bytes → Served old new segments segments' need
Served-granted old new segments segments' n bytes need e added lent = subst (Served old new segments segments') e (Served-lent old new segments segments' n bytes added lent)

-- what a fault of asking leaves
pub Asks-fault : (e : RegionFault) (old new : Discipline) (segments segments' : List (ℕ × ℕ)) (bytes : ℕ) → segments' ≡ segments → IsAsked (Err e) old new bytes → Asks (Err e) old new segments segments' bytes
Asks-fault code.NoSegment old new segments segments' bytes same h = h
Asks-fault code.TooManySegments old new segments segments' bytes same h = subst (λ (d : Discipline). Served old d segments segments' bytes) (sym h) (Served-unasked old segments segments' bytes same)
Asks-fault code.OutOfMemory old new segments segments' bytes same h = h
Asks-fault code.Fixed old new segments segments' bytes same h = subst (λ (d : Discipline). Served old d segments segments' bytes) (sym h) (Served-unasked old segments segments' bytes same)
Asks-fault code.PoolSize old new segments segments' bytes same h = subst (λ (d : Discipline). Served old d segments segments' bytes) (sym h) (Served-unasked old segments segments' bytes same)
Asks-fault code.NotLast old new segments segments' bytes same h = subst (λ (d : Discipline). Served old d segments segments' bytes) (sym h) (Served-unasked old segments segments' bytes same)
Asks-fault code.WrongMethod old new segments segments' bytes same h = subst (λ (d : Discipline). Served old d segments segments' bytes) (sym h) (Served-unasked old segments segments' bytes same)

-- the segments of a layout have numbers of their own
pub HaveOwnNumbers-segments : (segs : List Bytes) → AreSegments segs → HaveOwnNumbers (map pair_of segs)
HaveOwnNumbers-segments segs l =
    record {
      first = All-map (λ (s : ℕ × ℕ). 1 ≤ s.0) pair_of segs (λ k d lt. (l.legal k d lt).first);
      distinct = AllPairs-map (λ (s t : ℕ × ℕ). s.0 ≢ t.0) pair_of segs l.distinct;
    }

module _ (n at : ℕ) (src : List ℕ) where
  pub pairs-write : (segs : List Bytes) → at + length src ≤ length (bytes_of_number n segs) → map pair_of (write_segment n at src segs) ≡ map pair_of segs
  pairs-write [] fits = refl
  pairs-write (s ∷ ss) fits =
      ⊎_elim
      (λ e.
      let own : at + length src ≤ length s.bytes = rw e at fits in
      rw e (ap (λ size. (s.number, size) ∷ map pair_of ss) (length-with_bytes at src s.bytes own)))
      (λ e. let rest : at + length src ≤ length (bytes_of_number n ss) = rw e at fits in rw e (ap (λ ps. pair_of s ∷ ps) (pairs-write ss rest)))
      (cases_Bool (eqb s.number n))

  pub bytes_of_number-write : (segs : List Bytes) → 0 < length (bytes_of_number n segs) → bytes_of_number n (write_segment n at src segs) ≡ with_bytes at src (bytes_of_number n segs)
  bytes_of_number-write [] some = absurd (omega (arith, some))
  bytes_of_number-write (s ∷ ss) some =
      ⊎_elim
      (λ e. rw e (rw e refl))
      (λ e. let rest : 0 < length (bytes_of_number n ss) = rw e at some in rw e (rw e (bytes_of_number-write ss rest)))
      (cases_Bool (eqb s.number n))

  pub bytes_of_number-other : (m : ℕ) (segs : List Bytes) → m ≢ n → bytes_of_number m (write_segment n at src segs) ≡ bytes_of_number m segs
  bytes_of_number-other m [] other = refl
  bytes_of_number-other m (s ∷ ss) other =
      ⊎_elim
      (λ e.
      let mine : eqb s.number m ≡ false = ne_eqb s.number m (λ q. other (sym q ∙ eqb-true s.number n e)) in
      rw e (rw mine refl))
      (λ e. rw e (ap (cond (eqb s.number m) s.bytes) (bytes_of_number-other m ss other)))
      (cases_Bool (eqb s.number n))
