-- The segment lent latest, where it may be made longer.
use Rattle.vc_base.proofs.Common.{◌≡◌, ℕ, ◌+◌, ◌%◌, ◌≤◌, true, false, eqb, ◌≢◌, List, [], ◌∷◌, ◌++◌, map, Some, None, IsSome, Option, unwrap_or, All, AllPairs, Contains, sym, refl, ap, ◌∙◌, subst, ⊎_elim, arith, eq-eqb, ne_eqb, le_prop, ∥∥₁_elim, ℕ_set, cases_Bool, All-cons, All-head, All-map, All-nil, All-tail, Discipline, HasOut, IsSegmentSize, Served, Terms}
use Rattle.std.specs.List.{last_or}
use Rattle.std.proofs.lemmas.List.Elements.{Contains-append_right}
use Rattle.vc_model.specs.Discipline.{CanExtend, Extended}
use Rattle.vc_model.specs.Segments.{growing, with_more}
use Rattle.vc_model.proofs.Pairs.{AllPairs-head, AllPairs-tail}
use Rattle.vc_extent.specs.Tiling.{longer, size_in, size_of}
use Rattle.vc_seg.proofs.Segments.{HaveOwnNumbers-segments, Served-extended, with_more-push}
use Rattle.vc_seg.proofs.Backs.{Contains-ends}
use Rattle.vc_seg.specs.Numbered.{IsRegionPair}
use Rattle.vc_best.proofs.Common.{AreExtents, Bytes, IsThere, pair_of}
use Rattle.vc_best.proofs.Sets.{pairs-set}

last-front : (ss : List (ℕ × ℕ)) (s : ℕ × ℕ) → last_or None ss ≡ Some s → (front : List (ℕ × ℕ)) × (ss ≡ front ++ s ∷ [])
last-front [] s e = absurd (cc)
last-front (x ∷ []) s e = let same : x ≡ s = cc in ([], ap (λ z. z ∷ []) same)
last-front (x ∷ y ∷ ys) s e = let r = last-front (y ∷ ys) s e in (x ∷ r.0, ap (λ zs. x ∷ zs) r.1)

-- one of that number and size stands behind all others, and the discipline grows
pub record IsLast (terms : Terms) (ss : List (ℕ × ℕ)) (n had : ℕ) : Type 0 where
  pub grows : terms.grows ≡ true
  pub front : List (ℕ × ℕ)
  pub is : ss ≡ front ++ (n, had) ∷ []

pub last-is : (terms : Terms) (ss : List (ℕ × ℕ)) (n had : ℕ) → growing terms ss ≡ Some (n, had) → IsLast terms ss n had
last-is terms ss n had e =
    ⊎_elim
    (λ (t : terms.grows ≡ true). let last : last_or None ss ≡ Some (n, had) = rw t at e in let f = last-front ss (n, had) last in record { grows = t; front = f.0; is = f.1 })
    (λ (t : terms.grows ≡ false). let none : None ≡ Some (n, had) = rw t at e in absurd (cc))
    (cases_Bool terms.grows)

-- the last of some holds what all hold
all-last : {A : Type 0} (P : A → Type 0) (xs : List A) (p : A) → All P (xs ++ p ∷ []) → P p
all-last P [] p h = All-head P p [] h
all-last P (x ∷ xs) p h = all-last P xs p (All-tail P x (xs ++ p ∷ []) h)

abbrev Other : ℕ → ℕ × ℕ → Type 0
Other n t = t.0 ≢ n

others-front : (front : List (ℕ × ℕ)) (p : ℕ × ℕ) → AllPairs (λ s t. s.0 ≢ t.0) (front ++ p ∷ []) → All (Other p.0) front
others-front [] p h = All-nil (Other p.0)
others-front (x ∷ xs) p h =
    let D : ℕ × ℕ → ℕ × ℕ → Type 0 = λ s t. s.0 ≢ t.0 in
    All-cons (Other p.0) x xs (all-last (D x) xs p (AllPairs-head D x (xs ++ p ∷ []) h)) (others-front xs p (AllPairs-tail D x (xs ++ p ∷ []) h))

module _ (n had : ℕ) where
  size-last : (front : List (ℕ × ℕ)) → All (Other n) front → size_of n (front ++ (n, had) ∷ []) ≡ Some had
  size-last [] h = rw (eq-eqb n n refl) refl
  size-last (x ∷ xs) h = rw (ne_eqb x.0 n (All-head (Other n) x xs h)) (size-last xs (All-tail (Other n) x xs h))

  longer-last : (more : ℕ) (front : List (ℕ × ℕ)) → All (Other n) front → longer n more (front ++ (n, had) ∷ []) ≡ front ++ (n, had + more) ∷ []
  longer-last more [] h = rw (eq-eqb n n refl) refl
  longer-last more (x ∷ xs) h = rw (ne_eqb x.0 n (All-head (Other n) x xs h)) (ap (λ zs. x ∷ zs) (longer-last more xs (All-tail (Other n) x xs h)))

-- it is there
there-last : (n had : ℕ) (front : List (ℕ × ℕ)) → IsSome (size_of n (front ++ (n, had) ∷ []))
there-last n had [] = rw (eq-eqb n n refl) refl
there-last n had (x ∷ xs) =
    ⊎_elim
    (λ (t : eqb x.0 n ≡ true). rw t refl)
    (λ (t : eqb x.0 n ≡ false). rw t (there-last n had xs))
    (cases_Bool (eqb x.0 n))

module _ (segs : List Bytes) (index : List ℕ) (k : ∥ AreExtents segs index ∥₁) (terms : Terms) (n had : ℕ) (l : IsLast terms (map pair_of segs) n had) where
  others : AreExtents segs index → All (Other n) l.front
  others h = others-front l.front (n, had) (subst (λ (ss : List (ℕ × ℕ)). AllPairs (λ s t. s.0 ≢ t.0) ss) l.is (HaveOwnNumbers-segments segs h.segments).distinct)

  pub last-there : IsThere n segs
  last-there = subst (λ (ss : List (ℕ × ℕ)). IsSome (size_of n ss)) (sym l.is) (there-last n had l.front)

  pub last-size : size_in n (map pair_of segs) ≡ had
  last-size =
      ∥∥₁_elim k (hlevel (ℕ_set))
      (λ h. ap (λ (ss : List (ℕ × ℕ)). size_in n ss) l.is ∙ ap (λ (o : Option ℕ). unwrap_or o 0) (size-last n had l.front (others h)))

  pub last-longer : (more : ℕ) → longer n more (map pair_of segs) ≡ with_more more (map pair_of segs)
  last-longer more =
      ∥∥₁_elim k (hlevel (pairs-set))
      (λ h. ap (longer n more) l.is ∙ longer-last n had more l.front (others h) ∙ sym (ap (with_more more) l.is ∙ with_more-push more l.front (n, had)))

  -- its size is legal
  pub last-legal : IsSegmentSize had
  last-legal =
      let own : AreExtents segs index → IsSegmentSize had =
      λ h. (all-last IsRegionPair l.front (n, had) (subst (λ (ss : List (ℕ × ℕ)). All IsRegionPair ss) l.is (All-map IsRegionPair pair_of segs h.segments.legal))).size in
      record {
        least = ∥∥₁_elim k (hlevel (le_prop)) (λ h. (own h).least);
        most = ∥∥₁_elim k (hlevel (le_prop)) (λ h. (own h).most);
        multiple = ∥∥₁_elim k (hlevel (ℕ_set)) (λ h. (own h).multiple);
      }

  pub last-can : (d : Discipline) (more : ℕ) → d.terms ≡ terms → HasOut d (map pair_of segs) → IsSegmentSize more → more % terms.round ≡ 0 → had + more ≤ 33554432 → CanExtend d (n, size_in n (map pair_of segs)) more
  last-can d more same out legal multiple most =
      let own = last-legal in
      let few = own.multiple in
      let rest = legal.multiple in
      record {
        grows = ap (λ (t : Terms). t.grows) same ∙ l.grows;
        out = subst (λ (m : ℕ). Contains d.out (n, m)) (sym last-size) (Contains-ends d.out (map pair_of segs) (n, had) out (subst (λ (ss : List (ℕ × ℕ)). Contains ss (n, had)) (sym l.is) (Contains-append_right l.front ((n, had) ∷ []) (n, had) (0, omega arith, refl))));
        some = let least = legal.least in omega (arith, least);
        multiple = subst (λ (t : Terms). more % t.round ≡ 0) (sym same) multiple;
        size = subst (λ (m : ℕ). IsSegmentSize (m + more)) (sym last-size) (record { least = let least = own.least in omega (arith, least); most = most; multiple = omega (arith, few, rest) });
      }

  -- the discipline made it longer
  pub last-served : (old new : Discipline) (pairs : List (ℕ × ℕ)) (more : ℕ) → pairs ≡ longer n more (map pair_of segs) → 64 ≤ more → Extended old new (n, size_in n (map pair_of segs)) more → Served old new (map pair_of segs) pairs more
  last-served old new pairs more e some extended =
      Served-extended old new l.front (map pair_of segs) pairs n had more l.is
      (e ∙ last-longer more ∙ ap (with_more more) l.is ∙ with_more-push more l.front (n, had))
      (omega arith)
      (subst (λ (m : ℕ). Extended old new (n, m) more) last-size extended)
