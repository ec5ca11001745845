-- The least of the runs that hold a block is that of the free extent with the least key.
use Rattle.vc_base.proofs.Common.{◌≡◌, ℕ, ◌+◌, ◌-◌, ◌*◌, ◌/◌, ◌%◌, ◌^◌, ◌<◌, ◌≤◌, Bool, true, false, cond, ◌&&◌, ◌||◌, eqb, ltb, List, [], ◌∷◌, Some, None, fold, filter, Option, sym, refl, ap, ◌∙◌, subst, ⊎_elim, arith, ltb-false, ltb-true, le-ltb, lt-ltb, eqb-true, cases_Bool, eqb-false, place_of, Run, bytes_of, least}
use Rattle.vc_gaps.proofs.Common.{Tiling, extent_of, extents_of, is_free, key_of, run_at}
use Rattle.vc_model.specs.Gap.{comes_before}
use Rattle.vc_model.specs.Place.{lesser}
use Rattle.vc_gaps.proofs.Named.{extent_in-off}
use Rattle.vc_gaps.proofs.Runs.{AreGaps, HasRun, IsGap}

-- two orders, by numbers: first by spans, then by segments, then by offsets
order-same : (s a u b f g : ℕ) → a < 2 ^ 32 → b < 2 ^ 32 → f + 16 ≡ a % 1048576 * 32 → g + 16 ≡ b % 1048576 * 32 →
    (ltb s u || (eqb s u && (ltb (a / 1048576) (b / 1048576) || (eqb (a / 1048576) (b / 1048576) && ltb f g)))) ≡ ltb (s * 4294967296 + a) (u * 4294967296 + b)
order-same s a u b f g fa fb of og =
    ⊎_elim
    (λ (t : ltb s u ≡ true). let lt = ltb-true s u t in rw (t, lt-ltb (s * 4294967296 + a) (u * 4294967296 + b) (omega arith)) refl)
    (λ (t : ltb s u ≡ false).
    let ge = ltb-false s u t in
    ⊎_elim
    (λ (v : eqb s u ≡ true).
    let same = eqb-true s u v in
    ⊎_elim
    (λ (w : ltb (a / 1048576) (b / 1048576) ≡ true).
    let lt = ltb-true (a / 1048576) (b / 1048576) w in rw (t, v, w, lt-ltb (s * 4294967296 + a) (u * 4294967296 + b) (omega arith)) refl)
    (λ (w : ltb (a / 1048576) (b / 1048576) ≡ false).
    let ge' = ltb-false (a / 1048576) (b / 1048576) w in
    ⊎_elim
    (λ (x : eqb (a / 1048576) (b / 1048576) ≡ true).
    let seg = eqb-true (a / 1048576) (b / 1048576) x in
    ⊎_elim
    (λ (y : ltb f g ≡ true). let lt = ltb-true f g y in rw (t, v, w, x, y, lt-ltb (s * 4294967296 + a) (u * 4294967296 + b) (omega arith)) refl)
    (λ (y : ltb f g ≡ false). let le = ltb-false f g y in rw (t, v, w, x, y, le-ltb (s * 4294967296 + a) (u * 4294967296 + b) (omega arith)) refl)
    (cases_Bool (ltb f g)))
    (λ (x : eqb (a / 1048576) (b / 1048576) ≡ false).
    let other = eqb-false (a / 1048576) (b / 1048576) x in rw (t, v, w, x, le-ltb (s * 4294967296 + a) (u * 4294967296 + b) (omega arith)) refl)
    (cases_Bool (eqb (a / 1048576) (b / 1048576))))
    (cases_Bool (ltb (a / 1048576) (b / 1048576))))
    (λ (v : eqb s u ≡ false). let other = eqb-false s u v in rw (t, v, le-ltb (s * 4294967296 + a) (u * 4294967296 + b) (omega arith)) refl)
    (cases_Bool (eqb s u)))
    (cases_Bool (ltb s u))

passing : (p : Run → Bool) (r : Run) (rs : List Run) → p r ≡ true → filter p (r ∷ rs) ≡ r ∷ filter p rs
passing p r rs u = ap (λ z. cond z (r ∷ filter p rs) (filter p rs)) u

failing : (p : Run → Bool) (r : Run) (rs : List Run) → p r ≡ false → filter p (r ∷ rs) ≡ filter p rs
failing p r rs u = ap (λ z. cond z (r ∷ filter p rs) (filter p rs)) u

-- what is known of an address that names a free extent
pub record IsPlaced (a : ℕ) : Type 0 where
  pub small : a < 2 ^ 32
  pub off : 32 ≤ (place_of a).1

module _ (t : Tiling) (placed : (a : ℕ) → is_free t a ≡ true → IsPlaced a) where
  bytes-at : (a : ℕ) → bytes_of (run_at t a) ≡ (extent_of t a).span
  bytes-at a = omega arith

  before-key : (a b : ℕ) → is_free t a ≡ true → is_free t b ≡ true → comes_before (run_at t a) (run_at t b) ≡ ltb (key_of t a) (key_of t b)
  before-key a b ha hb =
      let pa = placed a ha in
      let pb = placed b hb in
      let oa : (extent_of t a).off ≡ (place_of a).1 = extent_in-off (place_of a).1 (extents_of (place_of a).0 t) in
      let ob : (extent_of t b).off ≡ (place_of b).1 = extent_in-off (place_of b).1 (extents_of (place_of b).0 t) in
      let la = pa.off in
      let lb = pb.off in
      rw (bytes-at a, bytes-at b)
      (order-same (extent_of t a).span a (extent_of t b).span b ((extent_of t a).off - 16) ((extent_of t b).off - 16) pa.small pb.small (omega arith) (omega arith))

  module _ (p : Run → Bool) (n : ℕ) (free : is_free t n ≡ true) (passes : p (run_at t n) ≡ true)
      (first : (m : ℕ) → is_free t m ≡ true → p (run_at t m) ≡ true → key_of t n ≤ key_of t m) where
    -- the least one stays the least
    stays : (rs : List Run) → AreGaps t rs → fold lesser (Some (run_at t n)) (filter p rs) ≡ Some (run_at t n)
    stays [] g = refl
    stays (r ∷ rs) g =
        ⊎_elim
        (λ (u : p r ≡ true).
        let m = g.0.at in
        let le = first m g.0.free (sym (ap p g.0.run) ∙ u) in
        let later : comes_before r (run_at t n) ≡ false = ap (λ z. comes_before z (run_at t n)) g.0.run ∙ before-key m n g.0.free free ∙ le-ltb (key_of t m) (key_of t n) le in
        ap (fold lesser (Some (run_at t n))) (passing p r rs u) ∙ ap (λ z. fold lesser (cond z (Some r) (Some (run_at t n))) (filter p rs)) later ∙ stays rs g.1)
        (λ (u : p r ≡ false). ap (fold lesser (Some (run_at t n))) (failing p r rs u) ∙ stays rs g.1)
        (cases_Bool (p r))

    taken : (so : Option Run) (r : Run) → ((x : Run) → so ≡ Some x → IsGap t x × (p x ≡ true)) → r ≡ run_at t n → lesser so r ≡ Some (run_at t n)
    taken None r h e = ap Some e
    taken (Some x) r h e =
        let k = h x refl in
        let m = k.0.at in
        let le : key_of t n ≤ key_of t m = first m k.0.free (sym (ap p k.0.run) ∙ k.1) in
        let test : comes_before r x ≡ ltb (key_of t n) (key_of t m) = ap (λ z. comes_before z x) e ∙ ap (comes_before (run_at t n)) k.0.run ∙ before-key n m free k.0.free in
        ⊎_elim
        (λ (u : ltb (key_of t n) (key_of t m) ≡ true). rw (test ∙ u) (ap Some e))
        (λ (u : ltb (key_of t n) (key_of t m) ≡ false).
        let ge = ltb-false (key_of t n) (key_of t m) u in
        let small = (placed n free).small in
        let small' = (placed m k.0.free).small in
        let same : n ≡ m = omega arith in
        ap (λ z. cond z (Some r) (Some x)) (test ∙ u) ∙ ap Some (k.0.run ∙ ap (run_at t) (sym same)))
        (cases_Bool (ltb (key_of t n) (key_of t m)))

    kept : (so : Option Run) (r : Run) → ((x : Run) → so ≡ Some x → IsGap t x × (p x ≡ true)) → IsGap t r → p r ≡ true → (x : Run) → lesser so r ≡ Some x → IsGap t x × (p x ≡ true)
    kept None r h g u x e = let same : r ≡ x = cc in (subst (IsGap t) same g, subst (λ z. p z ≡ true) same u)
    kept (Some y) r h g u x e =
        ⊎_elim
        (λ (v : comes_before r y ≡ true). let f : Some r ≡ Some x = rw v at e in let same : r ≡ x = cc in (subst (IsGap t) same g, subst (λ z. p z ≡ true) same u))
        (λ (v : comes_before r y ≡ false). let f : Some y ≡ Some x = rw v at e in h x f)
        (cases_Bool (comes_before r y))

    pub least-is : (so : Option Run) (rs : List Run) → AreGaps t rs → HasRun (run_at t n) rs → ((x : Run) → so ≡ Some x → IsGap t x × (p x ≡ true)) → fold lesser so (filter p rs) ≡ Some (run_at t n)
    least-is so [] g has h = absurd has
    least-is so (r ∷ rs) g has h =
        ⊎_elim
        (λ (e : r ≡ run_at t n).
        ap (fold lesser so) (passing p r rs (ap p e ∙ passes)) ∙ ap (λ z. fold lesser z (filter p rs)) (taken so r h e) ∙ stays rs g.1)
        (λ (k : HasRun (run_at t n) rs).
        ⊎_elim
        (λ (u : p r ≡ true). ap (fold lesser so) (passing p r rs u) ∙ least-is (lesser so r) rs g.1 k (kept so r h g.0 u))
        (λ (u : p r ≡ false). ap (fold lesser so) (failing p r rs u) ∙ least-is so rs g.1 k h)
        (cases_Bool (p r)))
        has

pub least-none : (t : Tiling) (p : Run → Bool) (rs : List Run) → AreGaps t rs → ((m : ℕ) → is_free t m ≡ true → p (run_at t m) ≡ false) → least (filter p rs) ≡ None
least-none t p [] g none = refl
least-none t p (r ∷ rs) g none = ap least (failing p r rs (ap p g.0.run ∙ none g.0.at g.0.free)) ∙ least-none t p rs g.1 none
