-- No two free extents stand beside each other, before and after a change.
use Rattle.vc_base.proofs.Common.{◌≡◌, ℕ, ◌-◌, Bool, true, false, not, ◌&&◌, eqb, List, [], ◌∷◌, ◌++◌, All, sym, refl, ap, ◌∙◌, ⊎_elim, and_from, and_parts, cases_Bool, All-cons, All-head, All-tail, place_of}
use Rattle.vc_best.proofs.Common.{Extent, IsMerged, behind_of, change_at, change_extent, change_in, extent_of, extents_of, is_busy, is_free, is_merged}
use Rattle.vc_best.proofs.Cuts.{cut-change}
use Rattle.vc_best.proofs.Known.{IsCut}

-- what stands before a place where nothing new meets
pub merged-front : (xs zs ws : List Extent) → ((b : Bool) → is_merged b zs ≡ true → is_merged b ws ≡ true) → (b : Bool) → is_merged b (xs ++ zs) ≡ true → is_merged b (xs ++ ws) ≡ true
merged-front [] zs ws h b m = h b m
merged-front (x ∷ xs) zs ws h b m =
    let both = and_parts (not (b && is_free x)) (is_merged (is_free x) (xs ++ zs)) m in
    and_from (not (b && is_free x)) (is_merged (is_free x) (xs ++ ws)) both.0 (merged-front xs zs ws h (is_free x) both.1)

-- behind a busy extent more may stand than behind a free one
pub merged-weaker : (b : Bool) (es : List Extent) → is_merged true es ≡ true → is_merged b es ≡ true
merged-weaker b [] m = refl
merged-weaker true (e ∷ es) m = m
merged-weaker false (e ∷ es) m = (and_parts (not (true && is_free e)) (is_merged (is_free e) es) m).1

pub merged-any : (b : Bool) (es : List Extent) → is_merged b es ≡ true → is_merged false es ≡ true
merged-any b [] m = refl
merged-any true es m = merged-weaker false es m
merged-any false es m = m

-- of all segments
abbrev Merged : ℕ × List Extent → Type 0
Merged s = is_merged false s.1 ≡ true

pub merged-in : (n : ℕ) (t : List (ℕ × List Extent)) → IsMerged t → is_merged false (extents_of n t) ≡ true
merged-in n [] h = refl
merged-in n (s ∷ ss) h =
    ⊎_elim
    (λ (e : eqb s.0 n ≡ true). rw e (All-head Merged s ss h))
    (λ (e : eqb s.0 n ≡ false). rw e (merged-in n ss (All-tail Merged s ss h)))
    (cases_Bool (eqb s.0 n))

pub merged-change : (n : ℕ) (f : List Extent → List Extent) (t : List (ℕ × List Extent)) → (is_merged false (extents_of n t) ≡ true → is_merged false (f (extents_of n t)) ≡ true) → IsMerged t → IsMerged (change_in n f t)
merged-change n f [] one h = h
merged-change n f (s ∷ ss) one h =
    let here : is_merged false s.1 ≡ true = All-head Merged s ss h in
    let rest : All Merged ss = All-tail Merged s ss h in
    ⊎_elim
    (λ (e : eqb s.0 n ≡ true).
    let own : is_merged false s.1 ≡ true → is_merged false (f s.1) ≡ true = rw e at one in
    rw e (All-cons Merged (s.0, f s.1) ss (own here) rest))
    (λ (e : eqb s.0 n ≡ false).
    let later : is_merged false (extents_of n ss) ≡ true → is_merged false (f (extents_of n ss)) ≡ true = rw e at one in
    rw e (All-cons Merged s (change_in n f ss) here (merged-change n f ss later rest)))
    (cases_Bool (eqb s.0 n))

-- where a change of an extent and those behind it lets no two meet
pub merged-at : (t : List (ℕ × List Extent)) (a : ℕ) (f : Extent → List Extent → List Extent) → IsCut t a →
    ((b : Bool) → is_merged b (extent_of t a ∷ behind_of t a) ≡ true → is_merged b (f (extent_of t a) (behind_of t a)) ≡ true) → IsMerged t → IsMerged (change_extent a f t)
merged-at t a f c h m =
    let es = extents_of (place_of a).0 t in
    let e = extent_of t a in
    let ys = behind_of t a in
    merged-change (place_of a).0 (change_at (place_of a).1 f) t
    (λ own.
    let split : is_merged false (c.cut.before ++ (e ∷ ys)) ≡ true = ap (is_merged false) (sym c.cut.is) ∙ own in
    ap (is_merged false) (cut-change (c.size - 16) 16 (place_of a).1 es c.cut f) ∙ merged-front c.cut.before (e ∷ ys) (f e ys) h false split)
    m

-- where one extent alone changes and is as free as before
pub merged-one : (t : List (ℕ × List Extent)) (a : ℕ) (f : Extent → List Extent → List Extent) (x : Extent) → IsCut t a → f (extent_of t a) (behind_of t a) ≡ x ∷ behind_of t a → is_busy x ≡ is_busy (extent_of t a) → IsMerged t → IsMerged (change_extent a f t)
merged-one t a f x c e same m =
    merged-at t a f c
    (λ b own. ap (is_merged b) e ∙ (ap (λ v. not (b && not v) && is_merged (not v) (behind_of t a)) same ∙ own))
    m
