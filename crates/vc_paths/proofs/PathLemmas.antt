-- Paths of links of which none is too long: each goes on behind its first number, and has no number twice.
use Rattle.vc_base.proofs.Common.{◌≡◌, ℕ, zero, suc, ◌+◌, ◌-◌, ◌<◌, ◌≤◌, Bool, true, false, ◌≢◌, List, [], ◌∷◌, ◌++◌, length, nat_lt, Some, None, Option, sym, refl, ap, ◌∙◌, subst, ap₂, inl, inr, true≢false, arith, ne_eqb, eqb_tells, AreDistinct, contains}
use Rattle.std.proofs.lemmas.Bool.Decides.{leb_tells}
use Rattle.vc_paths.specs.Links.{ArePaths, Links, below, onward, path, path_limit, path_of}

-- what holds behind each link holds behind a link or none
onward-each : (f g s : ℕ → List ℕ) (n : ℕ) (o : Option ℕ) → ((e : ℕ) → length (s e) ≤ n → f e ≡ g e) → length (onward s o) ≤ n → onward f o ≡ onward g o
onward-each f g s n None each h = refl
onward-each f g s n (Some e) each h = each e h

-- numbers along links, cut at so many: what was not cut there isn't at more
path_of-stays : (links : Links) (n m d : ℕ) → length (path_of (suc n) links d) ≤ n → n ≤ m → path_of m links d ≡ path_of n links d
path_of-stays links zero m d h l = absurd (omega (arith, h))
path_of-stays links (suc n) zero d h l = absurd (omega (arith, l))
path_of-stays links (suc n) (suc m) d h l =
    let less : n ≤ m = omega (arith, l) in
    ap (λ z. d ∷ z) (onward-each (path_of m links) (path_of n links) (path_of (suc n) links) n (below links d) (λ e k. path_of-stays links n m e k less) (omega (arith, h)))

-- a test of an order that failed
pub not_less : (a b : ℕ) → nat_lt a b ≡ false → b ≤ a
not_less a b h = grind (arith, leb_tells)

-- a path is its first number, and the path of what that one views
pub path-step : (links : Links) (d : ℕ) → ArePaths links → path links d ≡ d ∷ onward (path links) (below links d)
path-step links d p = sym (path_of-stays links path_limit (suc path_limit) d (not_less path_limit (length (path_of (suc path_limit) links d)) (p.short d)) (omega arith))

-- and so it is longer than that one's
pub path-longer : (links : Links) (d e : ℕ) → ArePaths links → below links d ≡ Some e → length (path links d) ≡ length (path links e) + 1
path-longer links d e p b = ap length (path-step links d p) ∙ rw b (omega arith)

-- a number behind a link, where each number there has no longer path
behind : (links : Links) (d x : ℕ) (o : Option ℕ) (f : ℕ → List ℕ) → ArePaths links → below links d ≡ o → ((e : ℕ) → contains (f e) x ≡ true → length (path links x) ≤ length (path links e)) → contains (onward f o) x ≡ true → length (path links x) < length (path links d)
behind links d x None f p b each h = absurd (true≢false (sym h))
behind links d x (Some e) f p b each h = let shorter = each e h in omega (arith, path-longer links d e p b, shorter)

-- a number on a path has no longer path
on_path : (links : Links) (n d x : ℕ) → ArePaths links → contains (path_of n links d) x ≡ true → length (path links x) ≤ length (path links d)
on_path links zero d x p h = absurd (true≢false (sym h))
on_path links (suc n) d x p h = elim (eqb_tells d x) as (λ _. length (path links x) ≤ length (path links d)) [
  | inl same ↦ subst (λ z. length (path links z) ≤ length (path links d)) same.1 (omega arith)
  | inr apart ↦
      let less = behind links d x (below links d) (path_of n links) p refl (λ e k. on_path links n e x p k) (rw apart.0 at h) in
      omega (arith, less)
]

-- a number isn't behind itself
not_behind : (links : Links) (n d : ℕ) → ArePaths links → (t : Bool) → contains (onward (path_of n links) (below links d)) d ≡ t → t ≡ false
not_behind links n d p true h = absurd (omega (arith, behind links d d (below links d) (path_of n links) p refl (λ e k. on_path links n e d p k) h))
not_behind links n d p false h = refl

onward-distinct : (f : ℕ → List ℕ) (o : Option ℕ) → ((e : ℕ) → AreDistinct (f e)) → AreDistinct (onward f o)
onward-distinct f None each = tt
onward-distinct f (Some e) each = each e

path_of-distinct : (links : Links) (n d : ℕ) → ArePaths links → AreDistinct (path_of n links d)
path_of-distinct links zero d p = tt
path_of-distinct links (suc n) d p = (
  not_behind links n d p (contains (onward (path_of n links) (below links d)) d) refl,
  onward-distinct (path_of n links) (below links d) (λ e. path_of-distinct links n e p),
)

-- no number stands on a path twice
pub path-distinct : (links : Links) (d : ℕ) → ArePaths links → AreDistinct (path links d)
path-distinct links d p = path_of-distinct links path_limit d p

-- a path ends in the path of each number on it
pub record Reaches (links : Links) (d x : ℕ) : Type 0 where
  pub front : List ℕ
  pub whole : path links d ≡ front ++ path links x

reaches_on : (links : Links) (d e x : ℕ) → ArePaths links → below links d ≡ Some e → Reaches links e x → Reaches links d x
reaches_on links d e x p b r = record {
  front = d ∷ r.front;
  whole = path-step links d p ∙ rw b (ap (λ z. d ∷ z) r.whole);
}

reaches_behind : (links : Links) (d x : ℕ) (o : Option ℕ) (f : ℕ → List ℕ) → ArePaths links → below links d ≡ o → ((e : ℕ) → contains (f e) x ≡ true → Reaches links e x) → contains (onward f o) x ≡ true → Reaches links d x
reaches_behind links d x None f p b each h = absurd (true≢false (sym h))
reaches_behind links d x (Some e) f p b each h = reaches_on links d e x p b (each e h)

path_of-reaches : (links : Links) (n d x : ℕ) → ArePaths links → contains (path_of n links d) x ≡ true → Reaches links d x
path_of-reaches links zero d x p h = absurd (true≢false (sym h))
path_of-reaches links (suc n) d x p h = elim (eqb_tells d x) as (λ _. Reaches links d x) [
  | inl same ↦ subst (λ z. Reaches links d z) same.1 (record { front = []; whole = refl })
  | inr apart ↦ reaches_behind links d x (below links d) (path_of n links) p refl (λ e k. path_of-reaches links n e x p k) (rw apart.0 at h)
]

pub path-reaches : (links : Links) (d x : ℕ) → ArePaths links → contains (path links d) x ≡ true → Reaches links d x
path-reaches links d x p h = path_of-reaches links path_limit d x p h

-- a path has at most so many numbers
onward-short : (f : ℕ → List ℕ) (n : ℕ) (o : Option ℕ) → ((e : ℕ) → length (f e) ≤ n) → length (onward f o) ≤ n
onward-short f n None each = omega arith
onward-short f n (Some e) each = each e

path_of-short : (links : Links) (n d : ℕ) → length (path_of n links d) ≤ n
path_of-short links zero d = omega arith
path_of-short links (suc n) d = let rest = onward-short (path_of n links) n (below links d) (path_of-short links n) in omega (arith, rest)

pub path-short : (links : Links) (d : ℕ) → length (path links d) ≤ 16
path-short links d = path_of-short links path_limit d

-- another number is on a path where it is on the path of what is viewed
pub contains-step : (links : Links) (d e x : ℕ) → ArePaths links → below links d ≡ Some e → d ≢ x → contains (path links d) x ≡ contains (path links e) x
contains-step links d e x p b ne = ap (λ z. contains z x) (path-step links d p) ∙ rw (ne_eqb d x ne) (rw b refl)

-- a path is too long where that of what is viewed is, by one less
less_more : (m n : ℕ) → nat_lt m n ≡ nat_lt (suc m) (suc n)
less_more m n = grind (arith, leb_tells)

one_on : (links : Links) (m d e : ℕ) → below links d ≡ Some e → nat_lt m (length (path_of (suc m) links e)) ≡ nat_lt (suc m) (length (path_of (suc (suc m)) links d))
one_on links m d e b = rw b (less_more m (length (path_of (suc m) links e)))

pub too_long-step : (links : Links) (k d e : ℕ) → below links d ≡ Some e → k < 16 → nat_lt (16 - (k + 1)) (length (path_of (17 - (k + 1)) links e)) ≡ nat_lt (16 - k) (length (path_of (17 - k) links d))
too_long-step links k d e b h =
    let near : 16 - (k + 1) ≡ 15 - k = omega (arith, h) in
    let near_more : 17 - (k + 1) ≡ suc (15 - k) = omega (arith, h) in
    let far : 16 - k ≡ suc (15 - k) = omega (arith, h) in
    let far_more : 17 - k ≡ suc (suc (15 - k)) = omega (arith, h) in
    ap₂ (λ a c. nat_lt a (length (path_of c links e))) near near_more
    ∙ one_on links (15 - k) d e b
    ∙ sym (ap₂ (λ a c. nat_lt a (length (path_of c links d))) far far_more)
