-- The sites of blocks by the indices of their rows, and what a call on rows and indices makes of them.
use Rattle.vc_base.proofs.Common.{◌≡◌, ◌≢◌, ℕ, zero, suc, ◌<◌, cond, List, [], ◌∷◌, true, false, if◌then◌else◌, length, IsSome, is_some, Some, None, Option, bytes_eq, unwrap_or, option_and_then, slice_get, sym, refl, ap, ◌∙◌, subst, same_Some, none-some, eq-eqb, ne_eqb, IsDistinct, keys_of, false≢true}
use Rattle.std.specs.Cmp.{IsEquivalence}
use Rattle.std.proofs.lemmas.Map.Entries.{length-keys_of, lookup_from_place}
use Rattle.std.proofs.lemmas.Option.{slice_get_within}
use Rattle.indexmap.specs.IndexMap.{insert_entry, set_value_at}
use Rattle.indexmap.proofs.MapLemmas.{insert_entry-first}
use Rattle.indexmap.proofs.RemoveLemmas.{own_first}
use Rattle.indexmap.proofs.SetLemmas.{inserted_at}
use Rattle.vc_base.proofs.Texts.{bytes_eq-swapped, own_bytes, same_bytes}
use Rattle.vc_addrmap.specs.Map.{Numbers, moved_number, with_number}
use Rattle.vc_audit.specs.ProfileSums.{IsRowAt, Rows, index_for, new_row, row_for, site_at, sites_by}
use Rattle.vc_audit.specs.declared.profile.rows.Row.{Row}

pub some-of : {A : Type 0} (o : Option A) (d : A) → IsSome o → o ≡ Some (unwrap_or o d)
some-of None d h = absurd (cc)
some-of (Some x) d h = refl

by_bytes : IsEquivalence bytes_eq
by_bytes = record { refl = own_bytes; symm = bytes_eq-swapped; congr = λ x y z e. ap (λ k. bytes_eq k z) (same_bytes x y e) }

keys-set : (es : Rows) (i : ℕ) (w : Row) → keys_of (set_value_at es i w) ≡ keys_of es
keys-set [] i w = refl
keys-set (e ∷ es) zero w = refl
keys-set (e ∷ es) (suc i) w = ap (λ ks. e.0 ∷ ks) (keys-set es i w)

-- a row that is put has its site at the index for it, and leaves every other site at its own
pub site-put : (site : List ℕ) (w : Row) (es : Rows) → slice_get (keys_of (insert_entry bytes_eq es site w)) (index_for site es) ≡ Some site
site-put site w es = let at = inserted_at bytes_eq own_bytes es site w in at.1 ∙ ap Some (sym (same_bytes site at.0 at.2))

site-stays : (site : List ℕ) (w : Row) (es : Rows) (i : ℕ) → IsSome (slice_get (keys_of es) i) → slice_get (keys_of (insert_entry bytes_eq es site w)) i ≡ slice_get (keys_of es) i
site-stays site w [] i there = absurd (cc)
site-stays site w (e ∷ es) i there =
    elim (bytes_eq site e.0) as (λ v. slice_get (keys_of (cond v ((e.0, w) ∷ es) (e ∷ insert_entry bytes_eq es site w))) i ≡ slice_get (keys_of (e ∷ es)) i) [
      | true ↦ refl
      | false ↦ behind (site-stays site w es) i there
    ]
  where
    behind : ((k : ℕ) → IsSome (slice_get (keys_of es) k) → slice_get (keys_of (insert_entry bytes_eq es site w)) k ≡ slice_get (keys_of es) k) → (k : ℕ) → IsSome (slice_get (keys_of (e ∷ es)) k) → slice_get (keys_of (e ∷ insert_entry bytes_eq es site w)) k ≡ slice_get (keys_of (e ∷ es)) k
    behind rest zero h = refl
    behind rest (suc k) h = rest k h

-- an address with a number, and any other one
number-own : (a : ℕ) (n : Option ℕ) (numbers : Numbers) → with_number a n numbers a ≡ n
number-own a n numbers = ap (λ b. if b then n else numbers a) (eq-eqb a a refl)

number-other : (a q : ℕ) (n : Option ℕ) (numbers : Numbers) → q ≢ a → with_number a n numbers q ≡ numbers q
number-other a q n numbers other = ap (λ b. if b then n else numbers q) (ne_eqb a q (λ e. other (sym e)))

site-same : (old new : Numbers) (es es' : Rows) (q : ℕ) → new q ≡ old q → keys_of es' ≡ keys_of es → site_at q (sites_by new es') ≡ site_at q (sites_by old es)
site-same old new es es' q n k = ap (λ o. option_and_then (slice_get (keys_of es')) o) n ∙ ap (λ ks. option_and_then (slice_get ks) (old q)) k

-- the site of a block that is put
module _ (old new : Numbers) (es es' : Rows) (a : ℕ) (site : List ℕ) (w : Row) (put : new ≡ with_number a (Some (index_for site es)) old) (is : es' ≡ insert_entry bytes_eq es site w) where
  pub put-own-site : site_at a (sites_by new es') ≡ Some site
  put-own-site =
      ap (λ o. option_and_then (slice_get (keys_of es')) o) (ap (λ g. g a) put ∙ number-own a (Some (index_for site es)) old)
      ∙ ap (λ (rows : Rows). slice_get (keys_of rows) (index_for site es)) is
      ∙ site-put site w es

  pub put-other-site : (q : ℕ) → q ≢ a → IsSome (site_at q (sites_by old es)) → site_at q (sites_by new es') ≡ site_at q (sites_by old es)
  put-other-site q other there =
      ap (λ o. option_and_then (slice_get (keys_of es')) o) (ap (λ g. g q) put ∙ number-other a q (Some (index_for site es)) old other)
      ∙ ap (λ (rows : Rows). option_and_then (slice_get (keys_of rows)) (old q)) is
      ∙ go (old q) there
    where
      go : (o : Option ℕ) → IsSome (option_and_then (slice_get (keys_of es)) o) → option_and_then (slice_get (keys_of (insert_entry bytes_eq es site w))) o ≡ option_and_then (slice_get (keys_of es)) o
      go None h = refl
      go (Some i) h = site-stays site w es i h

-- the row of an index, of which the site and the sums are known
entry-at : (es : Rows) (i : ℕ) (site : List ℕ) (v : Row) → slice_get (keys_of es) i ≡ Some site → IsRowAt es i v → slice_get es i ≡ Some (site, v)
entry-at [] i site v key row = absurd (none-some site key)
entry-at (e ∷ es) zero site v key row =
    let k : e.0 ≡ site = same_Some e.0 site key in
    let r : e.1 ≡ v = same_Some e.1 v row in
    λ j. Some (k j, r j)
entry-at (e ∷ es) (suc i) site v key row = entry-at es i site v key row

-- the site of the row of an index
abbrev pub site_of_row : Rows → ℕ → List ℕ
site_of_row es i = unwrap_or (slice_get (keys_of es) i) []

-- it is the row of the site of the block at an address
pub record IsRowOf (numbers : Numbers) (es : Rows) (a i : ℕ) (v : Row) : Type 0 where
  pub kept : site_at a (sites_by numbers es) ≡ Some (site_of_row es i)
  pub row : v ≡ row_for (site_of_row es i) es
  pub set : (w : Row) → set_value_at es i w ≡ insert_entry bytes_eq es (site_of_row es i) w

pub site-kept : (numbers : Numbers) (es : Rows) (a i : ℕ) → numbers a ≡ Some i → IsSome (site_at a (sites_by numbers es)) → site_at a (sites_by numbers es) ≡ Some (site_of_row es i)
site-kept numbers es a i number there =
    let at : site_at a (sites_by numbers es) ≡ slice_get (keys_of es) i = ap (λ o. option_and_then (slice_get (keys_of es)) o) number in
    at ∙ some-of (slice_get (keys_of es) i) [] (subst IsSome at there)

-- an address with a site has an index, which is that of a row
pub none-there : (numbers : Numbers) (es : Rows) (a : ℕ) → numbers a ≡ None → IsSome (site_at a (sites_by numbers es)) → ⊥
none-there numbers es a none there = false≢true (ap (λ o. is_some (option_and_then (slice_get (keys_of es)) o)) (sym none) ∙ there)

pub index-within : (numbers : Numbers) (es : Rows) (a i : ℕ) → numbers a ≡ Some i → IsSome (site_at a (sites_by numbers es)) → i < length es
index-within numbers es a i number there = go (slice_get (keys_of es) i) refl (subst (λ o. IsSome (option_and_then (slice_get (keys_of es)) o)) number there)
  where
    go : (o : Option (List ℕ)) → slice_get (keys_of es) i ≡ o → IsSome o → i < length es
    go None e h = absurd (cc)
    go (Some k) e h = subst (λ n. i < n) (length-keys_of es) (slice_get_within (keys_of es) i k e)

pub row-of : (numbers : Numbers) (es : Rows) (a i : ℕ) (v : Row) → IsDistinct bytes_eq (keys_of es) → numbers a ≡ Some i → IsSome (site_at a (sites_by numbers es)) → IsRowAt es i v → IsRowOf numbers es a i v
row-of numbers es a i v distinct number there row =
    let key = some-of (slice_get (keys_of es) i) [] (subst (λ o. IsSome (option_and_then (slice_get (keys_of es)) o)) number there) in
    let at = entry-at es i (site_of_row es i) v key row in
    record {
      kept = site-kept numbers es a i number there;
      row = ap (λ o. unwrap_or o new_row) (sym (lookup_from_place by_bytes es i (site_of_row es i) v distinct at));
      set = λ w. sym (insert_entry-first bytes_eq (site_of_row es i) w es i (own_first bytes_eq by_bytes es i (site_of_row es i) v distinct at));
    }

-- the sites as a block goes, or moves, and the sums of its row change
module _ (old new : Numbers) (es : Rows) (i : ℕ) (w : Row) (a : ℕ) where
  pub taken-site : new ≡ with_number a None old → (q : ℕ) → q ≢ a → site_at q (sites_by new (set_value_at es i w)) ≡ site_at q (sites_by old es)
  taken-site taken q other = site-same old new es (set_value_at es i w) q (ap (λ g. g q) taken ∙ number-other a q None old other) (keys-set es i w)

  module _ (to : ℕ) (moved : new ≡ moved_number a to old) (number : old a ≡ Some i) where
    goes : new ≡ with_number to (Some i) (with_number a None old)
    goes = moved ∙ go (old a) number
      where
        go : (o : Option ℕ) → o ≡ Some i → (if is_some o then with_number to o (with_number a None old) else old) ≡ with_number to (Some i) (with_number a None old)
        go None e = absurd (cc)
        go (Some k) e = ap (λ o. with_number to o (with_number a None old)) e

    pub moved-site : site_at to (sites_by new (set_value_at es i w)) ≡ site_at a (sites_by old es)
    moved-site =
        ap (λ o. option_and_then (slice_get (keys_of (set_value_at es i w))) o) (ap (λ g. g to) goes ∙ number-own to (Some i) (with_number a None old))
        ∙ ap (λ ks. slice_get ks i) (keys-set es i w)
        ∙ ap (λ o. option_and_then (slice_get (keys_of es)) o) (sym number)

    pub other-sites : (q : ℕ) → q ≢ a → q ≢ to → site_at q (sites_by new (set_value_at es i w)) ≡ site_at q (sites_by old es)
    other-sites q from_a from_to =
        site-same old new es (set_value_at es i w) q
        (ap (λ g. g q) goes ∙ number-other to q (Some i) (with_number a None old) from_to ∙ number-other a q None old from_a)
        (keys-set es i w)
