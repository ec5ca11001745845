-- The addresses of a dictionary's own blocks, its table's and its holders', and what holds of each of its objects.
use Rattle.vc_base.proofs.Common.{◌≡◌, ℕ, Bool, true, false, ◌≢◌, List, [], ◌∷◌, ◌++◌, map, replicate, is_some, if◌then◌else◌, ◌==◌, IsSome, Some, None, sym, refl, ap, ◌∙◌, subst, inl, inr, ⊎_elim, true≢false, arith, ne_eqb, eqb_tells, cases_Bool, AllByRecursion, Blocks, contains}
use Rattle.vc_base.proofs.CellsLemmas.{put_other, put_same}
use Rattle.vc_base.proofs.Members.{apart-head, apart-cons, apart-rest, within-head, within-tail}
use Rattle.vc_dtdisc.specs.Finds.{object_at}
use Rattle.vc_dtdisc.specs.Objects.{Object}
use Rattle.vc_dtdisc.specs.Rules.{Rules}
use Rattle.vc_dict.specs.Listed.{holders_of}
use Rattle.vc_dict.specs.declared.dict.Dict.{Dict}
use Rattle.vc_dict.proofs.OwnLemmas.{Stands-table, holder-there}
use Rattle.vc_objects.specs.Objects.{Table, option_list, own_blocks}
use Rattle.vc_objects.specs.Unlabelled.{MakesCell}
use Rattle.vc_objects.specs.Parts.{dictionary_of, object_of}
use Rattle.vc_objects.proofs.Mapped.{addresses-mapped}
use Rattle.vc_dict.specs.Stands.{Stands, slots_in, table_in}

-- a table at an address, or none at 0
abbrev pub table_at : ℕ → List ℕ
table_at a = if a == 0 then [] else a ∷ []

own_by : (t : Bool) (at slots : ℕ) (os : List Object) (xs : List ℕ) → map (λ (o : Object). o.at) os ≡ xs → map (λ (z : Table). z.at) (option_list (if t then None else Some (record { at = at; slots = slots }))) ++ map (λ (o : Object). o.at) os ≡ (if t then [] else at ∷ []) ++ xs
own_by true at slots os xs e = e
own_by false at slots os xs e = ap (λ ys. at ∷ ys) e

pub owned-told : (d : Dict) (b : Blocks) → own_blocks (dictionary_of d b) ≡ table_at (table_in d).0 ++ holders_of d b
owned-told d b = own_by ((table_in d).0 == 0) (table_in d).0 (slots_in d) (dictionary_of d b).objects (holders_of d b) (addresses-mapped b (holders_of d b))

-- but for 0 they are the table and the holders, and 0 is one where it is a holder
within-own : (table : ℕ) (xs : List ℕ) (a : ℕ) → a ≢ 0 → contains (table_at table ++ xs) a ≡ contains (table ∷ xs) a
within-own table xs a ne = elim (eqb_tells table 0) as (λ _. contains (table_at table ++ xs) a ≡ contains (table ∷ xs) a) [
  | inl zero ↦ rw (zero.0, ne_eqb table a (λ e. ne (sym e ∙ zero.1))) refl
  | inr some ↦ rw some.0 refl
]

zero-own : (table : ℕ) (xs : List ℕ) → contains (table_at table ++ xs) 0 ≡ contains xs 0
zero-own table xs = elim (eqb_tells table 0) as (λ _. contains (table_at table ++ xs) 0 ≡ contains xs 0) [
  | inl zero ↦ rw zero.0 refl
  | inr some ↦ rw (some.0, some.0) refl
]

pub owned-within : (d : Dict) (b : Blocks) (a : ℕ) → a ≢ 0 → contains (own_blocks (dictionary_of d b)) a ≡ contains ((table_in d).0 ∷ holders_of d b) a
owned-within d b a ne = ap (λ ys. contains ys a) (owned-told d b) ∙ within-own (table_in d).0 (holders_of d b) a ne

pub owned-zero : (d : Dict) (b : Blocks) → contains (own_blocks (dictionary_of d b)) 0 ≡ contains (holders_of d b) 0
owned-zero d b = ap (λ ys. contains ys 0) (owned-told d b) ∙ zero-own (table_in d).0 (holders_of d b)

-- which addresses it doesn't own
module _ (d : Dict) (b : Blocks) where
  pub apart-holders : (a : ℕ) → contains (own_blocks (dictionary_of d b)) a ≡ false → contains (holders_of d b) a ≡ false
  apart-holders a h = apart-rest (table_at (table_in d).0) (holders_of d b) a (subst (λ xs. contains xs a ≡ false) (owned-told d b) h)

  pub apart-table : (a : ℕ) → a ≢ 0 → contains (own_blocks (dictionary_of d b)) a ≡ false → (table_in d).0 ≢ a
  apart-table a some h = apart-head (table_in d).0 (holders_of d b) a (sym (owned-within d b a some) ∙ h)

  pub apart-owned : (a : ℕ) → ((table_in d).0 ≢ 0 → (table_in d).0 ≢ a) → contains (holders_of d b) a ≡ false → contains (own_blocks (dictionary_of d b)) a ≡ false
  apart-owned a table holders = elim (eqb_tells a 0) as (λ _. contains (own_blocks (dictionary_of d b)) a ≡ false) [
    | inl zero ↦ subst (λ n. contains (own_blocks (dictionary_of d b)) n ≡ false) (sym zero.1) (owned-zero d b ∙ subst (λ n. contains (holders_of d b) n ≡ false) zero.1 holders)
    | inr some ↦ owned-within d b a some.1 ∙ apart-cons (table_in d).0 (holders_of d b) a (λ e. table (λ z. some.1 (sym e ∙ z)) e) holders
  ]

-- what holds of each object in some holders, and of those of each of them
pub all-objects : (P : List ℕ → Type 0) (b : Blocks) (xs : List ℕ) → ((a : ℕ) → contains xs a ≡ true → P (object_at b a)) → AllByRecursion (λ o. P o.bytes) (map (object_of b) xs)
all-objects P b [] each = tt
all-objects P b (x ∷ xs) each = (each x (within-head x xs), all-objects P b xs (λ a h. each a (within-tail x xs a h)))

pub each-object : (P : List ℕ → Type 0) (b : Blocks) (xs : List ℕ) → AllByRecursion (λ o. P o.bytes) (map (object_of b) xs) → (a : ℕ) → contains xs a ≡ true → P (object_at b a)
each-object P b [] all a h = absurd (true≢false (sym h))
each-object P b (x ∷ xs) all a h = elim (eqb_tells x a) as (λ _. P (object_at b a)) [
  | inl same ↦ subst (λ z. P (object_at b z)) same.1 all.0
  | inr apart ↦ each-object P b xs all.1 a (rw apart.0 at h)
]

-- a block that is put is another one than those of a dictionary, and all others stay
module _ {rules : Rules} {d : Dict} {b b' : Blocks} {size at : ℕ} (stands : Stands rules d b (holders_of d b)) (cell : MakesCell b size at b') where
  pub cell-apart : (a : ℕ) → IsSome (b a) → a ≢ at
  cell-apart a h e = true≢false (sym h ∙ ap is_some (ap b e ∙ cell.fresh))

  pub holder-apart : (a : ℕ) → contains (holders_of d b) a ≡ true → a ≢ at
  holder-apart a h = cell-apart a (holder-there rules d b (holders_of d b) a stands h).there

  pub none-there : contains (holders_of d b) at ≡ false
  none-there =
      ⊎_elim
      (λ (within : contains (holders_of d b) at ≡ true). absurd (holder-apart at within refl))
      (λ (apart : contains (holders_of d b) at ≡ false). apart)
      (cases_Bool (contains (holders_of d b) at))

  pub other-table : (table_in d).0 ≢ at
  other-table = elim (eqb_tells (table_in d).0 0) as (λ _. (table_in d).0 ≢ at) [
    | inl same ↦ λ e. omega (arith, e, cell.address.some, same.1)
    | inr apart ↦ cell-apart (table_in d).0 ((Stands-table _ _ _ _ stands).some apart.1).there
  ]

  pub own-apart : (a : ℕ) → contains ((table_in d).0 ∷ holders_of d b) a ≡ true → a ≢ at
  own-apart a w = elim (eqb_tells (table_in d).0 a) as (λ _. a ≢ at) [
    | inl same ↦ λ e. other-table (same.1 ∙ e)
    | inr apart ↦ holder-apart a (rw apart.0 at w)
  ]

  pub cell-shows : b' at ≡ Some (replicate size 0)
  cell-shows = ap (λ (f : Blocks). f at) cell.cells ∙ put_same at (replicate size 0) b

  pub cell-kept : (a : ℕ) → a ≢ at → b' a ≡ b a
  cell-kept a ne = ap (λ (f : Blocks). f a) cell.cells ∙ put_other a at (replicate size 0) b ne
