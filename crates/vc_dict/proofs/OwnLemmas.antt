-- A dictionary and the blocks at its own addresses: those of its holders, and of its table.
use Rattle.vc_base.proofs.Common.{◌≡◌, ℕ, ◌^◌, ◌<◌, true, false, ◌≢◌, List, [], ◌∷◌, length, unwrap_or, sym, ap, ◌∙◌, inl, inr, arith, eqb_tells, Blocks, IsAddress, IsHolder, body_of, AreDistinct, contains}
use Rattle.vc_dtdisc.specs.Finds.{object_at}
use Rattle.vc_dtdisc.specs.Rules.{Rules}
use Rattle.vc_dtlist.proofs.AddressLemmas.{AreHolders, few-holders, no-holder}
use Rattle.vc_dthash.specs.Hashed.{HasTable}
use Rattle.vc_dict.specs.declared.dict.Dict.{Dict}
use Rattle.vc_dict.specs.Listed.{holders_of}
use Rattle.vc_base.proofs.Members.{within-head, within-tail}
use Rattle.vc_dict.specs.Stands.{Stands, slots_in, table_in}
use Rattle.vc_dict.proofs.HeadLemmas.{HeadsFor-holders, HeadsFor-table, Stands-stays, heads-told}

-- the list of a dictionary is read from its heads and its blocks
pub holders-told : (rules : Rules) (d : Dict) (b : Blocks) (xs : List ℕ) → Stands rules d b xs → holders_of d b ≡ xs
holders-told rules d b xs s = rw s.count (heads-told rules d.heads b xs s.heads)

-- each of them is a holder at an address of its own, and none is at 0
pub Stands-holders : (rules : Rules) (d : Dict) (b : Blocks) (xs : List ℕ) → Stands rules d b xs → AreHolders b xs
Stands-holders rules d b xs s = HeadsFor-holders rules d.heads b xs s.heads

pub holder-address : (rules : Rules) (d : Dict) (b : Blocks) (xs : List ℕ) (a : ℕ) → Stands rules d b xs → contains xs a ≡ true → IsAddress a
holder-address rules d b xs a s h = (Stands-holders rules d b xs s).addresses a h

pub holder-there : (rules : Rules) (d : Dict) (b : Blocks) (xs : List ℕ) (a : ℕ) → Stands rules d b xs → contains xs a ≡ true → IsHolder b a
holder-there rules d b xs a s h = (Stands-holders rules d b xs s).there a h

pub holders-distinct : (rules : Rules) (d : Dict) (b : Blocks) (xs : List ℕ) → Stands rules d b xs → AreDistinct xs
holders-distinct rules d b xs s = (Stands-holders rules d b xs s).distinct

pub none-at_0 : (rules : Rules) (d : Dict) (b : Blocks) (xs : List ℕ) → Stands rules d b xs → contains xs 0 ≡ false
none-at_0 rules d b xs s = no-holder b xs (Stands-holders rules d b xs s)

pub count-fits : (rules : Rules) (d : Dict) (b : Blocks) (xs : List ℕ) → Stands rules d b xs → length xs < 2 ^ 32
count-fits rules d b xs s = let h = few-holders b xs (Stands-holders rules d b xs s) in omega (arith, h)

-- it has a table, or none with no slots
pub Stands-table : (rules : Rules) (d : Dict) (b : Blocks) (xs : List ℕ) → Stands rules d b xs → HasTable b xs (table_in d).0 (slots_in d)
Stands-table rules d b xs s = HeadsFor-table rules d.heads b xs s.heads

-- the table is none of the holders, and no two of these are one
pub table-apart : (rules : Rules) (d : Dict) (b : Blocks) (xs : List ℕ) → Stands rules d b xs → contains xs (table_in d).0 ≡ false
table-apart rules d b xs s = elim (eqb_tells (table_in d).0 0) as (λ _. contains xs (table_in d).0 ≡ false) [
  | inl same ↦ rw same.1 (none-at_0 rules d b xs s)
  | inr apart ↦ ((Stands-table rules d b xs s).some apart.1).apart
]

pub own-distinct : (rules : Rules) (d : Dict) (b : Blocks) (xs : List ℕ) → Stands rules d b xs → AreDistinct ((table_in d).0 ∷ xs)
own-distinct rules d b xs s = (table-apart rules d b xs s, holders-distinct rules d b xs s)

-- a dictionary stands for its holders still where the block at each of its own addresses stays
pub Stands-own : (rules : Rules) (d : Dict) (old new : Blocks) (xs : List ℕ) → ((a : ℕ) → a ≢ 0 → contains ((table_in d).0 ∷ xs) a ≡ true → new a ≡ old a) → Stands rules d old xs → Stands rules d new xs
Stands-own rules d old new xs e s =
    let some : (a : ℕ) → contains xs a ≡ true → a ≢ 0 = λ a h zero. let w = holder-address rules d old xs a s h in omega arith in
    Stands-stays rules d old new xs (λ a h. e a (some a h) (within-tail (table_in d).0 xs a h)) (λ ne. e (table_in d).0 ne (within-head (table_in d).0 xs)) s

-- the same, with what is at 0 kept too, where no block is
pub Stands-same : (rules : Rules) (d : Dict) (old new : Blocks) (xs : List ℕ) → ((a : ℕ) → contains ((table_in d).0 ∷ xs) a ≡ true → new a ≡ old a) → Stands rules d old xs → Stands rules d new xs
Stands-same rules d old new xs e s = Stands-own rules d old new xs (λ a _ h. e a h) s

-- the object of each of its holders stays with the block
pub object-same : (d : Dict) (old new : Blocks) (xs : List ℕ) (a : ℕ) → ((a : ℕ) → contains ((table_in d).0 ∷ xs) a ≡ true → new a ≡ old a) → contains xs a ≡ true → object_at new a ≡ object_at old a
object-same d old new xs a e h = ap (λ x. body_of (unwrap_or x [])) (e a (within-tail (table_in d).0 xs a h))

-- the list that is read stays too
pub holders_of-same : (rules : Rules) (d : Dict) (old new : Blocks) (xs : List ℕ) → ((a : ℕ) → contains ((table_in d).0 ∷ xs) a ≡ true → new a ≡ old a) → Stands rules d old xs → holders_of d new ≡ holders_of d old
holders_of-same rules d old new xs e s =
    holders-told rules d new xs (Stands-same rules d old new xs e s) ∙ sym (holders-told rules d old xs s)
