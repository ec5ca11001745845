-- A dictionary over blocks that a call on another one of the same region left.
use Rattle.vc_base.proofs.Common.{◌≡◌, ℕ, true, false, List, Blocks, contains}
use Rattle.vc_dtdisc.specs.Rules.{Rules}
use Rattle.vc_dtlist.specs.TableWrites.{KeepsTables}
use Rattle.vc_dict.specs.declared.dict.Dict.{Dict}
use Rattle.vc_dict.specs.Stands.{Stands, table_in}
use Rattle.vc_dict.proofs.HeadLemmas.{Stands-stays}

-- its table stays where it is none of the other's holders or tables
pub table-kept : (d : Dict) (old new : Blocks) (tables others : List ℕ) → KeepsTables tables others old new → contains tables (table_in d).0 ≡ false → contains others (table_in d).0 ≡ false → new (table_in d).0 ≡ old (table_in d).0
table-kept d old new tables others k no_table no_other = k.others (table_in d).0 no_table no_other

-- and it stands for its holders still where none of them is one either
pub Stands-kept : (rules : Rules) (d : Dict) (old new : Blocks) (xs tables others : List ℕ) → KeepsTables tables others old new → ((a : ℕ) → contains xs a ≡ true → contains tables a ≡ false) → ((a : ℕ) → contains xs a ≡ true → contains others a ≡ false) → contains tables (table_in d).0 ≡ false → contains others (table_in d).0 ≡ false → Stands rules d old xs → Stands rules d new xs
Stands-kept rules d old new xs tables others k no_table no_other table_apart table_other s =
    Stands-stays rules d old new xs (λ a h. k.others a (no_table a h) (no_other a h)) (λ _. table-kept d old new tables others k table_apart table_other) s
