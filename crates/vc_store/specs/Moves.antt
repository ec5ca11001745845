-- Making another object of a dictionary current.
use Rattle.std.specs.Prelude.{◌≡◌, ℕ, Bool, Option}
use Rattle.vc_base.specs.Cells.{Blocks}
use Rattle.vc_dtdisc.specs.Rules.{Rules}
use Rattle.vc_dict.specs.declared.dict.Dict.{Dict}
use Rattle.vc_best.specs.Cells.{cells_in}
use Rattle.vc_best.specs.declared.best.Best.{Best}
use Rattle.vc_objects.specs.Objects.{own_blocks}
use Rattle.vc_objects.specs.Parts.{IsWhole, dictionary_in}
use Rattle.vc_store.specs.Contents.{contents_in}
use Rattle.vc_store.specs.Reading.{GoesTo}

-- a dictionary is whole by some kind's rules
pub record IsWholeBySome (dict : Dict) (blocks : Blocks) : Type 0 where
  pub rules : Rules
  pub whole : IsWhole rules dict blocks

-- the object at a place of a dictionary is current, or none where there is no place, and all else of it stays
pub record Moves {I : Type 0} {V : I → Type 0} (place : Option ℕ) (answer : Bool) (best : Best I V) (old new : Dict) : Type 0 where
  pub goes : GoesTo place answer (contents_in old best) (contents_in new best)
  pub whole : (rules : Rules) → IsWhole rules old (cells_in best) → IsWhole rules new (cells_in best)
  pub kind : new.kind ≡ old.kind
  pub own : own_blocks (dictionary_in new best) ≡ own_blocks (dictionary_in old best)
