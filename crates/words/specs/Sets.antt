-- The set that words are counted in, from its opening to its close.
use Rattle.std.specs.Prelude.{◌≡◌}
use Rattle.vc_base.specs.declared.dict_method.DictMethod.TheVariants.{DtOset}
use Rattle.vc_model.specs.Discipline.{Discipline}
use Rattle.vc_dtdisc.specs.Shapes.{BuiltInKind, rules_of}
use Rattle.vc_objects.specs.Leaves.{KeepsDisc}
use Rattle.vc_store.specs.Collections.{IsOpen, contents, disc_of, kind_of, lent_to}
use Rattle.vc_store.specs.declared.collection.Collection.{Collection}
use Rattle.words.specs.Counting.{tally_rules}

module _ {I : Type 0} {V : I → Type 0} (meaning : (x : I) × V x → Discipline) where
  -- an open ordered set of objects whose key stands behind eight bytes
  pub record IsWordSet (set : Collection BuiltInKind I V) : Type 0 where
    pub is_open : IsOpen (rules_of (kind_of set).shape) set (disc_of set meaning)
    pub rules : rules_of (kind_of set).shape ≡ tally_rules
    pub method : (contents set).method ≡ DtOset

  -- it is one again behind a call, and all that its discipline had out besides its segments is out
  pub record StaysWordSet (old new : Collection BuiltInKind I V) : Type 0 where
    pub set : IsWordSet new
    pub lends : KeepsDisc (disc_of old meaning) (disc_of new meaning) (lent_to old) (lent_to new)
