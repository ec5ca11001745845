-- The set and the queue of a table, from their opening to their close.
use Rattle.std.specs.Prelude.{◌≡◌}
use Rattle.vc_base.specs.declared.dict_method.DictMethod.{DictMethod}
use Rattle.vc_base.specs.declared.dict_method.DictMethod.TheVariants.{DtSet, DtQueue}
use Rattle.vc_model.specs.Discipline.{Discipline}
use Rattle.vc_dtdisc.specs.Shapes.{BuiltInKind, rules_of}
use Rattle.vc_objects.specs.Leaves.{KeepsDisc}
use Rattle.vc_store.specs.Collections.{IsOpen, contents, disc_of, kind_of, lent_to}
use Rattle.vc_store.specs.declared.collection.Collection.{Collection}
use Rattle.cache.specs.Asking.{key_rules}

module _ {I : Type 0} {V : I → Type 0} (meaning : (x : I) × V x → Discipline) where
  -- an open collection of keys by a method
  pub record AreKeys (method : DictMethod) (c : Collection BuiltInKind I V) : Type 0 where
    pub is_open : IsOpen (rules_of (kind_of c).shape) c (disc_of c meaning)
    pub rules : rules_of (kind_of c).shape ≡ key_rules
    pub by_method : (contents c).method ≡ method

  -- it is one again behind a call, and all that its discipline had out besides its segments is out
  pub record StayKeys (method : DictMethod) (old new : Collection BuiltInKind I V) : Type 0 where
    pub keys : AreKeys method new
    pub lends : KeepsDisc (disc_of old meaning) (disc_of new meaning) (lent_to old) (lent_to new)

  -- a set and a queue of the same keys, in the same order
  pub record IsTable (s q : Collection BuiltInKind I V) : Type 0 where
    pub set : AreKeys DtSet s
    pub queue : AreKeys DtQueue q
    pub same : (contents s).objects ≡ (contents q).objects

  -- both behind a call
  pub record StaysTable (s q s' q' : Collection BuiltInKind I V) : Type 0 where
    pub set : StayKeys DtSet s s'
    pub queue : StayKeys DtQueue q q'
