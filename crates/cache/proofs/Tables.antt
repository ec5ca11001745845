-- Calls that keep the set and the queue of a table, one after another.
use Rattle.vc_base.proofs.Common.{◌≡◌, ℕ, List, [], ◌++◌, ◌∙◌, sym, refl, ap, append-nil}
use Rattle.vc_base.specs.declared.dict_method.DictMethod.{DictMethod}
use Rattle.vc_base.specs.declared.dict_method.DictMethod.TheVariants.{DtSet, DtQueue}
use Rattle.vc_model.specs.Discipline.{Discipline, TookBack}
use Rattle.vc_objects.specs.Leaves.{KeepsDisc}
use Rattle.vc_dtdisc.specs.Shapes.{BuiltInKind, rules_of}
use Rattle.vc_objects.proofs.Leaving.{keeps-same, keeps-trans}
use Rattle.vc_store.specs.Collections.{StaysOpen, contents, disc_of, lent_to}
use Rattle.vc_store.specs.declared.collection.Collection.{Collection}
use Rattle.cache.specs.Tables.{AreKeys, IsTable, StayKeys, StaysTable}

-- a region of no segment has the last that are out
pub out-with : (out segments : List (ℕ × ℕ)) → segments ≡ [] → out ≡ out ++ segments
out-with out segments e = sym (ap (λ s. out ++ s) e ∙ append-nil out)

-- from a collection's opening to its close
pub closed-keeps : (a b c d : Discipline) (s t u : List (ℕ × ℕ)) → KeepsDisc a b s t → KeepsDisc b c t u → TookBack c d u [] → KeepsDisc a d s []
closed-keeps a b c d s t u opened kept took =
    keeps-trans a c d s u [] (keeps-trans a b c s t u opened kept) record { kept = took.kept; out = took.out }

module _ {I : Type 0} {V : I → Type 0} (meaning : (x : I) × V x → Discipline) where
  pub keys-same : (m : DictMethod) (a : Collection BuiltInKind I V) → AreKeys meaning m a → StayKeys meaning m a a
  keys-same m a is = record {
    keys = is;
    lends = keeps-same (disc_of a meaning) (disc_of a meaning) (lent_to a) (lent_to a) refl refl;
  }

  pub keys-stay : (m : DictMethod) (a b : Collection BuiltInKind I V) → AreKeys meaning m a → StaysOpen meaning (λ kind. rules_of kind.shape) a b → StayKeys meaning m a b
  keys-stay m a b is stays = record {
    keys = record {
      is_open = stays.is_open;
      rules = stays.rules ∙ is.rules;
      by_method = stays.method ∙ is.by_method;
    };
    lends = stays.lends;
  }

  pub keys-trans : (m : DictMethod) (a b c : Collection BuiltInKind I V) → StayKeys meaning m a b → StayKeys meaning m b c → StayKeys meaning m a c
  keys-trans m a b c first second = record {
    keys = second.keys;
    lends =
        keeps-trans (disc_of a meaning) (disc_of b meaning) (disc_of c meaning) (lent_to a) (lent_to b) (lent_to c) first.lends second.lends;
  }

  -- behind a call on what another one left
  pub keys-on : (m : DictMethod) (a b c : Collection BuiltInKind I V) → StayKeys meaning m a b → StaysOpen meaning (λ kind. rules_of kind.shape) b c → StayKeys meaning m a c
  keys-on m a b c first stays = keys-trans m a b c first (keys-stay m b c first.keys stays)

  pub table-same : (s q : Collection BuiltInKind I V) → IsTable meaning s q → StaysTable meaning s q s q
  table-same s q is = record { set = keys-same DtSet s is.set; queue = keys-same DtQueue q is.queue }

  pub table-trans : (s q s' q' s'' q'' : Collection BuiltInKind I V) → StaysTable meaning s q s' q' → StaysTable meaning s' q' s'' q'' → StaysTable meaning s q s'' q''
  table-trans s q s' q' s'' q'' first second = record {
    set = keys-trans DtSet s s' s'' first.set second.set;
    queue = keys-trans DtQueue q q' q'' first.queue second.queue;
  }

  pub table-is : (s q s' q' : Collection BuiltInKind I V) → StaysTable meaning s q s' q' → (contents s').objects ≡ (contents q').objects → IsTable meaning s' q'
  table-is s q s' q' stays same = record { set = stays.set.keys; queue = stays.queue.keys; same = same }
