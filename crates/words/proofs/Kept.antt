-- Calls that keep a set of words, one after another.
use Rattle.vc_base.proofs.Common.{◌∙◌, refl}
use Rattle.vc_model.specs.Discipline.{Discipline}
use Rattle.vc_dtdisc.specs.Shapes.{BuiltInKind, rules_of}
use Rattle.vc_objects.proofs.Leaving.{keeps-same, keeps-trans}
use Rattle.vc_store.specs.Collections.{StaysOpen, disc_of, lent_to}
use Rattle.vc_store.specs.declared.collection.Collection.{Collection}
use Rattle.words.specs.Sets.{IsWordSet, StaysWordSet}

module _ {I : Type 0} {V : I → Type 0} (meaning : (x : I) × V x → Discipline) where
  pub set-same : (a : Collection BuiltInKind I V) → IsWordSet meaning a → StaysWordSet meaning a a
  set-same a is = record {
    set = is;
    lends = keeps-same (disc_of a meaning) (disc_of a meaning) (lent_to a) (lent_to a) refl refl;
  }

  pub set-stays : (a b : Collection BuiltInKind I V) → IsWordSet meaning a → StaysOpen meaning (λ kind. rules_of kind.shape) a b → StaysWordSet meaning a b
  set-stays a b is stays = record {
    set = record {
      is_open = stays.is_open;
      rules = stays.rules ∙ is.rules;
      method = stays.method ∙ is.method;
    };
    lends = stays.lends;
  }

  pub set-trans : (a b c : Collection BuiltInKind I V) → StaysWordSet meaning a b → StaysWordSet meaning b c → StaysWordSet meaning a c
  set-trans a b c first second = record {
    set = second.set;
    lends =
        keeps-trans (disc_of a meaning) (disc_of b meaning) (disc_of c meaning) (lent_to a) (lent_to b) (lent_to c) first.lends second.lends;
  }

  -- and behind a call on what another one left
  pub set-on : (a b c : Collection BuiltInKind I V) → StaysWordSet meaning a b → StaysOpen meaning (λ kind. rules_of kind.shape) b c → StaysWordSet meaning a c
  set-on a b c first stays = set-trans a b c first (set-stays b c first.set stays)
