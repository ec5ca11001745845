-- Calls that keep a collection open, one after another.
use Rattle.vc_base.proofs.Common.{ℕ, Bool, Option, refl, ap, ◌∙◌}
use Rattle.vc_model.specs.Discipline.{Discipline}
use Rattle.vc_dtdisc.specs.Rules.{Rules}
use Rattle.vc_dict.specs.declared.dict.Dict.{Dict}
use Rattle.vc_store.specs.Moves.{Moves}
use Rattle.vc_store.specs.Reading.{Contents}
use Rattle.vc_objects.proofs.Leaving.{keeps-same, keeps-trans}
use Rattle.vc_store.specs.Collections.{IsOpen, KeepsKind, StaysOpen, disc_of, kind_of, lent_to}
use Rattle.vc_store.specs.declared.collection.Collection.{Collection}

module _ {D : Type 0} {I : Type 0} {V : I → Type 0} (meaning : (x : I) × V x → Discipline) (rules_by : D → Rules) where
  pub stays-same : (c : Collection D I V) → IsOpen (rules_by (kind_of c)) c (disc_of c meaning) → StaysOpen meaning rules_by c c
  stays-same c is = record {
    is_open = is;
    rules = refl;
    method = refl;
    lends = keeps-same (disc_of c meaning) (disc_of c meaning) (lent_to c) (lent_to c) refl refl;
  }

  pub stays-trans : (a b c : Collection D I V) → StaysOpen meaning rules_by a b → StaysOpen meaning rules_by b c → StaysOpen meaning rules_by a c
  stays-trans a b c first second = record {
    is_open = second.is_open;
    rules = second.rules ∙ first.rules;
    method = second.method ∙ first.method;
    lends =
        keeps-trans (disc_of a meaning) (disc_of b meaning) (disc_of c meaning) (lent_to a) (lent_to b) (lent_to c) first.lends second.lends;
  }

  -- where another object is made current, or none
  pub keeps-moved : (c : Collection D I V) (d : Dict) (place : Option ℕ) (answer : Bool) → Moves place answer c.best c.dict d → IsOpen (rules_by c.kind) c (disc_of c meaning)
      → KeepsKind meaning rules_by c (record { best = c.best; dict = d; kind = c.kind })
  keeps-moved c d place answer m is = record {
    kind = refl;
    stays = record {
      is_open = record { whole = m.whole (rules_by c.kind) is.whole; lent = is.lent };
      rules = refl;
      method = ap (λ (x : Contents). x.method) m.goes.moved;
      lends = keeps-same (disc_of c meaning) (disc_of c meaning) (lent_to c) (lent_to c) refl refl;
    };
  }
