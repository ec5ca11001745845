-- The dictionaries of a store that have the rules of one of them, as layers of view paths.
use Rattle.std.specs.Prelude.{◌≡◌, ℕ, Bool, false, Option, None, Some, option_map, ◌==◌}
use Rattle.vc_model.specs.Discipline.{Discipline}
use Rattle.vc_base.specs.Methods.{method_number}
use Rattle.vc_base.specs.declared.dict_method.DictMethod.{DictMethod}
use Rattle.vc_base.specs.declared.dict_method.DictMethod.TheVariants.{DtList}
use Rattle.vc_dtdisc.specs.Rules.{Rules}
use Rattle.vc_dict.specs.declared.dict.Dict.{Dict}
use Rattle.vc_best.specs.Cells.{StaysButCells}
use Rattle.vc_objects.specs.Insert.{empty_dictionary}
use Rattle.vc_objects.specs.Objects.{Dictionary}
use Rattle.vc_objects.specs.Parts.{dictionary_in}
use Rattle.vc_paths.specs.Layers.{Layer, Layered}
use Rattle.vc_store.specs.Stores.Stores.{AllStay, HasDict, IsOpen, StaysOpen, dict_at, disc_of, kind_at, kinds_of, numbers_of, rules_at}
use Rattle.vc_store.specs.declared.stores.store.Store.{Store}

-- a dictionary, or a list of no objects where there is none
abbrev pub dictionary_or : Option Dictionary → Dictionary
dictionary_or None = empty_dictionary DtList
dictionary_or (Some d) = d

-- whether there is a dictionary of a method
abbrev pub is_by : DictMethod → Option Dict → Bool
is_by method None = false
is_by method (Some d) = method_number d.method == method_number method

module _ {D : Type 0} {I : Type 0} {V : I → Type 0} where
  -- the dictionary of a number, where there is one: its objects with their addresses, its current one and its table
  abbrev pub held_at : Store D I V → ℕ → Option Dictionary
  held_at s n = option_map (λ d. dictionary_in d s.best) (dict_at s n)

  -- over some discipline the store is open, and a number is that of a dictionary whose kind has the rules of another one's
  pub record HasLayer (rules_by : D → Rules) (s : Store D I V) (like d : ℕ) : Type 0 where
    pub disc : Discipline
    pub is_open : IsOpen rules_by s disc
    pub there : HasDict s d
    pub rules : rules_at rules_by s d ≡ rules_at rules_by s like

  -- the dictionaries of a store as layers by the rules of one of them, all of the kind 1; an empty one where there is none
  abbrev pub layers_of : (D → Rules) → Store D I V → ℕ → ℕ → Layer
  layers_of rules_by s like d =
      record {
        method = (dictionary_or (held_at s d)).method;
        kind = 1;
        rules = rules_at rules_by s like;
        objects = (dictionary_or (held_at s d)).objects;
      }

  abbrev pub layered_of : (D → Rules) → Store D I V → ℕ → Layered
  layered_of rules_by s like =
      record {
        Has = HasLayer rules_by s like;
        layer = layers_of rules_by s like;
      }

  -- the region but for its cells, its discipline, the numbers, the kinds, and each dictionary with its current object stay, and over whatever discipline the store was open, it is still
  pub record Keeps (rules_by : D → Rules) (old new : Store D I V) : Type 0 where
    pub region : StaysButCells old.best new.best
    pub numbers : numbers_of new ≡ numbers_of old
    pub kinds : kinds_of new ≡ kinds_of old
    pub dicts : (n : ℕ) → held_at new n ≡ held_at old n
    pub is_open : (disc : Discipline) → IsOpen rules_by old disc → IsOpen rules_by new disc

  -- of whatever store looks left this one, it shows the same, and is open where that was
  abbrev pub ShowsKept : (D → Rules) → Store D I V → Type 0
  ShowsKept rules_by new = (old : Store D I V) → Keeps rules_by old new → AllStay old new

  abbrev pub StaysKept : ((x : I) × V x → Discipline) → (D → Rules) → Store D I V → Type 0
  StaysKept meaning rules_by new =
      (old : Store D I V) → Keeps rules_by old new → IsOpen rules_by old (disc_of old meaning)
      → StaysOpen meaning rules_by old new

  -- each kind of the store has these rules
  abbrev pub HaveRules : (D → Rules) → Store D I V → Rules → Type 0
  HaveRules rules_by s rules = (n : ℕ) (kind : D) → kind_at s n ≡ Some kind → rules_by kind ≡ rules

  -- over some discipline the store is open, a number is that of one of its dictionaries, and each of its kinds has the rules of that one's
  pub record AreAlike (rules_by : D → Rules) (s : Store D I V) (like : ℕ) : Type 0 where
    pub layer : HasLayer rules_by s like like
    pub kinds : HaveRules rules_by s (rules_at rules_by s like)

  -- whether a number is that of a dictionary of a method
  abbrev pub is_of : Store D I V → DictMethod → ℕ → Bool
  is_of s method n = is_by method (dict_at s n)
