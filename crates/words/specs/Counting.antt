-- What an ordered set of objects comes to when words are counted in it, and the line that is told of each object.
use Rattle.std.specs.Prelude.{◌≡◌, ℕ, List, [], ◌∷◌, ◌++◌, Option, Some, None, Result, Ok, Err, is_some, length, take, drop, decimal, nat_lt, if◌then◌else◌}
use Rattle.std.specs.Int.{w64, from_be_bytes, to_be_bytes}
use Rattle.vc_base.specs.declared.fault.OutOfMemory.{OutOfMemory}
use Rattle.vc_model.specs.Count.{next_count}
use Rattle.vc_dtdisc.specs.Rules.{Rules}
use Rattle.vc_dtdisc.specs.Shapes.{rules_of}
use Rattle.vc_dtdisc.specs.declared.shape.Shape.TheVariants.{Text}
use Rattle.vc_base.specs.declared.dict_method.DictMethod.TheVariants.{DtOset}
use Rattle.vc_store.specs.Reading.{Contents, found, put_by_method, without_key}
use Rattle.vc_store.specs.declared.put.Put.{Put}
use Rattle.vc_store.specs.declared.put.Put.TheVariants as put

-- an object is how often a word was counted, in eight bytes, and the word, which is its key
abbrev pub counted_word : ℕ → List ℕ → List ℕ
counted_word count word = to_be_bytes w64 count ++ word

abbrev pub stored_count : List ℕ → ℕ
stored_count object = if nat_lt (length object) 8 then 0 else from_be_bytes w64 (take 8 object)

abbrev pub word_of : List ℕ → List ℕ
word_of object = drop 8 object

abbrev pub tally_rules : Rules
tally_rules = rules_of (Text 8)

-- the count of the object that was found
abbrev pub count_found : Option (List ℕ) → ℕ
count_found None = 0
count_found (Some object) = stored_count object

-- an ordered set once one more object was put: where one has its key it stays out
abbrev pub put_in_set : List ℕ → List (List ℕ) → List (List ℕ)
put_in_set object objects =
    if is_some (found tally_rules (tally_rules.key object) objects) then objects
    else put_by_method DtOset tally_rules None object objects

-- a set once a word was counted: its object is taken out, and put again with the next count
abbrev pub count_one : List ℕ → List (List ℕ) → List (List ℕ)
count_one word objects =
    put_in_set (counted_word (next_count (count_found (found tally_rules word objects))) word)
    (without_key tally_rules word objects)

-- once words were counted one after another; none where one has more than 1,016 bytes
abbrev pub count_each : List (List ℕ) → List (List ℕ) → Option (List (List ℕ))
count_each [] objects = Some objects
count_each (word ∷ words) objects =
    if nat_lt 1016 (length word) then None else count_each words (count_one word objects)

-- the line of an object
abbrev pub count_line : List ℕ → List ℕ
count_line object = decimal (stored_count object) ++ 32 ∷ word_of object ++ 10 ∷ []

-- what a call answers that counts words in a set: that all of them are counted, or that one is too long; the set may get no room, too
abbrev pub Counts : Result Put OutOfMemory → List (List ℕ) → Contents → Contents → Type 0
Counts (Ok put.New) words old new = count_each words old.objects ≡ Some new.objects
Counts (Ok put.Old) words old new = count_each words old.objects ≡ Some new.objects
Counts (Ok put.WrongSize) words old new = count_each words old.objects ≡ None
Counts (Ok put.NoSegment) words old new = Unit {0}
Counts (Ok put.OutOfMemory) words old new = Unit {0}
Counts (Err why) words old new = Unit {0}
