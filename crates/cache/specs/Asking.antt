-- What a table of keys tells when it is asked for keys, and which of them go.
use Rattle.std.specs.Prelude.{◌≡◌, ℕ, List, [], ◌∷◌, ◌++◌, Bool, true, false, is_some, map, take, drop, fold, flat_map, codes, if◌then◌else◌}
use Rattle.vc_dtdisc.specs.Rules.{Rules}
use Rattle.vc_dtdisc.specs.Shapes.{rules_of}
use Rattle.vc_dtdisc.specs.declared.shape.Shape.TheVariants.{Whole}
use Rattle.vc_store.specs.Answers.{is_there}
use Rattle.vc_store.specs.Reading.{found, is_object}
use Rattle.vc_store.specs.declared.put.Put.{Put}
use Rattle.vc_store.specs.declared.put.Put.TheVariants as put

-- an object is a key
abbrev pub key_rules : Rules
key_rules = rules_of Whole

-- the line of a key
abbrev pub key_line : List ℕ → List ℕ → List ℕ
key_line word key = word ++ key ++ 10 ∷ []

-- the keys that a table has, the oldest first, and the lines that were told
pub record KeyTable : Type 0 where
  pub keys : List (List ℕ)
  pub lines : List ℕ

-- a table of no key that told nothing
abbrev pub new_table : KeyTable
new_table = record { keys = []; lines = [] }

-- one without so many of its oldest keys, each of which is told
abbrev pub without_oldest : ℕ → KeyTable → KeyTable
without_oldest gone t = record {
  keys = drop gone t.keys;
  lines = t.lines ++ flat_map (key_line (codes "gone ")) (take gone t.keys);
}

-- one that was asked for a key: where it hadn't the key, so many others went, and the key is its youngest
abbrev pub after_asking : ℕ → List ℕ → KeyTable → KeyTable
after_asking gone key t =
    if is_some (found key_rules key t.keys) then record { keys = t.keys; lines = t.lines ++ key_line (codes "hit ") key }
    else record {
      keys = (without_oldest gone t).keys ++ key ∷ [];
      lines = (without_oldest gone t).lines ++ key_line (codes "new ") key;
    }

-- asked for keys one after another: with each the number of those that went for it
abbrev pub asked_each : List (ℕ × List ℕ) → KeyTable → KeyTable
asked_each runs t = fold (λ t run. after_asking run.0 run.1 t) t runs

-- the lines are those of a new table, where so many keys went for each as the discipline refused room for
abbrev pub Replies : List (List ℕ) → List ℕ → Type 0
Replies keys lines =
    (runs : List (ℕ × List ℕ)) × (map (λ run. run.1) runs ≡ keys) × (lines ≡ (asked_each runs new_table).lines)

-- an answer tells of a wrong size only where a key has no byte, or more than 1,024
abbrev pub IsSized : Put → List ℕ → Type 0
IsSized put.WrongSize key = is_object key ≡ false
IsSized other key = Unit {0}

-- what single calls make of the keys and of the lines: the oldest went, or there was none
abbrev pub Drops : Bool → List (List ℕ) → List (List ℕ) → List ℕ → List ℕ → Type 0
Drops true old new before after = (key : List ℕ) × (old ≡ key ∷ new) × (after ≡ before ++ key_line (codes "gone ") key)
Drops false old new before after = (old ≡ []) × (new ≡ old) × (after ≡ before)

-- a new key is the youngest, or not there
abbrev pub PutsKey : Put → List ℕ → List (List ℕ) → List (List ℕ) → Type 0
PutsKey put key old new = new ≡ (if is_there put then old ++ key ∷ [] else old)

-- so once some of the oldest went
abbrev pub Admits : Put → List ℕ → List (List ℕ) → List (List ℕ) → List ℕ → List ℕ → Type 0
Admits put key old new before after =
    (gone : ℕ) × PutsKey put key (drop gone old) new × (after ≡ before ++ flat_map (key_line (codes "gone ")) (take gone old))

-- a key was asked for, where it is there then
abbrev pub AsksKey : Put → List ℕ → List (List ℕ) → List (List ℕ) → List ℕ → List ℕ → Type 0
AsksKey put key old new before after =
    is_there put ≡ true → (gone : ℕ) × (after_asking gone key (record { keys = old; lines = before }) ≡ record { keys = new; lines = after })
