-- What a dictionary stands for, and what a call that changes none of it leaves.
use Rattle.vc_base.proofs.Common.{◌≡◌, ℕ, true, false, ◌≢◌, List, [], ◌∷◌, map, sym, refl, ap, ◌∙◌, subst, inl, inr, true≢false, eqb_tells, AllByRecursion, Blocks, contains, some_address, has_table, Discipline}
use Rattle.vc_base.specs.declared.dict_method.DictMethod.{DictMethod}
use Rattle.vc_dtdisc.specs.Objects.{Object}
use Rattle.vc_dtdisc.specs.Rules.{IsObject, Rules}
use Rattle.vc_dict.specs.Listed.{holders_of}
use Rattle.vc_base.proofs.Members.{apart-head, apart-tail, apart-cons}
use Rattle.vc_dict.specs.Stands.{Became, Stands, slots_in, table_in}
use Rattle.vc_dict.specs.declared.dict.Dict.{Dict}
use Rattle.vc_dict.proofs.OwnLemmas.{holders-told, table-apart}
use Rattle.vc_best.specs.Cells.{StaysButCells, cells_in, labelled_blocks}
use Rattle.vc_seg.specs.Boxed.{disc_in_box}
use Rattle.vc_best.specs.Parts.{disc_in, segments_in}
use Rattle.vc_best.specs.declared.best.Best.{Best}
use Rattle.vc_best.proofs.CellCalls.{stays-segments}
use Rattle.vc_objects.specs.Leaves.{Looks}
use Rattle.vc_objects.specs.Objects.{Dictionary, own_blocks}
use Rattle.vc_objects.specs.Parts.{IsWhole, dictionary_in, dictionary_of, object_of, table_of}
use Rattle.vc_objects.proofs.Leaving.{keeps-same, none-at}
use Rattle.vc_objects.proofs.Mapped.{addresses-mapped, objects-kept}
use Rattle.vc_objects.proofs.Owning.{owned-within}

-- a dictionary by its parts
abbrev pub dictionary : DictMethod → List Object → ℕ → ℕ → ℕ → Dictionary
dictionary method objects current table slots = record { method = method; objects = objects; current = some_address current; table = table_of table slots }

pub dictionary-same : (m m' : DictMethod) (os os' : List Object) (c c' t t' s s' : ℕ) → m ≡ m' → os ≡ os' → c ≡ c' → t ≡ t' → s ≡ s' → dictionary m os c t s ≡ dictionary m' os' c' t' s'
dictionary-same m m' os os' c c' t t' s s' e f g h i =
    ap (λ z. dictionary z os c t s) e ∙ ap (λ z. dictionary m' z c t s) f ∙ ap (λ z. dictionary m' os' z t s) g ∙ ap (λ z. dictionary m' os' c' z s) h ∙ ap (λ z. dictionary m' os' c' t' z) i

-- the dictionary that stands for these holders
pub dictionary-told : (rules : Rules) (d : Dict) (b : Blocks) (xs : List ℕ) → Stands rules d b xs → dictionary_of d b ≡ dictionary d.method (map (object_of b) xs) d.current.0 (table_in d).0 (slots_in d)
dictionary-told rules d b xs s = ap (λ z. dictionary d.method (map (object_of b) z) d.current.0 (table_in d).0 (slots_in d)) (holders-told rules d b xs s)

-- it is whole where it stands for these holders and the rest holds of them
pub IsWhole-told : (rules : Rules) (d : Dict) (b : Blocks) (xs : List ℕ) → Stands rules d b xs → contains (0 ∷ xs) d.current.0 ≡ true → (has_table d.method ≡ true → (table_in d).0 ≢ 0) → AllByRecursion (λ o. IsObject o.bytes) (map (object_of b) xs) → IsWhole rules d b
IsWhole-told rules d b xs s current table objects =
    let told : xs ≡ holders_of d b = sym (holders-told rules d b xs s) in
    record {
      stands = subst (λ z. Stands rules d b z) told s;
      current = subst (λ z. contains (0 ∷ z) d.current.0 ≡ true) told current;
      table = table;
      objects = subst (λ z. AllByRecursion (λ o. IsObject o.bytes) (map (object_of b) z)) told objects;
    }

-- each of the holders is apart from the table
pub apart-table : (rules : Rules) (d : Dict) (b : Blocks) (xs : List ℕ) (a : ℕ) → Stands rules d b xs → contains xs a ≡ true → contains ((table_in d).0 ∷ []) a ≡ false
apart-table rules d b xs a s w =
    apart-cons (table_in d).0 [] a (λ e. true≢false (sym w ∙ ap (λ z. contains xs z) (sym e) ∙ table-apart rules d b xs s)) refl

module _ {I : Type 0} {V : I → Type 0} (meaning : (x : I) × V x → Discipline) (rules : Rules) (before after : Best I V) (old new : Dict) (whole : IsWhole rules old (cells_in before))
    (t : Became rules (holders_of old (cells_in before)) old (cells_in before) new (cells_in after) (holders_of old (cells_in before)) old.current.0) (stays : StaysButCells before after) where
  -- the holders
  abbrev xs : List ℕ
  xs = holders_of old (cells_in before)

  same-objects : map (object_of (cells_in after)) xs ≡ map (object_of (cells_in before)) xs
  same-objects =
      objects-kept (cells_in before) (cells_in after) xs
      (λ a w. t.keeps.bodies a (apart-table rules old (cells_in before) xs a whole.stands w))

  same-dictionary : dictionary_in new after ≡ dictionary_in old before
  same-dictionary =
      dictionary-told rules new (cells_in after) xs t.stands
      ∙ dictionary-same new.method old.method (map (object_of (cells_in after)) xs) (map (object_of (cells_in before)) xs) new.current.0 old.current.0 (table_in new).0 (table_in old).0 (slots_in new) (slots_in old)
      t.method same-objects t.current (ap (λ z. z.0) t.table) t.slots

  still-whole : IsWhole rules new (cells_in after)
  still-whole =
      IsWhole-told rules new (cells_in after) xs t.stands
      (subst (λ z. contains (0 ∷ xs) z ≡ true) (sym t.current) whole.current)
      (λ h e. whole.table (sym (ap has_table t.method) ∙ h) (sym (ap (λ z. z.0) t.table) ∙ e))
      (subst (λ z. AllByRecursion (λ o. IsObject o.bytes) z) (sym same-objects) whole.objects)

  others-stay : (a : ℕ) → contains (own_blocks (dictionary_in old before)) a ≡ false → cells_in after a ≡ cells_in before a
  others-stay a apart = elim (eqb_tells a 0) as (λ _. cells_in after a ≡ cells_in before a) [
    | inl zero ↦ ap (cells_in after) zero.1 ∙ none-at after ∙ sym (none-at before) ∙ ap (cells_in before) (sym zero.1)
    | inr some ↦
        let neither : contains ((table_in old).0 ∷ xs) a ≡ false = sym (owned-within old (cells_in before) a some.1) ∙ apart in
        t.keeps.others a (apart-cons (table_in old).0 [] a (apart-head (table_in old).0 xs a neither) refl) (apart-tail (table_in old).0 xs a neither)
  ]

  -- a call that changes no holder only looks
  pub Looks-became : Looks meaning rules before old after new
  Looks-became =
      let disc : disc_in meaning after ≡ disc_in meaning before = ap (disc_in_box meaning) stays.disc in
      record {
        region = stays.layout;
        dict = same-dictionary;
        disc = disc;
        leaves = record {
          whole = still-whole;
          kind = t.kind;
          rest = record {
            disc = keeps-same (disc_in meaning before) (disc_in meaning after) (segments_in before) (segments_in after) disc (stays-segments before after stays);
            labelled = ap labelled_blocks stays.layout;
            others = λ a apart _. others-stay a apart;
            fresh = λ a within apart. absurd (true≢false (sym within ∙ ap (λ d. contains (own_blocks d) a) same-dictionary ∙ apart));
          };
        };
      }

-- after a look the holders are the same
pub holders-looked : (old new : Dict) (b b' : Blocks) → dictionary_of new b' ≡ dictionary_of old b → holders_of new b' ≡ holders_of old b
holders-looked old new b b' e =
    sym (addresses-mapped b' (holders_of new b')) ∙ ap (λ d. map (λ (o : Object). o.at) d.objects) e ∙ addresses-mapped b (holders_of old b)
