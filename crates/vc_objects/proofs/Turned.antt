-- A dictionary that turned to another method: which objects it has then, and which cells stay.
use Rattle.vc_base.proofs.Common.{◌≡◌, ℕ, ◌-◌, ◌≤◌, Bool, true, false, not, ◌&&◌, ◌≢◌, List, [], ◌∷◌, map, length, is_some, if◌then◌else◌, IsSome, ◌==◌, Some, None, Option, unwrap_or, sym, refl, ap, ◌∙◌, subst, inl, inr, true≢false, arith, eq-eqb, eqb_tells, AllByRecursion, Blocks, body_of, contains, some_address, has_table, Layout}
use Rattle.vc_base.specs.declared.dict_method.DictMethod.{DictMethod}
use Rattle.vc_dtdisc.specs.Finds.{object_at}
use Rattle.vc_dtdisc.specs.Objects.{Object, bytes_of, dropped_by, kept_by, ordered_by}
use Rattle.vc_dtdisc.specs.Rules.{Gone, IsObject, Rules}
use Rattle.vc_dtdisc.proofs.ObjectsLemmas.{dropped_by-map, kept_by-map, ordered_by-map}
use Rattle.vc_dthash.specs.Slots.{slots_for}
use Rattle.vc_dict.specs.declared.dict.Dict.{Dict}
use Rattle.vc_dict.specs.declared.dict.Dropped.{Dropped}
use Rattle.vc_dict.specs.Listed.{holders_of}
use Rattle.vc_base.proofs.Members.{apart-cons}
use Rattle.vc_dict.specs.Orders as orders
use Rattle.vc_dict.specs.Stands.{Stands, slots_in, table_in}
use Rattle.vc_dict.specs.Turned.{CanRemethod, Remethoded}
use Rattle.vc_dict.proofs.OwnLemmas.{Stands-own, Stands-table, holder-address, holders-distinct, holders-told, none-at_0, table-apart}
use Rattle.vc_dict.proofs.PassLemmas.{differs}
use Rattle.vc_best.specs.Cells.{cells_in, rest_in}
use Rattle.vc_best.specs.declared.best.Best.{Best}
use Rattle.vc_objects.specs.Insert.{without_table}
use Rattle.vc_objects.specs.Objects.{Dictionary, Table}
use Rattle.vc_objects.specs.Remove as remove
use Rattle.vc_objects.specs.Remove.{freed_all}
use Rattle.vc_objects.specs.Leaves.{told_each}
use Rattle.vc_objects.specs.Parts.{IsWhole, dictionary_in, dictionary_of, object_of, table_of}
use Rattle.vc_objects.specs.Turn.{objects_dropped, table_left, turned_to}
use Rattle.vc_objects.specs.Turning.{CanTurn, Frees, HasDropped, TurnsTo}
use Rattle.vc_objects.proofs.Mapped.{objects-kept}
use Rattle.vc_objects.proofs.Parted.{apart-drops, apart-keeps, distinct-drops, drops, keeps, keeps-apart, length-parted, within-drops, within-keeps}
use Rattle.vc_objects.proofs.Owning.{all-objects, each-object}
use Rattle.vc_dict.proofs.HeadLemmas.{no-table-in}

-- by the truth of tests on the methods
apart_by : (u : Bool) (xs : List ℕ) (x y : ℕ) → contains xs x ≡ false → contains xs y ≡ false → contains xs (if u then x else y) ≡ false
apart_by true xs x y h k = h
apart_by false xs x y h k = k

left_by : (u : Bool) (x y : ℕ) → x ≡ (if u then 0 else y) → x ≢ 0 → (u ≡ false) × (x ≡ y)
left_by true x y e ne = absurd (ne e)
left_by false x y e ne = (refl, e)

gone_by : (u : Bool) (at slots : ℕ) → table_of (if u then 0 else at) slots ≡ (if u then None else table_of at slots)
gone_by true at slots = refl
gone_by false at slots = refl

table_by : (new old : Bool) (at slots t s : ℕ) → (new ≡ false → t ≡ 0)
    → table_of (if new && old then at else t) (if new && old then slots else s) ≡ (if new then (if old then table_of at slots else table_of t s) else None)
table_by true true at slots t s none = refl
table_by true false at slots t s none = refl
table_by false old at slots t s none = ap (λ z. table_of z s) (none refl)

brings : (t s n : ℕ) → Some n ≡ (if t == 0 then None else Some s) → t ≢ 0
brings t s n e zero =
    let f : Some n ≡ None = e ∙ ap (λ z. if z then None else Some s) (eq-eqb t 0 zero) in
    cc

some_by : (new old : Bool) (at t s n : ℕ) → new ≡ true → (old ≡ true → at ≢ 0) → (if new && not old then Some n else None) ≡ (if t == 0 then None else Some s) → (if new && old then at else t) ≢ 0
some_by true true at t s n e f h = f refl
some_by true false at t s n e f h = brings t s n h
some_by false old at t s n e f h = absurd (true≢false (sym e))

abbrev fields : DictMethod → List Object → Option ℕ → Option Table → Dictionary
fields method objects current table = record { method = method; objects = objects; current = current; table = table }

fields-same : (m n : DictMethod) (os ps : List Object) (c d : Option ℕ) (t u : Option Table) → m ≡ n → os ≡ ps → c ≡ d → t ≡ u → fields m os c t ≡ fields n ps d u
fields-same m n os ps c d t u e f g h =
    ap (λ z. fields z os c t) e ∙ (ap (λ z. fields n z c t) f ∙ (ap (λ z. fields n ps z t) g ∙ ap (λ z. fields n ps d z) h))

module _ (rules : Rules) (method : DictMethod) (d : Dict) (b : Blocks) (t s : ℕ) (can : CanTurn rules d b method t s) where
  abbrev hs : List ℕ
  hs = holders_of d b

  abbrev ks : List ℕ
  ks = keeps method rules b (holders_of d b)

  abbrev gs : List ℕ
  gs = drops method rules b (holders_of d b)

  pub can-remethod : CanRemethod rules d b method t s
  can-remethod = record { holders = hs; stands = can.whole.stands; needs = can.needs; fits = can.fits; none = can.none }

  -- neither table is one of the holders
  old-apart : contains hs (table_in d).0 ≡ false
  old-apart = table-apart rules d b hs can.whole.stands

  new-apart : contains hs t ≡ false
  new-apart = elim (eqb_tells t 0) as (λ _. contains hs t ≡ false) [
    | inl same ↦ subst (λ z. contains hs z ≡ false) (sym same.1) (none-at_0 _ _ _ _ can.whole.stands)
    | inr apart ↦ (can.fits apart.1).apart
  ]

  tables-apart : (a : ℕ) → contains hs a ≡ true → contains ((table_in d).0 ∷ t ∷ []) a ≡ false
  tables-apart a h = apart-cons (table_in d).0 (t ∷ []) a (differs hs a (table_in d).0 h old-apart) (apart-cons t [] a (differs hs a t h new-apart) refl)

  module _ (d' : Dict) (b2 : Blocks) (answer : Dropped) (done : Remethoded rules method t s (holders_of d b) d b d' b2 answer) where
    -- those that were dropped
    pub fewer-turned : d'.count ≤ d.count
    fewer-turned = omega (arith, length-parted method rules b hs, can.whole.stands.count, done.stands.count)

    pub count-dropped : d.count - d'.count ≡ length gs
    count-dropped = omega (arith, length-parted method rules b hs, can.whole.stands.count, done.stands.count)

    pub has-dropped : HasDropped b2 answer.first.0 (d.count - d'.count)
    has-dropped = record {
      holders = gs;
      dropped = done.dropped;
      distinct = distinct-drops method rules b hs (holders-distinct _ _ _ _ can.whole.stands);
      many = count-dropped;
    }

    object-turned : (a : ℕ) → contains hs a ≡ true → object_at b2 a ≡ object_at b a
    object-turned a h = done.keeps.bodies a (tables-apart a h)

    pub drops-told : map (object_of b2) gs ≡ objects_dropped rules method (dictionary_of d b)
    drops-told =
        objects-kept b b2 gs (λ a h. object-turned a (within-drops method rules b hs a h))
        ∙ (sym (dropped_by-map (object_of b) bytes_of method rules (orders.ordered_by method rules b hs))
        ∙ ap (dropped_by bytes_of method rules) (sym (ordered_by-map (object_of b) bytes_of method rules hs)))

    -- the table that is left
    left-told : answer.table.0 ≢ 0 → (has_table method ≡ false) × (answer.table.0 ≡ (table_in d).0)
    left-told ne = left_by (has_table method) answer.table.0 (table_in d).0 done.left ne

    pub left-there : (b3 : Blocks) → ((a : ℕ) → contains gs a ≡ false → b3 a ≡ b2 a) → answer.table.0 ≢ 0 → IsSome (b3 answer.table.0)
    left-there b3 same ne =
        let e = (left-told ne).1 in
        subst (λ z. IsSome (b3 z)) (sym e)
        (ap is_some (same (table_in d).0 (apart-drops method rules b hs (table_in d).0 old-apart)) ∙ (done.keeps.there (table_in d).0 ∙ ((Stands-table _ _ _ _ can.whole.stands).some (λ z. ne (e ∙ z))).there))

    pub left-table : (r : Layout ℕ) → without_table r (table_of answer.table.0 (slots_in d)) ≡ without_table r (table_left (dictionary_of d b) method)
    left-table r = ap (without_table r) (ap (λ z. table_of z (slots_in d)) done.left ∙ gone_by (has_table method) (table_in d).0 (slots_in d))

    not-left : (a : ℕ) → a ≢ 0 → a ≢ (table_in d).0 → a ≢ answer.table.0
    not-left a some ne e = ne (e ∙ (left-told (λ z. some (e ∙ z))).1)

    table-zero : has_table method ≡ false → (table_in d').0 ≡ 0
    table-zero h = no-table-in _ _ _ _ (ap has_table done.method ∙ h) done.stands

    own-apart : contains hs (table_in d').0 ≡ false
    own-apart = subst (λ z. contains hs z ≡ false) (sym done.table) (apart_by (has_table method && has_table d.method) hs (table_in d).0 t old-apart new-apart)

    module _ (b' : Blocks) (stays : (a : ℕ) → contains (drops method rules b (holders_of d b)) a ≡ false → a ≢ answer.table.0 → b' a ≡ b2 a) where
      table-stays : (a : ℕ) → a ≢ 0 → (table_in d').0 ≡ a → b' a ≡ b2 a
      table-stays a some e =
          stays a (apart-drops method rules b hs a (subst (λ z. contains hs z ≡ false) e own-apart))
          (λ same. some (sym e ∙ table-zero (left-told (λ z. some (same ∙ z))).0))

      holder-stays : (a : ℕ) → a ≢ 0 → contains ks a ≡ true → b' a ≡ b2 a
      holder-stays a some h =
          stays a (keeps-apart method rules b hs (holders-distinct _ _ _ _ can.whole.stands) a h)
          (not-left a some (λ e. differs hs a (table_in d).0 (within-keeps method rules b hs a h) old-apart (sym e)))

      own-stays : (a : ℕ) → a ≢ 0 → contains ((table_in d').0 ∷ ks) a ≡ true → b' a ≡ b2 a
      own-stays a some w = elim (eqb_tells (table_in d').0 a) as (λ _. b' a ≡ b2 a) [
        | inl same ↦ table-stays a some same.1
        | inr apart ↦ holder-stays a some (rw apart.0 at w)
      ]

      stands-then : Stands rules d' b' ks
      stands-then = Stands-own rules d' b2 b' ks own-stays done.stands

      told : holders_of d' b' ≡ ks
      told = holders-told rules d' b' ks stands-then

      object-then : (a : ℕ) → contains ks a ≡ true → object_at b' a ≡ object_at b a
      object-then a h =
          let w = holder-address rules d' b' ks a stands-then h in
          let some : a ≢ 0 = λ zero. let is = w.some in omega (arith, is, zero) in
          ap (λ o. body_of (unwrap_or o [])) (holder-stays a some h) ∙ object-turned a (within-keeps method rules b hs a h)

      objects-then : map (object_of b') (holders_of d' b') ≡ map (object_of b) ks
      objects-then = ap (map (object_of b')) told ∙ objects-kept b b' ks object-then

      pub dictionary-turned : dictionary_of d' b' ≡ turned_to rules method (dictionary_of d b) (table_of t s)
      dictionary-turned =
          fields-same d'.method method (map (object_of b') (holders_of d' b')) (kept_by bytes_of method rules (ordered_by bytes_of method rules (map (object_of b) hs))) (some_address d'.current.0) None
          (table_of (table_in d').0 (slots_in d')) (if has_table method then (if has_table d.method then table_of (table_in d).0 (slots_in d) else table_of t s) else None)
          done.method
          (objects-then ∙ (sym (kept_by-map (object_of b) bytes_of method rules (orders.ordered_by method rules b hs)) ∙ ap (kept_by bytes_of method rules) (sym (ordered_by-map (object_of b) bytes_of method rules hs))))
          (ap some_address done.current)
          (ap (λ z. table_of z (slots_in d')) done.table ∙ (ap (λ z. table_of (if has_table method && has_table d.method then (table_in d).0 else t) z) done.slots
          ∙ table_by (has_table method) (has_table d.method) (table_in d).0 (slots_in d) t s none-then))
        where
          none-then : has_table method ≡ false → t ≡ 0
          none-then h = sym (ap (λ z. if z && has_table d.method then (table_in d).0 else t) h) ∙ (sym done.table ∙ table-zero h)

      pub whole-turned : IsWhole rules d' b'
      whole-turned = record {
        stands = subst (λ xs. Stands rules d' b' xs) (sym told) stands-then;
        current = ap (λ z. contains (0 ∷ holders_of d' b') z) done.current;
        table = λ h. subst (λ z. z ≢ 0) (sym done.table)
            (some_by (has_table method) (has_table d.method) (table_in d).0 t s (slots_for d.count) (sym (ap has_table done.method) ∙ h) can.whole.table can.needs);
        objects =
            subst (λ os. AllByRecursion (λ o. IsObject o.bytes) os) (sym objects-then)
            (all-objects IsObject b ks (λ a h. each-object IsObject b hs can.whole.objects a (within-keeps method rules b hs a h)));
      }

      pub within-turned : (a : ℕ) → contains hs a ≡ false → contains (holders_of d' b') a ≡ false
      within-turned a h = ap (λ xs. contains xs a) told ∙ apart-keeps method rules b hs a h

      pub others-turned : (a : ℕ) → a ≢ 0 → a ≢ t → a ≢ (table_in d).0 → contains hs a ≡ false → b' a ≡ b a
      others-turned a some new old h =
          stays a (apart-drops method rules b hs a h) (not-left a some old)
          ∙ done.keeps.others a (apart-cons (table_in d).0 (t ∷ []) a (λ e. old (sym e)) (apart-cons t [] a (λ e. new (sym e)) refl)) h

-- so it is with what a best region holds
module _ {I : Type 0} {V : I → Type 0} (rules : Rules) (method : DictMethod) (d : Dict) (t s : ℕ) (before turned dropped after : Best I V) (can : CanTurn rules d (cells_in before) method t s)
    (d' : Dict) (answer : Dropped) (done : Remethoded rules method t s (holders_of d (cells_in before)) d (cells_in before) d' (cells_in turned) answer) (same : rest_in turned ≡ rest_in before)
    (told told' : Gone) (frees : Frees (drops method rules (cells_in before) (holders_of d (cells_in before))) (cells_in turned) (rest_in turned) told (cells_in dropped) (rest_in dropped) told')
    (table : rest_in after ≡ without_table (rest_in dropped) (table_of answer.table.0 (slots_in d))) (others : (a : ℕ) → a ≢ answer.table.0 → cells_in after a ≡ cells_in dropped a) where
  gone-told : map (object_of (cells_in turned)) (drops method rules (cells_in before) (holders_of d (cells_in before))) ≡ objects_dropped rules method (dictionary_in d before)
  gone-told = drops-told rules method d (cells_in before) t s can d' (cells_in turned) answer done

  stays : (a : ℕ) → contains (drops method rules (cells_in before) (holders_of d (cells_in before))) a ≡ false → a ≢ answer.table.0 → cells_in after a ≡ cells_in turned a
  stays a h ne = others a ne ∙ frees.others a h

  pub turns-to : TurnsTo rules method t s before d told after d' told'
  turns-to = record {
    region =
        table
        ∙ (left-table rules method d (cells_in before) t s can d' (cells_in turned) answer done (rest_in dropped)
        ∙ ap (λ (r : Layout ℕ). without_table r (table_left (dictionary_in d before) method)) (frees.region
        ∙ (ap (λ (r : Layout ℕ). freed_all r (map (object_of (cells_in turned)) (drops method rules (cells_in before) (holders_of d (cells_in before))))) same
        ∙ ap (λ (os : List Object). freed_all (rest_in before) os) gone-told)));
    dict = dictionary-turned rules method d (cells_in before) t s can d' (cells_in turned) answer done (cells_in after) stays;
    gone = frees.told ∙ ap (λ (os : List Object). told_each (remove.bytes_of os) told) gone-told;
    whole = whole-turned rules method d (cells_in before) t s can d' (cells_in turned) answer done (cells_in after) stays;
    kind = done.kind;
    table = done.table;
    within = within-turned rules method d (cells_in before) t s can d' (cells_in turned) answer done (cells_in after) stays;
    others = others-turned rules method d (cells_in before) t s can d' (cells_in turned) answer done (cells_in after) stays;
  }
