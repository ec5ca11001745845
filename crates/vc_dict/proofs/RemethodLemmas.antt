-- A dictionary made of what its new method keeps.
use Rattle.vc_base.proofs.Common.{◌≡◌, ℕ, Bool, true, false, not, ◌&&◌, ◌≢◌, List, [], ◌∷◌, length, if◌then◌else◌, ◌==◌, Some, None, Option, sym, refl, ap, ◌∙◌, subst, inl, inr, true≢false, arith, eq-eqb, eqb_tells, nil_from_length, IsTotalOrder, Blocks, KeepsBut, contains, has_table, is_ordered}
use Rattle.vc_base.specs.declared.addr.Addr.{Addr}
use Rattle.vc_base.specs.declared.dict_method.DictMethod.{DictMethod}
use Rattle.vc_dtdisc.specs.Rules.{Rules}
use Rattle.vc_dtdisc.specs.Finds.{object_at}
use Rattle.vc_dtlist.specs.declared.dt_list.DtList.{DtList}
use Rattle.vc_dtlist.specs.Linked.{StandsFor}
use Rattle.vc_dtlist.proofs.KeptLemmas.{StandsFor-kept}
use Rattle.vc_dthash.specs.declared.dt_hash.DtHash.{DtHash}
use Rattle.vc_dthash.specs.Hashed.{CanChain, HasTable, HashFor, IsTable}
use Rattle.vc_dthash.specs.Slots.{slots_for, wanted_slots}
use Rattle.vc_dthash.proofs.HashLemmas.{HasTable-kept}
use Rattle.vc_dtord.specs.Ordered.{IsSorted}
use Rattle.vc_dtord.proofs.SortedLemmas.{IsSorted-same}
use Rattle.vc_dict.specs.declared.dict.Dict.{Dict}
use Rattle.vc_dict.specs.declared.form.Form.{Form}
use Rattle.vc_base.proofs.Members.{apart-head, apart-tail, apart-cons}
use Rattle.vc_dict.specs.Methods.{slots_between}
use Rattle.vc_dict.specs.Orders.{dropped_by, kept_by, ordered_by}
use Rattle.vc_dict.specs.Forming.{CanTakeForm, IsInForm}
use Rattle.vc_dict.specs.Stands.{IsForm, Stands, slots_at, slots_in, table_at, table_in}
use Rattle.vc_dict.specs.Turned.{CanRemethod, Remethoded}
use Rattle.vc_dict.specs.Weeding.{CanSettle, IsSettled, Settled}
use Rattle.vc_dict.proofs.DictLemmas.{Stands-unique}
use Rattle.vc_dict.proofs.HeadLemmas.{empty-hash, ordered_plain}
use Rattle.vc_dict.proofs.OwnLemmas.{Stands-table, none-at_0}
use Rattle.vc_dict.proofs.PassLemmas.{apart_back, differs}
use Rattle.vc_dict.proofs.TurnedLemmas.{AreDropped-chain, IsSorted-ordered, IsSorted-turned, dropped_by_same, kept_by_same, length-ordered, no_block, within_kept_by, within_ordered}

-- a hash that stands for nothing over whatever blocks has no slots
pub no_slots : (h : DtHash) (rules : Rules) → HashFor rules h (λ a. None) [] → h.slots ≡ 0
no_slots h rules s = elim (eqb_tells h.table.0 0) as (λ _. h.slots ≡ 0) [
  | inl same ↦ s.table.none same.1
  | inr apart ↦ absurd (true≢false (sym (s.table.some apart.1).there))
]

-- it wants a first table
pub first_wanted : (h : DtHash) (old new : DictMethod) (count : ℕ) → h.slots ≡ 0 → has_table old ≡ false → has_table new ≡ true → wanted_slots h.slots h.count count ≡ slots_between old new count
first_wanted h old new count e f g =
    let one : wanted_slots h.slots h.count count ≡ Some (slots_for count) = ap (λ s. wanted_slots s h.count count) e in
    let two : slots_between old new count ≡ Some (slots_for count) = rw (f, g) refl in
    one ∙ sym two

by_both : (p q : Bool) (o : Option ℕ) → q ≡ true → None ≡ (if p && not q then o else None)
by_both true true o e = refl
by_both false true o e = refl
by_both true false o e = absurd (true≢false (sym e))
by_both false false o e = refl

pub none_wanted : (old new : DictMethod) (count : ℕ) → has_table old ≡ true → None ≡ slots_between old new count
none_wanted old new count f = by_both (has_table new) (has_table old) (Some (slots_for count)) f

pub if_number : (t : Bool) (x y : Addr) → (if t then x else y).0 ≡ (if t then x.0 else y.0)
if_number true x y = refl
if_number false x y = refl

table_before : (rules : Rules) (d : Dict) (b : Blocks) (method : DictMethod) (block size : ℕ) (holders : List ℕ) (t : Bool) → CanRemethod rules d b method block size → Stands rules d b holders → HasTable b holders (if t then (table_in d).0 else block) (if t then slots_in d else size)
table_before rules d b method block size holders true r s = Stands-table rules d b holders s
table_before rules d b method block size holders false r s = record {
  none = r.none;
  some = λ ne. subst (λ z. IsTable b z block size) (Stands-unique rules rules d b r.holders holders r.stands s) (r.fits ne);
}

-- a change to a set or bag from another method brings a table
need_block : (new old : Bool) (block size n : ℕ) → new ≡ true → old ≡ false → (if new && not old then Some n else None) ≡ (if block == 0 then None else Some size) → block ≢ 0
need_block true false block size n e f h zero =
    let some : Some n ≡ None = h ∙ ap (λ z. if z then None else Some size) (eq-eqb block 0 zero) in
    cc
need_block true true block size n e f h zero = absurd (true≢false f)
need_block false old block size n e f h zero = absurd (true≢false (sym e))

-- without a table there was no holder
empty_by : (rules : Rules) (d : Dict) (b : Blocks) (method : DictMethod) (block size : ℕ) (holders : List ℕ) (t : Bool) → has_table d.method ≡ t → CanRemethod rules d b method block size → Stands rules d b holders → has_table method ≡ true → (if has_table method && has_table d.method then (table_in d).0 else block) ≡ 0 → length holders ≡ 0
empty_by rules d b method block size holders true e r s h zero =
    let old : (table_in d).0 ≡ 0 = sym (ap (λ z. if z && has_table d.method then (table_in d).0 else block) h ∙ ap (λ z. if z then (table_in d).0 else block) e) ∙ zero in
    ap length (empty-hash rules d.method d.heads b holders e s.form s.heads old)
empty_by rules d b method block size holders false e r s h zero =
    let new : block ≡ 0 = sym (ap (λ z. if z && has_table d.method then (table_in d).0 else block) h ∙ ap (λ z. if z then (table_in d).0 else block) e) ∙ zero in
    absurd (need_block (has_table method) (has_table d.method) block size (slots_for d.count) h e r.needs new)

-- which of two tables it has: neither is one of the holders
not_both : (t : Bool) (old block a : ℕ) → contains (old ∷ block ∷ []) a ≡ false → a ≢ (if t then old else block)
not_both true old block a h e = apart-head old (block ∷ []) a h (sym e)
not_both false old block a h e = apart-head block [] a (apart-tail old (block ∷ []) a h) (sym e)

abbrev no_address : Addr
no_address = record { 0 = 0 }

-- a hash that takes a list and a table
abbrev pub hash_with : DtList → Addr → ℕ → ℕ → DtHash
hash_with list table slots count = record { first = list.first; last = list.last; table = table; slots = slots; count = count }

-- it is being turned: its holders are a list in the method's order, which it takes with the table that it has then
pub record Turning (rules : Rules) (method : DictMethod) (d : Dict) (b b1 : Blocks) (block size : ℕ) (holders : List ℕ) (list : DtList) (table : Addr) (slots : ℕ) : Type 0 where
  pub can : CanRemethod rules d b method block size
  pub stands : Stands rules d b holders
  pub order : IsTotalOrder rules.compare
  pub listed : StandsFor list b1 (ordered_by method rules b holders)
  pub keeps : KeepsBut holders b b1
  pub table_is : table.0 ≡ (if has_table method && has_table d.method then (table_in d).0 else block)
  pub slots_is : slots ≡ (if has_table method && has_table d.method then slots_in d else size)

-- and of these it keeps some in the form of the method
module _ {rules : Rules} {method : DictMethod} {d : Dict} {b b1 : Blocks} {block size : ℕ} {holders : List ℕ} {list : DtList} {table : Addr} {slots : ℕ} (turning : Turning rules method d b b1 block size holders list table slots) where
  open turning use {can as r, stands as s, order, listed as ls, keeps, table_is as te, slots_is as se}

  abbrev xs : List ℕ
  xs = ordered_by method rules b holders

  abbrev ys : List ℕ
  ys = kept_by method rules b (ordered_by method rules b holders)

  abbrev zs : List ℕ
  zs = dropped_by method rules b (ordered_by method rules b holders)

  abbrev both : Bool
  both = has_table method && has_table d.method

  abbrev whole : DtHash
  whole = hash_with list table slots d.count

  table-was : HasTable b holders (if both then (table_in d).0 else block) (if both then slots_in d else size)
  table-was = table_before rules d b method block size holders both r s

  long : length xs ≡ length holders
  long = length-ordered method rules b holders

  xs-within : (a : ℕ) → contains holders a ≡ false → contains xs a ≡ false
  xs-within a h = within_ordered method rules b holders a h

  table-now : HasTable b1 xs table.0 slots
  table-now =
      let moved : HasTable b1 xs (if both then (table_in d).0 else block) (if both then slots_in d else size) =
      HasTable-kept b b1 holders xs (if both then (table_in d).0 else block) (if both then slots_in d else size) keeps.there keeps.sizes
      (λ small h. let same = long in omega (arith, same, h)) (λ h. xs-within _ h) table-was in
      subst (λ z. HasTable b1 xs z slots) (sym te) (subst (λ z. HasTable b1 xs (if both then (table_in d).0 else block) z) (sym se) moved)

  table-out : contains holders table.0 ≡ false
  table-out = elim (eqb_tells table.0 0) as (λ _. contains holders table.0 ≡ false) [
    | inl none ↦ subst (λ z. contains holders z ≡ false) (sym none.1) (none-at_0 rules d b holders s)
    | inr some ↦ subst (λ z. contains holders z ≡ false) (sym te) (table-was.some (λ e. some.1 (te ∙ e))).apart
  ]

  can-chain : has_table method ≡ true → CanChain whole b1
  can-chain h = record {
    holders = xs;
    stands = ls;
    count = s.count ∙ sym long;
    table = table-now;
    empty = λ zero.
        let none = empty_by rules d b method block size holders (has_table d.method) refl r s h (sym te ∙ zero) in
        nil_from_length xs (long ∙ none);
  }

  pub can-settle : CanSettle rules method whole b1
  can-settle = record {
    holders = xs;
    stands = ls;
    count = s.count ∙ sym long;
    chains = can-chain;
    sorted = λ h. IsSorted-same rules b b1 xs (λ a w. keeps.bodies a) (IsSorted-ordered rules b method holders order h);
  }

  module _ {b2 : Blocks} {kept_in gone : DtList} {n : ℕ} (w : Settled rules method whole (ordered_by method rules b holders) b1 (record { kept = kept_in; dropped = gone; count = n }) b2) where
    settled : IsSettled (has_table method) rules whole xs ys zs b1 (record { kept = kept_in; dropped = gone; count = n }) b2
    settled =
        subst (λ z. IsSettled (has_table method) rules whole xs ys z b1 (record { kept = kept_in; dropped = gone; count = n }) b2) (dropped_by_same method rules b b1 xs keeps.bodies)
        (subst (λ z. IsSettled (has_table method) rules whole xs z (dropped_by method rules b1 xs) b1 (record { kept = kept_in; dropped = gone; count = n }) b2) (kept_by_same method rules b b1 xs keeps.bodies) w)

    in-none : (a : ℕ) → a ≢ table.0 → contains (table.0 ∷ []) a ≡ false
    in-none a ne = apart-cons table.0 [] a (λ e. ne (sym e)) refl

    ys-within : (a : ℕ) → contains holders a ≡ false → contains ys a ≡ false
    ys-within a h = within_kept_by method rules b xs a (xs-within a h)

    body-stays : (a : ℕ) → contains ys a ≡ true → object_at b2 a ≡ object_at b a
    body-stays a h =
        settled.keeps.bodies a (in-none a (λ e. differs ys a table.0 h (ys-within table.0 table-out) (sym e))) ∙ keeps.bodies a

    -- where the method is ordered, what it keeps stands in order as a list
    pub in-order : is_ordered method ≡ true → StandsFor kept_in b2 ys × IsSorted rules b2 ys
    in-order h = (settled.listed (ordered_plain method h), IsSorted-same rules b b2 ys (λ a u. body-stays a u) (IsSorted-turned rules b method holders order h))

    pub kept-count : n ≡ length ys
    kept-count = settled.count

    abbrev kept_hash : DtHash
    kept_hash = hash_with kept_in table slots n

    pub can-take : CanTakeForm rules method kept_hash b2 ys
    can-take = record {
      hashed = settled.hashed;
      listed = settled.listed;
      sorted = λ h. (in-order h).1;
    }

    -- and then in the form of the method
    module _ (b3 : Blocks) (heads : Form) (left : Addr) (le : left.0 ≡ (if has_table method then 0 else (table_in d).0)) (form : IsForm method heads) (ht : table_at heads ≡ (if has_table method then table else record { 0 = 0 })) (hs : slots_at heads ≡ (if has_table method then slots else 0)) (f : IsInForm rules ys b2 heads b3) where
      abbrev new : Dict
      new = record d { method = method; heads = heads; count = n; current = record { 0 = 0 } }

      gone-stands : StandsFor gone b3 zs
      gone-stands = StandsFor-kept gone b2 b3 zs ys f.keeps (apart_back ys zs settled.apart) settled.gone_stands

      no-table : has_table method ≡ false → table.0 ≡ 0
      no-table h = te ∙ (ap (λ t. if t && has_table d.method then (table_in d).0 else block) h ∙ no_block d.method method d.count block size r.needs h)

      table-is : (t : Bool) → has_table method ≡ t → (if t then table else no_address).0 ≡ table.0
      table-is true h = refl
      table-is false h = sym (no-table h)

      slots-is : (t : Bool) → has_table method ≡ t → (if t then slots else 0) ≡ slots
      slots-is true h = refl
      slots-is false h = sym (table-now.none (no-table h))

      pub Remethoded-made : Remethoded rules method block size holders d b new b3 (record { first = gone.first; table = left })
      Remethoded-made = record {
        stands = record { form = form; heads = f.stands; count = settled.count };
        dropped = AreDropped-chain b3 0 gone.first.0 zs gone-stands.links.chain gone-stands.links.first;
        method = refl;
        kind = refl;
        current = refl;
        table = ap (λ (z : Addr). z.0) ht ∙ table-is (has_table method) refl ∙ te;
        slots = hs ∙ slots-is (has_table method) refl ∙ se;
        left = le;
        keeps = record {
          there = λ a. f.keeps.there a ∙ settled.keeps.there a ∙ keeps.there a;
          sizes = λ a. f.keeps.sizes a ∙ settled.keeps.sizes a ∙ keeps.sizes a;
          bodies = λ a h. f.keeps.bodies a ∙ settled.keeps.bodies a (in-none a (λ e. not_both both (table_in d).0 block a h (e ∙ te))) ∙ keeps.bodies a;
          others = λ a h k. f.keeps.others a (ys-within a k) ∙ settled.keeps.others a (in-none a (λ e. not_both both (table_in d).0 block a h (e ∙ te))) (xs-within a k) ∙ keeps.others a k;
        };
      }
