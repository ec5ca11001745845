-- Of the holders that a method drops each stands in the region, and no two are one; and what turning a dictionary does to
-- the bytes of its region's blocks.
use Rattle.vc_base.proofs.Common.{◌≡◌, ℕ, ◌+◌, ◌≤◌, Bool, true, false, cond, not, ◌&&◌, eqb, List, [], ◌∷◌, map, length, ◌==◌, Some, None, Option, sym, refl, ap, subst, ⊎_elim, true≢false, arith, eq-eqb, eqb-true, cases_Bool, or_parts, none-some, same_Some, AreDistinct, contains, has_table, method_number, place_of, Terms, Layout, footprints, Done, Outcome, Put, Refused, find_block}
use Rattle.vc_base.specs.declared.dict_method.DictMethod.{DictMethod}
use Rattle.vc_commands.specs.DictCommands.{in_dict, is_for_table, turned_as}
use Rattle.vc_commands.specs.Seat.{DictChanged, Seat}
use Rattle.vc_dict.specs.Methods.{slots_between}
use Rattle.vc_dthash.specs.Slots.{slots_for}
use Rattle.vc_dtdisc.specs.Objects.{Object, address_of, bytes_of, kept_by, ordered_by}
use Rattle.vc_dtdisc.specs.Rules.{Rules}
use Rattle.vc_laws.specs.Maximal.{AreLawful}
use Rattle.vc_objects.specs.Insert.{alloc_unlabelled}
use Rattle.vc_objects.specs.Objects.{Dictionary, Table, holder_size, slots_of, table_size}
use Rattle.vc_objects.specs.Remove.{freed_all}
use Rattle.vc_objects.specs.Turn.{Brought, Turned, bring_of, turn_with, objects_dropped, table_left, turn, turned_with}
use Rattle.vc_script.specs.Needs.{Need}
use Rattle.vc_script.specs.declared.command.Command.TheVariants.{Remethod}
use Rattle.vc_counts.specs.Working.{dict_bytes, holders_bytes}
use Rattle.vc_counts.proofs.Clear.{KeepsSized, keeps-alloc}
use Rattle.vc_counts.proofs.DictBytes.{AreHeld, HasTable, IsBeside, IsSeated, PutsBytes, bytes_in, puts-alloc, table-gone}
use Rattle.vc_counts.proofs.EndedBytes.{holders-cons, holders-gone, table-left}
use Rattle.vc_counts.proofs.ObjectParts.{weight, weight-parted}
use Rattle.vc_counts.proofs.RegionLends.{either}
use Rattle.vc_counts.proofs.BlockSizes.{HasSized, size_found}

-- the bytes of holders as a count
abbrev size_of : Object → ℕ
size_of o = holder_size o.bytes

weight-bytes : (os : List Object) → weight size_of os ≡ holders_bytes os
weight-bytes [] = refl
weight-bytes (o ∷ os) = omega (arith, weight-bytes os, holders-cons o os)

-- how many stand at an address
abbrev stands_at : ℕ → Object → ℕ
stands_at a o = cond (o.at == a) 1 0

count-none : (a : ℕ) (os : List Object) → contains (map address_of os) a ≡ false → weight (stands_at a) os ≡ 0
count-none a [] none = refl
count-none a (o ∷ os) none =
    let parts = or_parts (o.at == a) (contains (map address_of os) a) none in
    let here : stands_at a o ≡ 0 = ap (λ v. cond v 1 0) parts.0 in
    omega (arith, here, count-none a os parts.1)

none-count : (a : ℕ) (os : List Object) → weight (stands_at a) os ≡ 0 → contains (map address_of os) a ≡ false
none-count a [] none = refl
none-count a (o ∷ os) none =
    ⊎_elim
    (λ (t : eqb o.at a ≡ true). let here : stands_at a o ≡ 1 = ap (λ v. cond v 1 0) t in absurd (omega (arith, here, none)))
    (λ (t : eqb o.at a ≡ false). rw t (none-count a os (omega (arith, none))))
    (cases_Bool (eqb o.at a))

distinct-counts : (a : ℕ) (os : List Object) → AreDistinct (map address_of os) → weight (stands_at a) os ≤ 1
distinct-counts a [] distinct = omega arith
distinct-counts a (o ∷ os) distinct =
    ⊎_elim
    (λ (t : eqb o.at a ≡ true).
    let here : stands_at a o ≡ 1 = ap (λ v. cond v 1 0) t in
    let none = count-none a os (subst (λ n. contains (map address_of os) n ≡ false) (eqb-true o.at a t) distinct.0) in
    omega (arith, here, none))
    (λ (t : eqb o.at a ≡ false).
    let here : stands_at a o ≡ 0 = ap (λ v. cond v 1 0) t in
    omega (arith, here, distinct-counts a os distinct.1))
    (cases_Bool (eqb o.at a))

counts-distinct : (os : List Object) → ((a : ℕ) → weight (stands_at a) os ≤ 1) → AreDistinct (map address_of os)
counts-distinct [] few = tt
counts-distinct (o ∷ os) few =
    let here : stands_at o.at o ≡ 1 = ap (λ v. cond v 1 0) (eq-eqb o.at o.at refl) in
    let once = few o.at in
    (none-count o.at os (omega (arith, here, once)), counts-distinct os (λ a. let all = few a in omega (arith, all)))

-- how many have no holder of their size
abbrev is_size : Option ℕ → ℕ → Bool
is_size None n = false
is_size (Some m) n = m == n

size-is : (o : Option ℕ) (n : ℕ) → o ≡ Some n → is_size o n ≡ true
size-is None n e = absurd (none-some n e)
size-is (Some m) n e = eq-eqb m n (same_Some m n e)

is-size : (o : Option ℕ) (n : ℕ) → is_size o n ≡ true → o ≡ Some n
is-size None n e = absurd (true≢false (sym e))
is-size (Some m) n e = ap (λ k. Some k) (eqb-true m n e)

module _ {L : Type 0} (r : Layout L) where
  abbrev has_holder : Object → Bool
  has_holder o = is_size (size_found (find_block (place_of o.at) r.blocks)) (holder_size o.bytes)

  abbrev lacks_holder : Object → ℕ
  lacks_holder o = cond (has_holder o) 0 1

  held-counts : (os : List Object) → AreHeld r os → weight lacks_holder os ≡ 0
  held-counts [] held = refl
  held-counts (o ∷ os) held =
      let here : lacks_holder o ≡ 0 = ap (λ v. cond v 0 1) (size-is (size_found (find_block (place_of o.at) r.blocks)) (holder_size o.bytes) held.0) in
      omega (arith, here, held-counts os held.1)

  counts-held : (os : List Object) → weight lacks_holder os ≡ 0 → AreHeld r os
  counts-held [] none = tt
  counts-held (o ∷ os) none =
      ⊎_elim
      (λ (t : has_holder o ≡ true).
      (is-size (size_found (find_block (place_of o.at) r.blocks)) (holder_size o.bytes) t, counts-held os (omega (arith, none))))
      (λ (t : has_holder o ≡ false). let here : lacks_holder o ≡ 1 = ap (λ v. cond v 0 1) t in absurd (omega (arith, here, none)))
      (cases_Bool (has_holder o))

-- of those that a method drops
module _ (rules : Rules) (method : DictMethod) (d : Dictionary) where
  abbrev stay : List Object
  stay = kept_by bytes_of method rules (ordered_by bytes_of method rules d.objects)

  parted-bytes : holders_bytes stay + holders_bytes (objects_dropped rules method d) ≡ holders_bytes d.objects
  parted-bytes =
      omega (arith, weight-parted size_of method rules d.objects, weight-bytes stay, weight-bytes (objects_dropped rules method d), weight-bytes d.objects)

  dropped-distinct : AreDistinct (map address_of d.objects) → AreDistinct (map address_of (objects_dropped rules method d))
  dropped-distinct distinct =
      counts-distinct (objects_dropped rules method d)
      (λ a. omega (arith, weight-parted (stands_at a) method rules d.objects, distinct-counts a d.objects distinct))

  dropped-held : {L : Type 0} (r : Layout L) → AreHeld r d.objects → AreHeld r (objects_dropped rules method d)
  dropped-held r held =
      counts-held r (objects_dropped rules method d)
      (omega (arith, weight-parted (lacks_holder r) method rules d.objects, held-counts r d.objects held))

  dropped-beside : (table : Option Table) → IsBeside table d.objects → IsBeside table (objects_dropped rules method d)
  dropped-beside None beside = tt
  dropped-beside (Some t) beside =
      none-count t.at (objects_dropped rules method d)
      (omega (arith, weight-parted (stands_at t.at) method rules d.objects, count-none t.at d.objects beside))

-- of a table that is brought, and the one that is left: those that are there then have as many bytes
abbrev slots_bytes : Option Table → ℕ
slots_bytes t = table_size (slots_of t)

balance : (v w : Bool) (own new : Option Table) → (w ≡ false → own ≡ None) → ((v && not w) ≡ false → new ≡ None) → slots_bytes (cond v None own) + slots_bytes (cond v (cond w own new) None) ≡ slots_bytes own + slots_bytes new
balance true true own new plain brings = omega (arith, ap slots_bytes (brings refl))
balance true false own new plain brings = omega (arith, ap slots_bytes (plain refl))
balance false w own new plain brings = omega (arith, ap slots_bytes (brings refl))

wanted-none : (v : Bool) (n : ℕ) → v ≡ false → cond v (Some n) None ≡ None
wanted-none true n e = absurd (true≢false e)
wanted-none false n e = refl

left-beside : (v : Bool) (own : Option Table) (os : List Object) → IsBeside own os → IsBeside (cond v None own) os
left-beside true own os beside = tt
left-beside false own os beside = beside

module _ {L : Type 0} where
  -- a table is brought, where one is wanted
  record BringsBytes (r : Layout L) (wanted : Option ℕ) (b : Brought L) : Type 0 where
    bytes : bytes_in b.region ≡ bytes_in r + slots_bytes b.table
    kept : (a n : ℕ) → HasSized r.blocks a n → HasSized b.region.blocks a n
    none : wanted ≡ None → b.table ≡ None

  abbrev Brings : Layout L → Option ℕ → Outcome (Brought L) → Type 0
  Brings r wanted (Done b) = BringsBytes r wanted b
  Brings r wanted (Refused why) = Unit {0}

  brings-put : (r : Layout L) (slots : ℕ) (o : Outcome (Put (Layout L))) → PutsBytes r (table_size slots) o → KeepsSized r o → Brings r (Some slots) (turn_with slots o)
  brings-put r slots (Done p) puts kept = record { bytes = puts; kept = kept; none = λ e. absurd (none-some slots (sym e)) }
  brings-put r slots (Refused why) puts kept = tt

  brings : (terms : Terms) (r : Layout L) (lawful : AreLawful r.segments (footprints r.blocks)) (none : L) (refused : Bool) (wanted : Option ℕ) → Brings r wanted (bring_of terms r none refused wanted)
  brings terms r lawful none refused None = record { bytes = omega arith; kept = λ a n has. has; none = λ e. refl }
  brings terms r lawful none refused (Some slots) =
      brings-put r slots (alloc_unlabelled terms r none (table_size slots) refused) (puts-alloc r none (table_size slots) 32 terms refused)
      (keeps-alloc r lawful none (table_size slots) 32 (omega arith) terms refused)

  held-kept : (r r' : Layout L) → ((a n : ℕ) → HasSized r.blocks a n → HasSized r'.blocks a n) → (os : List Object) → AreHeld r os → AreHeld r' os
  held-kept r r' kept [] held = tt
  held-kept r r' kept (o ∷ os) held = (kept o.at (holder_size o.bytes) held.0, held-kept r r' kept os held.1)

  left-has : (v : Bool) (r : Layout L) (own : Option Table) → HasTable r own → HasTable r (cond v None own)
  left-has true r own has = tt
  left-has false r own has = has

  has-kept : (r r' : Layout L) → ((a n : ℕ) → HasSized r.blocks a n → HasSized r'.blocks a n) → (table : Option Table) → HasTable r table → HasTable r' table
  has-kept r r' kept None has = tt
  has-kept r r' kept (Some t) has = kept t.at (table_size t.slots) has

  abbrev pub TurnsBytes : Layout L → Dictionary → Outcome (Turned L) → Type 0
  TurnsBytes r d (Done t) = bytes_in t.region + dict_bytes d ≡ bytes_in r + dict_bytes t.dict
  TurnsBytes r d (Refused why) = Unit {0}

  module _ (r : Layout L) (d : Dictionary) (seated : IsSeated r d) (rules : Rules) (method : DictMethod) where
    turned-bytes : (o : Outcome (Brought L)) → Brings r (slots_between d.method method (length d.objects)) o → TurnsBytes r d (turned_with rules method d o)
    turned-bytes (Done b) brings =
        let dropped : List Object = objects_dropped rules method d in
        let left : Option Table = table_left d method in
        let held : AreHeld b.region dropped = dropped-held rules method d b.region (held-kept r b.region brings.kept d.objects seated.objects) in
        let has : HasTable b.region left = left-has (has_table method) b.region d.table (has-kept r b.region brings.kept d.table seated.table) in
        let beside : IsBeside left dropped = dropped-beside rules method d left (left-beside (has_table method) d.table d.objects seated.beside) in
        let gone = holders-gone b.region dropped held (dropped-distinct rules method d seated.distinct) in
        let over = table-gone (freed_all b.region dropped) left (table-left b.region dropped left has beside) in
        let tables = balance (has_table method) (has_table d.method) d.table b.table seated.plain
        (λ e. brings.none (wanted-none (has_table method && not (has_table d.method)) (slots_for (length d.objects)) e)) in
        let parts = parted-bytes rules method d in
        let come = brings.bytes in
        omega (arith, gone, over, tables, parts, come)
    turned-bytes (Refused why) brings = tt

    pub turn-bytes : (terms : Terms) (none : L) (refused : Bool) → TurnsBytes r d (turn rules terms r none d method refused)
    turn-bytes terms none refused =
        either (TurnsBytes r d) (method_number method == method_number d.method) _ _ refl
        (turned-bytes (bring_of terms r none refused (slots_between d.method method (length d.objects))) (brings terms r seated.lawful none refused (slots_between d.method method (length d.objects))))

  -- from where a command works to what it leaves: the blocks change as the dictionary's own do
  abbrev pub OwnBytes : Seat L → DictChanged L → Type 0
  OwnBytes s c = bytes_in c.region + dict_bytes s.dict ≡ bytes_in s.region + dict_bytes c.dict

  as-bytes : (s : Seat L) (name : List ℕ) (method : DictMethod) (o : Outcome (Turned L)) → TurnsBytes s.region s.dict o → OwnBytes s (turned_as s name method o)
  as-bytes s name method (Done t) turned = turned
  as-bytes s name method (Refused why) turned = refl

  pub method-bytes : (s : Seat L) → IsSeated s.region s.dict → (name : List ℕ) (method : DictMethod) (need : Need) → OwnBytes s (in_dict s (Remethod name method) need)
  method-bytes s seated name method need =
      as-bytes s name method (turn s.rules s.terms s.region s.none s.dict method (is_for_table need))
      (turn-bytes s.region s.dict seated s.rules method s.terms s.none (is_for_table need))
