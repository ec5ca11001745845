-- What a command on a dictionary does to the bytes of its region's blocks: as much as to its table, and to the holder that
-- its reply tells of.
use Rattle.vc_base.proofs.Common.{◌≡◌, ℕ, ◌+◌, Bool, true, false, cond, List, [], ◌∷◌, map, Some, None, Option, refl, inl, arith, none-some, same_Some, AllByRecursion, AreDistinct, contains, has_table, is_list, best_alloc, best_need, place_in, put_in_new, put_or_ask, zeros, Terms, Layout, footprints, with_grant, Done, Outcome, Put, Refused, Asked, Grant, Granted, NotLent, TooMany, ask}
use Rattle.vc_base.specs.declared.dict_method.DictMethod.{DictMethod}
use Rattle.vc_base.specs.declared.dict_method.DictMethod.TheVariants.{DtSet, DtBag, DtOset, DtObag, DtList, DtStack, DtQueue}
use Rattle.vc_commands.specs.DictCommands.{append_in, delete_in, fate_reply, insert_in, is_for_object, is_for_table, is_object, put_object, put_unless, removed_as, matched_in_set}
use Rattle.vc_commands.specs.Seat.{DictChanged, Seat, seat_with_refusal}
use Rattle.vc_dtdisc.specs.Finding.{first_of}
use Rattle.vc_dtdisc.specs.Objects as objects
use Rattle.vc_dtdisc.specs.Objects.{Object, address_of, first_with, has_key}
use Rattle.vc_dtdisc.specs.Rules.{Rules}
use Rattle.vc_laws.specs.Maximal.{AreLawful}
use Rattle.vc_model.specs.Best.{put}
use Rattle.vc_model.proofs.Places.{Among, among-all, among-find}
use Rattle.vc_objects.specs.Insert.{Grown, Inserted, alloc_unlabelled, empty_dictionary, grow, grown_to, grown_with, insert_of, held_in, open_dictionary, slots_wanted, without_table}
use Rattle.vc_objects.specs.Objects.{Dictionary, Table, holder_size, slots_of, table_size}
use Rattle.vc_objects.specs.Remove.{remove, remove_found, next_to_go}
use Rattle.vc_objects.specs.declared.fate.Fate.{Fate}
use Rattle.vc_objects.specs.declared.fate.Fate.TheVariants.{Stored, NoTable, NoHolder}
use Rattle.vc_script.specs.Needs.{Need}
use Rattle.vc_script.specs.declared.refusal.Refusal.TheVariants as why
use Rattle.vc_script.specs.declared.reply.Reply.TheVariants.{Gone, Out}
use Rattle.vc_counts.specs.Reach.{holder_freed, holder_put}
use Rattle.vc_counts.specs.Working.{table_bytes}
use Rattle.vc_counts.proofs.Clear.{KeepsSized, keeps-alloc}
use Rattle.vc_counts.proofs.RegionLends.{either}
use Rattle.vc_counts.proofs.BlockSizes.{HasSized, bytes, bytes-with, bytes-without}

-- a table of another address than these holders
abbrev pub IsBeside : Option Table → List Object → Type 0
IsBeside None os = Unit {0}
IsBeside (Some t) os = contains (map address_of os) t.at ≡ false

module _ {L : Type 0} where
  abbrev pub bytes_in : Layout L → ℕ
  bytes_in r = bytes r.blocks

  -- a block of a size comes
  abbrev pub PutsBytes : Layout L → ℕ → Outcome (Put (Layout L)) → Type 0
  PutsBytes r size (Done p) = bytes_in p.region ≡ bytes_in r + size
  PutsBytes r size (Refused why) = Unit {0}

  module _ (r : Layout L) (label : L) (size align : ℕ) where
    puts-new : (g : Grant) (o : Option (ℕ × ℕ)) → PutsBytes r size (put (with_grant r g) label size (Some g) o)
    puts-new g None = tt
    puts-new g (Some at) = bytes-with (zeros label size at) r.blocks

    puts-asked : (a : Asked) → PutsBytes r size (put_in_new r label size align a)
    puts-asked (Granted g) = puts-new g (place_in (with_grant r g) size align)
    puts-asked TooMany = tt
    puts-asked NotLent = tt

    puts-placed : (terms : Terms) (refused : Bool) (o : Option (ℕ × ℕ)) → PutsBytes r size (put_or_ask terms r label size align refused o)
    puts-placed terms refused (Some at) = bytes-with (zeros label size at) r.blocks
    puts-placed terms refused None = puts-asked (ask terms (best_need terms size align) r.segments refused)

    pub puts-alloc : (terms : Terms) (refused : Bool) → PutsBytes r size (best_alloc terms r label size align refused)
    puts-alloc terms refused = puts-placed terms refused (place_in r size align)

  -- a table stands in a region, where there is one
  abbrev pub HasTable : Layout L → Option Table → Type 0
  HasTable r None = Unit {0}
  HasTable r (Some t) = HasSized r.blocks t.at (table_size t.slots)

  -- and goes
  pub table-gone : (r : Layout L) (table : Option Table) → HasTable r table → bytes_in (without_table r table) + table_size (slots_of table) ≡ bytes_in r
  table-gone r None has = omega arith
  table-gone r (Some t) has = bytes-without t.at (table_size t.slots) r.blocks has

  -- it stands there still in what is put
  abbrev KeepsTable : Option Table → Outcome (Put (Layout L)) → Type 0
  KeepsTable table (Done p) = HasTable p.region table
  KeepsTable table (Refused why) = Unit {0}

  keeps-none : (o : Outcome (Put (Layout L))) → KeepsTable None o
  keeps-none (Done p) = tt
  keeps-none (Refused why) = tt

  -- the bytes change as those of the table
  abbrev pub GrowsBytes : Layout L → Dictionary → Outcome (Grown L) → Type 0
  GrowsBytes r d (Done g) = bytes_in g.region + table_bytes d ≡ bytes_in r + table_bytes g.dict
  GrowsBytes r d (Refused why) = Unit {0}

  grows-with : (r : Layout L) (d : Dictionary) (slots : ℕ) (o : Outcome (Put (Layout L))) → PutsBytes r (table_size slots) o → KeepsTable d.table o → GrowsBytes r d (grown_with d slots o)
  grows-with r d slots (Done p) puts kept = let gone = table-gone p.region d.table kept in omega (arith, puts, gone)
  grows-with r d slots (Refused why) puts kept = tt

  grows-to : (terms : Terms) (r : Layout L) (none : L) (d : Dictionary) (refused : Bool) → ((slots : ℕ) → KeepsTable d.table (alloc_unlabelled terms r none (table_size slots) refused)) → (wanted : Option ℕ) → GrowsBytes r d (grown_to terms r none d refused wanted)
  grows-to terms r none d refused kept None = refl
  grows-to terms r none d refused kept (Some slots) =
      grows-with r d slots (alloc_unlabelled terms r none (table_size slots) refused) (puts-alloc r none (table_size slots) 32 terms refused) (kept slots)

  -- a dictionary is opened
  pub open-bytes : (terms : Terms) (r : Layout L) (none : L) (method : DictMethod) (refused : Bool) → GrowsBytes r (empty_dictionary method) (open_dictionary terms r none method refused)
  open-bytes terms r none method refused =
      grows-to terms r none (empty_dictionary method) refused (λ slots. keeps-none (alloc_unlabelled terms r none (table_size slots) refused)) (cond (has_table method) (Some 16) None)

  table-kept : (r : Layout L) (table : Option Table) → HasTable r table → (o : Outcome (Put (Layout L))) → KeepsSized r o → KeepsTable table o
  table-kept r None has o kept = keeps-none o
  table-kept r (Some t) has (Done p) kept = kept t.at (table_size t.slots) has
  table-kept r (Some t) has (Refused why) kept = tt

  -- holders stand in a region, each of the size of its object
  abbrev pub AreHeld : Layout L → List Object → Type 0
  AreHeld r os = AllByRecursion (λ o. HasSized r.blocks o.at (holder_size o.bytes)) os

  -- the blocks of a dictionary stand in a region, and no two are one; it has a table only where its method has one
  pub record IsSeated (r : Layout L) (d : Dictionary) : Type 0 where
    pub lawful : AreLawful r.segments (footprints r.blocks)
    pub table : HasTable r d.table
    pub objects : AreHeld r d.objects
    pub distinct : AreDistinct (map address_of d.objects)
    pub beside : IsBeside d.table d.objects
    pub plain : has_table d.method ≡ false → d.table ≡ None

  -- its table grows, or stays
  grow-bytes : (terms : Terms) (r : Layout L) (none : L) (d : Dictionary) (refused : Bool) → IsSeated r d → GrowsBytes r d (grow terms r none d refused)
  grow-bytes terms r none d refused seated =
      grows-to terms r none d refused
      (λ slots. table-kept r d.table seated.table (alloc_unlabelled terms r none (table_size slots) refused)
      (keeps-alloc r seated.lawful none (table_size slots) 32 (omega arith) terms refused))
      (slots_wanted d)

  -- from where a command works to what it leaves
  abbrev pub ChangesBytes : Seat L → DictChanged L → Type 0
  ChangesBytes s c =
      bytes_in c.region + (table_bytes s.dict + holder_freed c.reply) ≡ bytes_in s.region + (table_bytes c.dict + holder_put c.reply)

  -- an object is put
  abbrev InsertsBytes : Layout L → Dictionary → List ℕ → Inserted L → Type 0
  InsertsBytes r d object c = bytes_in c.region + table_bytes d ≡ bytes_in r + (table_bytes c.dict + holder_put (fate_reply object c.fate))

  inserts-held : (r : Layout L) (d : Dictionary) (rules : Rules) (append : Bool) (object : List ℕ) (g : Grown L) (o : Outcome (Put (Layout L))) → GrowsBytes r d (Done g) → PutsBytes g.region (holder_size object) o → InsertsBytes r d object (insert_of rules append object g o)
  inserts-held r d rules append object g (Done p) grown puts = omega (arith, grown, puts)
  inserts-held r d rules append object g (Refused why) grown puts = omega (arith, grown)

  inserts-in : (rules : Rules) (terms : Terms) (r : Layout L) (none : L) (d : Dictionary) (append : Bool) (object : List ℕ) (refused : Bool) (o : Outcome (Grown L)) → GrowsBytes r d o → InsertsBytes r d object (held_in rules terms r none d append object refused o)
  inserts-in rules terms r none d append object refused (Done g) grown =
      inserts-held r d rules append object g (alloc_unlabelled terms g.region none (holder_size object) refused) grown
      (puts-alloc g.region none (holder_size object) 32 terms refused)
  inserts-in rules terms r none d append object refused (Refused why) grown = omega arith

  freed-none : (object : List ℕ) (c : Inserted L) → holder_freed (fate_reply object c.fate) ≡ 0
  freed-none object c = by c.fate
    where
      by : (fate : Fate) → holder_freed (fate_reply object fate) ≡ 0
      by Stored = refl
      by (NoTable wants) = refl
      by (NoHolder wants) = refl

  module _ (s : Seat L) (seated : IsSeated s.region s.dict) where
    put-bytes : (append : Bool) (object : List ℕ) (need : Need) → ChangesBytes s (put_object s append object need)
    put-bytes append object need =
        let grown = grow s.terms s.region s.none s.dict (is_for_table need) in
        let puts = inserts-in s.rules s.terms s.region s.none s.dict append object (is_for_object need) grown (grow-bytes s.terms s.region s.none s.dict (is_for_table need) seated) in
        let none = freed-none object (held_in s.rules s.terms s.region s.none s.dict append object (is_for_object need) grown) in
        omega (arith, puts, none)

    unless-bytes : (object : List ℕ) (need : Need) (o : Option Object) → ChangesBytes s (put_unless s object need o)
    unless-bytes object need (Some o) = refl
    unless-bytes object need None = put-bytes false object need

    where-bytes : (object : List ℕ) (c : DictChanged L) → ChangesBytes s c → ChangesBytes s (cond (is_object object) c (seat_with_refusal s why.Size))
    where-bytes object c e = either (ChangesBytes s) (is_object object) c (seat_with_refusal s why.Size) e refl

    pub insert-bytes : (given object : List ℕ) (need : Need) → ChangesBytes s (cond (is_object given) (insert_in s object need) (seat_with_refusal s why.Size))
    insert-bytes given object need = where-bytes given (insert_in s object need) (unless-bytes object need (matched_in_set s object))

    pub append-bytes : (object : List ℕ) (need : Need) → ChangesBytes s (append_in s object need)
    append-bytes object need =
        either (ChangesBytes s) (is_list s.dict.method) _ (seat_with_refusal s why.WrongMethod)
        (where-bytes object (put_object s true (s.rules.made object) need) (put-bytes true (s.rules.made object) need)) refl

    -- an object is taken out
    told-bytes : (tells : Bool) (object : List ℕ) → holder_freed (cond tells (Gone object) (Out object)) ≡ holder_size object
    told-bytes true object = refl
    told-bytes false object = refl

    told-none : (tells : Bool) (object : List ℕ) → holder_put (cond tells (Gone object) (Out object)) ≡ 0
    told-none true object = refl
    told-none false object = refl

    removed-bytes : (tells : Bool) (o : Option Object) → ((x : Object) → o ≡ Some x → Among x s.dict.objects) → ChangesBytes s (removed_as tells (remove_found s.region s.dict o))
    removed-bytes tells None among = refl
    removed-bytes tells (Some x) among =
        let has = among-all (λ (y : Object). HasSized s.region.blocks y.at (holder_size y.bytes)) x s.dict.objects (among x refl) seated.objects in
        let gone = bytes-without x.at (holder_size x.bytes) s.region.blocks has in
        let told = told-bytes tells x.bytes in
        let none = told-none tells x.bytes in
        omega (arith, gone, told, none)

    first-among : (os : List Object) (x : Object) → first_of os ≡ Some x → Among x os
    first-among [] x e = absurd (none-some x e)
    first-among (o ∷ os) x e = inl (same_Some o x e)

    unnamed-among : (method : DictMethod) (os : List Object) (x : Object) → next_to_go method os ≡ Some x → Among x os
    unnamed-among DtSet os x e = absurd (none-some x e)
    unnamed-among DtBag os x e = absurd (none-some x e)
    unnamed-among DtOset os x e = absurd (none-some x e)
    unnamed-among DtObag os x e = absurd (none-some x e)
    unnamed-among DtList os x e = absurd (none-some x e)
    unnamed-among DtStack os x e = first-among os x e
    unnamed-among DtQueue os x e = first-among os x e

    pub remove-bytes : (tells : Bool) (key : List ℕ) → ChangesBytes s (cond (is_object key) (removed_as tells (remove s.rules s.region s.dict (s.rules.key key))) (seat_with_refusal s why.Size))
    remove-bytes tells key =
        where-bytes key (removed_as tells (remove s.rules s.region s.dict (s.rules.key key)))
        (removed-bytes tells (first_with objects.bytes_of s.rules (s.rules.key key) s.dict.objects)
        (λ x e. among-find (λ o. has_key s.rules (s.rules.key key) (objects.bytes_of o)) s.dict.objects x e))

    pub delete-bytes : (o : Option (List ℕ)) → ChangesBytes s (delete_in s o)
    delete-bytes None = removed-bytes true (next_to_go s.dict.method s.dict.objects) (unnamed-among s.dict.method s.dict.objects)
    delete-bytes (Some key) = remove-bytes true key
