-- What running a command promises, from what its own function does.
use Rattle.vc_base.proofs.Common.{◌≡◌, ℕ, Bool, true, false, List, length, IfOk, OnErr, None, Ok, Err, Option, Result, sym, refl, ◌∙◌, subst, false≢true, is_list, Discipline, NoneRefused, Layout}
use Rattle.vc_model.proofs.Keeping.{NoneRefused-equal}
use Rattle.vc_base.specs.declared.dict_method.DictMethod.{DictMethod}
use Rattle.vc_base.specs.declared.dict_method.DictMethod.TheVariants.{DtSet, DtBag, DtOset, DtObag, DtList, DtStack, DtQueue}
use Rattle.vc_dict.specs.Methods.{wanted_by}
use Rattle.vc_dtdisc.specs.Rules.{Gone}
use Rattle.vc_dict.specs.declared.dict.Dict.{Dict}
use Rattle.vc_best.specs.Cells.{rest_in}
use Rattle.vc_best.specs.declared.best.Best.{Best}
use Rattle.vc_objects.specs.Insert.{slots_wanted}
use Rattle.vc_objects.specs.Objects.{Dictionary, slots_of}
use Rattle.vc_objects.specs.Parts.{dictionary_in}
use Rattle.vc_objects.specs.Promises.{IsStill}
use Rattle.vc_script.specs.Needs.{Need, ForObject, ForTable, NoNeed, need_shown}
use Rattle.vc_script.specs.declared.command.Command.{Command}
use Rattle.vc_script.specs.declared.command.Command.TheVariants.{Insert, Append, Attach, Delete, Detach, Count, Remethod, Empty}
use Rattle.vc_script.specs.declared.refusal.Refusal.TheVariants.{NoDictionary, NoSegmentForTable, NoSegmentForObject, WrongMethod}
use Rattle.vc_script.specs.declared.reply.Reply.{Reply}
use Rattle.vc_script.specs.declared.reply.Reply.TheVariants.{Refused}
use Rattle.vc_commands.specs.DictCommands.{append_in, asks, in_dict}
use Rattle.vc_commands.specs.DictRun.{AskedFor, GivesDict, LacksFor}
use Rattle.vc_commands.specs.Seat.{Seat, seat_with_refusal}

-- a reply that needs nothing lacks nothing
table-needed : ForTable ≡ NoNeed → ⊥
table-needed e = cc

object-needed : ForObject ≡ NoNeed → ⊥
object-needed e = cc

pub unneeded : (slots : Option ℕ) (object : List ℕ) (reply : Reply) (old new : Discipline) → NoneRefused old new → need_shown reply ≡ NoNeed → LacksFor slots object reply old new
unneeded slots object (Refused NoSegmentForTable) old new same h = absurd (table-needed h)
unneeded slots object (Refused NoSegmentForObject) old new same h = absurd (object-needed h)
unneeded slots object reply old new same h = same

pub unasked : {E : Type 0} (result : Result Reply E) (slots : Option ℕ) (object : List ℕ) (old new : Discipline) → new ≡ old → IfOk result (λ reply. need_shown reply ≡ NoNeed) → AskedFor result slots object old new
unasked (Ok reply) slots object old new same h = unneeded slots object reply old new (NoneRefused-equal old new same) h
unasked (Err why) slots object old new same h = NoneRefused-equal old new same

-- a command that asks, and one that doesn't
pub asking : {A : Type 0} (command : Command) → asks command ≡ true → asks command ≡ false → A
asking command one other = absurd (false≢true (sym other ∙ one))

-- where the kind was told of nothing and no more is spent than that
pub spent-put : {E : Type 0} (result : Result Reply E) (gone gone' : Gone) (Spent : Type 0) → gone' ≡ gone → OnErr result Spent → OnErr result ((gone' ≡ gone) × Spent)
spent-put (Ok reply) gone gone' Spent same h = tt
spent-put (Err why) gone gone' Spent same h = (same, h)

-- where nothing changed nothing is spent
pub spent-still : {E : Type 0} {I : Type 0} {V : I → Type 0} (result : Result Reply E) (r r' : Best I V) (d d' : Dict) (gone gone' : Gone) → gone' ≡ gone
    → OnErr result (IsStill r d r' d') → OnErr result ((gone' ≡ gone) × ((rest_in r' ≡ rest_in r) × (dictionary_in d' r' ≡ dictionary_in d r)))
spent-still (Ok reply) r r' d d' gone gone' same h = tt
spent-still (Err why) r r' d d' gone gone' same h = (same, (h.region, h.dict))

pub spent-told : {E : Type 0} {I : Type 0} {V : I → Type 0} (result : Result Reply E) (r r' : Best I V) (d d' : Dict) (gone gone' : Gone)
    → OnErr result ((gone' ≡ gone) × IsStill r d r' d') → OnErr result ((gone' ≡ gone) × ((rest_in r' ≡ rest_in r) × (dictionary_in d' r' ≡ dictionary_in d r)))
spent-told (Ok reply) r r' d d' gone gone' h = tt
spent-told (Err why) r r' d d' gone gone' h = (h.0, (h.1.region, h.1.dict))

-- a list wants no table
no-table : (method : DictMethod) (slots count more : ℕ) → is_list method ≡ true → wanted_by method slots count more ≡ None
no-table DtSet slots count more h = cc
no-table DtBag slots count more h = cc
no-table DtOset slots count more h = refl
no-table DtObag slots count more h = refl
no-table DtList slots count more h = refl
no-table DtStack slots count more h = refl
no-table DtQueue slots count more h = refl

by-method : (is : Bool) (s : Seat ℕ) (bytes object : List ℕ) (reply : Reply) (r : Layout ℕ) (d : Dictionary) (gone gone' : Gone) (old new : Discipline) → is_list s.dict.method ≡ is
    → GivesDict (append_in s bytes (need_shown reply)) r d reply gone gone' → LacksFor (slots_wanted s.dict) object reply old new → LacksFor None object reply old new
by-method true s bytes object reply r d gone gone' old new is g h =
    subst (λ o. LacksFor o object reply old new) (no-table s.dict.method (slots_of s.dict.table) (length s.dict.objects) 1 is) h
by-method false s bytes object reply r d gone gone' old new is g h =
    let answer : Refused WrongMethod ≡ reply = (rw is at g.reply) in
    let same : NoneRefused old new = subst (λ x. LacksFor (slots_wanted s.dict) object x old new) (sym answer) h in
    subst (λ x. LacksFor None object x old new) answer same

pub append-asked : {E : Type 0} (result : Result Reply E) (s : Seat ℕ) (bytes object : List ℕ) (r : Layout ℕ) (d : Dictionary) (gone gone' : Gone) (old new : Discipline)
    → IfOk result (λ reply. GivesDict (append_in s bytes (need_shown reply)) r d reply gone gone') → AskedFor result (slots_wanted s.dict) object old new → AskedFor result None object old new
append-asked (Ok reply) s bytes object r d gone gone' old new g h = by-method (is_list s.dict.method) s bytes object reply r d gone gone' old new refl g h
append-asked (Err why) s bytes object r d gone gone' old new g h = h

-- a command that is none on one dictionary is refused
pub other-told : (s : Seat ℕ) (command : Command) (need : Need)
    → ((d : List ℕ) (x : List ℕ) → command ≡ Insert d x → ⊥)
    → ((d : List ℕ) (x : List ℕ) → command ≡ Append d x → ⊥)
    → ((d : List ℕ) (x : List ℕ) → command ≡ Attach d x → ⊥)
    → ((d : List ℕ) (x : Option (List ℕ)) → command ≡ Delete d x → ⊥)
    → ((d : List ℕ) (x : List ℕ) → command ≡ Detach d x → ⊥)
    → ((d : List ℕ) → command ≡ Count d → ⊥)
    → ((d : List ℕ) (x : DictMethod) → command ≡ Remethod d x → ⊥)
    → ((d : List ℕ) → command ≡ Empty d → ⊥)
    → in_dict s command need ≡ seat_with_refusal s NoDictionary
other-told s (Insert d x) need n0 n1 n2 n3 n4 n5 n6 n7 = absurd (n0 d x refl)
other-told s (Append d x) need n0 n1 n2 n3 n4 n5 n6 n7 = absurd (n1 d x refl)
other-told s (Attach d x) need n0 n1 n2 n3 n4 n5 n6 n7 = absurd (n2 d x refl)
other-told s (Delete d x) need n0 n1 n2 n3 n4 n5 n6 n7 = absurd (n3 d x refl)
other-told s (Detach d x) need n0 n1 n2 n3 n4 n5 n6 n7 = absurd (n4 d x refl)
other-told s (Count d) need n0 n1 n2 n3 n4 n5 n6 n7 = absurd (n5 d refl)
other-told s (Remethod d x) need n0 n1 n2 n3 n4 n5 n6 n7 = absurd (n6 d x refl)
other-told s (Empty d) need n0 n1 n2 n3 n4 n5 n6 n7 = absurd (n7 d refl)
other-told s command need n0 n1 n2 n3 n4 n5 n6 n7 = refl
