-- What one call after another does to a dictionary and its region.
use Rattle.vc_base.proofs.Common.{◌≡◌, ℕ, Bool, true, false, List, [], IfOk, if◌then◌else◌, Some, None, Ok, Option, Result, sym, refl, ap, ◌∙◌, subst, contains, Discipline, Terms, Layout, Outcome}
use Rattle.vc_base.specs.declared.dict_method.DictMethod.{DictMethod}
use Rattle.vc_model.specs.Outcome as model
use Rattle.vc_dtdisc.specs.Rules.{Gone, Rules}
use Rattle.vc_dict.specs.declared.dict.Dict.{Dict}
use Rattle.vc_best.specs.Cells.{cells_in, rest_in}
use Rattle.vc_best.specs.Parts.{disc_in, segments_in}
use Rattle.vc_best.specs.declared.best.Best.{Best}
use Rattle.vc_objects.specs.Insert.{insert, slots_wanted}
use Rattle.vc_objects.specs.Leaves.{AskedForObject, GivesInserted, GivesRemoved, GivesTurned, LeavesRest, Looks, no_holder, no_table, told_each, told_if}
use Rattle.vc_objects.specs.Objects.{Dictionary, option_list, own_blocks}
use Rattle.vc_objects.specs.Parts.{dictionary_in}
use Rattle.vc_objects.specs.Remove.{Removed, remove}
use Rattle.vc_objects.proofs.Leaving.{keeps-trans}
use Rattle.vc_objects.specs.Turn.{Turned}
use Rattle.vc_objects.specs.declared.fate.Fate.{Fate}
use Rattle.vc_objects.specs.declared.fate.Fate.TheVariants.{Stored, NoTable, NoHolder}
use Rattle.vc_objects.specs.declared.fate.Want.TheVariants as want
use Rattle.vc_script.specs.Needs.{Need, NoNeed, need_shown}
use Rattle.vc_script.specs.declared.reply.Reply.{Reply}
use Rattle.vc_script.specs.declared.reply.Reply.TheVariants.{MethodIs, Refused}
use Rattle.vc_commands.specs.DictCommands.{fate_reply, gone_reply, is_object, put_object, remove_in, removed_as, turned_as}
use Rattle.vc_commands.specs.DictRun.{AskedFor, Gives, GivesDict, LacksFor, RunsDict, seat_in}
use Rattle.vc_commands.specs.Seat.{DictChanged, Seat}

abbrev seat_by : Rules → Terms → Layout ℕ → Dictionary → Seat ℕ
seat_by rules terms region dict = record { rules = rules; terms = terms; none = 0; region = region; dict = dict }

module _ {I : Type 0} {V : I → Type 0} (meaning : (x : I) × V x → Discipline) (rules : Rules) (r : Best I V) (d : Dict) (r' : Best I V) (d' : Dict) (l : Looks meaning rules r d r' d') where
  same-owned : own_blocks (dictionary_in d' r') ≡ own_blocks (dictionary_in d r)
  same-owned = ap own_blocks l.dict

  pub leaves-looked : (r'' : Best I V) (d'' : Dict) → LeavesRest meaning rules r' d' r'' d'' → LeavesRest meaning rules r d r'' d''
  leaves-looked r'' d'' s =
      let one = l.leaves.rest in
      let two = s.rest in
      let mine = own_blocks (dictionary_in d r) in
      let mine' = own_blocks (dictionary_in d'' r'') in
      let before : (a : ℕ) → contains mine a ≡ false → cells_in r' a ≡ cells_in r a =
      λ a h. one.others a h (ap (λ (xs : List ℕ). contains xs a) same-owned ∙ h) in
      record {
        whole = s.whole;
        kind = s.kind ∙ l.leaves.kind;
        rest = record {
          disc = keeps-trans (disc_in meaning r) (disc_in meaning r') (disc_in meaning r'') (segments_in r) (segments_in r') (segments_in r'') one.disc two.disc;
          labelled = two.labelled ∙ one.labelled;
          others = λ a h h'. two.others a (ap (λ (xs : List ℕ). contains xs a) same-owned ∙ h) h' ∙ before a h;
          fresh = λ a h' h. sym (before a h) ∙ two.fresh a h' (ap (λ (xs : List ℕ). contains xs a) same-owned ∙ h);
        };
      }

-- a command behind a look does what it would have done before it
pub runs-looked : {I : Type 0} {V : I → Type 0} (meaning : (x : I) × V x → Discipline) {E : Type 0} (result : Result Reply E) (rules : Rules) (gives : Seat ℕ → Need → DictChanged ℕ) (object : List ℕ)
    (r : Best I V) (d : Dict) (r' : Best I V) (d' : Dict) (r'' : Best I V) (d'' : Dict) (told told' : Gone) → Looks meaning rules r d r' d'
    → RunsDict meaning result rules (gives (seat_in meaning rules r' d')) (slots_wanted (dictionary_in d' r')) object r' d' told r'' d'' told'
    → RunsDict meaning result rules (gives (seat_in meaning rules r d)) (slots_wanted (dictionary_in d r)) object r d told r'' d'' told'
runs-looked meaning result rules gives object r d r' d' r'' d'' told told' l runs =
    let same : seat_in meaning rules r' d' ≡ seat_in meaning rules r d =
    ap (λ (x : Discipline). seat_by rules x.terms (rest_in r') (dictionary_in d' r')) l.disc
    ∙ (ap (λ q. seat_by rules (disc_in meaning r).terms q (dictionary_in d' r')) l.region ∙ ap (λ c. seat_by rules (disc_in meaning r).terms (rest_in r) c) l.dict) in
    record {
      step = subst (λ s. IfOk result (λ reply. Gives (gives s (need_shown reply)) r'' d'' reply told told')) same runs.step;
      leaves = leaves-looked meaning rules r d r' d' l r'' d'' runs.leaves;
      asked =
          subst (λ c. AskedFor result (slots_wanted c) object (disc_in meaning r) (disc_in meaning r'')) l.dict
          (subst (λ x. AskedFor result (slots_wanted (dictionary_in d' r')) object x (disc_in meaning r'')) l.disc runs.asked);
    }

-- what is put is told by its reply
pub put-told : (rules : Rules) (terms : Terms) (q : Layout ℕ) (c : Dictionary) (append : Bool) (bytes : List ℕ) (fate : Fate) (r : Layout ℕ) (d : Dictionary) (gone : Gone)
    → GivesInserted (insert rules terms q 0 c append bytes (no_table fate) (no_holder fate)) r d fate
    → GivesDict (put_object (seat_by rules terms q c) append bytes (need_shown (fate_reply bytes fate))) r d (fate_reply bytes fate) gone gone
put-told rules terms q c append bytes Stored r d gone g = record { region = g.region; dict = g.dict; reply = ap (fate_reply bytes) g.fate; told = refl }
put-told rules terms q c append bytes (NoTable want.TooManySegments) r d gone g = record { region = g.region; dict = g.dict; reply = ap (fate_reply bytes) g.fate; told = refl }
put-told rules terms q c append bytes (NoTable want.NoSegment) r d gone g = record { region = g.region; dict = g.dict; reply = ap (fate_reply bytes) g.fate; told = refl }
put-told rules terms q c append bytes (NoHolder want.TooManySegments) r d gone g = record { region = g.region; dict = g.dict; reply = ap (fate_reply bytes) g.fate; told = refl }
put-told rules terms q c append bytes (NoHolder want.NoSegment) r d gone g = record { region = g.region; dict = g.dict; reply = ap (fate_reply bytes) g.fate; told = refl }

-- and so is what it asked for
pub put-asked : (E : Type 0) (bytes : List ℕ) (fate : Fate) (slots : Option ℕ) (old new : Discipline) → AskedForObject {E = E} (Ok fate) slots bytes old new → LacksFor slots bytes (fate_reply bytes fate) old new
put-asked E bytes Stored slots old new h = h
put-asked E bytes (NoTable want.TooManySegments) slots old new h = h
put-asked E bytes (NoTable want.NoSegment) slots old new h = h
put-asked E bytes (NoHolder want.TooManySegments) slots old new h = h
put-asked E bytes (NoHolder want.NoSegment) slots old new h = h

-- what is turned is told by its reply
pub turn-told : (s : Seat ℕ) (name : List ℕ) (method : DictMethod) (o : Outcome (Turned ℕ)) (r : Layout ℕ) (d : Dictionary) (gone gone' : Gone)
    → GivesTurned o r d gone gone' → GivesDict (turned_as s name method o) r d (MethodIs name method) gone gone'
turn-told s name method (model.Done t) r d gone gone' h = record { region = h.0; dict = h.1; reply = refl; told = h.2 }
turn-told s name method (model.Refused why) r d gone gone' h = absurd h

-- what was taken out is told by its reply
told-listed : (tells : Bool) (o : Option (List ℕ)) (gone : Gone) → told_if tells o gone ≡ told_each (if tells then option_list o else []) gone
told-listed true None gone = refl
told-listed true (Some bytes) gone = refl
told-listed false None gone = refl
told-listed false (Some bytes) gone = refl

-- and shows no need
pub gone-needless : (tells : Bool) (o : Option (List ℕ)) → need_shown (gone_reply tells o) ≡ NoNeed
gone-needless true None = refl
gone-needless true (Some bytes) = refl
gone-needless false None = refl
gone-needless false (Some bytes) = refl

pub take-told : (tells : Bool) (c : Removed ℕ) (o : Option (List ℕ)) (r : Layout ℕ) (d : Dictionary) (answer : Reply) (gone gone' : Gone)
    → GivesRemoved c r d o → gone' ≡ told_if tells o gone → answer ≡ gone_reply tells o → GivesDict (removed_as tells c) r d answer gone gone'
take-told tells c o r d answer gone gone' g e f = record {
  region = g.region;
  dict = g.dict;
  reply = ap (gone_reply tells) g.gone ∙ sym f;
  told = e ∙ (told-listed tells o gone ∙ ap (λ x. told_each (if tells then option_list x else []) gone) (sym g.gone));
}

-- of the object of a command, by the key that was asked for
pub take-found : (s : Seat ℕ) (tells : Bool) (bytes key : List ℕ) (o : Option (List ℕ)) (r : Layout ℕ) (d : Dictionary) (answer : Reply) (gone gone' : Gone)
    → is_object bytes ≡ true → key ≡ s.rules.key bytes → GivesRemoved (remove s.rules s.region s.dict key) r d o → gone' ≡ told_if tells o gone → answer ≡ gone_reply tells o → GivesDict (remove_in s tells bytes) r d answer gone gone'
take-found s tells bytes key o r d answer gone gone' is e g told f =
    rw is
    (subst (λ k. GivesDict (removed_as tells (remove s.rules s.region s.dict k)) r d answer gone gone') e
    (take-told tells (remove s.rules s.region s.dict key) o r d answer gone gone' g told f))
