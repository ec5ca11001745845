-- A table that a change of method needs is brought, or not.
use Rattle.vc_base.proofs.Common.{◌≡◌, ℕ, ◌*◌, Bool, false, ◌≢◌, [], length, if◌then◌else◌, Some, None, Ok, Option, sym, refl, ap, ◌∙◌, subst, eq-eqb, ne_eqb, Blocks, method_number, Discipline, Terms, Layout, Done, Outcome, Put, Refused}
use Rattle.vc_base.specs.declared.dict_method.DictMethod.{DictMethod}
use Rattle.vc_model.proofs.Keeping.{NoneRefused-same}
use Rattle.vc_dict.specs.Methods.{slots_between}
use Rattle.vc_dtdisc.specs.Rules.{Gone, Rules}
use Rattle.vc_seg.specs.Answer.{IsPut, IsRefusal}
use Rattle.vc_seg.specs.declared.fault.RegionFault.{RegionFault}
use Rattle.vc_best.specs.declared.best.Best.{Best}
use Rattle.vc_objects.specs.Insert.{without_table}
use Rattle.vc_objects.specs.Leaves.{GivesTurned, told_each}
use Rattle.vc_objects.specs.Objects.{Dictionary, Table}
use Rattle.vc_objects.specs.Parts.{table_of}
use Rattle.vc_objects.specs.Remove.{bytes_of, freed_all}
use Rattle.vc_base.proofs.Methods.{other-method}
use Rattle.vc_objects.specs.Turn.{Brought, Turned, bring, bring_of, turn_with, objects_dropped, table_left, turn, turned_to, turned_with}
use Rattle.vc_objects.specs.Promises.{Brings}
use Rattle.vc_objects.specs.Unlabelled.{MakesCell}
use Rattle.vc_objects.specs.Turning.{BringsCell, HasBrought}
use Rattle.vc_objects.proofs.Leaving.{keeps-same}
use Rattle.vc_best.proofs.RestAlloc.{refusal-kept}

-- a block that was put is the table
pub put-brought : (slots : ℕ) (o : Outcome (Put (Layout ℕ))) (a : ℕ) (r : Layout ℕ) → a ≢ 0 → IsPut o a r → HasBrought (turn_with slots o) r a slots
put-brought slots (Done p) a r some h = (
  sym h.2,
  ap (λ z. let t : Table = record { at = z; slots = slots } in Some t) (sym h.0) ∙ sym (ap (λ z. if z then None else Some (record { at = a; slots = slots })) (ne_eqb a 0 some)),
)
put-brought slots (Refused why) a r some h = absurd h

pub cell-brought : (slots a : ℕ) (before after : Blocks) → a ≢ 0 → MakesCell before (8 * slots) a after → BringsCell (Some slots) before after a slots
cell-brought slots a before after some cell = record {
  wants = sym (ap (λ z. if z then None else Some slots) (ne_eqb a 0 some));
  none = λ zero. absurd (some zero);
  same = λ zero. absurd (some zero);
  made = λ _. cell.cells;
  fresh = λ _. cell.fresh;
}

-- where no block was put, none is brought
pub brought-refused : (call : Bool → Outcome (Put (Layout ℕ))) (slots : ℕ) (why : RegionFault) → IsRefusal call why → IsRefusal (λ refused. turn_with slots (call refused)) why
brought-refused call slots why is = refusal-kept call (λ refused. turn_with slots (call refused)) (λ refused fault e. ap (turn_with slots) e) why is

-- none is wanted
pub brings-none : {I : Type 0} {V : I → Type 0} (meaning : (x : I) × V x → Discipline) (best : Best I V) (wanted : Option ℕ) → wanted ≡ None
    → Brings meaning (Ok (record { at = record { 0 = 0 }; slots = 0 })) wanted best best
brings-none meaning best wanted none =
    subst (λ w. Brings meaning (Ok (record { at = record { 0 = 0 }; slots = 0 })) w best best) (sym none)
    (record {
      answer = ((refl, refl), record { wants = refl; none = λ zero. refl; same = λ zero. refl; made = λ some. absurd (some refl); fresh = λ some. absurd (some refl) });
      disc = keeps-same _ _ _ _ refl refl;
      labelled = refl;
      asked = NoneRefused-same _;
    })

module _ (rules : Rules) (terms : Terms) (method : DictMethod) (r : Layout ℕ) (d : Dictionary) (count : ℕ) (other : method ≢ d.method) (counts : length d.objects ≡ count) where
  abbrev stays : Outcome (Turned ℕ)
  stays = Done (record { region = r; dict = d; gone = []; granted = [] })

  -- with it the dictionary is turned
  given : (o : Outcome (Brought ℕ)) (r1 r2 : Layout ℕ) (d1 d2 : Dictionary) (t s : ℕ) (gone gone' : Gone) → d1 ≡ d → HasBrought o r1 t s
      → r2 ≡ without_table (freed_all r1 (objects_dropped rules method d1)) (table_left d1 method) → d2 ≡ turned_to rules method d1 (table_of t s)
      → gone' ≡ told_each (bytes_of (objects_dropped rules method d1)) gone → GivesTurned (turned_with rules method d o) r2 d2 gone gone'
  given (Done b) r1 r2 d1 d2 t s gone gone' same h e f k = (
    ap (λ z. without_table (freed_all z (objects_dropped rules method d)) (table_left d method)) h.0
        ∙ (ap (λ z. without_table (freed_all r1 (objects_dropped rules method z)) (table_left z method)) (sym same) ∙ sym e),
    ap (turned_to rules method d) h.1 ∙ (ap (λ z. turned_to rules method z (table_of t s)) (sym same) ∙ sym f),
    k ∙ ap (λ z. told_each (bytes_of (objects_dropped rules method z)) gone) same,
  )
  given (Refused why) r1 r2 d1 d2 t s gone gone' same h e f k = absurd h

  pub gives-turned : (r1 r2 : Layout ℕ) (d1 d2 : Dictionary) (t s : ℕ) (gone gone' : Gone) → d1 ≡ d → HasBrought (bring_of terms r 0 false (slots_between d.method method count)) r1 t s
      → r2 ≡ without_table (freed_all r1 (objects_dropped rules method d1)) (table_left d1 method) → d2 ≡ turned_to rules method d1 (table_of t s)
      → gone' ≡ told_each (bytes_of (objects_dropped rules method d1)) gone → GivesTurned (turn rules terms r 0 d method false) r2 d2 gone gone'
  gives-turned r1 r2 d1 d2 t s gone gone' same h e f k =
      subst (λ z. GivesTurned (if z then stays else turned_with rules method d (bring terms r 0 d method false)) r2 d2 gone gone') (sym (other-method method d.method other))
      (given (bring terms r 0 d method false) r1 r2 d1 d2 t s gone gone' same
      (subst (λ n. HasBrought (bring_of terms r 0 false (slots_between d.method method n)) r1 t s) (sym counts) h) e f k)

  -- without it nothing is
  pub refuses-turned : (why : RegionFault) → IsRefusal (λ refused. bring_of terms r 0 refused (slots_between d.method method count)) why → IsRefusal (turn rules terms r 0 d method) why
  refuses-turned why h =
      subst (λ z. IsRefusal (λ (t : Bool). if z then stays else turned_with rules method d (bring terms r 0 d method t)) why) (sym (other-method method d.method other))
      (refusal-kept (λ (t : Bool). bring terms r 0 d method t) (λ (t : Bool). turned_with rules method d (bring terms r 0 d method t)) (λ refused fault e. ap (turned_with rules method d) e) why
      (subst (λ n. IsRefusal (λ (t : Bool). bring_of terms r 0 t (slots_between d.method method n)) why) (sym counts) h))

-- the present method changes nothing
pub gives-same : (rules : Rules) (terms : Terms) (method : DictMethod) (r : Layout ℕ) (d : Dictionary) (gone : Gone) → method ≡ d.method → GivesTurned (turn rules terms r 0 d method false) r d gone gone
gives-same rules terms method r d gone e =
    subst (λ z. GivesTurned (if z then Done (record { region = r; dict = d; gone = []; granted = [] }) else turned_with rules method d (bring terms r 0 d method false)) r d gone gone)
    (sym (eq-eqb (method_number method) (method_number d.method) (ap method_number e))) (refl, refl, refl)
