-- How far a dictionary has been emptied, object by object.
use Rattle.vc_base.proofs.Common.{◌≡◌, ℕ, ◌+◌, ◌<◌, ◌≤◌, true, false, ◌≢◌, List, [], ◌∷◌, map, length, if◌then◌else◌, sym, refl, ap, ◌∙◌, subst, inl, inr, true≢false, arith, eq-eqb, eqb_tells, Blocks, contains, some_address, Discipline, Layout}
use Rattle.vc_base.proofs.Members.{apart-cons, apart-front, within-head, differs}
use Rattle.vc_dtdisc.specs.Objects.{Object, address_of, without_object}
use Rattle.vc_dtdisc.specs.Finding.{first_of}
use Rattle.vc_dtdisc.specs.Rules.{Gone, Rules, gone_after}
use Rattle.vc_dtlist.proofs.HolderLemmas.{apart-append}
use Rattle.vc_dict.specs.Listed.{holders_of}
use Rattle.vc_dict.specs.declared.dict.Dict.{Dict}
use Rattle.vc_best.specs.Cells.{cells_in, rest_in}
use Rattle.vc_best.specs.Parts.{disc_in, segments_in}
use Rattle.vc_best.specs.declared.best.Best.{Best}
use Rattle.vc_objects.specs.Unlabelled.{FreesCell}
use Rattle.vc_objects.specs.Insert.{layout_without}
use Rattle.vc_objects.specs.Leaves.{Leaves, LeavesRest, told_each}
use Rattle.vc_objects.specs.Objects.{Dictionary, Table, option_list, own_blocks}
use Rattle.vc_objects.specs.Parts.{IsWhole, dictionary_in, dictionary_of, object_of, table_of}
use Rattle.vc_objects.specs.Promises.{Empties}
use Rattle.vc_objects.specs.Remove.{all_out, bytes_of, without_objects, first_out, freed_all, remove_first}
use Rattle.vc_objects.proofs.Leaving.{keeps-same, leaves-self, leaves-trans}
use Rattle.vc_objects.proofs.Owning.{owned-within}
use Rattle.vc_objects.proofs.Taken.{fewer-owned}
use Rattle.vc_objects.proofs.Unlabelled.{left-cell}
use Rattle.vc_dict.specs.Stands.{slots_in, table_in}

-- a dictionary with other objects
abbrev pub with_objects : Dictionary → List Object → Dictionary
with_objects d os = record { method = d.method; objects = os; current = d.current; table = d.table }

-- the first object goes, and the others are left
objects-first : (o : Object) (os : List Object) → without_object address_of o.at (o ∷ os) ≡ os
objects-first o os = ap (λ t. if t then os else o ∷ without_object address_of o.at os) (eq-eqb o.at o.at refl)

first-freed : (r : Layout ℕ) (d : Dictionary) (os : List Object) → freed_all (remove_first r (with_objects d os)).region (remove_first r (with_objects d os)).dict.objects ≡ freed_all r os
first-freed r d [] = refl
first-freed r d (o ∷ os) = ap (λ z. freed_all (layout_without r o.at) z) (objects-first o os)

first-told : (r : Layout ℕ) (d : Dictionary) (os : List Object) (gone : Gone) → told_each (bytes_of (remove_first r (with_objects d os)).dict.objects) (told_each (option_list (remove_first r (with_objects d os)).gone) gone) ≡ told_each (bytes_of os) gone
first-told r d [] gone = refl
first-told r d (o ∷ os) gone = ap (λ z. told_each (bytes_of z) (gone_after gone o.bytes)) (objects-first o os)

first-count : (r : Layout ℕ) (d : Dictionary) (os : List Object) → 0 < length os → length (remove_first r (with_objects d os)).dict.objects + 1 ≡ length os
first-count r d [] some = absurd (omega arith)
first-count r d (o ∷ os) some = let e : length (without_object address_of o.at (o ∷ os)) ≡ length os = ap (λ (z : List Object). length z) (objects-first o os) in omega (arith, e)

first-emptied : (r : Layout ℕ) (d : Dictionary) (os : List Object) → without_objects (remove_first r (with_objects d os)).dict ≡ without_objects d
first-emptied r d [] = refl
first-emptied r d (o ∷ os) = refl

none_left : (os : List Object) → length os ≡ 0 → os ≡ []
none_left [] e = refl
none_left (o ∷ os) e = absurd (omega arith)

-- without objects it is as when it is emptied
no_holders : (b : Blocks) (xs : List ℕ) → map (object_of b) xs ≡ [] → xs ≡ []
no_holders b [] e = refl
no_holders b (x ∷ xs) e = cc

none_current : (c : ℕ) → contains (0 ∷ []) c ≡ true → c ≡ 0
none_current c h = elim (eqb_tells 0 c) as (λ _. c ≡ 0) [
  | inl same ↦ sym same.1
  | inr apart ↦ absurd (true≢false (sym h ∙ apart-cons 0 [] c apart.1 refl))
]

pub emptied-none : (rules : Rules) (d : Dict) (b : Blocks) → IsWhole rules d b → (dictionary_of d b).objects ≡ [] → dictionary_of d b ≡ without_objects (dictionary_of d b)
emptied-none rules d b whole none =
    let with : List Object → ℕ → Dictionary = λ os c. record { method = d.method; objects = os; current = some_address c; table = table_of (table_in d).0 (slots_in d) } in
    let lone : contains (0 ∷ []) d.current.0 ≡ true = subst (λ z. contains (0 ∷ z) d.current.0 ≡ true) (no_holders b (holders_of d b) none) whole.current in
    ap (λ os. with os d.current.0) none ∙ ap (λ c. with [] c) (none_current d.current.0 lone)

-- it owns no more then
pub emptied-fewer : (d left : Dictionary) → left ≡ without_objects d → (a : ℕ) → contains (own_blocks d) a ≡ false → contains (own_blocks left) a ≡ false
emptied-fewer d left e a h =
    let front = map (λ (t : Table). t.at) (option_list d.table) in
    ap (λ z. contains (own_blocks z) a) e ∙ apart-append front [] a (apart-front front (map (λ (o : Object). o.at) d.objects) a h) refl

module _ {I : Type 0} {V : I → Type 0} (meaning : (x : I) × V x → Discipline) where
  -- the table goes, too
  pub leaves-table : (r s : Best I V) (d : Dict) → (table_in d).0 ≢ 0 → FreesCell meaning r (table_in d).0 s → Leaves meaning r s (own_blocks (dictionary_in d r)) []
  leaves-table r s d ne free = record {
    disc = keeps-same (disc_in meaning r) (disc_in meaning s) (segments_in r) (segments_in s) free.around.disc free.around.segments;
    labelled = free.around.labelled;
    others = λ a apart _.
        let own : contains (own_blocks (dictionary_in d r)) (table_in d).0 ≡ true = owned-within d (cells_in r) (table_in d).0 ne ∙ within-head (table_in d).0 (holders_of d (cells_in r)) in
        ap (λ (f : Blocks). f a) free.cells ∙ left-cell (cells_in r) (table_in d).0 a (differs (own_blocks (dictionary_in d r)) (table_in d).0 a own apart);
    fresh = λ a within _. absurd (true≢false (sym within));
  }

  pub leaves-none : (r : Best I V) (mine : List ℕ) → Leaves meaning r r mine []
  leaves-none r mine = record {
    disc = keeps-same (disc_in meaning r) (disc_in meaning r) (segments_in r) (segments_in r) refl refl;
    labelled = refl;
    others = λ a _ _. refl;
    fresh = λ a within _. absurd (true≢false (sym within));
  }

-- so many objects were taken out, and the others are left
pub record Emptying {I : Type 0} {V : I → Type 0} (meaning : (x : I) × V x → Discipline) (rules : Rules) (before : Best I V) (old : Dict) (gone : Gone) (passed : ℕ) (after : Best I V) (new : Dict) (told : Gone) : Type 0 where
  pub count : passed + length (dictionary_in new after).objects ≡ length (dictionary_in old before).objects
  pub region : freed_all (rest_in after) (dictionary_in new after).objects ≡ freed_all (rest_in before) (dictionary_in old before).objects
  pub dict : without_objects (dictionary_in new after) ≡ without_objects (dictionary_in old before)
  pub leaves : LeavesRest meaning rules before old after new
  pub disc : disc_in meaning after ≡ disc_in meaning before
  pub fewer : (a : ℕ) → contains (own_blocks (dictionary_in old before)) a ≡ false → contains (own_blocks (dictionary_in new after)) a ≡ false
  pub tells : told_each (bytes_of (dictionary_in new after).objects) told ≡ told_each (bytes_of (dictionary_in old before).objects) gone

module _ {I : Type 0} {V : I → Type 0} (meaning : (x : I) × V x → Discipline) (rules : Rules) (before : Best I V) (old : Dict) (gone : Gone) where
  pub emptying-start : IsWhole rules old (cells_in before) → Emptying meaning rules before old gone 0 before old gone
  emptying-start whole = record {
    count = omega arith;
    region = refl;
    dict = refl;
    leaves = leaves-self meaning rules before old whole;
    disc = refl;
    fewer = λ a h. h;
    tells = refl;
  }

  module _ (passed : ℕ) (mid : Best I V) (dict : Dict) (told : Gone) (e : Emptying meaning rules before old gone passed mid dict told) where
    -- one more goes
    pub emptying-next : (rules' rules'' : Rules) (after : Best I V) (new : Dict) (told' : Gone) → rules' ≡ rules → passed < length (dictionary_in old before).objects
        → Empties meaning (first_out (rest_in mid) (dictionary_in dict mid)) rules' rules'' mid dict told after new told' → Emptying meaning rules before old gone (passed + 1) after new told'
    emptying-next rules' rules'' after new told' same more step =
        let r = rest_in mid in
        let d = dictionary_in dict mid in
        let next = remove_first r d in
        let leaves : LeavesRest meaning rules mid dict after new = subst (λ z. LeavesRest meaning z mid dict after new) same step.leaves in
        let shorter : length next.dict.objects + 1 ≡ length d.objects = first-count r d d.objects (let c = e.count in omega (arith, c)) in
        let as_long : length (dictionary_in new after).objects ≡ length next.dict.objects = ap (λ (z : Dictionary). length z.objects) step.dict in
        let fewer : (a : ℕ) → contains (own_blocks d) a ≡ false → contains (own_blocks (dictionary_in new after)) a ≡ false =
        λ a h. ap (λ (z : Dictionary). contains (own_blocks z) a) step.dict ∙ fewer-owned r d (first_of d.objects) a h in
        let c = e.count in
        record {
          count = omega (arith, c, shorter, as_long);
          region =
              ap (λ z. freed_all z (dictionary_in new after).objects) step.region ∙ ap (λ (z : Dictionary). freed_all next.region z.objects) step.dict
              ∙ first-freed r d d.objects ∙ e.region;
          dict = ap (λ (z : Dictionary). without_objects z) step.dict ∙ first-emptied r d d.objects ∙ e.dict;
          leaves = record {
            whole = leaves.whole;
            kind = leaves.kind ∙ e.leaves.kind;
            rest = leaves-trans meaning before mid after (own_blocks (dictionary_in old before)) (own_blocks d) (own_blocks (dictionary_in new after)) e.leaves.rest leaves.rest (λ a apart _. e.fewer a apart);
          };
          disc = step.disc ∙ e.disc;
          fewer = λ a h. fewer a (e.fewer a h);
          tells =
              ap (λ z. told_each (bytes_of (dictionary_in new after).objects) z) step.gone
              ∙ ap (λ (z : Dictionary). told_each (bytes_of z.objects) (told_each (option_list next.gone) told)) step.dict
              ∙ first-told r d d.objects told ∙ e.tells;
        }

    -- all are gone
    module _ (all : length (dictionary_in old before).objects ≤ passed) where
      none : (dictionary_in dict mid).objects ≡ []
      none = none_left (dictionary_in dict mid).objects (let c = e.count in omega (arith, c, all))

      pub emptying-all : (rules' : Rules) → rules' ≡ rules → Empties meaning (all_out (rest_in before) (dictionary_in old before)) rules rules' before old gone mid dict told
      emptying-all rules' kind = record {
        kind = kind;
        region = sym (ap (λ os. freed_all (rest_in mid) os) none) ∙ e.region;
        dict = emptied-none rules dict (cells_in mid) e.leaves.whole none ∙ e.dict;
        leaves = e.leaves;
        disc = e.disc;
        gone = sym (ap (λ os. told_each (bytes_of os) told) none) ∙ e.tells;
      }
