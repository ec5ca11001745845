-- The end of a session: its dictionaries one after another, from the front.
use Rattle.vc_base.proofs.Common.{◌≡◌, ℕ, cond, List, [], ◌∷◌, ◌++◌, map, length, IfSome, slice_get, Some, None, Option, flat_map, bytes_eq, sym, refl, ap, ◌∙◌, subst, ⊎_elim, arith, cases_Bool, none-some, same_Some, bytes_eq-Decides, Discipline}
use Rattle.vc_dtdisc.specs.Rules.{Gone, Rules}
use Rattle.vc_objects.specs.Remove.{bytes_of}
use Rattle.vc_commands.specs.declared.dict.entry.DictEntry.{DictEntry}
use Rattle.vc_commands.specs.Held.{Held, home_of}
use Rattle.vc_steps.specs.Account.{held_named, state_of}
use Rattle.vc_steps.specs.DictHomes.{AreDicts, dict_home, dicts_in}
use Rattle.vc_steps.specs.Dicts.{shut_in, shut_state, told_of, without_dict}
use Rattle.vc_steps.specs.State.{State, home_named}
use Rattle.vc_views.specs.Views.{DictHome}
use Rattle.vc_commands.specs.Home.{Home}
use Rattle.vc_steps.specs.Told.{ended_told, tell}
use Rattle.vc_steps.proofs.Cells.{at_number_some}
use Rattle.vc_steps.proofs.KindsTold.{tell-append}

-- with no kind there is no dictionary
pub no-dicts : (held : List Held) (es : List (List ℕ × DictEntry)) → AreDicts [] held es → es ≡ []
no-dicts held [] all = refl
no-dicts held (e ∷ es) all = absurd (none-some all.0.rules (at_number_some [] e.1.dict.kind all.0.rules all.0.kind).1)

-- the region of a name among what regions stand for
pub home-found : (hs : List Held) (r : List ℕ) (h : Held) → held_named hs (Some r) ≡ Some h → home_named r (map home_of hs) ≡ Some (home_of h)
home-found [] r h found = absurd (none-some h found)
home-found (g ∷ gs) r h found =
    ⊎_elim
    (λ e.
    ap (λ v. cond v (Some (home_of g)) (home_named r (map home_of gs))) e
    ∙ ap (λ k. Some (home_of k)) (same_Some g h (sym (ap (λ v. cond v (Some g) (held_named gs (Some r))) e) ∙ found)))
    (λ e.
    ap (λ v. cond v (Some (home_of g)) (home_named r (map home_of gs))) e
    ∙ home-found gs r h (sym (ap (λ v. cond v (Some g) (held_named gs (Some r))) e) ∙ found))
    (cases_Bool (bytes_eq g.name r))

without-front : (d : DictHome) (ds : List DictHome) → without_dict d.name (d ∷ ds) ≡ ds
without-front d ds = ap (λ b. cond b ds (d ∷ without_dict d.name ds)) ((bytes_eq-Decides d.name d.name).1 refl)

-- the first dictionary is gone when it is shut
dicts-shut : (s : State) (d : DictHome) (ds : List DictHome) (o : Option Home) (h : Home) → o ≡ Some h → s.dicts ≡ d ∷ ds → (shut_in s d o).dicts ≡ ds
dicts-shut s d ds None h found is = absurd (none-some h found)
dicts-shut s d ds (Some k) h found is = ap (without_dict d.name) is ∙ without-front d ds

-- what a session tells at its end is what its first dictionary tells, and then the rest
pub told-front : (s t : State) (d : DictHome) (ds : List DictHome) (h : Home) → home_named d.home s.homes ≡ Some h → s.dicts ≡ d ∷ ds → t ≡ shut_state s d → ended_told s ≡ told_of d.kind (bytes_of d.dict.objects) ++ ended_told t
told-front s t d ds h found is shut =
    let each : DictHome → List (ℕ × List ℕ) = λ e. told_of e.kind (bytes_of e.dict.objects) in
    let left : t.dicts ≡ ds = ap (λ (u : State). u.dicts) shut ∙ dicts-shut s d ds (home_named d.home s.homes) h found is in
    ap (flat_map each) is ∙ ap (λ es. each d ++ flat_map each es) (sym left)

-- one dictionary is shut, and the rest tell at the end
pub gone-front :
    (s t : State) (d : DictHome) (ds : List DictHome) (h : Home) (gone gone' : List Gone)
    → home_named d.home s.homes ≡ Some h → s.dicts ≡ d ∷ ds → t ≡ shut_state s d → gone' ≡ tell (told_of d.kind (bytes_of d.dict.objects)) gone → tell (ended_told t) gone' ≡ tell (ended_told s) gone
gone-front s t d ds h gone gone' found is shut told =
    ap (tell (ended_told t)) told
    ∙ (sym (tell-append (told_of d.kind (bytes_of d.dict.objects)) (ended_told t) gone)
    ∙ ap (λ ts. tell ts gone) (sym (told-front s t d ds h found is shut)))

-- by what shutting the first of some dictionaries leaves
pub gone-shut :
    (kinds : List Rules) (slots : List (Option Discipline)) (held : List Held) (es : List (List ℕ × DictEntry)) (vs : ℕ → Option (List ℕ)) (t : State) (gone gone' : List Gone)
    → AreDicts kinds held es
    → (e : List ℕ × DictEntry) → slice_get es 0 ≡ Some e
    → t ≡ shut_state (state_of kinds slots held (dicts_in held vs es)) (dict_home held vs e)
    → gone' ≡ tell (told_of e.1.dict.kind (bytes_of (dict_home held vs e).dict.objects)) gone
    → tell (ended_told t) gone' ≡ tell (ended_told (state_of kinds slots held (dicts_in held vs es))) gone
gone-shut kinds slots held [] vs t gone gone' all e at shut told = absurd (none-some e at)
gone-shut kinds slots held (f ∷ fs) vs t gone gone' all e at shut told =
    let s = state_of kinds slots held (dicts_in held vs (f ∷ fs)) in
    let same : e ≡ f = sym (same_Some f e at) in
    gone-front s t (dict_home held vs f) (dicts_in held vs fs) (home_of all.0.home) gone gone'
    (home-found held f.1.home all.0.home all.0.found)
    refl
    (shut ∙ ap (λ x. shut_state s (dict_home held vs x)) same)
    (told ∙ ap (λ (x : List ℕ × DictEntry). tell (told_of x.1.dict.kind (bytes_of (dict_home held vs x).dict.objects)) gone) same)

-- what is told at the end doesn't depend on views
pub told-views : (held : List Held) (vs vs' : ℕ → Option (List ℕ)) (es : List (List ℕ × DictEntry))
    → flat_map (λ d. told_of d.kind (bytes_of d.dict.objects)) (dicts_in held vs' es) ≡ flat_map (λ d. told_of d.kind (bytes_of d.dict.objects)) (dicts_in held vs es)
told-views held vs vs' [] = refl
told-views held vs vs' (e ∷ es) = ap (λ ts. told_of e.1.dict.kind (bytes_of (dict_home held vs e).dict.objects) ++ ts) (told-views held vs vs' es)

-- where a list has an item at an index, what holds of it there
pub if_some-at : {A : Type 0} (P : A → Type 0) (o : Option A) (x : A) → o ≡ Some x → IfSome o P → P x
if_some-at {A = A} P o x is all = let Q : Option A → Type 0 = λ p. IfSome p P in subst Q is all

-- a list of no item
pub nothing-left : {A : Type 0} (xs : List A) → length xs ≡ 0 → xs ≡ []
nothing-left [] none = refl
nothing-left (x ∷ xs) none = absurd (omega (arith, none))

pub if_some-to : {A : Type 0} (P : A → Type 0) (o : Option A) (x : A) → o ≡ Some x → P x → IfSome o P
if_some-to {A = A} P o x is p = let Q : Option A → Type 0 = λ q. IfSome q P in subst Q (sym is) p
