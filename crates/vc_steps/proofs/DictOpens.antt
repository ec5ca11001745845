-- What the opening of a dictionary leaves of a session.
use Rattle.vc_base.proofs.Common.{◌≡◌, ◌⊎◌, ℕ, Bool, false, List, [], ◌∷◌, ◌++◌, map, set, slice_get, Some, None, Ok, Err, Option, Result, bytes_eq, sym, refl, ap, ◌∙◌, subst, none-some, same_Some, bytes_eq-Decides, Blocks, Discipline, Layout, relabel_layout, at_number, Fault, Outcome, done_as}
use Rattle.vc_model.specs.Discipline.{Excused}
use Rattle.vc_base.specs.declared.dict_method.DictMethod.{DictMethod}
use Rattle.vc_dict.specs.declared.dict.Dict.{Dict}
use Rattle.vc_model.specs.Outcome as model
use Rattle.vc_dtdisc.specs.Rules.{Gone, Rules}
use Rattle.vc_region.specs.Region.{OfBest, Region, layout_in, region_with_labels}
use Rattle.vc_region.proofs.Relabel.{layout-relabelled}
use Rattle.vc_seg.specs.Answer.{IsRefusal}
use Rattle.vc_seg.specs.declared.fault.RegionFault.{RegionFault}
use Rattle.vc_seg.specs.declared.fault.RegionFault.TheVariants as code
use Rattle.vc_objects.specs.Insert.{Grown, open_dictionary, want_of}
use Rattle.vc_objects.specs.Leaves.{HasGrown, LacksTable, RefusedBy}
use Rattle.vc_objects.specs.Objects.{Dictionary, own_blocks}
use Rattle.vc_objects.specs.Parts.{IsWhole, dictionary_of}
use Rattle.vc_objects.proofs.Named.{open_dictionary-named, relabel_grown}
use Rattle.vc_commands.specs.DictCommands.{is_for_table, table_refusal}
use Rattle.vc_script.specs.Needs.{Need, need_shown}
use Rattle.vc_script.specs.declared.command.Command.TheVariants.{OpenDict}
use Rattle.vc_script.specs.declared.refusal.Refusal.{Refusal}
use Rattle.vc_script.specs.declared.refusal.Refusal.TheVariants.{NoSegmentForTable}
use Rattle.vc_script.specs.declared.refusal.Refusal.TheVariants as why
use Rattle.vc_script.specs.declared.reply.Reply.{Reply}
use Rattle.vc_script.specs.declared.reply.Reply.TheVariants as reply
use Rattle.vc_commands.specs.Held.{Held, IsChange, home_of}
use Rattle.vc_steps.specs.Account.{Settles, accounts, held_named, settled_accounts, state_of}
use Rattle.vc_steps.specs.DictHomes.{AreDicts, IsDictOf, cells_of_held, dict_home, dicts_in, dict_over}
use Rattle.vc_steps.specs.Dicts.{dict_opened, dict_refused, open_dict_in, open_dict_step, open_dict_unless}
use Rattle.vc_commands.specs.FreedNames.{FreedNames}
use Rattle.vc_commands.specs.Labels.{kept_of, name_of_tag}
use Rattle.vc_steps.specs.WantedSegments.{InHeld, StepLacksFor}
use Rattle.vc_steps.specs.Table.{TellsTable, table_reply}
use Rattle.vc_steps.specs.Refusals.{home_place, refusal_at}
use Rattle.vc_steps.specs.State.{State, Stepped, home_named, with_region}
use Rattle.vc_views.specs.Views.{DictHome}
use Rattle.vc_commands.specs.Home.{Home, Label, is_home}
use Rattle.vc_steps.specs.Step.{GivesStep}
use Rattle.vc_steps.proofs.RegionSteps.{moment_over}
use Rattle.vc_steps.specs.Steps.{StepsBy}
use Rattle.vc_steps.specs.Told.{tell}
use Rattle.vc_steps.proofs.BestRegions.{best-named}
use Rattle.vc_steps.proofs.RegionChange.{gives-same, homes-change, settles-none, settles-one, state-same}
use Rattle.vc_steps.proofs.DictChange.{Touches, clear-none, dicts-kept, dicts-push, homes-kept, homes-push, now-named, was-named}
use Rattle.vc_steps.proofs.DictsStay.{Entry}
use Rattle.vc_commands.proofs.Firsts.{IsFirst, first-unmap}
use Rattle.vc_commands.proofs.Names.{name-none}
use Rattle.vc_commands.specs.declared.region.home.HomeEntry.{HomeEntry}
use Rattle.vc_steps.proofs.RegionAt.{RegionAt, region-first, region-named, region-stands, region_at}
use Rattle.vc_steps.proofs.SessionHere.{SessionHere, parts}

-- what a fault tells where no table is put
pub record TableTold (call : Bool → Outcome (Grown ℕ)) (told : Reply) : Type 0 where
  pub fault : Fault
  pub refused : call (is_for_table (need_shown told)) ≡ model.Refused fault
  pub is : told ≡ reply.Refused (table_refusal (want_of fault))

told-by : (call : Bool → Outcome (Grown ℕ)) (fault : Fault) (one told : Reply) → Some one ≡ Some told → call (is_for_table (need_shown one)) ≡ model.Refused fault → one ≡ reply.Refused (table_refusal (want_of fault)) → TableTold call told
told-by call fault one told same is shown = subst (TableTold call) (same_Some one told same) (record { fault = fault; refused = is; is = shown })

pub table-told : (call : Bool → Outcome (Grown ℕ)) (fault : RegionFault) (told : Reply) → table_reply fault ≡ Some told → IsRefusal call fault → TableTold call told
table-told call code.OutOfMemory told same is = absurd (none-some told same)
table-told call code.NoSegment told same is = told-by call model.NoSegment (reply.Refused NoSegmentForTable) told same is refl
table-told call code.TooManySegments told same is = told-by call model.TooManySegments (reply.Refused why.TooManySegments) told same is refl
table-told call code.Fixed told same is = told-by call model.Fixed (reply.Refused why.TooManySegments) told same is refl
table-told call code.PoolSize told same is = told-by call model.PoolSize (reply.Refused why.TooManySegments) told same is refl
table-told call code.NotLast told same is = told-by call model.NotLast (reply.Refused why.TooManySegments) told same is refl
table-told call code.WrongMethod told same is = told-by call model.WrongMethod (reply.Refused why.TooManySegments) told same is refl

-- with no region of the name
pub open-none : (s : State) (gone : List Gone) (d r : List ℕ) (method : DictMethod) (k : ℕ) (need : Need) → home_named r s.homes ≡ None → GivesStep (open_dict_step s d method r k need) gone (reply.Refused why.NoRegion) s gone
open-none s gone d r method k need none =
    gives-same (open_dict_step s d method r k need) gone (reply.Refused why.NoRegion) s (ap (open_dict_in s d method k need) none)

-- in a region of a session, by its name and index, a dictionary is opened under a name, of a method, by the kind of a number
pub record OpensIn {I : Type 0} {V : I → Type 0} (meaning : (x : I) × V x → Discipline) (v : HomeEntry I V) : Type 0 where
  pub here : SessionHere meaning
  pub r : List ℕ
  pub j : ℕ
  pub region : RegionAt here.homes here.labels r j v
  pub d : List ℕ
  pub method : DictMethod
  pub k : ℕ

module _ {I : Type 0} {V : I → Type 0} {meaning : (x : I) × V x → Discipline} {v : HomeEntry I V} (x : OpensIn meaning v) where
  open (parts x.here) use {kinds, slots, hs, es, vs, s}
  open x use {r, d, method, k, j}

  abbrev h : Held
  h = region_at meaning x.region

  at : slice_get hs j ≡ Some h
  at = region-stands meaning x.region

  home-found : home_named r s.homes ≡ Some (home_of h)
  home-found = region-named meaning x.region

  named-first : IsFirst (λ (y : Held). bytes_eq y.name r) hs j
  named-first = first-unmap (is_home r) home_of hs j (region-first meaning x.region)

  -- it is refused before its table is asked for
  pub open-refused : (gone : List Gone) (need : Need) (refusal : Refusal) → dict_refused s (home_of h) d k ≡ Some refusal → GivesStep (open_dict_step s d method r k need) gone (reply.Refused refusal) s gone
  open-refused gone need refusal is =
      gives-same (open_dict_step s d method r k need) gone (reply.Refused refusal) s
      (ap (open_dict_in s d method k need) home-found ∙ ap (open_dict_unless s (home_of h) d method k need) is)

  named : (b : Bool) → open_dictionary h.disc.terms (layout_in (home_of h).region) None method b ≡ done_as (relabel_grown (name_of_tag h.labels)) (open_dictionary h.disc.terms (layout_in h.region) 0 method b)
  named b =
      ap (λ (q : Layout Label). open_dictionary h.disc.terms q None method b) (layout-relabelled (name_of_tag h.labels) h.region)
      ∙ (ap (λ o. open_dictionary h.disc.terms (relabel_layout (name_of_tag h.labels) (layout_in h.region)) o method b) (sym (name-none h.labels 0 refl))
      ∙ open_dictionary-named (name_of_tag h.labels) h.disc.terms (layout_in h.region) 0 method b)

  step-open : (need : Need) → dict_refused s (home_of h) d k ≡ None → open_dict_step s d method r k need ≡ dict_opened s (home_of h) d k (done_as (relabel_grown (name_of_tag h.labels)) (open_dictionary h.disc.terms (layout_in h.region) 0 method (is_for_table need)))
  step-open need is =
      ap (open_dict_in s d method k need) home-found
      ∙ (ap (open_dict_unless s (home_of h) d method k need) is ∙ ap (dict_opened s (home_of h) d k) (named (is_for_table need)))

  -- no block is put for its table
  pub open-failed : (gone : List Gone) (fault : RegionFault) (told : Reply) (after : State) → after ≡ s → dict_refused s (home_of h) d k ≡ None → table_reply fault ≡ Some told → IsRefusal (open_dictionary h.disc.terms (layout_in h.region) 0 method) fault → GivesStep (open_dict_step s d method r k (need_shown told)) gone told after gone
  open-failed gone fault told after same none tells refusal =
      let t = table-told (open_dictionary h.disc.terms (layout_in h.region) 0 method) fault told tells refusal in
      gives-same (open_dict_step s d method r k (need_shown told)) gone told after
      (step-open (need_shown told) none
      ∙ (ap (λ o. dict_opened s (home_of h) d k (done_as (relabel_grown (name_of_tag h.labels)) o)) t.refused
      ∙ (ap (λ q. let x : Stepped = record { state = s; reply = q; told = []; granted = [] } in x) (sym t.is)
      ∙ ap (λ q. let x : Stepped = record { state = q; reply = told; told = []; granted = [] } in x) (sym same))))

  module _ (g : Held) {cells : Blocks} (change : IsChange (record h { cells = cells }) g) where
    abbrev gs : List Held
    gs = set hs j g

    abbrev Settled : List ℕ → Type 0
    Settled refusals = Settles x.here.armed (settled_accounts (accounts slots) hs) (settled_accounts (accounts slots) gs) refusals

    -- a refusal of its discipline counts
    pub settles-failed : (fault : RegionFault) (told : Reply) → table_reply fault ≡ Some told → RefusedBy fault (LacksTable (Some 16) h.disc g.disc) h.disc g.disc → Settled (refusal_at s (OpenDict d method r k) told)
    settles-failed code.OutOfMemory told same asked = absurd (none-some told same)
    settles-failed code.NoSegment told same asked =
        subst (λ x. Settled (refusal_at s (OpenDict d method r k) x)) (same_Some (reply.Refused NoSegmentForTable) told same)
        (subst (λ o. Settled (home_place o)) (sym home-found) (settles-one x.here.armed slots hs j h g at x.here.held change asked.rose))
    settles-failed fault told same asked =
        subst (λ x. Settled (refusal_at s (OpenDict d method r k) x)) (same_Some (reply.Refused why.TooManySegments) told same) (settles-none x.here.armed slots hs j h g at x.here.held change asked.faults)

    -- and was wanting for the table
    pub lacks-failed : (fault : RegionFault) (told : Reply) → table_reply fault ≡ Some told → RefusedBy fault (LacksTable (Some 16) h.disc g.disc) h.disc g.disc → Touches h g [] [] → StepLacksFor s hs gs (OpenDict d method r k) told
    lacks-failed code.OutOfMemory told same asked touch = absurd (none-some told same)
    lacks-failed code.NoSegment told same asked touch =
        let P : Discipline → Discipline → Type 0 = λ old new. LacksTable (Some 16) old new in
        let now : held_named gs (Some r) ≡ Some g = now-named kinds hs j h g [] [] named-first at touch in
        let was : held_named hs (Some r) ≡ Some h = was-named kinds hs j h g [] [] named-first at touch in
        subst (λ x. StepLacksFor s hs gs (OpenDict d method r k) x) (same_Some (reply.Refused NoSegmentForTable) told same)
        (subst (λ o. InHeld o (held_named gs (Some r)) P) (sym was) (subst (λ o. InHeld (Some h) o P) (sym now) asked))
    lacks-failed fault told same asked touch =
        subst (λ x. StepLacksFor s hs gs (OpenDict d method r k) x) (same_Some (reply.Refused why.TooManySegments) told same) tt

    -- all else stays
    pub dicts-failed : Touches h g [] [] → AreDicts kinds gs es
    dicts-failed touch = dicts-kept kinds hs j h g [] [] named-first at touch es x.here.dicts (clear-none hs r es)

    pub state-failed : Touches h g [] [] → g.region ≡ h.region → g.labels ≡ h.labels → state_of kinds slots gs (dicts_in gs vs es) ≡ s
    state-failed touch region labels =
        ap (state_of kinds slots gs) (homes-kept kinds hs j h g [] [] named-first at touch vs es x.here.dicts (clear-none hs r es))
        ∙ state-same x.here.armed slots hs j h g at x.here.held change kinds (dicts_in hs vs es)
        (ap (λ q. let p : Region Label × FreedNames = (region_with_labels (name_of_tag g.labels) q, kept_of g.labels) in p) region
        ∙ ap (λ l. let p : Region Label × FreedNames = (region_with_labels (name_of_tag l) h.region, kept_of l) in p) labels)

  -- no block is put for its table, by the answer to the fault
  module _ (g : Held) {cells : Blocks} (change : IsChange (record h { cells = cells }) g) (gone : List Gone) where
    no-fault : (fault : RegionFault) → table_reply fault ≡ None → RefusedBy fault (LacksTable (Some 16) h.disc g.disc) h.disc g.disc → (g.disc.faults ≡ h.disc.faults) ⊎ Excused h.disc g.disc
    no-fault code.OutOfMemory none asked = asked.faults
    no-fault code.NoSegment none asked = absurd (none-some _ (sym none))
    no-fault fault none asked = asked.faults

    pub steps-failed : {E : Type 0} (fault : RegionFault) (answer : Result Reply E) → TellsTable fault answer → RefusedBy fault (LacksTable (Some 16) h.disc g.disc) h.disc g.disc → IsRefusal (open_dictionary h.disc.terms (layout_in h.region) 0 method) fault → dict_refused s (home_of h) d k ≡ None → Touches h g [] [] → g.region ≡ h.region → g.labels ≡ h.labels → StepsBy answer (moment_over x.here.armed slots es vs kinds gone hs) (moment_over x.here.armed slots es vs kinds gone (set hs j g)) (OpenDict d method r k) (λ st. open_dict_step st d method r k)
    steps-failed fault (Ok told) tells asked refusal none touch region labels =
        record {
          gives = open-failed gone fault told (state_of kinds slots (set hs j g) (dicts_in (set hs j g) vs es)) (state-failed g change touch region labels) none tells refusal;
          settles = settles-failed g change fault told tells asked;
          armed = refl;
          lacks = lacks-failed g change fault told tells asked touch;
        }
    steps-failed fault (Err e) tells asked refusal none touch region labels =
        record {
          state = state-failed g change touch region labels;
          gone = refl;
          settles = settles-none x.here.armed slots hs j h g at x.here.held change (no-fault fault tells asked);
          armed = refl;
        }

  -- its table is put
  module _ (g : Held) (new : Dict) (n : ℕ) (free : vs n ≡ None) {cells : Blocks} (change : IsChange (record h { cells = cells }) g) (touch : Touches h g [] (own_blocks (dictionary_of new g.cells))) (labels : g.labels ≡ h.labels) (kind : new.kind ≡ k) (rules : Rules) (by : at_number kinds k ≡ Some rules) (whole : IsWhole rules new g.cells) where
    abbrev after_hs : List Held
    after_hs = set hs j g

    abbrev pub entry_opened : Entry
    entry_opened = (d, record { home = r; number = n; dict = new })

    abbrev mine : List ℕ
    mine = own_blocks (dictionary_of new g.cells)

    opened-held : held_named after_hs (Some r) ≡ Some g
    opened-held = now-named kinds hs j h g [] mine named-first at touch

    opened-is : IsDictOf kinds after_hs entry_opened
    opened-is = record {
      home = g;
      found = opened-held;
      best = touch.best;
      rules = rules;
      kind = ap (at_number kinds) kind ∙ by;
      whole = whole;
    }

    opened-own : own_blocks (dict_over after_hs entry_opened) ≡ mine
    opened-own = ap (λ o. own_blocks (dictionary_of new (cells_of_held o))) opened-held

    pub dicts-opened : AreDicts kinds after_hs (es ++ entry_opened ∷ [])
    dicts-opened =
        dicts-push kinds hs j h g [] mine named-first at touch entry_opened opened-is ((bytes_eq-Decides r r).1 refl) opened-own es x.here.dicts (clear-none hs r es)

    homes-opened : dicts_in after_hs vs (es ++ entry_opened ∷ []) ≡ dicts_in hs vs es ++ dict_home after_hs vs entry_opened ∷ []
    homes-opened =
        homes-push kinds hs j h g [] mine named-first at touch entry_opened opened-is ((bytes_eq-Decides r r).1 refl) opened-own vs es x.here.dicts (clear-none hs r es)

    abbrev pub opened_state : State
    opened_state = state_of kinds slots after_hs (dicts_in after_hs vs (es ++ entry_opened ∷ []))

    abbrev with_both : List Home → List DictHome → State
    with_both homes ds = record { shelf = s.shelf; homes = homes; kinds = kinds; dicts = ds }

    entry-is : (dict : Dictionary) → dict ≡ dictionary_of new g.cells → (let x : DictHome = record { name = d; home = r; kind = k; views = None; dict = dict } in x) ≡ dict_home after_hs vs entry_opened
    entry-is dict same =
        let one : List ℕ → ℕ → Option (List ℕ) → Dictionary → DictHome = λ n m v x. record { name = d; home = n; kind = m; views = v; dict = x } in
        ap (λ m. one r m None dict) (sym kind) ∙ (ap (λ v. one r new.kind v dict) (sym free) ∙ ap (one r new.kind (vs n)) (same ∙ sym (ap (λ o. dictionary_of new (cells_of_held o)) opened-held)))

    region-opened : (region : Layout ℕ) → layout_in g.region ≡ region → with_region r (OfBest (relabel_layout (name_of_tag h.labels) region)) (home_of h).kept s.homes ≡ map home_of after_hs
    region-opened region same =
        ap (λ (q : Region Label). with_region r q (home_of h).kept s.homes) (best-named (name_of_tag h.labels) g.region region touch.best (sym same))
        ∙ (ap (λ l. with_region r (region_with_labels (name_of_tag l) g.region) (kept_of l) s.homes) (sym labels)
        ∙ homes-change x.here.armed slots hs j h g at x.here.held change r (region-first meaning x.region))

    gives-opened : (gone : List Gone) (o : Outcome (Grown ℕ)) (t : Stepped) → HasGrown o (layout_in g.region) (dictionary_of new g.cells) → t ≡ dict_opened s (home_of h) d k (done_as (relabel_grown (name_of_tag h.labels)) o) → GivesStep t gone (reply.Opened d) opened_state gone
    gives-opened gone (model.Refused fault) t grown is = absurd grown
    gives-opened gone (model.Done x) t grown is =
        record {
          replied = ap (λ (q : Stepped). q.reply) is;
          state_after =
              ap (λ (q : Stepped). q.state) is
              ∙ (ap (λ q. with_both q (s.dicts ++ (let y : DictHome = record { name = d; home = r; kind = k; views = None; dict = x.dict } in y) ∷ [])) (region-opened x.region grown.0)
              ∙ (ap (λ q. with_both (map home_of after_hs) (s.dicts ++ q ∷ [])) (entry-is x.dict (sym grown.1))
              ∙ ap (with_both (map home_of after_hs)) (sym homes-opened)));
          told = sym (ap (λ (q : Stepped). tell q.told gone) is);
        }

    pub open-done : (gone : List Gone) → dict_refused s (home_of h) d k ≡ None → HasGrown (open_dictionary h.disc.terms (layout_in h.region) 0 method false) (layout_in g.region) (dictionary_of new g.cells) → GivesStep (open_dict_step s d method r k (need_shown (reply.Opened d))) gone (reply.Opened d) opened_state gone
    open-done gone none grown =
        gives-opened gone (open_dictionary h.disc.terms (layout_in h.region) 0 method false) (open_dict_step s d method r k (need_shown (reply.Opened d))) grown (step-open (need_shown (reply.Opened d)) none)
