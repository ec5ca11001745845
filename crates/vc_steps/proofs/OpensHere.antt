-- The opening of a dictionary in a session as it is stored.
use Rattle.vc_base.proofs.Common.{◌≡◌, ◌⊎◌, ℕ, ◌<◌, List, [], ◌∷◌, ◌++◌, length, set, slice_get, Some, None, Result, sym, refl, ap, ◌∙◌, subst, Discipline, HasOut, Layout, at_number}
use Rattle.vc_model.specs.Discipline.{Excused}
use Rattle.indexmap.specs.IndexMap.{set_value_at}
use Rattle.vc_dict.specs.declared.dict.Dict.{Dict}
use Rattle.vc_dtdisc.specs.Rules.{Rules}
use Rattle.vc_best.specs.Cells.{cells_in}
use Rattle.vc_best.specs.Parts.{disc_in}
use Rattle.vc_best.specs.declared.best.Best.{Best}
use Rattle.vc_region.specs.Region.{OfBest, segments_of}
use Rattle.vc_seg.specs.Answer.{IsRefusal}
use Rattle.vc_seg.specs.declared.fault.RegionFault.{RegionFault}
use Rattle.vc_objects.specs.Leaves.{LacksTable, Leaves, RefusedBy}
use Rattle.vc_objects.specs.Objects.{own_blocks}
use Rattle.vc_objects.specs.Parts.{dictionary_in}
use Rattle.vc_objects.specs.Promises.{Opens, StaysAll, opening_in}
use Rattle.vc_script.specs.Needs.{NoNeed}
use Rattle.vc_script.specs.declared.command.Command.{Command}
use Rattle.vc_script.specs.declared.command.Command.TheVariants.{OpenDict}
use Rattle.vc_script.specs.declared.reply.Reply.{Reply}
use Rattle.vc_script.specs.declared.reply.Reply.TheVariants.{Opened}
use Rattle.vc_commands.specs.Held.{Held, IsChange, home_of}
use Rattle.vc_commands.specs.RegionRun.{held_of}
use Rattle.vc_views.specs.Dicts.{entry_numbered}
use Rattle.vc_paths.specs.Links.{numbers}
use Rattle.vc_views.specs.Numbers.{AreLinked, views_by}
use Rattle.vc_views.proofs.LinkChanges.{linked-more, views-free, views-more}
use Rattle.vc_steps.specs.Account.{IsHeldFrom, IsSession, Settles, accounts, settled_accounts, state_of}
use Rattle.vc_steps.specs.DictHomes.{AreDicts, dicts_in}
use Rattle.vc_steps.specs.Dicts.{dict_refused, open_dict_step}
use Rattle.vc_steps.specs.Homes.{held_all}
use Rattle.vc_steps.specs.Moment.{Moment}
use Rattle.vc_steps.specs.Step.{GivesStep}
use Rattle.vc_steps.specs.Steps.{Steps, StepsBy}
use Rattle.vc_steps.specs.Table.{TellsTable}
use Rattle.vc_steps.proofs.RegionChange.{session-change, settles-none}
use Rattle.vc_steps.proofs.DictChange.{Touches}
use Rattle.vc_steps.proofs.DictOpens.{OpensIn, dicts-failed, dicts-opened, open-done, steps-failed}
use Rattle.vc_steps.proofs.DictRegion.{best_entry, region-change, touches}
use Rattle.vc_steps.proofs.DictsStay.{Entry}
use Rattle.vc_steps.proofs.RegionAt.{helds-set, named-set, region-stands, region_at}
use Rattle.vc_steps.proofs.RegionSteps.{moment_over}
use Rattle.vc_steps.proofs.SessionHere.{state_here, parts}
use Rattle.vc_steps.proofs.Sessions.{held-at}

module _ {I : Type 0} {V : I → Type 0} {meaning : (x : I) × V x → Discipline} (place : ℕ) (before : Best I V) (x : OpensIn meaning (best_entry place before)) (allowed : dict_refused (state_here x.here) (home_of (region_at meaning x.region)) x.d x.k ≡ None) where
  open x use {here}
  open (parts here) use {kinds, slots, hs, es, vs}

  abbrev h : Held
  h = region_at meaning x.region

  at : slice_get hs x.j ≡ Some h
  at = region-stands meaning x.region

  is_held : IsHeldFrom here.armed slots h
  is_held = held-at here.armed slots hs x.j h at here.held

  -- the region's segments are the last that its discipline lent
  pub lent-by : HasOut h.disc (segments_of h.region)
  lent-by = is_held.lent

  abbrev command : Command
  command = OpenDict x.d x.method x.r x.k

  abbrev moment_before : Moment
  moment_before = moment_over here.armed slots es vs kinds here.gone hs

  -- what the call left of the region
  module _ (after : Best I V) (mine : List ℕ) (leaves : Leaves meaning before after [] mine) where
    abbrev g : Held
    g = held_of meaning x.r (best_entry place after) x.region.l

    touch : Touches h g [] mine
    touch = touches meaning x.r place before after x.region.l [] mine leaves

    change : IsChange (let k : Held = record h { cells = cells_in after } in k) g
    change = region-change meaning x.r place before after x.region.l [] mine leaves is_held.lent is_held.names

    abbrev hs' : List Held
    hs' = held_all meaning (set_value_at here.homes x.j (best_entry place after)) here.labels

    held-is : hs' ≡ set hs x.j g
    held-is = helds-set meaning x.region (best_entry place after)

    pub named-opened : length here.labels ≡ length (set_value_at here.homes x.j (best_entry place after))
    named-opened = named-set meaning x.region (best_entry place after)

    pub session-opened : IsSession here.armed slots hs'
    session-opened = subst (IsSession here.armed slots) (sym held-is) (session-change here.armed slots hs x.j h g at here.held change)

  -- with these dictionaries
  abbrev moment_with : List Held → List Entry → Moment
  moment_with gs es' = moment_over here.armed slots es' (views_by here.links es') kinds here.gone gs

  -- no block was put for its table
  module _ (after : Best I V) (stays : StaysAll meaning before after) (es' : List Entry) (kept : es' ≡ es) where
    abbrev gs : List Held
    gs = hs' after [] stays.leaves

    by-kept : (P : List Held → List Entry → Type 0) → P (set hs x.j (g after [] stays.leaves)) es → P gs es'
    by-kept P p = subst (λ ks. P ks es') (sym (held-is after [] stays.leaves)) (subst (P (set hs x.j (g after [] stays.leaves))) (sym kept) p)

    pub steps-unopened : {E : Type 0} (fault : RegionFault) (answer : Result Reply E) → TellsTable fault answer → RefusedBy fault (LacksTable (Some 16) (disc_in meaning before) (disc_in meaning after)) (disc_in meaning before) (disc_in meaning after)
        → IsRefusal (opening_in meaning before x.method) fault → StepsBy answer moment_before (moment_with gs es') command (λ st. open_dict_step st x.d x.method x.r x.k)
    steps-unopened fault answer tells asked refusal =
        by-kept (λ ks ds. StepsBy answer moment_before (moment_with ks ds) command (λ st. open_dict_step st x.d x.method x.r x.k))
        (steps-failed x (g after [] stays.leaves) (change after [] stays.leaves) here.gone fault answer tells asked refusal allowed (touch after [] stays.leaves)
        (ap (λ (q : Layout ℕ). OfBest q) stays.region) refl)

    pub dicts-unopened : AreDicts kinds gs es'
    dicts-unopened =
        by-kept (AreDicts kinds) (dicts-failed x (g after [] stays.leaves) (change after [] stays.leaves) (touch after [] stays.leaves))

    pub linked-unopened : AreLinked here.links es'
    linked-unopened = subst (AreLinked here.links) (sym kept) here.are

  abbrev entry_new : ℕ → Dict → Entry
  entry_new n dict = (x.d, record { home = x.r; number = n; dict = dict })

  -- it was opened by the rules of its kind, under a number that none has, and is the last
  pub record DictOpened : Type 0 where
    pub rules : Rules
    pub by : at_number kinds x.k ≡ Some rules
    pub dict : Dict
    pub after : Best I V
    pub opens : Opens meaning rules x.method x.k before dict after
    pub asked : ((disc_in meaning after).faults ≡ (disc_in meaning before).faults) ⊎ Excused (disc_in meaning before) (disc_in meaning after)
    pub n : ℕ
    pub free : entry_numbered n es ≡ None
    pub below : n < numbers
    pub es' : List Entry
    pub last : es' ≡ es ++ entry_new n dict ∷ []

  module _ (o : DictOpened) where
    abbrev mine : List ℕ
    mine = own_blocks (dictionary_in o.dict o.after)

    abbrev one : Held
    one = g o.after mine o.opens.leaves

    abbrev after_hs : List Held
    after_hs = set hs x.j one

    abbrev gs' : List Held
    gs' = hs' o.after mine o.opens.leaves

    held-one : gs' ≡ after_hs
    held-one = held-is o.after mine o.opens.leaves

    change-one : IsChange (let k : Held = record h { cells = cells_in o.after } in k) one
    change-one = change o.after mine o.opens.leaves

    touch-one : Touches h one [] mine
    touch-one = touch o.after mine o.opens.leaves

    no-view : vs o.n ≡ None
    no-view = views-free here.links es o.n here.are o.free

    state-is : (moment_with gs' o.es').state ≡ state_of kinds slots after_hs (dicts_in after_hs vs (es ++ entry_new o.n o.dict ∷ []))
    state-is =
        ap (λ ks. (moment_with ks o.es').state) held-one
        ∙ (ap (λ ds. (moment_with after_hs ds).state) o.last
        ∙ ap (λ v. state_of kinds slots after_hs (dicts_in after_hs v (es ++ entry_new o.n o.dict ∷ []))) (views-more here.links es (entry_new o.n o.dict) here.are o.free))

    pub steps-opened : Steps moment_before (moment_with gs' o.es') command (open_dict_step (state_here here) x.d x.method x.r x.k NoNeed) (Opened x.d)
    steps-opened = record {
      gives =
          subst (λ q. GivesStep (open_dict_step (state_here here) x.d x.method x.r x.k NoNeed) here.gone (Opened x.d) q here.gone) (sym state-is)
          (open-done x one o.dict o.n no-view change-one touch-one refl o.opens.numbered o.rules o.by o.opens.whole here.gone allowed o.opens.grown);
      settles = subst (λ ks. Settles here.armed (settled_accounts (accounts slots) hs) (settled_accounts (accounts slots) ks) []) (sym held-one) (settles-none here.armed slots hs x.j h one at here.held change-one o.asked);
      armed = refl;
      lacks = tt;
    }

    pub dicts-new : AreDicts kinds gs' o.es'
    dicts-new =
        subst (λ ks. AreDicts kinds ks o.es') (sym held-one)
        (subst (AreDicts kinds after_hs) (sym o.last)
        (dicts-opened x one o.dict o.n no-view change-one touch-one refl o.opens.numbered o.rules o.by o.opens.whole))

    pub linked-new : AreLinked here.links o.es'
    linked-new = subst (AreLinked here.links) (sym o.last) (linked-more here.links es (entry_new o.n o.dict) here.are o.free o.below)
