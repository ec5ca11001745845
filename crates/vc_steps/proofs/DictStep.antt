-- What a command on a dictionary does to the state, to its kind and to the settled shelf.
use Rattle.vc_model.proofs.Keeping.{Rose-earlier}
use Rattle.vc_base.proofs.Common.{◌≡◌, ℕ, ◌-◌, true, false, ◌⊎◌, List, map, set, slice_get, Some, None, Option, option_map, remove, position, bytes_eq, sym, refl, ap, ◌∙◌, subst, inl, inr, none-some, same_Some, slice_get-map, bytes_eq-Decides, AllByRecursion, keys_of, Blocks, Rose, Discipline, Layout, relabel_layout, at_number, Outcome, done_as}
use Rattle.vc_model.specs.Outcome as model
use Rattle.vc_dict.specs.declared.dict.Dict.{Dict}
use Rattle.vc_dtdisc.specs.Rules.{Gone}
use Rattle.vc_region.specs.Region.{OfBest, Region, layout_in, region_with_labels}
use Rattle.vc_region.proofs.Relabel.{layout-relabelled}
use Rattle.vc_objects.specs.Insert.{Grown, grow}
use Rattle.vc_objects.specs.Leaves.{HasGrown, LacksHolder, LacksTable}
use Rattle.vc_objects.specs.Objects.{Dictionary, own_blocks}
use Rattle.vc_objects.specs.Parts.{IsWhole, dictionary_of}
use Rattle.vc_objects.proofs.Named.{grow-named, relabel_grown}
use Rattle.vc_commands.specs.DictCommands.{in_dict, object_asked, table_asked}
use Rattle.vc_commands.specs.DictRun.{GivesDict, IsSpent, IsSpentBy, LacksBy}
use Rattle.vc_commands.specs.Seat.{DictChanged, Seat}
use Rattle.vc_commands.proofs.Named.{in_dict-named, lacks-named, relabel_changed, relabel_seat}
use Rattle.vc_script.specs.Needs.{Need, need_shown}
use Rattle.vc_script.specs.declared.command.Command.{Command}
use Rattle.vc_script.specs.declared.command.Command.TheVariants.{Insert, Attach, OpenDict}
use Rattle.vc_script.specs.declared.refusal.Refusal.TheVariants.{NoSegment, NoSegmentForTable, NoSegmentForObject}
use Rattle.vc_script.specs.declared.reply.Reply.{Reply}
use Rattle.vc_script.specs.declared.reply.Reply.TheVariants.{Refused}
use Rattle.vc_commands.specs.Held.{Held, IsChange, home_of}
use Rattle.vc_steps.specs.Account.{Settles, accounts, held_named, settled_accounts, state_of}
use Rattle.vc_steps.specs.DictHomes.{AreDicts, IsDictOf, cells_of_held, dict_home, dicts_in, dict_over}
use Rattle.vc_steps.specs.Dicts.{dict_changed, dict_command, dict_of, dict_step, on_found, on_seat, region_asked_for, seat_at_home, with_dict}
use Rattle.vc_views.specs.Views.{dict_named, is_dict, DictHome}
use Rattle.vc_commands.specs.Labels.{kept_of, name_of_tag}
use Rattle.vc_steps.specs.WantedSegments.{CommandLacks, DictLacks, GrewBy, GrewFor, GrewIn, InHeld, IsCutOff, SeatLacks, StepLacksFor, dict_in_state}
use Rattle.vc_steps.specs.Refusals.{home_place, place_named, refusal_at}
use Rattle.vc_steps.specs.State.{State, Stepped, home_named, with_region}
use Rattle.vc_commands.specs.Home.{Home, Label, is_home}
use Rattle.vc_steps.specs.Step.{GivesStep, opened_in, region_asked}
use Rattle.vc_steps.specs.Told.{tell}
use Rattle.vc_steps.proofs.BestRegions.{best-is, best-named}
use Rattle.vc_steps.proofs.Cells.{set_same}
use Rattle.vc_steps.proofs.RegionChange.{homes-change, settles-none, settles-one}
use Rattle.vc_steps.proofs.DictChange.{IsClear, Touches, clear-others, dicts-set, homes-set, now-named}
use Rattle.vc_steps.proofs.DictByName.{dict-found, dict-set, first-dict, home-at}
use Rattle.vc_steps.proofs.DictReplies.{IsOther}
use Rattle.vc_steps.proofs.DictTold.{tell-each}
use Rattle.vc_steps.proofs.DictsStay.{Entry}
use Rattle.vc_commands.proofs.Firsts.{IsFirst}
use Rattle.vc_steps.proofs.FirstHome.{with_region-first}
use Rattle.vc_commands.proofs.Names.{name-none}
use Rattle.vc_commands.specs.declared.region.home.HomeEntry.{HomeEntry}
use Rattle.vc_steps.proofs.DictThere.{DictIn, best-there, dict-is, found-held, held-first, its}
use Rattle.vc_steps.proofs.RegionAt.{region-first, region-named, region-stands, region_at}
use Rattle.vc_steps.proofs.SessionHere.{parts}

table-rose : (o : Option ℕ) (old new : Discipline) → LacksTable o old new → Rose old.faults new.faults
table-rose None old new lacks = absurd lacks
table-rose (Some slots) old new lacks = lacks.rose

object-rose : (o : Option ℕ) (bytes : List ℕ) (old new : Discipline) → LacksHolder o bytes old new → Rose old.faults new.faults
object-rose None bytes old new lacks = lacks.rose
object-rose (Some slots) bytes old new lacks = Rose-earlier old.faults lacks.between.faults new.faults lacks.grown.kept.faults lacks.unserved.rose

command-lacks : (s : State) (command : Command) (reply : Reply) (old new : Discipline) (d : List ℕ) → dict_of command ≡ Some d → DictLacks s command reply old new (dict_in_state s (dict_of command)) → CommandLacks s command reply old new
command-lacks s (OpenDict x method r k) reply old new d works lacks = absurd (none-some d works)
command-lacks s command reply old new d works lacks = lacks

-- a dictionary of a session, in its region
module _ {I : Type 0} {V : I → Type 0} {meaning : (x : I) × V x → Discipline} {v : HomeEntry I V} (x : DictIn meaning v) (index : position (bytes_eq x.e.0) (keys_of x.here.es) ≡ Some x.i) where
  open (parts x.here) use {kinds, slots, hs, es, vs, s}
  open x use {e}

  abbrev h : Held
  h = region_at meaning x.region

  abbrev d : DictHome
  d = dict_home hs vs e

  abbrev was : Dictionary
  was = dictionary_of e.1.dict h.cells

  at : slice_get hs x.j ≡ Some h
  at = region-stands meaning x.region

  first : IsFirst (is_home e.1.home) s.homes x.j
  first = region-first meaning x.region

  first_dict : IsFirst (is_dict e.0) s.dicts x.i
  first_dict = first-dict hs vs es e.0 x.i index

  found-dict : dict_named e.0 s.dicts ≡ Some d
  found-dict = dict-found hs vs es e.0 x.i e x.there first_dict

  home-item : first.item ≡ home_of h
  home-item = same_Some first.item (home_of h) (sym first.at ∙ (slice_get-map home_of hs x.j ∙ ap (option_map home_of) at))

  found-home : home_named e.1.home s.homes ≡ Some (home_of h)
  found-home = region-named meaning x.region

  abbrev is : IsDictOf kinds hs e
  is = its x

  -- the seat of a command, with tags for labels
  abbrev pub tags : Seat ℕ
  tags = record { rules = is.rules; terms = h.disc.terms; none = 0; region = layout_in h.region; dict = was }

  seat-is : seat_at_home d (home_of h) is.rules ≡ relabel_seat (name_of_tag h.labels) tags
  seat-is =
      let made : Label → Layout Label → Dictionary → Seat Label = λ o r x. record { rules = is.rules; terms = h.disc.terms; none = o; region = r; dict = x } in
      ap (made None (layout_in (home_of h).region)) (dict-is x)
      ∙ (ap (λ r. made None r was) (layout-relabelled (name_of_tag h.labels) h.region)
      ∙ ap (λ o. made o (relabel_layout (name_of_tag h.labels) (layout_in h.region)) was) (sym (name-none h.labels 0 refl)))

  pub step-seat : (command : Command) (need : Need) → dict_step s e.0 command need ≡ dict_command s command need d (home_of h) is.rules
  step-seat command need =
      ap (on_found s (dict_command s command need)) found-dict
      ∙ (ap (λ o. on_seat s d (dict_command s command need) o (at_number kinds e.1.dict.kind)) found-home
      ∙ ap (λ o. on_seat s d (dict_command s command need) (Some (home_of h)) o) is.kind)

  changed-is : (command : Command) (need : Need) → in_dict (seat_at_home d (home_of h) is.rules) command need ≡ relabel_changed (name_of_tag h.labels) (in_dict tags command need)
  changed-is command need = ap (λ q. in_dict q command need) seat-is ∙ in_dict-named (name_of_tag h.labels) tags command need

  asked-home : (command : Command) → dict_of command ≡ Some e.0 → region_asked s command ≡ Some e.1.home
  asked-home command works = ap (λ o. region_asked_for s o (opened_in command)) works ∙ ap (option_map (λ (k : DictHome). k.home)) found-dict

  -- the region and the dictionary change
  module _ (g : Held) (new : Dict) {cells : Blocks} (change : IsChange (record h { cells = cells }) g) (touch : Touches h g (own_blocks was) (own_blocks (dictionary_of new g.cells))) (labels : g.labels ≡ h.labels) (kind : new.kind ≡ e.1.dict.kind) (whole : IsWhole is.rules new g.cells) where
    abbrev gs : List Held
    gs = set hs x.j g

    abbrev pub entry_new : Entry
    entry_new = (e.0, record { home = e.1.home; number = e.1.number; dict = new })

    abbrev now : Dictionary
    now = dictionary_of new g.cells

    now-held : held_named gs (Some e.1.home) ≡ Some g
    now-held = now-named kinds hs x.j h g (own_blocks was) (own_blocks now) (held-first x) at touch

    is-new : IsDictOf kinds gs entry_new
    is-new = record {
      home = g;
      found = now-held;
      best = touch.best;
      rules = is.rules;
      kind = ap (at_number kinds) kind ∙ is.kind;
      whole = whole;
    }

    here : bytes_eq e.1.home e.1.home ≡ true
    here = (bytes_eq-Decides e.1.home e.1.home).1 refl

    own-new : own_blocks (dict_over gs entry_new) ≡ own_blocks now
    own-new = ap (λ o. own_blocks (dictionary_of new (cells_of_held o))) now-held

    others-clear : AllByRecursion (IsClear hs e.1.home (own_blocks was)) (remove es x.i)
    others-clear =
        subst (λ (y : Dictionary). AllByRecursion (IsClear hs e.1.home (own_blocks y)) (remove es x.i)) (dict-is x)
        (clear-others kinds hs e.1.home e here es x.i x.there x.here.dicts)

    pub dicts-after : AreDicts kinds gs (set es x.i entry_new)
    dicts-after = dicts-set kinds hs x.j h g (own_blocks was) (own_blocks now) (held-first x) at touch entry_new is-new here own-new es x.i e x.there x.here.dicts others-clear

    homes-after : dicts_in gs vs (set es x.i entry_new) ≡ set (dicts_in hs vs es) x.i (dict_home gs vs entry_new)
    homes-after = homes-set kinds hs x.j h g (own_blocks was) (own_blocks now) (held-first x) at touch entry_new is-new here own-new vs es x.i e x.there x.here.dicts others-clear

    abbrev pub after : State
    after = state_of kinds slots gs (dicts_in gs vs (set es x.i entry_new))

    entry-home : (dict : Dictionary) → dict ≡ now → (let k : DictHome = record d { dict = dict } in k) ≡ dict_home gs vs entry_new
    entry-home dict same =
        let made : ℕ → Dictionary → DictHome = λ k x. record { name = e.0; home = e.1.home; kind = k; views = vs e.1.number; dict = x } in
        ap (λ k. made k dict) (sym kind) ∙ ap (made new.kind) (same ∙ sym (ap (λ o. dictionary_of new (cells_of_held o)) now-held))

    abbrev made : List Home → List DictHome → State
    made homes ds = record { shelf = s.shelf; homes = homes; kinds = kinds; dicts = ds }

    state-after : (region : Region Label) (dict : Dictionary) → region ≡ (home_of g).region → dict ≡ now → made (with_region e.1.home region (home_of h).kept s.homes) (with_dict e.0 dict s.dicts) ≡ after
    state-after region dict same same_dict =
        let homes : with_region e.1.home region (home_of h).kept s.homes ≡ map home_of gs =
        ap (λ q. with_region e.1.home q (home_of h).kept s.homes) same
        ∙ (ap (λ l. with_region e.1.home (home_of g).region (kept_of l) s.homes) (sym labels)
        ∙ homes-change x.here.armed slots hs x.j h g at x.here.held change e.1.home first) in
        let ds : with_dict e.0 dict s.dicts ≡ dicts_in gs vs (set es x.i entry_new) =
        dict-set hs vs es e.0 x.i e x.there first_dict dict
        ∙ (ap (set (dicts_in hs vs es) x.i) (entry-home dict same_dict) ∙ sym homes-after) in
        ap (λ x. made x (with_dict e.0 dict s.dicts)) homes ∙ ap (made (map home_of gs)) ds

    relabel-after : (region : Layout ℕ) → region ≡ layout_in g.region → OfBest (relabel_layout (name_of_tag h.labels) region) ≡ (home_of g).region
    relabel-after region same = best-named (name_of_tag h.labels) g.region region touch.best same ∙ ap (λ l. region_with_labels (name_of_tag l) g.region) (sym labels)

    pub step-after : (command : Command) (reply : Reply) (gone gone' : List Gone) (old told : Gone) → dict_command s command (need_shown reply) d (home_of h) is.rules ≡ dict_changed s d (home_of h) (in_dict (seat_at_home d (home_of h) is.rules) command (need_shown reply)) → GivesDict (in_dict tags command (need_shown reply)) (layout_in g.region) now reply old told → at_number gone e.1.dict.kind ≡ Some old → gone' ≡ set gone (e.1.dict.kind - 1) told → GivesStep (dict_step s e.0 command (need_shown reply)) gone reply after gone'
    step-after command reply gone gone' old told plain gives at_gone is_gone =
        let need = need_shown reply in
        let c : DictChanged ℕ = in_dict tags command need in
        let same : dict_step s e.0 command need ≡ dict_changed s d (home_of h) (relabel_changed (name_of_tag h.labels) c) =
        step-seat command need ∙ (plain ∙ ap (dict_changed s d (home_of h)) (changed-is command need)) in
        record {
          replied = ap (λ (t : Stepped). t.reply) same ∙ gives.reply;
          state_after = ap (λ (t : Stepped). t.state) same ∙ state-after (OfBest (relabel_layout (name_of_tag h.labels) c.region)) c.dict (relabel-after c.region gives.region) gives.dict;
          told =
              is_gone
              ∙ (ap (set gone (e.1.dict.kind - 1)) gives.told
              ∙ (sym (tell-each c.told gone e.1.dict.kind old at_gone) ∙ sym (ap (λ (t : Stepped). tell t.told gone) same)));
        }

    abbrev Settled : List ℕ → Type 0
    Settled refusals = Settles x.here.armed (settled_accounts (accounts slots) hs) (settled_accounts (accounts slots) gs) refusals

    settled-here : (command : Command) → dict_of command ≡ Some e.0 → Rose h.disc.faults g.disc.faults → Settled (place_named s (region_asked s command))
    settled-here command works rose =
        subst (λ o. Settled (place_named s o)) (sym (asked-home command works))
        (subst (λ o. Settled (home_place o)) (sym found-home)
        (settles-one x.here.armed slots hs x.j h g at x.here.held change rose))

    -- a refusal of its discipline counts
    pub settles-after : (command : Command) (reply : Reply) → dict_of command ≡ Some e.0 → IsOther reply → LacksBy tags command reply h.disc g.disc → Settled (refusal_at s command reply)
    settles-after command (Refused NoSegment) works other lacks = absurd other
    settles-after command (Refused NoSegmentForTable) works other lacks =
        settled-here command works (table-rose (table_asked tags command) h.disc g.disc lacks)
    settles-after command (Refused NoSegmentForObject) works other lacks =
        settled-here command works (object-rose (table_asked tags command) (object_asked tags command) h.disc g.disc lacks)
    settles-after command reply works other lacks = settles-none x.here.armed slots hs x.j h g at x.here.held change lacks.faults

    in-held : (command : Command) (reply : Reply) → dict_of command ≡ Some e.0 → LacksBy tags command reply h.disc g.disc → InHeld (held_named hs (region_asked s command)) (held_named gs (region_asked s command)) (CommandLacks s command reply)
    in-held command reply works lacks =
        let P = CommandLacks s command reply in
        let seat : LacksBy (seat_at_home d (home_of h) is.rules) command reply h.disc g.disc =
        subst (λ q. LacksBy q command reply h.disc g.disc) (sym seat-is) (lacks-named (name_of_tag h.labels) tags command reply h.disc g.disc lacks) in
        let one : DictLacks s command reply h.disc g.disc (Some d) =
        subst (λ o. SeatLacks command reply h.disc g.disc d o (at_number kinds e.1.dict.kind)) (sym found-home)
        (subst (λ o. SeatLacks command reply h.disc g.disc d (Some (home_of h)) o) (sym is.kind) seat) in
        let at_dict : DictLacks s command reply h.disc g.disc (dict_in_state s (dict_of command)) =
        subst (λ o. DictLacks s command reply h.disc g.disc (dict_in_state s o)) (sym works)
        (subst (DictLacks s command reply h.disc g.disc) (sym found-dict) one) in
        subst (λ o. InHeld (held_named hs o) (held_named gs o) P) (sym (asked-home command works))
        (subst (λ o. InHeld o (held_named gs (Some e.1.home)) P) (sym (found-held x))
        (subst (λ o. InHeld (Some h) o P) (sym now-held) (command-lacks s command reply h.disc g.disc e.0 works at_dict)))

    -- what the segment was wanting for
    pub lacks-after : (command : Command) (reply : Reply) → dict_of command ≡ Some e.0 → IsOther reply → LacksBy tags command reply h.disc g.disc → StepLacksFor s hs gs command reply
    lacks-after command (Refused NoSegment) works other lacks = absurd other
    lacks-after command (Refused NoSegmentForTable) works other lacks = in-held command (Refused NoSegmentForTable) works lacks
    lacks-after command (Refused NoSegmentForObject) works other lacks = in-held command (Refused NoSegmentForObject) works lacks
    lacks-after command reply works other lacks = tt

    same-state : made (with_region e.1.home (home_of h).region (home_of h).kept s.homes) (with_dict e.0 d.dict s.dicts) ≡ s
    same-state =
        let homes : with_region e.1.home (home_of h).region (home_of h).kept s.homes ≡ s.homes =
        with_region-first e.1.home (home_of h).region (home_of h).kept s.homes x.j first
        ∙ (ap (λ (k : Home). set s.homes x.j (record k { region = (home_of h).region; kept = (home_of h).kept })) home-item
        ∙ set_same s.homes x.j (home_of h) (slice_get-map home_of hs x.j ∙ ap (option_map home_of) at)) in
        let ds : with_dict e.0 d.dict s.dicts ≡ s.dicts =
        dict-set hs vs es e.0 x.i e x.there first_dict d.dict ∙ set_same s.dicts x.i d (home-at hs vs es x.i e x.there) in
        ap (λ x. made x (with_dict e.0 d.dict s.dicts)) homes ∙ ap (made s.homes) ds

    grew-for : (o : Outcome (Grown ℕ)) → HasGrown o (layout_in g.region) now → GrewFor (done_as (relabel_grown (name_of_tag h.labels)) o) s d (home_of h) after
    grew-for (model.Done x) grown =
        sym (state-after (OfBest (relabel_layout (name_of_tag h.labels) x.region)) x.dict (relabel-after x.region (sym grown.0)) (sym grown.1))
    grew-for (model.Refused why) grown = absurd grown

    grew-by : (command : Command) → dict_of command ≡ Some e.0 → HasGrown (grow tags.terms tags.region tags.none tags.dict false) (layout_in g.region) now → GrewBy s (dict_in_state s (dict_of command)) after
    grew-by command works grown =
        let named = grow-named (name_of_tag h.labels) tags.terms tags.region tags.none tags.dict false in
        let seat : GrewFor (grow h.disc.terms (layout_in (home_of h).region) None d.dict false) s d (home_of h) after =
        subst (λ (q : Seat Label). GrewFor (grow q.terms q.region q.none q.dict false) s d (home_of h) after) (sym seat-is)
        (subst (λ o. GrewFor o s d (home_of h) after) (sym named) (grew-for (grow tags.terms tags.region tags.none tags.dict false) grown)) in
        subst (λ o. GrewBy s (dict_in_state s o) after) (sym works)
        (subst (λ o. GrewBy s o after) (sym found-dict)
        (subst (λ o. GrewIn s d o after) (sym found-home) seat))

    -- with no memory
    same-after : (layout_in g.region ≡ tags.region) × (now ≡ tags.dict) → after ≡ s
    same-after same =
        sym (state-after (home_of h).region d.dict (ap (region_with_labels (name_of_tag h.labels)) (best-is h.region (best-there x)) ∙ relabel-after tags.region (sym same.0)) ((dict-is x) ∙ sym same.1))
        ∙ same-state

    halted-after : (command : Command) → dict_of command ≡ Some e.0 → IsSpent tags (layout_in g.region) now → (after ≡ s) ⊎ GrewBy s (dict_in_state s (dict_of command)) after
    halted-after command works (inl same) = inl (same-after same)
    halted-after command works (inr grown) = inr (grew-by command works grown)

    pub cut-after : (command : Command) → dict_of command ≡ Some e.0 → IsSpentBy tags command (layout_in g.region) now → IsCutOff s command after
    cut-after (Insert x bytes) works spent = halted-after (Insert x bytes) works spent
    cut-after (Attach x bytes) works spent = halted-after (Attach x bytes) works spent
    cut-after command works same = same-after same
