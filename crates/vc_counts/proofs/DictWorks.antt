-- What a command that opens a dictionary, or that works on one, does to what is read of it.
use Rattle.vc_base.proofs.Common.{◌≡◌, ℕ, ◌+◌, Bool, true, false, cond, List, [], ◌∷◌, ◌++◌, Some, None, Option, sym, refl, ap, ◌∙◌, subst, arith, ∥∥₁_elim, ℕ_set, none-some, same_Some, bytes_eq-Decides, list_any, Layout, Outcome, Grant}
use Rattle.vc_base.specs.declared.dict_method.DictMethod.{DictMethod}
use Rattle.vc_commands.specs.DictCommands.{in_dict, is_for_table, table_refusal}
use Rattle.vc_commands.specs.Home.{Home, Label}
use Rattle.vc_commands.specs.Seat.{DictChanged}
use Rattle.vc_commands.proofs.Firsts.{find-none}
use Rattle.vc_dtdisc.specs.Rules.{Rules}
use Rattle.vc_model.specs.Outcome as model
use Rattle.vc_objects.specs.Insert.{Grown, empty_dictionary, open_dictionary, want_of}
use Rattle.vc_objects.specs.Objects.{Dictionary}
use Rattle.vc_objects.specs.Remove.{region_without}
use Rattle.vc_region.specs.Region.{OfBest, Region, layout_in, segments_of}
use Rattle.vc_region.specs.Stat.{stat_of}
use Rattle.vc_script.specs.Needs.{Need}
use Rattle.vc_script.specs.declared.command.Command.{Command}
use Rattle.vc_script.specs.declared.command.Command.TheVariants.{Append, Attach, Count, Delete, Detach, Empty, First, Insert, Last, MatchKey, Next, Prev, Remethod, Search, Shut, View, Walk}
use Rattle.vc_script.specs.declared.refusal.Refusal.{Refusal}
use Rattle.vc_script.specs.declared.refusal.Refusal.TheVariants as why
use Rattle.vc_script.specs.declared.reply.Reply.TheVariants.{Opened}
use Rattle.vc_steps.specs.Dicts.{dict_changed, dict_command, dict_of, dict_opened, dict_refused, dict_shut, open_dict_in, open_dict_unless, seat_at_home, shut_in, view_found, view_step, view_unless, with_dict, without_dict}
use Rattle.vc_steps.specs.State.{State, Stepped, home_named, step_with_refusal, with_region}
use Rattle.vc_views.specs.Views.{DictHome, dict_named, is_dict, is_linked_in, is_viewed_in, view_refusal}
use Rattle.vc_counts.specs.Reach.{holder_freed, holder_put, reach_of}
use Rattle.vc_counts.specs.Working.{dict_bytes, dict_in, segments_at, table_bytes, table_at_home}
use Rattle.vc_counts.specs.declared.reach.Reach.TheVariants.{Nothing, Table, Dict}
use Rattle.vc_counts.proofs.CallOthers.{busy-sizes}
use Rattle.vc_counts.proofs.DictBytes.{ChangesBytes, GrowsBytes, IsSeated, append-bytes, bytes_in, delete-bytes, insert-bytes, open-bytes, remove-bytes}
use Rattle.vc_counts.proofs.DictLends.{Grows, dict-changes, end-leaves, grows-open}
use Rattle.vc_counts.proofs.Dicts.{dict-changed, dict-name, dict-opened}
use Rattle.vc_counts.proofs.EndedBytes.{emptied-bytes, ended-bytes}
use Rattle.vc_counts.proofs.GrantedSegments.{Lends, StandBehind, lends-more, none-behind}
use Rattle.vc_counts.proofs.RegionLends.{either}
use Rattle.vc_counts.proofs.Sums.{busy-with, busy_homes, name-found}
use Rattle.vc_counts.proofs.Tallies.{Tallies, TalliesStep, after_by, before_by, idle, lends-changed, refuses}
use Rattle.vc_counts.proofs.DroppedHolders.{OwnBytes, method-bytes}

-- no two dictionaries have one name
abbrev pub HaveOwnNames : List DictHome → Type 0
HaveOwnNames dicts = (d : List ℕ) → dict_named d (without_dict d dicts) ≡ None

-- the bytes of all blocks are those of the lists
layout-bytes : (r : Region Label) → (stat_of r).sbusy ≡ bytes_in (layout_in r)
layout-bytes r = busy-sizes r

-- no dictionary has the name of one that may be opened
unnamed-by : (v : Bool) (o : Option Refusal) → cond v (Some why.DictionaryExists) o ≡ None → v ≡ false
unnamed-by true o is = absurd (none-some why.DictionaryExists (sym is))
unnamed-by false o is = refl

unnamed : (s : State) (h : Home) (d : List ℕ) (k : ℕ) → dict_refused s h d k ≡ None → list_any (is_dict d) s.dicts ≡ false
unnamed s h d k is = unnamed-by (list_any (is_dict d) s.dicts) _ is

module _ (s : State) where
  -- a dictionary is opened
  module _ (d : List ℕ) (method : DictMethod) (k : ℕ) (need : Need) where
    abbrev new_dict : Home → Dictionary → DictHome
    new_dict h dict = record { name = d; home = h.name; kind = k; views = None; dict = dict }

    new-named : (h : Home) (dict : Dictionary) → list_any (is_dict d) s.dicts ≡ false → dict_named d (s.dicts ++ new_dict h dict ∷ []) ≡ Some (new_dict h dict)
    new-named h dict fresh = dict-opened d s.dicts (new_dict h dict) fresh ((bytes_eq-Decides d d).1 refl)

    grown-found : (r : List ℕ) (h : Home) (o : Outcome (Grown Label)) → home_named r s.homes ≡ Some h → list_any (is_dict d) s.dicts ≡ false → Grows (layout_in h.region).segments o → GrowsBytes (layout_in h.region) (empty_dictionary method) o → TalliesStep s (Table d) (Some r) (dict_opened s h d k o)
    grown-found r h (model.Refused fault) found fresh grows bytes = refuses s (Table d) (Some r) (table_refusal (want_of fault))
    grown-found r h (model.Done g) found fresh grows bytes =
        let name : h.name ≡ r = name-found r s.homes h found in
        let none : table_at_home (dict_named d s.dicts) ≡ 0 = ap table_at_home (find-none (is_dict d) s.dicts fresh) in
        subst (λ n. Tallies (before_by (Table d) (Some r) (Opened d) s) (after_by (Table d) (Some r) (Opened d) (dict_opened s h d k (model.Done g)).state) (busy_homes s.homes) (busy_homes (with_region n (OfBest g.region) h.kept s.homes)) (segments_at (Some r) s.homes) (segments_at (Some r) (with_region n (OfBest g.region) h.kept s.homes)) g.granted) (sym name)
        (record {
          busy =
              omega (arith, busy-with r (OfBest g.region) h.kept s.homes h found, layout-bytes h.region, layout-bytes (OfBest g.region), bytes, none, ap table_at_home (new-named h g.dict fresh));
          lent = lends-changed r s.homes h found (OfBest g.region) h.kept g.granted (lends-more (segments_of h.region) g.region.segments g.granted grows);
        })

    dict-unless : (r : List ℕ) (h : Home) (o : Option Refusal) → dict_refused s h d k ≡ o → home_named r s.homes ≡ Some h → TalliesStep s (Table d) (Some r) (open_dict_unless s h d method k need o)
    dict-unless r h (Some refusal) is found = refuses s (Table d) (Some r) refusal
    dict-unless r h None is found =
        grown-found r h (open_dictionary h.terms (layout_in h.region) None method (is_for_table need)) found (unnamed s h d k is)
        (grows-open h.terms (layout_in h.region) None method (is_for_table need))
        (open-bytes h.terms (layout_in h.region) None method (is_for_table need))

    pub dict-found : (r : List ℕ) (o : Option Home) → home_named r s.homes ≡ o → TalliesStep s (Table d) (Some r) (open_dict_in s d method k need o)
    dict-found r None found = refuses s (Table d) (Some r) why.NoRegion
    dict-found r (Some h) found = dict-unless r h (dict_refused s h d k) refl found

  module _ (d : DictHome) (h : Home) (found : home_named d.home s.homes ≡ Some h) where
    -- the dictionary's region gets other lists
    module _ (region : Layout Label) (granted : List Grant) (e : StandBehind (layout_in h.region).segments region.segments granted) where
      abbrev homes : List Home
      homes = with_region h.name (OfBest region) h.kept s.homes

      own : with_region h.name (OfBest region) h.kept s.homes ≡ with_region d.home (OfBest region) h.kept s.homes
      own = ap (λ n. with_region n (OfBest region) h.kept s.homes) (name-found d.home s.homes h found)

      best-lends : Lends (segments_at (Some d.home) s.homes) (segments_at (Some d.home) (with_region h.name (OfBest region) h.kept s.homes)) granted
      best-lends =
          subst (λ hs. Lends (segments_at (Some d.home) s.homes) (segments_at (Some d.home) hs) granted) (sym own)
          (lends-changed d.home s.homes h found (OfBest region) h.kept granted (lends-more (segments_of h.region) region.segments granted e))

      best-busy : busy_homes (with_region h.name (OfBest region) h.kept s.homes) + bytes_in (layout_in h.region) ≡ busy_homes s.homes + bytes_in region
      best-busy = omega (arith, ap busy_homes own, busy-with d.home (OfBest region) h.kept s.homes h found, layout-bytes h.region, layout-bytes (OfBest region))

    view-unless : (e : DictHome) (o : Option Refusal) → TalliesStep s Nothing (Some d.home) (view_unless s d e o)
    view-unless e None = idle (Some d.home) s.homes
    view-unless e (Some refusal) = refuses s Nothing (Some d.home) refusal

    view-found : (o : Option DictHome) → TalliesStep s Nothing (Some d.home) (view_found s d o)
    view-found None = refuses s Nothing (Some d.home) why.NoDictionary
    view-found (Some e) = view-unless e (view_refusal s.dicts d e)

    view-works : (viewed : Option (List ℕ)) → TalliesStep s Nothing (Some d.home) (view_step s d viewed)
    view-works None = idle (Some d.home) s.homes
    view-works (Some name) = view-found (dict_named name s.dicts)

    module _ (name : List ℕ) (named : dict_named name s.dicts ≡ Some d) (seated : ∥ IsSeated (layout_in h.region) d.dict ∥₁) (lone : HaveOwnNames s.dicts) (rules : Rules) (need : Need) where
      abbrev gives : Command → DictChanged Label
      gives command = in_dict (seat_at_home d h rules) command need

      lends : (command : Command) → Lends (segments_at (Some d.home) s.homes) (segments_at (Some d.home) (dict_changed s d h (gives command)).state.homes) (gives command).granted
      lends command = best-lends (gives command).region (gives command).granted (dict-changes (seat_at_home d h rules) command need)

      -- a command that puts or takes out an object
      table-works : (command : Command) → (IsSeated (layout_in h.region) d.dict → ChangesBytes (seat_at_home d h rules) (gives command)) → TalliesStep s (Table name) (Some d.home) (dict_changed s d h (gives command))
      table-works command each =
          let c = gives command in
          let before : table_at_home (dict_named name s.dicts) ≡ table_bytes d.dict = ap table_at_home named in
          let after : table_at_home (dict_named name (with_dict d.name c.dict s.dicts)) ≡ table_bytes c.dict =
          ap (λ n. table_at_home (dict_named name (with_dict n c.dict s.dicts))) (dict-name name s.dicts d named) ∙ ap table_at_home (dict-changed name c.dict s.dicts d named) in
          let bytes : bytes_in c.region + (table_bytes d.dict + holder_freed c.reply) ≡ bytes_in (layout_in h.region) + (table_bytes c.dict + holder_put c.reply) =
          ∥∥₁_elim seated (hlevel (ℕ_set)) each in
          record {
            busy = omega (arith, best-busy c.region c.granted (dict-changes (seat_at_home d h rules) command need), before, after, bytes);
            lent = lends command;
          }

      -- one that turns or empties it
      dict-works : (command : Command) → (IsSeated (layout_in h.region) d.dict → OwnBytes (seat_at_home d h rules) (gives command)) → TalliesStep s (Dict name) (Some d.home) (dict_changed s d h (gives command))
      dict-works command each =
          let c = gives command in
          let before : dict_in (dict_named name s.dicts) ≡ dict_bytes d.dict = ap dict_in named in
          let after : dict_in (dict_named name (with_dict d.name c.dict s.dicts)) ≡ dict_bytes c.dict =
          ap (λ n. dict_in (dict_named name (with_dict n c.dict s.dicts))) (dict-name name s.dicts d named) ∙ ap dict_in (dict-changed name c.dict s.dicts d named) in
          let bytes : bytes_in c.region + dict_bytes d.dict ≡ bytes_in (layout_in h.region) + dict_bytes c.dict = ∥∥₁_elim seated (hlevel (ℕ_set)) each in
          record {
            busy = omega (arith, best-busy c.region c.granted (dict-changes (seat_at_home d h rules) command need), before, after, bytes);
            lent = lends command;
          }

      -- one that ends it
      shut-works : dict_named name (without_dict name s.dicts) ≡ None → TalliesStep s (Dict name) (Some d.home) (dict_shut s d)
      shut-works alone =
          let region = region_without (layout_in h.region) d.dict in
          let leaves : StandBehind (layout_in h.region).segments region.segments [] = none-behind (layout_in h.region).segments region.segments (end-leaves (layout_in h.region) d.dict) in
          let before : dict_in (dict_named name s.dicts) ≡ dict_bytes d.dict = ap dict_in named in
          let after : dict_in (dict_named name (without_dict d.name s.dicts)) ≡ 0 =
          ap (λ n. dict_in (dict_named name (without_dict n s.dicts))) (dict-name name s.dicts d named) ∙ ap dict_in alone in
          let bytes : bytes_in region + dict_bytes d.dict ≡ bytes_in (layout_in h.region) = ∥∥₁_elim seated (hlevel (ℕ_set)) (λ i. ended-bytes (layout_in h.region) d.dict i) in
          subst (λ o. Tallies (dict_in (dict_named name s.dicts) + 0) (dict_in (dict_named name (shut_in s d o).dicts) + 0) (busy_homes s.homes) (busy_homes (shut_in s d o).homes) (segments_at (Some d.home) s.homes) (segments_at (Some d.home) (shut_in s d o).homes) []) (sym found)
          (record { busy = omega (arith, best-busy region [] leaves, before, after, bytes); lent = best-lends region [] leaves })

      -- and one that changes nothing
      count-works : (x : List ℕ) → TalliesStep s Nothing (Some d.home) (dict_changed s d h (gives (Count x)))
      count-works x =
          record {
            busy = omega (arith, best-busy (gives (Count x)).region (gives (Count x)).granted (dict-changes (seat_at_home d h rules) (Count x) need));
            lent = lends (Count x);
          }

      of-table : (x : List ℕ) → Some x ≡ Some name → (t : Stepped) → TalliesStep s (Table name) (Some d.home) t → TalliesStep s (Table x) (Some d.home) t
      of-table x is t e = subst (λ n. TalliesStep s (Table n) (Some d.home) t) (sym (same_Some x name is)) e

      of-dict : (x : List ℕ) → Some x ≡ Some name → (t : Stepped) → TalliesStep s (Dict name) (Some d.home) t → TalliesStep s (Dict x) (Some d.home) t
      of-dict x is t e = subst (λ n. TalliesStep s (Dict n) (Some d.home) t) (sym (same_Some x name is)) e

      pub command-works : (command : Command) → dict_of command ≡ Some name → TalliesStep s (reach_of command) (Some d.home) (dict_command s command need d h rules)
      command-works (Insert x bytes) is = of-table x is (dict_changed s d h (gives (Insert x bytes))) (table-works (Insert x bytes) (λ i. insert-bytes (seat_at_home d h rules) i bytes (rules.made bytes) need))
      command-works (Append x bytes) is = of-table x is (dict_changed s d h (gives (Append x bytes))) (table-works (Append x bytes) (λ i. append-bytes (seat_at_home d h rules) i bytes need))
      command-works (Attach x bytes) is = of-table x is (dict_changed s d h (gives (Attach x bytes))) (table-works (Attach x bytes) (λ i. insert-bytes (seat_at_home d h rules) i bytes bytes need))
      command-works (Delete x object) is = of-table x is (dict_changed s d h (gives (Delete x object))) (table-works (Delete x object) (λ i. delete-bytes (seat_at_home d h rules) i object))
      command-works (Detach x bytes) is = of-table x is (dict_changed s d h (gives (Detach x bytes))) (table-works (Detach x bytes) (λ i. remove-bytes (seat_at_home d h rules) i false bytes))
      command-works (Search x bytes) is = idle (Some d.home) s.homes
      command-works (MatchKey x key) is = idle (Some d.home) s.homes
      command-works (First x) is = idle (Some d.home) s.homes
      command-works (Last x) is = idle (Some d.home) s.homes
      command-works (Next x bytes) is = idle (Some d.home) s.homes
      command-works (Prev x bytes) is = idle (Some d.home) s.homes
      command-works (Walk x) is = idle (Some d.home) s.homes
      command-works (Count x) is = count-works x
      command-works (View x viewed) is = view-works viewed
      command-works (Remethod x method) is =
          of-dict x is (dict_command s (Remethod x method) need d h rules)
          (either (TalliesStep s (Dict name) (Some d.home)) (is_linked_in s.dicts d) (step_with_refusal s why.Viewed) (dict_changed s d h (gives (Remethod x method)))
          (refuses s (Dict name) (Some d.home) why.Viewed) (dict-works (Remethod x method) (λ i. method-bytes (seat_at_home d h rules) i x method need)))
      command-works (Empty x) is = of-dict x is (dict_changed s d h (gives (Empty x))) (dict-works (Empty x) (λ i. emptied-bytes (layout_in h.region) d.dict i))
      command-works (Shut x) is =
          of-dict x is (dict_command s (Shut x) need d h rules)
          (either (TalliesStep s (Dict name) (Some d.home)) (is_viewed_in s.dicts d.name) (step_with_refusal s why.Viewed) (dict_shut s d) (refuses s (Dict name) (Some d.home) why.Viewed) (shut-works (lone name)))
      command-works command is = absurd (none-some name is)
