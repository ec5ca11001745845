-- What a step does to what is read of the region that its command works in.
use Rattle.vc_base.proofs.Common.{◌≡◌, ℕ, ◌+◌, Bool, true, false, cond, List, [], ◌∷◌, ◌++◌, Some, None, Option, option_map, sym, refl, subst, arith, none-some, AllByRecursion, list_any, Terms, at_number}
use Rattle.vc_commands.specs.Home.{Home, is_home}
use Rattle.vc_commands.specs.RegionCommands.{in_region}
use Rattle.vc_dtdisc.specs.Rules.{Rules}
use Rattle.vc_region.specs.Region.{layout_in}
use Rattle.vc_region.specs.Stat.{opened_region}
use Rattle.vc_script.specs.Needs.{Need}
use Rattle.vc_script.specs.declared.command.Command.{Command}
use Rattle.vc_script.specs.declared.command.Command.TheVariants.{Append, Attach, ClearRegion, CloseRegion, Delete, Detach, Empty, Insert, OpenDict, OpenRegion, Remethod, Shut}
use Rattle.vc_script.specs.declared.refusal.Refusal.TheVariants as why
use Rattle.vc_seg.specs.declared.method.Method.{Method}
use Rattle.vc_seg.specs.declared.method.Method.TheVariants.{VmBest, VmPool, VmLast, VmDebug, VmProfile}
use Rattle.vc_steps.specs.Dicts.{dict_command, dict_of, dict_step, on_found, on_seat, region_asked_for}
use Rattle.vc_steps.specs.State.{State, Stepped, step_with_change, close_home, close_step, step_with_close, home_named, is_home_busy, open_step, opened_over, step_with_refusal, with_region, without_home}
use Rattle.vc_steps.specs.Step.{cleared_or, region_of_command, region_step, shelf_step, step, step_of}
use Rattle.vc_views.specs.Views.{DictHome, dict_named}
use Rattle.vc_counts.specs.Reach.{reach_of}
use Rattle.vc_counts.specs.Working.{region_worked}
use Rattle.vc_counts.specs.declared.reach.Reach.TheVariants.{Nothing, All}
use Rattle.vc_counts.proofs.CommandLends.{command-changes}
use Rattle.vc_counts.proofs.CommandReaches.{command-reaches}
use Rattle.vc_counts.proofs.DictBytes.{IsSeated}
use Rattle.vc_counts.proofs.GrantedSegments.{lends-same}
use Rattle.vc_counts.proofs.OwnNames.{IsProper, proper-named}
use Rattle.vc_counts.proofs.RegionLends.{either}
use Rattle.vc_counts.proofs.Sums.{busy-push, busy_homes, named-with, put_region}
use Rattle.vc_counts.proofs.DictWorks.{HaveOwnNames, command-works, dict-found}
use Rattle.vc_counts.proofs.Tallies.{IsOfRegion, TalliesStep, busy-changed, lends-changed, refuses, tallies-closed}

-- no two regions have one name
abbrev pub AreAlone : List Home → Type 0
AreAlone homes = (r : List ℕ) → home_named r (without_home r homes) ≡ None

-- a command on a region reaches no dictionary
of-region : (command : Command) (r : List ℕ) → region_of_command command ≡ Some r → IsOfRegion (reach_of command)
of-region (OpenDict d method q kind) r e = absurd (none-some r e)
of-region (Insert d bytes) r e = absurd (none-some r e)
of-region (Append d bytes) r e = absurd (none-some r e)
of-region (Attach d bytes) r e = absurd (none-some r e)
of-region (Delete d object) r e = absurd (none-some r e)
of-region (Detach d bytes) r e = absurd (none-some r e)
of-region (Remethod d method) r e = absurd (none-some r e)
of-region (Empty d) r e = absurd (none-some r e)
of-region (Shut d) r e = absurd (none-some r e)
of-region command r e = tt

module _ (s : State) where
  open-empty : (m : Method) (r : List ℕ) (n : ℕ) (terms : Terms) → busy_homes (s.homes ++ record { name = r; place = n; terms = terms; region = opened_region m; kept = [] } ∷ []) ≡ busy_homes s.homes + 0
  open-empty VmBest r n terms = busy-push s.homes (record { name = r; place = n; terms = terms; region = opened_region VmBest; kept = [] })
  open-empty VmPool r n terms = busy-push s.homes (record { name = r; place = n; terms = terms; region = opened_region VmPool; kept = [] })
  open-empty VmLast r n terms = busy-push s.homes (record { name = r; place = n; terms = terms; region = opened_region VmLast; kept = [] })
  open-empty VmDebug r n terms = busy-push s.homes (record { name = r; place = n; terms = terms; region = opened_region VmDebug; kept = [] })
  open-empty VmProfile r n terms = busy-push s.homes (record { name = r; place = n; terms = terms; region = opened_region VmProfile; kept = [] })

  opened-over : (r : List ℕ) (m : Method) (n : ℕ) (o : Option (Option Terms)) → TalliesStep s Nothing None (opened_over s r n (opened_region m) o)
  opened-over r m n None = refuses s Nothing None why.NoSuchDiscipline
  opened-over r m n (Some None) = refuses s Nothing None why.DisciplineInUse
  opened-over r m n (Some (Some terms)) = record { busy = omega (arith, open-empty m r n terms); lent = lends-same [] [] refl }

  works-open : (r : List ℕ) (m : Method) (n : ℕ) → TalliesStep s Nothing None (open_step s r m n)
  works-open r m n =
      either (TalliesStep s Nothing None) (list_any (is_home r) s.homes) (step_with_refusal s why.RegionExists) (opened_over s r n (opened_region m) (at_number s.shelf n))
      (refuses s Nothing None why.RegionExists) (opened-over r m n (at_number s.shelf n))

  close-found : (r : List ℕ) (o : Option Home) → home_named r s.homes ≡ o → AreAlone s.homes → TalliesStep s All (Some r) (close_home s r o)
  close-found r None found alone = refuses s All (Some r) why.NoRegion
  close-found r (Some h) found alone =
      either (TalliesStep s All (Some r)) (is_home_busy s r) (step_with_refusal s why.Busy) (step_with_close s r h) (refuses s All (Some r) why.Busy)
      (tallies-closed r s.homes h found (alone r))

  works-close : (r : List ℕ) → AreAlone s.homes → TalliesStep s All (Some r) (close_step s r)
  works-close r alone = close-found r (home_named r s.homes) refl alone

  -- each region is proper before the step and after it
  abbrev AreProper : List Home → Type 0
  AreProper hs = AllByRecursion IsProper hs

  -- a command on a region
  module _ (r : List ℕ) (line : ℕ) (need : Need) where
    region-changed : (command : Command) → IsOfRegion (reach_of command) → (h : Home) → home_named r s.homes ≡ Some h → AreProper s.homes → AreProper (step_with_change s r (in_region h line command need)).state.homes → TalliesStep s (reach_of command) (Some r) (step_with_change s r (in_region h line command need))
    region-changed command of h found proper after =
        let c = in_region h line command need in
        record {
          busy =
              busy-changed r s.homes h found c.region c.kept (reach_of command) c.reply s.dicts of
              (command-reaches h (proper-named r s.homes h proper found) line command need
              (proper-named r (with_region r c.region c.kept s.homes) (put_region c.region c.kept h) after (named-with r c.region c.kept s.homes h found)));
          lent = lends-changed r s.homes h found c.region c.kept _ (command-changes h line command need);
        }

    cleared-by : (command : Command) → IsOfRegion (reach_of command) → (h : Home) (v : Bool) → home_named r s.homes ≡ Some h → AreProper s.homes → AreProper (cond v (step_with_refusal s why.Busy) (step_with_change s r (in_region h line command need))).state.homes → TalliesStep s (reach_of command) (Some r) (cond v (step_with_refusal s why.Busy) (step_with_change s r (in_region h line command need)))
    cleared-by command of h true found proper after = refuses s (reach_of command) (Some r) why.Busy
    cleared-by command of h false found proper after = region-changed command of h found proper after

    cleared-works : (command : Command) → IsOfRegion (reach_of command) → (h : Home) → home_named r s.homes ≡ Some h → AreProper s.homes → AreProper (cleared_or s r command (step_with_change s r (in_region h line command need))).state.homes → TalliesStep s (reach_of command) (Some r) (cleared_or s r command (step_with_change s r (in_region h line command need)))
    cleared-works (ClearRegion y) of h found proper after = cleared-by (ClearRegion y) of h (is_home_busy s r) found proper after
    cleared-works command of h found proper after = region-changed command of h found proper after

    region-found : (command : Command) → IsOfRegion (reach_of command) → (o : Option Home) → home_named r s.homes ≡ o → AreProper s.homes → AreProper (region_step s r line command need o).state.homes → TalliesStep s (reach_of command) (Some r) (region_step s r line command need o)
    region-found command of None found proper after = refuses s (reach_of command) (Some r) why.NoRegion
    region-found command of (Some h) found proper after = cleared-works command of h found proper after

  -- a command in a region, or in none
  works-region : (line : ℕ) (command : Command) (need : Need) (o : Option (List ℕ)) → region_of_command command ≡ o → shelf_step s command need ≡ step_with_refusal s why.NoRegion → AreProper s.homes → AreProper (step_of s line command need o).state.homes → TalliesStep s (reach_of command) o (step_of s line command need o)
  works-region line command need None region e proper after = subst (TalliesStep s (reach_of command) None) (sym e) (refuses s (reach_of command) None why.NoRegion)
  works-region line command need (Some r) region e proper after =
      region-found r line need command (of-region command r region) (home_named r s.homes) refl proper after

  -- the blocks of each dictionary stand in its region
  abbrev pub AreSeated : Type 0
  AreSeated = (name : List ℕ) (d : DictHome) (h : Home) → dict_named name s.dicts ≡ Some d → home_named d.home s.homes ≡ Some h → ∥ IsSeated (layout_in h.region) d.dict ∥₁

  seat-works : (command : Command) (need : Need) (name : List ℕ) → dict_of command ≡ Some name → HaveOwnNames s.dicts → (d : DictHome) → dict_named name s.dicts ≡ Some d → ((h : Home) → home_named d.home s.homes ≡ Some h → ∥ IsSeated (layout_in h.region) d.dict ∥₁) → (o : Option Home) (rules : Option Rules) → home_named d.home s.homes ≡ o → TalliesStep s (reach_of command) (Some d.home) (on_seat s d (dict_command s command need) o rules)
  seat-works command need name is lone d named seated None rules found = refuses s (reach_of command) (Some d.home) why.NoDictionary
  seat-works command need name is lone d named seated (Some h) None found = refuses s (reach_of command) (Some d.home) why.NoDictionary
  seat-works command need name is lone d named seated (Some h) (Some rules) found = command-works s d h found name named (seated h found) lone rules need command is

  found-works : (command : Command) (need : Need) (name : List ℕ) → dict_of command ≡ Some name → HaveOwnNames s.dicts → AreSeated → (o : Option DictHome) → dict_named name s.dicts ≡ o → TalliesStep s (reach_of command) (option_map (λ (h : DictHome). h.home) o) (on_found s (dict_command s command need) o)
  found-works command need name is lone seated None named = refuses s (reach_of command) None why.NoDictionary
  found-works command need name is lone seated (Some d) named =
      seat-works command need name is lone d named (λ h at. seated name d h named at) (home_named d.home s.homes) (at_number s.kinds d.kind) refl

  -- a command on a dictionary, in a region, or neither
  abbrev acts : ℕ → Command → Need → Option (List ℕ) → Option (List ℕ) → Stepped
  acts line command need None o = step_of s line command need o
  acts line command need (Some d) o = dict_step s d command need

  asked-works : (line : ℕ) (command : Command) (need : Need) (d o : Option (List ℕ)) → dict_of command ≡ d → region_of_command command ≡ o → shelf_step s command need ≡ step_with_refusal s why.NoRegion → HaveOwnNames s.dicts → AreSeated → AreProper s.homes → AreProper (acts line command need d o).state.homes → TalliesStep s (reach_of command) (region_asked_for s d o) (acts line command need d o)
  asked-works line command need None o is region e lone seated proper after = works-region line command need o region e proper after
  asked-works line command need (Some d) o is region e lone seated proper after = found-works command need d is lone seated (dict_named d s.dicts) refl

  -- what is read of the region that a command works in tells of all regions
  pub works : (line : ℕ) (command : Command) (need : Need) → AreAlone s.homes → HaveOwnNames s.dicts → AreSeated → AreProper s.homes → AreProper (step s line command need).state.homes → TalliesStep s (reach_of command) (region_worked s command) (step s line command need)
  works line (OpenRegion r method n) need alone lone seated proper after = works-open r method n
  works line (CloseRegion r) need alone lone seated proper after = works-close r alone
  works line (OpenDict d method r kind) need alone lone seated proper after = dict-found s d method kind need r (home_named r s.homes) refl
  works line command need alone lone seated proper after = asked-works line command need (dict_of command) (region_of_command command) refl refl refl lone seated proper after
