-- What a change of one region's lists does to the state, and to the settled shelf.
use Rattle.vc_base.proofs.Common.{◌≡◌, ℕ, ◌-◌, ◌≤◌, Bool, true, false, cond, ◌≢◌, List, [], ◌∷◌, map, set, ◌==◌, slice_get, Some, None, count_by, option_map, bytes_eq, sym, refl, ap, ◌∙◌, subst, arith, nat_tests, map-set, none-some, same_Some, slice_get-map, Blocks, Rose, Terms, at_number, ◌⊎◌}
use Rattle.vc_model.specs.Discipline.{Exceptions, Excused}
use Rattle.vc_model.proofs.Keeping.{unless-unarmed}
use Rattle.vc_script.specs.declared.command.Command.{Command}
use Rattle.vc_script.specs.declared.command.Command.TheVariants.{ClearRegion, OpenDict}
use Rattle.vc_script.specs.declared.reply.Reply.{Reply}
use Rattle.vc_script.specs.declared.reply.Reply.TheVariants.{Refused}
use Rattle.vc_script.specs.declared.refusal.Refusal.TheVariants.{Busy, NoRegion, NoSegment, NoSegmentForTable, NoSegmentForObject}
use Rattle.vc_script.specs.Needs.{Need, NoNeed, need_shown}
use Rattle.vc_dtdisc.specs.Rules.{Gone, Rules}
use Rattle.vc_steps.specs.State.{State, Stepped, step_with_change, home_named, is_home_busy, step_with_refusal, step_with_reply, with_region}
use Rattle.vc_views.specs.Views.{DictHome}
use Rattle.vc_commands.specs.Home.{Label, Home, is_home}
use Rattle.vc_region.specs.Region.{Region}
use Rattle.vc_commands.specs.FreedNames.{FreedNames}
use Rattle.vc_steps.specs.Dicts.{dict_of, region_asked_for}
use Rattle.vc_commands.specs.RegionRun.{GivesRegion}
use Rattle.vc_steps.specs.Step.{GivesStep, cleared_or, opened_in, region_asked, region_of_command, region_step, shelf_step, step, step_of, step_on}
use Rattle.vc_commands.specs.RegionCommands.{in_region}
use Rattle.vc_steps.specs.Refusals.{refusal_at, place_named, home_place}
use Rattle.vc_steps.specs.Told.{tell}
use Rattle.vc_commands.proofs.Firsts.{IsFirst, first-unmap}
use Rattle.vc_steps.specs.Account.{Account, CountsFaults, Lacks, held_named, IsHeldFrom, IsSession, Settles, account, accounts, asked_of, account_after, settled_accounts, state_of, without_faults}
use Rattle.vc_commands.specs.Held.{Held, LacksSegment, IsChange, home_of}
use Rattle.vc_views.proofs.LinkLists.{map-set_same}
use Rattle.vc_steps.proofs.Cells.{at_number-from_one, at_number_some, set_same}
use Rattle.vc_commands.proofs.Firsts.{find-first, find-set}
use Rattle.vc_steps.proofs.FirstHome.{with_region-first}
use Rattle.vc_steps.proofs.Settle.{settled-change, settled-at}
use Rattle.vc_commands.proofs.Grants.{IsPlain}
use Rattle.vc_steps.proofs.SettledShelf.{OnlyAt, counts-granted, counts-one, settles-set}
use Rattle.vc_steps.proofs.Sessions.{Slots, apart-session, held-at, session-set}

one_here : (p : ℕ) → count_by (λ q. q == p) (p ∷ []) ≡ 1
one_here p = grind (arith, nat_tests)

none_elsewhere : (p q : ℕ) → q ≢ p → count_by (λ r. r == q) (p ∷ []) ≡ 0
none_elsewhere p q other = grind (arith, nat_tests)

-- one refusal, at its place
pub one_refusal : (p : ℕ) → OnlyAt p 1 (p ∷ [])
one_refusal p = record { here = one_here p; elsewhere = λ q other. none_elsewhere p q other }

no_refusal : (p : ℕ) → OnlyAt p 0 []
no_refusal p = record { here = refl; elsewhere = λ q other. refl }

-- a step that gives a reply and a state, and tells no kind
pub gives-same : (t : Stepped) (gone : List Gone) (reply : Reply) (after : State) → t ≡ step_with_reply after reply → GivesStep t gone reply after gone
gives-same t gone reply after eq =
    record {
      replied = ap (λ (t : Stepped). t.reply) eq;
      state_after = ap (λ (t : Stepped). t.state) eq;
      told = sym (ap (λ (t : Stepped). tell t.told gone) eq);
    }

-- a command that works on no dictionary and in no region
pub step-shelf : (s : State) (line : ℕ) (command : Command) (need : Need) → dict_of command ≡ None → region_of_command command ≡ None → step s line command need ≡ shelf_step s command need
step-shelf s line command need dict region = ap (step_on s line command need) dict ∙ ap (step_of s line command need) region

-- one that works in a region
pub step-region : (s : State) (line : ℕ) (command : Command) (need : Need) (r : List ℕ) → dict_of command ≡ None → region_of_command command ≡ Some r → step s line command need ≡ step_of s line command need (Some r)
step-region s line command need r dict region = ap (step_on s line command need) dict ∙ ap (step_of s line command need) region

opened_in-region : (command : Command) (r : List ℕ) → region_of_command command ≡ Some r → opened_in command ≡ Some r
opened_in-region (OpenDict d method x k) r e = absurd (none-some r e)
opened_in-region command r e = e

-- asks for segments there
pub asked-region : (s : State) (command : Command) (r : List ℕ) → dict_of command ≡ None → region_of_command command ≡ Some r → region_asked s command ≡ Some r
asked-region s command r dict region = ap (λ d. region_asked_for s d (opened_in command)) dict ∙ opened_in-region command r region

-- and is not run where that isn't open
pub step-none : (s : State) (gone : List Gone) (line : ℕ) (command : Command) (r : List ℕ) → home_named r s.homes ≡ None → GivesStep (step_of s line command NoNeed (Some r)) gone (Refused NoRegion) s gone
step-none s gone line command r none =
    gives-same (step_of s line command NoNeed (Some r)) gone (Refused NoRegion) s (ap (region_step s r line command NoNeed) none)

cleared-busy : (s : State) (r x : List ℕ) (command : Command) (t : Stepped) → command ≡ ClearRegion x → is_home_busy s r ≡ true → cleared_or s r command t ≡ step_with_refusal s Busy
cleared-busy s r x command t is busy = ap (λ c. cleared_or s r c t) is ∙ ap (λ b. cond b (step_with_refusal s Busy) t) busy

cleared-free : (s : State) (r : List ℕ) (command : Command) (t : Stepped) → ((x : List ℕ) → command ≡ ClearRegion x → is_home_busy s r ≡ false) → cleared_or s r command t ≡ t
cleared-free s r (ClearRegion x) t free = ap (λ b. cond b (step_with_refusal s Busy) t) (free x refl)
cleared-free s r command t free = refl

-- nor is a region cleared in which a dictionary lies
pub step-busy : (s : State) (gone : List Gone) (line : ℕ) (command : Command) (r x : List ℕ) (h : Home) → home_named r s.homes ≡ Some h → command ≡ ClearRegion x → is_home_busy s r ≡ true → GivesStep (step_of s line command NoNeed (Some r)) gone (Refused Busy) s gone
step-busy s gone line command r x h found is busy =
    gives-same (step_of s line command NoNeed (Some r)) gone (Refused Busy) s
    (ap (region_step s r line command NoNeed) found ∙ cleared-busy s r x command (step_with_change s r (in_region h line command NoNeed)) is busy)

abbrev asked_by : Exceptions → ℕ × ℕ
asked_by e = (e.told, e.yes)

-- whatever the cells were before the change
module _ (armed : Bool) (slots : Slots) (hs : List Held) (i : ℕ) (h g : Held) (at : slice_get hs i ≡ Some h) (session : IsSession armed slots hs) {cells : Blocks} (change : IsChange (record h { cells = cells }) g) where
  held : IsHeldFrom armed slots h
  held = held-at armed slots hs i h at session

  -- nothing is told of its place
  found : (1 ≤ h.place) × (slice_get slots (h.place - 1) ≡ Some None)
  found = at_number_some slots h.place None held.place

  there : slice_get (accounts slots) (h.place - 1) ≡ Some None
  there = slice_get-map (option_map account) slots (h.place - 1) ∙ ap (option_map (option_map account)) found.1

  pub session-change : IsSession armed slots (set hs i g)
  session-change =
      session-set armed slots hs i h g at change.place
      (record { place = ap (at_number slots) change.place ∙ held.place; armed_so = change.kept.armed ∙ held.armed_so; lent = change.lent; names = change.names }) session

  pub settles-change : (n : ℕ) (refusals : List ℕ) → CountsFaults armed n h.disc.faults g.disc.faults → OnlyAt h.place n refusals → Settles armed (settled_accounts (accounts slots) hs) (settled_accounts (accounts slots) (set hs i g)) refusals
  settles-change n refusals rose only =
      let has : at_number (settled_accounts (accounts slots) hs) h.place ≡ Some (Some (account_after h)) =
      at_number-from_one (settled_accounts (accounts slots) hs) h.place found.0 ∙ settled-at (accounts slots) hs i h None at there (apart-session armed slots hs session) in
      let same : without_faults (account_after g) ≡ without_faults (account_after h) =
      ap (λ o. let p : List (ℕ × ℕ) × Terms = (o, g.disc.terms) in p) change.out ∙ ap (λ r. let p : List (ℕ × ℕ) × Terms = ((account_after h).out, r) in p) change.kept.terms in
      let after : settled_accounts (accounts slots) (set hs i g) ≡ set (settled_accounts (accounts slots) hs) (h.place - 1) (Some (account_after g)) =
      settled-change (accounts slots) hs i h g at change.place (apart-session armed slots hs session)
      ∙ ap (λ p. set (settled_accounts (accounts slots) hs) (p - 1) (Some (account_after g))) change.place in
      subst (λ s. Settles armed (settled_accounts (accounts slots) hs) s refusals) (sym after)
      (settles-set (settled_accounts (accounts slots) hs) h.place n (account_after h) (account_after g) refusals has same (λ off. ap asked_by (change.kept.unarmed (held.armed_so ∙ off))) rose only)

  -- where all was granted, and no fault was counted if the discipline isn't armed
  pub settles-none : (g.disc.faults ≡ h.disc.faults) ⊎ Excused h.disc g.disc → Settles armed (settled_accounts (accounts slots) hs) (settled_accounts (accounts slots) (set hs i g)) []
  settles-none same = settles-change 0 [] (counts-granted h.disc.faults g.disc.faults change.kept.faults (λ off. unless-unarmed h.disc g.disc (held.armed_so ∙ off) same)) (no_refusal h.place)

  -- and where one was for a refusal
  pub settles-one : Rose h.disc.faults g.disc.faults → Settles armed (settled_accounts (accounts slots) hs) (settled_accounts (accounts slots) (set hs i g)) (h.place ∷ [])
  settles-one rose = settles-change 1 (h.place ∷ []) (counts-one h.disc.faults g.disc.faults change.kept.faults rose) (one_refusal h.place)

  pub settles-reply : (kinds : List Rules) (ds : List DictHome) (r : List ℕ) (command : Command) (reply : Reply) → region_asked (state_of kinds slots hs ds) command ≡ Some r → home_named r (state_of kinds slots hs ds).homes ≡ Some (home_of h) → (reply ≡ Refused NoSegment → Rose h.disc.faults g.disc.faults) → (reply ≢ Refused NoSegment → (g.disc.faults ≡ h.disc.faults) ⊎ Excused h.disc g.disc) → IsPlain reply → Settles armed (settled_accounts (accounts slots) hs) (settled_accounts (accounts slots) (set hs i g)) (refusal_at (state_of kinds slots hs ds) command reply)
  settles-reply kinds ds r command (Refused NoSegment) works found rose none plain =
      subst (λ o. Settles armed (settled_accounts (accounts slots) hs) (settled_accounts (accounts slots) (set hs i g)) (place_named (state_of kinds slots hs ds) o)) (sym works)
      (subst (λ o. Settles armed (settled_accounts (accounts slots) hs) (settled_accounts (accounts slots) (set hs i g)) (home_place o)) (sym found)
      (settles-one (rose refl)))
  settles-reply kinds ds r command (Refused NoSegmentForTable) works found rose none plain = absurd plain
  settles-reply kinds ds r command (Refused NoSegmentForObject) works found rose none plain = absurd plain
  settles-reply kinds ds r command reply works found rose none plain = settles-none (none (λ e. cc))

  -- where its discipline has no more faults and no more exceptions, the settled shelf is the same
  pub settled-same : g.disc.faults ≡ h.disc.faults → g.disc.exceptions ≡ h.disc.exceptions → settled_accounts (accounts slots) (set hs i g) ≡ settled_accounts (accounts slots) hs
  settled-same faults exceptions =
      let apart = apart-session armed slots hs session in
      let same : account_after g ≡ account_after h =
      ap (λ o. let a : Account = record { out = o; terms = g.disc.terms; faults = g.disc.faults; asked = asked_of g.disc } in a) change.out
      ∙ (ap (λ r. let a : Account = record { out = (account_after h).out; terms = r; faults = g.disc.faults; asked = asked_of g.disc } in a) change.kept.terms
      ∙ (ap (λ f. let a : Account = record { out = (account_after h).out; terms = h.disc.terms; faults = f; asked = asked_of g.disc } in a) faults
      ∙ ap (λ e. let a : Account = record { out = (account_after h).out; terms = h.disc.terms; faults = h.disc.faults; asked = asked_by e } in a) exceptions)) in
      settled-change (accounts slots) hs i h g at change.place apart
      ∙ (ap (λ p. set (settled_accounts (accounts slots) hs) (p - 1) (Some (account_after g))) change.place
      ∙ (ap (λ a. set (settled_accounts (accounts slots) hs) (h.place - 1) (Some a)) same
      ∙ set_same (settled_accounts (accounts slots) hs) (h.place - 1) (Some (account_after h)) (settled-at (accounts slots) hs i h None at there apart)))

  same_home : (let k : Home = record (home_of h) { region = (home_of g).region; kept = (home_of g).kept } in k) ≡ home_of g
  same_home =
      ap (λ n. let k : Home = record { name = n; place = h.place; terms = h.disc.terms; region = (home_of g).region; kept = (home_of g).kept } in k) (sym change.name)
      ∙ (ap (λ p. let k : Home = record { name = g.name; place = p; terms = h.disc.terms; region = (home_of g).region; kept = (home_of g).kept } in k) (sym change.place)
      ∙ ap (λ r. let k : Home = record { name = g.name; place = g.place; terms = r; region = (home_of g).region; kept = (home_of g).kept } in k) (sym change.kept.terms))

  first-item : (r : List ℕ) (first : IsFirst (is_home r) (map home_of hs) i) → first.item ≡ home_of h
  first-item r first = same_Some first.item (home_of h) (sym first.at ∙ (slice_get-map home_of hs i ∙ ap (option_map home_of) at))

  pub homes-change : (r : List ℕ) → IsFirst (is_home r) (map home_of hs) i → with_region r (home_of g).region (home_of g).kept (map home_of hs) ≡ map home_of (set hs i g)
  homes-change r first =
      with_region-first r (home_of g).region (home_of g).kept (map home_of hs) i first
      ∙ (ap (λ (k : Home). set (map home_of hs) i (record k { region = (home_of g).region; kept = (home_of g).kept })) (first-item r first)
      ∙ (ap (set (map home_of hs) i) same_home ∙ sym (map-set home_of hs i g)))

  pub found-change : (r : List ℕ) → IsFirst (is_home r) (map home_of hs) i → home_named r (map home_of hs) ≡ Some (home_of h)
  found-change r first =
      find-first (is_home r) (map home_of hs) i first ∙ ap (λ k. Some k) (first-item r first)

  pub step-change : (kinds : List Rules) (ds : List DictHome) (gone : List Gone) (r : List ℕ) (line : ℕ) (command : Command) (reply : Reply) → IsFirst (is_home r) (map home_of hs) i → ((x : List ℕ) → command ≡ ClearRegion x → is_home_busy (state_of kinds slots hs ds) r ≡ false) → GivesRegion (in_region (home_of h) line command (need_shown reply)) ((home_of g).region, (home_of g).kept) reply → GivesStep (step_of (state_of kinds slots hs ds) line command (need_shown reply) (Some r)) gone reply (state_of kinds slots (set hs i g) ds) gone
  step-change kinds ds gone r line command reply first free gives =
      let s = state_of kinds slots hs ds in
      let need = need_shown reply in
      let is : step_of s line command need (Some r) ≡ step_with_change s r (in_region (home_of h) line command need) =
      ap (region_step s r line command need) (found-change r first) ∙ cleared-free s r command (step_with_change s r (in_region (home_of h) line command need)) free in
      record {
        replied = ap (λ (t : Stepped). t.reply) is ∙ gives.replied;
        state_after =
            ap (λ (t : Stepped). t.state) is
            ∙ (ap (λ q. let u : State = record s { homes = with_region r q (in_region (home_of h) line command need).kept s.homes } in u) gives.region_after
            ∙ (ap (λ q. let u : State = record s { homes = with_region r (home_of g).region q s.homes } in u) gives.kept_after
            ∙ ap (λ homes. let u : State = record s { homes = homes } in u) (homes-change r first)));
        told = sym (ap (λ (t : Stepped). tell t.told gone) is);
      }

  -- the region that a command works in, before and after it
  pub lacks-change : (r : List ℕ) (asked : ℕ × ℕ) → IsFirst (is_home r) (map home_of hs) i → LacksSegment h g asked → Lacks (held_named hs (Some r)) (held_named (set hs i g) (Some r)) asked
  lacks-change r asked first lacks =
      let here = first-unmap (is_home r) home_of hs i first in
      let was : here.item ≡ h = same_Some here.item h (sym here.at ∙ at) in
      let passes : bytes_eq g.name r ≡ true = ap (λ n. bytes_eq n r) change.name ∙ (ap (λ (k : Held). bytes_eq k.name r) (sym was) ∙ here.passes) in
      subst (λ o. Lacks o (held_named (set hs i g) (Some r)) asked) (sym (find-first (λ k. bytes_eq k.name r) hs i here ∙ ap (λ k. Some k) was))
      (subst (λ o. Lacks (Some h) o asked) (sym (find-set (λ k. bytes_eq k.name r) hs i h g at here.before passes)) lacks)

  -- with the lists as before the state is the same
  pub state-same : (kinds : List Rules) (ds : List DictHome) → (let p : Region Label × FreedNames = ((home_of g).region, (home_of g).kept) in p) ≡ ((home_of h).region, (home_of h).kept) → state_of kinds slots (set hs i g) ds ≡ state_of kinds slots hs ds
  state-same kinds ds same =
      let home : home_of g ≡ home_of h = sym same_home ∙ ap (λ (q : Region Label × FreedNames). let k : Home = record (home_of h) { region = q.0; kept = q.1 } in k) same in
      ap (λ homes. let s : State = record (state_of kinds slots hs ds) { homes = homes } in s) (map-set_same home_of hs i h g at home)
