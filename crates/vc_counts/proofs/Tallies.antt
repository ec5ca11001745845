-- What is read of the region of a step's command, before it and after it, against the bytes of all regions.
use Rattle.vc_base.proofs.Common.{◌≡◌, ℕ, ◌+◌, List, [], Some, None, Option, sym, refl, ap, subst, arith, Grant}
use Rattle.vc_commands.specs.Home.{Home, Label}
use Rattle.vc_commands.specs.FreedNames.{FreedNames}
use Rattle.vc_commands.specs.Sizes.{size_named}
use Rattle.vc_region.specs.Region.{Region, segments_of}
use Rattle.vc_region.specs.Stat.{stat_of}
use Rattle.vc_script.specs.declared.refusal.Refusal.{Refusal}
use Rattle.vc_script.specs.declared.reply.Reply.{Reply}
use Rattle.vc_script.specs.declared.reply.Reply.TheVariants.{Refused}
use Rattle.vc_steps.specs.Sizes.{size_in_home}
use Rattle.vc_steps.specs.State.{State, Stepped, home_named, with_region, without_home}
use Rattle.vc_views.specs.Views.{DictHome}
use Rattle.vc_counts.specs.Reach.{bytes_freed_by, put_by_reply}
use Rattle.vc_counts.specs.Working.{busy_home, busy_in_home, reached_at, segments_at, segments_at_home}
use Rattle.vc_counts.specs.declared.reach.Reach.{Reach}
use Rattle.vc_counts.specs.declared.reach.Reach.TheVariants.{Nothing, Block, Table, Dict, All}
use Rattle.vc_counts.proofs.GrantedSegments.{Lends, lends-none, lends-same}
use Rattle.vc_counts.proofs.Sums.{busy_homes, busy-with, busy-without, named-with, put_region}

-- from the bytes that a command reached before a step to those after it: all regions' blocks change by as many; and the
-- segments that were granted stand behind those that its region had
pub record Tallies (before after : ℕ) (sum sum' : ℕ) (had has : List (ℕ × ℕ)) (granted : List Grant) : Type 0 where
  pub busy : sum' + before ≡ sum + after
  pub lent : Lends had has granted

-- what is read before a step, and after it
abbrev pub before_by : Reach → Option (List ℕ) → Reply → State → ℕ
before_by reach name reply s = reached_at reach name s.homes s.dicts + bytes_freed_by reach reply

abbrev pub after_by : Reach → Option (List ℕ) → Reply → State → ℕ
after_by reach name reply s = reached_at reach name s.homes s.dicts + put_by_reply reach reply

-- so for the region of that name in a step
abbrev pub TalliesStep : State → Reach → Option (List ℕ) → Stepped → Type 0
TalliesStep s reach name t =
    Tallies (before_by reach name t.reply s) (after_by reach name t.reply t.state) (busy_homes s.homes) (busy_homes t.state.homes)
    (segments_at name s.homes) (segments_at name t.state.homes) t.granted

-- where no region changes, and nothing is read
pub idle : (name : Option (List ℕ)) (hs : List Home) → Tallies 0 0 (busy_homes hs) (busy_homes hs) (segments_at name hs) (segments_at name hs) []
idle name hs = record { busy = refl; lent = lends-same (segments_at name hs) (segments_at name hs) refl }

-- or a command is refused
no-holder : (reach : Reach) (why : Refusal) → bytes_freed_by reach (Refused why) ≡ put_by_reply reach (Refused why)
no-holder Nothing why = refl
no-holder (Block x) why = refl
no-holder (Table d) why = refl
no-holder (Dict d) why = refl
no-holder All why = refl

pub refuses : (s : State) (reach : Reach) (name : Option (List ℕ)) (why : Refusal) → Tallies (before_by reach name (Refused why) s) (after_by reach name (Refused why) s) (busy_homes s.homes) (busy_homes s.homes) (segments_at name s.homes) (segments_at name s.homes) []
refuses s reach name why =
    record { busy = omega (arith, no-holder reach why); lent = lends-same (segments_at name s.homes) (segments_at name s.homes) refl }

-- what a command on a region reaches of it
abbrev pub reached_in : Reach → Home → ℕ
reached_in Nothing h = 0
reached_in (Block x) h = size_named x h.region
reached_in (Table d) h = 0
reached_in (Dict d) h = 0
reached_in All h = busy_home h

-- a region gets other blocks by a command
abbrev pub Reaches : Reach → Home → Region Label → FreedNames → Type 0
Reaches reach h region kept =
    (stat_of region).sbusy + reached_in reach h ≡ (stat_of h.region).sbusy + reached_in reach (put_region region kept h)

-- it reaches no dictionary
abbrev pub IsOfRegion : Reach → Type 0
IsOfRegion Nothing = Unit {0}
IsOfRegion (Block x) = Unit {0}
IsOfRegion (Table d) = ⊥
IsOfRegion (Dict d) = ⊥
IsOfRegion All = Unit {0}

module _ (r : List ℕ) (hs : List Home) (h : Home) (found : home_named r hs ≡ Some h) where
  -- the region of that name changes, by the segments that it is granted
  module _ (region : Region Label) (kept : FreedNames) where
    abbrev changed : List Home
    changed = with_region r region kept hs

    there : home_named r (with_region r region kept hs) ≡ Some (put_region region kept h)
    there = named-with r region kept hs h found

    pub lends-changed : (granted : List Grant) → Lends (segments_of h.region) (segments_of region) granted → Lends (segments_at (Some r) hs) (segments_at (Some r) (with_region r region kept hs)) granted
    lends-changed granted lends =
        subst (λ had. Lends had (segments_at (Some r) changed) granted) (sym (ap segments_at_home found))
        (subst (λ has. Lends (segments_of h.region) has granted) (sym (ap segments_at_home there)) lends)

    pub busy-changed : (reach : Reach) (reply : Reply) (ds : List DictHome) → IsOfRegion reach → Reaches reach h region kept → busy_homes (with_region r region kept hs) + (reached_at reach (Some r) hs ds + bytes_freed_by reach reply) ≡ busy_homes hs + (reached_at reach (Some r) (with_region r region kept hs) ds + put_by_reply reach reply)
    busy-changed Nothing reply ds of reaches = omega (arith, busy-with r region kept hs h found, reaches)
    busy-changed (Block x) reply ds of reaches =
        omega (arith, busy-with r region kept hs h found, reaches, ap (size_in_home x) found, ap (size_in_home x) there)
    busy-changed (Table d) reply ds of reaches = absurd of
    busy-changed (Dict d) reply ds of reaches = absurd of
    busy-changed All reply ds of reaches =
        omega (arith, busy-with r region kept hs h found, reaches, ap busy_in_home found, ap busy_in_home there)

  -- it is closed, and no other has the name
  pub tallies-closed : home_named r (without_home r hs) ≡ None → Tallies (busy_in_home (home_named r hs) + 0) (busy_in_home (home_named r (without_home r hs)) + 0) (busy_homes hs) (busy_homes (without_home r hs)) (segments_at (Some r) hs) (segments_at (Some r) (without_home r hs)) []
  tallies-closed alone =
      record {
        busy = omega (arith, busy-without r hs h found, ap busy_in_home found, ap busy_in_home alone);
        lent = subst (λ has. Lends (segments_at (Some r) hs) has []) (sym (ap segments_at_home alone)) (lends-none (segments_at (Some r) hs));
      }
