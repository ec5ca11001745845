-- What a command in a region leaves of the session's dictionaries.
use Rattle.vc_base.proofs.Common.{◌≡◌, ℕ, Bool, true, false, ◌&&◌, List, map, set, IfOk, OnErr, slice_get, Some, Ok, Err, Result, sym, refl, ap, ◌∙◌, AllByRecursion}
use Rattle.vc_base.proofs.Texts.{same_bytes}
use Rattle.vc_dtdisc.specs.Rules.{Rules}
use Rattle.vc_script.specs.Needs.{need_shown}
use Rattle.vc_script.specs.declared.command.Command.{Command}
use Rattle.vc_script.specs.declared.command.Command.TheVariants.{ClearRegion}
use Rattle.vc_script.specs.declared.refusal.Refusal.TheVariants.{NoSegment, NoSegmentForTable, NoSegmentForObject}
use Rattle.vc_script.specs.declared.reply.Reply.{Reply}
use Rattle.vc_script.specs.declared.reply.Reply.TheVariants.{Refused}
use Rattle.vc_region.specs.Region.{Region, is_best}
use Rattle.vc_commands.specs.Held.{Held, cells_left, home_of}
use Rattle.vc_steps.specs.Account.{StepLacks}
use Rattle.vc_steps.specs.DictHomes.{lies_in}
use Rattle.vc_commands.specs.FreedNames.{FreedNames}
use Rattle.vc_commands.specs.Labels.{name_of_tag}
use Rattle.vc_steps.specs.WantedSegments.{StepLacksFor}
use Rattle.vc_commands.specs.Home.{Label, is_home}
use Rattle.vc_steps.specs.State.{State}
use Rattle.vc_commands.specs.RegionRun.{GivesRegion}
use Rattle.vc_commands.specs.RegionCommands.{in_region}
use Rattle.vc_steps.specs.Step.{is_clear}
use Rattle.vc_steps.proofs.BestStays.{region-best, relabelled-best}
use Rattle.vc_steps.proofs.DictsStay.{Entry, Stays, all-other, all-stay, its-name, stays-elsewhere, stays-set_cells}
use Rattle.vc_commands.proofs.Firsts.{IsFirst}
use Rattle.vc_commands.proofs.Grants.{IsPlain}

-- a fact of each answer follows from another
pub if_ok_at : {T E : Type 0} (r : Result T E) (P Q : T → Type 0) → ((x : T) → r ≡ Ok x → P x → Q x) → IfOk r P → IfOk r Q
if_ok_at (Ok x) P Q f p = f x refl p
if_ok_at (Err e) P Q f p = tt

pub clear-is : (command : Command) → is_clear command ≡ true → (x : List ℕ) × (command ≡ ClearRegion x)
clear-is (ClearRegion x) e = (x, refl)
clear-is command e = absurd cc

pub clear-free : (command : Command) (b : Bool) → (is_clear command && b) ≡ false → (x : List ℕ) → command ≡ ClearRegion x → b ≡ false
clear-free command b none x is = sym (ap (λ c. is_clear c && b) is) ∙ none

-- a reply that tells of no table and no object
pub lacks-plain : (s : State) (before after : List Held) (command : Command) (reply : Reply) → IsPlain reply → (reply ≡ Refused NoSegment → StepLacks before after command) → StepLacksFor s before after command reply
lacks-plain s before after command (Refused NoSegment) plain lacks = lacks refl
lacks-plain s before after command (Refused NoSegmentForTable) plain lacks = absurd plain
lacks-plain s before after command (Refused NoSegmentForObject) plain lacks = absurd plain
lacks-plain s before after command reply plain lacks = tt

-- the region is best, if it was
pub run-best : {E : Type 0} (h k : Held) (line : ℕ) (command : Command) (r : Result Reply E) → IfOk r (λ reply. GivesRegion (in_region (home_of h) line command (need_shown reply)) ((home_of k).region, (home_of k).kept) reply) → OnErr r ((let p : Region Label × FreedNames = ((home_of k).region, (home_of k).kept) in p) ≡ ((home_of h).region, (home_of h).kept)) → is_best k.region ≡ is_best h.region
run-best h k line command (Ok reply) ok err =
    sym (relabelled-best (name_of_tag k.labels) k.region)
    ∙ (ap (λ (r : Region Label). is_best r) (sym ok.region_after)
    ∙ (region-best (home_of h) line command (need_shown reply) ∙ relabelled-best (name_of_tag h.labels) h.region))
run-best h k line command (Err e) ok err =
    sym (relabelled-best (name_of_tag k.labels) k.region)
    ∙ (ap (λ (p : Region Label × FreedNames). is_best p.0) err ∙ relabelled-best (name_of_tag h.labels) h.region)

-- and each dictionary stays
module _ (kinds : List Rules) (es : List Entry) (hs : List Held) (i : ℕ) (h k : Held) (at : slice_get hs i ≡ Some h) (name : k.name ≡ h.name) (r : List ℕ) (first : IsFirst (is_home r) (map home_of hs) i) where
  pub run-stays : (command : Command) → ((x : List ℕ) → command ≡ ClearRegion x → lies_in r es ≡ false) → is_best k.region ≡ is_best h.region → k.cells ≡ cells_left command h.cells → AllByRecursion (Stays kinds hs (set hs i k)) es
  run-stays (ClearRegion x) free best cells =
      all-other kinds hs (set hs i k) h.name (λ e other. stays-elsewhere hs i h k at name kinds e other) es
      (ap (λ n. lies_in n es) (same_bytes h.name r (its-name hs i h k at name r first)) ∙ free x refl)
  run-stays command free best cells =
      all-stay kinds hs (set hs i k) es (λ e. stays-set_cells hs i h k at name r first kinds (λ b. best ∙ b) cells e)
