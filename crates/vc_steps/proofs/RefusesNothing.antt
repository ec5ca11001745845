-- Steps whose reply refuses no segment.
use Rattle.vc_base.proofs.Common.{◌≡◌, ℕ, Bool, true, false, cond, List, [], Some, None, Option, sym, refl, ap, subst, list_any, Terms, at_number}
use Rattle.vc_region.specs.Region.{Region}
use Rattle.vc_region.specs.Stat.{opened_region}
use Rattle.vc_script.specs.declared.command.Command.{Command}
use Rattle.vc_script.specs.declared.refusal.Refusal.TheVariants as why
use Rattle.vc_script.specs.declared.reply.Reply.{Reply}
use Rattle.vc_script.specs.declared.reply.Reply.TheVariants.{Refused}
use Rattle.vc_seg.specs.declared.method.Method.{Method}
use Rattle.vc_steps.specs.Account.{Account, Settles}
use Rattle.vc_commands.specs.Held.{Held}
use Rattle.vc_steps.specs.WantedSegments.{StepLacksFor}
use Rattle.vc_steps.specs.Refusals.{refusal_at}
use Rattle.vc_steps.specs.State.{State, Stepped, close_home, close_step, step_with_close, home_named, is_home_busy, open_step, opened_over, step_with_refusal, step_with_reply}
use Rattle.vc_commands.specs.Home.{Home, Label, is_home}
use Rattle.vc_commands.proofs.Grants.{IsGranted}

-- where no segment is refused none is lacking
pub granted-lacks : (s : State) (before after : List Held) (command : Command) (reply : Reply) → IsGranted reply → StepLacksFor s before after command reply
granted-lacks s before after command (Refused why.NoSegment) granted = absurd granted
granted-lacks s before after command (Refused why.NoSegmentForTable) granted = absurd granted
granted-lacks s before after command (Refused why.NoSegmentForObject) granted = absurd granted
granted-lacks s before after command reply granted = tt

granted-none : (s : State) (command : Command) (reply : Reply) → IsGranted reply → refusal_at s command reply ≡ []
granted-none s command (Refused why.NoSegment) granted = absurd granted
granted-none s command (Refused why.NoSegmentForTable) granted = absurd granted
granted-none s command (Refused why.NoSegmentForObject) granted = absurd granted
granted-none s command reply granted = refl

pub granted-settles : {armed : Bool} (s : State) (before after : List (Option Account)) (command : Command) (reply : Reply) → IsGranted reply → Settles armed before after [] → Settles armed before after (refusal_at s command reply)
granted-settles {armed = armed} s before after command reply granted settles = subst (Settles armed before after) (sym (granted-none s command reply granted)) settles

granted-opened : (s : State) (r : List ℕ) (n : ℕ) (region : Region Label) (place : Option (Option Terms)) → IsGranted (opened_over s r n region place).reply
granted-opened s r n region None = tt
granted-opened s r n region (Some None) = tt
granted-opened s r n region (Some (Some terms)) = tt

holds-cond : (P : Reply → Type 0) (t : Bool) (a b : Stepped) → P a.reply → P b.reply → P (cond t a b).reply
holds-cond P true a b p q = p
holds-cond P false a b p q = q

granted-open : (s : State) (r : List ℕ) (method : Method) (n : ℕ) → IsGranted (open_step s r method n).reply
granted-open s r method n =
    let over = opened_over s r n (opened_region method) (at_number s.shelf n) in
    holds-cond IsGranted (list_any (is_home r) s.homes) (step_with_refusal s why.RegionExists) over tt (granted-opened s r n (opened_region method) (at_number s.shelf n))

granted-close_home : (s : State) (r : List ℕ) (o : Option Home) → IsGranted (close_home s r o).reply
granted-close_home s r None = tt
granted-close_home s r (Some h) = holds-cond IsGranted (is_home_busy s r) (step_with_refusal s why.Busy) (step_with_close s r h) tt tt

-- the reply where a region is opened or closed
pub open-granted : (s after : State) (r : List ℕ) (method : Method) (n : ℕ) (reply : Reply) → open_step s r method n ≡ step_with_reply after reply → IsGranted reply
open-granted s after r method n reply e = subst IsGranted (ap (λ (t : Stepped). t.reply) e) (granted-open s r method n)

pub close-granted : (s after : State) (r : List ℕ) (reply : Reply) → close_step s r ≡ step_with_reply after reply → IsGranted reply
close-granted s after r reply e = subst IsGranted (ap (λ (t : Stepped). t.reply) e) (granted-close_home s r (home_named r s.homes))
