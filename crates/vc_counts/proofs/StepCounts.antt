-- A step's command is counted by what is read of its region before it and after it.
use Rattle.vc_base.proofs.Common.{◌≡◌, ℕ, ◌+◌, ◌-◌, ◌<◌, ◌≤◌, Bool, List, length, Option, sym, ap, ◌∙◌, subst, arith, AllByRecursion}
use Rattle.vc_seg.specs.declared.tally.Tally.{Tally}
use Rattle.vc_script.specs.Needs.{is_refusal, need_shown}
use Rattle.vc_script.specs.declared.command.Command.{Command}
use Rattle.vc_script.specs.declared.reply.Reply.{Reply}
use Rattle.vc_steps.specs.State.{State, Stepped}
use Rattle.vc_steps.specs.Step.{step}
use Rattle.vc_counts.specs.CanCount.{CanCount, IsInRange}
use Rattle.vc_counts.specs.Counts.{live_bytes, counts_with_step}
use Rattle.vc_counts.specs.Reach.{bytes_freed_by, put_by_reply, reach_of}
use Rattle.vc_counts.specs.Working.{counts_after, reached_at, region_worked, segments_at, tally_behind}
use Rattle.vc_counts.specs.declared.counts.Counts.{Counts}
use Rattle.vc_counts.specs.declared.reach.Reach.{Reach}
use Rattle.vc_counts.proofs.CountsAfter.{can-later, counts-after}
use Rattle.vc_counts.proofs.OwnNames.{IsProper}
use Rattle.vc_counts.proofs.Tallies.{TalliesStep, after_by, before_by}
use Rattle.vc_counts.proofs.DictWorks.{HaveOwnNames}
use Rattle.vc_counts.proofs.Works.{AreAlone, AreSeated, works}

-- a command was run with a reply, from a state to another one
pub record WasRun (s s' : State) (line : ℕ) (command : Command) (reply : Reply) : Type 0 where
  pub alone : AreAlone s.homes
  pub lone : HaveOwnNames s.dicts
  pub seated : AreSeated s
  pub proper : AllByRecursion IsProper s.homes
  pub proper_then : AllByRecursion IsProper s'.homes
  pub state : (step s line command (need_shown reply)).state ≡ s'
  pub replied : (step s line command (need_shown reply)).reply ≡ reply

-- what was read of the region of that name before it and after it
pub record WasRead (s s' : State) (command : Command) (reply : Reply) (name : Option (List ℕ)) (reached : Reach) (held gone holds more : ℕ) : Type 0 where
  pub region : name ≡ region_worked s command
  pub reach : reached ≡ reach_of command
  pub before : held ≡ reached_at reached name s.homes s.dicts
  pub freed : gone ≡ bytes_freed_by reached reply
  pub after : holds ≡ reached_at reached name s'.homes s'.dicts
  pub put : more ≡ put_by_reply reached reply

module _ (c : Counts) (s s' : State) (line : ℕ) (command : Command) (reply : Reply) (can : CanCount c (live_bytes s) line) (run : WasRun s s' line command reply) where
  abbrev this_step : Stepped
  this_step = step s line command (need_shown reply)

  -- and a command of a later line can be counted
  pub can-next : (counts : Counts) → counts ≡ counts_with_step c this_step → IsInRange counts → (later : ℕ) → line < later → CanCount counts (live_bytes s') later
  can-next counts same range later behind =
      subst (λ (x : Counts). CanCount x (live_bytes s') later) (sym same)
      (subst (λ (x : State). CanCount (counts_with_step c this_step) (live_bytes x) later) run.state (can-later c s this_step line later can.before behind (subst IsInRange same range)))

  module _ (name : Option (List ℕ)) (reached : Reach) (held gone holds more : ℕ) (read : WasRead s s' command reply name reached held gone holds more) where
    tallied : TalliesStep s (reach_of command) name this_step
    tallied =
        subst (λ o. TalliesStep s (reach_of command) o this_step) (sym read.region)
        (works s line command (need_shown reply) run.alone run.lone run.seated run.proper (subst (λ (x : State). AllByRecursion IsProper x.homes) (sym run.state) run.proper_then))

    before : held + gone ≡ before_by (reach_of command) name (step s line command (need_shown reply)).reply s
    before =
        omega (
          arith,
          read.before ∙ ap (λ k. reached_at k name s.homes s.dicts) read.reach,
          read.freed ∙ (ap (λ k. bytes_freed_by k reply) read.reach ∙ ap (bytes_freed_by (reach_of command)) (sym run.replied)),
        )

    after : holds + more ≡ after_by (reach_of command) name (step s line command (need_shown reply)).reply (step s line command (need_shown reply)).state
    after =
        omega (
          arith,
          read.after ∙ (ap (λ k. reached_at k name s'.homes s'.dicts) read.reach ∙ ap (λ (x : State). reached_at (reach_of command) name x.homes x.dicts) (sym run.state)),
          read.put ∙ (ap (λ k. put_by_reply k reply) read.reach ∙ ap (put_by_reply (reach_of command)) (sym run.replied)),
        )

    -- what is taken off the bytes that were counted is among them and those that come
    pub part-counted : held + gone ≤ c.busy + (holds + more)
    part-counted = omega (arith, before, after, tallied.busy, can.now)

    -- the counts by what is read of its region are those by the step
    pub counts-step : (refused : Bool) (from : ℕ) (had has : List (ℕ × ℕ)) (last now : Tally) → refused ≡ is_refusal reply → had ≡ segments_at name s.homes → has ≡ segments_at name s'.homes → from ≡ length (segments_at name s.homes) - 1 →
        last ≡ tally_behind from had → now ≡ tally_behind from has → counts_after c refused (held + gone) (holds + more) last now ≡ counts_with_step c this_step
    counts-step refused from had has last now told first segments place read_first read_then =
        let t = this_step in
        let reads : ℕ = before_by (reach_of command) name t.reply s in
        let same : refused ≡ is_refusal t.reply = told ∙ ap is_refusal (sym run.replied) in
        let at = length (segments_at name s.homes) - 1 in
        let one : last ≡ tally_behind at (segments_at name s.homes) = read_first ∙ (ap (λ n. tally_behind n had) place ∙ ap (tally_behind at) first) in
        let other : now ≡ tally_behind at (segments_at name t.state.homes) =
        read_then ∙ (ap (λ n. tally_behind n has) place ∙ ap (tally_behind at) (segments ∙ ap (λ (x : State). segments_at name x.homes) (sym run.state))) in
        ap (λ b. counts_after c b (held + gone) (holds + more) last now) same
        ∙ (ap (λ n. counts_after c (is_refusal t.reply) n (holds + more) last now) before
        ∙ (ap (λ n. counts_after c (is_refusal t.reply) reads n last now) after
        ∙ (ap (λ l. counts_after c (is_refusal t.reply) reads (after_by (reach_of command) name t.reply t.state) l now) one
        ∙ (ap (counts_after c (is_refusal t.reply) reads (after_by (reach_of command) name t.reply t.state) (tally_behind at (segments_at name s.homes))) other
        ∙ counts-after c s t reads (after_by (reach_of command) name t.reply t.state) (segments_at name s.homes) (segments_at name t.state.homes) can.now tallied))))
