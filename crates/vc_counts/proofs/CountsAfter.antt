-- What is counted by what is read of one region is what the step did.
use Rattle.vc_base.proofs.Common.{◌≡◌, ℕ, ◌+◌, ◌-◌, ◌<◌, ◌≤◌, max, Bool, true, false, cond, List, [], map, length, drop, sum, count_by, sym, refl, ap, ◌∙◌, arith, length-map, Grant}
use Rattle.vc_seg.proofs.Tallies.{tally_of-bytes, tally_of-count}
use Rattle.vc_commands.specs.Home.{Home}
use Rattle.vc_script.specs.Needs.{is_refusal}
use Rattle.vc_steps.specs.State.{State, Stepped}
use Rattle.vc_counts.specs.CanCount.{CanCount, IsInRange, counted_commands}
use Rattle.vc_counts.specs.Counts.{live_bytes, counts_with_step, nothing_counted}
use Rattle.vc_counts.specs.Working.{counts_after, tally_behind}
use Rattle.vc_counts.specs.declared.counts.Counts.{Counts}
use Rattle.vc_counts.proofs.Sums.{busy_homes}
use Rattle.vc_counts.proofs.Tallies.{Tallies}

abbrev made : ℕ → ℕ → ℕ → ℕ → ℕ → ℕ → Counts
made done refused segments bytes busy peak =
    record { done = done; refused = refused; segments = segments; bytes = bytes; busy = busy; peak = max peak busy }

pub counts-after : (c : Counts) (s : State) (t : Stepped) (before after : ℕ) (had has : List (ℕ × ℕ)) → c.busy ≡ live_bytes s → Tallies before after (live_bytes s) (live_bytes t.state) had has t.granted →
    counts_after c (is_refusal t.reply) before after (tally_behind (length had - 1) had) (tally_behind (length had - 1) has) ≡ counts_with_step c t
counts-after c s t before after had has now tallies =
    let b = is_refusal t.reply in
    let done = c.done + cond b 0 1 in
    let refused = c.refused + cond b 1 0 in
    let from = length had - 1 in
    let last = tally_behind from had in
    let then = tally_behind from has in
    let counted : (ss : List (ℕ × ℕ)) → (tally_behind from ss).count ≡ length (drop from ss) = λ ss. tally_of-count (map (λ (s : ℕ × ℕ). s.1) (drop from ss)) ∙ length-map (drop from ss) (λ (s : ℕ × ℕ). s.1) in
    let summed : (ss : List (ℕ × ℕ)) → (tally_behind from ss).bytes ≡ sum (map (λ (s : ℕ × ℕ). s.1) (drop from ss)) = λ ss. tally_of-bytes (map (λ (s : ℕ × ℕ). s.1) (drop from ss)) in
    let fresh = count_by (λ (g : Grant). g.fresh) t.granted in
    let lent = sum (map (λ (g : Grant). g.bytes) t.granted) in
    let count : then.count - last.count ≡ fresh = omega (arith, counted has, counted had, tallies.lent.count) in
    let bytes : then.bytes - last.bytes ≡ lent = omega (arith, summed has, summed had, tallies.lent.bytes) in
    let busy : c.busy + after - before ≡ live_bytes t.state = omega (arith, now, tallies.busy) in
    ap (λ n. made done refused (c.segments + n) (c.bytes + (then.bytes - last.bytes)) (c.busy + after - before) c.peak) count
    ∙ (ap (λ n. made done refused (c.segments + fresh) (c.bytes + n) (c.busy + after - before) c.peak) bytes
    ∙ ap (λ n. made done refused (c.segments + fresh) (c.bytes + lent) n c.peak) busy)

one-more : (b : Bool) (c : Counts) (n : ℕ) → counted_commands c < n → c.done + cond b 0 1 + (c.refused + cond b 1 0) < n + 1
one-more true c n below = omega (arith, below)
one-more false c n below = omega (arith, below)

-- one more command was counted
pub can-later : (c : Counts) (s : State) (t : Stepped) (line later : ℕ) → counted_commands c < line → line < later → IsInRange (counts_with_step c t) → CanCount (counts_with_step c t) (live_bytes t.state) later
can-later c s t line later before behind range =
    record { range = range; now = refl; before = omega (arith, behind, one-more (is_refusal t.reply) c line before) }

none-open : (hs : List Home) → hs ≡ [] → 0 ≡ busy_homes hs
none-open hs none = ap busy_homes (sym none)

-- before the first command, where no region is open
pub can-begin : (s : State) (line : ℕ) → s.homes ≡ [] → 1 ≤ line → CanCount nothing_counted (live_bytes s) line
can-begin s line none first =
    record {
      range = record { segments = omega arith; bytes = omega arith; busy = omega arith };
      now = none-open s.homes none;
      before = omega (arith, first);
    }
