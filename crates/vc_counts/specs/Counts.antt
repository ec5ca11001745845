-- What a quiet run counts.
use Rattle.std.specs.Prelude.{ℕ, ◌+◌, count_by, map, max, sum, if◌then◌else◌}
use Rattle.vc_region.specs.Stat.{stat_of}
use Rattle.vc_script.specs.Needs.{is_refusal}
use Rattle.vc_steps.specs.State.{State, Stepped}
use Rattle.vc_counts.specs.declared.counts.Counts.{Counts}

-- the bytes of all blocks of all regions
abbrev pub live_bytes : State → ℕ
live_bytes s = sum (map (λ h. (stat_of h.region).sbusy) s.homes)

-- no command was run, over no region
abbrev pub nothing_counted : Counts
nothing_counted = record { done = 0; refused = 0; segments = 0; bytes = 0; busy = 0; peak = 0 }

-- with one more step
abbrev pub counts_with_step : Counts → Stepped → Counts
counts_with_step c t =
    record {
      done = c.done + (if is_refusal t.reply then 0 else 1);
      refused = c.refused + (if is_refusal t.reply then 1 else 0);
      segments = c.segments + count_by (λ g. g.fresh) t.granted;
      bytes = c.bytes + sum (map (λ g. g.bytes) t.granted);
      busy = live_bytes t.state;
      peak = max c.peak (live_bytes t.state);
    }
