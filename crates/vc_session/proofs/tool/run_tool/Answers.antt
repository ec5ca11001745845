use Rattle.vc_base.proofs.Common.{map, string_bytes, sym, refl, inl, inr, rules}
use Rattle.vc_session.proofs.WholeCuts.{cuts-untouched}
use Rattle.vc_session.proofs.StatusDue.{completes-memory}
use Rattle.vc_session.proofs.ToolPromises.{promises-taken}
use Rattle.vc_session.proofs.Ranges.{in_range}
use Rattle.vc_session.proofs.tool.run_tool.Goals as goal

pub invariant_of-asked : goal.invariant_of-asked
invariant_of-asked g c = record { in_range = in_range (map string_bytes c.args.words.now) c.in-Ok-Some.words (rw c.in-Ok-Some.field-0-is at c.in-Ok-Some.ensures) }

pub returns-in-Ok-Some-clause-promises : goal.returns-in-Ok-Some-clause-promises
returns-in-Ok-Some-clause-promises g c =
    promises-taken (sym (rw c.in-Ok-Some.field-0-is at c.in-Ok-Some.ensures)) c.run_words.ensures.promises

pub returns-in-Err-clause-promises : goal.returns-in-Err-clause-promises
returns-in-Err-clause-promises g c = record {
  headline = record {
    ok = λ other. absurd (cc other);
    script = λ other. absurd (cc other);
    words_refused = λ none. inr (inl refl);
    usage = λ other. absurd (cc other);
    read = λ other. absurd (cc other);
    cut_short = λ other. absurd (cc other);
    write = λ other. absurd (cc other);
    memory = search rules;
    cut = λ is. cuts-untouched _ _ (λ w is. in_range (map string_bytes c.args.words.now) w (sym is)) _ _;
    not_ahead = λ other. absurd (cc other);
    reads = search rules;
    writes = search rules;
    keeps = search rules;
    rules = refl;
  };
  completes = completes-memory _ _ _ _;
  quiet = λ other. absurd (cc other);
  refused_words = λ none. (refl, refl, refl, refl);
  generated = λ some. refl;
}
