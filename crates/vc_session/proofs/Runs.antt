-- A run with one more step.
use Rattle.vc_base.proofs.Common.{◌≡◌, ℕ, max, List, [], ◌∷◌, ◌++◌, sym, ap, ◌∙◌, append_assoc, append-nil, arith, Grant}
use Rattle.vc_counts.specs.Counts.{live_bytes}
use Rattle.vc_script.specs.declared.command.Command.{Command}
use Rattle.vc_script.specs.declared.reply.Reply.{Reply}
use Rattle.vc_script.specs.Needs.{Need, need_at}
use Rattle.vc_steps.specs.State.{State, Stepped}
use Rattle.vc_steps.specs.Step.{step}
use Rattle.vc_steps.specs.Refusals.{refusal_at}
use Rattle.vc_session.specs.Run.{Ran, run_with_step, run_from}

abbrev pub one_more : Ran → ℕ × Command → Stepped → Ran
one_more r c t =
    record {
      replies = r.replies ++ (c.0, t.reply) ∷ [];
      state = t.state;
      refusals = r.refusals ++ refusal_at r.state c.1 t.reply;
      told = r.told ++ t.told;
      granted = r.granted ++ t.granted;
      peak = max r.peak (live_bytes t.state);
    }

-- the step behind a run
abbrev pub step_after : Ran → ℕ × Command → List (ℕ × Need) → Stepped
step_after r c needs = step r.state c.0 c.1 (need_at needs c.0)

same_ran : (replies : List (ℕ × Reply)) (state : State) (refusals refusals' : List ℕ) (told told' : List (ℕ × List ℕ)) (granted granted' : List Grant) (peak peak' : ℕ) → refusals ≡ refusals' → told ≡ told' → granted ≡ granted' → peak ≡ peak' → (let a : Ran = record { replies = replies; state = state; refusals = refusals; told = told; granted = granted; peak = peak } in a) ≡ record { replies = replies; state = state; refusals = refusals'; told = told'; granted = granted'; peak = peak' }
same_ran replies state refusals refusals' told told' granted granted' peak peak' e0 e1 e2 e3 = cc

max_assoc : (a b c : ℕ) → max a (max b c) ≡ max (max a b) c
max_assoc a b c = omega arith

max_zero : (a : ℕ) → max a 0 ≡ max 0 a
max_zero a = omega arith

-- a run's first step, before and after one more at its end
ran-one_more : (s : State) (d : ℕ × Command) (t : Stepped) (r : Ran) (c : ℕ × Command) (u : Stepped) → run_with_step s d t (one_more r c u) ≡ one_more (run_with_step s d t r) c u
ran-one_more s d t r c u =
    same_ran ((d.0, t.reply) ∷ (r.replies ++ (c.0, u.reply) ∷ [])) u.state _ _ _ _ _ _ _ _
    (sym (append_assoc (refusal_at s d.1 t.reply) r.refusals (refusal_at r.state c.1 u.reply)))
    (sym (append_assoc t.told r.told u.told))
    (sym (append_assoc t.granted r.granted u.granted))
    (max_assoc (live_bytes t.state) r.peak (live_bytes u.state))

pub run-push : (s : State) (cs : List (ℕ × Command)) (needs : List (ℕ × Need)) (c : ℕ × Command) → run_from s (cs ++ c ∷ []) needs ≡ one_more (run_from s cs needs) c (step_after (run_from s cs needs) c needs)
run-push s [] needs c =
    let t = step s c.0 c.1 (need_at needs c.0) in
    same_ran ((c.0, t.reply) ∷ []) t.state _ _ _ _ _ _ _ _ (append-nil (refusal_at s c.1 t.reply)) (append-nil t.told) (append-nil t.granted) (max_zero (live_bytes t.state))
run-push s (d ∷ ds) needs c =
    let t = step s d.0 d.1 (need_at needs d.0) in
    ap (run_with_step s d t) (run-push t.state ds needs c)
    ∙ ran-one_more s d t (run_from t.state ds needs) c (step_after (run_from t.state ds needs) c needs)
