-- The run of the first commands of a run.
use Rattle.vc_base.proofs.Common.{◌≡◌, ℕ, ◌≤◌, cond, eqb, ◌==◌, List, [], ◌∷◌, ◌++◌, length, count_by, sym, refl, ap, ap₂, ◌∙◌, subst, append_assoc, arith, length-map, sum_by-append, AllByRecursion}
use Rattle.vc_base.proofs.Quantifiers.{all-both, all-map}
use Rattle.vc_script.specs.declared.command.Command.{Command}
use Rattle.vc_steps.specs.Moment.{Moment}
use Rattle.vc_script.specs.declared.reply.Reply.{Reply}
use Rattle.vc_steps.specs.State.{State}
use Rattle.vc_steps.specs.Refusals.{refusal_at}
use Rattle.vc_script.specs.Needs.{AreAscending, Need, ShowsNeeds, need_at, need_shown}
use Rattle.vc_script.proofs.Texts.{needs_shown, shows-needs_shown}
use Rattle.vc_steps.specs.Step.{step}
use Rattle.vc_session.specs.Far.{RanFar}
use Rattle.vc_session.specs.declared.style.Style.{Style}
use Rattle.vc_session.specs.Run.{lines_of, run_from, run_with_step}
use Rattle.vc_session.proofs.FrontNeeds.{all-split}
use Rattle.vc_session.proofs.ShownNeeds.{numbers_of}

-- runs for needs that agree at their lines
run-same : (s : State) (cs : List (ℕ × Command)) (needs needs' : List (ℕ × Need)) → AllByRecursion (λ n. need_at needs n ≡ need_at needs' n) (lines_of cs) → run_from s cs needs ≡ run_from s cs needs'
run-same s [] needs needs' each = refl
run-same s (c ∷ cs) needs needs' each =
    let t = step s c.0 c.1 (need_at needs c.0) in
    ap (run_with_step s c t) (run-same t.state cs needs needs' each.1)
    ∙ ap (λ need. run_with_step s c (step s c.0 c.1 need) (run_from (step s c.0 c.1 need).state cs needs')) each.0

-- a run in two parts
pub replies-append : (s : State) (cs ds : List (ℕ × Command)) (needs : List (ℕ × Need)) → (run_from s (cs ++ ds) needs).replies ≡ (run_from s cs needs).replies ++ (run_from (run_from s cs needs).state ds needs).replies
replies-append s [] ds needs = refl
replies-append s (c ∷ cs) ds needs =
    let t = step s c.0 c.1 (need_at needs c.0) in
    ap (λ rs. (c.0, t.reply) ∷ rs) (replies-append t.state cs ds needs)

refusals-append : (s : State) (cs ds : List (ℕ × Command)) (needs : List (ℕ × Need)) → (run_from s (cs ++ ds) needs).refusals ≡ (run_from s cs needs).refusals ++ (run_from (run_from s cs needs).state ds needs).refusals
refusals-append s [] ds needs = refl
refusals-append s (c ∷ cs) ds needs =
    let t = step s c.0 c.1 (need_at needs c.0) in
    ap (λ rs. refusal_at s c.1 t.reply ++ rs) (refusals-append t.state cs ds needs)
    ∙ sym (append_assoc (refusal_at s c.1 t.reply) (run_from t.state cs needs).refusals (run_from (run_from t.state cs needs).state ds needs).refusals)

pub length-replies : (s : State) (cs : List (ℕ × Command)) (needs : List (ℕ × Need)) → length (run_from s cs needs).replies ≡ length cs
length-replies s [] needs = refl
length-replies s (c ∷ cs) needs =
    let t = step s c.0 c.1 (need_at needs c.0) in
    omega (arith, length-replies t.state cs needs)

first-same : {A : Type 0} (xs ys us vs : List A) → length xs ≡ length ys → xs ++ us ≡ ys ++ vs → xs ≡ ys
first-same [] [] us vs long same = refl
first-same [] (y ∷ ys) us vs long same = absurd (omega (arith, long))
first-same (x ∷ xs) [] us vs long same = absurd (omega (arith, long))
first-same (x ∷ xs) (y ∷ ys) us vs long same =
    let head : x ≡ y = cc in
    let tails : xs ++ us ≡ ys ++ vs = cc in
    ap₂ (λ z zs. z ∷ zs) head (first-same xs ys us vs (omega (arith, long)) tails)

-- commands by the parts of their lines
pub record LineParts (cs : List (ℕ × Command)) (xs ys : List ℕ) : Type 0 where
  pub first : List (ℕ × Command)
  pub second : List (ℕ × Command)
  pub split : cs ≡ first ++ second
  pub lines_first : lines_of first ≡ xs
  pub lines_second : lines_of second ≡ ys

pub line-parts : (cs : List (ℕ × Command)) (xs ys : List ℕ) → lines_of cs ≡ xs ++ ys → LineParts cs xs ys
line-parts cs [] ys same = record { first = []; second = cs; split = refl; lines_first = refl; lines_second = same }
line-parts [] (x ∷ xs) ys same = absurd cc
line-parts (c ∷ cs) (x ∷ xs) ys same =
    let head : c.0 ≡ x = cc in
    let tails : lines_of cs ≡ xs ++ ys = cc in
    let rest = line-parts cs xs ys tails in
    record {
      first = c ∷ rest.first;
      second = rest.second;
      split = ap (λ ds. c ∷ ds) rest.split;
      lines_first = ap₂ (λ z zs. z ∷ zs) head rest.lines_first;
      lines_second = rest.lines_second;
    }

-- needs that show the first replies alone give the first commands these replies, and no refusal more
pub record FirstRan (s : State) (cs : List (ℕ × Command)) (needs : List (ℕ × Need)) (whole : List (ℕ × Reply)) (refusals : List ℕ) : Type 0 where
  pub replies : (run_from s cs needs).replies ≡ whole
  pub refused : (place : ℕ) → count_by (λ p. p == place) (run_from s cs needs).refusals ≤ count_by (λ p. p == place) refusals

module _ {style : Style} {start now : Moment} {text : List ℕ} {done : List (ℕ × Command)} (f : RanFar style start now text done) (rising : AreAscending (lines_of done)) (cs ds : List (ℕ × Command)) (whole others : List (ℕ × Reply)) (split : done ≡ cs ++ ds) (parts : f.ran.replies ≡ whole ++ others) (lines : lines_of cs ≡ numbers_of whole) (needs : List (ℕ × Need)) (shows : ShowsNeeds needs whole) where
  abbrev all : List (ℕ × Need)
  all = needs_shown f.ran.replies

  shows_all : ShowsNeeds all f.ran.replies
  shows_all = shows-needs_shown f.ran.replies (subst AreAscending f.lines rising)

  shows_first : ShowsNeeds all whole
  shows_first = (all-split (λ r. need_at all r.0 ≡ need_shown r.1) whole others (subst (ShowsNeeds all) parts shows_all)).0

  ran : run_from start.state (cs ++ ds) all ≡ f.ran
  ran = subst (λ es. run_from start.state es all ≡ f.ran) split (f.run all shows_all)

  same : run_from start.state cs needs ≡ run_from start.state cs all
  same =
      run-same start.state cs needs all
      (subst (AllByRecursion (λ n. need_at needs n ≡ need_at all n)) (sym lines)
      (all-map (λ n. need_at needs n ≡ need_at all n) (λ r. r.0) whole
      (all-both (λ r. need_at needs r.0 ≡ need_shown r.1) (λ r. need_at all r.0 ≡ need_shown r.1) (λ r. need_at needs r.0 ≡ need_at all r.0) whole (λ r one other. one ∙ sym other) shows shows_first)))

  long : length cs ≡ length whole
  long = sym (length-map cs (λ (c : ℕ × Command). c.0)) ∙ (ap length lines ∙ length-map whole (λ (r : ℕ × Reply). r.0))

  replied : (run_from start.state cs all).replies ≡ whole
  replied =
      first-same (run_from start.state cs all).replies whole (run_from (run_from start.state cs all).state ds all).replies others (length-replies start.state cs all ∙ long)
      (sym (replies-append start.state cs ds all) ∙ (ap (λ r. r.replies) ran ∙ parts))

  few : (place : ℕ) → count_by (λ p. p == place) (run_from start.state cs all).refusals ≤ count_by (λ p. p == place) f.ran.refusals
  few place =
      let first = (run_from start.state cs all).refusals in
      let rest = (run_from (run_from start.state cs all).state ds all).refusals in
      let is : f.ran.refusals ≡ first ++ rest = sym (ap (λ r. r.refusals) ran) ∙ refusals-append start.state cs ds all in
      omega (arith, ap (λ ps. count_by (λ p. p == place) ps) is, sum_by-append (λ p. cond (eqb p place) 1 0) first rest)

  pub first-ran : FirstRan start.state cs needs whole f.ran.refusals
  first-ran = record {
    replies = ap (λ r. r.replies) same ∙ replied;
    refused = λ place. subst (λ r. count_by (λ p. p == place) r.refusals ≤ count_by (λ p. p == place) f.ran.refusals) (sym same) (few place);
  }
