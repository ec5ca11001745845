-- The needs that a front of what is written of replies shows, at every line.
use Rattle.vc_base.proofs.Common.{◌≡◌, ℕ, ◌^◌, ◌<◌, false, cond, eqb, List, [], ◌∷◌, ◌++◌, map, sym, refl, ap, ◌∙◌, subst, inl, inr, append_assoc, append-nil, arith, eq-eqb, eqb_tells, nat_tests, flat_map, AllByRecursion}
use Rattle.vc_base.proofs.Quantifiers.{all-both, all-unmap}
use Rattle.vc_script.specs.declared.reply.Reply.{Reply}
use Rattle.vc_script.specs.ProperReply.{IsProperReply}
use Rattle.vc_script.specs.Print.{line_of, printed}
use Rattle.vc_script.specs.Lines.{ended_lines}
use Rattle.vc_script.specs.Needs.{AreAscending, Need, NoNeed, ShowsNeeds, need_at, need_shown, needs_in_turn}
use Rattle.vc_script.proofs.Heads.{need_of-printed}
use Rattle.vc_script.proofs.Newlines.{OneLine, line-printed}
use Rattle.vc_script.proofs.Texts.{needs_shown, shows-needs_shown}
use Rattle.vc_session.specs.declared.style.Style.{Style}
use Rattle.vc_session.specs.declared.style.Style.TheVariants.{Plain, Numbered, Quiet}
use Rattle.vc_session.specs.QuietText.{body_by, needs_by_text, numbered_need}
use Rattle.vc_session.proofs.ShownNeeds.{Below, HaveNumbers, ended-body, ended-line, needs-numbered, none-later, numbered-behind, numbered-one, numbers_of, other-line, shown}
use Rattle.vc_session.proofs.Fronts.{none-ended}

pub all-every : {A : Type 0} (P : A → Type 0) → ((x : A) → P x) → (xs : List A) → AllByRecursion P xs
all-every P each [] = tt
all-every P each (x ∷ xs) = (each x, all-every P each xs)

pub all-split : {A : Type 0} (P : A → Type 0) (xs ys : List A) → AllByRecursion P (xs ++ ys) → AllByRecursion P xs × AllByRecursion P ys
all-split P [] ys each = (tt, each)
all-split P (x ∷ xs) ys each = let parts = all-split P xs ys each.1 in ((each.0, parts.0), parts.1)

-- rising numbers in two parts: each of the second is behind all of the first
pub record RisingParts (xs ys : List ℕ) : Type 0 where
  pub first : AreAscending xs
  pub second : AreAscending ys
  pub behind : AllByRecursion (λ n. AllByRecursion (λ m. m < n) xs) ys

pub rising-parts : (xs ys : List ℕ) → AreAscending (xs ++ ys) → RisingParts xs ys
rising-parts [] ys rising = record { first = tt; second = rising; behind = all-every (λ n. AllByRecursion (λ m. m < n) []) (λ n. tt) ys }
rising-parts (x ∷ xs) ys rising =
    let above = all-split (λ m. x < m) xs ys rising.0 in
    let rest = rising-parts xs ys rising.1 in
    record {
      first = (above.0, rest.first);
      second = rest.second;
      behind = all-both (λ n. x < n) (λ n. AllByRecursion (λ m. m < n) xs) (λ n. AllByRecursion (λ m. m < n) (x ∷ xs)) ys (λ n one all. (one, all)) above.1 rest.behind;
    }

-- behind their lines replies show no need
need-behind : (n : ℕ) (rs : List (ℕ × Reply)) → AllByRecursion (λ m. m < n) (numbers_of rs) → need_at (needs_shown rs) n ≡ NoNeed
need-behind n [] below = refl
need-behind n (r ∷ rs) below =
    let other : eqb r.0 n ≡ false = grind (arith, nat_tests, below.0) in
    ap (λ t. cond t (need_shown r.1) (need_at (needs_shown rs) n)) other ∙ need-behind n rs below.1

-- the lines of replies tell of every number what their needs say
numbered-shown : (style : Style) (n : ℕ) (rs : List (ℕ × Reply)) → AllByRecursion (λ r. IsProperReply r.1) rs → n < 2 ^ 64 → Below rs → AreAscending (numbers_of rs) → numbered_need (flat_map (shown style) rs) n ≡ need_at (needs_shown rs) n
numbered-shown style n [] proper below_n below rising = refl
numbered-shown style n (r ∷ rs) proper below_n below rising =
    elim (eqb_tells r.0 n) [
      | inl same ↦
          ap (λ k. numbered_need (flat_map (shown style) (r ∷ rs)) k) (sym same.1)
          ∙ (numbered-one style r.0 r.1 (flat_map (shown style) rs) proper.0 (none-later style r.0 rs below.0 below.1 rising.0)
          ∙ sym (ap (λ t. cond t (need_shown r.1) (need_at (needs_shown rs) n)) same.0))
      | inr other ↦
          numbered-behind n (shown style r) (flat_map (shown style) rs) (other-line style r.0 n r.1 below.0 below_n other.1)
          ∙ (numbered-shown style n rs proper.1 below_n below.1 rising.1
          ∙ sym (ap (λ t. cond t (need_shown r.1) (need_at (needs_shown rs) n)) other.0))
    ]

-- a need for each line, at one of them
told-at : (f : ℕ → Need) (front : List ℕ) (n : ℕ) (ns : List ℕ) → need_at (map (λ m. (m, f m)) (front ++ n ∷ ns)) n ≡ f n
told-at f [] n ns = ap (λ t. cond t (f n) (need_at (map (λ m. (m, f m)) ns) n)) (eq-eqb n n refl)
told-at f (m ∷ ms) n ns =
    elim (eqb_tells m n) [
      | inl same ↦ ap (λ t. cond t (f m) (need_at (map (λ k. (k, f k)) (ms ++ n ∷ ns)) n)) same.0 ∙ ap f same.1
      | inr other ↦ ap (λ t. cond t (f m) (need_at (map (λ k. (k, f k)) (ms ++ n ∷ ns)) n)) other.0 ∙ told-at f ms n ns
    ]

told-each : (f : ℕ → Need) (front ns : List ℕ) → AllByRecursion (λ n. need_at (map (λ m. (m, f m)) (front ++ ns)) n ≡ f n) ns
told-each f front [] = tt
told-each f front (n ∷ ns) = (
  told-at f front n ns,
  subst (λ ls. AllByRecursion (λ k. need_at (map (λ m. (m, f m)) ls) k ≡ f k) ns) (append_assoc front (n ∷ []) ns) (told-each f (front ++ n ∷ []) ns),
)

in-turn-none : (lines : List ℕ) → needs_in_turn lines [] ≡ []
in-turn-none [] = refl
in-turn-none (n ∷ ns) = refl

-- the k-th line of a front belongs to the k-th command, whatever commands are behind those
plain-shown : (rs : List (ℕ × Reply)) (more : List ℕ) (part : List ℕ) → AllByRecursion (λ r. IsProperReply r.1) rs → OneLine part → needs_by_text Plain (numbers_of rs ++ more) (body_by Plain rs ++ part) ≡ needs_shown rs
plain-shown [] more part proper one = ap (needs_in_turn more) (none-ended [] part one) ∙ in-turn-none more
plain-shown (r ∷ rs) more part proper one =
    let rest = body_by Plain rs ++ part in
    ap (λ ls. needs_in_turn (r.0 ∷ (numbers_of rs ++ more)) ls)
    (ap ended_lines (append_assoc (line_of r.1) (body_by Plain rs) part) ∙ ended-line (printed r.1) rest (line-printed r.1 proper.0))
    ∙ (ap (λ need. (r.0, need) ∷ needs_in_turn (numbers_of rs ++ more) (ended_lines rest)) (need_of-printed r.1 proper.0)
    ∙ ap (λ needs. (r.0, need_shown r.1) ∷ needs) (plain-shown rs more part proper.1 one))

-- so does one with numbers in front
front-numbered : (style : Style) → HaveNumbers style → (whole : List (ℕ × Reply)) (part more : List ℕ) → AllByRecursion (λ n. n < 2 ^ 64) (numbers_of whole ++ more) → AreAscending (numbers_of whole) → AllByRecursion (λ r. IsProperReply r.1) whole → OneLine part → AllByRecursion (λ n. need_at (needs_by_text style (numbers_of whole ++ more) (body_by style whole ++ part)) n ≡ need_at (needs_shown whole) n) (numbers_of whole ++ more)
front-numbered style has whole part more below rising proper one =
    let told : ℕ → Need = λ n. numbered_need (ended_lines (body_by style whole ++ part)) n in
    let is : ended_lines (body_by style whole ++ part) ≡ flat_map (shown style) whole =
    ended-body style has whole part proper ∙ (ap (λ ls. flat_map (shown style) whole ++ ls) (none-ended [] part one) ∙ append-nil (flat_map (shown style) whole)) in
    subst (λ needs. AllByRecursion (λ n. need_at needs n ≡ need_at (needs_shown whole) n) (numbers_of whole ++ more)) (sym (needs-numbered style has (numbers_of whole ++ more) (body_by style whole ++ part)))
    (let below_whole = (all-split (λ n. n < 2 ^ 64) (numbers_of whole) more below).0 in
    all-both (λ n. need_at (map (λ m. (m, told m)) (numbers_of whole ++ more)) n ≡ told n) (λ n. n < 2 ^ 64) (λ n. need_at (map (λ m. (m, told m)) (numbers_of whole ++ more)) n ≡ need_at (needs_shown whole) n) (numbers_of whole ++ more)
    (λ n at below_n. at ∙ (ap (λ ls. numbered_need ls n) is ∙ numbered-shown style n whole proper below_n below_whole rising))
    (told-each told [] (numbers_of whole ++ more)) below)

-- a front shows at each line what the needs of its whole replies say
shows-front : (style : Style) (whole : List (ℕ × Reply)) (part more : List ℕ) → AllByRecursion (λ n. n < 2 ^ 64) (numbers_of whole ++ more) → AreAscending (numbers_of whole) → AllByRecursion (λ r. IsProperReply r.1) whole → OneLine part → AllByRecursion (λ n. need_at (needs_by_text style (numbers_of whole ++ more) (body_by style whole ++ part)) n ≡ need_at (needs_shown whole) n) (numbers_of whole ++ more)
shows-front Plain whole part more below rising proper one =
    all-every _ (λ n. ap (λ needs. need_at needs n) (plain-shown whole more part proper one)) (numbers_of whole ++ more)
shows-front Numbered whole part more below rising proper one = front-numbered Numbered tt whole part more below rising proper one
shows-front Quiet whole part more below rising proper one = front-numbered Quiet tt whole part more below rising proper one

-- a front of what is written of replies shows the needs of the whole ones, and none at a line behind them
pub record ShowsFront (needs : List (ℕ × Need)) (replies : List (ℕ × Reply)) (more : List ℕ) : Type 0 where
  pub shows : ShowsNeeds needs replies
  pub none : AllByRecursion (λ n. need_at needs n ≡ NoNeed) more

pub front-shows : (style : Style) (whole : List (ℕ × Reply)) (part more : List ℕ) → AllByRecursion (λ n. n < 2 ^ 64) (numbers_of whole ++ more) → AreAscending (numbers_of whole ++ more) → AllByRecursion (λ r. IsProperReply r.1) whole → OneLine part → ShowsFront (needs_by_text style (numbers_of whole ++ more) (body_by style whole ++ part)) whole more
front-shows style whole part more below rising proper one =
    let needs = needs_by_text style (numbers_of whole ++ more) (body_by style whole ++ part) in
    let parts = rising-parts (numbers_of whole) more rising in
    let agree = all-split (λ n. need_at needs n ≡ need_at (needs_shown whole) n) (numbers_of whole) more (shows-front style whole part more below parts.first proper one) in
    record {
      shows =
          all-both (λ r. need_at needs r.0 ≡ need_at (needs_shown whole) r.0) (λ r. need_at (needs_shown whole) r.0 ≡ need_shown r.1) (λ r. need_at needs r.0 ≡ need_shown r.1) whole (λ r one other. one ∙ other)
          (all-unmap (λ n. need_at needs n ≡ need_at (needs_shown whole) n) (λ r. r.0) whole agree.0) (shows-needs_shown whole parts.first);
      none =
          all-both (λ n. need_at needs n ≡ need_at (needs_shown whole) n) (λ n. AllByRecursion (λ m. m < n) (numbers_of whole)) (λ n. need_at needs n ≡ NoNeed) more (λ n one all. one ∙ need-behind n whole all) agree.1 parts.behind;
    }
