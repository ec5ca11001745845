-- Where a front of what is written of replies ends, and the lines of a front.
use Rattle.vc_base.proofs.Common.{◌≡◌, ℕ, ◌<◌, ◌≤◌, ◌⊎◌, Bool, true, false, cond, eqb, List, [], ◌∷◌, ◌++◌, length, decimal, sym, refl, ap, ap₂, ◌∙◌, subst, inl, inr, append_assoc, arith, length-append, and_from, and_parts, not-true, or_parts, list_any-append, bytes_eq, AllByRecursion, list_all}
use Rattle.vc_script.specs.declared.reply.Reply.{Reply}
use Rattle.vc_script.specs.ProperReply.{IsProperReply}
use Rattle.vc_script.specs.Print.{printed}
use Rattle.vc_script.specs.Lines.{ended_after, ended_lines}
use Rattle.vc_script.specs.Needs.{Need, NoNeed, need_shown}
use Rattle.vc_script.proofs.Newlines.{OneLine, line-printed, stays}
use Rattle.vc_session.specs.declared.style.Style.{Style}
use Rattle.vc_session.specs.declared.style.Style.TheVariants.{Plain, Numbered, Quiet}
use Rattle.vc_session.specs.QuietText.{body_by, has_line, line_by, numbered_line, style_by}
use Rattle.vc_session.proofs.ShownNeeds.{NoLine, line-numbered, regroup}

-- a list that two pieces are put together from, in two ways: the first piece of the one is a front of that of the other
fronts : (xs ys text behind : List ℕ) → xs ++ ys ≡ text ++ behind → ((more : List ℕ) × (text ≡ xs ++ more) × (ys ≡ more ++ behind)) ⊎ ((b : ℕ) × (more : List ℕ) × (xs ≡ text ++ b ∷ more))
fronts [] ys text behind same = inl (text, refl, same)
fronts (x ∷ xs) ys [] behind same = inr (x, xs, refl)
fronts (x ∷ xs) ys (t ∷ ts) behind same =
    let head : x ≡ t = cc in
    let tails : xs ++ ys ≡ ts ++ behind = cc in
    elim (fronts xs ys ts behind tails) [
      | inl b ↦ inl (b.0, ap₂ (λ y ys. y ∷ ys) (sym head) b.1, b.2)
      | inr w ↦ inr (w.0, w.1, ap₂ (λ y ys. y ∷ ys) head w.2)
    ]

none-before : (xs ys : List ℕ) (b : ℕ) → [] ≡ xs ++ b ∷ ys → ⊥
none-before xs ys b same = omega (arith, ap length same, length-append xs (b ∷ ys))

-- before its newline a line has none
front-one_line : (part xs more : List ℕ) (b : ℕ) → OneLine xs → xs ++ 10 ∷ [] ≡ part ++ b ∷ more → OneLine part
front-one_line [] xs more b each same = refl
front-one_line (p ∷ ps) [] more b each same =
    let tails : [] ≡ ps ++ b ∷ more = cc in
    absurd (none-before ps more b tails)
front-one_line (p ∷ ps) (x ∷ xs) more b each same =
    let head : x ≡ p = cc in
    let tails : xs ++ 10 ∷ [] ≡ ps ++ b ∷ more = cc in
    let parts = and_parts (stays x) (list_all stays xs) each in
    and_from (stays p) (list_all stays ps) (ap stays (sym head) ∙ parts.0) (front-one_line ps xs more b parts.1 tails)

-- a piece is one line with its newline, or empty
abbrev IsLine : List ℕ → Type 0
IsLine piece = (piece ≡ []) ⊎ ((xs : List ℕ) × (piece ≡ xs ++ 10 ∷ []) × OneLine xs)

numbered-is : (n : ℕ) (r : Reply) (need : Need) → IsProperReply r → IsLine (numbered_line n r need)
numbered-is n r NoNeed proper = inl refl
numbered-is n r need proper = inr (decimal n ++ 32 ∷ printed r, regroup (decimal n) (printed r), line-numbered n r proper)

-- what is written of a reply is such a one
line-is : (style : Style) (r : ℕ × Reply) → IsProperReply r.1 → IsLine (line_by style r)
line-is Plain r proper = inr (printed r.1, refl, line-printed r.1 proper)
line-is Numbered r proper = inr (decimal r.0 ++ 32 ∷ printed r.1, regroup (decimal r.0) (printed r.1), line-numbered r.0 r.1 proper)
line-is Quiet r proper = numbered-is r.0 r.1 (need_shown r.1) proper

within-one_line : (style : Style) (r : ℕ × Reply) (part more : List ℕ) (b : ℕ) → IsProperReply r.1 → line_by style r ≡ part ++ b ∷ more → OneLine part
within-one_line style r part more b proper same =
    elim (line-is style r proper) [
      | inl none ↦ absurd (none-before part more b (sym none ∙ same))
      | inr line ↦ front-one_line part line.0 more b line.2 (sym line.1 ∙ same)
    ]

-- a part of what is written of the first of these
abbrev pub IsPartOf : Style → List ℕ → List (ℕ × Reply) → Type 0
IsPartOf style part [] = part ≡ []
IsPartOf style part (r ∷ rs) = (rest : List ℕ) × (line_by style r ≡ part ++ rest)

-- a text is what is written of the first of these replies, and a part of the next without a newline
pub record EndsAmong (style : Style) (replies : List (ℕ × Reply)) (text : List ℕ) : Type 0 where
  pub whole : List (ℕ × Reply)
  pub others : List (ℕ × Reply)
  pub part : List ℕ
  pub split : replies ≡ whole ++ others
  pub is : text ≡ body_by style whole ++ part
  pub one_line : OneLine part
  pub begun : IsPartOf style part others

-- as any front does of what is written of them
pub ends-among : (style : Style) (rs : List (ℕ × Reply)) (text behind : List ℕ) → AllByRecursion (λ r. IsProperReply r.1) rs → body_by style rs ≡ text ++ behind → EndsAmong style rs text
ends-among style [] [] behind proper same = record { whole = []; others = []; part = []; split = refl; is = refl; one_line = refl; begun = refl }
ends-among style [] (t ∷ ts) behind proper same = absurd cc
ends-among style (r ∷ rs) text behind proper same =
    elim (fronts (line_by style r) (body_by style rs) text behind same) [
      | inl b ↦ one-more r b.0 b.1 (ends-among style rs b.0 behind proper.1 b.2)
      | inr w ↦ record { whole = []; others = r ∷ rs; part = text; split = refl; is = refl; one_line = within-one_line style r text w.1 w.0 proper.0 w.2; begun = (w.0 ∷ w.1, w.2) }
    ] where
      one-more : {text : List ℕ} {rs : List (ℕ × Reply)} (r : ℕ × Reply) (more : List ℕ) → text ≡ line_by style r ++ more → EndsAmong style rs more → EndsAmong style (r ∷ rs) text
      one-more r more is e = record {
        whole = r ∷ e.whole;
        others = e.others;
        part = e.part;
        split = ap (λ qs. r ∷ qs) e.split;
        is = is ∙ (ap (λ xs. line_by style r ++ xs) e.is ∙ sym (append_assoc (line_by style r) (body_by style e.whole) e.part));
        one_line = e.one_line;
        begun = e.begun;
      }

-- a part of a line is no line
pub none-ended : (begun part : List ℕ) → OneLine part → ended_after begun part ≡ []
none-ended begun [] each = refl
none-ended begun (p ∷ ps) each =
    let parts = and_parts (stays p) (list_all stays ps) each in
    ap (λ t. cond t (begun ∷ ended_after [] ps) (ended_after (begun ++ p ∷ []) ps)) (not-true (eqb p 10) parts.0) ∙ none-ended (begun ++ p ∷ []) ps parts.1

-- a newline ends a line more
ended-more : (begun xs rest : List ℕ) → length (ended_lines rest) < length (ended_after begun (xs ++ 10 ∷ rest))
ended-more begun [] rest = omega arith
ended-more begun (x ∷ xs) rest =
    elim (eqb x 10) as (λ t. length (ended_lines rest) < length (cond t (begun ∷ ended_after [] (xs ++ 10 ∷ rest)) (ended_after (begun ++ x ∷ []) (xs ++ 10 ∷ rest)))) [
      | true ↦ omega (arith, ended-more [] xs rest)
      | false ↦ ended-more (begun ++ x ∷ []) xs rest
    ]

-- what is written of a reply in a run that isn't quiet is a line
one-line : (second : Bool) (r : ℕ × Reply) → (xs : List ℕ) × (line_by (style_by false second) r ≡ xs ++ 10 ∷ [])
one-line false r = (printed r.1, refl)
one-line true r = (decimal r.0 ++ 32 ∷ printed r.1, regroup (decimal r.0) (printed r.1))

-- a text that begins with the lines of replies has as many whole lines, or more
pub ended-least : (second : Bool) (rs : List (ℕ × Reply)) (tail : List ℕ) → length rs ≤ length (ended_lines (body_by (style_by false second) rs ++ tail))
ended-least second [] tail = omega arith
ended-least second (r ∷ rs) tail =
    let style : Style = style_by false second in
    let line = one-line second r in
    let rest : List ℕ = body_by style rs ++ tail in
    let is : body_by style (r ∷ rs) ++ tail ≡ line.0 ++ 10 ∷ rest =
    append_assoc (line_by style r) (body_by style rs) tail ∙ (ap (λ xs. xs ++ rest) line.1 ∙ append_assoc line.0 (10 ∷ []) rest) in
    subst (λ xs. length (r ∷ rs) ≤ length (ended_lines xs)) (sym is) (omega (arith, ended-least second rs tail, ended-more [] line.0 rest))

-- the lines of a front are the first ones
ended-front : (begun xs ys : List ℕ) → (more : List (List ℕ)) × (ended_after begun (xs ++ ys) ≡ ended_after begun xs ++ more)
ended-front begun [] ys = (ended_after begun ys, refl)
ended-front begun (x ∷ xs) ys =
    elim (eqb x 10) as (λ t. (more : List (List ℕ)) × (cond t (begun ∷ ended_after [] (xs ++ ys)) (ended_after (begun ++ x ∷ []) (xs ++ ys)) ≡ cond t (begun ∷ ended_after [] xs) (ended_after (begun ++ x ∷ []) xs) ++ more)) [
      | true ↦ let front = ended-front [] xs ys in (front.0, ap (λ ls. begun ∷ ls) front.1)
      | false ↦ ended-front (begun ++ x ∷ []) xs ys
    ]

-- no line of a front has a number where none of the text has
pub none-front : (n : ℕ) (xs ys : List ℕ) → NoLine n (ended_lines (xs ++ ys)) → NoLine n (ended_lines xs)
none-front n xs ys none text =
    let front = ended-front [] xs ys in
    (or_parts (has_line n (32 ∷ text) (ended_lines xs)) (has_line n (32 ∷ text) front.0)
    (sym (list_any-append (λ line. bytes_eq line (decimal n ++ 32 ∷ text)) (ended_lines xs) front.0) ∙ (ap (has_line n (32 ∷ text)) (sym front.1) ∙ none text))).0
