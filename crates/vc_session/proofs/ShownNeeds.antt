-- The needs that a text shows, whatever is behind it; of one with numbers in front of its lines, whatever lines without one.
use Rattle.vc_base.proofs.Common.{◌≡◌, ℕ, ◌^◌, ◌<◌, Bool, true, false, cond, ◌||◌, eqb, ◌≢◌, List, [], ◌∷◌, ◌++◌, map, length, codes, decimal, flat_map, bytes_eq, sym, refl, ap, ◌∙◌, subst, append_assoc, arith, and_parts, false_from_ne_true, false≢true, list_any-append, bytes_eq-Decides, AllByRecursion, list_all}
use Rattle.std.proofs.lemmas.Fmt.{decimal_injective, decimal_nonempty}
use Rattle.vc_script.specs.declared.refusal.Refusal.TheVariants.{NoSegment, NoSegmentForTable, NoSegmentForObject}
use Rattle.vc_script.specs.declared.reply.Reply.{Reply}
use Rattle.vc_script.specs.declared.reply.Reply.TheVariants.{Number, Refused}
use Rattle.vc_script.specs.Lines.{ended_lines}
use Rattle.vc_script.specs.Needs as needs
use Rattle.vc_script.specs.Needs.{AreAscending, Need, NoNeed, ForBlock, ForTable, ForObject, ShowsNeeds, need_shown}
use Rattle.vc_script.specs.Print.{line_of, printed}
use Rattle.vc_script.specs.ProperReply.{IsProperReply}
use Rattle.vc_script.specs.Words.{is_digit}
use Rattle.vc_script.proofs.Heads.{need_of-printed}
use Rattle.vc_script.proofs.Newlines.{OneLine, list_all-decimal, line-printed, line-both}
use Rattle.vc_script.proofs.Texts.{needs_shown, shows-needs_shown, ended_after-whole}
use Rattle.vc_session.specs.declared.style.Style.{Style}
use Rattle.vc_session.specs.declared.style.Style.TheVariants.{Plain, Numbered, Quiet}
use Rattle.vc_session.specs.QuietText.{body_by, has_line, line_by, needs_by_text, numbered_line, numbered_need}

-- a line is cut where the newline behind it stands
pub ended-line : (xs rest : List ℕ) → OneLine xs → ended_lines ((xs ++ 10 ∷ []) ++ rest) ≡ xs ∷ ended_lines rest
ended-line xs rest each = ap ended_lines (append_assoc xs (10 ∷ []) rest) ∙ ended_after-whole [] xs rest each

-- what stands before a space, where no space is in it
cut-space : (ds es xs ys : List ℕ) → list_all is_digit ds ≡ true → list_all is_digit es ≡ true → ds ++ 32 ∷ xs ≡ es ++ 32 ∷ ys → ds ≡ es
cut-space [] [] xs ys first second same = refl
cut-space [] (e ∷ es) xs ys first second same =
    let head : 32 ≡ e = cc in
    absurd (false≢true (ap is_digit head ∙ (and_parts (is_digit e) (list_all is_digit es) second).0))
cut-space (d ∷ ds) [] xs ys first second same =
    let head : 32 ≡ d = cc in
    absurd (false≢true (ap is_digit head ∙ (and_parts (is_digit d) (list_all is_digit ds) first).0))
cut-space (d ∷ ds) (e ∷ es) xs ys first second same =
    let tails : ds ++ 32 ∷ xs ≡ es ++ 32 ∷ ys = cc in
    let rest : ds ≡ es = cut-space ds es xs ys (and_parts (is_digit d) (list_all is_digit ds) first).1 (and_parts (is_digit e) (list_all is_digit es) second).1 tails in
    cc

-- none of these lines is this number, a space and a text
abbrev pub NoLine : ℕ → List (List ℕ) → Type 0
NoLine n printed = (xs : List ℕ) → has_line n (32 ∷ xs) printed ≡ false

differs : (xs ys : List ℕ) → xs ≢ ys → bytes_eq xs ys ≡ false
differs xs ys other = false_from_ne_true (bytes_eq xs ys) (λ same. other ((bytes_eq-Decides xs ys).0 same))

other-number : (m n : ℕ) (ys : List ℕ) → m < 2 ^ 64 → n < 2 ^ 64 → m ≢ n → NoLine n ((decimal m ++ 32 ∷ ys) ∷ [])
other-number m n ys below_m below_n other xs =
    ap (λ t. t || false) (differs (decimal m ++ 32 ∷ ys) (decimal n ++ 32 ∷ xs) (λ same. other (decimal_injective m n below_m below_n (cut-space (decimal m) (decimal n) ys xs (list_all-decimal m) (list_all-decimal n) same))))

first-digit : (b : ℕ) (ds xs ys : List ℕ) → is_digit b ≡ false → list_all is_digit ds ≡ true → 0 < length ds → b ∷ ys ≢ ds ++ xs
first-digit b [] xs ys letter digits some same = absurd (omega (arith, some))
first-digit b (d ∷ ds) xs ys letter digits some same =
    let head : b ≡ d = cc in
    false≢true (sym letter ∙ (ap is_digit head ∙ (and_parts (is_digit d) (list_all is_digit ds) digits).0))

-- a line that begins with another byte than a digit
no-number : (b n : ℕ) (ys : List ℕ) → is_digit b ≡ false → n < 2 ^ 64 → NoLine n ((b ∷ ys) ∷ [])
no-number b n ys letter below xs =
    ap (λ t. t || false) (differs (b ∷ ys) (decimal n ++ 32 ∷ xs) (first-digit b (decimal n) (32 ∷ xs) ys letter (list_all-decimal n) (decimal_nonempty n below)))

-- none of the lines before and none of those behind
both-none : (n : ℕ) (first second : List (List ℕ)) → NoLine n first → NoLine n second → NoLine n (first ++ second)
both-none n first second none1 none2 xs =
    list_any-append (λ line. bytes_eq line (decimal n ++ 32 ∷ xs)) first second
    ∙ (ap (λ t. t || has_line n (32 ∷ xs) second) (none1 xs) ∙ none2 xs)

-- where no line before has the number, those behind tell the need
behind-none : (n : ℕ) (front : List (List ℕ)) → NoLine n front → (xs : List ℕ) (lines : List (List ℕ)) → has_line n (32 ∷ xs) (front ++ lines) ≡ has_line n (32 ∷ xs) lines
behind-none n front none xs lines =
    list_any-append (λ line. bytes_eq line (decimal n ++ 32 ∷ xs)) front lines ∙ ap (λ t. t || has_line n (32 ∷ xs) lines) (none xs)

abbrev need_told : Bool → Bool → Bool → Need
need_told block table object = cond block ForBlock (cond table ForTable (cond object ForObject NoNeed))

told-by : (n : ℕ) (lines : List (List ℕ)) (block table object : Bool) → has_line n (codes " refused: no segment") lines ≡ block → has_line n (codes " refused: no segment for table") lines ≡ table → has_line n (codes " refused: no segment for object") lines ≡ object → numbered_need lines n ≡ need_told block table object
told-by n lines block table object e0 e1 e2 =
    ap (λ t. need_told t (has_line n (codes " refused: no segment for table") lines) (has_line n (codes " refused: no segment for object") lines)) e0
    ∙ (ap (λ t. need_told block t (has_line n (codes " refused: no segment for object") lines)) e1
    ∙ ap (λ t. need_told block table t) e2)

pub numbered-behind : (n : ℕ) (front lines : List (List ℕ)) → NoLine n front → numbered_need (front ++ lines) n ≡ numbered_need lines n
numbered-behind n front lines none =
    told-by n (front ++ lines) (has_line n (codes " refused: no segment") lines) (has_line n (codes " refused: no segment for table") lines) (has_line n (codes " refused: no segment for object") lines)
    (behind-none n front none (codes "refused: no segment") lines)
    (behind-none n front none (codes "refused: no segment for table") lines)
    (behind-none n front none (codes "refused: no segment for object") lines)

numbered-none : (n : ℕ) (lines : List (List ℕ)) → NoLine n lines → numbered_need lines n ≡ NoNeed
numbered-none n lines none =
    told-by n lines false false false (none (codes "refused: no segment")) (none (codes "refused: no segment for table")) (none (codes "refused: no segment for object"))

eq-front : (ds xs ys : List ℕ) → bytes_eq (ds ++ xs) (ds ++ ys) ≡ bytes_eq xs ys
eq-front [] xs ys = refl
eq-front (d ∷ ds) xs ys = rw (same d) (eq-front ds xs ys) where
  same : (d : ℕ) → eqb d d ≡ true
  same d = grind (arith)

or-false : (t u : Bool) → u ≡ false → (t || u) ≡ t
or-false true u none = refl
or-false false u none = none

-- a line with the number, before lines without it
has-one : (n : ℕ) (xs ys : List ℕ) (rest : List (List ℕ)) → NoLine n rest → has_line n (32 ∷ xs) ((decimal n ++ 32 ∷ ys) ∷ rest) ≡ bytes_eq ys xs
has-one n xs ys rest none =
    or-false (bytes_eq (decimal n ++ 32 ∷ ys) (decimal n ++ 32 ∷ xs)) (has_line n (32 ∷ xs) rest) (none xs)
    ∙ eq-front (decimal n) (32 ∷ ys) (32 ∷ xs)

-- the line that a reply shows, without its newline, where it shows one
abbrev pub shown_by : ℕ → Reply → Need → List (List ℕ)
shown_by n reply NoNeed = []
shown_by n reply need = (decimal n ++ 32 ∷ printed reply) ∷ []

-- the lines that show a reply with a number in front
abbrev pub shown : Style → ℕ × Reply → List (List ℕ)
shown Numbered r = (decimal r.0 ++ 32 ∷ printed r.1) ∷ []
shown style r = shown_by r.0 r.1 (need_shown r.1)

-- replies are written with numbers in front
abbrev pub HaveNumbers : Style → Type 0
HaveNumbers Plain = ⊥
HaveNumbers style = Unit {0}

pub needs-numbered : (style : Style) → HaveNumbers style → (lines written : List ℕ) → needs_by_text style lines written ≡ map (λ n. (n, numbered_need (ended_lines written) n)) lines
needs-numbered Plain has lines written = absurd has
needs-numbered Numbered has lines written = refl
needs-numbered Quiet has lines written = refl

pub line-numbered : (n : ℕ) (r : Reply) → IsProperReply r → OneLine (decimal n ++ 32 ∷ printed r)
line-numbered n r proper = line-both (decimal n) (32 ∷ printed r) (line-printed (Number n) tt) (line-printed r proper)

pub regroup : (ds ps : List ℕ) → (ds ++ 32 ∷ []) ++ (ps ++ 10 ∷ []) ≡ (ds ++ 32 ∷ ps) ++ 10 ∷ []
regroup ds ps = simp append_assoc

ended-numbered : (n : ℕ) (r : Reply) (need : Need) (rest : List ℕ) → IsProperReply r → ended_lines (numbered_line n r need ++ rest) ≡ shown_by n r need ++ ended_lines rest
ended-numbered n r NoNeed rest proper = refl
ended-numbered n r need rest proper =
    ap (λ xs. ended_lines (xs ++ rest)) (regroup (decimal n) (printed r)) ∙ ended-line (decimal n ++ 32 ∷ printed r) rest (line-numbered n r proper)

ended-piece : (style : Style) → HaveNumbers style → (r : ℕ × Reply) (rest : List ℕ) → IsProperReply r.1 → ended_lines (line_by style r ++ rest) ≡ shown style r ++ ended_lines rest
ended-piece Plain has r rest proper = absurd has
ended-piece Numbered has r rest proper =
    ap (λ xs. ended_lines (xs ++ rest)) (regroup (decimal r.0) (printed r.1)) ∙ ended-line (decimal r.0 ++ 32 ∷ printed r.1) rest (line-numbered r.0 r.1 proper)
ended-piece Quiet has r rest proper = ended-numbered r.0 r.1 (need_shown r.1) rest proper

-- the lines of a text with numbers in front, and those behind it
pub ended-body : (style : Style) → HaveNumbers style → (rs : List (ℕ × Reply)) (tail : List ℕ) → AllByRecursion (λ r. IsProperReply r.1) rs → ended_lines (body_by style rs ++ tail) ≡ flat_map (shown style) rs ++ ended_lines tail
ended-body style has [] tail proper = refl
ended-body style has (r ∷ rs) tail proper =
    ap ended_lines (append_assoc (line_by style r) (body_by style rs) tail)
    ∙ (ended-piece style has r (body_by style rs ++ tail) proper.0
    ∙ (ap (λ ls. shown style r ++ ls) (ended-body style has rs tail proper.1)
    ∙ sym (append_assoc (shown style r) (flat_map (shown style) rs) (ended_lines tail))))

quiet-one : (n : ℕ) (reply : Reply) (rest : List (List ℕ)) → NoLine n rest → numbered_need (shown Quiet (n, reply) ++ rest) n ≡ need_shown reply
quiet-one n (Refused NoSegment) rest none =
    let at = λ (xs : List ℕ). has-one n xs (codes "refused: no segment") rest none in
    told-by n (shown Quiet (n, Refused NoSegment) ++ rest) true false false (at (codes "refused: no segment")) (at (codes "refused: no segment for table")) (at (codes "refused: no segment for object"))
quiet-one n (Refused NoSegmentForTable) rest none =
    let at = λ (xs : List ℕ). has-one n xs (codes "refused: no segment for table") rest none in
    told-by n (shown Quiet (n, Refused NoSegmentForTable) ++ rest) false true false (at (codes "refused: no segment")) (at (codes "refused: no segment for table")) (at (codes "refused: no segment for object"))
quiet-one n (Refused NoSegmentForObject) rest none =
    let at = λ (xs : List ℕ). has-one n xs (codes "refused: no segment for object") rest none in
    told-by n (shown Quiet (n, Refused NoSegmentForObject) ++ rest) false false true (at (codes "refused: no segment")) (at (codes "refused: no segment for table")) (at (codes "refused: no segment for object"))
quiet-one n (Refused why) rest none = numbered-none n rest none
quiet-one n reply rest none = numbered-none n rest none

-- the line of a reply tells its need
pub numbered-one : (style : Style) (n : ℕ) (reply : Reply) (rest : List (List ℕ)) → IsProperReply reply → NoLine n rest → numbered_need (shown style (n, reply) ++ rest) n ≡ need_shown reply
numbered-one Numbered n reply rest proper none =
    let at = λ (xs : List ℕ). has-one n xs (printed reply) rest none in
    told-by n (shown Numbered (n, reply) ++ rest)
    (bytes_eq (printed reply) (codes "refused: no segment")) (bytes_eq (printed reply) (codes "refused: no segment for table")) (bytes_eq (printed reply) (codes "refused: no segment for object"))
    (at (codes "refused: no segment")) (at (codes "refused: no segment for table")) (at (codes "refused: no segment for object"))
    ∙ need_of-printed reply proper
numbered-one Plain n reply rest proper none = quiet-one n reply rest none
numbered-one Quiet n reply rest proper none = quiet-one n reply rest none

other-shown : (m n : ℕ) (r : Reply) (need : Need) → m < 2 ^ 64 → n < 2 ^ 64 → m ≢ n → NoLine n (shown_by m r need)
other-shown m n r NoNeed below_m below_n other xs = refl
other-shown m n r need below_m below_n other xs = other-number m n (printed r) below_m below_n other xs

pub other-line : (style : Style) (m n : ℕ) (r : Reply) → m < 2 ^ 64 → n < 2 ^ 64 → m ≢ n → NoLine n (shown style (m, r))
other-line Numbered m n r below_m below_n other = other-number m n (printed r) below_m below_n other
other-line Plain m n r below_m below_n other = other-shown m n r (need_shown r) below_m below_n other
other-line Quiet m n r below_m below_n other = other-shown m n r (need_shown r) below_m below_n other

abbrev pub numbers_of : List (ℕ × Reply) → List ℕ
numbers_of rs = map (λ r. r.0) rs

abbrev pub Below : List (ℕ × Reply) → Type 0
Below rs = AllByRecursion (λ n. n < 2 ^ 64) (numbers_of rs)

-- no line of later numbers has this one
pub none-later : (style : Style) (n : ℕ) (rs : List (ℕ × Reply)) → n < 2 ^ 64 → Below rs → AllByRecursion (λ m. n < m) (numbers_of rs) → NoLine n (flat_map (shown style) rs)
none-later style n [] below_n below later = λ xs. refl
none-later style n (r ∷ rs) below_n below later =
    both-none n (shown style r) (flat_map (shown style) rs) (other-line style r.0 n r.1 below.0 below_n (λ same. omega (arith, later.0, same))) (none-later style n rs below_n below.1 later.1)

-- none of these numbers stands before the lines
abbrev NoneOf : List (ℕ × Reply) → List (List ℕ) → Type 0
NoneOf rs front = AllByRecursion (λ n. NoLine n front) (numbers_of rs)

none-push : (style : Style) (r : ℕ × Reply) (rs : List (ℕ × Reply)) (front : List (List ℕ)) → r.0 < 2 ^ 64 → Below rs → AllByRecursion (λ m. r.0 < m) (numbers_of rs) → NoneOf rs front → NoneOf rs (front ++ shown style r)
none-push style r [] front here below later none = tt
none-push style r (q ∷ qs) front here below later none = (
  both-none q.0 front (shown style r) none.0 (other-line style r.0 q.0 r.1 here below.0 (λ same. omega (arith, later.0, same))),
  none-push style r qs front here below.1 later.1 none.1,
)

-- at each line the need of its reply is told
numbered-each : (style : Style) (front tail : List (List ℕ)) (rs : List (ℕ × Reply)) → AllByRecursion (λ r. IsProperReply r.1) rs → Below rs → AreAscending (numbers_of rs) → NoneOf rs front → NoneOf rs tail → AllByRecursion (λ r. numbered_need (front ++ (flat_map (shown style) rs ++ tail)) r.0 ≡ need_shown r.1) rs
numbered-each style front tail [] proper below rising before behind = tt
numbered-each style front tail (r ∷ rs) proper below rising before behind = (
  ap (λ ls. numbered_need (front ++ ls) r.0) (append_assoc (shown style r) (flat_map (shown style) rs) tail)
      ∙ (numbered-behind r.0 front (shown style r ++ (flat_map (shown style) rs ++ tail)) before.0
      ∙ numbered-one style r.0 r.1 (flat_map (shown style) rs ++ tail) proper.0 (both-none r.0 (flat_map (shown style) rs) tail (none-later style r.0 rs below.0 below.1 rising.0) behind.0)),
  subst (λ ls. AllByRecursion (λ q. numbered_need ls q.0 ≡ need_shown q.1) rs)
      (append_assoc front (shown style r) (flat_map (shown style) rs ++ tail) ∙ ap (λ ls. front ++ ls) (sym (append_assoc (shown style r) (flat_map (shown style) rs) tail)))
      (numbered-each style (front ++ shown style r) tail rs proper.1 below.1 rising.1 (none-push style r rs front below.0 below.1 rising.0 before.1) behind.1),
)

needs-told : (lines : List (List ℕ)) (rs : List (ℕ × Reply)) → AllByRecursion (λ r. numbered_need lines r.0 ≡ need_shown r.1) rs → map (λ n. (n, numbered_need lines n)) (numbers_of rs) ≡ needs_shown rs
needs-told lines [] each = refl
needs-told lines (r ∷ rs) each =
    ap (λ need. (r.0, need) ∷ map (λ n. (n, numbered_need lines n)) (numbers_of rs)) each.0
    ∙ ap (λ needs. (r.0, need_shown r.1) ∷ needs) (needs-told lines rs each.1)

none-all : (tail : List (List ℕ)) → ((n : ℕ) → n < 2 ^ 64 → NoLine n tail) → (rs : List (ℕ × Reply)) → Below rs → NoneOf rs tail
none-all tail none [] below = tt
none-all tail none (r ∷ rs) below = (none r.0 below.0, none-all tail none rs below.1)

-- a text with numbers in front shows the needs of its replies, where no line behind it has one
shows-numbered : (style : Style) → HaveNumbers style → (rs : List (ℕ × Reply)) (tail : List ℕ) → Below rs → AreAscending (numbers_of rs) → AllByRecursion (λ r. IsProperReply r.1) rs → ((n : ℕ) → n < 2 ^ 64 → NoLine n (ended_lines tail)) → ShowsNeeds (needs_by_text style (numbers_of rs) (body_by style rs ++ tail)) rs
shows-numbered style has rs tail below rising proper none =
    subst (λ needs. ShowsNeeds needs rs)
    (sym (needs-numbered style has (numbers_of rs) (body_by style rs ++ tail)
    ∙ (ap (λ ls. map (λ n. (n, numbered_need ls n)) (numbers_of rs)) (ended-body style has rs tail proper)
    ∙ needs-told (flat_map (shown style) rs ++ ended_lines tail) rs (numbered-each style [] (ended_lines tail) rs proper below rising (none-all [] (λ n below xs. refl) rs below) (none-all (ended_lines tail) none rs below)))))
    (shows-needs_shown rs rising)

-- a line that has no number in front
abbrev pub IsUnnumbered : List ℕ → Type 0
IsUnnumbered [] = ⊥
IsUnnumbered (b ∷ bs) = (is_digit b ≡ false) × OneLine (b ∷ bs)

unnumbered-line : (xs : List ℕ) → IsUnnumbered xs → OneLine xs
unnumbered-line [] is = absurd is
unnumbered-line (b ∷ bs) is = is.1

unnumbered-none : (n : ℕ) (xs : List ℕ) → n < 2 ^ 64 → IsUnnumbered xs → NoLine n (xs ∷ [])
unnumbered-none n [] below is = absurd is
unnumbered-none n (b ∷ bs) below is = no-number b n bs is.0 below

-- none of such lines shows a need
pub none-unnumbered : (n : ℕ) (lines : List (List ℕ)) → n < 2 ^ 64 → AllByRecursion IsUnnumbered lines → NoLine n (ended_lines (flat_map (λ line. line ++ 10 ∷ []) lines))
none-unnumbered n [] below each = λ xs. refl
none-unnumbered n (l ∷ ls) below each =
    let rest = flat_map (λ (line : List ℕ). line ++ 10 ∷ []) ls in
    subst (NoLine n) (sym (ended-line l rest (unnumbered-line l each.0)))
    (both-none n (l ∷ []) (ended_lines rest) (unnumbered-none n l below each.0) (none-unnumbered n ls below each.1))

-- the k-th line of a text without numbers belongs to the k-th command, whatever is behind it
needs-plain : (rs : List (ℕ × Reply)) (tail : List ℕ) → AllByRecursion (λ r. IsProperReply r.1) rs → needs_by_text Plain (numbers_of rs) (body_by Plain rs ++ tail) ≡ needs_shown rs
needs-plain [] tail proper = refl
needs-plain (r ∷ rs) tail proper =
    let rest = body_by Plain rs ++ tail in
    ap (λ ls. needs.needs_in_turn (r.0 ∷ numbers_of rs) ls)
    (ap ended_lines (append_assoc (line_of r.1) (body_by Plain rs) tail) ∙ ended-line (printed r.1) rest (line-printed r.1 proper.0))
    ∙ (ap (λ need. (r.0, need) ∷ needs.needs_in_turn (numbers_of rs) (ended_lines rest)) (need_of-printed r.1 proper.0)
    ∙ ap (λ needs. (r.0, need_shown r.1) ∷ needs) (needs-plain rs tail proper.1))

-- a text shows the needs of its replies
pub shows-needs : (style : Style) (rs : List (ℕ × Reply)) (tail : List ℕ) → AllByRecursion (λ n. n < 2 ^ 64) (numbers_of rs) → AreAscending (numbers_of rs) → AllByRecursion (λ r. IsProperReply r.1) rs → ((n : ℕ) → n < 2 ^ 64 → NoLine n (ended_lines tail)) → ShowsNeeds (needs_by_text style (numbers_of rs) (body_by style rs ++ tail)) rs
shows-needs Plain rs tail below rising proper none =
    subst (λ needs. ShowsNeeds needs rs) (sym (needs-plain rs tail proper)) (shows-needs_shown rs rising)
shows-needs Numbered rs tail below rising proper none = shows-numbered Numbered tt rs tail below rising proper none
shows-needs Quiet rs tail below rising proper none = shows-numbered Quiet tt rs tail below rising proper none
