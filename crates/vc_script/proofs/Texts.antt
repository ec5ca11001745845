-- The lines of a printed text, and the needs that they show.
use Rattle.vc_base.proofs.Common.{◌≡◌, ℕ, ◌<◌, true, false, cond, eqb, List, [], ◌∷◌, ◌++◌, map, sym, refl, ap, ◌∙◌, subst, append_assoc, append-nil, arith, eq-eqb, nat_tests, and_parts, not-true, AllByRecursion, list_all}
use Rattle.vc_script.specs.declared.reply.Reply.{Reply}
use Rattle.vc_script.specs.Lines.{ended_after, ended_lines, lines, lines_after}
use Rattle.vc_script.specs.ProperReply.{IsProperReply}
use Rattle.vc_script.specs.Needs.{AreAscending, Need, ShowsNeeds, need_at, need_shown, needs_in_turn, needs_of}
use Rattle.vc_script.specs.Print.{line_of, printed, text}
use Rattle.vc_script.proofs.Newlines.{OneLine, stays, line-printed}
use Rattle.vc_script.proofs.Heads.{need_of-printed}

-- a line without newlines is cut where the newline behind it stands, whatever is made of the bytes behind the last one
module _ (after : List ℕ → List ℕ → List (List ℕ)) (all : List ℕ → List (List ℕ)) (stop : (begun rest : List ℕ) → after begun (10 ∷ rest) ≡ begun ∷ all rest) (on : (begun : List ℕ) (x : ℕ) (rest : List ℕ) → eqb x 10 ≡ false → after begun (x ∷ rest) ≡ after (begun ++ x ∷ []) rest) where
  cut-whole : (begun xs rest : List ℕ) → OneLine xs → after begun (xs ++ 10 ∷ rest) ≡ (begun ++ xs) ∷ all rest
  cut-whole begun [] rest each = stop begun rest ∙ ap (λ bs. bs ∷ all rest) (sym (append-nil begun))
  cut-whole begun (x ∷ xs) rest each =
      let parts = and_parts (stays x) (list_all stays xs) each in
      on begun x (xs ++ 10 ∷ rest) (not-true (eqb x 10) parts.0)
      ∙ (cut-whole (begun ++ x ∷ []) xs rest parts.1
      ∙ ap (λ bs. bs ∷ all rest) (append_assoc begun (x ∷ []) xs))

lines_after-whole : (begun xs rest : List ℕ) → OneLine xs → lines_after begun (xs ++ 10 ∷ rest) ≡ (begun ++ xs) ∷ lines rest
lines_after-whole = cut-whole lines_after lines (λ begun rest. refl) (λ begun x rest e. ap (λ t. cond t (begun ∷ lines rest) (lines_after (begun ++ x ∷ []) rest)) e)

-- the lines of a text are its replies
pub lines-text : (rs : List Reply) → AllByRecursion IsProperReply rs → lines (text rs) ≡ map printed rs
lines-text [] proper = refl
lines-text (r ∷ rs) proper =
    ap lines (append_assoc (printed r) (10 ∷ []) (text rs))
    ∙ (lines_after-whole [] (printed r) (text rs) (line-printed r proper.0)
    ∙ ap (λ ls. printed r ∷ ls) (lines-text rs proper.1))

-- a line that a newline ends is a whole line
pub ended_after-whole : (begun xs rest : List ℕ) → OneLine xs → ended_after begun (xs ++ 10 ∷ rest) ≡ (begun ++ xs) ∷ ended_lines rest
ended_after-whole = cut-whole ended_after ended_lines (λ begun rest. refl) (λ begun x rest e. ap (λ t. cond t (begun ∷ ended_lines rest) (ended_after (begun ++ x ∷ []) rest)) e)

-- a reply's line and what is behind it
ended_lines-line : (r : Reply) (rest : List ℕ) → IsProperReply r → ended_lines (line_of r ++ rest) ≡ printed r ∷ ended_lines rest
ended_lines-line r rest proper =
    ap ended_lines (append_assoc (printed r) (10 ∷ []) rest) ∙ ended_after-whole [] (printed r) rest (line-printed r proper)

-- each reply of a text is a whole line
pub ended_lines-text : (rs : List Reply) → AllByRecursion IsProperReply rs → ended_lines (text rs) ≡ map printed rs
ended_lines-text [] proper = refl
ended_lines-text (r ∷ rs) proper =
    ended_lines-line r (text rs) proper.0 ∙ ap (λ ls. printed r ∷ ls) (ended_lines-text rs proper.1)

-- the lines of replies, and the replies
abbrev numbers_of : List (ℕ × Reply) → List ℕ
numbers_of rs = map (λ r. r.0) rs

abbrev replies_of : List (ℕ × Reply) → List Reply
replies_of rs = map (λ r. r.1) rs

-- the needs that replies show, by their lines
abbrev pub needs_shown : List (ℕ × Reply) → List (ℕ × Need)
needs_shown rs = map (λ r. (r.0, need_shown r.1)) rs

-- a text shows the needs of its replies
pub needs_of-text : (rs : List (ℕ × Reply)) → AllByRecursion (λ r. IsProperReply r.1) rs → needs_of (numbers_of rs) (text (replies_of rs)) ≡ needs_shown rs
needs_of-text [] proper = refl
needs_of-text (r ∷ rs) proper =
    ap (needs_in_turn (r.0 ∷ numbers_of rs)) (ended_lines-line r.1 (text (replies_of rs)) proper.0)
    ∙ (ap (λ need. (r.0, need) ∷ needs_of (numbers_of rs) (text (replies_of rs))) (need_of-printed r.1 proper.0)
    ∙ ap (λ needs. (r.0, need_shown r.1) ∷ needs) (needs_of-text rs proper.1))

-- a need before them, of a line before theirs, changes none
shows-behind : (x : ℕ × Need) (needs : List (ℕ × Need)) (rs : List (ℕ × Reply)) → AllByRecursion (λ m. x.0 < m) (numbers_of rs) → ShowsNeeds needs rs → ShowsNeeds (x ∷ needs) rs
shows-behind x needs [] later shows = tt
shows-behind x needs (r ∷ rs) later shows =
    let differs : eqb x.0 r.0 ≡ false = grind (arith, nat_tests, later.0) in
    (ap (λ t. cond t x.1 (need_at needs r.0)) differs ∙ shows.0, shows-behind x needs rs later.1 shows.1)

-- the needs of replies at rising lines stand at these lines
pub shows-needs_shown : (rs : List (ℕ × Reply)) → AreAscending (numbers_of rs) → ShowsNeeds (needs_shown rs) rs
shows-needs_shown [] rising = tt
shows-needs_shown (r ∷ rs) rising =
    let same : eqb r.0 r.0 ≡ true = eq-eqb r.0 r.0 refl in
    (ap (λ t. cond t (need_shown r.1) (need_at (needs_shown rs) r.0)) same, shows-behind (r.0, need_shown r.1) (needs_shown rs) rs rising.0 (shows-needs_shown rs rising.1))

pub shows-text : (rs : List (ℕ × Reply)) → AreAscending (numbers_of rs) → AllByRecursion (λ r. IsProperReply r.1) rs → ShowsNeeds (needs_of (numbers_of rs) (text (replies_of rs))) rs
shows-text rs rising proper = subst (λ needs. ShowsNeeds needs rs) (sym (needs_of-text rs proper)) (shows-needs_shown rs rising)

before-push : (n m : ℕ) (ns : List ℕ) → AllByRecursion (λ k. n < k) ns → n < m → AllByRecursion (λ k. n < k) (ns ++ m ∷ [])
before-push n m [] each last = (last, tt)
before-push n m (k ∷ ns) each last = (each.0, before-push n m ns each.1 last)

-- a line behind all others may follow
pub ascending-push : (ns : List ℕ) (n : ℕ) → AreAscending ns → AllByRecursion (λ m. m < n) ns → AreAscending (ns ++ n ∷ [])
ascending-push [] n rising below = (tt, tt)
ascending-push (m ∷ ns) n rising below = (before-push m n ns rising.0 below.0, ascending-push ns n rising.1 below.1)
