-- What a command needs of a discipline that it doesn't get, as its printed line shows it.
use Rattle.std.specs.Prelude.{◌≡◌, ℕ, ◌<◌, List, [], ◌∷◌, Bool, true, false, bytes_eq, codes, take, ◌==◌, if◌then◌else◌}
use Rattle.std.specs.List.{AllByRecursion}
use Rattle.vc_script.specs.declared.refusal.Refusal.{Refusal}
use Rattle.vc_script.specs.declared.refusal.Refusal.TheVariants.{NoSegment, NoSegmentForTable, NoSegmentForObject}
use Rattle.vc_script.specs.declared.reply.Reply.{Reply}
use Rattle.vc_script.specs.declared.reply.Reply.TheVariants.{Refused}
use Rattle.vc_script.specs.Lines.{ended_lines}

-- whether a segment was refused, and for what
pub data Need : Type 0 where
  NoNeed : Need
  ForBlock : Need
  ForTable : Need
  ForObject : Need

-- the need that a line shows
abbrev pub need_of : List ℕ → Need
need_of line =
    if bytes_eq line (codes "refused: no segment") then ForBlock
    else (if bytes_eq line (codes "refused: no segment for table") then ForTable
    else (if bytes_eq line (codes "refused: no segment for object") then ForObject
    else NoNeed))

-- the needs that printed lines show, each by the line of its command
abbrev pub needs_in_turn : List ℕ → List (List ℕ) → List (ℕ × Need)
needs_in_turn [] printed = []
needs_in_turn (n ∷ ns) [] = []
needs_in_turn (n ∷ ns) (line ∷ rest) = (n, need_of line) ∷ needs_in_turn ns rest

-- of the commands of these lines, in order, the k-th has the k-th whole line of what was written
abbrev pub needs_of : List ℕ → List ℕ → List (ℕ × Need)
needs_of lines written = needs_in_turn lines (ended_lines written)

-- the need of a line; none where none is shown
abbrev pub need_at : List (ℕ × Need) → ℕ → Need
need_at [] n = NoNeed
need_at (x ∷ xs) n = if x.0 == n then x.1 else need_at xs n

-- of the refusals, only those of a segment are needs
abbrev pub need_for : Refusal → Need
need_for NoSegment = ForBlock
need_for NoSegmentForTable = ForTable
need_for NoSegmentForObject = ForObject
need_for why = NoNeed

-- the need that a reply shows
abbrev pub need_shown : Reply → Need
need_shown (Refused why) = need_for why
need_shown reply = NoNeed

-- each line stands behind all before it
abbrev pub AreAscending : List ℕ → Type 0
AreAscending [] = Unit {0}
AreAscending (n ∷ ns) = AllByRecursion (λ m. n < m) ns × AreAscending ns

-- of replies with their lines: at each line stands the need that its reply shows
abbrev pub ShowsNeeds : List (ℕ × Need) → List (ℕ × Reply) → Type 0
ShowsNeeds needs replies = AllByRecursion (λ r. need_at needs r.0 ≡ need_shown r.1) replies

abbrev pub is_refusal : Reply → Bool
is_refusal (Refused why) = true
is_refusal reply = false

-- a line that prints a refusal
abbrev pub begins_refused : List ℕ → Bool
begins_refused line = bytes_eq (take 9 line) (codes "refused: ")
