-- Only refusals begin with `refused: `.
use Rattle.vc_base.proofs.Common.{◌≡◌, ℕ, Bool, true, false, cond, ◌||◌, eqb, ◌≢◌, ◌⊎◌, List, [], ◌∷◌, ◌++◌, length, take, drop, codes, decimal, flat_map, bytes_eq, sym, refl, ap, ◌∙◌, subst, inl, inr, append-nil, arith, take-append-drop, and_from, and_parts, cases_Bool, false≢true, bytes_eq-Decides, list_all}
use Rattle.hex.specs.Hex.{encode_lower}
use Rattle.vc_script.specs.declared.refusal.Refusal.{Refusal}
use Rattle.vc_script.specs.declared.refusal.Refusal.TheVariants.{NoSegment, NoSegmentForTable, NoSegmentForObject}
use Rattle.vc_script.specs.declared.reply.Reply.{Reply}
use Rattle.vc_script.specs.declared.reply.Reply.TheVariants.{Opened, Closed, Cleared, Compacted, At, Freed, Written, Hex, Size, AddrIn, AddrNone, SegmentIs, SegmentNone, Stats, SegmentList, BlockList, Poked, Damaged, Watched, Rows, New, Old, Gone, Out, Found, Nothing, Objects, Number, Views, MethodIs, Emptied, ShutDown, Refused}
use Rattle.vc_script.specs.Words.{is_digit, is_letter, is_name_byte}
use Rattle.vc_script.specs.Proper.{IsName}
use Rattle.vc_script.specs.ProperReply.{IsProperReply}
use Rattle.vc_script.specs.Needs.{NoNeed, ForBlock, ForTable, ForObject, begins_refused, is_refusal, need_of, need_for, need_shown}
use Rattle.vc_script.specs.Print.{printed, watch_text, viewed_text, method_word, object_text}
use Rattle.vc_script.proofs.Newlines.{list_all-decimal, list_all-name}

-- the first byte that can't stand in a name
abbrev first_other : List ℕ → ℕ
first_other [] = 0
first_other (b ∷ bs) = cond (is_name_byte b) (first_other bs) b

-- a space comes before any other byte that can't stand in a name
abbrev Spaced : List ℕ → Type 0
Spaced xs = first_other xs ≡ 32

spaced-append : (xs ys : List ℕ) → Spaced xs → Spaced (xs ++ ys)
spaced-append [] ys space = absurd (omega (arith, space))
spaced-append (x ∷ xs) ys space =
    elim (cases_Bool (is_name_byte x)) [
      | inl more ↦ rw more (spaced-append xs ys (rw more at space))
      | inr other ↦ rw other (rw other at space)
    ]

-- behind bytes of a name
spaced-behind : (xs ys : List ℕ) → list_all is_name_byte xs ≡ true → Spaced ys → Spaced (xs ++ ys)
spaced-behind [] ys each space = space
spaced-behind (x ∷ xs) ys each space =
    let parts = and_parts (is_name_byte x) (list_all is_name_byte xs) each in
    rw parts.0 (spaced-behind xs ys parts.1 space)

first_other-none : (xs : List ℕ) → list_all is_name_byte xs ≡ true → first_other xs ≡ 0
first_other-none [] each = refl
first_other-none (x ∷ xs) each =
    let parts = and_parts (is_name_byte x) (list_all is_name_byte xs) each in
    rw parts.0 (first_other-none xs parts.1)

pub digit-name : (xs : List ℕ) → list_all is_digit xs ≡ true → list_all is_name_byte xs ≡ true
digit-name [] each = refl
digit-name (x ∷ xs) each =
    let parts = and_parts (is_digit x) (list_all is_digit xs) each in
    and_from (is_name_byte x) (list_all is_name_byte xs) (digit-or (is_letter x) (is_digit x) (eqb x 95 || eqb x 46) parts.0) (digit-name xs parts.1) where
      digit-or : (a b c : Bool) → b ≡ true → (a || (b || c)) ≡ true
      digit-or true b c is = refl
      digit-or false true c is = refl
      digit-or false false c is = absurd (false≢true is)

name-decimal : (n : ℕ) → list_all is_name_byte (decimal n) ≡ true
name-decimal n = digit-name (decimal n) (list_all-decimal n)

-- no colon comes first of the bytes that can't stand in a name
abbrev Plain : List ℕ → Type 0
Plain xs = first_other xs ≢ 58

plain-spaced : (xs : List ℕ) → Spaced xs → Plain xs
plain-spaced xs space colon = omega (arith, space, colon)

plain-none : (xs : List ℕ) → list_all is_name_byte xs ≡ true → Plain xs
plain-none xs each colon = omega (arith, first_other-none xs each, colon)

named : (name text : List ℕ) → IsName name → Spaced text → Spaced (name ++ text)
named name text proper space = spaced-behind name text (list_all-name name proper) space

-- where a reply isn't a refusal
abbrev Other : Reply → Type 0
Other r = (is_refusal r ≡ false) × (need_shown r ≡ NoNeed) × Plain (printed r)

other : (r : Reply) → is_refusal r ≡ false → need_shown r ≡ NoNeed → Spaced (printed r) → Other r
other r act none space = (act, none, plain-spaced (printed r) space)

abbrev Kind : Reply → Type 0
Kind r = ((why : Refusal) × (r ≡ Refused why)) ⊎ Other r

kind_of : (r : Reply) → IsProperReply r → Kind r
kind_of (Opened name) proper = inr (other (Opened name) refl refl (named name (codes " open") proper refl))
kind_of (Closed region count) proper =
    inr (other (Closed region count) refl refl (spaced-append (region ++ codes " closed ") (decimal count) (named region (codes " closed ") proper refl)))
kind_of (Cleared region) proper = inr (other (Cleared region) refl refl (named region (codes " cleared") proper refl))
kind_of (Compacted region count) proper =
    inr (other (Compacted region count) refl refl (spaced-append (region ++ codes " compacted ") (decimal count) (named region (codes " compacted ") proper refl)))
kind_of (At block place line) proper =
    inr (other (At block place line) refl refl
    (spaced-append (block ++ codes " " ++ decimal place.seg ++ codes ":" ++ decimal place.off) (watch_text line)
    (spaced-append (block ++ codes " " ++ decimal place.seg ++ codes ":") (decimal place.off)
    (spaced-append (block ++ codes " " ++ decimal place.seg) (codes ":")
    (spaced-append (block ++ codes " ") (decimal place.seg) (named block (codes " ") proper refl))))))
kind_of (Freed block line) proper =
    inr (other (Freed block line) refl refl (spaced-append (block ++ codes " freed") (watch_text line) (named block (codes " freed") proper refl)))
kind_of (Written block count line) proper =
    inr (other (Written block count line) refl refl
    (spaced-append (block ++ codes " written " ++ decimal count) (watch_text line)
    (spaced-append (block ++ codes " written ") (decimal count) (named block (codes " written ") proper refl))))
kind_of (Hex block bytes) proper =
    inr (other (Hex block bytes) refl refl (spaced-append (block ++ codes " ") (encode_lower bytes) (named block (codes " ") proper refl)))
kind_of (Size block size) proper =
    inr (other (Size block size) refl refl (spaced-append (block ++ codes " ") (decimal size) (named block (codes " ") proper refl)))
kind_of (AddrIn block off) proper =
    inr (other (AddrIn block off) refl refl refl)
kind_of AddrNone proper = inr (other AddrNone refl refl refl)
kind_of (SegmentIs number size) proper = inr (other (SegmentIs number size) refl refl refl)
kind_of SegmentNone proper = inr (other SegmentNone refl refl refl)
kind_of (Stats s) proper = inr (other (Stats s) refl refl refl)
kind_of (SegmentList items) proper = inr (other (SegmentList items) refl refl refl)
kind_of (BlockList items) proper = inr (other (BlockList items) refl refl refl)
kind_of (Poked block line) proper =
    inr (other (Poked block line) refl refl (spaced-append (block ++ codes " poked") (watch_text line) (named block (codes " poked") proper refl)))
kind_of (Damaged items) proper = inr (other (Damaged items) refl refl refl)
kind_of (Watched block) proper = inr (other (Watched block) refl refl (named block (codes " watched") proper refl))
kind_of (Rows items) proper = inr (other (Rows items) refl refl refl)
kind_of (New object) proper = inr (other (New object) refl refl refl)
kind_of (Old object) proper = inr (other (Old object) refl refl refl)
kind_of (Gone object) proper = inr (other (Gone object) refl refl refl)
kind_of (Out object) proper = inr (other (Out object) refl refl refl)
kind_of (Found object) proper = inr (other (Found object) refl refl refl)
kind_of Nothing proper = inr (refl, refl, plain-none (codes "none") refl)
kind_of (Objects []) proper = inr (refl, refl, subst Plain (sym (append-nil (decimal 0))) (plain-none (decimal 0) (name-decimal 0)))
kind_of (Objects (o ∷ os)) proper =
    inr (other (Objects (o ∷ os)) refl refl (spaced-behind (decimal (length (o ∷ os))) (flat_map object_text (o ∷ os)) (name-decimal (length (o ∷ os))) refl))
kind_of (Number count) proper = inr (refl, refl, plain-none (decimal count) (name-decimal count))
kind_of (Views dict viewed) proper =
    inr (other (Views dict viewed) refl refl (spaced-append (dict ++ codes " views ") (viewed_text viewed) (named dict (codes " views ") proper.0 refl)))
kind_of (MethodIs dict method) proper =
    inr (other (MethodIs dict method) refl refl (spaced-append (dict ++ codes " method ") (method_word method) (named dict (codes " method ") proper refl)))
kind_of (Emptied dict count) proper =
    inr (other (Emptied dict count) refl refl (spaced-append (dict ++ codes " empty ") (decimal count) (named dict (codes " empty ") proper refl)))
kind_of (ShutDown dict) proper = inr (other (ShutDown dict) refl refl (named dict (codes " shut") proper refl))
kind_of (Refused why) proper = inl (why, refl)

-- what begins as a refusal has a colon there
colon-begins : (xs : List ℕ) → begins_refused xs ≡ true → first_other xs ≡ 58
colon-begins xs begins =
    let front : take 9 xs ≡ codes "refused: " = (bytes_eq-Decides (take 9 xs) (codes "refused: ")).0 begins in
    ap first_other (sym (take-append-drop 9 xs)) ∙ ap (λ ys. first_other (ys ++ drop 9 xs)) front

plain-begins : (xs : List ℕ) → Plain xs → begins_refused xs ≡ false
plain-begins xs plain = elim (cases_Bool (begins_refused xs)) [ inl begins ↦ absurd (plain (colon-begins xs begins)) | inr otherwise ↦ otherwise ]

begins-refusal : (why : Refusal) → begins_refused (printed (Refused why)) ≡ true
begins-refusal why = refl

-- a reply is printed with `refused: ` in front exactly where it is a refusal
pub begins_refused-printed : (r : Reply) → IsProperReply r → begins_refused (printed r) ≡ is_refusal r
begins_refused-printed r proper =
    elim (kind_of r proper) [
      | inl w ↦ subst (λ q. begins_refused (printed q) ≡ is_refusal q) (sym w.1) (begins-refusal w.0)
      | inr w ↦ plain-begins (printed r) w.2 ∙ sym w.0
    ]

-- a line in which no colon comes first isn't that of a refusal
plain-differs : (xs line : List ℕ) → Plain xs → first_other line ≡ 58 → bytes_eq xs line ≡ false
plain-differs xs line plain colon =
    elim (cases_Bool (bytes_eq xs line)) [
      | inl same ↦ absurd (plain (ap first_other ((bytes_eq-Decides xs line).0 same) ∙ colon))
      | inr differs ↦ differs
    ]

plain-need : (xs : List ℕ) → Plain xs → need_of xs ≡ NoNeed
plain-need xs plain =
    let block = plain-differs xs (codes "refused: no segment") plain refl in
    let table = plain-differs xs (codes "refused: no segment for table") plain refl in
    let object = plain-differs xs (codes "refused: no segment for object") plain refl in
    rw (block, table, object) refl

need-refusal : (why : Refusal) → need_of (printed (Refused why)) ≡ need_for why
need-refusal NoSegment = refl
need-refusal why = refl

-- a line shows the need that its reply shows
pub need_of-printed : (r : Reply) → IsProperReply r → need_of (printed r) ≡ need_shown r
need_of-printed r proper =
    elim (kind_of r proper) [
      | inl w ↦ subst (λ q. need_of (printed q) ≡ need_shown q) (sym w.1) (need-refusal w.0)
      | inr w ↦ plain-need (printed r) w.2 ∙ sym w.1
    ]

need_shown-block : (r : Reply) → need_shown r ≡ ForBlock → r ≡ Refused NoSegment
need_shown-block (Refused NoSegment) is = refl
need_shown-block r is = cc

need_shown-table : (r : Reply) → need_shown r ≡ ForTable → r ≡ Refused NoSegmentForTable
need_shown-table (Refused NoSegmentForTable) is = refl
need_shown-table r is = cc

need_shown-object : (r : Reply) → need_shown r ≡ ForObject → r ≡ Refused NoSegmentForObject
need_shown-object (Refused NoSegmentForObject) is = refl
need_shown-object r is = cc

-- a whole line of a refused segment is the line of that refusal
pub block-printed : (r : Reply) → IsProperReply r → printed r ≡ codes "refused: no segment" → r ≡ Refused NoSegment
block-printed r proper line = need_shown-block r (sym (need_of-printed r proper) ∙ ap need_of line)

pub table-printed : (r : Reply) → IsProperReply r → printed r ≡ codes "refused: no segment for table" → r ≡ Refused NoSegmentForTable
table-printed r proper line = need_shown-table r (sym (need_of-printed r proper) ∙ ap need_of line)

pub object-printed : (r : Reply) → IsProperReply r → printed r ≡ codes "refused: no segment for object" → r ≡ Refused NoSegmentForObject
object-printed r proper line = need_shown-object r (sym (need_of-printed r proper) ∙ ap need_of line)
