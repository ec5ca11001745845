-- No printed reply holds a newline.
use Rattle.vc_base.proofs.Common.{◌≡◌, ℕ, zero, suc, ◌+◌, ◌/◌, ◌%◌, ◌<◌, Bool, true, false, cond, not, ◌&&◌, ◌||◌, eqb, leb, List, [], ◌∷◌, ◌++◌, length, get_or, ℤ, pos, negsuc, IsTrue, Some, None, codes, decimal, Option, flat_map, bytes_eq, sym, refl, ap, ◌∙◌, subst, inl, inr, arith, le-leb, eqb_tells, nat_tests, and_from, and_parts, cases_Bool, false≢true, bytes_eq-Decides, digits, AllByRecursion, list_all}
use Rattle.std.specs.Fmt.{signed_decimal, digits_onto, digit_glyph}
use Rattle.std.proofs.lemmas.List.Folds.{list_all-append}
use Rattle.hex.specs.Hex.{encode_lower, encode_with, lower_digits}
use Rattle.percent_encoding.specs.Percent.{percent_encode_byte}
use Rattle.vc_base.specs.declared.dict_method.DictMethod.{DictMethod}
use Rattle.vc_base.specs.declared.dict_method.DictMethod.TheVariants.{DtSet, DtBag, DtOset, DtObag, DtList, DtStack, DtQueue}
use Rattle.vc_seg.specs.declared.profile_row.ProfileRow.{ProfileRow}
use Rattle.vc_seg.specs.declared.stat.Stat.{Stat}
use Rattle.vc_script.specs.declared.place.Place.{Place}
use Rattle.vc_script.specs.declared.refusal.Refusal.{Refusal}
use Rattle.vc_script.specs.declared.refusal.Refusal.TheVariants.{FreedAt}
use Rattle.vc_script.specs.declared.reply.Reply.{Reply}
use Rattle.vc_script.specs.declared.reply.Reply.TheVariants.{Opened, Closed, Cleared, Compacted, At, Freed, Written, Hex, Size, AddrIn, AddrNone, SegmentIs, SegmentNone, Stats, SegmentList, BlockList, Poked, Damaged, Watched, Rows, New, Old, Gone, Out, Found, Nothing, Objects, Number, Views, MethodIs, Emptied, ShutDown, Refused}
use Rattle.vc_script.specs.Words.{is_digit, is_letter, is_name, is_name_byte}
use Rattle.vc_script.specs.Proper.{IsName, IsSite}
use Rattle.vc_script.specs.ProperReply.{IsProperReply, is_row_site}
use Rattle.vc_script.specs.Shown.{is_plain, shown_bytes, shown_byte}
use Rattle.vc_script.specs.Print.{printed, watch_text, label_text, viewed_text, method_word, refusal_text, segment_text, block_text, damage_text, row_text, object_text, stat_numbers}

-- a byte that isn't a newline
abbrev pub stays : ℕ → Bool
stays b = not (eqb b 10)

-- no byte is a newline
abbrev pub OneLine : List ℕ → Type 0
OneLine xs = list_all stays xs ≡ true

-- a byte of a kind that a newline isn't of
stays-kind : (kind : ℕ → Bool) (b : ℕ) → kind 10 ≡ false → kind b ≡ true → stays b ≡ true
stays-kind kind b newline is_b =
    elim (eqb_tells b 10) [
      | inl w ↦ absurd (false≢true (sym newline ∙ (sym (ap kind w.1) ∙ is_b)))
      | inr w ↦ ap not w.0
    ]

line-kind : (kind : ℕ → Bool) → kind 10 ≡ false → (xs : List ℕ) → list_all kind xs ≡ true → OneLine xs
line-kind kind newline [] each = refl
line-kind kind newline (x ∷ xs) each =
    let parts = and_parts (kind x) (list_all kind xs) each in
    and_from (stays x) (list_all stays xs) (stays-kind kind x newline parts.0) (line-kind kind newline xs parts.1)

pub line-both : (xs ys : List ℕ) → OneLine xs → OneLine ys → OneLine (xs ++ ys)
line-both xs ys first second = list_all-append stays xs ys ∙ and_from (list_all stays xs) (list_all stays ys) first second

line-flat_map : {X : Type 0} (f : X → List ℕ) (P : X → Type 0) → ((x : X) → P x → OneLine (f x)) → (xs : List X) → AllByRecursion P xs → OneLine (flat_map f xs)
line-flat_map f P each [] all = refl
line-flat_map f P each (x ∷ xs) all = line-both (f x) (flat_map f xs) (each x all.0) (line-flat_map f P each xs all.1)

all-of : {X : Type 0} (xs : List X) → AllByRecursion (λ x. Unit {0}) xs
all-of [] = tt
all-of (x ∷ xs) = (tt, all-of xs)

-- numbers are printed as digits
is_digit-glyph : (d : ℕ) → d < 10 → is_digit (digit_glyph false d) ≡ true
is_digit-glyph d below =
    ap (λ t. is_digit (cond t (48 + d) (87 + d))) (le-leb (suc d) 10 (omega arith))
    ∙ and_from (leb 48 (48 + d)) (leb (48 + d) 57) (le-leb 48 (48 + d) (omega arith)) (le-leb (48 + d) 57 (omega arith))

list_all-digits_onto : (k n : ℕ) (behind : List ℕ) → list_all is_digit behind ≡ true → list_all is_digit (digits_onto k 10 false n behind) ≡ true
list_all-digits_onto zero n behind each = each
list_all-digits_onto (suc k) n behind each =
    let more = and_from (is_digit (digit_glyph false (n % 10))) (list_all is_digit behind) (is_digit-glyph (n % 10) (omega arith)) each in
    elim (eqb (n / 10) 0) as (λ t. list_all is_digit (cond t (digit_glyph false (n % 10) ∷ behind) (digits_onto k 10 false (n / 10) (digit_glyph false (n % 10) ∷ behind))) ≡ true) [
      | true ↦ more
      | false ↦ list_all-digits_onto k (n / 10) (digit_glyph false (n % 10) ∷ behind) more
    ]

pub list_all-decimal : (n : ℕ) → list_all is_digit (decimal n) ≡ true
unfolding digits
list_all-decimal n = list_all-digits_onto 64 n [] refl

pub line-decimal : (n : ℕ) → OneLine (decimal n)
line-decimal n = line-kind is_digit refl (decimal n) (list_all-decimal n)

line-signed : (z : ℤ) → OneLine (signed_decimal z)
line-signed (pos n) = line-decimal n
line-signed (negsuc n) = line-decimal (suc n)

-- the bytes of a name are name bytes
pub list_all-name : (name : List ℕ) → IsName name → list_all is_name_byte name ≡ true
list_all-name [] proper = cc
list_all-name (b ∷ bs) proper =
    let parts = and_parts (is_letter b) (list_all is_name_byte bs && leb (length bs) 31) proper in
    let rest = and_parts (list_all is_name_byte bs) (leb (length bs) 31) parts.1 in
    and_from (is_name_byte b) (list_all is_name_byte bs) (ap (λ t. t || (is_digit b || (eqb b 95 || eqb b 46))) parts.0) rest.0

pub line-name : (name : List ℕ) → IsName name → OneLine name
line-name name proper = line-kind is_name_byte refl name (list_all-name name proper)

line-label : (label : Option (List ℕ)) → IsSite label → OneLine (label_text label)
line-label None proper = refl
line-label (Some label) proper = line-name label proper

line-viewed : (viewed : Option (List ℕ)) → IsSite viewed → OneLine (viewed_text viewed)
line-viewed None proper = refl
line-viewed (Some name) proper = line-name name proper

line-watch : (line : Option ℕ) → OneLine (watch_text line)
line-watch None = refl
line-watch (Some line) = line-both (codes " watched ") (decimal line) refl (line-decimal line)

line-method : (method : DictMethod) → OneLine (method_word method)
line-method DtSet = refl
line-method DtBag = refl
line-method DtOset = refl
line-method DtObag = refl
line-method DtList = refl
line-method DtStack = refl
line-method DtQueue = refl

-- the clause of the line is named, so that the others are checked for each refusal
line-refusal : (why : Refusal) → OneLine (refusal_text why)
line-refusal (FreedAt line) = line-both (codes "freed at line ") (decimal line) refl (line-decimal line)
line-refusal why = refl

-- a digit of a table without newlines
stays-at : (table : List ℕ) → OneLine table → (i : ℕ) → stays (get_or table i 0) ≡ true
stays-at [] all i = refl
stays-at (x ∷ xs) all zero = (and_parts (stays x) (list_all stays xs) all).0
stays-at (x ∷ xs) all (suc i) = stays-at xs (and_parts (stays x) (list_all stays xs) all).1 i

line-hex : (bytes : List ℕ) → OneLine (encode_lower bytes)
unfolding encode_with
line-hex [] = refl
line-hex (b ∷ bs) =
    and_from (stays (get_or lower_digits (b / 16) 0)) (list_all stays (get_or lower_digits (b % 16) 0 ∷ encode_lower bs)) (stays-at lower_digits refl (b / 16))
    (and_from (stays (get_or lower_digits (b % 16) 0)) (list_all stays (encode_lower bs)) (stays-at lower_digits refl (b % 16)) (line-hex bs))

not-ten : (n : ℕ) → 10 < n → eqb n 10 ≡ false
not-ten n above = grind (arith, nat_tests)

stays-glyph : (d : ℕ) → stays (digit_glyph true d) ≡ true
stays-glyph d =
    elim (cases_Bool (leb (suc d) 10)) [
      | inl few ↦ rw few (ap not (not-ten (48 + d) (omega arith)))
      | inr more ↦ rw more (ap not (not-ten (55 + d) (omega arith)))
    ]

line-escape : (b : ℕ) → OneLine (percent_encode_byte b)
unfolding percent_encode_byte
line-escape b =
    and_from (stays (digit_glyph true (b / 16 % 16))) (list_all stays (digit_glyph true (b % 16) ∷ [])) (stays-glyph (b / 16 % 16)) (and_from (stays (digit_glyph true (b % 16))) true (stays-glyph (b % 16)) refl)

line-shown_byte : (b : ℕ) → OneLine (shown_byte b)
line-shown_byte b =
    elim (cases_Bool (is_plain b)) [
      | inl plain ↦ rw plain (and_from (stays b) true (stays-kind is_plain b refl plain) refl)
      | inr other ↦ rw other (line-escape b)
    ]

line-shown : (bytes : List ℕ) → OneLine (shown_bytes bytes)
line-shown bytes = line-flat_map shown_byte (λ b. Unit {0}) (λ b any. line-shown_byte b) bytes (all-of bytes)

-- a text, a word and a number
labelled : (xs label : List ℕ) (n : ℕ) → OneLine xs → OneLine label → OneLine (xs ++ label ++ decimal n)
labelled xs label n first second = line-both (xs ++ label) (decimal n) (line-both xs label first second) (line-decimal n)

line-segment : (s : ℕ × ℕ) → OneLine (segment_text s)
line-segment s = labelled (codes " " ++ decimal s.0) (codes ":") s.1 (line-both (codes " ") (decimal s.0) refl (line-decimal s.0)) refl

line-block : (b : Option (List ℕ) × Place × ℕ) → IsSite b.0 → OneLine (block_text b)
line-block b proper =
    labelled (codes " " ++ label_text b.0 ++ codes "@" ++ decimal b.1.seg ++ codes ":" ++ decimal b.1.off) (codes "+") b.2
    (labelled (codes " " ++ label_text b.0 ++ codes "@" ++ decimal b.1.seg) (codes ":") b.1.off
    (labelled (codes " " ++ label_text b.0) (codes "@") b.1.seg (line-both (codes " ") (label_text b.0) refl (line-label b.0 proper)) refl) refl) refl

line-damage : (d : List ℕ × ℤ) → IsName d.0 → OneLine (damage_text d)
line-damage d proper =
    line-both (codes " " ++ d.0 ++ codes ":") (signed_decimal d.1)
    (line-both (codes " " ++ d.0) (codes ":") (line-both (codes " ") d.0 refl (line-name d.0 proper)) refl) (line-signed d.1)

line-site : (site : List ℕ) → IsTrue (is_row_site site) → OneLine site
line-site site proper =
    elim (cases_Bool (is_name site)) [
      | inl name ↦ line-name site name
      | inr other ↦ subst OneLine (sym ((bytes_eq-Decides site (codes "-")).0 (sym (ap (λ t. t || bytes_eq site (codes "-")) other) ∙ proper))) refl
    ]

line-row : (r : ProfileRow) → IsTrue (is_row_site r.site) → OneLine (row_text r)
line-row r proper =
    labelled (codes " " ++ r.site ++ codes "=" ++ decimal r.blocks ++ codes "," ++ decimal r.bytes) (codes ",") r.peak
    (labelled (codes " " ++ r.site ++ codes "=" ++ decimal r.blocks) (codes ",") r.bytes
    (labelled (codes " " ++ r.site) (codes "=") r.blocks (line-both (codes " ") r.site refl (line-site r.site proper)) refl) refl) refl

line-object : (object : List ℕ) → OneLine (object_text object)
line-object object = line-both (codes " ") (shown_bytes object) refl (line-shown object)

-- a list behind a word and the number of its items
listed : {X : Type 0} (word : List ℕ) (f : X → List ℕ) (P : X → Type 0) (xs : List X) → OneLine word → ((x : X) → P x → OneLine (f x)) → AllByRecursion P xs → OneLine (word ++ decimal (length xs) ++ flat_map f xs)
listed word f P xs first each all =
    line-both (word ++ decimal (length xs)) (flat_map f xs) (line-both word (decimal (length xs)) first (line-decimal (length xs))) (line-flat_map f P each xs all)

named : (name text : List ℕ) → IsName name → OneLine text → OneLine (name ++ text)
named name text proper rest = line-both name text (line-name name proper) rest

counted : (name text : List ℕ) (n : ℕ) → IsName name → OneLine text → OneLine (name ++ text ++ decimal n)
counted name text n proper rest = labelled name text n (line-name name proper) rest

watched : (xs : List ℕ) (line : Option ℕ) → OneLine xs → OneLine (xs ++ watch_text line)
watched xs line first = line-both xs (watch_text line) first (line-watch line)

line-stat : (s : Stat) → OneLine (stat_numbers s)
line-stat s =
    let one : List ℕ = codes "busy " ++ decimal s.busy in
    let two : List ℕ = one ++ codes " free " ++ decimal s.free in
    let three : List ℕ = two ++ codes " sbusy " ++ decimal s.sbusy in
    let four : List ℕ = three ++ codes " sfree " ++ decimal s.sfree in
    let five : List ℕ = four ++ codes " mbusy " ++ decimal s.mbusy in
    let six : List ℕ = five ++ codes " mfree " ++ decimal s.mfree in
    let seven : List ℕ = six ++ codes " segs " ++ decimal s.segs in
    labelled seven (codes " extent ") s.extent (labelled six (codes " segs ") s.segs
    (labelled five (codes " mfree ") s.mfree (labelled four (codes " mbusy ") s.mbusy
    (labelled three (codes " sfree ") s.sfree (labelled two (codes " sbusy ") s.sbusy
    (labelled one (codes " free ") s.free (line-both (codes "busy ") (decimal s.busy) refl (line-decimal s.busy)) refl) refl) refl) refl) refl) refl) refl

-- no reply holds a newline
pub line-printed : (r : Reply) → IsProperReply r → OneLine (printed r)
line-printed (Opened name) proper = named name (codes " open") proper refl
line-printed (Closed region count) proper = counted region (codes " closed ") count proper refl
line-printed (Cleared region) proper = named region (codes " cleared") proper refl
line-printed (Compacted region count) proper = counted region (codes " compacted ") count proper refl
line-printed (At block place line) proper =
    watched (block ++ codes " " ++ decimal place.seg ++ codes ":" ++ decimal place.off) line (labelled (block ++ codes " " ++ decimal place.seg) (codes ":") place.off (counted block (codes " ") place.seg proper refl) refl)
line-printed (Freed block line) proper = watched (block ++ codes " freed") line (named block (codes " freed") proper refl)
line-printed (Written block count line) proper = watched (block ++ codes " written " ++ decimal count) line (counted block (codes " written ") count proper refl)
line-printed (Hex block bytes) proper = line-both (block ++ codes " ") (encode_lower bytes) (named block (codes " ") proper refl) (line-hex bytes)
line-printed (Size block size) proper = counted block (codes " ") size proper refl
line-printed (AddrIn block off) proper =
    labelled (codes "addr " ++ label_text block) (codes " ") off (line-both (codes "addr ") (label_text block) refl (line-label block proper)) refl
line-printed AddrNone proper = refl
line-printed (SegmentIs number size) proper =
    labelled (codes "segment " ++ decimal number) (codes " ") size (line-both (codes "segment ") (decimal number) refl (line-decimal number)) refl
line-printed SegmentNone proper = refl
line-printed (Stats s) proper = line-stat s
line-printed (SegmentList items) proper = listed (codes "segments ") segment_text (λ s. Unit {0}) items refl (λ s any. line-segment s) (all-of items)
line-printed (BlockList items) proper = listed (codes "blocks ") block_text (λ b. IsSite b.0) items refl line-block proper
line-printed (Poked block line) proper = watched (block ++ codes " poked") line (named block (codes " poked") proper refl)
line-printed (Damaged items) proper = listed (codes "check ") damage_text (λ d. IsName d.0) items refl line-damage proper
line-printed (Watched block) proper = named block (codes " watched") proper refl
line-printed (Rows items) proper = listed (codes "profile ") row_text (λ r. IsTrue (is_row_site r.site)) items refl line-row proper
line-printed (New object) proper = line-both (codes "new ") (shown_bytes object) refl (line-shown object)
line-printed (Old object) proper = line-both (codes "old ") (shown_bytes object) refl (line-shown object)
line-printed (Gone object) proper = line-both (codes "gone ") (shown_bytes object) refl (line-shown object)
line-printed (Out object) proper = line-both (codes "out ") (shown_bytes object) refl (line-shown object)
line-printed (Found object) proper = line-both (codes "found ") (shown_bytes object) refl (line-shown object)
line-printed Nothing proper = refl
line-printed (Objects items) proper =
    line-both (decimal (length items)) (flat_map object_text items) (line-decimal (length items)) (line-flat_map object_text (λ o. Unit {0}) (λ o any. line-object o) items (all-of items))
line-printed (Number count) proper = line-decimal count
line-printed (Views dict viewed) proper = line-both (dict ++ codes " views ") (viewed_text viewed) (named dict (codes " views ") proper.0 refl) (line-viewed viewed proper.1)
line-printed (MethodIs dict method) proper = line-both (dict ++ codes " method ") (method_word method) (named dict (codes " method ") proper refl) (line-method method)
line-printed (Emptied dict count) proper = counted dict (codes " empty ") count proper refl
line-printed (ShutDown dict) proper = named dict (codes " shut") proper refl
line-printed (Refused why) proper = line-both (codes "refused: ") (refusal_text why) refl (line-refusal why)
