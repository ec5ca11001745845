-- The row that a first word finds in the table of a tool.
use Rattle.vc_base.proofs.Common.{◌≡◌, ℕ, Bool, ⊎_elim, true, false, cond, ◌≢◌, ◌≤◌, ◌+◌, ltb, List, [], ◌∷◌, ◌++◌, length, take, Option, Some, None, Err, bytes_eq, refl, sym, ap, ◌∙◌, arith, nat_tests, and_parts, cases_lt, take_all, length-take-le, bytes_eq-Decides, false_from_ne_true, AllByRecursion, list_all}
use Rattle.vc_script.specs.declared.line_fault.LineFault.TheVariants.{UnknownCommand, WordCount}
use Rattle.vc_script.specs.declared.line_answer.LineAnswer.TheVariants.{Blank}
use Rattle.vc_script.specs.declared.tool.Tool.{Tool}
use Rattle.vc_script.specs.declared.tool.Tool.TheVariants.{Vmreplay, Dtrun}
use Rattle.vc_script.specs.Forms.{Form}
use Rattle.vc_script.specs.declared.first_word.OneRegion.TheVariants.{Close, Clear, Compact, Stat, Segments, Blocks, Check, Profile}
use Rattle.vc_script.specs.declared.first_word.BlockWord.TheVariants.{Free, Size, Watch}
use Rattle.vc_script.specs.declared.first_word.PlaceWord.TheVariants.{Addr, Segment}
use Rattle.vc_script.specs.declared.first_word.NumbersWord.TheVariants.{Align, Read}
use Rattle.vc_script.specs.declared.first_word.OneDictionary.TheVariants.{First, Last, Walk, Count, Empty, Shut}
use Rattle.vc_script.specs.declared.first_word.ObjectWord.TheVariants.{Insert, Append, Attach, Detach, Search, MatchKey, Next, Prev}
use Rattle.vc_script.specs.declared.first_word.RegionWord.{RegionWord}
use Rattle.vc_script.specs.declared.first_word.RegionWord.TheVariants.{Open, Alloc, Resize, Write, Poke, One, Block, Place, Numbers}
use Rattle.vc_script.specs.declared.first_word.DictionaryWord.{DictionaryWord}
use Rattle.vc_script.specs.declared.first_word.DictionaryWord.TheVariants.{Dict, Delete, View, Method, Alone, Object}
use Rattle.vc_script.specs.declared.first_word.FirstWord.{FirstWord}
use Rattle.vc_script.specs.declared.first_word.FirstWord.TheVariants.{Region, Dictionary}
use Rattle.vc_script.specs.Table.{Row, table, region_rows, own_rows, takes, command_of}
use Rattle.vc_script.specs.Answer.{answer_of, answer_to, command_in, is_comment, is_version_line, version_by_words}
use Rattle.vc_script.specs.FirstWords.{dictionary_spelling, region_spelling, spelling}

-- a word of both tools is found among the rows of regions
command_in-region : (tool : Tool) (w : RegionWord) (others : List (List ℕ)) → command_in (table tool) (region_spelling w) others ≡ command_in region_rows (region_spelling w) others
command_in-region tool Open others = refl
command_in-region tool (One (Close)) others = refl
command_in-region tool (One (Clear)) others = refl
command_in-region tool (One (Compact)) others = refl
command_in-region tool Alloc others = refl
command_in-region tool (Numbers (Align)) others = refl
command_in-region tool Resize others = refl
command_in-region tool (Block (Free)) others = refl
command_in-region tool Write others = refl
command_in-region tool (Numbers (Read)) others = refl
command_in-region tool (Block (Size)) others = refl
command_in-region tool (Place (Addr)) others = refl
command_in-region tool (Place (Segment)) others = refl
command_in-region tool (One (Stat)) others = refl
command_in-region tool (One (Segments)) others = refl
command_in-region tool (One (Blocks)) others = refl
command_in-region tool Poke others = refl
command_in-region tool (One (Check)) others = refl
command_in-region tool (Block (Watch)) others = refl
command_in-region tool (One (Profile)) others = refl

-- a word of dictionaries is none of these
command_in-own : (tool : Tool) (w : DictionaryWord) (others : List (List ℕ)) → command_in (table tool) (dictionary_spelling w) others ≡ command_in (own_rows tool) (dictionary_spelling w) others
command_in-own tool Dict others = refl
command_in-own tool (Object (Insert)) others = refl
command_in-own tool (Object (Append)) others = refl
command_in-own tool (Object (Attach)) others = refl
command_in-own tool Delete others = refl
command_in-own tool (Object (Detach)) others = refl
command_in-own tool (Object (Search)) others = refl
command_in-own tool (Object (MatchKey)) others = refl
command_in-own tool (Alone (First)) others = refl
command_in-own tool (Alone (Last)) others = refl
command_in-own tool (Object (Next)) others = refl
command_in-own tool (Object (Prev)) others = refl
command_in-own tool (Alone (Walk)) others = refl
command_in-own tool (Alone (Count)) others = refl
command_in-own tool View others = refl
command_in-own tool Method others = refl
command_in-own tool (Alone (Empty)) others = refl
command_in-own tool (Alone (Shut)) others = refl

module _ (tool : Tool) (first : List ℕ) (others : List (List ℕ)) where
  pub found-region : (w : RegionWord) → first ≡ region_spelling w → command_in region_rows (region_spelling w) others ≡ command_in (table tool) first others
  found-region w spelled = sym (ap (λ word. command_in (table tool) word others) spelled ∙ command_in-region tool w others)

  pub found-own : (w : DictionaryWord) → first ≡ dictionary_spelling w → command_in (own_rows tool) (dictionary_spelling w) others ≡ command_in (table tool) first others
  found-own w spelled = sym (ap (λ word. command_in (table tool) word others) spelled ∙ command_in-own tool w others)

-- a word of no row is unknown
command_in-other : (rows : List Row) (first : List ℕ) (others : List (List ℕ)) → AllByRecursion (λ r. first ≢ r.word) rows → command_in rows first others ≡ Err UnknownCommand
command_in-other [] first others other = refl
command_in-other (r ∷ rows) first others other =
    let differs : bytes_eq first r.word ≡ false = false_from_ne_true (bytes_eq first r.word) (λ same. other.0 ((bytes_eq-Decides first r.word).0 same)) in
    ap (λ test. cond test (command_of r others) (command_in rows first others)) differs ∙ command_in-other rows first others other.1

other-rows : (first : List ℕ) (rows more : List Row) → AllByRecursion (λ r. first ≢ r.word) rows → AllByRecursion (λ r. first ≢ r.word) more → AllByRecursion (λ r. first ≢ r.word) (rows ++ more)
other-rows first [] more none others = others
other-rows first (r ∷ rows) more none others = (none.0, other-rows first rows more none.1 others)

-- a word that spells none is of no row
pub found-none : (tool : Tool) (first : List ℕ) (others : List (List ℕ)) → ((w : FirstWord) → first ≢ spelling w) → command_in (table tool) first others ≡ Err UnknownCommand
found-none tool first others none = command_in-other (table tool) first others (other-rows first region_rows (own_rows tool) regions (own tool)) where
  regions : AllByRecursion (λ r. first ≢ r.word) region_rows
  regions = (none (Region (Open)), (none (Region (One (Close))), (none (Region (One (Clear))), (none (Region (One (Compact))), (none (Region (Alloc)), (none (Region (Numbers (Align))), (none (Region (Resize)), (none (Region (Block (Free))), (none (Region (Write)), (none (Region (Numbers (Read))), (none (Region (Block (Size))), (none (Region (Place (Addr))), (none (Region (Place (Segment))), (none (Region (One (Stat))), (none (Region (One (Segments))), (none (Region (One (Blocks))), (none (Region (Poke)), (none (Region (One (Check))), (none (Region (Block (Watch))), (none (Region (One (Profile))), tt))))))))))))))))))))

  own : (tool : Tool) → AllByRecursion (λ r. first ≢ r.word) (own_rows tool)
  own Vmreplay = tt
  own Dtrun = (none (Dictionary (Dict)), (none (Dictionary (Object (Insert))), (none (Dictionary (Object (Append))), (none (Dictionary (Object (Attach))), (none (Dictionary (Delete)), (none (Dictionary (Object (Detach))), (none (Dictionary (Object (Search))), (none (Dictionary (Object (MatchKey))), (none (Dictionary (Alone (First))), (none (Dictionary (Alone (Last))), (none (Dictionary (Object (Next))), (none (Dictionary (Object (Prev))), (none (Dictionary (Alone (Walk))), (none (Dictionary (Alone (Count))), (none (Dictionary (View)), (none (Dictionary (Method)), (none (Dictionary (Alone (Empty))), (none (Dictionary (Alone (Shut))), tt))))))))))))))))))

-- the greatest number of words behind the first of a row
most : List Form → Option Form → ℕ
most forms None = length forms
most forms (Some last) = length forms + 1

-- no row takes five words behind its first
is_short : Row → Bool
unfolding most
is_short r = ltb (most r.forms r.last) 5

takes-many : (forms : List Form) (last : Option Form) (n : ℕ) → ltb (most forms last) 5 ≡ true → 5 ≤ n → takes forms last n ≡ false
unfolding most
takes-many forms None n short many = grind (arith, nat_tests)
takes-many forms (Some last) n short many = grind (arith, nat_tests)

command_of-many : (r : Row) (others : List (List ℕ)) → is_short r ≡ true → 5 ≤ length others → command_of r others ≡ Err WordCount
unfolding is_short
command_of-many r others short many = rw (takes-many r.forms r.last (length others) short many) refl

command_in-many : (rows : List Row) (first : List ℕ) (others more : List (List ℕ)) → list_all is_short rows ≡ true → 5 ≤ length others → 5 ≤ length more → command_in rows first others ≡ command_in rows first more
command_in-many [] first others more short many far = refl
command_in-many (r ∷ rows) first others more short many far =
    let parts = and_parts (is_short r) (list_all is_short rows) short in
    ap (λ read. cond (bytes_eq first r.word) read (command_in rows first others)) (command_of-many r others parts.0 many ∙ sym (command_of-many r more parts.0 far))
    ∙ ap (cond (bytes_eq first r.word) (command_of r more)) (command_in-many rows first others more parts.1 many far)

short-rows : (tool : Tool) → list_all is_short (table tool) ≡ true
unfolding is_short most
short-rows Vmreplay = refl
short-rows Dtrun = refl

-- more than one word behind `vc` is too many
version_by_words-many : (others more : List (List ℕ)) → 2 ≤ length others → 2 ≤ length more → version_by_words others ≡ version_by_words more
version_by_words-many [] more many far = absurd (grind (arith, many))
version_by_words-many (word ∷ []) more many far = absurd (grind (arith, many))
version_by_words-many (word ∷ another ∷ others) [] many far = absurd (grind (arith, far))
version_by_words-many (word ∷ another ∷ others) (one ∷ []) many far = absurd (grind (arith, far))
version_by_words-many (word ∷ another ∷ others) (one ∷ two ∷ more) many far = refl

-- six words of a line tell its answer
pub answer_to-front : (tool : Tool) (first : Bool) (words : List (List ℕ)) → answer_to tool first (take 6 words) ≡ answer_to tool first words
answer_to-front tool first [] = refl
answer_to-front tool first (word ∷ others) =
    ⊎_elim
    (λ few. ap (λ ws. answer_to tool first (word ∷ ws)) (take_all 5 others (omega arith)))
    (λ many.
    ap (λ version. cond (is_comment word) Blank (cond (is_version_line first word) version (answer_of (command_in (table tool) word (take 5 others)))))
    (version_by_words-many (take 5 others) others (omega (arith, length-take-le 5 others, many)) (omega (arith, many)))
    ∙ ap (λ read. cond (is_comment word) Blank (cond (is_version_line first word) (version_by_words others) (answer_of read))) (command_in-many (table tool) word (take 5 others) others (short-rows tool) (omega (arith, length-take-le 5 others)) (omega arith)))
    (cases_lt (length others) 6)
