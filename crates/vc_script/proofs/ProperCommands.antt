-- The commands that a line gives are proper.
use Rattle.vc_base.proofs.Common.{◌≡◌, ℕ, Bool, true, false, cond, cases_Bool, inl, inr, ◌==◌, ◌&&◌, ◌||◌, arith, nat_tests, codes, ◌≢◌, List, [], ◌∷◌, length, nat_abs, IfOk, OnOk, Some, None, Ok, Err, Option, Result, bytes_eq, sym, subst, AllByRecursion}
use Rattle.vc_script.specs.declared.command.Command.{Command}
use Rattle.vc_script.specs.declared.line_fault.LineFault.{LineFault}
use Rattle.vc_script.specs.declared.line_fault.LineFault.TheVariants.{UnknownVersion, WordCount}
use Rattle.vc_script.specs.declared.line_answer.LineAnswer.{LineAnswer}
use Rattle.vc_script.specs.declared.line_answer.LineAnswer.TheVariants.{Blank, Is, Version, Bad}
use Rattle.vc_script.specs.declared.tool.Tool.{Tool}
use Rattle.vc_script.specs.declared.tool.Tool.TheVariants.{Vmreplay, Dtrun}
use Rattle.vc_base.specs.declared.fault.OutOfMemory.{OutOfMemory}
use Rattle.vc_script.specs.Words.{words}
use Rattle.vc_script.specs.Forms.{Form, Name, Site, Number, SignedNumber, Address, Bytes, RegionMethod, DictionaryMethod, Mode, NameOrDash, Value, read_number, read_value}
use Rattle.vc_script.specs.Table.{Row, Values, command_of, dictionary_rows, command_made, own_rows, read_words, table, takes, values_of}
use Rattle.vc_script.specs.Answer.{answer, answer_of, answer_to, command_in, is_comment, version_by_words, version_answer}
use Rattle.vc_script.specs.Proper.{IsProperAddress, IsFaultOfWords, IsName, IsNumber, IsProperAnswer, IsProperCommand, IsSite, IsVersion}
use Rattle.vc_script.proofs.ProperWords.{Gives, Gives-read_address, Gives-read_bytes, Gives-read_dict_method, Gives-if, Gives-read_region_method, Gives-read_mode, Gives-read_name, Gives-read_name_or_dash, Gives-read_number, Gives-read_signed, Gives-read_site, Gives-then}

-- the value of a word of a form
abbrev IsProperValue : (form : Form) → Value form → Type 0
IsProperValue Name name = IsName name
IsProperValue Site site = IsName site
IsProperValue Number n = IsNumber n
IsProperValue SignedNumber n = IsNumber (nat_abs n)
IsProperValue Address place = IsProperAddress place
IsProperValue NameOrDash name = IsSite name
IsProperValue form value = Unit {0}

-- of a last word that may be missing
abbrev IsProperLast : (form : Form) → Option (Value form) → Type 0
IsProperLast form None = Unit {0}
IsProperLast form (Some value) = IsProperValue form value

-- of all words
abbrev AreProper : (forms : List Form) (last : Option Form) → Values forms last → Type 0
AreProper [] None values = Unit {0}
AreProper [] (Some form) value = IsProperLast form value
AreProper (form ∷ forms) last values = IsProperValue form values.0 × AreProper forms last values.1

Gives-read_value : (form : Form) (word : List ℕ) → Gives (IsProperValue form) (read_value form word)
Gives-read_value Name word = Gives-read_name word
Gives-read_value Site word = Gives-read_site word
Gives-read_value Number word = Gives-read_number word
Gives-read_value SignedNumber word = Gives-read_signed word
Gives-read_value Address word = Gives-read_address word
Gives-read_value Bytes word = Gives-read_bytes word
Gives-read_value RegionMethod word = Gives-read_region_method word
Gives-read_value DictionaryMethod word = Gives-read_dict_method word
Gives-read_value Mode word = Gives-read_mode word
Gives-read_value NameOrDash word = Gives-read_name_or_dash word

Gives-values_of : (forms : List Form) (last : Option Form) (others : List (List ℕ)) → Gives (AreProper forms last) (values_of forms last others)
Gives-values_of [] None others = tt
Gives-values_of [] (Some form) [] = tt
Gives-values_of [] (Some form) (word ∷ others) =
    Gives-then (IsProperValue form) (AreProper [] (Some form)) (read_value form word) (λ value. Ok (Some value)) (Gives-read_value form word) (λ value proper. proper)
Gives-values_of (form ∷ forms) last [] = tt
Gives-values_of (form ∷ forms) last (word ∷ others) =
    Gives-then (IsProperValue form) (AreProper (form ∷ forms) last) (read_value form word) _ (Gives-read_value form word) (λ value proper_value.
    Gives-then (AreProper forms last) (AreProper (form ∷ forms) last) (values_of forms last others) _ (Gives-values_of forms last others) (λ values proper_values.
    (proper_value, proper_values)))

Gives-read_words : (forms : List Form) (last : Option Form) (others : List (List ℕ)) → Gives (AreProper forms last) (read_words forms last others)
Gives-read_words forms last others =
    Gives-if (AreProper forms last) (takes forms last (length others)) (values_of forms last others) (Err WordCount) (λ _. Gives-values_of forms last others) tt

-- proper words make a proper command
abbrev IsProperRow : Row → Type 0
IsProperRow r = (values : Values r.forms r.last) → AreProper r.forms r.last values → IsProperCommand (command_made r.forms r.last r.make values)

IsSite-last : (site : Option (List ℕ)) → IsProperLast Site site → IsSite site
IsSite-last None proper = tt
IsSite-last (Some site) proper = proper

proper_dictionary_rows : AllByRecursion IsProperRow dictionary_rows
proper_dictionary_rows = (
  (λ values p. (p.0, p.1.1.0, p.1.1.1.0)),
  (
    (λ values p. p.0),
    (
      (λ values p. p.0),
      (
        (λ values p. p.0),
        (
          (λ values p. p.0),
          (
            (λ values p. p.0),
            (
              (λ values p. p.0),
              (
                (λ values p. p.0),
                (
                  (λ values p. p.0),
                  (
                    (λ values p. p.0),
                    (
                      (λ values p. p.0),
                      (
                        (λ values p. p.0),
                        (
                          (λ values p. p.0),
                          (
                            (λ values p. p.0),
                            (
                              (λ values p. (p.0, p.1.0)),
                              (
                                (λ values p. p.0),
                                (
                                  (λ values p. p.0),
                                  (
                                    (λ values p. p.0),
                                    tt,
                                  ),
                                ),
                              ),
                            ),
                          ),
                        ),
                      ),
                    ),
                  ),
                ),
              ),
            ),
          ),
        ),
      ),
    ),
  ),
)

proper_own_rows : (tool : Tool) → AllByRecursion IsProperRow (own_rows tool)
proper_own_rows Vmreplay = tt
proper_own_rows Dtrun = proper_dictionary_rows

proper_rows : (tool : Tool) → AllByRecursion IsProperRow (table tool)
proper_rows tool = (
  (λ values p. (p.0, p.1.1.0)),
  (
    (λ values p. p.0),
    (
      (λ values p. p.0),
      (
        (λ values p. p.0),
        (
          (λ values p. (p.0, p.1.0, p.1.1.0, IsSite-last values.1.1.1 p.1.1.1)),
          (
            (λ values p. (p.0, p.1.0, p.1.1.0, p.1.1.1.0)),
            (
              (λ values p. (p.0, p.1.0, p.1.1.0)),
              (
                (λ values p. (p.0, p.1.0)),
                (
                  (λ values p. (p.0, p.1.0, p.1.1.0)),
                  (
                    (λ values p. (p.0, p.1.0, p.1.1.0, p.1.1.1.0)),
                    (
                      (λ values p. (p.0, p.1.0)),
                      (
                        (λ values p. (p.0, p.1.0)),
                        (
                          (λ values p. (p.0, p.1.0)),
                          (
                            (λ values p. p.0),
                            (
                              (λ values p. p.0),
                              (
                                (λ values p. p.0),
                                (
                                  (λ values p. (p.0, p.1.0, p.1.1.0, p.1.1.1.0)),
                                  (
                                    (λ values p. p.0),
                                    (
                                      (λ values p. (p.0, p.1.0)),
                                      (
                                        (λ values p. p.0),
                                        proper_own_rows tool,
                                      ),
                                    ),
                                  ),
                                ),
                              ),
                            ),
                          ),
                        ),
                      ),
                    ),
                  ),
                ),
              ),
            ),
          ),
        ),
      ),
    ),
  ),
)

Gives-command_of : (r : Row) (others : List (List ℕ)) → IsProperRow r → Gives IsProperCommand (command_of r others)
Gives-command_of r others makes =
    Gives-then (AreProper r.forms r.last) IsProperCommand (read_words r.forms r.last others) (λ values. Ok (command_made r.forms r.last r.make values)) (Gives-read_words r.forms r.last others) makes

Gives-command_in : (rows : List Row) (first : List ℕ) (others : List (List ℕ)) → AllByRecursion IsProperRow rows → Gives IsProperCommand (command_in rows first others)
Gives-command_in [] first others each = tt
Gives-command_in (r ∷ rows) first others each =
    Gives-if IsProperCommand (bytes_eq first r.word) (command_of r others) (command_in rows first others) (λ _. Gives-command_of r others each.0) (Gives-command_in rows first others each.1)

IsProperAnswer-answer_of : (first : Bool) (read : Result Command LineFault) → Gives IsProperCommand read → IsProperAnswer first (answer_of read)
IsProperAnswer-answer_of first (Ok command) given = given
IsProperAnswer-answer_of first (Err fault) given = given

-- a number that tells a version is 1 or 2
is-version : (n : ℕ) → (n == 1) || (n == 2) ≡ true → IsVersion true n
is-version n is = (grind (arith, nat_tests, is), grind (arith, nat_tests, is))

IsProperAnswer-version_answer : (read : Result ℕ LineFault) → Gives IsNumber read → IsProperAnswer true (version_answer read)
IsProperAnswer-version_answer (Ok n) given =
    elim (cases_Bool ((n == 1) || (n == 2))) [
      | inl is ↦ subst (λ test. IsProperAnswer true (cond test (Version n) (Bad UnknownVersion))) (sym is) (is-version n is)
      | inr other ↦ subst (λ test. IsProperAnswer true (cond test (Version n) (Bad UnknownVersion))) (sym other) tt
    ]
IsProperAnswer-version_answer (Err fault) given = given

IsProperAnswer-version_by_words : (others : List (List ℕ)) → IsProperAnswer true (version_by_words others)
IsProperAnswer-version_by_words [] = tt
IsProperAnswer-version_by_words (word ∷ []) = IsProperAnswer-version_answer (read_number word) (Gives-read_number word)
IsProperAnswer-version_by_words (word ∷ more ∷ others) = tt

-- by whether the line is a comment, and whether it tells a version
IsProperAnswer-cond : (first comment is : Bool) (version read : LineAnswer) → IsProperAnswer true version → IsProperAnswer first read → IsProperAnswer first (cond comment Blank (cond (first && is) version read))
IsProperAnswer-cond first true is version read told proper = tt
IsProperAnswer-cond true false true version read told proper = told
IsProperAnswer-cond true false false version read told proper = proper
IsProperAnswer-cond false false is version read told proper = proper

IsProperAnswer-answer_to : (tool : Tool) (first : Bool) (ws : List (List ℕ)) → IsProperAnswer first (answer_to tool first ws)
IsProperAnswer-answer_to tool first [] = tt
IsProperAnswer-answer_to tool first (word ∷ others) =
    IsProperAnswer-cond first (is_comment word) (bytes_eq word (codes "vc")) (version_by_words others) (answer_of (command_in (table tool) word others)) (IsProperAnswer-version_by_words others)
    (IsProperAnswer-answer_of first (command_in (table tool) word others) (Gives-command_in (table tool) word others (proper_rows tool)))

pub IsProperAnswer-answer : (tool : Tool) (first : Bool) (line : List ℕ) → IsProperAnswer first (answer tool first line)
IsProperAnswer-answer tool first line = IsProperAnswer-answer_to tool first (words line)

-- every command that a line gives is proper
pub IsProperCommand-answer : (tool : Tool) (first : Bool) (line : List ℕ) (command : Command) → answer tool first line ≡ Is command → IsProperCommand command
IsProperCommand-answer tool first line command is = subst (IsProperAnswer first) is (IsProperAnswer-answer tool first line)

-- what is the answer, where a result is Ok, is proper
pub OnOk-proper : {T : Type 0} (tool : Tool) (first : Bool) (line : List ℕ) (r : Result T OutOfMemory) (a : LineAnswer) → OnOk r (a ≡ answer tool first line) → OnOk r (IsProperAnswer first a)
OnOk-proper tool first line (Ok done) a is = subst (IsProperAnswer first) (sym is) (IsProperAnswer-answer tool first line)
OnOk-proper tool first line (Err e) a is = tt

-- and none of the faults of cutting
pub not_bad : (first : Bool) (fault : LineFault) (r : Result LineAnswer OutOfMemory) → IfOk r (IsProperAnswer first) → ¬ IsFaultOfWords fault → r ≢ Ok (Bad fault)
not_bad first fault r proper other is = other (subst (λ (r : Result LineAnswer OutOfMemory). IfOk r (IsProperAnswer first)) is proper)
