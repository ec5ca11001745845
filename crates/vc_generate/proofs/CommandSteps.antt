-- Steps of the commands to come.
use Rattle.vc_base.proofs.Common.{◌≡◌, ℕ, suc, ◌+◌, ◌%◌, Bool, true, false, List, [], ◌∷◌, ◌++◌, map, length, drop, nat_lt, ◌==◌, sym, refl, ap, ◌∙◌, arith, length-append, length-map}
use Rattle.rand_pcg.specs.Pcg.{pcg32}
use Rattle.vc_script.specs.declared.command.Command.{Command}
use Rattle.vc_script.specs.declared.tool.Tool.{Tool}
use Rattle.vc_script.specs.declared.tool.Tool.TheVariants.{Dtrun, Vmreplay}
use Rattle.vc_generate.specs.Generated.{block_command, block_commands, closing, commands_of, commands_of_seed, is_taken, none_taken, object_command, opening, place_in_word, taken_after}
use Rattle.vc_generate.specs.Next.{is_object_next}
use Rattle.vc_generate.specs.ToCome.{to_come}
use Rattle.vc_generate.specs.Words.{source_of, generated_words}
use Rattle.vc_generate.proofs.WordSteps.{length-words}

-- a command of the opening
pub to_come-opening : (tool : Tool) (opened : ℕ) (taken : List Bool) (words : List ℕ) (closed : ℕ) (c : Command) →
    drop opened (opening tool) ≡ c ∷ drop (opened + 1) (opening tool) →
    to_come tool opened taken words closed ≡ c ∷ to_come tool (opened + 1) taken words closed
unfolding to_come
to_come-opening tool opened taken words closed c first =
    ap (λ (list : List Command). list ++ commands_of tool taken words ++ drop closed (closing tool)) first

no_words : (tool : Tool) (taken : List Bool) → commands_of tool taken [] ≡ []
unfolding block_commands
no_words Vmreplay taken = refl
no_words Dtrun taken = refl

-- behind the opening
opened_all : (tool : Tool) (opened : ℕ) (taken : List Bool) (words : List ℕ) (closed : ℕ) →
    drop opened (opening tool) ≡ [] →
    to_come tool opened taken words closed ≡ commands_of tool taken words ++ drop closed (closing tool)
unfolding to_come
opened_all tool opened taken words closed none =
    ap (λ (list : List Command). list ++ commands_of tool taken words ++ drop closed (closing tool)) none

-- behind the words too
words_all : (tool : Tool) (opened : ℕ) (taken : List Bool) (words : List ℕ) (closed : ℕ) →
    drop opened (opening tool) ≡ [] → words ≡ [] →
    to_come tool opened taken words closed ≡ drop closed (closing tool)
words_all tool opened taken words closed none no_word =
    opened_all tool opened taken words closed none
    ∙ ap (λ (list : List ℕ). commands_of tool taken list ++ drop closed (closing tool)) no_word
    ∙ ap (λ (list : List Command). list ++ drop closed (closing tool)) (no_words tool taken)

-- a word at vmreplay
pub to_come-block : (tool : Tool) (opened : ℕ) (taken : List Bool) (words : List ℕ) (closed word : ℕ) (rest : List ℕ) →
    tool ≡ Vmreplay → drop opened (opening tool) ≡ [] → words ≡ word ∷ rest →
    to_come tool opened taken words closed
    ≡ block_command (is_taken taken (place_in_word word)) word ∷ to_come tool opened (taken_after taken word) rest closed
unfolding block_commands
to_come-block Dtrun opened taken words closed word rest is none first = cc
to_come-block Vmreplay opened taken words closed word rest is none first =
    opened_all Vmreplay opened taken words closed none
    ∙ ap (λ (list : List ℕ). block_commands taken list ++ drop closed (closing Vmreplay)) first
    ∙ ap (λ (list : List Command). block_command (is_taken taken (place_in_word word)) word ∷ list)
    (sym (opened_all Vmreplay opened (taken_after taken word) rest closed none))

-- a word at dtrun
pub to_come-object : (tool : Tool) (opened : ℕ) (taken : List Bool) (words : List ℕ) (closed word : ℕ) (rest : List ℕ) →
    tool ≡ Dtrun → drop opened (opening tool) ≡ [] → words ≡ word ∷ rest →
    to_come tool opened taken words closed ≡ object_command word ∷ to_come tool opened taken rest closed
to_come-object Vmreplay opened taken words closed word rest is none first = cc
to_come-object Dtrun opened taken words closed word rest is none first =
    opened_all Dtrun opened taken words closed none
    ∙ ap (λ (list : List ℕ). map object_command list ++ drop closed (closing Dtrun)) first
    ∙ ap (λ (list : List Command). object_command word ∷ list) (sym (opened_all Dtrun opened taken rest closed none))

-- a command of the closing
pub to_come-closing : (tool : Tool) (opened : ℕ) (taken : List Bool) (words : List ℕ) (closed : ℕ) (c : Command) →
    drop opened (opening tool) ≡ [] → words ≡ [] →
    drop closed (closing tool) ≡ c ∷ drop (closed + 1) (closing tool) →
    to_come tool opened taken words closed ≡ c ∷ to_come tool opened taken words (closed + 1)
to_come-closing tool opened taken words closed c none no_word first =
    words_all tool opened taken words closed none no_word ∙ first
    ∙ ap (λ (list : List Command). c ∷ list) (sym (words_all tool opened taken words (closed + 1) none no_word))

-- none are left
pub to_come-end : (tool : Tool) (opened : ℕ) (taken : List Bool) (words : List ℕ) (closed : ℕ) →
    drop opened (opening tool) ≡ [] → words ≡ [] → drop closed (closing tool) ≡ [] →
    to_come tool opened taken words closed ≡ []
to_come-end tool opened taken words closed none no_word no_end = words_all tool opened taken words closed none no_word ∙ no_end

object_is_next : (low two : Bool) (word : ℕ) (rest : List Command) → nat_lt (word % 4) 2 ≡ low → (word % 4 == 2) ≡ two →
    is_object_next (object_command word ∷ rest) ≡ true
object_is_next true two word rest is_low is_two = rw is_low refl
object_is_next false true word rest is_low is_two = rw (is_low, is_two) refl
object_is_next false false word rest is_low is_two = rw (is_low, is_two) refl

-- a command at dtrun holds an object
pub is_object_next-to_come : (tool : Tool) (opened : ℕ) (taken : List Bool) (words : List ℕ) (closed word : ℕ) (rest : List ℕ) →
    tool ≡ Dtrun → drop opened (opening tool) ≡ [] → words ≡ word ∷ rest →
    is_object_next (to_come tool opened taken words closed) ≡ true
is_object_next-to_come tool opened taken words closed word rest is none first =
    ap is_object_next (to_come-object tool opened taken words closed word rest is none first)
    ∙ object_is_next _ _ word (to_come tool opened taken rest closed) refl refl

-- one command for each word
pub length-block_commands : (taken : List Bool) (words : List ℕ) → length (block_commands taken words) ≡ length words
unfolding block_commands
length-block_commands taken [] = refl
length-block_commands taken (word ∷ words) = ap suc (length-block_commands (taken_after taken word) words)

-- the commands of the words, and the fixed ones
pub length-generated : (tool : Tool) (count seed : ℕ) →
    length (commands_of_seed tool count seed) ≡ length (opening tool) + count + length (closing tool)
unfolding commands_of_seed generated_words
length-generated Vmreplay count seed =
    let words = length-block_commands none_taken (generated_words seed count) ∙ length-words pcg32 count (source_of seed) in
    grind (arith, length-append {A = Command}, words)
length-generated Dtrun count seed =
    let words = length-map (generated_words seed count) object_command ∙ length-words pcg32 count (source_of seed) in
    grind (arith, length-append {A = Command}, words)
