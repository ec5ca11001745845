-- Generated commands are proper.
use Rattle.vc_base.proofs.Common.{ℕ, ◌%◌, ◌^◌, ◌<◌, ◌≤◌, Bool, true, false, cond, eqb, ltb, leb, List, [], ◌∷◌, ◌++◌, map, length, decimal, refl, arith, lit<, le-leb, and_from, AllByRecursion, list_all}
use Rattle.std.proofs.lemmas.Fmt.{length-decimal-le}
use Rattle.vc_script.proofs.Heads.{digit-name}
use Rattle.vc_script.proofs.Newlines.{list_all-decimal}
use Rattle.vc_script.specs.Proper.{IsName, IsProperCommand}
use Rattle.vc_script.specs.Words.{is_name_byte}
use Rattle.vc_script.specs.declared.command.Command.{Command}
use Rattle.vc_script.specs.declared.tool.Tool.{Tool}
use Rattle.vc_script.specs.declared.tool.Tool.TheVariants.{Dtrun, Vmreplay}
use Rattle.vc_generate.specs.Generated.{block_command, block_commands, generated_block, closing, commands_of_seed, is_resize, is_taken, none_taken, object_command, opening, place_in_word, taken_after}
use Rattle.vc_generate.specs.Words.{generated_words}

block_is_name : (word : ℕ) → IsName (generated_block word)
block_is_name word =
    let digits = decimal (place_in_word word) in
    let small : place_in_word word < 10 ^ 3 = omega arith in
    let short : length digits ≤ 31 =
    let at_most : length digits ≤ 3 = length-decimal-le 3 (place_in_word word) (omega arith) small (omega arith) in omega arith in
    and_from (list_all is_name_byte digits) (leb (length digits) 31) (digit-name digits (list_all-decimal (place_in_word word))) (le-leb _ _ short)

taken_proper : (resize : Bool) (moved freed : Command) → IsProperCommand moved → IsProperCommand freed → IsProperCommand (cond resize moved freed)
taken_proper true moved freed first second = first
taken_proper false moved freed first second = second

proper_block : (taken : Bool) (word : ℕ) → IsProperCommand (block_command taken word)
proper_block false word = (refl, block_is_name word, omega arith, tt)
proper_block true word = taken_proper (is_resize word) _ _ (refl, block_is_name word, omega arith) (refl, block_is_name word)

proper_object : (word : ℕ) → IsProperCommand (object_command word)
proper_object word = taken_proper (ltb (word % 4) 2) _ _ refl (taken_proper (eqb (word % 4) 2) _ _ refl refl)

proper_blocks : (taken : List Bool) (words : List ℕ) → AllByRecursion IsProperCommand (block_commands taken words)
unfolding block_commands
proper_blocks taken [] = tt
proper_blocks taken (word ∷ words) = (proper_block (is_taken taken (place_in_word word)) word, proper_blocks (taken_after taken word) words)

proper_objects : (words : List ℕ) → AllByRecursion IsProperCommand (map object_command words)
proper_objects [] = tt
proper_objects (word ∷ words) = (proper_object word, proper_objects words)

both : (first second : List Command) → AllByRecursion IsProperCommand first → AllByRecursion IsProperCommand second →
    AllByRecursion IsProperCommand (first ++ second)
both [] second begun ended = ended
both (c ∷ cs) second begun ended = (begun.0, both cs second begun.1 ended)

-- each command of a tool
pub proper_generated : (tool : Tool) (count seed : ℕ) → AllByRecursion IsProperCommand (commands_of_seed tool count seed)
unfolding commands_of_seed
proper_generated Vmreplay count seed =
    let words = generated_words seed count in
    both (opening Vmreplay ++ block_commands none_taken words) (closing Vmreplay)
    (both (opening Vmreplay) (block_commands none_taken words) ((refl, lit< tt), tt) (proper_blocks none_taken words)) (refl, tt)
proper_generated Dtrun count seed =
    let words = generated_words seed count in
    both (opening Dtrun ++ map object_command words) (closing Dtrun)
    (both (opening Dtrun) (map object_command words) ((refl, lit< tt), ((refl, refl, lit< tt), tt)) (proper_objects words)) (refl, (refl, tt))
