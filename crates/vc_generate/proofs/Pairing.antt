-- Generated commands pair up.
use Rattle.vc_base.proofs.Common.{◌≡◌, ℕ, ◌<◌, Bool, true, false, cond, not, List, [], ◌∷◌, ◌++◌, length, codes, decimal, bytes_eq, sym, refl, ap, ◌∙◌, inl, inr, arith, length-set, get_or-set_other, get_or-set_same, and_from, cases_Bool, cases_eq, length-replicate, bytes_eq-Decides}
use Rattle.std.proofs.lemmas.Fmt.{decimal_injective}
use Rattle.std.proofs.lemmas.List.{get_or-replicate}
use Rattle.vc_base.proofs.Texts.{own_bytes}
use Rattle.vc_script.specs.declared.command.Command.TheVariants.{Free, Resize}
use Rattle.vc_script.specs.declared.tool.Tool.TheVariants.{Vmreplay}
use Rattle.vc_generate.specs.Generated.{block_command, block_commands, generated_block, closing, commands_of_seed, is_resize, is_taken, is_taken_after, none_taken, place_in_word, taken_after}
use Rattle.vc_generate.specs.Pairs.{are_paired, fits, stands_after}
use Rattle.vc_generate.specs.Words.{generated_words}

-- the block of a place
abbrev block_at : ℕ → List ℕ
block_at place = codes "x" ++ decimal place

other_block : (p q : ℕ) → p < 256 → q < 256 → (q ≡ p → ⊥) → bytes_eq (block_at p) (block_at q) ≡ false
other_block p q p_small q_small other =
    elim (cases_Bool (bytes_eq (block_at p) (block_at q))) [
      | inl same ↦
          let digits : decimal p ≡ decimal q =
          let e = (bytes_eq-Decides (block_at p) (block_at q)).0 same in cc in
          absurd (other (sym (decimal_injective p q (omega arith) (omega arith) digits)))
      | inr differ ↦ differ
    ]

resized_or_freed : (resize : Bool) (region block : List ℕ) (size : ℕ) →
    stands_after block true (cond resize (Resize region block size true) (Free region block)) ≡ resize
resized_or_freed true region block size = refl
resized_or_freed false region block size = rw (own_bytes block) refl

others_stay : (resize stood : Bool) (region block other : List ℕ) (size : ℕ) → bytes_eq block other ≡ false →
    stands_after other stood (cond resize (Resize region block size true) (Free region block)) ≡ stood
others_stay true stood region block other size differ = refl
others_stay false stood region block other size differ = rw differ refl

fits_both : (resize : Bool) (stands : List ℕ → Bool) (region block : List ℕ) (size : ℕ) → stands block ≡ true →
    fits stands (cond resize (Resize region block size true) (Free region block)) ≡ true
fits_both true stands region block size stood = stood
fits_both false stands region block size stood = stood

-- the block of a word's place behind its command
after_same : (taken : Bool) (word : ℕ) → stands_after (generated_block word) taken (block_command taken word) ≡ is_taken_after taken word
after_same false word = rw (own_bytes (generated_block word)) refl
after_same true word = resized_or_freed (is_resize word) _ _ _

-- every other block
after_other : (taken stood : Bool) (word : ℕ) (other : List ℕ) → bytes_eq (generated_block word) other ≡ false →
    stands_after other stood (block_command taken word) ≡ stood
after_other false stood word other differ = rw differ refl
after_other true stood word other differ = others_stay (is_resize word) stood _ _ other _ differ

fits_now : (taken : Bool) (stands : List ℕ → Bool) (word : ℕ) → stands (generated_block word) ≡ taken → fits stands (block_command taken word) ≡ true
fits_now false stands word stood = ap not stood
fits_now true stands word stood = fits_both (is_resize word) stands _ _ _ stood

-- each place is taken where its block stands
record Agrees (stands : List ℕ → Bool) (taken : List Bool) : Type 0 where
  places : length taken ≡ 256
  each : (p : ℕ) → p < 256 → stands (block_at p) ≡ is_taken taken p

agrees_after : (stands : List ℕ → Bool) (taken : List Bool) (word : ℕ) → Agrees stands taken →
    Agrees (λ block. stands_after block (stands block) (block_command (is_taken taken (place_in_word word)) word)) (taken_after taken word)
agrees_after stands taken word agrees =
    let place = place_in_word word in
    let now = is_taken taken place in
    let small : place < 256 = omega arith in
    let within : place < length taken = omega (arith, agrees.places) in
    record {
      places = length-set taken place (is_taken_after now word) ∙ agrees.places;
      each = λ p p_small.
          elim (cases_eq p place) [
            | inl same ↦
                rw same (
                ap (λ (stood : Bool). stands_after (generated_block word) stood (block_command now word)) (agrees.each place small)
                ∙ after_same now word
                ∙ sym (get_or-set_same taken place (is_taken_after now word) false within))
            | inr differ ↦
                after_other now (stands (block_at p)) word (block_at p) (other_block place p small p_small differ)
                ∙ agrees.each p p_small
                ∙ sym (get_or-set_other taken place p (is_taken_after now word) false differ)
          ];
    }

paired : (words : List ℕ) (stands : List ℕ → Bool) (taken : List Bool) → Agrees stands taken →
    are_paired stands (block_commands taken words ++ closing Vmreplay) ≡ true
unfolding block_commands
paired [] stands taken agrees = refl
paired (word ∷ words) stands taken agrees =
    let place = place_in_word word in
    let small : place < 256 = omega arith in
    and_from _ _
    (fits_now (is_taken taken place) stands word (agrees.each place small))
    (paired words (λ block. stands_after block (stands block) (block_command (is_taken taken place) word)) (taken_after taken word)
    (agrees_after stands taken word agrees))

none_stand : Agrees (λ block. false) none_taken
unfolding none_taken
none_stand = record {
  places = length-replicate 256 false;
  each = λ p small. sym (get_or-replicate 256 p false false small);
}

-- from the first command to the last
pub paired_generated : (count seed : ℕ) → are_paired (λ block. false) (commands_of_seed Vmreplay count seed) ≡ true
unfolding commands_of_seed
paired_generated count seed = paired (generated_words seed count) (λ block. false) none_taken none_stand
