-- How far the words of a text are counted.
use Rattle.vc_base.proofs.Common.{◌≡◌, ℕ, ◌+◌, ◌<◌, ◌≤◌, true, false, List, [], ◌∷◌, Result, Ok, length, drop, get_or, slice_range, All, ap, ◌∙◌, subst, arith, le-leb, lt-leb}
use Rattle.std.specs.List.{slice_split}
use Rattle.vc_base.specs.declared.fault.OutOfMemory.{OutOfMemory}
use Rattle.vc_model.specs.Discipline.{Discipline}
use Rattle.vc_dtdisc.specs.Shapes.{BuiltInKind}
use Rattle.vc_store.specs.Answers.{is_there}
use Rattle.vc_store.specs.Collections.{contents}
use Rattle.vc_store.specs.declared.collection.Collection.{Collection}
use Rattle.vc_store.specs.declared.put.Put.{Put}
use Rattle.words.specs.Counting.{Counts, count_each}
use Rattle.words.specs.Sets.{StaysWordSet}
use Rattle.words.specs.Text.{as_words, is_space, words_in}
use Rattle.words.proofs.Counted.{counts-along, counts-on, counts-refused, part-more, part-none, split-here, split-last}
use Rattle.words.proofs.Kept.{set-trans}

module _ {I : Type 0} {V : I → Type 0} (meaning : (x : I) × V x → Discipline) (text : List ℕ) (first : Collection BuiltInKind I V) where
  -- the words before the part that has begun are counted
  pub record SoFar (set : Collection BuiltInKind I V) (start i : ℕ) : Type 0 where
    pub begun : start ≤ i
    pub part : All (λ byte. is_space byte ≡ false) (slice_range text start i)
    pub counted : count_each (words_in text) (contents first).objects ≡ count_each (words_in (drop start text)) (contents set).objects
    pub stays : StaysWordSet meaning first set

  so-far-split : (set : Collection BuiltInKind I V) (start i : ℕ) → SoFar set start i → i < length text → get_or text i 0 ≤ 32
      → count_each (words_in text) (contents first).objects ≡ count_each (as_words (slice_range text start i ∷ slice_split is_space (drop (i + 1) text))) (contents set).objects
  so-far-split set start i so lt most =
      so.counted ∙ ap (λ ws. count_each ws (contents set).objects) (split-here text start i so.begun lt so.part (le-leb (get_or text i 0) 32 most))

  -- the part ends, and its word is counted
  pub so-far-ends : (set next : Collection BuiltInKind I V) (start i : ℕ) (answer : Put) → SoFar set start i → i < length text → get_or text i 0 ≤ 32 → is_there answer ≡ true
      → Counts (Ok answer) (as_words (slice_range text start i ∷ [])) (contents set) (contents next) → StaysWordSet meaning set next → SoFar next (i + 1) (i + 1)
  so-far-ends set next start i answer so lt most is counts stays = record {
    begun = omega arith;
    part = part-none text (i + 1);
    counted =
        so-far-split set start i so lt most
        ∙ counts-on answer (slice_range text start i) (slice_split is_space (drop (i + 1) text)) (contents set) (contents next) is counts;
    stays = set-trans meaning first set next so.stays stays;
  }

  -- it is refused
  pub so-far-refused : (set next : Collection BuiltInKind I V) (start i : ℕ) (answer : Put) → SoFar set start i → i < length text → get_or text i 0 ≤ 32 → is_there answer ≡ false
      → Counts (Ok answer) (as_words (slice_range text start i ∷ [])) (contents set) (contents next) → Counts (Ok answer) (words_in text) (contents first) (contents next)
  so-far-refused set next start i answer so lt most is counts =
      counts-along (Ok answer) (words_in text) (as_words (slice_range text start i ∷ slice_split is_space (drop (i + 1) text))) (contents first) (contents set) (contents next)
      (so-far-split set start i so lt most) (counts-refused answer (slice_range text start i) (slice_split is_space (drop (i + 1) text)) (contents set) (contents next) is counts)

  -- the part goes on
  pub so-far-goes : (set : Collection BuiltInKind I V) (start i : ℕ) → SoFar set start i → i < length text → 32 < get_or text i 0 → SoFar set start (i + 1)
  so-far-goes set start i so lt least = record {
    begun = let begun = so.begun in omega (arith, begun);
    part = part-more text start i so.begun lt so.part (lt-leb (get_or text i 0) 32 least);
    counted = so.counted;
    stays = so.stays;
  }

  -- the text ends
  pub so-far-last : (set next : Collection BuiltInKind I V) (start i : ℕ) (answer : Result Put OutOfMemory) → SoFar set start i → i ≡ length text
      → Counts answer (as_words (slice_range text start (length text) ∷ [])) (contents set) (contents next) → Counts answer (words_in text) (contents first) (contents next)
  so-far-last set next start i answer so end counts =
      counts-along answer (words_in text) (as_words (slice_range text start (length text) ∷ [])) (contents first) (contents set) (contents next)
      (so.counted ∙ ap (λ ws. count_each ws (contents set).objects) (split-last text start (subst (λ k. All (λ byte. is_space byte ≡ false) (slice_range text start k)) end so.part)))
      counts
