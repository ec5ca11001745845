-- What a written slot and written words keep, together.
use Rattle.vc_base.proofs.Common.{◌≡◌, ℕ, ◌+◌, ◌*◌, ◌^◌, ◌<◌, ◌≢◌, [], length, is_some, IsSome, unwrap_or, sym, ap, ◌∙◌, subst, Blocks, HasBytes, WordWritten, body_of, bytes_at, with_number, with_word, word, word_at}
use Rattle.vc_base.specs.Cells.{put}
use Rattle.vc_base.proofs.CellsLemmas.{length-with_word, put_other, put_same, word-with_word_other, word-with_word_same, each}
use Rattle.vc_dtlist.proofs.WordLemmas.{word-kept, word-other_block}
use Rattle.vc_dthash.specs.ChainWrites.{Fronted, Pointed, SlotWritten}

-- a word of a block that stays
pub word-same : (b b' : Blocks) (a j : ℕ) → b' a ≡ b a → word_at b' a j ≡ word_at b a j
word-same b b' a j e = ap (λ o. word j (unwrap_or o [])) e

pub body-same : (b b' : Blocks) (a : ℕ) → b' a ≡ b a → body_of (bytes_at b' a) ≡ body_of (bytes_at b a)
body-same b b' a e = ap (λ o. body_of (unwrap_or o [])) e

-- a stored slot
pub SlotWritten-store : (old new : Blocks) (table k value : ℕ) → value < 2 ^ 64 → HasBytes old table (8 * k + 8) → new ≡ with_number table k value old → SlotWritten old new table k value
SlotWritten-store old new table k value fits has e =
    let bytes = bytes_at old table in
    let after = put table (with_word k value bytes) old in
    let here = put_same table (with_word k value bytes) old in
    let done : SlotWritten old after table k value = record {
      there = each (λ a. is_some (after a) ≡ is_some (old a)) table (ap is_some here ∙ sym has.there) (λ a ne. ap is_some (put_other a table (with_word k value bytes) old ne));
      sizes = each (λ a. length (bytes_at after a) ≡ length (bytes_at old a)) table (ap (λ o. length (unwrap_or o [])) here ∙ length-with_word k value bytes has.enough)
          (λ a ne. ap (λ o. length (unwrap_or o [])) (put_other a table (with_word k value bytes) old ne));
      others = λ a ne. put_other a table (with_word k value bytes) old ne;
      read = ap (λ o. word k (unwrap_or o [])) here ∙ word-with_word_same k value bytes fits has.enough;
      slots = λ j ne. ap (λ o. word j (unwrap_or o [])) here ∙ word-with_word_other j k value bytes ne has.enough;
    } in
    subst (λ z. SlotWritten old z table k value) (sym e) done

-- a chain that begins elsewhere, and one that goes on elsewhere
pub Pointed-slot : (old new : Blocks) (table k before to : ℕ) → SlotWritten old new table k to → before ≡ 0 → Pointed old new table k before to
Pointed-slot old new table k before to w e = record {
  there = w.there;
  sizes = w.sizes;
  bodies = λ a ne. body-same old new a (w.others a ne);
  others = λ a ne _. w.others a ne;
  words = λ a j ne _. word-same old new a j (w.others a ne);
  start = λ _. w.read;
  start_stays = λ ne. absurd (ne e);
  slots = w.slots;
  next = λ ne. absurd (ne e);
}

pub Pointed-word : (old new : Blocks) (table k before to : ℕ) → WordWritten old new before 2 to → before ≢ 0 → before ≢ table → IsSome (old before) → Pointed old new table k before to
Pointed-word old new table k before to w some apart here = record {
  there = w.written.there;
  sizes = w.written.sizes;
  bodies = λ a _. w.written.bodies a;
  others = λ a _ f. w.written.others a (f some);
  words = λ a j _ ne. word-kept old new before 2 to w a j ne;
  start = λ e. absurd (some e);
  start_stays = λ _. word-other_block old new before table k w.written (λ e. apart (sym e));
  slots = λ j _. word-other_block old new before table j w.written (λ e. apart (sym e));
  next = λ _. w.read here;
}

-- a holder before what its slot led to
pub Fronted-made : (b0 b1 b2 : Blocks) (table k at first : ℕ) → WordWritten b0 b1 at 2 first → SlotWritten b1 b2 table k at → at ≢ table → IsSome (b0 at) → first ≡ word_at b0 table k → Fronted b0 b2 table k at
Fronted-made b0 b1 b2 table k at first w s apart here e = record {
  there = λ a. s.there a ∙ w.written.there a;
  sizes = λ a. s.sizes a ∙ w.written.sizes a;
  bodies = λ a ne. body-same b1 b2 a (s.others a ne) ∙ w.written.bodies a;
  others = λ a ne other. s.others a ne ∙ w.written.others a other;
  words = λ a j ne nj. word-same b1 b2 a j (s.others a ne) ∙ word-kept b0 b1 at 2 first w a j nj;
  first = s.read;
  slots = λ j ne. s.slots j ne ∙ word-other_block b0 b1 at table j w.written (λ q. apart (sym q));
  next = word-same b1 b2 at 2 (s.others at apart) ∙ (w.read here ∙ e);
}
