-- The dictionaries of an image, gone over one by one.
use Rattle.vc_base.proofs.Common.{◌≡◌, ℕ, ◌+◌, ◌*◌, ◌<◌, List, [], ◌∷◌, ◌++◌, Some, length, take, sym, ap, ◌∙◌, subst, arith, inl, inr, cases_lt, same_Some, take_all}
use Rattle.std.specs.Prelude.{slice_get}
use Rattle.std.proofs.lemmas.Grind.{flat_map-append, take_at_read}
use Rattle.std.proofs.lemmas.List.{append-nil}
use Rattle.std.proofs.lemmas.Option.{get_or_from_slice_get, slice_get-get_or, slice_get_within}
use Rattle.vc_base.specs.Cells.{Blocks}
use Rattle.vc_dtdisc.specs.Rules.{Rules}
use Rattle.vc_image_check.specs.Bytes.Contents.{dict_row_at, image_dict_count, image_segment_count, rows_of_image}
use Rattle.vc_image_check.specs.Bytes.Image.{DictRow, row_bytes}
use Rattle.vc_image_check.specs.Laws.Pairs.{items-get}
use Rattle.vc_image_check.specs.Laws.Words.{length-items}
use Rattle.vc_image_check.specs.Dicts.Sound.{IsSoundDict, own_of}
use Rattle.vc_image_check.specs.Dicts.Taken.{AreMarkedTaken, AreSoundBefore, IsFirstUnsoundDict, taken_by}

-- where each lies
pub length-rows : (bytes : List ℕ) → length (rows_of_image bytes) ≡ image_dict_count bytes
length-rows bytes = length-items dict_row_at row_bytes 36 (image_dict_count bytes) (20 + 8 * image_segment_count bytes) bytes

pub row-there : (bytes : List ℕ) (i : ℕ) → i < image_dict_count bytes → slice_get (rows_of_image bytes) i ≡ Some (dict_row_at (20 + 8 * image_segment_count bytes + 36 * i) bytes)
row-there bytes i lt =
    let long = length-rows bytes in
    slice_get-get_or (rows_of_image bytes) i (dict_row_at 0 bytes) (omega (arith, long, lt))
    ∙ ap Some (items-get dict_row_at 36 bytes (image_dict_count bytes) (20 + 8 * image_segment_count bytes) i (dict_row_at 0 bytes) lt)

module _ (kinds : List Rules) (b : Blocks) (rows : List DictRow) where
  -- the first so many are sound, and their blocks are taken
  pub record Passed (marks : List (List ℕ)) (i : ℕ) : Type 0 where
    pub before : AreSoundBefore kinds b rows i
    pub taken : AreMarkedTaken marks (taken_by b (take i rows))

  pub passed-start : (marks : List (List ℕ)) → AreMarkedTaken marks [] → Passed marks 0
  passed-start marks t = record { before = λ k r lt e. absurd (omega (arith, lt)); taken = t }

  taken-more : (i : ℕ) (r : DictRow) → slice_get rows i ≡ Some r → taken_by b (take (i + 1) rows) ≡ taken_by b (take i rows) ++ own_of b r
  taken-more i r e =
      ap (taken_by b) ((take_at_read rows i r (slice_get_within rows i r e)).1 ∙ ap (λ z. take i rows ++ z ∷ []) (get_or_from_slice_get rows i r r e))
      ∙ flat_map-append (own_of b) (take i rows) (r ∷ []) ∙ ap (λ z. taken_by b (take i rows) ++ z) (append-nil (own_of b r))

  pub passed-next : (mid new : List (List ℕ)) (i : ℕ) (r : DictRow) → slice_get rows i ≡ Some r → IsSoundDict kinds b (taken_by b (take i rows)) r
      → AreMarkedTaken new (taken_by b (take i rows) ++ own_of b r) → Passed mid i → Passed new (i + 1)
  passed-next mid new i r e sound taken p = record {
    before = λ k s lt there. elim (cases_lt k i) as (λ _. IsSoundDict kinds b (taken_by b (take k rows)) s) [
      | inl less ↦ p.before k s less there
      | inr more ↦
          let same : k ≡ i = omega (arith, lt, more) in
          subst (λ z. IsSoundDict kinds b (taken_by b (take z rows)) s) (sym same)
          (subst (IsSoundDict kinds b (taken_by b (take i rows))) (same_Some r s (sym e ∙ ap (slice_get rows) (sym same) ∙ there)) sound)
    ];
    taken = subst (AreMarkedTaken new) (sym (taken-more i r e)) taken;
  }

  pub passed-not : (mid : List (List ℕ)) (i : ℕ) (r : DictRow) → slice_get rows i ≡ Some r → (IsSoundDict kinds b (taken_by b (take i rows)) r → ⊥) → Passed mid i → IsFirstUnsoundDict kinds b rows i
  passed-not mid i r e never p = record { row = r; there = e; unsound = never; before = p.before }

  pub passed-end : (mid : List (List ℕ)) (i : ℕ) → length rows ≡ i → Passed mid i → AreSoundBefore kinds b rows (length rows) × AreMarkedTaken mid (taken_by b rows)
  passed-end mid i e p = (
    subst (AreSoundBefore kinds b rows) (sym e) p.before,
    subst (λ z. AreMarkedTaken mid (taken_by b z)) (take_all i rows (omega (arith, e))) p.taken,
  )
