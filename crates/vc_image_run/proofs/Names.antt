-- No two dictionaries of an image have one name.
use Rattle.vc_base.proofs.Common.{◌≡◌, ◌≢◌, ℕ, ◌+◌, ◌<◌, ◌≤◌, ◌^◌, Bool, true, false, List, [], ◌∷◌, ◌++◌, map, length, take, drop, get_or, None, bytes_eq, sym, refl, ap, ◌∙◌, arith, add-one, length-map, length-take, lookup, map-append, bytes_eq-Decides}
use Rattle.std.proofs.Common.{take-suc}
use Rattle.std.proofs.lemmas.Fmt.{decimal_injective}
use Rattle.vc_commands.specs.declared.dict.entry.DictEntry.{DictEntry}
use Rattle.vc_dict.specs.declared.dict.Dict.{Dict}
use Rattle.vc_image_run.specs.Session.Copies.{copy_of}
use Rattle.vc_image_run.specs.Session.Entries.{entries_from, entry_of}
use Rattle.vc_image_run.specs.Session.Names.{dict_name}

names-apart : (m n : ℕ) → m < 2 ^ 64 → n < 2 ^ 64 → m ≢ n → bytes_eq (dict_name m) (dict_name n) ≡ false
names-apart m n p q other = by (bytes_eq (dict_name m) (dict_name n)) refl
  where
    by : (t : Bool) → bytes_eq (dict_name m) (dict_name n) ≡ t → bytes_eq (dict_name m) (dict_name n) ≡ false
    by false is = is
    by true is = absurd (other (decimal_injective m n p q (ap (drop 1) ((bytes_eq-Decides (dict_name m) (dict_name n)).0 is))))

-- the name of a later one isn't there
pub name-new : (n i : ℕ) (ds : List Dict) → n < 256 → i + length ds ≤ n → lookup (bytes_eq (dict_name (n + 1))) (entries_from i ds) ≡ None
name-new n i [] few later = refl
name-new n i (d ∷ ds) few later =
    rw (names-apart (n + 1) (i + 1) (omega (arith, few)) (omega (arith, few, later)) (λ e. absurd (omega (arith, e, later))))
    (name-new n (i + 1) ds few (omega (arith, later)))

-- one more entry
pub entries-push : (i : ℕ) (ds : List Dict) (d : Dict) → entries_from i (ds ++ d ∷ []) ≡ entries_from i ds ++ entry_of (i + length ds) d ∷ []
entries-push i [] d = ap (λ k. entry_of k d ∷ []) (omega arith)
entries-push i (x ∷ xs) d =
    ap (λ es. entry_of i x ∷ es)
    (entries-push (i + 1) xs d ∙ ap (λ k. entries_from (i + 1) xs ++ entry_of k d ∷ []) (omega arith))

-- the entries so far, and one more
pub entries-so-far : (ds : List Dict) (i : ℕ) (d : Dict) (old new : List (List ℕ × DictEntry)) → i < length ds → d ≡ get_or ds i d → old ≡ entries_from 0 (map copy_of (take i ds)) → new ≡ old ++ entry_of i (copy_of d) ∷ [] → new ≡ entries_from 0 (map copy_of (take (i + 1) ds))
entries-so-far ds i d old new within at before after =
    let copies = map copy_of (take i ds) in
    let more : take (i + 1) ds ≡ take i ds ++ d ∷ [] = ap (λ n. take n ds) (add-one i) ∙ (take-suc ds i d within ∙ ap (λ x. take i ds ++ x ∷ []) (sym at)) in
    let many : i ≡ 0 + length copies = omega (arith, within, length-map (take i ds) copy_of, length-take i ds) in
    after
    ∙ (ap (λ es. es ++ entry_of i (copy_of d) ∷ []) before
    ∙ (ap (λ k. entries_from 0 copies ++ entry_of k (copy_of d) ∷ []) many
    ∙ (sym (entries-push 0 copies (copy_of d))
    ∙ ap (λ cs. entries_from 0 cs) (sym (ap (map copy_of) more ∙ map-append copy_of (take i ds) (d ∷ []))))))
