-- The names that a region keeps as freed, as its table of names tells them.
use Rattle.vc_base.proofs.Common.{◌≡◌, ℕ, ◌+◌, Bool, true, false, cond, not, T, List, [], ◌∷◌, length, is_some, Some, None, Option, bytes_eq, sym, refl, ap, ◌∙◌, ⊎_elim, cases_Bool, lookup}
use Rattle.std.specs.Ordering.{eq_by_cmp}
use Rattle.std.specs.Cmp.Lexicographic.{nat_list_cmp_total, texts_ties}
use Rattle.std.specs.FinMap.Entries.{find-put, find-where_key, is_sorted, is_sorted-put, is_sorted-where_key, length-put, length_without, same_entries}
use Rattle.std.proofs.lemmas.Map.Lookups.{exact_bytes}
use Rattle.vc_base.proofs.Texts.{bytes_eq-swapped, same_bytes}
use Rattle.vc_commands.specs.FreedNames.{FreedNames, by_name, freed_line, with_line, without_name}
use Rattle.vc_commands.specs.Labels.{kept_among, kept_with, line_in}
use Rattle.vc_commands.specs.declared.region.labels.Known.{Known}
use Rattle.vc_commands.specs.declared.region.labels.Known.TheVariants.{Live, Freed}

abbrev pub IsByName : FreedNames → Type 0
IsByName kept = T (is_sorted by_name kept)

-- kept names are those of the same lines
pub same-kept : (k l : FreedNames) → IsByName k → IsByName l → ((x : List ℕ) → freed_line x k ≡ freed_line x l) → k ≡ l
same-kept k l a b same = same_entries by_name nat_list_cmp_total exact_bytes k l a b same

pub line-with : (q x : List ℕ) (line : ℕ) (k : FreedNames) → freed_line q (with_line x line k) ≡ cond (bytes_eq q x) (Some line) (freed_line q k)
line-with q x line k = find-put by_name nat_list_cmp_total q x line k ∙ ap (λ b. cond b (Some line) (freed_line q k)) (sym (texts_ties q x))

not-cond : (b : Bool) (o : Option ℕ) → cond (not b) o None ≡ cond b None o
not-cond true o = refl
not-cond false o = refl

pub line-without : (q x : List ℕ) (k : FreedNames) → freed_line q (without_name x k) ≡ cond (bytes_eq x q) None (freed_line q k)
line-without q x k =
    find-where_key by_name (λ y. not (eq_by_cmp by_name x y)) q (λ y e. ap (λ z. not (eq_by_cmp by_name x z)) (sym (exact_bytes q y e))) k
    ∙ (not-cond (eq_by_cmp by_name x q) (freed_line q k)
    ∙ ap (λ b. cond b None (freed_line q k)) (sym (texts_ties x q)))

pub by-name-with : (x : List ℕ) (line : ℕ) (k : FreedNames) → IsByName k → IsByName (with_line x line k)
by-name-with x line k s = is_sorted-put by_name nat_list_cmp_total x line k s

pub by-name-without : (x : List ℕ) (k : FreedNames) → IsByName k → IsByName (without_name x k)
by-name-without x k s = is_sorted-where_key by_name (λ y. not (eq_by_cmp by_name x y)) k s

by-name-by : (x : List ℕ) (known : Known) (k : FreedNames) → IsByName k → IsByName (kept_with x known k)
by-name-by x (Live tag) k s = by-name-without x k s
by-name-by x (Freed line) k s = by-name-with x line k s

-- the kept names of a table stand by name
pub by-name-among : (es : List (List ℕ × Known)) → IsByName (kept_among es)
by-name-among [] = tt
by-name-among (e ∷ es) = by-name-by e.0 e.1 (kept_among es) (by-name-among es)

pick : (b : Bool) (known : Known) (o : Option Known) → cond b (line_in (Some known)) (line_in o) ≡ line_in (cond b (Some known) o)
pick true known o = refl
pick false known o = refl

line-by : (q x : List ℕ) (known : Known) (k : FreedNames) → freed_line q (kept_with x known k) ≡ cond (bytes_eq q x) (line_in (Some known)) (freed_line q k)
line-by q x (Live tag) k = line-without q x k ∙ ap (λ b. cond b None (freed_line q k)) (bytes_eq-swapped x q)
line-by q x (Freed line) k = line-with q x line k

-- and tell the line of each
pub line-among : (q : List ℕ) (es : List (List ℕ × Known)) → freed_line q (kept_among es) ≡ line_in (lookup (bytes_eq q) es)
line-among q [] = refl
line-among q (e ∷ es) =
    line-by q e.0 e.1 (kept_among es)
    ∙ (ap (λ o. cond (bytes_eq q e.0) (line_in (Some e.1)) o) (line-among q es)
    ∙ pick (bytes_eq q e.0) e.1 (lookup (bytes_eq q) es))

-- two tables that tell the same of each name keep the same names
pub kept-alike : (es fs : List (List ℕ × Known)) → ((q : List ℕ) → lookup (bytes_eq q) fs ≡ lookup (bytes_eq q) es) → kept_among fs ≡ kept_among es
kept-alike es fs same =
    same-kept (kept_among fs) (kept_among es) (by-name-among fs) (by-name-among es)
    (λ q. line-among q fs ∙ (ap line_in (same q) ∙ sym (line-among q es)))

in-cond : (b : Bool) (w o : Option Known) → line_in (cond b w o) ≡ cond b (line_in w) (line_in o)
in-cond true w o = refl
in-cond false w o = refl

module _ (es fs : List (List ℕ × Known)) (x : List ℕ) where
  updated : (w : Option Known) → ((q : List ℕ) → lookup (bytes_eq q) fs ≡ cond (bytes_eq x q) w (lookup (bytes_eq q) es)) → (q : List ℕ) → freed_line q (kept_among fs) ≡ cond (bytes_eq x q) (line_in w) (freed_line q (kept_among es))
  updated w same q =
      line-among q fs
      ∙ (ap line_in (same q)
      ∙ (in-cond (bytes_eq x q) w (lookup (bytes_eq q) es) ∙ ap (λ o. cond (bytes_eq x q) (line_in w) o) (sym (line-among q es))))

  -- a name that is freed is kept
  pub kept-freed : (line : ℕ) → ((q : List ℕ) → lookup (bytes_eq q) fs ≡ cond (bytes_eq x q) (Some (Freed line)) (lookup (bytes_eq q) es)) → kept_among fs ≡ with_line x line (kept_among es)
  kept-freed line same =
      same-kept (kept_among fs) (with_line x line (kept_among es)) (by-name-among fs) (by-name-with x line (kept_among es) (by-name-among es))
      (λ q.
      updated (Some (Freed line)) same q
      ∙ sym (line-with q x line (kept_among es) ∙ ap (λ b. cond b (Some line) (freed_line q (kept_among es))) (bytes_eq-swapped q x)))

  -- a name that is put or taken out is not
  pub kept-other : (w : Option Known) → line_in w ≡ None → ((q : List ℕ) → lookup (bytes_eq q) fs ≡ cond (bytes_eq x q) w (lookup (bytes_eq q) es)) → kept_among fs ≡ without_name x (kept_among es)
  kept-other w none same =
      same-kept (kept_among fs) (without_name x (kept_among es)) (by-name-among fs) (by-name-without x (kept_among es) (by-name-among es))
      (λ q.
      updated w same q
      ∙ (ap (λ o. cond (bytes_eq x q) o (freed_line q (kept_among es))) none ∙ sym (line-without q x (kept_among es))))

absent-cond : (q x : List ℕ) (k : FreedNames) → freed_line x k ≡ None → cond (bytes_eq x q) None (freed_line q k) ≡ freed_line q k
absent-cond q x k none =
    ⊎_elim
    (λ e. ap (λ b. cond b None (freed_line q k)) e ∙ sym (ap (λ y. freed_line y k) (sym (same_bytes x q e)) ∙ none))
    (λ e. ap (λ b. cond b None (freed_line q k)) e)
    (cases_Bool (bytes_eq x q))

-- a name that isn't kept
pub without-absent : (x : List ℕ) (k : FreedNames) → IsByName k → freed_line x k ≡ None → without_name x k ≡ k
without-absent x k s none =
    same-kept (without_name x k) k (by-name-without x k s) s (λ q. line-without q x k ∙ absent-cond q x k none)

pub length-with : (x : List ℕ) (line : ℕ) (k : FreedNames) → IsByName k → freed_line x k ≡ None → length (with_line x line k) ≡ length k + 1
length-with x line k s none =
    length-put by_name nat_list_cmp_total x line k s
    ∙ ap (λ o. cond (is_some o) (length k) (length k + 1)) none

pub length-without : (x : List ℕ) (k : FreedNames) → IsByName k → cond (is_some (freed_line x k)) 1 0 + length (without_name x k) ≡ length k
length-without x k s = length_without by_name nat_list_cmp_total x k s
