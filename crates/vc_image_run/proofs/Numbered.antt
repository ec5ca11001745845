-- The dictionaries of an image have numbers of their own, and none of them views another one.
use Rattle.vc_base.proofs.Common.{◌≡◌, ℕ, ◌+◌, ◌<◌, ◌≤◌, false, List, [], ◌∷◌, map, length, None, option_and_then, sym, refl, ap, ◌∙◌, arith, ne_eqb, none-some, AllByRecursion, AreDistinct, contains}
use Rattle.vc_dict.specs.declared.dict.Dict.{Dict}
use Rattle.vc_image_run.specs.Session.Entries.{entries_from}
use Rattle.vc_paths.specs.Links.{below, no_links, numbers}
use Rattle.vc_commands.specs.declared.dict.entry.DictEntry.{DictEntry}
use Rattle.vc_steps.proofs.NewSession.{no-link}
use Rattle.vc_views.specs.Dicts.{number_in}
use Rattle.vc_views.specs.Numbers.{AreLinked, name_numbered, views_by}

numbers-later : (k i : ℕ) (ds : List Dict) → k < i → contains (map number_in (entries_from i ds)) k ≡ false
numbers-later k i [] lt = refl
numbers-later k i (d ∷ ds) lt = rw (ne_eqb i k (λ e. absurd (omega (arith, e, lt)))) (numbers-later k (i + 1) ds (omega (arith, lt)))

numbers-distinct : (i : ℕ) (ds : List Dict) → AreDistinct (map number_in (entries_from i ds))
numbers-distinct i [] = tt
numbers-distinct i (d ∷ ds) = (numbers-later i (i + 1) ds (omega arith), numbers-distinct (i + 1) ds)

numbers-below : (i : ℕ) (ds : List Dict) → i + length ds ≤ 256 → AllByRecursion (λ e. number_in e < numbers) (entries_from i ds)
numbers-below i [] few = tt
numbers-below i (d ∷ ds) few = (omega (arith, few), numbers-below (i + 1) ds (omega (arith, few)))

nothing-below : (n : ℕ) → below no_links n ≡ None
nothing-below n = no-link numbers n

pub entries-linked : (ds : List Dict) → length ds ≤ 256 → AreLinked no_links (entries_from 0 ds)
entries-linked ds few = record {
  numbered = record { distinct = numbers-distinct 0 ds; below = numbers-below 0 ds (omega (arith, few)) };
  linked = λ n m is. absurd (none-some m (sym (nothing-below n) ∙ is));
}

pub views-none : (es : List (List ℕ × DictEntry)) (n : ℕ) → views_by no_links es n ≡ None
views-none es n = ap (option_and_then (name_numbered es)) (nothing-below n)
