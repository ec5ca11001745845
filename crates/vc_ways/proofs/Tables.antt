-- The table of live blocks, by names and sizes.
use Rattle.vc_base.proofs.Common.{◌≡◌, ℕ, ◌+◌, ◌-◌, ◌<◌, List, [], ◌∷◌, Bool, true, false, Option, Some, None, length, map, get_or, set, take, position, option_map, unwrap_or, keys_of, lookup, refl, sym, ap, ◌∙◌, subst, ⊎_elim, cases_Bool, arith, none-some, length-map, get_or-map, map-set, IfSome, is_some, false≢true, slice_get, sum_by-cons, values_of}
use Rattle.std.specs.List.{sum_by, swap_remove}
use Rattle.std.specs.Option.{option_map_or}
use Rattle.std.proofs.lemmas.List.{take-map}
use Rattle.std.proofs.lemmas.Option.{slice_get_within, unwrap_or-slice_get}
use Rattle.std.proofs.lemmas.List.Sums.{sum_by-swap_remove}
use Rattle.std.proofs.lemmas.Map.Made.{keys_of-map_values}
use Rattle.indexmap.proofs.MapLemmas.{some_index, value_index}
use Rattle.indexmap.specs.IndexMap.{insert_entry, swap_remove_entry}

module _ {K X Y : Type 0} (g : X → Y) where
  abbrev valued : K × X → K × Y
  valued e = (e.0, g e.1)

  -- entries whose values are mapped
  pub insert-map : (eq : K → K → Bool) (es : List (K × X)) (k : K) (v : X) → map valued (insert_entry eq es k v) ≡ insert_entry eq (map valued es) k (g v)
  insert-map eq [] k v = refl
  insert-map eq (e ∷ es) k v =
      ⊎_elim
      (λ (t : eq k e.0 ≡ true). rw t refl)
      (λ (t : eq k e.0 ≡ false). rw t (ap (λ ds. valued e ∷ ds) (insert-map eq es k v)))
      (cases_Bool (eq k e.0))

  swapped-map : (es : List (K × X)) (e : K × X) (i : ℕ) → 0 < length es → map valued (swap_remove es i e) ≡ swap_remove (map valued es) i (valued e)
  swapped-map es e i some =
      let n : ℕ = length es - 1 in
      let long : length (map valued es) ≡ length es = length-map es valued in
      let last : get_or (map valued es) n (valued e) ≡ valued (get_or es n e) = get_or-map valued es n e (valued e) (omega (arith, some)) in
      sym (take-map valued n (set es i (get_or es n e)))
      ∙ (ap (take n) (map-set valued es i (get_or es n e))
      ∙ (ap (λ y. take n (set (map valued es) i y)) (sym last)
      ∙ ap (λ m. take (m - 1) (set (map valued es) i (get_or (map valued es) (m - 1) (valued e)))) (sym long)))

  pub remove-map : (test : K → Bool) (es : List (K × X)) → map valued (swap_remove_entry test es) ≡ swap_remove_entry test (map valued es)
  remove-map test [] = refl
  remove-map test (e ∷ es) =
      by (position test (keys_of (e ∷ es)))
      ∙ ap (λ o. option_map_or (λ i. swap_remove (map valued (e ∷ es)) i (valued e)) o (map valued (e ∷ es))) (ap (position test) (sym (keys_of-map_values g (e ∷ es))))
    where
      by : (o : Option ℕ) → map valued (option_map_or (λ i. swap_remove (e ∷ es) i e) o (e ∷ es)) ≡ option_map_or (λ i. swap_remove (map valued (e ∷ es)) i (valued e)) o (map valued (e ∷ es))
      by None = refl
      by (Some i) = swapped-map (e ∷ es) e i (omega arith)

module _ {K X : Type 0} (f : X → ℕ) where
  abbrev of : K × X → ℕ
  of e = f e.1

  -- the sum of what entries count, with one more or with another value
  pub insert-sum : (eq : K → K → Bool) (es : List (K × X)) (k : K) (v : X) → sum_by of (insert_entry eq es k v) + unwrap_or (option_map f (lookup (eq k) es)) 0 ≡ sum_by of es + f v
  insert-sum eq [] k v = omega arith
  insert-sum eq (e ∷ es) k v =
      let old = sum_by-cons of e es in
      ⊎_elim
      (λ (t : eq k e.0 ≡ true). rw t (omega (arith, sum_by-cons of (e.0, v) es, old)))
      (λ (t : eq k e.0 ≡ false). rw t (omega (arith, insert-sum eq es k v, sum_by-cons of e (insert_entry eq es k v), old)))
      (cases_Bool (eq k e.0))

  -- where the first entry is whose key passes
  record At (test : K → Bool) (es : List (K × X)) (x : X) : Type 0 where
    pub place : ℕ
    pub is : position test (keys_of es) ≡ Some place
    pub within : place < length es
    pub value : (d : K × X) → (get_or es place d).1 ≡ x

  found-at : (test : K → Bool) (es : List (K × X)) (x : X) → lookup test es ≡ Some x → At test es x
  found-at test es x e = by (position test (keys_of es)) refl
    where
      by : (o : Option ℕ) → position test (keys_of es) ≡ o → At test es x
      by None p = let no : false ≡ true = sym (ap is_some p) ∙ (some_index test es ∙ ap is_some e) in absurd (false≢true no)
      by (Some i) p =
          let there : slice_get (values_of es) i ≡ Some x = subst (λ (o : Option ℕ). IfSome o (λ k. slice_get (values_of es) k ≡ lookup test es)) p (value_index test es) ∙ e in
          let within : i < length es = omega (arith, slice_get_within (values_of es) i x there, length-map es (λ (d : K × X). d.1)) in
          record {
            place = i;
            is = p;
            within = within;
            value = λ d. sym (get_or-map (λ (c : K × X). c.1) es i d x within) ∙ (sym (unwrap_or-slice_get (values_of es) i x) ∙ ap (λ o. unwrap_or o x) there);
          }

  -- and without one
  pub remove-sum : (test : K → Bool) (es : List (K × X)) (x : X) → lookup test es ≡ Some x → sum_by of (swap_remove_entry test es) + f x ≡ sum_by of es
  remove-sum test [] x e = absurd (none-some x e)
  remove-sum test (d ∷ es) x e =
      let at = found-at test (d ∷ es) x e in
      let gone = sum_by-swap_remove of (d ∷ es) at.place d at.within in
      ap (λ o. sum_by of (option_map_or (λ i. swap_remove (d ∷ es) i d) o (d ∷ es)) + f x) at.is
      ∙ (ap (λ y. sum_by of (swap_remove (d ∷ es) at.place d) + f y) (sym (at.value d)) ∙ gone)
