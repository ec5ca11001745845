-- The dictionary of a name, where it has changed or is opened.
use Rattle.vc_base.proofs.Common.{◌≡◌, ℕ, Bool, true, false, cond, List, [], ◌∷◌, ◌++◌, Some, None, sym, refl, ap, ◌∙◌, or_parts, none-some, same_Some, list_any}
use Rattle.vc_base.proofs.Texts.{same_bytes}
use Rattle.vc_objects.specs.Objects.{Dictionary}
use Rattle.vc_steps.specs.Dicts.{with_dict}
use Rattle.vc_views.specs.Views.{DictHome, dict_named, is_dict}

abbrev pub put_dict : Dictionary → DictHome → DictHome
put_dict dict d = record d { dict = dict }

module _ (name : List ℕ) where
  name-found : (b : Bool) (g : DictHome) (ds : List DictHome) (d : DictHome) → b ≡ is_dict name g → cond b (Some g) (dict_named name ds) ≡ Some d → (dict_named name ds ≡ Some d → d.name ≡ name) → d.name ≡ name
  name-found true g ds d is found rest = ap (λ (k : DictHome). k.name) (sym (same_Some g d found)) ∙ same_bytes g.name name (sym is)
  name-found false g ds d is found rest = rest found

  -- it has that name
  pub dict-name : (ds : List DictHome) (d : DictHome) → dict_named name ds ≡ Some d → d.name ≡ name
  dict-name [] d found = absurd (none-some d found)
  dict-name (g ∷ ds) d found = name-found (is_dict name g) g ds d refl found (dict-name ds d)

  changed-found : (dict : Dictionary) (b : Bool) (g : DictHome) (ds changed : List DictHome) (d : DictHome) → b ≡ is_dict name g → cond b (Some g) (dict_named name ds) ≡ Some d → (dict_named name ds ≡ Some d → dict_named name changed ≡ Some (put_dict dict d)) → dict_named name (cond b (put_dict dict g ∷ ds) (g ∷ changed)) ≡ Some (put_dict dict d)
  changed-found dict true g ds changed d is found rest =
      ap (λ b. cond b (Some (put_dict dict g)) (dict_named name ds)) (sym is) ∙ ap (λ k. Some (put_dict dict k)) (same_Some g d found)
  changed-found dict false g ds changed d is found rest = ap (λ b. cond b (Some g) (dict_named name changed)) (sym is) ∙ rest found

  -- it changes
  pub dict-changed : (dict : Dictionary) (ds : List DictHome) (d : DictHome) → dict_named name ds ≡ Some d → dict_named name (with_dict name dict ds) ≡ Some (put_dict dict d)
  dict-changed dict [] d found = absurd (none-some d found)
  dict-changed dict (g ∷ ds) d found =
      changed-found dict (is_dict name g) g ds (with_dict name dict ds) d refl found (dict-changed dict ds d)

  -- it is opened, where none has the name
  pub dict-opened : (ds : List DictHome) (d : DictHome) → list_any (is_dict name) ds ≡ false → is_dict name d ≡ true → dict_named name (ds ++ d ∷ []) ≡ Some d
  dict-opened [] d none is = ap (λ b. cond b (Some d) None) is
  dict-opened (g ∷ ds) d none is =
      let parts = or_parts (is_dict name g) (list_any (is_dict name) ds) none in
      ap (λ b. cond b (Some g) (dict_named name (ds ++ d ∷ []))) parts.0 ∙ dict-opened ds d parts.1 is
