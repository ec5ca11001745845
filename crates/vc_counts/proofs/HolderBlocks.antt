-- In a session the table and the holders of each dictionary are blocks of its region, each of its size.
use Rattle.vc_base.proofs.Common.{◌≡◌, ℕ, true, false, cond, List, [], ◌∷◌, map, length, IsSome, Some, None, Option, option_map, bytes_eq, sym, refl, ap, ◌∙◌, subst, inl, inr, ⊎_elim, true≢false, arith, length-drop, ∥∥₁_elim, eqb_tells, cases_Bool, none-some, same_Some, AllByRecursion, Blocks, HasBytes, bytes_at, AreDistinct, contains, place_of, Discipline, Block, Layout, footprints, relabel_block, find_block}
use Rattle.vc_base.proofs.Lists.{find-map}
use Rattle.vc_base.proofs.Members.{within-head, within-tail}
use Rattle.vc_best.specs.Cells.{cells_of, block_shown}
use Rattle.vc_best.specs.Parts.{layout_of}
use Rattle.vc_best.proofs.CellBytes.{cell, cell-length}
use Rattle.vc_best.proofs.RestBlocks.{footprints-zeroed}
use Rattle.vc_commands.specs.Held.{Held, home_of}
use Rattle.vc_commands.specs.Home.{Home, Label, is_home}
use Rattle.vc_commands.specs.Labels.{name_of_tag}
use Rattle.vc_commands.specs.declared.region.home.HomeEntry.{HomeEntry}
use Rattle.vc_commands.specs.declared.region.labels.Labels.{Labels}
use Rattle.vc_dict.specs.Listed.{holders_of}
use Rattle.vc_dict.specs.declared.dict.Dict.{Dict}
use Rattle.vc_dict.proofs.OwnLemmas.{Stands-table, holder-there, holders-distinct, table-apart}
use Rattle.vc_dtdisc.specs.Finds.{object_at}
use Rattle.vc_dtdisc.specs.Rules.{Rules}
use Rattle.vc_laws.specs.Maximal.{AreLawful}
use Rattle.vc_laws.proofs.Layouts.{AreLawful-from_sound}
use Rattle.vc_model.proofs.Places.{among-all, among-find}
use Rattle.vc_model.proofs.Relabel.{find_block-relabel, footprints-relabel}
use Rattle.vc_objects.specs.Objects.{Dictionary, holder_size}
use Rattle.vc_objects.specs.Parts.{IsWhole, dictionary_of, object_of, table_of}
use Rattle.vc_objects.proofs.Mapped.{addresses-mapped}
use Rattle.vc_region.specs.Cells.{cells_in, rest_in}
use Rattle.vc_region.specs.Region.{is_best, layout_in, region_with_labels}
use Rattle.vc_region.specs.declared.region.Region.{Region}
use Rattle.vc_region.specs.declared.region.Region.TheVariants.{Best, Pool, Last, Debug, Profile}
use Rattle.vc_region.proofs.RestList.{view-found}
use Rattle.vc_steps.specs.DictHomes.{AreDicts, IsDictOf, cells_of_held, dict_home, dict_over, dicts_in}
use Rattle.vc_steps.specs.Homes.{held_all}
use Rattle.vc_steps.specs.State.{home_named}
use Rattle.vc_steps.proofs.DictsStay.{Entry, Vs}
use Rattle.vc_views.specs.Views.{DictHome, dict_named, is_dict}
use Rattle.vc_counts.proofs.DictBytes.{HasTable, IsBeside, IsSeated}
use Rattle.vc_counts.proofs.BlockSizes.{HasSized, size_found}
use Rattle.vc_dict.specs.Stands.{slots_in, table_in}
use Rattle.vc_dict.proofs.HeadLemmas.{no-table-in}

module _ (f : ℕ → Label) where
  size-relabelled : (o : Option (Block ℕ)) → size_found (option_map (relabel_block f) o) ≡ size_found o
  size-relabelled None = refl
  size-relabelled (Some b) = refl

  -- a cell is a block of as many bytes, also where its bytes are not shown and labels are names
  cell-sized : {I : Type 0} {V : I → Type 0} (r : Region I V) (a : ℕ) → IsSome (cells_in r a) → HasSized (layout_in (region_with_labels f (rest_in r))).blocks a (length (bytes_at (cells_in r) a))
  cell-sized (Best b) a there =
      let l : Layout ℕ = layout_of b in
      let has : HasBytes (cells_of l.blocks) a 0 = record { there = there; enough = omega arith } in
      let own : HasSized l.blocks a (length (bytes_at (cells_of l.blocks) a)) =
      ap size_found (cell l b.whole a 0 has).1.found ∙ ap (λ n. Some n) (sym (cell-length l b.whole a 0 has)) in
      ap size_found (find_block-relabel f (place_of a) (map block_shown l.blocks))
      ∙ (size-relabelled (find_block (place_of a) (map block_shown l.blocks))
      ∙ (view-found (λ (c : Block ℕ). c.size) (λ c. refl) (place_of a) l.blocks ∙ own))
  cell-sized (Pool pool) a there = absurd (true≢false (sym there))
  cell-sized (Last last) a there = absurd (true≢false (sym there))
  cell-sized (Debug debug) a there = absurd (true≢false (sym there))
  cell-sized (Profile profile) a there = absurd (true≢false (sym there))

  abbrev IsLawful : Layout Label → Type 0
  IsLawful r = AreLawful r.segments (footprints r.blocks)

  best-lawful : {I : Type 0} {V : I → Type 0} (r : Region I V) → is_best (rest_in r) ≡ true → ∥ IsLawful (layout_in (region_with_labels f (rest_in r))) ∥₁
  best-lawful (Best b) best =
      let l : Layout ℕ = layout_of b in
      let same : footprints (map (relabel_block f) (map block_shown l.blocks)) ≡ footprints l.blocks = footprints-relabel f (map block_shown l.blocks) ∙ footprints-zeroed l.blocks in
      ∥∥₁_elim b.sound (hlevel) (λ s. ∣ subst (AreLawful l.segments) (sym same) (AreLawful-from_sound l s) ∣₁)
  best-lawful (Pool pool) best = absurd (true≢false (sym best))
  best-lawful (Last last) best = absurd (true≢false (sym best))
  best-lawful (Debug debug) best = absurd (true≢false (sym best))
  best-lawful (Profile profile) best = absurd (true≢false (sym best))

-- a region's cells are blocks of its lists, as names show them
record IsCelled (k : Held) : Type 0 where
  sized : (a : ℕ) → IsSome (k.cells a) → HasSized (layout_in (home_of k).region).blocks a (length (bytes_at k.cells a))
  lawful : is_best k.region ≡ true → ∥ AreLawful (layout_in (home_of k).region).segments (footprints (layout_in (home_of k).region).blocks) ∥₁

are-celled : {I : Type 0} {V : I → Type 0} (meaning : (x : I) × V x → Discipline) (homes : List (List ℕ × HomeEntry I V)) (labels : List Labels) → AllByRecursion IsCelled (held_all meaning homes labels)
are-celled meaning [] labels = tt
are-celled meaning (e ∷ es) [] = tt
are-celled meaning (e ∷ es) (l ∷ ls) =
    (record { sized = cell-sized (name_of_tag l) e.1.region; lawful = best-lawful (name_of_tag l) e.1.region }, are-celled meaning es ls)

-- the blocks of a whole dictionary
module _ (rules : Rules) (d : Dict) (cells : Blocks) (whole : IsWhole rules d cells) (r : Layout Label) (sized : (a : ℕ) → IsSome (cells a) → HasSized r.blocks a (length (bytes_at cells a))) where
  its-table : HasTable r (table_of (table_in d).0 (slots_in d))
  its-table = elim (eqb_tells (table_in d).0 0) as (λ _. HasTable r (table_of (table_in d).0 (slots_in d))) [
    | inl none ↦ rw none.0 tt
    | inr some ↦
        let t = (Stands-table rules d cells (holders_of d cells) whole.stands).some some.1 in
        rw some.0 (subst (HasSized r.blocks (table_in d).0) t.size (sized (table_in d).0 t.there))
  ]

  its-beside : IsBeside (table_of (table_in d).0 (slots_in d)) (dictionary_of d cells).objects
  its-beside = elim (eqb_tells (table_in d).0 0) as (λ _. IsBeside (table_of (table_in d).0 (slots_in d)) (dictionary_of d cells).objects) [
    | inl none ↦ rw none.0 tt
    | inr some ↦
        rw some.0 (ap (λ xs. contains xs (table_in d).0) (addresses-mapped cells (holders_of d cells)) ∙ table-apart rules d cells (holders_of d cells) whole.stands)
  ]

  its-holder : (a : ℕ) → contains (holders_of d cells) a ≡ true → HasSized r.blocks a (holder_size (object_at cells a))
  its-holder a within =
      let h = holder-there rules d cells (holders_of d cells) a whole.stands within in
      let enough = h.enough in
      let long : length (bytes_at cells a) ≡ holder_size (object_at cells a) = omega (arith, enough, length-drop 32 (bytes_at cells a)) in
      subst (HasSized r.blocks a) long (sized a h.there)

  its-objects : (xs : List ℕ) → ((a : ℕ) → contains xs a ≡ true → HasSized r.blocks a (holder_size (object_at cells a))) → AllByRecursion (λ o. HasSized r.blocks o.at (holder_size o.bytes)) (map (object_of cells) xs)
  its-objects [] each = tt
  its-objects (x ∷ xs) each = (each x (within-head x xs), its-objects xs (λ a within. each a (within-tail x xs a within)))

  seated : AreLawful r.segments (footprints r.blocks) → IsSeated r (dictionary_of d cells)
  seated lawful = record {
    lawful = lawful;
    table = its-table;
    objects = its-objects (holders_of d cells) its-holder;
    distinct = subst AreDistinct (sym (addresses-mapped cells (holders_of d cells))) (holders-distinct rules d cells (holders_of d cells) whole.stands);
    beside = its-beside;
    plain = λ none. rw (no-table-in _ _ _ _ none whole.stands) refl;
  }

module _ (kinds : List Rules) (held : List Held) (celled : AllByRecursion IsCelled held) where
  entry-seated : (e : Entry) → IsDictOf kinds held e → (h : Home) → home_named e.1.home (map home_of held) ≡ Some h → ∥ IsSeated (layout_in h.region) (dict_over held e) ∥₁
  entry-seated e is h at =
      let k : Held = is.home in
      let c : IsCelled k = among-all IsCelled k held (among-find (λ (g : Held). bytes_eq g.name e.1.home) held k is.found) celled in
      let same : home_of k ≡ h = same_Some (home_of k) h (sym (find-map home_of (is_home e.1.home) held ∙ ap (option_map home_of) is.found) ∙ at) in
      let own : dict_over held e ≡ dictionary_of e.1.dict k.cells = ap (λ o. dictionary_of e.1.dict (cells_of_held o)) is.found in
      let r : Layout Label = layout_in (home_of k).region in
      subst (λ (g : Home). ∥ IsSeated (layout_in g.region) (dict_over held e) ∥₁) same
      (subst (λ (x : Dictionary). ∥ IsSeated r x ∥₁) (sym own)
      (∥∥₁_elim (c.lawful is.best) (hlevel) (λ l. ∣ seated is.rules e.1.dict k.cells is.whole r c.sized l ∣₁)))

  -- so in the region of the dictionary of a name
  dict-seated : (vs : Vs) (es : List Entry) → AreDicts kinds held es → (name : List ℕ) (d : DictHome) (h : Home) → dict_named name (dicts_in held vs es) ≡ Some d → home_named d.home (map home_of held) ≡ Some h → ∥ IsSeated (layout_in h.region) d.dict ∥₁
  dict-seated vs [] are name d h named at = absurd (none-some d named)
  dict-seated vs (e ∷ es) are name d h named at =
      ⊎_elim
      (λ (t : is_dict name (dict_home held vs e) ≡ true).
      let same : dict_home held vs e ≡ d = same_Some (dict_home held vs e) d (sym (ap (λ v. cond v (Some (dict_home held vs e)) (dict_named name (dicts_in held vs es))) t) ∙ named) in
      subst (λ (x : DictHome). ∥ IsSeated (layout_in h.region) x.dict ∥₁) same
      (entry-seated e are.0 h (ap (λ (x : DictHome). home_named x.home (map home_of held)) same ∙ at)))
      (λ (t : is_dict name (dict_home held vs e) ≡ false).
      dict-seated vs es are.2 name d h (sym (ap (λ v. cond v (Some (dict_home held vs e)) (dict_named name (dicts_in held vs es))) t) ∙ named) at)
      (cases_Bool (is_dict name (dict_home held vs e)))

-- of a session
pub all-seated : {I : Type 0} {V : I → Type 0} (meaning : (x : I) × V x → Discipline) (kinds : List Rules) (homes : List (List ℕ × HomeEntry I V)) (labels : List Labels) (vs : Vs) (es : List Entry) → AreDicts kinds (held_all meaning homes labels) es → (name : List ℕ) (d : DictHome) (h : Home) → dict_named name (dicts_in (held_all meaning homes labels) vs es) ≡ Some d → home_named d.home (map home_of (held_all meaning homes labels)) ≡ Some h → ∥ IsSeated (layout_in h.region) d.dict ∥₁
all-seated meaning kinds homes labels vs es are = dict-seated kinds (held_all meaning homes labels) (are-celled meaning homes labels) vs es are
