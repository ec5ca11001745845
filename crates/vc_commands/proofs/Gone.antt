-- What freeing the block of a name answers, and how it changes the region.
use Rattle.vc_base.proofs.Common.{◌≡◌, ℕ, Bool, false, cond, List, [], IfSome, IfNone, IfOk, OnSome, Some, None, Ok, Err, Option, Result, sym, refl, ap, ◌∙◌, subst, none-some, same_Some, place_of, without_block, Done}
use Rattle.vc_base.specs.declared.addr.Addr.{Addr}
use Rattle.vc_region.specs.Region.{Region, blocks_of, region_free, region_with_labels, keeps_freed, watch_at}
use Rattle.vc_region.proofs.Relabel.{free-relabelled, relabel_freed, keeps-relabelled, watch-relabelled}
use Rattle.vc_region.proofs.Freeing.{free-keeps}
use Rattle.vc_script.specs.declared.reply.Reply.{Reply}
use Rattle.vc_script.specs.declared.reply.Reply.TheVariants.{Freed}
use Rattle.vc_commands.specs.Home as home
use Rattle.vc_commands.specs.Home.{Home, refusal_alone}
use Rattle.vc_commands.specs.FreedNames.{with_line}
use Rattle.vc_commands.specs.Held.{HasName, Held, home_of}
use Rattle.vc_commands.specs.Blocks.{free_block_found, free_named, change_by_free, kept_freed}
use Rattle.vc_commands.specs.Labels.{SameLabels, WithoutLabel, kept_of, label_at, name_of_tag, tag_of}
use Rattle.vc_seg.specs.Answer.{IsRefusal}
use Rattle.vc_seg.specs.declared.fault.RegionFault.{RegionFault}
use Rattle.vc_commands.specs.Naming.{TellsFault}
use Rattle.vc_commands.specs.RegionRun.{GivesRegion}
use Rattle.vc_commands.specs.declared.region.labels.Label.{Label}
use Rattle.vc_commands.specs.declared.region.labels.Labels.{Labels}
use Rattle.vc_commands.proofs.Answers.{Told, fault-told}
use Rattle.vc_commands.proofs.FoundBlocks.{TheBlock, label_of, on_block-there, the_block}
use Rattle.vc_commands.proofs.Moving.{region-less}

module _ (h : Held) {x : List ℕ} {addr : Addr} (has : HasName h.region h.labels x addr) (line : ℕ) where
  abbrev b : TheBlock h.region h.labels x has.tag addr.0
  b = the_block has

  abbrev k : Home
  k = home_of h

  abbrev f : ℕ → home.Label
  f = name_of_tag h.labels

  free-named : free_named (home_of h) x line ≡ change_by_free (home_of h) x (kept_freed (home_of h) x line) (watch_at h.region (place_of addr.0)) (relabel_freed (name_of_tag h.labels) (region_free h.region (place_of addr.0)))
  free-named =
      let p = place_of addr.0 in
      on_block-there h x has.tag addr.0 b (free_block_found k x line)
      ∙ (ap (λ q. change_by_free k x (kept_freed k x line) (watch_at k.region q) (region_free k.region q)) (sym b.place)
      ∙ (ap (λ w. change_by_free k x (kept_freed k x line) w (region_free k.region p)) (watch-relabelled f h.region p)
      ∙ ap (change_by_free k x (kept_freed k x line) (watch_at h.region p)) (free-relabelled f h.region p)))

  pub gives-freed :
      (new : Labels) → WithoutLabel h.labels new has.tag (label_of x addr) → (region : Region ℕ) → region_free h.region (place_of addr.0) ≡ Done region → blocks_of region ≡ without_block (place_of addr.0) (blocks_of h.region) → kept_of new ≡ kept_freed (home_of h) x line
      → (watch : Option ℕ) → watch ≡ watch_at h.region (place_of addr.0) → GivesRegion (free_named (home_of h) x line) (region_with_labels (name_of_tag new) region, kept_of new) (Freed x watch)
  gives-freed new w region is left keeps watch watched =
      let there = watch_at h.region (place_of addr.0) in
      let eq : free_named k x line ≡ change_by_free k x (kept_freed k x line) there (Done (region_with_labels f region)) = free-named ∙ ap (λ o. change_by_free k x (kept_freed k x line) there (relabel_freed f o)) is in
      subst (λ c. GivesRegion c (region_with_labels (name_of_tag new) region, kept_of new) (Freed x watch)) (sym eq)
      (record {
        region_after = sym (region-less h.labels h.region has.names x has.tag (label_of x addr) has.there b new w refl region left);
        kept_after = sym keeps;
        replied = ap (λ o. Freed x o) (sym watched);
      })

  pub gives-kept : (told : Reply) → Told (λ (refused : Bool). region_free h.region (place_of addr.0)) told → (region : Region ℕ) → region ≡ h.region → GivesRegion (free_named (home_of h) x line) (region_with_labels (name_of_tag h.labels) region, kept_of h.labels) told
  gives-kept told t region same =
      let eq : free_named k x line ≡ refusal_alone k _ = free-named ∙ ap (λ o. change_by_free k x (kept_freed k x line) (watch_at h.region (place_of addr.0)) (relabel_freed f o)) t.refused in
      subst (λ c. GivesRegion c (region_with_labels f region, kept_of h.labels) told) (sym eq) (record { region_after = ap (region_with_labels f) (sym same); kept_after = refl; replied = t.is })

  pub step-kept : {E : Type 0} (fault : RegionFault) (result : Result Reply E) → TellsFault fault result → IsRefusal (λ (refused : Bool). region_free h.region (place_of addr.0)) fault → (region : Region ℕ) → region ≡ h.region → IfOk result (λ told. GivesRegion (free_named (home_of h) x line) (region_with_labels (name_of_tag h.labels) region, kept_of h.labels) told)
  step-kept fault (Ok told) tells refusal region same = gives-kept told (fault-told (λ (refused : Bool). region_free h.region (place_of addr.0)) fault told tells refusal) region same
  step-kept fault (Err e) tells refusal region same = tt

  -- the names that are kept then
  pub kept-after : (new : Labels) (keeps : Bool) → keeps ≡ keeps_freed h.region → kept_of new ≡ cond keeps (with_line x line (kept_of h.labels)) (kept_of h.labels) → kept_of new ≡ kept_freed (home_of h) x line
  kept-after new keeps is e =
      e ∙ ap (λ v. cond v (with_line x line (kept_of h.labels)) (kept_of h.labels)) (is ∙ sym (keeps-relabelled (name_of_tag h.labels) h.region))

  -- none where the region keeps none
  pub none-after : (new : Labels) → kept_of new ≡ kept_freed (home_of h) x line → (region : Region ℕ) → region_free h.region (place_of addr.0) ≡ Done region → keeps_freed region ≡ false → kept_of new ≡ []
  none-after new e region is none =
      let was : keeps_freed h.region ≡ false = sym (free-keeps h.region (place_of addr.0) region is) ∙ none in
      e
      ∙ (ap (λ v. cond v (with_line x line (kept_of h.labels)) (kept_of h.labels)) (keeps-relabelled (name_of_tag h.labels) h.region ∙ was)
      ∙ has.names.none was)

-- what holds once the block of a name was taken out
pub removed-so : (old new : Labels) (x : List ℕ) (tag : ℕ) (P : Type 0) → tag_of old x ≡ Some tag → (o : Option Addr) → OnSome o P → IfNone o ((tag_of old x ≡ None) × SameLabels old new) → P
removed-so old new x tag P named None some none = absurd (none-some tag (sym none.0 ∙ named))
removed-so old new x tag P named (Some a) some none = some

-- the name that is taken out is that of the block
pub removed-label : (old new : Labels) (x : List ℕ) (tag : ℕ) (label : Label) → tag_of old x ≡ Some tag → label_at old tag ≡ Some label → (o : Option Addr) → IfSome o (λ at. (t : ℕ) × WithoutLabel old new t (record { name = x; at = at })) → IfNone o ((tag_of old x ≡ None) × SameLabels old new) → WithoutLabel old new tag label
removed-label old new x tag label named at None some none = absurd (none-some tag (sym none.0 ∙ named))
removed-label old new x tag label named at (Some a) some none =
    let w = some.1 in
    let gone : Label = record { name = x; at = a } in
    let same : some.0 ≡ tag = same_Some some.0 tag (sym w.was_named ∙ named) in
    let is : gone ≡ label = same_Some gone label (sym w.was_at ∙ (ap (label_at old) same ∙ at)) in
    subst (λ t. WithoutLabel old new t label) same (subst (λ l. WithoutLabel old new some.0 l) is w)
