-- What giving the block of a name another size answers, and how it changes the region.
use Rattle.vc_base.proofs.Common.{◌≡◌, ℕ, Bool, true, false, cond, eqb, List, [], ◌∷◌, IfOk, Some, Ok, Err, Option, Result, option_map, sym, refl, ap, ◌∙◌, subst, ⊎_elim, eqb-true, and_parts, cases_Bool, none-some, same_Some, address, place_of, Block, is_at, without_block, Outcome, Put, outcome_as, HaveOwnPlaces, find_block}
use Rattle.vc_base.specs.declared.addr.Addr.{Addr}
use Rattle.vc_region.specs.Region.{Region, blocks_of, region_resize, region_with_labels, watch_at}
use Rattle.vc_region.proofs.Keeps.{resize-keeps}
use Rattle.vc_region.proofs.Relabel.{resize-relabelled, watch-relabelled}
use Rattle.vc_seg.specs.Answer.{IsPut, IsRefusal}
use Rattle.vc_seg.specs.declared.fault.RegionFault.{RegionFault}
use Rattle.vc_script.specs.declared.place.Place.{Place}
use Rattle.vc_script.specs.declared.reply.Reply.TheVariants.{At}
use Rattle.vc_commands.specs.Home as home
use Rattle.vc_commands.specs.Naming.{TellsFault}
use Rattle.vc_script.specs.Needs.{need_shown}
use Rattle.vc_script.specs.declared.refusal.Refusal.TheVariants as why
use Rattle.vc_script.specs.declared.reply.Reply.{Reply}
use Rattle.vc_commands.specs.Home.{Changed, Home, refusal_alone}
use Rattle.vc_commands.specs.Held.{HasName, Held, AreLabelsOf, home_of}
use Rattle.vc_commands.specs.Blocks.{at_place, is_size, put_in, resize_block_found, resize_named}
use Rattle.vc_commands.specs.Labels.{AreLabels, MovesLabel, kept_of, name_of_tag}
use Rattle.vc_commands.specs.FreedNames.{FreedNames}
use Rattle.vc_commands.specs.RegionRun.{GivesRegion}
use Rattle.vc_commands.specs.RegionCommands.{is_for_block}
use Rattle.vc_commands.specs.declared.region.labels.Label.{Label}
use Rattle.vc_commands.specs.declared.region.labels.Labels.{Labels}
use Rattle.vc_commands.proofs.Answers.{Told, fault-told}
use Rattle.vc_commands.proofs.FoundBlocks.{TheBlock, label_of, on_block-there, the_block}
use Rattle.vc_commands.proofs.Listing.{from_some}
use Rattle.vc_commands.proofs.Moving.{name-moved, named-moved}
use Rattle.vc_commands.proofs.Names.{relabelled-names}
use Rattle.vc_commands.proofs.PutBlocks.{gives-put, put-address}

found-at : (p : ℕ × ℕ) (b : Block ℕ) (bs : List (Block ℕ)) → find_block p bs ≡ Some b → is_at p b ≡ true
found-at p b [] e = absurd (none-some b e)
found-at p b (c ∷ cs) e =
    ⊎_elim
    (λ t. subst (λ d. is_at p d ≡ true) (same_Some c b (sym (ap (λ v. cond v (Some c) (find_block p cs)) t) ∙ e)) t)
    (λ t. found-at p b cs (sym (ap (λ v. cond v (Some c) (find_block p cs)) t) ∙ e))
    (cases_Bool (is_at p c))

-- a block stands at the place where it is found
pub found-place : (p : ℕ × ℕ) (b : Block ℕ) (bs : List (Block ℕ)) → find_block p bs ≡ Some b → p ≡ (b.seg, b.off)
found-place p b bs e =
    let both = and_parts (eqb b.seg p.0) (eqb b.off p.1) (found-at p b bs e) in
    let seg : b.seg ≡ p.0 = eqb-true b.seg p.0 both.0 in
    let off : b.off ≡ p.1 = eqb-true b.off p.1 both.1 in
    ap (λ s. let q : ℕ × ℕ = (s, p.1) in q) (sym seg) ∙ ap (λ o. let q : ℕ × ℕ = (b.seg, o) in q) (sym off)

module _ (h : Held) {x : List ℕ} {addr : Addr} (has : HasName h.region h.labels x addr) (size : ℕ) (may_move : Bool) where
  abbrev b : TheBlock h.region h.labels x has.tag addr.0
  b = the_block has

  abbrev k : Home
  k = home_of h

  abbrev f : ℕ → home.Label
  f = name_of_tag h.labels

  abbrev pub call : Bool → Outcome (Put (Region ℕ))
  call refused = region_resize h.disc.terms h.region (place_of addr.0) size may_move refused

  -- a size that no script can have
  pub resize-size : (u : Bool) → is_size size ≡ false → resize_named (home_of h) x size may_move u ≡ refusal_alone (home_of h) why.Size
  resize-size u sized =
      on_block-there h x has.tag addr.0 b (resize_block_found k x size may_move u)
      ∙ ap (λ v. cond v (put_in k x k.kept (watch_at k.region (b.block.seg, b.block.off)) (region_resize k.terms k.region (b.block.seg, b.block.off) size may_move u)) (refusal_alone k why.Size)) sized

  module _ (sized : is_size size ≡ true) where
    resize-named : (u : Bool) → resize_named (home_of h) x size may_move u ≡ put_in (home_of h) x (kept_of h.labels) (watch_at h.region (place_of addr.0)) (outcome_as (region_with_labels (name_of_tag h.labels)) (call u))
    resize-named u =
        on_block-there h x has.tag addr.0 b (resize_block_found k x size may_move u)
        ∙ (ap (λ v. cond v (put_in k x k.kept (watch_at k.region (b.block.seg, b.block.off)) (region_resize k.terms k.region (b.block.seg, b.block.off) size may_move u)) (refusal_alone k why.Size)) sized
        ∙ (ap (λ p. put_in k x k.kept (watch_at k.region p) (region_resize k.terms k.region p size may_move u)) (sym b.place)
        ∙ (ap (λ w. put_in k x k.kept w (region_resize k.terms k.region (place_of addr.0) size may_move u)) (watch-relabelled (name_of_tag h.labels) h.region (place_of addr.0))
        ∙ ap (put_in k x k.kept (watch_at h.region (place_of addr.0))) (resize-relabelled (name_of_tag h.labels) h.disc.terms h.region (place_of addr.0) size may_move u))))

    -- a fault leaves the region and its names
    pub gives-fault : (told : Reply) → Told call told → (region : Region ℕ) → region ≡ h.region → GivesRegion (resize_named (home_of h) x size may_move (is_for_block (need_shown told))) (region_with_labels (name_of_tag h.labels) region, kept_of h.labels) told
    gives-fault told t region same =
        let u = is_for_block (need_shown told) in
        let eq : resize_named k x size may_move u ≡ refusal_alone k _ = resize-named u ∙ ap (λ o. put_in k x (kept_of h.labels) (watch_at h.region (place_of addr.0)) (outcome_as (region_with_labels f) o)) t.refused in
        subst (λ c. GivesRegion c (region_with_labels f region, kept_of h.labels) told) (sym eq) (record { region_after = ap (region_with_labels f) (sym same); kept_after = refl; replied = t.is })

    module _ (new : Labels) (to : Label) (m : MovesLabel h.labels new has.tag to) (same_name : to.name ≡ x) (same_kept : kept_of new ≡ kept_of h.labels) (region : Region ℕ) (is : IsPut (call false) to.at.0 region) where
      pub gives-resized : (watch : Option ℕ) → watch ≡ watch_at h.region (place_of addr.0) → GivesRegion (resize_named (home_of h) x size may_move false) (region_with_labels (name_of_tag new) region, kept_of new) (at_place x (place_of to.at.0) watch)
      gives-resized watch watched =
          let moved : region_with_labels (name_of_tag new) region ≡ region_with_labels f region = relabelled-names h.labels new region (name-moved h.labels h.region has.names x has.tag (label_of x addr) has.there b new to m same_name) in
          let there = watch_at h.region (place_of addr.0) in
          subst (λ w. GivesRegion (resize_named k x size may_move false) (region_with_labels (name_of_tag new) region, kept_of new) (at_place x (place_of to.at.0) w)) (sym watched)
          (subst (λ c. GivesRegion c (region_with_labels (name_of_tag new) region, kept_of new) (at_place x (place_of to.at.0) there)) (sym (resize-named false))
          (subst (λ r. GivesRegion (put_in k x (kept_of h.labels) there (outcome_as (region_with_labels f) (call false))) (r, kept_of new) (at_place x (place_of to.at.0) there)) (sym moved)
          (subst (λ q. GivesRegion (put_in k x (kept_of h.labels) there (outcome_as (region_with_labels f) (call false))) (region_with_labels f region, q) (at_place x (place_of to.at.0) there)) (sym same_kept)
          (gives-put k x (kept_of h.labels) there f (call false) to.at.0 region is))))

      pub named-resized : option_map (λ c. c.label) (find_block (place_of to.at.0) (blocks_of region)) ≡ option_map (λ c. c.label) (find_block (place_of addr.0) (blocks_of h.region)) → without_block (place_of to.at.0) (blocks_of region) ≡ without_block (place_of addr.0) (blocks_of h.region) → AreLabels new → HaveOwnPlaces (blocks_of region) → AreLabelsOf region new
      named-resized there others agree places =
          let found = from_some (λ (c : Block ℕ). c.label) (find_block (place_of to.at.0) (blocks_of region)) b.block.label (there ∙ ap (option_map (λ (c : Block ℕ). c.label)) b.found) in
          let place : place_of to.at.0 ≡ (found.from.seg, found.from.off) = found-place (place_of to.at.0) found.from (blocks_of region) found.was in
          named-moved h.labels h.region has.names x has.tag (label_of x addr) has.there b new to m same_name region found.from found.was found.to
          (put-address (call false) to.at.0 region is ∙ ap address place) place others agree places
          (λ e. same_kept ∙ has.names.none (sym (resize-keeps h.disc.terms h.region (place_of addr.0) size may_move false to.at.0 region is) ∙ e))

-- a place by its parts
pub gives-place : (c : Changed) (r : Region home.Label × FreedNames) (x : List ℕ) (a : ℕ) (place : Place) (watch : Option ℕ) → place.seg ≡ (place_of a).0 → place.off ≡ (place_of a).1 → GivesRegion c r (at_place x (place_of a) watch) → GivesRegion c r (At x place watch)
gives-place c r x a place watch seg off gives =
    subst (λ o. GivesRegion c r (At x (record { seg = place.seg; off = o }) watch)) (sym off)
    (subst (λ s. GivesRegion c r (At x (record { seg = s; off = (place_of a).1 }) watch)) (sym seg) gives)

module _ (h : Held) {x : List ℕ} {addr : Addr} (has : HasName h.region h.labels x addr) (size : ℕ) (may_move : Bool) (sized : is_size size ≡ true) where
  pub step-fault : {E : Type 0} (fault : RegionFault) (result : Result Reply E) → TellsFault fault result → IsRefusal (call h has size may_move) fault → (region : Region ℕ) → region ≡ h.region → IfOk result (λ told. GivesRegion (resize_named (home_of h) x size may_move (is_for_block (need_shown told))) (region_with_labels (name_of_tag h.labels) region, kept_of h.labels) told)
  step-fault fault (Ok told) tells refusal region same =
      gives-fault h has size may_move sized told (fault-told (call h has size may_move) fault told tells refusal) region same
  step-fault fault (Err e) tells refusal region same = tt
