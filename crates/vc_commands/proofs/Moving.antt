-- The names of a region stay in step with its blocks as one is put, moves or goes.
use Rattle.vc_base.proofs.Common.{◌≡◌, ℕ, zero, suc, ◌+◌, ◌≤◌, true, false, cond, ◌||◌, ◌≢◌, ◌⊎◌, List, [], ◌∷◌, is_some, nat_lt, Some, None, bytes_eq, sym, refl, ap, ◌∙◌, subst, ⊎_elim, arith, nat_tests, cases_Bool, cases_eq, none-some, same_Some, AllByRecursion, list_any, address, place_of, zeros, Block, address_of, without_block, HaveOwnPlaces, find_block}
use Rattle.vc_region.specs.Region.{Region, blocks_of, keeps_freed, region_with_labels}
use Rattle.vc_base.proofs.Texts.{same_bytes}
use Rattle.vc_region.proofs.Relabel.{relabelled-alike}
use Rattle.vc_commands.specs.Blocks.{is_name_of}
use Rattle.vc_commands.specs.declared.region.labels.Label.{Label}
use Rattle.vc_commands.specs.declared.region.labels.Labels.{Labels}
use Rattle.vc_commands.specs.Home as home
use Rattle.vc_commands.specs.Labels.{AreLabels, MovesLabel, WithLabel, WithoutLabel, kept_of, label_at, name_of_tag, tag_of}
use Rattle.vc_commands.specs.Held.{IsLive, AreLabelsOf, tag_count}
use Rattle.vc_commands.proofs.FoundBlocks.{TheBlock}
use Rattle.vc_audit.proofs.ProfileLists.{all-join, all-without, others-apart}
use Rattle.vc_commands.proofs.Lists.{any-alike, any-split, count-split}
use Rattle.vc_commands.proofs.Names.{has-label-any, name-alike, name-here, name-none, named_by, other_bytes, zero-or}

-- the tag is that of no block, or of the one that is looked at alone
abbrev pub Stays : Labels → Labels → Block ℕ → Type 0
Stays old new b = 1 ≤ b.label → IsLive new b × (label_at new b.label ≡ label_at old b.label)

lives : (old new : Labels) (bs : List (Block ℕ)) → AllByRecursion (Stays old new) bs → AllByRecursion (λ b. 1 ≤ b.label → IsLive new b) bs
lives old new [] all = tt
lives old new (b ∷ bs) all = ((λ first. (all.0 first).0), lives old new bs all.1)

name-stays : (old new : Labels) (b : Block ℕ) → Stays old new b → name_of_tag new b.label ≡ name_of_tag old b.label
name-stays old new b stays =
    ⊎_elim
    (λ none. name-none new b.label none ∙ sym (name-none old b.label none))
    (λ some. name-alike old new b.label (stays some).1)
    (zero-or b.label)

pub names-stay : (old new : Labels) (bs : List (Block ℕ)) → AllByRecursion (Stays old new) bs → AllByRecursion (λ b. name_of_tag new b.label ≡ name_of_tag old b.label) bs
names-stay old new [] all = tt
names-stay old new (b ∷ bs) all = (name-stays old new b all.0, names-stay old new bs all.1)

tests-stay : (old new : Labels) (y : List ℕ) (bs : List (Block ℕ)) → AllByRecursion (λ b. name_of_tag new b.label ≡ name_of_tag old b.label) bs → AllByRecursion (λ b. named_by (name_of_tag new) y b ≡ named_by (name_of_tag old) y b) bs
tests-stay old new y [] all = tt
tests-stay old new y (b ∷ bs) all = (ap (is_name_of y) all.0, tests-stay old new y bs all.1)

stay-other : (old new : Labels) (tag : ℕ) (b : Block ℕ) → ((t : ℕ) → 1 ≤ t → t ≢ tag → label_at new t ≡ label_at old t) → (1 ≤ b.label → IsLive old b) → b.label ≢ tag → Stays old new b
stay-other old new tag b same live other = λ first.
    let l = live first in
    let is = same b.label first other in
    (record { label = l.label; here = is ∙ l.here; at = l.at; place = l.place }, is)

-- a new block, under a new name and a tag that was not in use
module _ (old new : Labels) (tag : ℕ) (label : Label) (w : WithLabel old new tag label) (vacant : label_at old tag ≡ None) where
  stay-new : (bs : List (Block ℕ)) → AllByRecursion (λ b. 1 ≤ b.label → IsLive old b) bs → AllByRecursion (Stays old new) bs
  stay-new [] all = tt
  stay-new (b ∷ bs) all = (
    (λ first.
        let l = all.0 first in
        stay-other old new tag b w.other_tags all.0 (λ e. none-some l.label (sym vacant ∙ (ap (label_at old) (sym e) ∙ l.here))) first),
    stay-new bs all.1,
  )

  pub name-new : name_of_tag new tag ≡ Some label.name
  name-new = name-here new tag label w.first w.at

  -- one more name changes no block's name
  pub region-more : (r : Region ℕ) → AreLabelsOf r old → region_with_labels (name_of_tag new) r ≡ region_with_labels (name_of_tag old) r
  region-more r names = relabelled-alike (name_of_tag new) (name_of_tag old) r (names-stay old new (blocks_of r) (stay-new (blocks_of r) names.live))

  known-more : (y : List ℕ) → is_some (tag_of new y) ≡ (bytes_eq label.name y || is_some (tag_of old y))
  known-more y =
      ⊎_elim
      (λ e. ap (λ x. is_some (tag_of new x)) (sym (same_bytes label.name y e)) ∙ (ap is_some w.name ∙ sym (ap (λ b. b || is_some (tag_of old y)) e)))
      (λ e. ap is_some (w.other_names y (λ same. other_bytes label.name y e (sym same))) ∙ sym (ap (λ b. b || is_some (tag_of old y)) e))
      (cases_Bool (bytes_eq label.name y))

  pub named-put : (r r' : Region ℕ) (size : ℕ) → find_block (place_of label.at.0) (blocks_of r') ≡ Some (zeros tag size (place_of label.at.0)) → without_block (place_of label.at.0) (blocks_of r') ≡ blocks_of r → label.at.0 ≡ address (place_of label.at.0) → AreLabels new → HaveOwnPlaces (blocks_of r') → (keeps_freed r' ≡ false → kept_of new ≡ []) → AreLabelsOf r old → AreLabelsOf r' new
  named-put r r' size there others at agree places none n =
      let p = place_of label.at.0 in
      let z : Block ℕ = zeros tag size p in
      let stays : AllByRecursion (Stays old new) (without_block p (blocks_of r')) = subst (AllByRecursion (Stays old new)) (sym others) (stay-new (blocks_of r) n.live) in
      let first : nat_lt 0 tag ≡ true = grind (arith, nat_tests, w.first) in
      let one : ◌≡◌ {A = ℕ} (cond (nat_lt 0 tag) 1 0) 1 = ap (λ b. cond b 1 0) first in
      let all : tag_count (blocks_of r') ≡ cond (nat_lt 0 tag) 1 0 + tag_count (without_block p (blocks_of r')) = count-split p z (λ b. nat_lt 0 b.label) (blocks_of r') there in
      let left : tag_count (without_block p (blocks_of r')) ≡ tag_count (blocks_of r) = ap tag_count others in
      record {
        agree = agree;
        count = omega (arith, all, left, one, n.count, w.count);
        live = all-join p z (λ b. 1 ≤ b.label → IsLive new b) (blocks_of r') there (λ low. record { label = label; here = w.at; at = at; place = refl }) (lives old new (without_block p (blocks_of r')) stays);
        known = λ y.
            known-more y
            ∙ (ap (λ v. bytes_eq label.name y || v) (n.known y ∙ has-label-any (name_of_tag old) y r)
            ∙ sym (has-label-any (name_of_tag new) y r'
            ∙ (any-split p z (named_by (name_of_tag new) y) (blocks_of r') there
            ∙ (ap (λ o. is_name_of y o || list_any (named_by (name_of_tag new) y) (without_block p (blocks_of r'))) name-new
            ∙ (ap (λ v. bytes_eq label.name y || v)
            (ap (list_any (named_by (name_of_tag new) y)) others
            ∙ any-alike (named_by (name_of_tag new) y) (named_by (name_of_tag old) y) (blocks_of r) (tests-stay old new y (blocks_of r) (names-stay old new (blocks_of r) (stay-new (blocks_of r) n.live)))))))));
        places = places;
        none = none;
      }

-- blocks that stand elsewhere than the one of a name have other tags
module _ (old : Labels) (r : Region ℕ) (names : AreLabelsOf r old) (x : List ℕ) (tag : ℕ) (label : Label) (was_at : label_at old tag ≡ Some label) (b : TheBlock r old x tag label.at.0) where
  abbrev p : ℕ × ℕ
  p = place_of label.at.0

  abbrev f : ℕ → home.Label
  f = name_of_tag old

  differs : (c : Block ℕ) → (1 ≤ c.label → IsLive old c) → address_of c ≢ address_of b.block → 1 ≤ c.label → c.label ≢ tag
  differs c live other first e =
      let l = live first in
      let same : l.label ≡ label = same_Some l.label label (sym l.here ∙ (ap (label_at old) e ∙ was_at)) in
      other (sym l.at ∙ (ap (λ (k : Label). k.at.0) same ∙ sym b.address))

  stay-others : (new : Labels) → ((t : ℕ) → 1 ≤ t → t ≢ tag → label_at new t ≡ label_at old t) → (bs : List (Block ℕ)) → AllByRecursion (λ c. 1 ≤ c.label → IsLive old c) bs → AllByRecursion (λ c. address_of c ≢ address_of b.block) bs → AllByRecursion (Stays old new) bs
  stay-others new same [] all away = tt
  stay-others new same (c ∷ cs) all away =
      ((λ first. stay-other old new tag c same all.0 (differs c all.0 away.0 first) first), stay-others new same cs all.1 away.1)

  -- the tags with its own
  was : tag_count (blocks_of r) ≡ cond (nat_lt 0 b.block.label) 1 0 + tag_count (without_block p (blocks_of r))
  was = count-split p b.block (λ c. nat_lt 0 c.label) (blocks_of r) b.found

  -- those behind without it
  pub rest-stays : (new : Labels) → ((t : ℕ) → 1 ≤ t → t ≢ tag → label_at new t ≡ label_at old t) → AllByRecursion (Stays old new) (without_block (place_of label.at.0) (blocks_of r))
  rest-stays new same =
      stay-others new same (without_block (place_of label.at.0) (blocks_of r))
      (all-without (λ c. 1 ≤ c.label → IsLive old c) (place_of label.at.0) (blocks_of r) names.live)
      (others-apart (place_of label.at.0) b.block (blocks_of r) b.found names.places)

  -- the block has another address, or another size or bytes, under its tag
  module _ (new : Labels) (to : Label) (m : MovesLabel old new tag to) (same_name : to.name ≡ label.name) where
    pub name-moved : (t : ℕ) → name_of_tag new t ≡ name_of_tag old t
    name-moved t =
        ⊎_elim
        (λ e.
        subst (λ u. name_of_tag new u ≡ name_of_tag old u) (sym e)
        (name-here new tag to m.first m.at ∙ (ap (λ n. Some n) same_name ∙ sym (name-here old tag label m.first was_at))))
        (λ other. other-name t other)
        (cases_eq t tag)
      where
        other-name : (u : ℕ) → u ≢ tag → name_of_tag new u ≡ name_of_tag old u
        other-name zero other = name-none new 0 refl ∙ sym (name-none old 0 refl)
        other-name (suc u) other = name-alike old new (suc u) (m.other_tags (suc u) (omega arith) other)

    pub named-moved : (r' : Region ℕ) (b' : Block ℕ) → find_block (place_of to.at.0) (blocks_of r') ≡ Some b' → b'.label ≡ b.block.label → to.at.0 ≡ address_of b' → place_of to.at.0 ≡ (b'.seg, b'.off) → without_block (place_of to.at.0) (blocks_of r') ≡ without_block (place_of label.at.0) (blocks_of r) → AreLabels new → HaveOwnPlaces (blocks_of r') → (keeps_freed r' ≡ false → kept_of new ≡ []) → AreLabelsOf r' new
    named-moved r' b' there tagged at place others agree places none =
        let q = place_of to.at.0 in
        let stays : AllByRecursion (Stays old new) (without_block q (blocks_of r')) = subst (AllByRecursion (Stays old new)) (sym others) (rest-stays new m.other_tags) in
        let is_tag : b'.label ≡ tag = tagged ∙ b.is_tag in
        let all : tag_count (blocks_of r') ≡ cond (nat_lt 0 b'.label) 1 0 + tag_count (without_block q (blocks_of r')) = count-split q b' (λ c. nat_lt 0 c.label) (blocks_of r') there in
        let one : ◌≡◌ {A = ℕ} (cond (nat_lt 0 b'.label) 1 0) (cond (nat_lt 0 b.block.label) 1 0) = ap (λ t. cond (nat_lt 0 t) 1 0) tagged in
        let left : tag_count (without_block q (blocks_of r')) ≡ tag_count (without_block p (blocks_of r)) = ap tag_count others in
        record {
          agree = agree;
          count = omega (arith, all, was, one, left, names.count, m.count);
          live = all-join q b' (λ c. 1 ≤ c.label → IsLive new c) (blocks_of r') there
              (λ low. record { label = to; here = ap (label_at new) is_tag ∙ m.at; at = at; place = place })
              (lives old new (without_block q (blocks_of r')) stays);
          known = λ y.
              ap is_some (m.names y)
              ∙ (names.known y
              ∙ (has-label-any f y r
              ∙ (any-split p b.block (named_by f y) (blocks_of r) b.found
              ∙ sym (has-label-any (name_of_tag new) y r'
              ∙ (any-split q b' (named_by (name_of_tag new) y) (blocks_of r') there
              ∙ (ap (λ o. is_name_of y o || list_any (named_by (name_of_tag new) y) (without_block q (blocks_of r'))) (name-moved b'.label ∙ ap f tagged)
              ∙ ap (λ v. is_name_of y (f b.block.label) || v)
              (ap (list_any (named_by (name_of_tag new) y)) others
              ∙ any-alike (named_by (name_of_tag new) y) (named_by f y) (without_block p (blocks_of r)) (tests-stay old new y (without_block p (blocks_of r)) (names-stay old new (without_block p (blocks_of r)) (rest-stays new m.other_tags))))))))));
          places = places;
          none = none;
        }

  -- the block goes, and its name
  module _ (new : Labels) (w : WithoutLabel old new tag label) (is_named : label.name ≡ x) where
    pub region-less : (r' : Region ℕ) → blocks_of r' ≡ without_block (place_of label.at.0) (blocks_of r) → region_with_labels (name_of_tag new) r' ≡ region_with_labels (name_of_tag old) r'
    region-less r' left = relabelled-alike (name_of_tag new) (name_of_tag old) r' (names-stay old new (blocks_of r') (subst (AllByRecursion (Stays old new)) (sym left) (rest-stays new w.other_tags)))

    unnamed : (y : List ℕ) → AreLabels new → tag_of new y ≡ None → (bs : List (Block ℕ)) → AllByRecursion (λ c. 1 ≤ c.label → IsLive new c) bs → list_any (named_by (name_of_tag new) y) bs ≡ false
    unnamed y agree none [] all = refl
    unnamed y agree none (c ∷ cs) all =
        ap (λ v. v || list_any (named_by (name_of_tag new) y) cs) (fails c.label all.0) ∙ unnamed y agree none cs all.1
      where
        fails : (t : ℕ) → (1 ≤ c.label → IsLive new c) → is_name_of y (name_of_tag new c.label) ≡ false
        fails t live =
            ⊎_elim
            (λ zero_is. ap (is_name_of y) (name-none new c.label zero_is))
            (λ first.
            let l = live first in
            let own = name-here new c.label l.label first l.here in
            ap (is_name_of y) own
            ∙ ⊎_elim
            (λ e. absurd (none-some c.label (sym none ∙ (ap (tag_of new) (sym (same_bytes l.label.name y e)) ∙ agree.named c.label l.label first l.here))))
            (λ e. e)
            (cases_Bool (bytes_eq l.label.name y)))
            (zero-or c.label)

    pub named-left : (r' : Region ℕ) → blocks_of r' ≡ without_block (place_of label.at.0) (blocks_of r) → AreLabels new → HaveOwnPlaces (blocks_of r') → (keeps_freed r' ≡ false → kept_of new ≡ []) → AreLabelsOf r' new
    named-left r' left agree places none =
        let stays : AllByRecursion (Stays old new) (blocks_of r') = subst (AllByRecursion (Stays old new)) (sym left) (rest-stays new w.other_tags) in
        let live = lives old new (blocks_of r') stays in
        let low : 1 ≤ b.block.label = b.first in
        let first : nat_lt 0 b.block.label ≡ true = grind (arith, nat_tests, low) in
        let one : ◌≡◌ {A = ℕ} (cond (nat_lt 0 b.block.label) 1 0) 1 = ap (λ v. cond v 1 0) first in
        let same : tag_count (blocks_of r') ≡ tag_count (without_block p (blocks_of r)) = ap tag_count left in
        record {
          agree = agree;
          count = omega (arith, was, one, same, names.count, w.count);
          live = live;
          known = λ y.
              ⊎_elim
              (λ e.
              let gone : tag_of new y ≡ None = ap (tag_of new) (sym (is_named ∙ same_bytes x y e)) ∙ w.name_gone in
              ap is_some gone ∙ sym (has-label-any (name_of_tag new) y r' ∙ unnamed y agree gone (blocks_of r') live))
              (λ e.
              ap is_some (w.other_names y (λ same_name. other_bytes x y e (sym (same_name ∙ is_named))))
              ∙ (names.known y
              ∙ (has-label-any f y r
              ∙ (any-split p b.block (named_by f y) (blocks_of r) b.found
              ∙ (ap (λ o. is_name_of y o || list_any (named_by f y) (without_block p (blocks_of r))) b.name
              ∙ (ap (λ v. v || list_any (named_by f y) (without_block p (blocks_of r))) e
              ∙ (ap (list_any (named_by f y)) (sym left)
              ∙ (sym (any-alike (named_by (name_of_tag new) y) (named_by f y) (blocks_of r') (tests-stay old new y (blocks_of r') (names-stay old new (blocks_of r') stays)))
              ∙ sym (has-label-any (name_of_tag new) y r')))))))))
              (cases_Bool (bytes_eq x y));
          places = places;
          none = none;
        }
