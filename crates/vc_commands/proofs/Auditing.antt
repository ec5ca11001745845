-- What is done with the block of a name in a debug region, and what a walk of its damage and of the rows of a profile region tells.
use Rattle.vc_base.proofs.Common.{◌≡◌, ℕ, zero, suc, ◌+◌, ◌≤◌, true, false, cond, List, [], ◌∷◌, ◌++◌, map, drop, ℤ, slice_get, Some, None, filter, Option, option_map, filter_map, sym, refl, ap, ◌∙◌, subst, inl, inr, ⊎_elim, append_assoc, append-nil, arith, none-some, same_Some, AllByRecursion, cons_option, address, place_of, Block, address_of, relabel_block, without_block, HaveOwnPlaces, find_block, by_address}
use Rattle.vc_audit.specs.Debug.{damage, damage_of, user_block}
use Rattle.vc_audit.specs.DebugParts.{debug_of}
use Rattle.vc_audit.proofs.DebugDamaged.{all-pass, behind, next-passes, none-passes}
use Rattle.vc_audit.proofs.DebugRelabel.{relabel_found}
use Rattle.vc_audit.proofs.DebugWalks.{own-best}
use Rattle.vc_base.specs.declared.addr.Addr.{Addr}
use Rattle.vc_model.proofs.Owned.{address-place_of}
use Rattle.vc_model.proofs.Places.{Among, among-all, among-find, found-there}
use Rattle.vc_model.proofs.Sorting as sorting
use Rattle.vc_region.specs.declared.region.Region as made
use Rattle.vc_region.specs.declared.region.Region.TheVariants.{Best, Pool, Last, Debug, Profile}
use Rattle.vc_region.specs.Parts.{blocks_in, region_of}
use Rattle.vc_region.specs.Region.{OfBest, OfPool, OfLast, OfDebug, OfProfile, Region, blocks_of, damaged_in, is_debug, keeps_freed, next_damaged_in, region_poke, region_watch, region_with_labels, row_in, rows_in, segments_of, watch_at}
use Rattle.vc_region.proofs.Keeps.{poke-keeps, watch-keeps}
use Rattle.vc_region.proofs.Relabel.{damaged-relabelled, debug-relabelled, marks-relabelled, poke-relabelled, watch-relabelled}
use Rattle.vc_region.proofs.Writing.{poke-labels, watch-blocks}
use Rattle.vc_seg.specs.declared.profile_row.ProfileRow.{ProfileRow}
use Rattle.vc_script.specs.declared.refusal.Refusal.TheVariants as why
use Rattle.vc_script.specs.declared.reply.Reply.TheVariants.{Poked, Watched}
use Rattle.vc_commands.specs.Held.{HasName, Held, AreLabelsOf, home_of}
use Rattle.vc_commands.specs.Audit.{damage_item, is_poke, poke_block, poke_byte, poke_in, watch_block, watch_in}
use Rattle.vc_commands.specs.Labels.{MovesLabel, kept_of, name_of_tag}
use Rattle.vc_commands.specs.Home as home
use Rattle.vc_commands.specs.Home.{Home, changed_to, refusal_alone}
use Rattle.vc_commands.specs.RegionRun.{GivesRegion}
use Rattle.vc_commands.specs.declared.region.labels.Labels.{Labels}
use Rattle.vc_commands.proofs.FoundBlocks.{TheBlock, label_of, on_block-there, the_block}
use Rattle.vc_commands.proofs.Moving.{named-moved}
use Rattle.vc_commands.proofs.Listing.{from_some}
use Rattle.vc_commands.proofs.Resizing.{found-place}

pub poked-segments : (r : Region ℕ) (at : ℕ × ℕ) (off : ℤ) (byte : ℕ) → segments_of (region_poke r at off byte) ≡ segments_of r
poked-segments (OfBest l) at off byte = refl
poked-segments (OfPool p) at off byte = refl
poked-segments (OfLast l) at off byte = refl
poked-segments (OfDebug d) at off byte = refl
poked-segments (OfProfile p) at off byte = refl

pub watched-segments : (r : Region ℕ) (at : ℕ × ℕ) (line : ℕ) → segments_of (region_watch r at line) ≡ segments_of r
watched-segments (OfBest l) at line = refl
watched-segments (OfPool p) at line = refl
watched-segments (OfLast l) at line = refl
watched-segments (OfDebug d) at line = refl
watched-segments (OfProfile p) at line = refl

module _ (h : Held) {x : List ℕ} {addr : Addr} (has : HasName h.region h.labels x addr) where
  abbrev b : TheBlock h.region h.labels x has.tag addr.0
  b = the_block has

  abbrev k : Home
  k = home_of h

  abbrev f : ℕ → home.Label
  f = name_of_tag h.labels

  abbrev at : ℕ × ℕ
  at = (b.block.seg, b.block.off)

  abbrev p : ℕ × ℕ
  p = place_of addr.0

  -- the names stay those of the blocks, where each block keeps its place and its label
  named-still : (region : Region ℕ) → keeps_freed region ≡ keeps_freed h.region → option_map (λ (c : Block ℕ). c.label) (find_block p (blocks_of region)) ≡ option_map (λ (c : Block ℕ). c.label) (find_block p (blocks_of h.region)) → without_block p (blocks_of region) ≡ without_block p (blocks_of h.region) → HaveOwnPlaces (blocks_of region) → AreLabelsOf region h.labels
  named-still region keeps labels others places =
      let first : 1 ≤ has.tag = subst (λ t. 1 ≤ t) b.is_tag b.first in
      let still : MovesLabel h.labels h.labels has.tag (label_of x addr) = record { first = first; at = has.there; other_tags = λ other low differs. refl; names = λ y. refl; count = refl } in
      let told : option_map (λ (c : Block ℕ). c.label) (find_block p (blocks_of region)) ≡ Some b.block.label = labels ∙ ap (option_map (λ (c : Block ℕ). c.label)) b.found in
      let found = from_some (λ (c : Block ℕ). c.label) (find_block p (blocks_of region)) b.block.label told in
      let place : p ≡ (found.from.seg, found.from.off) = found-place p found.from (blocks_of region) found.was in
      let same : addr.0 ≡ address_of found.from = sym (address-place_of addr.0) ∙ ap address place in
      named-moved h.labels h.region has.names x has.tag (label_of x addr) has.there b h.labels (label_of x addr) still refl region found.from found.was found.to same place others has.names.agree places
      (λ e. has.names.none (sym keeps ∙ e))

  module _ (off : ℤ) (byte : ℕ) where
    -- a region of another method
    pub poke-method : is_debug h.region ≡ false → poke_in (home_of h) x off byte ≡ refusal_alone (home_of h) why.WrongMethod
    poke-method other =
        on_block-there h x has.tag addr.0 b (poke_block k x off byte)
        ∙ ap (λ v. cond v (poke_byte k x off byte (relabel_block f b.block)) (refusal_alone k why.WrongMethod)) (debug-relabelled (name_of_tag h.labels) h.region ∙ other)

    poke-there : is_debug h.region ≡ true → poke_in (home_of h) x off byte ≡ poke_byte (home_of h) x off byte (relabel_block (name_of_tag h.labels) b.block)
    poke-there is =
        on_block-there h x has.tag addr.0 b (poke_block k x off byte)
        ∙ ap (λ v. cond v (poke_byte k x off byte (relabel_block f b.block)) (refusal_alone k why.WrongMethod)) (debug-relabelled (name_of_tag h.labels) h.region ∙ is)

    -- an offset out of the block's bytes and its guards, or a byte above 255
    pub poke-range : is_debug h.region ≡ true → is_poke b.block.size off byte ≡ false → poke_in (home_of h) x off byte ≡ refusal_alone (home_of h) why.Range
    poke-range is fails =
        poke-there is ∙ ap (λ v. cond v (changed_to k (region_poke k.region at off byte) (Poked x (watch_at k.region at))) (refusal_alone k why.Range)) fails

    pub gives-poked : (region : Region ℕ) → is_debug h.region ≡ true → is_poke b.block.size off byte ≡ true → region ≡ region_poke h.region p off byte → (watch : Option ℕ) → watch ≡ watch_at h.region p → GivesRegion (poke_in (home_of h) x off byte) (region_with_labels (name_of_tag h.labels) region, kept_of h.labels) (Poked x watch)
    gives-poked region is passes put watch watched =
        let eq : poke_in k x off byte ≡ changed_to k (region_with_labels f region) (Poked x watch) =
        poke-there is
        ∙ (ap (λ v. cond v (changed_to k (region_poke k.region at off byte) (Poked x (watch_at k.region at))) (refusal_alone k why.Range)) passes
        ∙ (ap (λ q. changed_to k (region_poke k.region q off byte) (Poked x (watch_at k.region q))) (sym b.place)
        ∙ (ap (λ w. changed_to k (region_poke k.region p off byte) (Poked x w)) (watch-relabelled f h.region p ∙ sym watched)
        ∙ ap (λ r. changed_to k r (Poked x watch)) (poke-relabelled f h.region p off byte ∙ ap (region_with_labels f) (sym put))))) in
        subst (λ c. GivesRegion c (region_with_labels f region, kept_of h.labels) (Poked x watch)) (sym eq) (record { region_after = refl; kept_after = refl; replied = refl })

    pub named-poked : (region : Region ℕ) → region ≡ region_poke h.region p off byte → without_block p (blocks_of region) ≡ without_block p (blocks_of h.region) → HaveOwnPlaces (blocks_of region) → AreLabelsOf region h.labels
    named-poked region is others places =
        named-still region (ap keeps_freed is ∙ poke-keeps h.region p off byte)
        (ap (λ r. option_map (λ (c : Block ℕ). c.label) (find_block p (blocks_of r))) is ∙ poke-labels h.region p p off byte) others places

  module _ (line : ℕ) where
    pub watch-method : is_debug h.region ≡ false → watch_in (home_of h) line x ≡ refusal_alone (home_of h) why.WrongMethod
    watch-method other =
        on_block-there h x has.tag addr.0 b (watch_block k line x)
        ∙ ap (λ v. cond v (changed_to k (region_watch k.region at line) (Watched x)) (refusal_alone k why.WrongMethod)) (debug-relabelled (name_of_tag h.labels) h.region ∙ other)

    pub gives-watched : (region : Region ℕ) → is_debug h.region ≡ true → region ≡ region_watch h.region p line → GivesRegion (watch_in (home_of h) line x) (region_with_labels (name_of_tag h.labels) region, kept_of h.labels) (Watched x)
    gives-watched region is put =
        let eq : watch_in k line x ≡ changed_to k (region_with_labels f region) (Watched x) =
        on_block-there h x has.tag addr.0 b (watch_block k line x)
        ∙ (ap (λ v. cond v (changed_to k (region_watch k.region at line) (Watched x)) (refusal_alone k why.WrongMethod)) (debug-relabelled f h.region ∙ is)
        ∙ (ap (λ q. changed_to k (region_watch k.region q line) (Watched x)) (sym b.place)
        ∙ ap (λ r. changed_to k r (Watched x)) (marks-relabelled f h.region p line ∙ ap (region_with_labels f) (sym put)))) in
        subst (λ c. GivesRegion c (region_with_labels f region, kept_of h.labels) (Watched x)) (sym eq) (record { region_after = refl; kept_after = refl; replied = refl })

    pub named-watched : (region : Region ℕ) → region ≡ region_watch h.region p line → HaveOwnPlaces (blocks_of region) → AreLabelsOf region h.labels
    named-watched region is places =
        let blocks : blocks_of region ≡ blocks_of h.region = ap blocks_of is ∙ watch-blocks h.region p line in
        named-still region (ap keeps_freed is ∙ watch-keeps h.region p line)
        (ap (λ bs. option_map (λ (c : Block ℕ). c.label) (find_block p bs)) blocks) (ap (without_block p) blocks) places

-- the rows behind an index
pub row-is : (r : Region ℕ) (i : ℕ) → row_in r i ≡ slice_get (rows_in r) i
row-is (OfBest l) i = refl
row-is (OfPool p) i = refl
row-is (OfLast l) i = refl
row-is (OfDebug d) i = refl
row-is (OfProfile p) i = refl

row-here : (rows : List ProfileRow) (i : ℕ) (row : ProfileRow) → slice_get rows i ≡ Some row → drop i rows ≡ row ∷ drop (suc i) rows
row-here [] i row e = absurd (none-some row e)
row-here (r ∷ rs) zero row e = ap (λ q. q ∷ rs) (same_Some r row e)
row-here (r ∷ rs) (suc i) row e = row-here rs i row e

next-index : (i : ℕ) → suc i ≡ i + 1
next-index i = omega arith

pub row-next : (rows : List ProfileRow) (i : ℕ) (row : ProfileRow) → slice_get rows i ≡ Some row → drop i rows ≡ row ∷ drop (i + 1) rows
row-next rows i row e = row-here rows i row e ∙ ap (λ k. row ∷ drop k rows) (next-index i)

pub row-end : (rows : List ProfileRow) (i : ℕ) → slice_get rows i ≡ None → drop i rows ≡ []
row-end [] zero e = refl
row-end [] (suc i) e = refl
row-end (r ∷ rs) zero e = absurd (none-some r (sym e))
row-end (r ∷ rs) (suc i) e = row-end rs i e

-- the items of damaged blocks, under their names
abbrev pub found_items : Labels → List (Block ℕ × ℤ) → List (List ℕ × ℤ)
found_items labels fs = filter_map damage_item (map (relabel_found (name_of_tag labels)) fs)

pub list-damage : (r : Region ℕ) (labels : Labels) → filter_map damage_item (damaged_in (region_with_labels (name_of_tag labels) r)) ≡ found_items labels (damaged_in r)
list-damage r labels = ap (filter_map damage_item) (damaged-relabelled (name_of_tag labels) r)

-- the damaged blocks behind an address
abbrev pub damaged_behind : ℕ → Region ℕ → List (Block ℕ × ℤ)
damaged_behind after r = filter (behind after) (damaged_in r)

among-map : {A B : Type 0} (f : A → B) (x : A) (xs : List A) → Among x xs → Among (f x) (map f xs)
among-map f x [] m = absurd m
among-map f x (y ∷ ys) m = ⊎_elim (λ e. inl (ap f e)) (λ rest. inr (among-map f x ys rest)) m

each-among : {A : Type 0} (P : A → Type 0) (xs : List A) → ((x : A) → Among x xs → P x) → AllByRecursion P xs
each-among P [] each = tt
each-among P (x ∷ xs) each = (each x (inl refl), each-among P xs (λ y m. each y (inr m)))

cons-among : (all : List (Block ℕ)) (c : Block ℕ) (o : Option ℤ) (xs : List (Block ℕ × ℤ)) → Among (user_block c) all → AllByRecursion (λ f. Among f.0 all) xs → AllByRecursion (λ f. Among f.0 all) (cons_option (option_map {U = Block ℕ × ℤ} (λ off. (user_block c, off)) o) xs)
cons-among all c None xs here rest = rest
cons-among all c (Some off) xs here rest = (here, rest)

found-among : (all bs : List (Block ℕ)) → AllByRecursion (λ c. Among (user_block c) all) bs → AllByRecursion (λ f. Among f.0 all) (filter_map damage_of bs)
found-among all [] each = tt
found-among all (c ∷ cs) each = cons-among all c (damage c) (filter_map damage_of cs) each.0 (found-among all cs each.1)

module _ {I : Type 0} {V : I → Type 0} where
  damaged-next : (r : made.Region I V) (after : ℕ) (x : Block ℕ × ℤ) → next_damaged_in after (region_of r) ≡ Some x → damaged_behind after (region_of r) ≡ x ∷ damaged_behind (address_of x.0) (region_of r)
  damaged-next (Best q) after x e = absurd (none-some x e)
  damaged-next (Pool q) after x e = absurd (none-some x e)
  damaged-next (Last q) after x e = absurd (none-some x e)
  damaged-next (Debug d) after x e = next-passes (debug_of d) after x (own-best (debug_of d).best d.best.sound) e
  damaged-next (Profile q) after x e = absurd (none-some x e)

  damaged-among : (r : made.Region I V) (after : ℕ) (x : Block ℕ × ℤ) → next_damaged_in after (region_of r) ≡ Some x → Among x.0 (blocks_in r)
  damaged-among (Best q) after x e = absurd (none-some x e)
  damaged-among (Pool q) after x e = absurd (none-some x e)
  damaged-among (Last q) after x e = absurd (none-some x e)
  damaged-among (Debug d) after x e =
      let bs = (debug_of d).best.blocks in
      let all = map user_block bs in
      among-all (λ f. Among f.0 all) x (damaged_in (region_of (Debug d))) (among-find (behind after) (damaged_in (region_of (Debug d))) x e)
      (found-among all (by_address bs)
      (sorting.all-sorted_by address_of (λ c. Among (user_block c) all) bs (each-among (λ c. Among (user_block c) all) bs (λ c m. among-map user_block c bs m))))
  damaged-among (Profile q) after x e = absurd (none-some x e)

  -- where there is no next one, there are none
  pub damaged-end : (r : made.Region I V) (after : ℕ) → next_damaged_in after (region_of r) ≡ None → damaged_behind after (region_of r) ≡ []
  damaged-end (Best q) after e = refl
  damaged-end (Pool q) after e = refl
  damaged-end (Last q) after e = refl
  damaged-end (Debug d) after e = none-passes (debug_of d) after e
  damaged-end (Profile q) after e = refl

  -- a walk from 0 on passes all
  pub damaged-all : (r : made.Region I V) → damaged_behind 0 (region_of r) ≡ damaged_in (region_of r)
  damaged-all (Best q) = refl
  damaged-all (Pool q) = refl
  damaged-all (Last q) = refl
  damaged-all (Debug d) = all-pass (debug_of d)
  damaged-all (Profile q) = refl

  -- the damaged block that is next, and what is told of it
  pub record NextDamage (r : made.Region I V) (labels : Labels) (after a : ℕ) (name : Option (List ℕ)) (off : ℤ) : Type 0 where
    pub it : Block ℕ × ℤ
    pub row : damaged_behind after (region_of r) ≡ it ∷ damaged_behind a (region_of r)
    pub item_is : damage_item (relabel_found (name_of_tag labels) it) ≡ option_map {U = List ℕ × ℤ} (λ x. (x, off)) name

  pub damage-told : (r : made.Region I V) (labels : Labels) (after a tag : ℕ) (name : Option (List ℕ)) (off : ℤ) → HaveOwnPlaces (blocks_in r) → option_map {U = ℕ × ℤ} (λ f. (address_of f.0, f.1)) (next_damaged_in after (region_of r)) ≡ Some (a, off) → option_map (λ c. c.label) (find_block (place_of a) (blocks_in r)) ≡ Some tag → name ≡ name_of_tag labels tag → NextDamage r labels after a name off
  damage-told r labels after a tag name off places next tagged named =
      let at : Block ℕ × ℤ → ℕ × ℤ = λ g. (address_of g.0, g.1) in
      let f = from_some at (next_damaged_in after (region_of r)) (a, off) next in
      let here : address_of f.from.0 ≡ a = ap (λ (q : ℕ × ℤ). q.0) f.to in
      let found : find_block (place_of a) (blocks_in r) ≡ Some f.from.0 = found-there (blocks_in r) f.from.0 a places (damaged-among r after f.from f.was) here in
      let label : f.from.0.label ≡ tag = same_Some f.from.0.label tag (sym (ap (option_map (λ (c : Block ℕ). c.label)) found) ∙ tagged) in
      record {
        it = f.from;
        row = damaged-next r after f.from f.was ∙ ap (λ n. f.from ∷ damaged_behind n (region_of r)) here;
        item_is =
            ap (λ (o : Option (List ℕ)). option_map {U = List ℕ × ℤ} (λ x. (x, f.from.1)) o) (ap (name_of_tag labels) label ∙ sym named)
            ∙ ap (λ z. option_map {U = List ℕ × ℤ} (λ x. (x, z)) name) (ap (λ (q : ℕ × ℤ). q.1) f.to);
      }

-- an item that may be missing stands between two lists
pub between : {A : Type 0} (xs : List A) (o : Option A) (ys : List A) → (xs ++ cons_option o []) ++ ys ≡ xs ++ cons_option o ys
between xs None ys = ap (λ zs. zs ++ ys) (append-nil xs)
between xs (Some x) ys = append_assoc xs (x ∷ []) ys
