-- What clearing and compacting an open region answer, and how they change the region.
use Rattle.vc_base.proofs.Common.{◌≡◌, ℕ, ◌-◌, ◌≤◌, Bool, true, false, cond, ◌||◌, List, [], ◌∷◌, ◌++◌, map, length, take, is_some, Some, None, Option, sym, refl, ap, ◌∙◌, subst, arith, length-append, take_all, take-append-le, AllByRecursion, list_any, Blocks, Discipline, HasOut, TookBack, Block, relabel_block, HaveOwnPlaces}
use Rattle.slab.specs.Slab.{slab_len}
use Rattle.vc_base.proofs.Texts.{bytes_eq-swapped}
use Rattle.vc_model.proofs.Keeping.{Kept-equal}
use Rattle.vc_region.specs.Region.{Region, blocks_of, keeps_freed, region_clear, region_with_labels, segments_of}
use Rattle.vc_region.proofs.Clearing.{cleared-blocks}
use Rattle.vc_region.proofs.Relabel.{blocks-relabelled, clear-relabelled, keeps-relabelled, relabelled-alike}
use Rattle.vc_commands.specs.declared.region.labels.Labels.{Labels}
use Rattle.vc_commands.specs.FreedNames.{FreedNames, freed_line}
use Rattle.vc_commands.specs.Home.{Label}
use Rattle.vc_commands.specs.Whole.{kept_cleared, with_label, with_labels}
use Rattle.vc_commands.specs.Labels.{AreLabels, kept_of, line_left, name_of_tag, tag_of}
use Rattle.vc_commands.specs.Blocks.{is_block, is_name_of}
use Rattle.vc_commands.proofs.FreedNames.{IsByName, by-name-among, by-name-with, line-with, same-kept}
use Rattle.vc_commands.specs.Held.{Held, IsChange, IsLive, AreLabelsOf, home_of, tag_count}

-- a region without blocks is the same under all names
pub cleared-names : (labels labels' : Labels) (r : Region ℕ) → region_clear (region_with_labels (name_of_tag labels) r) ≡ region_with_labels (name_of_tag labels') (region_clear r)
cleared-names labels labels' r =
    clear-relabelled (name_of_tag labels) r
    ∙ relabelled-alike (name_of_tag labels) (name_of_tag labels') (region_clear r) (subst (AllByRecursion (λ b. name_of_tag labels b.label ≡ name_of_tag labels' b.label)) (sym (cleared-blocks r)) tt)

-- the lists after a change that keeps the discipline and the segments
pub change-same :
    (h : Held) (disc : Discipline) (region : Region ℕ) (cells : Blocks) (labels : Labels) → cells ≡ h.cells → disc ≡ h.disc → segments_of region ≡ segments_of h.region → HasOut h.disc (segments_of h.region) → AreLabelsOf region labels
    → IsChange h (record { name = h.name; place = h.place; disc = disc; region = region; cells = cells; labels = labels })
change-same h disc region cells labels same_cells same segments lent names =
    record {
      name = refl;
      place = refl;
      kept = Kept-equal h.disc disc same;
      lent = (lent.0, ap (λ (d : Discipline). d.out) same ∙ (lent.1 ∙ ap (λ ss. lent.0 ++ ss) (sym segments)));
      out = ap (λ (d : Discipline). take (length d.out - length (segments_of region)) d.out) same ∙ ap (λ ss. take (length h.disc.out - length ss) h.disc.out) segments;
      names = names;
      cells = same_cells;
    }

front : (rest segments : List (ℕ × ℕ)) → take (length (rest ++ segments) - length segments) (rest ++ segments) ≡ rest
front rest segments =
    let n : length (rest ++ segments) - length segments ≡ length rest = omega (arith, length-append rest segments) in
    ap (λ k. take k (rest ++ segments)) n ∙ (take-append-le (length rest) rest segments (omega arith) ∙ take_all (length rest) rest (omega arith))

-- and after one in which segments went back
pub change-back :
    (h : Held) (disc : Discipline) (region : Region ℕ) (cells : Blocks) (labels : Labels) → cells ≡ h.cells → TookBack h.disc disc (segments_of h.region) (segments_of region) → HasOut h.disc (segments_of h.region) → AreLabelsOf region labels
    → IsChange h (record { name = h.name; place = h.place; disc = disc; region = region; cells = cells; labels = labels })
change-back h disc region cells labels same_cells took lent names =
    let now : disc.out ≡ lent.0 ++ segments_of region = took.out lent.0 lent.1 in
    record {
      name = refl;
      place = refl;
      kept = took.kept;
      lent = (lent.0, now);
      out =
          ap (λ o. take (length o - length (segments_of region)) o) now
          ∙ (front lent.0 (segments_of region)
          ∙ sym (ap (λ o. take (length o - length (segments_of h.region)) o) lent.1 ∙ front lent.0 (segments_of h.region)));
      names = names;
      cells = same_cells;
    }

pub named-cleared : (r : Region ℕ) (labels : Labels) → AreLabels labels → ((x : List ℕ) → tag_of labels x ≡ None) → slab_len labels.by_tag ≡ 0 → HaveOwnPlaces (blocks_of r) → blocks_of r ≡ [] → (keeps_freed r ≡ false → kept_of labels ≡ []) → AreLabelsOf r labels
named-cleared r labels agree none count places empty forgets =
    record {
      agree = agree;
      count = ap tag_count empty ∙ sym count;
      live = subst (AllByRecursion (λ b. 1 ≤ b.label → IsLive labels b)) (sym empty) tt;
      known = λ x. ap is_some (none x) ∙ sym (ap (list_any (is_block x)) (blocks-relabelled (name_of_tag labels) r ∙ ap (map (relabel_block (name_of_tag labels))) empty));
      places = places;
      none = forgets;
    }

-- names of a region with the same blocks
pub named-blocks : (r r' : Region ℕ) (labels : Labels) → blocks_of r' ≡ blocks_of r → keeps_freed r' ≡ keeps_freed r → AreLabelsOf r labels → AreLabelsOf r' labels
named-blocks r r' labels same keeps n =
    record {
      agree = n.agree;
      count = ap tag_count same ∙ n.count;
      live = subst (AllByRecursion (λ b. 1 ≤ b.label → IsLive labels b)) (sym same) n.live;
      known = λ x.
          n.known x
          ∙ ap (list_any (is_block x))
          (blocks-relabelled (name_of_tag labels) r ∙ (ap (map (relabel_block (name_of_tag labels))) (sym same) ∙ sym (blocks-relabelled (name_of_tag labels) r')));
      places = subst HaveOwnPlaces (sym same) n.places;
      none = λ e. n.none (sym keeps ∙ e);
    }

line-label : (x : List ℕ) (l : Label) (line : ℕ) (k : FreedNames) → freed_line x (with_label l line k) ≡ cond (is_name_of x l) (Some line) (freed_line x k)
line-label x None line k = refl
line-label x (Some y) line k = line-with x y line k ∙ ap (λ b. cond b (Some line) (freed_line x k)) (bytes_eq-swapped x y)

either : (a b : Bool) (line : ℕ) (o : Option ℕ) → cond a (Some line) (cond b (Some line) o) ≡ cond (a || b) (Some line) o
either true b line o = refl
either false b line o = refl

-- the line of each name once the names of these blocks are kept with one
line-labels : (x : List ℕ) (bs : List (Block Label)) (line : ℕ) (k : FreedNames) → freed_line x (with_labels bs line k) ≡ cond (list_any (is_block x) bs) (Some line) (freed_line x k)
line-labels x [] line k = refl
line-labels x (b ∷ bs) line k =
    line-label x b.label line (with_labels bs line k)
    ∙ (ap (λ o. cond (is_name_of x b.label) (Some line) o) (line-labels x bs line k)
    ∙ either (is_name_of x b.label) (list_any (is_block x) bs) line (freed_line x k))

by-name-label : (l : Label) (line : ℕ) (k : FreedNames) → IsByName k → IsByName (with_label l line k)
by-name-label None line k s = s
by-name-label (Some x) line k s = by-name-with x line k s

by-name-labels : (bs : List (Block Label)) (line : ℕ) (k : FreedNames) → IsByName k → IsByName (with_labels bs line k)
by-name-labels [] line k s = s
by-name-labels (b ∷ bs) line k s = by-name-label b.label line (with_labels bs line k) (by-name-labels bs line k s)

-- no name is kept where the region keeps none
pub none-cleared : (old new : Labels) (keeps : Bool) (line : ℕ) → ((x : List ℕ) → freed_line x (kept_of new) ≡ line_left old keeps line x) → keeps ≡ false → kept_of new ≡ []
none-cleared old new keeps line lines e =
    same-kept (kept_of new) [] (by-name-among new.tags.entries) tt
    (λ x. lines x ∙ ap (λ b. line_left old b line x) e)

-- the names that are kept after a region was cleared
pub kept-cleared : (h : Held) (line : ℕ) (new : Labels) (keeps : Bool) → keeps ≡ keeps_freed h.region → AreLabelsOf h.region h.labels → ((x : List ℕ) → freed_line x (kept_of new) ≡ line_left h.labels keeps line x) → kept_cleared (home_of h) line ≡ kept_of new
kept-cleared h line new keeps is names lines =
    ap (λ b. cond b (with_labels (blocks_of (home_of h).region) line (kept_of h.labels)) (kept_of h.labels)) (keeps-relabelled (name_of_tag h.labels) h.region ∙ sym is)
    ∙ by keeps is lines
  where
    by : (b : Bool) → b ≡ keeps_freed h.region → ((x : List ℕ) → freed_line x (kept_of new) ≡ line_left h.labels b line x) → cond b (with_labels (blocks_of (home_of h).region) line (kept_of h.labels)) (kept_of h.labels) ≡ kept_of new
    by true e l =
        same-kept (with_labels (blocks_of (home_of h).region) line (kept_of h.labels)) (kept_of new) (by-name-labels (blocks_of (home_of h).region) line (kept_of h.labels) (by-name-among h.labels.tags.entries)) (by-name-among new.tags.entries)
        (λ x.
        line-labels x (blocks_of (home_of h).region) line (kept_of h.labels)
        ∙ (ap (λ v. cond v (Some line) (freed_line x (kept_of h.labels))) (sym (names.known x)) ∙ sym (l x)))
    by false e l = names.none (sym e) ∙ sym (none-cleared h.labels new false line l refl)
