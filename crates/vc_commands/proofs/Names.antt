-- The names of a region's blocks.
use Rattle.vc_base.proofs.Common.{◌≡◌, ℕ, zero, suc, ◌+◌, ◌≤◌, Bool, true, false, cond, ◌≢◌, ◌⊎◌, List, [], ◌∷◌, map, is_some, nat_lt, ◌==◌, Some, None, count_by, option_map, bytes_eq, sym, refl, ap, ◌∙◌, inl, inr, ⊎_elim, arith, nat_tests, false≢true, none-some, bytes_eq-Decides, AllByRecursion, list_any, Block, relabel_block}
use Rattle.vc_base.proofs.Quantifiers.{any-map}
use Rattle.vc_region.specs.Region.{Region, blocks_of, region_with_labels}
use Rattle.vc_region.proofs.Relabel.{blocks-relabelled, relabelled-alike}
use Rattle.vc_commands.specs.Home as home
use Rattle.vc_commands.specs.Blocks.{has_label, is_block, is_name_of, label_count}
use Rattle.vc_commands.specs.declared.region.labels.Label.{Label}
use Rattle.vc_commands.specs.declared.region.labels.Labels.{Labels}
use Rattle.vc_commands.specs.Labels.{AreLabels, SameLabels, label_at, name_of_tag}
use Rattle.vc_commands.specs.Held.{IsLive, AreLabelsOf, tag_count}
use Rattle.vc_commands.proofs.Lists.{count-cons}

pub other_bytes : (x y : List ℕ) → bytes_eq x y ≡ false → x ≢ y
other_bytes x y differ e = false≢true (sym differ ∙ (bytes_eq-Decides x y).1 e)

-- whether a block has that name, where these are the names of tags
abbrev pub named_by : (ℕ → home.Label) → List ℕ → Block ℕ → Bool
named_by f x b = is_name_of x (f b.label)

pub has-label-any : (f : ℕ → home.Label) (x : List ℕ) (r : Region ℕ) → has_label x (region_with_labels f r) ≡ list_any (named_by f x) (blocks_of r)
has-label-any f x r = ap (list_any (is_block x)) (blocks-relabelled f r) ∙ any-map (relabel_block f) (is_block x) (blocks_of r)

-- the name of a tag in use, and of none
pub name-here : (labels : Labels) (tag : ℕ) (l : Label) → 1 ≤ tag → label_at labels tag ≡ Some l → name_of_tag labels tag ≡ Some l.name
name-here labels tag l first at =
    let some : (tag == 0) ≡ false = grind (arith, nat_tests, first) in
    ap (λ b. cond b None (option_map (λ (k : Label). k.name) (label_at labels tag))) some
    ∙ ap (option_map (λ (k : Label). k.name)) at

pub name-none : (labels : Labels) (tag : ℕ) → tag ≡ 0 → name_of_tag labels tag ≡ None
name-none labels tag zero_is =
    let is : (tag == 0) ≡ true = grind (arith, nat_tests, zero_is) in
    ap (λ b. cond b None (option_map (λ (k : Label). k.name) (label_at labels tag))) is

pub name-alike : (old new : Labels) (tag : ℕ) → label_at new tag ≡ label_at old tag → name_of_tag new tag ≡ name_of_tag old tag
name-alike old new tag same = ap (λ o. cond (tag == 0) None (option_map (λ (k : Label). k.name) o)) same

-- a tag that has a name is one in use
pub name-first : (labels : Labels) (tag : ℕ) (y : List ℕ) → name_of_tag labels tag ≡ Some y → 1 ≤ tag
name-first labels zero y e = absurd (none-some y (sym (name-none labels 0 refl) ∙ e))
name-first labels (suc t) y e = omega arith

all-tags : (P : ℕ → Type 0) (bs : List (Block ℕ)) → ((t : ℕ) → P t) → AllByRecursion (λ b. P b.label) bs
all-tags P [] all = tt
all-tags P (b ∷ bs) all = (all b.label, all-tags P bs all)

-- the same names of all tags name a region alike
pub relabelled-names : (old new : Labels) (r : Region ℕ) → ((t : ℕ) → name_of_tag new t ≡ name_of_tag old t) → region_with_labels (name_of_tag new) r ≡ region_with_labels (name_of_tag old) r
relabelled-names old new r same = relabelled-alike (name_of_tag new) (name_of_tag old) r (all-tags (λ t. name_of_tag new t ≡ name_of_tag old t) (blocks_of r) same)

pub relabelled-same : (old new : Labels) (r : Region ℕ) → SameLabels old new → region_with_labels (name_of_tag new) r ≡ region_with_labels (name_of_tag old) r
relabelled-same old new r same = relabelled-names old new r (λ t. name-alike old new t (same.by_tag t))

live-same : (old new : Labels) (bs : List (Block ℕ)) → SameLabels old new → AllByRecursion (λ b. 1 ≤ b.label → IsLive old b) bs → AllByRecursion (λ b. 1 ≤ b.label → IsLive new b) bs
live-same old new [] same all = tt
live-same old new (b ∷ bs) same all =
    ((λ first. let l = all.0 first in record { label = l.label; here = same.by_tag b.label ∙ l.here; at = l.at; place = l.place }), live-same old new bs same all.1)

pub labels_of-same : (r : Region ℕ) (old new : Labels) → SameLabels old new → AreLabels new → AreLabelsOf r old → AreLabelsOf r new
labels_of-same r old new same agree n =
    record {
      agree = agree;
      count = n.count ∙ sym same.count;
      live = live-same old new (blocks_of r) same n.live;
      known = λ x. ap is_some (same.by_name x) ∙ (n.known x ∙ ap (has_label x) (sym (relabelled-same old new r same)));
      places = n.places;
      none = λ keeps. same.kept ∙ n.none keeps;
    }

pub zero-or : (n : ℕ) → (n ≡ 0) ⊎ (1 ≤ n)
zero-or zero = inl refl
zero-or (suc n) = inr (omega arith)

-- as many blocks have a name as have a tag
count-named : (labels : Labels) (bs : List (Block ℕ)) → AllByRecursion (λ b. 1 ≤ b.label → IsLive labels b) bs → count_by (λ (b : Block home.Label). is_some b.label) (map (relabel_block (name_of_tag labels)) bs) ≡ tag_count bs
count-named labels [] all = refl
count-named labels (b ∷ bs) all =
    let test : is_some (name_of_tag labels b.label) ≡ nat_lt 0 b.label =
    ⊎_elim
    (λ none. ap is_some (name-none labels b.label none) ∙ sym (let e : nat_lt 0 b.label ≡ false = grind (arith, nat_tests, none) in e))
    (λ some.
    let first : 1 ≤ b.label = some in
    let l = all.0 first in
    ap is_some (name-here labels b.label l.label first l.here) ∙ sym (let e : nat_lt 0 b.label ≡ true = grind (arith, nat_tests, first) in e))
    (zero-or b.label) in
    count-cons (λ (c : Block home.Label). is_some c.label) (relabel_block (name_of_tag labels) b) (map (relabel_block (name_of_tag labels)) bs)
    ∙ (ap (λ v. cond v 1 0 + count_by (λ (c : Block home.Label). is_some c.label) (map (relabel_block (name_of_tag labels)) bs)) test
    ∙ (ap (λ n. cond (nat_lt 0 b.label) 1 0 + n) (count-named labels bs all.1)
    ∙ sym (count-cons (λ (c : Block ℕ). nat_lt 0 c.label) b bs)))

pub label-count : (r : Region ℕ) (labels : Labels) → AreLabelsOf r labels → label_count (region_with_labels (name_of_tag labels) r) ≡ tag_count (blocks_of r)
label-count r labels names = ap (count_by (λ (c : Block home.Label). is_some c.label)) (blocks-relabelled (name_of_tag labels) r) ∙ count-named labels (blocks_of r) names.live
