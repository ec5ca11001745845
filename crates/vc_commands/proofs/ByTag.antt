-- Blocks that are named by their tags, one by one, and what that names.
use Rattle.vc_base.proofs.Common.{◌≡◌, ℕ, ◌+◌, ◌-◌, ◌^◌, ◌<◌, ◌≤◌, Bool, true, false, cond, ◌≢◌, List, [], ◌∷◌, length, set, get_or, is_some, nat_lt, nat_le, slice_index_or, unwrap_or, codes, decimal, Some, None, Option, option_map, count_by, find, sym, refl, ap, ◌∙◌, inl, inr, ⊎_elim, arith, nat_tests, eq-eqb, eqb-true, cases_Bool, cases_eq, cases_lt, false≢true, none-some, same_Some, bytes_eq-Decides, get_or-set_same, get_or-set_other, list_any, place_of, Block, address_of, HaveOwnPlaces}
use Rattle.std.proofs.lemmas.Fmt.{decimal_injective}
use Rattle.std.proofs.lemmas.List.{append_cancel_left, get_or_past}
use Rattle.std.proofs.lemmas.List.Sums.{sum_by-set}
use Rattle.vc_base.specs.declared.addr.Addr.{Addr}
use Rattle.vc_base.proofs.Options.{none_of}
use Rattle.vc_model.proofs.Places.{Among, among-find, place-of}
use Rattle.vc_region.specs.Region.{Region, blocks_of, region_with_labels}
use Rattle.vc_region.proofs.Relabel.{relabelled-alike}
use Rattle.vc_commands.specs.Blocks.{is_name_of}
use Rattle.vc_commands.specs.Held.{IsLive, AreLabelsOf, tag_count}
use Rattle.vc_commands.specs.Labels.{name_of_tag, tag_of}
use Rattle.vc_commands.specs.Tagged.{AreByTag, ArePlaces, has_tag, have_own_tags, label_by_tag, name_by_tag, address_of_none, place_of_tag, text_by_tag}
use Rattle.vc_commands.specs.declared.region.labels.Label.{Label}
use Rattle.vc_commands.specs.declared.region.labels.Labels.{Labels}
use Rattle.vc_commands.proofs.Agreeing.{count-none}
use Rattle.vc_commands.proofs.Listing.{FromSome, from_some}
use Rattle.vc_commands.proofs.Lists.{count-cons}
use Rattle.vc_commands.proofs.Names.{has-label-any, name-here, name-none, named_by, zero-or}
use Rattle.vc_commands.proofs.OwnTags.{all-among, any-among, any-none, found-among, le-from, no-other, own-apart, own-both, some-tag}

-- tags have texts of their own
pub texts-apart : (s t : ℕ) → s < 2 ^ 64 → t < 2 ^ 64 → text_by_tag s ≡ text_by_tag t → s ≡ t
texts-apart s t p q e = decimal_injective s t p q (append_cancel_left (codes "b") (decimal s) (decimal t) e)

-- the places of the tags up to one, where a hole has the address that stands for none; and with those behind it, whose holes have none
abbrev pub upto : ℕ → List (Option Addr) → ℕ → Option Addr
upto end places tag = cond (nat_le tag end) (Some (unwrap_or (place_of_tag places tag) address_of_none)) None

abbrev pub emptied : ℕ → List (Option Addr) → ℕ → Option Addr
emptied end places tag = cond (nat_le tag end) (Some (unwrap_or (place_of_tag places tag) address_of_none)) (place_of_tag places tag)

le-self : (end : ℕ) → nat_le end end ≡ true
le-self end = grind (arith, nat_tests)

pub upto-below : (end : ℕ) (places : List (Option Addr)) (tag : ℕ) (a : Addr) → upto end places tag ≡ Some a → tag < end + 1
upto-below end places tag a e =
    ⊎_elim
    (λ t. let le = le-from tag end t in omega (arith, le))
    (λ t. absurd (none-some a (sym (ap (λ b. cond b (Some (unwrap_or (place_of_tag places tag) address_of_none)) None) t) ∙ e)))
    (cases_Bool (nat_le tag end))

pub emptied-at : (end : ℕ) (places : List (Option Addr)) → emptied end places end ≡ Some (unwrap_or (place_of_tag places end) address_of_none)
emptied-at end places = ap (λ b. cond b (Some (unwrap_or (place_of_tag places end) address_of_none)) (place_of_tag places end)) (le-self end)

-- no block has the name of a tag that none has
pub new-by-tag : (f : ℕ → Option Addr) (labels : Labels) (tag : ℕ) → AreByTag f labels → tag < 2 ^ 64 → ((t : ℕ) (a : Addr) → 1 ≤ t → f t ≡ Some a → t < tag) → tag_of labels (text_by_tag tag) ≡ None
new-by-tag f labels tag n fits below = by (tag_of labels (text_by_tag tag)) refl
  where
    by : (o : Option ℕ) → tag_of labels (text_by_tag tag) ≡ o → tag_of labels (text_by_tag tag) ≡ None
    by None e = e
    by (Some t) e =
        let was = n.agree.tagged (text_by_tag tag) t e in
        let l = was.1 in
        let s : FromSome (label_by_tag t) (f t) l.0 = from_some (label_by_tag t) (f t) l.0 (sym (n.at t was.0) ∙ l.1) in
        let less = below t s.from was.0 s.was in
        let same : t ≡ tag = texts-apart t tag (omega (arith, less, fits)) fits (ap (λ (k : Label). k.name) s.to ∙ l.2) in
        absurd (omega (arith, less, same))

-- the name of a tag is that of its block
pub named-by-tag : (f : ℕ → Option Addr) (labels : Labels) (tag : ℕ) (at : Addr) → AreByTag f labels → 1 ≤ tag → f tag ≡ Some at → tag_of labels (text_by_tag tag) ≡ Some tag
named-by-tag f labels tag at n first e = n.agree.named tag (label_by_tag tag at) first (n.at tag first ∙ ap (option_map (label_by_tag tag)) e)

-- a slot that is taken
some-within : (slots : List (Option Label)) (k : ℕ) → is_some (slice_index_or slots k None) ≡ true → k < length slots
some-within slots k e =
    ⊎_elim
    (λ less. less)
    (λ past. absurd (false≢true (ap (λ (o : Option Label). is_some o) (sym (get_or_past slots k None past)) ∙ e)))
    (cases_lt k (length slots))

-- each block of a tag has a slot, and each slot that is taken has a block
record AreSlots (bs : List (Block ℕ)) (slots : List (Option Label)) : Type 0 where
  taken : (b : Block ℕ) → Among b bs → 1 ≤ b.label → is_some (slice_index_or slots (b.label - 1) None) ≡ true
  blocks : (k : ℕ) → is_some (slice_index_or slots k None) ≡ true → (b : Block ℕ) × Among b bs × (b.label ≡ k + 1)

module _ (b : Block ℕ) (bs : List (Block ℕ)) (own : have_own_tags (b ∷ bs) ≡ true) (rest : (ss : List (Option Label)) → AreSlots bs ss → tag_count bs ≡ count_by (λ (o : Option Label). is_some o) ss) (slots : List (Option Label)) (are : AreSlots (b ∷ bs) slots) where
  -- a block without a label has no slot
  slots-none : b.label ≡ 0 → tag_count (b ∷ bs) ≡ count_by (λ (o : Option Label). is_some o) slots
  slots-none zero_is =
      count-cons (λ (c : Block ℕ). nat_lt 0 c.label) b bs
      ∙ (ap (λ v. cond v 1 0 + tag_count bs) (lt-none b.label zero_is)
      ∙ (ap (λ n. 0 + n) (rest slots
      (record {
        taken = λ c m first. are.taken c (inr m) first;
        blocks = λ k t.
            let s = are.blocks k t in
            (s.0, ⊎_elim (λ here. absurd (omega (arith, zero_is, ap (λ (c : Block ℕ). c.label) here, s.2))) (λ later. later) s.1, s.2);
      }))
      ∙ zero-plus (count_by (λ (o : Option Label). is_some o) slots)))
    where
      zero-plus : (n : ℕ) → 0 + n ≡ n
      zero-plus n = omega arith

      lt-none : (n : ℕ) → n ≡ 0 → nat_lt 0 n ≡ false
      lt-none n e = grind (arith, nat_tests, e)

  -- the other blocks have the slots but for its own
  slots-but : 1 ≤ b.label → AreSlots bs (set slots (b.label - 1) None)
  slots-but first =
      record {
        taken = λ c m some_c.
            let apart : c.label ≢ b.label = λ e. no-other b c bs (own-both b bs own).0 first m e in
            ap (λ (o : Option Label). is_some o) (get_or-set_other slots (b.label - 1) (c.label - 1) None None (λ e. apart (same-tag c.label b.label some_c first e))) ∙ are.taken c (inr m) some_c;
        blocks = λ j t.
            ⊎_elim
            (λ same. absurd (false≢true (ap (λ (o : Option Label). is_some o) (sym (ap (λ i. get_or (set slots (b.label - 1) None) i None) same ∙ get_or-set_same slots (b.label - 1) None None (some-within slots (b.label - 1) (are.taken b (inl refl) first)))) ∙ t)))
            (λ other.
            let s = are.blocks j (ap (λ (o : Option Label). is_some o) (sym (get_or-set_other slots (b.label - 1) j None None other)) ∙ t) in
            (s.0, ⊎_elim (λ here. absurd (other (key-of j b.label (ap (λ (c : Block ℕ). c.label) here ∙ s.2)))) (λ later. later) s.1, s.2))
            (cases_eq j (b.label - 1));
      }
    where
      same-tag : (m n : ℕ) → 1 ≤ m → 1 ≤ n → m - 1 ≡ n - 1 → m ≡ n
      same-tag m n p q e = omega (arith, p, q, e)

      key-of : (j n : ℕ) → n ≡ j + 1 → j ≡ n - 1
      key-of j n e = omega (arith, e)

  slots-some : 1 ≤ b.label → tag_count (b ∷ bs) ≡ count_by (λ (o : Option Label). is_some o) slots
  slots-some first =
      let k : ℕ = b.label - 1 in
      let left = rest (set slots k None) (slots-but first) in
      let one = sum_by-set (λ (o : Option Label). cond (is_some o) 1 0) slots k None None (some-within slots k (are.taken b (inl refl) first)) in
      let was : cond (is_some (get_or slots k None)) 1 0 ≡ 1 = ap (λ v. cond v 1 0) (are.taken b (inl refl) first) in
      let head : tag_count (b ∷ bs) ≡ 1 + tag_count bs = count-cons (λ (c : Block ℕ). nat_lt 0 c.label) b bs ∙ ap (λ v. cond v 1 0 + tag_count bs) (lt-some b.label first) in
      joined (tag_count (b ∷ bs)) (tag_count bs) (count_by (λ (o : Option Label). is_some o) (set slots k None)) (count_by (λ (o : Option Label). is_some o) slots) (cond (is_some (get_or slots k None)) 1 0) head left one was
    where
      joined : (n m f s w : ℕ) → n ≡ 1 + m → m ≡ f → f + w ≡ s + 0 → w ≡ 1 → n ≡ s
      joined n m f s w p q r t = omega (arith, p, q, r, t)

      lt-some : (n : ℕ) → 1 ≤ n → nat_lt 0 n ≡ true
      lt-some n first = grind (arith, nat_tests, first)

-- as many slots are taken as blocks have a tag
count-slots : (bs : List (Block ℕ)) (slots : List (Option Label)) → have_own_tags bs ≡ true → AreSlots bs slots → tag_count bs ≡ count_by (λ (o : Option Label). is_some o) slots
count-slots [] slots own are =
    sym (count-none slots (λ k. none_of (slice_index_or slots k None) (⊎_elim (λ t. absurd ((are.blocks k t).1)) (λ t. t) (cases_Bool (is_some (slice_index_or slots k None))))))
count-slots (b ∷ bs) slots own are =
    let rest : (ss : List (Option Label)) → AreSlots bs ss → tag_count bs ≡ count_by (λ (o : Option Label). is_some o) ss = λ ss s. count-slots bs ss (own-both b bs own).1 s in
    ⊎_elim (slots-none b bs own rest slots are) (slots-some b bs own rest slots are) (zero-or b.label)

-- a region's blocks under the names of their tags
module _ (r : Region ℕ) (places : List (Option Addr)) (labels : Labels) (own_places : HaveOwnPlaces (blocks_of r)) (own : have_own_tags (blocks_of r) ≡ true) (p : ArePlaces (blocks_of r) places) (n : AreByTag (place_of_tag places) labels) where
  -- where a block stands by its tag
  placed : (b : Block ℕ) → Among b (blocks_of r) → 1 ≤ b.label → (a : Addr) × (place_of_tag places b.label ≡ Some a) × (a.0 ≡ address_of b)
  placed b m first =
      let f = found-among (has_tag b.label) b (blocks_of r) m (eq-eqb b.label b.label refl) in
      let same : b ≡ f.item = own-apart (blocks_of r) b f.item own m (among-find (has_tag b.label) (blocks_of r) f.item f.found) first (sym (eqb-true f.item.label b.label f.passes)) in
      let s = from_some (λ (a : Addr). a.0) (place_of_tag places b.label) (address_of b) (p.at b.label first ∙ (ap (option_map address_of) f.found ∙ ap (λ (c : Block ℕ). Some (address_of c)) (sym same))) in
      (s.from, s.was, s.to)

  live-at : (b : Block ℕ) → Among b (blocks_of r) → 1 ≤ b.label → IsLive labels b
  live-at b m first =
      let s = placed b m first in
      record {
        label = label_by_tag b.label s.0;
        here = n.at b.label first ∙ ap (option_map (label_by_tag b.label)) s.1;
        at = s.2;
        place = ap place_of s.2 ∙ place-of (blocks_of r) b own_places m;
      }

  -- the block of a tag that has a place
  block-of : (tag : ℕ) (a : Addr) → 1 ≤ tag → place_of_tag places tag ≡ Some a → (b : Block ℕ) × Among b (blocks_of r) × (b.label ≡ tag)
  block-of tag a first e =
      let s = from_some address_of (find (has_tag tag) (blocks_of r)) a.0 (sym (p.at tag first) ∙ ap (option_map (λ (k : Addr). k.0)) e) in
      (s.from, among-find (has_tag tag) (blocks_of r) s.from s.was, eqb-true s.from.label tag (passes-found (has_tag tag) s.from (blocks_of r) s.was))
    where
      passes-found : (test : Block ℕ → Bool) (x : Block ℕ) (xs : List (Block ℕ)) → find test xs ≡ Some x → test x ≡ true
      passes-found test x [] e = absurd (none-some x e)
      passes-found test x (y ∷ ys) e =
          ⊎_elim
          (λ t. ap test (sym (same_Some y x (sym (ap (λ v. cond v (Some y) (find test ys)) t) ∙ e))) ∙ t)
          (λ t. passes-found test x ys (sym (ap (λ v. cond v (Some y) (find test ys)) t) ∙ e))
          (cases_Bool (test y))

  slots : AreSlots (blocks_of r) labels.by_tag.slots
  slots =
      record {
        taken = λ b m first. let s = placed b m first in ap (λ (o : Option Label). is_some o) (n.at b.label first ∙ ap (option_map (label_by_tag b.label)) s.1);
        blocks = λ k t. by k (place_of_tag places (k + 1)) refl (sym (ap (λ (o : Option Label). is_some o) (at-key k)) ∙ t);
      }
    where
      at-key : (k : ℕ) → slice_index_or labels.by_tag.slots k None ≡ option_map (label_by_tag (k + 1)) (place_of_tag places (k + 1))
      at-key k = let e : (k + 1) - 1 ≡ k = omega arith in ap (λ i. slice_index_or labels.by_tag.slots i None) (sym e) ∙ n.at (k + 1) (omega arith)

      by : (k : ℕ) (o : Option Addr) → place_of_tag places (k + 1) ≡ o → is_some (option_map (label_by_tag (k + 1)) (place_of_tag places (k + 1))) ≡ true → (b : Block ℕ) × Among b (blocks_of r) × (b.label ≡ k + 1)
      by k None e t = absurd (false≢true (sym (ap (λ (o : Option Addr). is_some (option_map (label_by_tag (k + 1)) o)) e) ∙ t))
      by k (Some a) e t = block-of (k + 1) a (omega arith) e

  -- the name of a block's tag
  name-is : (b : Block ℕ) → Among b (blocks_of r) → name_of_tag labels b.label ≡ name_by_tag b.label
  name-is b m =
      ⊎_elim
      (λ none. name-none labels b.label none ∙ sym (ap (λ v. cond v None (Some (text_by_tag b.label))) (eq-eqb b.label 0 none)))
      (λ first.
      let l = live-at b m first in
      let s = placed b m first in
      name-here labels b.label (label_by_tag b.label s.0) first (n.at b.label first ∙ ap (option_map (label_by_tag b.label)) s.1)
      ∙ sym (ap (λ v. cond v None (Some (text_by_tag b.label))) (some-tag b.label first)))
      (zero-or b.label)

  pub by-tag-names : region_with_labels (name_of_tag labels) r ≡ region_with_labels name_by_tag r
  by-tag-names = relabelled-alike (name_of_tag labels) name_by_tag r (all-among (λ b. name_of_tag labels b.label ≡ name_by_tag b.label) (blocks_of r) name-is)

  known-by : (x : List ℕ) (o : Option ℕ) → tag_of labels x ≡ o → is_some o ≡ list_any (named_by (name_of_tag labels) x) (blocks_of r)
  known-by x (Some t) e =
      let was = n.agree.tagged x t e in
      let l = was.1 in
      let s = from_some (label_by_tag t) (place_of_tag places t) l.0 (sym (n.at t was.0) ∙ l.1) in
      let b = block-of t s.from was.0 s.was in
      sym (any-among (named_by (name_of_tag labels) x) b.0 (blocks_of r) b.1
      (ap (λ k. is_name_of x (name_of_tag labels k)) b.2
      ∙ (ap (is_name_of x) (name-here labels t l.0 was.0 l.1)
      ∙ (bytes_eq-Decides l.0.name x).1 l.2)))
  known-by x None e =
      sym (any-none (named_by (name_of_tag labels) x) (blocks_of r) (λ b m.
      ⊎_elim
      (λ none. ap (is_name_of x) (name-none labels b.label none))
      (λ first.
      ⊎_elim
      (λ t.
      let l = live-at b m first in
      let same : l.label.name ≡ x = (bytes_eq-Decides l.label.name x).0 (sym (ap (is_name_of x) (name-here labels b.label l.label first l.here)) ∙ t) in
      absurd (none-some b.label (sym e ∙ (ap (tag_of labels) (sym same) ∙ n.agree.named b.label l.label first l.here))))
      (λ t. t)
      (cases_Bool (named_by (name_of_tag labels) x b)))
      (zero-or b.label)))

  pub by-tag-named : AreLabelsOf r labels
  by-tag-named =
      record {
        agree = n.agree;
        count = count-slots (blocks_of r) labels.by_tag.slots own slots;
        live = all-among (λ b. 1 ≤ b.label → IsLive labels b) (blocks_of r) live-at;
        known = λ x. known-by x (tag_of labels x) refl ∙ sym (has-label-any (name_of_tag labels) x r);
        places = own_places;
        none = λ keeps. n.kept;
      }
