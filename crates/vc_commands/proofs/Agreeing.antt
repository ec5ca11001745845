-- The tags and the names of live blocks agree as a block is put, or taken out.
use Rattle.vc_base.proofs.Common.{◌≡◌, ℕ, zero, suc, ◌+◌, ◌-◌, ◌≤◌, true, cond, ◌≢◌, ◌⊎◌, List, [], ◌∷◌, length, is_some, IfSome, IfNone, IfOk, OnOk, OnErr, IsSome, IsOk, slice_index_or, Some, None, Ok, Err, count_by, Option, Result, bytes_eq, sym, refl, ap, ◌∙◌, inl, inr, arith, cases_Bool, cases_eq, false_from_ne_true, false≢true, none-some, same_Some, bytes_eq-Decides}
use Rattle.vc_base.specs.declared.addr.Addr.{Addr}
use Rattle.vc_commands.proofs.Lists.{count-cons}
use Rattle.std.specs.HashMap as names
use Rattle.slab.specs.Slab.{get, slab_len, Updates}
use Rattle.vc_commands.specs.declared.region.labels.Label.{Label}
use Rattle.vc_commands.specs.declared.region.labels.Labels.{Labels}
use Rattle.vc_commands.specs.declared.region.labels.Known.{Known}
use Rattle.vc_commands.specs.declared.region.labels.Known.TheVariants.{Live, Freed}
use Rattle.vc_commands.specs.FreedNames.{freed_line, with_line, without_name}
use Rattle.vc_commands.specs.Labels.{kept_among, kept_of, known_of, label_at, line_in, line_left, tag_in, tag_of, AreLabels, FreesNames, MovesLabel, SameLabels, WithoutLabel}
use Rattle.vc_commands.proofs.FreedNames.{by-name-among, kept-alike, kept-other, length-with, length-without, line-among, without-absent}

-- what holds on success, at a result that is one
pub from_ok : {T E P : Type 0} (r : Result T E) → IsOk r → OnOk r P → P
from_ok (Ok v) succeeds holds = holds
from_ok (Err e) succeeds holds = absurd (cc)

-- two facts of a result that is one
pub both_ok : {T E : Type 0} (r : Result T E) (P Q : T → Type 0) → IsOk r → IfOk r P → IfOk r Q → (x : T) × P x × Q x
both_ok (Ok v) P Q succeeds p q = (v, p, q)
both_ok (Err e) P Q succeeds p q = absurd (cc)

-- how many names there are once one is put that no block has
pub all-put : (n m s s' k k' : ℕ) (known : Option Known) → tag_in known ≡ None → m ≡ n + cond (is_some known) 0 1 → s' ≡ s + 1 → cond (is_some (line_in known)) 1 0 + k' ≡ k → n ≡ s + k → m ≡ s' + k'
all-put n m s s' k k' None none more one left all = omega (arith, more, one, left, all)
all-put n m s s' k k' (Some (Live tag)) none more one left all = absurd (none-some tag (sym none))
all-put n m s s' k k' (Some (Freed line)) none more one left all = omega (arith, more, one, left, all)

module _ (old new : Labels) (key : ℕ) (label : Label) (agree : AreLabels old) (fresh : tag_of old label.name ≡ None) (vacant : get old.by_tag key ≡ None) (by_tag : Updates old.by_tag new.by_tag key (Some label)) (by_name : names.Updates bytes_eq old.tags new.tags label.name (Some (Live (key + 1)))) where
  tagged-put : (x : List ℕ) (tag : ℕ) → tag_of new x ≡ Some tag → (1 ≤ tag) × ((l : Label) × (label_at new tag ≡ Some l) × (l.name ≡ x))
  tagged-put x tag found =
      elim (cases_Bool (bytes_eq label.name x)) [
        | inl same ↦
            let at : known_of new x ≡ Some (Live (key + 1)) = by_name.0 x ∙ ap (λ b. cond b (Some (Live (key + 1))) (known_of old x)) same in
            let known : Some (key + 1) ≡ Some tag = sym (ap tag_in at) ∙ found in
            let is : key + 1 ≡ tag = cc in
            let place : tag - 1 ≡ key = omega (arith, is) in
            (omega (arith, is), (label, ap (get new.by_tag) place ∙ by_tag.changed, (bytes_eq-Decides label.name x).0 same))
        | inr other ↦
            let was = agree.tagged x tag (sym (ap tag_in (by_name.2 x other)) ∙ found) in
            (was.0, (was.1.0, by_tag.others (tag - 1) (λ same. absurd (cc (ap (get old.by_tag) same, was.1.1))) ∙ was.1.1, was.1.2))
      ]

  named-put : (tag : ℕ) (l : Label) → 1 ≤ tag → label_at new tag ≡ Some l → tag_of new l.name ≡ Some tag
  named-put tag l first found =
      elim (cases_eq (tag - 1) key) [
        | inl same ↦
            let known : Some label ≡ Some l = sym by_tag.changed ∙ (ap (get new.by_tag) (sym same) ∙ found) in
            let is : label ≡ l = cc in
            let last : key + 1 ≡ tag = omega (arith, same, first) in
            ap (λ k. tag_of new k.name) (sym is) ∙ (ap tag_in by_name.1 ∙ ap (λ n. Some n) last)
        | inr apart ↦
            let was : tag_of old l.name ≡ Some tag = agree.named tag l first (sym (by_tag.others (tag - 1) apart) ∙ found) in
            let other = false_from_ne_true (bytes_eq label.name l.name) (λ same. absurd (cc (ap (tag_of old) ((bytes_eq-Decides label.name l.name).0 same), was))) in
            ap tag_in (by_name.2 l.name other) ∙ was
      ]

  pub kept-put : kept_of new ≡ without_name label.name (kept_of old)
  kept-put = kept-other old.tags.entries new.tags.entries label.name (Some (Live (key + 1))) refl by_name.0

  -- a block is put under a new name and a vacant key
  pub agree-put : length new.tags.entries ≡ length old.tags.entries + cond (is_some (known_of old label.name)) 0 1 → slab_len new.by_tag ≡ slab_len old.by_tag + 1 → AreLabels new
  agree-put more one = record {
    tagged = tagged-put;
    named = named-put;
    all =
        all-put (length old.tags.entries) (length new.tags.entries) (slab_len old.by_tag) (slab_len new.by_tag) (length (kept_of old)) (length (kept_of new)) (known_of old label.name) fresh more one
        (ap (λ o. cond (is_some o) 1 0 + length (kept_of new)) (sym (line-among label.name old.tags.entries))
        ∙ (ap (λ k. cond (is_some (freed_line label.name (kept_of old))) 1 0 + length k) kept-put
        ∙ length-without label.name (kept_of old) (by-name-among old.tags.entries)))
        agree.all;
  }

-- the same tags and names, and so many names
pub agree-same : (old new : Labels) → SameLabels old new → length new.tags.entries ≡ length old.tags.entries → AreLabels old → AreLabels new
agree-same old new same many agree = record {
  tagged = λ x t found.
      let was = agree.tagged x t (sym (same.by_name x) ∙ found) in
      (was.0, (was.1.0, same.by_tag t ∙ was.1.1, was.1.2));
  named = λ t l first found. same.by_name l.name ∙ agree.named t l first (sym (same.by_tag t) ∙ found);
  all = many ∙ (agree.all ∙ (ap (λ s. s + length (kept_of old)) (sym same.count) ∙ ap (λ k. slab_len new.by_tag + length k) (sym same.kept)));
}

-- more room changes nothing
pub same-reserved : (old new : Labels) → new.by_tag.slots ≡ old.by_tag.slots → ((x : List ℕ) → known_of new x ≡ known_of old x) → SameLabels old new
same-reserved old new slots known = record {
  by_tag = λ tag. ap (λ s. slice_index_or s (tag - 1) None) slots;
  by_name = λ x. ap tag_in (known x);
  kept = kept-alike old.tags.entries new.tags.entries known;
  count = ap (λ s. count_by (λ (o : Option Label). is_some o) s) slots;
}

-- the block of a name is taken out, with what is known of the name then
module _ (old new : Labels) (x : List ℕ) (tag : ℕ) (label : Label) (after : Option Known) (gone : tag_in after ≡ None) (agree : AreLabels old) (named : tag_of old x ≡ Some tag) (was : get old.by_tag (tag - 1) ≡ Some label) (by_tag : Updates old.by_tag new.by_tag (tag - 1) None) (by_name : names.UpdatesBy bytes_eq (bytes_eq x) old.tags new.tags after) (one : slab_len new.by_tag + 1 ≡ slab_len old.by_tag) where
  tagged : (1 ≤ tag) × ((l : Label) × (label_at old tag ≡ Some l) × (l.name ≡ x))
  tagged = agree.tagged x tag named

  own : label.name ≡ x
  own = ap (λ (l : Label). l.name) (same_Some label tagged.1.0 (sym was ∙ tagged.1.1)) ∙ tagged.1.2

  pub known-gone : known_of new x ≡ after
  known-gone = by_name.1

  pub known-other : (y : List ℕ) → y ≢ x → known_of new y ≡ known_of old y
  known-other y other = by_name.2 y (false_from_ne_true (bytes_eq x y) (λ same. other (sym ((bytes_eq-Decides x y).0 same))))

  pub without-label : WithoutLabel old new tag (record { name = x; at = label.at })
  without-label =
      let is : label ≡ record { name = x; at = label.at } = ap (λ n. let l : Label = record { name = n; at = label.at } in l) own in
      record {
        first = tagged.0;
        was_at = was ∙ ap (λ l. Some l) is;
        was_named = named;
        gone = by_tag.changed;
        other_tags = λ other first differs. by_tag.others (other - 1) (λ e. differs (omega (arith, e, first, tagged.0)));
        name_gone = ap tag_in known-gone ∙ gone;
        other_names = λ y other. ap tag_in (known-other y other);
        count = one;
      }

-- those that are left agree
pub agree-left : (old new : Labels) (tag : ℕ) (label : Label) → AreLabels old → WithoutLabel old new tag label → length new.tags.entries ≡ slab_len new.by_tag + length (kept_of new) → AreLabels new
agree-left old new tag label agree w all = record {
  tagged = λ x t found.
      elim (cases_Bool (bytes_eq label.name x)) [
        | inl same ↦ absurd (none-some t (sym (ap (tag_of new) (sym ((bytes_eq-Decides label.name x).0 same)) ∙ w.name_gone) ∙ found))
        | inr other ↦
            let before = agree.tagged x t (sym (w.other_names x (λ e. false≢true (sym other ∙ (bytes_eq-Decides label.name x).1 (sym e)))) ∙ found) in
            let differs : t ≢ tag = λ e.
            let two : Some before.1.0 ≡ Some label = sym before.1.1 ∙ (ap (label_at old) e ∙ w.was_at) in
            let is : before.1.0 ≡ label = cc in
            false≢true (sym other ∙ (bytes_eq-Decides label.name x).1 (sym (ap (λ (l : Label). l.name) is) ∙ before.1.2)) in
            (before.0, (before.1.0, w.other_tags t before.0 differs ∙ before.1.1, before.1.2))
      ];
  named = λ t l first found.
      let differs : t ≢ tag = λ e. none-some l (sym (ap (label_at new) e ∙ w.gone) ∙ found) in
      let was : tag_of old l.name ≡ Some t = agree.named t l first (sym (w.other_tags t first differs) ∙ found) in
      w.other_names l.name (λ same.
      let two : Some t ≡ Some tag = sym was ∙ (ap (tag_of old) same ∙ w.was_named) in
      let is : t ≡ tag = cc in
      differs is)
      ∙ was;
  all = all;
}

-- a name with a block is known, and isn't kept
pub known-some : (o : Option Known) (tag : ℕ) → tag_in o ≡ Some tag → is_some o ≡ true
known-some None tag e = absurd (none-some tag e)
known-some (Some known) tag e = refl

pub known-line : (o : Option Known) (tag : ℕ) → tag_in o ≡ Some tag → line_in o ≡ None
known-line None tag e = refl
known-line (Some (Live t)) tag e = refl
known-line (Some (Freed line)) tag e = absurd (none-some tag e)

-- so what it is known as changes without a new place
pub there-ok : {T E : Type 0} (r : Result T E) (o : Option Known) (tag : ℕ) → OnErr r (o ≡ None) → tag_in o ≡ Some tag → IsOk r
there-ok (Ok v) o tag absent e = refl
there-ok (Err x) o tag absent e = absurd (none-some tag (sym (ap tag_in absent) ∙ e))

pub line-none : (old : Labels) (x : List ℕ) (tag : ℕ) → tag_of old x ≡ Some tag → freed_line x (kept_of old) ≡ None
line-none old x tag named = line-among x old.tags.entries ∙ known-line (known_of old x) tag named

-- the count of names once a block is taken out, and its name kept
pub all-kept : (old new : Labels) (x : List ℕ) (tag line : ℕ) → AreLabels old → tag_of old x ≡ Some tag → kept_of new ≡ with_line x line (kept_of old) → length new.tags.entries ≡ length old.tags.entries + cond (is_some (known_of old x)) 0 1 → slab_len new.by_tag + 1 ≡ slab_len old.by_tag → length new.tags.entries ≡ slab_len new.by_tag + length (kept_of new)
all-kept old new x tag line agree named kept many one =
    let more : length (kept_of new) ≡ length (kept_of old) + 1 = ap length kept ∙ length-with x line (kept_of old) (by-name-among old.tags.entries) (line-none old x tag named) in
    let same : length new.tags.entries ≡ length old.tags.entries + 0 = many ∙ ap (λ b. length old.tags.entries + cond b 0 1) (known-some (known_of old x) tag named) in
    omega (arith, more, same, one, agree.all)

-- and forgotten
pub all-forgotten : (old new : Labels) (x : List ℕ) (tag : ℕ) (was : Option Known) → AreLabels old → was ≡ known_of old x → tag_of old x ≡ Some tag → kept_of new ≡ kept_of old → length new.tags.entries + cond (is_some was) 1 0 ≡ length old.tags.entries → slab_len new.by_tag + 1 ≡ slab_len old.by_tag → length new.tags.entries ≡ slab_len new.by_tag + length (kept_of new)
all-forgotten old new x tag was agree is named kept many one =
    let same : length (kept_of new) ≡ length (kept_of old) = ap length kept in
    let fewer : length new.tags.entries + 1 ≡ length old.tags.entries = ap (λ b. length new.tags.entries + cond b 1 0) (sym (ap is_some is ∙ known-some (known_of old x) tag named)) ∙ many in
    omega (arith, same, fewer, one, agree.all)

pub kept-forgotten : (old new : Labels) (x : List ℕ) (tag : ℕ) → tag_of old x ≡ Some tag → ((q : List ℕ) → known_of new q ≡ cond (bytes_eq x q) None (known_of old q)) → kept_of new ≡ kept_of old
kept-forgotten old new x tag named same =
    kept-other old.tags.entries new.tags.entries x None refl same
    ∙ without-absent x (kept_of old) (by-name-among old.tags.entries) (line-none old x tag named)

-- every other tag stays where the block of a name is taken out
pub others-stay : (old new : Labels) (x : List ℕ) (tag : ℕ) → tag_of old x ≡ Some tag → (o : Option Addr) → IfSome o (λ at. (t : ℕ) × WithoutLabel old new t (record { name = x; at = at })) → IfNone o ((tag_of old x ≡ None) × SameLabels old new) → (other : ℕ) → 1 ≤ other → other ≢ tag → label_at new other ≡ label_at old other
others-stay old new x tag named None some none other first differs = absurd (none-some tag (sym none.0 ∙ named))
others-stay old new x tag named (Some a) some none other first differs =
    let same : some.0 ≡ tag = same_Some some.0 tag (sym some.1.was_named ∙ named) in
    some.1.other_tags other first (λ e. differs (e ∙ same))

-- a block that has another address keeps its name and its tag
pub agree-moved : (old new : Labels) (tag : ℕ) (label : Label) → AreLabels old → tag_of old label.name ≡ Some tag → MovesLabel old new tag label → new.tags ≡ old.tags → AreLabels new
agree-moved old new tag label agree named m tags =
    let before = agree.tagged label.name tag named in
    record {
      tagged = λ x t found.
          let was = agree.tagged x t (sym (m.names x) ∙ found) in
          elim (cases_eq t tag) [
            | inl same ↦
                let two : Some was.1.0 ≡ Some before.1.0 = sym was.1.1 ∙ (ap (label_at old) same ∙ before.1.1) in
                let is : was.1.0 ≡ before.1.0 = cc in
                (was.0, (label, ap (label_at new) same ∙ m.at, sym before.1.2 ∙ (ap (λ (k : Label). k.name) (sym is) ∙ was.1.2)))
            | inr other ↦ (was.0, (was.1.0, m.other_tags t was.0 other ∙ was.1.1, was.1.2))
          ];
      named = λ t l first found.
          elim (cases_eq t tag) [
            | inl same ↦
                let two : Some label ≡ Some l = sym m.at ∙ (ap (label_at new) (sym same) ∙ found) in
                let is : label ≡ l = cc in
                ap (λ (k : Label). tag_of new k.name) (sym is) ∙ (m.names label.name ∙ (named ∙ ap (λ n. Some n) (sym same)))
            | inr other ↦ m.names l.name ∙ agree.named t l first (sym (m.other_tags t first other) ∙ found)
          ];
      all = ap (λ m. length m.entries) tags ∙ (agree.all ∙ (ap (λ n. n + length (kept_of old)) (sym m.count) ∙ ap (λ es. slab_len new.by_tag + length (kept_among es.entries)) (sym tags)));
    }

-- without a slot that is taken none is counted
pub count-none : (slots : List (Option Label)) → ((k : ℕ) → slice_index_or slots k None ≡ None) → count_by (λ (o : Option Label). is_some o) slots ≡ 0
count-none [] none = refl
count-none (o ∷ os) none =
    count-cons (λ (p : Option Label). is_some p) o os
    ∙ (ap (λ p. cond (is_some p) 1 0 + count_by (λ (q : Option Label). is_some q) os) (none 0)
    ∙ ap (λ n. 0 + n) (count-none os (λ k. none (suc k))))

-- without a tag in use there is no block
pub no-labels : (labels : Labels) → ((tag : ℕ) → label_at labels tag ≡ None) → slab_len labels.by_tag ≡ 0
no-labels labels none = count-none labels.by_tag.slots (λ k. let e : suc k - 1 ≡ k = omega arith in ap (λ n. slice_index_or labels.by_tag.slots n None) (sym e) ∙ none (suc k))

pub no-names : (labels : Labels) → AreLabels labels → ((tag : ℕ) → label_at labels tag ≡ None) → (x : List ℕ) → tag_of labels x ≡ None
no-names labels agree none x = by (tag_of labels x) refl
  where
    by : (o : Option ℕ) → tag_of labels x ≡ o → tag_of labels x ≡ None
    by None e = e
    by (Some tag) e = let l = (agree.tagged x tag e).1 in absurd (none-some l.0 (sym (none tag) ∙ l.1))

-- past the last slot there is no block
pub past-none : (slots : List (Option Label)) (k : ℕ) → length slots ≤ k → slice_index_or slots k None ≡ None
past-none [] k past = refl
past-none (o ∷ os) zero past = absurd (omega (arith, past))
past-none (o ∷ os) (suc k) past = past-none os k (omega (arith, past))

-- the line of each name once all blocks were freed
pub lines-left : (old new : Labels) (line : ℕ) → ((x : List ℕ) → tag_of new x ≡ None) → FreesNames old new line → (x : List ℕ) → freed_line x (kept_of new) ≡ line_left old true line x
lines-left old new line none frees x = line-among x new.tags.entries ∙ by (frees x)
  where
    by : (known_of new x ≡ known_of old x) ⊎ (IsSome (tag_of old x) × (known_of new x ≡ Some (Freed line))) → line_in (known_of new x) ≡ line_left old true line x
    by (inl same) =
        ap line_in same
        ∙ (sym (line-among x old.tags.entries)
        ∙ sym (ap (λ o. cond (is_some o) (Some line) (freed_line x (kept_of old))) (sym (ap tag_in same) ∙ none x)))
    by (inr freed) = ap line_in freed.1 ∙ sym (ap (λ b. cond b (Some line) (freed_line x (kept_of old))) freed.0)
