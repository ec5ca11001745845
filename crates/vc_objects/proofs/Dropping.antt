-- Holders that were dropped are freed one after another.
use Rattle.vc_base.proofs.Common.{◌≡◌, ℕ, ◌+◌, ◌<◌, ◌≤◌, true, false, List, [], ◌∷◌, map, length, unwrap_or, sym, refl, ap, ◌∙◌, subst, arith, Blocks, IsHolder, body_of, AreDistinct, contains, Layout}
use Rattle.vc_base.proofs.Members.{apart-head, apart-tail, within-head, within-tail}
use Rattle.vc_dtdisc.specs.Finds.{object_at}
use Rattle.vc_dtdisc.specs.Rules.{Gone, gone_after}
use Rattle.vc_dtlist.proofs.KeptLemmas.{HasBytes-same}
use Rattle.vc_dict.proofs.PassLemmas.{differs}
use Rattle.vc_dict.specs.Turned.{AreDropped, behind_dropped}
use Rattle.vc_best.specs.Cells.{without_cell}
use Rattle.vc_objects.specs.Insert.{layout_without}
use Rattle.vc_objects.specs.Leaves.{told_each}
use Rattle.vc_objects.specs.Parts.{object_of}
use Rattle.vc_objects.specs.Remove.{bytes_of, freed_all}
use Rattle.vc_objects.specs.Turning.{Frees}
use Rattle.vc_objects.proofs.Unlabelled.{left-cell}

-- so many of these holders are freed, and the others are left
pub record Dropping (holders : List ℕ) (before : Blocks) (old : Layout ℕ) (gone : Gone) (passed at : ℕ) (cells : Blocks) (region : Layout ℕ) (told : Gone) : Type 0 where
  pub left : List ℕ
  pub count : passed + length left ≡ length holders
  pub dropped : AreDropped cells at left
  pub distinct : AreDistinct left
  pub frees : freed_all region (map (object_of before) left) ≡ freed_all old (map (object_of before) holders)
  pub tells : told_each (bytes_of (map (object_of before) left)) told ≡ told_each (bytes_of (map (object_of before) holders)) gone
  pub within : (a : ℕ) → contains holders a ≡ false → contains left a ≡ false
  pub same : (a : ℕ) → contains left a ≡ true → cells a ≡ before a
  pub others : (a : ℕ) → contains holders a ≡ false → cells a ≡ before a

-- they are dropped still over cells that stay where they are
pub AreDropped-same : (old new : Blocks) (at : ℕ) (xs : List ℕ) → ((a : ℕ) → contains xs a ≡ true → new a ≡ old a) → AreDropped old at xs → AreDropped new at xs
AreDropped-same old new at [] e d = d
AreDropped-same old new at (x ∷ xs) e d =
    let here : new x ≡ old x = e x (within-head x xs) in
    let behind : behind_dropped new x ≡ behind_dropped old x = rw here refl in
    (d.0, HasBytes-same old new x 33 here d.1, rw behind (AreDropped-same old new (behind_dropped old x) xs (λ a h. e a (within-tail x xs a h)) d.2))

pub dropping-start : (holders : List ℕ) (before : Blocks) (old : Layout ℕ) (gone : Gone) (at : ℕ) → AreDropped before at holders → AreDistinct holders → Dropping holders before old gone 0 at before old gone
dropping-start holders before old gone at d distinct = record {
  left = holders;
  count = omega arith;
  dropped = d;
  distinct = distinct;
  frees = refl;
  tells = refl;
  within = λ a h. h;
  same = λ a h. refl;
  others = λ a h. refl;
}

-- the next one is a holder
next_of : (xs : List ℕ) (c : Blocks) (at : ℕ) → AreDropped c at xs → 0 < length xs → IsHolder c at
next_of [] c at d h = absurd (omega arith)
next_of (x ∷ xs) c at d h = subst (λ z. IsHolder c z) (sym d.0) d.1

pub dropping-holder : (holders : List ℕ) (before : Blocks) (old : Layout ℕ) (gone : Gone) (passed at : ℕ) (c : Blocks) (r : Layout ℕ) (told : Gone) → Dropping holders before old gone passed at c r told → passed < length holders → IsHolder c at
dropping-holder holders before old gone passed at c r told s more = next_of s.left c at s.dropped (omega (arith, s.count, more))

-- it goes
next_by : (left holders : List ℕ) (before : Blocks) (old : Layout ℕ) (gone : Gone) (passed at : ℕ) (c : Blocks) (r : Layout ℕ) (told : Gone)
    → passed + length left ≡ length holders → AreDropped c at left → AreDistinct left
    → freed_all r (map (object_of before) left) ≡ freed_all old (map (object_of before) holders)
    → told_each (bytes_of (map (object_of before) left)) told ≡ told_each (bytes_of (map (object_of before) holders)) gone
    → ((a : ℕ) → contains holders a ≡ false → contains left a ≡ false)
    → ((a : ℕ) → contains left a ≡ true → c a ≡ before a) → ((a : ℕ) → contains holders a ≡ false → c a ≡ before a)
    → passed < length holders
    → Dropping holders before old gone (passed + 1) (behind_dropped c at) (without_cell at c) (layout_without r at) (gone_after told (object_at c at))
next_by [] holders before old gone passed at c r told count d distinct frees tells within same others more = absurd (omega arith)
next_by (x ∷ xs) holders before old gone passed at c r told count d distinct frees tells within same others more =
    let here : c x ≡ before x = same x (within-head x xs) in
    let kept : (a : ℕ) → contains xs a ≡ true → without_cell x c a ≡ c a = λ a h. left-cell c x a (differs xs a x h distinct.0) in
    let object : object_at c x ≡ object_at before x = ap (λ o. body_of (unwrap_or o [])) here in
    subst (λ z. Dropping holders before old gone (passed + 1) (behind_dropped c z) (without_cell z c) (layout_without r z) (gone_after told (object_at c z))) (sym d.0)
    (record {
      left = xs;
      count = omega (arith, count);
      dropped = AreDropped-same c (without_cell x c) (behind_dropped c x) xs kept d.2;
      distinct = distinct.1;
      frees = frees;
      tells = ap (λ z. told_each (bytes_of (map (object_of before) xs)) (gone_after told z)) object ∙ tells;
      within = λ a h. apart-tail x xs a (within a h);
      same = λ a h. kept a h ∙ same a (within-tail x xs a h);
      others = λ a h. left-cell c x a (apart-head x xs a (within a h)) ∙ others a h;
    })

pub dropping-next : (holders : List ℕ) (before : Blocks) (old : Layout ℕ) (gone : Gone) (passed at : ℕ) (c : Blocks) (r : Layout ℕ) (told : Gone) (at' : ℕ) (c' : Blocks) (r' : Layout ℕ) (told' : Gone)
    → Dropping holders before old gone passed at c r told → passed < length holders
    → at' ≡ behind_dropped c at → c' ≡ without_cell at c → r' ≡ layout_without r at → told' ≡ gone_after told (object_at c at)
    → Dropping holders before old gone (passed + 1) at' c' r' told'
dropping-next holders before old gone passed at c r told at' c' r' told' s more e f g h =
    let next = next_by s.left holders before old gone passed at c r told s.count s.dropped s.distinct s.frees s.tells s.within s.same s.others more in
    subst (λ z. Dropping holders before old gone (passed + 1) z c' r' told') (sym e)
    (subst (λ z. Dropping holders before old gone (passed + 1) (behind_dropped c at) z r' told') (sym f)
    (subst (λ z. Dropping holders before old gone (passed + 1) (behind_dropped c at) (without_cell at c) z told') (sym g)
    (subst (λ z. Dropping holders before old gone (passed + 1) (behind_dropped c at) (without_cell at c) (layout_without r at) z) (sym h) next)))

-- none is left
none_left : (xs : List ℕ) (before : Blocks) (r r' : Layout ℕ) (told gone' : Gone) → length xs ≡ 0 → freed_all r (map (object_of before) xs) ≡ r' → told_each (bytes_of (map (object_of before) xs)) told ≡ gone' → (r ≡ r') × (told ≡ gone')
none_left [] before r r' told gone' h e f = (e, f)
none_left (x ∷ xs) before r r' told gone' h e f = absurd (omega arith)

pub dropping-end : (holders : List ℕ) (before : Blocks) (old : Layout ℕ) (gone : Gone) (passed at : ℕ) (c : Blocks) (r : Layout ℕ) (told : Gone)
    → Dropping holders before old gone passed at c r told → length holders ≤ passed → Frees holders before old gone c r told
dropping-end holders before old gone passed at c r told s all =
    let n : length s.left ≡ 0 = omega (arith, s.count, all) in
    let e = none_left s.left before r (freed_all old (map (object_of before) holders)) told (told_each (bytes_of (map (object_of before) holders)) gone) n s.frees s.tells in
    record { region = e.0; told = e.1; others = s.others }
