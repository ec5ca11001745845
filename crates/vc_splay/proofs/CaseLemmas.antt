-- Which step of a splay comes, by what is read.
use Rattle.vc_base.proofs.Common.{◌≡◌, ℕ, Bool, true, false, cond, not, ◌≢◌, ◌==◌, sym, refl, ap, ◌∙◌, subst, true≢false, arith}
use mathlib.Core.Bool.{beq}
use Rattle.vc_splay.specs.Tree.{Tree}
use Rattle.vc_splay.specs.Store.{Store, with_kid}
use Rattle.vc_splay.specs.Writes.{AreTurned, with_child, with_parent_of, zig_zag, zig_zig}
use Rattle.vc_splay.specs.Moves.{Context, Top, Under, IsRising, name_at, tally}
use Rattle.vc_splay.proofs.StandsLemmas.{some_held}
use Rattle.vc_splay.proofs.TallyLemmas.{one-same}
use Rattle.vc_splay.proofs.StepLemmas.{Double, IsInHand-held, Single, frame-side, zig-step, zig_zag-step, zig_zig-step}

-- two names turned
pub turned : (side : Bool) (a b : ℕ) → AreTurned side a b (cond side a b) (cond side b a)
turned side a b = record { first_is = refl; second_is = refl }

-- two steps leave which names there are
pub has-zig_zig : (side : Bool) (inner above top : ℕ) (s : Store) → (zig_zig side inner above top s).has ≡ s.has
unfolding zig_zig with_child with_kid with_parent_of
has-zig_zig side inner above top s = refl

pub has-zig_zag : (side : Bool) (near inner above top : ℕ) (s : Store) → (zig_zag side near inner above top s).has ≡ s.has
unfolding zig_zag with_child with_kid with_parent_of
has-zig_zag side near inner above top s = refl

-- the side of the node above, and that of the one above it
near_side : (s : Store) (x below above left right : ℕ) (d : Bool) (p : ℕ) (sibling : Tree) (c : Context) (t : Tree) (side : Bool) → s.has 0 ≡ false
    → IsRising s x below above left right (Under d p sibling c) t → side ≡ (s.kid true above == below) → side ≡ d
near_side s x below above left right d p sibling c t side none r e =
    let some = some_held s below none (IsInHand-held s x left right t below r.hand r.among) in
    let apart : tally below sibling ≡ 0 = let k = r.once below in let j = r.among in omega arith in
    e ∙ ap (λ z. s.kid true z == below) r.parent ∙ frame-side s d p below (name_at c) sibling r.round.0 some apart

far_side : (s : Store) (x below above left right : ℕ) (d : Bool) (p : ℕ) (sibling : Tree) (f : Bool) (g : ℕ) (uncle : Tree) (c : Context) (t : Tree) (outer : Bool) (top : ℕ) → s.has 0 ≡ false
    → IsRising s x below above left right (Under d p sibling (Under f g uncle c)) t → top ≡ g → outer ≡ (s.kid true top == above) → outer ≡ f
far_side s x below above left right d p sibling f g uncle c t outer top none r e o =
    let some = some_held s p none r.round.0.other_kid.held in
    let apart : tally p uncle ≡ 0 = let k = r.once p in let j = one-same p p refl in omega arith in
    o ∙ ap (λ z. s.kid true z == above) e ∙ ap (λ z. s.kid true g == z) r.parent ∙ frame-side s f g p (name_at c) uncle r.round.1.0 some apart

pub single : (s : Store) (x below above left right near inner left2 right2 : ℕ) (c : Context) (t : Tree) (side : Bool) → s.has 0 ≡ false → above ≢ 0
    → AreTurned side left right near inner → AreTurned side near above left2 right2 → IsRising s x below above left right c t
    → side ≡ (s.kid true above == below) → s.parent above ≡ 0 → Single s side x above inner c t below left2 right2
single s x below above left right near inner left2 right2 Top t side none some before after r e top = absurd (some r.parent)
single s x below above left right near inner left2 right2 (Under d p sibling Top) t side none some before after r e top =
    let same = near_side s x below above left right d p sibling Top t side none r e in
    let P : (side : Bool) (above : ℕ) → Type 0 = λ side above. AreTurned side left right near inner → AreTurned side near above left2 right2
    → IsRising s x below above left right (Under d p sibling Top) t → Single s side x above inner (Under d p sibling Top) t below left2 right2 in
    let q : P d p = zig-step s d x below p left right near inner left2 right2 sibling t none in
    (subst (λ z. P z above) (sym same) (subst (λ z. P d z) (sym r.parent) q)) before after r
single s x below above left right near inner left2 right2 (Under d p sibling (Under f g uncle c)) t side none some before after r e top =
    absurd (some_held s g none r.round.1.0.other_kid.held (sym r.round.0.parent ∙ ap s.parent (sym r.parent) ∙ top))

-- what is read of the two nodes above
pub record Read (s : Store) (below above top next : ℕ) (side outer : Bool) : Type 0 where
  pub some : above ≢ 0
  pub side_is : side ≡ (s.kid true above == below)
  pub top_is : top ≡ s.parent above
  pub top_some : top ≢ 0
  pub outer_is : outer ≡ (s.kid true top == above)
  pub next_is : next ≡ s.parent top

beq-same : (a b : Bool) → beq a b ≡ true → a ≡ b
beq-same true true h = refl
beq-same true false h = absurd (true≢false (sym h))
beq-same false true h = absurd (true≢false (sym h))
beq-same false false h = refl

pub double_same : (s : Store) (x below above left right near inner left2 right2 : ℕ) (c : Context) (t : Tree) (side outer : Bool) (top next : ℕ) → s.has 0 ≡ false → Read s below above top next side outer → beq outer side ≡ true
    → AreTurned side left right near inner → AreTurned side near above left2 right2 → IsRising s x below above left right c t
    → Double s (zig_zig side inner above top s) x above top (s.kid (not side) above) inner c t next left2 right2
double_same s x below above left right near inner left2 right2 Top t side outer top next none k same before after r = absurd (k.some r.parent)
double_same s x below above left right near inner left2 right2 (Under d p sibling Top) t side outer top next none k same before after r = absurd (k.top_some (k.top_is ∙ ap s.parent r.parent ∙ r.round.0.parent))
double_same s x below above left right near inner left2 right2 (Under d p sibling (Under f g uncle c)) t side outer top next none k same before after r =
    let at_side = near_side s x below above left right d p sibling (Under f g uncle c) t side none r k.side_is in
    let top_is : top ≡ g = k.top_is ∙ ap s.parent r.parent ∙ r.round.0.parent in
    let far = far_side s x below above left right d p sibling f g uncle c t outer top none r top_is k.outer_is in
    let next_is : next ≡ name_at c = k.next_is ∙ ap s.parent top_is ∙ r.round.1.0.parent in
    let f_d : f ≡ d = sym far ∙ beq-same outer side same ∙ at_side in
    let P : (side : Bool) (above top next : ℕ) (f : Bool) → Type 0 = λ side above top next f. AreTurned side left right near inner → AreTurned side near above left2 right2
    → IsRising s x below above left right (Under d p sibling (Under f g uncle c)) t
    → Double s (zig_zig side inner above top s) x above top (s.kid (not side) above) inner (Under d p sibling (Under f g uncle c)) t next left2 right2 in
    let q : P d p g (name_at c) d = zig_zig-step s d x below p left right near inner left2 right2 sibling g uncle c t none in
    (subst (λ z. P z above top next f) (sym at_side)
    (subst (λ z. P d z top next f) (sym r.parent)
    (subst (λ z. P d p z next f) (sym top_is)
    (subst (λ z. P d p g z f) (sym next_is)
    (subst (λ z. P d p g (name_at c) z) (sym f_d) q))))) before after r

beq-other : (a b : Bool) → beq a b ≡ false → a ≡ not b
beq-other true true h = absurd (true≢false h)
beq-other true false h = refl
beq-other false true h = refl
beq-other false false h = absurd (true≢false h)

pub double_other : (s : Store) (x below above left right near inner left2 right2 : ℕ) (c : Context) (t : Tree) (side outer : Bool) (top next : ℕ) → s.has 0 ≡ false → Read s below above top next side outer → beq outer side ≡ false
    → AreTurned side left right near inner → AreTurned side top above left2 right2 → IsRising s x below above left right c t
    → Double s (zig_zag side near inner above top s) x above top near inner c t next left2 right2
double_other s x below above left right near inner left2 right2 Top t side outer top next none k differ before after r = absurd (k.some r.parent)
double_other s x below above left right near inner left2 right2 (Under d p sibling Top) t side outer top next none k differ before after r = absurd (k.top_some (k.top_is ∙ ap s.parent r.parent ∙ r.round.0.parent))
double_other s x below above left right near inner left2 right2 (Under d p sibling (Under f g uncle c)) t side outer top next none k differ before after r =
    let at_side = near_side s x below above left right d p sibling (Under f g uncle c) t side none r k.side_is in
    let top_is : top ≡ g = k.top_is ∙ ap s.parent r.parent ∙ r.round.0.parent in
    let far = far_side s x below above left right d p sibling f g uncle c t outer top none r top_is k.outer_is in
    let next_is : next ≡ name_at c = k.next_is ∙ ap s.parent top_is ∙ r.round.1.0.parent in
    let f_d : f ≡ not d = sym far ∙ beq-other outer side differ ∙ ap not at_side in
    let P : (side : Bool) (above top next : ℕ) (f : Bool) → Type 0 = λ side above top next f. AreTurned side left right near inner → AreTurned side top above left2 right2
    → IsRising s x below above left right (Under d p sibling (Under f g uncle c)) t
    → Double s (zig_zag side near inner above top s) x above top near inner (Under d p sibling (Under f g uncle c)) t next left2 right2 in
    let q : P d p g (name_at c) (not d) = zig_zag-step s d x below p left right near inner left2 right2 sibling g uncle c t none in
    (subst (λ z. P z above top next f) (sym at_side)
    (subst (λ z. P d z top next f) (sym r.parent)
    (subst (λ z. P d p z next f) (sym top_is)
    (subst (λ z. P d p g z f) (sym next_is)
    (subst (λ z. P d p g (name_at c) z) (sym f_d) q))))) before after r
