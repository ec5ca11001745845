-- A tree in the place of a part of another one.
use Rattle.vc_base.proofs.Common.{◌≡◌, ℕ, ◌+◌, ◌≤◌, Bool, false, ◌≢◌, sym, refl, ap, ◌∙◌, subst, arith}
use Rattle.vc_splay.specs.Tree.{Tree, name_of}
use Rattle.vc_splay.specs.Store.{Store}
use Rattle.vc_splay.specs.Writes.{CanHang, with_child, with_parent_of}
use Rattle.vc_splay.specs.Moves.{Context, Top, Under, IsFrame, IsRound, joined_tree, name_at, one, plug, tally, tally_round}
use Rattle.vc_splay.specs.Puts.{CanPut, IsPut, WasPut}
use Rattle.vc_splay.proofs.HangLemmas.{Hanging, hang-far, hang-near, hang-round, hang-same, parents-child}
use Rattle.vc_splay.proofs.PlugLemmas.{IsRound-close}
use Rattle.vc_splay.proofs.SplayLemmas.{distinct_once}
use Rattle.vc_splay.proofs.StandsLemmas.{name_of-joined, some_held}
use Rattle.vc_splay.proofs.StoreLemmas.{parent_of-other}
use Rattle.vc_splay.proofs.TallyLemmas.{one-same, tally-plug, tally-root}
use Rattle.vc_splay.proofs.UnlinkLemmas.{other_parents, raised}

-- the root is above each part
pub top_same : (c : Context) (t u : Tree) → name_of t ≡ name_of u → name_of (plug c t) ≡ name_of (plug c u)
top_same Top t u e = e
top_same (Under d n sibling c) t u e = top_same c (joined_tree d t n sibling) (joined_tree d u n sibling) (name_of-joined d t n sibling ∙ sym (name_of-joined d u n sibling))

pub top_above : (c : Context) (t u : Tree) → name_at c ≢ 0 → name_of (plug c t) ≡ name_of (plug c u)
top_above Top t u some = absurd (some refl)
top_above (Under d n sibling c) t u some = top_same c (joined_tree d t n sibling) (joined_tree d u n sibling) (name_of-joined d t n sibling ∙ sym (name_of-joined d u n sibling))

distinct_plug : (c : Context) (t : Tree) → ((n : ℕ) → tally n t + tally_round n c ≤ 1) → (n : ℕ) → tally n (plug c t) ≤ 1
distinct_plug c t once n = let a = once n in let b = tally-plug n c t in omega arith

-- alone
put_alone : (s : Store) (root above top : ℕ) (side : Bool) (c : Context) (t : Tree) → s.has 0 ≡ false → above ≡ 0 → c ≡ Top → IsPut s root side above top Top t → WasPut s (with_parent_of top 0 s) Top t top
put_alone s root above top side c t none e is h =
    let once : (n : ℕ) → tally n t ≤ 1 = λ n. let a = h.once n in omega arith in
    record {
      is_tree = record { top = h.cut.top_is; stands = raised s h.cut.up 0 top t none h.cut.stands h.cut.top_is once; distinct = distinct_once t once };
      others = λ n zero. other_parents s top 0 n (λ some z.
          let r = tally-root t (λ y. some (h.cut.top_is ∙ y)) in
          let q : 1 ≤ tally n t = subst (λ y. 1 ≤ tally y t) (sym (z ∙ h.cut.top_is)) r in
          absurd (omega arith));
    }

-- no node is above
above_none : (s : Store) (c : Context) (below above : ℕ) → s.has 0 ≡ false → IsRound s c below → above ≡ name_at c → above ≡ 0 → c ≡ Top
above_none s Top below above none r e zero = refl
above_none s (Under d n sibling c) below above none r e zero = absurd (some_held s n none r.0.other_kid.held (sym e ∙ zero))

pub was_alone : (s : Store) (root above top : ℕ) (side : Bool) (c : Context) (t : Tree) → s.has 0 ≡ false → above ≡ 0 → IsPut s root side above top c t → WasPut s (with_parent_of top 0 s) c t top
was_alone s root above top side c t none e h =
    let is = above_none s c h.below above none h.round h.above_is e in
    subst (λ z. WasPut s (with_parent_of top 0 s) z t top) (sym is) (put_alone s root above top side c t none e is (subst (λ z. IsPut s root side above top z t) is h))

-- below a node
put_under : (s : Store) (root top : ℕ) (d : Bool) (n : ℕ) (sibling : Tree) (c : Context) (t : Tree) → s.has 0 ≡ false → IsPut s root d n top (Under d n sibling c) t → n ≢ 0 → WasPut s (with_child d n top s) (Under d n sibling c) t root
put_under s root top d n sibling c t none h some =
    let new = with_child d n top s in
    let w : (m : ℕ) → tally m t + (one m n + tally m sibling + tally_round m c) ≤ 1 = λ m. h.once m in
    let hanging : Hanging s n top t = record { none = none; held = h.round.0.other_kid.held; cut = h.cut; apart = λ m. let a = w m in omega arith } in
    let near = hang-near s d n top t hanging in
    let far = hang-far s d n top t sibling hanging (λ m i. let a = w m in omega arith) h.round.0.other_kid in
    let frame : IsFrame new d n (name_of t) (name_at c) sibling = record {
      kid = near.kid;
      parent = ap (λ f. f n) (parents-child d n top s)
          ∙ parent_of-other top n s n (λ f z.
          let r = tally-root t (λ y. f (h.cut.top_is ∙ y)) in
          let q : 1 ≤ tally n t = subst (λ y. 1 ≤ tally y t) (sym (z ∙ h.cut.top_is)) r in
          let a = w n in let b = one-same n n refl in absurd (omega arith))
          ∙ h.round.0.parent;
      other_kid = far;
    } in
    let round = hang-round s d n top t c n hanging (λ m i. let a = w m in omega arith) h.round.1 in
    record {
      is_tree = record {
        top = h.root_is some;
        stands = IsRound-close new (Under d n sibling c) t (frame, round) near.stands;
        distinct = distinct_once (plug (Under d n sibling c) t) (distinct_plug (Under d n sibling c) t h.once);
      };
      others = λ m zero. hang-same s d n top t hanging m (omega arith);
    }

pub was_under : (s : Store) (root above top : ℕ) (side : Bool) (c : Context) (t : Tree) → s.has 0 ≡ false → above ≢ 0 → IsPut s root side above top c t → WasPut s (with_child side above top s) c t root
was_under s root above top side Top t none some h = absurd (some h.above_is)
was_under s root above top side (Under d n sibling c) t none some h =
    let P : Bool → ℕ → Type 0 = λ side above. above ≢ 0 → IsPut s root side above top (Under d n sibling c) t → WasPut s (with_child side above top s) (Under d n sibling c) t root in
    let q : P d n = λ f k. put_under s root top d n sibling c t none k f in
    (subst (λ z. P z above) (sym (h.side_is some)) (subst (λ z. P d z) (sym h.above_is) q)) some h

pub can_hang_put : (s : Store) (above top : ℕ) → CanPut s above top → above ≢ 0 → CanHang s above top
can_hang_put s above top h some = record { held = h.above_held some; child_held = h.top_held }
