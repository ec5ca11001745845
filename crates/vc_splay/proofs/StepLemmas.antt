-- What one step of a splay does.
use Rattle.vc_base.proofs.Common.{◌≡◌, ℕ, ◌+◌, ◌≤◌, Bool, true, false, not, ◌≢◌, ◌==◌, sym, refl, ap, ◌∙◌, subst, inl, inr, arith, eq-eqb, ne_eqb, eqb_tells, cases_lt}
use Rattle.vc_splay.specs.Tree.{Tree, Leaf, Node, names, name_of}
use Rattle.vc_splay.specs.Store.{Store}
use Rattle.vc_splay.specs.Stands.{Stands}
use Rattle.vc_splay.specs.Writes.{AreTurned, CanHang, CanTurnNodes, with_child, zig_zag, zig_zig}
use Rattle.vc_splay.specs.Moves.{Context, Top, Under, HasKid, IsCut, IsFrame, IsInHand, IsRising, IsRound, Law, Step, joined_tree, name_at, one, plug, tally, tally_round}
use Rattle.vc_splay.proofs.TallyLemmas.{one-same, one-other, tally-joined, tally-leaf, tally-node, tally-root}
use Rattle.vc_splay.proofs.RankLemmas.{zig-law, zig_zag-law, zig_zig-law}
use Rattle.vc_splay.proofs.RotationLemmas.{plug-names, plug-tally, rotate, rotate_across, rotate_twice}
use Rattle.vc_splay.proofs.HangLemmas.{Hanging, IsCut-held, IsCut-joined, IsCut-kid, IsCut-named, SameLinks-on, can_hang, hang-cut, hang-far, hang-kid, hang-near, hang-round, hang-same, has-child}

-- a node in hand, by its two sides
pub record Sides (s : Store) (side : Bool) (n near inner : ℕ) (t : Tree) : Type 0 where
  pub near_tree : Tree
  pub inner_tree : Tree
  pub whole : t ≡ joined_tree side near_tree n inner_tree
  pub near_cut : IsCut s near near_tree
  pub inner_cut : IsCut s inner inner_tree

pub sides_of : (s : Store) (side : Bool) (n left right near inner : ℕ) (t : Tree) → AreTurned side left right near inner → IsInHand s n left right t → Sides s side n near inner t
sides_of s true n left right near inner t e h = record {
  near_tree = h.left_tree;
  inner_tree = h.right_tree;
  whole = h.whole;
  near_cut = IsCut-named s left near h.left_tree e.first_is h.left_cut;
  inner_cut = IsCut-named s right inner h.right_tree e.second_is h.right_cut;
}
sides_of s false n left right near inner t e h = record {
  near_tree = h.right_tree;
  inner_tree = h.left_tree;
  whole = h.whole;
  near_cut = IsCut-named s right near h.right_tree e.first_is h.right_cut;
  inner_cut = IsCut-named s left inner h.left_tree e.second_is h.left_cut;
}

pub IsInHand-joined : (s : Store) (side : Bool) (n near far left right : ℕ) (t u : Tree) → AreTurned side near far left right → s.has n ≡ true → IsCut s near t → IsCut s far u → IsInHand s n left right (joined_tree side t n u)
IsInHand-joined s true n near far left right t u e held k j = record {
  left_tree = t;
  right_tree = u;
  whole = refl;
  held = held;
  left_cut = IsCut-named s near left t e.first_is k;
  right_cut = IsCut-named s far right u e.second_is j;
}
IsInHand-joined s false n near far left right t u e held k j = record {
  left_tree = u;
  right_tree = t;
  whole = refl;
  held = held;
  left_cut = IsCut-named s far left u e.first_is j;
  right_cut = IsCut-named s near right t e.second_is k;
}

-- the names below a node are there
pub Stands-held : (s : Store) (up : ℕ) (t : Tree) (n : ℕ) → Stands s up t → 1 ≤ tally n t → s.has n ≡ true
Stands-held s up Leaf n k h = let e = tally-leaf n in absurd (omega arith)
Stands-held s up (Node l m r) n k h = elim (eqb_tells n m) as (λ _. s.has n ≡ true) [
  | inl same ↦ ap s.has same.1 ∙ k.0.held
  | inr apart ↦ elim (cases_lt 0 (tally n l)) as (λ _. s.has n ≡ true) [
    | inl some ↦ Stands-held s m l n k.1 (omega arith)
    | inr none ↦ Stands-held s m r n k.2 (let w = tally-node n m l r in let e = one-other n m apart.1 in omega arith)
  ]
]

pub IsInHand-held : (s : Store) (x left right : ℕ) (t : Tree) (n : ℕ) → IsInHand s x left right t → 1 ≤ tally n t → s.has n ≡ true
IsInHand-held s x left right t n k h = elim (eqb_tells n x) as (λ _. s.has n ≡ true) [
  | inl same ↦ ap s.has same.1 ∙ k.held
  | inr apart ↦ elim (cases_lt 0 (tally n k.left_tree)) as (λ _. s.has n ≡ true) [
    | inl some ↦ Stands-held s k.left_cut.up k.left_tree n k.left_cut.stands (omega arith)
    | inr none ↦ Stands-held s k.right_cut.up k.right_tree n k.right_cut.stands (let w = tally-node n x k.left_tree k.right_tree in let q = ap (tally n) k.whole in let e = one-other n x apart.1 in omega arith)
  ]
]

-- the side that is found by looking at the left child
pub frame-side : (s : Store) (d : Bool) (n below up : ℕ) (sibling : Tree) → IsFrame s d n below up sibling → below ≢ 0 → tally below sibling ≡ 0 → (s.kid true n == below) ≡ d
frame-side s true n below up sibling f some apart = eq-eqb (s.kid true n) below f.kid
frame-side s false n below up sibling f some apart = ne_eqb (s.kid true n) below (λ e.
    let same : name_of sibling ≡ below = sym f.other_kid.kid ∙ e in
    let r = tally-root sibling (λ z. some (sym same ∙ z)) in
    let q : 1 ≤ tally below sibling = subst (λ z. 1 ≤ tally z sibling) same r in
    absurd (omega arith))

-- a step below the root
pub record Single (s : Store) (side : Bool) (x p inner : ℕ) (c : Context) (t : Tree) (below left right : ℕ) : Type 0 where
  pub can : CanHang s p inner
  pub step : Step s (with_child side p inner s) x c t below 0 left right

pub zig-step : (s : Store) (d : Bool) (x below p left right near inner left2 right2 : ℕ) (sibling t : Tree) → s.has 0 ≡ false
    → AreTurned d left right near inner → AreTurned d near p left2 right2 → IsRising s x below p left right (Under d p sibling Top) t
    → Single s d x p inner (Under d p sibling Top) t below left2 right2
zig-step s d x below p left right near inner left2 right2 sibling t none before after r =
    let v = sides_of s d x left right near inner t before r.hand in
    let w : (n : ℕ) → tally n t ≡ tally n v.near_tree + (one n x + tally n v.inner_tree) = λ n. ap (tally n) v.whole ∙ tally-joined n x d v.near_tree v.inner_tree in
    let h : Hanging s p inner v.inner_tree = record {
      none = none;
      held = r.round.0.other_kid.held;
      cut = v.inner_cut;
      apart = λ n. let k = r.once n in let j = w n in omega arith;
    } in
    let new = with_child d p inner s in
    let tree = joined_tree d v.near_tree x (joined_tree d v.inner_tree p sibling) in
    let list : names tree ≡ names (joined_tree d t p sibling) = sym (rotate d v.near_tree x v.inner_tree p sibling) ∙ ap (λ z. names (joined_tree d z p sibling)) (sym v.whole) in
    let same : (n : ℕ) → tally n tree + 0 ≡ tally n t + (one n p + tally n sibling + 0) = λ n. plug-tally n (Under d p sibling Top) t Top tree list in
    record {
      can = can_hang s p inner v.inner_tree h;
      step = record {
        context = Top;
        tree = tree;
        rising = record {
          hand = IsInHand-joined new d x near p left2 right2 v.near_tree (joined_tree d v.inner_tree p sibling) after
              (ap (λ f. f x) (has-child d p inner s) ∙ r.hand.held)
              (hang-cut s d p inner v.inner_tree near v.near_tree h (λ n i. let k = r.once n in let j = w n in omega arith) v.near_cut)
              (IsCut-joined new d v.inner_tree p sibling (hang-near s d p inner v.inner_tree h)
              (hang-far s d p inner v.inner_tree sibling h (λ n i. let k = r.once n in let j = w n in omega arith) r.round.0.other_kid));
          round = tt;
          parent = refl;
          once = λ n. let k = same n in let j = r.once n in omega arith;
          among = let k = same below in let j = r.among in omega arith;
        };
        list = list;
        shorter = omega arith;
        others = λ n zero. hang-same s d p inner v.inner_tree h n (let j = w n in omega arith);
        law = subst (λ z. Law (Under d p sibling Top) z Top tree) (sym v.whole) (zig-law d v.near_tree x v.inner_tree p sibling);
      };
    }

-- two steps
pub record Double (s new : Store) (x above top first second : ℕ) (c : Context) (t : Tree) (next left right : ℕ) : Type 0 where
  pub can : CanTurnNodes s above top first second
  pub step : Step s new x c t top next left right

-- that no name stands twice in the parts, where a node is on its way up below two
parts_once : (s : Store) (d : Bool) (x below p left right : ℕ) (sibling : Tree) (e : Bool) (g : ℕ) (uncle : Tree) (c : Context) (t near inner : Tree) → t ≡ joined_tree d near x inner
    → IsRising s x below p left right (Under d p sibling (Under e g uncle c)) t
    → (n : ℕ) → tally n near + (one n x + tally n inner) + (one n p + tally n sibling + (one n g + tally n uncle + tally_round n c)) ≤ 1
parts_once s d x below p left right sibling e g uncle c t near inner whole r n =
    let q = ap (tally n) whole ∙ tally-joined n x d near inner in let k = r.once n in omega arith

pub zig_zig-step : (s : Store) (d : Bool) (x below p left right near inner left2 right2 : ℕ) (sibling : Tree) (g : ℕ) (uncle : Tree) (c : Context) (t : Tree) → s.has 0 ≡ false
    → AreTurned d left right near inner → AreTurned d near p left2 right2 → IsRising s x below p left right (Under d p sibling (Under d g uncle c)) t
    → Double s (zig_zig d inner p g s) x p g (s.kid (not d) p) inner (Under d p sibling (Under d g uncle c)) t (name_at c) left2 right2
unfolding zig_zig
zig_zig-step s d x below p left right near inner left2 right2 sibling g uncle c t none before after r =
    let v = sides_of s d x left right near inner t before r.hand in
    let w = parts_once s d x below p left right sibling d g uncle c t v.near_tree v.inner_tree v.whole r in
    let middle = s.kid (not d) p in
    let low = joined_tree d sibling g uncle in
    let u : (n : ℕ) → tally n low ≡ tally n sibling + (one n g + tally n uncle) = λ n. tally-joined n g d sibling uncle in
    let h : Hanging s g middle sibling = record {
      none = none;
      held = r.round.1.0.other_kid.held;
      cut = IsCut-kid s (not d) p sibling r.round.0.other_kid;
      apart = λ n. let k = w n in omega arith;
    } in
    let s1 = with_child d g middle s in
    let h1 : Hanging s1 p g low = record {
      none = ap (λ f. f 0) (has-child d g middle s) ∙ none;
      held = ap (λ f. f p) (has-child d g middle s) ∙ r.round.0.other_kid.held;
      cut = IsCut-joined s1 d sibling g uncle (hang-near s d g middle sibling h) (hang-far s d g middle sibling uncle h (λ n i. let k = w n in omega arith) r.round.1.0.other_kid);
      apart = λ n. let k = w n in let j = u n in omega arith;
    } in
    let s2 = with_child (not d) p g s1 in
    let inner1 : IsCut s1 inner v.inner_tree = hang-cut s d g middle sibling inner v.inner_tree h (λ n i. let k = w n in omega arith) v.inner_cut in
    let h2 : Hanging s2 p inner v.inner_tree = record {
      none = ap (λ f. f 0) (has-child (not d) p g s1) ∙ h1.none;
      held = ap (λ f. f p) (has-child (not d) p g s1) ∙ h1.held;
      cut = hang-cut s1 (not d) p g low inner v.inner_tree h1 (λ n i. let k = w n in let j = u n in omega arith) inner1;
      apart = λ n. let k = w n in omega arith;
    } in
    let new = with_child d p inner s2 in
    let near1 : IsCut s1 near v.near_tree = hang-cut s d g middle sibling near v.near_tree h (λ n i. let k = w n in omega arith) v.near_cut in
    let near2 : IsCut s2 near v.near_tree = hang-cut s1 (not d) p g low near v.near_tree h1 (λ n i. let k = w n in let j = u n in omega arith) near1 in
    let round1 : IsRound s1 c g = hang-round s d g middle sibling c g h (λ n i. let k = w n in omega arith) r.round.1.1 in
    let round2 : IsRound s2 c g = hang-round s1 (not d) p g low c g h1 (λ n i. let k = w n in let j = u n in omega arith) round1 in
    let tree = joined_tree d v.near_tree x (joined_tree d v.inner_tree p low) in
    let list : names (plug c tree) ≡ names (plug c (joined_tree d (joined_tree d t p sibling) g uncle)) =
    plug-names c tree (joined_tree d (joined_tree d t p sibling) g uncle) (sym (rotate_twice d v.near_tree x v.inner_tree p sibling g uncle) ∙ ap (λ z. names (joined_tree d (joined_tree d z p sibling) g uncle)) (sym v.whole)) in
    let same : (n : ℕ) → tally n tree + tally_round n c ≡ tally n t + (one n p + tally n sibling + (one n g + tally n uncle + tally_round n c)) = λ n. plug-tally n (Under d p sibling (Under d g uncle c)) t c tree list in
    record {
      can = record {
        above_held = r.round.0.other_kid.held;
        top_held = h.held;
        first_held = IsCut-held s middle sibling h.cut;
        second_held = IsCut-held s inner v.inner_tree v.inner_cut;
      };
      step = record {
        context = c;
        tree = tree;
        rising = record {
          hand = IsInHand-joined new d x near p left2 right2 v.near_tree (joined_tree d v.inner_tree p low) after
              (ap (λ f. f x) (has-child d p inner s2 ∙ has-child (not d) p g s1 ∙ has-child d g middle s) ∙ r.hand.held)
              (hang-cut s2 d p inner v.inner_tree near v.near_tree h2 (λ n i. let k = w n in omega arith) near2)
              (IsCut-joined new d v.inner_tree p low (hang-near s2 d p inner v.inner_tree h2)
              (hang-far s2 d p inner v.inner_tree low h2 (λ n i. let k = w n in let j = u n in omega arith) (hang-near s1 (not d) p g low h1)));
          round = hang-round s2 d p inner v.inner_tree c g h2 (λ n i. let k = w n in omega arith) round2;
          parent = refl;
          once = λ n. let k = same n in let j = r.once n in omega arith;
          among = let k = same g in let j = r.once g in let e = one-same g g refl in omega arith;
        };
        list = list;
        shorter = omega arith;
        others = λ n zero. let q = ap (tally n) v.whole ∙ tally-joined n x d v.near_tree v.inner_tree in let j = u n in
            SameLinks-on s s2 new n
            (SameLinks-on s s1 s2 n (hang-same s d g middle sibling h n (omega arith)) (hang-same s1 (not d) p g low h1 n (omega arith)))
            (hang-same s2 d p inner v.inner_tree h2 n (omega arith));
        law = subst (λ z. Law (Under d p sibling (Under d g uncle c)) z c tree) (sym v.whole) (zig_zig-law d v.near_tree x v.inner_tree p sibling g uncle c);
      };
    }

pub zig_zag-step : (s : Store) (d : Bool) (x below p left right near inner left2 right2 : ℕ) (sibling : Tree) (g : ℕ) (uncle : Tree) (c : Context) (t : Tree) → s.has 0 ≡ false
    → AreTurned d left right near inner → AreTurned d g p left2 right2 → IsRising s x below p left right (Under d p sibling (Under (not d) g uncle c)) t
    → Double s (zig_zag d near inner p g s) x p g near inner (Under d p sibling (Under (not d) g uncle c)) t (name_at c) left2 right2
unfolding zig_zag
zig_zag-step s d x below p left right near inner left2 right2 sibling g uncle c t none before after r =
    let v = sides_of s d x left right near inner t before r.hand in
    let w = parts_once s d x below p left right sibling (not d) g uncle c t v.near_tree v.inner_tree v.whole r in
    let low = joined_tree d v.inner_tree p sibling in
    let u : (n : ℕ) → tally n low ≡ tally n v.inner_tree + (one n p + tally n sibling) = λ n. tally-joined n p d v.inner_tree sibling in
    let h : Hanging s p inner v.inner_tree = record {
      none = none;
      held = r.round.0.other_kid.held;
      cut = v.inner_cut;
      apart = λ n. let k = w n in omega arith;
    } in
    let s1 = with_child d p inner s in
    let h1 : Hanging s1 g near v.near_tree = record {
      none = ap (λ f. f 0) (has-child d p inner s) ∙ none;
      held = ap (λ f. f g) (has-child d p inner s) ∙ r.round.1.0.other_kid.held;
      cut = hang-cut s d p inner v.inner_tree near v.near_tree h (λ n i. let k = w n in omega arith) v.near_cut;
      apart = λ n. let k = w n in omega arith;
    } in
    let new = with_child (not d) g near s1 in
    let g_p : one g p ≡ 0 = let k = w g in let e = one-same g g refl in omega arith in
    let low1 : IsCut s1 p low = IsCut-joined s1 d v.inner_tree p sibling (hang-near s d p inner v.inner_tree h) (hang-far s d p inner v.inner_tree sibling h (λ n i. let k = w n in omega arith) r.round.0.other_kid) in
    let uncle1 : HasKid s1 (not (not d)) g uncle = hang-kid s d p inner v.inner_tree (not (not d)) g uncle h g_p (λ n i. let k = w n in omega arith) r.round.1.0.other_kid in
    let round1 : IsRound s1 c g = hang-round s d p inner v.inner_tree c g h (λ n i. let k = w n in omega arith) r.round.1.1 in
    let tree = joined_tree d (joined_tree (not d) v.near_tree g uncle) x low in
    let list : names (plug c tree) ≡ names (plug c (joined_tree (not d) (joined_tree d t p sibling) g uncle)) =
    plug-names c tree (joined_tree (not d) (joined_tree d t p sibling) g uncle) (sym (rotate_across d v.near_tree x v.inner_tree p sibling g uncle) ∙ ap (λ z. names (joined_tree (not d) (joined_tree d z p sibling) g uncle)) (sym v.whole)) in
    let same : (n : ℕ) → tally n tree + tally_round n c ≡ tally n t + (one n p + tally n sibling + (one n g + tally n uncle + tally_round n c)) = λ n. plug-tally n (Under d p sibling (Under (not d) g uncle c)) t c tree list in
    record {
      can = record {
        above_held = h.held;
        top_held = r.round.1.0.other_kid.held;
        first_held = IsCut-held s near v.near_tree v.near_cut;
        second_held = IsCut-held s inner v.inner_tree v.inner_cut;
      };
      step = record {
        context = c;
        tree = tree;
        rising = record {
          hand = IsInHand-joined new d x g p left2 right2 (joined_tree (not d) v.near_tree g uncle) low after
              (ap (λ f. f x) (has-child (not d) g near s1 ∙ has-child d p inner s) ∙ r.hand.held)
              (IsCut-joined new (not d) v.near_tree g uncle (hang-near s1 (not d) g near v.near_tree h1) (hang-far s1 (not d) g near v.near_tree uncle h1 (λ n i. let k = w n in omega arith) uncle1))
              (hang-cut s1 (not d) g near v.near_tree p low h1 (λ n i. let k = w n in let j = u n in omega arith) low1);
          round = hang-round s1 (not d) g near v.near_tree c g h1 (λ n i. let k = w n in omega arith) round1;
          parent = refl;
          once = λ n. let k = same n in let j = r.once n in omega arith;
          among = let k = same g in let j = r.once g in let e = one-same g g refl in omega arith;
        };
        list = list;
        shorter = omega arith;
        others = λ n zero. let q = ap (tally n) v.whole ∙ tally-joined n x d v.near_tree v.inner_tree in
            SameLinks-on s s1 new n (hang-same s d p inner v.inner_tree h n (omega arith)) (hang-same s1 (not d) g near v.near_tree h1 n (omega arith));
        law = subst (λ z. Law (Under d p sibling (Under (not d) g uncle c)) z c tree) (sym v.whole) (zig_zag-law d v.near_tree x v.inner_tree p sibling g uncle c);
      };
    }
