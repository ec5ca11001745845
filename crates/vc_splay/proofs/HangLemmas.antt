-- What a new child of a node does to the links, and to the trees that stand.
use Rattle.vc_base.proofs.Common.{◌≡◌, ℕ, ◌+◌, ◌≤◌, Bool, true, false, not, ◌≢◌, sym, refl, ap, ◌∙◌, subst, arith}
use Rattle.vc_splay.specs.Tree.{Tree, Leaf, Node, name_of}
use Rattle.vc_splay.specs.Store.{Store, SameLinks, with_kid}
use Rattle.vc_splay.specs.Writes.{CanHang, with_child, with_parent_of}
use Rattle.vc_splay.specs.Moves.{Context, HasKid, IsCut, IsRound, joined_tree, one, tally, tally_round}
use Rattle.vc_splay.proofs.StoreLemmas.{kid-here, kid-opposite, kid-other, parent_of-here, parent_of-other}
use Rattle.vc_splay.proofs.StandsLemmas.{IsRound-kept, HasKid-kept, Stands-kept, Stands-moved, Stands-joined, name_of-joined}
use Rattle.vc_splay.proofs.TallyLemmas.{one-same, tally-root}

-- the links then
pub has-child : (side : Bool) (n child : ℕ) (s : Store) → (with_child side n child s).has ≡ s.has
unfolding with_child with_kid with_parent_of
has-child side n child s = refl

kids-child : (side : Bool) (n child : ℕ) (s : Store) → (with_child side n child s).kid ≡ (with_kid side n child s).kid
unfolding with_child with_parent_of
kids-child side n child s = refl

pub parents-child : (side : Bool) (n child : ℕ) (s : Store) → (with_child side n child s).parent ≡ (with_parent_of child n s).parent
unfolding with_child with_kid with_parent_of
parents-child side n child s = refl

child-far : (side : Bool) (n child : ℕ) (s : Store) → (with_child side n child s).kid (not side) n ≡ s.kid (not side) n
child-far side n child s = ap (λ f. f (not side) n) (kids-child side n child s) ∙ kid-opposite side n child s n

child-other : (side : Bool) (n child : ℕ) (s : Store) (m : ℕ) → m ≢ n → (d : Bool) → (with_child side n child s).kid d m ≡ s.kid d m
child-other side n child s m ne d = ap (λ f. f d m) (kids-child side n child s) ∙ kid-other side n child s d m ne

child-up : (side : Bool) (n child : ℕ) (s : Store) → child ≢ 0 → (with_child side n child s).parent child ≡ n
child-up side n child s some = ap (λ f. f child) (parents-child side n child s) ∙ parent_of-here child n s some

child-same : (side : Bool) (n child : ℕ) (s : Store) (m : ℕ) → m ≢ n → (child ≢ 0 → m ≢ child) → SameLinks s (with_child side n child s) m
child-same side n child s m ne apart = record {
  kid = child-other side n child s m ne;
  parent = ap (λ f. f m) (parents-child side n child s) ∙ parent_of-other child n s m apart;
}

-- trees whose root's parent isn't said
pub IsCut-named : (s : Store) (a b : ℕ) (t : Tree) → b ≡ a → IsCut s a t → IsCut s b t
IsCut-named s a b t e k = record { up = k.up; stands = k.stands; top_is = e ∙ k.top_is }

pub IsCut-held : (s : Store) (top : ℕ) (t : Tree) → IsCut s top t → top ≢ 0 → s.has top ≡ true
IsCut-held s top Leaf k some = absurd (some k.top_is)
IsCut-held s top (Node l n r) k some = ap s.has k.top_is ∙ k.stands.0.held

pub IsCut-kid : (s : Store) (d : Bool) (n : ℕ) (t : Tree) → HasKid s d n t → IsCut s (s.kid d n) t
IsCut-kid s d n t k = record { up = n; stands = k.stands; top_is = k.kid }

pub IsCut-joined : (s : Store) (d : Bool) (t : Tree) (n : ℕ) (u : Tree) → HasKid s d n t → HasKid s (not d) n u → IsCut s n (joined_tree d t n u)
IsCut-joined s d t n u k j = record {
  up = s.parent n;
  stands = Stands-joined s (s.parent n) d t n u refl k j;
  top_is = sym (name_of-joined d t n u);
}

-- what is known where a tree is to hang below a node: that no name stands twice in the two
pub record Hanging (s : Store) (n child : ℕ) (t : Tree) : Type 0 where
  pub none : s.has 0 ≡ false
  pub held : s.has n ≡ true
  pub cut : IsCut s child t
  pub apart : (m : ℕ) → one m n + tally m t ≤ 1

pub can_hang : (s : Store) (n child : ℕ) (t : Tree) → Hanging s n child t → CanHang s n child
can_hang s n child t h = record { held = h.held; child_held = IsCut-held s child t h.cut }

-- other names keep their links
pub hang-same : (s : Store) (side : Bool) (n child : ℕ) (t : Tree) → Hanging s n child t → (m : ℕ) → one m n + tally m t ≡ 0 → SameLinks s (with_child side n child s) m
hang-same s side n child t h m zero =
    child-same side n child s m
    (λ e. let a = one-same m n e in absurd (omega arith))
    (λ some e.
    let r = tally-root t (λ z. some (h.cut.top_is ∙ z)) in
    let q : 1 ≤ tally m t = subst (λ z. 1 ≤ tally z t) (sym (e ∙ h.cut.top_is)) r in
    absurd (omega arith))

-- and so do the trees of other names
pub hang-kid : (s : Store) (side : Bool) (n child : ℕ) (t : Tree) (d : Bool) (y : ℕ) (u : Tree) → Hanging s n child t → one y n ≡ 0
    → ((m : ℕ) → 1 ≤ tally m u → one m n + tally m t ≡ 0) → HasKid s d y u → HasKid (with_child side n child s) d y u
hang-kid s side n child t d y u h other apart k =
    HasKid-kept s (with_child side n child s) d y u (has-child side n child s)
    (child-other side n child s y (λ e. let a = one-same y n e in absurd (omega arith)) d)
    (λ m i. hang-same s side n child t h m (apart m i)) k

pub hang-far : (s : Store) (side : Bool) (n child : ℕ) (t u : Tree) → Hanging s n child t → ((m : ℕ) → 1 ≤ tally m u → one m n + tally m t ≡ 0) → HasKid s (not side) n u → HasKid (with_child side n child s) (not side) n u
hang-far s side n child t u h apart k =
    HasKid-kept s (with_child side n child s) (not side) n u (has-child side n child s) (child-far side n child s) (λ m i. hang-same s side n child t h m (apart m i)) k

pub hang-cut : (s : Store) (side : Bool) (n child : ℕ) (t : Tree) (top : ℕ) (u : Tree) → Hanging s n child t → ((m : ℕ) → 1 ≤ tally m u → one m n + tally m t ≡ 0) → IsCut s top u → IsCut (with_child side n child s) top u
hang-cut s side n child t top u h apart k = record {
  up = k.up;
  stands = Stands-kept s (with_child side n child s) k.up u (has-child side n child s) (λ m i. hang-same s side n child t h m (apart m i)) k.stands;
  top_is = k.top_is;
}

pub hang-round : (s : Store) (side : Bool) (n child : ℕ) (t : Tree) (c : Context) (below : ℕ) → Hanging s n child t → ((m : ℕ) → 1 ≤ tally_round m c → one m n + tally m t ≡ 0) → IsRound s c below → IsRound (with_child side n child s) c below
hang-round s side n child t c below h apart k =
    IsRound-kept s (with_child side n child s) c below (has-child side n child s) (λ m i. hang-same s side n child t h m (apart m i)) k

-- the node has the tree as its child
pub hang-near : (s : Store) (side : Bool) (n child : ℕ) (t : Tree) → Hanging s n child t → HasKid (with_child side n child s) side n t
hang-near s side n child t h =
    let new = with_child side n child s in
    record {
      held = ap (λ f. f n) (has-child side n child s) ∙ h.held;
      kid = ap (λ f. f side n) (kids-child side n child s) ∙ kid-here side n child s ∙ h.cut.top_is;
      stands = Stands-moved s new h.cut.up n t h.none (has-child side n child s)
          (λ some. subst (λ z. new.parent z ≡ n) h.cut.top_is (child-up side n child s (λ z. some (sym h.cut.top_is ∙ z))))
          (λ some. child-other side n child s (name_of t) (λ e. let r = tally-root t some in let b = one-same (name_of t) n e in let k = h.apart (name_of t) in absurd (omega arith)))
          (λ m i ne. child-same side n child s m (λ e. let b = one-same m n e in let k = h.apart m in absurd (omega arith)) (λ some e. ne (e ∙ h.cut.top_is)))
          (λ m. let k = h.apart m in omega arith)
          h.cut.stands;
    }

-- the same links over two stores
pub SameLinks-on : (a b c : Store) (n : ℕ) → SameLinks a b n → SameLinks b c n → SameLinks a c n
SameLinks-on a b c n h k = record { kid = λ d. k.kid d ∙ h.kid d; parent = k.parent ∙ h.parent }

pub SameLinks-same : (s : Store) (n : ℕ) → SameLinks s s n
SameLinks-same s n = record { kid = λ d. refl; parent = refl }
