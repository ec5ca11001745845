-- Trees that stand in a store, where other links of it change.
use Rattle.vc_base.proofs.Common.{◌≡◌, ℕ, ◌+◌, ◌≤◌, Bool, true, false, not, ◌≢◌, ◌∷◌, sym, refl, ap, ◌∙◌, subst, ⊎_elim, true≢false, arith, contains}
use Rattle.vc_base.proofs.Members.{within-cases, within-either}
use Rattle.vc_splay.specs.Tree.{Tree, Leaf, Node, name_of, names}
use Rattle.vc_splay.specs.Store.{Store, SameLinks}
use Rattle.vc_splay.specs.Stands.{IsNode, Stands}
use Rattle.vc_splay.specs.Moves.{Context, Top, Under, HasKid, IsRound, joined_tree, one, tally, tally_round}
use Rattle.vc_splay.proofs.TallyLemmas.{one-same, tally-node}

-- a name of a tree isn't one of another, where none stands twice in the two
pub apart_by : (n m j : ℕ) (t : Tree) → 1 ≤ tally n t → one n m + tally n t + j ≤ 1 → n ≢ m
apart_by n m j t h once e = let k = one-same n m e in absurd (omega arith)

-- a name that is there isn't 0
pub some_held : (s : Store) (n : ℕ) → s.has 0 ≡ false → s.has n ≡ true → n ≢ 0
some_held s n none held e = true≢false (sym held ∙ ap s.has e ∙ none)

IsNode-kept : (old new : Store) (up n l r : ℕ) → new.has ≡ old.has → SameLinks old new n → IsNode old up n l r → IsNode new up n l r
IsNode-kept old new up n l r has same node = record {
  held = ap (λ f. f n) has ∙ node.held;
  parent = same.parent ∙ node.parent;
  left_kid = same.kid true ∙ node.left_kid;
  right_kid = same.kid false ∙ node.right_kid;
}

-- a tree whose links stay
pub Stands-kept : (old new : Store) (up : ℕ) (t : Tree) → new.has ≡ old.has → ((n : ℕ) → 1 ≤ tally n t → SameLinks old new n) → Stands old up t → Stands new up t
Stands-kept old new up Leaf has same s = tt
Stands-kept old new up (Node l m r) has same s =
    let within = λ (n : ℕ). tally-node n m l r in (
      IsNode-kept old new up m (name_of l) (name_of r) has (same m (let e = one-same m m refl in let k = within m in omega arith)) s.0,
      Stands-kept old new m l has (λ n h. same n (let k = within n in omega arith)) s.1,
      Stands-kept old new m r has (λ n h. same n (let k = within n in omega arith)) s.2,
    )

pub HasKid-kept : (old new : Store) (d : Bool) (x : ℕ) (t : Tree) → new.has ≡ old.has → new.kid d x ≡ old.kid d x → ((n : ℕ) → 1 ≤ tally n t → SameLinks old new n) → HasKid old d x t → HasKid new d x t
HasKid-kept old new d x t has kid same k = record {
  held = ap (λ f. f x) has ∙ k.held;
  kid = kid ∙ k.kid;
  stands = Stands-kept old new x t has same k.stands;
}

-- what is round a part, where its links stay
pub IsRound-kept : (old new : Store) (c : Context) (below : ℕ) → new.has ≡ old.has → ((n : ℕ) → 1 ≤ tally_round n c → SameLinks old new n) → IsRound old c below → IsRound new c below
IsRound-kept old new Top below has same s = tt
IsRound-kept old new (Under d m sibling c) below has same s =
    let here = same m (let e = one-same m m refl in omega arith) in (
      record {
        kid = here.kid d ∙ s.0.kid;
        parent = here.parent ∙ s.0.parent;
        other_kid = HasKid-kept old new (not d) m sibling has (here.kid (not d)) (λ n h. same n (omega arith)) s.0.other_kid;
      },
      IsRound-kept old new c m has (λ n h. same n (omega arith)) s.1,
    )

-- a tree whose root gets another parent
pub Stands-moved : (old new : Store) (up to : ℕ) (t : Tree) → old.has 0 ≡ false → new.has ≡ old.has
    → (name_of t ≢ 0 → new.parent (name_of t) ≡ to) → (name_of t ≢ 0 → (d : Bool) → new.kid d (name_of t) ≡ old.kid d (name_of t))
    → ((n : ℕ) → 1 ≤ tally n t → n ≢ name_of t → SameLinks old new n) → ((n : ℕ) → tally n t ≤ 1) → Stands old up t → Stands new to t
Stands-moved old new up to Leaf none has parent kid same once s = tt
Stands-moved old new up to (Node l m r) none has parent kid same once s =
    let some = some_held old m none s.0.held in
    let within = λ (n : ℕ). tally-node n m l r in (
      record {
        held = ap (λ f. f m) has ∙ s.0.held;
        parent = parent some;
        left_kid = kid some true ∙ s.0.left_kid;
        right_kid = kid some false ∙ s.0.right_kid;
      },
      Stands-kept old new m l has (λ n h. same n (let k = within n in omega arith) (λ e. let k = within n in let j = once n in let i = one-same n m e in absurd (omega arith))) s.1,
      Stands-kept old new m r has (λ n h. same n (let k = within n in omega arith) (λ e. let k = within n in let j = once n in let i = one-same n m e in absurd (omega arith))) s.2,
    )

-- a node with a subtree on each side
pub Stands-joined : (s : Store) (up : ℕ) (d : Bool) (t : Tree) (n : ℕ) (u : Tree) → s.parent n ≡ up → HasKid s d n t → HasKid s (not d) n u → Stands s up (joined_tree d t n u)
Stands-joined s up true t n u e k j = (record { held = k.held; parent = e; left_kid = k.kid; right_kid = j.kid }, k.stands, j.stands)
Stands-joined s up false t n u e k j = (record { held = k.held; parent = e; left_kid = j.kid; right_kid = k.kid }, j.stands, k.stands)

pub name_of-joined : (d : Bool) (t : Tree) (n : ℕ) (u : Tree) → name_of (joined_tree d t n u) ≡ n
name_of-joined true t n u = refl
name_of-joined false t n u = refl

-- a name of a tree is there
pub Stands-there : (s : Store) (up : ℕ) (t : Tree) (n : ℕ) → Stands s up t → contains (names t) n ≡ true → s.has n ≡ true
Stands-there s up Leaf n h w = absurd (true≢false (sym w))
Stands-there s up (Node l m r) n h w =
    ⊎_elim
    (λ (k : contains (names l) n ≡ true). Stands-there s m l n h.1 k)
    (λ (k : contains (m ∷ names r) n ≡ true).
    ⊎_elim (λ (e : m ≡ n). subst (λ z. s.has z ≡ true) e h.0.held) (λ (j : contains (names r) n ≡ true). Stands-there s m r n h.2 j) (within-cases m (names r) n k))
    (within-either (names l) (m ∷ names r) n w)
