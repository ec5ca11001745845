-- Trees that a rotation turns into one another have their names in the same order.
use Rattle.vc_base.proofs.Common.{◌≡◌, ℕ, ◌+◌, Bool, true, false, not, ◌∷◌, ◌++◌, sym, refl, ap, ◌∙◌, append_assoc}
use Rattle.vc_splay.specs.Tree.{Tree, Node, names}
use Rattle.vc_splay.specs.Moves.{Context, Top, Under, joined_tree, plug, tally, tally_round}
use Rattle.vc_splay.proofs.TallyLemmas.{tally-list, tally-plug}

pub rotate : (d : Bool) (a : Tree) (x : ℕ) (b : Tree) (p : ℕ) (c : Tree) → names (joined_tree d (joined_tree d a x b) p c) ≡ names (joined_tree d a x (joined_tree d b p c))
rotate true a x b p c = append_assoc (names a) (x ∷ names b) (p ∷ names c)
rotate false a x b p c = sym (append_assoc (names c) (p ∷ names b) (x ∷ names a))

pub turn : (d : Bool) (t : Tree) (n : ℕ) (u : Tree) → joined_tree d t n u ≡ joined_tree (not d) u n t
turn true t n u = refl
turn false t n u = refl

pub near-names : (d : Bool) (t u : Tree) (n : ℕ) (v : Tree) → names t ≡ names u → names (joined_tree d t n v) ≡ names (joined_tree d u n v)
near-names true t u n v e = ap (λ z. z ++ n ∷ names v) e
near-names false t u n v e = ap (λ z. names v ++ n ∷ z) e

pub far-names : (d : Bool) (v t u : Tree) (n : ℕ) → names t ≡ names u → names (joined_tree d v n t) ≡ names (joined_tree d v n u)
far-names true v t u n e = ap (λ z. names v ++ n ∷ z) e
far-names false v t u n e = ap (λ z. z ++ n ∷ names v) e

pub plug-names : (c : Context) (t u : Tree) → names t ≡ names u → names (plug c t) ≡ names (plug c u)
plug-names Top t u e = e
plug-names (Under d n sibling c) t u e = plug-names c (joined_tree d t n sibling) (joined_tree d u n sibling) (near-names d t u n sibling e)

-- two steps on one side, and one on each
pub rotate_twice : (d : Bool) (a : Tree) (x : ℕ) (b : Tree) (p : ℕ) (c : Tree) (g : ℕ) (e : Tree)
    → names (joined_tree d (joined_tree d (joined_tree d a x b) p c) g e) ≡ names (joined_tree d a x (joined_tree d b p (joined_tree d c g e)))
rotate_twice d a x b p c g e = rotate d (joined_tree d a x b) p c g e ∙ rotate d a x b p (joined_tree d c g e)

pub rotate_across : (d : Bool) (a : Tree) (x : ℕ) (b : Tree) (p : ℕ) (c : Tree) (g : ℕ) (e : Tree)
    → names (joined_tree (not d) (joined_tree d (joined_tree d a x b) p c) g e) ≡ names (joined_tree d (joined_tree (not d) a g e) x (joined_tree d b p c))
rotate_across true a x b p c g e = ap (λ z. names e ++ g ∷ z) (rotate true a x b p c) ∙ sym (append_assoc (names e) (g ∷ names a) (x ∷ names (Node b p c)))
rotate_across false a x b p c g e = ap (λ z. z ++ g ∷ names e) (rotate false a x b p c) ∙ append_assoc (names (Node c p b)) (x ∷ names a) (g ∷ names e)

-- so each name stands as often
pub plug-tally : (n : ℕ) (c : Context) (t : Tree) (d : Context) (u : Tree) → names (plug d u) ≡ names (plug c t) → tally n u + tally_round n d ≡ tally n t + tally_round n c
plug-tally n c t d u e = sym (tally-plug n d u) ∙ tally-list n (plug d u) (plug c t) e ∙ tally-plug n c t
