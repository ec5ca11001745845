-- What a written link is, and what it leaves.
use Rattle.vc_base.proofs.Common.{◌≡◌, ℕ, Bool, true, false, cond, not, ◌&&◌, ◌≢◌, ◌==◌, sym, refl, ◌∙◌, subst, inl, inr, true≢false, eq-eqb, ne_eqb, and-false, eqb_tells}
use Rattle.vc_splay.specs.Store.{Store, with_kid, with_parent, is_same}
use Rattle.vc_splay.specs.Writes.{with_kid_of, with_parent_of}

is_same-self : (d : Bool) → is_same d d ≡ true
is_same-self true = refl
is_same-self false = refl

is_same-not : (d : Bool) → is_same d (not d) ≡ false
is_same-not true = refl
is_same-not false = refl

is_same-back : (d : Bool) → is_same (not d) d ≡ false
is_same-back true = refl
is_same-back false = refl

pub kid-here : (d : Bool) (n v : ℕ) (s : Store) → (with_kid d n v s).kid d n ≡ v
unfolding with_kid
kid-here d n v s = rw (eq-eqb n n refl, is_same-self d) refl

pub kid-opposite : (d : Bool) (n v : ℕ) (s : Store) (m : ℕ) → (with_kid d n v s).kid (not d) m ≡ s.kid (not d) m
unfolding with_kid
kid-opposite d n v s m = rw (is_same-not d, and-false) refl

pub kid-near : (d : Bool) (n v : ℕ) (s : Store) (m : ℕ) → (with_kid (not d) n v s).kid d m ≡ s.kid d m
unfolding with_kid
kid-near d n v s m = rw (is_same-back d, and-false) refl

pub kid-other : (d : Bool) (n v : ℕ) (s : Store) (e : Bool) (m : ℕ) → m ≢ n → (with_kid d n v s).kid e m ≡ s.kid e m
unfolding with_kid
kid-other d n v s e m ne = rw (ne_eqb m n ne) refl

pub parent-here : (n v : ℕ) (s : Store) → (with_parent n v s).parent n ≡ v
unfolding with_parent
parent-here n v s = rw (eq-eqb n n refl) refl

pub parent-other : (n v : ℕ) (s : Store) (m : ℕ) → m ≢ n → (with_parent n v s).parent m ≡ s.parent m
unfolding with_parent
parent-other n v s m ne = rw (ne_eqb m n ne) refl

pub parent_of-here : (n v : ℕ) (s : Store) → n ≢ 0 → (with_parent_of n v s).parent n ≡ v
unfolding with_parent_of
parent_of-here n v s some = rw (ne_eqb n 0 some, eq-eqb n n refl) refl

pub parent_of-other : (n v : ℕ) (s : Store) (m : ℕ) → (n ≢ 0 → m ≢ n) → (with_parent_of n v s).parent m ≡ s.parent m
unfolding with_parent_of
parent_of-other n v s m ne = by (n == 0) refl
  where
    by : (t : Bool) → (n == 0) ≡ t → cond (not (n == 0) && (m == n)) v (s.parent m) ≡ s.parent m
    by true e = rw e refl
    by false e = rw (ne_eqb m n (ne (λ z. true≢false (sym (eq-eqb n 0 z) ∙ e))), and-false) refl

-- a name with a parent is one with another parent, where there is a name
pub parent_of-some : (n v : ℕ) (s : Store) → n ≢ 0 → with_parent n v s ≡ with_parent_of n v s
unfolding with_parent with_parent_of
parent_of-some n v s some = rw (ne_eqb n 0 some) refl

pub parent_of-none : (n v : ℕ) (s : Store) → n ≡ 0 → s ≡ with_parent_of n v s
unfolding with_parent_of
parent_of-none n v s none = rw (eq-eqb n 0 none) refl

-- a name with a child is one with another child, where there is a name
pub kid_of-some : (d : Bool) (n v : ℕ) (s : Store) → n ≢ 0 → with_kid d n v s ≡ with_kid_of d n v s
unfolding with_kid_of
kid_of-some d n v s some = rw (ne_eqb n 0 some) refl

pub kid_of-none : (d : Bool) (n v : ℕ) (s : Store) → n ≡ 0 → s ≡ with_kid_of d n v s
unfolding with_kid_of
kid_of-none d n v s none = rw (eq-eqb n 0 none) refl

-- stores with the same names and links are one
pub same_store : (s t : Store) → ((n : ℕ) → s.has n ≡ t.has n) → ((d : Bool) (n : ℕ) → s.kid d n ≡ t.kid d n) → ((n : ℕ) → s.parent n ≡ t.parent n) → s ≡ t
same_store s t h k p = λ i. record { has = λ n. h n i; kid = λ d n. k d n i; parent = λ n. p n i }

-- what a store has to have for one link to be written
kid_each : (old new : Store) (d : Bool) (n v : ℕ) → new.kid d n ≡ v → ((m : ℕ) → new.kid (not d) m ≡ old.kid (not d) m) → ((m : ℕ) → m ≢ n → (e : Bool) → new.kid e m ≡ old.kid e m) → (e : Bool) (m : ℕ) → new.kid e m ≡ (with_kid d n v old).kid e m
kid_each old new d n v here far others e m = elim (eqb_tells m n) as (λ _. new.kid e m ≡ (with_kid d n v old).kid e m) [
  | inl same ↦ subst (λ z. new.kid e z ≡ (with_kid d n v old).kid e z) (sym same.1) (at_node old new d e n v here (far n))
  | inr apart ↦ others m apart.1 e ∙ sym (kid-other d n v old e m apart.1)
]
  where
    at_node : (old new : Store) (d e : Bool) (n v : ℕ) → new.kid d n ≡ v → new.kid (not d) n ≡ old.kid (not d) n → new.kid e n ≡ (with_kid d n v old).kid e n
    at_node old new true true n v h f = h ∙ sym (kid-here true n v old)
    at_node old new false false n v h f = h ∙ sym (kid-here false n v old)
    at_node old new true false n v h f = f ∙ sym (kid-opposite true n v old n)
    at_node old new false true n v h f = f ∙ sym (kid-opposite false n v old n)

pub with_kid-is : (old new : Store) (d : Bool) (n v : ℕ) → ((m : ℕ) → new.has m ≡ old.has m) → new.kid d n ≡ v → ((m : ℕ) → new.kid (not d) m ≡ old.kid (not d) m) → ((m : ℕ) → m ≢ n → (e : Bool) → new.kid e m ≡ old.kid e m) → ((m : ℕ) → new.parent m ≡ old.parent m)
    → new ≡ with_kid d n v old
unfolding with_kid
with_kid-is old new d n v has here far others parent = same_store new (with_kid d n v old) has (kid_each old new d n v here far others) parent

parent_each : (old new : Store) (n v : ℕ) → new.parent n ≡ v → ((m : ℕ) → m ≢ n → new.parent m ≡ old.parent m) → (m : ℕ) → new.parent m ≡ (with_parent n v old).parent m
parent_each old new n v here others m = elim (eqb_tells m n) as (λ _. new.parent m ≡ (with_parent n v old).parent m) [
  | inl same ↦ subst (λ z. new.parent z ≡ (with_parent n v old).parent z) (sym same.1) (here ∙ sym (parent-here n v old))
  | inr apart ↦ others m apart.1 ∙ sym (parent-other n v old m apart.1)
]

pub with_parent-is : (old new : Store) (n v : ℕ) → ((m : ℕ) → new.has m ≡ old.has m) → ((d : Bool) (m : ℕ) → new.kid d m ≡ old.kid d m) → new.parent n ≡ v → ((m : ℕ) → m ≢ n → new.parent m ≡ old.parent m) → new ≡ with_parent n v old
unfolding with_parent
with_parent-is old new n v has kid here others = same_store new (with_parent n v old) has kid (parent_each old new n v here others)
