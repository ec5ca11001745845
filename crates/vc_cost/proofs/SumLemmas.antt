-- What calls make and cost that are made in turn.
use Rattle.vc_base.proofs.Common.{◌≡◌, ℕ, ◌+◌, ◌*◌, ◌≤◌, ◌≢◌, Bool, false, List, [], ◌∷◌, ◌++◌, length, length-append, max, find, if◌then◌else◌, Option, Some, None, is_some, refl, ap, ◌∙◌, subst, arith, Blocks, KeepsBut, contains, body_of, bytes_at}
use Rattle.vc_base.proofs.Members.{apart-cons, apart-either, apart-front, apart-head, apart-rest, apart-tail}
use Rattle.vc_dtdisc.specs.Finding.{put_before}
use Rattle.vc_dtdisc.specs.Finds.{find_key, object_at}
use Rattle.vc_dtdisc.specs.Objects.{has_key, is_greater}
use Rattle.vc_dtdisc.specs.Rules.{Rules}
use Rattle.vc_dtlist.proofs.HolderLemmas.{apart-append, apart-without}
use Rattle.vc_dtlist.specs.Sought.{is_sought}
use Rattle.vc_dtlist.specs.declared.sought.Sought.TheVariants.{NotLess}
use Rattle.vc_splay.specs.Rank.{Costs, binary_digits, rank, size}
use Rattle.vc_splay.specs.Stands.{IsTree}
use Rattle.vc_splay.specs.Tree.{Tree, Leaf, Node, names}
use Rattle.vc_dtord.specs.declared.dt_ord.DtOrd.{DtOrd}
use Rattle.vc_dtord.specs.Nodes.{node_store}
use Rattle.vc_dtord.specs.NodeLaws.{node-none}
use Rattle.vc_dtord.specs.Ordered.{OrdFor, is_less}
use Rattle.vc_splay.specs.Unique.{IsTree-one}
use Rattle.vc_cost.specs.declared.ord_call.OrdCall.{OrdCall}
use Rattle.vc_cost.specs.declared.ord_call.OrdCall.TheVariants.{Link, Take, Find, AtLeast}
use Rattle.vc_cost.specs.declared.tally.Made.{Made}
use Rattle.vc_cost.specs.Calls.{after_call, after_calls, calls_made, finds, found_count, greatest_count, linked, linked_by, weight, without_found}
use Rattle.vc_cost.specs.Costs.{IsMade}
use Rattle.vc_cost.proofs.MadeLemmas.{size-names}

-- these calls were made in turn: it stands for the holders after them, the blocks keep all but the words of those and of
-- what was linked, and the rises add up, by any number that no count is above
pub record AreMade (rules : Rules) (calls : List OrdCall) (holders : List ℕ) (old : DtOrd) (before : Blocks) (new : DtOrd) (after : Blocks) (start now : ℕ) : Type 0 where
  pub stands : OrdFor rules new after (after_calls rules before calls holders)
  pub keeps : KeepsBut (linked calls ++ holders) before after
  pub cost : (t u : Tree) (most : ℕ) → IsTree (node_store before) old.root.0 t → IsTree (node_store after) new.root.0 u
      → size t ≤ most → greatest_count rules before calls holders ≤ most
      → Costs t u start now (calls_made calls * (30 * binary_digits most + 30))

-- where bodies stay, calls find and make the same
abbrev pub SameBodies : Blocks → Blocks → Type 0
SameBodies b b' = (a : ℕ) → body_of (bytes_at b' a) ≡ body_of (bytes_at b a)

objects-same : (b b' : Blocks) → SameBodies b b' → ◌≡◌ {A = ℕ → List ℕ} (object_at b') (object_at b)
objects-same b b' k = λ i. λ a. k a i

call-kept : (rules : Rules) (b b' : Blocks) → SameBodies b b' → (call : OrdCall) (xs : List ℕ) → after_call rules b' call xs ≡ after_call rules b call xs
call-kept rules b b' k (Link at) xs = ap (λ f. put_before (λ x. is_greater rules (f x) (f at.0)) at.0 xs) (objects-same b b' k)
call-kept rules b b' k (Take key) xs = ap (λ f. without_found (find (λ x. has_key rules key (f x)) xs) xs) (objects-same b b' k)
call-kept rules b b' k (Find key) xs = refl
call-kept rules b b' k (AtLeast key) xs = refl

calls-kept : (rules : Rules) (b b' : Blocks) → SameBodies b b' → (calls : List OrdCall) (xs : List ℕ) → after_calls rules b' calls xs ≡ after_calls rules b calls xs
calls-kept rules b b' k [] xs = refl
calls-kept rules b b' k (call ∷ calls) xs =
    ap (λ z. after_calls rules b' calls z) (call-kept rules b b' k call xs) ∙ calls-kept rules b b' k calls (after_call rules b call xs)

pub greatest-kept : (rules : Rules) (b b' : Blocks) → SameBodies b b' → (calls : List OrdCall) (xs : List ℕ) → greatest_count rules b' calls xs ≡ greatest_count rules b calls xs
greatest-kept rules b b' k [] xs = refl
greatest-kept rules b b' k (call ∷ calls) xs =
    ap (λ z. max (length z) (greatest_count rules b' calls z)) (call-kept rules b b' k call xs)
    ∙ ap (λ z. max (length (after_call rules b call xs)) z) (greatest-kept rules b b' k calls (after_call rules b call xs))

finds-kept : (rules : Rules) (b b' : Blocks) → SameBodies b b' → (call : OrdCall) (xs : List ℕ) → finds rules b' call xs ≡ finds rules b call xs
finds-kept rules b b' k (Link at) xs = refl
finds-kept rules b b' k (Take key) xs = refl
finds-kept rules b b' k (Find key) xs = ap (λ f. is_some (find (λ x. has_key rules key (f x)) xs)) (objects-same b b' k)
finds-kept rules b b' k (AtLeast key) xs = ap (λ f. is_some (find (λ x. is_sought NotLess (rules.compare (rules.key (f x)) key)) xs)) (objects-same b b' k)

pub found-kept : (rules : Rules) (b b' : Blocks) → SameBodies b b' → (calls : List OrdCall) (xs : List ℕ) → found_count rules b' calls xs ≡ found_count rules b calls xs
found-kept rules b b' k [] xs = refl
found-kept rules b b' k (call ∷ calls) xs =
    ap (λ t. (if t then 1 else 0) + found_count rules b' calls (after_call rules b' call xs)) (finds-kept rules b b' k call xs)
    ∙ ap (λ z. (if finds rules b call xs then 1 else 0) + found_count rules b' calls z) (call-kept rules b b' k call xs)
    ∙ ap (λ n. (if finds rules b call xs then 1 else 0) + n) (found-kept rules b b' k calls (after_call rules b call xs))

-- what is neither linked by a call nor in the list before it isn't in it after it
apart-put : (test : ℕ → Bool) (at : ℕ) (xs : List ℕ) (a : ℕ) → at ≢ a → contains xs a ≡ false → contains (put_before test at xs) a ≡ false
apart-put test at [] a ne h = apart-cons at [] a ne refl
apart-put test at (x ∷ xs) a ne h =
    apart-either (test x) (at ∷ x ∷ xs) (x ∷ put_before test at xs) a
    (apart-cons at (x ∷ xs) a ne h)
    (apart-cons x (put_before test at xs) a (apart-head x xs a h) (apart-put test at xs a ne (apart-tail x xs a h)))

apart-found : (o : Option ℕ) (xs : List ℕ) (a : ℕ) → contains xs a ≡ false → contains (without_found o xs) a ≡ false
apart-found None xs a h = h
apart-found (Some at) xs a h = apart-without xs at a h

pub apart-call : (rules : Rules) (b : Blocks) (call : OrdCall) (xs : List ℕ) (a : ℕ) → contains (linked_by call) a ≡ false → contains xs a ≡ false → contains (after_call rules b call xs) a ≡ false
apart-call rules b (Link at) xs a none h = apart-put (is_less rules b at.0) at.0 xs a (apart-head at.0 [] a none) h
apart-call rules b (Take key) xs a none h = apart-found (find_key rules b key xs) xs a h
apart-call rules b (Find key) xs a none h = h
apart-call rules b (AtLeast key) xs a none h = h

both : (t m u : Tree) (start now last p q d : ℕ) → Costs t m start now (p * d) → Costs m u now last (q * d) → Costs t u start last ((p + q) * d)
both t m u start now last p q d h k = record { cost = let i = h.cost in let j = k.cost in omega arith }

pub made_then : (rules : Rules) (call : OrdCall) (calls : List OrdCall) (xs : List ℕ) (old mid new : DtOrd) (b b' b'' : Blocks) (start now last : ℕ) (made : Made) → IsMade rules call xs old b mid b' start now made → AreMade rules calls (after_call rules b call xs) mid b' new b'' now last → AreMade rules (call ∷ calls) xs old b new b'' start last
made_then rules call calls xs old mid new b b' b'' start now last made h k =
    let ys = after_call rules b call xs in
    let bodies = h.turned.keeps.bodies in
    let own = linked_by call in
    let rest = linked calls in
    record {
      stands = subst (λ z. OrdFor rules new b'' z) (calls-kept rules b b' bodies calls ys) k.stands;
      keeps = record {
        there = λ a. k.keeps.there a ∙ h.turned.keeps.there a;
        sizes = λ a. k.keeps.sizes a ∙ h.turned.keeps.sizes a;
        bodies = λ a. k.keeps.bodies a ∙ h.turned.keeps.bodies a;
        others = λ a none.
            let some = apart-front (own ++ rest) xs a none in
            let apart = apart-rest (own ++ rest) xs a none in
            let not_own = apart-front own rest a some in
            k.keeps.others a (apart-append rest ys a (apart-rest own rest a some) (apart-call rules b call xs a not_own apart))
            ∙ h.turned.keeps.others a (apart-append own xs a not_own apart);
      };
      cost = λ t u most i j few least.
          let m = h.turned.stands.tree in
          let s = size-names m ys h.turned.stands.list in
          let e = greatest-kept rules b b' bodies calls ys in
          let mid_few : size m ≤ most = omega arith in
          both t m u start now last (weight call) (calls_made calls) (30 * binary_digits most + 30)
          (h.cost t m most i h.turned.stands.is_tree few mid_few) (k.cost m u most h.turned.stands.is_tree j mid_few (omega arith));
    }

pub made_none : (rules : Rules) (xs : List ℕ) (ord : DtOrd) (b : Blocks) (now : ℕ) → OrdFor rules ord b xs → AreMade rules [] xs ord b ord b now now
made_none rules xs ord b now s = record {
  stands = s;
  keeps = record { there = λ a. refl; sizes = λ a. refl; bodies = λ a. refl; others = λ a h. refl };
  cost = λ t u most i j few least. record {
    cost = let e = ap rank (IsTree-one (node_store b) ord.root.0 u t (node-none b) j i) in omega arith;
  };
}

none-node : (xs : List ℕ) (n : ℕ) (ys : List ℕ) → xs ++ n ∷ ys ≡ [] → ⊥
none-node xs n ys e = let a = length-append xs (n ∷ ys) in let b = ap (λ z. length z) e in omega arith

none-rank : (t : Tree) → names t ≡ [] → rank t ≡ 0
none-rank Leaf e = refl
none-rank (Node l n r) e = absurd (none-node (names l) n (names r) e)

-- what they cost that were made on an empty one
pub made_sum : (rules : Rules) (calls : List OrdCall) (old new : DtOrd) (b b' : Blocks) (start now : ℕ) → OrdFor rules old b [] → AreMade rules calls [] old b new b' start now → now ≤ start + calls_made calls * (30 * binary_digits (greatest_count rules b calls []) + 30)
made_sum rules calls old new b b' start now s h =
    let none = size-names s.tree [] s.list in
    let e = none-rank s.tree s.list in
    let c = (h.cost s.tree h.stands.tree (greatest_count rules b calls []) s.is_tree h.stands.is_tree (omega arith) (omega arith)).cost in
    omega arith
