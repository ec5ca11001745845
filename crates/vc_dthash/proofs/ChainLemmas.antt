-- Chains of holders: parts of them, one that goes on elsewhere, and what written words leave of them.
use Rattle.vc_base.proofs.Common.{◌≡◌, ℕ, ◌%◌, ◌^◌, ◌<◌, true, false, cond, ◌≢◌, List, [], ◌∷◌, ◌++◌, ◌==◌, unwrap_or, sym, refl, ap, ◌∙◌, subst, inl, inr, append-nil, arith, ne_eqb, eqb-true, eqb_tells, filter-append, Blocks, IsAddress, word, word_at, AreDistinct, contains, without}
use Rattle.vc_base.specs.Holders.{last_of}
use Rattle.vc_base.proofs.Members.{apart-front, without-split, within-head, within-tail, within-front, within-rest, differs}
use Rattle.vc_dtlist.proofs.HolderLemmas.{Split, distinct-front, last-differs}
use Rattle.vc_dtlist.proofs.JoinLemmas.{not_last}
use Rattle.vc_dthash.specs.Chained.{AreChained, Leads, chain_of}
use Rattle.vc_dthash.specs.ChainWrites.{Fronted}
use Rattle.vc_dthash.proofs.FilterLemmas.{filter-distinct, filter-less, filter-refuses, filter-test, filter-within, filter-without_in, filter-without_out, front-apart}

-- a chain stays where it begins at the same address and the second words of its holders stay
pub Leads-same : (b b' : Blocks) (at at' : ℕ) (xs : List ℕ) (behind : ℕ) → at' ≡ at → ((a : ℕ) → contains xs a ≡ true → word_at b' a 2 ≡ word_at b a 2) → Leads b at xs behind → Leads b' at' xs behind
Leads-same b b' at at' [] behind e w l = e ∙ l
Leads-same b b' at at' (x ∷ xs) behind e w l =
    (e ∙ l.0, Leads-same b b' (word_at b x 2) (word_at b' x 2) xs behind (w x (within-head x xs)) (λ a h. w a (within-tail x xs a h)) l.1)

-- the two parts around one of its holders, and a chain of two parts
pub Leads-split : (b : Blocks) (at : ℕ) (front : List ℕ) (x : ℕ) (rest : List ℕ) (behind : ℕ) → Leads b at (front ++ x ∷ rest) behind → Leads b at front x × Leads b (word_at b x 2) rest behind
Leads-split b at [] x rest behind l = (l.0, l.1)
Leads-split b at (y ∷ ys) x rest behind l =
    let parts = Leads-split b (word_at b y 2) ys x rest behind l.1 in
    ((l.0, parts.0), parts.1)

pub Leads-append : (b : Blocks) (at : ℕ) (front : List ℕ) (to : ℕ) (rest : List ℕ) (behind : ℕ) → Leads b at front to → Leads b to rest behind → Leads b at (front ++ rest) behind
Leads-append b at [] to rest behind l m = subst (λ z. Leads b z rest behind) (sym l) m
Leads-append b at (y ∷ ys) to rest behind l m = (l.0, Leads-append b (word_at b y 2) ys to rest behind l.1 m)

-- its first holder, if any, is where it begins
pub Leads-fits : (b : Blocks) (at : ℕ) (xs : List ℕ) → ((a : ℕ) → contains xs a ≡ true → IsAddress a) → Leads b at xs 0 → at < 2 ^ 32
Leads-fits b at [] f l = omega (arith, l)
Leads-fits b at (x ∷ xs) f l = let w = f x (within-head x xs) in omega (arith, w.fits, l.0)

-- a chain that goes on at another address behind its last holder
Leads-last : (b b' : Blocks) (at x : ℕ) (xs : List ℕ) (behind to : ℕ) → AreDistinct (x ∷ xs) → word_at b' (last_of x xs) 2 ≡ to → ((a : ℕ) → contains (x ∷ xs) a ≡ true → a ≢ last_of x xs → word_at b' a 2 ≡ word_at b a 2) → Leads b at (x ∷ xs) behind → Leads b' at (x ∷ xs) to
Leads-last b b' at x [] behind to d n w l = (l.0, n)
Leads-last b b' at x (y ∷ ys) behind to d n w l =
    let step : word_at b' x 2 ≡ word_at b x 2 = w x (within-head x (y ∷ ys)) (last-differs x y ys d.0) in
    (l.0, subst (λ z. Leads b' z (y ∷ ys) to) (sym step) (Leads-last b b' (word_at b x 2) y ys behind to d.1 n (λ a h ne. w a (within-tail x (y ∷ ys) a h) ne) l.1))

-- one slot, or the holder before, leads elsewhere; of these holders no other second word changed, and no other slot
pub record Redirects (b b' : Blocks) (table slot before to : ℕ) (holders : List ℕ) : Type 0 where
  pub start : before ≡ 0 → word_at b' table slot ≡ to
  pub start_stays : before ≢ 0 → word_at b' table slot ≡ word_at b table slot
  pub slots : (k : ℕ) → k ≢ slot → word_at b' table k ≡ word_at b table k
  pub next : before ≢ 0 → word_at b' before 2 ≡ to
  pub others : (a : ℕ) → contains holders a ≡ true → a ≢ before → word_at b' a 2 ≡ word_at b a 2

front-redirected : (b b' : Blocks) (table slot before to : ℕ) (front xs : List ℕ) → Redirects b b' table slot before to xs → AreDistinct front → before ≡ last_of 0 front → contains front 0 ≡ false → ((a : ℕ) → contains front a ≡ true → contains xs a ≡ true) → (behind : ℕ) → Leads b (word_at b table slot) front behind → Leads b' (word_at b' table slot) front to
front-redirected b b' table slot before to [] xs r d e none within behind l = r.start e
front-redirected b b' table slot before to (x ∷ ys) xs r d e none within behind l =
    let some : before ≢ 0 = λ z. last-differs 0 x ys none (sym z ∙ e) in
    subst (λ z. Leads b' z (x ∷ ys) to) (sym (r.start_stays some))
    (Leads-last b b' (word_at b table slot) x ys behind to d (ap (λ z. word_at b' z 2) (sym e) ∙ r.next some) (λ a h ne. r.others a (within a h) (λ q. ne (q ∙ e))) l)

-- the chain of a slot with one more that belongs to it, or to another
chain-joined : (hash : ℕ → ℕ) (slots k : ℕ) (xs : List ℕ) (at : ℕ) → (hash at % slots == k) ≡ true → chain_of hash slots k (xs ++ at ∷ []) ≡ chain_of hash slots k xs ++ at ∷ []
chain-joined hash slots k xs at e =
    filter-append (λ a. hash a % slots == k) xs (at ∷ []) ∙ ap (λ t. chain_of hash slots k xs ++ cond t (at ∷ []) []) e

chain-passed : (hash : ℕ → ℕ) (slots k : ℕ) (xs : List ℕ) (at : ℕ) → (hash at % slots == k) ≡ false → chain_of hash slots k (xs ++ at ∷ []) ≡ chain_of hash slots k xs
chain-passed hash slots k xs at e =
    filter-append (λ a. hash a % slots == k) xs (at ∷ []) ∙ (ap (λ t. chain_of hash slots k xs ++ cond t (at ∷ []) []) e ∙ append-nil (chain_of hash slots k xs))

-- the last of one chain is in no other
last-other : (hash : ℕ → ℕ) (slots k s : ℕ) (xs : List ℕ) (a : ℕ) → contains xs 0 ≡ false → contains (chain_of hash slots k xs) a ≡ true → s ≢ k → contains (chain_of hash slots s xs) a ≡ false
last-other hash slots k s xs a none h ne =
    let here : hash a % slots ≡ k = eqb-true (hash a % slots) k (filter-test (λ z. hash z % slots == k) xs a h) in
    filter-refuses (λ z. hash z % slots == s) xs a (ne_eqb (hash a % slots) s (λ e. ne (sym e ∙ here)))

other-redirected : (hash : ℕ → ℕ) (b b' : Blocks) (table slots s before to k : ℕ) (front xs : List ℕ) → Redirects b b' table s before to xs → before ≡ last_of 0 front → ((a : ℕ) → contains (chain_of hash slots k xs) a ≡ true → contains front a ≡ false) → contains xs 0 ≡ false → s ≢ k → Leads b (word_at b table k) (chain_of hash slots k xs) 0 → Leads b' (word_at b' table k) (chain_of hash slots k xs) 0
other-redirected hash b b' table slots s before to k front xs r e apart none ne l =
    Leads-same b b' (word_at b table k) (word_at b' table k) (chain_of hash slots k xs) 0 (r.slots k (λ q. ne (sym q)))
    (λ a h.
    let here : contains xs a ≡ true = filter-within (λ z. hash z % slots == k) xs a h in
    r.others a here (λ q. not_last front a (apart a h) (differs xs a 0 here none) (q ∙ e)))
    l

-- one joined at the end
pub chains-joined : (hash : ℕ → ℕ) (b b' : Blocks) (table slots s before at : ℕ) (xs : List ℕ) → AreChained hash b table slots xs → s ≡ hash at % slots → before ≡ last_of 0 (chain_of hash slots s xs) → AreDistinct xs → contains xs 0 ≡ false → word_at b' at 2 ≡ 0 → Redirects b b' table s before at xs → AreChained hash b' table slots (xs ++ at ∷ [])
chains-joined hash b b' table slots s before at xs c se e d none last r = λ k few. elim (eqb_tells (hash at % slots) k) as (λ _. Leads b' (word_at b' table k) (chain_of hash slots k (xs ++ at ∷ [])) 0) [
  | inl same ↦
      let here : s ≡ k = se ∙ same.1 in
      let chain = chain_of hash slots s xs in
      let p = λ (z : ℕ). hash z % slots == s in
      let old : Leads b (word_at b table s) chain 0 = c s (subst (λ z. z < slots) (sym here) few) in
      let moved : Leads b' (word_at b' table s) chain at =
      front-redirected b b' table s before at chain xs r (filter-distinct p xs d) e (filter-less p xs 0 none) (filter-within p xs) 0 old in
      let whole : Leads b' (word_at b' table s) (chain ++ at ∷ []) 0 = Leads-append b' (word_at b' table s) chain at (at ∷ []) 0 moved (refl, last) in
      subst (λ z. Leads b' (word_at b' table k) z 0) (sym (chain-joined hash slots k xs at same.0))
      (subst (λ z. Leads b' (word_at b' table z) (chain_of hash slots z xs ++ at ∷ []) 0) here whole)
  | inr apart ↦
      let ne : s ≢ k = λ q. apart.1 (sym se ∙ q) in
      subst (λ z. Leads b' (word_at b' table k) z 0) (sym (chain-passed hash slots k xs at apart.0))
      (other-redirected hash b b' table slots s before at k (chain_of hash slots s xs) xs r e (λ a h. last-other hash slots k s xs a none h ne) none ne (c k few))
]

-- one left
pub chains-parted : (hash : ℕ → ℕ) (b b' : Blocks) (table slots s before at : ℕ) (xs : List ℕ) → AreChained hash b table slots xs → s ≡ hash at % slots → s < slots → (p : Split (chain_of hash slots s xs) at) → before ≡ last_of 0 p.front → AreDistinct xs → contains xs 0 ≡ false → Redirects b b' table s before (word_at b at 2) xs → AreChained hash b' table slots (without at xs)
chains-parted hash b b' table slots s before at xs c se small p e d none r =
    let chain = chain_of hash slots s xs in
    let test = λ (z : ℕ). hash z % slots == s in
    let apart : AreDistinct (p.front ++ at ∷ p.rest) = subst AreDistinct p.whole (filter-distinct test xs d) in
    let within : (a : ℕ) → contains (p.front ++ at ∷ p.rest) a ≡ true → contains xs a ≡ true =
    λ a h. filter-within test xs a (subst (λ z. contains z a ≡ true) (sym p.whole) h) in
    let out : contains (p.front ++ at ∷ p.rest) 0 ≡ false = subst (λ z. contains z 0 ≡ false) p.whole (filter-less test xs 0 none) in
    let in_front : (a : ℕ) → contains p.front a ≡ true → contains xs a ≡ true = λ a h. within a (within-front p.front (at ∷ p.rest) a h) in
    let in_rest : (a : ℕ) → contains p.rest a ≡ true → contains (at ∷ p.rest) a ≡ true = λ a h. within-tail at p.rest a h in
    let parts = Leads-split b (word_at b table s) p.front at p.rest 0 (subst (λ z. Leads b (word_at b table s) z 0) p.whole (c s small)) in
    let moved : Leads b' (word_at b' table s) p.front (word_at b at 2) =
    front-redirected b b' table s before (word_at b at 2) p.front xs r (distinct-front p.front (at ∷ p.rest) apart) e (apart-front p.front (at ∷ p.rest) 0 out) in_front at parts.0 in
    let rest : Leads b' (word_at b at 2) p.rest 0 =
    Leads-same b b' (word_at b at 2) (word_at b at 2) p.rest 0 refl
    (λ a h.
    let here : contains xs a ≡ true = within a (within-rest p.front (at ∷ p.rest) a (in_rest a h)) in
    r.others a here (λ q. not_last p.front a (front-apart p.front (at ∷ p.rest) a apart (in_rest a h)) (differs xs a 0 here none) (q ∙ e)))
    parts.1 in
    let whole : Leads b' (word_at b' table s) (p.front ++ p.rest) 0 = Leads-append b' (word_at b' table s) p.front (word_at b at 2) p.rest 0 moved rest in
    λ k few. elim (eqb_tells (hash at % slots) k) as (λ _. Leads b' (word_at b' table k) (chain_of hash slots k (without at xs)) 0) [
      | inl same ↦
          let here : s ≡ k = se ∙ same.1 in
          let one : chain_of hash slots s (without at xs) ≡ p.front ++ p.rest =
          filter-without_in test xs at (subst (λ z. (hash at % slots == z) ≡ true) (sym here) same.0)
          ∙ (ap (without at) p.whole ∙ without-split p.front at p.rest p.before) in
          subst (λ z. Leads b' (word_at b' table z) (chain_of hash slots z (without at xs)) 0) here (subst (λ z. Leads b' (word_at b' table s) z 0) (sym one) whole)
      | inr other ↦
          let ne : s ≢ k = λ q. other.1 (sym se ∙ q) in
          subst (λ z. Leads b' (word_at b' table k) z 0) (sym (filter-without_out (λ z. hash z % slots == k) xs at other.0))
          (other-redirected hash b b' table slots s before (word_at b at 2) k p.front xs r e
          (λ a h. apart-front p.front (at ∷ p.rest) a (subst (λ z. contains z a ≡ false) p.whole (last-other hash slots k s xs a none h ne))) none ne (c k few))
    ]

-- one was put at the front
pub chains-fronted : (hash : ℕ → ℕ) (b b' : Blocks) (table slots s at : ℕ) (xs : List ℕ) → AreChained hash b table slots xs → s ≡ hash at % slots → contains xs at ≡ false → contains xs table ≡ false → Fronted b b' table s at → AreChained hash b' table slots (at ∷ xs)
chains-fronted hash b b' table slots s at xs c se out apart f =
    let stay : (k a : ℕ) → contains (chain_of hash slots k xs) a ≡ true → word_at b' a 2 ≡ word_at b a 2 = λ k a h.
    let here : contains xs a ≡ true = filter-within (λ z. hash z % slots == k) xs a h in
    ap (λ o. word 2 (unwrap_or o [])) (f.others a (differs xs a table here apart) (differs xs a at here out)) in
    λ k few. elim (eqb_tells (hash at % slots) k) as (λ _. Leads b' (word_at b' table k) (chain_of hash slots k (at ∷ xs)) 0) [
      | inl same ↦
          let here : s ≡ k = se ∙ same.1 in
          let chain = chain_of hash slots k xs in
          let first : word_at b' table k ≡ at = subst (λ z. word_at b' table z ≡ at) here f.first in
          let next : word_at b' at 2 ≡ word_at b table k = subst (λ z. word_at b' at 2 ≡ word_at b table z) here f.next in
          let whole : Leads b' (word_at b' table k) (at ∷ chain) 0 =
          (first, Leads-same b b' (word_at b table k) (word_at b' at 2) chain 0 next (stay k) (c k few)) in
          subst (λ t. Leads b' (word_at b' table k) (cond t (at ∷ chain) chain) 0) (sym same.0) whole
      | inr other ↦
          let ne : k ≢ s = λ q. other.1 (sym se ∙ sym q) in
          let chain = chain_of hash slots k xs in
          subst (λ t. Leads b' (word_at b' table k) (cond t (at ∷ chain) chain) 0) (sym other.0)
          (Leads-same b b' (word_at b table k) (word_at b' table k) chain 0 (f.slots k ne) (stay k) (c k few))
    ]

-- chains by another way to tell the hashes, and over blocks of which the table and the holders stay
pub chain-same : (hash hash' : ℕ → ℕ) (slots k : ℕ) (xs : List ℕ) → ((a : ℕ) → contains xs a ≡ true → hash' a ≡ hash a) → chain_of hash' slots k xs ≡ chain_of hash slots k xs
chain-same hash hash' slots k [] e = refl
chain-same hash hash' slots k (x ∷ xs) e =
    ap (λ h. cond (h % slots == k) (x ∷ chain_of hash' slots k xs) (chain_of hash' slots k xs)) (e x (within-head x xs))
    ∙ ap (λ z. cond (hash x % slots == k) (x ∷ z) z) (chain-same hash hash' slots k xs (λ a h. e a (within-tail x xs a h)))

pub chains-hash : (hash hash' : ℕ → ℕ) (b : Blocks) (table slots : ℕ) (xs : List ℕ) → ((a : ℕ) → contains xs a ≡ true → hash' a ≡ hash a) → AreChained hash b table slots xs → AreChained hash' b table slots xs
chains-hash hash hash' b table slots xs e c = λ k few. subst (λ z. Leads b (word_at b table k) z 0) (sym (chain-same hash hash' slots k xs e)) (c k few)

pub chains-same : (hash : ℕ → ℕ) (b b' : Blocks) (table slots : ℕ) (xs : List ℕ) → ((k : ℕ) → word_at b' table k ≡ word_at b table k) → ((a : ℕ) → contains xs a ≡ true → word_at b' a 2 ≡ word_at b a 2) → AreChained hash b table slots xs → AreChained hash b' table slots xs
chains-same hash b b' table slots xs t e c = λ k few.
    Leads-same b b' (word_at b table k) (word_at b' table k) (chain_of hash slots k xs) 0 (t k) (λ a h. e a (filter-within (λ z. hash z % slots == k) xs a h)) (c k few)
