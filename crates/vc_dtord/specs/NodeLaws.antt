-- What a store of holders keeps of itself, as its type has to show.
use Rattle.std.specs.Prelude.{◌≡◌, ◌≢◌, ℕ, ◌<◌, ◌≤◌, ◌^◌, List, Bool, true, false, length, drop, nat_lt, refl, ◌&&◌}
use Rattle.std.proofs.Common.{inl, inr, sym, ap, ◌∙◌, subst, arith}
use Rattle.std.proofs.lemmas.Bool.{ltb-true, true≢false}
use Rattle.std.proofs.lemmas.Bool.Decides.{eqb_tells}
use Rattle.std.proofs.lemmas.List.{drop-drop}
use Rattle.vc_base.specs.declared.addr.Addr.{Addr}
use Rattle.vc_base.specs.Cells.{Blocks, IsAddress, bytes_at}
use Rattle.vc_dtdisc.specs.Finds.{object_at}
use Rattle.vc_dtdisc.specs.Rules.{Rules}
use Rattle.vc_dtord.specs.Nodes.{StaysButLinks, beside, is_link, is_node, is_node_of, node_store, stands_to, stands_to_holder}

pub and-left : (a b : Bool) → a && b ≡ true → a ≡ true
and-left true b h = refl
and-left false b h = h

pub and-right : (a b : Bool) → a && b ≡ true → b ≡ true
and-right true b h = h
and-right false b h = absurd (true≢false (sym h))

and-none : (a : Bool) → a && false ≡ false
and-none true = refl
and-none false = refl

-- what a node is
pub record IsNodeAt (blocks : Blocks) (a : ℕ) : Type 0 where
  pub address : IsAddress a
  pub long : 33 ≤ length (bytes_at blocks a)
  pub links : (k : ℕ) → k < 3 → is_link k (bytes_at blocks a) ≡ true

-- what holds of 0, 1 and 2 holds of each number below 3
pub below_three : (P : ℕ → Type 0) → P 0 → P 1 → P 2 → (k : ℕ) → k < 3 → P k
below_three P first second third k h = elim (eqb_tells k 0) as (λ _. P k) [
  | inl a ↦ subst P (sym a.1) first
  | inr a ↦ elim (eqb_tells k 1) as (λ _. P k) [
    | inl b ↦ subst P (sym b.1) second
    | inr b ↦ subst P (two_of k h a.1 b.1) third
  ]
]
  where
    two_of : (k : ℕ) → k < 3 → k ≢ 0 → k ≢ 1 → 2 ≡ k
    two_of k h a b = omega (arith, h, a, b)

pub node-is : (blocks : Blocks) (a : ℕ) → is_node blocks a ≡ true → IsNodeAt blocks a
unfolding is_node_of
node-is blocks a h =
    let bytes = bytes_at blocks a in
    let t0 = is_link 0 bytes in
    let t1 = is_link 1 bytes in
    let t2 = is_link 2 bytes in
    let long = nat_lt 32 (length bytes) in
    let fits = nat_lt a 4294967296 in
    let h1 = and-right (nat_lt 0 a) (fits && (long && (t0 && (t1 && t2)))) h in
    let h2 = and-right fits (long && (t0 && (t1 && t2))) h1 in
    let h3 = and-right long (t0 && (t1 && t2)) h2 in
    let h4 = and-right t0 (t1 && t2) h3 in
    record {
      address = record {
        some = ltb-true 0 a (and-left (nat_lt 0 a) (fits && (long && (t0 && (t1 && t2)))) h);
        fits = ltb-true a 4294967296 (and-left fits (long && (t0 && (t1 && t2))) h1);
      };
      long = ltb-true 32 (length bytes) (and-left long (t0 && (t1 && t2)) h2);
      links = below_three (λ k. is_link k bytes ≡ true) (and-left t0 (t1 && t2) h3) (and-left t1 t2 h4) (and-right t1 t2 h4);
    }

-- no node is at 0, and each is below 2^32
pub node-none : (blocks : Blocks) → is_node blocks 0 ≡ false
unfolding is_node_of
node-none blocks = refl

pub node-fits : (blocks : Blocks) (n : ℕ) → is_node blocks n ≡ true → n < 2 ^ 32
node-fits blocks n h = (node-is blocks n h).address.fits

pub beside-none : (blocks : Blocks) (mark : ℕ) → (beside mark (node_store blocks)).has 0 ≡ false
beside-none blocks mark = ap (λ z. is_node blocks mark && z) (node-none blocks) ∙ and-none (is_node blocks mark)

pub beside-node : (blocks : Blocks) (mark n : ℕ) → (beside mark (node_store blocks)).has n ≡ true → is_node blocks n ≡ true
beside-node blocks mark n h = and-right (is_node blocks mark) (is_node blocks n) h

pub beside-mark : (blocks : Blocks) (mark n : ℕ) → (beside mark (node_store blocks)).has n ≡ true → is_node blocks mark ≡ true
beside-mark blocks mark n h = and-left (is_node blocks mark) (is_node blocks n) h

pub beside-fits : (blocks : Blocks) (mark n : ℕ) → (beside mark (node_store blocks)).has n ≡ true → n < 2 ^ 32
beside-fits blocks mark n h = node-fits blocks n (beside-node blocks mark n h)

-- it has the same nodes where only links changed
pub beside-stays : (old new : Blocks) (mark mark' : Addr) → mark' ≡ mark → StaysButLinks old new → (beside mark'.0 (node_store new)).has ≡ (beside mark.0 (node_store old)).has
beside-stays old new mark mark' e s = λ i a. (ap (λ m. is_node new m.0) e ∙ s.nodes mark.0) i && s.nodes a i

-- where nothing is done only links changed, and where they changed twice
pub same_through : {A : Type 0} {a b c : A} → b ≡ a → c ≡ b → c ≡ a
same_through e f = f ∙ e

pub links_none : (b : Blocks) → StaysButLinks b b
links_none b = record { there = λ a. refl; sizes = λ a. refl; behind = λ a. refl; nodes = λ a. refl; others = λ a h. refl }

pub links_twice : (a b c : Blocks) → StaysButLinks a b → StaysButLinks b c → StaysButLinks a c
links_twice a b c h k = record {
  there = λ n. k.there n ∙ h.there n;
  sizes = λ n. k.sizes n ∙ h.sizes n;
  behind = λ n. k.behind n ∙ h.behind n;
  nodes = λ n. k.nodes n ∙ h.nodes n;
  others = λ n none. k.others n (h.nodes n ∙ none) ∙ h.others n none;
}

-- so objects stay, and where their keys stand
pub object-stays : (old new : Blocks) (a : ℕ) → StaysButLinks old new → object_at new a ≡ object_at old a
object-stays old new a s =
    sym (drop-drop 8 24 (bytes_at new a)) ∙ ap (drop 8) (s.behind a) ∙ drop-drop 8 24 (bytes_at old a)

pub stands_to-stays : (rules : Rules) (old new : Blocks) (key : List ℕ) (a : ℕ) → StaysButLinks old new → stands_to rules new key a ≡ stands_to rules old key a
stands_to-stays rules old new key a s = ap (λ o. rules.compare (rules.key o) key) (object-stays old new a s)

pub stands_to_holder-stays : (rules : Rules) (old new : Blocks) (mark mark' : Addr) (a : ℕ) → mark' ≡ mark → StaysButLinks old new → stands_to_holder rules new mark'.0 a ≡ stands_to_holder rules old mark.0 a
stands_to_holder-stays rules old new mark mark' a e s =
    ap (λ m. stands_to_holder rules new m.0 a) e
    ∙ stands_to-stays rules old new (rules.key (object_at new mark.0)) a s
    ∙ ap (λ o. stands_to rules old (rules.key o) a) (object-stays old new mark.0 s)
