-- A walk along a chain behind one of its holders, to the last that has its key.
use Rattle.vc_base.proofs.Common.{◌≡◌, ℕ, ◌+◌, ◌%◌, ◌^◌, ◌<◌, ◌≤◌, Bool, true, false, cond, ◌≢◌, List, [], ◌∷◌, ◌++◌, length, if◌then◌else◌, ◌==◌, Some, filter, sym, refl, ap, ◌∙◌, subst, arith, length-append, eq-eqb, nil_from_length, filter-append, Blocks, HasBytes, IsAddress, IsHolder, word_at, contains}
use Rattle.std.specs.Ordering.{is_eq}
use Rattle.std.proofs.lemmas.Cmp.{tied_itself}
use Rattle.vc_base.specs.Holders.{last_of}
use Rattle.vc_base.proofs.Members.{within-head, within-rest, within-tail}
use Rattle.vc_dtdisc.specs.Finding as finding
use Rattle.vc_dtdisc.specs.Finds.{has_key, object_at}
use Rattle.vc_dtdisc.specs.Rules.{AreLawful, Rules}
use Rattle.vc_dtdisc.proofs.AddressLemmas.{last_of-last_in}
use Rattle.vc_dtlist.proofs.HolderLemmas.{last_of-append, split}
use Rattle.vc_dtlist.proofs.TurnLemmas.{fewer}
use Rattle.vc_dthash.specs.declared.dt_hash.DtHash.{DtHash}
use Rattle.vc_dthash.specs.Chained.{FindsLast, IsHashed, Leads, chain_of, hash_at}
use Rattle.vc_dthash.specs.Hashed.{HashFor, IsHash, IsLinked}
use Rattle.vc_dthash.proofs.ChainLemmas.{Leads-fits, Leads-split}
use Rattle.vc_dthash.proofs.FilterLemmas.{filter-both, filter-shorter, filter-step, filter-twice, filter-within}
use Rattle.vc_dthash.proofs.HashLemmas.{HashFor-unique, chain-is, chain-short, holder-slots}
use Rattle.vc_dthash.proofs.WalkLemmas.{hash-found}

-- the key of a holder's object, and its slot
abbrev pub key_at : Rules → Blocks → ℕ → List ℕ
key_at rules b at = rules.key (object_at b at)

-- its chain behind it, where these holders stand behind it in the list
abbrev pub tail_of : Rules → ℕ → Blocks → ℕ → List ℕ → List ℕ
tail_of rules slots b at rest = chain_of (hash_at rules b) slots (hash_at rules b at % slots) rest

-- whether another one has its key, and whether it has its hash
abbrev pub alike : Rules → Blocks → ℕ → ℕ → Bool
alike rules b at a = has_key rules b (key_at rules b at) a

abbrev pub hashed_alike : Rules → Blocks → ℕ → ℕ → Bool
hashed_alike rules b at a = hash_at rules b a == hash_at rules b at

-- where one stands among the holders of a hash
pub record Standing (rules : Rules) (hash : DtHash) (b : Blocks) (at : ℕ) : Type 0 where
  pub front : List ℕ
  pub rest : List ℕ
  pub stands : HashFor rules hash b (front ++ at ∷ rest)

pub standing : {rules : Rules} {hash : DtHash} {b : Blocks} {at : ℕ} → IsHash rules hash b → IsLinked hash b at → Standing rules hash b at
standing {rules = rules} {hash = hash} {b = b} {at = at} is linked =
    let same = HashFor-unique linked.rules rules hash b linked.holders is.holders linked.stands is.stands in
    let place = split is.holders at (subst (λ xs. contains xs at ≡ true) same linked.within) in
    record { front = place.front; rest = place.rest; stands = subst (HashFor rules hash b) place.whole is.stands }

-- its chain behind it: holders with their hashes, to which it leads
pub record IsTail (rules : Rules) (b : Blocks) (at : ℕ) (chain : List ℕ) : Type 0 where
  pub leads : Leads b (word_at b at 2) chain 0
  pub addresses : (a : ℕ) → contains chain a ≡ true → IsAddress a
  pub holders : (a : ℕ) → contains chain a ≡ true → IsHolder b a
  pub hashes : (a : ℕ) → contains chain a ≡ true → IsHashed rules b a

module _ {rules : Rules} {hash : DtHash} {b : Blocks} {at : ℕ} (p : Standing rules hash b at) where
  abbrev own_slot : ℕ
  own_slot = hash_at rules b at % hash.slots

  abbrev front : List ℕ
  front = chain_of (hash_at rules b) hash.slots own_slot p.front

  abbrev tail : List ℕ
  tail = tail_of rules hash.slots b at p.rest

  pub at-within : contains (p.front ++ at ∷ p.rest) at ≡ true
  at-within = within-rest p.front (at ∷ p.rest) at (within-head at p.rest)

  below : own_slot < hash.slots
  below = let some = holder-slots rules hash b (p.front ++ at ∷ p.rest) at p.stands at-within in omega (arith, some)

  pub chain-parts : chain_of (hash_at rules b) hash.slots own_slot (p.front ++ at ∷ p.rest) ≡ front ++ at ∷ tail
  chain-parts =
      filter-append (λ a. hash_at rules b a % hash.slots == own_slot) p.front (at ∷ p.rest)
      ∙ ap (λ t. front ++ cond t (at ∷ tail) tail) (eq-eqb own_slot own_slot refl)

  pub tail-is : IsTail rules b at tail
  tail-is =
      let chain = chain-is rules hash b (p.front ++ at ∷ p.rest) own_slot p.stands below in
      let within : (a : ℕ) → contains tail a ≡ true → contains (chain_of (hash_at rules b) hash.slots own_slot (p.front ++ at ∷ p.rest)) a ≡ true =
      λ a h. subst (λ z. contains z a ≡ true) (sym chain-parts) (within-rest front (at ∷ tail) a (within-tail at tail a h)) in
      record {
        leads = (Leads-split b (word_at b hash.table.0 own_slot) front at tail 0 (subst (λ z. Leads b (word_at b hash.table.0 own_slot) z 0) chain-parts chain.leads)).1;
        addresses = λ a h. chain.addresses a (within a h);
        holders = λ a h. chain.holders a (within a h);
        hashes = λ a h. p.stands.hashes a (filter-within (λ z. hash_at rules b z % hash.slots == own_slot) (p.front ++ at ∷ p.rest) a (within a h));
      }

  pub chain-long : length (chain_of (hash_at rules b) hash.slots own_slot (p.front ++ at ∷ p.rest)) ≡ length front + length (at ∷ tail)
  chain-long = ap length chain-parts ∙ length-append front (at ∷ tail)

  pub tail-short : length tail ≤ hash.count
  tail-short = let short = chain-short rules hash b (p.front ++ at ∷ p.rest) own_slot p.stands in omega (arith, short, chain-long)

-- so many holders behind it were passed, of which the last that has its key is named, by at most a step for each that has
-- its hash; the next stands at that address
pub record Trail (rules : Rules) (b : Blocks) (at : ℕ) (chain : List ℕ) (passed next last start now : ℕ) : Type 0 where
  pub left : List ℕ
  pub count : length left + passed ≡ length chain
  pub within : (a : ℕ) → contains left a ≡ true → contains chain a ≡ true
  pub leads : Leads b next left 0
  pub named : last_of last (filter (alike rules b at) left) ≡ last_of at (filter (alike rules b at) chain)
  pub few : now + length (filter (hashed_alike rules b at) left) ≤ start + length (filter (hashed_alike rules b at) chain)

pub Trail-start : {rules : Rules} {b : Blocks} {at : ℕ} {chain : List ℕ} → IsTail rules b at chain → (next start : ℕ) → next ≡ word_at b at 2 → Trail rules b at chain 0 next at start start
Trail-start {b = b} {chain = chain} is next start e = record {
  left = chain;
  count = omega arith;
  within = λ a h. h;
  leads = subst (λ z. Leads b z chain 0) (sym e) is.leads;
  named = refl;
  few = omega arith;
}

-- all were passed
pub record Passed (rules : Rules) (b : Blocks) (at : ℕ) (chain : List ℕ) (last start now : ℕ) : Type 0 where
  pub named : last ≡ last_of at (filter (alike rules b at) chain)
  pub few : now ≤ start + length (filter (hashed_alike rules b at) chain)

all-passed : (rules : Rules) (b : Blocks) (at : ℕ) (chain : List ℕ) (last start now : ℕ) (left : List ℕ) → left ≡ [] → last_of last (filter (alike rules b at) left) ≡ last_of at (filter (alike rules b at) chain) → now + length (filter (hashed_alike rules b at) left) ≤ start + length (filter (hashed_alike rules b at) chain) → Passed rules b at chain last start now
all-passed rules b at chain last start now [] e named few = record { named = named; few = omega (arith, few) }
all-passed rules b at chain last start now (y ∷ ys) e named few = absurd (cc)

-- a holder behind it
pub record TrailNext (rules : Rules) (b : Blocks) (at : ℕ) (chain : List ℕ) (passed next last start now : ℕ) : Type 0 where
  pub words : HasBytes b next 32
  pub hashed : IsHashed rules b next
  pub fits : word_at b next 2 < 2 ^ 32
  pub step : (on name after : ℕ) → on ≡ word_at b next 2 → name ≡ (if alike rules b at next then next else last) → after ≤ now + 1 → (hashed_alike rules b at next ≡ false → after ≡ now)
      → Trail rules b at chain (passed + 1) on name start after

pub named_by : (t : Bool) (y last : ℕ) (ys : List ℕ) → last_of last (cond t (y ∷ ys) ys) ≡ last_of (if t then y else last) ys
named_by true y last ys = refl
named_by false y last ys = refl

next_in : (rules : Rules) (b : Blocks) (at : ℕ) (chain : List ℕ) (passed next last start now : ℕ) (left : List ℕ) → IsTail rules b at chain → length left + passed ≡ length chain → ((a : ℕ) → contains left a ≡ true → contains chain a ≡ true) → Leads b next left 0
    → last_of last (filter (alike rules b at) left) ≡ last_of at (filter (alike rules b at) chain) → now + length (filter (hashed_alike rules b at) left) ≤ start + length (filter (hashed_alike rules b at) chain) → next ≢ 0 → TrailNext rules b at chain passed next last start now
next_in rules b at chain passed next last start now [] is count within leads named few some = absurd (some leads)
next_in rules b at chain passed next last start now (y ∷ ys) is count within leads named few some =
    let here : contains chain next ≡ true = subst (λ z. contains chain z ≡ true) (sym leads.0) (within y (within-head y ys)) in
    record {
      words = fewer b next (is.holders next here);
      hashed = is.hashes next here;
      fits = subst (λ z. word_at b z 2 < 2 ^ 32) (sym leads.0)
          (Leads-fits b (word_at b y 2) ys (λ a h. is.addresses a (within a (within-tail y ys a h))) leads.1);
      step = λ on name after e n f u. record {
        left = ys;
        count = omega (arith, count);
        within = λ a h. within a (within-tail y ys a h);
        leads = subst (λ z. Leads b z ys 0) (sym (e ∙ ap (λ z. word_at b z 2) leads.0)) leads.1;
        named = ap (λ z. last_of z (filter (alike rules b at) ys)) (n ∙ ap (λ z. if alike rules b at z then z else last) leads.0)
            ∙ (sym (named_by (alike rules b at y) y last (filter (alike rules b at) ys)) ∙ named);
        few = filter-step (hashed_alike rules b at) y ys now after (start + length (filter (hashed_alike rules b at) chain)) f (λ t. u (ap (hashed_alike rules b at) leads.0 ∙ t)) few;
      };
    }

module _ {rules : Rules} {b : Blocks} {at : ℕ} {chain : List ℕ} {passed next last start now : ℕ} (is : IsTail rules b at chain) (w : Trail rules b at chain passed next last start now) where
  pub Trail-next : next ≢ 0 → TrailNext rules b at chain passed next last start now
  Trail-next some = next_in rules b at chain passed next last start now w.left is w.count w.within w.leads w.named w.few some

  none-left : (left : List ℕ) → ((a : ℕ) → contains left a ≡ true → contains chain a ≡ true) → Leads b next left 0 → next ≡ 0 → left ≡ []
  none-left [] within leads e = refl
  none-left (y ∷ ys) within leads e = let address = is.addresses y (within y (within-head y ys)) in absurd (omega (arith, address.some, leads.0, e))

  pub Trail-end : next ≡ 0 → Passed rules b at chain last start now
  Trail-end e = all-passed rules b at chain last start now w.left (none-left w.left w.within w.leads e) w.named w.few

  pub Trail-over : length chain ≤ passed → Passed rules b at chain last start now
  Trail-over h = all-passed rules b at chain last start now w.left (nil_from_length w.left (omega (arith, h, w.count))) w.named w.few

-- an object matches itself
pub alike-itself : (rules : Rules) (b : Blocks) (at : ℕ) → AreLawful rules → alike rules b at at ≡ true
alike-itself rules b at law = ap is_eq (tied_itself law.order (key_at rules b at))

-- the last of a list is one of these, or one behind it, and so is the last that passes a test that this one passes
last-behind : (front : List ℕ) (at : ℕ) (rest : List ℕ) → finding.last_of (front ++ at ∷ rest) ≡ Some (last_of at rest)
last-behind [] at rest = last_of-last_in (at ∷ rest)
last-behind (x ∷ xs) at rest = last_of-last_in (x ∷ xs ++ at ∷ rest) ∙ ap (λ z. Some z) (last_of-append x xs (at ∷ rest))

pub last-passing : (test : ℕ → Bool) (front : List ℕ) (at : ℕ) (rest : List ℕ) → test at ≡ true → finding.last_of (filter test (front ++ at ∷ rest)) ≡ Some (last_of at (filter test rest))
last-passing test front at rest e =
    ap finding.last_of (filter-append test front (at ∷ rest) ∙ ap (λ t. filter test front ++ cond t (at ∷ filter test rest) (filter test rest)) e)
    ∙ last-behind (filter test front) at (filter test rest)

module _ {rules : Rules} {hash : DtHash} {b : Blocks} {at last start now : ℕ} (law : AreLawful rules)
    (all : (p : Standing rules hash b at) → Passed rules b at (tail_of rules hash.slots b at p.rest) last start now) where
  abbrev test : ℕ → Bool
  test = alike rules b at

  abbrev in_slot : ℕ → Bool
  in_slot a = hash_at rules b a % hash.slots == hash_at rules b at % hash.slots

  last-named : (p : Standing rules hash b at) → Some last ≡ finding.last_of (filter test (p.front ++ at ∷ p.rest))
  last-named p =
      let same : filter test (tail_of rules hash.slots b at p.rest) ≡ filter test p.rest =
      filter-twice in_slot test p.rest
      (λ a h. eq-eqb (hash_at rules b a % hash.slots) (hash_at rules b at % hash.slots) (ap (λ z. z % hash.slots) (hash-found rules b (key_at rules b at) a law h))) in
      ap (λ z. Some z) ((all p).named ∙ ap (last_of at) same) ∙ sym (last-passing test p.front at p.rest (alike-itself rules b at law))

  few-alike : (p : Standing rules hash b at) → now ≤ start + length (filter (hashed_alike rules b at) p.rest)
  few-alike p =
      let within = filter-both (hashed_alike rules b at) in_slot p.rest in
      let h = (all p).few in
      omega (arith, h, within)

  few-in_slot : (p : Standing rules hash b at) → now ≤ start + length (filter in_slot (p.front ++ at ∷ p.rest))
  few-in_slot p =
      let short = filter-shorter (hashed_alike rules b at) (tail_of rules hash.slots b at p.rest) in
      let h = (all p).few in
      let long = chain-long p in
      omega (arith, h, short, long)

  pub finds-last : (holders : List ℕ) → HashFor rules hash b holders → contains holders at ≡ true → FindsLast rules hash.slots b at holders last start now
  finds-last holders s within =
      let place = split holders at within in
      let p : Standing rules hash b at = record { front = place.front; rest = place.rest; stands = subst (HashFor rules hash b) place.whole s } in
      record {
        last = last-named p ∙ ap (λ z. finding.last_of (filter test z)) (sym place.whole);
        steps = subst (λ z. now ≤ start + length (filter in_slot z)) (sym place.whole) (few-in_slot p);
        behind = λ front rest e. few-alike (record { front = front; rest = rest; stands = subst (HashFor rules hash b) e s });
      }
