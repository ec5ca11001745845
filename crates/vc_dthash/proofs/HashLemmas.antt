-- What a hash knows of its table and chains, and what it stands for after one holder joined it or left it.
use Rattle.vc_base.proofs.Common.{◌≡◌, ℕ, ◌+◌, ◌-◌, ◌*◌, ◌%◌, ◌^◌, ◌<◌, ◌≤◌, Bool, true, false, ◌&&◌, ◌≢◌, List, [], ◌∷◌, ◌++◌, length, is_some, if◌then◌else◌, nat_lt, ◌==◌, Some, None, Option, unwrap_or, sym, refl, ap, ◌∙◌, subst, inl, inr, true≢false, append-nil, arith, length-append, pow_pos, ltb-false, lt-ltb, eq-eqb, eqb_tells, Blocks, IsAddress, IsHolder, WordWritten, body_of, bytes_at, word_at, contains, without}
use Rattle.vc_base.specs.declared.addr.Addr.{Addr}
use Rattle.vc_base.specs.Holders.{last_of}
use Rattle.vc_base.proofs.Members.{apart-head, apart-tail, apart-cons, within-tail, within-front, within-rest, differs, within-last}
use Rattle.vc_dtdisc.specs.Finds.{object_at}
use Rattle.vc_dtdisc.specs.Rules.{Rules}
use Rattle.vc_dtlist.specs.TableWrites.{KeepsTables}
use Rattle.vc_dtlist.specs.Linked.{LinksFor, Relinked}
use Rattle.vc_dtlist.proofs.AddressLemmas.{AreHolders, LinksFor-holders, few-holders, no-holder}
use Rattle.vc_dtlist.proofs.HolderLemmas.{Split, apart-append, apart-without, length-without, split}
use Rattle.vc_dtlist.proofs.KeptLemmas.{KeepsTables-but, LinksFor-kept, LinksFor-same}
use Rattle.vc_dtlist.proofs.JoinLemmas.{not_last}
use Rattle.vc_dtlist.proofs.TurnLemmas.{LinksFor-unique, fewer}
use Rattle.vc_dtlist.proofs.WordLemmas.{word-kept, word-other_block}
use Rattle.vc_dthash.specs.declared.dt_hash.DtHash.{DtHash}
use Rattle.vc_dthash.specs.Chained.{AreChained, IsChainPlace, IsHashed, IsSlotChain, Leads, chain_of, hash_at}
use Rattle.vc_dthash.specs.Hashed.{ChainedUp, HasTable, HashFor, HashTurned, IsTable, list_of}
use Rattle.vc_dthash.specs.Slots.{IsSlots, most_slots, slots_for, wanted_slots}
use Rattle.vc_dthash.specs.ChainWrites.{CanPoint, Cleared, Filled, Marked, Pointed}
use Rattle.vc_dthash.proofs.ChainLemmas.{Leads-fits, Leads-split, Redirects, chains-hash, chains-joined, chains-parted, chains-same}
use Rattle.vc_dthash.proofs.FilterLemmas.{filter-last, filter-less, filter-passes, filter-shorter, filter-within}
use Rattle.vc_dthash.proofs.WriteLemmas.{word-same}

-- a table of a list that changed in size
IsTable-kept : (b b' : Blocks) (xs ys : List ℕ) (table slots : ℕ) → ((a : ℕ) → is_some (b' a) ≡ is_some (b a)) → ((a : ℕ) → length (bytes_at b' a) ≡ length (bytes_at b a)) → (slots < most_slots → length xs ≤ 2 * slots → length ys ≤ 2 * slots) → (contains xs table ≡ false → contains ys table ≡ false) → IsTable b xs table slots → IsTable b' ys table slots
IsTable-kept b b' xs ys table slots there sizes enough apart t = record {
  slots_allowed = t.slots_allowed;
  there = there table ∙ t.there;
  size = sizes table ∙ t.size;
  enough = λ few. enough few (t.enough few);
  apart = apart t.apart;
}

pub HasTable-kept : (b b' : Blocks) (xs ys : List ℕ) (table slots : ℕ) → ((a : ℕ) → is_some (b' a) ≡ is_some (b a)) → ((a : ℕ) → length (bytes_at b' a) ≡ length (bytes_at b a)) → (slots < most_slots → length xs ≤ 2 * slots → length ys ≤ 2 * slots) → (contains xs table ≡ false → contains ys table ≡ false) → HasTable b xs table slots → HasTable b' ys table slots
HasTable-kept b b' xs ys table slots there sizes enough apart t = record {
  none = t.none;
  some = λ ne. IsTable-kept b b' xs ys table slots there sizes enough apart (t.some ne);
}

-- the holders of a hash, which are those of one list alone
pub HashFor-holders : (rules : Rules) (hash : DtHash) (b : Blocks) (xs : List ℕ) → HashFor rules hash b xs → AreHolders b xs
HashFor-holders rules hash b xs s = LinksFor-holders (list_of hash) b xs s.links

pub HashFor-unique : (rules rules' : Rules) (hash : DtHash) (b : Blocks) (xs ys : List ℕ) → HashFor rules hash b xs → HashFor rules' hash b ys → xs ≡ ys
HashFor-unique rules rules' hash b xs ys s t = LinksFor-unique (list_of hash) b xs ys s.links t.links

-- it stands for them still where what is at their addresses and at its table's stays
HasTable-same : (b b' : Blocks) (xs : List ℕ) (table slots : ℕ) → (table ≢ 0 → b' table ≡ b table) → HasTable b xs table slots → HasTable b' xs table slots
HasTable-same b b' xs table slots e t = record {
  none = t.none;
  some = λ ne.
      let is = t.some ne in
      record {
        slots_allowed = is.slots_allowed;
        there = ap is_some (e ne) ∙ is.there;
        size = ap (λ o. length (unwrap_or o [])) (e ne) ∙ is.size;
        enough = is.enough;
        apart = is.apart;
      };
}

pub HashFor-same : (rules : Rules) (hash : DtHash) (b b' : Blocks) (xs : List ℕ) → ((a : ℕ) → contains xs a ≡ true → b' a ≡ b a) → (hash.table.0 ≢ 0 → b' hash.table.0 ≡ b hash.table.0) → HashFor rules hash b xs → HashFor rules hash b' xs
HashFor-same rules hash b b' xs e t s =
    let told : (a : ℕ) → contains xs a ≡ true → hash_at rules b' a ≡ hash_at rules b a = λ a h. ap (λ o. rules.hash (rules.key (body_of (unwrap_or o [])))) (e a h) in
    record {
      links = LinksFor-same (list_of hash) b b' xs e s.links;
      count = s.count;
      table = HasTable-same b b' xs hash.table.0 hash.slots t s.table;
      empty = s.empty;
      hashes = λ a h. word-same b b' a 3 (e a h) ∙ (s.hashes a h ∙ sym (told a h));
      chains = λ ne.
          chains-hash (hash_at rules b) (hash_at rules b') b' hash.table.0 hash.slots xs told
          (chains-same (hash_at rules b) b b' hash.table.0 hash.slots xs (λ k. word-same b b' hash.table.0 k (t ne)) (λ a h. word-same b b' a 2 (e a h)) (s.chains ne));
    }

-- it counts fewer than 2^32 of them
pub few : (rules : Rules) (hash : DtHash) (b : Blocks) (xs : List ℕ) → HashFor rules hash b xs → hash.count < 2 ^ 32
few rules hash b xs s = let h = few-holders b xs (HashFor-holders rules hash b xs s) in omega (arith, s.count)

-- where no table is wanted for one more, there is room for it
by_room : (p q : Bool) (n : ℕ) → (if p && q then Some n else None) ≡ None → q ≡ true → p ≡ false
by_room false q n e f = refl
by_room true true n e f = cc
by_room true false n e f = cc

by_slots : (t : Bool) (o p : Option ℕ) (n : ℕ) → (if t then Some n else p) ≡ None → p ≡ None
by_slots true o p n e = cc
by_slots false o p n e = e

pub room : (slots count : ℕ) → wanted_slots slots count 1 ≡ None → slots < most_slots → count + 1 ≤ 2 * slots
room slots count e small =
    let inner = by_slots (slots == 0) None (if nat_lt (2 * slots) (count + 1) && nat_lt slots most_slots then Some (2 * slots) else None) (slots_for 1) e in
    let t = by_room (nat_lt (2 * slots) (count + 1)) (nat_lt slots most_slots) (2 * slots) inner (lt-ltb slots most_slots small) in
    ltb-false (2 * slots) (count + 1) t

-- then there are slots
slots_by : (slots count : ℕ) (t : Bool) → (slots == 0) ≡ t → wanted_slots slots count 1 ≡ None → t ≡ false
slots_by slots count true e h =
    let some : Some (slots_for 1) ≡ None = sym (ap (λ z. if z then Some (slots_for 1) else if nat_lt (2 * slots) (count + 1) && nat_lt slots most_slots then Some (2 * slots) else None) e) ∙ h in
    cc
slots_by slots count false e h = refl

pub slots-wanted : (slots count : ℕ) → wanted_slots slots count 1 ≡ None → 1 ≤ slots
slots-wanted slots count h = elim (eqb_tells slots 0) as (λ _. 1 ≤ slots) [
  | inl none ↦ absurd (true≢false (slots_by slots count true none.0 h))
  | inr some ↦ omega (arith, some.1)
]

pub IsSlots-some : (slots : ℕ) → IsSlots slots → 1 ≤ slots
IsSlots-some slots s = let p = pow_pos s.doublings in omega (arith, s.value, p)

pub some-table : (rules : Rules) (hash : DtHash) (b : Blocks) (xs : List ℕ) → HashFor rules hash b xs → 1 ≤ hash.slots → hash.table.0 ≢ 0
some-table rules hash b xs s some e = let z = s.table.none e in absurd (omega (arith, some, z))

-- where there is a holder there are slots too
pub holder-slots : (rules : Rules) (hash : DtHash) (b : Blocks) (xs : List ℕ) (at : ℕ) → HashFor rules hash b xs → contains xs at ≡ true → 1 ≤ hash.slots
holder-slots rules hash b xs at s h = elim (eqb_tells hash.table.0 0) as (λ _. 1 ≤ hash.slots) [
  | inl none ↦ absurd (true≢false (sym (subst (λ z. contains z at ≡ true) (s.empty none.1) h)))
  | inr some ↦ IsSlots-some hash.slots (s.table.some some.1).slots_allowed
]

-- without slots there are none
pub no-slots : (rules : Rules) (hash : DtHash) (b : Blocks) (xs : List ℕ) → HashFor rules hash b xs → hash.slots ≡ 0 → xs ≡ []
no-slots rules hash b xs s none = elim (eqb_tells hash.table.0 0) as (λ _. xs ≡ []) [
  | inl same ↦ s.empty same.1
  | inr some ↦ let few = IsSlots-some hash.slots (s.table.some some.1).slots_allowed in absurd (omega (arith, none, few))
]

-- the chain of a slot
pub chain-is : (rules : Rules) (hash : DtHash) (b : Blocks) (xs : List ℕ) (k : ℕ) → HashFor rules hash b xs → k < hash.slots → IsSlotChain b hash.table.0 k (chain_of (hash_at rules b) hash.slots k xs)
chain-is rules hash b xs k s small =
    let ne = some-table rules hash b xs s (omega (arith, small)) in
    let t = s.table.some ne in
    let all = HashFor-holders rules hash b xs s in
    let p = λ (a : ℕ). hash_at rules b a % hash.slots == k in
    record {
      place = record { there = t.there; enough = omega (arith, t.size, small) };
      leads = s.chains ne k small;
      addresses = λ a h. all.addresses a (filter-within p xs a h);
      holders = λ a h. all.there a (filter-within p xs a h);
    }

pub chain-short : (rules : Rules) (hash : DtHash) (b : Blocks) (xs : List ℕ) (k : ℕ) → HashFor rules hash b xs → length (chain_of (hash_at rules b) hash.slots k xs) ≤ hash.count
chain-short rules hash b xs k s = let h = filter-shorter (λ a. hash_at rules b a % hash.slots == k) xs in omega (arith, h, s.count)

-- its end, and the place of one of its holders
pub end-place : (rules : Rules) (hash : DtHash) (b : Blocks) (xs : List ℕ) (k : ℕ) → HashFor rules hash b xs → k < hash.slots → IsChainPlace b hash.table.0 k hash.count 0 (chain_of (hash_at rules b) hash.slots k xs) []
end-place rules hash b xs k s small =
    let chain = chain_of (hash_at rules b) hash.slots k xs in
    record {
      chain = subst (λ z. IsSlotChain b hash.table.0 k z) (sym (append-nil chain)) (chain-is rules hash b xs k s small);
      met = refl;
      apart = filter-less (λ a. hash_at rules b a % hash.slots == k) xs 0 (no-holder b xs (HashFor-holders rules hash b xs s));
      few = chain-short rules hash b xs k s;
    }

pub in_chain : (rules : Rules) (hash : DtHash) (b : Blocks) (xs : List ℕ) (k at : ℕ) → k ≡ hash_at rules b at % hash.slots → contains xs at ≡ true → Split (chain_of (hash_at rules b) hash.slots k xs) at
in_chain rules hash b xs k at e h =
    split (chain_of (hash_at rules b) hash.slots k xs) at
    (filter-passes (λ a. hash_at rules b a % hash.slots == k) xs at (eq-eqb (hash_at rules b at % hash.slots) k (sym e)) h)

pub holder-place : (rules : Rules) (hash : DtHash) (b : Blocks) (xs : List ℕ) (k at : ℕ) → HashFor rules hash b xs → k < hash.slots → (p : Split (chain_of (hash_at rules b) hash.slots k xs) at) → IsChainPlace b hash.table.0 k hash.count at p.front (at ∷ p.rest)
holder-place rules hash b xs k at s small p =
    let h = chain-short rules hash b xs k s in
    let long : length (chain_of (hash_at rules b) hash.slots k xs) ≡ length p.front + length (at ∷ p.rest) = ap length p.whole ∙ length-append p.front (at ∷ p.rest) in
    record {
      chain = subst (λ z. IsSlotChain b hash.table.0 k z) p.whole (chain-is rules hash b xs k s small);
      met = refl;
      apart = p.before;
      few = omega (arith, h, long);
    }

-- what its second word tells is an address or none
pub next-fits : (rules : Rules) (hash : DtHash) (b : Blocks) (xs : List ℕ) (k at : ℕ) → HashFor rules hash b xs → k < hash.slots → Split (chain_of (hash_at rules b) hash.slots k xs) at → word_at b at 2 < 2 ^ 32
next-fits rules hash b xs k at s small p =
    let chain = chain-is rules hash b xs k s small in
    let parts = Leads-split b (word_at b hash.table.0 k) p.front at p.rest 0 (subst (λ z. Leads b (word_at b hash.table.0 k) z 0) p.whole chain.leads) in
    Leads-fits b (word_at b at 2) p.rest (λ a h. chain.addresses a (subst (λ z. contains z a ≡ true) (sym p.whole) (within-rest p.front (at ∷ p.rest) a (within-tail at p.rest a h)))) parts.1

last_within : (front xs : List ℕ) (before : ℕ) → before ≡ last_of 0 front → before ≢ 0 → ((a : ℕ) → contains front a ≡ true → contains xs a ≡ true) → contains xs before ≡ true
last_within [] xs before e some within = absurd (some e)
last_within (x ∷ ys) xs before e some within = subst (λ z. contains xs z ≡ true) (sym e) (within (last_of x ys) (within-last x ys))

-- the last of some of its holders, if any, is a holder, and not the table
pub last-points : (rules : Rules) (hash : DtHash) (b : Blocks) (xs front : List ℕ) (k before : ℕ) → HashFor rules hash b xs → k < hash.slots → ((a : ℕ) → contains front a ≡ true → contains xs a ≡ true) → before ≡ last_of 0 front → CanPoint b hash.table.0 k before
last-points rules hash b xs front k before s small within e =
    let ne = some-table rules hash b xs s (omega (arith, small)) in
    let t = s.table.some ne in
    let all = HashFor-holders rules hash b xs s in
    record {
      place = record { there = t.there; enough = omega (arith, t.size, small) };
      words = λ some. fewer b before (all.there before (last_within front xs before e some within));
      apart = λ q. elim (eqb_tells before 0) as (λ _. ⊥) [
        | inl none ↦ ne (sym q ∙ none.1)
        | inr some ↦ true≢false (sym (last_within front xs before e some.1 within) ∙ (ap (contains xs) q ∙ t.apart))
      ];
    }

-- its last holder is one of them, and the last of its own chain
pub last-holder : (rules : Rules) (hash : DtHash) (b : Blocks) (xs : List ℕ) → HashFor rules hash b xs → hash.last.0 ≢ 0 → contains xs hash.last.0 ≡ true
last-holder rules hash b xs s some = last_within xs xs hash.last.0 s.links.last some (λ a h. h)

ends_chain : (hash : ℕ → ℕ) (slots k last : ℕ) (xs : List ℕ) → last ≡ last_of 0 xs → last ≢ 0 → hash last % slots ≡ k → last ≡ last_of 0 (chain_of hash slots k xs)
ends_chain hash slots k last [] e some h = absurd (some e)
ends_chain hash slots k last (x ∷ xs) e some h =
    e ∙ sym (filter-last (λ a. hash a % slots == k) x xs 0 (eq-eqb (hash (last_of x xs) % slots) k (ap (λ z. hash z % slots) (sym e) ∙ h)))

pub last-in_chain : (rules : Rules) (hash : DtHash) (b : Blocks) (xs : List ℕ) (k : ℕ) → HashFor rules hash b xs → hash.last.0 ≢ 0 → word_at b hash.last.0 3 % hash.slots ≡ k → hash.last.0 ≡ last_of 0 (chain_of (hash_at rules b) hash.slots k xs)
last-in_chain rules hash b xs k s some e =
    ends_chain (hash_at rules b) hash.slots k hash.last.0 xs s.links.last some (ap (λ z. z % hash.slots) (sym (s.hashes hash.last.0 (last-holder rules hash b xs s some))) ∙ e)

-- one joins at the end: its words 2 and 3 are written, then the end of its chain leads to it
pub record Joining (rules : Rules) (old : DtHash) (b0 b1 b2 : Blocks) (at hash s before : ℕ) (xs : List ℕ) : Type 0 where
  pub stands : HashFor rules old b0 xs
  pub apart : contains (old.table.0 ∷ xs) at ≡ false
  pub holder : IsHolder b0 at
  pub address : IsAddress at
  pub small : s < old.slots
  pub hash_is : hash ≡ hash_at rules b0 at
  pub slot_is : s ≡ hash % old.slots
  pub last : before ≡ last_of 0 (chain_of (hash_at rules b0) old.slots s xs)
  pub ended : WordWritten b0 b1 at 2 0
  pub hashed : WordWritten b1 b2 at 3 hash

pub joins : {rules : Rules} {old : DtHash} {b0 b1 b2 : Blocks} {at hash s before : ℕ} {object key xs : List ℕ} → HashFor rules old b0 xs → contains (old.table.0 ∷ xs) at ≡ false → IsHolder b0 at → IsAddress at
    → s ≡ hash % old.slots → s < old.slots → hash ≡ rules.hash key → key ≡ rules.key object → object ≡ object_at b0 at
    → before ≡ last_of 0 (chain_of (hash_at rules b0) old.slots s xs) → WordWritten b0 b1 at 2 0 → WordWritten b1 b2 at 3 hash → Joining rules old b0 b1 b2 at hash s before xs
joins {rules = rules} stands apart holder address slot_is small hash_is key_is object_is last ended hashed = record {
  stands = stands;
  apart = apart;
  holder = holder;
  address = address;
  small = small;
  hash_is = hash_is ∙ ap rules.hash (key_is ∙ ap rules.key object_is);
  slot_is = slot_is;
  last = last;
  ended = ended;
  hashed = hashed;
}

module _ {rules : Rules} {old : DtHash} {b0 b1 b2 : Blocks} {at hash s before : ℕ} {xs : List ℕ} (joining : Joining rules old b0 b1 b2 at hash s before xs) where
  open joining use {stands, apart, holder, address, small, hash_is as he, slot_is as se, last as be, ended as w2, hashed as w3}

  abbrev chain : List ℕ
  chain = chain_of (hash_at rules b0) old.slots s xs

  table-some : old.table.0 ≢ 0
  table-some = some-table rules old b0 xs stands (omega (arith, small))

  is : IsTable b0 xs old.table.0 old.slots
  is = stands.table.some table-some

  not_it : old.table.0 ≢ at
  not_it = apart-head old.table.0 xs at apart

  out : contains xs at ≡ false
  out = apart-tail old.table.0 xs at apart

  none : contains xs 0 ≡ false
  none = no-holder b0 xs (HashFor-holders rules old b0 xs stands)

  not_table : (a : ℕ) → contains xs a ≡ true → a ≢ old.table.0
  not_table a h = differs xs a old.table.0 h is.apart

  in_chain_of : (a : ℕ) → contains chain a ≡ true → contains xs a ≡ true
  in_chain_of a h = filter-within (λ z. hash_at rules b0 z % old.slots == s) xs a h

  -- one that isn't in the list is no last of its chain
  not_before : (a : ℕ) → contains xs a ≡ false → before ≢ 0 → a ≢ before
  not_before a h some e = not_last chain a (filter-less (λ z. hash_at rules b0 z % old.slots == s) xs a h) (λ z. some (sym e ∙ z)) (e ∙ be)

  -- the words of other blocks stay, and so do the first two of this one
  words-written : (a k : ℕ) → a ≢ at → word_at b2 a k ≡ word_at b0 a k
  words-written a k ne = word-other_block b1 b2 at a k w3.written ne ∙ word-other_block b0 b1 at a k w2.written ne

  links-written : (a k : ℕ) → k < 2 → word_at b2 a k ≡ word_at b0 a k
  links-written a k h = word-kept b1 b2 at 3 hash w3 a k (omega (arith, h)) ∙ word-kept b0 b1 at 2 0 w2 a k (omega (arith, h))

  there-written : (a : ℕ) → is_some (b2 a) ≡ is_some (b0 a)
  there-written a = w3.written.there a ∙ w2.written.there a

  sizes-written : (a : ℕ) → length (bytes_at b2 a) ≡ length (bytes_at b0 a)
  sizes-written a = w3.written.sizes a ∙ w2.written.sizes a

  pub joined-point : CanPoint b2 old.table.0 s before
  joined-point =
      let p = last-points rules old b0 xs chain s before stands small in_chain_of be in
      record {
        place = record { there = there-written old.table.0 ∙ p.place.there; enough = rw (sizes-written old.table.0) p.place.enough };
        words = λ some. record { there = there-written before ∙ (p.words some).there; enough = rw (sizes-written before) (p.words some).enough };
        apart = p.apart;
      }

  module _ (b3 : Blocks) (p : Pointed b2 b3 old.table.0 s before at) where
    pub joined-links : LinksFor (list_of old) b3 xs
    joined-links =
        LinksFor-kept (list_of old) b0 b3 xs (λ a. p.there a ∙ there-written a) (λ a. p.sizes a ∙ sizes-written a)
        (λ a k h few. p.words a k (not_table a h) (omega (arith, few)) ∙ links-written a k few) stands.links

    pub joined-holder : IsHolder b3 at
    joined-holder = record { there = (p.there at ∙ there-written at) ∙ holder.there; enough = rw (p.sizes at ∙ sizes-written at) holder.enough }

    module _ (new : DtHash) (b4 : Blocks) (room : old.slots < most_slots → old.count + 1 ≤ 2 * old.slots) (r : Relinked at xs b3 (list_of new) b4 (xs ++ at ∷ [])) (n : new.count ≡ old.count + 1) (te : new.table ≡ old.table) (sl : new.slots ≡ old.slots) where
      there-all : (a : ℕ) → is_some (b4 a) ≡ is_some (b0 a)
      there-all a = r.keeps.there a ∙ (p.there a ∙ there-written a)

      sizes-all : (a : ℕ) → length (bytes_at b4 a) ≡ length (bytes_at b0 a)
      sizes-all a = r.keeps.sizes a ∙ (p.sizes a ∙ sizes-written a)

      body-all : (a : ℕ) → a ≢ old.table.0 → body_of (bytes_at b4 a) ≡ body_of (bytes_at b0 a)
      body-all a ne = r.keeps.bodies a ∙ (p.bodies a ne ∙ (w3.written.bodies a ∙ w2.written.bodies a))

      hash-all : (a : ℕ) → a ≢ old.table.0 → hash_at rules b4 a ≡ hash_at rules b0 a
      hash-all a ne = ap (λ o. rules.hash (rules.key o)) (body-all a ne)

      table-end : (k : ℕ) → word_at b4 old.table.0 k ≡ word_at b3 old.table.0 k
      table-end k = word-same b3 b4 old.table.0 k (r.keeps.others old.table.0 (apart-cons at xs old.table.0 (λ e. not_it (sym e)) is.apart))

      table-start : (k : ℕ) → word_at b2 old.table.0 k ≡ word_at b0 old.table.0 k
      table-start k = words-written old.table.0 k not_it

      redirects : Redirects b0 b4 old.table.0 s before at xs
      redirects = record {
        start = λ e. table-end s ∙ p.start e;
        start_stays = λ some. table-end s ∙ (p.start_stays some ∙ table-start s);
        slots = λ k ne. table-end k ∙ (p.slots k ne ∙ table-start k);
        next = λ some. r.words before 2 (omega arith) ∙ p.next some;
        others = λ a h ne.
            r.words a 2 (omega arith) ∙ (word-same b2 b3 a 2 (p.others a (not_table a h) (λ _. ne)) ∙ words-written a 2 (differs xs a at h out));
      }

      last-word : word_at b4 at 2 ≡ 0
      last-word =
          r.words at 2 (omega arith)
          ∙ (word-same b2 b3 at 2 (p.others at (λ e. not_it (sym e)) (λ some. not_before at out some))
          ∙ (word-kept b1 b2 at 3 hash w3 at 2 (omega arith) ∙ w2.read holder.there))

      inside : (a : ℕ) → contains (xs ++ at ∷ []) a ≡ true → a ≢ old.table.0
      inside a h = differs (xs ++ at ∷ []) a old.table.0 h (apart-append xs (at ∷ []) old.table.0 is.apart (apart-cons at [] old.table.0 (λ e. not_it (sym e)) refl))

      chains : AreChained (hash_at rules b4) b4 old.table.0 old.slots (xs ++ at ∷ [])
      chains =
          chains-hash (hash_at rules b0) (hash_at rules b4) b4 old.table.0 old.slots (xs ++ at ∷ []) (λ a h. hash-all a (inside a h))
          (chains-joined (hash_at rules b0) b0 b4 old.table.0 old.slots s before at xs (stands.chains table-some) (se ∙ ap (λ z. z % old.slots) he) be
          stands.links.distinct none last-word redirects)

      third : (a : ℕ) → a ≢ old.table.0 → word_at b4 a 3 ≡ word_at b2 a 3
      third a ne = r.words a 3 (omega arith) ∙ p.words a 3 ne (omega arith)

      in_list : (a : ℕ) (t : Bool) → contains xs a ≡ t → a ≢ at → contains (xs ++ at ∷ []) a ≡ true → contains xs a ≡ true
      in_list a true e ne h = e
      in_list a false e ne h = absurd (true≢false (sym h ∙ apart-append xs (at ∷ []) a e (apart-cons at [] a (λ q. ne (sym q)) refl)))

      hashes : (a : ℕ) → contains (xs ++ at ∷ []) a ≡ true → IsHashed rules b4 a
      hashes a h = elim (eqb_tells a at) as (λ _. IsHashed rules b4 a) [
        | inl same ↦
            subst (IsHashed rules b4) (sym same.1)
            (third at (λ e. not_it (sym e)) ∙ (w3.read (w2.written.there at ∙ holder.there) ∙ (he ∙ sym (hash-all at (λ e. not_it (sym e))))))
        | inr other ↦
            third a (inside a h) ∙ (words-written a 3 other.1 ∙ (stands.hashes a (in_list a (contains xs a) refl other.1 h) ∙ sym (hash-all a (inside a h))))
      ]

      long : length (xs ++ at ∷ []) ≡ length xs + 1
      long = length-append xs (at ∷ [])

      table-moved : HasTable b4 (xs ++ at ∷ []) old.table.0 old.slots
      table-moved =
          HasTable-kept b0 b4 xs (xs ++ at ∷ []) old.table.0 old.slots there-all sizes-all
          (λ few _. let h = room few in omega (arith, long, stands.count))
          (λ h. apart-append xs (at ∷ []) old.table.0 h (apart-cons at [] old.table.0 (λ e. not_it (sym e)) refl)) stands.table

      pub HashTurned-joined : HashTurned rules at xs old b0 new b4 (xs ++ at ∷ [])
      HashTurned-joined = record {
        stands = record {
          links = r.links;
          count = omega (arith, n, long, stands.count);
          table = subst (λ z. HasTable b4 (xs ++ at ∷ []) z.0 new.slots) (sym te) (subst (λ z. HasTable b4 (xs ++ at ∷ []) old.table.0 z) (sym sl) table-moved);
          empty = λ e. absurd (table-some (sym (ap (λ (z : Addr). z.0) te) ∙ e));
          hashes = hashes;
          chains = λ _. subst (λ z. AreChained (hash_at rules b4) b4 z.0 new.slots (xs ++ at ∷ [])) (sym te) (subst (λ z. AreChained (hash_at rules b4) b4 old.table.0 z (xs ++ at ∷ [])) (sym sl) chains);
        };
        table = te;
        slots = sl;
        keeps = record {
          there = there-all;
          sizes = sizes-all;
          bodies = λ a h. body-all a (λ e. apart-head old.table.0 [] a h (sym e));
          others = λ a h k.
              let here : a ≢ at = λ e. apart-head at xs a k (sym e) in
              r.keeps.others a k
              ∙ (p.others a (λ e. apart-head old.table.0 [] a h (sym e)) (λ some. not_before a (apart-tail at xs a k) some)
              ∙ (w3.written.others a here ∙ w2.written.others a here));
        };
      }

-- one leaves: what leads to it leads on now
pub record Parting (rules : Rules) (old : DtHash) (b0 : Blocks) (at s before : ℕ) (xs : List ℕ) : Type 0 where
  pub stands : HashFor rules old b0 xs
  pub within : contains xs at ≡ true
  pub small : s < old.slots
  pub slot_is : s ≡ hash_at rules b0 at % old.slots
  pub place : Split (chain_of (hash_at rules b0) old.slots s xs) at
  pub last : before ≡ last_of 0 place.front

-- its place in its chain
pub split-at : {rules : Rules} {old : DtHash} {b : Blocks} {at s word : ℕ} {xs : List ℕ} → HashFor rules old b xs → contains xs at ≡ true → s ≡ word % old.slots → word ≡ word_at b at 3 → Split (chain_of (hash_at rules b) old.slots s xs) at
split-at {rules = rules} {old = old} {b = b} {at = at} {s = s} {xs = xs} stands within slot_is read =
    in_chain rules old b xs s at (slot_is ∙ ap (λ z. z % old.slots) (read ∙ stands.hashes at within)) within

pub parts : {rules : Rules} {old : DtHash} {b : Blocks} {at s before word : ℕ} {xs : List ℕ} → HashFor rules old b xs → contains xs at ≡ true → s ≡ word % old.slots → s < old.slots → word ≡ word_at b at 3
    → ((front rest : List ℕ) → IsChainPlace b old.table.0 s old.count at front rest → before ≡ last_of 0 front) → Parting rules old b at s before xs
parts {rules = rules} {old = old} {b = b} {at = at} {s = s} {xs = xs} stands within slot_is small read seek =
    let place = split-at stands within slot_is read in
    record {
      stands = stands;
      within = within;
      small = small;
      slot_is = slot_is ∙ ap (λ z. z % old.slots) (read ∙ stands.hashes at within);
      place = place;
      last = seek place.front (at ∷ place.rest) (holder-place rules old b xs s at stands small place);
    }

module _ {rules : Rules} {old : DtHash} {b0 : Blocks} {at s before : ℕ} {xs : List ℕ} (parting : Parting rules old b0 at s before xs) where
  open parting use {stands, within, small, slot_is as se, place as pl, last as be}

  table-was : old.table.0 ≢ 0
  table-was = some-table rules old b0 xs stands (omega (arith, small))

  was : IsTable b0 xs old.table.0 old.slots
  was = stands.table.some table-was

  no_zero : contains xs 0 ≡ false
  no_zero = no-holder b0 xs (HashFor-holders rules old b0 xs stands)

  no_table : (a : ℕ) → contains xs a ≡ true → a ≢ old.table.0
  no_table a h = differs xs a old.table.0 h was.apart

  front-in : (a : ℕ) → contains pl.front a ≡ true → contains xs a ≡ true
  front-in a h = filter-within (λ z. hash_at rules b0 z % old.slots == s) xs a (subst (λ z. contains z a ≡ true) (sym pl.whole) (within-front pl.front (at ∷ pl.rest) a h))

  pub parted-point : CanPoint b0 old.table.0 s before
  parted-point = last-points rules old b0 xs pl.front s before stands small front-in be

  module _ (b1 : Blocks) (p : Pointed b0 b1 old.table.0 s before (word_at b0 at 2)) where
    pub parted-links : LinksFor (list_of old) b1 xs
    parted-links = LinksFor-kept (list_of old) b0 b1 xs p.there p.sizes (λ a k h few. p.words a k (no_table a h) (omega (arith, few))) stands.links

    module _ (new : DtHash) (b2 : Blocks) (r : Relinked at xs b1 (list_of new) b2 (without at xs)) (n : new.count ≡ old.count - 1) (te : new.table ≡ old.table) (sl : new.slots ≡ old.slots) where
      there-both : (a : ℕ) → is_some (b2 a) ≡ is_some (b0 a)
      there-both a = r.keeps.there a ∙ p.there a

      sizes-both : (a : ℕ) → length (bytes_at b2 a) ≡ length (bytes_at b0 a)
      sizes-both a = r.keeps.sizes a ∙ p.sizes a

      body-both : (a : ℕ) → a ≢ old.table.0 → body_of (bytes_at b2 a) ≡ body_of (bytes_at b0 a)
      body-both a ne = r.keeps.bodies a ∙ p.bodies a ne

      hash-both : (a : ℕ) → a ≢ old.table.0 → hash_at rules b2 a ≡ hash_at rules b0 a
      hash-both a ne = ap (λ o. rules.hash (rules.key o)) (body-both a ne)

      slots-both : (k : ℕ) → word_at b2 old.table.0 k ≡ word_at b1 old.table.0 k
      slots-both k =
          word-same b1 b2 old.table.0 k (r.keeps.others old.table.0 (apart-cons at xs old.table.0 (no_table at within) was.apart))

      redirected : Redirects b0 b2 old.table.0 s before (word_at b0 at 2) xs
      redirected = record {
        start = λ e. slots-both s ∙ p.start e;
        start_stays = λ some. slots-both s ∙ p.start_stays some;
        slots = λ k ne. slots-both k ∙ p.slots k ne;
        next = λ some. r.words before 2 (omega arith) ∙ p.next some;
        others = λ a h ne. r.words a 2 (omega arith) ∙ word-same b0 b1 a 2 (p.others a (no_table a h) (λ _. ne));
      }

      stays_in : (a : ℕ) (t : Bool) → contains xs a ≡ t → contains (without at xs) a ≡ true → contains xs a ≡ true
      stays_in a true e h = e
      stays_in a false e h = absurd (true≢false (sym h ∙ apart-without xs at a e))

      left-in : (a : ℕ) → contains (without at xs) a ≡ true → contains xs a ≡ true
      left-in a h = stays_in a (contains xs a) refl h

      chains-left : AreChained (hash_at rules b2) b2 old.table.0 old.slots (without at xs)
      chains-left =
          chains-hash (hash_at rules b0) (hash_at rules b2) b2 old.table.0 old.slots (without at xs) (λ a h. hash-both a (no_table a (left-in a h)))
          (chains-parted (hash_at rules b0) b0 b2 old.table.0 old.slots s before at xs (stands.chains table-was) se small pl be stands.links.distinct no_zero redirected)

      hashes-left : (a : ℕ) → contains (without at xs) a ≡ true → IsHashed rules b2 a
      hashes-left a h =
          let here = left-in a h in
          r.words a 3 (omega arith) ∙ (p.words a 3 (no_table a here) (omega arith) ∙ (stands.hashes a here ∙ sym (hash-both a (no_table a here))))

      long-left : length (without at xs) + 1 ≡ length xs
      long-left = length-without xs at within

      table-left : HasTable b2 (without at xs) old.table.0 old.slots
      table-left =
          HasTable-kept b0 b2 xs (without at xs) old.table.0 old.slots there-both sizes-both
          (λ few h. omega (arith, long-left, h)) (λ h. apart-without xs at old.table.0 h) stands.table

      pub HashTurned-parted : HashTurned rules at xs old b0 new b2 (without at xs)
      HashTurned-parted = record {
        stands = record {
          links = r.links;
          count = omega (arith, n, long-left, stands.count);
          table = subst (λ z. HasTable b2 (without at xs) z.0 new.slots) (sym te) (subst (λ z. HasTable b2 (without at xs) old.table.0 z) (sym sl) table-left);
          empty = λ e. absurd (table-was (sym (ap (λ (z : Addr). z.0) te) ∙ e));
          hashes = hashes-left;
          chains = λ _. subst (λ z. AreChained (hash_at rules b2) b2 z.0 new.slots (without at xs)) (sym te) (subst (λ z. AreChained (hash_at rules b2) b2 old.table.0 z (without at xs)) (sym sl) chains-left);
        };
        table = te;
        slots = sl;
        keeps = record {
          there = there-both;
          sizes = sizes-both;
          bodies = λ a h. body-both a (λ e. apart-head old.table.0 [] a h (sym e));
          others = λ a h k.
              r.keeps.others a k
              ∙ p.others a (λ e. apart-head old.table.0 [] a h (sym e))
              (λ some e. true≢false (sym (last_within pl.front xs before be some front-in) ∙ (ap (contains xs) (sym e) ∙ apart-tail at xs a k)));
        };
      }

-- it has another table, which was cleared and filled
module _ (rules : Rules) (old : DtHash) (b0 b1 b2 : Blocks) (block : Addr) (size : ℕ) (xs : List ℕ) (links : LinksFor (list_of old) b0 xs) (count : old.count ≡ length xs) (marks : (a : ℕ) → contains xs a ≡ true → IsHashed rules b0 a) (fits : IsTable b0 xs block.0 size) (some : block.0 ≢ 0)
    (c : Cleared b0 b1 block.0 size) (f : Filled block.0 size xs b1 b2) where
  not_block : (a : ℕ) → contains xs a ≡ true → contains (block.0 ∷ []) a ≡ false
  not_block a h = apart-cons block.0 [] a (λ e. differs xs a block.0 h fits.apart (sym e)) refl

  not_block_too : (a : ℕ) → contains xs a ≡ true → a ≢ block.0
  not_block_too a h = differs xs a block.0 h fits.apart

  there-filled : (a : ℕ) → is_some (b2 a) ≡ is_some (b0 a)
  there-filled a = f.keeps.there a ∙ c.keeps.there a

  sizes-filled : (a : ℕ) → length (bytes_at b2 a) ≡ length (bytes_at b0 a)
  sizes-filled a = f.keeps.sizes a ∙ c.keeps.sizes a

  words-cleared : (a k : ℕ) → contains xs a ≡ true → word_at b1 a k ≡ word_at b0 a k
  words-cleared a k h = word-same b0 b1 a k (c.keeps.others a (not_block a h) refl)

  hash-filled : (a : ℕ) → contains xs a ≡ true → hash_at rules b2 a ≡ hash_at rules b0 a
  hash-filled a h = ap (λ o. rules.hash (rules.key o)) (f.keeps.bodies a (not_block a h) ∙ c.keeps.bodies a (not_block a h))

  told : (a : ℕ) → contains xs a ≡ true → hash_at rules b2 a ≡ word_at b1 a 3
  told a h = hash-filled a h ∙ (sym (marks a h) ∙ sym (words-cleared a 3 h))

  pub HashFor-adopted : HashFor rules (record old { table = block; slots = size }) b2 xs
  HashFor-adopted = record {
    links = LinksFor-kept (list_of old) b0 b2 xs there-filled sizes-filled (λ a k h few. f.words a k (not_block_too a h) (omega (arith, few)) ∙ words-cleared a k h) links;
    count = count;
    table = record { none = λ e. absurd (some e); some = λ _. IsTable-kept b0 b2 xs xs block.0 size there-filled sizes-filled (λ few h. h) (λ h. h) fits };
    empty = λ e. absurd (some e);
    hashes = λ a h. f.words a 3 (not_block_too a h) (omega arith) ∙ sym (told a h);
    chains = λ _. chains-hash (λ a. word_at b1 a 3) (hash_at rules b2) b2 block.0 size xs told f.chains;
  }

  pub keeps-adopted : KeepsTables (old.table.0 ∷ block.0 ∷ []) xs b0 b2
  keeps-adopted = record {
    there = there-filled;
    sizes = sizes-filled;
    bodies = λ a h. let k = apart-tail old.table.0 (block.0 ∷ []) a h in f.keeps.bodies a k ∙ c.keeps.bodies a k;
    others = λ a h o. let k = apart-tail old.table.0 (block.0 ∷ []) a h in f.keeps.others a k o ∙ c.keeps.others a k refl;
  }

-- the holders of a list were hashed, and put into its table, if any
module _ (rules : Rules) (hash : DtHash) (b0 b1 : Blocks) (xs : List ℕ) (count : hash.count ≡ length xs) (table : HasTable b0 xs hash.table.0 hash.slots) (empty : hash.table.0 ≡ 0 → xs ≡ [])
    (m : Marked (IsHashed rules) (list_of hash) xs b0 b1) where
  table-hashed : HasTable b1 xs hash.table.0 hash.slots
  table-hashed = HasTable-kept b0 b1 xs xs hash.table.0 hash.slots m.keeps.there m.keeps.sizes (λ few h. h) (λ h. h) table

  pub ChainedUp-none : hash.table.0 ≡ 0 → ChainedUp rules hash xs b0 b1
  ChainedUp-none none = record {
    stands = record { links = m.links; count = count; table = table-hashed; empty = empty; hashes = m.marks; chains = λ some. absurd (some none) };
    keeps = KeepsTables-but (hash.table.0 ∷ []) xs b0 b1 m.keeps;
  }

  pub table-fits : hash.table.0 ≢ 0 → IsTable b1 xs hash.table.0 hash.slots
  table-fits some = table-hashed.some some

  pub ChainedUp-filled : (b2 b3 : Blocks) (some : hash.table.0 ≢ 0) (c : Cleared b1 b2 hash.table.0 hash.slots) (f : Filled hash.table.0 hash.slots xs b2 b3) → ChainedUp rules hash xs b0 b3
  ChainedUp-filled b2 b3 some c f =
      let keeps = keeps-adopted rules hash b1 b2 b3 hash.table hash.slots xs m.links count m.marks (table-fits some) some c f in
      record {
        stands = HashFor-adopted rules hash b1 b2 b3 hash.table hash.slots xs m.links count m.marks (table-fits some) some c f;
        keeps = record {
          there = λ a. keeps.there a ∙ m.keeps.there a;
          sizes = λ a. keeps.sizes a ∙ m.keeps.sizes a;
          bodies = λ a h. keeps.bodies a (apart-cons hash.table.0 (hash.table.0 ∷ []) a (apart-head hash.table.0 [] a h) h) ∙ m.keeps.bodies a;
          others = λ a h o. keeps.others a (apart-cons hash.table.0 (hash.table.0 ∷ []) a (apart-head hash.table.0 [] a h) h) o ∙ m.keeps.others a o;
        };
      }
