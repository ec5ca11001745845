-- One step of the pass of a set, which drops what matches a holder of its chain and links all others into its table.
use Rattle.vc_base.proofs.Common.{◌≡◌, ℕ, ◌+◌, ◌*◌, ◌%◌, ◌<◌, ◌≤◌, Bool, true, false, ◌&&◌, ◌≢◌, List, [], ◌∷◌, ◌++◌, length, is_some, if◌then◌else◌, nat_lt, Some, None, Option, option_map, sym, refl, ap, ◌∙◌, subst, inl, inr, true≢false, arith, ltb-true, le-ltb, ne_eqb, eqb_tells, All-nil, Blocks, contains}
use Rattle.vc_base.specs.declared.addr.Addr.{Addr}
use Rattle.vc_base.proofs.Members.{apart-head, apart-tail, apart-cons, within-tail}
use Rattle.vc_dthash.proofs.ChainLemmas.{chain-same}
use Rattle.vc_dtdisc.specs.Finds.{find_key, object_at}
use Rattle.vc_dtdisc.specs.Rules.{Rules}
use Rattle.vc_dtlist.specs.declared.dt_list.DtList.{DtList}
use Rattle.vc_dtlist.specs.TableWrites.{KeepsTables}
use Rattle.vc_dtlist.specs.Linked.{CanAdd, IsPlain, StandsFor, Turned, number_of}
use Rattle.vc_dtlist.proofs.KeptLemmas.{KeepsTables-but, StandsFor-kept, StandsFor-same}
use Rattle.vc_dtlist.proofs.TurnLemmas.{StandsFor-unique}
use Rattle.vc_dthash.specs.declared.dt_hash.DtHash.{DtHash}
use Rattle.vc_dthash.specs.Chained.{chain_of, hash_at}
use Rattle.vc_dthash.specs.Hashed.{CanChain, CanLink, ChainedUp, HasTable, HashFor, HashTurned, IsTable, list_of}
use Rattle.vc_dthash.specs.Slots.{most_slots, slots_for, wanted_slots}
use Rattle.vc_dthash.proofs.HashLemmas.{HasTable-kept, HashFor-same, IsSlots-some}
use Rattle.vc_dict.specs.Orders.{dropped_holders, has_match, kept_holders}
use Rattle.vc_dict.specs.Passes.{AreApart, IsWithin, Taken}
use Rattle.vc_dict.specs.Weeding.{ChainWeeding, IsSettled, Weeding, chain_compares}
use Rattle.vc_dict.proofs.PassLemmas.{apart_back, differs, rest_some, tail_distinct}
use Rattle.vc_dict.proofs.WeedLemmas.{Weeding-next, Weeding-start, all-dropped, all-kept, apart_new, found_match}

-- a table with room for more holders than there are wants no other for one more
room_by : (p q : Bool) (n : ℕ) → (q ≡ true → p ≡ false) → (if p && q then Some n else None) ≡ None
room_by true true n f = absurd (true≢false (f refl))
room_by true false n f = refl
room_by false q n f = refl

room-for : (slots count n : ℕ) → 1 ≤ slots → (slots < most_slots → n ≤ 2 * slots) → count + 1 ≤ n → wanted_slots slots count 1 ≡ None
room-for slots count n some enough few =
    let room : nat_lt slots most_slots ≡ true → nat_lt (2 * slots) (count + 1) ≡ false =
    λ e. let all = enough (ltb-true slots most_slots e) in le-ltb (2 * slots) (count + 1) (omega (arith, all, few)) in
    ap (λ t. if t then Some (slots_for 1) else if nat_lt (2 * slots) (count + 1) && nat_lt slots most_slots then Some (2 * slots) else None) (ne_eqb slots 0 (omega (arith, some)))
    ∙ room_by (nat_lt (2 * slots) (count + 1)) (nat_lt slots most_slots) (2 * slots) room

-- what is kept over two calls, of which the second worked within the list
KeepsTables-step : (tables holders within : List ℕ) (a b c : Blocks) → KeepsTables tables holders a b → KeepsTables tables within b c → IsWithin within holders → KeepsTables tables holders a c
KeepsTables-step tables holders within a b c j k w = record {
  there = λ x. k.there x ∙ j.there x;
  sizes = λ x. k.sizes x ∙ j.sizes x;
  bodies = λ x t. k.bodies x t ∙ j.bodies x t;
  others = λ x t h. k.others x t (w x h) ∙ j.others x t h;
}

fewer_by : (steps' steps found chain left rest all : ℕ) → steps' ≤ steps + found → found ≡ chain → left ≡ chain + rest → steps + left ≤ all → steps' + rest ≤ all
fewer_by steps' steps found chain left rest all f e n h = omega (arith, f, e, n, h)

-- the first of what is left was taken
module _ {rules : Rules} {hash : DtHash} {start : Blocks} {holders : List ℕ} {passed : ℕ} {left left' : DtList} {set : DtHash} {lost : DtList} {b b1 : Blocks} {at begun steps : ℕ}
    (more : passed < length holders) (s : ChainWeeding rules hash start holders passed left set lost b begun steps) (t : Taken at s.rest b left' b1) where
  table-is : set.table.0 ≡ hash.table.0
  table-is = ap (λ (z : Addr). z.0) s.table

  some-table : hash.table.0 ≢ 0
  some-table e = let none = ap length (s.empty e) in absurd (omega (arith, none, more))

  is : IsTable start holders hash.table.0 hash.slots
  is = s.room.some some-table

  -- the table is none of some holders
  outside : (xs : List ℕ) (a : ℕ) → IsWithin xs holders → contains xs a ≡ true → contains (hash.table.0 ∷ []) a ≡ false
  outside xs a w h = apart-cons hash.table.0 [] a (differs xs a hash.table.0 h (w hash.table.0 is.apart)) refl

  not-table : (xs : List ℕ) → IsWithin xs holders → contains xs set.table.0 ≡ false
  not-table xs w = subst (λ z. contains xs z ≡ false) (sym table-is) (w hash.table.0 is.apart)

  at-in : contains s.rest at ≡ true
  at-in = rest_some at s.rest t.tail t.whole

  not_it : hash.table.0 ≢ at
  not_it = differs s.rest at hash.table.0 at-in (s.weeding.rest_within hash.table.0 is.apart)

  out-of_done : contains s.done at ≡ false
  out-of_done = s.weeding.apart_done at at-in

  out-of_gone : contains s.gone at ≡ false
  out-of_gone = s.weeding.apart_gone at at-in

  middle : KeepsTables (hash.table.0 ∷ []) holders start b1
  middle = KeepsTables-step (hash.table.0 ∷ []) holders s.rest start b b1 s.keeps (KeepsTables-but (hash.table.0 ∷ []) s.rest b b1 t.keeps) s.weeding.rest_within

  pub set-before : HashFor rules set b1 s.done
  set-before =
      HashFor-same rules set b b1 s.done (λ a h. t.keeps.others a (apart_back s.rest s.done s.weeding.apart_done a h))
      (λ _. t.keeps.others set.table.0 (not-table s.rest s.weeding.rest_within)) s.done_stands

  pub lost-before : StandsFor lost b1 s.gone
  lost-before = StandsFor-kept lost b b1 s.gone s.rest t.keeps (apart_back s.rest s.gone s.weeding.apart_gone) s.gone_stands

  pub match-told : (key : List ℕ) (found : Option Addr) (drop : Bool) → key ≡ rules.key (object_at b1 at) → option_map number_of found ≡ find_key rules b1 key s.done → drop ≡ is_some found → has_match rules start s.done at ≡ drop
  match-told key found drop e f h =
      found_match rules start b1 s.done at key found drop
      (middle.bodies at (outside s.rest at s.weeding.rest_within at-in)) (λ a w. middle.bodies a (outside s.done a s.weeding.done_within w)) e f h

  pub can-add : CanAdd lost b1 at
  can-add = record { holders = s.gone; stands = lost-before; apart = out-of_gone; holder = t.holder }

  pub can-link : CanLink rules set b1 at
  can-link = record {
    holders = s.done;
    stands = set-before;
    apart = apart-cons set.table.0 s.done at (λ e. not_it (sym table-is ∙ e)) out-of_done;
    holder = t.holder;
    room = subst (λ z. wanted_slots z set.count 1 ≡ None) (sym s.slots)
        (room-for hash.slots set.count (length holders) (IsSlots-some hash.slots is.slots_allowed) is.enough (omega (arith, s.done_stands.count, s.weeding.few, more)));
  }

  -- what is left, and apart from it and the taken one
  tail-out : contains t.tail at ≡ false
  tail-out = tail_distinct left b at t.tail (subst (λ z. StandsFor left b z) t.whole s.left_stands)

  tail-apart : (xs : List ℕ) → AreApart s.rest xs → AreApart t.tail (at ∷ xs)
  tail-apart xs h a w =
      apart-cons at xs a (differs t.tail a at w tail-out) (h a (subst (λ z. contains z a ≡ true) (sym t.whole) (within-tail at t.tail a w)))

  taken-within : (xs : List ℕ) → IsWithin xs holders → IsWithin (at ∷ xs) holders
  taken-within xs w a h = apart-cons at xs a (apart-head at t.tail a (subst (λ z. contains z a ≡ false) t.whole (s.weeding.rest_within a h))) (w a h)

  tail-within : IsWithin t.tail holders
  tail-within a h = apart-tail at t.tail a (subst (λ z. contains z a ≡ false) t.whole (s.weeding.rest_within a h))

  weeding-next : (drop : Bool) → has_match rules start s.done at ≡ drop → Weeding rules start holders (passed + 1) (if drop then s.done else s.done ++ at ∷ []) (if drop then s.gone ++ at ∷ [] else s.gone) t.tail
  weeding-next drop e =
      Weeding-next rules start holders passed at s.done s.gone t.tail drop tail-out e (subst (λ z. Weeding rules start holders passed s.done s.gone z) t.whole s.weeding)

  -- so many compares did it take to find a match
  fewer : (key : List ℕ) (drop : Bool) (steps' : ℕ) → has_match rules start s.done at ≡ drop → key ≡ rules.key (object_at b1 at) → steps' ≤ steps + length (chain_of (hash_at rules b1) set.slots (rules.hash key % set.slots) s.done) → steps' + chain_compares rules start hash.slots (if drop then s.done else s.done ++ at ∷ []) t.tail ≤ begun + chain_compares rules start hash.slots [] holders
  fewer key drop steps' e k few =
      let own : rules.hash key ≡ hash_at rules start at = ap rules.hash k ∙ ap (λ o. rules.hash (rules.key o)) (middle.bodies at (outside s.rest at s.weeding.rest_within at-in)) in
      let chain = λ (hash' : ℕ → ℕ) (slots h : ℕ). length (chain_of hash' slots (h % slots) s.done) in
      let same : chain (hash_at rules b1) set.slots (rules.hash key) ≡ chain (hash_at rules start) hash.slots (hash_at rules start at) =
      ap (λ z. chain (hash_at rules b1) z (rules.hash key)) s.slots
      ∙ ap (λ z. chain (hash_at rules b1) hash.slots z) own
      ∙ ap length (chain-same (hash_at rules start) (hash_at rules b1) hash.slots (hash_at rules start at % hash.slots) s.done (λ a w. ap (λ o. rules.hash (rules.key o)) (middle.bodies a (outside s.done a s.weeding.done_within w)))) in
      let next : chain_compares rules start hash.slots s.done s.rest ≡ chain (hash_at rules start) hash.slots (hash_at rules start at) + chain_compares rules start hash.slots (if drop then s.done else s.done ++ at ∷ []) t.tail =
      ap (chain_compares rules start hash.slots s.done) t.whole
      ∙ ap (λ z. chain (hash_at rules start) hash.slots (hash_at rules start at) + chain_compares rules start hash.slots (if z then s.done else s.done ++ at ∷ []) t.tail) e in
      fewer_by steps' steps (chain (hash_at rules b1) set.slots (rules.hash key)) (chain (hash_at rules start) hash.slots (hash_at rules start at))
      (chain_compares rules start hash.slots s.done s.rest) (chain_compares rules start hash.slots (if drop then s.done else s.done ++ at ∷ []) t.tail) (begun + chain_compares rules start hash.slots [] holders) few same next s.compares

  pub ChainWeeding-dropped : (lost' : DtList) (b2 : Blocks) (key : List ℕ) (steps' : ℕ) → key ≡ rules.key (object_at b1 at) → steps' ≤ steps + length (chain_of (hash_at rules b1) set.slots (rules.hash key % set.slots) s.done) → has_match rules start s.done at ≡ true → Turned at s.gone b1 lost' b2 (s.gone ++ at ∷ []) → ChainWeeding rules hash start holders (passed + 1) left' set lost' b2 begun steps'
  ChainWeeding-dropped lost' b2 key steps' k few e u = record {
    done = s.done;
    gone = s.gone ++ at ∷ [];
    rest = t.tail;
    weeding = weeding-next true e;
    left_stands = StandsFor-kept left' b1 b2 t.tail (at ∷ s.gone) u.keeps (tail-apart s.gone s.weeding.apart_gone) t.stands;
    done_stands = HashFor-same rules set b1 b2 s.done (λ a h. u.keeps.others a (apart_new s.done s.gone at s.weeding.apart out-of_done a h))
        (λ _. u.keeps.others set.table.0 (not-table (at ∷ s.gone) (taken-within s.gone s.weeding.gone_within))) set-before;
    gone_stands = u.stands;
    table = s.table;
    slots = s.slots;
    room = s.room;
    empty = s.empty;
    keeps = KeepsTables-step (hash.table.0 ∷ []) holders (at ∷ s.gone) start b1 b2 middle (KeepsTables-but (hash.table.0 ∷ []) (at ∷ s.gone) b1 b2 u.keeps) (taken-within s.gone s.weeding.gone_within);
    compares = fewer key true steps' e k few;
  }

  pub ChainWeeding-kept : (set' : DtHash) (b2 : Blocks) (key : List ℕ) (steps' : ℕ) → key ≡ rules.key (object_at b1 at) → steps' ≤ steps + length (chain_of (hash_at rules b1) set.slots (rules.hash key % set.slots) s.done) → has_match rules start s.done at ≡ false → HashTurned rules at s.done set b1 set' b2 (s.done ++ at ∷ []) → ChainWeeding rules hash start holders (passed + 1) left' set' lost b2 begun steps'
  ChainWeeding-kept set' b2 key steps' k few e u =
      let kept_else : KeepsTables (hash.table.0 ∷ []) (at ∷ s.done) b1 b2 = subst (λ z. KeepsTables (z ∷ []) (at ∷ s.done) b1 b2) table-is u.keeps in
      record {
        done = s.done ++ at ∷ [];
        gone = s.gone;
        rest = t.tail;
        weeding = weeding-next false e;
        left_stands = StandsFor-same left' b1 b2 t.tail (λ a h. kept_else.others a (outside t.tail a tail-within h) (tail-apart s.done s.weeding.apart_done a h)) t.stands;
        done_stands = u.stands;
        gone_stands = StandsFor-same lost b1 b2 s.gone
            (λ a h. kept_else.others a (outside s.gone a s.weeding.gone_within h) (apart_new s.gone s.done at (apart_back s.done s.gone s.weeding.apart) out-of_gone a h)) lost-before;
        table = u.table ∙ s.table;
        slots = u.slots ∙ s.slots;
        room = s.room;
        empty = s.empty;
        keeps = KeepsTables-step (hash.table.0 ∷ []) holders (at ∷ s.done) start b1 b2 middle kept_else (taken-within s.done s.weeding.done_within);
        compares = fewer key false steps' e k few;
      }

-- a list of no holders
pub none-stand : (list : DtList) (b : Blocks) → list.first.0 ≡ 0 → list.last.0 ≡ 0 → StandsFor list b []
none-stand list b f l = record { links = record { first = f; last = l; chain = tt; distinct = tt }; plain = All-nil (IsPlain b) }

-- a table of which none of the chains is used yet
pub no-chains : (hash set : DtHash) (b : Blocks) → CanChain hash b → set.first.0 ≡ 0 → set.last.0 ≡ 0 → set.count ≡ 0 → set.table ≡ hash.table → set.slots ≡ hash.slots → CanChain set b
no-chains hash set b r f l n te se =
    let moved : HasTable b [] hash.table.0 hash.slots = HasTable-kept b b r.holders [] hash.table.0 hash.slots (λ a. refl) (λ a. refl) (λ few h. omega arith) (λ h. refl) r.table in
    record {
      holders = [];
      stands = none-stand (list_of set) b f l;
      count = n;
      table = subst (λ z. HasTable b [] z.0 set.slots) (sym te) (subst (λ z. HasTable b [] hash.table.0 z) (sym se) moved);
      empty = λ e. refl;
    }

-- a pass that begins, and one that is through
table-out : (hash : DtHash) (b : Blocks) (xs : List ℕ) → HasTable b xs hash.table.0 hash.slots → (hash.table.0 ≡ 0 → xs ≡ []) → contains xs hash.table.0 ≡ false
table-out hash b xs t none = elim (eqb_tells hash.table.0 0) as (λ _. contains xs hash.table.0 ≡ false) [
  | inl zero ↦ ap (λ z. contains z hash.table.0) (none zero.1)
  | inr some ↦ (t.some some.1).apart
]

pub ChainWeeding-start : (rules : Rules) (hash set : DtHash) (lost : DtList) (b b1 : Blocks) (holders : List ℕ) (steps : ℕ) → CanChain hash b → StandsFor (list_of hash) b holders → set.table ≡ hash.table → set.slots ≡ hash.slots → ChainedUp rules set [] b b1 → StandsFor lost b1 [] → ChainWeeding rules hash b holders 0 (list_of hash) set lost b1 steps steps
ChainWeeding-start rules hash set lost b b1 holders steps r s te se c g =
    let same = StandsFor-unique (list_of hash) b r.holders holders r.stands s in
    let table : HasTable b holders hash.table.0 hash.slots = subst (λ z. HasTable b z hash.table.0 hash.slots) same r.table in
    let none : hash.table.0 ≡ 0 → holders ≡ [] = λ e. sym same ∙ r.empty e in
    let keeps : KeepsTables (hash.table.0 ∷ []) [] b b1 = subst (λ z. KeepsTables (z.0 ∷ []) [] b b1) te c.keeps in
    let out = table-out hash b holders table none in
    record {
      done = [];
      gone = [];
      rest = holders;
      weeding = Weeding-start rules b holders;
      left_stands = StandsFor-same (list_of hash) b b1 holders (λ a h. keeps.others a (apart-cons hash.table.0 [] a (differs holders a hash.table.0 h out) refl) refl) s;
      done_stands = c.stands;
      gone_stands = g;
      table = te;
      slots = se;
      room = table;
      empty = none;
      keeps = record { there = keeps.there; sizes = keeps.sizes; bodies = keeps.bodies; others = λ a h k. keeps.others a h refl };
      compares = omega arith;
    }

pub ChainWeeding-end : (rules : Rules) (hash : DtHash) (start : Blocks) (holders : List ℕ) (passed : ℕ) (left : DtList) (set : DtHash) (lost : DtList) (b : Blocks) (begun steps : ℕ) → ChainWeeding rules hash start holders passed left set lost b begun steps → length holders ≤ passed → IsSettled true rules hash holders (kept_holders rules start [] holders) (dropped_holders rules start [] holders) start (record { kept = list_of set; dropped = lost; count = set.count }) b
ChainWeeding-end rules hash start holders passed left set lost b begun steps s h =
    let all = all-kept rules start holders passed s.done s.gone s.rest s.weeding h in
    let lost-all = all-dropped rules start holders passed s.done s.gone s.rest s.weeding h in
    let stands : HashFor rules (record set { table = hash.table; slots = hash.slots }) b s.done =
    subst (λ z. HashFor rules (record set { table = z; slots = hash.slots }) b s.done) s.table (subst (λ z. HashFor rules (record set { slots = z }) b s.done) s.slots s.done_stands) in
    record {
      hashed = λ _. subst (λ z. HashFor rules (record set { table = hash.table; slots = hash.slots }) b z) all stands;
      listed = λ e. absurd (true≢false e);
      gone_stands = subst (λ z. StandsFor lost b z) lost-all s.gone_stands;
      apart = subst (λ z. AreApart z (dropped_holders rules start [] holders)) all (subst (λ z. AreApart s.done z) lost-all s.weeding.apart);
      count = s.done_stands.count ∙ ap length all;
      keeps = s.keeps;
    }

pub few-compares : (rules : Rules) (hash : DtHash) (start : Blocks) (holders : List ℕ) (passed : ℕ) (left : DtList) (set : DtHash) (lost : DtList) (b : Blocks) (begun steps : ℕ) → ChainWeeding rules hash start holders passed left set lost b begun steps → steps ≤ begun + chain_compares rules start hash.slots [] holders
few-compares rules hash start holders passed left set lost b begun steps s = omega (arith, s.compares)
