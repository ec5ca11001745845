-- Walks along one chain: to a place in it, and to a key.
use Rattle.vc_base.proofs.Common.{◌≡◌, ℕ, ◌+◌, ◌%◌, ◌^◌, ◌<◌, ◌≤◌, Bool, true, false, cond, ◌≢◌, List, [], ◌∷◌, ◌++◌, length, ◌==◌, Some, None, filter, find, sym, refl, ap, ◌∙◌, subst, append_assoc, append-nil, arith, length-append, eq-eqb, eqb-true, eqb-false, nil_from_length, Blocks, HasBytes, IsAddress, IsHolder, word_at, contains, first_of}
use Rattle.vc_base.specs.declared.addr.Addr.{Addr}
use Rattle.vc_base.specs.Holders.{last_of}
use Rattle.vc_base.proofs.Members.{apart-head, apart-rest, within-head, within-tail, within-rest}
use Rattle.vc_base.proofs.Orders.{is-equal}
use Rattle.vc_dtdisc.specs.Finds.{find_key, has_key, object_at}
use Rattle.vc_dtdisc.specs.Rules.{AreLawful, Rules}
use Rattle.vc_dtlist.proofs.HolderLemmas.{last_of-append}
use Rattle.vc_dtlist.proofs.TurnLemmas.{fewer}
use Rattle.vc_dthash.specs.Chained.{FindsInSlot, IsChainPlace, IsSlotChain, Leads, chain_of, hash_at}
use Rattle.vc_dthash.proofs.ChainLemmas.{Leads-fits}
use Rattle.vc_dthash.proofs.FilterLemmas.{filter-both, filter-find, filter-step}

-- so many holders before a place were passed, the last of which is named, and the next stands at that address
pub record Passing (b : Blocks) (front rest : List ℕ) (passed at before : ℕ) : Type 0 where
  pub done : List ℕ
  pub left : List ℕ
  pub whole : front ≡ done ++ left
  pub count : length done ≡ passed
  pub leads : Leads b at (left ++ rest) 0
  pub last : before ≡ last_of 0 done

pub Passing-start : (b : Blocks) (table k count stop : ℕ) (front rest : List ℕ) (at : ℕ) → IsChainPlace b table k count stop front rest → at ≡ word_at b table k → Passing b front rest 0 at 0
Passing-start b table k count stop front rest at p e = record {
  done = [];
  left = front;
  whole = refl;
  count = refl;
  leads = subst (λ z. Leads b z (front ++ rest) 0) (sym e) p.chain.leads;
  last = refl;
}

-- all were passed where the place is met, or as many as may be
none_left : (b : Blocks) (front done left rest : List ℕ) (at stop : ℕ) → front ≡ done ++ left → Leads b at (left ++ rest) 0 → contains front stop ≡ false → at ≡ stop → left ≡ []
none_left b front done [] rest at stop whole l apart e = refl
none_left b front done (y ∷ ys) rest at stop whole l apart e =
    absurd (apart-head y ys stop (apart-rest done (y ∷ ys) stop (subst (λ z. contains z stop ≡ false) whole apart)) (sym l.0 ∙ e))

all_passed : (front done left : List ℕ) (before : ℕ) → front ≡ done ++ left → before ≡ last_of 0 done → left ≡ [] → before ≡ last_of 0 front
all_passed front done left before whole last e = last ∙ ap (last_of 0) (sym (whole ∙ (ap (λ z. done ++ z) e ∙ append-nil done)))

pub Passing-met : (b : Blocks) (table k count stop : ℕ) (front rest : List ℕ) (passed at before : ℕ) → IsChainPlace b table k count stop front rest → Passing b front rest passed at before → at ≡ stop → before ≡ last_of 0 front
Passing-met b table k count stop front rest passed at before p w e =
    all_passed front w.done w.left before w.whole w.last (none_left b front w.done w.left rest at stop w.whole w.leads p.apart e)

pub Passing-over : (b : Blocks) (table k count stop : ℕ) (front rest : List ℕ) (passed at before : ℕ) → IsChainPlace b table k count stop front rest → Passing b front rest passed at before → count ≤ passed → before ≡ last_of 0 front
Passing-over b table k count stop front rest passed at before p w h =
    let long : length front ≡ length w.done + length w.left = ap length w.whole ∙ length-append w.done w.left in
    all_passed front w.done w.left before w.whole w.last (nil_from_length w.left (omega (arith, h, p.few, w.count)))

-- else there is a holder
pub record Further (b : Blocks) (front rest : List ℕ) (passed at : ℕ) : Type 0 where
  pub words : HasBytes b at 32
  pub fits : word_at b at 2 < 2 ^ 32
  pub next : (n : ℕ) → n ≡ word_at b at 2 → Passing b front rest (passed + 1) n at

first_at : (b : Blocks) (at : ℕ) (rest : List ℕ) → Leads b at rest 0 → at ≡ first_of rest 0
first_at b at [] l = l
first_at b at (x ∷ xs) l = l.0

further_by : (b : Blocks) (table k count stop : ℕ) (front rest : List ℕ) (passed at before : ℕ) (done left : List ℕ) → IsChainPlace b table k count stop front rest → front ≡ done ++ left → length done ≡ passed → Leads b at (left ++ rest) 0 → at ≢ stop → Further b front rest passed at
further_by b table k count stop front rest passed at before done [] p whole many l ne = absurd (ne (first_at b at rest l ∙ sym p.met))
further_by b table k count stop front rest passed at before done (y ∷ ys) p whole many l ne =
    let chain : front ++ rest ≡ done ++ (y ∷ ys ++ rest) = ap (λ z. z ++ rest) whole ∙ append_assoc done (y ∷ ys) rest in
    let within : (a : ℕ) → contains (y ∷ ys ++ rest) a ≡ true → contains (front ++ rest) a ≡ true =
    λ a h. subst (λ z. contains z a ≡ true) (sym chain) (within-rest done (y ∷ ys ++ rest) a h) in
    let holder : IsHolder b y = p.chain.holders y (within y (within-head y (ys ++ rest))) in
    record {
      words = subst (λ z. HasBytes b z 32) (sym l.0) (fewer b y holder);
      fits = subst (λ z. word_at b z 2 < 2 ^ 32) (sym l.0)
          (Leads-fits b (word_at b y 2) (ys ++ rest) (λ a h. p.chain.addresses a (within a (within-tail y (ys ++ rest) a h))) l.1);
      next = λ n e. record {
        done = done ++ y ∷ [];
        left = ys;
        whole = whole ∙ sym (append_assoc done (y ∷ []) ys);
        count = length-append done (y ∷ []) ∙ omega (arith, many);
        leads = subst (λ z. Leads b z (ys ++ rest) 0) (sym (e ∙ ap (λ z. word_at b z 2) l.0)) l.1;
        last = l.0 ∙ sym (last_of-append 0 done (y ∷ []));
      };
    }

pub Passing-further : (b : Blocks) (table k count stop : ℕ) (front rest : List ℕ) (passed at before : ℕ) → IsChainPlace b table k count stop front rest → Passing b front rest passed at before → at ≢ stop → Further b front rest passed at
Passing-further b table k count stop front rest passed at before p w ne =
    further_by b table k count stop front rest passed at before w.done w.left p w.whole w.count w.leads ne

-- so many holders of a chain were passed, none of which passes a test, by at most a step for each, and for each that
-- passes another test
pub record Walked (b : Blocks) (test alike : ℕ → Bool) (chain : List ℕ) (passed at start now : ℕ) : Type 0 where
  pub rest : List ℕ
  pub count : length rest + passed ≡ length chain
  pub within : (a : ℕ) → contains rest a ≡ true → contains chain a ≡ true
  pub leads : Leads b at rest 0
  pub none : find test chain ≡ find test rest
  pub steps : now ≤ start + passed
  pub few : now + length (filter alike rest) ≤ start + length (filter alike chain)

pub Walked-start : (b : Blocks) (test alike : ℕ → Bool) (table k : ℕ) (chain : List ℕ) (at start : ℕ) → IsSlotChain b table k chain → at ≡ word_at b table k → Walked b test alike chain 0 at start start
Walked-start b test alike table k chain at start c e = record {
  rest = chain;
  count = omega arith;
  within = λ a h. h;
  leads = subst (λ z. Leads b z chain 0) (sym e) c.leads;
  none = refl;
  steps = omega arith;
  few = omega arith;
}

-- the end of the chain
at_end : (b : Blocks) (test : ℕ → Bool) (at : ℕ) (rest : List ℕ) → ((a : ℕ) → contains rest a ≡ true → IsAddress a) → Leads b at rest 0 → at ≡ 0 → find test rest ≡ None
at_end b test at [] f l e = refl
at_end b test at (y ∷ ys) f l e = let w = f y (within-head y ys) in absurd (omega (arith, w.some, l.0, e))

pub Walked-end : (b : Blocks) (test alike : ℕ → Bool) (table k : ℕ) (chain : List ℕ) (passed at start now : ℕ) → IsSlotChain b table k chain → Walked b test alike chain passed at start now → at ≡ 0 → None ≡ find test chain
Walked-end b test alike table k chain passed at start now c w e = sym (w.none ∙ at_end b test at w.rest (λ a h. c.addresses a (w.within a h)) w.leads e)

pub Walked-over : (b : Blocks) (test alike : ℕ → Bool) (chain : List ℕ) (passed at start now : ℕ) → Walked b test alike chain passed at start now → length chain ≤ passed → None ≡ find test chain
Walked-over b test alike chain passed at start now w h =
    sym (w.none ∙ ap (find test) (nil_from_length w.rest (omega (arith, h, w.count))))

-- a holder of it
pub record Next (b : Blocks) (test alike : ℕ → Bool) (chain : List ℕ) (passed at start now : ℕ) : Type 0 where
  pub within : contains chain at ≡ true
  pub words : HasBytes b at 32
  pub fits : word_at b at 2 < 2 ^ 32
  pub room : passed + 1 ≤ length chain
  pub found : test at ≡ true → Some at ≡ find test chain
  pub last : (after : ℕ) → after ≤ now + 1 → (alike at ≡ false → after ≡ now) → after ≤ start + length (filter alike chain)
  pub step : test at ≡ false → (n after : ℕ) → n ≡ word_at b at 2 → after ≤ now + 1 → (alike at ≡ false → after ≡ now) → Walked b test alike chain (passed + 1) n start after

next_by : (b : Blocks) (test alike : ℕ → Bool) (table k : ℕ) (chain : List ℕ) (passed at start now : ℕ) (rest : List ℕ) → IsSlotChain b table k chain → length rest + passed ≡ length chain → ((a : ℕ) → contains rest a ≡ true → contains chain a ≡ true) → Leads b at rest 0 → find test chain ≡ find test rest → now ≤ start + passed → now + length (filter alike rest) ≤ start + length (filter alike chain) → at ≢ 0 → Next b test alike chain passed at start now
next_by b test alike table k chain passed at start now [] c many within l none steps few some = absurd (some l)
next_by b test alike table k chain passed at start now (y ∷ ys) c many within l none steps few some =
    let here : contains chain y ≡ true = within y (within-head y ys) in
    let same : test y ≡ test at = ap test (sym l.0) in
    let fewer_left : (after : ℕ) → after ≤ now + 1 → (alike at ≡ false → after ≡ now) → after + length (filter alike ys) ≤ start + length (filter alike chain)
    = λ after f e. filter-step alike y ys now after (start + length (filter alike chain)) f (λ t. e (ap alike l.0 ∙ t)) few in
    record {
      within = subst (λ z. contains chain z ≡ true) (sym l.0) here;
      words = subst (λ z. HasBytes b z 32) (sym l.0) (fewer b y (c.holders y here));
      fits = subst (λ z. word_at b z 2 < 2 ^ 32) (sym l.0)
          (Leads-fits b (word_at b y 2) ys (λ a h. c.addresses a (within a (within-tail y ys a h))) l.1);
      room = omega (arith, many);
      found = λ t. sym (none ∙ (ap (λ z. cond z (Some y) (find test ys)) (same ∙ t) ∙ ap (λ z. Some z) (sym l.0)));
      last = λ after f u. let left = fewer_left after f u in omega (arith, left);
      step = λ t n after e f u. record {
        rest = ys;
        count = omega (arith, many);
        within = λ a h. within a (within-tail y ys a h);
        leads = subst (λ z. Leads b z ys 0) (sym (e ∙ ap (λ z. word_at b z 2) l.0)) l.1;
        none = none ∙ ap (λ z. cond z (Some y) (find test ys)) (same ∙ t);
        steps = omega (arith, f, steps);
        few = fewer_left after f u;
      };
    }

pub Walked-next : (b : Blocks) (test alike : ℕ → Bool) (table k : ℕ) (chain : List ℕ) (passed at start now : ℕ) → IsSlotChain b table k chain → Walked b test alike chain passed at start now → at ≢ 0 → Next b test alike chain passed at start now
Walked-next b test alike table k chain passed at start now c w some =
    next_by b test alike table k chain passed at start now w.rest c w.count w.within w.leads w.none w.steps w.few some

pub hash-found : (rules : Rules) (b : Blocks) (key : List ℕ) (at : ℕ) → AreLawful rules → has_key rules b key at ≡ true → hash_at rules b at ≡ rules.hash key
hash-found rules b key at law h = law.hashes (rules.key (object_at b at)) key (is-equal (rules.compare (rules.key (object_at b at)) key) h)

other_by : (rules : Rules) (b : Blocks) (key : List ℕ) (at : ℕ) (t : Bool) → AreLawful rules → has_key rules b key at ≡ t → hash_at rules b at ≢ rules.hash key → has_key rules b key at ≡ false
other_by rules b key at true law e ne = absurd (ne (hash-found rules b key at law e))
other_by rules b key at false law e ne = e

pub hash-other : (rules : Rules) (b : Blocks) (key : List ℕ) (at : ℕ) → AreLawful rules → hash_at rules b at ≢ rules.hash key → has_key rules b key at ≡ false
hash-other rules b key at law ne = other_by rules b key at (has_key rules b key at) law refl ne

pub found-in_chain : (rules : Rules) (b : Blocks) (slots : ℕ) (key holders : List ℕ) → AreLawful rules → find (has_key rules b key) (chain_of (hash_at rules b) slots (rules.hash key % slots) holders) ≡ find_key rules b key holders
found-in_chain rules b slots key holders law =
    filter-find (λ a. hash_at rules b a % slots == rules.hash key % slots) (has_key rules b key) holders
    (λ a h. eq-eqb (hash_at rules b a % slots) (rules.hash key % slots) (ap (λ z. z % slots) (hash-found rules b key a law h)))

-- the chain of a key's slot
abbrev pub key_chain : Rules → ℕ → Blocks → List ℕ → List ℕ → List ℕ
key_chain rules slots b key holders = chain_of (hash_at rules b) slots (rules.hash key % slots) holders

-- whether a holder has the key's hash
abbrev pub has_hash : Rules → Blocks → List ℕ → ℕ → Bool
has_hash rules b key at = hash_at rules b at == rules.hash key

-- so many of it were passed, none of which has the key, by at most a compare for each, and for each that has its hash
pub record SlotWalk (rules : Rules) (table slots : ℕ) (b : Blocks) (key holders : List ℕ) (passed at start now : ℕ) : Type 0 where
  pub chain : IsSlotChain b table (rules.hash key % slots) (key_chain rules slots b key holders)
  pub walked : Walked b (has_key rules b key) (has_hash rules b key) (key_chain rules slots b key holders) passed at start now

pub SlotWalk-start : (rules : Rules) (table slots : ℕ) (b : Blocks) (key holders : List ℕ) (hash k at start : ℕ) → hash ≡ rules.hash key → k ≡ hash % slots → IsSlotChain b table k (chain_of (hash_at rules b) slots k holders) → at ≡ word_at b table k → SlotWalk rules table slots b key holders 0 at start start
SlotWalk-start rules table slots b key holders hash k at start he ke chain e =
    let slot = ke ∙ ap (λ z. z % slots) he in
    let here = subst (λ z. IsSlotChain b table z (chain_of (hash_at rules b) slots z holders)) slot chain in
    record {
      chain = here;
      walked = Walked-start b (has_key rules b key) (has_hash rules b key) table (rules.hash key % slots) (key_chain rules slots b key holders) at start here (e ∙ ap (word_at b table) slot);
    }

module _ {rules : Rules} {table slots : ℕ} {b : Blocks} {key holders : List ℕ} {passed at start now : ℕ} (w : SlotWalk rules table slots b key holders passed at start now) where
  abbrev chain : List ℕ
  chain = key_chain rules slots b key holders

  -- at a holder of it
  pub SlotWalk-next : (at == 0) ≡ false → Next b (has_key rules b key) (has_hash rules b key) chain passed at start now
  SlotWalk-next some = Walked-next b (has_key rules b key) (has_hash rules b key) table (rules.hash key % slots) chain passed at start now w.chain w.walked (eqb-false at 0 some)

  pub SlotWalk-further : (at == 0) ≡ false → has_key rules b key at ≡ false → (n after : ℕ) → n ≡ word_at b at 2 → after ≤ now + 1 → (has_hash rules b key at ≡ false → after ≡ now) → SlotWalk rules table slots b key holders (passed + 1) n start after
  SlotWalk-further some other n after e few none = record { chain = w.chain; walked = (SlotWalk-next some).step other n after e few none }

  -- it found one, or nothing at the end or past as many as there are
  pub SlotWalk-found : AreLawful rules → (at == 0) ≡ false → has_key rules b key at ≡ true → (after : ℕ) → after ≤ now + 1 → (has_hash rules b key at ≡ false → after ≡ now) → (found : Addr) → found.0 ≡ at → FindsInSlot rules slots b key holders (Some found) start after
  SlotWalk-found law some has after few none found is =
      let n = SlotWalk-next some in
      let last = n.last after few none in
      let within = filter-both (has_hash rules b key) (λ a. hash_at rules b a % slots == rules.hash key % slots) holders in
      record {
        first = ap (λ z. Some z) is ∙ n.found has ∙ found-in_chain rules b slots key holders law;
        steps = omega (arith, w.walked.steps, n.room, few);
        alike = omega (arith, last, within);
      }

  nothing : AreLawful rules → None ≡ find (has_key rules b key) chain → FindsInSlot rules slots b key holders None start now
  nothing law none =
      let left = w.walked.few in
      let within = filter-both (has_hash rules b key) (λ a. hash_at rules b a % slots == rules.hash key % slots) holders in
      record {
        first = none ∙ found-in_chain rules b slots key holders law;
        steps = omega (arith, w.walked.steps, w.walked.count);
        alike = omega (arith, left, within);
      }

  pub SlotWalk-end : AreLawful rules → (at == 0) ≡ true → FindsInSlot rules slots b key holders None start now
  SlotWalk-end law e = nothing law (Walked-end b (has_key rules b key) (has_hash rules b key) table (rules.hash key % slots) chain passed at start now w.chain w.walked (eqb-true at 0 e))

  pub SlotWalk-over : AreLawful rules → length chain ≤ passed → FindsInSlot rules slots b key holders None start now
  SlotWalk-over law all = nothing law (Walked-over b (has_key rules b key) (has_hash rules b key) chain passed at start now w.walked all)
