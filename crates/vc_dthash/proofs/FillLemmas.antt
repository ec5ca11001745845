-- A table that is cleared, and filled with chains from the last holder to the first.
use Rattle.vc_base.proofs.Common.{◌≡◌, ℕ, ◌+◌, ◌*◌, ◌%◌, ◌^◌, ◌<◌, ◌≤◌, true, false, ◌≢◌, List, [], ◌∷◌, ◌++◌, length, sym, refl, ap, ◌∙◌, subst, inl, inr, append_assoc, append-nil, arith, length-append, eqb_tells, Blocks, HasBytes, word_at, AreDistinct, contains}
use Rattle.vc_base.specs.Holders.{last_of}
use Rattle.vc_base.proofs.Members.{apart-head, apart-cons, apart-rest, within-head, within-rest, differs}
use Rattle.vc_dtlist.specs.declared.dt_list.DtList.{DtList}
use Rattle.vc_dtlist.specs.TableWrites.{KeepsTables}
use Rattle.vc_dtlist.specs.Linked.{Chain, LinksFor}
use Rattle.vc_dtlist.proofs.AddressLemmas.{LinksFor-holders}
use Rattle.vc_dtlist.proofs.ChainLemmas.{Chain-front}
use Rattle.vc_dtlist.proofs.HolderLemmas.{distinct-rest}
use Rattle.vc_dtlist.proofs.KeptLemmas.{KeepsBut-none, KeepsTables-but, LinksFor-same}
use Rattle.vc_dtlist.proofs.TurnLemmas.{fewer, last_fits, previous_word}
use Rattle.vc_dthash.specs.Chained.{AreChained}
use Rattle.vc_dthash.specs.ChainWrites.{CanFront, Cleared, Filled, Fronted, SlotWritten}
use Rattle.vc_dthash.proofs.ChainLemmas.{chains-fronted}
use Rattle.vc_dthash.proofs.WriteLemmas.{body-same}

-- a block that isn't the one table
other : (table a : ℕ) → contains (table ∷ []) a ≡ false → a ≢ table
other table a h e = apart-head table [] a h (sym e)

-- a slot lies in its table
pub slot-place : (b : Blocks) (table k slots : ℕ) → HasBytes b table (8 * slots) → k < slots → HasBytes b table (8 * k + 8)
slot-place b table k slots h small = record { there = h.there; enough = omega (arith, h.enough, small) }

-- holders stay linked over a table that is cleared
pub links-cleared : (list : DtList) (b0 b1 : Blocks) (table slots : ℕ) (xs : List ℕ) → Cleared b0 b1 table slots → contains xs table ≡ false → LinksFor list b0 xs → LinksFor list b1 xs
links-cleared list b0 b1 table slots xs c apart l =
    LinksFor-same list b0 b1 xs (λ a h. c.keeps.others a (apart-cons table [] a (λ e. differs xs a table h apart (sym e)) refl) refl) l

-- slots that are cleared, one after another
pub Cleared-start : (b : Blocks) (table : ℕ) → Cleared b b table 0
Cleared-start b table = record {
  zeros = λ k h. absurd (omega (arith, h));
  keeps = KeepsTables-but (table ∷ []) [] b b (KeepsBut-none [] b);
}

pub Cleared-next : (b0 b b' : Blocks) (table k : ℕ) → Cleared b0 b table k → SlotWritten b b' table k 0 → Cleared b0 b' table (k + 1)
Cleared-next b0 b b' table k c w = record {
  zeros = λ j h. elim (eqb_tells j k) as (λ _. word_at b' table j ≡ 0) [
    | inl same ↦ subst (λ z. word_at b' table z ≡ 0) (sym same.1) w.read
    | inr apart ↦ w.slots j apart.1 ∙ c.zeros j (omega (arith, h, apart.1))
  ];
  keeps = record {
    there = λ a. w.there a ∙ c.keeps.there a;
    sizes = λ a. w.sizes a ∙ c.keeps.sizes a;
    bodies = λ a h. body-same b b' a (w.others a (other table a h)) ∙ c.keeps.bodies a h;
    others = λ a h n. w.others a (other table a h) ∙ c.keeps.others a h n;
  };
}

-- so many holders stand in their chains, and the next to be put there is at that address
pub record Filling (b0 b : Blocks) (table slots : ℕ) (holders : List ℕ) (passed at : ℕ) : Type 0 where
  pub front : List ℕ
  pub rest : List ℕ
  pub whole : holders ≡ front ++ rest
  pub count : length rest ≡ passed
  pub next : at ≡ last_of 0 front
  pub chains : AreChained (λ a. word_at b0 a 3) b table slots rest
  pub words : (a j : ℕ) → a ≢ table → j ≢ 2 → word_at b a j ≡ word_at b0 a j
  pub keeps : KeepsTables (table ∷ []) holders b0 b

pub Filling-start : (list : DtList) (b : Blocks) (table slots : ℕ) (xs : List ℕ) → LinksFor list b xs → ((k : ℕ) → k < slots → word_at b table k ≡ 0) → Filling b b table slots xs 0 list.last.0
Filling-start list b table slots xs l zeros = record {
  front = xs;
  rest = [];
  whole = sym (append-nil xs);
  count = refl;
  next = l.last;
  chains = zeros;
  words = λ a j ne nj. refl;
  keeps = KeepsTables-but (table ∷ []) xs b b (KeepsBut-none xs b);
}

-- a list ends with its last
record Ending (xs : List ℕ) : Type 0 where
  front : List ℕ
  whole : xs ≡ front ++ last_of 0 xs ∷ []

ending_by : (x : ℕ) (xs : List ℕ) → Ending (x ∷ xs)
ending_by x [] = record { front = []; whole = refl }
ending_by x (y ∷ ys) =
    let e = ending_by y ys in
    record { front = x ∷ e.front; whole = ap (λ z. x ∷ z) e.whole }

ending : (xs : List ℕ) → 1 ≤ length xs → Ending xs
ending [] h = absurd (omega (arith, h))
ending (x ∷ xs) h = ending_by x xs

-- where the next one stands in the list
pub record Due (xs rest : List ℕ) (at : ℕ) : Type 0 where
  pub front : List ℕ
  pub whole : xs ≡ front ++ at ∷ rest

due_by : (xs front rest : List ℕ) (at : ℕ) → xs ≡ front ++ rest → at ≡ last_of 0 front → Ending front → Due xs rest at
due_by xs front rest at whole e end = record {
  front = end.front;
  whole = whole ∙ (ap (λ z. z ++ rest) (end.whole ∙ ap (λ z. end.front ++ z ∷ []) (sym e)) ∙ append_assoc end.front (at ∷ []) rest);
}

pub due : (b0 b : Blocks) (table slots : ℕ) (xs : List ℕ) (passed at : ℕ) (w : Filling b0 b table slots xs passed at) → passed < length xs → Due xs w.rest at
due b0 b table slots xs passed at w h =
    due_by xs w.front w.rest at w.whole w.next (ending w.front (omega (arith, h, w.count, ap length w.whole ∙ length-append w.front w.rest)))

due_within : (xs rest : List ℕ) (at : ℕ) (d : Due xs rest at) → contains xs at ≡ true
due_within xs rest at d = subst (λ z. contains z at ≡ true) (sym d.whole) (within-rest d.front (at ∷ rest) at (within-head at rest))

-- it can be put there
pub Filling-front : (list : DtList) (b0 b : Blocks) (table slots : ℕ) (xs : List ℕ) (passed at : ℕ) → LinksFor list b0 xs → contains xs table ≡ false → HasBytes b0 table (8 * slots) → 1 ≤ slots → Filling b0 b table slots xs passed at → passed < length xs → CanFront b table slots at
Filling-front list b0 b table slots xs passed at l apart place some w h =
    let within = due_within xs w.rest at (due b0 b table slots xs passed at w h) in
    let holder = fewer b0 at ((LinksFor-holders list b0 xs l).there at within) in
    record {
      place = record { there = w.keeps.there table ∙ place.there; enough = rw (w.keeps.sizes table) place.enough };
      some = some;
      holder = record { there = w.keeps.there at ∙ holder.there; enough = rw (w.keeps.sizes at) holder.enough };
      apart = differs xs at table within apart;
    }

-- its first word tells the next one
before_due : (list : DtList) (b0 : Blocks) (xs rest : List ℕ) (at : ℕ) → LinksFor list b0 xs → (d : Due xs rest at) → (word_at b0 at 0 ≡ last_of 0 d.front) × (last_of 0 d.front < 2 ^ 32)
before_due list b0 xs rest at l d =
    let chain : Chain b0 0 (d.front ++ at ∷ rest) 0 = subst (λ z. Chain b0 0 z 0) d.whole l.chain in
    (previous_word b0 d.front at rest chain, last_fits b0 d.front at (Chain-front b0 0 d.front (at ∷ rest) 0 chain))

pub Filling-fits : (list : DtList) (b0 b b' : Blocks) (table slots k : ℕ) (xs : List ℕ) (passed at : ℕ) → LinksFor list b0 xs → contains xs table ≡ false → Filling b0 b table slots xs passed at → passed < length xs → Fronted b b' table k at → word_at b' at 0 < 2 ^ 32
Filling-fits list b0 b b' table slots k xs passed at l apart w h f =
    let d = due b0 b table slots xs passed at w h in
    let ne = differs xs at table (due_within xs w.rest at d) apart in
    let first = before_due list b0 xs w.rest at l d in
    let same : word_at b' at 0 ≡ last_of 0 d.front = f.words at 0 ne (omega arith) ∙ (w.words at 0 ne (omega arith) ∙ first.0) in
    let fits = first.1 in
    omega (arith, same, fits)

pub Filling-next : (list : DtList) (b0 b b' : Blocks) (table slots : ℕ) (xs : List ℕ) (passed at n : ℕ) → LinksFor list b0 xs → contains xs table ≡ false → Filling b0 b table slots xs passed at → passed < length xs → Fronted b b' table (word_at b at 3 % slots) at → n ≡ word_at b' at 0 → Filling b0 b' table slots xs (passed + 1) n
Filling-next list b0 b b' table slots xs passed at n l apart w h f e =
    let d = due b0 b table slots xs passed at w h in
    let within = due_within xs w.rest at d in
    let ne = differs xs at table within apart in
    let first = before_due list b0 xs w.rest at l d in
    let distinct : AreDistinct (d.front ++ at ∷ w.rest) = subst AreDistinct d.whole l.distinct in
    let alone = distinct-rest d.front (at ∷ w.rest) distinct in
    let rest_apart : contains w.rest table ≡ false = apart-rest w.front w.rest table (subst (λ z. contains z table ≡ false) w.whole apart) in
    record {
      front = d.front;
      rest = at ∷ w.rest;
      whole = d.whole;
      count = omega (arith, w.count);
      next = e ∙ (f.words at 0 ne (omega arith) ∙ (w.words at 0 ne (omega arith) ∙ first.0));
      chains = chains-fronted (λ a. word_at b0 a 3) b b' table slots (word_at b at 3 % slots) at w.rest w.chains (ap (λ z. z % slots) (w.words at 3 ne (omega arith))) alone.0 rest_apart f;
      words = λ a j na nj. f.words a j na nj ∙ w.words a j na nj;
      keeps = record {
        there = λ a. f.there a ∙ w.keeps.there a;
        sizes = λ a. f.sizes a ∙ w.keeps.sizes a;
        bodies = λ a t. f.bodies a (other table a t) ∙ w.keeps.bodies a t;
        others = λ a t o. f.others a (other table a t) (λ q. differs xs at a within o (sym q)) ∙ w.keeps.others a t o;
      };
    }

-- all are put there
none_before : (front rest : List ℕ) → length front ≡ 0 → front ++ rest ≡ rest
none_before [] rest h = refl
none_before (x ∷ xs) rest h = absurd (omega (arith, h))

pub Filling-end : (b0 b : Blocks) (table slots : ℕ) (xs : List ℕ) (passed at : ℕ) → Filling b0 b table slots xs passed at → length xs ≤ passed → Filled table slots xs b0 b
Filling-end b0 b table slots xs passed at w h =
    let all : w.rest ≡ xs = sym (w.whole ∙ none_before w.front w.rest (omega (arith, h, w.count, ap length w.whole ∙ length-append w.front w.rest))) in
    record {
      chains = subst (λ z. AreChained (λ a. word_at b0 a 3) b table slots z) all w.chains;
      words = w.words;
      keeps = w.keeps;
    }
