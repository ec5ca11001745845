-- A run of calls, some of which were made.
use Rattle.vc_base.proofs.Common.{◌≡◌, ℕ, ◌+◌, ◌*◌, ◌<◌, ◌≤◌, ◌≢◌, All, All-head, All-tail, All-weaker, true, false, List, [], ◌∷◌, ◌++◌, length, max, get_or, drop, drop_all, at_drop_more, refl, sym, ap, ◌∙◌, subst, arith, AreDistinct, Blocks, IsHolder, KeepsBut, contains}
use Rattle.vc_base.proofs.Members.{apart-cons, differs, within-head, within-rest}
use Rattle.vc_dtdisc.specs.Rules.{Rules}
use Rattle.vc_dtlist.proofs.HolderLemmas.{apart-append, distinct-rest}
use Rattle.vc_splay.specs.Rank.{binary_digits}
use Rattle.vc_dtord.specs.declared.dt_ord.DtOrd.{DtOrd}
use Rattle.vc_dtord.specs.Ordered.{OrdFor, OrdTurned}
use Rattle.vc_cost.specs.declared.ord_call.OrdCall.{OrdCall}
use Rattle.vc_cost.specs.declared.ord_call.OrdCall.TheVariants.{Link, Take, Find, AtLeast}
use Rattle.vc_cost.specs.declared.tally.Made.{Made}
use Rattle.vc_cost.specs.declared.tally.Made.TheVariants.{Linked, Taken, Found, Missed}
use Rattle.vc_cost.specs.Calls.{AreDistinctHolders, CanCall, after_call, after_calls, calls_made, found_count, greatest_count, linked, linked_by}
use Rattle.vc_cost.specs.Costs.{IsMade}
use Rattle.vc_cost.specs.Made.{came, found_by, went}
use Rattle.vc_cost.proofs.SumLemmas.{AreMade, apart-call, found-kept, greatest-kept, made_none, made_sum, made_then}

-- the calls can be made in turn: what they link are holders, none twice, and none of them is in the list
pub record CanRun (blocks : Blocks) (calls : List OrdCall) (holders : List ℕ) : Type 0 where
  pub distinct : AreDistinct (linked calls)
  pub there : All (IsHolder blocks) (linked calls)
  pub apart : (a : ℕ) → contains (linked calls) a ≡ true → contains holders a ≡ false

pub can_call : (b : Blocks) (call : OrdCall) (calls : List OrdCall) (xs : List ℕ) → CanRun b (call ∷ calls) xs → CanCall b call xs
can_call b (Link at) calls xs h = (h.apart at.0 (within-head at.0 (linked calls)), All-head (IsHolder b) at.0 (linked calls) h.there)
can_call b (Take key) calls xs h = tt
can_call b (Find key) calls xs h = tt
can_call b (AtLeast key) calls xs h = tt

-- none of those that the others link is linked by the call, and those that they link are there
own-apart : (call : OrdCall) (rest : List ℕ) (a : ℕ) → AreDistinct (linked_by call ++ rest) → contains rest a ≡ true → contains (linked_by call) a ≡ false
own-apart (Link at) rest a d k = let ne : a ≢ at.0 = differs rest a at.0 k d.0 in apart-cons at.0 [] a (λ e. ne (sym e)) refl
own-apart (Take key) rest a d k = refl
own-apart (Find key) rest a d k = refl
own-apart (AtLeast key) rest a d k = refl

rest-there : (b : Blocks) (call : OrdCall) (rest : List ℕ) → All (IsHolder b) (linked_by call ++ rest) → All (IsHolder b) rest
rest-there b (Link at) rest h = All-tail (IsHolder b) at.0 rest h
rest-there b (Take key) rest h = h
rest-there b (Find key) rest h = h
rest-there b (AtLeast key) rest h = h

can_next : (rules : Rules) (b b' : Blocks) (ws : List ℕ) (call : OrdCall) (calls : List OrdCall) (xs : List ℕ) → KeepsBut ws b b' → CanRun b (call ∷ calls) xs → CanRun b' calls (after_call rules b call xs)
can_next rules b b' ws call calls xs k h = record {
  distinct = distinct-rest (linked_by call) (linked calls) h.distinct;
  there = All-weaker (IsHolder b) (IsHolder b') (λ a i. record { there = k.there a ∙ i.there; enough = rw (k.sizes a) i.enough }) (linked calls) (rest-there b call (linked calls) h.there);
  apart = λ a i.
      apart-call rules b call xs a
      (own-apart call (linked calls) a h.distinct i)
      (h.apart a (within-rest (linked_by call) (linked calls) a i));
}

-- some calls of a list were made, and these are left: with them made too all were, and what is counted so far and what they
-- add is what is counted of all
pub record AreLeft (rules : Rules) (calls left : List OrdCall) (first : DtOrd) (before : Blocks) (start : ℕ) (ord : DtOrd) (b : Blocks) (now count greatest found : ℕ) : Type 0 where
  pub holders : List ℕ
  pub stands : OrdFor rules ord b holders
  pub can : CanRun b left holders
  pub all : (new : DtOrd) (after : Blocks) (last : ℕ) → AreMade rules left holders ord b new after now last → AreMade rules calls [] first before new after start last
  pub counted : count ≡ length holders
  pub most : max greatest (greatest_count rules b left holders) ≡ greatest_count rules before calls []
  pub finds : found + found_count rules b left holders ≡ found_count rules before calls []

pub left_all : (rules : Rules) (calls : List OrdCall) (ord : DtOrd) (b : Blocks) (start : ℕ) → OrdFor rules ord b [] → AreDistinctHolders b (linked calls) → AreLeft rules calls calls ord b start ord b start 0 0 0
left_all rules calls ord b start s h = record {
  holders = [];
  stands = s;
  can = record { distinct = h.distinct; there = h.holders; apart = λ a k. refl };
  all = λ new after last m. m;
  counted = refl;
  most = omega arith;
  finds = omega arith;
}

pub left_next : (rules : Rules) (calls : List OrdCall) (call : OrdCall) (left : List OrdCall) (first : DtOrd) (before : Blocks) (start : ℕ) (ord mid : DtOrd) (b b' : Blocks) (now later count greatest found count' greatest' found' : ℕ) (made : Made)
    → (h : AreLeft rules calls (call ∷ left) first before start ord b now count greatest found)
    → IsMade rules call h.holders ord b mid b' now later made
    → count' + went made ≡ count + came made → greatest' ≡ max greatest count' → found' ≡ found + found_by made
    → AreLeft rules calls left first before start mid b' later count' greatest' found'
left_next rules calls call left first before start ord mid b b' now later count greatest found count' greatest' found' made h k c g f =
    let ys = after_call rules b call h.holders in
    let bodies = k.turned.keeps.bodies in
    let same = greatest-kept rules b b' bodies left ys in
    let same_found = found-kept rules b b' bodies left ys in
    let counted : count' ≡ length ys = omega (arith, h.counted, k.count, c) in
    record {
      holders = ys;
      stands = k.turned.stands;
      can = can_next rules b b' (linked_by call ++ h.holders) call left h.holders k.turned.keeps h.can;
      all = λ new after last m. h.all new after last (made_then rules call left h.holders ord mid new b b' after now later last made k m);
      counted = counted;
      most = omega (arith, h.most, same, g, counted);
      finds = omega (arith, h.finds, same_found, f, k.found);
    }

-- where none is left, all were made
module _ (rules : Rules) (items calls : List OrdCall) (i : ℕ) (first : DtOrd) (before : Blocks) (start : ℕ) (ord : DtOrd) (b : Blocks) (now count greatest found : ℕ) (same : items ≡ calls) (end : length items ≤ i) (h : AreLeft rules items (drop i items) first before start ord b now count greatest found) where
  pub left_none : AreMade rules calls [] first before ord b start now
  left_none =
      let none = subst (λ z. AreMade rules z h.holders ord b ord b now now) (sym (drop_all i items end)) (made_none rules h.holders ord b now h.stands) in
      subst (λ z. AreMade rules z [] first before ord b start now) same (h.all ord b now none)

  pub left_turned : OrdTurned rules (linked calls) before ord b (after_calls rules before calls [])
  left_turned = record {
    stands = left_none.stands;
    keeps = record {
      there = left_none.keeps.there;
      sizes = left_none.keeps.sizes;
      bodies = left_none.keeps.bodies;
      others = λ a apart. left_none.keeps.others a (apart-append (linked calls) [] a apart refl);
    };
  }

  left_greatest : greatest ≡ greatest_count rules before calls []
  left_greatest =
      let none = ap (λ z. greatest_count rules b z h.holders) (drop_all i items end) in
      let all = ap (λ z. greatest_count rules before z []) same in
      omega (arith, h.most, none, all)

  pub left_cost : OrdFor rules first before [] → now ≤ start + calls_made calls * (30 * binary_digits greatest + 30)
  left_cost s =
      subst (λ n. now ≤ start + calls_made calls * (30 * binary_digits n + 30)) (sym left_greatest)
      (made_sum rules calls first ord before b start now s left_none)

-- a call brings at most one holder, and finds at most one object
pub came-one : (made : Made) → came made ≤ 1
came-one Linked = omega arith
came-one Taken = omega arith
came-one Found = omega arith
came-one Missed = omega arith

pub found-one : (made : Made) → found_by made ≤ 1
found-one Linked = omega arith
found-one Taken = omega arith
found-one Found = omega arith
found-one Missed = omega arith

-- the calls that are left from a place on begin with the one there
pub next-left : (items : List OrdCall) (i : ℕ) (call : OrdCall) → i < length items → call ≡ get_or items i call → drop i items ≡ call ∷ drop (i + 1) items
next-left items i call h e = at_drop_more (λ z. z) items i call h ∙ ap (λ z. z ∷ drop (i + 1) items) (sym e)
