-- A walk along a list that looks for a key.
use Rattle.vc_base.proofs.Common.{◌≡◌, ℕ, ◌+◌, ◌^◌, ◌<◌, ◌≤◌, Bool, true, false, cond, ◌≢◌, List, [], ◌∷◌, ◌++◌, length, Some, None, find, Ordering, sym, refl, ap, ◌∙◌, subst, append_assoc, arith, length-append, Blocks, HasBytes, word_at, first_of}
use Rattle.vc_base.specs.declared.addr.Addr.{Addr}
use Rattle.vc_base.specs.Holders.{last_of}
use Rattle.vc_dtdisc.specs.Finds.{object_at}
use Rattle.vc_dtdisc.specs.Rules.{Rules}
use Rattle.vc_dtlist.specs.declared.dt_list.DtList.{DtList}
use Rattle.vc_dtlist.specs.declared.sought.Sought.{Sought}
use Rattle.vc_dtlist.specs.Sought.{Seeks, is_sought, stands_so}
use Rattle.vc_dtlist.specs.Linked.{Chain, StandsFor}
use Rattle.vc_dtlist.proofs.AddressLemmas.{LinksFor-holders, few-holders}
use Rattle.vc_dtlist.proofs.ChainLemmas.{Chain-rest}
use Rattle.vc_dtlist.proofs.TurnLemmas.{first_fits, fewer}

-- so many holders were passed, none of which has the key, by a step for each; the next one stands at that address
pub record Walked (test : ℕ → Bool) (holders : List ℕ) (passed at before now : ℕ) : Type 0 where
  pub front : List ℕ
  pub rest : List ℕ
  pub whole : holders ≡ front ++ rest
  pub count : length front ≡ passed
  pub next : at ≡ first_of rest 0
  pub none : find test holders ≡ find test rest
  pub steps : now ≡ before + passed

-- what a walk that isn't at the end knows of the holder there
pub record Next (b : Blocks) (test : ℕ → Bool) (holders : List ℕ) (passed at before now : ℕ) : Type 0 where
  pub words : HasBytes b at 32
  pub fits : word_at b at 1 < 2 ^ 32
  pub room : passed + 1 ≤ length holders
  pub found : test at ≡ true → find test holders ≡ Some at
  pub step : test at ≡ false → (next : ℕ) → next ≡ word_at b at 1 → Walked test holders (passed + 1) next before (now + 1)

-- at the start
pub walk_start : (test : ℕ → Bool) (list : DtList) (b : Blocks) (holders : List ℕ) (before : ℕ) → StandsFor list b holders → Walked test holders 0 list.first.0 before before
walk_start test list b holders before s = record {
  front = [];
  rest = holders;
  whole = refl;
  count = refl;
  next = s.links.first;
  none = refl;
  steps = omega arith;
}

next_at : (b : Blocks) (test : ℕ → Bool) (holders : List ℕ) (passed at before now : ℕ) (front rest : List ℕ) → holders ≡ front ++ rest → length front ≡ passed → at ≡ first_of rest 0 → find test holders ≡ find test rest → now ≡ before + passed → Chain b 0 holders 0 → at ≢ 0 → Next b test holders passed at before now
next_at b test holders passed at before now front [] whole count e none steps chain some = absurd (some e)
next_at b test holders passed at before now front (y ∷ ys) whole count e none steps chain some =
    let c : Chain b (last_of 0 front) (y ∷ ys) 0 = Chain-rest b 0 front (y ∷ ys) 0 (subst (λ z. Chain b 0 z 0) whole chain) in
    let long : length holders ≡ length front + length (y ∷ ys) = ap length whole ∙ length-append front (y ∷ ys) in
    record {
      words = rw e (fewer b y c.0.holder);
      fits = rw (e, c.0.next) (first_fits b y ys c.1);
      room = omega arith;
      found = λ t. none ∙ ap (λ z. cond z (Some y) (find test ys)) (ap test (sym e) ∙ t) ∙ ap (λ z. Some z) (sym e);
      step = λ t next n. record {
        front = front ++ y ∷ [];
        rest = ys;
        whole = whole ∙ sym (append_assoc front (y ∷ []) ys);
        count = length-append front (y ∷ []) ∙ omega arith;
        next = n ∙ ap (λ z. word_at b z 1) e ∙ c.0.next;
        none = none ∙ ap (λ z. cond z (Some y) (find test ys)) (ap test (sym e) ∙ t);
        steps = omega arith;
      };
    }

-- before the end
pub walk_next : (test : ℕ → Bool) (list : DtList) (b : Blocks) (holders : List ℕ) (passed at before now : ℕ) → StandsFor list b holders → Walked test holders passed at before now → at ≢ 0 → Next b test holders passed at before now
walk_next test list b holders passed at before now s w some =
    next_at b test holders passed at before now w.front w.rest w.whole w.count w.next w.none w.steps s.links.chain some

-- an end, by its address
end_none : (b : Blocks) (p : ℕ) (test : ℕ → Bool) (rest : List ℕ) → Chain b p rest 0 → 0 ≡ first_of rest 0 → find test rest ≡ None
end_none b p test [] c e = refl
end_none b p test (y ∷ ys) c e = absurd (omega (arith, c.0.address.some, e))

short_none : (test : ℕ → Bool) (rest : List ℕ) → length rest ≡ 0 → find test rest ≡ None
short_none test [] e = refl
short_none test (y ∷ ys) e = absurd (omega arith)

-- nothing was found
nothing : (test : ℕ → Bool) (holders : List ℕ) (passed at before now : ℕ) → Walked test holders passed at before now → find test holders ≡ None → Seeks test holders None before now
nothing test holders passed at before now w e =
    let long : length holders ≡ length w.front + length w.rest = ap length w.whole ∙ length-append w.front w.rest in
    record { first = sym e; steps = omega (arith, w.count, w.steps) }

pub Seeks-none : (test : ℕ → Bool) (list : DtList) (b : Blocks) (holders : List ℕ) (passed at before now : ℕ) → StandsFor list b holders → Walked test holders passed at before now → at ≡ 0 → Seeks test holders None before now
Seeks-none test list b holders passed at before now s w e =
    let rest = Chain-rest b 0 w.front w.rest 0 (subst (λ z. Chain b 0 z 0) w.whole s.links.chain) in
    nothing test holders passed at before now w (w.none ∙ end_none b (last_of 0 w.front) test w.rest rest (sym e ∙ w.next))

pub Seeks-some : (test : ℕ → Bool) (list : DtList) (b : Blocks) (holders : List ℕ) (passed before now after : ℕ) (at : Addr) → StandsFor list b holders → Walked test holders passed at.0 before now → at.0 ≢ 0 → test at.0 ≡ true → after ≡ now + 1 → Seeks test holders (Some at) before after
Seeks-some test list b holders passed before now after at s w some t step =
    let n = walk_next test list b holders passed at.0 before now s w some in
    record { first = sym (n.found t); steps = omega (arith, n.room, w.steps) }

pub Seeks-all_passed : (test : ℕ → Bool) (list : DtList) (b : Blocks) (holders : List ℕ) (passed at before now : ℕ) → StandsFor list b holders → Walked test holders passed at before now → 2 ^ 32 ≤ passed + 1 → Seeks test holders None before now
Seeks-all_passed test list b holders passed at before now s w end =
    let few = few-holders b holders (LinksFor-holders list b holders s.links) in
    let long : length holders ≡ length w.front + length w.rest = ap length w.whole ∙ length-append w.front w.rest in
    let short : length w.rest ≡ 0 = omega (arith, w.count) in
    nothing test holders passed at before now w (w.none ∙ short_none test w.rest short)

-- the test of the holder there is the answer of these calls
pub test-is : (sought : Sought) (rules : Rules) (b : Blocks) (key : List ℕ) (at : ℕ) (object k : List ℕ) (o : Ordering) (r : Bool) → object ≡ object_at b at → k ≡ rules.key object → o ≡ rules.compare k key → r ≡ is_sought sought o → stands_so sought rules b key at ≡ r
test-is sought rules b key at object k o r e f g h = sym (h ∙ ap (is_sought sought) (g ∙ ap (λ z. rules.compare z key) (f ∙ ap rules.key e)))

-- one more holder was passed
pub walk_on : (test : ℕ → Bool) (list : DtList) (b : Blocks) (holders : List ℕ) (passed at next before now after : ℕ) → StandsFor list b holders → Walked test holders passed at before now → at ≢ 0 → test at ≡ false → next ≡ word_at b at 1 → after ≡ now + 1 → Walked test holders (passed + 1) next before after
walk_on test list b holders passed at next before now after s w some t n step =
    let on = (walk_next test list b holders passed at before now s w some).step t next n in
    subst (λ z. Walked test holders (passed + 1) next before z) (sym step) on
