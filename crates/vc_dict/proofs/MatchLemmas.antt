-- A walk along a list behind one of its holders, to the last that matches it.
use Rattle.vc_base.proofs.Common.{◌≡◌, ℕ, ◌+◌, ◌≤◌, true, List, [], ◌∷◌, ◌++◌, length, if◌then◌else◌, Some, None, Option, option_map, filter, sym, refl, ap, ◌∙◌, subst, append_assoc, arith, length-append, nil_from_length, Blocks, contains, first_in, next_in}
use Rattle.vc_base.specs.declared.addr.Addr.{Addr}
use Rattle.vc_base.specs.Holders.{AreDistinct, last_of}
use Rattle.vc_base.proofs.Members.{next_in-split, within-head, within-rest}
use Rattle.vc_dtdisc.specs.Finding as finding
use Rattle.vc_dtdisc.specs.Rules.{AreLawful, Rules}
use Rattle.vc_dtlist.specs.declared.dt_list.DtList.{DtList}
use Rattle.vc_dtlist.specs.Linked.{StandsFor, number_of}
use Rattle.vc_dtlist.proofs.HolderLemmas.{split}
use Rattle.vc_dthash.proofs.FilterLemmas.{front-apart}
use Rattle.vc_dthash.proofs.TrailLemmas.{alike-itself, last-passing, named_by}
use Rattle.vc_dtord.specs.Seeking.{SeeksLast, matches}

-- where one stands among the holders of a list
pub record Placed (list : DtList) (b : Blocks) (at : ℕ) : Type 0 where
  pub front : List ℕ
  pub rest : List ℕ
  pub stands : StandsFor list b (front ++ at ∷ rest)

pub placed : {list : DtList} {b : Blocks} {at : ℕ} (holders : List ℕ) → StandsFor list b holders → contains holders at ≡ true → Placed list b at
placed {list = list} {b = b} {at = at} holders s within =
    let place = split holders at within in
    record { front = place.front; rest = place.rest; stands = subst (StandsFor list b) place.whole s }

-- so many holders behind it were passed, of which the last that matches it is named, by a step for each; the next is that one
pub record Trail (rules : Rules) (b : Blocks) (at : ℕ) (rest : List ℕ) (passed : ℕ) (next : Option Addr) (last start now : ℕ) : Type 0 where
  pub done : List ℕ
  pub left : List ℕ
  pub whole : rest ≡ done ++ left
  pub count : length left + passed ≡ length rest
  pub told : option_map number_of next ≡ first_in left
  pub named : last_of last (filter (matches rules b at) left) ≡ last_of at (filter (matches rules b at) rest)
  pub few : now + length left ≤ start + length rest

-- all were passed
pub record Passed (rules : Rules) (b : Blocks) (at : ℕ) (rest : List ℕ) (last start now : ℕ) : Type 0 where
  pub named : last ≡ last_of at (filter (matches rules b at) rest)
  pub few : now ≤ start + length rest

-- a holder behind it
pub record TrailNext (rules : Rules) (b : Blocks) (at : ℕ) (holders rest : List ℕ) (passed : ℕ) (other : Addr) (last start now : ℕ) : Type 0 where
  pub within : contains holders other.0 ≡ true
  pub step : (on : Option Addr) (name after : ℕ) → option_map number_of on ≡ next_in other.0 holders → name ≡ (if matches rules b at other.0 then other.0 else last) → after ≡ now + 1
      → Trail rules b at rest (passed + 1) on name start after

all-passed : (rules : Rules) (b : Blocks) (at : ℕ) (rest : List ℕ) (last start now : ℕ) (left : List ℕ) → left ≡ [] → last_of last (filter (matches rules b at) left) ≡ last_of at (filter (matches rules b at) rest) → now + length left ≤ start + length rest → Passed rules b at rest last start now
all-passed rules b at rest last start now [] e named few = record { named = named; few = omega (arith, few) }
all-passed rules b at rest last start now (y ∷ ys) e named few = absurd (cc)

none-left : (left : List ℕ) → None ≡ first_in left → left ≡ []
none-left [] e = refl
none-left (y ∷ ys) e = absurd (cc)

module _ {list : DtList} {b : Blocks} {at : ℕ} (p : Placed list b at) where
  abbrev holders : List ℕ
  holders = p.front ++ at ∷ p.rest

  behind-split : (front : List ℕ) (x : ℕ) (rest : List ℕ) → holders ≡ front ++ x ∷ rest → next_in x holders ≡ first_in rest
  behind-split front x rest e =
      ap (next_in x) e ∙ next_in-split front x rest (front-apart front (x ∷ rest) x (subst (λ z. AreDistinct z) e p.stands.links.distinct) (within-head x rest))

module _ {rules : Rules} {list : DtList} {b : Blocks} {at : ℕ} (p : Placed list b at) where
  pub Trail-start : (next : Option Addr) (start : ℕ) → option_map number_of next ≡ next_in at (holders p) → Trail rules b at p.rest 0 next at start start
  Trail-start next start e = record {
    done = [];
    left = p.rest;
    whole = refl;
    count = omega arith;
    told = e ∙ behind-split p p.front at p.rest refl;
    named = refl;
    few = omega arith;
  }

  next_in_left : (passed : ℕ) (other : Addr) (last start now : ℕ) (done left : List ℕ) → p.rest ≡ done ++ left → length left + passed ≡ length p.rest → Some other.0 ≡ first_in left
      → last_of last (filter (matches rules b at) left) ≡ last_of at (filter (matches rules b at) p.rest) → now + length left ≤ start + length p.rest → TrailNext rules b at (holders p) p.rest passed other last start now
  next_in_left passed other last start now done [] whole count told named few = absurd (cc)
  next_in_left passed other last start now done (y ∷ ys) whole count told named few =
      let same : other.0 ≡ y = cc in
      let parts : (holders p) ≡ (p.front ++ at ∷ done) ++ y ∷ ys = ap (λ z. p.front ++ at ∷ z) whole ∙ sym (append_assoc p.front (at ∷ done) (y ∷ ys)) in
      record {
        within = subst (λ z. contains (holders p) z ≡ true) (sym same) (subst (λ z. contains z y ≡ true) (sym parts) (within-rest (p.front ++ at ∷ done) (y ∷ ys) y (within-head y ys)));
        step = λ on name after e n f. record {
          done = done ++ y ∷ [];
          left = ys;
          whole = whole ∙ sym (append_assoc done (y ∷ []) ys);
          count = omega (arith, count);
          told = e ∙ (ap (λ z. next_in z (holders p)) same ∙ behind-split p (p.front ++ at ∷ done) y ys parts);
          named = ap (λ z. last_of z (filter (matches rules b at) ys)) (n ∙ ap (λ z. if matches rules b at z then z else last) same)
              ∙ (sym (named_by (matches rules b at y) y last (filter (matches rules b at) ys)) ∙ named);
          few = omega (arith, f, few);
        };
      }

  module _ {passed last start now : ℕ} where
    pub Trail-next : (other : Addr) → Trail rules b at p.rest passed (Some other) last start now → TrailNext rules b at (holders p) p.rest passed other last start now
    Trail-next other w = next_in_left passed other last start now w.done w.left w.whole w.count w.told w.named w.few

    pub Trail-end : Trail rules b at p.rest passed None last start now → Passed rules b at p.rest last start now
    Trail-end w = all-passed rules b at p.rest last start now w.left (none-left w.left w.told) w.named w.few

    pub Trail-over : {next : Option Addr} → Trail rules b at p.rest passed next last start now → length (holders p) ≤ passed → Passed rules b at p.rest last start now
    Trail-over w h =
        let long = length-append p.front (at ∷ p.rest) in
        all-passed rules b at p.rest last start now w.left (nil_from_length w.left (omega (arith, h, long, w.count))) w.named w.few

-- the last of them was found
pub found-last : {rules : Rules} {list : DtList} {b : Blocks} {at : ℕ} {last : Addr} {start now : ℕ} → AreLawful rules → ((p : Placed list b at) → Passed rules b at p.rest last.0 start now)
    → (holders : List ℕ) → StandsFor list b holders → contains holders at ≡ true → SeeksLast (matches rules b at) holders (Some last) start now
found-last {rules = rules} {list = list} {b = b} {at = at} {last = last} {start = start} {now = now} law all holders s within =
    let place = split holders at within in
    let done = all (record { front = place.front; rest = place.rest; stands = subst (StandsFor list b) place.whole s }) in
    let long : length holders ≡ length place.front + length (at ∷ place.rest) = ap length place.whole ∙ length-append place.front (at ∷ place.rest) in
    record {
      last = ap (λ z. Some z) done.named ∙ (sym (last-passing (matches rules b at) place.front at place.rest (alike-itself rules b at law)) ∙ ap (λ z. finding.last_of (filter (matches rules b at) z)) (sym place.whole));
      steps = omega (arith, done.few, long);
    }
