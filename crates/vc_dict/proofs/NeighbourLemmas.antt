-- One step of the pass of an ordered set, which drops what matches the last one that it kept.
use Rattle.vc_base.proofs.Common.{◌≡◌, ℕ, ◌+◌, ◌≤◌, Bool, true, false, List, [], ◌∷◌, ◌++◌, length, if◌then◌else◌, sym, refl, ◌∙◌, subst, append_assoc, IsTotalOrder, Blocks, KeepsBut, contains}
use Rattle.vc_base.proofs.Members.{apart-head, apart-cons, within-tail}
use Rattle.vc_dtdisc.specs.Rules.{Rules}
use Rattle.vc_dtlist.specs.declared.dt_list.DtList.{DtList}
use Rattle.vc_dtlist.specs.Linked.{StandsFor}
use Rattle.vc_dtlist.proofs.HolderLemmas.{apart-append}
use Rattle.vc_dtlist.proofs.KeptLemmas.{KeepsBut-none, StandsFor-kept}
use Rattle.vc_dtord.specs.Ordered.{IsSorted}
use Rattle.vc_dict.specs.declared.weeded.Weeded.{Weeded}
use Rattle.vc_dict.specs.Orders.{dropped_holders, has_match, kept_holders}
use Rattle.vc_dict.specs.Passes.{AreApart, Taken}
use Rattle.vc_dict.specs.Weeding.{Added, AreWeeded, CanAddPart, NeighbourWeeding, Parts, Weeding, last_matches}
use Rattle.vc_dict.proofs.PassLemmas.{KeepsBut-step, apart_back, differs, rest_some, tail_distinct}
use Rattle.vc_dict.proofs.SortedLemmas.{match_last, sorted_remove}
use Rattle.vc_dict.proofs.WeedLemmas.{Parts-kept, Weeding-next, Weeding-start, all-dropped, all-kept, last_same}

-- what is kept and left stands in order still
sorted_next : (t : Bool) (rules : Rules) (b : Blocks) (done : List ℕ) (at : ℕ) (tail : List ℕ) → IsSorted rules b (done ++ at ∷ tail) → IsSorted rules b ((if t then done else done ++ at ∷ []) ++ tail)
sorted_next true rules b done at tail s = sorted_remove rules b done at tail s
sorted_next false rules b done at tail s = subst (λ z. IsSorted rules b z) (sym (append_assoc done (at ∷ []) tail)) s

-- the first of what is left was taken
module _ {rules : Rules} {start : Blocks} {holders : List ℕ} {passed : ℕ} {left left' : DtList} {weeded : Weeded} {b b1 : Blocks} {at : ℕ} (s : NeighbourWeeding rules start holders passed left weeded b) (t : Taken at s.rest b left' b1) where
  at-in : contains s.rest at ≡ true
  at-in = rest_some at s.rest t.tail t.whole

  pub parts-before : Parts weeded b1 s.done s.gone
  parts-before =
      Parts-kept weeded b b1 s.done s.gone s.rest t.keeps (apart_back s.rest s.done s.weeding.apart_done) (apart_back s.rest s.gone s.weeding.apart_gone) s.parts

  pub out-of_done : contains s.done at ≡ false
  out-of_done = s.weeding.apart_done at at-in

  pub out-of_gone : contains s.gone at ≡ false
  out-of_gone = s.weeding.apart_gone at at-in

  pub can-add : CanAddPart weeded b1 at
  can-add = record { done = s.done; gone = s.gone; parts = parts-before; apart_done = out-of_done; apart_gone = out-of_gone; holder = t.holder }

  middle : KeepsBut holders start b1
  middle = KeepsBut-step holders s.rest start b b1 s.keeps t.keeps s.weeding.rest_within

  order-left : IsSorted rules start (s.done ++ at ∷ t.tail)
  order-left = subst (λ z. IsSorted rules start (s.done ++ z)) t.whole s.sorted

  pub match-told : (drop : Bool) → IsTotalOrder rules.compare → drop ≡ last_matches rules b1 s.done at → has_match rules start s.done at ≡ drop
  match-told drop order e = match_last rules start s.done at t.tail order order-left ∙ sym (last_same rules start b1 s.done at middle.bodies) ∙ sym e

  pub NeighbourWeeding-next : (drop : Bool) (weeded' : Weeded) (b2 : Blocks) → has_match rules start s.done at ≡ drop → Added at drop s.done s.gone b1 weeded' b2 → NeighbourWeeding rules start holders (passed + 1) left' weeded' b2
  NeighbourWeeding-next drop weeded' b2 e add =
      let d : contains t.tail at ≡ false = tail_distinct left b at t.tail (subst (λ z. StandsFor left b z) t.whole s.left_stands) in
      let out : (a : ℕ) → contains holders a ≡ false → contains (at ∷ t.tail) a ≡ false = λ a h. subst (λ z. contains z a ≡ false) t.whole (s.weeding.rest_within a h) in
      let in_rest : (a : ℕ) → contains t.tail a ≡ true → contains s.rest a ≡ true = λ a h. subst (λ z. contains z a ≡ true) (sym t.whole) (within-tail at t.tail a h) in
      let apart : AreApart t.tail (at ∷ (s.done ++ s.gone)) = λ a h. apart-cons at (s.done ++ s.gone) a (differs t.tail a at h d) (apart-append s.done s.gone a (s.weeding.apart_done a (in_rest a h)) (s.weeding.apart_gone a (in_rest a h))) in
      record {
        done = if drop then s.done else s.done ++ at ∷ [];
        gone = if drop then s.gone ++ at ∷ [] else s.gone;
        rest = t.tail;
        weeding = Weeding-next rules start holders passed at s.done s.gone t.tail drop d e (subst (λ z. Weeding rules start holders passed s.done s.gone z) t.whole s.weeding);
        sorted = sorted_next drop rules start s.done at t.tail order-left;
        left_stands = StandsFor-kept left' b1 b2 t.tail (at ∷ (s.done ++ s.gone)) add.keeps apart t.stands;
        parts = add.parts;
        keeps = KeepsBut-step holders (at ∷ (s.done ++ s.gone)) start b1 b2 middle add.keeps
            (λ a h. apart-cons at (s.done ++ s.gone) a (apart-head at t.tail a (out a h)) (apart-append s.done s.gone a (s.weeding.done_within a h) (s.weeding.gone_within a h)));
      }

-- a pass that begins, and one that is through
pub NeighbourWeeding-start : (rules : Rules) (list done gone : DtList) (b : Blocks) (holders : List ℕ) → StandsFor list b holders → IsSorted rules b holders → StandsFor done b [] → StandsFor gone b [] → NeighbourWeeding rules b holders 0 list (record { kept = done; dropped = gone; count = 0 }) b
NeighbourWeeding-start rules list done gone b holders s order d g = record {
  done = [];
  gone = [];
  rest = holders;
  weeding = Weeding-start rules b holders;
  sorted = order;
  left_stands = s;
  parts = record { done_stands = d; gone_stands = g; count = refl; apart = λ a h. refl };
  keeps = KeepsBut-none holders b;
}

pub NeighbourWeeding-end : (rules : Rules) (start : Blocks) (holders : List ℕ) (passed : ℕ) (left : DtList) (w : Weeded) (b : Blocks) → NeighbourWeeding rules start holders passed left w b → length holders ≤ passed → AreWeeded holders (kept_holders rules start [] holders) (dropped_holders rules start [] holders) start w b
NeighbourWeeding-end rules start holders passed left w b s h = record {
  parts = subst (λ z. Parts w b (kept_holders rules start [] holders) z) (all-dropped rules start holders passed s.done s.gone s.rest s.weeding h)
      (subst (λ z. Parts w b z s.gone) (all-kept rules start holders passed s.done s.gone s.rest s.weeding h) s.parts);
  keeps = s.keeps;
}
