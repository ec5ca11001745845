-- Disciplines that are lent from the first places of a shelf, one after another, and come back.
use Rattle.vc_base.proofs.Common.{◌≡◌, ◌≢◌, ℕ, zero, suc, ◌+◌, ◌-◌, ◌<◌, List, [], ◌∷◌, ◌++◌, Option, Some, None, length, map, set, take, drop, slice_get, ne_eqb, cond, refl, sym, ap, ◌∙◌, subst, arith, append-nil, none-some, same_Some, zero-add, Bool, false}
use Rattle.vc_model.specs.Discipline.{Discipline, TookBack}
use Rattle.vc_model.proofs.Keeping.{Kept-same, Kept-trans}
use Rattle.vc_seg.specs.Shelf.{slot_at, standing}
use Rattle.vc_ways.specs.Answer.{Holding, KeepsWay, KeepsWays}
use Rattle.vc_ways.specs.Lends.{HasAllBack, HasLent, IsBack, Lends, Opens, unused}
use Rattle.vc_ways.specs.Settled.{AreSettled, AreTaken, with_discs}
use Rattle.vc_ways.proofs.PoolSteps.{keeps-both, keeps-same}
use Rattle.vc_ways.proofs.Slots.{place-is}

abbrev Slots : Type 0
Slots = List (Option Discipline)

pub back-same : (d : Discipline) → IsBack d d
back-same d = record { kept = Kept-same d; out = refl }

pub all-back-same : (xs : Slots) → HasAllBack xs xs
all-back-same [] = tt
all-back-same (None ∷ xs) = (tt, all-back-same xs)
all-back-same (Some d ∷ xs) = (back-same d, all-back-same xs)

-- it comes back
settled-back : (d e : Discipline) (h : Holding) → KeepsWay false (unused d) h → TookBack h.disc e h.segments [] → IsBack d e
settled-back d e h held took =
    record {
      kept = Kept-trans d h.disc e held.kept took.kept;
      out = took.out d.out (held.out d.out (sym (append-nil d.out))) ∙ append-nil d.out;
    }

-- one more is lent
pub lend-one : (hs : List Holding) (old new : Slots) (d : Discipline) (h : Holding) → Opens hs old new → slice_get new (length hs) ≡ Some (Some d) → h ≡ unused d → Opens (hs ++ h ∷ []) old (set new (length hs) None)
lend-one [] old [] d h opens e held = absurd (none-some (Some d) e)
lend-one [] [] (y ∷ new) d h opens e held = absurd (cc)
lend-one [] (None ∷ old) (y ∷ new) d h opens e held = absurd (none-some d (same_Some None (Some d) (sym (ap (λ (xs : Slots). slice_get xs 0) opens) ∙ e)))
lend-one [] (Some x ∷ old) (y ∷ new) d h opens e held =
    let same : x ≡ d = same_Some x d (same_Some (Some x) (Some d) (sym (ap (λ (xs : Slots). slice_get xs 0) opens) ∙ e)) in
    (held ∙ ap unused (sym same), ap (λ (xs : Slots). drop 1 xs) opens)
lend-one (g ∷ hs) [] new d h opens e held = absurd opens
lend-one (g ∷ hs) (None ∷ old) new d h opens e held = absurd opens
lend-one (g ∷ hs) (Some x ∷ old) [] d h opens e held = absurd opens
lend-one (g ∷ hs) (Some x ∷ old) (Some y ∷ new) d h opens e held = absurd opens
lend-one (g ∷ hs) (Some x ∷ old) (None ∷ new) d h opens e held = (opens.0, lend-one hs old new d h opens.1 e held)

-- what is held as it was is held
pub opens-lends : (hs : List Holding) (old new : Slots) → Opens hs old new → Lends hs old new
opens-lends [] old new opens = subst (HasAllBack old) (sym opens) (all-back-same old)
opens-lends (h ∷ hs) [] new opens = absurd opens
opens-lends (h ∷ hs) (None ∷ old) new opens = absurd opens
opens-lends (h ∷ hs) (Some x ∷ old) [] opens = absurd opens
opens-lends (h ∷ hs) (Some x ∷ old) (Some y ∷ new) opens = absurd opens
opens-lends (h ∷ hs) (Some x ∷ old) (None ∷ new) opens =
    (subst (KeepsWay false (unused x)) (sym opens.0) (keeps-same (unused x)), opens-lends hs old new opens.1)

-- and comes back
pub give-one : (hs : List Holding) (h : Holding) (old new : Slots) (e : Discipline) → Lends (hs ++ h ∷ []) old new → TookBack h.disc e h.segments [] → Lends hs old (set new (length hs) (Some e))
give-one [] h [] new e lends took = absurd lends
give-one [] h (None ∷ old) new e lends took = absurd lends
give-one [] h (Some x ∷ old) [] e lends took = absurd lends
give-one [] h (Some x ∷ old) (Some y ∷ new) e lends took = absurd lends
give-one [] h (Some x ∷ old) (None ∷ new) e lends took = (settled-back x e h lends.0 took, lends.1)
give-one (g ∷ hs) h [] new e lends took = absurd lends
give-one (g ∷ hs) h (None ∷ old) new e lends took = absurd lends
give-one (g ∷ hs) h (Some x ∷ old) [] e lends took = absurd lends
give-one (g ∷ hs) h (Some x ∷ old) (Some y ∷ new) e lends took = absurd lends
give-one (g ∷ hs) h (Some x ∷ old) (None ∷ new) e lends took = (lends.0, give-one hs h old new e lends.1 took)

-- the places are taken
lent-taken : (hs : List Holding) (old new : Slots) (i : ℕ) → Lends hs old new → i < length hs → slice_get new i ≡ Some None
lent-taken [] old new i lends lt = absurd (omega (arith, lt))
lent-taken (g ∷ hs) [] new i lends lt = absurd lends
lent-taken (g ∷ hs) (None ∷ old) new i lends lt = absurd lends
lent-taken (g ∷ hs) (Some x ∷ old) [] i lends lt = absurd lends
lent-taken (g ∷ hs) (Some x ∷ old) (Some y ∷ new) i lends lt = absurd lends
lent-taken (g ∷ hs) (Some x ∷ old) (None ∷ new) zero lends lt = refl
lent-taken (g ∷ hs) (Some x ∷ old) (None ∷ new) (suc i) lends lt = lent-taken hs old new i lends.1 (omega (arith, lt))

pub are-taken : (hs : List Holding) (old new : Slots) (most : ℕ) → length hs ≡ most → Lends hs old new → AreTaken most new
are-taken hs old new most many lends n first last =
    place-is new n first ∙ ap standing (lent-taken hs old new (n - 1) lends (omega (arith, many, first, last)))

pub has-taken : (most : ℕ) (new : Slots) → HasLent most new → AreTaken most new
has-taken most new h = are-taken h.1.0 h.0 new most h.1.1.0 h.1.1.1

-- what is held goes on
pub lends-kept : (hs gs : List Holding) (old new : Slots) → KeepsWays false hs gs → Lends hs old new → Lends gs old new
lends-kept [] [] old new kept lends = lends
lends-kept [] (g ∷ gs) old new kept lends = absurd kept
lends-kept (h ∷ hs) [] old new kept lends = absurd kept
lends-kept (h ∷ hs) (g ∷ gs) [] new kept lends = absurd lends
lends-kept (h ∷ hs) (g ∷ gs) (None ∷ old) new kept lends = absurd lends
lends-kept (h ∷ hs) (g ∷ gs) (Some x ∷ old) [] kept lends = absurd lends
lends-kept (h ∷ hs) (g ∷ gs) (Some x ∷ old) (Some y ∷ new) kept lends = absurd lends
lends-kept (h ∷ hs) (g ∷ gs) (Some x ∷ old) (None ∷ new) kept lends =
    (keeps-both (unused x) h g lends.0 kept.0, lends-kept hs gs old new kept.1 lends.1)

-- all of them come back
all-settled : (hs : List Holding) (ds : List Discipline) (old new : Slots) → Lends hs old new → AreSettled hs ds → HasAllBack old (map Some ds ++ drop (length ds) new)
all-settled [] [] old new lends settled = lends
all-settled [] (d ∷ ds) old new lends settled = absurd settled
all-settled (h ∷ hs) [] old new lends settled = absurd settled
all-settled (h ∷ hs) (d ∷ ds) [] new lends settled = absurd lends
all-settled (h ∷ hs) (d ∷ ds) (None ∷ old) new lends settled = absurd lends
all-settled (h ∷ hs) (d ∷ ds) (Some x ∷ old) [] lends settled = absurd lends
all-settled (h ∷ hs) (d ∷ ds) (Some x ∷ old) (Some y ∷ new) lends settled = absurd lends
all-settled (h ∷ hs) (d ∷ ds) (Some x ∷ old) (None ∷ new) lends settled =
    (settled-back x d h lends.0 settled.0, all-settled hs ds old new lends.1 settled.1)

-- the last of them do
pub lends-settled : (hs gs : List Holding) (ds : List Discipline) (old new : Slots) → Lends (hs ++ gs) old new → AreSettled gs ds → Lends hs old (with_discs (length hs) ds new)
lends-settled [] gs ds old new lends settled =
    subst (λ n. HasAllBack old (map Some ds ++ drop n new)) (sym (zero-add (length ds))) (all-settled gs ds old new lends settled)
lends-settled (h ∷ hs) gs ds [] new lends settled = absurd lends
lends-settled (h ∷ hs) gs ds (None ∷ old) new lends settled = absurd lends
lends-settled (h ∷ hs) gs ds (Some x ∷ old) [] lends settled = absurd lends
lends-settled (h ∷ hs) gs ds (Some x ∷ old) (Some y ∷ new) lends settled = absurd lends
lends-settled (h ∷ hs) gs ds (Some x ∷ old) (None ∷ new) lends settled =
    let n : suc (length hs) + length ds ≡ suc (length hs + length ds) = omega arith in
    subst (λ k. Lends (h ∷ hs) (Some x ∷ old) (None ∷ take (length hs) new ++ (map Some ds ++ drop k (None ∷ new)))) (sym n)
    (lends.0, lends-settled hs gs ds old new lends.1 settled)

-- by the number of the place
module _ (hs : List Holding) (old before : Slots) (n : ℕ) (is : n ≡ length hs + 1) (opens : Opens hs old before) where
  at-place : n - 1 ≡ length hs
  at-place = omega (arith, is)

  got : slot_at before n ≡ slice_get before (length hs)
  got =
      let some : n ≢ 0 = omega (arith, is) in
      ap (λ (b : Bool). cond b None (slice_get before (n - 1))) (ne_eqb n 0 some) ∙ ap (slice_get before) at-place

  pub lend-at : (after : Slots) (d : Discipline) (h : Holding) → slot_at before n ≡ Some (Some d) → after ≡ set before (n - 1) None → h ≡ unused d → Opens (hs ++ h ∷ []) old after
  lend-at after d h there emptied held =
      subst (Opens (hs ++ h ∷ []) old) (sym (emptied ∙ ap (λ k. set before k None) at-place))
      (lend-one hs old before d h opens (sym got ∙ there) held)

pub give-at : (hs : List Holding) (h : Holding) (old before after : Slots) (n : ℕ) (e : Discipline) → n ≡ length hs + 1 → Lends (hs ++ h ∷ []) old before → after ≡ set before (n - 1) (Some e) → TookBack h.disc e h.segments [] → Lends hs old after
give-at hs h old before after n e is lends filled took =
    let at : n - 1 ≡ length hs = omega (arith, is) in
    subst (Lends hs old) (sym (filled ∙ ap (λ k. set before k (Some e)) at)) (give-one hs h old before e lends took)

-- a discipline that nobody asked comes back
pub took-same : (d : Discipline) → TookBack d d [] []
took-same d = record { kept = Kept-same d; faults = refl; exceptions = refl; out = λ rest e. e }

pub give-unused : (hs : List Holding) (old before after : Slots) (n : ℕ) (d e : Discipline) → n ≡ length hs + 1 → Opens (hs ++ unused d ∷ []) old before → after ≡ set before (n - 1) (Some e) → e ≡ d → Lends hs old after
give-unused hs old before after n d e is opens filled same =
    give-at hs (unused d) old before after n e is (opens-lends (hs ++ unused d ∷ []) old before opens) filled (subst (λ k. TookBack d k [] []) (sym same) (took-same d))

-- a discipline that is held without a segment is held as it was
pub held-unused : (h : Holding) (d : Discipline) → h.disc ≡ d → h.segments ≡ [] → h ≡ unused d
held-unused h d same none = λ i. record { disc = same i; segments = none i }
