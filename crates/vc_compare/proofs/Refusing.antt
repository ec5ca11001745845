-- A discipline that refuses a segment, and comes back.
use Rattle.vc_base.proofs.Common.{◌≡◌, ℕ, zero, suc, ◌<◌, List, [], ◌∷◌, ◌++◌, Option, Some, None, IfSome, Rose, length, map, drop, refl, sym, ◌∙◌, subst, arith, inl, inr, slice_get, true, zero-add, Discipline}
use Rattle.vc_model.specs.Count.{last_count}
use Rattle.vc_model.proofs.Keeping.{NoneRefused-back, rose-within, told-within, twice-within}
use Rattle.vc_model.specs.Discipline.{TookBack, Unserved}
use Rattle.vc_ways.specs.Answer.{Holding, KeepsWay, KeepsWays}
use Rattle.vc_ways.specs.Asking.{AreRefused, Asking, RefusesBehind}
use Rattle.vc_ways.specs.Lends.{Opens, unused}
use Rattle.vc_ways.specs.Settled.{AreSettled, with_discs}
use Rattle.vc_compare.specs.Refusal.{CountStays, HasRefused, RefusesAsked}

abbrev Slots : Type 0
Slots = List (Option Discipline)

-- it was held, refused, and comes back
has-refused : (entry exit : Discipline) (h : Holding) (answered : Holding) (segments : List (ℕ × ℕ)) (bytes : ℕ) → KeepsWay true (unused entry) h → h.segments ≡ segments → Unserved h.disc answered.disc bytes → TookBack answered.disc exit answered.segments [] → HasRefused entry exit segments bytes
has-refused entry exit h answered segments bytes held same refuses took =
    record {
      asked = h.disc;
      answered = answered.disc;
      before = held.kept;
      refuses = refuses;
      behind = NoneRefused-back answered.disc exit answered.segments [] took;
      rose = rose-within entry h.disc answered.disc exit bytes held.kept refuses took.kept;
      told = told-within entry h.disc answered.disc exit bytes held.kept refuses took.kept;
      twice = twice-within entry h.disc answered.disc exit bytes held.kept refuses took.kept;
      room = λ none. subst (λ (d : Discipline). IfSome d.room (λ room. room < bytes)) (held.same refl (same ∙ none)) refuses.room;
    }

-- at a place
record RefusedBehind (n : ℕ) (segments : List (ℕ × ℕ)) (bytes : ℕ) (old new : Slots) : Type 0 where
  pub entry : Discipline
  pub exit : Discipline
  pub stood : slice_get old n ≡ Some (Some entry)
  pub stands : slice_get new n ≡ Some (Some exit)
  pub refused : HasRefused entry exit segments bytes

refused-back : (n : ℕ) (segments : List (ℕ × ℕ)) (bytes : ℕ) (hs ms ls : List Holding) (ds : List Discipline) (old new : Slots) → Opens hs old new → KeepsWays true hs ms → RefusesBehind n segments bytes ms ls → AreSettled ls ds → RefusedBehind n segments bytes old (map Some ds ++ drop (length ds) new)
refused-back zero segments bytes [] [] ls ds old new o k r t = absurd r
refused-back (suc n) segments bytes [] [] ls ds old new o k r t = absurd r
refused-back n segments bytes [] (m ∷ ms) ls ds old new o k r t = absurd k
refused-back n segments bytes (h ∷ hs) [] ls ds old new o k r t = absurd k
refused-back zero segments bytes (h ∷ hs) (m ∷ ms) [] ds old new o k r t = absurd r
refused-back (suc n) segments bytes (h ∷ hs) (m ∷ ms) [] ds old new o k r t = absurd r
refused-back n segments bytes (h ∷ hs) (m ∷ ms) (l ∷ ls) [] old new o k r t = absurd t
refused-back n segments bytes (h ∷ hs) (m ∷ ms) (l ∷ ls) (d ∷ ds) [] new o k r t = absurd o
refused-back n segments bytes (h ∷ hs) (m ∷ ms) (l ∷ ls) (d ∷ ds) (None ∷ old) new o k r t = absurd o
refused-back n segments bytes (h ∷ hs) (m ∷ ms) (l ∷ ls) (d ∷ ds) (Some x ∷ old) [] o k r t = absurd o
refused-back n segments bytes (h ∷ hs) (m ∷ ms) (l ∷ ls) (d ∷ ds) (Some x ∷ old) (Some y ∷ new) o k r t = absurd o
refused-back zero segments bytes (h ∷ hs) (m ∷ ms) (l ∷ ls) (d ∷ ds) (Some x ∷ old) (None ∷ new) o k r t =
    record {
      entry = x;
      exit = d;
      stood = refl;
      stands = refl;
      refused = has-refused x d m l segments bytes (subst (λ (g : Holding). KeepsWay true g m) o.0 k.0) r.0 r.1 t.0;
    }
refused-back (suc n) segments bytes (h ∷ hs) (m ∷ ms) (l ∷ ls) (d ∷ ds) (Some x ∷ old) (None ∷ new) o k r t =
    let rest = refused-back n segments bytes hs ms ls ds old new o.1 k.1 r t.1 in
    record { entry = rest.entry; exit = rest.exit; stood = rest.stood; stands = rest.stands; refused = rest.refused }

-- of all places from the first on
pub refused-settled : (hs ls : List Holding) (ds : List Discipline) (old new : Slots) → Opens hs old new → AreSettled ls ds → (a : Asking) → AreRefused hs ls a → RefusesAsked old (with_discs 0 ds new) a
refused-settled hs ls ds old new opens settled a h =
    let back = refused-back a.place a.segments a.bytes hs h.before ls ds old new opens h.kept h.refuses settled in
    subst (λ n. RefusesAsked old (map Some ds ++ drop n new) a) (sym (zero-add (length ds)))
    (record { entry = back.entry; exit = back.exit; stood = back.stood; stands = back.stands; refused = back.refused })

-- a count that stays didn't rise
pub stays-not : (a b : ℕ) → CountStays a b → Rose a b → ⊥
stays-not a b h (inl lt) = omega (arith, h.0, lt)
stays-not a b h (inr last) = below a b last_count h.0 h.1 last
  where
    below : (a b l : ℕ) → b ≡ a → a < l → b ≡ l → ⊥
    below a b l e lt f = omega (arith, e, lt, f)
