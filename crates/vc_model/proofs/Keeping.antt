-- What a call of a region keeps of its discipline, whatever it did there.
use Rattle.std.proofs.Common.{◌≡◌, ℕ, ◌≤◌, ◌<◌, ◌⊎◌, inl, inr, ⊎_elim, true, false, ltb, ltb-true, ltb-false, List, refl, subst, ap, ◌∙◌, arith}
use Rattle.std.proofs.lemmas.Bool.{cases_Bool}
use Rattle.vc_model.specs.Count.{Rose, RoseBy, last_count}
use Rattle.vc_model.specs.Discipline.{Discipline, Exceptions, Excused, Kept, LentNothing, NoneRefused, Served, TookBack, Unserved}

-- a count that rose has risen once it is no less later, and from any count that was no greater before
pub Rose-later : (a b c : ℕ) → a ≤ b → b ≤ c → Rose a b → Rose a c
Rose-later a b c le more rose =
    ⊎_elim
    (λ lt. inl (omega (arith, lt, more)))
    (λ (e : b ≡ last_count).
    ⊎_elim
    (λ (t : ltb last_count c ≡ true). let above = ltb-true last_count c t in inl (omega (arith, le, e, above)))
    (λ (t : ltb last_count c ≡ false). let most = ltb-false last_count c t in inr (omega (arith, e, more, most)))
    (cases_Bool (ltb last_count c)))
    rose

pub Rose-earlier : (a b c : ℕ) → a ≤ b → Rose b c → Rose a c
Rose-earlier a b c le rose = ⊎_elim (λ lt. inl (omega (arith, lt, le))) (λ e. inr e) rose

pub Kept-same : (d : Discipline) → Kept d d
Kept-same d =
    record {
      terms = refl;
      armed = refl;
      faults = omega arith;
      told = omega arith;
      yes = omega arith;
      counted = λ lt. absurd (omega (arith, lt));
      unarmed = λ off. refl;
    }

pub Kept-equal : (old new : Discipline) → new ≡ old → Kept old new
Kept-equal old new e = subst (λ (d : Discipline). Kept d new) e (Kept-same new)

pub Kept-trans : (first second third : Discipline) → Kept first second → Kept second third → Kept first third
Kept-trans first second third h k =
    let least = h.faults in
    let rest = k.faults in
    let told = h.told in
    let told' = k.told in
    let yes = h.yes in
    let yes' = k.yes in
    record {
      terms = k.terms ∙ h.terms;
      armed = k.armed ∙ h.armed;
      faults = omega (arith, least, rest);
      told = omega (arith, told, told');
      yes = omega (arith, yes, yes');
      counted = λ lt.
          ⊎_elim
          (λ (t : ltb first.exceptions.yes second.exceptions.yes ≡ true).
          Rose-later first.faults second.faults third.faults h.faults k.faults (h.counted (ltb-true first.exceptions.yes second.exceptions.yes t)))
          (λ (t : ltb first.exceptions.yes second.exceptions.yes ≡ false).
          let most = ltb-false first.exceptions.yes second.exceptions.yes t in
          Rose-earlier first.faults second.faults third.faults h.faults (k.counted (omega (arith, lt, most))))
          (cases_Bool (ltb first.exceptions.yes second.exceptions.yes));
      unarmed = λ off. k.unarmed (h.armed ∙ off) ∙ h.unarmed off;
    }

-- a call of a discipline that leaves its terms and its exceptions, and whose faults don't fall
pub Kept-at_once : (old new : Discipline) → new.terms ≡ old.terms → new.exceptions ≡ old.exceptions → old.faults ≤ new.faults → Kept old new
Kept-at_once old new terms exceptions faults =
    let told : new.exceptions.told ≡ old.exceptions.told = ap (λ (e : Exceptions). e.told) exceptions in
    let yes : new.exceptions.yes ≡ old.exceptions.yes = ap (λ (e : Exceptions). e.yes) exceptions in
    record {
      terms = terms;
      armed = ap (λ (e : Exceptions). e.armed) exceptions;
      faults = faults;
      told = omega (arith, told);
      yes = omega (arith, yes);
      counted = λ lt. absurd (omega (arith, yes, lt));
      unarmed = λ off. exceptions;
    }

-- an exception stays one for whoever looks from earlier or to later
pub Excused-later : (first second third : Discipline) → Kept first second → Kept second third → Excused first second → Excused first third
Excused-later first second third h k x =
    record { armed = x.armed; yes = Rose-later first.exceptions.yes second.exceptions.yes third.exceptions.yes h.yes k.yes x.yes }

pub Excused-earlier : (first second third : Discipline) → Kept first second → Excused second third → Excused first third
Excused-earlier first second third h x =
    record {
      armed = let on = x.armed in let same = h.armed in cc;
      yes = Rose-earlier first.exceptions.yes second.exceptions.yes third.exceptions.yes h.yes x.yes;
    }

-- what holds of both parts of a way, but for exceptions, holds of the whole
pub unless-excused : {P Q R : Type 0} (first second third : Discipline) → Kept first second → Kept second third → (P → Q → R) → P ⊎ Excused first second → Q ⊎ Excused second third → R ⊎ Excused first third
unless-excused first second third h k both p q =
    ⊎_elim
    (λ x. ⊎_elim (λ y. inl (both x y)) (λ e. inr (Excused-earlier first second third h e)) q)
    (λ e. inr (Excused-later first second third h k e))
    p

-- a discipline that isn't armed makes no exception
pub no-excuse : (old new : Discipline) → old.exceptions.armed ≡ false → Excused old new → ⊥
no-excuse old new off x = let on = x.armed in cc

pub unless-unarmed : {P : Type 0} (old new : Discipline) → old.exceptions.armed ≡ false → P ⊎ Excused old new → P
unless-unarmed old new off h = ⊎_elim (λ p. p) (λ x. absurd (no-excuse old new off x)) h

pub Kept-served : (old new : Discipline) (segments segments' : List (ℕ × ℕ)) (size : ℕ) → Served old new segments segments' size → Kept old new
Kept-served old new segments segments' size h = h.kept

pub Kept-back : (old new : Discipline) (segments segments' : List (ℕ × ℕ)) → TookBack old new segments segments' → Kept old new
Kept-back old new segments segments' h = h.kept

pub Kept-unserved : (old new : Discipline) (size : ℕ) → Unserved old new size → Kept old new
Kept-unserved old new size h = h.kept

pub Kept-nothing : (old new : Discipline) → LentNothing old new → Kept old new
Kept-nothing old new h = h.kept

-- where all that was asked for was granted
pub NoneRefused-same : (d : Discipline) → NoneRefused d d
NoneRefused-same d = record { kept = Kept-same d; faults = inl refl }

pub NoneRefused-equal : (old new : Discipline) → new ≡ old → NoneRefused old new
NoneRefused-equal old new e = subst (λ (d : Discipline). NoneRefused d new) e (NoneRefused-same new)

pub NoneRefused-trans : (first second third : Discipline) → NoneRefused first second → NoneRefused second third → NoneRefused first third
NoneRefused-trans first second third h k =
    record {
      kept = Kept-trans first second third h.kept k.kept;
      faults = unless-excused first second third h.kept k.kept (λ p q. q ∙ p) h.faults k.faults;
    }

pub NoneRefused-served : (old new : Discipline) (segments segments' : List (ℕ × ℕ)) (size : ℕ) → Served old new segments segments' size → NoneRefused old new
NoneRefused-served old new segments segments' size h = record { kept = h.kept; faults = h.faults }

pub NoneRefused-back : (old new : Discipline) (segments segments' : List (ℕ × ℕ)) → TookBack old new segments segments' → NoneRefused old new
NoneRefused-back old new segments segments' h = record { kept = h.kept; faults = inl h.faults }

-- an equal discipline lent nothing
pub LentNothing-equal : (old new : Discipline) → new ≡ old → LentNothing old new
LentNothing-equal old new e = record { kept = Kept-equal old new e; out = ap (λ (d : Discipline). d.out) e; same = inl e }

-- a count that rose in both parts of a way rose twice
pub RoseBy-both : (a b c d : ℕ) → Rose a b → b ≤ c → Rose c d → RoseBy 2 a d
RoseBy-both a b c d rose le rose' =
    ⊎_elim
    (λ (lt : c < d).
    ⊎_elim (λ (lt' : a < b). inl (omega (arith, lt, lt', le))) (λ (e : b ≡ last_count). inr (omega (arith, e, le, lt))) rose)
    (λ (e : d ≡ last_count). inr (omega (arith, e)))
    rose'

pub RoseBy-within : (n a b c d : ℕ) → a ≤ b → RoseBy n b c → c ≤ d → RoseBy n a d
RoseBy-within n a b c d le rose le' =
    ⊎_elim (λ more. inl (omega (arith, le, more, le'))) (λ last. inr (omega (arith, last, le'))) rose

-- a refusal, for whoever looks from earlier to later
module _ (entry asked answered exit : Discipline) (size : ℕ) (before : Kept entry asked) (refused : Unserved asked answered size) (behind : Kept answered exit) where
  pub rose-within : Rose entry.faults exit.faults
  rose-within =
      Rose-earlier entry.faults asked.faults exit.faults before.faults
      (Rose-later asked.faults answered.faults exit.faults refused.kept.faults behind.faults refused.rose)

  pub told-within : entry.exceptions.armed ≡ true → Rose entry.exceptions.told exit.exceptions.told
  told-within on =
      Rose-earlier entry.exceptions.told asked.exceptions.told exit.exceptions.told before.told
      (Rose-later asked.exceptions.told answered.exceptions.told exit.exceptions.told refused.kept.told behind.told (refused.told (before.armed ∙ on)))

  pub twice-within : entry.exceptions.armed ≡ true → entry.exceptions.yes < exit.exceptions.yes → RoseBy 2 entry.faults exit.faults
  twice-within on lt =
      ⊎_elim
      (λ (t : ltb entry.exceptions.yes asked.exceptions.yes ≡ true).
      RoseBy-within 2 entry.faults entry.faults answered.faults exit.faults (omega arith)
      (RoseBy-both entry.faults asked.faults asked.faults answered.faults
      (before.counted (ltb-true entry.exceptions.yes asked.exceptions.yes t)) (omega arith) refused.rose) behind.faults)
      (λ (t : ltb entry.exceptions.yes asked.exceptions.yes ≡ false).
      let most = ltb-false entry.exceptions.yes asked.exceptions.yes t in
      ⊎_elim
      (λ (u : ltb asked.exceptions.yes answered.exceptions.yes ≡ true).
      RoseBy-within 2 entry.faults asked.faults answered.faults exit.faults before.faults
      (refused.twice (before.armed ∙ on) (ltb-true asked.exceptions.yes answered.exceptions.yes u)) behind.faults)
      (λ (u : ltb asked.exceptions.yes answered.exceptions.yes ≡ false).
      let most' = ltb-false asked.exceptions.yes answered.exceptions.yes u in
      RoseBy-within 2 entry.faults asked.faults exit.faults exit.faults before.faults
      (RoseBy-both asked.faults answered.faults answered.faults exit.faults refused.rose (omega arith)
      (behind.counted (omega (arith, lt, most, most')))) (omega arith))
      (cases_Bool (ltb asked.exceptions.yes answered.exceptions.yes)))
      (cases_Bool (ltb entry.exceptions.yes asked.exceptions.yes))
