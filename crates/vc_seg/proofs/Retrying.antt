-- What asking a discipline leaves, once or once more.
use Rattle.vc_base.proofs.Common.{◌≡◌, ℕ, ◌<◌, true, false, Bool, [], ◌∷◌, ◌++◌, IfSome, Option, Rose, sym, refl, ap, ◌∙◌, subst, arith, cases_Bool, Discipline, Lent, Unserved}
use Rattle.std.proofs.Common.{⊎_elim, inl, inr}
use Rattle.vc_model.proofs.Keeping.{Kept-at_once, Kept-equal, Kept-trans, Rose-later, RoseBy-both}
use Rattle.vc_model.specs.Discipline.{Excepted, Excepts, Exceptions, Excused, Extended, ExtendedAtOnce, Kept, LentAtOnce, LentNothing, RefusedAtOnce, extend_last}

below : (size : ℕ) (o p : Option ℕ) → p ≡ o → IfSome o (λ room. room < size) → IfSome p (λ room. room < size)
below size o p e h = subst (λ (q : Option ℕ). IfSome q (λ room. room < size)) (sym e) h

same-told : (old new : Discipline) → new.exceptions ≡ old.exceptions → (new.exceptions.told ≡ old.exceptions.told) × (new.exceptions.yes ≡ old.exceptions.yes)
same-told old new e = (ap (λ (x : Exceptions). x.told) e, ap (λ (x : Exceptions). x.yes) e)

not-both : (o : Bool) → o ≡ true → o ≡ false → ⊥
not-both o t f = cc

-- it answered at once
module _ (a b : Discipline) where
  pub lent-once : (number size : ℕ) → LentAtOnce a b number size → Lent a b number size
  lent-once number size h =
      record {
        kept = let f = h.faults in Kept-at_once a b h.terms h.exceptions (omega (arith, f));
        out = h.out;
        faults = inl h.faults;
        room = inl h.room;
      }

  pub extended-once : (pair : ℕ × ℕ) (more : ℕ) → ExtendedAtOnce a b pair more → Extended a b pair more
  extended-once pair more h =
      record {
        kept = let f = h.faults in Kept-at_once a b h.terms h.exceptions (omega (arith, f));
        out = h.out;
        faults = inl h.faults;
        room = inl h.room;
        spent = inl h.spent;
      }

-- it refused
module _ (a b : Discipline) (size : ℕ) (first : RefusedAtOnce a b size) where
  kept-refused : Kept a b
  kept-refused = Kept-at_once a b first.terms first.exceptions first.never_less

  armed-refused : b.exceptions.armed ≡ a.exceptions.armed
  armed-refused = kept-refused.armed

  -- and was asked for an exception
  module _ (c : Discipline) (made : Bool) (x : Excepted b c made) (on : b.exceptions.armed ≡ true) where
    kept-excepted : Kept a c
    kept-excepted =
        let counts = same-told a b first.exceptions in
        let told = counts.0 in
        let yes = counts.1 in
        let told' = x.never_less_told in
        let yes' = x.never_less_yes in
        let faults = first.never_less in
        let same = x.faults in
        record {
          terms = x.terms ∙ first.terms;
          armed = x.armed ∙ armed-refused;
          faults = omega (arith, faults, same);
          told = omega (arith, told, told');
          yes = omega (arith, yes, yes');
          counted = λ lt. Rose-later a.faults b.faults c.faults first.never_less (omega (arith, same)) first.rose;
          unarmed = λ off. absurd (not-both a.exceptions.armed (sym armed-refused ∙ on) off);
        }

  -- it made none
  pub refused-wholly : (c : Discipline) → Excepts b c false → Unserved a c size
  refused-wholly c h =
      ⊎_elim
      (λ (on : b.exceptions.armed ≡ true).
      let x = h.1 on in
      let none = x.no refl in
      let yes = none.0 in
      let same = (same-told a b first.exceptions).1 in
      record {
        kept = kept-excepted c false x on;
        rose = subst (λ n. Rose a.faults n) (sym x.faults) first.rose;
        told = λ armed. subst (λ n. Rose n c.exceptions.told) ((same-told a b first.exceptions).0) x.told;
        twice = λ armed lt. absurd (omega (arith, lt, yes, same));
        room = first.room;
        room_after = below size a.room c.room (none.1 ∙ first.same_room) first.room;
        same_room = inl (none.1 ∙ first.same_room);
        out = x.out ∙ first.out;
      })
      (λ (off : b.exceptions.armed ≡ false).
      subst (λ (d : Discipline). Unserved a d size) (sym (h.0 off))
      (let same = (same-told a b first.exceptions).1 in
      record {
        kept = kept-refused;
        rose = first.rose;
        told = λ armed. absurd (not-both a.exceptions.armed armed (sym armed-refused ∙ off));
        twice = λ armed lt. absurd (omega (arith, lt, same));
        room = first.room;
        room_after = below size a.room b.room first.same_room first.room;
        same_room = inl first.same_room;
        out = first.out;
      }))
      (cases_Bool b.exceptions.armed)

  -- it made one, and was asked again
  module _ (c d : Discipline) (h : Excepts b c true) where
    kept-made : Kept a c
    kept-made = kept-excepted c true h.1 h.0

    excused-made : Kept c d → Excused a d
    excused-made kept =
        record {
          armed = sym armed-refused ∙ h.0;
          yes =
              let same = (same-told a b first.exceptions).1 in
              Rose-later a.exceptions.yes c.exceptions.yes d.exceptions.yes kept-made.yes kept.yes
              (subst (λ n. Rose n c.exceptions.yes) same (h.1.yes refl));
        }

    pub lent-again : (number bytes : ℕ) → LentAtOnce c d number bytes → Lent a d number bytes
    lent-again number bytes k =
        let f = k.faults in
        let kept = Kept-at_once c d k.terms k.exceptions (omega (arith, f)) in
        record {
          kept = Kept-trans a c d kept-made kept;
          out = k.out ∙ ap (λ o. o ++ (number, bytes) ∷ []) (h.1.out ∙ first.out);
          faults = inr (excused-made kept);
          room = inr (excused-made kept);
        }

    pub extended-again : (pair : ℕ × ℕ) (more : ℕ) → ExtendedAtOnce c d pair more → Extended a d pair more
    extended-again pair more k =
        let f = k.faults in
        let kept = Kept-at_once c d k.terms k.exceptions (omega (arith, f)) in
        record {
          kept = Kept-trans a c d kept-made kept;
          out = k.out ∙ ap (extend_last pair more) (h.1.out ∙ first.out);
          faults = inr (excused-made kept);
          room = inr (excused-made kept);
          spent = inr (excused-made kept);
        }

    pub nothing-again : d ≡ c → LentNothing a d
    nothing-again e =
        record {
          kept = Kept-trans a c d kept-made (Kept-equal c d e);
          out = ap (λ (x : Discipline). x.out) e ∙ (h.1.out ∙ first.out);
          same = inr (excused-made (Kept-equal c d e));
        }

    pub refused-again : RefusedAtOnce c d size → Unserved a d size
    refused-again k =
        let kept = Kept-at_once c d k.terms k.exceptions k.never_less in
        let same = h.1.faults in
        let told = (same-told a b first.exceptions).0 in
        record {
          kept = Kept-trans a c d kept-made kept;
          rose = Rose-later a.faults b.faults d.faults first.never_less (let le = k.never_less in omega (arith, le, same)) first.rose;
          told = λ armed.
              Rose-later a.exceptions.told c.exceptions.told d.exceptions.told kept-made.told kept.told
              (subst (λ n. Rose n c.exceptions.told) told h.1.told);
          twice = λ armed lt. RoseBy-both a.faults b.faults c.faults d.faults first.rose (omega (arith, same)) k.rose;
          room = first.room;
          room_after = below size c.room d.room k.same_room k.room;
          same_room = inr (excused-made kept);
          out = k.out ∙ (h.1.out ∙ first.out);
        }

pub ruleset retry_steps = (lent-once, extended-once, refused-wholly, lent-again, extended-again, nothing-again, refused-again)
