-- What lasts of a session, from one time to the next.
use Rattle.vc_base.proofs.Common.{◌≡◌, List, Bool, true, false, refl, sym, ◌∙◌, subst, false≢true, Discipline}
use Rattle.vc_dtdisc.specs.Rules.{Gone, Rules}
use Rattle.vc_seg.specs.declared.shelf.Shelf.{Shelf}
use Rattle.vc_steps.specs.declared.session.Session.{Session}
use Rattle.vc_steps.specs.Account.{ArmsNone, KeepsAccounts, SameAsked}
use Rattle.vc_steps.specs.Arms.{ArmsAll}
use Rattle.vc_steps.specs.Homes.{IsSessionOver, accounts_on, settled_over, slots_on}
use Rattle.vc_steps.specs.Steps.{Lasts}
use Rattle.vc_steps.specs.Told.{KeepRules}
use Rattle.vc_steps.proofs.ArmedRegions.{arms-settled, arms-stands}
use Rattle.vc_steps.proofs.SettledShelf.{keeps-same, keeps-trans}
use Rattle.vc_session.specs.Arming.{KeepsLent, LastsArming}

pub lasts-same : {I : Type 0} {V : I → Type 0} {D : Type 0} {meaning : (x : I) × V x → Discipline} {rules : D → Rules} {shelf : Shelf I V} {session : Session D I V} {kinds : List D} → IsSessionOver meaning rules shelf session kinds → Lasts meaning rules shelf session kinds shelf session kinds
lasts-same {meaning = meaning} {shelf = shelf} {session = session} stands =
    record { stands = stands; keeps_rules = refl; armed = refl; asked = λ off. refl; arms_none = λ n d at on. at; accounts = keeps-same (settled_over meaning shelf session) }

pub lasts-trans : {I : Type 0} {V : I → Type 0} {D : Type 0} {meaning : (x : I) × V x → Discipline} {rules : D → Rules} {a b c : Shelf I V} {s t u : Session D I V} {k l m : List D} → Lasts meaning rules a s k b t l → Lasts meaning rules b t l c u m → Lasts meaning rules a s k c u m
lasts-trans {meaning = meaning} {a = a} {b = b} {c = c} {s = s} {t = t} {u = u} first next =
    record {
      stands = next.stands;
      keeps_rules = next.keeps_rules ∙ first.keeps_rules;
      armed = next.armed ∙ first.armed;
      asked = λ off. next.asked (first.armed ∙ off) ∙ first.asked off;
      arms_none = λ n d at on. first.arms_none n d (next.arms_none n d at on) on;
      accounts = keeps-trans (settled_over meaning a s) (settled_over meaning b t) (settled_over meaning c u) first.accounts next.accounts;
    }

off-before : (b c : Bool) → (b ≡ true → c ≡ true) → c ≡ false → b ≡ false
off-before false c more off = refl
off-before true c more off = absurd (false≢true (sym off ∙ more refl))

module _ {I : Type 0} {V : I → Type 0} {D : Type 0} {meaning : (x : I) × V x → Discipline} {rules : D → Rules} where
  pub arming-of : {a b : Shelf I V} {s t : Session D I V} {k l : List D} → Lasts meaning rules a s k b t l → LastsArming meaning rules a s k b t l
  arming-of h = record {
    lasts = record { stands = h.stands; keeps_rules = h.keeps_rules; accounts = h.accounts; armed = refl; asked = λ off. h.asked (sym h.armed ∙ off); arms_none = h.arms_none };
    armed = λ on. h.armed ∙ on;
  }

  pub arming-same : {shelf : Shelf I V} {session : Session D I V} {kinds : List D} → IsSessionOver meaning rules shelf session kinds → LastsArming meaning rules shelf session kinds shelf session kinds
  arming-same stands = arming-of (lasts-same stands)

  pub arming-trans : {a b c : Shelf I V} {s t u : Session D I V} {k l m : List D} → LastsArming meaning rules a s k b t l → LastsArming meaning rules b t l c u m → LastsArming meaning rules a s k c u m
  arming-trans {a} {b} {c} {s} {t} {u} first next = record {
    lasts = record {
      stands = next.lasts.stands;
      keeps_rules = next.lasts.keeps_rules ∙ first.lasts.keeps_rules;
      accounts = keeps-trans (settled_over meaning a s) (settled_over meaning b t) (settled_over meaning c u) first.lasts.accounts next.lasts.accounts;
      armed = refl;
      asked = λ off. next.lasts.asked off ∙ first.lasts.asked (off-before t.is_armed u.is_armed next.armed off);
      arms_none = λ n d at on. first.lasts.arms_none n d (next.lasts.arms_none n d at on) on;
    };
    armed = λ on. next.armed (first.armed on);
  }

  -- a session that armed no discipline is told whether it arms them
  pub arming-told : {shelf : Shelf I V} {session : Session D I V} {kinds : List D} (next : Session D I V) (on : Bool) → ArmsAll meaning on session next → session.is_armed ≡ false → IsSessionOver meaning rules shelf session kinds → LastsArming meaning rules shelf session kinds shelf next kinds
  arming-told {shelf} {session} {kinds} next on arms unarmed stands =
      let same : settled_over meaning shelf next ≡ settled_over meaning shelf session = arms-settled arms shelf in
      record {
        lasts = record {
          stands = arms-stands arms rules shelf kinds stands;
          keeps_rules = refl;
          accounts = subst (KeepsAccounts (settled_over meaning shelf session)) (sym same) (keeps-same (settled_over meaning shelf session));
          armed = refl;
          asked = λ off. subst (SameAsked (settled_over meaning shelf session)) (sym same) refl;
          arms_none = λ n d at on. at;
        };
        armed = λ armed. absurd (false≢true (sym unarmed ∙ armed));
      }

-- where nothing was run all is kept
pub lent-same : {I : Type 0} {V : I → Type 0} {D : Type 0} {meaning : (x : I) × V x → Discipline} {rules : D → Rules} {gone : D → Gone} {first : Type 0} {shelf : Shelf I V} {kinds : List D} → KeepsLent meaning rules gone first shelf kinds shelf kinds
lent-same {meaning = meaning} {shelf = shelf} =
    record { disciplines = record { accounts = keeps-same (accounts_on meaning shelf); asked = λ is. refl }; keeps_rules = refl; arms_none = λ n d at on. at }

-- and so it is where a session was made over what was lent, run and ended
module _ {I : Type 0} {V : I → Type 0} {D : Type 0} (meaning : (x : I) × V x → Discipline) (rules : D → Rules) (gone : D → Gone) (shelf begun : Shelf I V) (session : Session D I V) (kinds : List D)
    (kept : KeepsAccounts (accounts_on meaning shelf) (settled_over meaning begun session))
    (asked : SameAsked (accounts_on meaning shelf) (settled_over meaning begun session))
    (arms : ArmsNone (slots_on meaning shelf) (slots_on meaning begun)) where
  pub lent-ended : {first : Type 0} {run after : Shelf I V} {session' : Session D I V} {kinds' last : List D} → LastsArming meaning rules begun session kinds run session' kinds' → (first → session'.is_armed ≡ false)
      → accounts_on meaning after ≡ settled_over meaning run session' → KeepRules rules kinds' last → ArmsNone (slots_on meaning run) (slots_on meaning after) → KeepsLent meaning rules gone first shelf kinds after last
  lent-ended {run = run} {session' = session'} h off ends same unarmed = record {
    disciplines = record {
      accounts =
          subst (KeepsAccounts (accounts_on meaning shelf)) (sym ends)
          (keeps-trans (accounts_on meaning shelf) (settled_over meaning begun session) (settled_over meaning run session') kept h.lasts.accounts);
      asked = λ is. subst (SameAsked (accounts_on meaning shelf)) (sym ends) (h.lasts.asked (off is) ∙ asked);
    };
    keeps_rules = same ∙ h.lasts.keeps_rules;
    arms_none = λ n d at on. arms n d (h.lasts.arms_none n d (unarmed n d at on) on) on;
  }
