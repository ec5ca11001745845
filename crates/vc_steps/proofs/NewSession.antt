-- A session in which nothing is open.
use Rattle.vc_base.proofs.Common.{◌≡◌, ℕ, zero, suc, List, [], map, length, replicate, slice_get, None, zip, sym, refl, ap, ◌∙◌, subst, none-some, Discipline}
use Rattle.vc_dtdisc.specs.Rules.{Rules}
use Rattle.vc_paths.specs.Links.{link_at, no_links, numbers}
use Rattle.vc_seg.specs.declared.shelf.Shelf.{Shelf}
use Rattle.vc_steps.specs.Account.{IsSession}
use Rattle.vc_steps.specs.DictHomes.{AreDicts}
use Rattle.vc_steps.specs.Homes.{IsSessionOver, held_entry, held_in_session, slots_on}
use Rattle.vc_steps.specs.declared.session.Session.{Session}
use Rattle.vc_views.specs.Numbers.{AreLinked}

-- without links and dictionaries nothing is linked
pub no-link : (k n : ℕ) → link_at (slice_get (replicate k None) n) ≡ None
no-link zero n = refl
no-link (suc k) zero = refl
no-link (suc k) (suc n) = no-link k n

none-linked : AreLinked no_links []
none-linked = record {
  numbered = record { distinct = tt; below = tt };
  linked = λ n m is. absurd (none-some m (sym (no-link numbers n) ∙ is));
}

-- it stands over any shelf and any kinds
module _ {I : Type 0} {V : I → Type 0} {D : Type 0} (meaning : (x : I) × V x → Discipline) (rules : D → Rules) (shelf : Shelf I V) (session : Session D I V) (kinds : List D)
    (none : (session.homes.entries ≡ []) × (session.labels.items ≡ []) × (session.dicts.entries ≡ []) × (session.paths ≡ no_links)) where
  pub none-held : held_in_session meaning session ≡ []
  none-held = ap (λ es. map (held_entry meaning) (zip es session.labels.items)) none.0

  pub new-stands : IsSessionOver meaning rules shelf session kinds
  new-stands = record {
    regions = record {
      named = ap length none.1 ∙ sym (ap length none.0);
      held = subst (IsSession session.is_armed (slots_on meaning shelf)) (sym none-held) tt;
    };
    dicts = subst (AreDicts (map rules kinds) (held_in_session meaning session)) (sym none.2) tt;
    views = subst (λ links. AreLinked links session.dicts.entries) (sym none.3) (subst (AreLinked no_links) (sym none.2) none-linked);
  }
