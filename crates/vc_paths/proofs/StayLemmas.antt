-- What calls keep: each dictionary still is one, and is as it was.
use Rattle.vc_base.proofs.Common.{◌≡◌, ℕ, Bool, true, List, [], ◌∷◌, IsSome, Some, None, Option, sym, refl, ap, ◌∙◌, subst, AllByRecursion, list_any, is_ordered}
use Rattle.vc_base.specs.declared.addr.Addr.{Addr}
use Rattle.vc_paths.specs.Layers.{Layer, Layered, Same, bytes_there}
use Rattle.vc_paths.specs.Links.{Links, path}
use Rattle.vc_paths.specs.Ordered.{CanSeek, IsApart, IsStanding, object_at, object_there}
use Rattle.vc_paths.specs.Path.{IsAlike, IsPath, IsVisible, is_at, objects_of, visible_of}
use Rattle.vc_paths.specs.Shown.{IsOnPath, down, is_covered, shown_in}

pub same-itself : (all : Layered) → Same all all
same-itself all = record { has = λ d h. h; layers = refl }

pub same-over : {a b c : Layered} → Same a b → Same b c → Same a c
same-over s t = record { has = λ d h. t.has d (s.has d h); layers = t.layers ∙ s.layers }

-- layers of which each is a dictionary
abbrev bare : (ℕ → Layer) → Layered
bare layer = record { Has = λ d. Unit {0}; layer = layer }

pub alike-kept : {old new : Layered} {d e : ℕ} → Same old new → IsAlike old d e → IsAlike new d e
alike-kept {old} {new} {d} {e} s a = record {
  there = s.has e a.there;
  method = ap (λ (z : ℕ → Layer). (z e).method) s.layers ∙ a.method ∙ sym (ap (λ (z : ℕ → Layer). (z d).method) s.layers);
  kind = ap (λ (z : ℕ → Layer). (z e).kind) s.layers ∙ a.kind ∙ sym (ap (λ (z : ℕ → Layer). (z d).kind) s.layers);
}

all-kept : {old new : Layered} (d : ℕ) (es : List ℕ) → Same old new → AllByRecursion (IsAlike old d) es → AllByRecursion (IsAlike new d) es
all-kept d [] s a = tt
all-kept d (e ∷ es) s a = (alike-kept s a.0, all-kept d es s a.1)

pub on-kept : {old new : Layered} {links : Links} {d : ℕ} {at : Option ℕ} → Same old new → IsOnPath old links d at → IsOnPath new links d at
on-kept {old} {new} {links} {d} {at} s p = record { number = p.number; alike = all-kept d (down links at) s p.alike }

pub path-kept : {old new : Layered} (links : Links) (d : ℕ) → Same old new → IsPath old links d → IsPath new links d
path-kept links d s p = record { number = p.number; alike = all-kept d (path links d) s p.alike }

-- what a layer shows, and all that is seen
shown-bare : (all : Layered) (links : Links) (d : ℕ) → shown_in (bare all.layer) links d ≡ shown_in all links d
unfolding is_covered
shown-bare all links d = refl

pub shown-kept : {old new : Layered} (links : Links) (d : ℕ) → Same old new → shown_in new links d ≡ shown_in old links d
shown-kept {old} {new} links d s =
    sym (shown-bare new links d) ∙ ap (λ (z : ℕ → Layer). shown_in (bare z) links d) s.layers ∙ shown-bare old links d

covered-bare : (all : Layered) (links : Links) (d e : ℕ) (bytes : List ℕ) → is_covered (bare all.layer) links d e bytes ≡ is_covered all links d e bytes
unfolding is_covered
covered-bare all links d e bytes = refl

pub covered-kept : {old new : Layered} (links : Links) (d e : ℕ) (bytes : List ℕ) → Same old new → is_covered new links d e bytes ≡ is_covered old links d e bytes
covered-kept {old} {new} links d e bytes s =
    sym (covered-bare new links d e bytes)
    ∙ ap (λ (z : ℕ → Layer). is_covered (bare z) links d e bytes) s.layers
    ∙ covered-bare old links d e bytes

pub visible-kept : {old new : Layered} (links : Links) (d : ℕ) → Same old new → visible_of new links d ≡ visible_of old links d
visible-kept links d s = ap (λ (z : ℕ → Layer). visible_of (bare z) links d) s.layers

pub seen-kept : {old new : Layered} (links : Links) (d : ℕ) (p : ℕ × ℕ) → Same old new → IsVisible old links d p → IsVisible new links d p
seen-kept links d p s h = subst (λ z. list_any (is_at p) z ≡ true) (sym (visible-kept links d s)) h

-- what stands at a place, and what it is compared with
pub object-kept : {old new : Layered} (p : Option (ℕ × Addr)) → Same old new → object_at new p ≡ object_at old p
object-kept None s = refl
object-kept (Some p) s = ap (λ (z : ℕ → Layer). object_there (bare z) p) s.layers

pub rules-kept : {old new : Layered} (d : ℕ) → Same old new → (new.layer d).rules ≡ (old.layer d).rules
rules-kept d s = ap (λ (z : ℕ → Layer). (z d).rules) s.layers

pub objects-kept : {old new : Layered} → Same old new → objects_of new ≡ objects_of old
objects-kept s = ap (λ (z : ℕ → Layer). objects_of (bare z)) s.layers

pub standing-kept : {old new : Layered} (d : ℕ) (p : Option (ℕ × Addr)) → Same old new → IsStanding old d p → IsStanding new d p
standing-kept d None s h = tt
standing-kept {old} {new} d (Some p) s h = record {
  there = s.has p.0 h.there;
  kind = ap (λ (z : ℕ → Layer). (z p.0).kind) s.layers ∙ h.kind ∙ sym (ap (λ (z : ℕ → Layer). (z d).kind) s.layers);
  object = subst (λ (z : ℕ → Layer). IsSome (bytes_there p.1.0 (z p.0).objects)) (sym s.layers) h.object;
}

pub can-kept : {old new : Layered} (e : ℕ) (other : Option (ℕ × Addr)) → Same old new → CanSeek old e other → CanSeek new e other
can-kept e other s can = record {
  dict = s.has e can.dict;
  method = subst (λ (z : ℕ → Layer). is_ordered (z e).method ≡ true) (sym s.layers) can.method;
  compared = standing-kept e other s can.compared;
}

pub apart-kept : {old new : Layered} (back : Bool) (p : Option (ℕ × Addr)) → Same old new → IsApart back old p → IsApart back new p
apart-kept back None s h = tt
apart-kept back (Some p) s h = subst (λ (z : ℕ → Layer). IsApart back (bare z) (Some p)) (sym s.layers) h
