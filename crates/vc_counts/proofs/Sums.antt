-- The bytes of the blocks of all regions, as one of them changes, comes or goes.
use Rattle.vc_base.proofs.Common.{◌≡◌, ℕ, ◌+◌, Bool, true, false, cond, List, [], ◌∷◌, ◌++◌, map, Some, sum, sym, refl, ap, ◌∙◌, arith, sum-map, sum_by-cons, none-some, same_Some}
use Rattle.std.proofs.lemmas.List.Sums.{sum_by_push}
use Rattle.vc_base.proofs.Texts.{same_bytes}
use Rattle.vc_commands.specs.Home.{Home, Label, is_home}
use Rattle.vc_commands.specs.FreedNames.{FreedNames}
use Rattle.vc_region.specs.Region.{Region}
use Rattle.vc_region.specs.Stat.{stat_of}
use Rattle.vc_steps.specs.State.{home_named, with_region, without_home}
use Rattle.vc_counts.specs.Working.{busy_home}

-- the bytes of the blocks of regions

abbrev pub busy_homes : List Home → ℕ
busy_homes homes = sum (map (λ h. (stat_of h.region).sbusy) homes)

busy-cons : (h : Home) (hs : List Home) → busy_homes (h ∷ hs) ≡ busy_home h + busy_homes hs
busy-cons h hs = sum-map busy_home (h ∷ hs) ∙ (sum_by-cons busy_home h hs ∙ ap (λ n. busy_home h + n) (sym (sum-map busy_home hs)))

pub busy-push : (hs : List Home) (h : Home) → busy_homes (hs ++ h ∷ []) ≡ busy_homes hs + busy_home h
busy-push hs h = sum-map busy_home (hs ++ h ∷ []) ∙ (sum_by_push busy_home hs h ∙ ap (λ n. n + busy_home h) (sym (sum-map busy_home hs)))

abbrev pub put_region : Region Label → FreedNames → Home → Home
put_region region kept h = record h { region = region; kept = kept }

module _ (r : List ℕ) (region : Region Label) (kept : FreedNames) where
  abbrev changed_by : Bool → Home → List Home → List Home → List Home
  changed_by b g hs changed = cond b (put_region region kept g ∷ hs) (g ∷ changed)

  busy-changed : (b : Bool) (g : Home) (hs changed : List Home) (h : Home) → cond b (Some g) (home_named r hs) ≡ Some h → (home_named r hs ≡ Some h → busy_homes changed + busy_home h ≡ busy_homes hs + (stat_of region).sbusy) → busy_homes (changed_by b g hs changed) + busy_home h ≡ busy_homes (g ∷ hs) + (stat_of region).sbusy
  busy-changed true g hs changed h found rest =
      omega (arith, busy-cons (put_region region kept g) hs, busy-cons g hs, ap busy_home (same_Some g h found))
  busy-changed false g hs changed h found rest = omega (arith, busy-cons g changed, busy-cons g hs, rest found)

  -- one region changes, and all others stay
  pub busy-with : (hs : List Home) (h : Home) → home_named r hs ≡ Some h → busy_homes (with_region r region kept hs) + busy_home h ≡ busy_homes hs + (stat_of region).sbusy
  busy-with [] h found = absurd (none-some h found)
  busy-with (g ∷ hs) h found = busy-changed (is_home r g) g hs (with_region r region kept hs) h found (busy-with hs h)

  named-changed : (b : Bool) (g : Home) (hs changed : List Home) (h : Home) → b ≡ is_home r g → cond b (Some g) (home_named r hs) ≡ Some h → (home_named r hs ≡ Some h → home_named r changed ≡ Some (put_region region kept h)) → home_named r (changed_by b g hs changed) ≡ Some (put_region region kept h)
  named-changed true g hs changed h is found rest =
      ap (λ b. cond b (Some (put_region region kept g)) (home_named r hs)) (sym is) ∙ ap (λ k. Some (put_region region kept k)) (same_Some g h found)
  named-changed false g hs changed h is found rest =
      ap (λ b. cond b (Some g) (home_named r changed)) (sym is) ∙ rest found

  -- it is found with its change
  pub named-with : (hs : List Home) (h : Home) → home_named r hs ≡ Some h → home_named r (with_region r region kept hs) ≡ Some (put_region region kept h)
  named-with [] h found = absurd (none-some h found)
  named-with (g ∷ hs) h found = named-changed (is_home r g) g hs (with_region r region kept hs) h refl found (named-with hs h)

module _ (r : List ℕ) where
  busy-gone : (b : Bool) (g : Home) (hs left : List Home) (h : Home) → cond b (Some g) (home_named r hs) ≡ Some h → (home_named r hs ≡ Some h → busy_homes left + busy_home h ≡ busy_homes hs) → busy_homes (cond b hs (g ∷ left)) + busy_home h ≡ busy_homes (g ∷ hs)
  busy-gone true g hs left h found rest = omega (arith, busy-cons g hs, ap busy_home (same_Some g h found))
  busy-gone false g hs left h found rest = omega (arith, busy-cons g left, busy-cons g hs, rest found)

  -- one region goes, and all others stay
  pub busy-without : (hs : List Home) (h : Home) → home_named r hs ≡ Some h → busy_homes (without_home r hs) + busy_home h ≡ busy_homes hs
  busy-without [] h found = absurd (none-some h found)
  busy-without (g ∷ hs) h found = busy-gone (is_home r g) g hs (without_home r hs) h found (busy-without hs h)

  named-found : (b : Bool) (g : Home) (hs : List Home) (h : Home) → b ≡ is_home r g → cond b (Some g) (home_named r hs) ≡ Some h → (home_named r hs ≡ Some h → h.name ≡ r) → h.name ≡ r
  named-found true g hs h is found rest = ap (λ (k : Home). k.name) (sym (same_Some g h found)) ∙ same_bytes g.name r (sym is)
  named-found false g hs h is found rest = rest found

  -- the region that is found by a name has it
  pub name-found : (hs : List Home) (h : Home) → home_named r hs ≡ Some h → h.name ≡ r
  name-found [] h found = absurd (none-some h found)
  name-found (g ∷ hs) h found = named-found (is_home r g) g hs h refl found (name-found hs h)
