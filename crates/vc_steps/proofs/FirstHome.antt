-- The region of a name is the first of that name.
use Rattle.vc_base.proofs.Common.{◌≡◌, ℕ, zero, suc, true, false, cond, List, [], ◌∷◌, take, set, slice_get, Some, ap, ◌∙◌, or_parts, none-some, same_Some, list_any}
use Rattle.vc_region.specs.Region.{Region}
use Rattle.vc_commands.specs.FreedNames.{FreedNames}
use Rattle.vc_commands.specs.Home.{Home, Label, is_home}
use Rattle.vc_steps.specs.State.{with_region}
use Rattle.vc_commands.proofs.Firsts.{IsFirst}

with_region-at : (r : List ℕ) (region : Region Label) (kept : FreedNames) (hs : List Home) (i : ℕ) (h : Home) → slice_get hs i ≡ Some h → is_home r h ≡ true → list_any (is_home r) (take i hs) ≡ false → with_region r region kept hs ≡ set hs i (record h { region = region; kept = kept })
with_region-at r region kept [] i h at passes none = absurd (none-some h at)
with_region-at r region kept (g ∷ hs) zero h at passes none =
    let same : g ≡ h = same_Some g h at in
    let named_r : is_home r g ≡ true = ap (is_home r) same ∙ passes in
    ap (λ b. cond b ((record g { region = region; kept = kept }) ∷ hs) (g ∷ with_region r region kept hs)) named_r
    ∙ ap (λ (k : Home). (record k { region = region; kept = kept }) ∷ hs) same
with_region-at r region kept (g ∷ hs) (suc i) h at passes none =
    let parts = or_parts (is_home r g) (list_any (is_home r) (take i hs)) none in
    ap (λ b. cond b ((record g { region = region; kept = kept }) ∷ hs) (g ∷ with_region r region kept hs)) parts.0
    ∙ ap (λ ks. g ∷ ks) (with_region-at r region kept hs i h at passes parts.1)

-- the region of a name is the first of that name
pub with_region-first : (r : List ℕ) (region : Region Label) (kept : FreedNames) (hs : List Home) (i : ℕ) (f : IsFirst (is_home r) hs i) → with_region r region kept hs ≡ set hs i (record f.item { region = region; kept = kept })
with_region-first r region kept hs i f = with_region-at r region kept hs i f.item f.at f.passes f.before
