-- How the settled shelf changes as regions are opened and change.
use Rattle.vc_base.proofs.Common.{◌≡◌, ℕ, zero, suc, ◌-◌, ◌≤◌, ◌≢◌, List, [], ◌∷◌, ◌++◌, set, slice_get, Some, Option, sym, refl, ap, ◌∙◌, subst, arith, set-set, none-some, same_Some, AllByRecursion}
use Rattle.std.specs.Prelude.{⊤}
use Rattle.std.proofs.lemmas.List.{set_comm}
use Rattle.vc_base.proofs.Lists.{slice_get-set}
use Rattle.vc_steps.proofs.Cells.{slice_get-set_other}
use Rattle.vc_steps.specs.Account.{Account, account_after, settled_accounts}
use Rattle.vc_commands.specs.Held.{Held}

-- a place that is not an open region's keeps what is put there
pub settled-set : (shelf : List (Option Account)) (k : ℕ) (a : Option Account) (hs : List Held) → AllByRecursion (λ g. g.place - 1 ≢ k) hs → settled_accounts (set shelf k a) hs ≡ set (settled_accounts shelf hs) k a
settled-set shelf k a [] away = refl
settled-set shelf k a (h ∷ hs) away =
    ap (λ s. settled_accounts s hs) (set_comm shelf k (h.place - 1) a (Some (account_after h)) (λ e. away.0 (sym e)))
    ∙ settled-set (set shelf (h.place - 1) (Some (account_after h))) k a hs away.1

-- one more region is settled last
pub settled-push : (shelf : List (Option Account)) (hs : List Held) (h : Held) → settled_accounts shelf (hs ++ h ∷ []) ≡ set (settled_accounts shelf hs) (h.place - 1) (Some (account_after h))
settled-push shelf [] h = refl
settled-push shelf (g ∷ hs) h = settled-push (set shelf (g.place - 1) (Some (account_after g))) hs h

-- each place is one of a shelf, and no two are alike
abbrev pub IsApart : List Held → Type 0
IsApart [] = ⊤
IsApart (h ∷ hs) = (1 ≤ h.place) × AllByRecursion (λ g. g.place ≢ h.place) hs × IsApart hs

-- no region stands at the index
abbrev pub Off : ℕ → List Held → Type 0
Off k hs = AllByRecursion (λ g. g.place - 1 ≢ k) hs

pub off-apart : (p : ℕ) (hs : List Held) → 1 ≤ p → AllByRecursion (λ g. g.place ≢ p) hs → IsApart hs → Off (p - 1) hs
off-apart p [] low away apart = tt
off-apart p (g ∷ hs) low away apart = ((λ e. away.0 (omega (arith, e, low, apart.0))), off-apart p hs low away.1 apart.2)

pub settled-keeps : (shelf : List (Option Account)) (k : ℕ) (hs : List Held) → Off k hs → slice_get (settled_accounts shelf hs) k ≡ slice_get shelf k
settled-keeps shelf k [] off = refl
settled-keeps shelf k (h ∷ hs) off =
    settled-keeps (set shelf (h.place - 1) (Some (account_after h))) k hs off.1
    ∙ slice_get-set_other shelf (h.place - 1) k (Some (account_after h)) (λ e. off.0 (sym e))

pub away-at : (p : ℕ) (hs : List Held) (i : ℕ) (h : Held) → slice_get hs i ≡ Some h → AllByRecursion (λ f. f.place ≢ p) hs → h.place ≢ p
away-at p [] i h at all = absurd (none-some h at)
away-at p (f ∷ hs) zero h at all = λ e. all.0 (ap (λ (x : Held). x.place) (same_Some f h at) ∙ e)
away-at p (f ∷ hs) (suc i) h at all = away-at p hs i h at all.1

pub low-at : (hs : List Held) (i : ℕ) (h : Held) → slice_get hs i ≡ Some h → IsApart hs → 1 ≤ h.place
low-at [] i h at apart = absurd (none-some h at)
low-at (f ∷ hs) zero h at apart = subst (λ (x : Held). 1 ≤ x.place) (same_Some f h at) apart.0
low-at (f ∷ hs) (suc i) h at apart = low-at hs i h at apart.2

-- a region that changes at its place changes the settled shelf there and nowhere else
pub settled-change : (shelf : List (Option Account)) (hs : List Held) (i : ℕ) (h g : Held) → slice_get hs i ≡ Some h → g.place ≡ h.place → IsApart hs → settled_accounts shelf (set hs i g) ≡ set (settled_accounts shelf hs) (g.place - 1) (Some (account_after g))
settled-change shelf [] i h g at same apart = absurd (none-some h at)
settled-change shelf (f ∷ hs) zero h g at same apart =
    let here : f.place ≡ g.place = ap (λ (x : Held). x.place) (same_Some f h at) ∙ sym same in
    let off : Off (f.place - 1) hs = off-apart f.place hs apart.0 apart.1 apart.2 in
    sym
    (ap (λ k. set (settled_accounts (set shelf (f.place - 1) (Some (account_after f))) hs) (k - 1) (Some (account_after g))) (sym here)
    ∙ (sym (settled-set (set shelf (f.place - 1) (Some (account_after f))) (f.place - 1) (Some (account_after g)) hs off)
    ∙ (ap (λ s. settled_accounts s hs) (set-set shelf (f.place - 1) (Some (account_after f)) (Some (account_after g)))
    ∙ ap (λ k. settled_accounts (set shelf (k - 1) (Some (account_after g))) hs) here)))
settled-change shelf (f ∷ hs) (suc i) h g at same apart = settled-change (set shelf (f.place - 1) (Some (account_after f))) hs i h g at same apart.2

-- where a region stands, the settled shelf has its account
pub settled-at : (shelf : List (Option Account)) (hs : List Held) (i : ℕ) (h : Held) (o : Option Account) → slice_get hs i ≡ Some h → slice_get shelf (h.place - 1) ≡ Some o → IsApart hs → slice_get (settled_accounts shelf hs) (h.place - 1) ≡ Some (Some (account_after h))
settled-at shelf [] i h o at there apart = absurd (none-some h at)
settled-at shelf (f ∷ hs) zero h o at there apart =
    let same : f ≡ h = same_Some f h at in
    subst (λ (x : Held). slice_get (settled_accounts (set shelf (f.place - 1) (Some (account_after f))) hs) (x.place - 1) ≡ Some (Some (account_after x))) same
    (settled-keeps (set shelf (f.place - 1) (Some (account_after f))) (f.place - 1) hs (off-apart f.place hs apart.0 apart.1 apart.2)
    ∙ slice_get-set shelf (f.place - 1) o (Some (account_after f)) (subst (λ (x : Held). slice_get shelf (x.place - 1) ≡ Some o) (sym same) there))
settled-at shelf (f ∷ hs) (suc i) h o at there apart =
    let other : h.place ≢ f.place = away-at f.place hs i h at apart.1 in
    let low : 1 ≤ h.place = low-at hs i h at apart.2 in
    let first : 1 ≤ f.place = apart.0 in
    settled-at (set shelf (f.place - 1) (Some (account_after f))) hs i h o at
    (slice_get-set_other shelf (f.place - 1) (h.place - 1) (Some (account_after f)) (λ e. other (omega (arith, e, low, first))) ∙ there)
    apart.2
