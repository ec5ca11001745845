-- Live blocks by name, as commands put, move and free them.
use Rattle.vc_base.proofs.Common.{◌≡◌, ◌≢◌, ℕ, List, [], ◌∷◌, Bool, true, false, cond, Option, Some, None, bytes_eq, bytes_eq-Decides, sym, ap, ◌∙◌, subst, ⊎_elim, cases_Bool, All, All-cons, All-head, All-nil, All-tail, false≢true, none-some, same_Some}
use Rattle.vc_ways.specs.Answer.{HasOwnSegmentsOut, Holding, KeepsWays}
use Rattle.vc_ways.specs.Regions.{Regions}
use Rattle.vc_ways.specs.RegionsParts.{Comes, IsLiveIn, StandApart}
use Rattle.vc_ways.specs.declared.live.Live.{Live}

-- what is lent stays so
pub kept-lent : (went : Bool) (olds news : List Holding) → All HasOwnSegmentsOut olds → KeepsWays went olds news → All HasOwnSegmentsOut news
kept-lent went [] [] all kept = All-nil HasOwnSegmentsOut
kept-lent went [] (b ∷ bs) all kept = absurd kept
kept-lent went (a ∷ rest) [] all kept = absurd kept
kept-lent went (a ∷ rest) (b ∷ others) all kept =
    let lent = All-head HasOwnSegmentsOut a rest all in
    All-cons HasOwnSegmentsOut b others (lent.0, kept.0.out lent.0 lent.1) (kept-lent went rest others (All-tail HasOwnSegmentsOut a rest all) kept.1)

pub apart-sym : (a b : Live) → StandApart a b → StandApart b a
apart-sym a b h = record { best = λ e. h.best (sym e); last = λ e. h.last (sym e); cell = λ c e. h.cell (sym c) (sym e) }

pub other-name : (x y : List ℕ) → x ≢ y → bytes_eq x y ≡ false
other-name x y other =
    ⊎_elim (λ (t : bytes_eq x y ≡ true). absurd (other ((bytes_eq-Decides x y).0 t))) (λ (t : bytes_eq x y ≡ false). t) (cases_Bool (bytes_eq x y))

pub other-bytes : (x y : List ℕ) → bytes_eq x y ≡ false → x ≢ y
other-bytes x y t e = false≢true (sym t ∙ (bytes_eq-Decides x y).1 e)

abbrev pub Names : Type 0
Names = List ℕ → Option Live

-- each name's block is live
abbrev pub AllLive : Regions → Names → Type 0
AllLive r blocks = (x : List ℕ) (l : Live) → blocks x ≡ Some l → IsLiveIn r l

-- and those of two names are apart
abbrev pub AllApart : Names → Type 0
AllApart blocks = (x y : List ℕ) (l k : Live) → x ≢ y → blocks x ≡ Some l → blocks y ≡ Some k → StandApart l k

-- a block comes under a name
module _ (Stays : Live → Type 0) (r r' : Regions) (l : Live) (comes : Comes Stays r l r') (blocks blocks' : Names) (x : List ℕ) (updates : (q : List ℕ) → blocks' q ≡ cond (bytes_eq x q) (Some l) (blocks q)) (live : AllLive r blocks) (apart : AllApart blocks) (stays : (q : List ℕ) (k : Live) → x ≢ q → blocks q ≡ Some k → Stays k) where
  here : (q : List ℕ) (k : Live) → bytes_eq x q ≡ true → blocks' q ≡ Some k → l ≡ k
  here q k t e = same_Some l k (ap (λ b. cond b (Some l) (blocks q)) (sym t) ∙ (sym (updates q) ∙ e))

  there : (q : List ℕ) (k : Live) → bytes_eq x q ≡ false → blocks' q ≡ Some k → blocks q ≡ Some k
  there q k t e = ap (λ b. cond b (Some l) (blocks q)) (sym t) ∙ (sym (updates q) ∙ e)

  pub comes-live : AllLive r' blocks'
  comes-live q k e =
      ⊎_elim
      (λ (t : bytes_eq x q ≡ true). subst (IsLiveIn r') (here q k t e) comes.there)
      (λ (t : bytes_eq x q ≡ false). (comes.others k (live q k (there q k t e)) (stays q k (other-bytes x q t) (there q k t e))).0)
      (cases_Bool (bytes_eq x q))

  beside : (q : List ℕ) (k : Live) → bytes_eq x q ≡ false → blocks' q ≡ Some k → StandApart k l
  beside q k t e = (comes.others k (live q k (there q k t e)) (stays q k (other-bytes x q t) (there q k t e))).1

  pub comes-apart : AllApart blocks'
  comes-apart p q m k other e f =
      ⊎_elim
      (λ (t : bytes_eq x p ≡ true).
      ⊎_elim
      (λ (u : bytes_eq x q ≡ true). absurd (other (sym ((bytes_eq-Decides x p).0 t) ∙ (bytes_eq-Decides x q).0 u)))
      (λ (u : bytes_eq x q ≡ false). subst (λ (n : Live). StandApart n k) (here p m t e) (apart-sym k l (beside q k u f)))
      (cases_Bool (bytes_eq x q)))
      (λ (t : bytes_eq x p ≡ false).
      ⊎_elim
      (λ (u : bytes_eq x q ≡ true). subst (StandApart m) (here q k u f) (beside p m t e))
      (λ (u : bytes_eq x q ≡ false). apart p q m k other (there p m t e) (there q k u f))
      (cases_Bool (bytes_eq x q)))
      (cases_Bool (bytes_eq x p))

-- the block of a name goes
module _ (r r' : Regions) (l : Live) (blocks blocks' : Names) (x : List ℕ) (is : blocks x ≡ Some l) (goes : (k : Live) → IsLiveIn r k → StandApart k l → IsLiveIn r' k) (updates : (q : List ℕ) → blocks' q ≡ cond (bytes_eq x q) None (blocks q)) (live : AllLive r blocks) (apart : AllApart blocks) where
  left : (q : List ℕ) (k : Live) → blocks' q ≡ Some k → (x ≢ q) × (blocks q ≡ Some k)
  left q k e =
      ⊎_elim
      (λ (t : bytes_eq x q ≡ true). absurd (none-some k (ap (λ b. cond b None (blocks q)) (sym t) ∙ (sym (updates q) ∙ e))))
      (λ (t : bytes_eq x q ≡ false). (other-bytes x q t, ap (λ b. cond b None (blocks q)) (sym t) ∙ (sym (updates q) ∙ e)))
      (cases_Bool (bytes_eq x q))

  pub goes-live : AllLive r' blocks'
  goes-live q k e = let was = left q k e in goes k (live q k was.1) (apart q x k l (λ f. was.0 (sym f)) was.1 is)

  pub goes-apart : AllApart blocks'
  goes-apart p q m k other e f = apart p q m k other (left p m e).1 (left q k f).1
