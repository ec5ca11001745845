-- One pool of a list changes.
use Rattle.vc_base.proofs.Common.{◌≡◌, ℕ, zero, suc, ◌<◌, List, [], ◌∷◌, Bool, false, true, map, set, length, get_or, refl, sym, ◌∙◌, subst, arith, Discipline}
use Rattle.vc_model.proofs.Keeping.{Kept-same, Kept-trans}
use Rattle.vc_ways.specs.Answer.{Holding, KeepsWay, KeepsWays}

-- nothing changes
pub keeps-same : {went : Bool} (h : Holding) → KeepsWay went h h
keeps-same h = record { kept = Kept-same h.disc; out = λ rest e. e; none = λ e. e; same = λ yes e. refl }

-- what holds of a call that went holds of any
pub keeps-any : {went : Bool} (a b : Holding) → KeepsWay true a b → KeepsWay went a b
keeps-any a b h = record { kept = h.kept; out = h.out; none = h.none; same = λ yes. h.same refl }

pub kept-any : (went : Bool) (xs ys : List Holding) → KeepsWays true xs ys → KeepsWays went xs ys
kept-any went [] [] h = tt
kept-any went [] (y ∷ ys) h = absurd h
kept-any went (x ∷ xs) [] h = absurd h
kept-any went (x ∷ xs) (y ∷ ys) h = (keeps-any {went = went} x y h.0, kept-any went xs ys h.1)

-- two calls, one behind the other
pub keeps-both : {first second : Bool} (a b c : Holding) → KeepsWay first a b → KeepsWay second b c → KeepsWay false a c
keeps-both a b c h k =
    record {
      kept = Kept-trans a.disc b.disc c.disc h.kept k.kept;
      out = λ rest e. k.out rest (h.out rest e);
      none = λ e. h.none (k.none e);
      same = λ yes e. absurd (cc);
    }

-- the first one went
pub keeps-then : {went : Bool} (a b c : Holding) → KeepsWay true a b → KeepsWay went b c → KeepsWay went a c
keeps-then a b c h k =
    let both = keeps-both a b c h k in
    record { kept = both.kept; out = both.out; none = both.none; same = λ yes e. k.same yes e ∙ h.same refl (k.none e) }

pub kept-same : (went : Bool) (hs : List Holding) → KeepsWays went hs hs
kept-same went [] = tt
kept-same went (h ∷ hs) = (keeps-same {went = went} h, kept-same went hs)

pub kept-then : (went : Bool) (xs ys zs : List Holding) → KeepsWays true xs ys → KeepsWays went ys zs → KeepsWays went xs zs
kept-then went [] [] [] h k = tt
kept-then went [] [] (z ∷ zs) h k = absurd k
kept-then went [] (y ∷ ys) zs h k = absurd h
kept-then went (x ∷ xs) [] zs h k = absurd h
kept-then went (x ∷ xs) (y ∷ ys) [] h k = absurd k
kept-then went (x ∷ xs) (y ∷ ys) (z ∷ zs) h k = (keeps-then {went = went} x y z h.0 k.0, kept-then went xs ys zs h.1 k.1)

-- one of them is another one
pub kept-set : (went : Bool) {A : Type 0} (f : A → Holding) (xs : List A) (k : ℕ) (x d : A) → k < length xs → KeepsWay went (f (get_or xs k d)) (f x) → KeepsWays went (map f xs) (map f (set xs k x))
kept-set went f [] k x d lt h = tt
kept-set went f (y ∷ ys) zero x d lt h = (h, kept-same went (map f ys))
kept-set went f (y ∷ ys) (suc k) x d lt h = (keeps-same {went = went} (f y), kept-set went f ys k x d (omega (arith, lt)) h)

-- the discipline and the segments are the same
pub keeps-equal : {went : Bool} (a b : Holding) → b.disc ≡ a.disc → b.segments ≡ a.segments → KeepsWay went a b
keeps-equal {went} a b d s = subst (λ (disc : Discipline). KeepsWay went a (record { disc = disc; segments = b.segments })) (sym d) (subst (λ (segments : List (ℕ × ℕ)). KeepsWay went a (record { disc = a.disc; segments = segments })) (sym s) (keeps-same a))
