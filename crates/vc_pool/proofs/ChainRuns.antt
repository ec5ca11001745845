-- Runs of freed cells.
use Rattle.vc_base.proofs.Common.{◌≡◌, ℕ, ◌+◌, ◌<◌, ◌≤◌, ◌≢◌, List, [], ◌∷◌, ◌++◌, length, get_or, All, sym, refl, ap, ◌∙◌, subst, arith, All-cons, All-head, All-nil, All-tail, place_of}
use Rattle.vc_pool.specs.Cells.Cells.{Cells}
use Rattle.vc_pool.specs.Cells.Freed.{IsFreedChain, freed_link, times}
use Rattle.vc_pool.proofs.Chains.{KeepsWord}
use Rattle.vc_pool.proofs.PlaceCounts.{none-times, same_pair-self, times-append}
use Rattle.vc_pool.specs.Relink.{IsChainRun}

-- a run goes on by one cell
pub run-push : (segs : List Cells) (a before : ℕ) (ps : List (ℕ × ℕ)) (last to : ℕ) → IsChainRun segs a before ps last to → 1 ≤ to → IsChainRun segs a before (ps ++ place_of to ∷ []) to (freed_link segs to)
run-push segs a before [] last to r some = let e : a ≡ to = r.1 in (omega (arith, some, e), ap place_of e, (e, ap (freed_link segs) e))
run-push segs a before (p ∷ ps) last to r some = (r.0, r.1, run-push segs (freed_link segs a) a ps last to r.2 some)

-- with the chain from its end on it is a chain
pub run-chain : (segs : List Cells) (a before : ℕ) (ps qs : List (ℕ × ℕ)) (last to : ℕ) → IsChainRun segs a before ps last to → IsFreedChain segs to qs → IsFreedChain segs a (ps ++ qs)
run-chain segs a before [] qs last to r c = subst (λ k. IsFreedChain segs k qs) (sym r.1) c
run-chain segs a before (p ∷ ps) qs last to r c = (r.0, r.1, run-chain segs (freed_link segs a) a ps qs last to r.2 c)

-- its last cell is one of it
pub run-some : (P : ℕ × ℕ → Type 0) (segs : List Cells) (a before : ℕ) (p : ℕ × ℕ) (ps : List (ℕ × ℕ)) (last to : ℕ) → IsChainRun segs a before (p ∷ ps) last to → All P (p ∷ ps) → P (place_of last)
run-some P segs a before p [] last to r h = let e : a ≡ last = r.2.0 in subst P (sym r.1 ∙ ap place_of e) (All-head P p [] h)
run-some P segs a before p (q ∷ qs) last to r h = run-some P segs (freed_link segs a) a q qs last to r.2 (All-tail P p (q ∷ qs) h)

pub run-last : (segs : List Cells) (a before : ℕ) (p : ℕ × ℕ) (ps : List (ℕ × ℕ)) (last to : ℕ) → IsChainRun segs a before (p ∷ ps) last to → 1 ≤ last
run-last segs a before p [] last to r = let e : a ≡ last = r.2.0 in let some = r.0 in omega (arith, e, some)
run-last segs a before p (q ∷ qs) last to r = run-last segs (freed_link segs a) a q qs last to r.2

heads-other : (p : ℕ × ℕ) (ps : List (ℕ × ℕ)) → ((q : ℕ × ℕ) → times q (p ∷ ps) ≤ 1) → All (λ q. p ≢ q) ps
heads-other p ps once =
    let all = once p in
    let own : 1 + times p ps ≤ 1 = rw (same_pair-self p) at all in
    none-times p ps (omega (arith, own))

-- the link of its last cell changes
pub run-relinked : (o s : List Cells) (a before : ℕ) (p : ℕ × ℕ) (ps : List (ℕ × ℕ)) (last to next : ℕ) → IsChainRun o a before (p ∷ ps) last to → ((q : ℕ × ℕ) → times q (p ∷ ps) ≤ 1) → All (λ q. place_of last ≢ q → KeepsWord o s q) (p ∷ ps) → freed_link s last ≡ next → IsChainRun s a before (p ∷ ps) last next
run-relinked o s a before p [] last to next r once keeps link = let e : a ≡ last = r.2.0 in (r.0, r.1, (e, ap (freed_link s) e ∙ link))
run-relinked o s a before p (q ∷ qs) last to next r once keeps link =
    let P : ℕ × ℕ → Type 0 = λ x. place_of last ≢ x → KeepsWord o s x in
    let other : p ≢ place_of last = run-some (λ x. p ≢ x) o (freed_link o a) a q qs last to r.2 (heads-other p (q ∷ qs) once) in
    let word : freed_link s a ≡ freed_link o a = subst (KeepsWord o s) (sym r.1) (All-head P p (q ∷ qs) keeps (λ e. other (sym e))) in
    let rest = run-relinked o s (freed_link o a) a q qs last to next r.2 (λ x. let all = once x in omega (arith, all)) (All-tail P p (q ∷ qs) keeps) link in
    (r.0, r.1, subst (λ k. IsChainRun s k a (q ∷ qs) last next) (sym word) rest)

-- what is true of each of some is so of each without one of them, and of those in front and behind
pub All-less : (P : ℕ × ℕ → Type 0) (ks : List (ℕ × ℕ)) (p : ℕ × ℕ) (rs : List (ℕ × ℕ)) → All P (ks ++ p ∷ rs) → All P (ks ++ rs)
All-less P [] p rs h = All-tail P p rs h
All-less P (k ∷ ks) p rs h = All-cons P k (ks ++ rs) (All-head P k (ks ++ p ∷ rs) h) (All-less P ks p rs (All-tail P k (ks ++ p ∷ rs) h))

pub All-front : (P : ℕ × ℕ → Type 0) (ks rs : List (ℕ × ℕ)) → All P (ks ++ rs) → All P ks
All-front P [] rs h = All-nil P
All-front P (k ∷ ks) rs h = All-cons P k ks (All-head P k (ks ++ rs) h) (All-front P ks rs (All-tail P k (ks ++ rs) h))

pub All-behind : (P : ℕ × ℕ → Type 0) (ks rs : List (ℕ × ℕ)) → All P (ks ++ rs) → All P rs
All-behind P [] rs h = h
All-behind P (k ∷ ks) rs h = All-behind P ks rs (All-tail P k (ks ++ rs) h)

-- one is among them as often as it stands there
times-own : (rs : List (ℕ × ℕ)) (k : ℕ) (d : ℕ × ℕ) → k < length rs → times (get_or rs k d) rs ≢ 0
times-own rs k d lt none = none-times (get_or rs k d) rs none k d lt refl

-- of places that are there once, those in front are others than those behind
pub front-others : (ks rs : List (ℕ × ℕ)) (k : ℕ) (d : ℕ × ℕ) → ((q : ℕ × ℕ) → times q (ks ++ rs) ≤ 1) → k < length rs → All (λ x. get_or rs k d ≢ x) ks
front-others ks rs k d once lt =
    let q : ℕ × ℕ = get_or rs k d in
    none-times q ks (omega (arith, once q, times-append q ks rs, times-own rs k d lt))
