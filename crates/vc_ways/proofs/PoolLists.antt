-- The pools of the classes, of which one changes.
use Rattle.vc_base.proofs.Common.{IfOk, eqb, ne_eqb, All, Ok, Err, ap₂, map-set, get_or-map, length-map, get_or-set_other, HasBlock, place_of, Discipline, ◌≡◌, ◌≢◌, ℕ, ◌+◌, ◌<◌, ◌≤◌, List, [], ◌∷◌, Bool, true, false, cond, ◌&&◌, map, set, length, get_or, count_by, sum_by-append, count_by-le-length, refl, sym, ap, ◌∙◌, subst, arith, nat_lt, leb, leb-true, and_parts, false_from_ne_true, ltb-true}
use Rattle.std.specs.List.{list_all}
use Rattle.std.proofs.lemmas.List.Folds.{list_all_at}
use Rattle.std.specs.declared.result.Result.{Result}
use Rattle.vc_base.specs.declared.addr.Addr.{Addr}
use Rattle.vc_model.specs.Discipline.{Terms}
use Rattle.vc_model.specs.Outcome.{Outcome, Done, Put, Refused, done_as}
use Rattle.vc_model.specs.Pool as model
use Rattle.vc_model.specs.Pool.{pool_alloc, pool_free}
use Rattle.vc_pool.specs.Parts.{disc_in, pool_of}
use Rattle.vc_pool.specs.declared.pool.Pool.{Pool}
use Rattle.vc_seg.specs.Answer.{Answers, IsPut, IsRefusal}
use Rattle.vc_seg.specs.OneBlock.{IsBlockPut, IsSize}
use Rattle.vc_seg.specs.declared.fault.RegionFault.{RegionFault}
use Rattle.vc_ways.specs.Answer.{GivesOutcome, HasOwnSegmentsOut, Holding, KeepsWay, KeepsWays}
use Rattle.vc_ways.specs.PoolParts.{CellComes, class_blocks, holding_in, holdings, pools_of, terms_in}
use Rattle.vc_ways.proofs.Cells.{comes}
use Rattle.vc_ways.proofs.LatestBlock.{refused-as}
use Rattle.vc_ways.proofs.PoolSteps.{kept-set}
use Rattle.vc_ways.specs.PoolWay.{cell_free, cell_put, cell_sized, class_bytes, class_of, classes, pool_at, terms_at}

-- the greatest class is not smaller than a block
not-smaller : (size : ℕ) → size ≤ 16777216 → nat_lt 16777216 size ≡ false
not-smaller size le = false_from_ne_true _ (λ t. let lt = ltb-true 16777216 size t in omega (arith, lt, le))

abbrev front : List ℕ
front =
    32 ∷ 64 ∷ 128 ∷ 256 ∷ 512 ∷ 1024 ∷ 2048 ∷ 4096 ∷ 8192 ∷ 16384 ∷ 32768 ∷ 65536 ∷ 131072 ∷ 262144 ∷ 524288
    ∷ 1048576 ∷ 2097152 ∷ 4194304 ∷ 8388608 ∷ []

-- so there are fewer than twenty that are
pub class-few : (size : ℕ) → size ≤ 16777216 → class_of size < 20
class-few size le =
    let p : ℕ → Bool = λ bytes. nat_lt bytes size in
    let all : class_of size ≡ count_by p front + count_by p (16777216 ∷ []) = sum_by-append (λ x. cond (p x) 1 0) front (16777216 ∷ []) in
    let last : count_by p (16777216 ∷ []) ≡ 0 = ap (λ b. 0 + cond b 1 0) (not-smaller size le) in
    let few : count_by p front ≤ 19 = count_by-le-length p front in
    omega (arith, all, last, few)

abbrev is_class : ℕ → Bool
is_class bytes = leb 1 bytes && leb bytes 16777216

-- a class is a size
pub class-size : (class : ℕ) → class < 20 → IsSize (class_bytes class)
class-size class lt =
    let yes : is_class (get_or classes class 0) ≡ true = not-false (is_class (get_or classes class 0)) (λ e. let no : list_all is_class classes ≡ false = list_all_at is_class classes class 0 lt e in absurd (no-all no)) in
    let both = and_parts (leb 1 (get_or classes class 0)) (leb (get_or classes class 0) 16777216) yes in
    record { some = leb-true 1 (get_or classes class 0) both.0; most = leb-true (get_or classes class 0) 16777216 both.1 }
  where
    not-false : (b : Bool) → b ≢ false → b ≡ true
    not-false true h = refl
    not-false false h = absurd (h refl)

    no-all : list_all is_class classes ≢ false
    no-all e = cc

-- what a call on the pool of a class says of all
abbrev cell_form : List (model.Pool ℕ) → ℕ → Put (model.Pool ℕ) → (ℕ × ℕ) × List (model.Pool ℕ)
cell_form pools class p = (p.at, set pools class p.region)

put-cell : (pools : List (model.Pool ℕ)) (class : ℕ) (o : Outcome (Put (model.Pool ℕ))) (a : ℕ) (new : model.Pool ℕ) → IsPut o a new → done_as (cell_form pools class) o ≡ Done (place_of a, set pools class new)
put-cell pools class (Done p) a new h = ap₂ (λ (at : ℕ × ℕ) (q : model.Pool ℕ). Done (at, set pools class q)) h.1 (sym h.2)
put-cell pools class (Refused why) a new h = absurd h

cell-answers : (terms : List Terms) (pools : List (model.Pool ℕ)) (size : ℕ) (result : Result Addr RegionFault) (p new : model.Pool ℕ) → Answers (pool_alloc (terms_at terms (class_of size)) (pool_at pools (class_of size)) 0 (class_bytes (class_of size))) result p new → GivesOutcome (cell_put terms pools size) (λ (a : Addr). place_of a.0) result (set pools (class_of size) new)
cell-answers terms pools size (Ok a) p new h = put-cell pools (class_of size) (pool_alloc (terms_at terms (class_of size)) (pool_at pools (class_of size)) 0 (class_bytes (class_of size)) false) a.0 new h
cell-answers terms pools size (Err why) p new h = refused-as (cell_form pools (class_of size)) (pool_alloc (terms_at terms (class_of size)) (pool_at pools (class_of size)) 0 (class_bytes (class_of size))) why h.0

-- a refusal in another class is one of the block that gets another size
pub sized-refused : (terms : List Terms) (pools : List (model.Pool ℕ)) (old size : ℕ) (at : ℕ × ℕ) (why : RegionFault) → class_of size ≢ class_of old → IsRefusal (cell_put terms pools size) why → IsRefusal (cell_sized terms pools old at size) why
sized-refused terms pools old size at why other h =
    let form : (ℕ × ℕ) × List (model.Pool ℕ) → (ℕ × ℕ) × List (model.Pool ℕ) = λ p. (p.0, cell_free p.1 old at) in
    let t : eqb (class_of size) (class_of old) ≡ false = ne_eqb (class_of size) (class_of old) other in
    subst (λ (b : Bool). IsRefusal (λ refused. cond b (Done (at, pools)) (done_as form (cell_put terms pools size refused))) why) (sym t) (refused-as form (cell_put terms pools size) why h)

-- a pool of a list, and another one in its place
module _ {I : Type 0} {V : I → Type 0} (meaning : (x : I) × V x → Discipline) (xs : List (Pool I V)) (k : ℕ) (p q : Pool I V) (lt : k < length xs) (is : p ≡ get_or xs k p) where
  pub pool-here : pool_at (pools_of xs) k ≡ pool_of p
  pool-here = get_or-map pool_of xs k p model.empty_pool lt ∙ ap pool_of (sym is)

  pub pools-set : pools_of (set xs k q) ≡ set (pools_of xs) k (pool_of q)
  pools-set = map-set pool_of xs k q

  within : k < length (holdings meaning xs)
  within = omega (arith, lt, length-map xs (holding_in meaning))

  holding-here : get_or (holdings meaning xs) k (holding_in meaning p) ≡ holding_in meaning p
  holding-here = get_or-map (holding_in meaning) xs k p (holding_in meaning p) lt ∙ ap (holding_in meaning) (sym is)

  pub lent-here : All HasOwnSegmentsOut (holdings meaning xs) → HasOwnSegmentsOut (holding_in meaning p)
  lent-here all = subst HasOwnSegmentsOut holding-here (all k (holding_in meaning p) within)

  pub kept-here : {went : Bool} → KeepsWay went (holding_in meaning p) (holding_in meaning q) → KeepsWays went (holdings meaning xs) (holdings meaning (set xs k q))
  kept-here {went} h = kept-set _ (holding_in meaning) xs k q p lt (subst (λ (o : Pool I V). KeepsWay went (holding_in meaning o) (holding_in meaning q)) is h)

  pub terms-here : terms_at (terms_in (holdings meaning xs)) k ≡ (disc_in meaning p).terms
  terms-here =
      let t : Holding → Terms = λ h. h.disc.terms in
      get_or-map t (holdings meaning xs) k (holding_in meaning p) (record { round = 32; grows = false }) within ∙ ap t holding-here

  pub answer-here : (size : ℕ) (result : Result Addr RegionFault) → k ≡ class_of size → Answers (pool_alloc (disc_in meaning p).terms (pool_of p) 0 (class_bytes k)) result (pool_of p) (pool_of q) → GivesOutcome (cell_put (terms_in (holdings meaning xs)) (pools_of xs) size) (λ (a : Addr). place_of a.0) result (pools_of (set xs k q))
  answer-here size result e h =
      let moved : Answers (pool_alloc (terms_at (terms_in (holdings meaning xs)) k) (pool_at (pools_of xs) k) 0 (class_bytes k)) result (pool_of p) (pool_of q) =
      subst (λ (o : model.Pool ℕ). Answers (pool_alloc (terms_at (terms_in (holdings meaning xs)) k) o 0 (class_bytes k)) result (pool_of p) (pool_of q)) (sym pool-here)
      (subst (λ (t : Terms). Answers (pool_alloc t (pool_of p) 0 (class_bytes k)) result (pool_of p) (pool_of q)) (sym terms-here) h) in
      let there : GivesOutcome (cell_put (terms_in (holdings meaning xs)) (pools_of xs) size) (λ (a : Addr). place_of a.0) result (set (pools_of xs) (class_of size) (pool_of q)) =
      cell-answers (terms_in (holdings meaning xs)) (pools_of xs) size result (pool_of p) (pool_of q) (subst (λ (n : ℕ). Answers (pool_alloc (terms_at (terms_in (holdings meaning xs)) n) (pool_at (pools_of xs) n) 0 (class_bytes n)) result (pool_of p) (pool_of q)) e moved) in
      subst (GivesOutcome (cell_put (terms_in (holdings meaning xs)) (pools_of xs) size) (λ (a : Addr). place_of a.0) result) (ap (λ n. set (pools_of xs) n (pool_of q)) (sym e) ∙ sym pools-set) there

  -- the cells of another class stay
  pub cells-other : (n : ℕ) → n ≢ k → class_blocks (pools_of (set xs k q)) n ≡ class_blocks (pools_of xs) n
  cells-other n other =
      ap (λ ps. class_blocks ps n) pools-set ∙ ap (λ (o : model.Pool ℕ). o.layout.blocks) (get_or-set_other (pools_of xs) k n (pool_of q) model.empty_pool other)

  pub freed-here : (at : ℕ × ℕ) (n : ℕ) → k ≡ n → pool_of q ≡ pool_free (pool_of p) at → pools_of (set xs k q) ≡ set (pools_of xs) n (pool_free (pool_at (pools_of xs) n) at)
  freed-here at n e h =
      pools-set
      ∙ (ap (set (pools_of xs) k) (h ∙ ap (λ o. pool_free o at) (sym pool-here))
      ∙ ap (λ m. set (pools_of xs) m (pool_free (pool_at (pools_of xs) m) at)) e)

  pub has-here : (a n : ℕ) → k ≡ n → HasBlock (class_blocks (pools_of xs) n) a → HasBlock (pool_of p).layout.blocks a
  has-here a n e has =
      subst (λ (o : model.Pool ℕ). HasBlock o.layout.blocks a) pool-here (subst (λ (m : ℕ). HasBlock (class_blocks (pools_of xs) m) a) (sym e) has)

  pub comes-here : (size : ℕ) (result : Result Addr RegionFault) → k ≡ class_of size → IfOk result (λ a. IsBlockPut 0 (class_bytes k) a.0 (pool_of p).layout.blocks (pool_of q).layout.blocks) → IfOk result (λ a. CellComes (λ _ _. Unit {0}) (pools_of xs) (class_of size) a.0 (pools_of (set xs k q)))
  comes-here size (Ok a) e h =
      let within : k < length (pools_of xs) = omega (arith, lt, length-map xs pool_of) in
      let put : IsBlockPut 0 (class_bytes k) a.0 (class_blocks (pools_of xs) k) (pool_of q).layout.blocks =
      subst (λ (o : model.Pool ℕ). IsBlockPut 0 (class_bytes k) a.0 o.layout.blocks (pool_of q).layout.blocks) (sym pool-here) h in
      subst (λ (ps : List (model.Pool ℕ)). CellComes (λ _ _. Unit {0}) (pools_of xs) (class_of size) a.0 ps) (sym pools-set)
      (subst (λ n. CellComes (λ _ _. Unit {0}) (pools_of xs) n a.0 (set (pools_of xs) k (pool_of q))) e (comes (pools_of xs) k (pool_of q) within 0 (class_bytes k) a.0 put))
  comes-here size (Err why) e h = tt
