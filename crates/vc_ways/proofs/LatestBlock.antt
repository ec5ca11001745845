-- The latest block of a last region.
use Rattle.vc_base.proofs.Common.{◌≡◌, ◌≢◌, ℕ, zero, suc, ◌+◌, ◌-◌, ◌<◌, cond, take, length-take-le, false≢true, IsErrOf, HaveOwnPlaces, without_block, List, [], ◌∷◌, Bool, true, false, Option, Ok, Err, length, option_map, refl, sym, ap, ◌∙◌, subst, arith, unwrap_or, Layout, Block, place_of, HasBlock}
use Rattle.std.specs.declared.result.Result.{Result}
use Rattle.vc_model.specs.Last.{last_free, last_resize}
use Rattle.vc_model.specs.Discipline.{Terms}
use Rattle.vc_model.specs.Layout.{place_of_block}
use Rattle.vc_model.specs.Outcome.{Outcome, Done, Fault, Put, Refused, done_as}
use Rattle.vc_model.specs.Best.{without_block_at}
use Rattle.vc_model.proofs.Owned.{free-one_less}
use Rattle.vc_seg.specs.Answer.{Frees, IsPut, IsRefusal}
use Rattle.vc_seg.specs.Segment.{Bytes}
use Rattle.vc_seg.specs.declared.fault.RegionFault.{RegionFault}
use Rattle.vc_seg.specs.declared.fault.RegionFault.TheVariants as code
use Rattle.vc_last.specs.Chain.{IsLast}
use Rattle.vc_last.specs.Read.{layout_by}
use Rattle.vc_last.proofs.Chains.{latest-none}
use Rattle.vc_last.proofs.Kept.{layout-from}
use Rattle.vc_last.proofs.Moves.{latest-among, latest-found, latest-is}
use Rattle.vc_last.proofs.Latest.{call-latest}
use Rattle.vc_last.proofs.Types.{have}
use Rattle.vc_last.specs.Chain.{blocks_from}
use Rattle.vc_ways.specs.LastWay.{LastWay, done_or, drop_dead, drop_dead_in, ends_dead, free_latest, free_latest_of, latest_place, latest_sized, without_latest}

module _ (segs : List Bytes) (q : ℕ) (kept : ∥ IsLast segs q ∥₁) (some : 0 < length (layout_by segs q).blocks) where
  some-q : q ≢ 0
  some-q z =
      let none : (layout_by segs q).blocks ≡ [] = ap (λ (r : Layout ℕ). r.blocks) (layout-from segs q) ∙ (ap (blocks_from segs) z ∙ latest-none segs) in
      omega (arith, some, ap length none)

  -- it stands at the address that the region keeps
  pub latest-live : HasBlock (layout_by segs q).blocks q
  latest-live = latest-among segs q (have segs q kept) some-q

  pub latest-at : latest_place (layout_by segs q) ≡ place_of q
  latest-at = ap (λ (o : Option (Block ℕ)). unwrap_or (option_map place_of_block o) (0, 0)) (latest-is segs q (have segs q kept) some-q)

-- a refusal of a call is one of what is made of its answer
pub refused-as : {A B : Type 0} (form : A → B) (call : Bool → Outcome A) (why : RegionFault) → IsRefusal call why → IsRefusal (λ refused. done_as form (call refused)) why
refused-as form call code.TooManySegments h = ap (done_as form) h
refused-as form call code.NoSegment h = ap (done_as form) h
refused-as form call code.OutOfMemory h = tt
refused-as form call code.Fixed h = ap (done_as form) h
refused-as form call code.PoolSize h = ap (done_as form) h
refused-as form call code.NotLast h = ap (done_as form) h
refused-as form call code.WrongMethod h = ap (done_as form) h

-- of the latest block
pub latest-refused : (terms : Terms) (w : LastWay) (i size : ℕ) (at : ℕ × ℕ) (why : RegionFault) → latest_place w.region ≡ at → IsRefusal (last_resize terms w.region at size true) why → IsRefusal (latest_sized terms w i size) why
latest-refused terms w i size at why e h =
    let form : Put (Layout ℕ) → ℕ × LastWay = λ p. (i, record { region = p.region; dead = w.dead }) in
    subst (λ (p : ℕ × ℕ). IsRefusal (λ refused. done_as form (last_resize terms w.region p size true refused)) why) (sym e) (refused-as form (last_resize terms w.region at size true) why h)

-- a block is put or stays, and the rest is made of the region
pub put-as : {A R : Type 0} (form : R → A) (outcome : Outcome (Put R)) (a : ℕ) (new : R) → IsPut outcome a new → done_as (λ p. form p.region) outcome ≡ Done (form new)
put-as form (Done p) a new h = ap (λ r. Done (form r)) (sym h.2)
put-as form (Refused why) a new h = absurd h

-- the latest block is freed
module _ (segs : List Bytes) (q : ℕ) (kept : ∥ IsLast segs q ∥₁) (some : 0 < length (layout_by segs q).blocks) where
  freed-done : last_free (layout_by segs q) (place_of q) ≡ Done (without_block_at (layout_by segs q) (place_of q))
  freed-done = call-latest (layout_by segs q) (place_of q) (λ b. Done (without_block_at (layout_by segs q) (place_of q))) (latest-found segs q (have segs q kept) (some-q segs q kept some))

  pub freed-latest : free_latest (layout_by segs q) ≡ without_block_at (layout_by segs q) (place_of q)
  freed-latest =
      let r : Layout ℕ = layout_by segs q in
      ap (free_latest_of r) (latest-is segs q (have segs q kept) (some-q segs q kept some)) ∙ ap (done_or r) freed-done

  not-refused : (why : Fault) (new : Layout ℕ) → last_free (layout_by segs q) (place_of q) ≡ Refused why → new ≡ free_latest (layout_by segs q)
  not-refused why new h = let no : Done (without_block_at (layout_by segs q) (place_of q)) ≡ Refused why = sym freed-done ∙ h in absurd (cc)

  -- whatever the region answers
  pub freed-layout : (result : Result Unit RegionFault) (new : Layout ℕ) → Frees (last_free (layout_by segs q) (place_of q)) result (layout_by segs q) new → ¬ IsErrOf result code.OutOfMemory → new ≡ free_latest (layout_by segs q)
  freed-layout (Ok done) new h m = ap (done_or (layout_by segs q)) (sym h ∙ freed-done) ∙ sym freed-latest
  freed-layout (Err code.OutOfMemory) new h m = absurd (m refl)
  freed-layout (Err code.TooManySegments) new h m = not-refused _ new h.0
  freed-layout (Err code.NoSegment) new h m = not-refused _ new h.0
  freed-layout (Err code.Fixed) new h m = not-refused _ new h.0
  freed-layout (Err code.PoolSize) new h m = not-refused _ new h.0
  freed-layout (Err code.NotLast) new h m = not-refused _ new h.0
  freed-layout (Err code.WrongMethod) new h m = not-refused _ new h.0

  pub freed-length : (new : Layout ℕ) → HaveOwnPlaces (layout_by segs q).blocks → new ≡ free_latest (layout_by segs q) → length new.blocks + 1 ≡ length (layout_by segs q).blocks
  freed-length new places e =
      ap (λ (r : Layout ℕ). length r.blocks + 1) (e ∙ freed-latest)
      ∙ free-one_less q (layout_by segs q).blocks (without_block (place_of q) (layout_by segs q).blocks) refl places (latest-live segs q kept some)

-- flags
pub ends-some : (dead : List Bool) → ends_dead dead ≡ true → 0 < length dead
ends-some [] e = absurd (false≢true e)
ends-some (d ∷ ds) e = omega arith

drop-in : (n : ℕ) (w : LastWay) (b : Bool) → ends_dead w.dead ≡ b → drop_dead_in (suc n) w ≡ cond b (drop_dead_in n (without_latest w)) w
drop-in n w b e = ap (λ v. cond v (drop_dead_in n (without_latest w)) w) e

pub drop-more : (w : LastWay) → ends_dead w.dead ≡ true → drop_dead w ≡ drop_dead (without_latest w)
drop-more w e =
    let some = ends-some w.dead e in
    let n : ℕ = length w.dead - 1 in
    let one : length w.dead ≡ suc n = omega (arith, some) in
    let less : length (take n w.dead) ≡ n = length-take-le n w.dead (omega (arith, some)) in
    ap (λ k. drop_dead_in k w) one ∙ (drop-in n w true e ∙ ap (λ k. drop_dead_in k (without_latest w)) (sym less))

drop-end : (n : ℕ) (w : LastWay) → ends_dead w.dead ≡ false → drop_dead_in n w ≡ w
drop-end zero w e = refl
drop-end (suc n) w e = drop-in n w false e

pub drop-none : (w : LastWay) → ends_dead w.dead ≡ false → drop_dead w ≡ w
drop-none w e = drop-end (length w.dead) w e
