-- A command in the three ways.
use Rattle.vc_base.proofs.Common.{◌≡◌, ℕ, List, Bool, false, true, Option, sym, ap, ◌∙◌, Layout, place_of}
use Rattle.vc_model.specs.Outcome.{Outcome, Done, Fault, Put, Refused}
use Rattle.vc_model.specs.Pool.{Pool}
use Rattle.vc_seg.specs.Answer.{IsPut, IsRefusal}
use Rattle.vc_seg.specs.declared.fault.RegionFault.{RegionFault}
use Rattle.vc_seg.specs.declared.fault.RegionFault.TheVariants as code
use Rattle.vc_ways.specs.LastWay.{LastWay, drop_dead}
use Rattle.vc_ways.specs.Live.{LivePlaces}
use Rattle.vc_ways.specs.Regions.{Regions, Stopped, Took, Tried, is_refused, three_ways}
use Rattle.vc_ways.specs.RegionsParts.{IsStop}
use Rattle.vc_ways.specs.declared.way.Way.{Way}
use Rattle.vc_ways.specs.declared.way.Way.TheVariants as way

module _ (size : ℕ) where
  ok-best : (best : Outcome (Put (Layout ℕ))) (last : ℕ × LastWay) (pool : (ℕ × ℕ) × List (Pool ℕ)) (a : ℕ) (r : Layout ℕ) → IsPut best a r → three_ways size best (Done last) (Done pool) ≡ Took (record { size = size; best = place_of a; last = last.0; cell = pool.0 }, record { best = r; last = drop_dead last.1; pools = pool.1 })
  ok-best (Done p) last pool a r h =
      ap (λ (at : ℕ × ℕ). Took (record { size = size; best = at; last = last.0; cell = pool.0 }, record { best = p.region; last = drop_dead last.1; pools = pool.1 })) h.1
      ∙ ap (λ (region : Layout ℕ). Took (record { size = size; best = place_of a; last = last.0; cell = pool.0 }, record { best = region; last = drop_dead last.1; pools = pool.1 })) (sym h.2)
  ok-best (Refused why) last pool a r h = absurd h

  -- each way does it
  pub three-ok : (best : Outcome (Put (Layout ℕ))) (last : Outcome (ℕ × LastWay)) (pool : Outcome ((ℕ × ℕ) × List (Pool ℕ))) (a : ℕ) (r : Layout ℕ) (l : ℕ × LastWay) (p : (ℕ × ℕ) × List (Pool ℕ)) → IsPut best a r → last ≡ Done l → pool ≡ Done p → three_ways size best last pool ≡ Took (record { size = size; best = place_of a; last = l.0; cell = p.0 }, record { best = r; last = drop_dead l.1; pools = p.1 })
  three-ok best last pool a r l p h e f =
      ap (λ o. three_ways size best o pool) e ∙ (ap (λ o. three_ways size best (Done l) o) f ∙ ok-best best l p a r h)

  -- the best region can't
  no-best : (best : Outcome (Put (Layout ℕ))) (last : Outcome (ℕ × LastWay)) (pool : Outcome ((ℕ × ℕ) × List (Pool ℕ))) (why : Fault) → best ≡ Refused why → three_ways size best last pool ≡ Stopped way.Best why
  no-best best last pool why e = ap (λ o. three_ways size o last pool) e

  no-last : (best : Outcome (Put (Layout ℕ))) (last : Outcome (ℕ × LastWay)) (pool : Outcome ((ℕ × ℕ) × List (Pool ℕ))) (a : ℕ) (r : Layout ℕ) (why : Fault) → IsPut best a r → last ≡ Refused why → three_ways size best last pool ≡ Stopped way.Last why
  no-last (Done p) last pool a r why h e = ap (λ o. three_ways size (Done p) o pool) e
  no-last (Refused other) last pool a r why h e = absurd h

  no-pool : (best : Outcome (Put (Layout ℕ))) (last : Outcome (ℕ × LastWay)) (pool : Outcome ((ℕ × ℕ) × List (Pool ℕ))) (a : ℕ) (r : Layout ℕ) (l : ℕ × LastWay) (why : Fault) → IsPut best a r → last ≡ Done l → pool ≡ Refused why → three_ways size best last pool ≡ Stopped way.Pool why
  no-pool (Done p) last pool a r l why h e f = ap (λ o. three_ways size (Done p) o pool) e ∙ ap (λ o. three_ways size (Done p) (Done l) o) f
  no-pool (Refused other) last pool a r l why h e f = absurd h

  module _ (best : Bool → Outcome (Put (Layout ℕ))) (last : Bool → Outcome (ℕ × LastWay)) (pool : Bool → Outcome ((ℕ × ℕ) × List (Pool ℕ))) where
    abbrev call : Option Way → Tried (LivePlaces × Regions)
    call refused = three_ways size (best (is_refused refused way.Best)) (last (is_refused refused way.Last)) (pool (is_refused refused way.Pool))

    pub stop-best : (why : RegionFault) → IsRefusal best why → IsStop call way.Best why
    stop-best code.TooManySegments h = no-best _ (last false) (pool false) _ h
    stop-best code.NoSegment h = no-best _ (last false) (pool false) _ h
    stop-best code.OutOfMemory h = tt
    stop-best code.Fixed h = no-best _ (last false) (pool false) _ h
    stop-best code.PoolSize h = no-best _ (last false) (pool false) _ h
    stop-best code.NotLast h = no-best _ (last false) (pool false) _ h
    stop-best code.WrongMethod h = no-best _ (last false) (pool false) _ h

    pub stop-last : (a : ℕ) (r : Layout ℕ) (why : RegionFault) → IsPut (best false) a r → IsRefusal last why → IsStop call way.Last why
    stop-last a r code.TooManySegments p h = no-last (best false) (last false) (pool false) a r _ p h
    stop-last a r code.NoSegment p h = no-last (best false) (last true) (pool false) a r _ p h
    stop-last a r code.OutOfMemory p h = tt
    stop-last a r code.Fixed p h = no-last (best false) (last false) (pool false) a r _ p h
    stop-last a r code.PoolSize p h = no-last (best false) (last false) (pool false) a r _ p h
    stop-last a r code.NotLast p h = no-last (best false) (last false) (pool false) a r _ p h
    stop-last a r code.WrongMethod p h = no-last (best false) (last false) (pool false) a r _ p h

    pub stop-pool : (a : ℕ) (r : Layout ℕ) (l : ℕ × LastWay) (why : RegionFault) → IsPut (best false) a r → last false ≡ Done l → IsRefusal pool why → IsStop call way.Pool why
    stop-pool a r l code.TooManySegments p e h = no-pool (best false) (last false) (pool false) a r l _ p e h
    stop-pool a r l code.NoSegment p e h = no-pool (best false) (last false) (pool true) a r l _ p e h
    stop-pool a r l code.OutOfMemory p e h = tt
    stop-pool a r l code.Fixed p e h = no-pool (best false) (last false) (pool false) a r l _ p e h
    stop-pool a r l code.PoolSize p e h = no-pool (best false) (last false) (pool false) a r l _ p e h
    stop-pool a r l code.NotLast p e h = no-pool (best false) (last false) (pool false) a r l _ p e h
    stop-pool a r l code.WrongMethod p e h = no-pool (best false) (last false) (pool false) a r l _ p e h
