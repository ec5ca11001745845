-- A resize of the block of a name in an open region, by what it leaves but for the bytes in cells.
use Rattle.vc_base.proofs.Common.{ℕ, Bool, List, IfOk, Result, place_of, Discipline, HasOut}
use Rattle.vc_base.specs.declared.addr.Addr.{Addr}
use Rattle.vc_region.specs.Cells.{cells_in, rest_in}
use Rattle.vc_region.specs.Parts.{disc_in, region_of}
use Rattle.vc_region.specs.Region.{blocks_of, region_need, region_resize, segments_of}
use Rattle.vc_region.specs.declared.region.Region.{Region as Open}
use Rattle.vc_region.proofs.Sound.{own_places}
use Rattle.vc_seg.specs.Answer.{Answers, Asks}
use Rattle.vc_seg.specs.OneBlock.{IsBlockKept}
use Rattle.vc_seg.specs.declared.fault.RegionFault.{RegionFault}
use Rattle.vc_commands.specs.Held.{HasName, Held, IsChange, AreLabelsOf}
use Rattle.vc_commands.specs.declared.region.labels.Labels.{Labels}
use Rattle.vc_commands.proofs.Answers.{asks-kept, asks-out, changed-by}
use Rattle.vc_commands.proofs.FoundBlocks.{TheBlock, the_block}
use Rattle.vc_commands.proofs.Seen.{SeenMoved, seen-asks, seen-resize}

module _ {I : Type 0} {V : I → Type 0} (meaning : (x : I) × V x → Discipline) (was is : Open I V) {labels : Labels} {x : List ℕ} {addr : Addr} (has : HasName (rest_in was) labels x addr) (size : ℕ) (may_move : Bool) (result : Result Addr RegionFault) where
  abbrev b : TheBlock (rest_in was) labels x has.tag addr.0
  b = the_block has

  abbrev disc : Discipline
  disc = disc_in meaning was

  abbrev need : ℕ
  need = region_need disc.terms (rest_in was) size 32

  pub record Resizes : Type 0 where
    pub answer : Answers (region_resize disc.terms (region_of was) (place_of addr.0) size may_move) result (region_of was) (region_of is)
    pub asks : Asks result disc (disc_in meaning is) (segments_of (region_of was)) (segments_of (region_of is)) (region_need disc.terms (region_of was) size 32)
    pub kept : IfOk result (λ to. IsBlockKept addr.0 to.0 (blocks_of (region_of was)) (blocks_of (region_of is)))

  module _ (resizes : Resizes) where
    pub seen : SeenMoved (region_of was) addr.0 b.block b.found b.first disc.terms size may_move result (region_of is)
    seen = seen-resize (region_of was) addr.0 b.block b.found b.first disc.terms size may_move result (region_of is) resizes.answer resizes.kept (own_places was) (own_places is)

    pub asks : Asks result disc (disc_in meaning is) (segments_of (rest_in was)) (segments_of (rest_in is)) need
    asks = seen-asks result disc (disc_in meaning is) (region_of was) (region_of is) size 32 resizes.asks

    -- with the names that are left of it
    pub resized-change : (name : List ℕ) (place : ℕ) (new : Labels) → HasOut disc (segments_of (rest_in was)) → AreLabelsOf (rest_in is) new
        → IsChange (record { name = name; place = place; disc = disc; region = rest_in was; cells = cells_in was; labels = labels }) (record { name = name; place = place; disc = disc_in meaning is; region = rest_in is; cells = cells_in is; labels = new })
    resized-change name place new lent names =
        let h : Held = record { name = name; place = place; disc = disc; region = rest_in was; cells = cells_in was; labels = labels } in
        changed-by h (disc_in meaning is) (rest_in is) (cells_in is) new seen.cells lent
        (asks-kept result disc (disc_in meaning is) (segments_of (rest_in was)) (segments_of (rest_in is)) need asks)
        (asks-out (region_resize disc.terms (rest_in was) (place_of addr.0) size may_move) (rest_in was) (rest_in is) disc (disc_in meaning is) need result seen.answer asks) names
