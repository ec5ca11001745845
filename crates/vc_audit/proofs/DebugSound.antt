-- The user's blocks of a debug region stand at places of their own, in segments with numbers of their own.
use Rattle.vc_base.proofs.Common.{◌≡◌, ℕ, ◌+◌, ◌<◌, ◌≤◌, List, map, length, get_or, sym, ap, ◌∙◌, arith, get_or-map, length-map, place_of, Block, address_of, HaveOwnNumbers, HaveOwnPlaces}
use Rattle.vc_best.specs.Parts.{layout_of}
use Rattle.vc_audit.specs.declared.debug.Debug.{Debug}
use Rattle.vc_audit.specs.DebugParts.{blocks_in, segments_in}
use Rattle.vc_audit.specs.Debug.{user_block, user_place}
use Rattle.vc_audit.proofs.DebugBlocks.{address-user, below-end, none, user_place-next}
use Rattle.vc_audit.proofs.Sound.{own-best, own-numbers}

pub own_places : {I : Type 0} {V : I → Type 0} (d : Debug I V) → HaveOwnPlaces (blocks_in d)
own_places d =
    record {
      distinct = λ i j e lt within same.
          let inside : j < length bs = omega (arith, within, long) in
          let one : address_of (user_block (get_or bs i none)) ≡ address_of (user_block (get_or bs j none)) = sym (ap address_of (it i e (omega (arith, lt, inside)))) ∙ (same ∙ ap address_of (it j e inside)) in
          let down : address_of (get_or bs i none) ≡ address_of (get_or bs j none) = omega (arith, sym (address-user (get_or bs i none)) ∙ (one ∙ address-user (get_or bs j none))) in
          places.distinct i j none lt inside down;
      first = λ i e within.
          let inside : i < length bs = omega (arith, within, long) in
          let here : 1 ≤ (get_or bs i none).seg = places.first i none inside in
          omega (arith, here, ap (λ (b : Block ℕ). b.seg) (it i e inside));
      exact = λ i e within.
          let inside : i < length bs = omega (arith, within, long) in
          let b : Block ℕ = get_or bs i none in
          let low : (place_of (address_of b)).1 + 33 ≤ 33554432 = below-end (layout_of d.best) d.guarded d.best.sound (address_of b) (i, omega (arith, inside, length-map bs (address_of {L = ℕ})), get_or-map address_of bs i none (address_of b) inside) in
          ap (λ (c : Block ℕ). place_of (address_of c)) (it i e inside)
          ∙ (ap place_of (address-user b)
          ∙ (user_place-next (address_of b) low
          ∙ (ap user_place (places.exact i none inside) ∙ sym (ap (λ (c : Block ℕ). (c.seg, c.off)) (it i e inside)))));
    }
  where
    bs : List (Block ℕ)
    bs = (layout_of d.best).blocks

    places : HaveOwnPlaces (layout_of d.best).blocks
    places = own-best (layout_of d.best) d.best.sound

    long : length (map (user_block {L = ℕ}) (layout_of d.best).blocks) ≡ length (layout_of d.best).blocks
    long = length-map (layout_of d.best).blocks (user_block {L = ℕ})

    it : (i : ℕ) (e : Block ℕ) → i < length (layout_of d.best).blocks → get_or (map user_block (layout_of d.best).blocks) i e ≡ user_block (get_or (layout_of d.best).blocks i none)
    it i e lt = get_or-map user_block (layout_of d.best).blocks i none e lt

pub own_numbers : {I : Type 0} {V : I → Type 0} (d : Debug I V) → HaveOwnNumbers (segments_in d)
own_numbers d = own-numbers (layout_of d.best) d.best.sound
