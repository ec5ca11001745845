-- What the calls of a region do to what is seen of it: all but the bytes in its cells.
use Rattle.vc_base.proofs.Common.{◌≡◌, ℕ, ◌≤◌, Bool, false, ◌≢◌, List, take, drop, ℤ, IfOk, Some, None, Ok, Err, Option, Result, option_map, sym, ap, ◌∙◌, subst, arith, none-some, same_Some, place_of, zeros, Discipline, HasOut, Terms, TookBack, Block, without_block, Done, Outcome, Put, HaveOwnPlaces, find_block}
use Rattle.vc_base.specs.declared.addr.Addr.{Addr}
use Rattle.vc_best.specs.Cells.{block_shown}
use Rattle.vc_region.specs.Cells.{region_cells, rest_of}
use Rattle.vc_region.specs.Region.{Region, blocks_of, region_align, region_alloc, region_free, region_need, region_poke, region_resize, region_write, segments_of}
use Rattle.vc_region.specs.Stat.{method_of}
use Rattle.vc_region.proofs.Methods.{align-method, alloc-method, free-method, poke-method, resize-method, write-method}
use Rattle.vc_region.proofs.Rest.{rest-need, rest-segments, rest-write}
use Rattle.vc_region.proofs.RestAnswers.{answers-rest-align, answers-rest-alloc, answers-rest-resize, frees-rest}
use Rattle.vc_best.proofs.RestBlocks.{find_block-zeroed, plain, zeroed-labelled}
use Rattle.vc_region.proofs.RestCells.{free-cells_kept, put-cells_kept, resize-cells_kept, write-cells_kept}
use Rattle.vc_region.proofs.RestFound.{by-blocks, rest-label, rest-own, rest-without, rest-without_both, rest-zeros}
use Rattle.vc_seg.specs.Answer.{Answers, Asks, IsPut, IsRefusal}
use Rattle.vc_seg.specs.OneBlock.{IsBlockKept, IsBlockPut}
use Rattle.vc_seg.specs.declared.fault.RegionFault.{RegionFault}

-- the segments that are out
pub seen-out : (r : Region ℕ) (d : Discipline) → HasOut d (segments_of (rest_of r)) → HasOut d (segments_of r)
seen-out r d out = subst (HasOut d) (rest-segments r) out

-- what a call leaves of the discipline
pub seen-took : (d e : Discipline) (r r' : Region ℕ) → TookBack d e (segments_of r) (segments_of r') → TookBack d e (segments_of (rest_of r)) (segments_of (rest_of r'))
seen-took d e r r' took =
    subst (λ s. TookBack d e s (segments_of (rest_of r'))) (sym (rest-segments r))
    (subst (λ s. TookBack d e (segments_of r) s) (sym (rest-segments r')) took)

pub seen-asks : (result : Result Addr RegionFault) (d e : Discipline) (r r' : Region ℕ) (size align : ℕ) → Asks result d e (segments_of r) (segments_of r') (region_need d.terms r size align) → Asks result d e (segments_of (rest_of r)) (segments_of (rest_of r')) (region_need d.terms (rest_of r) size align)
seen-asks result d e r r' size align asks =
    subst (Asks result d e (segments_of (rest_of r)) (segments_of (rest_of r'))) (sym (rest-need d.terms r size align))
    (subst (λ s. Asks result d e s (segments_of (rest_of r')) (region_need d.terms r size align)) (sym (rest-segments r))
    (subst (λ s. Asks result d e (segments_of r) s (region_need d.terms r size align)) (sym (rest-segments r')) asks))

ok-map : (result : Result Addr RegionFault) (P Q : Addr → Type 0) → ((a : Addr) → P a → Q a) → IfOk result P → IfOk result Q
ok-map (Ok a) P Q f p = f a p
ok-map (Err e) P Q f p = tt

-- the method of the region after a call that puts or keeps a block, whatever its answer
answers-method : (call : Bool → Outcome (Put (Region ℕ))) (r r' : Region ℕ) → ((a : ℕ) → IsPut (call false) a r' → method_of r' ≡ method_of r) → (result : Result Addr RegionFault) → Answers call result r r' → method_of r' ≡ method_of r
answers-method call r r' put (Ok a) answers = put a.0 answers
answers-method call r r' put (Err why) answers = ap (λ q. method_of q) answers.1

-- and its cells
answers-cells : (call : Bool → Outcome (Put (Region ℕ))) (r r' : Region ℕ) (P Q : Addr → Type 0) → ((a : Addr) → P a → Q a → region_cells r' ≡ region_cells r) → (result : Result Addr RegionFault) → Answers call result r r' → IfOk result P → IfOk result Q → region_cells r' ≡ region_cells r
answers-cells call r r' P Q put (Ok a) answers p q = put a p q
answers-cells call r r' P Q put (Err why) answers p q = ap region_cells answers.1

tagged : (n : ℕ) → 1 ≤ n → n ≢ 0
tagged n first = λ e. absurd (omega (arith, first, e))

-- a block that is put, with a tag, and the regions before it and after it
pub record SeenPut (called : Bool → Outcome (Put (Region ℕ))) (result : Result Addr RegionFault) (r r' : Region ℕ) (tag size : ℕ) : Type 0 where
  pub answer : Answers called result (rest_of r) (rest_of r')
  pub there : IfOk result (λ a. find_block (place_of a.0) (blocks_of (rest_of r')) ≡ Some (zeros tag size (place_of a.0)))
  pub others : IfOk result (λ a. without_block (place_of a.0) (blocks_of (rest_of r')) ≡ blocks_of (rest_of r))
  pub places : HaveOwnPlaces (blocks_of (rest_of r'))
  pub cells : region_cells r' ≡ region_cells r

module _ (terms : Terms) (r r' : Region ℕ) (tag : ℕ) (site : List ℕ) (size : ℕ) (result : Result Addr RegionFault) (first : 1 ≤ tag) (put : IfOk result (λ a. IsBlockPut tag size a.0 (blocks_of r) (blocks_of r'))) (places : HaveOwnPlaces (blocks_of r')) where
  there : IfOk result (λ a. find_block (place_of a.0) (blocks_of r') ≡ Some (zeros tag size (place_of a.0)))
  there = ok-map result _ _ (λ a is. is.there) put

  others : IfOk result (λ a. without_block (place_of a.0) (blocks_of r') ≡ blocks_of r)
  others = ok-map result _ _ (λ a is. is.others) put

  zeros-there : IfOk result (λ a. find_block (place_of a.0) (blocks_of (rest_of r')) ≡ Some (zeros tag size (place_of a.0)))
  zeros-there = ok-map result _ _ (λ a. rest-zeros r' (place_of a.0) (place_of a.0) tag size) there

  pub seen-alloc : Answers (region_alloc terms r tag site size) result r r' → SeenPut (region_alloc terms (rest_of r) tag site size) result r r' tag size
  seen-alloc answer =
      let method = answers-method (region_alloc terms r tag site size) r r' (λ a. alloc-method terms r tag site size false a r') result answer in
      record {
        answer = answers-rest-alloc terms r r' tag site size result answer;
        there = zeros-there;
        others = ok-map result _ _ (λ a. rest-without r r' method (place_of a.0)) others;
        places = rest-own r' places;
        cells = answers-cells (region_alloc terms r tag site size) r r' _ _ (λ a. put-cells_kept r r' method a.0 tag size (tagged tag first) places) result answer there others;
      }

  pub seen-align : (align : ℕ) → Answers (region_align terms r tag site size align) result r r' → SeenPut (region_align terms (rest_of r) tag site size align) result r r' tag size
  seen-align align answer =
      let method = answers-method (region_align terms r tag site size align) r r' (λ a. align-method terms r tag site size align false a r') result answer in
      record {
        answer = answers-rest-align terms r r' tag site size align result answer;
        there = zeros-there;
        others = ok-map result _ _ (λ a. rest-without r r' method (place_of a.0)) others;
        places = rest-own r' places;
        cells = answers-cells (region_align terms r tag site size align) r r' _ _ (λ a. put-cells_kept r r' method a.0 tag size (tagged tag first) places) result answer there others;
      }

found-plain : (o : Option (Block ℕ)) (b : Block ℕ) → b.label ≢ 0 → option_map block_shown o ≡ Some b → o ≡ Some b
found-plain None b labelled e = absurd (none-some b e)
found-plain (Some c) b labelled e =
    let same : block_shown c ≡ b = same_Some (block_shown c) b e in
    let label : c.label ≡ b.label = ap (λ (d : Block ℕ). d.label) same in
    ap (λ d. Some d) (sym (zeroed-labelled c (plain c (λ z. labelled (sym label ∙ z)))) ∙ same)

-- what is done with a block that has a tag
module _ (r : Region ℕ) (a : ℕ) (b : Block ℕ) (found : find_block (place_of a) (blocks_of (rest_of r)) ≡ Some b) (first : 1 ≤ b.label) where
  abbrev p : ℕ × ℕ
  p = place_of a

  pub seen-found : find_block p (blocks_of r) ≡ Some b
  seen-found =
      by-blocks (λ bs cs. find_block p bs ≡ Some b → find_block p cs ≡ Some b) r
      (λ bs e. found-plain (find_block p bs) b (tagged b.label first) (sym (find_block-zeroed p bs) ∙ e)) (λ bs e. e) found

  label-found : option_map (λ (c : Block ℕ). c.label) (find_block p (blocks_of r)) ≡ Some b.label
  label-found = ap (option_map (λ (c : Block ℕ). c.label)) seen-found

  -- it gets another size
  pub record SeenMoved (terms : Terms) (size : ℕ) (may_move : Bool) (result : Result Addr RegionFault) (r' : Region ℕ) : Type 0 where
    pub answer : Answers (region_resize terms (rest_of r) p size may_move) result (rest_of r) (rest_of r')
    pub there : IfOk result (λ to. option_map (λ b. b.label) (find_block (place_of to.0) (blocks_of (rest_of r'))) ≡ option_map (λ b. b.label) (find_block p (blocks_of (rest_of r))))
    pub others : IfOk result (λ to. without_block (place_of to.0) (blocks_of (rest_of r')) ≡ without_block p (blocks_of (rest_of r)))
    pub places : HaveOwnPlaces (blocks_of (rest_of r'))
    pub cells : region_cells r' ≡ region_cells r

  pub seen-resize :
      (terms : Terms) (size : ℕ) (may_move : Bool) (result : Result Addr RegionFault) (r' : Region ℕ) → Answers (region_resize terms r p size may_move) result r r'
      → IfOk result (λ to. IsBlockKept a to.0 (blocks_of r) (blocks_of r'))
      → HaveOwnPlaces (blocks_of r) → HaveOwnPlaces (blocks_of r') → SeenMoved terms size may_move result r'
  seen-resize terms size may_move result r' answer kept own places =
      let there : IfOk result (λ to. option_map (λ b. b.label) (find_block (place_of to.0) (blocks_of r')) ≡ option_map (λ b. b.label) (find_block p (blocks_of r))) = ok-map result _ _ (λ to is. is.label) kept in
      let others : IfOk result (λ to. without_block (place_of to.0) (blocks_of r') ≡ without_block p (blocks_of r)) = ok-map result _ _ (λ to is. is.others) kept in
      let method = answers-method (region_resize terms r p size may_move) r r' (λ to. resize-method terms r p size may_move false to r') result answer in
      record {
        answer = answers-rest-resize terms r r' p size may_move b seen-found (tagged b.label first) result there answer;
        there = ok-map result _ _ (λ to e. rest-label r' (place_of to.0) ∙ (e ∙ sym (rest-label r p))) there;
        others = ok-map result _ _ (λ to. rest-without_both r r' method (place_of to.0) p) others;
        places = rest-own r' places;
        cells = answers-cells (region_resize terms r p size may_move) r r' _ _ (λ to. resize-cells_kept r r' method a to.0 b.label (tagged b.label first) own places label-found) result answer there others;
      }

  -- it is freed
  pub seen-freed : (r' : Region ℕ) → region_free r p ≡ Done r' → region_free (rest_of r) p ≡ Done (rest_of r')
  seen-freed r' done = frees-rest r r' p (Ok tt) done

  pub seen-kept : (fault : RegionFault) (r' : Region ℕ) → IsRefusal (λ (refused : Bool). region_free r p) fault → r' ≡ r → IsRefusal (λ (refused : Bool). region_free (rest_of r) p) fault × (rest_of r' ≡ rest_of r)
  seen-kept fault r' refusal same = frees-rest r r' p (Err fault) (refusal, same)

  pub seen-left : (r' : Region ℕ) → region_free r p ≡ Done r' → blocks_of r' ≡ without_block p (blocks_of r) → blocks_of (rest_of r') ≡ without_block p (blocks_of (rest_of r))
  seen-left r' done left = sym (rest-without r' r (sym (free-method r r' p done)) p (sym left))

  pub cells-freed : (r' : Region ℕ) → HaveOwnPlaces (blocks_of r) → region_free r p ≡ Done r' → region_cells r' ≡ region_cells r
  cells-freed r' own done = free-cells_kept r r' a b.label (tagged b.label first) own label-found done

  -- its bytes are read and written
  pub seen-bytes : (off len : ℕ) → option_map (λ b. take len (drop off b.bytes)) (find_block p (blocks_of (rest_of r))) ≡ option_map (λ b. take len (drop off b.bytes)) (find_block p (blocks_of r))
  seen-bytes off len = ap (option_map (λ (c : Block ℕ). take len (drop off c.bytes))) (found ∙ sym seen-found)

  module _ (off : ℕ) (bytes : List ℕ) where
    pub seen-write : rest_of (region_write r p off bytes) ≡ region_write (rest_of r) p off bytes
    seen-write = sym (rest-write r p off bytes b seen-found (tagged b.label first))

    pub seen-written : (r' : Region ℕ) → r' ≡ region_write r p off bytes → without_block p (blocks_of r') ≡ without_block p (blocks_of r) → without_block p (blocks_of (rest_of r')) ≡ without_block p (blocks_of (rest_of r))
    seen-written r' is others = rest-without_both r r' (ap (λ q. method_of q) is ∙ write-method r p off bytes) p p others

    pub cells-written : region_cells (region_write r p off bytes) ≡ region_cells r
    cells-written = write-cells_kept r a off bytes b.label (tagged b.label first) label-found

-- a byte is put into a block or its guards
pub seen-poked : (r : Region ℕ) (p : ℕ × ℕ) (off : ℤ) (byte : ℕ) (r' : Region ℕ) → r' ≡ region_poke r p off byte → without_block p (blocks_of r') ≡ without_block p (blocks_of r) → without_block p (blocks_of (rest_of r')) ≡ without_block p (blocks_of (rest_of r))
seen-poked r p off byte r' is others = rest-without_both r r' (ap (λ q. method_of q) is ∙ poke-method r p off byte) p p others
