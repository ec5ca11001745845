-- What a call answers, a region answers too that shows zeros for the bytes of its unlabelled blocks.
use Rattle.vc_base.proofs.Common.{◌≡◌, ℕ, Bool, false, ◌≢◌, List, IfOk, Some, Ok, Err, Option, Result, option_map, sym, ap, ◌∙◌, subst, place_of, Terms, Block, Done, Fault, Put, Refused, done_as, outcome_as, find_block}
use Rattle.vc_base.specs.declared.addr.Addr.{Addr}
use Rattle.vc_seg.specs.Answer.{Answers, Frees, IsPut}
use Rattle.vc_seg.specs.declared.fault.RegionFault.{RegionFault}
use Rattle.vc_best.proofs.RestAlloc.{answers-as, put-as, refusal-kept}
use Rattle.vc_region.specs.Cells.{rest_of}
use Rattle.vc_region.specs.Region.{Region, blocks_of, region_align, region_alloc, region_free, region_resize}
use Rattle.vc_region.proofs.Rest.{rest-align, rest-alloc, rest-free}
use Rattle.vc_region.proofs.RestResize.{rest-resize}

-- the answer of a call that puts or keeps a block
pub answers-rest-alloc : (terms : Terms) (r r' : Region ℕ) (tag : ℕ) (site : List ℕ) (size : ℕ) (result : Result Addr RegionFault) → Answers (region_alloc terms r tag site size) result r r' → Answers (region_alloc terms (rest_of r) tag site size) result (rest_of r) (rest_of r')
answers-rest-alloc terms r r' tag site size result is =
    answers-as rest_of (region_alloc terms r tag site size) (region_alloc terms (rest_of r) tag site size) result r r' (λ refused. rest-alloc terms r tag site size refused) is

pub answers-rest-align : (terms : Terms) (r r' : Region ℕ) (tag : ℕ) (site : List ℕ) (size align : ℕ) (result : Result Addr RegionFault) → Answers (region_align terms r tag site size align) result r r' → Answers (region_align terms (rest_of r) tag site size align) result (rest_of r) (rest_of r')
answers-rest-align terms r r' tag site size align result is =
    answers-as rest_of (region_align terms r tag site size align) (region_align terms (rest_of r) tag site size align) result r r' (λ refused. rest-align terms r tag site size align refused) is

-- of a call that frees one
pub frees-rest : (r r' : Region ℕ) (at : ℕ × ℕ) (result : Result Unit RegionFault) → Frees (region_free r at) result r r' → Frees (region_free (rest_of r) at) result (rest_of r) (rest_of r')
frees-rest r r' at (Ok done) is = rest-free r at ∙ ap (done_as rest_of) is
frees-rest r r' at (Err why) is =
    (refusal-kept (λ refused. region_free r at) (λ refused. region_free (rest_of r) at) (λ refused fault e. rest-free r at ∙ ap (done_as rest_of) e) why is.0, ap rest_of is.1)

-- of one that gives a labelled block another size, which is then found where it is
module _ (terms : Terms) (r r' : Region ℕ) (at : ℕ × ℕ) (size : ℕ) (may_move : Bool) (b : Block ℕ) (found : find_block at (blocks_of r) ≡ Some b) (labelled : b.label ≢ 0) where
  pub answers-rest-resize : (result : Result Addr RegionFault) → IfOk result (λ to. option_map (λ c. c.label) (find_block (place_of to.0) (blocks_of r')) ≡ option_map (λ c. c.label) (find_block at (blocks_of r))) → Answers (region_resize terms r at size may_move) result r r' → Answers (region_resize terms (rest_of r) at size may_move) result (rest_of r) (rest_of r')
  answers-rest-resize (Ok a) there is =
      let label : ℕ × ℕ → Region ℕ → Option ℕ = λ q s. option_map (λ c. c.label) (find_block q (blocks_of s)) in
      let same = rest-resize terms r at size may_move false b found labelled
      (λ p e.
      let put : IsPut (Done p) a.0 r' = subst (λ o. IsPut o a.0 r') e is in
      ap (λ q. label q p.region) put.1 ∙ (ap (label (place_of a.0)) (sym put.2) ∙ (there ∙ ap (option_map (λ (c : Block ℕ). c.label)) found))) in
      subst (λ o. IsPut o a.0 (rest_of r')) (sym same) (put-as rest_of (region_resize terms r at size may_move false) a.0 r' is)
  answers-rest-resize (Err why) there is = (
    refusal-kept (region_resize terms r at size may_move) (region_resize terms (rest_of r) at size may_move)
        (λ refused fault e. rest-resize terms r at size may_move refused b found labelled (λ p d. absurd (refused-done fault p (sym e ∙ d))) ∙ ap (outcome_as rest_of) e)
        why is.0,
    ap rest_of is.1,
  )
    where
      refused-done : (fault : Fault) (p : Put (Region ℕ)) → Refused fault ≡ Done p → ⊥
      refused-done fault p e = cc
