-- What calls leave of a region beside a dictionary's blocks, one after another.
use Rattle.vc_base.proofs.Common.{◌≡◌, ℕ, true, false, List, IsSome, Some, None, Err, Option, sym, refl, ap, ◌∙◌, subst, ⊎_elim, true≢false, arith, cases_Bool, Blocks, contains, Discipline, HasOut, Served}
use Rattle.vc_model.proofs.Keeping.{Kept-same, Kept-trans}
use Rattle.vc_seg.proofs.Nothing.{nothing-out}
use Rattle.vc_seg.specs.Answer.{Asks}
use Rattle.vc_seg.specs.declared.fault.RegionFault.{RegionFault}
use Rattle.vc_seg.specs.declared.fault.RegionFault.TheVariants as code
use Rattle.vc_dtdisc.specs.Rules.{Rules}
use Rattle.vc_dict.specs.declared.dict.Dict.{Dict}
use Rattle.vc_best.specs.CellLaws.{cells-addresses}
use Rattle.vc_best.specs.Cells.{StaysButCells, cells_in, labelled_blocks, rest_in}
use Rattle.vc_best.specs.Parts.{disc_in, segments_in}
use Rattle.vc_best.specs.declared.best.Best.{Best}
use Rattle.vc_best.proofs.CellCalls.{stays-disc, stays-segments}
use Rattle.vc_objects.specs.Leaves.{KeepsDisc, Leaves, LeavesRest}
use Rattle.vc_objects.specs.Objects.{own_blocks}
use Rattle.vc_objects.specs.Parts.{IsWhole, dictionary_in}

-- no cell stands at 0
pub none-at : {I : Type 0} {V : I → Type 0} (r : Best I V) → cells_in r 0 ≡ None
none-at r = none (cells_in r 0) (λ there. let is = (cells-addresses r 0 there).some in omega (arith, is))
  where
    none : (o : Option (List ℕ)) → (IsSome o → ⊥) → o ≡ None
    none None never = refl
    none (Some bytes) never = absurd (never refl)

-- a discipline
pub keeps-same : (d e : Discipline) (s t : List (ℕ × ℕ)) → e ≡ d → t ≡ s → KeepsDisc d e s t
keeps-same d e s t same segments =
    subst (λ c. KeepsDisc d c s t) (sym same) (subst (λ u. KeepsDisc d d s u) (sym segments)
    (record { kept = Kept-same d; out = λ rest is. is }))

pub keeps-trans : (a b c : Discipline) (s t u : List (ℕ × ℕ)) → KeepsDisc a b s t → KeepsDisc b c t u → KeepsDisc a c s u
keeps-trans a b c s t u first second =
    record {
      kept = Kept-trans a b c first.kept second.kept;
      out = λ rest is. second.out rest (first.out rest is);
    }

pub served-keeps : (old new : Discipline) (s t : List (ℕ × ℕ)) (size : ℕ) → Served old new s t size → KeepsDisc old new s t
served-keeps old new s t size served = record { kept = served.kept; out = served.out }

-- the segments that were out are those that are, where they are kept
pub keeps-out : (old new : Discipline) (s t : List (ℕ × ℕ)) → KeepsDisc old new s t → HasOut old s → HasOut new t
keeps-out old new s t keeps lent = (lent.0, keeps.out lent.0 lent.1)

-- where no block was put
pub asked-keeps : (old new : Discipline) (s t : List (ℕ × ℕ)) (size : ℕ) (fault : RegionFault) → t ≡ s → Asks (Err fault) old new s t size → KeepsDisc old new s t
asked-keeps old new s t size code.NoSegment same asked =
    subst (λ u. KeepsDisc old new s u) (sym same) (record { kept = asked.kept; out = λ rest is. asked.out ∙ is })
asked-keeps old new s t size code.OutOfMemory same asked = record { kept = asked.kept; out = nothing-out old new s t same asked }
asked-keeps old new s t size fault same asked = served-keeps old new s t size asked

module _ {I : Type 0} {V : I → Type 0} (meaning : (x : I) × V x → Discipline) where
  -- nothing is done to the cells
  pub leaves-still : (r r' : Best I V) (mine mine' : List ℕ) → KeepsDisc (disc_in meaning r) (disc_in meaning r') (segments_in r) (segments_in r')
      → rest_in r' ≡ rest_in r → cells_in r' ≡ cells_in r → mine' ≡ mine → Leaves meaning r r' mine mine'
  leaves-still r r' mine mine' disc rest cells own = record {
    disc = disc;
    labelled = ap labelled_blocks rest;
    others = λ a _ _. ap (λ (f : Blocks). f a) cells;
    fresh = λ a new old. absurd (true≢false (sym new ∙ (ap (λ xs. contains xs a) own ∙ old)));
  }

  -- nothing is done
  pub leaves-self : (rules : Rules) (r : Best I V) (d : Dict) → IsWhole rules d (cells_in r) → LeavesRest meaning rules r d r d
  leaves-self rules r d whole = record {
    whole = whole;
    kind = refl;
    rest = leaves-still r r (own_blocks (dictionary_in d r)) (own_blocks (dictionary_in d r)) (keeps-same (disc_in meaning r) (disc_in meaning r) (segments_in r) (segments_in r) refl refl) refl refl refl;
  }

  -- one call after another, where the second lets go of nothing that the first took
  pub leaves-trans : (r s t : Best I V) (mine mid mine' : List ℕ) → Leaves meaning r s mine mid → Leaves meaning s t mid mine'
      → ((a : ℕ) → contains mine a ≡ false → contains mine' a ≡ false → contains mid a ≡ false) → Leaves meaning r t mine mine'
  leaves-trans r s t mine mid mine' first second between = record {
    disc = keeps-trans (disc_in meaning r) (disc_in meaning s) (disc_in meaning t) (segments_in r) (segments_in s) (segments_in t) first.disc second.disc;
    labelled = second.labelled ∙ first.labelled;
    others = λ a old new. let here = between a old new in second.others a here new ∙ first.others a old here;
    fresh = λ a new old.
        ⊎_elim
        (λ (within : contains mid a ≡ true). first.fresh a within old)
        (λ (apart : contains mid a ≡ false). sym (first.others a old apart) ∙ second.fresh a new apart)
        (cases_Bool (contains mid a));
  }

  -- a block is put, then only cells are written, and then one goes, or none
  pub leaves-put : (r0 r1 r2 r3 : Best I V) (mine mine' : List ℕ) (size : ℕ) → Served (disc_in meaning r0) (disc_in meaning r1) (segments_in r0) (segments_in r1) size
      → labelled_blocks (rest_in r1) ≡ labelled_blocks (rest_in r0) → StaysButCells r1 r2 → disc_in meaning r3 ≡ disc_in meaning r2 → segments_in r3 ≡ segments_in r2 → labelled_blocks (rest_in r3) ≡ labelled_blocks (rest_in r2)
      → ((a : ℕ) → contains mine a ≡ false → contains mine' a ≡ false → cells_in r3 a ≡ cells_in r0 a)
      → ((a : ℕ) → contains mine' a ≡ true → contains mine a ≡ false → cells_in r0 a ≡ None) → Leaves meaning r0 r3 mine mine'
  leaves-put r0 r1 r2 r3 mine mine' size served kept stays disc segments left others fresh = record {
    disc =
        keeps-trans (disc_in meaning r0) (disc_in meaning r1) (disc_in meaning r3) (segments_in r0) (segments_in r1) (segments_in r3)
        (served-keeps (disc_in meaning r0) (disc_in meaning r1) (segments_in r0) (segments_in r1) size served)
        (keeps-same (disc_in meaning r1) (disc_in meaning r3) (segments_in r1) (segments_in r3) (disc ∙ stays-disc meaning r1 r2 stays) (segments ∙ stays-segments r1 r2 stays));
    labelled = left ∙ (ap labelled_blocks stays.layout ∙ kept);
    others = others;
    fresh = fresh;
  }

  -- the blocks that were the dictionary's, told otherwise
  pub leaves-from : (r r' : Best I V) (mine same mine' : List ℕ) → mine ≡ same → Leaves meaning r r' mine mine' → Leaves meaning r r' same mine'
  leaves-from r r' mine same mine' e leaves = subst (λ xs. Leaves meaning r r' xs mine') e leaves
