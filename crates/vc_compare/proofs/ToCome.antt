-- The lines to come, over the steps of a reader.
use Rattle.vc_base.proofs.Common.{◌≡◌, ℕ, List, [], ◌++◌, Bool, false, Option, Some, None, Ok, IfSome, sym, refl, ap, ◌∙◌, subst}
use Rattle.vc_script.specs.declared.line_fault.LineFault.{LineFault}
use Rattle.vc_script.specs.declared.cutter.Cut.TheVariants as cut
use Rattle.vc_script.specs.Pieces.{FoundLines}
use Rattle.vc_compare.specs.Reading.{CutsLine, GivesNextLine, IsLastLine, LeavesLines, Readied, found_behind, lines_to_come, unread_of}
use Rattle.vc_compare.specs.declared.lines.LineReader.{LineReader}
use Rattle.vc_compare.specs.declared.lines.Next.{Next}
use Rattle.vc_compare.specs.declared.lines.Next.TheVariants.{Line, Last, Bad, End}

pub leaves-start : (r : LineReader) (left : Option (List ℕ)) → IfSome left (λ input. LeavesLines r left (lines_to_come r input))
leaves-start r None = tt
leaves-start r (Some input) = record { rest = input; has = refl; lines = refl }

module _ (now new : LineReader) (same : new.cutter ≡ now.cutter) (mid left : Option (List ℕ)) where
  -- what is readied, of what is left
  readied-of : {some : Bool} (rest : List ℕ) → mid ≡ Some rest → IfSome mid (λ input. Readied some (unread_of now ++ input) new left) → Readied some (unread_of now ++ rest) new left
  readied-of {some} rest has readies = subst (λ o. IfSome o (λ input. Readied some (unread_of now ++ input) new left)) has readies

  found-same : (xs : List ℕ) → found_behind now.cutter xs ≡ found_behind new.cutter xs
  found-same xs = ap (λ c. found_behind c xs) (sym same)

  pub leaves-ready : (some : Bool) (lines : FoundLines) → IfSome mid (λ input. Readied some (unread_of now ++ input) new left) → LeavesLines now mid lines → LeavesLines new left lines
  leaves-ready some lines readies leaves =
      let ready = readied-of leaves.rest leaves.has readies in
      record {
        rest = ready.rest;
        has = ready.has;
        lines = leaves.lines ∙ (found-same (unread_of now ++ leaves.rest) ∙ ap (found_behind new.cutter) ready.split);
      }

  -- nothing is left
  pub leaves-none : (lines : FoundLines) → IfSome mid (λ input. Readied false (unread_of now ++ input) new left) → LeavesLines now mid lines → (lines ≡ found_behind new.cutter []) × (left ≡ Some [])
  leaves-none lines readies leaves =
      let ready = readied-of leaves.rest leaves.has readies in
      let none = ready.none refl in
      (leaves.lines ∙ (found-same (unread_of now ++ leaves.rest) ∙ ap (found_behind new.cutter) none.0), ready.has ∙ ap (λ xs. Some xs) none.1)

module _ (old : LineReader) (told : Option (List ℕ)) where
  abbrev pub Told : LineReader → Option (List ℕ) → Type 0
  Told now left = IfSome told (λ input. LeavesLines now left (lines_to_come old input))

  pub told-ready : (some : Bool) (now new : LineReader) (mid left : Option (List ℕ)) → new.cutter ≡ now.cutter → IfSome mid (λ input. Readied some (unread_of now ++ input) new left) → Told now mid → Told new left
  told-ready some now new mid left same readies = by told where
    by : (o : Option (List ℕ)) → IfSome o (λ input. LeavesLines now mid (lines_to_come old input)) → IfSome o (λ input. LeavesLines new left (lines_to_come old input))
    by None leaves = tt
    by (Some input) leaves = leaves-ready now new same mid left some (lines_to_come old input) readies leaves

  pub told-more : (now new : LineReader) (left : Option (List ℕ)) → CutsLine cut.More now new → Told now left → Told new left
  told-more now new left cuts = by told where
    by : (o : Option (List ℕ)) → IfSome o (λ input. LeavesLines now left (lines_to_come old input)) → IfSome o (λ input. LeavesLines new left (lines_to_come old input))
    by None leaves = tt
    by (Some input) leaves = record { rest = leaves.rest; has = leaves.has; lines = leaves.lines ∙ cuts leaves.rest }

  abbrev pub AllGive : (LineReader → List ℕ → Type 0) → LineReader → Type 0
  AllGive gives new = IfSome told (gives new)

  pub told-line : (now new : LineReader) (left : Option (List ℕ)) → CutsLine cut.Whole now new → Told now left → IfSome told (λ input. GivesNextLine (Ok Line) old new input left)
  told-line now new left cuts = by told where
    by : (o : Option (List ℕ)) → IfSome o (λ input. LeavesLines now left (lines_to_come old input)) → IfSome o (λ input. GivesNextLine (Ok Line) old new input left)
    by None leaves = tt
    by (Some input) leaves =
        (lines_to_come new leaves.rest, (leaves.lines ∙ cuts leaves.rest, record { rest = leaves.rest; has = leaves.has; lines = refl }))

  pub told-bad : (fault : LineFault) (now new : LineReader) (left : Option (List ℕ)) → CutsLine (cut.Bad fault) now new → Told now left → IfSome told (λ input. GivesNextLine (Ok (Bad fault)) old new input left)
  told-bad fault now new left cuts = by told where
    by : (o : Option (List ℕ)) → IfSome o (λ input. LeavesLines now left (lines_to_come old input)) → IfSome o (λ input. GivesNextLine (Ok (Bad fault)) old new input left)
    by None leaves = tt
    by (Some input) leaves = leaves.lines ∙ cuts leaves.rest

  -- the end of the source
  pub told-end : (next : Next) (now ready new : LineReader) (mid left : Option (List ℕ)) → ready.cutter ≡ now.cutter → IfSome mid (λ input. Readied false (unread_of now ++ input) ready left) → IsLastLine next ready new → Told now mid → IfSome told (λ input. GivesNextLine (Ok next) old new input left)
  told-end next now ready new mid left same readies last = by told where
    ends : (k : Next) → IsLastLine k ready new → (lines : FoundLines) → (lines ≡ found_behind ready.cutter []) × (left ≡ Some []) → (input : List ℕ) → lines_to_come old input ≡ lines → GivesNextLine (Ok k) old new input left
    ends Last one lines none input e = (e ∙ (none.0 ∙ one), none.1)
    ends End one lines none input e = (e ∙ (none.0 ∙ one), none.1)
    ends Line one lines none input e = absurd one
    ends (Bad fault) one lines none input e = absurd one

    by : (o : Option (List ℕ)) → IfSome o (λ input. LeavesLines now mid (lines_to_come old input)) → IfSome o (λ input. GivesNextLine (Ok next) old new input left)
    by None leaves = tt
    by (Some input) leaves = ends next last (lines_to_come old input) (leaves-none now ready same mid left (lines_to_come old input) readies leaves) input refl
