use Rattle.vc_base.proofs.Common.{◌≡◌, ℕ, ◌+◌, ◌*◌, ◌<◌, ◌^◌, List, [], ◌∷◌, ◌++◌, Some, map, take, slice_get, sym, ap, ◌∙◌, subst, arith, take_all, AllByRecursion}
use Rattle.std.proofs.lemmas.Grind.{take_at_read}
use Rattle.std.proofs.lemmas.List.{map-append}
use Rattle.std.proofs.lemmas.Option.{get_or_from_slice_get, slice_get_within}
use Rattle.vc_dict.specs.declared.dict.Dict.{Dict}
use Rattle.vc_image_check.specs.Bytes.Contents.{dict_row_at, rows_of_image}
use Rattle.vc_image_check.specs.Bytes.Image.{DictRow}
use Rattle.vc_image_check.proofs.Passing.{length-rows, row-there}
use Rattle.vc_image.specs.Load.{dict_of_row}
use Rattle.vc_image.proofs.dicts.dicts_of_image.Goals as goal

made-more : (rows : List DictRow) (i : ℕ) (r : DictRow) (ds : List Dict) (d : Dict) → slice_get rows i ≡ Some r → ds ≡ map dict_of_row (take i rows) → d ≡ dict_of_row r → ds ++ d ∷ [] ≡ map dict_of_row (take (i + 1) rows)
made-more rows i r ds d e made is =
    let more : take (i + 1) rows ≡ take i rows ++ r ∷ [] = (take_at_read rows i r (slice_get_within rows i r e)).1 ∙ ap (λ z. take i rows ++ z ∷ []) (get_or_from_slice_get rows i r r e) in
    ap (λ xs. xs ++ d ∷ []) made ∙ ap (λ x. map dict_of_row (take i rows) ++ x ∷ []) is ∙ sym (map-append dict_of_row (take i rows) (r ∷ [])) ∙ ap (map dict_of_row) (sym more)

kinds-more : (ds : List Dict) (d : Dict) → AllByRecursion (λ z. z.kind < 2 ^ 32) ds → d.kind < 2 ^ 32 → AllByRecursion (λ z. z.kind < 2 ^ 32) (ds ++ d ∷ [])
kinds-more [] d all last = (last, tt)
kinds-more (x ∷ xs) d all last = (all.0, kinds-more xs d all.1 last)

pub loop-i-preserved : goal.loop-i-preserved
loop-i-preserved c =
    let image = c.args.image.now in
    let i = c.loop-i.i in
    let lt = c.loop-i-test.true in
    let many = c.word-i-end.ensures in
    let there : slice_get (rows_of_image image) i ≡ Some (dict_row_at (20 + 8 * c.word.result + 36 * i) image) =
    row-there image i (omega (arith, lt, many)) ∙ ap (λ z. Some (dict_row_at (20 + 8 * z + 36 * i) image)) (sym c.word.ensures) in
    record {
      made = c.in-Ok.ensures.ok
          ∙ made-more (rows_of_image image) i (dict_row_at (20 + 8 * c.word.result + 36 * i) image) c.loop-i.dicts c.dict_at.result there c.loop-i.invariant.made c.dict_at.ensures.made;
      kinds = subst (λ (ds : List Dict). AllByRecursion (λ d. d.kind < 2 ^ 32) ds) (sym c.in-Ok.ensures.ok) (kinds-more c.loop-i.dicts c.dict_at.result c.loop-i.invariant.kinds c.dict_at.ensures.kind);
    }

pub returns-clause-made : goal.returns-clause-made
returns-clause-made c =
    let rows = rows_of_image c.args.image.now in
    let long = length-rows c.args.image.now in
    let end = c.loop-i-test.false in
    let many = c.word-i-end.ensures in
    c.loop-i.invariant.made ∙ ap (map dict_of_row) (take_all c.loop-i.i rows (omega (arith, long, end, many)))
