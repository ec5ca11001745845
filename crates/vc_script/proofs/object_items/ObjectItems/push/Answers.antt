use Rattle.vc_base.proofs.Common.{◌≡◌, ◌≤◌, ℕ, List, [], ◌∷◌, ◌++◌, length, arith, ap, ap₂, ◌∙◌, sym, subst, length-append}
use Rattle.vc_script.specs.Ends.{AreEnds, slices_by_ends}
use Rattle.vc_script.proofs.EndSteps.{ends-pushed, objects-pushed}
use Rattle.vc_script.proofs.object_items.ObjectItems.push.Goals as goal
use Rattle.vc_script.proofs.object_items.ObjectItems.push.Goals.{After-push_reserved}

-- the end of the new object is put behind the others
ends-are : (c : After-push_reserved) → c.push_reserved.new.self.items ≡ c.self.inside.ends.items ++ length c.extend_from_slice.new.self.items ∷ []
ends-are c =
    c.push_reserved.ensures.items
    ∙ ap₂ (λ (es : List ℕ) (n : ℕ). es ++ n ∷ []) c.reserve.ensures.items (c.len.ensures ∙ c.extend_from_slice.new.self.ok.0)

pub invariant_of-self-2 : goal.invariant_of-self-2
invariant_of-self-2 c =
    let more = length c.extend_from_slice.new.self.items in
    let grown : length c.self.inside.bytes.items ≤ more =
    omega (arith, ap length c.in_ok-extend_from_slice.ensures.items, length-append c.self.inside.bytes.items c.args.object.now) in
    subst (AreEnds 0 more) (sym (ends-are c)) (ends-pushed 0 (length c.self.inside.bytes.items) more c.self.inside.ends.items c.self.invariant grown)

pub returns-clause-pushed : goal.returns-clause-pushed
returns-clause-pushed c =
    let old = c.self.inside.bytes.items in
    ap (slices_by_ends 0 c.extend_from_slice.new.self.items) (ends-are c)
    ∙ ap (λ (bs : List ℕ). slices_by_ends 0 bs (c.self.inside.ends.items ++ length bs ∷ [])) c.in_ok-extend_from_slice.ensures.items
    ∙ objects-pushed 0 old c.args.object.now c.self.inside.ends.items c.self.invariant
    ∙ ap (λ o. o ++ c.args.object.now ∷ []) c.self.view_is
