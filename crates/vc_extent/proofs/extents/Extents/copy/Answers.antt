use Rattle.vc_base.proofs.Common.{◌≡◌, ◌+◌, ◌≤◌, List, [], ◌++◌, length, get_or, take, drop, set, sym, ap, ◌∙◌, subst, arith, length-set, get_or_default, with_items_is}
use Rattle.vc_seg.specs.Memory.{with_copy_of}
use Rattle.vc_seg.specs.Segment.{Bytes}
use Rattle.vc_extent.specs.Change.{Changes, write}
use Rattle.vc_extent.specs.Tiling.{IsExtentChanged, AreExtents, IsNamed, extent_of, tiling}
use Rattle.vc_extent.proofs.Copies.{copy-changes, source-fits, target-fits}
use Rattle.vc_extent.proofs.Sets.{extents-changed, is-changed}
use Rattle.vc_extent.proofs.WalkStarts.{keeps-write, near-changed}
use Rattle.vc_extent.proofs.extents.Extents.copy.Goals as goal
use Rattle.vc_extent.proofs.extents.Extents.copy.Goals.{After-copy_between}

pub copy_between-requires-clause-from : goal.copy_between-requires-clause-from
copy_between-requires-clause-from c =
    λ d.
    let segs : List Bytes = c.args.self.now.segs.items in
    subst (λ (xs : List Bytes). c.find-source.result.1 + 16 + c.args.len ≤ length (get_or xs c.find-source.result.0 d).bytes) (sym c.deref_mut.ensures.value)
    (source-fits segs c.args.from.0 c.args.to.0 c.find-source.result.0 c.find-target.result.0 c.find-source.result.1 c.find-target.result.1 c.args.len c.find-source.ensures.found c.find-target.ensures.found c.requires.to.busy c.requires.within c.requires.fits d)

pub copy_between-requires-clause-to : goal.copy_between-requires-clause-to
copy_between-requires-clause-to c =
    λ d.
    let segs : List Bytes = c.args.self.now.segs.items in
    subst (λ (xs : List Bytes). c.find-target.result.1 + 16 + c.args.len ≤ length (get_or xs c.find-target.result.0 d).bytes) (sym c.deref_mut.ensures.value)
    (target-fits segs c.args.from.0 c.args.to.0 c.find-source.result.0 c.find-target.result.0 c.find-source.result.1 c.find-target.result.1 c.args.len c.find-source.ensures.found c.find-target.ensures.found c.requires.to.busy c.requires.within c.requires.fits d)

abbrev none : Bytes
none = record { number = 0; bytes = [] }

abbrev target : (c : After-copy_between) → Bytes
target c = get_or c.args.self.now.segs.items c.find-target.result.0 none

abbrev new : (c : After-copy_between) → Bytes
new c = with_copy_of (get_or c.args.self.now.segs.items c.find-source.result.0 none) (c.find-source.result.1 + 16) c.args.len (c.find-target.result.1 + 16) (target c)

change : (c : After-copy_between) → Changes (c.find-target.result.1 + 16) (write 0 (take c.args.len (extent_of (tiling c.args.self.now.segs.items) c.args.from.0).body)) (target c) (new c)
change c = copy-changes c.args.self.now.segs.items c.args.from.0 c.args.to.0 c.find-source.result.0 c.find-target.result.0 c.find-source.result.1 c.find-target.result.1 c.args.len c.find-source.ensures.found c.find-target.ensures.found c.requires.to.busy c.requires.within c.requires.fits none

is : (c : After-copy_between) → target c ≡ get_or c.args.self.now.segs.items c.find-target.result.0 (target c)
is c = get_or_default c.args.self.now.segs.items c.find-target.result.0 none (target c) c.find-target.ensures.found.place.within

made : (c : After-copy_between) → c.copy_between.new.segs ≡ set c.args.self.now.segs.items c.find-target.result.0 (new c)
made c =
    c.copy_between.ensures none
    ∙ ap (λ (xs : List Bytes). set xs c.find-target.result.0 (with_copy_of (get_or xs c.find-source.result.0 none) (c.find-source.result.1 + 16) c.args.len (c.find-target.result.1 + 16) (get_or xs c.find-target.result.0 none))) c.deref_mut.ensures.value

items : (c : After-copy_between) → take c.args.self.now.segs.len (c.copy_between.new.segs ++ drop (length c.copy_between.new.segs) c.args.self.now.segs.items) ≡ set c.args.self.now.segs.items c.find-target.result.0 (new c)
items c = with_items_is c.args.self.now.segs c.copy_between.new.segs (ap length (made c) ∙ (length-set c.args.self.now.segs.items c.find-target.result.0 (new c) ∙ omega (arith, c.args.self.now.segs.ok))) ∙ made c

pub invariant_of-self : goal.invariant_of-self
invariant_of-self c =
    let h = (goal.at.invariant_of-self c).After-copy_between in
    record {
      kept =
          subst (λ (xs : List Bytes). ∥ AreExtents xs c.args.self.now.index.items ∥₁) (sym (items h))
          (extents-changed c.find-target.ensures.found (is h) (change h) c.args.self.now.index.items c.args.self.now.kept);
      reserved = c.args.self.now.reserved;
      named = λ some.
          subst (λ (xs : List Bytes). IsNamed (tiling xs) c.args.self.now.near.0) (sym (items h))
          (near-changed c.find-target.ensures.found (is h) (change h) c.args.self.now.near.0 (keeps-write 0 (take c.args.len (extent_of (tiling c.args.self.now.segs.items) c.args.from.0).body)) c.args.self.now.named some);
    }

pub returns : goal.returns
returns c =
    let h = (goal.at.returns c).After-copy_between in
    subst (λ (xs : List Bytes). IsExtentChanged c.args.self.now.segs.items xs c.args.to.0 (write 0 (take c.args.len (extent_of (tiling c.args.self.now.segs.items) c.args.from.0).body))) (sym (items h)) (is-changed c.find-target.ensures.found (is h) (change h))
