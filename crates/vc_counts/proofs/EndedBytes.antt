-- What emptying, turning or ending a dictionary does to the bytes of its region's blocks: as much as to its own.
use Rattle.vc_base.proofs.Common.{◌≡◌, ℕ, ◌+◌, false, List, [], ◌∷◌, map, ◌==◌, Some, None, Option, sym, ap, ◌∙◌, arith, eqb-false, or_parts, sum-map, sum_by-cons, AreDistinct, contains, Layout}
use Rattle.vc_dtdisc.specs.Objects.{Object, address_of}
use Rattle.vc_objects.specs.Insert.{layout_without}
use Rattle.vc_objects.specs.Objects.{Dictionary, Table, holder_size, table_size}
use Rattle.vc_objects.specs.Remove.{without_objects, freed_all, region_without}
use Rattle.vc_counts.specs.Working.{dict_bytes, holders_bytes}
use Rattle.vc_counts.proofs.DictBytes.{AreHeld, HasTable, IsBeside, IsSeated, bytes_in, table-gone}
use Rattle.vc_counts.proofs.BlockSizes.{bytes-without, sized-left}

pub holders-cons : (o : Object) (os : List Object) → holders_bytes (o ∷ os) ≡ holder_size o.bytes + holders_bytes os
holders-cons o os =
    let size : Object → ℕ = λ x. holder_size x.bytes in
    sum-map size (o ∷ os) ∙ (sum_by-cons size o os ∙ ap (λ n. size o + n) (sym (sum-map size os)))

module _ {L : Type 0} where
  -- one of another address goes
  held-left : (r : Layout L) (a : ℕ) (os : List Object) → contains (map address_of os) a ≡ false → AreHeld r os → AreHeld (layout_without r a) os
  held-left r a [] none held = tt
  held-left r a (o ∷ os) none held =
      let parts = or_parts (o.at == a) (contains (map address_of os) a) none in
      (sized-left o.at (holder_size o.bytes) a (eqb-false o.at a parts.0) r.blocks held.0, held-left r a os parts.1 held.1)

  -- and so do all
  pub holders-gone : (r : Layout L) (os : List Object) → AreHeld r os → AreDistinct (map address_of os) → bytes_in (freed_all r os) + holders_bytes os ≡ bytes_in r
  holders-gone r [] held distinct = omega arith
  holders-gone r (o ∷ os) held distinct =
      omega (arith, bytes-without o.at (holder_size o.bytes) r.blocks held.0, holders-gone (layout_without r o.at) os (held-left r o.at os distinct.0 held.1) distinct.1, holders-cons o os)

  -- a table of another address stays
  pub table-left : (r : Layout L) (os : List Object) (table : Option Table) → HasTable r table → IsBeside table os → HasTable (freed_all r os) table
  table-left r os None has beside = tt
  table-left r [] (Some t) has beside = has
  table-left r (o ∷ os) (Some t) has beside =
      let parts = or_parts (o.at == t.at) (contains (map address_of os) t.at) beside in
      table-left (layout_without r o.at) os (Some t) (sized-left t.at (table_size t.slots) o.at (λ e. eqb-false o.at t.at parts.0 (sym e)) r.blocks has) parts.1

  -- all objects of a dictionary go, and its table too
  module _ (r : Layout L) (d : Dictionary) (seated : IsSeated r d) where
    pub emptied-bytes : bytes_in (freed_all r d.objects) + dict_bytes d ≡ bytes_in r + dict_bytes (without_objects d)
    emptied-bytes = omega (arith, holders-gone r d.objects seated.objects seated.distinct)

    pub ended-bytes : bytes_in (region_without r d) + dict_bytes d ≡ bytes_in r
    ended-bytes =
        omega (arith, holders-gone r d.objects seated.objects seated.distinct, table-gone (freed_all r d.objects) d.table (table-left r d.objects d.table seated.table seated.beside))
