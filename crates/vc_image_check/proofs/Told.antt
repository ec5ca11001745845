-- What is known of the dictionary of numbers that are sound.
use Rattle.vc_base.proofs.Common.{◌≡◌, ℕ, Bool, true, false, ◌||◌, ◌==◌, List, [], ◌∷◌, None, Ordering, Less, Equal, Greater, map, contains, list_any, list_any-append, ordering_reverse, sym, refl, ap, ◌∙◌, subst, true≢false, ne_eqb}
use Rattle.std.specs.Cmp.{IsTotalOrder}
use Rattle.std.specs.Ordering.{is_eq}
use Rattle.std.proofs.lemmas.List.{append-nil}
use Rattle.vc_base.specs.declared.addr.Addr.{Addr}
use Rattle.vc_base.specs.declared.dict_method.DictMethod.{DictMethod}
use Rattle.vc_base.specs.Cells.{Blocks}
use Rattle.vc_base.specs.Methods.{has_table, is_ordered, is_set}
use Rattle.vc_dtdisc.specs.Finds.{find_key, has_key, object_at}
use Rattle.vc_dtdisc.specs.Rules.{AreLawful, Rules}
use Rattle.vc_dtord.specs.Ordered.{in_order}
use Rattle.vc_dict.specs.declared.heads.Heads.{Heads}
use Rattle.vc_dict.specs.Listed.{holders_from}
use Rattle.vc_dict.specs.Parts.{HasNoOtherHeads, dict_by, form_by, heads_at}
use Rattle.vc_dict.proofs.HeadLemmas.{ordered_plain}
use Rattle.vc_dict.proofs.SettledLemmas.{ordered_set}
use Rattle.vc_dtdisc.specs.Objects.{address_of}
use Rattle.vc_objects.specs.Objects.{own_blocks}
use Rattle.vc_objects.specs.Parts.{dictionary_of, object_of}
use Rattle.vc_image_check.specs.Lists.Ascending.{IsAscending, is_against, stand}
use Rattle.vc_image_check.specs.Dicts.Alone.{AreAlone}
use Rattle.vc_image_check.specs.Dicts.Sound.{AreSoundHolders, holders_in, own_in}
use Rattle.vc_image_check.proofs.Owning.{hash-holders, order-holders, order-names}

-- its heads are those numbers
addr-zero : (x : Addr) → x.0 ≡ 0 → record { 0 = 0 } ≡ x
addr-zero x e = ap (λ (z : ℕ). record { 0 = z }) (sym e)

module _ (method : DictMethod) (count : ℕ) (heads : Heads) (h : HasNoOtherHeads method heads) where
  pub heads-back : heads_at (form_by method count heads) ≡ heads
  heads-back = by (has_table method) refl (is_ordered method) refl
    where
      by : (t : Bool) → has_table method ≡ t → (o : Bool) → is_ordered method ≡ o → heads_at (form_by method count heads) ≡ heads
      by true t true o = absurd (true≢false (sym t ∙ ordered_plain method o))
      by true t false o = rw t (ap (λ (z : Addr). record { first = heads.first; last = heads.last; table = heads.table; root = z; slots = heads.slots }) (addr-zero heads.root (h.root o)))
      by false t true o =
          let ends = h.ends o in
          let none = h.table t in
          let first = addr-zero heads.first ends.first in
          let last = addr-zero heads.last ends.last in
          let table = addr-zero heads.table none.table in
          rw (t, o)
          (ap (λ (z : Addr). record { first = z; last = record { 0 = 0 }; table = record { 0 = 0 }; root = heads.root; slots = 0 }) first
          ∙ ap (λ (z : Addr). record { first = heads.first; last = z; table = record { 0 = 0 }; root = heads.root; slots = 0 }) last
          ∙ ap (λ (z : Addr). record { first = heads.first; last = heads.last; table = z; root = heads.root; slots = 0 }) table
          ∙ ap (λ (z : ℕ). record { first = heads.first; last = heads.last; table = heads.table; root = heads.root; slots = z }) (sym none.slots))
      by false t false o =
          let none = h.table t in
          let table = addr-zero heads.table none.table in
          let root = addr-zero heads.root (h.root o) in
          rw (t, o)
          (ap (λ (z : Addr). record { first = heads.first; last = heads.last; table = z; root = record { 0 = 0 }; slots = 0 }) table
          ∙ ap (λ (z : Addr). record { first = heads.first; last = heads.last; table = heads.table; root = z; slots = 0 }) root
          ∙ ap (λ (z : ℕ). record { first = heads.first; last = heads.last; table = heads.table; root = heads.root; slots = z }) (sym none.slots))

-- ascending holders of which none are equal are alone
module _ (rules : Rules) (order : IsTotalOrder rules.compare) (b : Blocks) where
  is-equal : (o : Ordering) → is_eq o ≡ true → o ≡ Equal
  is-equal Less e = absurd (true≢false (sym e))
  is-equal Equal e = refl
  is-equal Greater e = absurd (true≢false (sym e))

  none-found : (x : ℕ) (xs : List ℕ) → list_any (λ y. is_against true (stand rules b x y)) xs ≡ false → find_key rules b (rules.key (object_at b x)) xs ≡ None
  none-found x [] h = refl
  none-found x (y ∷ ys) h = by (is_against true (stand rules b x y)) refl (has_key rules b (rules.key (object_at b x)) y) refl (λ k. none-found x ys k)
    where
      by : (s : Bool) → is_against true (stand rules b x y) ≡ s → (t : Bool) → has_key rules b (rules.key (object_at b x)) y ≡ t
          → (list_any (λ z. is_against true (stand rules b x z)) ys ≡ false → find_key rules b (rules.key (object_at b x)) ys ≡ None)
          → find_key rules b (rules.key (object_at b x)) (y ∷ ys) ≡ None
      by true e t f r = absurd (true≢false (rw e at h))
      by false e true f r =
          let kx = rules.key (object_at b x) in
          let ky = rules.key (object_at b y) in
          let turned : stand rules b x y ≡ Equal = order.antisymm kx ky ∙ ap ordering_reverse (is-equal (rules.compare ky kx) f) in
          absurd (true≢false (sym (ap (is_against true) turned) ∙ e))
      by false e false f r = rw f (r (rw e at h))

  ascending-alone : (xs : List ℕ) → IsAscending rules b true xs → AreAlone rules b xs
  ascending-alone [] h = tt
  ascending-alone (x ∷ xs) h = (none-found x xs h.0, ascending-alone xs h.1)

pub set-alone : (method : DictMethod) (rules : Rules) (b : Blocks) (count : ℕ) (heads : Heads) → AreLawful rules → is_set method ≡ true → AreSoundHolders method rules b count heads → AreAlone rules b (holders_in method b count heads)
set-alone method rules b count heads lawful set h = by (has_table method) refl
  where
    by : (t : Bool) → has_table method ≡ t → AreAlone rules b (holders_in method b count heads)
    by true t = subst (AreAlone rules b) (sym (hash-holders method b count heads t)) ((h.hash t).lone set)
    by false t =
        let o = ordered_set method t set in
        let s = h.order o in
        subst (AreAlone rules b) (sym (order-holders method b count heads o ∙ order-names rules b (is_set method) count heads s))
        (ascending-alone rules lawful.order b s.names (subst (λ z. IsAscending rules b z s.names) set s.ascending))

-- its blocks are these
at-objects : (b : Blocks) (xs : List ℕ) → map address_of (map (object_of b) xs) ≡ xs
at-objects b [] = refl
at-objects b (x ∷ xs) = ap (λ ys. x ∷ ys) (at-objects b xs)

swapped : (s t : Bool) → (s || t) ≡ (t || (s || false))
swapped true true = refl
swapped true false = refl
swapped false true = refl
swapped false false = refl

pub own-told : (method : DictMethod) (rules : Rules) (b : Blocks) (kind count : ℕ) (current : Addr) (heads : Heads) → AreSoundHolders method rules b count heads
    → (a : ℕ) → contains (own_blocks (dictionary_of (dict_by method kind count current heads) b)) a ≡ contains (own_in method b count heads) a
own-told method rules b kind count current heads h a = by (has_table method) refl (is_ordered method) refl
  where
    by : (t : Bool) → has_table method ≡ t → (o : Bool) → is_ordered method ≡ o → contains (own_blocks (dictionary_of (dict_by method kind count current heads) b)) a ≡ contains (own_in method b count heads) a
    by true t o e =
        let some = (h.hash t).table.some in
        rw (t, ne_eqb heads.table.0 0 some) (ap (λ ys. contains (heads.table.0 ∷ ys) a) (at-objects b (holders_from b count heads.first.0))
        ∙ swapped (heads.table.0 == a) (contains (holders_from b count heads.first.0) a)
        ∙ sym (list_any-append (λ z. z == a) (holders_from b count heads.first.0) (heads.table.0 ∷ [])))
    by false t true o = rw (t, o) (ap (λ ys. contains ys a) (at-objects b (in_order b count heads.root.0) ∙ sym (append-nil (in_order b count heads.root.0))))
    by false t false o = rw (t, o) (ap (λ ys. contains ys a) (at-objects b (holders_from b count heads.first.0) ∙ sym (append-nil (holders_from b count heads.first.0))))
