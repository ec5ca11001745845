-- The blocks of a sound dictionary: each is there, and none stands twice.
use Rattle.vc_base.proofs.Common.{◌≡◌, ◌≢◌, ℕ, zero, suc, ◌≤◌, if◌then◌else◌, Bool, true, false, List, [], ◌∷◌, ◌++◌, All, Ordering, Less, Equal, Greater, length, AreDistinct, contains, list_any, sym, refl, ap, ◌∙◌, subst, arith, ⊎_elim, true≢false}
use Rattle.std.specs.List.{AllByRecursion}
use Rattle.std.specs.Ordering.{is_gt}
use Rattle.std.proofs.lemmas.List.{append-nil}
use Rattle.std.proofs.lemmas.List.Elements.{All-from_recursion, recursion_from_All}
use Rattle.vc_base.specs.declared.dict_method.DictMethod.{DictMethod}
use Rattle.vc_base.specs.Cells.{Blocks, bytes_at, word_at}
use Rattle.vc_base.specs.Methods.{has_table, is_ordered, is_set}
use Rattle.vc_base.proofs.Members.{apart-cons, within-cases, within-either}
use Rattle.vc_dtdisc.specs.Finds.{object_at}
use Rattle.vc_dtdisc.specs.Objects.{is_greater}
use Rattle.vc_dtdisc.specs.Rules.{Rules}
use Rattle.vc_dthash.specs.Chained.{IsHashed}
use Rattle.vc_dthash.specs.Slots.{IsSlots}
use Rattle.vc_dtlist.specs.Linked.{LinksFor}
use Rattle.vc_dtlist.proofs.AddressLemmas.{AreHolders, LinksFor-holders}
use Rattle.vc_dtlist.proofs.HolderLemmas.{distinct-insert}
use Rattle.vc_dtord.specs.Ordered.{IsPlain, IsSorted, OrdFor, in_order}
use Rattle.vc_dtord.proofs.TreeLemmas.{OrdFor-holders, OrdFor-in_order}
use Rattle.vc_dict.specs.declared.heads.Heads.{Heads}
use Rattle.vc_dict.specs.Listed.{holders_from}
use Rattle.vc_dict.proofs.HeadLemmas.{ordered_plain}
use Rattle.vc_image_check.specs.Lists.Ascending.{IsAscending, is_against, stand}
use Rattle.vc_image_check.specs.Lists.Chained.{IsSoundChain}
use Rattle.vc_image_check.specs.Orders.Sound.{ArePlain, IsSoundOrder}
use Rattle.vc_image_check.specs.Dicts.Alone.{AreHung}
use Rattle.vc_image_check.specs.Dicts.Sound.{AreSoundHolders, holders_in, own_in}
use Rattle.vc_dthash.proofs.HashLemmas.{IsSlots-some}

-- what none of some numbers fails
none-less : (p q : ℕ → Bool) → ((y : ℕ) → q y ≡ true → p y ≡ true) → (ys : List ℕ) → list_any p ys ≡ false → list_any q ys ≡ false
none-less p q w [] h = refl
none-less p q w (y ∷ ys) h = by (p y) refl (q y) refl (λ k. none-less p q w ys k)
  where
    by : (s : Bool) → p y ≡ s → (t : Bool) → q y ≡ t → (list_any p ys ≡ false → list_any q ys ≡ false) → list_any q (y ∷ ys) ≡ false
    by true e t f r = absurd (true≢false (rw e at h))
    by false e true f r = absurd (true≢false (sym (w y f) ∙ e))
    by false e false f r = rw f (r (rw e at h))

module _ (rules : Rules) (b : Blocks) where
  greater-against : (alone : Bool) (o : Ordering) → is_gt o ≡ true → is_against alone o ≡ true
  greater-against alone Less h = absurd (true≢false (sym h))
  greater-against alone Equal h = absurd (true≢false (sym h))
  greater-against alone Greater h = refl

  -- ascending holders are sorted
  ascending-sorted : (alone : Bool) (xs : List ℕ) → IsAscending rules b alone xs → IsSorted rules b xs
  ascending-sorted alone [] h = tt
  ascending-sorted alone (x ∷ xs) h = (
    none-less (λ y. is_against alone (stand rules b x y)) (λ y. is_greater rules (object_at b x) (object_at b y)) (λ y g. greater-against alone (stand rules b x y) g) xs h.0,
    ascending-sorted alone xs h.1,
  )

  plain-all : (xs : List ℕ) → ArePlain b xs → All (IsPlain b) xs
  plain-all xs h = All-from_recursion (IsPlain b) xs (by xs h)
    where
      by : (ys : List ℕ) → ArePlain b ys → AllByRecursion (IsPlain b) ys
      by [] k = tt
      by (y ∷ ys) k = (k.0.plain, by ys k.1)

  -- a sound ordered dictionary stands for its names
  pub order-stands : (alone : Bool) (count : ℕ) (heads : Heads) (h : IsSoundOrder rules b alone count heads.root) → OrdFor rules (record { root = heads.root }) b h.names
  order-stands alone count heads h = record {
    tree = h.tree.tree;
    is_tree = record { top = h.tree.top; stands = h.tree.stands; distinct = subst AreDistinct (sym h.tree.list) h.distinct };
    list = h.tree.list;
    plain = plain-all h.names h.plain;
    sorted = ascending-sorted alone h.names h.ascending;
  }

  pub order-names : (alone : Bool) (count : ℕ) (heads : Heads) (h : IsSoundOrder rules b alone count heads.root) → in_order b count heads.root.0 ≡ h.names
  order-names alone count heads h = let many = h.many in OrdFor-in_order rules (record { root = heads.root }) b h.names count (order-stands alone count heads h) (omega (arith, many))

-- the holders to which heads lead, by the form of a method
pub hash-holders : (method : DictMethod) (b : Blocks) (count : ℕ) (heads : Heads) → has_table method ≡ true → holders_in method b count heads ≡ holders_from b count heads.first.0
hash-holders method b count heads t = rw t refl

pub order-holders : (method : DictMethod) (b : Blocks) (count : ℕ) (heads : Heads) → is_ordered method ≡ true → holders_in method b count heads ≡ in_order b count heads.root.0
order-holders method b count heads o = rw (ordered_plain method o, o) refl

pub list-holders : (method : DictMethod) (b : Blocks) (count : ℕ) (heads : Heads) → has_table method ≡ false → is_ordered method ≡ false → holders_in method b count heads ≡ holders_from b count heads.first.0
list-holders method b count heads t o = rw (t, o) refl

pub order-sound : (method : DictMethod) (rules : Rules) (b : Blocks) (count : ℕ) (heads : Heads) → is_ordered method ≡ true → IsSoundOrder rules b (is_set method) count heads.root → AreSoundHolders method rules b count heads
order-sound method rules b count heads o h = record {
  hash = λ t. absurd (true≢false (sym t ∙ ordered_plain method o));
  order = λ _. h;
  list = λ _ n. absurd (true≢false (sym o ∙ n));
}

links-own : (b : Blocks) (count : ℕ) (heads : Heads) → LinksFor (record { first = heads.first; last = heads.last }) b (holders_from b count heads.first.0) → AreHolders b (holders_from b count heads.first.0)
links-own b count heads l = LinksFor-holders (record { first = heads.first; last = heads.last }) b (holders_from b count heads.first.0) l

pub own-holders : (method : DictMethod) (rules : Rules) (b : Blocks) (count : ℕ) (heads : Heads) → AreSoundHolders method rules b count heads → AreHolders b (holders_in method b count heads)
own-holders method rules b count heads h = by (has_table method) refl (is_ordered method) refl
  where
    by : (t : Bool) → has_table method ≡ t → (o : Bool) → is_ordered method ≡ o → AreHolders b (holders_in method b count heads)
    by true t o e = subst (AreHolders b) (sym (hash-holders method b count heads t)) (links-own b count heads (h.hash t).chain.links)
    by false t true o =
        let s = h.order o in
        subst (AreHolders b) (sym (order-holders method b count heads o ∙ order-names rules b (is_set method) count heads s))
        (OrdFor-holders rules (record { root = heads.root }) b s.names (order-stands rules b (is_set method) count heads s))
    by false t false o = subst (AreHolders b) (sym (list-holders method b count heads t o)) (links-own b count heads (h.list t o).stands.links)

pub not-within : (t : ℕ) (xs : List ℕ) → AllByRecursion (λ a. a ≢ t) xs → contains xs t ≡ false
not-within t [] h = refl
not-within t (x ∷ xs) h = apart-cons x xs t h.0 (not-within t xs h.1)

-- the blocks of a dictionary, its table behind its holders: each has a byte, and none stands twice
pub record AreThere (b : Blocks) (xs : List ℕ) : Type 0 where
  pub bytes : (a : ℕ) → contains xs a ≡ true → 1 ≤ length (bytes_at b a)
  pub distinct : AreDistinct xs

there-plain : (b : Blocks) (xs : List ℕ) → AreHolders b xs → AreThere b xs
there-plain b xs o = record { bytes = λ a w. let l = (o.there a w).enough in omega (arith, l); distinct = o.distinct }

there-more : (b : Blocks) (xs : List ℕ) (t : ℕ) → 1 ≤ length (bytes_at b t) → contains xs t ≡ false → AreThere b xs → AreThere b (xs ++ t ∷ [])
there-more b xs t some none o = record {
  bytes = λ a w.
      ⊎_elim
      (λ (i : contains xs a ≡ true). o.bytes a i)
      (λ (i : contains (t ∷ []) a ≡ true). ⊎_elim (λ (e : t ≡ a). subst (λ z. 1 ≤ length (bytes_at b z)) e some) (λ (e : false ≡ true). absurd (true≢false (sym e))) (within-cases t [] a i))
      (within-either xs (t ∷ []) a w);
  distinct = distinct-insert xs [] t (subst AreDistinct (sym (append-nil xs)) o.distinct) (subst (λ z. contains z t ≡ false) (sym (append-nil xs)) none);
}

pub length-from : (b : Blocks) (n at : ℕ) → length (holders_from b n at) ≡ n
length-from b zero at = refl
length-from b (suc n) at = ap suc (length-from b n (word_at b at 1))

pub each-of : (P : ℕ → Type 0) (xs : List ℕ) → AllByRecursion P xs → (a : ℕ) → contains xs a ≡ true → P a
each-of P [] h a w = absurd (true≢false (sym w))
each-of P (x ∷ xs) h a w =
    ⊎_elim (λ (e : x ≡ a). subst P e h.0) (λ (k : contains xs a ≡ true). each-of P xs h.1 a k) (within-cases x xs a w)

-- a sound set's chains lead through its holders
pub hung-holders : (rules : Rules) (b : Blocks) (count : ℕ) (heads : Heads) → 1 ≤ heads.slots → IsSoundChain rules b count heads.table.0 heads.slots heads.first heads.last → AreHung rules b (holders_from b count heads.first.0)
hung-holders rules b count heads some h =
    let own = links-own b count heads h.links in
    record {
      table = heads.table.0;
      slots = heads.slots;
      some = some;
      chained = h.chains;
      addresses = own.addresses;
      there = own.there;
      hashed = each-of (IsHashed rules b) (holders_from b count heads.first.0) (recursion_from_All (IsHashed rules b) (holders_from b count heads.first.0) h.hashes);
    }

own-tail : (method : DictMethod) (heads : Heads) → has_table method ≡ false → (if has_table method then heads.table.0 ∷ [] else []) ≡ []
own-tail method heads t = rw t refl

own-table : (method : DictMethod) (heads : Heads) → has_table method ≡ true → (if has_table method then heads.table.0 ∷ [] else []) ≡ heads.table.0 ∷ []
own-table method heads t = rw t refl

-- the blocks of a dictionary without a table, and with one
pub own-plain : (method : DictMethod) (b : Blocks) (count : ℕ) (heads : Heads) → has_table method ≡ false → own_in method b count heads ≡ holders_in method b count heads
own-plain method b count heads t = ap (λ z. holders_in method b count heads ++ z) (own-tail method heads t) ∙ append-nil (holders_in method b count heads)

pub own-tabled : (method : DictMethod) (b : Blocks) (count : ℕ) (heads : Heads) → has_table method ≡ true → own_in method b count heads ≡ holders_in method b count heads ++ heads.table.0 ∷ []
own-tabled method b count heads t = ap (λ z. holders_in method b count heads ++ z) (own-table method heads t)

pub own-there : (method : DictMethod) (rules : Rules) (b : Blocks) (count : ℕ) (heads : Heads) → AreSoundHolders method rules b count heads → AreThere b (own_in method b count heads)
own-there method rules b count heads h = by (has_table method) refl
  where
    plain : AreThere b (holders_in method b count heads)
    plain = there-plain b (holders_in method b count heads) (own-holders method rules b count heads h)

    by : (t : Bool) → has_table method ≡ t → AreThere b (own_in method b count heads)
    by true t =
        let s = h.hash t in
        let size = s.table.size in
        let some = IsSlots-some heads.slots s.table.allowed in
        subst (AreThere b) (sym (own-tabled method b count heads t)) (there-more b (holders_in method b count heads) heads.table.0 (omega (arith, size, some))
        (ap (λ z. contains z heads.table.0) (hash-holders method b count heads t)
        ∙ not-within heads.table.0 (holders_from b count heads.first.0) (recursion_from_All (λ a. a ≢ heads.table.0) (holders_from b count heads.first.0) s.chain.apart)) plain)
    by false t = subst (AreThere b) (sym (own-plain method b count heads t)) plain
